-- Where the good units were given bytes, a table holds them all.
use Rattle.std.proofs.Common.{◌≡◌, ℕ, ◌-◌, Bool, true, false, List, [], ◌∷◌, length, slice_get, Option, Some, None}
use Rattle.std.proofs.Common.{IfSome, refl, sym, ap, subst₂, ◌∙◌}
use Rattle.std.proofs.lemmas.Option.{IfSome_then, same_Some}
use Rattle.gob_bytes.specs.Tables.{Table}
use Rattle.gob_device.specs.Disk.{Disk}
use Rattle.gob_device.specs.Supply.{Held}
use Rattle.gob_plan.specs.declared.units.Unit.{Unit as WorkUnit}
use Rattle.gob_plan.specs.declared.units.UnitResult.{UnitResult}
use Rattle.gob_meaning.specs.Job.{Job}
use Rattle.gob_meaning.specs.Results.{verdict_of}
use Rattle.gob_ledger.specs.Expected.{bytes_of_range}
use Rattle.gob_ledger.specs.Marks.{Marks}
use Rattle.gob_ledger.specs.Next.{is_good}
use Rattle.gob_ledger.specs.Spelling.{Proper}
use Rattle.gob_ledger.specs.State.{State}
use Rattle.gob_ledger.specs.Units.{UnitsFit, span_of}
use Rattle.gob_history.specs.Laws.{StagedFor}
use Rattle.gob_state.specs.Committed.{verdict_in}
use Rattle.gob_turns.specs.Taken.{AllGiven, IsGiven, moves_in}
use Rattle.gob_run.specs.Cutting.{parts_of}
use Rattle.gob_run.proofs.Apart.{AreTiled, fit_apart}
use Rattle.gob_run.proofs.Holding.{held_of, holds}

-- the bytes that the table holds of a good unit are as many as its range has, and its verdict and its files are theirs
pub record IsGivenIn (job : Job) (held : Held) (u : WorkUnit) (r : UnitResult) (disk : Option Disk) : Type 0 where
  pub whole : length (bytes_of_range held u.part (span_of u)) ≡ u.hi - u.lo
  pub verdict : verdict_in r ≡ verdict_of job.plan u (bytes_of_range held u.part (span_of u))
  pub staged : IfSome disk (λ d. StagedFor job held ((u, verdict_in r) ∷ []) d.files (moves_in r))

-- so it is of each good unit
abbrev pub AllGivenIn : Job → Held → List WorkUnit → List UnitResult → Option Disk → Type 0
AllGivenIn job held units results disk = (i : ℕ) (u : WorkUnit) (r : UnitResult)
    → slice_get units i ≡ Some u → slice_get results i ≡ Some r → is_good (verdict_in r) ≡ true
    → IsGivenIn job held u r disk

-- the unit was given these bytes
abbrev GivenThese : Job → WorkUnit → UnitResult → Option Disk → List ℕ → Type 0
GivenThese job u r disk bytes = (g : IsGiven job u r disk) × (g.bytes ≡ bytes)

-- what the unit at a place was given, where it is good
record GivenAt (job : Job) (units : List WorkUnit) (results : List UnitResult) (disk : Option Disk) (i : ℕ)
    : Type 0 where
  bytes : List ℕ
  are : (u : WorkUnit) (r : UnitResult) → slice_get units i ≡ Some u → slice_get results i ≡ Some r
      → is_good (verdict_in r) ≡ true → GivenThese job u r disk bytes

given_at : (job : Job) (units : List WorkUnit) (results : List UnitResult) (disk : Option Disk)
    → AllGiven job units results disk → (i : ℕ) → GivenAt job units results disk i
given_at job units results disk all i = at_both (slice_get units i) (slice_get results i) refl refl
  where
    where_good : (v : WorkUnit) (s : UnitResult) → slice_get units i ≡ Some v → slice_get results i ≡ Some s
        → (b : Bool) → is_good (verdict_in s) ≡ b → GivenAt job units results disk i
    where_good v s e f true good = record {
      bytes = (all i v s e f good).bytes;
      are = λ u r a b _. subst₂ (λ w t. GivenThese job w t disk (all i v s e f good).bytes)
          (same_Some v u (sym e ∙ a)) (same_Some s r (sym f ∙ b)) (all i v s e f good, refl);
    }
    where_good v s e f false bad = record {
      bytes = [];
      are = λ u r a b good.
          let same : s ≡ r = same_Some s r (sym f ∙ b) in
          let clash : false ≡ true = sym bad ∙ ap (λ (t : UnitResult). is_good (verdict_in t)) same ∙ good in cc;
    }

    at_both : (o : Option WorkUnit) (p : Option UnitResult) → slice_get units i ≡ o → slice_get results i ≡ p
        → GivenAt job units results disk i
    at_both None p e f = record { bytes = []; are = λ u r a b _. let clash : None ≡ Some u = sym e ∙ a in cc }
    at_both (Some v) None e f =
        record { bytes = []; are = λ u r a b _. let clash : None ≡ Some r = sym f ∙ b in cc }
    at_both (Some v) (Some s) e f = where_good v s e f (is_good (verdict_in s)) refl

in_held : (job : Job) (held : Held) (u : WorkUnit) (r : UnitResult) (disk : Option Disk) (g : IsGiven job u r disk)
    → bytes_of_range held u.part (span_of u) ≡ g.bytes → IsGivenIn job held u r disk
in_held job held u r disk g same = record {
  whole = ap length same ∙ g.whole;
  verdict = g.verdict ∙ ap (verdict_of job.plan u) (sym same);
  staged = IfSome_then disk g.staged (λ d staged. staged held same);
}

-- units that fit tiled partitions share no offset, so a table holds what each good one was given
pub given_over : (job : Job) (parts : Table Marks) (units : List WorkUnit) (results : List UnitResult)
    (disk : Option Disk) → UnitsFit parts units → AreTiled parts → AllGiven job units results disk
    → (held : Held) × AllGivenIn job held units results disk
given_over job parts units results disk fit tiled all = (held_of units given, each)
  where
    given : ℕ → List ℕ
    given i = (given_at job units results disk all i).bytes

    each : AllGivenIn job (held_of units given) units results disk
    each i u r a b good =
        let these = (given_at job units results disk all i).are u r a b good in
        let same = holds units given (fit_apart parts units fit tiled) i u a
        (ap length (sym these.1) ∙ these.0.whole) in
        in_held job (held_of units given) u r disk these.0 (same ∙ sym these.1)

-- the partitions of a state that can be kept are tiled
pub tiled_parts : (o : Option State) → IfSome o Proper → AreTiled (parts_of o)
tiled_parts None proper = λ part m at. absurd (let clash : None ≡ Some m = at in cc)
tiled_parts (Some s) proper = proper.tiled.tiled
