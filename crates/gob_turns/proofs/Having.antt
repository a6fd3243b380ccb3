-- Turns that were had, and those that come.
use Rattle.std.proofs.Common.{◌≡◌, ℕ, zero, suc, ◌+◌, ◌-◌, ◌<◌, ◌≤◌, Bool, true, false, ◌||◌, List, []}
use Rattle.std.proofs.Common.{◌∷◌, ◌++◌, refl, sym, ap, ◌∙◌, arith, append_assoc, append-nil, Some}
use Rattle.std.specs.List.{AllByRecursion}
use Rattle.std.proofs.lemmas.Bool.{ne_eqb, eq-eqb}
use Rattle.gob_meaning.specs.Job.{Job}
use Rattle.gob_ledger.specs.Turns.{Waiting, member, one_turn, then_turns, turns_from}
use Rattle.gob_ledger.specs.Turns.{waiting_at_first}
use Rattle.gob_ledger.proofs.Pieces.{bounds}
use Rattle.gob_turns.specs.Turning.{GoesOnFrom, HasTurn, most_turns, with_left}
use Rattle.gob_turns.specs.TurnLaws.{LastTurn, NoTurnAtFirst, OneMoreFailure, OneMoreTurn}

-- ---- numbers of turns

not_above : (k : ℕ) (ns : List ℕ) → AllByRecursion (λ n. suc k ≤ n) ns → member k ns ≡ false
not_above k [] all = refl
not_above k (n ∷ ns) all =
    ap (λ b. b || member k ns) (ne_eqb k n (λ e. let up = all.0 in absurd (omega arith))) ∙ not_above k ns all.1

pub behind_below : (k : ℕ) (failed more : List ℕ) → AllByRecursion (λ n. n < k) failed →
    member k (failed ++ more) ≡ member k more
behind_below k [] more all = refl
behind_below k (n ∷ ns) more all =
    ap (λ b. b || member k (ns ++ more)) (ne_eqb k n (λ e. let low = all.0 in absurd (omega arith)))
    ∙ behind_below k ns more all.1

later_below : (k : ℕ) (ns : List ℕ) → AllByRecursion (λ n. n < k) ns → AllByRecursion (λ n. n < k + 1) ns
later_below k [] all = tt
later_below k (n ∷ ns) all = (let low = all.0 in omega arith, later_below k ns all.1)

one_below : (k : ℕ) (ns : List ℕ) → AllByRecursion (λ n. n < k) ns → AllByRecursion (λ n. n < k + 1) (ns ++ k ∷ [])
one_below k [] all = (omega arith, tt)
one_below k (n ∷ ns) all = (let low = all.0 in omega arith, one_below k ns all.1)

sooner_behind : (k : ℕ) (ns : List ℕ) → AllByRecursion (λ n. k + 1 ≤ n) ns → AllByRecursion (λ n. k ≤ n) ns
sooner_behind k [] all = tt
sooner_behind k (n ∷ ns) all = (let up = all.0 in omega arith, sooner_behind k ns all.1)

suc_behind : (k : ℕ) (ns : List ℕ) → AllByRecursion (λ n. k + 1 ≤ n) ns → AllByRecursion (λ n. suc k ≤ n) ns
suc_behind k [] all = tt
suc_behind k (n ∷ ns) all = (let up = all.0 in omega arith, suc_behind k ns all.1)

-- ---- turns

-- the turn of the unit that has it, and those that come later
pub next_turn : (job : Job) (all : List ℕ) (k bound : ℕ) (waiting : List Waiting) (w : Waiting) (fails : Bool)
    → HasTurn job k waiting w → member k all ≡ fails
    → turns_from (suc bound) job all k waiting
    ≡ (one_turn job fails w).0 ∷ turns_from bound job all (k + 1) (with_left job k (one_turn job fails w).1 waiting)
next_turn job all k bound waiting w fails has is =
    let later = λ (left : List Waiting). turns_from bound job all (k + 1) (with_left job k left waiting) in
    ap (λ o. then_turns job (member k all) o later) has ∙ ap (λ b. then_turns job b (Some w) later) is

pub no_turn : NoTurnAtFirst
no_turn job held units slots bytes = record {
  before = tt;
  goes = λ all bound on many.
      let most : ℕ = most_turns job held units in
      let whole : most + (bound - most) ≡ bound = omega arith in
      sym (bounds.turns (bound - most) job held units all slots bytes)
      ∙ ap (λ n. turns_from n job all 0 (waiting_at_first job held units)) whole;
}

pub one_more : OneMoreTurn
one_more job held units failed k had waiting w has so = record {
  before = later_below k failed so.before;
  goes = λ all bound on many.
      let sooner : GoesOnFrom k failed all =
      record { more = on.more; parts = on.parts; behind = sooner_behind k on.more on.behind } in
      let is : member k all ≡ false = ap (member k) on.parts ∙ behind_below k failed on.more so.before
      ∙ not_above k on.more (suc_behind k on.more on.behind) in
      let t = one_turn job false w in
      so.goes all (suc bound) sooner (omega arith)
      ∙ ap (λ ts. had ++ ts) (next_turn job all k bound waiting w false has is)
      ∙ sym (append_assoc had (t.0 ∷ []) (turns_from bound job all (k + 1) (with_left job k t.1 waiting)));
}

pub one_failure : OneMoreFailure
one_failure job held units failed k had waiting w has so = record {
  before = one_below k failed so.before;
  goes = λ all bound on many.
      let parts : all ≡ failed ++ (k ∷ on.more) = on.parts ∙ append_assoc failed (k ∷ []) on.more in
      let sooner : GoesOnFrom k failed all =
      record { more = k ∷ on.more; parts = parts; behind = (omega arith, sooner_behind k on.more on.behind) } in
      let is : member k all ≡ true = ap (member k) parts ∙ behind_below k failed (k ∷ on.more) so.before
      ∙ ap (λ b. b || member k on.more) (eq-eqb k k refl) in
      let t = one_turn job true w in
      so.goes all (suc bound) sooner (omega arith)
      ∙ ap (λ ts. had ++ ts) (next_turn job all k bound waiting w true has is)
      ∙ sym (append_assoc had (t.0 ∷ []) (turns_from bound job all (k + 1) (with_left job k t.1 waiting)));
}

no_more : (job : Job) (all : List ℕ) (k bound : ℕ) → turns_from bound job all k [] ≡ []
no_more job all k zero = refl
no_more job all k (suc bound) = refl

pub last_turn : LastTurn
last_turn job held units failed k had so =
    so.goes failed (most_turns job held units) (record { more = []; parts = sym (append-nil failed); behind = tt })
    (omega arith)
    ∙ ap (λ ts. had ++ ts) (no_more job failed k (most_turns job held units)) ∙ append-nil had
