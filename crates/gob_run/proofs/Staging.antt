-- What the turns of a run have staged, for its commits.
use Rattle.std.proofs.Common.{◌≡◌, ⊎_elim, ℕ, suc, List, [], ◌∷◌, Option, Some, slice_get, ap, subst}
use Rattle.std.specs.List.{Contains, zip}
use Rattle.gob_device.specs.Disk.{Files}
use Rattle.gob_device.specs.Supply.{Held}
use Rattle.gob_plan.specs.declared.units.Unit.{Unit as WorkUnit}
use Rattle.gob_plan.specs.declared.units.UnitResult.{UnitResult}
use Rattle.gob_meaning.specs.Job.{Job}
use Rattle.gob_meaning.specs.Laws.{IsRange}
use Rattle.gob_ledger.specs.Delta.{Kept, KeepsAs}
use Rattle.gob_ledger.proofs.Members.{in_cases, none_in}
use Rattle.gob_recovery.specs.Settle.{IsSettled}
use Rattle.gob_history.specs.Laws.{StagedFor, StagedOver}
use Rattle.gob_segments.specs.Loading.{IsLoaded}
use Rattle.gob_segments.specs.declared.change.Loaded.{Loaded}
use Rattle.gob_turns.specs.Taken.{AllStaged}
use Rattle.gob_commit.specs.Staged.{PulledUnit, Pair, RunHasStaged, judged_of}
use Rattle.gob_run.proofs.Fitting.{one_pairs}

-- a unit and its result stand in one place
made_at : (units : List WorkUnit) (results : List UnitResult) (w : PulledUnit) → Contains (zip units results) w
    → (i : ℕ) × (slice_get units i ≡ Some w.0) × (slice_get results i ≡ Some w.1)
made_at [] results w there = none_in w there
made_at (u ∷ us) [] w there = none_in w there
made_at (u ∷ us) (r ∷ rs) w there = ⊎_elim
    (λ e. (0, ap (λ (v : PulledUnit). Some v.0) e, ap (λ (v : PulledUnit). Some v.1) e))
    (λ later. let at = made_at us rs w later in (suc at.0, at.1, at.2))
    (in_cases (u, r) (zip us rs) w there)

pub run_staged : (job : Job) (held : Held) (l : Loaded) (units : List WorkUnit) (results : List UnitResult)
    (settled m : Files) (k : Option Kept) → IsSettled job.name settled → KeepsAs job.name settled k → IsLoaded k l
    → StagedOver job.name settled m → AllStaged job held units results m
    → ((u : WorkUnit) → Contains units u → IsRange u.part u.lo u.hi) → RunHasStaged job held l units results settled m
run_staged job held l units results settled m k closed keeps loaded over staged ranges = record {
  has = record {
    closed = closed;
    kept = k;
    keeps = keeps;
    loaded = loaded;
    over = over;
    staged = λ w there good.
        let at = made_at units results w there in
        subst (λ (ps : List Pair). StagedFor job held (judged_of w ∷ []) m ps) (one_pairs w.1)
        (staged at.0 w.0 w.1 at.1 at.2 good);
  };
  ranges = ranges;
}
