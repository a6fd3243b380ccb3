-- When a call of a volume in memory fails, and what is counted.
use Rattle.std.specs.Prelude.{◌≡◌, ◌⊎◌, ◌↔◌, ℕ, Bool, IsTrue, option_map}
use Rattle.std.specs.declared.option.Option.TheVariants.{Some}
use Rattle.gob_memory.specs.Planned.{CountsCall, FailsAsPlanned, IsDue}
use Rattle.gob_volume.specs.declared.failures.Failures.{Failures}

-- the next call is to fail, by its number or by the fuse
abbrev pub IsStopped : Failures → Type 0
IsStopped f = IsDue f.planned ⊎ (f.fuse ≡ Some 0)

-- a call was taken in, and is stopped where it is to fail
pub record TakesCall (burn : ℕ → ℕ) (old new : Failures) (stops : Bool) : Type 0 where
  pub stopped : IsTrue stops ↔ IsStopped old
  pub call : CountsCall old.planned new.planned
  pub fuse : new.fuse ≡ option_map burn old.fuse
  pub faults : new.counts.faults ≡ old.counts.faults
  pub shorts : new.counts.shorts ≡ old.counts.shorts

-- a call failed exactly where it was to fail or found no room, and was counted
pub record FailsAsSet (burn : ℕ → ℕ) (old new : Failures) (failed : Type 0) : Type 0 where
  pub fails : FailsAsPlanned (IsStopped old) old.counts new.counts failed
  pub call : CountsCall old.planned new.planned
  pub fuse : new.fuse ≡ option_map burn old.fuse
