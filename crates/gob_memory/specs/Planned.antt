-- Which calls fail, and how they are counted.
use Rattle.std.specs.Prelude.{◌≡◌, ◌⊎◌, ℕ, List, Contains}
use Rattle.gob_device.specs.Causes.{one_more}
use Rattle.gob_memory.specs.declared.counts.Counts.{Counts}
use Rattle.gob_memory.specs.declared.planned.Planned.{Planned}

-- the numbers of the calls that are to fail
abbrev pub numbers_of : Planned → List ℕ
numbers_of p = p.numbers.items

-- how many calls there were, which is the number of the next one
abbrev pub calls_of : Planned → ℕ
calls_of p = p.calls

-- the next call is to fail
abbrev pub IsDue : Planned → Type 0
IsDue p = Contains (numbers_of p) (calls_of p)

-- one call more, and the same numbers
pub record CountsCall (old new : Planned) : Type 0 where
  pub numbers : numbers_of new ≡ numbers_of old
  pub calls : calls_of new ≡ one_more (calls_of old)

-- a count is one more exactly where this happened
pub record CountsOne (before now : ℕ) (happened : Type 0) : Type 0 where
  pub one : happened → now ≡ one_more before
  pub none : (happened → ⊥) → now ≡ before

-- a call failed exactly where it was to fail or found no room, and was counted
pub record FailsAsPlanned (planned : Type 0) (old new : Counts) (failed : Type 0) : Type 0 where
  pub due : planned → failed
  pub only : failed → planned ⊎ (new.shorts ≡ one_more old.shorts)
  pub shorts : (failed × (new.shorts ≡ one_more old.shorts)) ⊎ (new.shorts ≡ old.shorts)
  pub faults : CountsOne old.faults new.faults failed
