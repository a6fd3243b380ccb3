-- What a branch's policies say of a row.
use Rattle.std.specs.Prelude.{ℕ, ◌+◌, Bool, true, false, List, [], ◌∷◌}
use Rattle.gob_plan.specs.declared.rows.Column.{Column}
use Rattle.gob_plan.specs.declared.rows.Row.{Row}
use Rattle.gob_plan.specs.declared.plan.Mode.{Mode}
use Rattle.gob_plan.specs.declared.plan.Mode.TheVariants as mode
use Rattle.gob_plan.specs.declared.plan.PolicySpec.{PolicySpec}
use Rattle.gob_plan.specs.Tests.{test_holds}

-- the row passes, or a policy sends it to the error file or kills it
pub data Ruling : Type 0 where
  pass : Ruling
  to_error : (policy : ℕ) → Ruling
  kill : (policy : ℕ) → Ruling

-- a policy that holds leaves it to the later ones; a failing one rules by its mode, where an optional one is counted
-- and leaves it to them too
abbrev pub ruling_by_mode : Bool → Mode → ℕ → Ruling × ℕ → Ruling × ℕ
ruling_by_mode true m i later = later
ruling_by_mode false mode.Fail i later = (kill i, 0)
ruling_by_mode false mode.ErrFile i later = (to_error i, 0)
ruling_by_mode false mode.Optional i later = (later.0, later.1 + 1)

-- the policies from this index on
abbrev pub ruling_from : ℕ → List PolicySpec → List Column → Row → Ruling × ℕ
ruling_from i [] columns row = (pass, 0)
ruling_from i (p ∷ ps) columns row =
    ruling_by_mode (test_holds p.test columns row) p.mode i (ruling_from (i + 1) ps columns row)

-- what the first failing policy that isn't optional says, and how many optional ones fail before it, or in all
unfoldable pub ruling : List PolicySpec → List Column → Row → Ruling × ℕ
ruling policies columns row = ruling_from 0 policies columns row
