-- To which branches a row goes, and where it is placed there.
use Rattle.std.specs.Prelude.{ℕ, Bool, true, false, not, ◌&&◌, List, [], take}
use Rattle.std.specs.declared.option.Option.{Option}
use Rattle.std.specs.declared.option.Option.TheVariants.{None, Some}
use Rattle.std.specs.List.{list_any, slice_get}
use Rattle.gob_plan.specs.declared.rows.Column.{Column}
use Rattle.gob_plan.specs.declared.rows.Row.{Row}
use Rattle.gob_plan.specs.declared.checks.TestSpec.{TestSpec}
use Rattle.gob_plan.specs.declared.plan.ForkHow.{ForkHow}
use Rattle.gob_plan.specs.declared.plan.ForkHow.TheVariants as fork_how
use Rattle.gob_plan.specs.declared.plan.ForkSpec.{ForkSpec}
use Rattle.gob_plan.specs.declared.plan.PlaceSpec.{PlaceSpec}
use Rattle.gob_plan.specs.declared.plan.PlaceSpec.TheVariants as place
use Rattle.gob_plan.specs.Rows.{value_of}
use Rattle.gob_plan.specs.Tests.{test_holds}
use Rattle.gob_meaning.specs.Days.{day_folder}

-- the test is there and holds
abbrev pub holds_if_there : Option TestSpec → List Column → Row → Bool
holds_if_there None columns row = false
holds_if_there (Some test) columns row = test_holds test columns row

-- the test of a branch holds
abbrev pub branch_test_holds : List TestSpec → List Column → Row → ℕ → Bool
branch_test_holds tests columns row b = holds_if_there (slice_get tests b) columns row

-- the test of a branch before this one holds
abbrev pub earlier_test_holds : List TestSpec → List Column → Row → ℕ → Bool
earlier_test_holds tests columns row b = list_any (λ test. test_holds test columns row) (take b tests)

-- by the kind of fork
abbrev pub picks_by : ForkHow → List TestSpec → List Column → Row → ℕ → Bool
picks_by fork_how.All tests columns row b = true
picks_by fork_how.Each tests columns row b = branch_test_holds tests columns row b
picks_by fork_how.First tests columns row b =
    branch_test_holds tests columns row b && not (earlier_test_holds tests columns row b)

-- the branch takes the row
unfoldable pub picks : ForkSpec → List Column → Row → ℕ → Bool
picks fork columns row b = picks_by fork.how fork.tests columns row b

-- the folder of a row in its branch: empty, or with a '/' at its end
unfoldable pub place_of : PlaceSpec → List Column → Row → List ℕ
place_of place.Plain columns row = []
place_of (place.Day column) columns row = day_folder (value_of column columns row.values)
