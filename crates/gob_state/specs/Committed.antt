-- How a commit goes over marks and totals, unit by unit.
use Rattle.std.specs.Prelude.{◌≡◌, ℕ, Bool, List, [], ◌∷◌, ◌++◌, map, if◌then◌else◌}
use Rattle.std.specs.declared.option.Option.TheVariants.{Some}
use Rattle.std.specs.List.{Contains, filter, list_any, zip}
use Rattle.std.specs.Str.{bytes_eq}
use Rattle.gob_bytes.specs.Tables.{Table}
use Rattle.gob_plan.specs.declared.plan.CommitPolicy.{CommitPolicy}
use Rattle.gob_plan.specs.declared.plan.CommitPolicy.TheVariants.{Full, Successful}
use Rattle.gob_plan.specs.declared.units.Counts.{Counts}
use Rattle.gob_plan.specs.declared.units.Unit.{Unit as WorkUnit}
use Rattle.gob_plan.specs.declared.units.UnitResult.{UnitResult}
use Rattle.gob_plan.specs.declared.units.UnitResult.TheVariants as result
use Rattle.gob_meaning.specs.Results.{Verdict, good, failed}
use Rattle.gob_ledger.specs.Laws.{ProperCounts, ProperUnit}
use Rattle.gob_ledger.specs.Marks.{Marks}
use Rattle.gob_ledger.specs.Next.{Judged, counts_in, is_good, plus, with_done, with_owed}
use Rattle.gob_ledger.specs.Units.{AreAdjacentFrom, IsOwed, fresh_in, next_of, span_of}
use Rattle.gob_marks.specs.Changed.{change_marks}

-- a result without its staged files
abbrev pub verdict_in : UnitResult → Verdict
verdict_in (result.Good counts warnings staged) = good counts warnings
verdict_in (result.Failed cause) = failed cause

abbrev pub verdicts_in : List UnitResult → List Verdict
verdicts_in results = map verdict_in results

-- units with their verdicts
abbrev pub judged_by : List WorkUnit → List UnitResult → List Judged
judged_by units results = zip units (verdicts_in results)

-- whether a unit is committed, where it is known whether all are good
abbrev pub may_commit : CommitPolicy → Bool → Verdict → Bool
may_commit Full all v = all
may_commit Successful all v = is_good v

-- the units of a run that are committed
abbrev pub committed_units : CommitPolicy → Bool → List Judged → List Judged
committed_units policy all js = filter (λ j. may_commit policy all j.1) js

-- the fresh units of each partition follow each other from its end
abbrev pub FreshUnitsFollow : Table Marks → List WorkUnit → Type 0
FreshUnitsFollow parts units = (part : List ℕ) → AreAdjacentFrom (next_of parts part) (fresh_in part units)

-- the marks with a unit that is owed where it is fresh
abbrev pub part_added : Table Marks → WorkUnit → Table Marks
part_added parts u = if u.fresh then change_marks (with_owed (span_of u)) u.part parts else parts

abbrev pub parts_added : Table Marks → List WorkUnit → Table Marks
parts_added parts [] = parts
parts_added parts (u ∷ us) = parts_added (part_added parts u) us

abbrev pub AllOwed : Table Marks → List WorkUnit → Type 0
AllOwed parts units = (u : WorkUnit) → Contains units u → IsOwed parts u

-- the marks with these units done
abbrev pub parts_finished : ℕ → Table Marks → List Judged → Table Marks
parts_finished pipeline parts [] = parts
parts_finished pipeline parts (j ∷ js) =
    parts_finished pipeline (change_marks (with_done pipeline (span_of j.0)) j.0.part parts) js

-- totals with what these units counted
abbrev pub totals_plus : Counts → List Judged → Counts
totals_plus c [] = c
totals_plus c (j ∷ js) = totals_plus (plus c (counts_in j.1)) js

-- totals with what units with these verdicts counted
abbrev pub totals_sum : Counts → List Verdict → Counts
totals_sum c [] = c
totals_sum c (v ∷ vs) = totals_sum (plus c (counts_in v)) vs

-- the pipelines with this one, at the end where it is new
abbrev pub pipelines_with : List ℕ → List (List ℕ) → List (List ℕ)
pipelines_with p ps = if list_any (bytes_eq p) ps then ps else ps ++ p ∷ []

-- units and what they counted, as a state can keep them
pub record AreKept (units : List WorkUnit) (results : List UnitResult) : Type 0 where
  pub proper : (u : WorkUnit) → Contains units u → ProperUnit u
  pub counted : (r : UnitResult) (c : Counts) → Contains results r → counts_in (verdict_in r) ≡ Some c → ProperCounts c
