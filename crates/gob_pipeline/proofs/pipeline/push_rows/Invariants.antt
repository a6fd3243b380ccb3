use Rattle.std.proofs.Common.{◌≡◌, ◌+◌, true, Some, length, filter}
use Rattle.std.specs.List.{list_all}
use Rattle.std.specs.Vec.Iter.{into_iter_items}
use Rattle.gob_convert.specs.Made.{concatenation, made_each}
use Rattle.gob_plan.specs.Rows.{conforms}
use Rattle.gob_pipeline.specs.Making.{is_left}
use Rattle.gob_pipeline.specs.Routes.{route_makes}
use Rattle.gob_pipeline.proofs.pipeline.push_rows.Given as goal

-- the items so far and the count so far, with those of the rows that are left, are those of all rows
abbrev pub invariant-loop-row : goal.invariant-loop-row
invariant-loop-row l =
    (goal.iterator-loop-row).can_next l.row-iterator
    × (goal.iterator-loop-row).is_finite l.row-iterator
    × (list_all (conforms l.routes.columns) (into_iter_items l.row-iterator) ≡ true)
    × (concatenation (Some l.items) (made_each (route_makes l.routes) (into_iter_items l.row-iterator)) ≡
    concatenation (Some l.fn.items) (made_each (route_makes l.routes) l.fn.rows.items))
    × (l.unrouted + length (filter (is_left l.routes) (into_iter_items l.row-iterator)) ≡
    length (filter (is_left l.routes) l.fn.rows.items))
