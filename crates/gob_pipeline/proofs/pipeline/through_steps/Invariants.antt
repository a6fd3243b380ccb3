use Rattle.std.proofs.Common.{◌≡◌, true, Some}
use Rattle.std.specs.List.{list_all}
use Rattle.std.specs.Vec.Iter.{into_iter_items}
use Rattle.gob_convert.specs.Made.{concatenation, made_each}
use Rattle.gob_plan.specs.Rows.{conforms}
use Rattle.gob_meaning.specs.Steps.{chain_rows}
use Rattle.gob_pipeline.proofs.pipeline.through_steps.Given as goal

-- what was made, joined to what the rows that are left make, is what all of them make
abbrev pub invariant-loop-row : goal.invariant-loop-row
invariant-loop-row l =
    (goal.iterator-loop-row).can_next l.row-iterator
    × (goal.iterator-loop-row).is_finite l.row-iterator
    × (list_all (conforms l.chain.before) (into_iter_items l.row-iterator) ≡ true)
    × (concatenation (Some l.made.items)
    (made_each (chain_rows l.chain.steps l.chain.before) (into_iter_items l.row-iterator)) ≡
    made_each (chain_rows l.chain.steps l.chain.before) l.fn.rows.items)
