use Rattle.std.proofs.Common.{◌≡◌, true, Some}
use Rattle.std.specs.List.{list_all}
use Rattle.std.specs.Vec.Iter.{into_iter_items}
use Rattle.gob_convert.specs.Made.{concatenation, made_each}
use Rattle.gob_convert.proofs.convert.convert_each.Given as goal

-- what was made, joined to what the records that are left make, is what all of them make
abbrev pub invariant-loop-record : goal.invariant-loop-record
invariant-loop-record g l =
    (goal.iterator-loop-record g).can_next l.record-iterator
    × (goal.iterator-loop-record g).is_finite l.record-iterator
    × (list_all (g.C.Convert.fits (g.C.Convert.shape l.converter)) (into_iter_items l.record-iterator) ≡ true)
    × (concatenation (Some l.made.items)
    (made_each (g.C.Convert.made l.converter) (into_iter_items l.record-iterator)) ≡
    made_each (g.C.Convert.made l.converter) l.fn.records.items)
