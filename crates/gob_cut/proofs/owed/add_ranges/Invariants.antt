use Rattle.std.proofs.Common.{◌≡◌, ◌++◌, map, take}
use Rattle.gob_cut.specs.Rounds.{unit_of_range}
use Rattle.gob_cut.proofs.owed.add_ranges.Given as goal

abbrev pub invariant-loop-range : goal.invariant-loop-range
invariant-loop-range l = l.units ≡ l.initial.units ++ map (unit_of_range l.fn.part l.listed)
    (take l.range-index l.ranges)
