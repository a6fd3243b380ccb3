use Rattle.std.proofs.Common.{◌≡◌, ◌++◌, drop}
use Rattle.std.specs.List.{flat_map}
use Rattle.gob_texts.specs.Commands.{open_range_line}
use Rattle.gob_report.proofs.marks.push_open.Given as goal

abbrev pub invariant-loop-i : goal.invariant-loop-i
invariant-loop-i l = l.into.items ++ flat_map (open_range_line l.fn.part) (drop l.i l.fn.«open») ≡ l.fn.into.items
    ++ flat_map (open_range_line l.fn.part) l.fn.«open»
