use Rattle.std.proofs.Common.{◌≡◌, ◌++◌, drop}
use Rattle.std.specs.List.{flat_map}
use Rattle.gob_texts.specs.Commands.{unknown_line}
use Rattle.gob_report.proofs.branches.push_unknown.Given as goal

abbrev pub invariant-loop-i : goal.invariant-loop-i
invariant-loop-i l = l.into.items ++ flat_map unknown_line (drop l.i l.fn.unknown) ≡ l.fn.into.items
    ++ flat_map unknown_line l.fn.unknown
