use Rattle.std.proofs.Common.{◌≡◌, ◌++◌, drop}
use Rattle.std.specs.List.{enumerate_from, flat_map}
use Rattle.gob_texts.specs.Commands.{format_line}
use Rattle.gob_report.proofs.branches.push_branches.Given as goal

abbrev pub invariant-loop-i : goal.invariant-loop-i
invariant-loop-i l =
    l.into.items ++ flat_map (format_line l.fn.shared) (enumerate_from l.i (drop l.i l.fn.branches))
    ≡ l.fn.into.items ++ flat_map (format_line l.fn.shared) (enumerate_from 0 l.fn.branches)
