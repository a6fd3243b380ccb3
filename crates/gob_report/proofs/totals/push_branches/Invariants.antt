use Rattle.std.proofs.Common.{◌≡◌, ◌++◌, drop, map}
use Rattle.std.specs.List.{enumerate_from, flat_map}
use Rattle.gob_report.specs.Lines.{tally_line, word_text}
use Rattle.gob_report.proofs.totals.push_branches.Given as goal

abbrev pub invariant-loop-i : goal.invariant-loop-i
invariant-loop-i l =
    l.into.items ++ flat_map (tally_line l.fn.first (map word_text l.fn.front))
    (enumerate_from l.i (drop l.i l.fn.branches))
    ≡ l.fn.into.items ++ flat_map (tally_line l.fn.first (map word_text l.fn.front)) (enumerate_from 0 l.fn.branches)
