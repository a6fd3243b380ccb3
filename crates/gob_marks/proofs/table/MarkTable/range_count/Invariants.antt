use Rattle.std.proofs.Common.{◌≡◌, take}
use Rattle.gob_ledger.specs.Units.{range_count}
use Rattle.gob_meaning.specs.Fold.{saturate_u64}
use Rattle.gob_marks.proofs.table.MarkTable.range_count.Given as goal

abbrev pub invariant-loop-marks : goal.invariant-loop-marks
invariant-loop-marks l = l.count ≡ saturate_u64 (range_count (take l.marks-index l.marks-items))
