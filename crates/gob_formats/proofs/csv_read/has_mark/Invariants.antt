use Rattle.std.proofs.Common.{◌≡◌, take}
use Rattle.std.specs.List.{list_any}
use Rattle.gob_formats.specs.Splits.{is_mark}
use Rattle.gob_formats.proofs.csv_read.has_mark.Given as goal

abbrev pub invariant-loop-b : goal.invariant-loop-b
invariant-loop-b l = l.found ≡ list_any is_mark (take l.b-index l.line)
