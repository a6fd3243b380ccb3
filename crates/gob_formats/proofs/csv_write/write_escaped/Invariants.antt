use Rattle.std.proofs.Common.{◌≡◌, ◌++◌, drop}
use Rattle.csv.specs.Writing.{default_writer, escaped}
use Rattle.gob_formats.specs.Adding.{KeepsFront}
use Rattle.gob_formats.proofs.csv_write.write_escaped.Given as goal

abbrev pub invariant-loop-b : goal.invariant-loop-b
invariant-loop-b l =
    (l.into.items ++ escaped default_writer (drop l.b-index l.field)
    ≡ l.fn.into.items ++ escaped default_writer l.field)
    × KeepsFront l.fn.into.items l.into.items
