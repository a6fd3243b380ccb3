use Rattle.std.proofs.Common.{◌≡◌, ◌++◌, drop}
use Rattle.gob_formats.specs.Adding.{KeepsFront}
use Rattle.gob_formats.specs.Fields.{more_fields}
use Rattle.gob_formats.proofs.csv_write.write_more.Given as goal

abbrev pub invariant-loop-value : goal.invariant-loop-value
invariant-loop-value l =
    (l.into.items ++ more_fields (drop l.value-index l.values) ≡ l.fn.into.items ++ more_fields l.values)
    × KeepsFront l.fn.into.items l.into.items
