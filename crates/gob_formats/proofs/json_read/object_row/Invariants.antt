use Rattle.std.proofs.Common.{◌≡◌, Some, drop}
use Rattle.json.specs.Value.{value_view}
use Rattle.gob_convert.specs.Made.{concatenation}
use Rattle.gob_formats.specs.Objects.{tree_values}
use Rattle.gob_formats.proofs.json_read.object_row.Given as goal

abbrev pub invariant-loop-column : goal.invariant-loop-column
invariant-loop-column l =
    concatenation (Some l.values.items) (tree_values (drop l.column-index l.columns) (value_view l.tree))
    ≡ tree_values l.columns (value_view l.tree)
