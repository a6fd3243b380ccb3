use Rattle.std.proofs.Common.{◌≡◌, sym, ap, ◌∙◌}
use Rattle.std.proofs.lemmas.Str.{is_utf8-from_IsUtf8}
use Rattle.json.specs.Value.{value_view}
use Rattle.gob_formats.specs.Objects.{tree_of, tree_values, object_values}
use Rattle.gob_formats.proofs.Texts.{no_text}
use Rattle.gob_formats.proofs.Trees.{line_read, line_not_text}
use Rattle.gob_formats.proofs.json_read.line_row.Goals as goal

pub returns-in_default-clause-bad : goal.returns-in_default-clause-bad
returns-in_default-clause-bad c =
    λ _. line_not_text c.args.columns.now c.args.line.now (no_text c.args.line.now c.in_default.ensures.cases.0)

pub returns-clause-ok : goal.returns-clause-ok
returns-clause-ok c =
    let whole : object_values c.args.columns.now c.args.line.now
    ≡ tree_values c.args.columns.now (value_view c.in_ok-tree.tree) =
    line_read c.args.columns.now c.args.line.now (value_view c.in_ok-tree.tree)
    (is_utf8-from_IsUtf8 c.args.line.now c.in-Ok.ensures.cases.1)
    (ap tree_of (sym c.in-Ok.ensures.cases.0) ∙ c.in_ok-tree.ensures.ok) in
    rw whole c.tree_row.ensures.ok
