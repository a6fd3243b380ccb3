use Rattle.std.proofs.Common.{◌≡◌, false, is_some}
use Rattle.json.specs.Find.{as_object}
use Rattle.json.specs.Value.{value_view}
use Rattle.gob_formats.specs.Objects.{finite}
use Rattle.gob_formats.proofs.Trees.{tree_other, tree_too_large}
use Rattle.gob_formats.proofs.json_read.tree_row.Goals as goal

pub returns-then-not-is_object-clause-bad : goal.returns-then-not-is_object-clause-bad
returns-then-not-is_object-clause-bad c =
    let other : is_some (as_object (value_view c.args.tree.now)) ≡ false = cc in
    λ _. tree_other c.args.columns.now (value_view c.args.tree.now) other

pub returns-then-not-is_finite-clause-bad : goal.returns-then-not-is_finite-clause-bad
returns-then-not-is_finite-clause-bad c =
    let large : finite (value_view c.args.tree.now) ≡ false = cc in
    λ _. tree_too_large c.args.columns.now (value_view c.args.tree.now) large
