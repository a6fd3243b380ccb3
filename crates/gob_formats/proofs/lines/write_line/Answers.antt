use Rattle.std.proofs.Common.{◌∙◌, ap, ◌++◌, ◌∷◌, []}
use Rattle.gob_formats.proofs.Kept.{nowhere}
use Rattle.gob_formats.proofs.Texts.{line_added}
use Rattle.gob_formats.proofs.lines.write_line.Goals as goal

pub returns-clause-ok : goal.returns-clause-ok
returns-clause-ok c =
    line_added c.args.into.now.items c.args.text.now _ (nowhere 10 c.args.text.now c.in_default.ensures)
    (c.in_ok-push.ensures.items ∙ ap (λ l. l ++ 10 ∷ []) c.in_ok-extend_from_slice.ensures.items)
