use Rattle.std.proofs.Common.{◌≡◌, [], ◌∷◌, ◌++◌, true, false, ap, ◌∙◌}
use Rattle.csv.specs.Writing.{default_writer, needs_quotes, escaped}
use Rattle.gob_formats.proofs.Kept.{wrapped}
use Rattle.gob_formats.proofs.Written.{field_plain, field_quoted}
use Rattle.gob_formats.proofs.csv_write.write_text.Goals as goal

pub returns-then-not-needs_quotes-clause-ok : goal.returns-then-not-needs_quotes-clause-ok
returns-then-not-needs_quotes-clause-ok c =
    let none : needs_quotes default_writer c.args.field.now ≡ false = cc in
    rw (field_plain c.args.field.now none) c.add.ensures.ok

pub returns-clause-ok : goal.returns-clause-ok
returns-clause-ok c =
    let some : needs_quotes default_writer c.args.field.now ≡ true = cc in
    let text = escaped default_writer c.args.field.now in
    rw (field_quoted c.args.field.now some)
    (c.in_ok-push-2.ensures.items
    ∙ ap (λ t. t ++ 34 ∷ []) (c.in_ok-write_escaped.ensures.ok ∙ ap (λ t. t ++ text) c.in_ok-push.ensures.items)
    ∙ wrapped c.args.into.now.items text (34 ∷ []) 34)
