use Rattle.std.proofs.Common.{[], ◌∷◌, ◌++◌, ap, ◌∙◌}
use Rattle.json.specs.Print.{escape}
use Rattle.gob_formats.proofs.Kept.{wrapped}
use Rattle.gob_formats.proofs.json_write.write_string.Goals as goal

pub returns-clause-ok : goal.returns-clause-ok
returns-clause-ok c =
    let text = escape c.args.text.now in
    c.in_ok-push-2.ensures.items
    ∙ ap (λ t. t ++ 34 ∷ []) (c.in_ok-write_content.ensures.ok ∙ ap (λ t. t ++ text) c.in_ok-push.ensures.items)
    ∙ wrapped c.args.into.now.items text (34 ∷ []) 34
