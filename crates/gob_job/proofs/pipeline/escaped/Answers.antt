use Rattle.std.proofs.Common.{List, ℕ, ◌++◌, IsUtf8, sym, ap, subst, ◌∙◌}
use Rattle.std.proofs.lemmas.Bool.{true≢false}
use Rattle.gob_bytes.specs.Escapes.{escape_of}
use Rattle.gob_job.proofs.Texts.{escaped_text}
use Rattle.gob_job.proofs.pipeline.escaped.Goals as goal

pub unreachable-requires : goal.unreachable-requires
unreachable-requires c =
    let is = c.in_ok-push_escaped.ensures.ok ∙ ap (λ (x : List ℕ). x ++ escape_of c.args.name.now)
    c.new-bytes.ensures.items in
    true≢false (sym (c.in-Err.ensures.succeeds (subst IsUtf8 (sym is) (escaped_text c.args.name.now))))
