use Rattle.std.proofs.Common.{◌≡◌, ◌∙◌, ◌++◌, ap, sym, subst, IsUtf8}
use Rattle.gob_bytes.specs.Paths.{delta_name}
use Rattle.gob_segments.proofs.Named.{delta_text}
use Rattle.gob_segments.proofs.names.delta_file_name.Goals as goal

pub ascii_text-requires : goal.ascii_text-requires
ascii_text-requires c =
    let whole : c.push_delta_name.new.into.items ≡ delta_name c.args.job.now c.args.run =
    c.in_ok-push_delta_name.ensures ∙ ap (λ t. t ++ delta_name c.args.job.now c.args.run) c.new-name.ensures.items in
    subst IsUtf8 (sym whole) (delta_text c.args.job.now c.args.run c.utf8.job)
