use Rattle.std.proofs.Common.{refl, ◌∙◌}
use Rattle.gob_texts.specs.Refusals as texts
use Rattle.gob_top.proofs.Finding.{no_file}
use Rattle.gob_top.proofs.job.read_bytes.Goals as goal

pub returns-in_default-clause-stopped : goal.returns-in_default-clause-stopped
returns-in_default-clause-stopped g c =
    no_file c.args.job.now c.as_str.result.now _ _ _ texts.no_job (c.as_str.ensures ∙ c.in_ok-name.ensures.name)
    (rw c.in_default.is at c.in_ok-bytes.ensures.bytes) (c.in_ok-bytes.ensures.cause.same (λ e. absurd (cc))) refl
