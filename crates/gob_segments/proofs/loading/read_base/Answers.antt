use Rattle.std.proofs.Common.{◌≡◌, ◌∙◌, sym}
use Rattle.gob_segments.proofs.Loads.{base_told}
use Rattle.gob_segments.proofs.loading.read_base.Goals as goal

pub returns-in_default-2-clause-damaged : goal.returns-in_default-2-clause-damaged
returns-in_default-2-clause-damaged g c =
    base_told c.args.job.now c.as_str.result.now _ _ _ _ (c.as_str.ensures ∙ c.in_ok-name.ensures)
    (sym c.as_str.ensures)
    c.as_slice.ensures.value (rw c.in-Some.is at c.in_ok-bytes.ensures.bytes)
    (rw c.in_default-2.is at c.in_ok-base.ensures)
