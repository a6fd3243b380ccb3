use Rattle.std.proofs.Common.{List, ℕ, Some, ap, ◌∙◌, arith}
use Rattle.gob_text.proofs.Escaping.{bytes_from_fits}
use Rattle.gob_job.proofs.KeyTexts.{value_some, value_none}
use Rattle.gob_job.proofs.pipeline.read_value.Goals as goal

pub returns-in-Some : goal.returns-in-Some
returns-in-Some c = ap (λ (b : List ℕ). Some b) c.from_vec.ensures
    ∙ value_some c.args.text.now c.in-Some.bytes.items (rw c.in-Some.is at c.in_ok-bytes.ensures).0
    (rw c.in-Some.is at c.in_ok-bytes.ensures).1

pub returns-in-None : goal.returns-in-None
returns-in-None c = value_none c.args.text.now (bytes_from_fits _ (λ i. omega (arith, c.type_inv.text i)))
    (rw c.in-None.is at c.in_ok-bytes.ensures)
