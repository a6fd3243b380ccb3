use Rattle.gob_history_examples.proofs.HalfLine.{half_line_history}
use Rattle.gob_history_examples.proofs.two_runs_over_a_half_line.Goals as goal

pub returns : goal.returns
returns c = half_line_history
