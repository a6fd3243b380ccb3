use Rattle.gob_history.proofs.Left.{left_sound}
use Rattle.gob_history.proofs.a_run_leaves_a_sound_map.Goals as goal

pub returns : goal.returns
returns c = left_sound
