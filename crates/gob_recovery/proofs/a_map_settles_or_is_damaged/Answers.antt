use Rattle.gob_recovery.proofs.Decided.{settles_or_damaged}
use Rattle.gob_recovery.proofs.a_map_settles_or_is_damaged.Goals as goal

pub returns : goal.returns
returns c = settles_or_damaged
