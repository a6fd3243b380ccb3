use Rattle.gob_ledger.proofs.KeptOrDamaged.{kept_or_damaged}
use Rattle.gob_ledger.proofs.a_map_keeps_or_is_damaged.Goals as goal

pub returns : goal.returns
returns c = kept_or_damaged
