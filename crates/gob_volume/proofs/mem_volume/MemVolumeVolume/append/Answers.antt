use Rattle.gob_volume.proofs.Failing.{still_failed, torn_failed}
use Rattle.gob_volume.proofs.mem_volume.MemVolumeVolume.append.Goals as goal

pub returns-in-Ok-clause-change : goal.returns-in-Ok-clause-change
returns-in-Ok-clause-change c = record { ok = tt; err = torn_failed c.in-Ok.ensures.ok }

pub returns-in-Err-clause-change : goal.returns-in-Err-clause-change
returns-in-Err-clause-change c = record { ok = tt; err = still_failed c.in-Err.ensures.err }

pub returns-in-Err-append-clause-change : goal.returns-in-Err-append-clause-change
returns-in-Err-append-clause-change c = record { ok = tt; err = still_failed c.in-Err-append.ensures.err }
