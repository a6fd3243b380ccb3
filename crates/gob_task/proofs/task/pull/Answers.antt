use Rattle.std.proofs.Common.{subst}
use Rattle.gob_bytes.specs.Escapes.{AreBytes}
use Rattle.gob_bytes.proofs.Forms.{bytes_from_utf8}
use Rattle.gob_task.proofs.task.pull.Goals as goal

pub returns-in_err-given-clause-bytes : goal.returns-in_err-given-clause-bytes
returns-in_err-given-clause-bytes g c =
    subst AreBytes c.as_str.ensures (bytes_from_utf8 c.as_str.result.now c.as_str.utf8)

pub returns-clause-bytes : goal.returns-clause-bytes
returns-clause-bytes g c =
    subst AreBytes c.as_str.ensures (bytes_from_utf8 c.as_str.result.now c.as_str.utf8)
