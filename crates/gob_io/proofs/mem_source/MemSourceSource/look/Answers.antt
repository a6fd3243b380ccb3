use Rattle.std.proofs.Common.{arith}
use Rattle.std.proofs.lemmas.List.{length-take-le}
use Rattle.gob_device.proofs.Looks.{looked-front}
use Rattle.gob_io.proofs.mem_source.MemSourceSource.look.Goals as goal

pub returns-clause-shape : goal.returns-clause-shape
returns-clause-shape c =
    rw c.keep_line_ends.ensures (looked-front c.give-count.result _ _
    (length-take-le c.give-count.result c.give-count.new.into (omega arith)))
