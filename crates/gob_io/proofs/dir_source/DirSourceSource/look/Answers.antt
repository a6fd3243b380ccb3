use Rattle.std.proofs.Common.{arith}
use Rattle.std.proofs.lemmas.List.{length-take-le}
use Rattle.gob_device.proofs.Looks.{looked-front}
use Rattle.gob_io.proofs.dir_source.DirSourceSource.look.Goals as goal

pub returns-in-Ok-clause-shape : goal.returns-in-Ok-clause-shape
returns-in-Ok-clause-shape g c =
    rw c.keep_line_ends.ensures (looked-front c.in-Ok.n _ _ (length-take-le c.in-Ok.n c.fill.new.into
    (omega (arith, c.in-Ok.ensures.within, c.fill.auto.into))))
