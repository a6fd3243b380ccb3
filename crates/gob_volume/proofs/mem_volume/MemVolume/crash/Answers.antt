use Rattle.std.proofs.Common.{ap}
use Rattle.gob_device.specs.Disk.{Disk}
use Rattle.gob_volume.specs.Stores.{disk_of}
use Rattle.gob_volume.proofs.Failing.{crashed_image}
use Rattle.gob_volume.proofs.mem_volume.MemVolume.crash.Goals as goal

pub returns-clause-image : goal.returns-clause-image
returns-clause-image c = crashed_image c.args.tail.now (disk_of c.args.self.now.store).files
    (disk_of c.crash.new.self).files (ap (λ (d : Disk). d.files) c.in_ok-crash.ensures.ok)
