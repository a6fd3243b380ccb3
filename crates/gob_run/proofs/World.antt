-- The world of a run with another volume.
use Rattle.std.proofs.Common.{ℕ}
use Rattle.std.specs.declared.option.Option.{Option}
use Rattle.gob_device.specs.Disk.{Disk}
use Rattle.gob_run.specs.World.{World}

-- the world with this volume
abbrev pub with_volume : World → Option Disk → ℕ → World
with_volume w disk faults = record w { disk = disk; volume_faults = faults }
