-- What the store of a volume in memory tells.
use Rattle.gob_device.specs.Disk.{Disk}
use Rattle.gob_volume.specs.Calls.{trail_of}
use Rattle.gob_volume.specs.Maps.{map_of}
use Rattle.gob_volume.specs.declared.store.Store.{Store}

abbrev pub disk_of : Store → Disk
disk_of s = record { files = map_of s.table; trail = trail_of s.calls.items s.since }
