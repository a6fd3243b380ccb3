-- What a volume in memory tells and counts.
use Rattle.std.specs.Prelude.{◌≡◌, ◌⊎◌, ℕ, List}
use Rattle.std.specs.declared.option.Option.{Option}
use Rattle.gob_device.specs.Causes.{one_more}
use Rattle.gob_device.specs.Disk.{Disk, after_change}
use Rattle.gob_memory.specs.declared.counts.Counts.{Counts}
use Rattle.gob_memory.specs.declared.planned.Planned.{Planned}
use Rattle.gob_volume.specs.Crashes.{after_tear}
use Rattle.gob_volume.specs.Failures.{IsStopped}
use Rattle.gob_volume.specs.Stores.{disk_of}
use Rattle.gob_volume.specs.declared.failures.Failures.{Failures}
use Rattle.gob_volume.specs.declared.mem_volume.MemVolume.{MemVolume}

abbrev pub told_by : MemVolume → Disk
told_by v = disk_of v.store

-- when its calls fail
abbrev pub failures_of : MemVolume → Failures
failures_of v = v.failures

-- how often calls failed
abbrev pub volume_counts : MemVolume → Counts
volume_counts v = v.failures.counts

-- which calls are to fail by their numbers
abbrev pub volume_plan : MemVolume → Planned
volume_plan v = v.failures.planned

-- how many changing calls may pass yet
abbrev pub fuse_of : MemVolume → Option ℕ
fuse_of v = v.failures.fuse

-- an append or a sync that failed: stopped, it left its file dirty with its bytes as they were; for want of room it
-- changed nothing
abbrev pub FailsAt : List ℕ → MemVolume → MemVolume → Type 0
FailsAt name old new =
    (IsStopped (failures_of old) × (told_by new ≡ after_change (after_tear name) (told_by old)))
    ⊎ ((told_by new ≡ told_by old) × ((volume_counts new).shorts ≡ one_more (volume_counts old).shorts))
