-- The maps that a list of calls stands for.
use Rattle.std.specs.Prelude.{◌≡◌, ◌≢◌, ℕ, ◌≤◌, List, [], ◌∷◌, take, drop, length, IsSome}
use Rattle.std.specs.declared.option.Option.TheVariants.{Some}
use Rattle.gob_device.specs.Disk.{Files, clean, no_files, put}
use Rattle.gob_device.specs.Disk.{after_create, after_append, after_sync, after_rename, after_remove}
use Rattle.gob_volume.specs.Crashes.{after_crash, after_tear}
use Rattle.gob_volume.specs.declared.calls.Call.{Call}
use Rattle.gob_volume.specs.declared.calls.Call.TheVariants.{Create, Append, Sync, Rename, Remove, Tear, Put, Crash}

-- a file that is kept whole is placed
unfoldable pub after_put : List ℕ → List ℕ → Files → Files
after_put name bytes m = put m name (Some (clean bytes))

-- what a call makes of the map
abbrev pub map_step_of : Call → Files → Files
map_step_of (Create name) = after_create name
map_step_of (Append name bytes) = after_append name bytes
map_step_of (Sync name) = after_sync name
map_step_of (Rename source target) = after_rename source target
map_step_of (Remove name) = after_remove name
map_step_of (Tear name) = after_tear name
map_step_of (Put name bytes) = after_put name bytes
map_step_of (Crash tail) = after_crash tail

-- the file that a call needs is there
abbrev pub CanBeDone : Call → Files → Type 0
CanBeDone (Create name) m = Unit {0}
CanBeDone (Append name bytes) m = IsSome (m name)
CanBeDone (Sync name) m = IsSome (m name)
CanBeDone (Rename source target) m = IsSome (m source) × (source ≢ target)
CanBeDone (Remove name) m = Unit {0}
CanBeDone (Tear name) m = IsSome (m name)
CanBeDone (Put name bytes) m = Unit {0}
CanBeDone (Crash tail) m = Unit {0}

-- the map after these calls
abbrev pub map_after : Files → List Call → Files
map_after m [] = m
map_after m (call ∷ calls) = map_after (map_step_of call m) calls

-- the map after each of them
abbrev pub maps_after : Files → List Call → List Files
maps_after m [] = []
maps_after m (call ∷ calls) = map_step_of call m ∷ maps_after (map_step_of call m) calls

-- of all calls from no files on, the maps after those that came behind the first so many
unfoldable pub trail_of : List Call → ℕ → List Files
trail_of calls since = maps_after (map_after no_files (take since calls)) (drop since calls)
