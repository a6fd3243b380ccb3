-- That files are what a list of calls makes.
use Rattle.std.specs.Prelude.{◌≡◌, ℕ, ◌≤◌, List, length}
use Rattle.std.proofs.Props.{props}
use Rattle.gob_device.specs.Disk.{Files, no_files}
use Rattle.gob_volume.specs.Calls.{map_after}
use Rattle.gob_volume.specs.declared.calls.Call.{Call}

-- the map is the one after all calls, and the trail begins behind one of them
pub record IsReplayed (m : Files) (calls : List Call) (since : ℕ) : Type 0 where
  pub agrees : (name : List ℕ) → m name ≡ map_after no_files calls name
  pub within : since ≤ length calls

pub IsReplayed-prop : (m : Files) (calls : List Call) (since : ℕ) → IsProp (IsReplayed m calls since)
IsReplayed-prop m calls since = hlevel props
