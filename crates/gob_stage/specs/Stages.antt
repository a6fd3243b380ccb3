-- What the calls of an attempt make of a volume.
use Rattle.std.specs.Prelude.{◌≡◌, ℕ, Bool, true, false, List, [], ◌∷◌, map, IsSome}
use Rattle.std.specs.List.{list_any}
use Rattle.std.specs.Str.{bytes_eq}
use Rattle.gob_bytes.specs.Tables.{Table}
use Rattle.gob_device.specs.Disk.{Disk, Files, after_append, after_change, after_create, after_sync}
use Rattle.gob_stage.specs.Attempt.{AttemptValue, HoldsStaged, HoldsClean, after_begin, is_begun, staged_name}
use Rattle.gob_stage.specs.Attempt.{with_appended}

-- a file is made, and bytes are appended to it
abbrev pub after_making : List ℕ → List ℕ → Disk → Disk
after_making name bytes d = after_change (after_append name bytes) (after_change (after_create name) d)

-- a file that isn't begun is made
abbrev pub begin_where : Bool → List ℕ → Disk → Disk
begin_where true name d = d
begin_where false name d = after_change (after_create name) d

-- bytes are appended to a target's file, which the first append makes
unfoldable pub after_staging : AttemptValue → List ℕ → List ℕ → Disk → Disk
after_staging a target bytes d = after_change (after_append (staged_name a target) bytes)
    (begin_where (is_begun a target) (staged_name a target) d)

-- these files are synced, one after the other
unfoldable pub after_syncs : List (List ℕ) → Disk → Disk
after_syncs [] d = d
after_syncs (name ∷ names) d = after_syncs names (after_change (after_sync name) d)

-- each of these files is there
abbrev pub EachThere : List (List ℕ) → Files → Type 0
EachThere [] m = Unit {0}
EachThere (name ∷ names) m = IsSome (m name) × EachThere names m

-- nothing but these files differs
abbrev pub OnlyAmong : List (List ℕ) → Files → Files → Type 0
OnlyAmong names m n = (other : List ℕ) → list_any (bytes_eq other) names ≡ false → n other ≡ m other

-- the files that were begun are synced
abbrev pub after_sync_calls : AttemptValue → Disk → Disk
after_sync_calls a d = after_syncs (map (staged_name a) a.begun) d

-- where the files held what was appended, they hold these bytes too
abbrev pub HoldsMore : AttemptValue → List ℕ → List ℕ → Disk → Disk → Type 0
HoldsMore a target bytes d e = (contents : Table (List ℕ)) → HoldsStaged a contents d.files
    → HoldsStaged (after_begin target a) (with_appended target bytes contents) e.files

-- where the files held what was appended, they are clean and hold it
abbrev pub HoldsAll : AttemptValue → Disk → Disk → Type 0
HoldsAll a d e = (contents : Table (List ℕ)) → HoldsStaged a contents d.files → HoldsClean a contents e.files
