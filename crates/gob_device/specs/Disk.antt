-- What a volume holds, what a call makes of it, and what a crash leaves of it.
use Rattle.std.specs.Prelude.{◌≡◌, ◌≢◌, ◌⊎◌, ◌↔◌, ℕ, true, if◌then◌else◌, List, [], ◌∷◌, ◌++◌, Contains}
use Rattle.std.specs.Prelude.{OnOk, OnErr, IsSome}
use Rattle.std.specs.declared.option.Option.{Option}
use Rattle.std.specs.declared.option.Option.TheVariants.{None, Some}
use Rattle.std.specs.declared.result.Result.{Result}
use Rattle.std.specs.Prelude.{option_map}
use Rattle.std.specs.Str.{bytes_eq}
use Rattle.gob_bytes.specs.Paths.{begins_with}
use Rattle.gob_bytes.specs.Tables.{IsInByteOrder}

-- a file: all of it is kept, or a crash may lose what is loose
pub data File : Type 0 where
  clean : List ℕ → File
  dirty : (kept loose : List ℕ) → File

abbrev pub kept_bytes : File → List ℕ
kept_bytes (clean bytes) = bytes
kept_bytes (dirty kept loose) = kept

-- what the file reads as
abbrev pub contents_of : File → List ℕ
contents_of (clean bytes) = bytes
contents_of (dirty kept loose) = kept ++ loose

-- names to files
abbrev pub Files : Type 0
Files = List ℕ → Option File

abbrev pub no_files : Files
no_files name = None

abbrev pub contents_at : Files → List ℕ → Option (List ℕ)
contents_at m name = option_map contents_of (m name)

-- this name stands for this file, or for none
abbrev pub put : Files → List ℕ → Option File → Files
put m name file = λ other. if bytes_eq other name then file else m other

-- bytes at the end of a file, which may be lost; no bytes change nothing
abbrev pub with_more : List ℕ → File → File
with_more [] file = file
with_more (b ∷ bs) (clean bytes) = dirty bytes (b ∷ bs)
with_more (b ∷ bs) (dirty kept loose) = dirty kept (loose ++ b ∷ bs)

-- all of a file is kept
abbrev pub synced_file : File → File
synced_file file = clean (contents_of file)

-- what each changing call makes of the map
unfoldable pub after_create : List ℕ → Files → Files
after_create name m = put m name (Some (clean []))

unfoldable pub after_append : List ℕ → List ℕ → Files → Files
after_append name bytes m = put m name (option_map (with_more bytes) (m name))

unfoldable pub after_sync : List ℕ → Files → Files
after_sync name m = put m name (option_map synced_file (m name))

unfoldable pub after_rename : List ℕ → List ℕ → Files → Files
after_rename source target m = put (put m source None) target (m source)

unfoldable pub after_remove : List ℕ → Files → Files
after_remove name m = put m name None

-- a volume that tells: the map that stands, and the maps that stood, one for each changing call
pub record Disk : Type 0 where
  pub files : Files
  pub trail : List Files

-- a changing call that was answered
abbrev pub after_change : (Files → Files) → Disk → Disk
after_change step d = record { files = step d.files; trail = d.trail ++ step d.files ∷ [] }

-- a failed create, rename or remove leaves the map before or the map after
abbrev pub Whole : (Files → Files) → Files → Files → Type 0
Whole step m n = (n ≡ m) ⊎ (n ≡ step m)

-- nothing but this name differs
abbrev pub OnlyAt : List ℕ → Files → Files → Type 0
OnlyAt name m n = (other : List ℕ) → other ≢ name → n other ≡ m other

-- a failed append or sync leaves the kept bytes as before or after the call, and any loose ones
pub record Torn (name : List ℕ) (step : Files → Files) (m n : Files) : Type 0 where
  pub others : OnlyAt name m n
  pub kept : (option_map kept_bytes (n name) ≡ option_map kept_bytes (m name))
      ⊎ (option_map kept_bytes (n name) ≡ option_map kept_bytes (step m name))

-- a failed changing call: the trail has the map that it left, or has nothing more where the map is as it was
pub record FailedChange (failed : Files → Files → Type 0) (d e : Disk) : Type 0 where
  pub files : failed d.files e.files
  pub trail : (e.trail ≡ d.trail ++ e.files ∷ []) ⊎ ((e.trail ≡ d.trail) × (e.files ≡ d.files))

-- of two devices that both tell; a device that doesn't tell never begins to
abbrev pub Both : {A : Type 0} → (A → A → Type 0) → Option A → Option A → Type 0
Both R None None = Unit {0}
Both R (Some a) (Some b) = R a b
Both R None (Some b) = ⊥
Both R (Some a) None = ⊥

-- a changing call, whatever it answers
pub record Changes {T E : Type 0} (step : Files → Files) (failed : Files → Files → Type 0) (old new : Option Disk)
    (result : Result T E) : Type 0 where
  pub ok : OnOk result (new ≡ option_map (after_change step) old)
  pub err : OnErr result (Both (FailedChange failed) old new)

-- a call that changes a map whole or not at all
abbrev pub ChangesWhole : {T E : Type 0} → (Files → Files) → Option Disk → Option Disk → Result T E → Type 0
ChangesWhole step old new result = Changes step (Whole step) old new result

-- a call that may leave this file with other loose bytes
abbrev pub ChangesFile : {T E : Type 0} → List ℕ → (Files → Files) → Option Disk → Option Disk → Result T E → Type 0
ChangesFile name step old new result = Changes step (Torn name step) old new result

-- the names are exactly those with this front, in byte order
pub record IsListing (front : List ℕ) (m : Files) (names : List (List ℕ)) : Type 0 where
  pub rising : IsInByteOrder names
  pub exact : (name : List ℕ) → Contains names name ↔ ((begins_with front name ≡ true) × IsSome (m name))

-- what a crash leaves of a file: a clean one reads exactly, a dirty one has its kept bytes and then any
abbrev pub FileImage : Option File → Option File → Type 0
FileImage None None = Unit {0}
FileImage (Some (clean bytes)) (Some (clean left)) = left ≡ bytes
FileImage (Some (dirty kept loose)) (Some (clean left)) = (tail : List ℕ) × (left ≡ kept ++ tail)
FileImage None (Some f) = ⊥
FileImage (Some f) None = ⊥
FileImage (Some f) (Some (dirty kept loose)) = ⊥

-- what a crash leaves of a map: the same names, each with an image of its file
unfoldable pub Image : Files → Files → Type 0
Image m image = (name : List ℕ) → FileImage (m name) (image name)

-- holds of every image of the map
abbrev pub EveryImage : (Files → Type 0) → Files → Type 0
EveryImage P m = (image : Files) → Image m image → P image

abbrev pub EachOf : (Files → Type 0) → List Files → Type 0
EachOf P [] = Unit {0}
EachOf P (m ∷ ms) = P m × EachOf P ms

-- the map that stands behind these: the last of them, or the first map where there is none
abbrev pub last_map : Files → List Files → Files
last_map m [] = m
last_map m (n ∷ ns) = last_map n ns

-- any number of calls that tell: maps were added, of which this holds with the first map, and the last one stands
pub record Went (Q : Files → List Files → Type 0) (d e : Disk) : Type 0 where
  pub added : List Files
  pub trail : e.trail ≡ d.trail ++ added
  pub stands : e.files ≡ last_map d.files added
  pub holds : Q d.files added

-- the same of calls that may tell nothing
pub record AddsMaps (Q : Files → List Files → Type 0) (old new : Option Disk) : Type 0 where
  pub told : Both (Went Q) old new

-- the first map has R to each that was added
abbrev pub EachFrom : (Files → Files → Type 0) → Files → List Files → Type 0
EachFrom R m added = EachOf (R m) added

abbrev pub Along : (Files → Files → Type 0) → Option Disk → Option Disk → Type 0
Along R old new = AddsMaps (EachFrom R) old new

-- what one changing call adds: the map after it, or the one that it left where it failed, or none
abbrev pub AddsOne : (Files → Files) → (Files → Files → Type 0) → Files → List Files → Type 0
AddsOne step failed m added = (added ≡ []) ⊎ ((n : Files) × (added ≡ n ∷ []) × ((n ≡ step m) ⊎ failed m n))

-- the maps come in as many stretches as the list has members, some of them empty: all of the first have P of the first
-- member, and so on
unfoldable pub Rises : {X : Type 0} → (X → Files → Type 0) → List X → List Files → Type 0
Rises P [] ms = ms ≡ []
Rises P (x ∷ xs) ms =
    (here : List Files) × (later : List Files) × (ms ≡ here ++ later) × EachOf (P x) here × Rises P xs later
