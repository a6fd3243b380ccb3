-- An attempt at a unit: the files that it stages, and what they hold.
use Rattle.std.specs.Prelude.{◌≡◌, ℕ, Bool, true, List, [], ◌∷◌, ◌++◌, map, unwrap_or, IsSome}
use Rattle.std.specs.List.{list_any}
use Rattle.std.specs.declared.cmp.Ordering.{Ordering}
use Rattle.std.specs.declared.cmp.Ordering.TheVariants.{Less, Equal, Greater}
use Rattle.std.specs.declared.option.Option.TheVariants.{Some}
use Rattle.std.specs.Str.{bytes_eq}
use Rattle.gob_bytes.specs.Paths.{under, attempt_folder}
use Rattle.gob_bytes.specs.Tables.{Table, at_name, name_cmp, names_of, with_name}
use Rattle.gob_device.specs.Disk.{Files, clean, contents_at}
use Rattle.gob_plan.specs.declared.units.StagedFile.{StagedFile}

-- whose files are staged, in which folder, and the targets that are begun, in byte order
pub record AttemptValue : Type 0 where
  pub job : List ℕ
  pub folder : List ℕ
  pub begun : List (List ℕ)

-- nothing is begun
abbrev pub new_attempt : List ℕ → ℕ → ℕ → AttemptValue
new_attempt job unit attempt = record { job = job; folder = attempt_folder job unit attempt; begun = [] }

-- the name of a target's staged file
abbrev pub staged_name : AttemptValue → List ℕ → List ℕ
staged_name a target = a.folder ++ target

abbrev pub is_begun : AttemptValue → List ℕ → Bool
is_begun a target = list_any (bytes_eq target) a.begun

-- the targets and this one, in byte order, each once
abbrev pub with_target : List (List ℕ) → List ℕ → List (List ℕ)
with_target [] target = target ∷ []
with_target (t ∷ ts) target = placed (name_cmp target t) (with_target ts target)
  where
    placed : Ordering → List (List ℕ) → List (List ℕ)
    placed Less later = target ∷ t ∷ ts
    placed Equal later = target ∷ ts
    placed Greater later = t ∷ later

-- the target is begun
abbrev pub after_begin : List ℕ → AttemptValue → AttemptValue
after_begin target a = record a { begun = with_target a.begun target }

-- what was appended to each target, with more at the end of this one
abbrev pub with_appended : List ℕ → List ℕ → Table (List ℕ) → Table (List ℕ)
with_appended target bytes contents = with_name contents target (unwrap_or (at_name contents target) [] ++ bytes)

-- a target and the name of its staged file, as what is to be published of a job
abbrev pub staged_entry : List ℕ → List ℕ × List ℕ → StagedFile
staged_entry job e = record { from = e.1; to = under job e.0 }

-- a target's staged file, and the name that it is published under
abbrev pub staged_file : AttemptValue → List ℕ → StagedFile
staged_file a target = staged_entry a.job (target, staged_name a target)

abbrev pub staged_files : AttemptValue → List StagedFile
staged_files a = map (staged_file a) a.begun

-- the files that were begun are there
abbrev pub AreThere : AttemptValue → Files → Type 0
AreThere a m = (target : List ℕ) → is_begun a target ≡ true → IsSome (m (staged_name a target))

-- exactly the targets with contents are begun, and the staged file of each holds them
pub record HoldsStaged (a : AttemptValue) (contents : Table (List ℕ)) (m : Files) : Type 0 where
  pub begun : names_of contents ≡ a.begun
  pub files : (target bytes : List ℕ) → at_name contents target ≡ Some bytes
      → contents_at m (staged_name a target) ≡ Some bytes

-- the same, and no crash takes of it
pub record HoldsClean (a : AttemptValue) (contents : Table (List ℕ)) (m : Files) : Type 0 where
  pub begun : names_of contents ≡ a.begun
  pub files : (target bytes : List ℕ) → at_name contents target ≡ Some bytes
      → m (staged_name a target) ≡ Some (clean bytes)
