-- What taking away the names of the staging leaves.
use Rattle.std.proofs.Common.{◌≡◌, ℕ, zero, suc, true, false, cond, List, [], ◌∷◌, map, refl, sym, ap}
use Rattle.std.proofs.Common.{subst, ◌∙◌, Some, None, IfSome, Contains, arith, is_some}
use Rattle.std.specs.declared.option.Option.{Option}
use Rattle.std.specs.List.{AllByRecursion}
use Rattle.std.specs.Str.{bytes_eq}
use Rattle.std.proofs.lemmas.Slice.Eq.{bytes_eq-Decides}
use Rattle.gob_bytes.specs.Paths.{begins_with, staging}
use Rattle.gob_bytes.proofs.Options.{if_both}
use Rattle.gob_device.specs.Disk.{AddsMaps, Along, Disk, File, Files, IsListing, after_remove}
use Rattle.gob_recovery.specs.Commits.{OnlyBelow}
use Rattle.gob_recovery.specs.Sequence.{remove}
use Rattle.gob_recovery.specs.Settle.{do_steps, without_staging}
use Rattle.gob_recovery.proofs.Again.{Off, steps_off}
use Rattle.gob_recovery.proofs.Commits.{apart_below}
use Rattle.gob_recovery.proofs.Opened.{steps_still}
use Rattle.gob_seq.specs.Maps.{EndsAs, FrontIsDone}
use Rattle.gob_seq.proofs.Trails.{along_known, maps_known}

gone_at : (name x : List ℕ) (m : Files) → bytes_eq name x ≡ true → after_remove x m name ≡ None
unfolding after_remove
gone_at name x m e = ap (λ b. cond b None (m name)) e

stays_at : (name x : List ℕ) (m : Files) → bytes_eq name x ≡ false → after_remove x m name ≡ m name
unfolding after_remove
stays_at name x m e = ap (λ b. cond b None (m name)) e

-- a name that is gone stays so
gone_stays : (names : List (List ℕ)) (name : List ℕ) (m : Files) → m name ≡ None
    → do_steps (map remove names) m name ≡ None
unfolding do_steps
gone_stays [] name m gone = gone
gone_stays (x ∷ xs) name m gone = gone_stays xs name (after_remove x m)
    (elim (bytes_eq name x) as (λ b. bytes_eq name x ≡ b → after_remove x m name ≡ None) [
      | true ↦ λ e. gone_at name x m e
      | false ↦ λ e. stays_at name x m e ∙ gone
    ] refl)

listed_gone : (names : List (List ℕ)) (name : List ℕ) (m : Files) → Contains names name
    → do_steps (map remove names) m name ≡ None
unfolding do_steps
listed_gone [] name m (k, below, is) = absurd (omega (arith, below))
listed_gone (x ∷ xs) name m (zero, below, is) =
    gone_stays xs name (after_remove x m) (gone_at name x m ((bytes_eq-Decides name x).1 (sym is)))
listed_gone (x ∷ xs) name m (suc k, below, is) = listed_gone xs name (after_remove x m) (k, omega (arith, below), is)

-- the names are below the folder
abbrev pub AreBelow : List ℕ → List (List ℕ) → Type 0
AreBelow folder names = (name : List ℕ) → Contains names name → begins_with folder name ≡ true

all_off : (folder : List ℕ) (names : List (List ℕ)) (name : List ℕ) → AreBelow folder names
    → begins_with folder name ≡ false
    → AllByRecursion (λ t. Off t name) (map remove names)
all_off folder [] name below out = tt
all_off folder (x ∷ xs) name below out = (
  (apart_below folder x name (below x (0, omega arith, refl)) out, tt),
  all_off folder xs name (λ y h. below y (suc h.0, omega (arith, h.1), h.2)) out,
)

front_below : (folder : List ℕ) (names : List (List ℕ)) (m n : Files) → AreBelow folder names
    → FrontIsDone (map remove names) m n
    → OnlyBelow folder m n
front_below folder names m n below front = λ name out.
    ap (λ (x : Files). x name) front.1 ∙ steps_off (map remove names) front.0 m name
    (all_off folder names name below out)

others_stay : (folder : List ℕ) (names : List (List ℕ)) (m : Files) (name : List ℕ) → AreBelow folder names
    → begins_with folder name ≡ false → do_steps (map remove names) m name ≡ m name
others_stay folder names m name below out = steps_still (map remove names) m name (all_off folder names name below out)

all_gone : (folder : List ℕ) (names : List (List ℕ)) (m : Files) (name : List ℕ) (file : Option File)
    → IsListing folder m names
    → begins_with folder name ≡ true → m name ≡ file → do_steps (map remove names) m name ≡ None
all_gone folder names m name None listing inside is = gone_stays names name m is
all_gone folder names m name (Some f) listing inside is =
    listed_gone names name m ((listing.exact name).1 (inside, ap (λ o. is_some o) is))

pub cleaned : (job : List ℕ) (names : List (List ℕ)) (m : Files) → IsListing (staging job) m names
    → do_steps (map remove names) m ≡ without_staging job m
unfolding without_staging
cleaned job names m listing = λ i name. each name i
  where
    below : AreBelow (staging job) names
    below name h = ((listing.exact name).0 h).0

    each : (name : List ℕ) → do_steps (map remove names) m name ≡ cond (begins_with (staging job) name) None (m name)
    each name = elim (begins_with (staging job) name) as
        (λ b. begins_with (staging job) name ≡ b → do_steps (map remove names) m name ≡ cond b None (m name)) [
          | true ↦ λ e. all_gone (staging job) names m name (m name) listing e refl
          | false ↦ λ e. others_stay (staging job) names m name below e
        ] refl

-- ---- the calls that do it

pub cleans_below : (job : List ℕ) (names : List (List ℕ)) {old new : Option Disk}
    → IfSome old (λ d. IsListing (staging job) d.files names) → Along (FrontIsDone (map remove names)) old new
    → Along (OnlyBelow (staging job)) old new
cleans_below job names {old} listing a = along_known (FrontIsDone (map remove names)) (OnlyBelow (staging job))
    (if_both old (λ d l n f. front_below (staging job) names d.files n (λ name h. ((l.exact name).0 h).0) f) listing) a

pub cleans_all : (job : List ℕ) (names : List (List ℕ)) {old new : Option Disk}
    → IfSome old (λ d. IsListing (staging job) d.files names) → AddsMaps (EndsAs (do_steps (map remove names))) old new
    → AddsMaps (EndsAs (without_staging job)) old new
cleans_all job names {old} listing a = maps_known (if_both old (λ d l xs p. p ∙ cleaned job names d.files l) listing) a

-- the same by the folder and the list that the calls were given
pub names_below : (job folder : List ℕ) (names given : List (List ℕ)) {old between new : Option Disk}
    → folder ≡ staging job
    → given ≡ names → between ≡ old → IfSome old (λ d. IsListing folder d.files names)
    → Along (FrontIsDone (map remove given)) between new → Along (OnlyBelow (staging job)) old new
names_below job folder names given {old} {between} {new} at is same listing a =
    cleans_below job names (if_both old (λ d l. subst (λ f. IsListing f d.files names) at l) listing)
    (subst (λ o. Along (FrontIsDone (map remove names)) o new) same
    (subst (λ t. Along (FrontIsDone (map remove t)) between new) is a))

pub names_gone : (job folder : List ℕ) (names given : List (List ℕ)) {old between new : Option Disk}
    → folder ≡ staging job
    → given ≡ names → between ≡ old → IfSome old (λ d. IsListing folder d.files names)
    → AddsMaps (EndsAs (do_steps (map remove given))) between new → AddsMaps (EndsAs (without_staging job)) old new
names_gone job folder names given {old} {between} {new} at is same listing a =
    cleans_all job names (if_both old (λ d l. subst (λ f. IsListing f d.files names) at l) listing)
    (subst (λ o. AddsMaps (EndsAs (do_steps (map remove names))) o new) same
    (subst (λ t. AddsMaps (EndsAs (do_steps (map remove t))) between new) is a))
