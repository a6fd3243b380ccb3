-- What an attempt's fields say of its value.
use Rattle.std.proofs.Common.{◌≡◌, ◌≢◌, ℕ, Bool, true, false, cond, ◌&&◌, ◌||◌, List, [], ◌∷◌, ◌++◌, map, refl, sym, ap}
use Rattle.std.proofs.Common.{subst, ◌∙◌, Some, None, option_map, is_some, IsSome, IfSome}
use Rattle.std.specs.declared.cmp.Ordering.{Ordering}
use Rattle.std.specs.declared.cmp.Ordering.TheVariants.{Less, Equal}
use Rattle.std.specs.declared.option.Option.{Option}
use Rattle.std.specs.List.{list_all, list_any}
use Rattle.std.specs.Ordering.{nat_cmp, ordering_then}
use Rattle.std.specs.Str.{bytes_eq}
use Rattle.std.proofs.lemmas.Bool.{and_parts, and_from, true≢false}
use Rattle.std.proofs.lemmas.Cmp.{nat_cmp_total, tied_itself}
use Rattle.gob_bytes.specs.Paths.{begins_with, under}
use Rattle.gob_bytes.specs.Tables.{Table, IsInByteOrder, at_name, name_cmp, names_of, with_name}
use Rattle.gob_bytes.proofs.Tables.{name_itself, two_names}
use Rattle.gob_bytes.proofs.Paths.{front_more}
use Rattle.gob_device.specs.Disk.{Along, Disk, Files, after_append, after_change}
use Rattle.gob_device.specs.Names.{IsPathname, is_pathname}
use Rattle.gob_device.proofs.Trail.{along_map}
use Rattle.gob_plan.specs.declared.units.StagedFile.{StagedFile}
use Rattle.gob_recovery.specs.Commits.{OnlyBelow}
use Rattle.gob_stage.specs.Attempt.{AreThere, AttemptValue, after_begin, is_begun, staged_entry, staged_file}
use Rattle.gob_stage.specs.Attempt.{staged_files, staged_name, with_target}
use Rattle.gob_stage.specs.Inside.{AreStagingTargets}
use Rattle.gob_stage.specs.Stages.{EachThere, OnlyAmong, after_sync_calls, after_making, after_staging, after_syncs}
use Rattle.gob_stage.specs.Stages.{begin_where}
use Rattle.gob_stage.proofs.Names.{begun_is, kept_more, kept_name, kept_path, named_in, names_with}
use Rattle.gob_stage.proofs.Names.{with_begun}

pub record Opened (a : AttemptValue) (folder : List ℕ) (files : Table (List ℕ)) : Type 0 where
  pub folder_is : folder ≡ a.folder
  pub begun_is : names_of files ≡ a.begun
  pub kept : AreStagingTargets folder files

-- ---- a target that is begun, or isn't

pub found_name : (a : AttemptValue) (folder : List ℕ) (files : Table (List ℕ)) (target name : List ℕ)
    → Opened a folder files
    → Some name ≡ at_name files target → name ≡ staged_name a target
found_name a folder files target name o found = kept_name folder files target name o.kept.staged (sym found)
    ∙ ap (λ f. f ++ target) o.folder_is

pub found_path : (a : AttemptValue) (folder : List ℕ) (files : Table (List ℕ)) (target name : List ℕ)
    → Opened a folder files
    → Some name ≡ at_name files target → IsPathname name
found_path a folder files target name o found =
    subst IsPathname (sym (kept_name folder files target name o.kept.staged (sym found)))
    (named_in folder target o.kept.folder_named (kept_path files target name o.kept.targets_named (sym found)))

begun_by : (a : AttemptValue) (folder : List ℕ) (files : Table (List ℕ)) (target : List ℕ) → Opened a folder files
    → is_begun a target ≡ is_some (at_name files target)
begun_by a folder files target o = ap (list_any (bytes_eq target)) (sym o.begun_is) ∙ begun_is files target

pub found_begun : (a : AttemptValue) (folder : List ℕ) (files : Table (List ℕ)) (target name : List ℕ)
    → Opened a folder files
    → Some name ≡ at_name files target → is_begun a target ≡ true
found_begun a folder files target name o found = begun_by a folder files target o ∙ ap (λ x. is_some x) (sym found)

pub not_begun : (a : AttemptValue) (folder : List ℕ) (files : Table (List ℕ)) (target : List ℕ) → Opened a folder files
    → None ≡ at_name files target → is_begun a target ≡ false
not_begun a folder files target o found = begun_by a folder files target o ∙ ap (λ x. is_some x) (sym found)

pub begun_again : (a : AttemptValue) (folder : List ℕ) (files : Table (List ℕ)) (target : List ℕ)
    → Opened a folder files
    → is_begun a target ≡ true → a ≡ after_begin target a
begun_again a folder files target o begun =
    ap (λ ts. record a { begun = ts }) (sym (with_begun a.begun target (subst IsInByteOrder o.begun_is o.kept.rising)
    begun))

-- ---- a target more

pub kept_added : (a : AttemptValue) (folder : List ℕ) (files more : Table (List ℕ)) (target name : List ℕ)
    → Opened a folder files
    → IsPathname target → name ≡ staged_name a target → more ≡ with_name files target name
    → AreStagingTargets folder more
kept_added a folder files more target name o named is added =
    let here : name ≡ folder ++ target = is ∙ ap (λ f. f ++ target) (sym o.folder_is) in
    subst (AreStagingTargets folder) (sym (added ∙ ap (with_name files target) here))
    (kept_more folder files target o.kept named)

pub view_added : (a : AttemptValue) (job folder : List ℕ) (files more : Table (List ℕ)) (target name : List ℕ)
    → (let v : AttemptValue = record { job = job; folder = folder; begun = names_of files } in v) ≡ a
    → more ≡ with_name files target name
    → (let v : AttemptValue = record { job = job; folder = folder; begun = names_of more } in v) ≡ after_begin target a
view_added a job folder files more target name is added =
    ap with_names (ap names_of added ∙ names_with files target name) ∙ ap (after_begin target) is
  where
    with_names : List (List ℕ) → AttemptValue
    with_names ns = record { job = job; folder = folder; begun = ns }

pub staged_begun : (a : AttemptValue) (target name bytes : List ℕ) (o : Option Disk) → is_begun a target ≡ true
    → name ≡ staged_name a target
    → option_map (after_change (after_append name bytes)) o ≡ option_map (after_staging a target bytes) o
unfolding after_staging
staged_begun a target name bytes None begun is = refl
staged_begun a target name bytes (Some d) begun is =
    ap Some (ap (λ n. after_change (after_append n bytes) d) is
    ∙ ap (λ b. after_change (after_append (staged_name a target) bytes) (begin_where b (staged_name a target) d))
    (sym begun))

pub staged_new : (a : AttemptValue) (target name bytes : List ℕ) (o : Option Disk) → is_begun a target ≡ false
    → name ≡ staged_name a target
    → option_map (after_making name bytes) o ≡ option_map (after_staging a target bytes) o
unfolding after_staging
staged_new a target name bytes None begun is = refl
staged_new a target name bytes (Some d) begun is =
    ap Some (ap (λ n. after_making n bytes d) is
    ∙ ap (λ b. after_change (after_append (staged_name a target) bytes) (begin_where b (staged_name a target) d))
    (sym begun))

pub in_folder : (a : AttemptValue) (target name : List ℕ) → name ≡ staged_name a target
    → begins_with a.folder name ≡ true
in_folder a target name is = subst (λ n. begins_with a.folder n ≡ true) (sym is) (front_more a.folder target)

-- ---- all files

kept_all : (folder : List ℕ) (files : Table (List ℕ)) → map (λ e. e.1) files ≡ map (λ e. folder ++ e.0) files
    → map (λ e. e.1) files ≡ map (λ t. folder ++ t) (names_of files)
kept_all folder files staged = staged ∙ apart files
  where
    apart : (t : Table (List ℕ)) → map (λ e. folder ++ e.0) t ≡ map (λ t. folder ++ t) (names_of t)
    apart [] = refl
    apart (e ∷ es) = ap (λ ns. (folder ++ e.0) ∷ ns) (apart es)

pub kept_names : (a : AttemptValue) (folder : List ℕ) (files : Table (List ℕ)) → Opened a folder files
    → map (λ e. e.1) files ≡ map (staged_name a) a.begun
kept_names a folder files o =
    kept_all folder files o.kept.staged ∙ (ap (λ f. map (λ t. f ++ t) (names_of files)) o.folder_is
    ∙ ap (map (staged_name a)) o.begun_is)

all_named : (folder : List ℕ) (ts : List (List ℕ)) → IsPathname folder → list_all is_pathname ts ≡ true
    → list_all is_pathname (map (λ t. folder ++ t) ts) ≡ true
all_named folder [] named all = refl
all_named folder (t ∷ ts) named all =
    let parts = and_parts (is_pathname t) (list_all is_pathname ts) all in
    and_from (is_pathname (folder ++ t)) (list_all is_pathname (map (λ t. folder ++ t) ts))
    (named_in folder t named parts.0) (all_named folder ts named parts.1)

pub files_named : (a : AttemptValue) (folder : List ℕ) (files : Table (List ℕ)) → Opened a folder files
    → list_all is_pathname (map (λ e. e.1) files) ≡ true
files_named a folder files o =
    subst (λ ns. list_all is_pathname ns ≡ true) (sym (kept_all folder files o.kept.staged))
    (all_named folder (names_of files) o.kept.folder_named o.kept.targets_named)

each_there : (folder : List ℕ) (ts : List (List ℕ)) (m : Files)
    → ((t : List ℕ) → list_any (bytes_eq t) ts ≡ true → IsSome (m (folder ++ t)))
    → EachThere (map (λ t. folder ++ t) ts) m
each_there folder [] m there = tt
each_there folder (t ∷ ts) m there = (
  there t (ap (λ b. b || list_any (bytes_eq t) ts) (name_itself t)),
  each_there folder ts m (λ u within. there u (ap (λ b. bytes_eq u t || b) within ∙ either (bytes_eq u t))),
)
  where
    either : (b : Bool) → b || true ≡ true
    either true = refl
    either false = refl

pub files_there : (a : AttemptValue) (folder : List ℕ) (files : Table (List ℕ)) (o : Option Disk)
    → Opened a folder files
    → IfSome o (λ d. AreThere a d.files) → IfSome o (λ d. EachThere (map (λ e. e.1) files) d.files)
files_there a folder files None is there = tt
files_there a folder files (Some d) is there =
    subst (λ ns. EachThere ns d.files) (sym (kept_names a folder files is)) (each_there a.folder a.begun d.files there)

kept_entries : (job folder : List ℕ) (files : Table (List ℕ)) → map (λ e. e.1) files ≡ map (λ e. folder ++ e.0) files
    → map (staged_entry job) files ≡ map (λ t. staged_entry job (t, folder ++ t)) (names_of files)
kept_entries job folder [] staged = refl
kept_entries job folder (e ∷ es) staged =
    let both : e.1 ∷ map (λ d. d.1) es ≡ (folder ++ e.0) ∷ map (λ d. folder ++ d.0) es = staged in
    let first : e.1 ≡ folder ++ e.0 = cc in
    let rest : map (λ d. d.1) es ≡ map (λ d. folder ++ d.0) es = cc in
    λ i. staged_entry job (e.0, first i) ∷ kept_entries job folder es rest i

pub files_staged : (a : AttemptValue) (job folder : List ℕ) (files : Table (List ℕ)) → Opened a folder files
    → job ≡ a.job
    → map (staged_entry job) files ≡ staged_files a
files_staged a job folder files o is =
    ap (λ j. map (staged_entry j) files) is
    ∙ (kept_entries a.job folder files o.kept.staged
    ∙ (ap (λ f. map (λ t. staged_entry a.job (t, f ++ t)) (names_of files)) o.folder_is
    ∙ ap (map (staged_file a)) o.begun_is))

-- ---- the order of what is to be published

cmp_front : (front x y : List ℕ) → name_cmp (front ++ x) (front ++ y) ≡ name_cmp x y
cmp_front [] x y = refl
cmp_front (b ∷ front) x y =
    ap (λ o. ordering_then o (name_cmp (front ++ x) (front ++ y))) (tied_itself nat_cmp_total b) ∙ cmp_front front x y

rising_behind : (front : List ℕ) (ts : List (List ℕ)) → IsInByteOrder ts → IsInByteOrder (map (λ t. front ++ t) ts)
rising_behind front [] rising = tt
rising_behind front (t ∷ []) rising = tt
rising_behind front (t ∷ u ∷ ts) rising = (cmp_front front t u ∙ rising.0, rising_behind front (u ∷ ts) rising.1)

pub files_rising : (a : AttemptValue) (folder : List ℕ) (files : Table (List ℕ)) → Opened a folder files
    → IsInByteOrder (map (λ f. f.to) (staged_files a))
files_rising a folder files o = subst IsInByteOrder (targets a.begun)
    (rising_behind (a.job ++ 47 ∷ []) a.begun (subst IsInByteOrder o.begun_is o.kept.rising))
  where
    one : (job t : List ℕ) → (job ++ 47 ∷ []) ++ t ≡ under job t
    one [] t = refl
    one (b ∷ job) t = ap (λ n. b ∷ n) (one job t)

    targets : (ts : List (List ℕ)) → map (λ t. (a.job ++ 47 ∷ []) ++ t) ts ≡ map (λ f. f.to) (map (staged_file a) ts)
    targets [] = refl
    targets (t ∷ ts) = λ i. one a.job t i ∷ targets ts i

-- ---- nothing outside the folder

none_outside : (folder q : List ℕ) (ts : List (List ℕ)) → begins_with folder q ≡ false
    → list_any (bytes_eq q) (map (λ t. folder ++ t) ts) ≡ false
none_outside folder q [] out = refl
none_outside folder q (t ∷ ts) out =
    ap (λ b. b || list_any (bytes_eq q) (map (λ t. folder ++ t) ts)) (two_names q (folder ++ t) apart)
    ∙ none_outside folder q ts out
  where
    apart : q ≢ folder ++ t
    apart is = true≢false (sym (front_more folder t) ∙ (ap (begins_with folder) (sym is) ∙ out))

pub among_below : (a : AttemptValue) (folder : List ℕ) (files : Table (List ℕ)) (m n : Files) → Opened a folder files
    → OnlyAmong (map (λ e. e.1) files) m n → OnlyBelow a.folder m n
among_below a folder files m n o only q out =
    only q (ap (list_any (bytes_eq q)) (kept_names a folder files o) ∙ none_outside a.folder q a.begun out)

-- ---- the list of files that is lent

pub kept_none : (folder : List ℕ) (files : Table (List ℕ)) → IsPathname folder → files ≡ []
    → AreStagingTargets folder files
kept_none folder files named none = subst (AreStagingTargets folder) (sym none) empty
  where
    empty : AreStagingTargets folder []
    empty = record { folder_named = named; rising = tt; staged = refl; targets_named = refl }

pub lent_below : (a : AttemptValue) (folder : List ℕ) (files lent : Table (List ℕ)) {old new : Option Disk}
    → Opened a folder files → lent ≡ files
    → Along (OnlyAmong (map (λ e. e.1) lent)) old new → Along (OnlyBelow a.folder) old new
lent_below a folder files lent o is only =
    along_map (OnlyAmong (map (λ e. e.1) lent)) (OnlyBelow a.folder)
    (λ m n among. among_below a folder files m n o (subst
    (λ (fs : Table (List ℕ)). OnlyAmong (map (λ e. e.1) fs) m n) is among)) only

pub lent_synced : (a : AttemptValue) (folder : List ℕ) (files lent : Table (List ℕ)) (old : Option Disk)
    → Opened a folder files → lent ≡ files
    → option_map (after_syncs (map (λ e. e.1) lent)) old ≡ option_map (after_sync_calls a) old
lent_synced a folder files lent old o is = ap (λ ns. option_map (after_syncs ns) old)
    (ap (map (λ (e : List ℕ × List ℕ). e.1)) is ∙ kept_names a folder files o)

pub lent_staged : (a : AttemptValue) (job folder : List ℕ) (files lent : Table (List ℕ)) → Opened a folder files
    → lent ≡ files → job ≡ a.job
    → map (staged_entry job) lent ≡ staged_files a
lent_staged a job folder files lent o is same = ap (map (staged_entry job)) is ∙ files_staged a job folder files o same

pub lent_there : (a : AttemptValue) (folder : List ℕ) (files lent : Table (List ℕ)) (o : Option Disk)
    → Opened a folder files → lent ≡ files
    → IfSome o (λ d. AreThere a d.files) → IfSome o (λ d. EachThere (map (λ e. e.1) lent) d.files)
lent_there a folder files lent o is same there =
    subst (λ (fs : Table (List ℕ)). IfSome o (λ d. EachThere (map (λ e. e.1) fs) d.files)) (sym same)
    (files_there a folder files o is there)

pub lent_named : (a : AttemptValue) (folder : List ℕ) (files lent : Table (List ℕ)) → Opened a folder files
    → lent ≡ files → list_all is_pathname (map (λ e. e.1) lent) ≡ true
lent_named a folder files lent is same =
    subst (λ (fs : Table (List ℕ)). list_all is_pathname (map (λ e. e.1) fs) ≡ true) (sym same)
    (files_named a folder files is)
