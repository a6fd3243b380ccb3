-- What an attempt's files hold after each call.
use Rattle.std.proofs.Common.{◌≡◌, ◌≢◌, ℕ, Bool, true, false, cond, ◌||◌, List, [], ◌∷◌, ◌++◌, map, refl, sym, ap}
use Rattle.std.proofs.Common.{subst, ◌∙◌, Some, None, option_map, is_some, IsSome, IfSome, unwrap_or, Contains}
use Rattle.std.specs.declared.option.Option.{Option}
use Rattle.std.specs.List.{list_any}
use Rattle.std.specs.Str.{bytes_eq}
use Rattle.gob_bytes.specs.Tables.{Table, at_name, names_of, with_name}
use Rattle.gob_bytes.proofs.Tables.{at-with_name, name_itself, same_name, two_names}
use Rattle.gob_bytes.proofs.Paths.{front_more}
use Rattle.gob_device.specs.Disk.{Both, Disk, File, Files, OnlyAt, after_append, after_change, after_create, after_sync}
use Rattle.gob_device.specs.Disk.{clean, contents_at, contents_of, synced_file, with_more}
use Rattle.gob_device.proofs.Trail.{both_map}
use Rattle.gob_stage.specs.Attempt.{AreThere, AttemptValue, HoldsClean, HoldsStaged, after_begin, is_begun, staged_name}
use Rattle.gob_stage.specs.Attempt.{with_appended, with_target}
use Rattle.gob_stage.specs.Laws.{SameBelow}
use Rattle.gob_stage.specs.Stages.{HoldsAll, HoldsMore, after_sync_calls, after_staging, after_syncs, begin_where}
use Rattle.gob_stage.proofs.Names.{any_with, apart_in, begun_is, names_with}
use Rattle.gob_stage.proofs.Maps.{appended_here, appended_other, by_name, clean_synced, contents_more, contents_synced}
use Rattle.gob_stage.proofs.Maps.{created_here, created_other, synced_here, there_mapped}

-- where a device tells, this holds of what stood and what stands
pub both_told : (R : Disk → Disk → Type 0) (step : Disk → Disk) → ((d : Disk) → R d (step d)) → (old new : Option Disk)
    → new ≡ option_map step old → Both R old new
both_told R step holds None new is = subst (λ n. Both R None n) (sym is) tt
both_told R step holds (Some d) new is = subst (λ n. Both R (Some d) n) (sym is) (holds d)

begun_in : (a : AttemptValue) (contents : Table (List ℕ)) → names_of contents ≡ a.begun → (target : List ℕ)
    → is_begun a target ≡ is_some (at_name contents target)
begun_in a contents is target = ap (list_any (bytes_eq target)) (sym is) ∙ begun_is contents target

-- what the target's file held, before bytes are appended to it
begun_contents : (a : AttemptValue) (target : List ℕ) (contents : Table (List ℕ)) (d : Disk)
    → HoldsStaged a contents d.files
    → contents_at (begin_where (is_begun a target) (staged_name a target) d).files (staged_name a target) ≡ Some
    (unwrap_or (at_name contents target) [])
begun_contents a target contents d held = cases (at_name contents target) refl
  where
    name : List ℕ
    name = staged_name a target

    cases : (o : Option (List ℕ)) → at_name contents target ≡ o
        → contents_at (begin_where (is_begun a target) name d).files name ≡ Some (unwrap_or o [])
    cases None is =
        let new : is_begun a target ≡ false = begun_in a contents held.begun target ∙ ap (λ o. is_some o) is in
        ap (λ b. contents_at (begin_where b name d).files name) new
        ∙ ap (option_map contents_of) (created_here name d.files)
    cases (Some bytes) is =
        let old : is_begun a target ≡ true = begun_in a contents held.begun target ∙ ap (λ o. is_some o) is in
        ap (λ b. contents_at (begin_where b name d).files name) old ∙ held.files target bytes is

begun_other : (b : Bool) (name : List ℕ) (d : Disk) → OnlyAt name d.files (begin_where b name d).files
begun_other true name d other apart = refl
begun_other false name d other apart = created_other name d.files other apart

more_of : (bytes before : List ℕ) (o : Option File) → option_map contents_of o ≡ Some before
    → option_map contents_of (option_map (with_more bytes) o) ≡ Some (before ++ bytes)
more_of bytes before None is = absurd (let no : None ≡ Some before = is in cc)
more_of bytes before (Some f) is =
    let same : contents_of f ≡ before = cc in
    ap Some (contents_more bytes f ∙ ap (λ c. c ++ bytes) same)

pub holds_more : (a : AttemptValue) (target bytes : List ℕ) (d : Disk)
    → HoldsMore a target bytes d (after_staging a target bytes d)
unfolding after_staging
holds_more a target bytes d contents held = record {
  begun = names_with contents target more ∙ ap (λ ts. with_target ts target) held.begun;
  files = files;
}
  where
    name : List ℕ
    name = staged_name a target

    more : List ℕ
    more = unwrap_or (at_name contents target) [] ++ bytes

    mid : Disk
    mid = begin_where (is_begun a target) name d

    here : contents_at (after_append name bytes mid.files) name ≡ Some more
    here = ap (option_map contents_of) (appended_here name bytes mid.files)
        ∙ more_of bytes (unwrap_or (at_name contents target) []) (mid.files name)
        (begun_contents a target contents d held)

    files : (q content : List ℕ) → at_name (with_appended target bytes contents) q ≡ Some content
        → contents_at (after_append name bytes mid.files) (staged_name a q) ≡ Some content
    files q content is = cases (bytes_eq q target) refl (sym (at-with_name contents target more q) ∙ is)
      where
        cases : (b : Bool) → bytes_eq q target ≡ b → cond b (Some more) (at_name contents q) ≡ Some content
            → contents_at (after_append name bytes mid.files) (staged_name a q) ≡ Some content
        cases true e found = ap (λ t. contents_at (after_append name bytes mid.files) (staged_name a t))
            (same_name q target e) ∙ (here ∙ found)
        cases false e found =
            let apart : staged_name a q ≢ name = apart_in a.folder q target e in
            ap (option_map contents_of) (appended_other name bytes mid.files (staged_name a q) apart
            ∙ begun_other (is_begun a target) name d (staged_name a q) apart)
            ∙ held.files q content found

-- ---- syncs

pub syncs_contents : (names : List (List ℕ)) (d : Disk) (q : List ℕ)
    → contents_at (after_syncs names d).files q ≡ contents_at d.files q
unfolding after_syncs
syncs_contents [] d q = refl
syncs_contents (name ∷ names) d q = syncs_contents names (after_change (after_sync name) d) q
    ∙ contents_synced name q d.files

syncs_clean : (names : List (List ℕ)) (d : Disk) (q bytes : List ℕ) → d.files q ≡ Some (clean bytes)
    → (after_syncs names d).files q ≡ Some (clean bytes)
unfolding after_syncs
syncs_clean [] d q bytes is = is
syncs_clean (name ∷ names) d q bytes is = syncs_clean names (after_change (after_sync name) d) q bytes
    (clean_synced name q bytes d.files is)

synced_bytes : (o : Option File) (bytes : List ℕ) → option_map contents_of o ≡ Some bytes
    → option_map synced_file o ≡ Some (clean bytes)
synced_bytes None bytes is = absurd (let no : None ≡ Some bytes = is in cc)
synced_bytes (Some f) bytes is = let same : contents_of f ≡ bytes = cc in ap (λ c. Some (clean c)) same

pub syncs_each : (names : List (List ℕ)) (d : Disk) (q bytes : List ℕ) → list_any (bytes_eq q) names ≡ true
    → contents_at d.files q ≡ Some bytes
    → (after_syncs names d).files q ≡ Some (clean bytes)
unfolding after_syncs
syncs_each [] d q bytes there is = absurd (let no : false ≡ true = there in cc)
syncs_each (name ∷ names) d q bytes there is = cases (bytes_eq q name) refl there
    (λ later. syncs_each names next q bytes later (contents_synced name q d.files ∙ is))
  where
    next : Disk
    next = after_change (after_sync name) d

    cases : (b : Bool) → bytes_eq q name ≡ b → (b || list_any (bytes_eq q) names) ≡ true
        → (list_any (bytes_eq q) names ≡ true → (after_syncs names next).files q ≡ Some (clean bytes))
        → (after_syncs names next).files q ≡ Some (clean bytes)
    cases true e there later = syncs_clean names next q bytes
        (ap (after_sync name d.files) (same_name q name e)
        ∙ (synced_here name d.files ∙ synced_bytes (d.files name) bytes
        (ap (contents_at d.files) (sym (same_name q name e)) ∙ is)))
    cases false e there later = later there

any_mapped : (folder : List ℕ) (ts : List (List ℕ)) (t : List ℕ) → list_any (bytes_eq t) ts ≡ true
    → list_any (bytes_eq (folder ++ t)) (map (λ t. folder ++ t) ts) ≡ true
any_mapped folder [] t there = there
any_mapped folder (u ∷ ts) t there = cases (bytes_eq t u) refl there (any_mapped folder ts t)
  where
    Wanted : Bool → Type 0
    Wanted b = (b || list_any (bytes_eq (folder ++ t)) (map (λ t. folder ++ t) ts)) ≡ true

    either : (b : Bool) → list_any (bytes_eq (folder ++ t)) (map (λ t. folder ++ t) ts) ≡ true → Wanted b
    either true rest = refl
    either false rest = rest

    cases : (b : Bool) → bytes_eq t u ≡ b → (b || list_any (bytes_eq t) ts) ≡ true
        → (list_any (bytes_eq t) ts ≡ true → list_any (bytes_eq (folder ++ t)) (map (λ t. folder ++ t) ts) ≡ true)
        → Wanted (bytes_eq (folder ++ t) (folder ++ u))
    cases true e there later =
        subst Wanted (sym (subst (λ n. bytes_eq (folder ++ t) (folder ++ n) ≡ true) (same_name t u e)
        (name_itself (folder ++ t)))) refl
    cases false e there later = either (bytes_eq (folder ++ t) (folder ++ u)) (later there)

pub holds_all : (a : AttemptValue) (d : Disk) → HoldsAll a d (after_sync_calls a d)
holds_all a d contents held = record {
  begun = held.begun;
  files = λ target bytes is. syncs_each (map (staged_name a) a.begun) d (staged_name a target) bytes
      (any_mapped a.folder a.begun target (begun_in a contents held.begun target ∙ ap (λ o. is_some o) is))
      (held.files target bytes is);
}

-- what is held is there
pub held_there : (a : AttemptValue) (contents : Table (List ℕ)) (m : Files) → HoldsStaged a contents m → AreThere a m
held_there a contents m held target begun = cases (at_name contents target)
    (sym (begun_in a contents held.begun target) ∙ begun) (held.files target)
  where
    some_file : (o : Option File) (bytes : List ℕ) → option_map contents_of o ≡ Some bytes → IsSome o
    some_file None bytes is = absurd (let no : None ≡ Some bytes = is in cc)
    some_file (Some f) bytes is = refl

    cases : (o : Option (List ℕ)) → is_some o ≡ true → ((bytes : List ℕ) → o ≡ Some bytes
        → contents_at m (staged_name a target) ≡ Some bytes) → IsSome (m (staged_name a target))
    cases None some files = absurd (let no : false ≡ true = some in cc)
    cases (Some bytes) some files = some_file (m (staged_name a target)) bytes (files bytes refl)

-- a map in which the attempt's folder is as before holds as much
pub staged_same : (a : AttemptValue) (contents : Table (List ℕ)) (m n : Files) → SameBelow a.folder m n
    → HoldsStaged a contents m → HoldsStaged a contents n
staged_same a contents m n same held = record {
  begun = held.begun;
  files = λ target bytes is. ap (option_map contents_of) (same (staged_name a target) (front_more a.folder target))
      ∙ held.files target bytes is;
}

pub clean_same : (a : AttemptValue) (contents : Table (List ℕ)) (m n : Files) → SameBelow a.folder m n
    → HoldsClean a contents m → HoldsClean a contents n
clean_same a contents m n same held = record {
  begun = held.begun;
  files = λ target bytes is. same (staged_name a target) (front_more a.folder target) ∙ held.files target bytes is;
}

-- ---- what was begun stays there

made_there : (b : Bool) (name : List ℕ) (d : Disk) → (b ≡ true → IsSome (d.files name))
    → IsSome ((begin_where b name d).files name)
made_there true name d there = there refl
made_there false name d there = ap (λ o. is_some o) (created_here name d.files)

staging_there : (a : AttemptValue) (target bytes : List ℕ) (d : Disk) → AreThere a d.files
    → AreThere (after_begin target a) (after_staging a target bytes d).files
unfolding after_staging
staging_there a target bytes d there q begun = by_name target q
    (IsSome (after_append name bytes mid.files (staged_name a q)))
    (λ same. subst (λ t. IsSome (after_append name bytes mid.files (staged_name a t))) (sym same)
    (subst (λ (o : Option File). IsSome o) (sym (appended_here name bytes mid.files))
    (there_mapped (with_more bytes) (mid.files name) (made_there (is_begun a target) name d (there target)))))
    (λ apart. let off : bytes_eq q target ≡ false = two_names q target apart in
    let other : staged_name a q ≢ name = apart_in a.folder q target off in
    subst (λ (o : Option File). IsSome o)
    (sym (appended_other name bytes mid.files (staged_name a q) other
    ∙ begun_other (is_begun a target) name d (staged_name a q) other))
    (there q (any_with a.begun target q off begun)))
  where
    name : List ℕ
    name = staged_name a target

    mid : Disk
    mid = begin_where (is_begun a target) name d

pub there_told : (a b : AttemptValue) (target bytes : List ℕ) (old new : Option Disk) → b ≡ after_begin target a
    → new ≡ option_map (after_staging a target bytes) old
    → IfSome old (λ d. AreThere a d.files) → IfSome new (λ d. AreThere b d.files)
there_told a b target bytes old new is changed there =
    subst (λ v. IfSome new (λ d. AreThere v d.files)) (sym is)
    (subst (λ o. IfSome o (λ d. AreThere (after_begin target a) d.files)) (sym changed) (told old there))
  where
    told : (o : Option Disk) → IfSome o (λ d. AreThere a d.files)
        → IfSome (option_map (after_staging a target bytes) o) (λ d. AreThere (after_begin target a) d.files)
    told None there = tt
    told (Some d) there = staging_there a target bytes d there
