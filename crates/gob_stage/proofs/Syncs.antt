-- Files that are synced one after the other.
use Rattle.std.proofs.Common.{◌≡◌, ◌≢◌, ℕ, zero, suc, ◌+◌, ◌<◌, ◌≤◌, Bool, true, false, ◌||◌, List, [], ◌∷◌, map, drop}
use Rattle.std.proofs.Common.{length, get_or, refl, sym, ap, subst, ◌∙◌, Some, None, option_map, IsSome, IfSome, arith}
use Rattle.std.proofs.Common.{add-one, drop-cons}
use Rattle.std.specs.declared.option.Option.{Option}
use Rattle.std.specs.List.{list_all, list_any}
use Rattle.std.specs.Str.{bytes_eq}
use Rattle.std.proofs.lemmas.Bool.{and_parts, true≢false}
use Rattle.gob_bytes.specs.Tables.{Table}
use Rattle.gob_bytes.proofs.Tables.{name_itself}
use Rattle.gob_device.specs.Disk.{Along, Disk, Files, OnlyAt, after_change, after_sync}
use Rattle.gob_device.specs.Names.{is_pathname}
use Rattle.gob_device.proofs.Trail.{along_map, along_nothing, along_then}
use Rattle.gob_stage.specs.Stages.{EachThere, OnlyAmong, after_syncs}
use Rattle.gob_stage.proofs.Maps.{there_synced}

-- so many of these files are synced
pub record Syncs (names : List (List ℕ)) (i : ℕ) (old now : Option Disk) : Type 0 where
  pub disk : option_map (after_syncs (drop i names)) now ≡ option_map (after_syncs names) old
  pub there : IfSome now (λ d. EachThere (drop i names) d.files)
  pub named : list_all is_pathname (drop i names) ≡ true
  pub only : Along (OnlyAmong names) old now

pub syncs_none : (names : List (List ℕ)) (o : Option Disk) → IfSome o (λ d. EachThere names d.files)
    → list_all is_pathname names ≡ true → Syncs names 0 o o
syncs_none names o there named = record {
  disk = refl;
  there = there;
  named = named;
  only =
      along_nothing (OnlyAmong names) o;
}

-- the next file
pub next_name : (files : Table (List ℕ)) (i : ℕ) (e : List ℕ × List ℕ) → i < length files → e ≡ get_or files i e
    → drop i (map (λ e. e.1) files) ≡ e.1 ∷ drop (i + 1) (map (λ e. e.1) files)
next_name [] i e within is = absurd (omega (arith, within))
next_name (d ∷ files) zero e within is = ap (λ (x : List ℕ × List ℕ). x.1 ∷ map (λ e. e.1) files) (sym is)
next_name (d ∷ files) (suc i) e within is = rw add-one (rw add-one at (next_name files i e (omega (arith, within)) is))

pub next_there : (names : List (List ℕ)) (i : ℕ) (name : List ℕ) (rest : List (List ℕ)) (o : Option Disk)
    → drop i names ≡ name ∷ rest
    → IfSome o (λ d. EachThere (drop i names) d.files) → IfSome o (λ d. IsSome (d.files name))
next_there names i name rest None is there = tt
next_there names i name rest (Some d) is there = (subst (λ ns. EachThere ns d.files) is there).0

pub next_named : (names : List (List ℕ)) (i : ℕ) (name : List ℕ) (rest : List (List ℕ)) → drop i names ≡ name ∷ rest
    → list_all is_pathname (drop i names) ≡ true → is_pathname name ≡ true
next_named names i name rest is named =
    (and_parts (is_pathname name) (list_all is_pathname rest) (subst (λ ns. list_all is_pathname ns ≡ true) is named)).0

is_among : (names : List (List ℕ)) (i : ℕ) (name : List ℕ) (rest : List (List ℕ)) → drop i names ≡ name ∷ rest
    → list_any (bytes_eq name) names ≡ true
is_among [] zero name rest is = absurd (let no : [] ≡ name ∷ rest = is in cc)
is_among [] (suc i) name rest is = absurd (let no : [] ≡ name ∷ rest = is in cc)
is_among (n ∷ names) zero name rest is =
    let same : n ≡ name = cc in
    ap (λ b. b || list_any (bytes_eq name) names) (subst (λ m. bytes_eq name m ≡ true) (sym same) (name_itself name))
is_among (n ∷ names) (suc i) name rest is = either (bytes_eq name n) (is_among names i name rest is)
  where
    either : (b : Bool) → list_any (bytes_eq name) names ≡ true → b || list_any (bytes_eq name) names ≡ true
    either true later = refl
    either false later = later

among_at : (names : List (List ℕ)) (name : List ℕ) (m n : Files) → list_any (bytes_eq name) names ≡ true
    → OnlyAt name m n → OnlyAmong names m n
among_at names name m n within only other out =
    only other (λ same. true≢false (sym within ∙ (ap (λ q. list_any (bytes_eq q) names) (sym same) ∙ out)))

among_then : (names : List (List ℕ)) (m n k : Files) → OnlyAmong names m n → OnlyAmong names n k → OnlyAmong names m k
among_then names m n k a b other out = b other out ∙ a other out

-- whatever a sync answers, nothing but these files differs
pub among_next : (names : List (List ℕ)) (i : ℕ) (name : List ℕ) (rest : List (List ℕ)) {old now new : Option Disk}
    → drop i names ≡ name ∷ rest
    → Along (OnlyAmong names) old now → Along (OnlyAt name) now new → Along (OnlyAmong names) old new
among_next names i name rest is a b =
    along_then (OnlyAmong names) (among_then names) a (along_map (OnlyAt name) (OnlyAmong names)
    (λ m n. among_at names name m n (is_among names i name rest is)) b)

there_later : (rest : List (List ℕ)) (name : List ℕ) (m : Files) → EachThere rest m → EachThere rest (after_sync name m)
there_later [] name m there = tt
there_later (n ∷ rest) name m there = (there_synced name n m there.0, there_later rest name m there.1)

-- one more sync
pub syncs_more : (names : List (List ℕ)) (i : ℕ) (name : List ℕ) (old now new : Option Disk)
    → drop i names ≡ name ∷ drop (i + 1) names
    → Syncs names i old now → new ≡ option_map (after_change (after_sync name)) now → Along (OnlyAt name) now new
    → Syncs names (i + 1) old new
unfolding after_syncs
syncs_more names i name old now new is s changed only = record {
  disk = ap (option_map (after_syncs (drop (i + 1) names))) changed
      ∙ (one now ∙ (ap (λ ns. option_map (after_syncs ns) now) (sym is) ∙ s.disk));
  there = subst (λ o. IfSome o (λ d. EachThere (drop (i + 1) names) d.files)) (sym changed) (later now s.there);
  named = (and_parts (is_pathname name) (list_all is_pathname (drop (i + 1) names))
      (subst (λ ns. list_all is_pathname ns ≡ true) is s.named)).1;
  only = among_next names i name (drop (i + 1) names) is s.only only;
}
  where
    one : (o : Option Disk) → option_map (after_syncs (drop (i + 1) names))
        (option_map (after_change (after_sync name)) o) ≡ option_map (after_syncs (name ∷ drop (i + 1) names)) o
    one None = refl
    one (Some d) = refl

    later : (o : Option Disk) → IfSome o (λ d. EachThere (drop i names) d.files)
        → IfSome (option_map (after_change (after_sync name)) o) (λ d. EachThere (drop (i + 1) names) d.files)
    later None there = tt
    later (Some d) there = there_later (drop (i + 1) names) name d.files (subst (λ ns. EachThere ns d.files) is there).1

-- all of them
pub syncs_all : (names : List (List ℕ)) (i : ℕ) (old now : Option Disk) → drop i names ≡ [] → Syncs names i old now
    → now ≡ option_map (after_syncs names) old
unfolding after_syncs
syncs_all names i old now is s = sym (none now) ∙ (ap (λ ns. option_map (after_syncs ns) now) (sym is) ∙ s.disk)
  where
    none : (o : Option Disk) → option_map (after_syncs []) o ≡ o
    none None = refl
    none (Some d) = refl

pub no_name : (files : Table (List ℕ)) (i : ℕ) → length files ≤ i → drop i (map (λ e. e.1) files) ≡ []
no_name [] zero past = refl
no_name [] (suc i) past = refl
no_name (e ∷ files) zero past = absurd (omega (arith, past))
no_name (e ∷ files) (suc i) past = no_name files i (omega (arith, past))
