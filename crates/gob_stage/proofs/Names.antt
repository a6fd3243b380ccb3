-- Targets in byte order, and the names of their staged files.
use Rattle.std.proofs.Common.{◌≡◌, ◌≢◌, ℕ, Bool, true, false, cond, ◌&&◌, ◌||◌, List, [], ◌∷◌, ◌++◌, map, refl, sym, ap}
use Rattle.std.proofs.Common.{subst, ◌∙◌, Some, None, is_some, IsSome}
use Rattle.std.specs.declared.cmp.Ordering.{Ordering}
use Rattle.std.specs.declared.cmp.Ordering.TheVariants.{Less, Equal, Greater}
use Rattle.std.specs.declared.option.Option.{Option}
use Rattle.std.specs.List.{list_all, list_any}
use Rattle.std.specs.Str.{bytes_eq}
use Rattle.std.proofs.lemmas.Bool.{and_parts, and_from}
use Rattle.std.proofs.lemmas.List.{append_cancel_left}
use Rattle.gob_bytes.specs.Tables.{Table, IsInByteOrder, at_name, name_cmp, names_of, with_name}
use Rattle.gob_bytes.proofs.Tables.{greater_less, less_apart, less_then, level_names, name_itself, rising-with_name}
use Rattle.gob_bytes.proofs.Tables.{rising_tail, same_name, two_names}
use Rattle.gob_device.specs.Names.{IsPathname, is_pathname}
use Rattle.gob_device.proofs.Names.{bytes_of_name, name_before}
use Rattle.gob_stage.specs.Attempt.{with_target}
use Rattle.gob_stage.specs.Inside.{AreStagingTargets}

-- a name is among those of a table exactly where a look-up finds it
pub begun_is : {X : Type 0} (t : Table X) (name : List ℕ) → list_any (bytes_eq name) (names_of t) ≡ is_some
    (at_name t name)
begun_is [] name = refl
begun_is {X} (e ∷ es) name = cases (bytes_eq name e.0) (begun_is es name)
  where
    cases : (b : Bool) → list_any (bytes_eq name) (names_of es) ≡ is_some (at_name es name)
        → (b || list_any (bytes_eq name) (names_of es)) ≡ is_some (cond b (Some e.1) (at_name es name))
    cases true later = refl
    cases false later = later

-- the names of a table with one more
pub names_with : {X : Type 0} (t : Table X) (name : List ℕ) (x : X)
    → names_of (with_name t name x) ≡ with_target (names_of t) name
names_with [] name x = refl
names_with {X} (e ∷ es) name x = cases (name_cmp name e.0) refl (names_with es name x)
  where
    cases : (o : Ordering) → name_cmp name e.0 ≡ o → names_of (with_name es name x) ≡ with_target (names_of es) name
        → names_of (with_name (e ∷ es) name x) ≡ with_target (names_of (e ∷ es)) name
    cases Less is later = rw is refl
    cases Equal is later = rw is refl
    cases Greater is later = rw is (ap (λ ns. e.0 ∷ ns) later)

below_all : (ts : List (List ℕ)) (t target : List ℕ) → name_cmp target t ≡ Less → IsInByteOrder (t ∷ ts)
    → IsInByteOrder (target ∷ ts)
below_all [] t target below rising = tt
below_all (u ∷ ts) t target below rising = (less_then target t u below rising.0, rising.1)

not_below : (ts : List (List ℕ)) (target : List ℕ) → IsInByteOrder (target ∷ ts) → list_any (bytes_eq target) ts ≡ false
not_below [] target rising = refl
not_below (t ∷ ts) target rising =
    ap (λ b. b || list_any (bytes_eq target) ts) (two_names target t (less_apart target t rising.0))
    ∙ not_below ts target (below_all ts t target rising.0 rising.1)

-- a target that is there already
pub with_begun : (ts : List (List ℕ)) (target : List ℕ) → IsInByteOrder ts → list_any (bytes_eq target) ts ≡ true
    → with_target ts target ≡ ts
with_begun [] target rising there = absurd (let no : false ≡ true = there in cc)
with_begun (t ∷ ts) target rising there = cases (name_cmp target t) refl
    (with_begun ts target (rising_tail t ts rising))
  where
    Later : Type 0
    Later = list_any (bytes_eq target) ts ≡ true → with_target ts target ≡ ts

    behind : bytes_eq target t ≡ false → list_any (bytes_eq target) ts ≡ true
    behind apart = ap (λ b. b || list_any (bytes_eq target) ts) (sym apart) ∙ there

    cases : (o : Ordering) → name_cmp target t ≡ o → Later → with_target (t ∷ ts) target ≡ t ∷ ts
    cases Less is later =
        let out : list_any (bytes_eq target) ts ≡ false = not_below ts target (below_all ts t target is rising) in
        let in_ : list_any (bytes_eq target) ts ≡ true = behind (two_names target t (less_apart target t is)) in cc
    cases Equal is later = rw is (ap (λ n. n ∷ ts) (level_names target t is))
    cases Greater is later =
        rw is (ap (λ ns. t ∷ ns) (later (behind (two_names target t
        (λ same. less_apart t target (greater_less target t is) (sym same))))))

-- what is among the targets with one more
pub any_with : (ts : List (List ℕ)) (target q : List ℕ) → bytes_eq q target ≡ false
    → list_any (bytes_eq q) (with_target ts target) ≡ true → list_any (bytes_eq q) ts ≡ true
any_with [] target q apart among = absurd (let no : false ≡ true = sym (ap (λ b. b || false) apart) ∙ among in cc)
any_with (t ∷ ts) target q apart among = cases (name_cmp target t) refl (any_with ts target q apart)
  where
    passed : (b c : Bool) → b ≡ false → b || c ≡ true → c ≡ true
    passed true c e f = absurd (let no : true ≡ false = e in cc)
    passed false c e f = f

    behind : (b c d : Bool) → (c ≡ true → d ≡ true) → b || c ≡ true → b || d ≡ true
    behind true c d f e = refl
    behind false c d f e = f e

    extra : (b c : Bool) → c ≡ true → b || c ≡ true
    extra true c e = refl
    extra false c e = e

    cases : (o : Ordering) → name_cmp target t ≡ o → (list_any (bytes_eq q) (with_target ts target) ≡ true
        → list_any (bytes_eq q) ts ≡ true)
        → list_any (bytes_eq q) (t ∷ ts) ≡ true
    cases Less is later =
        passed (bytes_eq q target) (list_any (bytes_eq q) (t ∷ ts)) apart
        (subst (λ ns. list_any (bytes_eq q) ns ≡ true) (let w : with_target (t ∷ ts) target ≡ target ∷ t ∷ ts =
        rw is refl in w) among)
    cases Equal is later =
        extra (bytes_eq q t) (list_any (bytes_eq q) ts)
        (passed (bytes_eq q target) (list_any (bytes_eq q) ts) apart
        (subst (λ ns. list_any (bytes_eq q) ns ≡ true) (let w : with_target (t ∷ ts) target ≡ target ∷ ts =
        rw is refl in w) among))
    cases Greater is later =
        behind (bytes_eq q t) (list_any (bytes_eq q) (with_target ts target)) (list_any (bytes_eq q) ts) later
        (subst (λ ns. list_any (bytes_eq q) ns ≡ true) (let w : with_target (t ∷ ts) target ≡ t ∷ with_target ts target
        = rw is refl in w) among)

-- ---- the names in a folder

-- two targets have two staged files
pub apart_in : (folder x y : List ℕ) → bytes_eq x y ≡ false → folder ++ x ≢ folder ++ y
apart_in folder x y apart same =
    let is : x ≡ y = append_cancel_left folder x y same in
    let level : bytes_eq x x ≡ true = name_itself x in
    let no : bytes_eq x x ≡ false = subst (λ z. bytes_eq x z ≡ false) (sym is) apart in cc

pub named_in : (folder target : List ℕ) → IsPathname folder → IsPathname target → IsPathname (folder ++ target)
named_in folder target f t = name_before folder target f (bytes_of_name target t)

-- ---- what an attempt keeps

-- the staged file of a target is named by its folder and the target
pub kept_name : (folder : List ℕ) (files : Table (List ℕ)) (target name : List ℕ)
    → map (λ e. e.1) files ≡ map (λ e. folder ++ e.0) files
    → at_name files target ≡ Some name → name ≡ folder ++ target
kept_name folder [] target name staged found = absurd (let no : None ≡ Some name = found in cc)
kept_name folder (e ∷ es) target name staged found = cases (bytes_eq target e.0) refl found
    (kept_name folder es target name rest)
  where
    first : e.1 ≡ folder ++ e.0
    first = let both : e.1 ∷ map (λ d. d.1) es ≡ (folder ++ e.0) ∷ map (λ d. folder ++ d.0) es = staged in cc

    rest : map (λ d. d.1) es ≡ map (λ d. folder ++ d.0) es
    rest = let both : e.1 ∷ map (λ d. d.1) es ≡ (folder ++ e.0) ∷ map (λ d. folder ++ d.0) es = staged in cc

    cases : (b : Bool) → bytes_eq target e.0 ≡ b → cond b (Some e.1) (at_name es target) ≡ Some name
        → (at_name es target ≡ Some name → name ≡ folder ++ target) → name ≡ folder ++ target
    cases true same is later =
        let here : e.1 ≡ name = cc in
        sym here ∙ first ∙ ap (λ n. folder ++ n) (sym (same_name target e.0 same))
    cases false apart is later = later is

pub kept_path : (files : Table (List ℕ)) (target name : List ℕ) → list_all is_pathname (names_of files) ≡ true
    → at_name files target ≡ Some name → IsPathname target
kept_path [] target name named found = absurd (let no : None ≡ Some name = found in cc)
kept_path (e ∷ es) target name named found = cases (bytes_eq target e.0) refl found (kept_path es target name parts.1)
  where
    parts : (is_pathname e.0 ≡ true) × (list_all is_pathname (names_of es) ≡ true)
    parts = and_parts (is_pathname e.0) (list_all is_pathname (names_of es)) named

    cases : (b : Bool) → bytes_eq target e.0 ≡ b → cond b (Some e.1) (at_name es target) ≡ Some name
        → (at_name es target ≡ Some name → IsPathname target) → IsPathname target
    cases true same is later = subst IsPathname (sym (same_name target e.0 same)) parts.0
    cases false apart is later = later is

staged_more : (folder : List ℕ) (t : Table (List ℕ)) (target : List ℕ) → map (λ e. e.1) t ≡ map (λ e. folder ++ e.0) t
    → map (λ e. e.1) (with_name t target (folder ++ target)) ≡ map (λ e. folder ++ e.0)
    (with_name t target (folder ++ target))
staged_more folder [] target staged = refl
staged_more folder (e ∷ es) target staged = cases (name_cmp target e.0) refl (staged_more folder es target rest)
  where
    both : e.1 ∷ map (λ d. d.1) es ≡ (folder ++ e.0) ∷ map (λ d. folder ++ d.0) es
    both = staged

    first : e.1 ≡ folder ++ e.0
    first = let all = both in cc

    rest : map (λ d. d.1) es ≡ map (λ d. folder ++ d.0) es
    rest = let all = both in cc

    Staged : Table (List ℕ) → Type 0
    Staged t = map (λ d. d.1) t ≡ map (λ d. folder ++ d.0) t

    cases : (o : Ordering) → name_cmp target e.0 ≡ o → Staged (with_name es target (folder ++ target))
        → Staged (with_name (e ∷ es) target (folder ++ target))
    cases Less is later = rw is (ap (λ ns. (folder ++ target) ∷ ns) staged)
    cases Equal is later = rw is (ap (λ ns. (folder ++ target) ∷ ns) rest)
    cases Greater is later = rw is (λ i. first i ∷ later i)

named_more : (t : Table (List ℕ)) (target x : List ℕ) → IsPathname target → list_all is_pathname (names_of t) ≡ true
    → list_all is_pathname (names_of (with_name t target x)) ≡ true
named_more [] target x named all = rw named refl
named_more (e ∷ es) target x named all = cases (name_cmp target e.0) refl (named_more es target x named parts.1)
  where
    parts : (is_pathname e.0 ≡ true) × (list_all is_pathname (names_of es) ≡ true)
    parts = and_parts (is_pathname e.0) (list_all is_pathname (names_of es)) all

    Named : Table (List ℕ) → Type 0
    Named t = list_all is_pathname (names_of t) ≡ true

    cases : (o : Ordering) → name_cmp target e.0 ≡ o → Named (with_name es target x)
        → Named (with_name (e ∷ es) target x)
    cases Less is later = rw is (and_from (is_pathname target) (list_all is_pathname (names_of (e ∷ es))) named all)
    cases Equal is later = rw is (and_from (is_pathname target) (list_all is_pathname (names_of es)) named parts.1)
    cases Greater is later = rw is (and_from (is_pathname e.0) (list_all is_pathname (names_of (with_name es target x)))
        parts.0 later)

-- one more
pub kept_more : (folder : List ℕ) (files : Table (List ℕ)) (target : List ℕ) → AreStagingTargets folder files
    → IsPathname target
    → AreStagingTargets folder (with_name files target (folder ++ target))
kept_more folder files target kept named = record {
  folder_named = kept.folder_named;
  rising = rising-with_name files target (folder ++ target) kept.rising;
  staged = staged_more folder files target kept.staged;
  targets_named = named_more files target (folder ++ target) named kept.targets_named;
}
