-- The keys that aren't known are those that no row has.
use Rattle.std.proofs.Common.{◌≡◌, ◌≢◌, ◌↔◌, ◌⊎◌, inl, inr, ⊎_elim, ℕ, zero, suc, ◌+◌, ◌<◌, ◌≤◌, Bool, true, false, not}
use Rattle.std.proofs.Common.{◌||◌, List, [], ◌∷◌, ◌++◌, map, filter, All, refl, sym, ap, subst, ◌∙◌, arith}
use Rattle.std.specs.List.{AllByRecursion, Contains, flat_map, list_any, range_with_len}
use Rattle.std.specs.Str.{bytes_eq}
use Rattle.std.proofs.lemmas.Bool.{true≢false, or_parts, or_cases, not-true, cases_eq}
use Rattle.std.proofs.lemmas.List.Folds.{list_any-append}
use Rattle.std.proofs.lemmas.List.Elements.{All-from_recursion, recursion_from_All, All-contains, All-contains_itself}
use Rattle.std.proofs.lemmas.List.Elements.{All-weaker}
use Rattle.gob_bytes.proofs.Tables.{same_name, name_itself}
use Rattle.gob_bytes.specs.Tables.{Table, at_name}
use Rattle.gob_jobs.specs.KeyTable.{Standing, once, for_each_branch, for_each_branch_or_all, Row, key_table}
use Rattle.gob_jobs.specs.Reading.{by_standing, with_number, keys_of_row, is_known, branches_told, unknown_keys}
use Rattle.gob_jobs.specs.Laws.{IsKeyOf, TellsUnknown, UnknownKeysAreTold}

either : (x y : Bool) → (x ≡ true) ⊎ (y ≡ true) → (x || y) ≡ true
either true y is = refl
either false y (inl e) = absurd (true≢false (sym e))
either false y (inr e) = e

-- ---- numbered keys

-- a number from one on, so many of them
abbrev Numbered : List ℕ → ℕ → ℕ → List ℕ → Type 0
Numbered k a m key = (b : ℕ) × (a ≤ b) × (b < a + m) × (key ≡ with_number k b)

numbers_of : List ℕ → ℕ → ℕ → List (List ℕ)
numbers_of k a m = map (with_number k) (range_with_len a m)

number_among : (k : List ℕ) (a m : ℕ) (key : List ℕ) → Numbered k a m key
    → list_any (bytes_eq key) (numbers_of k a m) ≡ true
unfolding numbers_of
number_among k a zero key is = absurd (omega arith)
number_among k a (suc m) key is =
    either (bytes_eq key (with_number k a)) (list_any (bytes_eq key) (map (with_number k) (range_with_len (a + 1) m)))
    (⊎_elim
    (λ (e : is.0 ≡ a). inl (ap (bytes_eq key) (ap (with_number k) (sym e))
    ∙ (ap (bytes_eq key) (sym is.3) ∙ name_itself key)))
    (λ other. let later : a + 1 ≤ is.0 = above a is.0 is.1 other in
    inr (number_among k (a + 1) m key (is.0, later, omega arith, is.3)))
    (cases_eq is.0 a))
  where
    above : (x y : ℕ) → x ≤ y → (y ≡ x → ⊥) → x + 1 ≤ y
    above x y le apart = ⊎_elim (λ (e : y ≡ x). absurd (apart e)) (λ (other : y ≡ x → ⊥). omega arith) (cases_eq y x)

among_number : (k : List ℕ) (a m : ℕ) (key : List ℕ) → list_any (bytes_eq key) (numbers_of k a m) ≡ true
    → Numbered k a m key
unfolding numbers_of
among_number k a zero key is = absurd (true≢false (sym is))
among_number k a (suc m) key is =
    ⊎_elim
    (λ (e : bytes_eq key (with_number k a) ≡ true). (a, omega arith, omega arith, same_name key (with_number k a) e))
    (λ (e : list_any (bytes_eq key) (map (with_number k) (range_with_len (a + 1) m)) ≡ true). let p =
    among_number k (a + 1) m key e in (p.0, omega arith, omega arith, p.3))
    (or_cases (bytes_eq key (with_number k a)) (list_any (bytes_eq key)
    (map (with_number k) (range_with_len (a + 1) m))) is)

-- ---- the keys of a row

-- the key of a row that stands so
abbrev KeyBy : ℕ → Standing → List ℕ → List ℕ → Type 0
KeyBy n standing k key =
    ((standing ≢ for_each_branch) × (key ≡ k))
    ⊎ ((standing ≢ once) × ((b : ℕ) × (b < n) × (key ≡ with_number k b)))

keys_by : ℕ → Standing → List ℕ → List (List ℕ)
keys_by n standing k = let own = map (with_number k) (range_with_len 0 n) in by_standing standing (k ∷ []) own (k ∷ own)

pub own_among : (n : ℕ) (k key : List ℕ) → (b : ℕ) × (b < n) × (key ≡ with_number k b)
    → list_any (bytes_eq key) (map (with_number k) (range_with_len 0 n)) ≡ true
unfolding numbers_of
own_among n k key is = number_among k 0 n key (is.0, omega arith, omega arith, is.2)

pub among_own : (n : ℕ) (k key : List ℕ) → list_any (bytes_eq key) (map (with_number k) (range_with_len 0 n)) ≡ true
    → (b : ℕ) × (b < n) × (key ≡ with_number k b)
unfolding numbers_of
among_own n k key is = let p = among_number k 0 n key is in (p.0, omega arith, p.3)

key_itself : (k key : List ℕ) → key ≡ k → bytes_eq key k ≡ true
key_itself k key e = ap (bytes_eq key) (sym e) ∙ name_itself key

keys_have : (n : ℕ) (standing : Standing) (k key : List ℕ) → KeyBy n standing k key
    → list_any (bytes_eq key) (keys_by n standing k) ≡ true
unfolding keys_by
keys_have n once k key (inl p) = either (bytes_eq key k) false (inl (key_itself k key p.1))
keys_have n once k key (inr p) = absurd (p.0 refl)
keys_have n for_each_branch k key (inl p) = absurd (p.0 refl)
keys_have n for_each_branch k key (inr p) = own_among n k key p.1
keys_have n for_each_branch_or_all k key (inl p) = either (bytes_eq key k)
    (list_any (bytes_eq key) (map (with_number k) (range_with_len 0 n))) (inl (key_itself k key p.1))
keys_have n for_each_branch_or_all k key (inr p) = either (bytes_eq key k)
    (list_any (bytes_eq key) (map (with_number k) (range_with_len 0 n))) (inr (own_among n k key p.1))

once_apart : once ≢ for_each_branch
once_apart e = cc

each_apart : for_each_branch ≢ once
each_apart e = cc

all_apart : for_each_branch_or_all ≢ for_each_branch
all_apart e = cc

all_apart_once : for_each_branch_or_all ≢ once
all_apart_once e = cc

have_keys : (n : ℕ) (standing : Standing) (k key : List ℕ) → list_any (bytes_eq key) (keys_by n standing k) ≡ true
    → KeyBy n standing k key
unfolding keys_by
have_keys n once k key is =
    ⊎_elim
    (λ (e : bytes_eq key k ≡ true). inl (once_apart, same_name key k e))
    (λ (e : false ≡ true). absurd (true≢false (sym e)))
    (or_cases (bytes_eq key k) false is)
have_keys n for_each_branch k key is = inr (each_apart, among_own n k key is)
have_keys n for_each_branch_or_all k key is =
    ⊎_elim
    (λ (e : bytes_eq key k ≡ true). inl (all_apart, same_name key k e))
    (λ (e : list_any (bytes_eq key) (map (with_number k) (range_with_len 0 n)) ≡ true).
    inr (all_apart_once, among_own n k key e))
    (or_cases (bytes_eq key k) (list_any (bytes_eq key) (map (with_number k) (range_with_len 0 n))) is)

-- ---- the keys of rows

none_of : (p : List ℕ → Bool) (n : ℕ) (rows : List Row) → list_any p (flat_map (keys_of_row n) rows) ≡ false
    → AllByRecursion (λ row. list_any p (keys_of_row n row) ≡ false) rows
none_of p n [] none = tt
none_of p n (row ∷ rows) none =
    let q = or_parts (list_any p (keys_of_row n row)) (list_any p (flat_map (keys_of_row n) rows))
    (sym (list_any-append p (keys_of_row n row) (flat_map (keys_of_row n) rows)) ∙ none) in
    (q.0, none_of p n rows q.1)

of_none : (p : List ℕ → Bool) (n : ℕ) (rows : List Row) → AllByRecursion (λ row. list_any p (keys_of_row n row) ≡ false)
    rows → list_any p (flat_map (keys_of_row n) rows) ≡ false
of_none p n [] all = refl
of_none p n (row ∷ rows) all =
    list_any-append p (keys_of_row n row) (flat_map (keys_of_row n) rows)
    ∙ (ap (λ b. b || list_any p (flat_map (keys_of_row n) rows)) all.0 ∙ of_none p n rows all.1)

no_row : (n : ℕ) (row : Row) (key : List ℕ) → (IsKeyOf n row key → ⊥)
    → list_any (bytes_eq key) (keys_of_row n row) ≡ false
unfolding keys_by
no_row n row key never = elim (list_any (bytes_eq key) (keys_of_row n row)) as
    (λ v. list_any (bytes_eq key) (keys_of_row n row) ≡ v → v ≡ false) [
      | true ↦ λ e. absurd (never (have_keys n row.standing row.key key e))
      | false ↦ λ e. refl
    ] refl

unknown_row : (n : ℕ) (row : Row) (key : List ℕ) → list_any (bytes_eq key) (keys_of_row n row) ≡ false
    → IsKeyOf n row key → ⊥
unfolding keys_by
unknown_row n row key none is = true≢false (sym (keys_have n row.standing row.key key is) ∙ none)

among_table : (rows : List Row) (n : ℕ) (key : List ℕ) → (not (list_any (bytes_eq key) (flat_map (keys_of_row n) rows))
    ≡ true) ↔ ((row : Row) → Contains rows row → IsKeyOf n row key → ⊥)
among_table rows n key = (
  λ is row has of.
      let none = none_of (bytes_eq key) n rows (not-true (list_any (bytes_eq key) (flat_map (keys_of_row n) rows)) is)
      in
      unknown_row n row key (All-contains (λ r. list_any (bytes_eq key) (keys_of_row n r) ≡ false) rows row
      (All-from_recursion (λ r. list_any (bytes_eq key) (keys_of_row n r) ≡ false) rows none) has) of,
  λ f.
      let P : Row → Type 0 = λ r. list_any (bytes_eq key) (keys_of_row n r) ≡ false in
      let all : All P rows = All-weaker (Contains rows) P (λ row has. no_row n row key (f row has)) rows
      (All-contains_itself rows) in
      ap not (of_none (bytes_eq key) n rows (recursion_from_All P rows all)),
)

pub unknown_told : UnknownKeysAreTold
unfolding unknown_keys
unknown_told entries = record {
  is_unknown = λ key. not (is_known (branches_told (at_name entries)) key);
  keys = refl;
  none = among_table key_table (branches_told (at_name entries));
}
