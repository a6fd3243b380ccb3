-- Columns by their names, and by their places in a row.
use Rattle.std.proofs.Common.{◌≡◌, ◌≢◌, ℕ, zero, suc, ◌+◌, ◌<◌, ◌≤◌, Bool, true, false, cond, not, ◌&&◌, ◌||◌, ◌⊎◌, inl}
use Rattle.std.proofs.Common.{inr, nat_eq, nat_lt, List, [], ◌∷◌, ◌++◌, length, map, filter, get_or, set, Option, Some}
use Rattle.std.proofs.Common.{None, refl, ap, sym, subst, ◌∙◌, arith}
use Rattle.std.specs.List.{list_all, list_any, position_or_len}
use Rattle.std.specs.Str.{bytes_eq}
use Rattle.std.proofs.lemmas.Bool.{cond_both, and_parts, and_from, lt-ltb, not-true, true≢false, ne_eqb}
use Rattle.std.proofs.lemmas.Bool.Decides.{nat_tests}
use Rattle.gob_bytes.proofs.Tables.{name_itself, same_name, two_names}
use Rattle.gob_plan.specs.declared.rows.Kind.{Kind}
use Rattle.gob_plan.specs.declared.rows.Value.{Value}
use Rattle.gob_plan.specs.declared.rows.Value.TheVariants as value
use Rattle.gob_plan.specs.declared.rows.Column.{Column}
use Rattle.gob_plan.specs.Columns.{is_there, distinct, position_of}
use Rattle.gob_plan.specs.Rows.{may_stand, values_conform, value_of, kind_of}
use Rattle.gob_rowcheck.specs.Places.{is_at, stands_at}
use Rattle.gob_rowcheck.proofs.Places.{Stands, value_at, stands_cases, stands_nowhere}
use Rattle.gob_meaning.specs.Steps.{is_among, first_missing, columns_named, columns_but, other_values, with_value}
use Rattle.gob_meaning.proofs.PlainLines.{or_parts}
use Rattle.gob_steps.specs.Places.{column_place, places_of, values_at, is_below, is_place_among, are_apart}

-- ---- a name that is there

pub there_from_kind : (name : List ℕ) (columns : List Column) (k : Kind) → kind_of name columns ≡ Some k
    → is_there name columns ≡ true
there_from_kind name [] k is = cc
there_from_kind name (c ∷ cs) k is =
    cond_both (bytes_eq c.name name) (Some c.kind) (kind_of name cs)
    (λ o. o ≡ Some k → (bytes_eq c.name name || is_there name cs) ≡ true)
    (λ here _. rw here refl)
    (λ away later. rw (away, there_from_kind name cs k later) refl)
    is

place_within : (name : List ℕ) (columns : List Column) → is_there name columns ≡ true
    → column_place name columns < length columns
place_within name [] there = cc
place_within name (c ∷ cs) there =
    either (bytes_eq c.name name) refl (place_within name cs) there
  where
    either : (b : Bool) → bytes_eq c.name name ≡ b → (is_there name cs ≡ true → column_place name cs < length cs)
        → (bytes_eq c.name name || is_there name cs) ≡ true → column_place name (c ∷ cs) < length (c ∷ cs)
    either true e more there = rw e (omega arith)
    either false e more there =
        let later = more (let h = rw e at there in h) in
        rw e (omega arith)

-- a name that no look-up finds has the place behind the last
pub place_none : (name : List ℕ) (columns : List Column) → None ≡ position_of name columns
    → length columns ≡ column_place name columns
place_none name columns none =
    either (nat_lt (column_place name columns) (length columns)) refl none (at_most name columns)
  where
    at_most : (name : List ℕ) (columns : List Column) → column_place name columns ≤ length columns
    at_most name [] = omega arith
    at_most name (c ∷ cs) =
        let later = at_most name cs in
        elim (bytes_eq c.name name) as (λ b. cond (not b) (1 + column_place name cs) 0 ≤ suc (length cs)) [
          | true ↦ omega arith
          | false ↦ omega arith
        ]

    either : (b : Bool) → nat_lt (column_place name columns) (length columns) ≡ b
        → None ≡ cond b (Some (column_place name columns)) None → column_place name columns ≤ length columns
        → length columns ≡ column_place name columns
    either true e is few = cc
    either false e is few =
        let above : length columns ≤ column_place name columns = grind (arith, nat_tests) in
        omega arith

-- it stands at its place
pub stands_there : (name : List ℕ) (columns : List Column) → is_there name columns ≡ true
    → stands_at name columns (column_place name columns) ≡ true
stands_there name columns there = at_place (column_place name columns) (length columns)
    (place_within name columns there)
  where
    at_place : (n m : ℕ) → n < m → is_at (cond (nat_lt n m) (Some n) None) n ≡ true
    at_place n m below = rw (lt-ltb n m below) (grind (arith, nat_tests))

-- it stands at the front, or one place behind among the others
abbrev Alternatives : List ℕ → Column → List Column → ℕ → Type 0
Alternatives name c cs i = ((bytes_eq c.name name ≡ true) × (i ≡ 0))
    ⊎ ((bytes_eq c.name name ≡ false) × ((j : ℕ) × (i ≡ suc j) × (stands_at name cs j ≡ true)))

-- two names at one place are one
one_name : (m n : List ℕ) (columns : List Column) (i : ℕ) → stands_at m columns i ≡ true → stands_at n columns i ≡ true
    → m ≡ n
one_name m n [] i at_m at_n = absurd (stands_nowhere m i at_m)
one_name m n (c ∷ cs) i at_m at_n =
    joined c cs i (one_name m n cs) (stands_cases m c cs i at_m) (stands_cases n c cs i at_n)
  where
    joined : (c : Column) (cs : List Column) (i : ℕ)
        → ((j : ℕ) → stands_at m cs j ≡ true → stands_at n cs j ≡ true → m ≡ n)
        → Alternatives m c cs i → Alternatives n c cs i → m ≡ n
    joined c cs i later (inl here) (inl there) = sym (same_name c.name m here.0) ∙ same_name c.name n there.0
    joined c cs i later (inl here) (inr behind) = absurd (omega (arith, here.1, behind.1.1))
    joined c cs i later (inr behind) (inl here) = absurd (omega (arith, here.1, behind.1.1))
    joined c cs i later (inr a) (inr b) =
        let same : b.1.0 ≡ a.1.0 = omega (arith, a.1.1, b.1.1) in
        later a.1.0 a.1.2 (subst (λ j. stands_at n cs j ≡ true) same b.1.2)

-- ---- a row's value by its place

-- the value at the place of a column's name, and a new one put there
pub record AtPlace (name : List ℕ) (columns : List Column) (values : List Value) (k : ℕ) : Type 0 where
  pub below : k < length values
  pub value : get_or values k value.Null ≡ value_of name columns values
  pub put : (w : Value) → with_value name w columns values ≡ set values k w

put_at : (name : List ℕ) (w : Value) (columns : List Column) (values : List Value) (k : ℕ)
    → values_conform columns values ≡ true → stands_at name columns k ≡ true
    → with_value name w columns values ≡ set values k w
put_at name w [] values k fit is = absurd (stands_nowhere name k is)
put_at name w (c ∷ cs) [] k fit is = cc
put_at name w (c ∷ cs) (v ∷ vs) k fit is =
    by c cs v vs k (λ j at. put_at name w cs vs j (and_parts _ _ fit).1 at) (stands_cases name c cs k is)
  where
    by : (c : Column) (cs : List Column) (v : Value) (vs : List Value) (k : ℕ)
        → ((j : ℕ) → stands_at name cs j ≡ true → with_value name w cs vs ≡ set vs j w)
        → Alternatives name c cs k → with_value name w (c ∷ cs) (v ∷ vs) ≡ set (v ∷ vs) k w
    by c cs v vs k later (inl here) = rw (here.0, here.1) refl
    by c cs v vs k later (inr behind) =
        rw (behind.0, behind.1.1) (ap (λ rest. v ∷ rest) (later behind.1.0 behind.1.2))

pub at_place : (name : List ℕ) (columns : List Column) (values : List Value) → values_conform columns values ≡ true
    → is_there name columns ≡ true → AtPlace name columns values (column_place name columns)
at_place name columns values fit there =
    let stands = stands_there name columns there in
    let at = value_at name columns values (column_place name columns) fit stands in
    record {
      below = at.there;
      value = at.value value.Null;
      put = λ w. put_at name w columns values (column_place name columns) fit stands;
    }

-- the place of a name that isn't there is behind the last
pub place_behind : (name : List ℕ) (columns : List Column) (values : List Value) → values_conform columns values ≡ true
    → is_there name columns ≡ false → column_place name columns ≡ length values
place_behind name [] [] fit none = refl
place_behind name [] (v ∷ vs) fit none = cc
place_behind name (c ∷ cs) [] fit none = cc
place_behind name (c ∷ cs) (v ∷ vs) fit none =
    let parts = or_parts (bytes_eq c.name name) (is_there name cs) none in
    let later = place_behind name cs vs (and_parts _ _ fit).1 parts.1 in
    rw parts.0 (omega (arith, later))

-- ---- the values of many columns by their places

-- all of these names are there
abbrev pub all_there : List Column → List Column → Bool
all_there kept columns = list_all (λ d. is_there d.name columns) kept

pub values_kept : (kept columns : List Column) (values : List Value) → values_conform columns values ≡ true
    → all_there kept columns ≡ true
    → values_at (places_of kept columns) values ≡ map (λ d. value_of d.name columns values) kept
values_kept [] columns values fit there = refl
values_kept (d ∷ ds) columns values fit there =
    let parts = and_parts (is_there d.name columns) (all_there ds columns) there in
    let at = at_place d.name columns values fit parts.0 in
    (λ i. at.value i ∷ values_kept ds columns values fit parts.1 i)

pub places_below : (kept columns : List Column) (values : List Value) → values_conform columns values ≡ true
    → all_there kept columns ≡ true → list_all (is_below (length values)) (places_of kept columns) ≡ true
places_below [] columns values fit there = refl
places_below (d ∷ ds) columns values fit there =
    let parts = and_parts (is_there d.name columns) (all_there ds columns) there in
    let at = at_place d.name columns values fit parts.0 in
    and_from (is_below (length values) (column_place d.name columns)) _
    (lt-ltb (column_place d.name columns) (length values) at.below) (places_below ds columns values fit parts.1)

place_not_among : (d : Column) (ds columns : List Column) → is_there d.name columns ≡ true
    → all_there ds columns ≡ true → is_there d.name ds ≡ false
    → is_place_among (column_place d.name columns) (places_of ds columns) ≡ false
place_not_among d [] columns here there none = refl
place_not_among d (e ∷ es) columns here there none =
    let parts = and_parts (is_there e.name columns) (all_there es columns) there in
    let apart = or_parts (bytes_eq e.name d.name) (is_there d.name es) none in
    rw (
      ne_eqb (column_place e.name columns) (column_place d.name columns) (λ same. true≢false
          (sym (name_itself d.name) ∙ (let h = rw (one_name e.name d.name columns (column_place e.name columns)
          (stands_there e.name columns parts.0)
          (subst (λ k. stands_at d.name columns k ≡ true) (sym same) (stands_there d.name columns here))) at apart.0
          in h))),
      place_not_among d es columns here parts.1 apart.1,
    ) refl

pub places_apart : (kept columns : List Column) → all_there kept columns ≡ true → distinct kept ≡ true
    → are_apart (places_of kept columns) ≡ true
places_apart [] columns there apart = refl
places_apart (d ∷ ds) columns there apart =
    let parts = and_parts (is_there d.name columns) (all_there ds columns) there in
    let alone = and_parts (not (is_there d.name ds)) (distinct ds) apart in
    and_from (not (is_place_among (column_place d.name columns) (places_of ds columns))) _
    (rw (place_not_among d ds columns parts.0 parts.1 (not-true (is_there d.name ds) alone.0)) refl)
    (places_apart ds columns parts.1 alone.1)

-- ---- columns that are kept by name

pub named_there : (names : List (List ℕ)) (columns : List Column) → first_missing names columns ≡ None
    → all_there (columns_named names columns) columns ≡ true
named_there [] columns none = refl
named_there (n ∷ ns) columns none =
    cond_both (is_there n columns) (first_missing ns columns) (Some n)
    (λ o. o ≡ None → (is_there n columns && all_there (columns_named ns columns) columns) ≡ true)
    (λ here later. and_from (is_there n columns) _ here (named_there ns columns later))
    (λ _ some. cc)
    none

pub named_values : (names : List (List ℕ)) (columns : List Column) (values : List Value)
    → map (λ d. value_of d.name columns values) (columns_named names columns)
    ≡ map (λ n. value_of n columns values) names
named_values [] columns values = refl
named_values (n ∷ ns) columns values = ap (λ vs. value_of n columns values ∷ vs) (named_values ns columns values)

-- ---- columns that are left

-- columns of which each one is there
later_there : (c : Column) (kept cs : List Column) → all_there kept cs ≡ true → all_there kept (c ∷ cs) ≡ true
later_there c [] cs there = refl
later_there c (d ∷ ds) cs there =
    let parts = and_parts (is_there d.name cs) (all_there ds cs) there in
    and_from (bytes_eq c.name d.name || is_there d.name cs) _ (or_right (bytes_eq c.name d.name) parts.0)
    (later_there c ds cs parts.1)
  where
    or_right : (a : Bool) {b : Bool} → b ≡ true → (a || b) ≡ true
    or_right true h = refl
    or_right false h = h

pub left_there : (names : List (List ℕ)) (columns : List Column)
    → all_there (columns_but names columns) columns ≡ true
left_there names [] = refl
left_there names (c ∷ cs) =
    let later = later_there c (columns_but names cs) cs (left_there names cs) in
    elim (not (is_among c.name names)) as (λ b. all_there (cond b (c ∷ columns_but names cs) (columns_but names cs))
    (c ∷ cs) ≡ true) [
      | true ↦ and_from (is_there c.name (c ∷ cs)) _ (rw (name_itself c.name) refl) later
      | false ↦ later
    ]

-- the values of others than the first column
values_behind : (c : Column) (cs : List Column) (v : Value) (vs : List Value) (kept : List Column)
    → is_there c.name kept ≡ false
    → map (λ d. value_of d.name (c ∷ cs) (v ∷ vs)) kept ≡ map (λ d. value_of d.name cs vs) kept
values_behind c cs v vs [] none = refl
values_behind c cs v vs (d ∷ ds) none =
    let parts = or_parts (bytes_eq d.name c.name) (is_there c.name ds) none in
    let differ : bytes_eq c.name d.name ≡ false = two_names c.name d.name
    (λ same. true≢false (sym (name_itself d.name) ∙ (let h = rw same at parts.0 in h))) in
    (λ i. cond (differ i) v (value_of d.name cs vs) ∷ values_behind c cs v vs ds parts.1 i)

none_left : (names : List (List ℕ)) (n : List ℕ) (cs : List Column) → is_there n cs ≡ false
    → is_there n (columns_but names cs) ≡ false
none_left names n [] none = refl
none_left names n (c ∷ cs) none =
    let parts = or_parts (bytes_eq c.name n) (is_there n cs) none in
    elim (not (is_among c.name names)) as (λ b. is_there n (cond b (c ∷ columns_but names cs) (columns_but names cs))
    ≡ false) [
      | true ↦ rw parts.0 (none_left names n cs parts.1)
      | false ↦ none_left names n cs parts.1
    ]

pub left_values : (names : List (List ℕ)) (columns : List Column) (values : List Value) → distinct columns ≡ true
    → values_conform columns values ≡ true
    → map (λ d. value_of d.name columns values) (columns_but names columns) ≡ other_values names columns values
left_values names [] values apart fit = refl
left_values names (c ∷ cs) [] apart fit = cc
left_values names (c ∷ cs) (v ∷ vs) apart fit =
    let alone = and_parts (not (is_there c.name cs)) (distinct cs) apart in
    let later = values_behind c cs v vs (columns_but names cs)
    (none_left names c.name cs (not-true (is_there c.name cs) alone.0))
    ∙ left_values names cs vs alone.1 (and_parts _ _ fit).1 in
    elim (is_among c.name names) as (λ b. map (λ d. value_of d.name (c ∷ cs) (v ∷ vs))
    (cond (not b) (c ∷ columns_but names cs) (columns_but names cs))
    ≡ cond b (other_values names cs vs) (v ∷ other_values names cs vs)) [
      | true ↦ later
      | false ↦ (λ i. cond (name_itself c.name i) v (value_of c.name cs vs) ∷ later i)
    ]
