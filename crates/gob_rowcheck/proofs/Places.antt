-- The column with a name, by its place, and its value in a row.
use Rattle.std.proofs.Common.{◌≡◌, ℕ, suc, ◌+◌, ◌<◌, Bool, true, false, cond, ◌&&◌, nat_lt, List, [], ◌∷◌}
use Rattle.std.proofs.Common.{Option, Some, None, length, get_or, inl, inr, refl, sym, ap, subst, ◌∙◌, arith, ◌⊎◌}
use Rattle.std.specs.Str.{bytes_eq}
use Rattle.std.proofs.lemmas.Bool.{and_parts, lt-ltb, eq-eqb}
use Rattle.std.proofs.lemmas.Bool.Decides.{nat_tests}
use Rattle.gob_plan.specs.declared.rows.Kind.{Kind}
use Rattle.gob_plan.specs.declared.rows.Column.{Column}
use Rattle.gob_plan.specs.declared.rows.Value.{Value}
use Rattle.gob_plan.specs.declared.checks.Check.{Check}
use Rattle.gob_plan.specs.Columns.{position_of}
use Rattle.gob_plan.specs.Rows.{values_conform, value_of, kind_of}
use Rattle.gob_plan.specs.Tests.{fits_kind}
use Rattle.gob_plan.proofs.Named.{place, no_kind}
use Rattle.gob_rowcheck.specs.Places.{is_at, stands_at}

-- what a row has at the place of a name
pub record Stands (name : List ℕ) (columns : List Column) (values : List Value) (k : ℕ) : Type 0 where
  pub there : k < length values
  pub value : (d : Value) → get_or values k d ≡ value_of name columns values

found_at : (name : List ℕ) (columns : List Column) (values : List Value) → values_conform columns values ≡ true
    → place name columns < length columns → Stands name columns values (place name columns)
found_at name [] values fits below = absurd (omega (arith, below))
found_at name (c ∷ cs) [] fits below = cc
found_at name (c ∷ cs) (v ∷ vs) fits below =
    either (bytes_eq c.name name) refl (found_at name cs vs (and_parts _ _ fits).1)
  where
    either : (b : Bool) → bytes_eq c.name name ≡ b → (place name cs < length cs → Stands name cs vs (place name cs))
        → Stands name (c ∷ cs) (v ∷ vs) (place name (c ∷ cs))
    either true e more = rw e (record { there = omega arith; value = λ d. rw e })
    either false e more =
        let later = more (let h = rw e at below in omega (arith, h)) in
        let next : 1 + place name cs ≡ suc (place name cs) = omega arith in
        rw e (record {
          there = omega (arith, later.there);
          value = λ d. rw e (ap (λ n. get_or (v ∷ vs) n d) next ∙ later.value d);
        })

-- a place of a name is the first one
pub found : (name : List ℕ) (columns : List Column) (i : ℕ) → stands_at name columns i ≡ true
    → (place name columns < length columns) × (place name columns ≡ i)
found name columns i is = either (nat_lt (place name columns) (length columns)) refl is
  where
    either : (b : Bool) → nat_lt (place name columns) (length columns) ≡ b
        → is_at (cond b (Some (place name columns)) None) i ≡ true
        → (place name columns < length columns) × (place name columns ≡ i)
    either true below is = (grind (arith, nat_tests), grind (arith, nat_tests))
    either false below is = cc

-- it stands at the front, or among the others one place before
pub stands_cases : (name : List ℕ) (c : Column) (cs : List Column) (i : ℕ) → stands_at name (c ∷ cs) i ≡ true
    → ((bytes_eq c.name name ≡ true) × (i ≡ 0))
    ⊎ ((bytes_eq c.name name ≡ false) × ((j : ℕ) × (i ≡ suc j) × (stands_at name cs j ≡ true)))
stands_cases name c cs i is = either (bytes_eq c.name name) refl (found name (c ∷ cs) i is)
  where
    at_place : (n m : ℕ) → n < m → is_at (cond (nat_lt n m) (Some n) None) n ≡ true
    at_place n m below = rw (lt-ltb n m below, eq-eqb n n refl) refl

    either : (b : Bool) → bytes_eq c.name name ≡ b
        → (place name (c ∷ cs) < length (c ∷ cs)) × (place name (c ∷ cs) ≡ i)
        → ((b ≡ true) × (i ≡ 0)) ⊎ ((b ≡ false) × ((j : ℕ) × (i ≡ suc j) × (stands_at name cs j ≡ true)))
    either true e at = inl (refl, sym (let h = rw e at at.1 in h))
    either false e at =
        let below : place name cs < length cs = let h = rw e at at.0 in omega (arith, h) in
        let next : i ≡ suc (place name cs) = let h = rw e at at.1 in omega (arith, h) in
        inr (refl, (place name cs, next, at_place (place name cs) (length cs) below))

-- it stands nowhere among no columns
pub stands_nowhere : (name : List ℕ) (i : ℕ) → stands_at name [] i ≡ true → ⊥
stands_nowhere name i is = cc

-- the value at the place of a name is that of the column
pub value_at : (name : List ℕ) (columns : List Column) (values : List Value) (i : ℕ)
    → values_conform columns values ≡ true → stands_at name columns i ≡ true → Stands name columns values i
value_at name columns values i fits is =
    let at = found name columns i is in
    subst (Stands name columns values) at.1 (found_at name columns values fits at.0)

-- the place of a name that a look-up found
pub told_place : (lent name : List ℕ) (columns : List Column) (i : ℕ) → lent ≡ name → Some i ≡ position_of lent columns
    → stands_at name columns i ≡ true
told_place lent name columns i same is =
    ap (λ n. stands_at n columns i) (sym same) ∙ ap (λ o. is_at o i) (sym is) ∙ eq-eqb i i refl

-- a name that no look-up finds has no kind
pub told_none : (lent name : List ℕ) (columns : List Column) → lent ≡ name → None ≡ position_of lent columns
    → kind_of name columns ≡ None
told_none lent name columns same is =
    either (nat_lt (place name columns) (length columns)) refl (ap (λ n. position_of n columns) (sym same) ∙ sym is)
  where
    either : (b : Bool) → nat_lt (place name columns) (length columns) ≡ b
        → cond b (Some (place name columns)) None ≡ None → kind_of name columns ≡ None
    either true below is = cc
    either false below is = no_kind name columns (grind (arith, nat_tests))

-- a test of a column that isn't there fits no columns
pub fits_none : (check : Check) (name : List ℕ) (columns : List Column) → kind_of name columns ≡ None
    → fits_kind check (kind_of name columns) ≡ true → ⊥
fits_none check name columns none fits =
    let not : false ≡ true = sym (ap (fits_kind check) none) ∙ fits in cc
