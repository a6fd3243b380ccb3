-- The column that a test names, and its value in a row.
use Rattle.std.proofs.Common.{◌≡◌, ℕ, suc, ◌+◌, ◌<◌, Bool, true, false, cond, nat_lt, List, [], ◌∷◌, Some}
use Rattle.std.proofs.Common.{None, length, get_or, refl, sym, ap, subst, ◌∙◌, ◌≤◌, arith}
use Rattle.std.specs.List.{position_or_len}
use Rattle.std.specs.Str.{bytes_eq}
use Rattle.std.proofs.lemmas.Bool.Decides.{nat_tests}
use Rattle.std.proofs.lemmas.Bool.{and_parts}
use Rattle.gob_plan.specs.declared.rows.Column.{Column}
use Rattle.gob_plan.specs.declared.rows.Value.{Value}
use Rattle.gob_plan.specs.Columns.{position_of}
use Rattle.gob_plan.specs.Rows.{values_conform, value_of, kind_of}
use Rattle.gob_plan.specs.Tests.{fits_kind}
use Rattle.gob_plan.specs.declared.checks.Check.{Check}

abbrev pub place : List ℕ → List Column → ℕ
place name columns = position_or_len (λ c. bytes_eq c.name name) columns

pub record StandsAt (name : List ℕ) (columns : List Column) (values : List Value) (k : ℕ) : Type 0 where
  pub there : k < length values
  pub value : (d : Value) → get_or values k d ≡ value_of name columns values

-- the value at the place of the column's name is that of the column
stands_at : (name : List ℕ) (columns : List Column) (values : List Value) → values_conform columns values ≡ true →
    place name columns < length columns → StandsAt name columns values (place name columns)
stands_at name [] values fits below = absurd (omega (arith, below))
stands_at name (c ∷ cs) [] fits below = cc
stands_at name (c ∷ cs) (v ∷ vs) fits below =
    either (bytes_eq c.name name) refl (stands_at name cs vs (and_parts _ _ fits).1)
  where
    either : (b : Bool) → bytes_eq c.name name ≡ b → (place name cs < length cs → StandsAt name cs vs (place name cs)) →
        StandsAt name (c ∷ cs) (v ∷ vs) (place name (c ∷ cs))
    either true e more = rw e (record { there = omega arith; value = λ d. rw e })
    either false e more =
        let later = more (let h = rw e at below in omega (arith, h)) in
        let next : 1 + place name cs ≡ suc (place name cs) = omega arith in
        rw e (record {
          there = omega (arith, later.there);
          value = λ d. rw e (ap (λ n. get_or (v ∷ vs) n d) next ∙ later.value d);
        })

found : (name : List ℕ) (columns : List Column) (i : ℕ) → position_of name columns ≡ Some i →
    (place name columns < length columns) × (place name columns ≡ i)
found name columns i is = either (nat_lt (place name columns) (length columns)) refl is
  where
    either : (b : Bool) → nat_lt (place name columns) (length columns) ≡ b →
        cond b (Some (place name columns)) None ≡ Some i →
        (place name columns < length columns) × (place name columns ≡ i)
    either true below is = (grind (arith, nat_tests), cc)
    either false below is = cc

-- where the place of the column's name is known, so is its value
pub value_there : (lent name : List ℕ) (columns : List Column) (values : List Value) (i : ℕ) →
    values_conform columns values ≡ true → lent ≡ name → Some i ≡ position_of lent columns →
    StandsAt name columns values i
value_there lent name columns values i fits same is =
    let at = found name columns i (ap (λ n. position_of n columns) (sym same) ∙ sym is) in
    subst (StandsAt name columns values) at.1 (stands_at name columns values fits at.0)

pub no_kind : (name : List ℕ) (columns : List Column) → (length columns ≤ place name columns) → kind_of name columns
    ≡ None
no_kind name [] above = refl
no_kind name (c ∷ cs) above = either (bytes_eq c.name name) refl (no_kind name cs)
  where
    either : (b : Bool) → bytes_eq c.name name ≡ b → (length cs ≤ place name cs → kind_of name cs ≡ None) →
        kind_of name (c ∷ cs) ≡ None
    either true e more = let h = rw e at above in absurd (omega (arith, h))
    either false e more = rw e (more (let h = rw e at above in omega (arith, h)))

-- a test of a column that isn't there fits no columns
pub fits_none : (check : Check) (lent name : List ℕ) (columns : List Column) → lent ≡ name →
    None ≡ position_of lent columns → fits_kind check (kind_of name columns) ≡ true → ⊥
fits_none check lent name columns same is fits =
    either (nat_lt (place name columns) (length columns)) refl (ap (λ n. position_of n columns) (sym same) ∙ sym is)
  where
    either : (b : Bool) → nat_lt (place name columns) (length columns) ≡ b →
        cond b (Some (place name columns)) None ≡ None → ⊥
    either true below is = cc
    either false below is =
        let above : length columns ≤ place name columns = grind (arith, nat_tests) in
        let none : false ≡ true = sym (ap (fits_kind check) (no_kind name columns above)) ∙ fits in cc
