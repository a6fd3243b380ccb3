-- What each step makes of a row, by the places of its columns.
use Rattle.std.proofs.Common.{◌≡◌, ◌≢◌, ℕ, ◌<◌, Bool, true, false, cond, not, ◌&&◌, ◌||◌, nat_eq, List, [], ◌∷◌, ◌++◌}
use Rattle.std.proofs.Common.{length, map, get_or, set, Option, option_map, Some, None, Ok, Err, refl, ap, sym, subst}
use Rattle.std.proofs.Common.{◌∙◌}
use Rattle.std.specs.List.{list_all}
use Rattle.std.specs.Str.{str_to_ascii_lowercase, str_to_ascii_uppercase}
use Rattle.std.proofs.lemmas.Bool.{cond_both}
use Rattle.std.proofs.lemmas.Option.{same_Some}
use Rattle.gob_plan.specs.declared.rows.Kind.{Kind}
use Rattle.gob_plan.specs.declared.rows.Value.{Value}
use Rattle.gob_plan.specs.declared.rows.Value.TheVariants as value
use Rattle.gob_plan.specs.declared.rows.Column.{Column}
use Rattle.gob_plan.specs.declared.rows.Row.{Row}
use Rattle.gob_plan.specs.declared.steps.StepSpec.{StepSpec}
use Rattle.gob_plan.specs.declared.steps.StepSpec.TheVariants as step
use Rattle.gob_plan.specs.Columns.{is_there, distinct, is_columns}
use Rattle.gob_plan.specs.Rows.{is_of, is_text, values_conform, value_of, kind_of}
use Rattle.gob_plan.specs.declared.checks.TestSpec.{TestSpec}
use Rattle.gob_plan.specs.Tests.{check_takes, check_is_right, test_fits, test_holds}
use Rattle.gob_rowcheck.specs.Places.{stands_at}
use Rattle.gob_meaning.proofs.Fits.{tests_fit}
use Rattle.gob_convert.specs.Made.{Made}
use Rattle.gob_meaning.specs.Values.{cast}
use Rattle.gob_meaning.specs.Steps.{has_twice, first_missing, columns_named, columns_but, with_new_name, with_new_kind}
use Rattle.gob_meaning.specs.Steps.{with_column, is_full, each_kind, columns_after, step_rows, one_row, on_text}
use Rattle.gob_meaning.specs.Steps.{pieces_of, with_value, row_with_value, row_for_each_piece}
use Rattle.gob_meaning.proofs.StepColumns.{told_missing, told_kind, columns_parts}
use Rattle.gob_meaning.proofs.StepRows.{step_keeps}
use Rattle.gob_steps.specs.Changes.{value_change_of}
use Rattle.gob_steps.specs.Places.{column_place, places_of, values_at, is_below, are_apart, name_of, kept_by}
use Rattle.gob_steps.specs.Places.{changes_one}
use Rattle.gob_steps.specs.Places.{makes_many, row_with, rows_of_pieces}
use Rattle.gob_steps.proofs.Named.{AtPlace, at_place, stands_there, all_there, there_from_kind, values_kept}
use Rattle.gob_steps.proofs.Named.{places_below, places_apart, place_behind, named_there, named_values, left_there}
use Rattle.gob_steps.proofs.Named.{left_values}

-- ---- the columns that a step is for

-- the steps whose own column must be there
abbrev pub needs_own : StepSpec → Bool
needs_own (step.Keep names) = false
needs_own (step.Drop names) = false
needs_own (step.Rename from to) = true
needs_own (step.Cast name to) = true
needs_own (step.Set name k v) = false
needs_own (step.Copy from to) = true
needs_own (step.Explode name separator) = true
needs_own (step.Where test) = true
needs_own (step.Upper name) = true
needs_own (step.Lower name) = true

pub own_there : (s : StepSpec) (columns after : List Column) → columns_after s columns ≡ Ok after
    → needs_own s ≡ true → is_there (name_of s) columns ≡ true
unfolding columns_after
own_there (step.Keep names) columns after told needs = cc
own_there (step.Drop names) columns after told needs = cc
own_there (step.Set name k v) columns after told needs = cc
own_there (step.Rename from to) columns after told needs =
    let t = told_kind from each_kind (λ k. is_there to columns) (λ k. with_new_name from to columns)
    (kind_of from columns) after told in
    there_from_kind from columns t.0 t.1
own_there (step.Cast name to) columns after told needs =
    let t = told_kind name each_kind (λ k. false) (λ k. with_new_kind name to columns)
    (kind_of name columns) after told in
    there_from_kind name columns t.0 t.1
own_there (step.Copy from to) columns after told needs =
    let t = told_kind from each_kind (λ k. is_there to columns || is_full columns) (λ k. with_column to k columns)
    (kind_of from columns) after told in
    there_from_kind from columns t.0 t.1
own_there (step.Explode name separator) columns after told needs =
    let t = told_kind name is_text (λ k. nat_eq (length separator) 0) (λ k. columns)
    (kind_of name columns) after told in
    there_from_kind name columns t.0 t.1
own_there (step.Where test) columns after told needs =
    let t = told_kind test.column (check_takes test.check) (λ k. not (check_is_right test.check k)) (λ k. columns)
    (kind_of test.column columns) after told in
    there_from_kind test.column columns t.0 t.1
own_there (step.Upper name) columns after told needs =
    let t = told_kind name is_text (λ k. false) (λ k. columns) (kind_of name columns) after told in
    there_from_kind name columns t.0 t.1
own_there (step.Lower name) columns after told needs =
    let t = told_kind name is_text (λ k. false) (λ k. columns) (kind_of name columns) after told in
    there_from_kind name columns t.0 t.1

pub kept_there : (s : StepSpec) (columns after : List Column) → columns_after s columns ≡ Ok after
    → all_there (kept_by s after) columns ≡ true
unfolding columns_after
kept_there (step.Keep names) columns after told =
    let t = told_missing (first_missing names columns) (nat_eq (length names) 0 || has_twice names)
    (columns_named names columns) after told in
    subst (λ kept. all_there kept columns ≡ true) t.2 (named_there names columns t.0)
kept_there (step.Drop names) columns after told =
    let t = told_missing (first_missing names columns)
    (nat_eq (length names) 0 || has_twice names || nat_eq (length (columns_but names columns)) 0)
    (columns_but names columns) after told in
    subst (λ kept. all_there kept columns ≡ true) t.2 (left_there names columns)
kept_there (step.Rename from to) columns after told = refl
kept_there (step.Cast name to) columns after told = refl
kept_there (step.Set name k v) columns after told = refl
kept_there (step.Copy from to) columns after told = refl
kept_there (step.Explode name separator) columns after told = refl
kept_there (step.Where test) columns after told = refl
kept_there (step.Upper name) columns after told = refl
kept_there (step.Lower name) columns after told = refl

kept_distinct : (s : StepSpec) (after : List Column) → distinct after ≡ true → distinct (kept_by s after) ≡ true
kept_distinct (step.Keep names) after apart = apart
kept_distinct (step.Drop names) after apart = apart
kept_distinct (step.Rename from to) after apart = refl
kept_distinct (step.Cast name to) after apart = refl
kept_distinct (step.Set name k v) after apart = refl
kept_distinct (step.Copy from to) after apart = refl
kept_distinct (step.Explode name separator) after apart = refl
kept_distinct (step.Where test) after apart = refl
kept_distinct (step.Upper name) after apart = refl
kept_distinct (step.Lower name) after apart = refl

-- the places that a step keeps are those of values, and none stands twice
pub record CanPick (kept : List ℕ) (values : List Value) : Type 0 where
  pub below : list_all (is_below (length values)) kept ≡ true
  pub apart : are_apart kept ≡ true

pub can_pick : (s : StepSpec) (columns after : List Column) (kept : List ℕ) (values : List Value)
    → is_columns columns ≡ true → columns_after s columns ≡ Ok after → kept ≡ places_of (kept_by s after) columns
    → values_conform columns values ≡ true → CanPick kept values
can_pick s columns after kept values proper told places fit =
    let there = kept_there s columns after told in
    let after_proper = (step_keeps s columns after).proper proper told in
    subst (λ ks. CanPick ks values) (sym places) (record {
      below = places_below (kept_by s after) columns values fit there;
      apart = places_apart (kept_by s after) columns there
          (kept_distinct s after (columns_parts after after_proper).2);
    })

-- ---- what steps make, by places

-- the one row with these values
pub one_made : (vs ws : List Value) → vs ≡ ws → one_row ws ≡ one_row vs
one_made vs ws same = ap one_row (sym same)

pub keep_made : (names : List (List ℕ)) (columns after : List Column) (kept : List ℕ) (row r : Row)
    → columns_after (step.Keep names) columns ≡ Ok after → kept ≡ places_of after columns
    → values_conform columns row.values ≡ true → r.values ≡ values_at kept row.values
    → step_rows (step.Keep names) columns row ≡ Some (r ∷ [])
unfolding columns_after step_rows
keep_made names columns after kept row r told places fit is =
    let t = told_missing (first_missing names columns) (nat_eq (length names) 0 || has_twice names)
    (columns_named names columns) after told in
    let named = named_values names columns row.values
    ∙ refl in
    ap one_row (sym (is ∙ ap (λ ks. values_at ks row.values) places
    ∙ values_kept after columns row.values fit (kept_there (step.Keep names) columns after told)
    ∙ ap (map (λ d. value_of d.name columns row.values)) (sym t.2)
    ∙ named_values names columns row.values))

pub drop_made : (names : List (List ℕ)) (columns after : List Column) (kept : List ℕ) (row r : Row)
    → is_columns columns ≡ true
    → columns_after (step.Drop names) columns ≡ Ok after → kept ≡ places_of after columns
    → values_conform columns row.values ≡ true → r.values ≡ values_at kept row.values
    → step_rows (step.Drop names) columns row ≡ Some (r ∷ [])
unfolding columns_after step_rows
drop_made names columns after kept row r proper told places fit is =
    let t = told_missing (first_missing names columns)
    (nat_eq (length names) 0 || has_twice names || nat_eq (length (columns_but names columns)) 0)
    (columns_but names columns) after told in
    ap one_row (sym (is ∙ ap (λ ks. values_at ks row.values) places
    ∙ values_kept after columns row.values fit (kept_there (step.Drop names) columns after told)
    ∙ ap (map (λ d. value_of d.name columns row.values)) (sym t.2)
    ∙ left_values names columns row.values (columns_parts columns proper).2 fit))

pub set_made : (name : List ℕ) (k : Kind) (v : Value) (columns : List Column) (row r : Row)
    → values_conform columns row.values ≡ true
    → (column_place name columns < length row.values → r.values ≡ set row.values (column_place name columns) v)
    → (column_place name columns ≡ length row.values → r.values ≡ row.values ++ v ∷ [])
    → step_rows (step.Set name k v) columns row ≡ Some (r ∷ [])
unfolding step_rows
set_made name k v columns row r fit there behind =
    ap one_row (cond_both (is_there name columns) (with_value name v columns row.values) (row.values ++ v ∷ [])
    (λ vs. vs ≡ r.values)
    (λ here. let at = at_place name columns row.values fit here in at.put v ∙ sym (there at.below))
    (λ away. sym (behind (place_behind name columns row.values fit away))))

pub copy_made : (from to : List ℕ) (columns : List Column) (row r : Row)
    → AtPlace from columns row.values (column_place from columns)
    → r.values ≡ row.values ++ get_or row.values (column_place from columns) value.Null ∷ []
    → step_rows (step.Copy from to) columns row ≡ Some (r ∷ [])
unfolding step_rows
copy_made from to columns row r at is = ap one_row (sym (is ∙ ap (λ v. row.values ++ v ∷ []) at.value))

pub rename_made : (from to : List ℕ) (columns : List Column) (row : Row)
    → step_rows (step.Rename from to) columns row ≡ Some (row ∷ [])
unfolding step_rows
rename_made from to columns row = refl

-- one value changed
abbrev pub changed_row : StepSpec → Row → ℕ → Made Row
changed_row s row k =
    option_map (λ w. record { values = set row.values k w } ∷ []) (value_change_of s (get_or row.values k value.Null))

by_place : (f : Value → Option Value) (name : List ℕ) (columns : List Column) (row : Row) (k : ℕ)
    → AtPlace name columns row.values k
    → option_map (λ w. row_with_value name w columns row ∷ []) (f (value_of name columns row.values))
    ≡ option_map (λ w. record { values = set row.values k w } ∷ []) (f (get_or row.values k value.Null))
by_place f name columns row k at =
    λ i. option_map (λ w. record { values = at.put w i } ∷ []) (f (sym at.value i))

pub change_made : (s : StepSpec) (columns : List Column) (row : Row) (k : ℕ) → changes_one s ≡ true
    → AtPlace (name_of s) columns row.values k → step_rows s columns row ≡ changed_row s row k
unfolding step_rows
change_made (step.Keep names) columns row k changes at = cc
change_made (step.Drop names) columns row k changes at = cc
change_made (step.Rename from to) columns row k changes at = cc
change_made (step.Cast name to) columns row k changes at = by_place (cast to) name columns row k at
change_made (step.Set name kind v) columns row k changes at = cc
change_made (step.Copy from to) columns row k changes at = cc
change_made (step.Explode name separator) columns row k changes at = cc
change_made (step.Where test) columns row k changes at = cc
change_made (step.Upper name) columns row k changes at =
    by_place (on_text str_to_ascii_uppercase) name columns row k at
change_made (step.Lower name) columns row k changes at =
    by_place (on_text str_to_ascii_lowercase) name columns row k at

-- the one row with these values
abbrev pub row_of : List Value → List Row
row_of vs = record { values = vs } ∷ []

-- the row with the changed value
pub changed_done : (o : Option Value) (f : Value → List Value) (vs : List Value) → option_map f o ≡ Some vs
    → option_map (λ (w : Value). row_of (f w)) o ≡ Some (row_of vs)
changed_done None f vs is = cc
changed_done (Some w) f vs is = ap one_row (same_Some (f w) vs is)

-- a row for each piece
pub explode_made : (name separator : List ℕ) (columns : List Column) (row : Row) (k : ℕ)
    → AtPlace name columns row.values k
    → step_rows (step.Explode name separator) columns row
    ≡ Some (rows_of_pieces separator k row (get_or row.values k value.Null))
unfolding step_rows
explode_made name separator columns row k at =
    by_value (value_of name columns row.values) ∙ ap (λ v. Some (rows_of_pieces separator k row v)) (sym at.value)
  where
    pieces_made : (pieces : List (List ℕ))
        → map (λ piece. row_with_value name (value.Text piece) columns row) pieces ≡ map (row_with k row) pieces
    pieces_made [] = refl
    pieces_made (p ∷ pieces) = λ i. record { values = at.put (value.Text p) i } ∷ pieces_made pieces i

    by_value : (v : Value) → row_for_each_piece name separator columns row v
        ≡ Some (rows_of_pieces separator k row v)
    by_value value.Null = refl
    by_value (value.Bool b) = refl
    by_value (value.Int n) = refl
    by_value (value.Text t) = ap Some (pieces_made (pieces_of separator t))

-- ---- the same of a step that is set up

-- its own column, where that must be there
pub own_at : (s : StepSpec) (columns after : List Column) (place : ℕ) (values : List Value)
    → columns_after s columns ≡ Ok after → needs_own s ≡ true → place ≡ column_place (name_of s) columns
    → values_conform columns values ≡ true → AtPlace (name_of s) columns values place
own_at s columns after place values told needs is fit =
    subst (AtPlace (name_of s) columns values) (sym is)
    (at_place (name_of s) columns values fit (own_there s columns after told needs))

pub changing_needs : (s : StepSpec) → changes_one s ≡ true → needs_own s ≡ true
changing_needs (step.Keep names) changes = cc
changing_needs (step.Drop names) changes = cc
changing_needs (step.Rename from to) changes = refl
changing_needs (step.Cast name to) changes = refl
changing_needs (step.Set name k v) changes = cc
changing_needs (step.Copy from to) changes = refl
changing_needs (step.Explode name separator) changes = refl
changing_needs (step.Where test) changes = refl
changing_needs (step.Upper name) changes = refl
changing_needs (step.Lower name) changes = refl

-- the steps that keep some columns
abbrev pub keeps_some : StepSpec → Bool
keeps_some (step.Keep names) = true
keeps_some (step.Drop names) = true
keeps_some (step.Rename from to) = false
keeps_some (step.Cast name to) = false
keeps_some (step.Set name k v) = false
keeps_some (step.Copy from to) = false
keeps_some (step.Explode name separator) = false
keeps_some (step.Where test) = false
keeps_some (step.Upper name) = false
keeps_some (step.Lower name) = false

pub kept_made : (s : StepSpec) (columns after : List Column) (kept : List ℕ) (row r : Row) → keeps_some s ≡ true
    → is_columns columns ≡ true → columns_after s columns ≡ Ok after → kept ≡ places_of (kept_by s after) columns
    → values_conform columns row.values ≡ true → r.values ≡ values_at kept row.values
    → step_rows s columns row ≡ Some (r ∷ [])
kept_made (step.Keep names) columns after kept row r keeps proper told places fit is =
    keep_made names columns after kept row r told places fit is
kept_made (step.Drop names) columns after kept row r keeps proper told places fit is =
    drop_made names columns after kept row r proper told places fit is
kept_made (step.Rename from to) columns after kept row r keeps proper told places fit is = cc
kept_made (step.Cast name to) columns after kept row r keeps proper told places fit is = cc
kept_made (step.Set name k v) columns after kept row r keeps proper told places fit is = cc
kept_made (step.Copy from to) columns after kept row r keeps proper told places fit is = cc
kept_made (step.Explode name separator) columns after kept row r keeps proper told places fit is = cc
kept_made (step.Where test) columns after kept row r keeps proper told places fit is = cc
kept_made (step.Upper name) columns after kept row r keeps proper told places fit is = cc
kept_made (step.Lower name) columns after kept row r keeps proper told places fit is = cc

pub rename_step : (s : StepSpec) (from to : List ℕ) (columns : List Column) (row : Row) → s ≡ step.Rename from to
    → step_rows s columns row ≡ Some (row ∷ [])
rename_step s from to columns row is = ap (λ x. step_rows x columns row) is ∙ rename_made from to columns row

pub set_step : (s : StepSpec) (name : List ℕ) (k : Kind) (v : Value) (columns : List Column) (place : ℕ) (row r : Row)
    → s ≡ step.Set name k v → place ≡ column_place (name_of s) columns → values_conform columns row.values ≡ true
    → (place < length row.values → r.values ≡ set row.values place v)
    → (place ≡ length row.values → r.values ≡ row.values ++ v ∷ [])
    → step_rows s columns row ≡ Some (r ∷ [])
set_step s name k v columns place row r is own fit there behind =
    let at : place ≡ column_place name columns = own ∙ ap (λ x. column_place (name_of x) columns) is in
    ap (λ x. step_rows x columns row) is
    ∙ set_made name k v columns row r fit
    (subst (λ p. p < length row.values → r.values ≡ set row.values p v) at there)
    (subst (λ p. p ≡ length row.values → r.values ≡ row.values ++ v ∷ []) at behind)

pub copy_step : (s : StepSpec) (from to : List ℕ) (columns after : List Column) (place : ℕ) (row r : Row)
    → s ≡ step.Copy from to → columns_after s columns ≡ Ok after → place ≡ column_place (name_of s) columns
    → values_conform columns row.values ≡ true → r.values ≡ row.values ++ get_or row.values place value.Null ∷ []
    → step_rows s columns row ≡ Some (r ∷ [])
copy_step s from to columns after place row r is told own fit made =
    let at : place ≡ column_place from columns = own ∙ ap (λ x. column_place (name_of x) columns) is in
    let there : is_there from columns ≡ true =
    ap (λ x. is_there (name_of x) columns) (sym is) ∙ own_there s columns after told (ap needs_own is) in
    ap (λ x. step_rows x columns row) is
    ∙ copy_made from to columns row r (at_place from columns row.values fit there)
    (made ∙ ap (λ p. row.values ++ get_or row.values p value.Null ∷ []) at)

pub explode_step : (s : StepSpec) (name separator : List ℕ) (columns : List Column) (place : ℕ) (row : Row)
    → s ≡ step.Explode name separator → AtPlace (name_of s) columns row.values place
    → step_rows s columns row ≡ Some (rows_of_pieces separator place row (get_or row.values place value.Null))
explode_step s name separator columns place row is at =
    ap (λ x. step_rows x columns row) is
    ∙ explode_made name separator columns row place
    (subst (λ x. AtPlace (name_of x) columns row.values place) is at)

-- a separator isn't empty
pub separator_there : (s : StepSpec) (name separator : List ℕ) (columns after : List Column)
    → s ≡ step.Explode name separator → columns_after s columns ≡ Ok after → separator ≢ []
unfolding columns_after
separator_there s name separator columns after is told empty =
    let t = told_kind name is_text (λ k. nat_eq (length separator) 0) (λ k. columns)
    (kind_of name columns) after (ap (λ x. columns_after x columns) (sym is) ∙ told) in
    let none : true ≡ false = ap (λ n. nat_eq (length n) 0) (sym empty) ∙ t.3 in cc

-- a test fits the columns of its step, and its column stands at its place
pub record CanAsk (test : TestSpec) (columns : List Column) (place : ℕ) : Type 0 where
  pub fits : test_fits test columns ≡ true
  pub stands : stands_at test.column columns place ≡ true

pub can_ask : (s : StepSpec) (test : TestSpec) (columns after : List Column) (place : ℕ) → s ≡ step.Where test
    → columns_after s columns ≡ Ok after → place ≡ column_place (name_of s) columns → CanAsk test columns place
unfolding columns_after
can_ask s test columns after place is told own =
    let there : is_there test.column columns ≡ true =
    ap (λ x. is_there (name_of x) columns) (sym is) ∙ own_there s columns after told (ap needs_own is) in
    let at : place ≡ column_place test.column columns = own ∙ ap (λ x. column_place (name_of x) columns) is in
    let asked : columns_after (step.Where test) columns ≡ Ok after =
    ap (λ x. columns_after x columns) (sym is) ∙ told in
    let t = told_kind test.column (check_takes test.check) (λ k. not (check_is_right test.check k)) (λ k. columns)
    (kind_of test.column columns) after asked in
    record {
      fits = (tests_fit test columns).1 (asked ∙ ap Ok (sym t.4));
      stands = subst (λ p. stands_at test.column columns p ≡ true) (sym at) (stands_there test.column columns there);
    }

pub where_made : (s : StepSpec) (test : TestSpec) (columns : List Column) (row : Row) (holds : Bool)
    → s ≡ step.Where test → holds ≡ test_holds test columns row
    → step_rows s columns row ≡ Some (cond holds (row ∷ []) [])
unfolding step_rows
where_made s test columns row holds is same =
    ap (λ x. step_rows x columns row) is ∙ ap (λ b. Some (cond b (row ∷ []) [])) (sym same)

-- all steps but one make at most one row
pub few_made : (s : StepSpec) → ((name separator : List ℕ) → s ≡ step.Explode name separator → ⊥)
    → makes_many s ≡ false
few_made (step.Keep names) never = refl
few_made (step.Drop names) never = refl
few_made (step.Rename from to) never = refl
few_made (step.Cast name to) never = refl
few_made (step.Set name k v) never = refl
few_made (step.Copy from to) never = refl
few_made (step.Explode name separator) never = absurd (never name separator refl)
few_made (step.Where test) never = refl
few_made (step.Upper name) never = refl
few_made (step.Lower name) never = refl
