-- What a step that isn't refused makes of a row that conforms.
use Rattle.std.proofs.Common.{◌≡◌, ℤ, ℕ, ◌+◌, Bool, true, false, cond, not, ◌||◌, nat_eq, List, [], ◌∷◌, ◌++◌, length}
use Rattle.std.proofs.Common.{map, Some, None, Option, Ok, Err, Result, refl, sym, ap, subst, ◌∙◌}
use Rattle.std.specs.List.{list_all}
use Rattle.std.specs.Option.{option_map, unwrap_or}
use Rattle.std.specs.Str.{bytes_eq, str_to_ascii_lowercase, str_to_ascii_uppercase}
use Rattle.std.proofs.lemmas.Bool.{cond_both, and_parts, and_from, true≢false, not-true}
use Rattle.std.specs.Fmt.{signed_decimal}
use Rattle.gob_bytes.specs.Numbers.{integer_read}
use Rattle.gob_bytes.proofs.Tables.{same_name}
use Rattle.gob_convert.specs.Made.{all_made}
use Rattle.gob_plan.specs.declared.rows.Kind.{Kind}
use Rattle.gob_plan.specs.declared.rows.Kind.TheVariants as kind
use Rattle.gob_plan.specs.declared.rows.Value.{Value}
use Rattle.gob_plan.specs.declared.rows.Value.TheVariants as value
use Rattle.gob_plan.specs.declared.rows.Column.{Column}
use Rattle.gob_plan.specs.declared.rows.Row.{Row}
use Rattle.gob_plan.specs.declared.steps.StepSpec.{StepSpec}
use Rattle.gob_plan.specs.declared.steps.StepSpec.TheVariants as step
use Rattle.gob_plan.specs.declared.steps.Refusal.{Refusal}
use Rattle.gob_plan.specs.Columns.{is_there, distinct, is_columns}
use Rattle.gob_plan.specs.Rows.{is_of, is_text, may_stand, values_conform, conforms, kind_of, value_of}
use Rattle.gob_plan.specs.Tests.{test_holds, check_takes, check_is_right}
use Rattle.gob_meaning.specs.Values.{cast, value_read, bool_read, bool_text, bool_of_int, int_of_bool}
use Rattle.gob_meaning.specs.Steps.{is_among, has_twice, first_missing, columns_named, columns_but, with_new_name}
use Rattle.gob_meaning.specs.Steps.{with_new_kind, with_column, is_full, each_kind, columns_after, other_values}
use Rattle.gob_meaning.specs.Steps.{with_value, one_row, row_with_change, on_text, pieces_of, row_for_each_piece}
use Rattle.gob_meaning.specs.Steps.{step_rows}
use Rattle.gob_meaning.specs.Laws.{StepKeeps}
use Rattle.gob_meaning.proofs.PlainLines.{or_parts}
use Rattle.gob_meaning.proofs.StepColumns.{told_missing, told_kind, set_told, columns_parts, step_columns}
use Rattle.std.specs.Result.{result_unwrap_or}
use Rattle.gob_convert.specs.Fitting.{all_made-then_each}
use Rattle.gob_meaning.specs.Steps.{columns_behind, columns_through, first_refused_from, chain_rows}
use Rattle.gob_meaning.specs.Laws.{StepsKeep}

-- ---- rows

-- a value stands in the column that it is taken from
value_stands : (name : List ℕ) (cs : List Column) (vs : List Value) → values_conform cs vs ≡ true
    → may_stand (unwrap_or (kind_of name cs) kind.Text) (value_of name cs vs) ≡ true
value_stands name [] vs fit = refl
value_stands name (c ∷ cs) [] fit = absurd (true≢false (sym fit))
value_stands name (c ∷ cs) (v ∷ vs) fit =
    let parts = and_parts (may_stand c.kind v) (values_conform cs vs) fit in
    elim (bytes_eq c.name name) as (λ t. may_stand (unwrap_or (cond t (Some c.kind) (kind_of name cs)) kind.Text)
    (cond t v (value_of name cs vs)) ≡ true) [
      | true ↦ parts.0
      | false ↦ value_stands name cs vs parts.1
    ]

keep_rows : (names : List (List ℕ)) (cs : List Column) (vs : List Value) → values_conform cs vs ≡ true
    → values_conform (columns_named names cs) (map (λ n. value_of n cs vs) names) ≡ true
keep_rows [] cs vs fit = refl
keep_rows (n ∷ ns) cs vs fit = and_from (may_stand (unwrap_or (kind_of n cs) kind.Text) (value_of n cs vs)) _
    (value_stands n cs vs fit) (keep_rows ns cs vs fit)

drop_rows : (names : List (List ℕ)) (cs : List Column) (vs : List Value) → values_conform cs vs ≡ true
    → values_conform (columns_but names cs) (other_values names cs vs) ≡ true
drop_rows names [] [] fit = refl
drop_rows names [] (v ∷ vs) fit = absurd (true≢false (sym fit))
drop_rows names (c ∷ cs) [] fit = absurd (true≢false (sym fit))
drop_rows names (c ∷ cs) (v ∷ vs) fit =
    let parts = and_parts (may_stand c.kind v) (values_conform cs vs) fit in
    elim (is_among c.name names) as (λ t. values_conform
    (cond (not t) (c ∷ columns_but names cs) (columns_but names cs))
    (cond t (other_values names cs vs) (v ∷ other_values names cs vs)) ≡ true) [
      | true ↦ drop_rows names cs vs parts.1
      | false ↦ and_from (may_stand c.kind v) _ parts.0 (drop_rows names cs vs parts.1)
    ]

rename_rows : (from to : List ℕ) (cs : List Column) (vs : List Value) → values_conform cs vs ≡ true
    → values_conform (with_new_name from to cs) vs ≡ true
rename_rows from to [] vs fit = fit
rename_rows from to (c ∷ cs) [] fit = fit
rename_rows from to (c ∷ cs) (v ∷ vs) fit =
    let parts = and_parts (may_stand c.kind v) (values_conform cs vs) fit in
    elim (bytes_eq c.name from) as (λ t. values_conform (cond t (record c { name = to }) c ∷ with_new_name from to cs)
    (v ∷ vs) ≡ true) [
      | true ↦ and_from (may_stand c.kind v) _ parts.0 (rename_rows from to cs vs parts.1)
      | false ↦ and_from (may_stand c.kind v) _ parts.0 (rename_rows from to cs vs parts.1)
    ]

-- where no column has the name, a new kind changes nothing
retyped_none : (name : List ℕ) (k : Kind) (cs : List Column) → is_there name cs ≡ false → with_new_kind name k cs ≡ cs
retyped_none name k [] none = refl
retyped_none name k (c ∷ cs) none =
    let parts = or_parts (bytes_eq c.name name) (is_there name cs) none in
    rw (parts.0, retyped_none name k cs parts.1) refl

-- a value of a new kind in its column
retype_rows : (name : List ℕ) (k : Kind) (w : Value) → may_stand k w ≡ true → (cs : List Column) (vs : List Value)
    → distinct cs ≡ true → values_conform cs vs ≡ true
    → values_conform (with_new_kind name k cs) (with_value name w cs vs) ≡ true
retype_rows name k w stands [] vs apart fit = fit
retype_rows name k w stands (c ∷ cs) [] apart fit = absurd (true≢false (sym fit))
retype_rows name k w stands (c ∷ cs) (v ∷ vs) apart fit =
    let parts = and_parts (may_stand c.kind v) (values_conform cs vs) fit in
    let alone = and_parts (not (is_there c.name cs)) (distinct cs) apart in
    cond_pair (bytes_eq c.name name) (record c { kind = k }) c (w ∷ vs) (v ∷ with_value name w cs vs)
    (λ d us. values_conform (d ∷ with_new_kind name k cs) us ≡ true)
    (λ here. and_from (may_stand k w) _ stands
    (rw (retyped_none name k cs (subst (λ n. is_there n cs ≡ false) (same_name c.name name here)
    (not-true (is_there c.name cs) alone.0))) parts.1))
    (λ _. and_from (may_stand c.kind v) _ parts.0 (retype_rows name k w stands cs vs alone.1 parts.1))
  where
    cond_pair : {A B : Type 0} (t : Bool) (x y : A) (u v : B) (P : A → B → Type 0) → (t ≡ true → P x u)
        → (t ≡ false → P y v) → P (cond t x y) (cond t u v)
    cond_pair true x y u v P first second = first refl
    cond_pair false x y u v P first second = second refl

-- a value of the same kind in its column
with_rows : (name : List ℕ) (k : Kind) (w : Value) → may_stand k w ≡ true → (cs : List Column) (vs : List Value)
    → kind_of name cs ≡ Some k → values_conform cs vs ≡ true → values_conform cs (with_value name w cs vs) ≡ true
with_rows name k w stands [] vs has fit = fit
with_rows name k w stands (c ∷ cs) [] has fit = absurd (true≢false (sym fit))
with_rows name k w stands (c ∷ cs) (v ∷ vs) has fit =
    let parts = and_parts (may_stand c.kind v) (values_conform cs vs) fit in
    elim (bytes_eq c.name name) as (λ t. cond t (Some c.kind) (kind_of name cs) ≡ Some k
    → values_conform (c ∷ cs) (cond t (w ∷ vs) (v ∷ with_value name w cs vs)) ≡ true) [
      | true ↦ λ here. let same : c.kind ≡ k = cc in and_from (may_stand c.kind w) _ (rw same stands) parts.1
      | false ↦ λ later. and_from (may_stand c.kind v) _ parts.0 (with_rows name k w stands cs vs later parts.1)
    ] has

append_rows : (name : List ℕ) (k : Kind) (w : Value) → may_stand k w ≡ true → (cs : List Column) (vs : List Value)
    → values_conform cs vs ≡ true → values_conform (with_column name k cs) (vs ++ w ∷ []) ≡ true
append_rows name k w stands [] [] fit = and_from (may_stand k w) true stands refl
append_rows name k w stands [] (v ∷ vs) fit = absurd (true≢false (sym fit))
append_rows name k w stands (c ∷ cs) [] fit = absurd (true≢false (sym fit))
append_rows name k w stands (c ∷ cs) (v ∷ vs) fit =
    let parts = and_parts (may_stand c.kind v) (values_conform cs vs) fit in
    and_from (may_stand c.kind v) _ parts.0 (append_rows name k w stands cs vs parts.1)

-- ---- values

some_same : (v w : Value) → Some v ≡ Some w → v ≡ w
some_same v w same = cc

bool_stands : (o : Option Bool) (w : Value) → option_map value.Bool o ≡ Some w → may_stand kind.Bool w ≡ true
bool_stands None w made = cc
bool_stands (Some b) w made = rw (← some_same (value.Bool b) w made) refl

pub int_stands : (o : Option ℤ) (w : Value) → option_map value.Int o ≡ Some w → may_stand kind.Int w ≡ true
int_stands None w made = cc
int_stands (Some n) w made = rw (← some_same (value.Int n) w made) refl

pub read_stands : (k : Kind) (text : List ℕ) (w : Value) → value_read k text ≡ Some w → may_stand k w ≡ true
read_stands kind.Bool text w made = bool_stands (bool_read text) w made
read_stands kind.Int text w made = int_stands (integer_read text) w made
read_stands kind.Text text w made = rw (← some_same (value.Text text) w made) refl

of_stands : (k : Kind) (v : Value) → is_of k v ≡ true → may_stand k v ≡ true
of_stands k value.Null fits = refl
of_stands k (value.Bool b) fits = fits
of_stands k (value.Int n) fits = fits
of_stands k (value.Text t) fits = fits

pub text_kind : (k : Kind) → is_text k ≡ true → k ≡ kind.Text
text_kind kind.Bool text = absurd (true≢false (sym text))
text_kind kind.Int text = absurd (true≢false (sym text))
text_kind kind.Text text = refl

text_stands : (f : List ℕ → List ℕ) (v : Value) → may_stand kind.Text v ≡ true
    → may_stand kind.Text (unwrap_or (on_text f v) value.Null) ≡ true
text_stands f value.Null fits = refl
text_stands f (value.Bool b) fits = fits
text_stands f (value.Int n) fits = fits
text_stands f (value.Text t) fits = refl

cast_stands : (k : Kind) (v w : Value) → cast k v ≡ Some w → may_stand k w ≡ true
cast_stands k value.Null w made = rw (← some_same value.Null w made) refl
cast_stands kind.Bool (value.Bool b) w made = rw (← some_same (value.Bool b) w made) refl
cast_stands kind.Bool (value.Int n) w made = bool_stands (bool_of_int n) w made
cast_stands kind.Bool (value.Text t) w made = bool_stands (bool_read t) w made
cast_stands kind.Int (value.Bool b) w made = rw (← some_same (value.Int (int_of_bool b)) w made) refl
cast_stands kind.Int (value.Int n) w made = rw (← some_same (value.Int n) w made) refl
cast_stands kind.Int (value.Text t) w made = int_stands (integer_read t) w made
cast_stands kind.Text (value.Bool b) w made = rw (← some_same (value.Text (bool_text b)) w made) refl
cast_stands kind.Text (value.Int n) w made = rw (← some_same (value.Text (signed_decimal n)) w made) refl
cast_stands kind.Text (value.Text t) w made = rw (← some_same (value.Text t) w made) refl

-- ---- each step

there_kind : (name : List ℕ) (cs : List Column) → is_there name cs ≡ true → (k : Kind) × (kind_of name cs ≡ Some k)
there_kind name [] there = absurd (true≢false (sym there))
there_kind name (c ∷ cs) there =
    cond_both (bytes_eq c.name name) (Some c.kind) (kind_of name cs) (λ o. (k : Kind) × (o ≡ Some k))
    (λ _. (c.kind, refl))
    (λ other. there_kind name cs (second (bytes_eq c.name name) (is_there name cs) other there))
  where
    second : (s t : Bool) → s ≡ false → (s || t) ≡ true → t ≡ true
    second true t not_so h = absurd (true≢false not_so)
    second false t not_so h = h

pub one_conforms : (after : List Column) (vs : List Value) → values_conform after vs ≡ true
    → all_made (conforms after) (Some (record { values = vs } ∷ [])) ≡ true
unfolding conforms
one_conforms after vs fit = rw fit refl

-- a changed value that may stand in its column
changed_conforms : (name : List ℕ) (columns after : List Column) (row : Row) (o : Option Value)
    → ((w : Value) → o ≡ Some w → values_conform after (with_value name w columns row.values) ≡ true)
    → all_made (conforms after) (option_map (λ w. record { values = with_value name w columns row.values } ∷ []) o)
    ≡ true
changed_conforms name columns after row None fits = refl
changed_conforms name columns after row (Some w) fits =
    one_conforms after (with_value name w columns row.values) (fits w refl)

pieces_conform : (name : List ℕ) (columns : List Column) (row : Row) → kind_of name columns ≡ Some kind.Text
    → values_conform columns row.values ≡ true → (pieces : List (List ℕ))
    → list_all (conforms columns) (map (λ piece. record
    { values = with_value name (value.Text piece) columns row.values }) pieces) ≡ true
unfolding conforms
pieces_conform name columns row text fit [] = refl
pieces_conform name columns row text fit (p ∷ pieces) =
    and_from (values_conform columns (with_value name (value.Text p) columns row.values)) _
    (with_rows name kind.Text (value.Text p) refl columns row.values text fit)
    (pieces_conform name columns row text fit pieces)

on_text_conforms : (name : List ℕ) (f : List ℕ → List ℕ) (columns : List Column) (row : Row) → kind_of name columns
    ≡ Some kind.Text → values_conform columns row.values ≡ true
    → all_made (conforms columns) (option_map (λ w. record { values = with_value name w columns row.values } ∷ [])
    (on_text f (value_of name columns row.values))) ≡ true
on_text_conforms name f columns row text fit =
    changed_conforms name columns columns row (on_text f (value_of name columns row.values))
    (λ w made. with_rows name kind.Text w
    (subst (λ o. may_stand kind.Text (unwrap_or o value.Null) ≡ true) made
    (text_stands f (value_of name columns row.values) (rw text at (value_stands name columns row.values fit))))
    columns row.values text fit)

exploded_conforms : (name separator : List ℕ) (columns : List Column) (row : Row) (v : Value) → kind_of name columns
    ≡ Some kind.Text → values_conform columns row.values ≡ true
    → all_made (conforms columns) (row_for_each_piece name separator columns row v) ≡ true
exploded_conforms name separator columns row value.Null text fit = refl
exploded_conforms name separator columns row (value.Bool b) text fit = refl
exploded_conforms name separator columns row (value.Int n) text fit = refl
exploded_conforms name separator columns row (value.Text t) text fit =
    pieces_conform name columns row text fit (pieces_of separator t)

step_conforms : (s : StepSpec) (columns after : List Column) (row : Row) → is_columns columns ≡ true
    → columns_after s columns ≡ Ok after → values_conform columns row.values ≡ true
    → all_made (conforms after) (step_rows s columns row) ≡ true
unfolding columns_after step_rows
step_conforms (step.Keep names) columns after row proper told fit =
    let t = told_missing (first_missing names columns) (nat_eq (length names) 0 || has_twice names)
    (columns_named names columns) after told in
    subst (λ a. all_made (conforms a) (one_row (map (λ n. value_of n columns row.values) names)) ≡ true) t.2
    (one_conforms (columns_named names columns) _ (keep_rows names columns row.values fit))
step_conforms (step.Drop names) columns after row proper told fit =
    let t = told_missing (first_missing names columns)
    (nat_eq (length names) 0 || has_twice names || nat_eq (length (columns_but names columns)) 0)
    (columns_but names columns) after told in
    subst (λ a. all_made (conforms a) (one_row (other_values names columns row.values)) ≡ true) t.2
    (one_conforms (columns_but names columns) _ (drop_rows names columns row.values fit))
step_conforms (step.Rename from to) columns after row proper told fit =
    let t = told_kind from each_kind (λ k. is_there to columns) (λ k. with_new_name from to columns)
    (kind_of from columns) after told in
    subst (λ a. all_made (conforms a) (Some (row ∷ [])) ≡ true) t.4
    (one_conforms (with_new_name from to columns) row.values (rename_rows from to columns row.values fit))
step_conforms (step.Cast name to) columns after row proper told fit =
    let t = told_kind name each_kind (λ k. false) (λ k. with_new_kind name to columns)
    (kind_of name columns) after told in
    subst (λ a. all_made (conforms a) (row_with_change name (cast to) columns row) ≡ true) t.4
    (changed_conforms name columns (with_new_kind name to columns) row (cast to (value_of name columns row.values))
    (λ w made. retype_rows name to w (cast_stands to (value_of name columns row.values) w made) columns row.values
    (columns_parts columns proper).2 fit))
step_conforms (step.Set name k v) columns after row proper told fit =
    let t = set_told (is_of k v) (is_there name columns) (is_full columns) (with_new_kind name k columns)
    (with_column name k columns) after told in
    subst (λ a. all_made (conforms a) (one_row (cond (is_there name columns) (with_value name v columns row.values)
    (row.values ++ v ∷ []))) ≡ true) t.1
    (cond_two (is_there name columns) (with_new_kind name k columns) (with_column name k columns)
    (with_value name v columns row.values) (row.values ++ v ∷ [])
    (λ a vs. all_made (conforms a) (one_row vs) ≡ true)
    (one_conforms (with_new_kind name k columns) _
    (retype_rows name k v (of_stands k v t.0) columns row.values (columns_parts columns proper).2 fit))
    (one_conforms (with_column name k columns) _ (append_rows name k v (of_stands k v t.0) columns row.values fit)))
  where
    cond_two : {A B : Type 0} (t : Bool) (x y : A) (u v : B) (P : A → B → Type 0) → P x u → P y v
        → P (cond t x y) (cond t u v)
    cond_two true x y u v P first second = first
    cond_two false x y u v P first second = second
step_conforms (step.Copy from to) columns after row proper told fit =
    let t = told_kind from each_kind (λ k. is_there to columns || is_full columns) (λ k. with_column to k columns)
    (kind_of from columns) after told in
    subst (λ a. all_made (conforms a) (one_row (row.values ++ value_of from columns row.values ∷ [])) ≡ true) t.4
    (one_conforms (with_column to t.0 columns) _ (append_rows to t.0 (value_of from columns row.values)
    (rw t.1 at (value_stands from columns row.values fit)) columns row.values fit))
step_conforms (step.Explode name separator) columns after row proper told fit =
    let t = told_kind name is_text (λ k. nat_eq (length separator) 0) (λ k. columns)
    (kind_of name columns) after told in
    subst (λ a. all_made (conforms a) (row_for_each_piece name separator columns row
    (value_of name columns row.values)) ≡ true) t.4
    (exploded_conforms name separator columns row (value_of name columns row.values)
    (t.1 ∙ ap Some (text_kind t.0 t.2)) fit)
step_conforms (step.Where test) columns after row proper told fit =
    let t = told_kind test.column (check_takes test.check) (λ k. not (check_is_right test.check k)) (λ k. columns)
    (kind_of test.column columns) after told in
    subst (λ a. all_made (conforms a) (Some (cond (test_holds test columns row) (row ∷ []) [])) ≡ true) t.4
    (cond_both (test_holds test columns row) (row ∷ []) [] (λ rows. all_made (conforms columns) (Some rows) ≡ true)
    (λ _. one_conforms columns row.values fit) (λ _. refl))
step_conforms (step.Upper name) columns after row proper told fit =
    let t = told_kind name is_text (λ k. false) (λ k. columns) (kind_of name columns) after told in
    subst (λ a. all_made (conforms a) (row_with_change name (on_text str_to_ascii_uppercase) columns row) ≡ true) t.4
    (on_text_conforms name str_to_ascii_uppercase columns row (t.1 ∙ ap Some (text_kind t.0 t.2)) fit)
step_conforms (step.Lower name) columns after row proper told fit =
    let t = told_kind name is_text (λ k. false) (λ k. columns) (kind_of name columns) after told in
    subst (λ a. all_made (conforms a) (row_with_change name (on_text str_to_ascii_lowercase) columns row) ≡ true) t.4
    (on_text_conforms name str_to_ascii_lowercase columns row (t.1 ∙ ap Some (text_kind t.0 t.2)) fit)

pub step_keeps : (s : StepSpec) (columns after : List Column) → StepKeeps s columns after
unfolding conforms
step_keeps s columns after = record {
  proper = step_columns s columns after;
  rows = λ row proper told fit. step_conforms s columns after row proper told fit;
}

-- ---- steps one after the other

-- what is said of steps from an index on
record ChainKeeps (ss : List StepSpec) (columns : List Column) : Type 0 where
  proper : is_columns (columns_through ss columns) ≡ true
  rows : (row : Row) → conforms columns row ≡ true
      → all_made (conforms (columns_through ss columns)) (chain_rows ss columns row) ≡ true

-- a step before steps that keep
step_before : (s : StepSpec) (ss : List StepSpec) (columns after : List Column) → is_columns columns ≡ true
    → columns_after s columns ≡ Ok after
    → ChainKeeps ss after → ChainKeeps (s ∷ ss) columns
step_before s ss columns after proper told later =
    let behind : columns_behind s columns ≡ after = ap (λ r. result_unwrap_or r columns) told in
    let of_step = step_keeps s columns after in
    record {
      proper = rw behind later.proper;
      rows = λ row fit. rw behind (all_made-then_each (conforms after) (conforms (columns_through ss after))
          (chain_rows ss after) later.rows (step_rows s columns row) (of_step.rows row proper told fit));
    }

chain_keeps : (i : ℕ) (ss : List StepSpec) (columns : List Column) → is_columns columns ≡ true
    → first_refused_from i ss columns ≡ None → ChainKeeps ss columns
chain_keeps i [] columns proper none = record {
  proper = proper;
  rows = λ row fit.
      and_from (conforms columns row) true fit refl;
}
chain_keeps i (s ∷ ss) columns proper none = cases (chain_keeps (i + 1) ss) (columns_after s columns) refl
  where
    cases : ((after : List Column) → is_columns after ≡ true → first_refused_from (i + 1) ss after ≡ None
        → ChainKeeps ss after)
        → (r : Result (List Column) Refusal) → columns_after s columns ≡ r → ChainKeeps (s ∷ ss) columns
    cases keeps (Ok after) told =
        step_before s ss columns after proper told
        (keeps after ((step_keeps s columns after).proper proper told) (rw told at none))
    cases keeps (Err why) told = absurd (let no : Some (i, why) ≡ None = rw told at none in cc)

pub steps_keep : (ss : List StepSpec) (columns : List Column) → StepsKeep ss columns
steps_keep ss columns = record {
  proper = λ proper none. (chain_keeps 0 ss columns proper none).proper;
  rows = λ row proper none fit. (chain_keeps 0 ss columns proper none).rows row fit;
}
