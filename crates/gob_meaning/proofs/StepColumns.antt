-- What a step that isn't refused makes of proper columns.
use Rattle.std.proofs.Common.{◌≡◌, ℕ, suc, ◌+◌, ◌≤◌, Bool, true, false, cond, not, ◌&&◌, ◌||◌, nat_eq, nat_le, List, []}
use Rattle.std.proofs.Common.{◌∷◌, ◌++◌, length, filter, Some, None, Option, Ok, Err, Result, refl, sym, ap, subst, ◌∙◌}
use Rattle.std.proofs.Common.{arith, length-append}
use Rattle.std.specs.Str.{bytes_eq}
use Rattle.std.proofs.lemmas.Bool.{cond_both, and_parts, and_from, true≢false, leb-true, le-leb, not-true, not-false}
use Rattle.std.proofs.lemmas.Bool.{leb-false, eqb-false}
use Rattle.std.proofs.lemmas.List.Folds.{list_any-append}
use Rattle.gob_bytes.proofs.Tables.{name_itself, same_name, two_names}
use Rattle.gob_plan.specs.declared.rows.Kind.{Kind}
use Rattle.gob_plan.specs.declared.rows.Column.{Column}
use Rattle.gob_plan.specs.declared.steps.StepSpec.{StepSpec}
use Rattle.gob_plan.specs.declared.steps.StepSpec.TheVariants as step
use Rattle.gob_plan.specs.declared.steps.Refusal.{Refusal}
use Rattle.gob_plan.specs.Columns.{is_there, distinct, is_columns}
use Rattle.gob_plan.specs.Rows.{is_of, is_text, kind_of}
use Rattle.gob_plan.specs.Tests.{check_takes, check_is_right}
use Rattle.gob_meaning.specs.Steps.{is_among, has_twice, first_missing, columns_named, columns_but, with_new_name}
use Rattle.gob_meaning.specs.Steps.{with_new_kind, with_column, is_full, unless_missing, of_kind, each_kind}
use Rattle.gob_meaning.specs.Steps.{columns_after}
use Rattle.gob_meaning.proofs.PlainLines.{or_parts}

-- ---- what the answer of a step tells

pub told_missing : (o : Option (List ℕ)) (wrong : Bool) (after columns : List Column) → unless_missing o wrong after
    ≡ Ok columns → (o ≡ None) × (wrong ≡ false) × (after ≡ columns)
told_missing None true after columns told = cc
told_missing None false after columns told = (refl, refl, cc)
told_missing (Some n) wrong after columns told = cc

pub told_kind : (name : List ℕ) (right wrong : Kind → Bool) (after : Kind → List Column) (o : Option Kind)
    (columns : List Column) → of_kind name right wrong after o ≡ Ok columns
    → (k : Kind) × (o ≡ Some k) × (right k ≡ true) × (wrong k ≡ false) × (after k ≡ columns)
told_kind name right wrong after None columns told = cc
told_kind name right wrong after (Some k) columns told =
    cond_both (right k) (cond (wrong k) (Err Refusal.BadValue) (Ok (after k))) (Err (Refusal.BadKind name))
    (λ r. r ≡ Ok columns → (j : Kind) × (Some k ≡ Some j) × (right j ≡ true) × (wrong j ≡ false)
    × (after j ≡ columns))
    (λ fine. cond_both (wrong k) (Err Refusal.BadValue) (Ok (after k))
    (λ r. r ≡ Ok columns → (j : Kind) × (Some k ≡ Some j) × (right j ≡ true) × (wrong j ≡ false)
    × (after j ≡ columns))
    (λ _ bad. cc)
    (λ none good. (k, refl, fine, none, cc)))
    (λ _ bad. cc)
    told

abbrev pub set_answer : Bool → Bool → Bool → List Column → List Column → Result (List Column) Refusal
set_answer fits here room a b = cond (fits && (here || not room)) (Ok (cond here a b)) (Err Refusal.BadValue)

pub set_told : (fits here room : Bool) (a b columns : List Column) → set_answer fits here room a b ≡ Ok columns
    → (fits ≡ true) × (cond here a b ≡ columns) × (here ≡ false → room ≡ false)
set_told false here room a b columns told = cc
set_told true true room a b columns told = (refl, cc, λ not_here. absurd (true≢false not_here))
set_told true false true a b columns told = cc
set_told true false false a b columns told = (refl, cc, λ _. refl)

-- ---- columns

pub columns_parts : (cs : List Column) → is_columns cs ≡ true → (1 ≤ length cs) × (length cs ≤ 64)
    × (distinct cs ≡ true)
unfolding is_columns
columns_parts cs proper =
    let outer = and_parts (nat_le 1 (length cs)) _ proper in
    let inner = and_parts (nat_le (length cs) 64) (distinct cs) outer.1 in
    (leb-true 1 (length cs) outer.0, leb-true (length cs) 64 inner.0, inner.1)

columns_from : (cs : List Column) → 1 ≤ length cs → length cs ≤ 64 → distinct cs ≡ true → is_columns cs ≡ true
unfolding is_columns
columns_from cs some few apart = and_from (nat_le 1 (length cs)) _ (le-leb 1 (length cs) some)
    (and_from (nat_le (length cs) 64) (distinct cs) (le-leb (length cs) 64 few) apart)

-- columns of other kinds under the same names
retyped_there : (n name : List ℕ) (k : Kind) (cs : List Column) → is_there n (with_new_kind name k cs) ≡ is_there n cs
retyped_there n name k [] = refl
retyped_there n name k (c ∷ cs) =
    elim (bytes_eq c.name name) as (λ t. (bytes_eq (cond t (record c { kind = k }) c).name n || is_there n
    (with_new_kind name k cs)) ≡ (bytes_eq c.name n || is_there n cs)) [
      | true ↦ ap (λ later. bytes_eq c.name n || later) (retyped_there n name k cs)
      | false ↦ ap (λ later. bytes_eq c.name n || later) (retyped_there n name k cs)
    ]

retyped_apart : (name : List ℕ) (k : Kind) (cs : List Column) → distinct (with_new_kind name k cs) ≡ distinct cs
retyped_apart name k [] = refl
retyped_apart name k (c ∷ cs) =
    elim (bytes_eq c.name name) as (λ t. (not (is_there (cond t (record c { kind = k }) c).name
    (with_new_kind name k cs)) && distinct (with_new_kind name k cs)) ≡ (not (is_there c.name cs) && distinct cs)) [
      | true ↦ rw (retyped_there c.name name k cs, retyped_apart name k cs) refl
      | false ↦ rw (retyped_there c.name name k cs, retyped_apart name k cs) refl
    ]

length-retyped : (name : List ℕ) (k : Kind) (cs : List Column) → length (with_new_kind name k cs) ≡ length cs
length-retyped name k [] = refl
length-retyped name k (c ∷ cs) = ap suc (length-retyped name k cs)

retype_columns : (name : List ℕ) (k : Kind) (cs : List Column) → is_columns cs ≡ true
    → is_columns (with_new_kind name k cs) ≡ true
unfolding is_columns
retype_columns name k cs proper = rw (length-retyped name k cs, retyped_apart name k cs) proper

-- two names that aren't one, either way round
other_way : (x y : List ℕ) → bytes_eq x y ≡ false → bytes_eq y x ≡ false
other_way x y differ = two_names y x (λ same. true≢false (sym (name_itself y) ∙ (rw (← same) at differ)))

append_apart : (c : Column) (cs : List Column) → is_there c.name cs ≡ false → distinct cs ≡ true
    → distinct (cs ++ c ∷ []) ≡ true
append_apart c [] none apart = refl
append_apart c (d ∷ cs) none apart =
    let parts = or_parts (bytes_eq d.name c.name) (is_there c.name cs) none in
    let alone = and_parts (not (is_there d.name cs)) (distinct cs) apart in
    and_from (not (is_there d.name (cs ++ c ∷ []))) _
    (rw (
      list_any-append (λ (e : Column). bytes_eq e.name d.name) cs (c ∷ []),
      not-true
          (is_there d.name cs) alone.0,
      other_way d.name c.name parts.0,
    ) refl)
    (append_apart c cs parts.1 alone.1)

append_columns : (name : List ℕ) (k : Kind) (cs : List Column) → is_columns cs ≡ true → is_there name cs ≡ false
    → is_full cs ≡ false → is_columns (with_column name k cs) ≡ true
append_columns name k cs proper none room =
    let parts = columns_parts cs proper in
    let few = leb-false 64 (length cs) room in
    let longer = length-append cs (record { name = name; kind = k } ∷ []) in
    columns_from (with_column name k cs) (omega arith) (omega arith)
    (append_apart (record { name = name; kind = k }) cs none parts.2)

-- fewer columns
filter_there : (p : Column → Bool) (n : List ℕ) (cs : List Column) → is_there n cs ≡ false → is_there n (filter p cs)
    ≡ false
filter_there p n [] none = refl
filter_there p n (c ∷ cs) none =
    let parts = or_parts (bytes_eq c.name n) (is_there n cs) none in
    elim (p c) as (λ t. is_there n (cond t (c ∷ filter p cs) (filter p cs)) ≡ false) [
      | true ↦ rw parts.0 (filter_there p n cs parts.1)
      | false ↦ filter_there p n cs parts.1
    ]

filter_apart : (p : Column → Bool) (cs : List Column) → distinct cs ≡ true → distinct (filter p cs) ≡ true
filter_apart p [] apart = refl
filter_apart p (c ∷ cs) apart =
    let alone = and_parts (not (is_there c.name cs)) (distinct cs) apart in
    elim (p c) as (λ t. distinct (cond t (c ∷ filter p cs) (filter p cs)) ≡ true) [
      | true ↦ and_from (not (is_there c.name (filter p cs))) _
          (rw (filter_there p c.name cs (not-true (is_there c.name cs) alone.0)) refl) (filter_apart p cs alone.1)
      | false ↦ filter_apart p cs alone.1
    ]

length-filter-le : (p : Column → Bool) (cs : List Column) → length (filter p cs) ≤ length cs
length-filter-le p [] = omega arith
length-filter-le p (c ∷ cs) =
    let later = length-filter-le p cs in
    elim (p c) as (λ t. length (cond t (c ∷ filter p cs) (filter p cs)) ≤ suc (length cs)) [
      | true ↦ omega arith
      | false ↦ omega arith
    ]

drop_columns : (names : List (List ℕ)) (cs : List Column) → is_columns cs ≡ true
    → nat_eq (length (columns_but names cs)) 0 ≡ false → is_columns (columns_but names cs) ≡ true
drop_columns names cs proper some =
    let parts = columns_parts cs proper in
    let fewer = length-filter-le (λ c. not (is_among c.name names)) cs in
    let left : (length (columns_but names cs) ≡ 0) → ⊥ = eqb-false (length (columns_but names cs)) 0 some in
    columns_from (columns_but names cs) (omega arith) (omega arith)
    (filter_apart (λ c. not (is_among c.name names)) cs parts.2)

-- columns kept by name
kept_there : (n : List ℕ) (names : List (List ℕ)) (cs : List Column) → is_there n (columns_named names cs)
    ≡ is_among n names
kept_there n [] cs = refl
kept_there n (m ∷ names) cs = ap (λ later. bytes_eq m n || later) (kept_there n names cs)

kept_apart : (names : List (List ℕ)) (cs : List Column) → has_twice names ≡ false → distinct (columns_named names cs)
    ≡ true
kept_apart [] cs once = refl
kept_apart (n ∷ names) cs once =
    let parts = or_parts (is_among n names) (has_twice names) once in
    and_from (not (is_there n (columns_named names cs))) _ (rw (kept_there n names cs, parts.0) refl)
    (kept_apart names cs parts.1)

length-kept : (names : List (List ℕ)) (cs : List Column) → length (columns_named names cs) ≡ length names
length-kept [] cs = refl
length-kept (n ∷ names) cs = ap suc (length-kept names cs)

-- without the columns of one name
still_there : (n m : List ℕ) (cs : List Column) → bytes_eq n m ≡ false → is_there m (columns_but (n ∷ []) cs)
    ≡ is_there m cs
still_there n m [] differ = refl
still_there n m (c ∷ cs) differ =
    cond_both (not (is_among c.name (n ∷ []))) (c ∷ columns_but (n ∷ []) cs) (columns_but (n ∷ []) cs)
    (λ ds. is_there m ds ≡ (bytes_eq c.name m || is_there m cs))
    (λ _. ap (λ later. bytes_eq c.name m || later) (still_there n m cs differ))
    (λ gone. let same = same_name n c.name (only (bytes_eq n c.name) (not-false _ gone)) in
    rw (← same, differ) (still_there n m cs differ))
  where
    only : (t : Bool) → (t || false) ≡ true → t ≡ true
    only true h = refl
    only false h = h

missing_still : (n : List ℕ) (ns : List (List ℕ)) (cs : List Column) → is_among n ns ≡ false → first_missing ns cs
    ≡ None → first_missing ns (columns_but (n ∷ []) cs) ≡ None
missing_still n [] cs apart none = refl
missing_still n (m ∷ ns) cs apart none =
    let parts = or_parts (bytes_eq m n) (is_among n ns) apart in
    rw (still_there n m cs (other_way m n parts.0))
    (cond_both (is_there m cs) (first_missing ns cs) (Some m)
    (λ o. o ≡ None → cond (is_there m cs) (first_missing ns (columns_but (n ∷ []) cs)) (Some m) ≡ None)
    (λ there later. rw there (missing_still n ns cs parts.1 later))
    (λ _ some. cc)
    none)

one_less : (n : List ℕ) (cs : List Column) → is_there n cs ≡ true → length (columns_but (n ∷ []) cs) + 1 ≤ length cs
one_less n [] there = absurd (true≢false (sym there))
one_less n (c ∷ cs) there =
    let fewer = length-filter-le (λ d. not (is_among d.name (n ∷ []))) cs in
    cond_both (not (is_among c.name (n ∷ []))) (c ∷ columns_but (n ∷ []) cs) (columns_but (n ∷ []) cs)
    (λ ds. length ds + 1 ≤ suc (length cs))
    (λ stays. let later = one_less n cs (later_there (bytes_eq c.name n) (is_there n cs)
    (λ here. stays_not n c.name here stays) there) in omega arith)
    (λ _. omega arith)
  where
    later_there : (s t : Bool) → (s ≡ true → ⊥) → (s || t) ≡ true → t ≡ true
    later_there true t never h = absurd (never refl)
    later_there false t never h = h

    stays_not : (n m : List ℕ) → bytes_eq m n ≡ true → not (is_among m (n ∷ [])) ≡ true → ⊥
    stays_not n m here stays = true≢false (sym stays ∙ rw (same_name m n here, name_itself n) refl)

-- different names that are all there are no more than the columns
no_more : (names : List (List ℕ)) (cs : List Column) → has_twice names ≡ false → first_missing names cs ≡ None
    → length names ≤ length cs
no_more [] cs once none = omega arith
no_more (n ∷ ns) cs once none =
    let parts = or_parts (is_among n ns) (has_twice ns) once in
    cond_both (is_there n cs) (first_missing ns cs) (Some n) (λ o. o ≡ None → suc (length ns) ≤ length cs)
    (λ there later.
    let less = one_less n cs there in
    let rest = no_more ns (columns_but (n ∷ []) cs) parts.1 (missing_still n ns cs parts.0 later) in omega arith)
    (λ _ some. cc)
    none

keep_columns : (names : List (List ℕ)) (cs : List Column) → is_columns cs ≡ true → first_missing names cs ≡ None
    → nat_eq (length names) 0 ≡ false → has_twice names ≡ false → is_columns (columns_named names cs) ≡ true
keep_columns names cs proper none some once =
    let parts = columns_parts cs proper in
    let same = length-kept names cs in
    let few = no_more names cs once none in
    let given : (length names ≡ 0) → ⊥ = eqb-false (length names) 0 some in
    columns_from (columns_named names cs) (omega arith) (omega arith) (kept_apart names cs once)

-- a column called otherwise
renamed_there : (from to n : List ℕ) (cs : List Column) → bytes_eq to n ≡ false → is_there n cs ≡ false
    → is_there n (with_new_name from to cs) ≡ false
renamed_there from to n [] differ none = refl
renamed_there from to n (c ∷ cs) differ none =
    let parts = or_parts (bytes_eq c.name n) (is_there n cs) none in
    elim (bytes_eq c.name from) as (λ t. (bytes_eq (cond t (record c { name = to }) c).name n || is_there n
    (with_new_name from to cs)) ≡ false) [
      | true ↦ rw differ (renamed_there from to n cs differ parts.1)
      | false ↦ rw parts.0 (renamed_there from to n cs differ parts.1)
    ]

renamed_none : (from to : List ℕ) (cs : List Column) → is_there from cs ≡ false → with_new_name from to cs ≡ cs
renamed_none from to [] none = refl
renamed_none from to (c ∷ cs) none =
    let parts = or_parts (bytes_eq c.name from) (is_there from cs) none in
    rw (parts.0, renamed_none from to cs parts.1) refl

renamed_apart : (from to : List ℕ) (cs : List Column) → is_there to cs ≡ false → distinct cs ≡ true
    → distinct (with_new_name from to cs) ≡ true
renamed_apart from to [] none apart = refl
renamed_apart from to (c ∷ cs) none apart =
    let parts = or_parts (bytes_eq c.name to) (is_there to cs) none in
    let alone = and_parts (not (is_there c.name cs)) (distinct cs) apart in
    cond_both (bytes_eq c.name from) (record c { name = to }) c
    (λ d. (not (is_there d.name (with_new_name from to cs)) && distinct (with_new_name from to cs)) ≡ true)
    (λ here.
    let gone = renamed_none from to cs (subst (λ n. is_there n cs ≡ false) (same_name c.name from here)
    (not-true (is_there c.name cs) alone.0)) in
    rw (gone, parts.1) alone.1)
    (λ _. and_from (not (is_there c.name (with_new_name from to cs))) _
    (rw (renamed_there from to c.name cs (other_way c.name to parts.0)
    (not-true (is_there c.name cs) alone.0)) refl) (renamed_apart from to cs parts.1 alone.1))

length-renamed : (from to : List ℕ) (cs : List Column) → length (with_new_name from to cs) ≡ length cs
length-renamed from to [] = refl
length-renamed from to (c ∷ cs) = ap suc (length-renamed from to cs)

rename_columns : (from to : List ℕ) (cs : List Column) → is_columns cs ≡ true → is_there to cs ≡ false
    → is_columns (with_new_name from to cs) ≡ true
rename_columns from to cs proper none =
    let parts = columns_parts cs proper in
    let same = length-renamed from to cs in
    columns_from (with_new_name from to cs) (omega arith) (omega arith) (renamed_apart from to cs none parts.2)

-- ---- each step

pub step_columns : (s : StepSpec) (columns after : List Column) → is_columns columns ≡ true → columns_after s columns
    ≡ Ok after → is_columns after ≡ true
unfolding columns_after
step_columns (step.Keep names) columns after proper told =
    let t = told_missing (first_missing names columns) (nat_eq (length names) 0 || has_twice names)
    (columns_named names columns) after told in
    let right = or_parts (nat_eq (length names) 0) (has_twice names) t.1 in
    subst (λ a. is_columns a ≡ true) t.2 (keep_columns names columns proper t.0 right.0 right.1)
step_columns (step.Drop names) columns after proper told =
    let t = told_missing (first_missing names columns)
    (nat_eq (length names) 0 || has_twice names || nat_eq (length (columns_but names columns)) 0)
    (columns_but names columns) after told in
    let right = or_parts (nat_eq (length names) 0 || has_twice names)
    (nat_eq (length (columns_but names columns)) 0) t.1 in
    subst (λ a. is_columns a ≡ true) t.2 (drop_columns names columns proper right.1)
step_columns (step.Rename from to) columns after proper told =
    let t = told_kind from each_kind (λ k. is_there to columns) (λ k. with_new_name from to columns)
    (kind_of from columns) after told in
    subst (λ a. is_columns a ≡ true) t.4 (rename_columns from to columns proper t.3)
step_columns (step.Cast name to) columns after proper told =
    let t = told_kind name each_kind (λ k. false) (λ k. with_new_kind name to columns)
    (kind_of name columns) after told in
    subst (λ a. is_columns a ≡ true) t.4 (retype_columns name to columns proper)
step_columns (step.Set name k v) columns after proper told =
    let t = set_told (is_of k v) (is_there name columns) (is_full columns) (with_new_kind name k columns)
    (with_column name k columns) after told in
    subst (λ a. is_columns a ≡ true) t.1
    (cond_both (is_there name columns) (with_new_kind name k columns) (with_column name k columns)
    (λ a. is_columns a ≡ true)
    (λ _. retype_columns name k columns proper)
    (λ none. append_columns name k columns proper none (t.2 none)))
step_columns (step.Copy from to) columns after proper told =
    let t = told_kind from each_kind (λ k. is_there to columns || is_full columns) (λ k. with_column to k columns)
    (kind_of from columns) after told in
    let right = or_parts (is_there to columns) (is_full columns) t.3 in
    subst (λ a. is_columns a ≡ true) t.4 (append_columns to t.0 columns proper right.0 right.1)
step_columns (step.Explode name separator) columns after proper told =
    let t = told_kind name is_text (λ k. nat_eq (length separator) 0) (λ k. columns)
    (kind_of name columns) after told in subst (λ a. is_columns a ≡ true) t.4 proper
step_columns (step.Where test) columns after proper told =
    let t = told_kind test.column (check_takes test.check) (λ k. not (check_is_right test.check k)) (λ k. columns)
    (kind_of test.column columns) after told in subst (λ a. is_columns a ≡ true) t.4 proper
step_columns (step.Upper name) columns after proper told =
    let t = told_kind name is_text (λ k. false) (λ k. columns) (kind_of name columns) after told in
    subst (λ a. is_columns a ≡ true) t.4 proper
step_columns (step.Lower name) columns after proper told =
    let t = told_kind name is_text (λ k. false) (λ k. columns) (kind_of name columns) after told in
    subst (λ a. is_columns a ≡ true) t.4 proper
