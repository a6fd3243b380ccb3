-- What is read of elements and lists goes with its columns and is no longer than it may be.
use Rattle.std.proofs.Common.{◌≡◌, ℕ, zero, suc, ◌+◌, ◌≤◌, Bool, true, false, cond, not, ◌&&◌, nat_eq, nat_le, List, []}
use Rattle.std.proofs.Common.{◌∷◌, ◌++◌, length, map, Option, Some, None, Ok, Err, Result, refl, sym, ap, subst, ◌∙◌}
use Rattle.std.proofs.Common.{arith}
use Rattle.std.specs.Prelude.{zip}
use Rattle.std.specs.List.{list_all, AllByRecursion}
use Rattle.std.specs.Option.{is_none, option_map, option_and_then, ok_or}
use Rattle.std.specs.Result.{result_unwrap_or}
use Rattle.std.proofs.lemmas.Bool.{true≢false, cond_both, cond-true, and_parts, and_from, eqb-true, leb-true}
use Rattle.std.proofs.lemmas.List.{length-map}
use Rattle.std.proofs.lemmas.List.Folds.{list_all-append}
use Rattle.gob_plan.specs.declared.rows.Kind.{Kind}
use Rattle.gob_plan.specs.declared.rows.Value.{Value}
use Rattle.gob_plan.specs.declared.rows.Value.TheVariants as value
use Rattle.gob_plan.specs.declared.rows.Column.{Column}
use Rattle.gob_plan.specs.declared.checks.How.{How}
use Rattle.gob_plan.specs.declared.checks.Check.{Check}
use Rattle.gob_plan.specs.declared.checks.Check.TheVariants as check
use Rattle.gob_plan.specs.declared.checks.TestSpec.{TestSpec}
use Rattle.gob_plan.specs.declared.steps.StepSpec.{StepSpec}
use Rattle.gob_plan.specs.declared.steps.StepSpec.TheVariants as step
use Rattle.gob_plan.specs.declared.steps.Refusal.{Refusal}
use Rattle.gob_plan.specs.declared.steps.Refusal.TheVariants.{NoColumn, BadKind, BadValue}
use Rattle.gob_plan.specs.declared.plan.Counter.{Counter}
use Rattle.gob_plan.specs.declared.plan.Counter.TheVariants as counter
use Rattle.gob_plan.specs.declared.plan.ForkHow.{ForkHow}
use Rattle.gob_plan.specs.declared.plan.ForkHow.TheVariants as fork_how
use Rattle.gob_plan.specs.declared.plan.Format.{Format}
use Rattle.gob_plan.specs.declared.plan.Format.TheVariants as format
use Rattle.gob_plan.specs.declared.plan.Mode.{Mode}
use Rattle.gob_plan.specs.declared.plan.PlaceSpec.{PlaceSpec}
use Rattle.gob_plan.specs.declared.plan.PolicySpec.{PolicySpec}
use Rattle.gob_plan.specs.declared.plan.TaskPolicy.{TaskPolicy}
use Rattle.gob_plan.specs.declared.plan.TaskRule.{TaskRule}
use Rattle.gob_plan.specs.declared.plan.TaskRule.TheVariants as rule
use Rattle.gob_plan.specs.Columns.{is_columns}
use Rattle.gob_plan.specs.Rows.{kind_of}
use Rattle.gob_plan.specs.Tests.{check_takes, check_is_right, fits_kind, test_fits}
use Rattle.gob_bytes.specs.Numbers.{number_read}
use Rattle.gob_bytes.specs.Tables.{Table, at_name}
use Rattle.gob_meaning.specs.Values.{value_read}
use Rattle.gob_meaning.specs.Steps.{of_kind, columns_after, columns_behind, first_refused_from, first_refused}
use Rattle.gob_meaning.specs.Plans.{reads_columns, write_refusal, writes_columns, place_refusal, place_fits}
use Rattle.gob_meaning.specs.Plans.{counter_fits, rule_fits}
use Rattle.gob_jobs.specs.Words.{and_then, value_map, fault_map, both, only_if, each_read, each_or_fault, is_empty}
use Rattle.gob_jobs.specs.Words.{pieces, elements, few_elements, words_of, number_within}
use Rattle.gob_jobs.specs.Elements.{Form, form_in, worded_test, check_of_kind, test_of_kind, test_over, test_read}
use Rattle.gob_jobs.specs.Elements.{step_forms, accepted_step, step_over, step_read, steps_read, place_forms}
use Rattle.gob_jobs.specs.Elements.{unit_counters}
use Rattle.gob_jobs.specs.Elements.{branch_counters, branch_counter, counter_read, range_words, share_words}
use Rattle.gob_jobs.specs.Elements.{rule_is_right, rule_forms, rule_read}
use Rattle.gob_jobs.specs.KeyTable.{ValueFault, refused, bad_count, known_value, unless_refused, list_read, formats}
use Rattle.gob_jobs.specs.KeyTable.{line_columns, column_read, columns_listed, columns_read, steps_listed, tests_listed}
use Rattle.gob_jobs.specs.KeyTable.{fork_tests, strict_policy, as_many, modes_listed, with_modes, format_read}
use Rattle.gob_jobs.specs.KeyTable.{place_read, rules_listed, strict_rule, with_task_modes}
use Rattle.gob_jobs.proofs.Results.{then_ok, map_ok, fault_ok, known_ok, ok_or_ok, unrefused, some_then, some_map}
use Rattle.gob_jobs.proofs.Results.{some_both, only_some}

-- ---- tests

takes_stays : (k : Kind) (c d : Check) → check_of_kind k c ≡ Some d → check_takes d k ≡ check_takes c k
takes_stays k check.Null d is = let e : check.Null ≡ d = cc in ap (λ x. check_takes x k) (sym e)
takes_stays k (check.Like p) d is = let e : check.Like p ≡ d = cc in ap (λ x. check_takes x k) (sym e)
takes_stays k (check.Bytes low high) d is = let e : check.Bytes low high ≡ d = cc in ap (λ x. check_takes x k) (sym e)
takes_stays k (check.Compare h (value.Text t)) d is =
    let p = some_map (λ v. check.Compare h v) (value_read k t) d is in ap (λ x. check_takes x k) (sym p.2)
takes_stays k (check.Compare h value.Null) d is = let e : check.Compare h value.Null ≡ d = cc in
    ap (λ x. check_takes x k) (sym e)
takes_stays k (check.Compare h (value.Bool b)) d is = let e : check.Compare h (value.Bool b) ≡ d = cc in
    ap (λ x. check_takes x k) (sym e)
takes_stays k (check.Compare h (value.Int n)) d is = let e : check.Compare h (value.Int n) ≡ d = cc in
    ap (λ x. check_takes x k) (sym e)

-- what is known of a test over columns
pub record Tested (columns : List Column) (t : TestSpec) : Type 0 where
  pub kind : Kind
  pub there : kind_of t.column columns ≡ Some kind
  pub taken : check_takes t.check kind ≡ true
  pub right : check_is_right t.check kind ≡ true

tested_of : (columns : List Column) (t u : TestSpec) (o : Option Kind) → kind_of t.column columns ≡ o
    → test_of_kind t o ≡ Ok u → Tested columns u
tested_of columns t u None there is = cc
tested_of columns t u (Some k) there is =
    let read = ok_or (option_map (λ c. record t { check = c })
    (option_and_then (only_if (λ c. check_is_right c k)) (check_of_kind k t.check))) BadValue in
    cond_both (check_takes t.check k) read (Err (BadKind t.column)) (λ r. r ≡ Ok u → Tested columns u)
    (λ takes good.
    let m = some_map (λ c. record t { check = c }) (option_and_then (only_if (λ c. check_is_right c k))
    (check_of_kind k t.check)) u (ok_or_ok _ BadValue u good) in
    let n = some_then (only_if (λ c. check_is_right c k)) (check_of_kind k t.check) m.0 m.1 in
    let right = only_some (λ c. check_is_right c k) n.0 m.0 n.2 in
    let same : n.0 ≡ m.0 = right.1 in
    subst (Tested columns) m.2 (record {
      kind = k;
      there = there;
      taken = ap (λ c. check_takes c k) (sym same) ∙ (takes_stays k t.check n.0 n.1 ∙ takes);
      right = ap (λ c. check_is_right c k) (sym same) ∙ right.0;
    }))
    (λ _ no. cc)
    is

tested_over : (columns : List Column) (t u : TestSpec) → test_over columns t ≡ Ok u → Tested columns u
tested_over columns t u is = tested_of columns t u (kind_of t.column columns) refl is

tested_fits : (columns : List Column) (t : TestSpec) → Tested columns t → test_fits t columns ≡ true
unfolding test_fits
tested_fits columns t known' = ap (fits_kind t.check) known'.there ∙ and_from _ _ known'.taken known'.right

pub test_read_fits : (columns : List Column) (element : List ℕ) (t : TestSpec) → test_read columns element ≡ Ok t
    → test_fits t columns ≡ true
unfolding test_read
test_read_fits columns element t is =
    let p = then_ok (test_over columns) (ok_or (worded_test (words_of element)) BadValue) t is in
    tested_fits columns t (tested_over columns p.0 t p.2)

-- ---- lists

-- as many as there were, each of which fits
abbrev pub tests_fit : List Column → List TestSpec → Bool
tests_fit columns tests = list_all (λ t. test_fits t columns) tests

tests_of : (columns : List Column) (es : List (List ℕ)) (ts : List TestSpec)
    → each_or_fault (test_read columns) es ≡ Ok ts → (tests_fit columns ts ≡ true) × (length ts ≡ length es)
tests_of columns [] ts is =
    let e : [] ≡ ts = cc in (ap (tests_fit columns) (sym e), ap length (sym e))
tests_of columns (x ∷ xs) ts is =
    let p = then_ok (λ y. value_map (λ ys. y ∷ ys) (each_or_fault (test_read columns) xs)) (test_read columns x) ts is
    in
    let m = map_ok (λ ys. p.0 ∷ ys) (each_or_fault (test_read columns) xs) ts p.2 in
    let later = tests_of columns xs m.0 m.1 in (
      ap (tests_fit columns) (sym m.2) ∙ and_from _ _ (test_read_fits columns x p.0 p.1) later.0,
      ap length (sym m.2) ∙ ap suc later.1,
    )

pub few_known : (most separator : ℕ) (value : List ℕ) (es : List (List ℕ))
    → known_value (few_elements most separator value) ≡ Ok es → nat_le (length es) most ≡ true
few_known most separator value es is =
    let p = some_then (only_if (λ xs. nat_le (length xs) most)) (elements separator value) es
    (known_ok (few_elements most separator value) es is) in
    let q = only_some (λ xs. nat_le (length xs) most) p.0 es p.2 in
    ap (λ xs. nat_le (length xs) most) (sym q.1) ∙ q.0

pub tests_listed_fit : (columns : List Column) (value : List ℕ) (ts : List TestSpec)
    → tests_listed columns value ≡ Ok ts → (tests_fit columns ts ≡ true) × (nat_le (length ts) 16 ≡ true)
unfolding tests_listed
tests_listed_fit columns value ts is =
    let p = then_ok (λ es. fault_map refused (each_or_fault (test_read columns) es))
    (known_value (few_elements 16 59 value))
    ts is in
    let q = tests_of columns p.0 ts (fault_ok refused (each_or_fault (test_read columns) p.0) ts p.2) in
    (q.0, ap (λ n. nat_le n 16) q.1 ∙ few_known 16 59 value p.0 p.1)

-- ---- steps

where_accepted : (columns : List Column) (t : TestSpec) → Tested columns t → (after : List Column)
    × (columns_after (step.Where t) columns ≡ Ok after)
unfolding columns_after
where_accepted columns t k = (
  columns,
  ap (of_kind t.column (check_takes t.check) (λ j. not (check_is_right t.check j)) (λ j. columns)) k.there
      ∙ (ap (λ v. cond v (cond (not (check_is_right t.check k.kind)) (Err BadValue) (Ok columns))
      (Err (BadKind t.column))) k.taken
      ∙ ap (λ v. cond (not v) (Err BadValue) (Ok columns)) k.right),
)

-- the columns take the step
Takes : List Column → StepSpec → Type 0
Takes columns s = (after : List Column) × (columns_after s columns ≡ Ok after)

accepted_takes : (columns : List Column) (s t : StepSpec) → accepted_step columns s ≡ Ok t → Takes columns t
unfolding Takes
accepted_takes columns s t is =
    let m = map_ok (λ after. s) (columns_after s columns) t is in
    (m.0, ap (λ x. columns_after x columns) (sym m.2) ∙ m.1)

over_takes : (columns : List Column) (s t : StepSpec) → step_over columns s ≡ Ok t → Takes columns t
unfolding Takes
over_takes columns (step.Keep names) t is = accepted_takes columns (step.Keep names) t is
over_takes columns (step.Drop names) t is = accepted_takes columns (step.Drop names) t is
over_takes columns (step.Rename from to) t is = accepted_takes columns (step.Rename from to) t is
over_takes columns (step.Cast name k) t is = accepted_takes columns (step.Cast name k) t is
over_takes columns (step.Set name k v) t is = accepted_takes columns (step.Set name k v) t is
over_takes columns (step.Copy from to) t is = accepted_takes columns (step.Copy from to) t is
over_takes columns (step.Explode name separator) t is = accepted_takes columns (step.Explode name separator) t is
over_takes columns (step.Upper name) t is = accepted_takes columns (step.Upper name) t is
over_takes columns (step.Lower name) t is = accepted_takes columns (step.Lower name) t is
over_takes columns (step.Where worded) t is =
    let m = map_ok (λ u. step.Where u) (test_over columns worded) t is in
    let w = where_accepted columns m.0 (tested_over columns worded m.0 m.1) in
    (w.0, ap (λ x. columns_after x columns) (sym m.2) ∙ w.1)

step_read_takes : (columns : List Column) (element : List ℕ) (s : StepSpec) → step_read columns element ≡ Ok s
    → Takes columns s
unfolding step_read
step_read_takes columns element s is =
    let p = then_ok (step_over columns) (ok_or (form_in step_forms (words_of element)) BadValue) s is in
    over_takes columns p.0 s p.2

next_refused : (i : ℕ) (s : StepSpec) (ss : List StepSpec) (columns : List Column) → Takes columns s
    → first_refused_from (i + 1) ss (columns_behind s columns) ≡ None → first_refused_from i (s ∷ ss) columns ≡ None
unfolding Takes
next_refused i s ss columns takes none =
    let behind : columns_behind s columns ≡ takes.0 = ap (λ r. result_unwrap_or r columns) takes.1 in
    let later : first_refused_from (i + 1) ss takes.0 ≡ None = ap (first_refused_from (i + 1) ss) (sym behind) ∙ none in
    rw takes.1 later

steps_of : (i : ℕ) (columns : List Column) (es : List (List ℕ)) (ss : List StepSpec) → steps_read columns es ≡ Ok ss
    → (first_refused_from i ss columns ≡ None) × (length ss ≡ length es)
unfolding steps_read
steps_of i columns [] ss is = let e : [] ≡ ss = cc in (
  ap (λ xs. first_refused_from i xs columns) (sym e),
  ap length (sym e),
)
steps_of i columns (x ∷ xs) ss is =
    let p = then_ok (λ s. value_map (λ later. s ∷ later) (steps_read (columns_behind s columns) xs))
    (step_read columns x) ss is in
    let m = map_ok (λ later. p.0 ∷ later) (steps_read (columns_behind p.0 columns) xs) ss p.2 in
    let later = steps_of (i + 1) (columns_behind p.0 columns) xs m.0 m.1 in (
      ap (λ ys. first_refused_from i ys columns) (sym m.2) ∙ next_refused i p.0 m.0 columns
          (step_read_takes columns x p.0 p.1) later.0,
      ap length (sym m.2) ∙ ap suc later.1,
    )

pub steps_listed_fit : (columns : List Column) (value : List ℕ) (ss : List StepSpec)
    → steps_listed columns value ≡ Ok ss → (is_none (first_refused ss columns) ≡ true) × (nat_le (length ss) 32 ≡ true)
unfolding steps_listed
steps_listed_fit columns value ss is =
    let p = then_ok (λ es. fault_map refused (steps_read columns es)) (known_value (few_elements 32 59 value)) ss is in
    let q = steps_of 0 columns p.0 ss (fault_ok refused (steps_read columns p.0) ss p.2) in
    (ap is_none q.0, ap (λ n. nat_le n 32) q.1 ∙ few_known 32 59 value p.0 p.1)

-- ---- columns

listed_columns : (value : List ℕ) (columns : List Column) → columns_listed value ≡ Some columns
    → is_columns columns ≡ true
listed_columns value columns is =
    let p = some_then (only_if is_columns) (list_read 44 column_read value) columns is in
    let q = only_some is_columns p.0 columns p.2 in ap is_columns (sym q.1) ∙ q.0

pub columns_read_fit : (f : Format) (value : List ℕ) (columns : List Column) → columns_read f value ≡ Some columns
    → (is_columns columns ≡ true) × (reads_columns f columns ≡ true)
unfolding columns_read is_columns
columns_read_fit format.Lines value columns is =
    cond_both (is_empty value) (Some line_columns) None (λ o. o ≡ Some columns → (is_columns columns ≡ true)
    × (reads_columns format.Lines columns ≡ true))
    (λ _ there. let e : line_columns ≡ columns = cc in (ap is_columns (sym e), ap (reads_columns format.Lines) (sym e)))
    (λ _ no. cc)
    is
columns_read_fit format.Csv value columns is = (listed_columns value columns is, refl)
columns_read_fit format.Json value columns is = (listed_columns value columns is, refl)

-- ---- forks

-- how many tests there are where so many branches were read
abbrev pub many_tests : ForkHow → ℕ → ℕ
many_tests fork_how.All n = 0
many_tests fork_how.Each n = n
many_tests fork_how.First n = n

one_more : (columns : List Column) (tests us : List TestSpec) (n : ℕ) (value : List ℕ) → tests_fit columns tests ≡ true
    → length tests ≡ n
    → value_map (λ t. tests ++ t ∷ []) (fault_map refused (test_read columns value)) ≡ Ok us
    → (tests_fit columns us ≡ true) × (length us ≡ suc n)
one_more columns tests us n value fit many is =
    let m = map_ok (λ t. tests ++ t ∷ []) (fault_map refused (test_read columns value)) us is in
    let new = test_read_fits columns value m.0 (fault_ok refused (test_read columns value) m.0 m.1) in (
      ap (tests_fit columns) (sym m.2) ∙ (list_all-append (λ t. test_fits t columns) tests (m.0 ∷ [])
          ∙ and_from _ _ fit (and_from _ _ new refl)),
      ap length (sym m.2) ∙ (length_pushed tests m.0 ∙ ap suc many),
    )
  where
    length_pushed : (xs : List TestSpec) (x : TestSpec) → length (xs ++ x ∷ []) ≡ suc (length xs)
    length_pushed [] x = refl
    length_pushed (y ∷ ys) x = ap suc (length_pushed ys x)

pub fork_tests_fit : (how : ForkHow) (columns : List Column) (tests us : List TestSpec) (n : ℕ) (value : List ℕ)
    → tests_fit columns tests ≡ true → length tests ≡ many_tests how n
    → fork_tests how tests columns value ≡ Ok us → (tests_fit columns us ≡ true) × (length us ≡ many_tests how (suc n))
unfolding fork_tests
fork_tests_fit fork_how.All columns tests us n value fit many is =
    cond_both (is_empty value) (Ok tests) (Err (refused BadValue))
    (λ r. r ≡ Ok us → (tests_fit columns us ≡ true) × (length us ≡ 0))
    (λ _ there. let e : tests ≡ us = cc in (ap (tests_fit columns) (sym e) ∙ fit, ap length (sym e) ∙ many))
    (λ _ no. cc)
    is
fork_tests_fit fork_how.Each columns tests us n value fit many is = one_more columns tests us n value fit many is
fork_tests_fit fork_how.First columns tests us n value fit many is = one_more columns tests us n value fit many is

-- ---- policies

-- the tests of policies fit
abbrev pub policies_fit : List Column → List PolicySpec → Bool
policies_fit columns policies = list_all (λ p. test_fits p.test columns) policies

pub strict_fit : (columns : List Column) (tests : List TestSpec)
    → policies_fit columns (map strict_policy tests) ≡ tests_fit columns tests
strict_fit columns [] = refl
strict_fit columns (t ∷ ts) = ap (λ b. test_fits t columns && b) (strict_fit columns ts)

pub modes_count : {X Y : Type 0} (words : Table Y) (policies : List X) (value : List ℕ) (modes : List Y)
    → modes_listed words policies value ≡ Ok modes → length modes ≡ length policies
unfolding modes_listed
modes_count words policies value modes is =
    let p = then_ok (as_many policies) (known_value (list_read 44 (at_name words) value)) modes is in
    cond_both (nat_eq (length p.0) (length policies)) (Ok p.0) (Err bad_count)
    (λ r. r ≡ Ok modes → length modes ≡ length policies)
    (λ same there. let e : p.0 ≡ modes = cc in ap length (sym e) ∙ eqb-true (length p.0) (length policies) same)
    (λ _ no. cc)
    p.2

moded : (columns : List Column) (policies : List PolicySpec) (modes : List Mode) → length modes ≡ length policies
    → (policies_fit columns (with_modes modes policies) ≡ policies_fit columns policies)
    × (length (with_modes modes policies) ≡ length policies)
moded columns [] [] same = (refl, refl)
moded columns [] (m ∷ ms) same = (refl, refl)
moded columns (p ∷ ps) [] same = absurd (omega arith)
moded columns (p ∷ ps) (m ∷ ms) same =
    let later = moded columns ps ms (omega arith) in (ap (λ b. test_fits p.test columns && b) later.0, ap suc later.1)

pub modes_fit : (columns : List Column) (words : Table Mode) (policies : List PolicySpec) (value : List ℕ)
    (modes : List Mode) → modes_listed words policies value ≡ Ok modes
    → (policies_fit columns (with_modes modes policies) ≡ policies_fit columns policies)
    × (length (with_modes modes policies) ≡ length policies)
modes_fit columns words policies value modes is = moded columns policies modes
    (modes_count words policies value modes is)

-- ---- formats and places

pub format_read_fits : (columns : List Column) (value : List ℕ) (f : Format) → format_read columns value ≡ Ok f
    → writes_columns f columns ≡ true
unfolding format_read
format_read_fits columns value f is =
    let p = then_ok (λ g. unless_refused (write_refusal g columns) g) (known_value (at_name formats value)) f is in
    let q = unrefused (write_refusal p.0 columns) p.0 f p.2 in
    ap (λ g. writes_columns g columns) (sym q.1) ∙ ap is_none q.0

pub place_read_fits : (columns : List Column) (value : List ℕ) (s : PlaceSpec) → place_read columns value ≡ Ok s
    → place_fits s columns ≡ true
unfolding place_read
place_read_fits columns value s is =
    let p = then_ok (λ g. unless_refused (place_refusal g columns) g)
    (known_value (form_in place_forms (words_of value))) s is
    in
    let q = unrefused (place_refusal p.0 columns) p.0 s p.2 in
    ap (λ g. place_fits g columns) (sym q.1) ∙ ap is_none q.0
