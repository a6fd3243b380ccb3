-- A plan fits where its parts do, and without its rules as before.
use Rattle.std.proofs.Common.{◌≡◌, ◌↔◌, ℕ, Bool, true, false, cond, not, ◌&&◌, nat_le, List, length, refl, sym, ap, ◌∙◌}
use Rattle.std.proofs.Common.{arith, Ok, Err, Option, None, Some, []}
use Rattle.std.proofs.lemmas.Bool.{and_parts, and_from, eqb-true, eq-eqb, true≢false}
use Rattle.gob_plan.specs.declared.plan.Plan.{Plan}
use Rattle.gob_meaning.specs.Items.{Target, out, err, bad, line_made}
use Rattle.gob_meaning.specs.Fold.{Folded, unit_fold, counts_of, stop_of}
use Rattle.gob_bytes.specs.Lines.{ends_in_lf}
use Rattle.gob_plan.specs.declared.units.Unit.{Unit as WorkUnit}
use Rattle.gob_meaning.specs.Results.{good, verdict_of, warnings_of}
use Rattle.gob_meaning.specs.Names.{target_name}
use Rattle.gob_meaning.specs.Plans.{max_branches, source_fits, fork_fits, branches_fit, rules_fit, is_within_limits}
use Rattle.gob_meaning.specs.Plans.{is_fitting, IsFitting, without_rules}
use Rattle.gob_meaning.specs.Laws.{FitsInParts, RulesAside, TestsFit}
use Rattle.gob_plan.specs.declared.steps.Refusal.{Refusal}
use Rattle.gob_plan.specs.declared.rows.Kind.{Kind}
use Rattle.gob_plan.specs.declared.rows.Column.{Column}
use Rattle.gob_plan.specs.declared.checks.TestSpec.{TestSpec}
use Rattle.gob_plan.specs.Rows.{kind_of}
use Rattle.gob_plan.specs.Tests.{test_fits, fits_kind, check_takes, check_is_right}
use Rattle.gob_meaning.specs.Steps.{of_kind, columns_after}

parts_of : (plan : Plan) → is_fitting plan ≡ true → IsFitting plan
unfolding is_fitting
parts_of plan fits =
    let a = and_parts _ (is_within_limits plan) fits in
    let b = and_parts _ (rules_fit plan) a.0 in
    let c = and_parts _ (branches_fit plan) b.0 in
    let d = and_parts (source_fits plan) (fork_fits plan) c.0 in
    let source = and_parts _ _ d.0 in
    let columns = and_parts _ _ source.0 in
    let fork = and_parts _ _ d.1 in
    let branches = and_parts _ _ c.1 in
    let limits = and_parts _ _ a.1 in
    let short = and_parts _ _ limits.0 in
    let few = and_parts _ _ short.0 in
    let some = and_parts _ _ few.0 in
    record {
      columns = columns.0;
      reads = columns.1;
      steps = source.1;
      tests = fork.0;
      as_many_tests = fork.1;
      as_many_branches = eqb-true (length plan.branches) plan.fork.branches branches.0;
      branches = branches.1;
      counters = b.1;
      few_steps = some.0;
      some_branches = and_from _ _ some.1 few.1;
      short_branches = short.1;
      few_policies = limits.1;
    }

from_parts : (plan : Plan) → IsFitting plan → is_fitting plan ≡ true
unfolding is_fitting
from_parts plan fits =
    let some = and_parts (nat_le 1 plan.fork.branches) (nat_le plan.fork.branches max_branches) fits.some_branches in
    and_from _ _ (and_from _ _ (and_from _ _ (and_from _ _
    (and_from _ _ (and_from _ _ fits.columns fits.reads) fits.steps)
    (and_from _ _ fits.tests fits.as_many_tests))
    (and_from _ _ (eq-eqb (length plan.branches) plan.fork.branches fits.as_many_branches) fits.branches))
    fits.counters)
    (and_from _ _ (and_from _ _ (and_from _ _ (and_from _ _ fits.few_steps some.0) some.1) fits.short_branches)
    fits.few_policies)

pub fits_in_parts : (plan : Plan) → FitsInParts plan
fits_in_parts plan = (parts_of plan, from_parts plan)

-- ---- without rules for whole units

bare_fits : (plan : Plan) → is_fitting plan ≡ true → is_fitting (without_rules plan) ≡ true
bare_fits plan fits =
    let parts = parts_of plan fits in
    from_parts (without_rules plan) (record {
      columns = parts.columns;
      reads = parts.reads;
      steps = parts.steps;
      tests = parts.tests;
      as_many_tests = parts.as_many_tests;
      as_many_branches = parts.as_many_branches;
      branches = parts.branches;
      counters = refl;
      few_steps = parts.few_steps;
      some_branches = parts.some_branches;
      short_branches = parts.short_branches;
      few_policies = refl;
    })

pub bare_fold : (plan : Plan) (lo : ℕ) (bytes : List ℕ)
    → unit_fold (without_rules plan) lo bytes ≡ unit_fold plan lo bytes
unfolding unit_fold line_made
bare_fold plan lo bytes = refl

pub bare_counts : (plan : Plan) (fold : List Folded) → counts_of (without_rules plan) fold ≡ counts_of plan fold
unfolding counts_of
bare_counts plan fold = refl

pub bare_names : (plan : Plan) (part : List ℕ) (lo hi : ℕ) (t : Target) → target_name (without_rules plan) part lo hi t
    ≡ target_name plan part lo hi t
unfolding target_name
bare_names plan part lo hi (out b place) = refl
bare_names plan part lo hi (err b place) = refl
bare_names plan part lo hi bad = refl

bare_verdict : (plan : Plan) (unit : WorkUnit) (bytes : List ℕ) → unit.listed ≡ true → ends_in_lf bytes ≡ true
    → stop_of (without_rules plan) (unit_fold plan unit.lo bytes) ≡ None
    → verdict_of (without_rules plan) unit bytes ≡ good (counts_of plan (unit_fold plan unit.lo bytes)) []
unfolding verdict_of warnings_of
bare_verdict plan unit bytes listed ends goes_on =
    let fold = bare_fold plan unit.lo bytes in
    let goes : stop_of (without_rules plan) (unit_fold (without_rules plan) unit.lo bytes) ≡ None = rw fold goes_on in
    rw (listed, goes, ends)
    (ap (λ n. good n []) (bare_counts plan (unit_fold (without_rules plan) unit.lo bytes) ∙ ap (counts_of plan) fold))

pub rules_aside : (plan : Plan) → RulesAside plan
rules_aside plan = record {
  fitting = bare_fits plan;
  fold = bare_fold plan;
  counts = bare_counts plan;
  names = bare_names plan;
  most = λ limit. (λ below. omega arith, λ at_most. omega arith);
  judged = bare_verdict plan;
}

-- ---- tests

-- the test's answer and the step's, by the kind of the test's column
fits_alike : (t : TestSpec) (columns : List Column) (o : Option Kind)
    → (fits_kind t.check o ≡ true) ↔ (of_kind t.column (check_takes t.check) (λ k. not (check_is_right t.check k))
    (λ k. columns) o ≡ Ok columns)
fits_alike t columns None = (λ fits. absurd (true≢false (sym fits)), λ told. cc)
fits_alike t columns (Some k) = both (check_takes t.check k) (check_is_right t.check k)
  where
    both : (takes right : Bool) → ((takes && right) ≡ true) ↔
        (cond takes (cond (not right) (Err Refusal.BadValue) (Ok columns)) (Err (Refusal.BadKind t.column))
        ≡ Ok columns)
    both true true = (λ fits. refl, λ told. refl)
    both true false = (λ fits. absurd (true≢false (sym fits)), λ told. cc)
    both false right = (λ fits. absurd (true≢false (sym fits)), λ told. cc)

pub tests_fit : (t : TestSpec) (columns : List Column) → TestsFit t columns
unfolding test_fits columns_after
tests_fit t columns = fits_alike t columns (kind_of t.column columns)
