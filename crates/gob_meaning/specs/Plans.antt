-- Which plans go together in all their parts.
use Rattle.std.specs.Prelude.{◌≡◌, ℕ, ◌-◌, ◌^◌, Bool, true, false, ◌&&◌, nat_eq, nat_le, nat_lt, if◌then◌else◌, List}
use Rattle.std.specs.Prelude.{[], ◌∷◌, length, codes}
use Rattle.std.specs.declared.option.Option.{Option}
use Rattle.std.specs.declared.option.Option.TheVariants.{None, Some}
use Rattle.std.specs.Option.{is_none}
use Rattle.std.specs.List.{list_all}
use Rattle.std.specs.Str.{bytes_eq}
use Rattle.gob_plan.specs.declared.rows.Kind.{Kind}
use Rattle.gob_plan.specs.declared.rows.Column.{Column}
use Rattle.gob_plan.specs.declared.steps.Refusal.{Refusal}
use Rattle.gob_plan.specs.declared.steps.Refusal.TheVariants.{NoColumn, BadKind, BadValue}
use Rattle.gob_plan.specs.declared.plan.Format.{Format}
use Rattle.gob_plan.specs.declared.plan.Format.TheVariants as format
use Rattle.gob_plan.specs.declared.plan.ForkHow.{ForkHow}
use Rattle.gob_plan.specs.declared.plan.ForkHow.TheVariants as fork_how
use Rattle.gob_plan.specs.declared.plan.PlaceSpec.{PlaceSpec}
use Rattle.gob_plan.specs.declared.plan.PlaceSpec.TheVariants as place
use Rattle.gob_plan.specs.declared.plan.BranchSpec.{BranchSpec}
use Rattle.gob_plan.specs.declared.plan.Counter.{Counter}
use Rattle.gob_plan.specs.declared.plan.Counter.TheVariants as counter
use Rattle.gob_plan.specs.declared.plan.TaskRule.{TaskRule}
use Rattle.gob_plan.specs.declared.plan.TaskRule.TheVariants.{Range, Share}
use Rattle.gob_plan.specs.declared.plan.Plan.{Plan}
use Rattle.gob_plan.specs.Columns.{is_columns}
use Rattle.gob_plan.specs.Rows.{is_int, is_text, kind_of}
use Rattle.gob_plan.specs.Tests.{test_fits}
use Rattle.gob_meaning.specs.Steps.{columns_through, first_refused}

-- the one column that whole lines are read as: `line`
abbrev pub are_line : List Column → Bool
are_line [] = false
are_line (c ∷ []) = bytes_eq c.name (codes "line") && is_text c.kind
are_line (c ∷ d ∷ cs) = false

-- the columns of whole lines are fixed, those of other formats are free
abbrev pub reads_columns : Format → List Column → Bool
reads_columns format.Lines columns = are_line columns
reads_columns format.Csv columns = true
reads_columns format.Json columns = true

-- whole lines are written of one text alone: a second column is in the way, or the only one where it isn't text
abbrev pub lines_refusal : List Column → Option Refusal
lines_refusal [] = Some BadValue
lines_refusal (c ∷ []) = if is_text c.kind then None else Some (BadKind c.name)
lines_refusal (c ∷ d ∷ cs) = Some (BadKind d.name)

-- why a format doesn't write these columns
abbrev pub write_refusal : Format → List Column → Option Refusal
write_refusal format.Lines columns = lines_refusal columns
write_refusal format.Csv columns = None
write_refusal format.Json columns = None

-- the format writes these columns
abbrev pub writes_columns : Format → List Column → Bool
writes_columns f columns = is_none (write_refusal f columns)

-- a column of integers must be there
abbrev pub int_refusal : List ℕ → Option Kind → Option Refusal
int_refusal name None = Some (NoColumn name)
int_refusal name (Some k) = if is_int k then None else Some (BadKind name)

-- why these columns don't have what a folder is made of
abbrev pub place_refusal : PlaceSpec → List Column → Option Refusal
place_refusal place.Plain columns = None
place_refusal (place.Day column) columns = int_refusal column (kind_of column columns)

-- what a folder is made of is there
abbrev pub place_fits : PlaceSpec → List Column → Bool
place_fits place columns = is_none (place_refusal place columns)

-- as many tests as branches, or none where each branch takes every row
abbrev pub has_tests_for : ForkHow → ℕ → ℕ → Bool
has_tests_for fork_how.All branches tests = nat_eq tests 0
has_tests_for fork_how.Each branches tests = nat_eq tests branches
has_tests_for fork_how.First branches tests = nat_eq tests branches

-- the most steps before the fork, and of a branch
abbrev pub max_steps : ℕ
max_steps = 32

-- the most row policies of a branch, and the most task policies
abbrev pub max_policies : ℕ
max_policies = 16

-- the most branches
abbrev pub max_branches : ℕ
max_branches = 8

-- a branch goes with the columns after the shared steps: its steps, then its policies, its format and its folder
abbrev pub branch_fits : List Column → BranchSpec → Bool
branch_fits columns branch =
    let after = columns_through branch.steps columns in
    is_none (first_refused branch.steps columns) && list_all (λ p. test_fits p.test after) branch.policies
    && writes_columns branch.format after && place_fits branch.place after

-- the lengths of a branch are within their limits
abbrev pub branch_is_short : BranchSpec → Bool
branch_is_short branch = nat_le (length branch.steps) max_steps && nat_le (length branch.policies) max_policies

-- the branch of a counter is there
abbrev pub counter_fits : ℕ → Counter → Bool
counter_fits branches counter.Records = true
counter_fits branches counter.Bad = true
counter_fits branches counter.Rows = true
counter_fits branches counter.Unrouted = true
counter_fits branches (counter.Written b) = nat_lt b branches
counter_fits branches (counter.Errors b) = nat_lt b branches
counter_fits branches (counter.Optional b) = nat_lt b branches

-- the branches of a rule's counters are there
abbrev pub rule_fits : ℕ → TaskRule → Bool
rule_fits branches (Range c low high) = counter_fits branches c
rule_fits branches (Share c of permille) = counter_fits branches c && counter_fits branches of

-- the columns are proper, the format reads them, and no shared step is refused
abbrev pub source_fits : Plan → Bool
source_fits plan =
    is_columns plan.columns && reads_columns plan.format plan.columns
    && is_none (first_refused plan.steps plan.columns)

-- the tests of the fork fit the columns after the shared steps, and are as many as it needs
abbrev pub fork_fits : Plan → Bool
fork_fits plan =
    list_all (λ t. test_fits t (columns_through plan.steps plan.columns)) plan.fork.tests
    && has_tests_for plan.fork.how plan.fork.branches (length plan.fork.tests)

-- there are as many branches as the fork says, and each fits the columns after the shared steps
abbrev pub branches_fit : Plan → Bool
branches_fit plan =
    nat_eq (length plan.branches) plan.fork.branches
    && list_all (branch_fits (columns_through plan.steps plan.columns)) plan.branches

-- the counters of the task policies are there
abbrev pub rules_fit : Plan → Bool
rules_fit plan = list_all (λ p. rule_fits plan.fork.branches p.rule) plan.task_policies

-- there is a branch, and no list is past its limit
abbrev pub is_within_limits : Plan → Bool
is_within_limits plan =
    nat_le (length plan.steps) max_steps && nat_le 1 plan.fork.branches
    && nat_le plan.fork.branches max_branches && list_all branch_is_short plan.branches
    && nat_le (length plan.task_policies) max_policies

-- all parts of a plan go together, and its lengths are within their limits
unfoldable pub is_fitting : Plan → Bool
is_fitting plan =
    source_fits plan && fork_fits plan && branches_fit plan && rules_fit plan && is_within_limits plan

-- the same in its parts
pub record IsFitting (plan : Plan) : Type 0 where
  pub columns : is_columns plan.columns ≡ true
  pub reads : reads_columns plan.format plan.columns ≡ true
  pub steps : is_none (first_refused plan.steps plan.columns) ≡ true
  pub tests : list_all (λ t. test_fits t (columns_through plan.steps plan.columns)) plan.fork.tests ≡ true
  pub as_many_tests : has_tests_for plan.fork.how plan.fork.branches (length plan.fork.tests) ≡ true
  pub as_many_branches : length plan.branches ≡ plan.fork.branches
  pub branches : list_all (branch_fits (columns_through plan.steps plan.columns)) plan.branches ≡ true
  pub counters : list_all (λ p. rule_fits plan.fork.branches p.rule) plan.task_policies ≡ true
  pub few_steps : nat_le (length plan.steps) max_steps ≡ true
  pub some_branches : (nat_le 1 plan.fork.branches && nat_le plan.fork.branches max_branches) ≡ true
  pub short_branches : list_all branch_is_short plan.branches ≡ true
  pub few_policies : nat_le (length plan.task_policies) max_policies ≡ true

-- a plan without its rules for whole units: each bad record passes, and no task policy is asked
abbrev pub without_rules : Plan → Plan
without_rules plan = record plan { skip_errors = 2 ^ 64 - 1; task_policies = [] }
