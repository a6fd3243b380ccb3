-- The keys of a job file, as a table: a row for each key, with the value that it takes where it is absent and how its
-- value is read.
use Prim.Native.String.{String}
use Rattle.std.specs.Prelude.{ℕ, ◌+◌, ◌-◌, ◌^◌, Bool, true, false, ◌&&◌, nat_eq, nat_le, if◌then◌else◌, List, [], ◌∷◌}
use Rattle.std.specs.Prelude.{◌++◌, length, map, zip, codes}
use Rattle.std.specs.declared.option.Option.{Option}
use Rattle.std.specs.declared.option.Option.TheVariants.{None, Some}
use Rattle.std.specs.declared.result.Result.{Result}
use Rattle.std.specs.declared.result.Result.TheVariants.{Ok, Err}
use Rattle.std.specs.Option.{option_and_then, ok_or}
use Rattle.std.specs.Fmt.{decimal}
use Rattle.gob_bytes.specs.Tables.{Table, at_name}
use Rattle.gob_plan.specs.declared.rows.Kind.TheVariants as kind
use Rattle.gob_plan.specs.declared.rows.Column.{Column}
use Rattle.gob_plan.specs.declared.checks.TestSpec.{TestSpec}
use Rattle.gob_plan.specs.declared.steps.StepSpec.{StepSpec}
use Rattle.gob_plan.specs.declared.steps.Refusal.{Refusal}
use Rattle.gob_plan.specs.declared.steps.Refusal.TheVariants.{BadValue}
use Rattle.gob_plan.specs.declared.plan.BranchSpec.{BranchSpec}
use Rattle.gob_plan.specs.declared.plan.CommitPolicy.{CommitPolicy}
use Rattle.gob_plan.specs.declared.plan.CommitPolicy.TheVariants.{Full, Successful}
use Rattle.gob_plan.specs.declared.plan.CommitScope.{CommitScope}
use Rattle.gob_plan.specs.declared.plan.CommitScope.TheVariants as scope
use Rattle.gob_plan.specs.declared.plan.ForkHow.{ForkHow}
use Rattle.gob_plan.specs.declared.plan.ForkHow.TheVariants as fork_how
use Rattle.gob_plan.specs.declared.plan.Format.{Format}
use Rattle.gob_plan.specs.declared.plan.Format.TheVariants as format
use Rattle.gob_plan.specs.declared.plan.Limits.{Limits}
use Rattle.gob_plan.specs.declared.plan.Mode.{Mode}
use Rattle.gob_plan.specs.declared.plan.Mode.TheVariants as mode
use Rattle.gob_plan.specs.declared.plan.PlaceSpec.{PlaceSpec}
use Rattle.gob_plan.specs.declared.plan.Plan.{Plan}
use Rattle.gob_plan.specs.declared.plan.PolicySpec.{PolicySpec}
use Rattle.gob_plan.specs.declared.plan.TaskPolicy.{TaskPolicy}
use Rattle.gob_plan.specs.declared.plan.TaskRule.{TaskRule}
use Rattle.gob_plan.specs.declared.plan.TurnRules.{TurnRules}
use Rattle.gob_plan.specs.Columns.{is_columns}
use Rattle.gob_meaning.specs.Steps.{columns_through}
use Rattle.gob_meaning.specs.Plans.{write_refusal, place_refusal}
use Rattle.gob_jobs.specs.Words.{and_then, value_map, fault_map, both, only_if, each_read, each_or_fault, is_empty}
use Rattle.gob_jobs.specs.Words.{pieces, elements, few_elements, words_of, number_within}
use Rattle.gob_jobs.specs.Elements.{Form, form_in, column_word, kinds, place_forms, test_read, steps_read, rule_read}

-- ---- what is read

-- what a pipeline text tells: the plan so far, and the branch that is being read
pub record Draft : Type 0 where
  pub plan : Plan
  pub branch : BranchSpec

-- what it doesn't tell: by which rules the job's runs go
pub record RunRules : Type 0 where
  pub limits : Limits
  pub skip_errors : ℕ
  pub task_policies : List TaskPolicy
  pub policy : CommitPolicy
  pub max_retries : ℕ
  pub turns : TurnRules
  pub scope : CommitScope

-- why a value is refused: for itself, or for the number of its words
pub data ValueFault : Type 0 where
  refused : Refusal → ValueFault
  bad_count : ValueFault

-- how a value is read, over what was read before it
pub data Reader : Type 0 where
  of_plan : (Draft → List ℕ → Result Draft ValueFault) → Reader
  of_runs : (Plan → RunRules → List ℕ → Result RunRules ValueFault) → Reader

-- ---- rows

-- whether a key stands once, or once for each branch behind a dot and the branch's number, and then maybe for all
-- branches that have none of their own
pub data Standing : Type 0 where
  once : Standing
  for_each_branch : Standing
  for_each_branch_or_all : Standing

-- whether a key may be absent, and the value that it then has
pub data Need : Type 0 where
  needed : Need
  else_is : List ℕ → Need
  needed_unless_lines : Need
  needed_unless_all : Need

-- a key of a job file
pub record Row : Type 0 where
  pub key : List ℕ
  pub standing : Standing
  pub need : Need
  pub reader : Reader

-- the pipeline text has a line for the key
abbrev pub is_of_plan : Reader → Bool
is_of_plan (of_plan read) = true
is_of_plan (of_runs read) = false

abbrev pub tells_plan : Row → Bool
tells_plan key_row = is_of_plan key_row.reader

-- ---- where values go

abbrev pub with_prefix : List ℕ → RunRules → RunRules
with_prefix text rules = record rules { limits = record rules.limits { prefix = text } }

abbrev pub with_max_bytes : ℕ → RunRules → RunRules
with_max_bytes n rules = record rules { limits = record rules.limits { max_bytes = n } }

abbrev pub with_max_units : ℕ → RunRules → RunRules
with_max_units n rules = record rules { limits = record rules.limits { max_new_units = n } }

abbrev pub with_skip_errors : ℕ → RunRules → RunRules
with_skip_errors n rules = record rules { skip_errors = n }

abbrev pub with_policy : CommitPolicy → RunRules → RunRules
with_policy p rules = record rules { policy = p }

abbrev pub with_retries : ℕ → RunRules → RunRules
with_retries n rules = record rules { max_retries = n }

abbrev pub with_slots : ℕ → RunRules → RunRules
with_slots n rules = record rules { turns = record rules.turns { slots = n } }

abbrev pub with_piece : ℕ → RunRules → RunRules
with_piece n rules = record rules { turns = record rules.turns { piece = n } }

abbrev pub with_schedule : List ℕ → RunRules → RunRules
with_schedule ns rules = record rules { turns = record rules.turns { schedule = ns } }

abbrev pub with_scope : CommitScope → RunRules → RunRules
with_scope s rules = record rules { scope = s }

-- nowhere
abbrev pub as_before : {X : Type 0} → X → RunRules → RunRules
as_before x rules = rules

abbrev pub with_format : Format → Plan → Plan
with_format f plan = record plan { format = f }

abbrev pub with_header : Bool → Plan → Plan
with_header skip plan = record plan { skip_header = skip }

abbrev pub with_fork : ForkHow → Plan → Plan
with_fork how plan = record plan { fork = record plan.fork { how = how } }

abbrev pub with_branches : ℕ → Plan → Plan
with_branches n plan = record plan { fork = record plan.fork { branches = n } }

-- ---- readers

-- a value that isn't there is a bad value
abbrev pub known_value : {X : Type 0} → Option X → Result X ValueFault
known_value o = ok_or o (refused BadValue)

-- a value that is refused, if it is
abbrev pub unless_refused : {X : Type 0} → Option Refusal → X → Result X ValueFault
unless_refused None x = Ok x
unless_refused (Some why) x = Err (refused why)

-- a value that is read over the plan, and goes into it
abbrev pub into_plan : {X : Type 0} → (Plan → List ℕ → Result X ValueFault) → (X → Plan → Plan) → Reader
into_plan read put = of_plan (λ d value. value_map (λ x. record d { plan = put x d.plan }) (read d.plan value))

-- one that goes into the branch
abbrev pub into_branch : {X : Type 0} → (Draft → List ℕ → Result X ValueFault) → (X → BranchSpec → BranchSpec) → Reader
into_branch read put = of_plan (λ d value. value_map (λ x. record d { branch = put x d.branch }) (read d value))

-- one that goes into the rules of runs
abbrev pub into_rules : {X : Type 0} → (Plan → RunRules → List ℕ → Result X ValueFault) → (X → RunRules → RunRules)
    → Reader
into_rules read put = of_runs (λ plan rules value. value_map (λ x. put x rules) (read plan rules value))

-- one of these words
abbrev pub plan_word : {X : Type 0} → Table X → (X → Plan → Plan) → Reader
plan_word words put = into_plan (λ plan value. known_value (at_name words value)) put

abbrev pub run_word : {X : Type 0} → Table X → (X → RunRules → RunRules) → Reader
run_word words put = into_rules (λ plan rules value. known_value (at_name words value)) put

-- a number from low to high
abbrev pub plan_number : ℕ → ℕ → (ℕ → Plan → Plan) → Reader
plan_number low high put = into_plan (λ plan value. known_value (number_within low high value)) put

abbrev pub run_number : ℕ → ℕ → (ℕ → RunRules → RunRules) → Reader
run_number low high put = into_rules (λ plan rules value. known_value (number_within low high value)) put

-- any text
abbrev pub run_text : (List ℕ → RunRules → RunRules) → Reader
run_text put = into_rules (λ plan rules value. Ok value) put

-- a list with this separator, each element of which reads as an X
abbrev pub list_read : {X : Type 0} → ℕ → (List ℕ → Option X) → List ℕ → Option (List X)
list_read separator read value = option_and_then (each_read read) (elements separator value)

-- ---- words

-- the only source
abbrev pub sources : Table (Unit {0})
sources = (codes "files", tt) ∷ []

abbrev pub formats : Table Format
formats = (codes "lines", format.Lines) ∷ (codes "csv", format.Csv) ∷ (codes "json", format.Json) ∷ []

abbrev pub truths : Table Bool
truths = (codes "true", true) ∷ (codes "false", false) ∷ []

abbrev pub forks : Table ForkHow
forks = (codes "all", fork_how.All) ∷ (codes "each", fork_how.Each) ∷ (codes "first", fork_how.First) ∷ []

abbrev pub row_modes : Table Mode
row_modes = (codes "FAIL", mode.Fail) ∷ (codes "ERR_FILE", mode.ErrFile) ∷ (codes "OPTIONAL", mode.Optional) ∷ []

-- whether a failing task policy fails its unit
abbrev pub task_modes : Table Bool
task_modes = (codes "FAIL", true) ∷ (codes "OPTIONAL", false) ∷ []

abbrev pub commit_policies : Table CommitPolicy
commit_policies = (codes "full", Full) ∷ (codes "successful", Successful) ∷ []

abbrev pub commit_scopes : Table CommitScope
commit_scopes = (codes "job", scope.Job) ∷ (codes "dataset", scope.Dataset) ∷ []

-- ---- the columns of the source

-- the columns of whole lines: one, of texts
abbrev pub line_columns : List Column
line_columns = record { name = codes "line"; kind = kind.Text } ∷ []

-- a name and a kind, with a colon between
abbrev pub column_of_pieces : Form Column
column_of_pieces (name ∷ k ∷ []) = both (λ n of. record { name = n; kind = of }) (column_word name) (at_name kinds k)
column_of_pieces _ = None

-- the column that an element is
abbrev pub column_read : List ℕ → Option Column
column_read element = column_of_pieces (pieces (nat_eq 58) element)

-- the columns of a list of such elements, where they go together
abbrev pub columns_listed : List ℕ → Option (List Column)
columns_listed value = option_and_then (only_if is_columns) (list_read 44 column_read value)

-- the columns of a source of this format
unfoldable pub columns_read : Format → List ℕ → Option (List Column)
columns_read format.Lines value = if is_empty value then Some line_columns else None
columns_read format.Csv value = columns_listed value
columns_read format.Json value = columns_listed value

-- the source's columns, by its format
abbrev pub source_columns : Reader
source_columns = into_plan (λ plan value. known_value (columns_read plan.format value))
    (λ columns plan. record plan { columns = columns })

-- ---- steps and branches

-- the columns behind the shared steps
abbrev pub shared_columns : Plan → List Column
shared_columns plan = columns_through plan.steps plan.columns

-- the columns behind the steps of the branch that is being read
abbrev pub branch_columns : Draft → List Column
branch_columns d = columns_through d.branch.steps (shared_columns d.plan)

-- a list of at most 32 steps over these columns
unfoldable pub steps_listed : List Column → List ℕ → Result (List StepSpec) ValueFault
steps_listed columns value = and_then (λ es. fault_map refused (steps_read columns es))
    (known_value (few_elements 32 59 value))

-- a list of at most 16 tests of these columns
unfoldable pub tests_listed : List Column → List ℕ → Result (List TestSpec) ValueFault
tests_listed columns value =
    and_then (λ es. fault_map refused (each_or_fault (test_read columns) es)) (known_value (few_elements 16 59 value))

abbrev pub shared_steps : Reader
shared_steps = into_plan (λ plan value. steps_listed plan.columns value) (λ steps plan. record plan { steps = steps })

-- the tests of a fork with one more; where all branches take each row there is none
unfoldable pub fork_tests : ForkHow → List TestSpec → List Column → List ℕ → Result (List TestSpec) ValueFault
fork_tests fork_how.All tests columns value = if is_empty value then Ok tests else Err (refused BadValue)
fork_tests fork_how.Each tests columns value = value_map (λ t. tests ++ t ∷ [])
    (fault_map refused (test_read columns value))
fork_tests fork_how.First tests columns value = value_map (λ t. tests ++ t ∷ [])
    (fault_map refused (test_read columns value))

abbrev pub branch_test : Reader
branch_test =
    into_plan (λ plan value. fork_tests plan.fork.how plan.fork.tests (shared_columns plan) value)
    (λ tests plan. record plan { fork = record plan.fork { tests = tests } })

abbrev pub branch_steps : Reader
branch_steps = into_branch (λ d value. steps_listed (shared_columns d.plan) value)
    (λ steps branch. record branch { steps = steps })

-- a policy of this test; until its mode is read it fails its unit
abbrev pub strict_policy : TestSpec → PolicySpec
strict_policy t = record { test = t; mode = mode.Fail }

abbrev pub row_policies : Reader
row_policies =
    into_branch (λ d value. tests_listed (branch_columns d) value)
    (λ tests branch. record branch { policies = map strict_policy tests })

-- as many words as there are policies
abbrev pub as_many : {X Y : Type 0} → List X → List Y → Result (List Y) ValueFault
as_many policies modes = if nat_eq (length modes) (length policies) then Ok modes else Err bad_count

-- the modes of as many policies
unfoldable pub modes_listed : {X Y : Type 0} → Table Y → List X → List ℕ → Result (List Y) ValueFault
modes_listed words policies value = and_then (as_many policies) (known_value (list_read 44 (at_name words) value))

-- each policy with its mode
abbrev pub with_modes : List Mode → List PolicySpec → List PolicySpec
with_modes modes policies = map (λ p. record p.0 { mode = p.1 }) (zip policies modes)

abbrev pub row_policy_modes : Reader
row_policy_modes =
    into_branch (λ d value. modes_listed row_modes d.branch.policies value)
    (λ modes branch. record branch { policies = with_modes modes branch.policies })

-- the format of a branch with these columns
unfoldable pub format_read : List Column → List ℕ → Result Format ValueFault
format_read columns value = and_then (λ f. unless_refused (write_refusal f columns) f)
    (known_value (at_name formats value))

abbrev pub branch_format : Reader
branch_format = into_branch (λ d value. format_read (branch_columns d) value) (λ f branch. record branch { format = f })

-- the place of a branch with these columns
unfoldable pub place_read : List Column → List ℕ → Result PlaceSpec ValueFault
place_read columns value = and_then (λ p. unless_refused (place_refusal p columns) p)
    (known_value (form_in place_forms (words_of value)))

abbrev pub branch_place : Reader
branch_place = into_branch (λ d value. place_read (branch_columns d) value) (λ p branch. record branch { place = p })

-- ---- task policies

-- a list of at most 16 task rules, where there are so many branches
unfoldable pub rules_listed : ℕ → List ℕ → Option (List TaskRule)
rules_listed branches value = option_and_then (each_read (rule_read branches)) (few_elements 16 59 value)

-- a task policy of this rule; until its mode is read it fails its unit
abbrev pub strict_rule : TaskRule → TaskPolicy
strict_rule r = record { rule = r; fails = true }

abbrev pub task_rules : Reader
task_rules =
    into_rules (λ plan rules value. known_value (rules_listed plan.fork.branches value))
    (λ rs rules. record rules { task_policies = map strict_rule rs })

-- each task policy with its mode
abbrev pub with_task_modes : List Bool → List TaskPolicy → List TaskPolicy
with_task_modes modes policies = map (λ p. record p.0 { fails = p.1 }) (zip policies modes)

abbrev pub task_policy_modes : Reader
task_policy_modes =
    into_rules (λ plan rules value. modes_listed task_modes rules.task_policies value)
    (λ modes rules. record rules { task_policies = with_task_modes modes rules.task_policies })

-- ---- turns

-- 1 to 64 numbers from 0 to 63
unfoldable pub schedule_read : List ℕ → Option (List ℕ)
schedule_read value =
    option_and_then (only_if (λ ns. nat_le 1 (length ns) && nat_le (length ns) 64))
    (list_read 44 (number_within 0 63) value)

abbrev pub schedule : Reader
schedule = into_rules (λ plan rules value. known_value (schedule_read value)) with_schedule

-- ---- the table

-- a row
abbrev pub key_row : Standing → String → Need → Reader → Row
key_row standing key need reader = record { key = codes key; standing = standing; need = need; reader = reader }

-- the value of an absent key
abbrev pub or_else : String → Need
or_else text = else_is (codes text)

-- the keys that are read first
unfoldable pub first_rows : List Row
first_rows =
    key_row once "job.name" (or_else "") (run_text as_before)
    ∷ key_row once "source.class" (or_else "files") (run_word sources as_before)
    ∷ key_row once "source.prefix" (or_else "") (run_text with_prefix)
    ∷ key_row once "source.format" needed (plan_word formats with_format)
    ∷ key_row once "source.columns" needed_unless_lines source_columns
    ∷ key_row once "source.skip.header" (or_else "false") (plan_word truths with_header)
    ∷ key_row once "source.max.bytes.per.unit" (or_else "1048576") (run_number 1 1073741824 with_max_bytes)
    ∷ key_row once "source.max.new.units" (or_else "1000") (run_number 1 10000 with_max_units)
    ∷ key_row once "converter.classes" (or_else "") shared_steps
    ∷ key_row once "task.skip.error.records" (or_else "0") (run_number 0 1000000000 with_skip_errors)
    ∷ key_row once "fork.operator.class" (or_else "all") (plan_word forks with_fork)
    ∷ key_row once "fork.branches" (or_else "1") (plan_number 1 8 with_branches)
    ∷ []

-- those that are then read whole for each branch
unfoldable pub branch_rows : List Row
branch_rows =
    key_row for_each_branch "fork.test" needed_unless_all branch_test
    ∷ key_row for_each_branch "converter.classes" (or_else "") branch_steps
    ∷ key_row for_each_branch_or_all "qualitychecker.row.policies" (or_else "") row_policies
    ∷ key_row for_each_branch_or_all "qualitychecker.row.policy.types" (or_else "") row_policy_modes
    ∷ key_row for_each_branch_or_all "writer.format" needed branch_format
    ∷ key_row for_each_branch_or_all "writer.placer" (or_else "plain") branch_place
    ∷ []

-- those that are read last
unfoldable pub last_rows : List Row
last_rows =
    key_row once "qualitychecker.task.policies" (or_else "") task_rules
    ∷ key_row once "qualitychecker.task.policy.types" (or_else "") task_policy_modes
    ∷ key_row once "job.commit.policy" (or_else "full") (run_word commit_policies with_policy)
    ∷ key_row once "task.maxretries" (or_else "5") (run_number 0 100 with_retries)
    ∷ key_row once "task.slots" (or_else "1") (run_number 1 64 with_slots)
    ∷ key_row once "task.piece.bytes" (or_else "65536") (run_number 1 1048576 with_piece)
    ∷ key_row once "task.schedule" (or_else "0") schedule
    ∷ key_row once "job.commit.scope" (or_else "job") (run_word commit_scopes with_scope)
    ∷ []

-- all keys
abbrev pub key_table : List Row
key_table = first_rows ++ branch_rows ++ last_rows
