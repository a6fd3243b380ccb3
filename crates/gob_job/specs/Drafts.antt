-- The code's draft and rules as those of the key table, and the reader of each field.
use Rattle.std.specs.Prelude.{ℕ, List}
use Rattle.std.specs.declared.result.Result.{Result}
use Rattle.std.specs.declared.result.Result.TheVariants.{Ok}
use Rattle.gob_plan.specs.declared.plan.Plan.{Plan}
use Rattle.gob_jobs.specs.KeyTable.{Draft, RunRules, ValueFault, Reader, of_plan, of_runs, with_prefix}
use Rattle.gob_jobs.specs.KeyTable.{with_max_bytes, with_max_units, with_skip_errors, with_policy, with_retries}
use Rattle.gob_jobs.specs.KeyTable.{with_slots, with_piece, with_scope, with_format, with_header, with_fork}
use Rattle.gob_jobs.specs.KeyTable.{with_branches, as_before, plan_word, run_word, plan_number, run_number, run_text}
use Rattle.gob_jobs.specs.KeyTable.{sources, formats, truths, forks, commit_policies, commit_scopes, source_columns}
use Rattle.gob_jobs.specs.KeyTable.{shared_steps, branch_test, branch_steps, row_policies, row_policy_modes}
use Rattle.gob_jobs.specs.KeyTable.{branch_format, branch_place, task_rules, task_policy_modes, schedule}
use Rattle.gob_job.specs.declared.faults.ValueFault.{ValueFault as ValueFaultMade}
use Rattle.gob_job.specs.declared.draft.Draft.{Draft as DraftHeld}
use Rattle.gob_job.specs.declared.draft.PlanField.{PlanField}
use Rattle.gob_job.specs.declared.draft.PlanField.TheVariants as plan
use Rattle.gob_job.specs.declared.run_rules.RunRules.{RunRules as RulesHeld}
use Rattle.gob_job.specs.declared.run_rules.RulesField.{RulesField}
use Rattle.gob_job.specs.declared.run_rules.RulesField.TheVariants as rules
use Rattle.gob_job.specs.Faults.{ReadsValue}

abbrev pub draft_from : DraftHeld → Draft
draft_from d = record { plan = d.plan; branch = d.branch }

abbrev pub rules_from : RulesHeld → RunRules
rules_from r = record {
  limits = record { prefix = r.prefix; max_bytes = r.max_bytes; max_new_units = r.max_new_units };
  skip_errors = r.skip_errors;
  task_policies = r.task_policies;
  policy = r.policy;
  max_retries = r.max_retries;
  turns = record { slots = r.slots; piece = r.piece; schedule = r.schedule };
  scope = r.scope;
}

-- what a reader makes of a draft; of another one it is left
abbrev pub draft_read : Reader → Draft → List ℕ → Result Draft ValueFault
draft_read (of_plan read) d value = read d value
draft_read (of_runs read) d value = Ok d

-- what a reader makes of the rules of runs
abbrev pub rules_read : Reader → Plan → RunRules → List ℕ → Result RunRules ValueFault
rules_read (of_plan read) p r value = Ok r
rules_read (of_runs read) p r value = read p r value

abbrev pub plan_reader : PlanField → Reader
plan_reader plan.Format = plan_word formats with_format
plan_reader plan.Columns = source_columns
plan_reader plan.SkipHeader = plan_word truths with_header
plan_reader plan.Steps = shared_steps
plan_reader plan.ForkHow = plan_word forks with_fork
plan_reader plan.Branches = plan_number 1 8 with_branches
plan_reader plan.ForkTest = branch_test
plan_reader plan.BranchSteps = branch_steps
plan_reader plan.Policies = row_policies
plan_reader plan.PolicyModes = row_policy_modes
plan_reader plan.BranchFormat = branch_format
plan_reader plan.Place = branch_place

abbrev pub rules_reader : RulesField → Reader
rules_reader rules.JobName = run_text as_before
rules_reader rules.SourceClass = run_word sources as_before
rules_reader rules.Prefix = run_text with_prefix
rules_reader rules.MaxBytes = run_number 1 1073741824 with_max_bytes
rules_reader rules.MaxNewUnits = run_number 1 10000 with_max_units
rules_reader rules.SkipErrors = run_number 0 1000000000 with_skip_errors
rules_reader rules.TaskRules = task_rules
rules_reader rules.TaskModes = task_policy_modes
rules_reader rules.Policy = run_word commit_policies with_policy
rules_reader rules.MaxRetries = run_number 0 100 with_retries
rules_reader rules.Slots = run_number 1 64 with_slots
rules_reader rules.Piece = run_number 1 1048576 with_piece
rules_reader rules.Schedule = schedule
rules_reader rules.Scope = run_word commit_scopes with_scope

-- ---- what reading leaves

-- a value was read over a draft, as it is due
abbrev pub ReadsField : PlanField → DraftHeld → DraftHeld → List ℕ → Result (Unit {0}) ValueFaultMade → Type 0
ReadsField f old new value result =
    ReadsValue (λ _. draft_from new) result (draft_read (plan_reader f) (draft_from old) value)

-- a value was read over rules, beside this plan
abbrev pub ReadsRule : RulesField → Plan → RulesHeld → RulesHeld → List ℕ → Result (Unit {0}) ValueFaultMade → Type 0
ReadsRule f p old new value result =
    ReadsValue (λ _. rules_from new) result (rules_read (rules_reader f) p (rules_from old) value)
