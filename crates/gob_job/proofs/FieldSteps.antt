-- A value read over a reading, from what it is read over.
use Rattle.std.proofs.Common.{◌≡◌, ℕ, List, Result, Ok, Err, refl, sym, ap, subst}
use Rattle.gob_jobs.specs.Words.{value_map}
use Rattle.gob_jobs.specs.KeyTable as keys
use Rattle.gob_jobs.specs.Reading.{Reading, read_value}
use Rattle.gob_job.specs.declared.draft.Draft.{Draft as DraftHeld}
use Rattle.gob_job.specs.declared.draft.PlanField.{PlanField}
use Rattle.gob_job.specs.declared.draft.PlanField.TheVariants as plan
use Rattle.gob_job.specs.declared.faults.ValueFault.{ValueFault}
use Rattle.gob_job.specs.declared.faults.ValueFault.TheVariants as value
use Rattle.gob_job.specs.declared.run_rules.RunRules.{RunRules as RulesHeld}
use Rattle.gob_job.specs.declared.run_rules.RulesField.{RulesField}
use Rattle.gob_job.specs.declared.run_rules.RulesField.TheVariants as rules
use Rattle.gob_job.specs.declared.rows.Field.{Field}
use Rattle.gob_job.specs.declared.rows.Field.TheVariants as field
use Rattle.gob_job.specs.Drafts.{draft_from, draft_read, plan_reader, rules_from, rules_read, rules_reader, ReadsField}
use Rattle.gob_job.specs.Drafts.{ReadsRule}
use Rattle.gob_job.specs.Faults.{ReadsValue}
use Rattle.gob_job.specs.Rows.{reader_of}

-- what was read, changed
mapped : {A B C : Type 0} (s : A → B) (g : B → C) (r : Result A ValueFault) (due : Result B keys.ValueFault)
    → ReadsValue s r due → ReadsValue (λ x. g (s x)) r (value_map g due)
mapped s g (Ok x) due is = ap (value_map g) is
mapped s g (Err (value.Refused why)) due is = ap (value_map g) is
mapped s g (Err value.BadCount) due is = ap (value_map g) is
mapped s g (Err value.Memory) due is = tt

-- a reading with other parts
abbrev pub in_draft : keys.RunRules → keys.Draft → Reading
in_draft r d = record { draft = d; rules = r }

abbrev pub in_rules : keys.Draft → keys.RunRules → Reading
in_rules d r = record { draft = d; rules = r }

plan_value : (f : PlanField) (r : keys.RunRules) (d : keys.Draft) (v : List ℕ)
    → value_map (in_draft r) (draft_read (plan_reader f) d v) ≡ read_value (plan_reader f) (in_draft r d) v
plan_value plan.Format r d v = refl
plan_value plan.Columns r d v = refl
plan_value plan.SkipHeader r d v = refl
plan_value plan.Steps r d v = refl
plan_value plan.ForkHow r d v = refl
plan_value plan.Branches r d v = refl
plan_value plan.ForkTest r d v = refl
plan_value plan.BranchSteps r d v = refl
plan_value plan.Policies r d v = refl
plan_value plan.PolicyModes r d v = refl
plan_value plan.BranchFormat r d v = refl
plan_value plan.Place r d v = refl

rules_value : (f : RulesField) (d : keys.Draft) (r : keys.RunRules) (v : List ℕ)
    → value_map (in_rules d) (rules_read (rules_reader f) d.plan r v) ≡ read_value (rules_reader f) (in_rules d r) v
rules_value rules.JobName d r v = refl
rules_value rules.SourceClass d r v = refl
rules_value rules.Prefix d r v = refl
rules_value rules.MaxBytes d r v = refl
rules_value rules.MaxNewUnits d r v = refl
rules_value rules.SkipErrors d r v = refl
rules_value rules.TaskRules d r v = refl
rules_value rules.TaskModes d r v = refl
rules_value rules.Policy d r v = refl
rules_value rules.MaxRetries d r v = refl
rules_value rules.Slots d r v = refl
rules_value rules.Piece d r v = refl
rules_value rules.Schedule d r v = refl
rules_value rules.Scope d r v = refl

pub draft_field : (which : Field) (f : PlanField) (old new : DraftHeld) (r : keys.RunRules) (v : List ℕ)
    (result : Result (Unit {0}) ValueFault) → which ≡ field.Plan f → ReadsField f old new v result
    → ReadsValue (λ _. in_draft r (draft_from new)) result
    (read_value (reader_of which) (in_draft r (draft_from old)) v)
draft_field which f old new r v result is read =
    subst (λ w. ReadsValue (λ _. in_draft r (draft_from new)) result
    (read_value (reader_of w) (in_draft r (draft_from old)) v)) (sym is)
    (subst (ReadsValue (λ _. in_draft r (draft_from new)) result) (plan_value f r (draft_from old) v)
    (mapped (λ _. draft_from new) (in_draft r) result (draft_read (plan_reader f) (draft_from old) v) read))

pub rules_field : (which : Field) (f : RulesField) (d : keys.Draft) (old new : RulesHeld) (v : List ℕ)
    (result : Result (Unit {0}) ValueFault) → which ≡ field.Rules f → ReadsRule f d.plan old new v result
    → ReadsValue (λ _. in_rules d (rules_from new)) result
    (read_value (reader_of which) (in_rules d (rules_from old)) v)
rules_field which f d old new v result is read =
    subst (λ w. ReadsValue (λ _. in_rules d (rules_from new)) result
    (read_value (reader_of w) (in_rules d (rules_from old)) v)) (sym is)
    (subst (ReadsValue (λ _. in_rules d (rules_from new)) result) (rules_value f d (rules_from old) v)
    (mapped (λ _. rules_from new) (in_rules d) result (rules_read (rules_reader f) d.plan (rules_from old) v) read))
