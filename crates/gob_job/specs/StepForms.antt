-- The form of a step, a test, a rule and a place by its first word.
use Rattle.std.specs.Prelude.{ℕ, [], ◌∷◌, codes}
use Rattle.std.specs.declared.option.Option.TheVariants.{None, Some}
use Rattle.std.specs.Option.{option_map}
use Rattle.gob_plan.specs.declared.plan.Counter.{Counter}
use Rattle.gob_plan.specs.declared.plan.Counter.TheVariants as counter
use Rattle.gob_plan.specs.declared.plan.PlaceSpec.{PlaceSpec}
use Rattle.gob_plan.specs.declared.plan.PlaceSpec.TheVariants as place
use Rattle.gob_plan.specs.declared.plan.TaskRule.{TaskRule}
use Rattle.gob_bytes.specs.Tables.{Table}
use Rattle.gob_plan.specs.declared.checks.How.TheVariants as how
use Rattle.gob_plan.specs.declared.checks.Check.{Check}
use Rattle.gob_plan.specs.declared.checks.Check.TheVariants as check
use Rattle.gob_plan.specs.declared.steps.StepSpec.{StepSpec}
use Rattle.gob_plan.specs.declared.steps.StepSpec.TheVariants as step
use Rattle.gob_jobs.specs.Elements.{Form, column_word, no_word, one_value, two_numbers, compare}
use Rattle.gob_jobs.specs.Elements.{columns_words, column_words, two_columns, cast_words, set_words}
use Rattle.gob_jobs.specs.Elements.{explode_words, where_words}
use Rattle.gob_jobs.specs.Elements.{range_words, share_words}
use Rattle.gob_job.specs.declared.checks.CheckWord.{CheckWord}
use Rattle.gob_job.specs.declared.checks.CheckWord.TheVariants as of_check
use Rattle.gob_job.specs.declared.steps.StepWord.{StepWord}
use Rattle.gob_job.specs.declared.steps.StepWord.TheVariants as of_step
use Rattle.gob_job.specs.declared.rules.BranchCount.{BranchCount}
use Rattle.gob_job.specs.declared.rules.BranchCount.TheVariants as of_branch
use Rattle.gob_job.specs.declared.rules.RuleWord.{RuleWord}
use Rattle.gob_job.specs.declared.rules.RuleWord.TheVariants as of_rule
use Rattle.gob_job.specs.declared.lists.PlaceWord.{PlaceWord}
use Rattle.gob_job.specs.declared.lists.PlaceWord.TheVariants as of_place

abbrev pub check_form : CheckWord → Form Check
check_form of_check.Null = no_word check.Null
check_form (of_check.Compare how) = compare how
check_form of_check.Like = one_value check.Like
check_form of_check.Bytes = two_numbers check.Bytes

abbrev pub step_form : StepWord → Form StepSpec
step_form of_step.Keep = columns_words (λ names. step.Keep names)
step_form of_step.Drop = columns_words (λ names. step.Drop names)
step_form of_step.Rename = two_columns (λ from to. step.Rename from to)
step_form of_step.Cast = cast_words
step_form of_step.Set = set_words
step_form of_step.Copy = two_columns (λ from to. step.Copy from to)
step_form of_step.Explode = explode_words
step_form of_step.Where = where_words
step_form of_step.Upper = column_words (λ name. step.Upper name)
step_form of_step.Lower = column_words (λ name. step.Lower name)

-- the counter of a branch by its word
abbrev pub counter_of : BranchCount → ℕ → Counter
counter_of of_branch.Written b = counter.Written b
counter_of of_branch.Errors b = counter.Errors b
counter_of of_branch.Optional b = counter.Optional b

abbrev pub rule_form : ℕ → RuleWord → Form TaskRule
rule_form branches of_rule.Range = range_words branches
rule_form branches of_rule.Share = share_words branches

abbrev pub place_form : PlaceWord → Form PlaceSpec
place_form of_place.Plain [] = Some place.Plain
place_form of_place.Plain (w ∷ ws) = None
place_form of_place.Day [] = None
place_form of_place.Day (c ∷ []) = option_map (λ name. place.Day name) (column_word c)
place_form of_place.Day (c ∷ d ∷ ws) = None

-- ---- the words

abbrev pub check_word_table : Table CheckWord
check_word_table =
    (codes "null", of_check.Null)
    ∷ (codes "eq", of_check.Compare how.Eq)
    ∷ (codes "lt", of_check.Compare how.Lt)
    ∷ (codes "le", of_check.Compare how.Le)
    ∷ (codes "gt", of_check.Compare how.Gt)
    ∷ (codes "ge", of_check.Compare how.Ge)
    ∷ (codes "like", of_check.Like)
    ∷ (codes "bytes", of_check.Bytes)
    ∷ []

abbrev pub step_words : Table StepWord
step_words =
    (codes "keep", of_step.Keep)
    ∷ (codes "drop", of_step.Drop)
    ∷ (codes "rename", of_step.Rename)
    ∷ (codes "cast", of_step.Cast)
    ∷ (codes "set", of_step.Set)
    ∷ (codes "copy", of_step.Copy)
    ∷ (codes "explode", of_step.Explode)
    ∷ (codes "where", of_step.Where)
    ∷ (codes "upper", of_step.Upper)
    ∷ (codes "lower", of_step.Lower)
    ∷ []

abbrev pub rule_words : Table RuleWord
rule_words =
    (codes "range", of_rule.Range)
    ∷ (codes "share", of_rule.Share)
    ∷ []

abbrev pub count_words : Table BranchCount
count_words =
    (codes "written", of_branch.Written)
    ∷ (codes "errors", of_branch.Errors)
    ∷ (codes "optional", of_branch.Optional)
    ∷ []

abbrev pub place_words : Table PlaceWord
place_words =
    (codes "plain", of_place.Plain)
    ∷ (codes "day", of_place.Day)
    ∷ []
