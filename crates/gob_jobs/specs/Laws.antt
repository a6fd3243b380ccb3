-- Laws of what job files and pipeline texts read as.
use Rattle.std.specs.Prelude.{◌≡◌, ◌≢◌, ◌⊎◌, ◌↔◌, ℕ, ◌<◌, ◌≤◌, Bool, true, List, [], ◌∷◌, length, filter}
use Rattle.std.specs.declared.option.Option.TheVariants.{Some}
use Rattle.std.specs.declared.result.Result.TheVariants.{Ok}
use Rattle.std.specs.List.{All, Contains}
use Rattle.gob_bytes.specs.Tables.{Table, at_name, names_of}
use Rattle.gob_plan.specs.declared.plan.Plan.{Plan}
use Rattle.gob_meaning.specs.Job.{Job}
use Rattle.gob_meaning.specs.Plans.{IsFitting, without_rules}
use Rattle.gob_jobs.specs.Pipelines.{Setting, IsSetting, IsPipeline, pipeline_text, settings_in}
use Rattle.gob_jobs.specs.KeyTable.{Row, once, for_each_branch, key_table}
use Rattle.gob_jobs.specs.Reading.{with_number, job_of, branches_told, unknown_keys}
use Rattle.gob_jobs.specs.Plans.{TellsPlan, plan_of}

-- ---- jobs

-- from one number to another
abbrev pub IsBetween : ℕ → ℕ → ℕ → Type 0
IsBetween low high n = (low ≤ n) × (n ≤ high)

-- the numbers of a job lie in the ranges of their keys
pub record IsInRanges (job : Job) : Type 0 where
  pub max_bytes : IsBetween 1 1073741824 job.limits.max_bytes
  pub max_new_units : IsBetween 1 10000 job.limits.max_new_units
  pub skip_errors : job.plan.skip_errors ≤ 1000000000
  pub max_retries : job.max_retries ≤ 100
  pub slots : IsBetween 1 64 job.turns.slots
  pub piece : IsBetween 1 1048576 job.turns.piece
  pub turns : IsBetween 1 64 (length job.turns.schedule)
  pub schedule : All (λ n. n ≤ 63) job.turns.schedule

-- what is known of a job that was read: its plan fits, its numbers are in their ranges, and its pipeline text tells its
-- plan
pub record IsJob (name : List ℕ) (job : Job) : Type 0 where
  pub named : job.name ≡ name
  pub fitting : IsFitting job.plan
  pub ranges : IsInRanges job
  pub pipeline : IsPipeline job.pipeline
  pub tells : TellsPlan job

-- it is known of each job that is read
abbrev pub JobsAreRight : Type 0
JobsAreRight = (name : List ℕ) (entries : Table (List ℕ)) (job : Job) → job_of name entries ≡ Ok job → IsJob name job

-- ---- pipeline texts

-- a text reads as the settings that it is the text of, and no other text has settings
abbrev pub SettingsAreRead : Type 0
SettingsAreRead = (text : List ℕ) (settings : List Setting) → (settings_in text ≡ Some settings) ↔
    (All (λ s. IsSetting s.0 s.1) settings × (text ≡ pipeline_text settings))

-- a plan that a text tells fits, and has no limit on bad lines and no rules for tasks; the text is a pipeline text
pub record IsTold (text : List ℕ) (plan : Plan) : Type 0 where
  pub pipeline : IsPipeline text
  pub fitting : IsFitting plan
  pub without_rules : plan ≡ without_rules plan

-- it is known of each plan that is read
abbrev pub PlansAreRight : Type 0
PlansAreRight = (text : List ℕ) (plan : Plan) → plan_of text ≡ Some plan → IsTold text plan

-- ---- keys

-- the key is that of a row, where there are so many branches
abbrev pub IsKeyOf : ℕ → Row → List ℕ → Type 0
IsKeyOf branches row key =
    ((row.standing ≢ for_each_branch) × (key ≡ row.key))
    ⊎ ((row.standing ≢ once) × ((b : ℕ) × (b < branches) × (key ≡ with_number row.key b)))

-- the unknown keys are those that no row has, in their order
pub record TellsUnknown (entries : Table (List ℕ)) : Type 0 where
  pub is_unknown : List ℕ → Bool
  pub keys : unknown_keys entries ≡ filter is_unknown (names_of entries)
  pub none : (key : List ℕ) → (is_unknown key ≡ true) ↔ ((row : Row) → Contains key_table row
      → IsKeyOf (branches_told (at_name entries)) row key → ⊥)

-- of all keys and values
abbrev pub UnknownKeysAreTold : Type 0
UnknownKeysAreTold = (entries : Table (List ℕ)) → TellsUnknown entries
