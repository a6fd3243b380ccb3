-- How the rows of the key table are read over a look-up of values, one after the other, and what a job file reads as.
use Rattle.std.specs.Prelude.{ℕ, ◌-◌, ◌^◌, Bool, true, false, ◌&&◌, ◌||◌, not, nat_eq, nat_lt, if◌then◌else◌, List, []}
use Rattle.std.specs.Prelude.{◌∷◌, ◌++◌, map, filter, codes}
use Rattle.std.specs.declared.option.Option.{Option}
use Rattle.std.specs.declared.option.Option.TheVariants.{None, Some}
use Rattle.std.specs.declared.result.Result.{Result}
use Rattle.std.specs.declared.result.Result.TheVariants.{Ok, Err}
use Rattle.std.specs.Option.{is_some, option_map, option_and_then, unwrap_or, ok_or}
use Rattle.std.specs.List.{range_with_len, flat_map, list_any}
use Rattle.std.specs.Fmt.{decimal}
use Rattle.std.specs.Str.{bytes_eq, is_utf8}
use Rattle.gob_bytes.specs.Tables.{Table, at_name, names_of}
use Rattle.gob_plan.specs.declared.steps.Refusal.TheVariants as refusal
use Rattle.gob_plan.specs.declared.plan.BranchSpec.{BranchSpec}
use Rattle.gob_plan.specs.declared.plan.CommitPolicy.TheVariants.{Full}
use Rattle.gob_plan.specs.declared.plan.CommitScope.TheVariants as scope
use Rattle.gob_plan.specs.declared.plan.ForkHow.{ForkHow}
use Rattle.gob_plan.specs.declared.plan.ForkHow.TheVariants as fork_how
use Rattle.gob_plan.specs.declared.plan.Format.{Format}
use Rattle.gob_plan.specs.declared.plan.Format.TheVariants as format
use Rattle.gob_plan.specs.declared.plan.PlaceSpec.TheVariants as place
use Rattle.gob_plan.specs.declared.plan.Plan.{Plan}
use Rattle.gob_props.specs.Properties.{properties_of}
use Rattle.gob_props.specs.declared.fault.PropsFault.{PropsFault}
use Rattle.gob_meaning.specs.Job.{Job, plain_job}
use Rattle.gob_jobs.specs.Pipelines.{Setting, pipeline_text}
use Rattle.gob_jobs.specs.Words.{and_then, value_map, fault_map, without_blanks, number_within}
use Rattle.gob_jobs.specs.KeyTable.{Draft, RunRules, ValueFault, refused, bad_count, Reader, of_plan, of_runs, Standing}
use Rattle.gob_jobs.specs.KeyTable.{once, for_each_branch, for_each_branch_or_all, Need, needed, else_is}
use Rattle.gob_jobs.specs.KeyTable.{needed_unless_lines, needed_unless_all, Row, tells_plan, first_rows, branch_rows}
use Rattle.gob_jobs.specs.KeyTable.{last_rows, key_table}

-- why there is no job; each names a key, and maybe a column
pub data JobFault : Type 0 where
  missing : (key : List ℕ) → JobFault
  bad_value : (key : List ℕ) → JobFault
  bad_policy_count : (key : List ℕ) → JobFault
  no_column : (key column : List ℕ) → JobFault
  bad_kind : (key column : List ℕ) → JobFault
  interpolation : (key : List ℕ) → JobFault

-- the value at a key, if there is one
abbrev pub LookUp : Type 0
LookUp = List ℕ → Option (List ℕ)

-- ---- the key of a row, and its value

-- the key behind which a branch's number stands
abbrev pub with_number : List ℕ → ℕ → List ℕ
with_number key b = key ++ 46 ∷ decimal b

-- what is said of a key by its standing: one that stands once, one for each branch, one for each branch or all
abbrev pub by_standing : {X : Type 0} → Standing → X → X → X → X
by_standing once x y z = x
by_standing for_each_branch x y z = y
by_standing for_each_branch_or_all x y z = z

-- the row's own key in a branch
abbrev pub own_key : Row → ℕ → List ℕ
own_key row b = by_standing row.standing row.key (with_number row.key b) (with_number row.key b)

-- the key that counts: that of all branches only where the branch has none of its own
abbrev pub key_that_counts : LookUp → Row → ℕ → List ℕ
key_that_counts look row b =
    let own = with_number row.key b in by_standing row.standing row.key own
    (if is_some (look own) then own else row.key)

-- the key that is said to be missing; one for all branches would do where there is one branch
abbrev pub missing_key : Row → ℕ → ℕ → List ℕ
missing_key row b branches =
    let own = with_number row.key b in by_standing row.standing row.key own (if nat_lt 1 branches then own else row.key)

-- whole lines have columns of their own
abbrev pub unless_lines : Format → Option (List ℕ)
unless_lines format.Lines = Some []
unless_lines format.Csv = None
unless_lines format.Json = None

-- where each branch takes every row there is nothing to test
abbrev pub unless_all : ForkHow → Option (List ℕ)
unless_all fork_how.All = Some []
unless_all fork_how.Each = None
unless_all fork_how.First = None

-- the value of an absent key, if it may be absent
abbrev pub absent_value : Need → Plan → Option (List ℕ)
absent_value needed plan = None
absent_value (else_is text) plan = Some text
absent_value needed_unless_lines plan = unless_lines plan.format
absent_value needed_unless_all plan = unless_all plan.fork.how

-- `${` stands in the text
abbrev pub has_interpolation : List ℕ → Bool
has_interpolation [] = false
has_interpolation (b ∷ []) = false
has_interpolation (b ∷ c ∷ bs) = nat_eq b 36 && nat_eq c 123 || has_interpolation (c ∷ bs)

-- a value that stands at a key; a properties text has only UTF-8, a pipeline text maybe not
abbrev pub value_at : List ℕ → List ℕ → Result (List ℕ) JobFault
value_at key text =
    if has_interpolation text then Err (interpolation key) else (if is_utf8 text then Ok text else Err (bad_value key))

-- the value that stands at a key, if one does, without blanks at its ends; else that of an absent key
abbrev pub value_found : List ℕ → Result (List ℕ) JobFault → Option (List ℕ) → Result (List ℕ) JobFault
value_found key absent (Some value) = value_at key (without_blanks value)
value_found key absent None = absent

-- the value of a row in a branch
unfoldable pub value_of_row : LookUp → Row → ℕ → Plan → Result (List ℕ) JobFault
value_of_row look row b plan =
    let key = key_that_counts look row b in
    value_found key (ok_or (absent_value row.need plan) (missing (missing_key row b plan.fork.branches))) (look key)

-- ---- reading

-- what was read so far
pub record Reading : Type 0 where
  pub draft : Draft
  pub rules : RunRules

-- a value's fault at its key
abbrev pub fault_at : List ℕ → ValueFault → JobFault
fault_at key (refused (refusal.NoColumn column)) = no_column key column
fault_at key (refused (refusal.BadKind column)) = bad_kind key column
fault_at key (refused refusal.BadValue) = bad_value key
fault_at key bad_count = bad_policy_count key

-- the value of a row read
abbrev pub read_value : Reader → Reading → List ℕ → Result Reading ValueFault
read_value (of_plan read) r value = value_map (λ d. record r { draft = d }) (read r.draft value)
read_value (of_runs read) r value = value_map (λ rules. record r { rules = rules }) (read r.draft.plan r.rules value)

-- a row read in a branch, or its fault
unfoldable pub read_row : LookUp → Row → ℕ → Reading → Result Reading JobFault
read_row look row b r =
    and_then (λ value. fault_map (fault_at (key_that_counts look row b)) (read_value row.reader r value))
    (value_of_row look row b r.draft.plan)

-- rows read one after the other, or the first fault
abbrev pub read_rows : LookUp → List Row → ℕ → Reading → Result Reading JobFault
read_rows look [] b r = Ok r
read_rows look (row ∷ rows) b r = and_then (read_rows look rows b) (read_row look row b r)

-- a branch of which nothing is read
abbrev pub no_branch : BranchSpec
no_branch = record { steps = []; policies = []; format = format.Lines; place = place.Plain }

-- the branch that was read joins the plan
abbrev pub with_branch : Reading → Reading
with_branch r = record r {
  draft = record {
    plan = record r.draft.plan
        { branches = r.draft.plan.branches ++ r.draft.branch ∷ [] };
    branch = no_branch;
  };
}

-- the rows read whole for each of these branches
abbrev pub read_branches : LookUp → List Row → List ℕ → Reading → Result Reading JobFault
read_branches look rows [] r = Ok r
read_branches look rows (b ∷ bs) r = and_then (λ s. read_branches look rows bs (with_branch s))
    (read_rows look rows b r)

-- rows read in their order: the first ones, then those of each branch, then the last ones
abbrev pub read_table : LookUp → List Row → List Row → List Row → Reading → Result Reading JobFault
read_table look firsts each lasts r =
    and_then (λ s. and_then (read_rows look lasts 0) (read_branches look each
    (range_with_len 0 s.draft.plan.fork.branches) s))
    (read_rows look firsts 0 r)

-- before a key is read there is the plain job without its branch; each part of it is then replaced
abbrev pub nothing_read : Reading
nothing_read = let plain = plain_job [] in record {
  draft = record { plan = record plain.plan { branches = [] }; branch = no_branch };
  rules = record {
    limits = plain.limits;
    skip_errors = plain.plan.skip_errors;
    task_policies = plain.plan.task_policies;
    policy = plain.policy;
    max_retries = plain.max_retries;
    turns = plain.turns;
    scope = plain.scope;
  };
}

-- ---- the pipeline text

-- the value of an absent key in the pipeline text, empty where it has none
abbrev pub default_text : Need → List ℕ
default_text needed = []
default_text (else_is text) = text
default_text needed_unless_lines = []
default_text needed_unless_all = []

-- the value that a row has in the pipeline text: the one that counts, or that of an absent key
abbrev pub spelled_value : LookUp → Row → ℕ → List ℕ
spelled_value look row b = unwrap_or (option_map without_blanks (look (key_that_counts look row b)))
    (default_text row.need)

-- a row's setting in a branch
abbrev pub setting_of_row : LookUp → ℕ → Row → Setting
setting_of_row look b row = (own_key row b, spelled_value look row b)

-- the settings of rows, for these branches
abbrev pub settings_of_rows : LookUp → List Row → List Row → List ℕ → List Setting
settings_of_rows look firsts each branches =
    map (setting_of_row look 0) firsts ++ flat_map (λ b. map (setting_of_row look b) each) branches

-- the settings of the rows that tell the plan, for so many branches
abbrev pub plan_settings : LookUp → ℕ → List Setting
plan_settings look branches =
    settings_of_rows look (filter tells_plan first_rows) (filter tells_plan branch_rows) (range_with_len 0 branches)

-- the pipeline text of these values, for so many branches
unfoldable pub pipeline_of : LookUp → ℕ → List ℕ
pipeline_of look branches = pipeline_text (plan_settings look branches)

-- ---- jobs

-- the plan with what no pipeline text tells
abbrev pub with_rules : Plan → RunRules → Plan
with_rules plan rules = record plan { skip_errors = rules.skip_errors; task_policies = rules.task_policies }

-- the job that was read
abbrev pub job_read : List ℕ → LookUp → Reading → Job
job_read name look r = record {
  name = name;
  plan = with_rules r.draft.plan r.rules;
  limits = r.rules.limits;
  turns = r.rules.turns;
  max_retries = r.rules.max_retries;
  policy = r.rules.policy;
  scope = r.rules.scope;
  pipeline = pipeline_of look r.draft.plan.fork.branches;
}

-- the job of this name that these keys and values describe, or the first fault
unfoldable pub job_of : List ℕ → Table (List ℕ) → Result Job JobFault
job_of name entries = value_map (job_read name (at_name entries))
    (read_table (at_name entries) first_rows branch_rows last_rows nothing_read)

-- what a job file reads as, where it is a properties text
abbrev pub job_in_file : List ℕ → List ℕ → Result (Result Job JobFault) PropsFault
job_in_file name bytes = value_map (job_of name) (properties_of bytes)

-- ---- keys that aren't known

-- how many branches there are, one where no number is told
abbrev pub branches_told : LookUp → ℕ
branches_told look = unwrap_or (option_and_then (λ value. number_within 1 8 (without_blanks value))
    (look (codes "fork.branches"))) 1

-- a row's keys, where there are so many branches
abbrev pub keys_of_row : ℕ → Row → List (List ℕ)
keys_of_row branches row =
    let own = map (with_number row.key) (range_with_len 0 branches) in
    by_standing row.standing (row.key ∷ []) own (row.key ∷ own)

-- the key of a row, where there are so many branches
abbrev pub is_known : ℕ → List ℕ → Bool
is_known branches key = list_any (bytes_eq key) (flat_map (keys_of_row branches) key_table)

-- the keys that no row has, in their order
unfoldable pub unknown_keys : Table (List ℕ) → List (List ℕ)
unknown_keys entries = filter (λ key. not (is_known (branches_told (at_name entries)) key)) (names_of entries)
