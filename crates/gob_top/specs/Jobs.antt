-- What the file of a job gives.
use Rattle.std.specs.Prelude.{◌≡◌, ℕ, List, IfSome}
use Rattle.std.specs.declared.option.Option.{Option}
use Rattle.std.specs.declared.option.Option.TheVariants.{None, Some}
use Rattle.std.specs.declared.result.Result.{Result}
use Rattle.std.specs.declared.result.Result.TheVariants.{Ok, Err}
use Rattle.gob_bytes.specs.Paths.{job_file}
use Rattle.gob_bytes.specs.Tables.{Table}
use Rattle.gob_device.specs.Disk.{Disk, contents_at}
use Rattle.gob_props.specs.Properties.{properties_of}
use Rattle.gob_props.specs.declared.fault.PropsFault.{PropsFault}
use Rattle.gob_props.specs.declared.fault.PropsFault.TheVariants as props
use Rattle.gob_meaning.specs.Job.{Job}
use Rattle.gob_jobs.specs.Reading.{JobFault, missing, bad_value, bad_policy_count, no_column, bad_kind}
use Rattle.gob_jobs.specs.Reading.{interpolation, job_of}
use Rattle.gob_texts.specs.Refusals as texts

-- a key's fault, as it is told
abbrev pub key_refusal : JobFault → texts.Refusal
key_refusal (missing key) = texts.missing key
key_refusal (bad_value key) = texts.bad_value key
key_refusal (bad_policy_count key) = texts.bad_policy_count key
key_refusal (no_column key column) = texts.no_column key column
key_refusal (bad_kind key column) = texts.bad_kind key column
key_refusal (interpolation key) = texts.interpolation key

-- what the fault of a text is told as; a text is never out of memory
abbrev pub text_refusal : PropsFault → texts.Refusal
text_refusal props.NotUtf8 = texts.not_utf8
text_refusal (props.BadEscape line) = texts.bad_escape line
text_refusal props.Memory = texts.memory

-- the keys and values that stand at the job file's name, with the job that they give, or the first refusal
abbrev pub Read : Type 0
Read = Result (Table (List ℕ) × Job) texts.Refusal

abbrev pub job_in : Table (List ℕ) → Result Job JobFault → Read
job_in entries (Ok job) = Ok (entries, job)
job_in entries (Err fault) = Err (key_refusal fault)

abbrev pub job_in_text : List ℕ → Result (Table (List ℕ)) PropsFault → Read
job_in_text job (Ok entries) = job_in entries (job_of job entries)
job_in_text job (Err fault) = Err (text_refusal fault)

unfoldable pub read_of_file : List ℕ → Option (List ℕ) → Read
read_of_file job None = Err texts.no_job
read_of_file job (Some bytes) = job_in_text job (properties_of bytes)

-- where the volume tells, this is what the job's file gives
abbrev pub FileGives : List ℕ → Option Disk → Read → Type 0
FileGives job disk r = IfSome disk (λ d. read_of_file job (contents_at d.files (job_file job)) ≡ r)
