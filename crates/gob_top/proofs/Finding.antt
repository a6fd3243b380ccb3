-- What the bytes of a job's file give, and where none are read.
use Rattle.std.proofs.Common.{◌≡◌, ◌⊎◌, inl, inr, ℕ, List, sym, ap, ◌∙◌, Some, None, IfSome}
use Rattle.std.specs.declared.option.Option.{Option}
use Rattle.std.specs.declared.result.Result.{Result}
use Rattle.std.specs.declared.result.Result.TheVariants.{Ok, Err}
use Rattle.gob_bytes.specs.Paths.{job_file}
use Rattle.gob_bytes.specs.Tables.{Table}
use Rattle.gob_device.specs.Disk.{Disk, contents_at}
use Rattle.gob_job.specs.Faults.{Gives}
use Rattle.gob_job.specs.Jobs.{job_from}
use Rattle.gob_job.specs.declared.faults.JobFault.{JobFault}
use Rattle.gob_job.specs.declared.faults.JobFault.TheVariants as held
use Rattle.gob_jobs.specs.Reading.{job_of}
use Rattle.gob_meaning.specs.Job.{Job}
use Rattle.gob_props.specs.Properties.{properties_of}
use Rattle.gob_props.specs.declared.fault.PropsFault.{PropsFault}
use Rattle.gob_props.specs.declared.fault.PropsFault.TheVariants as props
use Rattle.gob_texts.specs.Refusals as texts
use Rattle.gob_top.specs.Faults.{held_refusal}
use Rattle.gob_top.specs.Found.{NotFound, given, starved}
use Rattle.gob_top.specs.Jobs.{FileGives, Read, job_in, read_of_file, job_in_text, text_refusal}

-- ---- the file

pub no_file : (job name : List ℕ) (disk : Option Disk) (before now : ℕ) (why : texts.Refusal) → name ≡ job_file job
    → IfSome disk (λ d. None ≡ contents_at d.files name) → now ≡ before → why ≡ texts.no_job
    → NotFound job disk before now why
unfolding read_of_file
no_file job name disk before now why is none same tells = given (gives disk none) same
  where
    gives : (o : Option Disk) → IfSome o (λ d. None ≡ contents_at d.files name) → FileGives job o (Err why)
    gives None none = tt
    gives (Some d) none =
        ap (read_of_file job) (ap (contents_at d.files) (sym is) ∙ sym none) ∙ ap (λ w. Err w) (sym tells)

pub file_gives : (job bytes : List ℕ) (disk : Option Disk) (r : Read)
    → IfSome disk (λ d. contents_at d.files (job_file job) ≡ Some bytes) → read_of_file job (Some bytes) ≡ r
    → FileGives job disk r
file_gives job bytes None r holds gives = tt
file_gives job bytes (Some d) r holds gives = ap (read_of_file job) holds ∙ gives

-- ---- its bytes

-- what a text gives, where memory wasn't out
abbrev pub IsRead : List ℕ → Result (Table (List ℕ)) PropsFault → Type 0
IsRead bytes r = (r ≡ Err props.Memory) ⊎ (r ≡ properties_of bytes)

-- no memory was left, or the file tells this
abbrev pub TellsWhy : List ℕ → List ℕ → texts.Refusal → Type 0
TellsWhy job bytes why = (why ≡ texts.memory) ⊎ (read_of_file job (Some bytes) ≡ Err why)

pub text_tells : (job bytes : List ℕ) (f : PropsFault) (why : texts.Refusal) → IsRead bytes (Err f)
    → why ≡ text_refusal f → TellsWhy job bytes why
unfolding read_of_file
text_tells job bytes f why (inl out) tells =
    let same : f ≡ props.Memory = cc in inl (tells ∙ ap text_refusal same)
text_tells job bytes f why (inr is) tells = inr (ap (job_in_text job) (sym is) ∙ ap (λ w. Err w) (sym tells))

pub job_tells : (job bytes : List ℕ) (entries : Table (List ℕ)) (f : JobFault) (why : texts.Refusal)
    → IsRead bytes (Ok entries) → Gives job_from (Err f) (job_of job entries) → why ≡ held_refusal f
    → TellsWhy job bytes why
unfolding read_of_file
job_tells job bytes entries f why (inl out) due tells = absurd (cc)
job_tells job bytes entries f why (inr is) due tells = cases f due tells
  where
    in_text : {w : texts.Refusal} → job_in entries (job_of job entries) ≡ Err w → why ≡ w
        → job_in_text job (properties_of bytes) ≡ Err why
    in_text gives same = ap (job_in_text job) (sym is) ∙ (gives ∙ ap (λ w. Err w) (sym same))

    cases : (f : JobFault) → Gives job_from (Err f) (job_of job entries) → why ≡ held_refusal f
        → (why ≡ texts.memory) ⊎ (job_in_text job (properties_of bytes) ≡ Err why)
    cases (held.Missing key) gives same = inr (in_text (ap (job_in entries) gives) same)
    cases (held.BadValue key) gives same = inr (in_text (ap (job_in entries) gives) same)
    cases (held.BadPolicyCount key) gives same = inr (in_text (ap (job_in entries) gives) same)
    cases (held.NoColumn key column) gives same = inr (in_text (ap (job_in entries) gives) same)
    cases (held.BadKind key column) gives same = inr (in_text (ap (job_in entries) gives) same)
    cases (held.Interpolation key) gives same = inr (in_text (ap (job_in entries) gives) same)
    cases held.Memory gives same = inl same

pub job_found : (job bytes : List ℕ) (entries : Table (List ℕ)) (found : Job) → IsRead bytes (Ok entries)
    → job_of job entries ≡ Ok found → read_of_file job (Some bytes) ≡ Ok (entries, found)
unfolding read_of_file
job_found job bytes entries found (inl out) is = absurd (cc)
job_found job bytes entries found (inr read) is = ap (job_in_text job) (sym read) ∙ ap (job_in entries) is

-- the bytes that were read give no job
pub not_given : (job bytes : List ℕ) (disk : Option Disk) (before now : ℕ) (why : texts.Refusal)
    → IfSome disk (λ d. contents_at d.files (job_file job) ≡ Some bytes) → now ≡ before → TellsWhy job bytes why
    → NotFound job disk before now why
not_given job bytes disk before now why holds same (inl none) = starved none
not_given job bytes disk before now why holds same (inr gives) =
    given (file_gives job bytes disk (Err why) holds gives) same
