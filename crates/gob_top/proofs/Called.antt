-- The names that a call may be given: those of a job that a command line names, and of its file.
use Rattle.std.proofs.Common.{◌≡◌, ℕ, Bool, true, false, cond, not, ◌&&◌, List, [], ◌∷◌, ◌++◌, refl, sym, subst}
use Rattle.std.proofs.Common.{Some, None, codes, arith}
use Rattle.std.specs.List.{list_all}
use Rattle.std.specs.Str.{bytes_eq}
use Rattle.std.proofs.lemmas.Bool.{and_parts}
use Rattle.std.proofs.lemmas.Bool.Decides.{nat_tests}
use Rattle.gob_bytes.specs.Names.{begins_as_job, is_job_byte, is_job_name}
use Rattle.gob_bytes.specs.Paths.{job_file}
use Rattle.gob_device.specs.Names.{IsPathname}
use Rattle.gob_device.proofs.Names.{name_before, name_behind}
use Rattle.gob_recovery.specs.Sequence.{is_file_name, is_sequence_byte}
use Rattle.gob_recovery.proofs.Names.{file_pathname}
use Rattle.gob_top.specs.Answers.{job_of_words}

-- ---- a job's file

pub job_file_named : (job name : List ℕ) → name ≡ job_file job → IsPathname job → IsPathname name
job_file_named job name is named =
    subst IsPathname (sym is) (name_before (codes "jobs/" ++ job) (codes ".pull")
    (name_behind (codes "jobs/") job refl named) refl)

-- ---- a job's name

job_byte : (b : ℕ) → is_job_byte b ≡ true → is_sequence_byte b ≡ true
job_byte b e = grind (arith, nat_tests)

job_bytes : (bytes : List ℕ) → list_all is_job_byte bytes ≡ true → list_all is_sequence_byte bytes ≡ true
job_bytes [] all = refl
job_bytes (b ∷ bs) all =
    let p = and_parts (is_job_byte b) (list_all is_job_byte bs) all in
    rw (job_byte b p.0) (job_bytes bs p.1)

begun : (name : List ℕ) → begins_as_job name ≡ true → list_all is_sequence_byte name ≡ true → is_file_name name ≡ true
begun [] begins all = absurd (let no : false ≡ true = begins in cc)
begun (b ∷ bs) begins all = all

pub job_named : (job : List ℕ) → is_job_name job ≡ true → is_file_name job ≡ true
unfolding is_job_name
job_named job is =
    let a = and_parts _ (not (bytes_eq job (codes "jobs"))) is in
    let b = and_parts _ (list_all is_job_byte job) a.0 in
    let c = and_parts (begins_as_job job) _ b.0 in
    begun job c.0 (job_bytes job b.1)

-- the job of a command line
asked : (a : Bool) (other job : List ℕ) → cond (a && is_job_name other) (Some other) None ≡ Some job
    → is_file_name job ≡ true
asked a other job is = cases a (is_job_name other) refl is
  where
    cases : (a b : Bool) → is_job_name other ≡ b → cond (a && b) (Some other) None ≡ Some job → is_file_name job ≡ true
    cases true true e is = let same : other ≡ job = cc in subst (λ j. is_file_name j ≡ true) same (job_named other e)
    cases true false e is = absurd (let no : None ≡ Some job = is in cc)
    cases false b e is = absurd (let no : None ≡ Some job = is in cc)

pub words_named : (verb : List ℕ) (words : List (List ℕ)) (job : List ℕ) → job_of_words verb words ≡ Some job
    → is_file_name job ≡ true
words_named verb [] job is = absurd (let no : None ≡ Some job = is in cc)
words_named verb (word ∷ []) job is = absurd (let no : None ≡ Some job = is in cc)
words_named verb (word ∷ other ∷ []) job is = asked (bytes_eq word verb) other job is
words_named verb (word ∷ other ∷ more ∷ words) job is = absurd (let no : None ≡ Some job = is in cc)

pub words_pathname : (verb : List ℕ) (words : List (List ℕ)) (job : List ℕ) → job_of_words verb words ≡ Some job
    → IsPathname job
words_pathname verb words job is = file_pathname job (words_named verb words job is)
