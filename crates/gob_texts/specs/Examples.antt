-- Worked examples: the texts of small runs, commands and refusals, to the byte.
use Rattle.std.specs.Prelude.{◌≡◌, ℕ, true, false, List, [], ◌∷◌, ◌++◌, zip, codes, replicate}
use Rattle.gob_bytes.specs.Tables.{names_of}
use Rattle.gob_device.specs.Supply.{Held}
use Rattle.gob_plan.specs.declared.plan.CommitPolicy.TheVariants.{Full}
use Rattle.gob_plan.specs.declared.plan.CommitScope.TheVariants.{Dataset}
use Rattle.gob_plan.specs.declared.units.Cause.TheVariants.{Kill, Gone, Fault}
use Rattle.gob_plan.specs.declared.units.Unit.{Unit as WorkUnit}
use Rattle.gob_meaning.specs.Results.{Verdict, good, failed}
use Rattle.gob_ledger.specs.Marks.{Marks}
use Rattle.gob_ledger.specs.State.{State}
use Rattle.gob_ledger.specs.Units.{too_long, units_of}
use Rattle.gob_ledger.specs.Next.{Judged, next_state}
use Rattle.gob_ledger.specs.Turns.{verdicts_of}
use Rattle.gob_ledger.specs.Examples.{span, range_done, fresh, lines_written, nothing_yet, job, two_lines, plain_state}
use Rattle.gob_ledger.specs.Examples.{killing, with_a_kill, after_a_kill, killed_unit, one_line_each, one_retry}
use Rattle.std.specs.declared.option.Option.TheVariants.{None, Some}
use Rattle.gob_plan.specs.declared.rows.Column.{Column}
use Rattle.gob_plan.specs.declared.rows.Kind.{Kind}
use Rattle.gob_plan.specs.declared.rows.Kind.TheVariants as kind
use Rattle.gob_plan.specs.declared.plan.Format.TheVariants as format
use Rattle.gob_plan.specs.declared.plan.PlaceSpec.TheVariants as place
use Rattle.gob_plan.specs.declared.plan.Plan.{Plan}
use Rattle.gob_plan.specs.declared.steps.StepSpec.TheVariants as step
use Rattle.gob_meaning.specs.Job.{Job, plain_pipeline, plain_plan}
use Rattle.gob_texts.specs.Commands.{check_report, columns_word, recovery_report, state_report}
use Rattle.gob_texts.specs.Refusals.{Refusal, refusal_text, usage, no_job, not_utf8, bad_escape, missing, bad_value}
use Rattle.gob_texts.specs.Refusals.{bad_policy_count, no_column, bad_kind, interpolation, damaged, shrunk}
use Rattle.gob_texts.specs.Refusals.{source_fault, volume_fault, memory, full}
use Rattle.gob_texts.specs.Report.{commits_of, report_of}

-- what a run tells of its units, those committed that its policies allow
abbrev pub told_text : Job → List (List ℕ) → List Judged → State → List ℕ
told_text job names all after = report_of job.name job.policy names all (commits_of job.scope job.policy all) after

-- what a run over these partitions makes, where the turns with these numbers fail: its units, what becomes of each, the
-- state after it, and its text
pub record Makes (job : Job) (held : Held) (failing : List ℕ) (before : State) (units : List WorkUnit)
    (verdicts : List Verdict) (after : State) (text : List ℕ) : Type 0 where
  pub its_units : units_of before held job.limits ≡ units
  pub its_verdicts : verdicts_of job held units failing ≡ verdicts
  pub its_state : next_state before job.pipeline units verdicts job.policy ≡ after
  pub its_text : told_text job (too_long job.limits (names_of held)) (zip units verdicts) after ≡ text

-- each line a unit, and the line K kills its own; the good ones are committed
abbrev pub killing_job : Job
killing_job = record killing { name = codes "j12" }

-- a unit for each line
abbrev pub line_units : List WorkUnit
line_units = fresh (codes "a.log") 0 2 ∷ fresh (codes "a.log") 2 4 ∷ fresh (codes "a.log") 4 6 ∷ []

-- the second unit is killed by its line, at offset 2
abbrev pub one_killed : List Verdict
one_killed = good (lines_written 1) [] ∷ failed (Kill 0 0 2) ∷ good (lines_written 1) [] ∷ []

-- a failed unit is tried once more, and the good ones are committed
abbrev pub retrying_job : Job
retrying_job = record one_retry { name = codes "j17" }

-- one new unit for each of two partitions
abbrev pub one_each : List WorkUnit
one_each = fresh (codes "a") 0 2 ∷ fresh (codes "b") 0 2 ∷ []

-- nothing is owed of two bytes
abbrev pub all_done : Marks
all_done = record { next = 2; finished = range_done 0 2 ∷ []; owed = [] }

-- two bytes are owed
abbrev pub all_owed : Marks
all_owed = record { next = 2; finished = []; owed = span 0 2 ∷ [] }

-- both units are committed
abbrev pub after_both : State
after_both = record plain_state { parts = (codes "a", all_done) ∷ (codes "b", all_done) ∷ [] }

-- the second unit is committed, and the first is owed
abbrev pub after_b_alone : State
after_b_alone = record plain_state {
  totals = lines_written 1;
  parts =
      (codes "a", all_owed) ∷ (codes "b", all_done) ∷ [];
}

-- a name of one byte more than a file's name can hold
abbrev pub long_name : List ℕ
long_name = replicate 181 97

-- each dataset is committed on its own, all of it or nothing
abbrev pub two_datasets : Job
two_datasets = record killing { name = codes "j16"; policy = Full; scope = Dataset }

-- the unit of the first dataset is killed, and the one of the second is good
abbrev pub both_datasets : List Judged
both_datasets =
    (fresh (codes "a/x") 0 2, failed (Kill 0 0 0)) ∷ (fresh (codes "b/x") 0 2, good (lines_written 1) []) ∷ []

abbrev pub after_second_dataset : State
after_second_dataset = record plain_state { totals = lines_written 1; parts = (codes "b/x", all_done) ∷ [] }

-- what small runs tell
pub record WorkedTexts : Type 0 where
  pub plain : Makes job two_lines [] nothing_yet (fresh (codes "a.log") 0 4 ∷ []) (good (lines_written 2) [] ∷ [])
      plain_state
      (codes "job j1 policy full\nunit a.log 0 4 committed records 2 bad 0 rows 2 unrouted 0\n"
      ++ codes "branch 0 written 2 errors 0 optional 0\nmark a.log 4 4\ntotal records 2 bad 0 rows 2 unrouted 0\n"
      ++ codes "total branch 0 written 2 errors 0 optional 0\nruns 1\nstatus 0\n")
  pub nothing_held : Makes job [] [] nothing_yet [] [] nothing_yet
      (codes "job j1 policy full\ntotal records 0 bad 0 rows 0 unrouted 0\n"
      ++ codes "total branch 0 written 0 errors 0 optional 0\nruns 0\nstatus 0\n")
  pub twice : Makes job two_lines [] plain_state [] [] plain_state
      (codes "job j1 policy full\nmark a.log 4 4\ntotal records 2 bad 0 rows 2 unrouted 0\n"
      ++ codes "total branch 0 written 2 errors 0 optional 0\nruns 1\nstatus 0\n")
  pub one_fails : Makes killing_job with_a_kill [] nothing_yet line_units one_killed after_a_kill
      (codes "job j12 policy successful\nunit a.log 0 2 committed records 1 bad 0 rows 1 unrouted 0\n"
      ++ codes "branch 0 written 1 errors 0 optional 0\nunit a.log 2 4 failed kill 0 0 2\n"
      ++ codes "unit a.log 4 6 committed records 1 bad 0 rows 1 unrouted 0\n"
      ++ codes "branch 0 written 1 errors 0 optional 0\nmark a.log 2 6\ntotal records 2 bad 0 rows 2 unrouted 0\n"
      ++ codes "total branch 0 written 2 errors 0 optional 0\nruns 1\nstatus 1\n")
  pub one_holds_all_back : Makes (record killing_job { policy = Full }) with_a_kill [] nothing_yet line_units
      one_killed nothing_yet
      (codes "job j12 policy full\nunit a.log 0 2 held records 1 bad 0 rows 1 unrouted 0\n"
      ++ codes "branch 0 written 1 errors 0 optional 0\nunit a.log 2 4 failed kill 0 0 2\n"
      ++ codes "unit a.log 4 6 held records 1 bad 0 rows 1 unrouted 0\nbranch 0 written 1 errors 0 optional 0\n"
      ++ codes "total records 0 bad 0 rows 0 unrouted 0\ntotal branch 0 written 0 errors 0 optional 0\nruns 0\n"
      ++ codes "status 1\n")
  pub one_is_gone : Makes killing_job [] [] after_a_kill (record killed_unit { listed = false } ∷ []) (failed Gone ∷ [])
      after_a_kill
      (codes "job j12 policy successful\nunit a.log 2 4 failed gone\nmark a.log 2 6\n"
      ++ codes "total records 2 bad 0 rows 2 unrouted 0\ntotal branch 0 written 2 errors 0 optional 0\nruns 1\n"
      ++ codes "status 1\n")
  pub two_partitions : Makes job one_line_each [] nothing_yet one_each
      (good (lines_written 1) [] ∷ good (lines_written 1) [] ∷ []) after_both
      (codes "job j1 policy full\nunit a 0 2 committed records 1 bad 0 rows 1 unrouted 0\n"
      ++ codes "branch 0 written 1 errors 0 optional 0\nunit b 0 2 committed records 1 bad 0 rows 1 unrouted 0\n"
      ++ codes "branch 0 written 1 errors 0 optional 0\nmark a 2 2\nmark b 2 2\n"
      ++ codes "total records 2 bad 0 rows 2 unrouted 0\ntotal branch 0 written 2 errors 0 optional 0\nruns 1\n"
      ++ codes "status 0\n")
  pub pulls_fail : Makes retrying_job one_line_each (0 ∷ 1 ∷ []) nothing_yet one_each
      (failed Fault ∷ good (lines_written 1) [] ∷ []) after_b_alone
      (codes "job j17 policy successful\nunit a 0 2 failed fault\n"
      ++ codes "unit b 0 2 committed records 1 bad 0 rows 1 unrouted 0\nbranch 0 written 1 errors 0 optional 0\n"
      ++ codes "mark a 0 2\nmark b 2 2\ntotal records 1 bad 0 rows 1 unrouted 0\n"
      ++ codes "total branch 0 written 1 errors 0 optional 0\nruns 1\nstatus 1\n")
  pub one_pull_fails : Makes retrying_job one_line_each (0 ∷ []) nothing_yet one_each
      (good (lines_written 1) [] ∷ good (lines_written 1) [] ∷ []) after_both
      (codes "job j17 policy successful\nunit a 0 2 committed records 1 bad 0 rows 1 unrouted 0\n"
      ++ codes "branch 0 written 1 errors 0 optional 0\nunit b 0 2 committed records 1 bad 0 rows 1 unrouted 0\n"
      ++ codes "branch 0 written 1 errors 0 optional 0\nmark a 2 2\nmark b 2 2\n"
      ++ codes "total records 2 bad 0 rows 2 unrouted 0\ntotal branch 0 written 2 errors 0 optional 0\nruns 1\n"
      ++ codes "status 0\n")
  pub name_too_long : Makes job ((long_name, codes "x\n") ∷ []) [] nothing_yet [] [] nothing_yet
      (codes "job j1 policy full\ntoo-long " ++ long_name ++ codes
      "\ntotal records 0 bad 0 rows 0 unrouted 0\ntotal branch 0 written 0 errors 0 optional 0\nruns 0\nstatus 0\n")
  pub one_dataset : told_text two_datasets [] both_datasets after_second_dataset
      ≡ codes "job j16 policy full\nunit a%2Fx 0 2 failed kill 0 0 0\n"
      ++ codes "unit b%2Fx 0 2 committed records 1 bad 0 rows 1 unrouted 0\n"
      ++ codes "branch 0 written 1 errors 0 optional 0\nmark b%2Fx 2 2\ntotal records 1 bad 0 rows 1 unrouted 0\n"
      ++ codes "total branch 0 written 1 errors 0 optional 0\nruns 1\nstatus 1\n"

-- ---- commands

-- a state of two pipelines, each of which made one range
abbrev pub two_ranges : Marks
two_ranges = record {
  next = 6;
  finished = range_done 0 4 ∷ record { span = span 4 6; pipeline = 1 } ∷ [];
  owed = [];
}

abbrev pub two_pipelines : State
two_pipelines = record {
  run = 2;
  pipelines = plain_pipeline ∷ codes "writer.format.0=json\n" ∷ [];
  totals = lines_written 3;
  parts = (codes "a.log", two_ranges) ∷ [];
}

-- a column of a kind
abbrev pub byte_column : List ℕ → Kind → Column
byte_column name kind = record { name = name; kind = kind }

-- errors go to csv with two of the columns, all else to json
abbrev pub two_outputs : Plan
two_outputs = record plain_plan {
  format = format.Json;
  columns = byte_column (codes "ip") kind.Text ∷ byte_column (codes "path") kind.Text ∷ byte_column
      (codes "status") kind.Int ∷ [];
  branches =
      record {
        steps = step.Keep (codes "status" ∷ codes "path" ∷ []) ∷ [];
        policies = [];
        format = format.Csv;
        place =
            place.Plain;
      }
      ∷ record { steps = []; policies = []; format = format.Json; place = place.Plain } ∷ [];
}

pub record WorkedCommands : Type 0 where
  pub one_killed : state_report (codes "j12") (Some (record after_a_kill { pipelines = plain_pipeline ∷ [] }))
      ≡ codes "job j12\nmark a.log 2 6\nopen a.log 2 4\npipeline 0 ranges 2\n"
      ++ codes "total records 2 bad 0 rows 2 unrouted 0\ntotal branch 0 written 2 errors 0 optional 0\nruns 1\n"
      ++ codes "status 0\n"
  pub another_pipeline : state_report (codes "j1") (Some two_pipelines)
      ≡ codes "job j1\nmark a.log 6 6\npipeline 0 ranges 1\npipeline 1 ranges 1\n"
      ++ codes "total records 3 bad 0 rows 3 unrouted 0\ntotal branch 0 written 3 errors 0 optional 0\nruns 2\n"
      ++ codes "status 0\n"
  pub no_state : state_report (codes "j1") None
      ≡ codes "job j1\ntotal records 0 bad 0 rows 0 unrouted 0\nruns 0\nstatus 0\n"
  pub was_open : recovery_report (codes "j1") true ≡ codes "recovered j1 sequence open\nstatus 0\n"
  pub was_closed : recovery_report (codes "j1") false ≡ codes "recovered j1 sequence none\nstatus 0\n"
  pub checked : check_report (codes "clicks") two_outputs (codes "data.publisher.final.dir" ∷ codes "a b" ∷ [] ∷ [])
      ≡ codes "job clicks ok\nbranch 0 csv status:int,path:text\nbranch 1 json ip:text,path:text,status:int\n"
      ++ codes "unknown data.publisher.final.dir\nunknown a%20b\nunknown \nstatus 0\n"
  pub checked_bool : columns_word (byte_column (codes "b") kind.Bool ∷ []) ≡ codes "b:bool"
  pub checked_lines : check_report (codes "j1") plain_plan [] ≡ codes "job j1 ok\nbranch 0 lines line:text\nstatus 0\n"

-- a refusal and its text
abbrev pub RefusalIs : Refusal × List ℕ → Type 0
RefusalIs e = refusal_text e.0 ≡ e.1

pub record WorkedRefusals : Type 0 where
  pub words : RefusalIs
      (usage, codes "usage: run JOB, recover JOB, report JOB, check JOB, drill N, drill N stops\nstatus 2\n")
  pub absent : RefusalIs (no_job, codes "refused no-job\nstatus 3\n")
  pub no_text : RefusalIs (not_utf8, codes "refused not-utf8\nstatus 3\n")
  pub escape : RefusalIs (bad_escape 2, codes "refused bad-escape 2\nstatus 3\n")
  pub no_key : RefusalIs (missing (codes "source.format"), codes "refused missing source.format\nstatus 3\n")
  pub value : RefusalIs (bad_value (codes "task.slots"), codes "refused bad-value task.slots\nstatus 3\n")
  pub count : RefusalIs (
    bad_policy_count (codes "qualitychecker.row.policy.types"),
    codes "refused bad-policy-count qualitychecker.row.policy.types\nstatus 3\n",
  )
  pub column_absent : RefusalIs (
    no_column (codes "converter.classes") (codes "a"),
    codes "refused no-column converter.classes a\nstatus 3\n",
  )
  pub column_kind : RefusalIs (
    bad_kind (codes "writer.format") (codes "id"),
    codes "refused bad-kind writer.format id\nstatus 3\n",
  )
  pub dollar : RefusalIs (
    interpolation (codes "writer.format"),
    codes "refused interpolation writer.format\nstatus 3\n",
  )
  pub file : RefusalIs (damaged (codes "j1/state"), codes "refused damaged j1/state\nstatus 4\n")
  pub shorter : RefusalIs (shrunk (codes "a b") 4 2, codes "refused shrunk a%20b 4 2\nstatus 4\n")
  pub source : RefusalIs (source_fault, codes "refused source-fault\nstatus 5\n")
  pub volume : RefusalIs (volume_fault, codes "refused volume-fault\nstatus 6\n")
  pub no_memory : RefusalIs (memory, codes "refused memory\nstatus 8\n")
  pub too_many : RefusalIs (full 200001 3, codes "refused full 200001 3\nstatus 9\n")
