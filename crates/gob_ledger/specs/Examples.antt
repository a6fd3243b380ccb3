-- Samples of jobs, partitions and states; and worked examples of what is spelled and published.
use Rattle.std.specs.Prelude.{◌≡◌, ℕ, true, false, List, [], ◌∷◌, ◌++◌, codes}
use Rattle.gob_device.specs.Supply.{Held, Pull}
use Rattle.gob_plan.specs.declared.rows.Value.TheVariants as value
use Rattle.gob_plan.specs.declared.checks.How.TheVariants as how
use Rattle.gob_plan.specs.declared.checks.Check.TheVariants as check
use Rattle.gob_plan.specs.declared.plan.Mode.TheVariants as mode
use Rattle.gob_plan.specs.declared.plan.Format.TheVariants as format
use Rattle.gob_plan.specs.declared.plan.PlaceSpec.TheVariants as place
use Rattle.gob_plan.specs.declared.plan.CommitPolicy.TheVariants.{Successful}
use Rattle.gob_plan.specs.declared.units.Cause.TheVariants.{Gone}
use Rattle.gob_plan.specs.declared.units.Counts.{Counts}
use Rattle.gob_plan.specs.declared.units.Unit.{Unit as WorkUnit}
use Rattle.gob_meaning.specs.Job.{Job, plain_plan, plain_pipeline, plain_job}
use Rattle.gob_meaning.specs.Results.{failed}
use Rattle.gob_ledger.specs.Marks.{Marks, Span, Done}
use Rattle.gob_ledger.specs.State.{State, empty_state}
use Rattle.gob_ledger.specs.Next.{Judged}
use Rattle.gob_ledger.specs.Expected.{IsExpected}
use Rattle.gob_ledger.specs.Spelling.{version_1, version_2, state_spelling}
use Rattle.gob_ledger.specs.Delta.{change_of, delta_spelling, whole_change}
use Rattle.std.specs.declared.option.Option.TheVariants.{None, Some}

-- a range
abbrev pub span : ℕ → ℕ → Span
span lo hi = record { lo = lo; hi = hi }

-- a range that the state's first pipeline made
abbrev pub range_done : ℕ → ℕ → Done
range_done lo hi = record { span = span lo hi; pipeline = 0 }

-- a new unit
abbrev pub fresh : List ℕ → ℕ → ℕ → WorkUnit
fresh part lo hi = record { part = part; lo = lo; hi = hi; fresh = true; listed = true }

-- a pull of a partition
abbrev pub pull : List ℕ → ℕ → ℕ → Pull
pull part at len = record { part = part; at = at; len = len }

-- so many whole lines, written to the one branch
abbrev pub lines_written : ℕ → Counts
lines_written n = record {
  records = n;
  bad = 0;
  rows = n;
  unrouted = 0;
  branches = record { written = n; errors = 0; optional = 0 } ∷ [];
}

-- the state before the first run
abbrev pub nothing_yet : State
nothing_yet = empty_state 1

-- the plain job
abbrev pub job : Job
job = plain_job (codes "j1")

-- the same, with units of about two bytes, three at a time
abbrev pub of_two_bytes : Job
of_two_bytes = record job { limits = record { prefix = []; max_bytes = 2; max_new_units = 3 } }

-- a partition of two lines
abbrev pub two_lines : Held
two_lines = (codes "a.log", codes "x\ny\n") ∷ []

-- two partitions of three lines
abbrev pub three_lines_twice : Held
three_lines_twice = (codes "a", codes "1\n2\n3\n") ∷ (codes "b", codes "1\n2\n3\n") ∷ []

-- the line K kills its unit; each line is a unit, and the good ones are committed
abbrev pub killing : Job
killing = record of_two_bytes {
  plan = record plain_plan {
    branches = record {
      steps = [];
      policies = record {
        test = record {
          negated = true;
          column = codes "line";
          check = check.Compare how.Eq
              (value.Text (codes "K"));
        };
        mode = mode.Fail;
      } ∷ [];
      format = format.Lines;
      place = place.Plain;
    } ∷ [];
  };
  policy = Successful;
}

-- three lines, the second of which is K
abbrev pub with_a_kill : Held
with_a_kill = (codes "a.log", codes "a\nK\nb\n") ∷ []

-- two lines are done, and the one between them is owed
abbrev pub kill_marks : Marks
kill_marks = record { next = 6; finished = range_done 0 2 ∷ range_done 4 6 ∷ []; owed = span 2 4 ∷ [] }

-- the state after a run over these
abbrev pub after_a_kill : State
after_a_kill = record {
  run = 1;
  pipelines = plain_pipeline ∷ [];
  totals = lines_written 2;
  parts = (codes "a.log", kill_marks) ∷ [];
}

-- the unit that is owed
abbrev pub killed_unit : WorkUnit
killed_unit = record { part = codes "a.log"; lo = 2; hi = 4; fresh = false; listed = true }

-- two partitions of four lines
abbrev pub four_lines_each : Held
four_lines_each = (codes "a", codes "1\n2\n3\n4\n") ∷ (codes "b", codes "5\n6\n7\n8\n") ∷ []

-- two units take turns, three bytes each time
abbrev pub in_turns : Job
in_turns = record job { turns = record { slots = 2; piece = 3; schedule = 1 ∷ 0 ∷ [] } }

-- two partitions of a line
abbrev pub one_line_each : Held
one_line_each = (codes "a", codes "x\n") ∷ (codes "b", codes "x\n") ∷ []

-- a unit may fail once, and the good ones are committed
abbrev pub one_retry : Job
one_retry = record job { max_retries = 1; policy = Successful }

-- the state after a run over two lines
abbrev pub plain_state : State
plain_state = record {
  run = 1;
  pipelines = plain_pipeline ∷ [];
  totals = lines_written 2;
  parts = (codes "a.log", record { next = 4; finished = range_done 0 4 ∷ []; owed = [] }) ∷ [];
}

-- the state after a run over one line
abbrev pub one_line : State
one_line = record plain_state {
  totals = lines_written 1;
  parts = (codes "a.log", record { next = 2; finished = range_done 0 2 ∷ []; owed = [] }) ∷ [];
}

-- the state after a second run over one more
abbrev pub two_done : State
two_done = record plain_state {
  run = 2;
  parts = (codes "a.log", record { next = 5; finished = range_done 0 2 ∷ range_done 2 5 ∷ []; owed = [] }) ∷ [];
}

-- a new unit of this partition, which fails
abbrev pub of_part : List ℕ → Judged
of_part part = (fresh part 0 2, failed Gone)

-- how states and changes are spelled, and what is published
pub record WorkedExamples : Type 0 where
  pub second_version : state_spelling version_2 (record after_a_kill { pipelines = [] ∷ [] })
      ≡ codes "gobblin-state 2\nrun 1\npipelines 1\npipeline 0\n"
      ++ codes "totals 2 0 2 0\nbranch 0 2 0 0\npartition a.log 6\ndone 0 2 0\nopen 2 4\ndone 4 6 0\nend\n"
  pub change_file : delta_spelling version_1 one_line two_done
      ≡ codes "gobblin-delta 1\nrun 2\ntotals 2 0 2 0\nbranch 0 2 0 0\npartition a.log 5\ndone 2 5\nend\n"
  pub change_with_a_pipeline : delta_spelling version_2 one_line
      (record two_done { pipelines = plain_pipeline ∷ codes "writer.format.0=json\n" ∷ [] })
      ≡ codes "gobblin-delta 2\nrun 2\npipelines 1\npipeline 1\nwriter.format.0=json\n"
      ++ codes "totals 2 0 2 0\nbranch 0 2 0 0\npartition a.log 5\ndone 2 5 0\nend\n"
  pub state_file : state_spelling version_1 plain_state
      ≡ codes "gobblin-state 1\nrun 1\npipeline 12\n" ++ plain_pipeline
      ++ codes "totals 2 0 2 0\nbranch 0 2 0 0\npartition a.log 4\ndone 0 4\nend\n"
  pub open_lines_among_done : state_spelling version_1 (record after_a_kill { pipelines = [] ∷ [] })
      ≡ codes "gobblin-state 1\nrun 1\npipeline 0\n"
      ++ codes "totals 2 0 2 0\nbranch 0 2 0 0\npartition a.log 6\ndone 0 2\nopen 2 4\ndone 4 6\nend\n"
  pub first_commit_stores_a_whole_state : change_of (codes "j1") None 0 2 plain_state
      ≡ whole_change (codes "j1") [] plain_state
  pub second_commit_stores_a_change : change_of (codes "j1") (Some one_line) 0 2 two_done
      ≡ record {
        target = codes "j1/delta/00000000000000000002";
        text = delta_spelling version_2 one_line two_done;
        removes = [];
        changes = 1;
      }
  pub first_version_is_left : change_of (codes "j1") (Some (record one_line { run = 2 })) 1 1
      (record two_done { run = 3 })
      ≡ whole_change (codes "j1") (codes "j1/delta/00000000000000000002" ∷ []) (record two_done { run = 3 })
  pub last_number_is_whole : change_of (codes "j1") (Some one_line) 0 2
      (record two_done { run = 18446744073709551615 })
      ≡ whole_change (codes "j1") [] (record two_done { run = 18446744073709551615 })
  pub published_file : IsExpected (codes "j1") plain_state two_lines
      (codes "j1/out/0/a.log@00000000000000000000-00000000000000000004.txt") (codes "x\ny\n")
