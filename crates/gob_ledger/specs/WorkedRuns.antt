-- Worked runs: units, pulls, verdicts and the state after, of small partitions.
use Rattle.std.specs.Prelude.{◌≡◌, ℕ, false, List, [], ◌∷◌, map, codes}
use Rattle.gob_device.specs.Supply.{Held, Pull}
use Rattle.gob_plan.specs.declared.plan.CommitPolicy.TheVariants.{Full}
use Rattle.gob_plan.specs.declared.units.Cause.TheVariants.{Kill, Gone, Fault}
use Rattle.gob_plan.specs.declared.units.Unit.{Unit as WorkUnit}
use Rattle.gob_meaning.specs.Job.{Job, plain_pipeline}
use Rattle.gob_meaning.specs.Results.{Verdict, good, failed}
use Rattle.gob_ledger.specs.Marks.{Done, Marks}
use Rattle.gob_ledger.specs.State.{State}
use Rattle.gob_ledger.specs.Units.{units_of}
use Rattle.gob_ledger.specs.Next.{next_state}
use Rattle.gob_ledger.specs.Turns.{pulls_in, turns_of, verdicts_of}
use Rattle.gob_ledger.specs.Examples.{after_a_kill, range_done, four_lines_each, fresh, in_turns, job, killed_unit}
use Rattle.gob_ledger.specs.Examples.{killing}
use Rattle.gob_ledger.specs.Examples.{lines_written, nothing_yet, of_two_bytes, one_line, one_line_each, one_retry}
use Rattle.gob_ledger.specs.Examples.{plain_state, pull, span, three_lines_twice, two_done, two_lines, with_a_kill}

-- a run over these partitions, from this state, where the turns with these numbers fail, makes these
pub record IsRun (job : Job) (held : Held) (failing : List ℕ) (before : State) (units : List WorkUnit)
    (pulls : List Pull) (verdicts : List Verdict) (after : State) : Type 0 where
  pub its_units : units_of before held job.limits ≡ units
  pub its_pulls : pulls_in (turns_of job held units failing) ≡ pulls
  pub its_verdicts : verdicts_of job held units failing ≡ verdicts
  pub its_state : next_state before job.pipeline units verdicts job.policy ≡ after

-- a unit that made so many whole lines
abbrev pub good_lines : ℕ → Verdict
good_lines n = good (lines_written n) []

-- one partition's bytes
abbrev pub only : List ℕ → List ℕ → Held
only part bytes = (part, bytes) ∷ []

-- the two marks of partitions a and b
abbrev pub of_both : Marks → Marks → State
of_both a b = record plain_state { parts = (codes "a", a) ∷ (codes "b", b) ∷ [] }

-- so many bytes are taken, in these done ranges and in these owed ones
abbrev pub taken_marks : ℕ → List Done → List (ℕ × ℕ) → Marks
taken_marks next finished owed = record { next = next; finished = finished; owed = map (λ e. span e.0 e.1) owed }

-- a long line among short ones
abbrev pub long_line : Held
long_line = only (codes "a.log") (codes "ab\nabcdefgh\nz\n")

-- units of about four bytes
abbrev pub of_four_bytes : Job
of_four_bytes = record job { limits = record { prefix = []; max_bytes = 4; max_new_units = 9 } }

-- three lines
abbrev pub three_lines : Held
three_lines = only (codes "a.log") (codes "x\ny\nz\n")

-- a unit that may not be tried again
abbrev pub no_retry : Job
no_retry = record killing { max_retries = 0 }

-- one unit of several lines, which the line K kills, pulled in pieces of two bytes
abbrev pub killed_in_pieces : Job
killed_in_pieces = record killing {
  limits = job.limits;
  turns = record { slots = 1; piece = 2; schedule = 0 ∷ [] };
}

-- three short lines, each a unit
abbrev pub three_units : List WorkUnit
three_units = fresh (codes "a.log") 0 2 ∷ fresh (codes "a.log") 2 4 ∷ fresh (codes "a.log") 4 6 ∷ []

-- the pulls of these
abbrev pub three_pulls : List Pull
three_pulls = pull (codes "a.log") 0 2 ∷ pull (codes "a.log") 2 2 ∷ pull (codes "a.log") 4 2 ∷ []

-- the one short line of each of two partitions
abbrev pub two_units : List WorkUnit
two_units = fresh (codes "a") 0 2 ∷ fresh (codes "b") 0 2 ∷ []

-- the four short lines of each of two partitions
abbrev pub eight_lines : List WorkUnit
eight_lines = fresh (codes "a") 0 8 ∷ fresh (codes "b") 0 8 ∷ []

-- all eight lines are done
abbrev pub eight_done : State
eight_done = record (of_both (taken_marks 8 (range_done 0 8 ∷ []) []) (taken_marks 8 (range_done 0 8 ∷ []) []))
    { totals = lines_written 8 }

-- the first three units of two partitions, a line each
abbrev pub first_round : List WorkUnit
first_round = fresh (codes "a") 0 2 ∷ fresh (codes "b") 0 2 ∷ fresh (codes "a") 2 4 ∷ []

-- the state after them
abbrev pub after_first_round : State
after_first_round =
    let marks = of_both (taken_marks 4 (range_done 0 2 ∷ range_done 2 4 ∷ []) [])
    (taken_marks 2 (range_done 0 2 ∷ []) []) in
    record marks { totals = lines_written 3 }

-- the state after the three that were left
abbrev pub after_both_rounds : State
after_both_rounds = record (of_both all all) { run = 2; totals = lines_written 6 }
  where
    all : Marks
    all = taken_marks 6 (range_done 0 2 ∷ range_done 2 4 ∷ range_done 4 6 ∷ []) []

-- another pipeline
abbrev pub json_pipeline : List ℕ
json_pipeline = codes "writer.format.0=json\n"

-- the third line of three is done, by this pipeline
abbrev pub third_by : ℕ → List (List ℕ) → State
third_by index pipelines = record plain_state {
  run = 2;
  pipelines = pipelines;
  totals = lines_written 3;
  parts = (codes "a.log", taken_marks 6 (range_done 0 4 ∷ record { span = span 4 6; pipeline = index } ∷ []) []) ∷ [];
}

-- the runs
pub record WorkedRuns : Type 0 where
  pub plain : IsRun job two_lines [] nothing_yet (fresh (codes "a.log") 0 4 ∷ []) (pull (codes "a.log") 0 4 ∷ [])
      (good_lines 2 ∷ []) plain_state
  pub nothing_held : IsRun job [] [] nothing_yet [] [] [] nothing_yet
  pub twice : IsRun job two_lines [] plain_state [] [] [] plain_state
  pub half_line_waits : IsRun job (only (codes "a.log") (codes "x\nyy")) [] nothing_yet
      (fresh (codes "a.log") 0 2 ∷ []) (pull (codes "a.log") 0 2 ∷ []) (good_lines 1 ∷ []) one_line
  pub line_completed_later : IsRun job (only (codes "a.log") (codes "x\nyy\n")) [] one_line
      (fresh (codes "a.log") 2 5 ∷ []) (pull (codes "a.log") 2 3 ∷ []) (good_lines 1 ∷ []) two_done
  pub long_line_is_a_unit : IsRun of_four_bytes long_line [] nothing_yet
      (fresh (codes "a.log") 0 3 ∷ fresh (codes "a.log") 3 12 ∷ fresh (codes "a.log") 12 14 ∷ [])
      (pull (codes "a.log") 0 3 ∷ pull (codes "a.log") 3 9 ∷ pull (codes "a.log") 12 2 ∷ [])
      (good_lines 1 ∷ good_lines 1 ∷ good_lines 1 ∷ [])
      (record plain_state {
        totals = lines_written 3;
        parts = (codes "a.log", taken_marks 14 (range_done 0 3 ∷ range_done 3 12 ∷ range_done 12 14 ∷ []) []) ∷ [];
      })
  pub killed_unit_stays_owed : IsRun killing with_a_kill [] nothing_yet three_units three_pulls
      (good_lines 1 ∷ failed (Kill 0 0 2) ∷ good_lines 1 ∷ []) after_a_kill
  pub killed_unit_is_tried_again : IsRun killing with_a_kill [] after_a_kill
      (killed_unit ∷ []) (pull (codes "a.log") 2 2 ∷ []) (failed (Kill 0 0 2) ∷ []) after_a_kill
  pub full_holds_all_back : IsRun (record killing { policy = Full }) with_a_kill [] nothing_yet three_units three_pulls
      (good_lines 1 ∷ failed (Kill 0 0 2) ∷ good_lines 1 ∷ []) nothing_yet
  pub gone_from_the_listing : IsRun killing [] [] after_a_kill
      (record killed_unit { listed = false } ∷ []) [] (failed Gone ∷ []) after_a_kill
  pub kill_ends_the_pulls : IsRun killed_in_pieces (only (codes "p") (codes "K\nb\nc\n")) [] nothing_yet
      (fresh (codes "p") 0 6 ∷ []) (pull (codes "p") 0 2 ∷ []) (failed (Kill 0 0 0) ∷ []) nothing_yet
  pub turns_by_the_schedule : IsRun in_turns four_lines_each [] nothing_yet eight_lines
      (pull (codes "b") 0 3 ∷ pull (codes "a") 0 3 ∷ pull (codes "b") 3 3 ∷ pull (codes "a") 3 3
      ∷ pull (codes "b") 6 2 ∷ pull (codes "a") 6 2 ∷ [])
      (good_lines 4 ∷ good_lines 4 ∷ []) eight_done
  pub failed_turn_begins_anew : IsRun in_turns four_lines_each (2 ∷ []) nothing_yet eight_lines
      (pull (codes "b") 0 3 ∷ pull (codes "a") 0 3 ∷ pull (codes "a") 3 3 ∷ pull (codes "b") 0 3
      ∷ pull (codes "a") 6 2 ∷ pull (codes "b") 3 3 ∷ pull (codes "b") 6 2 ∷ [])
      (good_lines 4 ∷ good_lines 4 ∷ []) eight_done
  pub fails_too_often : IsRun one_retry one_line_each (0 ∷ 1 ∷ []) nothing_yet two_units
      (pull (codes "b") 0 2 ∷ []) (failed Fault ∷ good_lines 1 ∷ [])
      (record (of_both (taken_marks 2 [] ((0, 2) ∷ [])) (taken_marks 2 (range_done 0 2 ∷ []) []))
      { totals = lines_written 1 })
  pub one_failure_is_made_up : IsRun one_retry one_line_each (0 ∷ []) nothing_yet two_units
      (pull (codes "a") 0 2 ∷ pull (codes "b") 0 2 ∷ []) (good_lines 1 ∷ good_lines 1 ∷ [])
      (of_both (taken_marks 2 (range_done 0 2 ∷ []) []) (taken_marks 2 (range_done 0 2 ∷ []) []))
  pub fails_at_once : IsRun no_retry with_a_kill (2 ∷ []) nothing_yet three_units
      (pull (codes "a.log") 0 2 ∷ pull (codes "a.log") 2 2 ∷ [])
      (good_lines 1 ∷ failed (Kill 0 0 2) ∷ failed Fault ∷ [])
      (record plain_state {
        totals = lines_written 1;
        parts = (codes "a.log", taken_marks 6 (range_done 0 2 ∷ []) ((2, 4) ∷ (4, 6) ∷ [])) ∷ [];
      })
  pub units_come_in_rounds : IsRun of_two_bytes three_lines_twice [] nothing_yet first_round
      (pull (codes "a") 0 2 ∷ pull (codes "b") 0 2 ∷ pull (codes "a") 2 2 ∷ [])
      (good_lines 1 ∷ good_lines 1 ∷ good_lines 1 ∷ []) after_first_round
  pub rest_waits : IsRun of_two_bytes three_lines_twice [] after_first_round
      (fresh (codes "a") 4 6 ∷ fresh (codes "b") 2 4 ∷ fresh (codes "b") 4 6 ∷ [])
      (pull (codes "a") 4 2 ∷ pull (codes "b") 2 2 ∷ pull (codes "b") 4 2 ∷ [])
      (good_lines 1 ∷ good_lines 1 ∷ good_lines 1 ∷ []) after_both_rounds
  pub other_pipeline : IsRun (record job { pipeline = json_pipeline }) three_lines [] plain_state
      (fresh (codes "a.log") 4 6 ∷ []) (pull (codes "a.log") 4 2 ∷ []) (good_lines 1 ∷ [])
      (third_by 1 (plain_pipeline ∷ json_pipeline ∷ []))
  pub same_pipeline : IsRun job three_lines [] plain_state
      (fresh (codes "a.log") 4 6 ∷ []) (pull (codes "a.log") 4 2 ∷ []) (good_lines 1 ∷ [])
      (third_by 0 (plain_pipeline ∷ []))
