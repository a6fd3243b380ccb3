-- Two worked runs over a partition of which the second line is half there at first. The second run is stopped between
-- the
-- two moves of its commit, and a call that settles comes after it.
use Rattle.std.specs.Prelude.{◌≡◌, ℕ, List, [], ◌∷◌, ◌++◌, take, codes}
use Rattle.std.specs.declared.option.Option.TheVariants.{None, Some}
use Rattle.gob_device.specs.Disk.{Files, clean, no_files, put}
use Rattle.gob_device.specs.Supply.{Held}
use Rattle.gob_ledger.specs.Delta.{delta_spelling}
use Rattle.gob_ledger.specs.Examples.{job, one_line, two_done}
use Rattle.gob_ledger.specs.Spelling.{version_2, state_spelling}
use Rattle.gob_recovery.specs.Sequence.{CommitStep, move, sequence_text}
use Rattle.gob_recovery.specs.Settle.{do_steps, without_staging, Settles}
use Rattle.gob_history.specs.Laws.{RecoverAlong}
use Rattle.gob_history.specs.Rounds.{History, Round}
use Rattle.gob_history.specs.Runs.{states_of_run}

abbrev pub half_there : Held
half_there = (codes "a.log", codes "x\nyy") ∷ []

abbrev pub all_there : Held
all_there = (codes "a.log", codes "x\nyy\n") ∷ []

abbrev pub first_file : List ℕ
first_file = codes "out/0/a.log@00000000000000000000-00000000000000000002.txt"

abbrev pub second_file : List ℕ
second_file = codes "out/0/a.log@00000000000000000002-00000000000000000005.txt"

abbrev pub change_name : List ℕ
change_name = codes "j1/delta/00000000000000000002"

-- a run staged its one file, and the text that tells its state
abbrev pub files_with_staged : Files → List ℕ → List ℕ → List ℕ → Files
files_with_staged m file content text = put (put m (codes "j1/stage/0-0/" ++ file) (Some (clean content)))
    (codes "j1/stage/state") (Some (clean text))

-- both get their lasting names
abbrev pub steps_to : List ℕ → List ℕ → List CommitStep
steps_to file target = move (codes "j1/stage/0-0/" ++ file) (codes "j1/" ++ file)
    ∷ move (codes "j1/stage/state") target ∷ []

abbrev pub first_staged : Files
first_staged = files_with_staged no_files first_file (codes "x\n") (state_spelling version_2 one_line)

abbrev pub first_steps : List CommitStep
first_steps = steps_to first_file (codes "j1/state")

-- the sequence of the first run is open
abbrev pub first_open : Files
first_open = put first_staged (codes "j1/seq") (Some (clean (sequence_text first_steps)))

-- the first run has ended
unfoldable pub first_left : Files
first_left = without_staging (codes "j1") (do_steps first_steps first_staged)

abbrev pub second_staged : Files
second_staged = files_with_staged first_left second_file (codes "yy\n") (delta_spelling version_2 one_line two_done)

abbrev pub second_steps : List CommitStep
second_steps = steps_to second_file change_name

-- the sequence of the second run is open
abbrev pub second_open : Files
second_open = put second_staged (codes "j1/seq") (Some (clean (sequence_text second_steps)))

-- the second run was stopped behind its first move
unfoldable pub second_stopped : Files
second_stopped = do_steps (take 1 second_steps) second_open

-- the call that settles has ended
unfoldable pub second_left : Files
second_left = without_staging (codes "j1") (do_steps second_steps second_staged)

-- the partition and the files over time, latest first
abbrev pub over_time : List (Held × Files)
over_time = (all_there, second_left) ∷ (all_there, second_stopped) ∷ (half_there, first_left)
    ∷ (half_there, no_files) ∷ []

-- the first move is done, and the second one isn't
pub record StopsHalfWay : Type 0 where
  pub moved : second_stopped (codes "j1/" ++ second_file) ≡ Some (clean (codes "yy\n"))
  pub gone : second_stopped (codes "j1/stage/0-0/" ++ second_file) ≡ None
  pub waiting : second_stopped (codes "j1/stage/state") ≡ Some (clean (delta_spelling version_2 one_line two_done))
  pub unmoved : second_stopped change_name ≡ None

-- each line has its file, the state's file is that of the first run, and a change stands beside it
pub record LeavesHalfLine : Type 0 where
  pub first : second_left (codes "j1/" ++ first_file) ≡ Some (clean (codes "x\n"))
  pub second : second_left (codes "j1/" ++ second_file) ≡ Some (clean (codes "yy\n"))
  pub state : second_left (codes "j1/state") ≡ Some (clean (state_spelling version_2 one_line))
  pub change : second_left change_name ≡ Some (clean (codes "gobblin-delta 2\nrun 2\npipelines 0\n"
      ++ codes "totals 2 0 2 0\nbranch 0 2 0 0\npartition a.log 5\ndone 2 5 0\nend\n"))

-- the maps are a history, and those from the open sequence on stand for the second state
pub record HalfLineHistory : Type 0 where
  pub first_run : states_of_run job half_there [] None ≡ None ∷ Some one_line ∷ []
  pub second_run : states_of_run job all_there [] (Some one_line) ≡ Some one_line ∷ Some two_done ∷ []
  pub stopped : StopsHalfWay
  pub left : LeavesHalfLine
  pub settles : Settles (codes "j1") second_stopped second_left
  pub history : History (Round (codes "j1")) (codes "j1") over_time
  pub recovers : RecoverAlong (codes "j1") over_time (Some two_done ∷ Some two_done ∷ Some one_line ∷ None ∷ [])
