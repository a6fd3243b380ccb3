-- Worked tables: whose turn it is, what a turn leaves, and what is counted of turns.
use Rattle.std.specs.Prelude.{◌≡◌, ℕ, Bool, true, false, nat_eq, List, [], ◌∷◌, map, take, drop, codes}
use Rattle.std.specs.declared.option.Option.TheVariants.{None, Some}
use Rattle.std.specs.List.{range_with_len}
use Rattle.gob_device.specs.Supply.{Pull}
use Rattle.gob_plan.specs.declared.plan.TurnRules.{TurnRules}
use Rattle.gob_plan.specs.declared.units.Cause.TheVariants.{Kill, BadRecords, Fault, Policy, Gone, Torn}
use Rattle.gob_meaning.specs.Results.{failed}
use Rattle.gob_ledger.specs.Turns.{TakenTurn, Waiting, after_failure, after_pull, first_pull, gave_up, member, one_turn}
use Rattle.gob_ledger.specs.Turns.{place_at, pulls_from, replace_at, turns_of, up_to_first}
use Rattle.gob_ledger.specs.Counted.{ListedUnit, attempt_pulls, failure_count, last_attempt, listed_units}
use Rattle.gob_ledger.specs.Counted.{units_left, whose_turn}
use Rattle.gob_ledger.specs.TurnLaws.{is_fault, piece_count}
use Rattle.gob_ledger.specs.Examples.{four_lines_each, fresh, in_turns, job, one_line_each, one_retry, pull}
use Rattle.gob_ledger.specs.WorkedRuns.{eight_lines, good_lines, two_units}

-- the third, the first and the second of those that are active take turns
abbrev pub by_threes : ℕ → TurnRules
by_threes slots = record { slots = slots; piece = 1; schedule = 2 ∷ 0 ∷ 1 ∷ [] }

-- a turn that pulls
abbrev pub pulls : ℕ → Pull → TakenTurn
pulls unit p = record { unit = unit; pull = Some p; gave_up = false }

-- a turn that fails, and ends its unit or not
abbrev pub fails : ℕ → Bool → TakenTurn
fails unit ends = record { unit = unit; pull = None; gave_up = ends }

-- a pull of three bytes of a partition
abbrev pub three_of : List ℕ → ℕ → Pull
three_of part at = pull part at 3

-- a unit that has failed so often and has these pulls to make, of two in all
abbrev pub waits : ℕ → List Pull → Waiting
waits failures left = record { unit = 5; all = pull [] 0 1 ∷ pull [] 1 1 ∷ []; left = left; failures = failures }

-- the turns of two units of three pieces each, the third of which fails
abbrev pub eight_turns : List TakenTurn
eight_turns =
    pulls 1 (three_of (codes "b") 0) ∷ pulls 0 (three_of (codes "a") 0) ∷ fails 1 false
    ∷ pulls 0 (three_of (codes "a") 3)
    ∷ pulls 1 (three_of (codes "b") 0) ∷ pulls 0 (pull (codes "a") 6 2) ∷ pulls 1 (three_of (codes "b") 3)
    ∷ pulls 1 (pull (codes "b") 6 2) ∷ []

-- the turns of two units, the first of which fails twice
abbrev pub three_turns : List TakenTurn
three_turns = fails 0 false ∷ fails 0 true ∷ pulls 1 (pull (codes "b") 0 2) ∷ []

-- the first few of the turns
abbrev pub front_of : ℕ → List TakenTurn
front_of k = take k eight_turns

-- the two units
abbrev pub two_listed : List ListedUnit
two_listed = listed_units in_turns four_lines_each eight_lines

-- three units that are left
abbrev pub three_left : List ℕ
three_left = 4 ∷ 7 ∷ 9 ∷ []

-- the numbers of these units
abbrev pub unit_numbers : List ListedUnit → List ℕ
unit_numbers us = map (λ u. u.unit) us

-- whose turn it is, by the schedule, among those that are active
pub record WorkedSchedule : Type 0 where
  pub two_active : map (λ k. whose_turn (by_threes 2) k three_left) (range_with_len 0 6)
      ≡ Some 4 ∷ Some 4 ∷ Some 7 ∷ Some 4 ∷ Some 4 ∷ Some 7 ∷ []
  pub all_active : map (λ k. whose_turn (by_threes 9) k three_left) (range_with_len 0 4)
      ≡ Some 9 ∷ Some 4 ∷ Some 7 ∷ Some 9 ∷ []
  pub one_left : map (λ k. whose_turn (by_threes 2) k (drop 2 three_left)) (range_with_len 0 3)
      ≡ Some 9 ∷ Some 9 ∷ Some 9 ∷ []
  pub none_left : map (λ k. whose_turn {A = ℕ} (by_threes 2) k []) (range_with_len 0 3) ≡ None ∷ None ∷ None ∷ []
  pub places : map (λ k. place_at (by_threes 9) k 3) (range_with_len 0 4) ≡ 2 ∷ 0 ∷ 1 ∷ 2 ∷ []
  pub places_of_two : map (λ n. place_at (by_threes 2) 0 n) (1 ∷ 2 ∷ 3 ∷ []) ≡ 0 ∷ 0 ∷ 0 ∷ []

-- what a unit pulls, and what a turn leaves of it
pub record WorkedTurn : Type 0 where
  pub pieces : pulls_from 9 (codes "p") 3 1 9
      ≡ three_of (codes "p") 1 ∷ three_of (codes "p") 4 ∷ pull (codes "p") 7 2 ∷ []
  pub whole_pieces : pulls_from 9 (codes "p") 3 0 6 ≡ three_of (codes "p") 0 ∷ three_of (codes "p") 3 ∷ []
  pub no_piece : pulls_from 9 (codes "p") 3 6 6 ≡ []
  pub stopped : up_to_first (λ p. nat_eq p.at 4) (three_of [] 1 ∷ three_of [] 4 ∷ three_of [] 7 ∷ [])
      ≡ three_of [] 1 ∷ three_of [] 4 ∷ []
  pub piece_counts : map (λ hi. piece_count 3 (fresh [] 0 hi)) (range_with_len 0 8) ≡ 0 ∷ 1 ∷ 1 ∷ 1 ∷ 2 ∷ 2 ∷ 2 ∷ 3 ∷ []
  pub after_pulls : map (after_pull (waits 1 [])) ((pull [] 0 1 ∷ pull [] 1 1 ∷ []) ∷ (pull [] 1 1 ∷ []) ∷ [] ∷ [])
      ≡ (waits 1 (pull [] 1 1 ∷ []) ∷ []) ∷ [] ∷ [] ∷ []
  pub after_failures : map (λ n. after_failure 1 (waits n (pull [] 1 1 ∷ []))) (range_with_len 0 3)
      ≡ (waits 1 (pull [] 0 1 ∷ pull [] 1 1 ∷ []) ∷ []) ∷ [] ∷ [] ∷ []
  pub failing_turns : map (λ n. (one_turn one_retry true (waits n (pull [] 1 1 ∷ []))).0) (range_with_len 0 3)
      ≡ fails 5 false ∷ fails 5 true ∷ fails 5 true ∷ []
  pub pulling_turn : (one_turn one_retry false (waits 0 (pull [] 1 1 ∷ []))).0 ≡ pulls 5 (pull [] 1 1)
  pub first_pulls : map first_pull ((pull [] 1 1 ∷ []) ∷ [] ∷ []) ≡ Some (pull [] 1 1) ∷ None ∷ []
  pub replaced : map (λ i. replace_at i (waits 7 [] ∷ []) (waits 0 [] ∷ waits 1 [] ∷ waits 2 [] ∷ []))
      (range_with_len 0 3)
      ≡ (waits 7 [] ∷ waits 1 [] ∷ waits 2 [] ∷ []) ∷ (waits 0 [] ∷ waits 7 [] ∷ waits 2 [] ∷ [])
      ∷ (waits 0 [] ∷ waits 1 [] ∷ waits 7 [] ∷ []) ∷ []
  pub members : map (λ k. member k (1 ∷ 3 ∷ [])) (range_with_len 0 5) ≡ false ∷ true ∷ false ∷ true ∷ false ∷ []

-- all turns of two runs
pub record WorkedTurnLists : Type 0 where
  pub with_a_failure : turns_of in_turns four_lines_each eight_lines (2 ∷ []) ≡ eight_turns
  pub given_up : turns_of one_retry one_line_each two_units (0 ∷ 1 ∷ []) ≡ three_turns
  pub who_gave_up : map (gave_up three_turns) (range_with_len 0 3) ≡ true ∷ false ∷ false ∷ []
  pub failures : map (λ i. failure_count i three_turns) (range_with_len 0 3) ≡ 2 ∷ 0 ∷ 0 ∷ []
  pub attempts : map (λ k. attempt_pulls 1 (front_of k)) (1 ∷ 2 ∷ 3 ∷ 5 ∷ [])
      ≡ (three_of (codes "b") 0 ∷ []) ∷ (three_of (codes "b") 0 ∷ []) ∷ [] ∷ (three_of (codes "b") 0 ∷ []) ∷ []
  pub last_ones : map (λ k. last_attempt (front_of k)) (2 ∷ 3 ∷ 4 ∷ [])
      ≡ front_of 2 ∷ [] ∷ (pulls 0 (three_of (codes "a") 3) ∷ []) ∷ []
  pub left : map (λ k. unit_numbers (units_left 5 two_listed (front_of k))) (0 ∷ 5 ∷ 6 ∷ 7 ∷ 8 ∷ [])
      ≡ (0 ∷ 1 ∷ []) ∷ (0 ∷ 1 ∷ []) ∷ (1 ∷ []) ∷ (1 ∷ []) ∷ [] ∷ []
  pub left_of_failing : map (λ retries. unit_numbers (units_left retries two_listed (front_of 3))) (0 ∷ 1 ∷ [])
      ≡ (0 ∷ []) ∷ (0 ∷ 1 ∷ []) ∷ []
  pub unlisted : unit_numbers
      (listed_units job [] (fresh [] 0 1 ∷ record (fresh [] 0 1) { listed = false } ∷ fresh [] 1 2 ∷ []))
      ≡ 0 ∷ 2 ∷ []
  pub faults : map is_fault
      (good_lines 1 ∷ failed Fault ∷ failed Gone ∷ failed Torn ∷ failed (Kill 0 0 0) ∷ failed (BadRecords 0)
      ∷ failed (Policy 0) ∷ [])
      ≡ false ∷ true ∷ false ∷ false ∷ false ∷ false ∷ false ∷ []

-- all tables of turns
pub record WorkedTurns : Type 0 where
  pub of_schedule : WorkedSchedule
  pub of_turn : WorkedTurn
  pub of_lists : WorkedTurnLists
