-- The tables of turns, computed.
use Rattle.std.proofs.Common.{refl}
use Rattle.gob_bytes.specs.Lines.{lines_from}
use Rattle.gob_device.specs.Supply.{bytes_from}
use Rattle.gob_plan.specs.Tests.{test_holds}
use Rattle.gob_meaning.specs.Fold.{unit_fold, stop_of}
use Rattle.gob_meaning.specs.Fork.{picks, place_of}
use Rattle.gob_meaning.specs.Formats.{line_rows, record_of}
use Rattle.gob_meaning.specs.Items.{made_in_branch, line_made}
use Rattle.gob_meaning.specs.Policies.{ruling}
use Rattle.std.specs.Str.{is_utf8, chars}
use Rattle.gob_ledger.specs.Turns.{own_pulls, turns_of}
use Rattle.gob_ledger.specs.WorkedTurns.{WorkedSchedule, WorkedTurn, WorkedTurnLists, WorkedTurns}

of_schedule : WorkedSchedule
of_schedule = record {
  two_active = refl;
  all_active = refl;
  one_left = refl;
  none_left = refl;
  places =
      refl;
  places_of_two = refl;
}

of_turn : WorkedTurn
of_turn = record {
  pieces = refl;
  whole_pieces = refl;
  no_piece = refl;
  stopped = refl;
  piece_counts = refl;
  after_pulls = refl;
  after_failures = refl;
  failing_turns = refl;
  pulling_turn = refl;
  first_pulls = refl;
  replaced = refl;
  members = refl;
}

of_lists : WorkedTurnLists
unfolding is_utf8 chars lib.Utf8.encode lines_from bytes_from test_holds unit_fold stop_of picks place_of line_rows
    record_of made_in_branch line_made ruling own_pulls turns_of
of_lists = record {
  with_a_failure = refl;
  given_up = refl;
  who_gave_up = refl;
  failures = refl;
  attempts = refl;
  last_ones = refl;
  left = refl;
  left_of_failing = refl;
  unlisted = refl;
  faults = refl;
}

pub worked : WorkedTurns
worked = record { of_schedule = of_schedule; of_turn = of_turn; of_lists = of_lists }
