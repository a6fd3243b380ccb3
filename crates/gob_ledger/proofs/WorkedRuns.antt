-- The worked runs, computed.
use Rattle.std.proofs.Common.{refl}
use Rattle.gob_bytes.specs.Escapes.{escape_of}
use Rattle.gob_bytes.specs.Lines.{lines_from}
use Rattle.gob_device.specs.Supply.{bytes_from}
use Rattle.gob_plan.specs.Tests.{test_holds}
use Rattle.gob_meaning.specs.Fold.{unit_fold, counts_of, stop_of}
use Rattle.gob_meaning.specs.Fork.{picks, place_of}
use Rattle.gob_meaning.specs.Formats.{line_rows, record_of}
use Rattle.gob_meaning.specs.Items.{made_in_branch, line_made}
use Rattle.gob_meaning.specs.Policies.{ruling}
use Rattle.gob_meaning.specs.Results.{warnings_of, verdict_of}
use Rattle.gob_meaning.specs.Sums.{sum_of}
use Rattle.std.specs.Str.{is_utf8, chars}
use Rattle.gob_ledger.specs.Units.{units_of_parts}
use Rattle.gob_ledger.specs.Next.{next_state}
use Rattle.gob_ledger.specs.Turns.{own_pulls, turns_of, verdicts_of}
use Rattle.gob_ledger.specs.WorkedRuns.{WorkedRuns}

pub worked : WorkedRuns
unfolding is_utf8 chars lib.Utf8.encode escape_of lines_from bytes_from test_holds unit_fold counts_of stop_of picks
    place_of line_rows record_of made_in_branch line_made ruling warnings_of verdict_of sum_of units_of_parts next_state
    own_pulls turns_of verdicts_of
worked = record {
  plain = record { its_units = refl; its_pulls = refl; its_verdicts = refl; its_state = refl };
  nothing_held = record { its_units = refl; its_pulls = refl; its_verdicts = refl; its_state = refl };
  twice = record { its_units = refl; its_pulls = refl; its_verdicts = refl; its_state = refl };
  half_line_waits = record { its_units = refl; its_pulls = refl; its_verdicts = refl; its_state = refl };
  line_completed_later = record { its_units = refl; its_pulls = refl; its_verdicts = refl; its_state = refl };
  long_line_is_a_unit = record { its_units = refl; its_pulls = refl; its_verdicts = refl; its_state = refl };
  killed_unit_stays_owed = record { its_units = refl; its_pulls = refl; its_verdicts = refl; its_state = refl };
  killed_unit_is_tried_again = record { its_units = refl; its_pulls = refl; its_verdicts = refl; its_state = refl };
  full_holds_all_back = record { its_units = refl; its_pulls = refl; its_verdicts = refl; its_state = refl };
  gone_from_the_listing = record { its_units = refl; its_pulls = refl; its_verdicts = refl; its_state = refl };
  kill_ends_the_pulls = record { its_units = refl; its_pulls = refl; its_verdicts = refl; its_state = refl };
  turns_by_the_schedule = record { its_units = refl; its_pulls = refl; its_verdicts = refl; its_state = refl };
  failed_turn_begins_anew = record { its_units = refl; its_pulls = refl; its_verdicts = refl; its_state = refl };
  fails_too_often = record { its_units = refl; its_pulls = refl; its_verdicts = refl; its_state = refl };
  one_failure_is_made_up = record { its_units = refl; its_pulls = refl; its_verdicts = refl; its_state = refl };
  fails_at_once = record { its_units = refl; its_pulls = refl; its_verdicts = refl; its_state = refl };
  units_come_in_rounds = record { its_units = refl; its_pulls = refl; its_verdicts = refl; its_state = refl };
  rest_waits = record { its_units = refl; its_pulls = refl; its_verdicts = refl; its_state = refl };
  other_pipeline = record { its_units = refl; its_pulls = refl; its_verdicts = refl; its_state = refl };
  same_pipeline = record { its_units = refl; its_pulls = refl; its_verdicts = refl; its_state = refl };
}
