-- The worked examples, computed.
use Rattle.std.proofs.Common.{refl}
use Rattle.std.specs.Fmt.{digits}
use Rattle.percent_encoding.specs.Percent.{percent_encode_byte}
use Rattle.gob_bytes.specs.Escapes.{escape_of}
use Rattle.gob_bytes.specs.Lines.{lines_from}
use Rattle.gob_device.specs.Supply.{bytes_from}
use Rattle.gob_plan.specs.Tests.{test_holds}
use Rattle.gob_meaning.specs.Fold.{unit_fold, sent_to, counts_of, stop_of}
use Rattle.gob_meaning.specs.Fork.{picks}
use Rattle.gob_meaning.specs.Formats.{line_rows, record_of}
use Rattle.gob_meaning.specs.Items.{made_in_branch, line_made}
use Rattle.gob_meaning.specs.Policies.{ruling}
use Rattle.gob_meaning.specs.Steps.{columns_after}
use Rattle.gob_meaning.specs.Results.{warnings_of, verdict_of}
use Rattle.gob_meaning.specs.Sums.{sum_of}
use Rattle.gob_ledger.specs.Units.{units_of_parts}
use Rattle.gob_ledger.specs.Next.{next_state}
use Rattle.gob_ledger.specs.Turns.{own_pulls, turns_of, verdicts_of}
use Rattle.gob_texts.specs.Report.{report_of}
use Rattle.gob_ledger.specs.Groups.{groups_of}
use Rattle.gob_texts.specs.Commands.{check_report, recovery_report, state_report}
use Rattle.gob_texts.specs.Refusals.{refusal_text}
use Rattle.gob_texts.specs.Examples.{WorkedCommands, WorkedRefusals, WorkedTexts}
use Rattle.std.specs.Str.{is_utf8, chars}

pub worked : WorkedTexts
unfolding digits percent_encode_byte is_utf8 chars lib.Utf8.encode escape_of lines_from bytes_from test_holds unit_fold
    sent_to counts_of stop_of picks line_rows record_of made_in_branch line_made ruling warnings_of verdict_of sum_of
    units_of_parts next_state own_pulls turns_of verdicts_of report_of
worked = record {
  plain = record { its_units = refl; its_verdicts = refl; its_state = refl; its_text = refl };
  nothing_held = record { its_units = refl; its_verdicts = refl; its_state = refl; its_text = refl };
  twice = record { its_units = refl; its_verdicts = refl; its_state = refl; its_text = refl };
  one_fails = record { its_units = refl; its_verdicts = refl; its_state = refl; its_text = refl };
  one_holds_all_back = record { its_units = refl; its_verdicts = refl; its_state = refl; its_text = refl };
  one_is_gone = record { its_units = refl; its_verdicts = refl; its_state = refl; its_text = refl };
  two_partitions = record { its_units = refl; its_verdicts = refl; its_state = refl; its_text = refl };
  pulls_fail = record { its_units = refl; its_verdicts = refl; its_state = refl; its_text = refl };
  one_pull_fails = record { its_units = refl; its_verdicts = refl; its_state = refl; its_text = refl };
  name_too_long = record { its_units = refl; its_verdicts = refl; its_state = refl; its_text = refl };
  one_dataset = refl;
}

pub commands : WorkedCommands
unfolding digits percent_encode_byte escape_of columns_after state_report recovery_report check_report
commands = record {
  one_killed = refl;
  another_pipeline = refl;
  no_state = refl;
  was_open = refl;
  was_closed = refl;
  checked = refl;
  checked_bool = refl;
  checked_lines = refl;
}

pub refusals : WorkedRefusals
unfolding digits percent_encode_byte escape_of refusal_text
refusals = record {
  words = refl;
  absent = refl;
  no_text = refl;
  escape = refl;
  no_key = refl;
  value = refl;
  count = refl;
  column_absent = refl;
  column_kind = refl;
  dollar = refl;
  file = refl;
  shorter = refl;
  source = refl;
  volume = refl;
  no_memory = refl;
  too_many = refl;
}
