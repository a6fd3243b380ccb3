-- The worked examples, computed.
use Rattle.std.proofs.Common.{refl, [], ◌∷◌, codes, lit<}
use Rattle.std.specs.Fmt.{digits}
use Rattle.std.specs.Str.{is_utf8, chars}
use Rattle.gob_bytes.specs.Digits.{offset, padded_digits}
use Rattle.gob_bytes.specs.Escapes.{escape_of}
use Rattle.gob_bytes.specs.Lines.{lines_from}
use Rattle.gob_device.specs.Supply.{bytes_from}
use Rattle.gob_plan.specs.Tests.{test_holds}
use Rattle.gob_meaning.specs.Fold.{unit_fold, sent_to, counts_of, stop_of}
use Rattle.gob_meaning.specs.Fork.{picks, place_of}
use Rattle.gob_meaning.specs.Formats.{line_rows, record_of}
use Rattle.gob_meaning.specs.Items.{out, made_in_branch, line_made}
use Rattle.gob_meaning.specs.Job.{plain_plan, plain_pipeline}
use Rattle.gob_meaning.specs.Names.{target_name}
use Rattle.gob_meaning.specs.Policies.{ruling}
use Rattle.gob_meaning.specs.Results.{warnings_of, verdict_of}
use Rattle.gob_meaning.specs.Sums.{sum_of}
use Rattle.gob_ledger.specs.Units.{units_of_parts}
use Rattle.gob_ledger.specs.Next.{next_state}
use Rattle.gob_ledger.specs.Spelling.{state_spelling}
use Rattle.gob_ledger.specs.Delta.{change_of, delta_spelling}
use Rattle.gob_ledger.specs.Groups.{groups_of}
use Rattle.gob_ledger.specs.Turns.{own_pulls, turns_of, verdicts_of}
use Rattle.gob_ledger.specs.Examples.{WorkedExamples, range_done}
use Rattle.gob_jobs.proofs.PlanTables.{plain_text_are}
use Rattle.gob_meaning.specs.Plans.{without_rules}

pub worked : WorkedExamples
unfolding digits is_utf8 chars lib.Utf8.encode offset padded_digits escape_of lines_from bytes_from test_holds
    unit_fold sent_to
    counts_of stop_of picks place_of line_rows record_of made_in_branch line_made target_name ruling warnings_of
    verdict_of sum_of units_of_parts next_state state_spelling delta_spelling change_of groups_of own_pulls turns_of
    verdicts_of
worked = record {
  second_version = refl;
  change_file = refl;
  change_with_a_pipeline = refl;
  state_file = refl;
  open_lines_among_done = refl;
  first_commit_stores_a_whole_state = refl;
  second_commit_stores_a_change = refl;
  first_version_is_left = refl;
  last_number_is_whole = refl;
  published_file = record {
    part = codes "a.log";
    marks = record { next = 4; finished = range_done 0 4 ∷ []; owed = [] };
    of_part = refl;
    done = range_done 0 4;
    of_marks = (0, lit< tt, refl);
    pipeline = plain_pipeline;
    of_state = refl;
    plan = without_rules plain_plan;
    of_pipeline = plain_text_are;
    path = codes "out/0/a.log@00000000000000000000-00000000000000000004.txt";
    made = record { target = out 0 []; sends = refl; some = λ e. cc; called = refl };
    called = refl;
  };
}
