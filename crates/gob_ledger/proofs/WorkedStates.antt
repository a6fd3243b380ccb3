-- The tables of states and groups, computed.
use Rattle.std.proofs.Common.{refl, arith}
use Rattle.percent_encoding.specs.Percent.{percent_encode_byte}
use Rattle.gob_bytes.specs.Escapes.{escape_of}
use Rattle.gob_bytes.specs.Lines.{lines_from}
use Rattle.gob_device.specs.Supply.{bytes_from}
use Rattle.gob_plan.specs.Tests.{test_holds}
use Rattle.gob_meaning.specs.Fold.{unit_fold, counts_of, stop_of}
use Rattle.gob_meaning.specs.Fork.{picks, place_of}
use Rattle.gob_meaning.specs.Formats.{line_rows, record_of}
use Rattle.gob_meaning.specs.Items.{made_in_branch, line_made}
use Rattle.gob_meaning.specs.Policies.{ruling}
use Rattle.gob_meaning.specs.Sums.{sum_of}
use Rattle.std.specs.Str.{is_utf8, chars}
use Rattle.gob_ledger.specs.Units.{units_of_parts}
use Rattle.gob_ledger.specs.Next.{next_state}
use Rattle.gob_ledger.specs.Groups.{groups_of}
use Rattle.gob_ledger.specs.Totals.{counted_in}
use Rattle.gob_ledger.specs.WorkedStates.{WorkedGroups, WorkedMarks, WorkedPolicies, WorkedStates, WorkedTotals}
use Rattle.gob_ledger.proofs.Losing.{empty_proper}
use Rattle.gob_jobs.proofs.OnLiterals.{on_literals}

of_marks : WorkedMarks
of_marks = record { owed = refl; first_owed = refl; finished = refl; inserted = refl }

of_policies : WorkedPolicies
of_policies = record {
  goods = refl;
  all_good = refl;
  one_fails = refl;
  the_failed = refl;
  allowed = refl;
  counted =
      refl;
  by_scope = refl;
  by_job = refl;
}

of_totals : WorkedTotals
unfolding is_utf8 chars lib.Utf8.encode lines_from bytes_from test_holds unit_fold counts_of stop_of picks place_of
    line_rows record_of made_in_branch line_made ruling on_literals sum_of next_state counted_in
of_totals = record {
  empty = refl;
  proper = (empty_proper 1 (omega arith) (omega arith), empty_proper 8 (omega arith) (omega arith));
  known = refl;
  new_pipeline = refl;
  indices = refl;
  sums = refl;
  all_sums = refl;
  counted = refl;
  counted_by_two = refl;
  no_plan = refl;
  of_branches = refl;
  old_unit = refl;
  old_unit_done = refl;
  last_run = refl;
}

of_groups : WorkedGroups
unfolding escape_of percent_encode_byte lines_from sum_of units_of_parts next_state groups_of
of_groups = record {
  slashes = refl;
  datasets = refl;
  in_byte_order = refl;
  no_unit = refl;
  whole_job = refl;
  its_group = refl;
  one_dataset_fails = refl;
  each_dataset = refl;
  the_rest_waits = refl;
}

pub worked : WorkedStates
worked = record { of_marks = of_marks; of_policies = of_policies; of_totals = of_totals; of_groups = of_groups }
