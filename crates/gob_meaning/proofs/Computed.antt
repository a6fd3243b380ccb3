-- The tables, computed.
use lib.Utf8.{encode}
use Rattle.std.specs.Prelude.{⊤, refl}
use Rattle.std.proofs.Common.{◌∙◌}
use Rattle.std.specs.Fmt.{digits}
use Rattle.std.specs.Str.{is_utf8, chars}
use Rattle.percent_encoding.specs.Percent.{percent_encode_byte}
use Rattle.csv.proofs.OnLiterals.{csv_on_literals}
use Rattle.csv.specs.Writing.{escaped, fields_text, is_blank}
use Rattle.serde_json.proofs.OnLiterals.{serde_json_on_literals}
use Rattle.gob_bytes.specs.Digits.{padded_digits, offset}
use Rattle.gob_bytes.specs.Escapes as name
use Rattle.gob_bytes.specs.Numbers.{integer_read}
use Rattle.gob_plan.specs.Columns.{is_columns}
use Rattle.gob_plan.specs.Rows.{conforms}
use Rattle.gob_plan.specs.Tests.{test_holds, test_fits}
use Rattle.gob_meaning.specs.Days.{date_of}
use Rattle.gob_meaning.specs.Formats.{line_rows, record_of}
use Rattle.gob_meaning.specs.Steps.{columns_after, step_rows}
use Rattle.gob_meaning.specs.Policies.{ruling}
use Rattle.gob_meaning.specs.Fork.{picks, place_of}
use Rattle.gob_meaning.specs.Items.{made_in_branch, line_made}
use Rattle.gob_meaning.specs.Fold.{unit_fold, sent_to, counts_of, stop_of, before_stop}
use Rattle.gob_meaning.specs.Sums.{sum_of}
use Rattle.gob_meaning.specs.Plans.{is_fitting}
use Rattle.gob_meaning.specs.Results.{verdict_of, warnings_of}
use Rattle.gob_meaning.specs.Names.{target_name}
use Rattle.gob_meaning.specs.TablesOfPlaces.{DayTable}
use Rattle.gob_meaning.specs.TablesOfValues.{CastTable, ReadTable, WriteTable}
use Rattle.gob_meaning.specs.TablesOfTests.{CompareTable, CheckTable, FitTable}
use Rattle.gob_meaning.specs.TablesOfPlans.{FormatTable, PlaceTable, PlanTable}
use Rattle.gob_meaning.specs.TablesOfUnits as units
use Rattle.gob_meaning.specs.TablesOfUnits.{RulingTable, ForkTable, SentTable, TargetTable, SumTable, RuleTable}
use Rattle.gob_meaning.specs.TablesOfUnits.{ResultTable, GoneUnit, StopTable, NameTable}
use Rattle.gob_meaning.proofs.Quick.{quick_sent, quick_results, quick_stops}
use Rattle.gob_meaning.specs.TablesOfSteps.{ColumnsTable, RowsTable, PiecesTable, StepsTable, ChainTable}

-- what a table unfolds to compute
unfoldable pub on_literals : ⊤
unfolding encode digits is_utf8 chars csv_on_literals escaped fields_text is_blank serde_json_on_literals padded_digits
    offset name.escape_of percent_encode_byte integer_read is_columns conforms test_holds test_fits date_of line_rows
    record_of columns_after step_rows ruling picks place_of made_in_branch line_made unit_fold sent_to counts_of
    stop_of before_stop sum_of is_fitting verdict_of warnings_of target_name
on_literals = tt

pub day_table : DayTable
unfolding on_literals
day_table = refl

pub cast_table : CastTable
unfolding on_literals
cast_table = refl

pub read_table : ReadTable
unfolding on_literals
read_table = refl

pub write_table : WriteTable
unfolding on_literals
write_table = refl

pub compare_table : CompareTable
unfolding on_literals
compare_table = refl

pub check_table : CheckTable
unfolding on_literals
check_table = refl

pub fit_table : FitTable
unfolding on_literals
fit_table = refl

pub columns_table : ColumnsTable
unfolding on_literals
columns_table = refl

pub rows_table : RowsTable
unfolding on_literals
rows_table = refl

pub pieces_table : PiecesTable
unfolding on_literals
pieces_table = refl

pub steps_table : StepsTable
unfolding on_literals
steps_table = (refl, refl)

pub chain_table : ChainTable
unfolding on_literals
chain_table = refl

pub format_table : FormatTable
unfolding on_literals
format_table = (refl, refl)

pub place_table : PlaceTable
unfolding on_literals
place_table = refl

pub plan_table : PlanTable
unfolding on_literals
plan_table = refl

pub ruling_table : RulingTable
unfolding on_literals
ruling_table = refl

pub fork_table : ForkTable
unfolding on_literals
fork_table = refl

pub sent_table : SentTable
unfolding on_literals
sent_table = quick_sent units.sent_table ∙ refl

pub target_table : TargetTable
unfolding on_literals
target_table = refl

pub sum_table : SumTable
unfolding on_literals
sum_table = refl

pub rule_table : RuleTable
unfolding on_literals
rule_table = refl

pub result_table : ResultTable
unfolding on_literals
result_table = quick_results units.result_table ∙ refl

pub gone_unit : GoneUnit
unfolding on_literals
gone_unit = refl

pub stop_table : StopTable
unfolding on_literals
stop_table = quick_stops units.stop_table ∙ refl

pub name_table : NameTable
unfolding on_literals
name_table = refl
