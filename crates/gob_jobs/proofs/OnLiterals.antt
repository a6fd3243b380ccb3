-- What the tables and examples unfold to compute.
use lib.Utf8.{encode}
use Rattle.std.proofs.Common.{◌≡◌, ℕ, true, List, [], ◌∷◌, refl, codes, Ok, Err, Some, None}
use Rattle.std.specs.Prelude.{⊤}
use Rattle.std.specs.Fmt.{digits}
use Rattle.std.specs.Str.{is_utf8, chars}
use Rattle.std.specs.Option.{is_some}
use Rattle.std.specs.Result.{is_ok, result_err, result_ok}
use Rattle.percent_encoding.specs.Percent.{percent_encode_byte, percent_decode}
use Rattle.percent_encoding.proofs.OnLiterals.{percent_encoding_on_literals}
use Rattle.gob_props.specs.Properties.{natural_from, goes_on, logical_from, key_part, value_part, code_unit}
use Rattle.gob_props.specs.Properties.{first_character, read_characters, key_value_of, all_entries, properties_of}
use Rattle.gob_bytes.specs.Escapes.{escape_of}
use Rattle.gob_bytes.specs.Names.{is_column_name}
use Rattle.gob_bytes.specs.Numbers.{number_read, integer_read}
use Rattle.gob_plan.specs.Tests.{test_fits}
use Rattle.gob_plan.specs.Columns.{is_columns}
use Rattle.gob_meaning.specs.Steps.{columns_after}
use Rattle.gob_meaning.specs.Job.{plain_pipeline, plain_plan}
use Rattle.gob_jobs.specs.Words.{without_blanks, pieces, elements, words_of, value_word, number_within}
use Rattle.gob_jobs.specs.Elements.{worded_test, test_read, step_read, steps_read, counter_read, rule_read}
use Rattle.gob_jobs.specs.KeyTable.{columns_read, fork_tests, steps_listed, tests_listed, modes_listed, format_read}
use Rattle.gob_jobs.specs.KeyTable.{place_read, rules_listed, schedule_read, first_rows, branch_rows, last_rows}
use Rattle.gob_jobs.specs.Reading.{value_of_row, read_row, pipeline_of, job_of, unknown_keys}
use Rattle.gob_jobs.specs.Pipelines.{settings_in}
use Rattle.gob_jobs.specs.Plans.{plan_told, plan_of}

unfoldable pub on_literals : ⊤
unfolding encode natural_from goes_on logical_from key_part value_part code_unit first_character read_characters
    key_value_of all_entries properties_of digits is_utf8 chars escape_of percent_encode_byte percent_decode
    is_column_name
    number_read integer_read is_columns columns_after without_blanks pieces elements words_of value_word number_within
    worded_test test_read step_read steps_read counter_read rule_read columns_read fork_tests steps_listed
    tests_listed modes_listed format_read place_read rules_listed schedule_read value_of_row read_row
    pipeline_of job_of unknown_keys settings_in plan_told plan_of first_rows branch_rows last_rows
on_literals = tt
