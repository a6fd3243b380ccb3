-- The tables of elements, computed.
use Rattle.std.proofs.Common.{refl}
use Rattle.gob_jobs.specs.TablesOfElements.{ElementTables, TrimmedTexts, ListElements, ElementWords, ValueWords}
use Rattle.gob_jobs.specs.TablesOfElements.{TestsByKind, TestValues, TestWords, TestFaultOrder, StepForms}
use Rattle.gob_jobs.specs.TablesOfElements.{StepsAfterSteps, StepsOfFullColumns, TaskRules, SourceColumns}
use Rattle.gob_jobs.specs.TablesOfElements.{ColumnsByFormat, BranchFormats, BranchPlaces, Schedules, LongestSchedule}
use Rattle.gob_jobs.specs.TablesOfElements.{LongestLists, NumbersWithin}
use Rattle.gob_jobs.proofs.OnLiterals.{on_literals}

trimmed_are : TrimmedTexts
unfolding on_literals
trimmed_are = refl

elements_are : ListElements
unfolding on_literals
elements_are = refl

words_are : ElementWords
unfolding on_literals
words_are = refl

value_words_are : ValueWords
unfolding on_literals
value_words_are = refl

tests_by_kind_are : TestsByKind
unfolding on_literals
tests_by_kind_are = refl

test_values_are : TestValues
unfolding on_literals
test_values_are = refl

test_words_are : TestWords
unfolding on_literals
test_words_are = refl

test_order_are : TestFaultOrder
unfolding on_literals
test_order_are = refl

steps_are : StepForms
unfolding on_literals
steps_are = refl

steps_after_steps_are : StepsAfterSteps
unfolding on_literals
steps_after_steps_are = refl

steps_when_full_are : StepsOfFullColumns
unfolding on_literals
steps_when_full_are = refl

rules_are : TaskRules
unfolding on_literals
rules_are = refl

columns_are : SourceColumns
unfolding on_literals
columns_are = refl

columns_by_format_are : ColumnsByFormat
unfolding on_literals
columns_by_format_are = refl

formats_are : BranchFormats
unfolding on_literals
formats_are = refl

places_are : BranchPlaces
unfolding on_literals
places_are = refl

schedules_are : Schedules
unfolding on_literals
schedules_are = refl

longest_schedule_are : LongestSchedule
unfolding on_literals
longest_schedule_are = refl

longest_lists_are : LongestLists
unfolding on_literals
longest_lists_are = refl

numbers_are : NumbersWithin
unfolding on_literals
numbers_are = refl

pub element_tables : ElementTables
element_tables = record {
  without_blanks = trimmed_are;
  elements = elements_are;
  words = words_are;
  value_words = value_words_are;
  tests_by_kind = tests_by_kind_are;
  test_values = test_values_are;
  test_words = test_words_are;
  test_order = test_order_are;
  steps = steps_are;
  steps_after_steps = steps_after_steps_are;
  steps_when_full = steps_when_full_are;
  rules = rules_are;
  columns = columns_are;
  columns_by_format = columns_by_format_are;
  formats = formats_are;
  places = places_are;
  schedules = schedules_are;
  longest_schedule = longest_schedule_are;
  longest_lists = longest_lists_are;
  numbers = numbers_are;
}
