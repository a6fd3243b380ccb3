-- What elements read as: the forms of words, tests, steps, task rules and columns, each as a table.
use Prim.Native.String.{String}
use Rattle.std.specs.Prelude.{◌≡◌, ℕ, ◌-◌, ◌^◌, Bool, true, false, pos, negsuc, List, [], ◌∷◌, ◌++◌, map, length}
use Rattle.std.specs.Prelude.{replicate, codes}
use Rattle.std.specs.declared.option.Option.{Option}
use Rattle.std.specs.declared.option.Option.TheVariants.{None, Some}
use Rattle.std.specs.declared.result.Result.{Result}
use Rattle.std.specs.declared.result.Result.TheVariants.{Ok, Err}
use Rattle.std.specs.Option.{option_map}
use Rattle.std.specs.List.{repeat}
use Rattle.gob_plan.specs.declared.rows.Kind.TheVariants as kind
use Rattle.gob_plan.specs.declared.rows.Value.TheVariants as value
use Rattle.gob_plan.specs.declared.rows.Column.{Column}
use Rattle.gob_plan.specs.declared.checks.How.TheVariants as how
use Rattle.gob_plan.specs.declared.checks.Check.{Check}
use Rattle.gob_plan.specs.declared.checks.Check.TheVariants as check
use Rattle.gob_plan.specs.declared.checks.TestSpec.{TestSpec}
use Rattle.gob_plan.specs.declared.steps.StepSpec.{StepSpec}
use Rattle.gob_plan.specs.declared.steps.StepSpec.TheVariants as step
use Rattle.gob_plan.specs.declared.steps.Refusal.{Refusal}
use Rattle.gob_plan.specs.declared.steps.Refusal.TheVariants.{NoColumn, BadKind, BadValue}
use Rattle.gob_plan.specs.declared.plan.Counter.TheVariants as counter
use Rattle.gob_plan.specs.declared.plan.Format.{Format}
use Rattle.gob_plan.specs.declared.plan.Format.TheVariants as format
use Rattle.gob_plan.specs.declared.plan.PlaceSpec.{PlaceSpec}
use Rattle.gob_plan.specs.declared.plan.PlaceSpec.TheVariants as place
use Rattle.gob_plan.specs.declared.plan.TaskRule.{TaskRule}
use Rattle.gob_plan.specs.declared.plan.TaskRule.TheVariants as rule
use Rattle.gob_jobs.specs.Words.{without_blanks, elements, few_elements, words_of, value_word, number_within}
use Rattle.gob_jobs.specs.Elements.{test_read, step_read, steps_read, rule_read}
use Rattle.gob_jobs.specs.KeyTable.{ValueFault, refused, columns_read, format_read, place_read, schedule_read}
use Rattle.gob_meaning.specs.Samples.{column}
use Rattle.gob_jobs.specs.Samples.{AllRead, AllAre, one_of_each, column_test}

-- ---- words

-- blanks are spaces and tabs alone
abbrev pub TrimmedTexts : Type 0
TrimmedTexts = AllRead without_blanks (
    ("", [])
    ∷ (" \t ", [])
    ∷ ("a", codes "a")
    ∷ (" \ta b\t ", codes "a b")
    ∷ ("\ra\n", codes "\ra\n")
    ∷ [])

-- elements are trimmed, and none is empty but in a list of none
abbrev pub ListElements : Type 0
ListElements = AllRead (elements 44) (
    ("", Some [])
    ∷ ("a", Some (codes "a" ∷ []))
    ∷ ("a, b\t,c d", Some (codes "a" ∷ codes "b" ∷ codes "c d" ∷ []))
    ∷ ("a;b", Some (codes "a;b" ∷ []))
    ∷ (",", None)
    ∷ ("a,", None)
    ∷ ("a,\t,b", None)
    ∷ [])

-- words stand between blanks
abbrev pub ElementWords : Type 0
ElementWords = AllRead words_of (
    ("", [])
    ∷ (" ", [])
    ∷ ("keep", codes "keep" ∷ [])
    ∷ ("eq \tt  a%20b", codes "eq" ∷ codes "t" ∷ codes "a%20b" ∷ [])
    ∷ ("a\rb", codes "a\rb" ∷ [])
    ∷ [])

-- a value word is decoded, but for the word of the empty text; what it means must be UTF-8
abbrev pub ValueWords : Type 0
ValueWords = AllRead value_word (
    ("\"\"", Some [])
    ∷ ("%22%22", Some (34 ∷ 34 ∷ []))
    ∷ ("\"", Some (34 ∷ []))
    ∷ ("a%20b%3B", Some (codes "a b;"))
    ∷ ("%c3%A9", Some (195 ∷ 169 ∷ []))
    ∷ ("%2", Some (codes "%2"))
    ∷ ("%zz", Some (codes "%zz"))
    ∷ ("%C3", None)
    ∷ [])

-- ---- tests

-- the test is read
abbrev reads : String → Check → Result TestSpec Refusal
reads name c = Ok (column_test false name c)

-- the column isn't there
abbrev absent : {X : Type 0} → String → Result X Refusal
absent name = Err (NoColumn (codes name))

-- the column is of a wrong kind
abbrev wrong : {X : Type 0} → String → Result X Refusal
wrong name = Err (BadKind (codes name))

-- all else that is wrong
abbrev bad : {X : Type 0} → Result X Refusal
bad = Err BadValue

-- each test of a column of each kind
abbrev pub TestsByKind : Type 0
TestsByKind = AllRead (test_read one_of_each) (
    ("null b", reads "b" check.Null)
    ∷ ("null i", reads "i" check.Null)
    ∷ ("null t", reads "t" check.Null)
    ∷ ("eq b true", reads "b" (check.Compare how.Eq (value.Bool true)))
    ∷ ("eq b false", reads "b" (check.Compare how.Eq (value.Bool false)))
    ∷ ("eq i -5", reads "i" (check.Compare how.Eq (value.Int (negsuc 4))))
    ∷ ("eq t 5", reads "t" (check.Compare how.Eq (value.Text (codes "5"))))
    ∷ ("lt b true", wrong "b")
    ∷ ("lt i 5", reads "i" (check.Compare how.Lt (value.Int (pos 5))))
    ∷ ("lt t a", reads "t" (check.Compare how.Lt (value.Text (codes "a"))))
    ∷ ("le b true", wrong "b")
    ∷ ("le i 5", reads "i" (check.Compare how.Le (value.Int (pos 5))))
    ∷ ("le t a", reads "t" (check.Compare how.Le (value.Text (codes "a"))))
    ∷ ("gt b true", wrong "b")
    ∷ ("gt i 5", reads "i" (check.Compare how.Gt (value.Int (pos 5))))
    ∷ ("gt t a", reads "t" (check.Compare how.Gt (value.Text (codes "a"))))
    ∷ ("ge b true", wrong "b")
    ∷ ("ge i 5", reads "i" (check.Compare how.Ge (value.Int (pos 5))))
    ∷ ("ge t a", reads "t" (check.Compare how.Ge (value.Text (codes "a"))))
    ∷ ("like b *", wrong "b")
    ∷ ("like i *", wrong "i")
    ∷ ("like t a%2A", reads "t" (check.Like (codes "a*")))
    ∷ ("bytes b 0 1", wrong "b")
    ∷ ("bytes i 0 1", wrong "i")
    ∷ ("bytes t 0 1", reads "t" (check.Bytes 0 1))
    ∷ [])

-- the values that a column of each kind is compared with
abbrev pub TestValues : Type 0
TestValues = AllRead (test_read one_of_each) (
    ("eq b TRUE", bad)
    ∷ ("eq b \"\"", bad)
    ∷ ("eq i 007", reads "i" (check.Compare how.Eq (value.Int (pos 7))))
    ∷ ("eq i 9223372036854775807", reads "i" (check.Compare how.Eq (value.Int (pos 9223372036854775807))))
    ∷ ("eq i 9223372036854775808", bad)
    ∷ ("eq i -9223372036854775808", reads "i" (check.Compare how.Eq (value.Int (negsuc 9223372036854775807))))
    ∷ ("eq i x", bad)
    ∷ ("eq i \"\"", bad)
    ∷ ("eq t \"\"", reads "t" (check.Compare how.Eq (value.Text [])))
    ∷ ("eq t a%20b", reads "t" (check.Compare how.Eq (value.Text (codes "a b"))))
    ∷ ("eq t %ff", bad)
    ∷ ("like t %ff", bad)
    ∷ ("bytes t 3 3", reads "t" (check.Bytes 3 3))
    ∷ ("bytes t 3 2", bad)
    ∷ ("bytes t 0 18446744073709551615", reads "t" (check.Bytes 0 18446744073709551615))
    ∷ ("bytes t 0 18446744073709551616", bad)
    ∷ ("bytes t 00 1", bad)
    ∷ [])

-- the words of a test, and `not` in front
abbrev pub TestWords : Type 0
TestWords = AllRead (test_read one_of_each) (
    ("", bad)
    ∷ ("not", bad)
    ∷ ("null", bad)
    ∷ ("null t t", bad)
    ∷ ("Null t", bad)
    ∷ ("eq t", bad)
    ∷ ("eq t a b", bad)
    ∷ ("like t", bad)
    ∷ ("bytes t 0", bad)
    ∷ ("bytes t 0 1 2", bad)
    ∷ ("not null t", Ok (column_test true "t" check.Null))
    ∷ ("not bytes t 0 1", Ok (column_test true "t" (check.Bytes 0 1)))
    ∷ ("not not null t", bad)
    ∷ ("null not", absent "not")
    ∷ ("null a/b", bad)
    ∷ [])

-- words go first, then the column, then its kind, then all else
abbrev pub TestFaultOrder : Type 0
TestFaultOrder = AllRead (test_read one_of_each) (
    ("lt zz", bad)
    ∷ ("lt zz %ff", bad)
    ∷ ("bytes zz x 1", bad)
    ∷ ("bytes zz 5 1", absent "zz")
    ∷ ("eq zz x", absent "zz")
    ∷ ("lt b x", wrong "b")
    ∷ ("bytes i 5 1", wrong "i")
    ∷ [])

-- ---- steps

-- a step is read
abbrev is : StepSpec → Result StepSpec Refusal
is s = Ok s

-- each step, and why it is refused
abbrev pub StepForms : Type 0
StepForms = AllRead (step_read one_of_each) (
    ("keep t b", is (step.Keep (codes "t" ∷ codes "b" ∷ [])))
    ∷ ("keep", bad)
    ∷ ("keep t i t", bad)
    ∷ ("keep t zz t", absent "zz")
    ∷ ("keep zz a/b", bad)
    ∷ ("drop t", is (step.Drop (codes "t" ∷ [])))
    ∷ ("drop", bad)
    ∷ ("drop t t", bad)
    ∷ ("drop t i b", bad)
    ∷ ("drop zz", absent "zz")
    ∷ ("rename t n", is (step.Rename (codes "t") (codes "n")))
    ∷ ("rename t", bad)
    ∷ ("rename t n n", bad)
    ∷ ("rename t b", bad)
    ∷ ("rename zz b", absent "zz")
    ∷ ("rename zz a/b", bad)
    ∷ ("cast t int", is (step.Cast (codes "t") kind.Int))
    ∷ ("cast i bool", is (step.Cast (codes "i") kind.Bool))
    ∷ ("cast b text", is (step.Cast (codes "b") kind.Text))
    ∷ ("cast t", bad)
    ∷ ("cast t int int", bad)
    ∷ ("cast zz number", bad)
    ∷ ("cast zz int", absent "zz")
    ∷ ("set t int 5", is (step.Set (codes "t") kind.Int (value.Int (pos 5))))
    ∷ ("set n bool true", is (step.Set (codes "n") kind.Bool (value.Bool true)))
    ∷ ("set n text \"\"", is (step.Set (codes "n") kind.Text (value.Text [])))
    ∷ ("set n int", bad)
    ∷ ("set n int 5 5", bad)
    ∷ ("set n number 5", bad)
    ∷ ("set n int x", bad)
    ∷ ("set n text %ff", bad)
    ∷ ("set a/b int 5", bad)
    ∷ ("copy t n", is (step.Copy (codes "t") (codes "n")))
    ∷ ("copy t", bad)
    ∷ ("copy t b", bad)
    ∷ ("copy zz b", absent "zz")
    ∷ ("copy zz a/b", bad)
    ∷ ("explode t |", is (step.Explode (codes "t") (codes "|")))
    ∷ ("explode t %3B", is (step.Explode (codes "t") (codes ";")))
    ∷ ("explode t", bad)
    ∷ ("explode t \"\"", bad)
    ∷ ("explode t | |", bad)
    ∷ ("explode i \"\"", wrong "i")
    ∷ ("explode zz |", absent "zz")
    ∷ ("explode zz %ff", bad)
    ∷ ("where not eq i 5", is (step.Where (column_test true "i" (check.Compare how.Eq (value.Int (pos 5))))))
    ∷ ("where", bad)
    ∷ ("where eq i x", bad)
    ∷ ("where like i *", wrong "i")
    ∷ ("where null zz", absent "zz")
    ∷ ("upper t", is (step.Upper (codes "t")))
    ∷ ("upper", bad)
    ∷ ("upper t t", bad)
    ∷ ("upper i", wrong "i")
    ∷ ("upper zz", absent "zz")
    ∷ ("lower t", is (step.Lower (codes "t")))
    ∷ ("lower b", wrong "b")
    ∷ ("", bad)
    ∷ ("Keep t", bad)
    ∷ [])

-- each step is read on the columns behind the one before
abbrev pub StepsAfterSteps : Type 0
StepsAfterSteps = AllAre (steps_read one_of_each) (
    ([], Ok [])
    ∷ (
      codes "rename t n" ∷ codes "upper n" ∷ [],
      Ok (step.Rename (codes "t") (codes "n") ∷ step.Upper (codes "n") ∷
          []),
    )
    ∷ (codes "drop i" ∷ codes "cast i text" ∷ [], absent "i")
    ∷ (codes "cast t int" ∷ codes "upper t" ∷ [], wrong "t")
    ∷ (codes "upper i" ∷ codes "sort" ∷ [], wrong "i")
    ∷ [])

-- no step makes a column past the sixty-fourth
abbrev pub StepsOfFullColumns : Type 0
StepsOfFullColumns = AllRead (step_read (replicate 64 (column "a" kind.Int))) (
    ("set n int 5", bad)
    ∷ ("copy a n", bad)
    ∷ ("set a text x", is (step.Set (codes "a") kind.Text (value.Text (codes "x"))))
    ∷ [])

-- ---- task rules

-- the rules over two branches
abbrev pub TaskRules : Type 0
TaskRules = AllRead (rule_read 2) (
    ("range records 2 9", Some (rule.Range counter.Records 2 9))
    ∷ ("range bad 0 0", Some (rule.Range counter.Bad 0 0))
    ∷ ("range rows 1 2", Some (rule.Range counter.Rows 1 2))
    ∷ ("range unrouted 0 18446744073709551615", Some (rule.Range counter.Unrouted 0 18446744073709551615))
    ∷ ("range written.0 1 2", Some (rule.Range (counter.Written 0) 1 2))
    ∷ ("range errors.1 1 2", Some (rule.Range (counter.Errors 1) 1 2))
    ∷ ("range optional.1 1 2", Some (rule.Range (counter.Optional 1) 1 2))
    ∷ ("range written.2 1 2", None)
    ∷ ("range written.00 1 2", None)
    ∷ ("range written. 1 2", None)
    ∷ ("range written 1 2", None)
    ∷ ("range written.0.1 1 2", None)
    ∷ ("range rows.0 1 2", None)
    ∷ ("range lines 1 2", None)
    ∷ ("range records 9 2", None)
    ∷ ("range records 2", None)
    ∷ ("range records 2 9 9", None)
    ∷ ("range records 0 18446744073709551616", None)
    ∷ ("share bad records 0", Some (rule.Share counter.Bad counter.Records 0))
    ∷ ("share written.1 rows 1000", Some (rule.Share (counter.Written 1) counter.Rows 1000))
    ∷ ("share bad records 1001", None)
    ∷ ("share bad records", None)
    ∷ ("share bad records 5 5", None)
    ∷ ("share lines records 5", None)
    ∷ ("share bad errors.2 5", None)
    ∷ ("Range records 2 9", None)
    ∷ ("", None)
    ∷ [])

-- ---- columns, formats and places

-- the columns of a source in csv
abbrev pub SourceColumns : Type 0
SourceColumns = AllRead (columns_read format.Csv) (
    ("a:int", Some (column "a" kind.Int ∷ []))
    ∷ ("a:bool , b.c_d-E9:text", Some (column "a" kind.Bool ∷ column "b.c_d-E9" kind.Text ∷ []))
    ∷ ("", None)
    ∷ ("a:int,", None)
    ∷ ("a:int,a:text", None)
    ∷ ("a", None)
    ∷ ("a:", None)
    ∷ (":int", None)
    ∷ ("a: int", None)
    ∷ ("a:Int", None)
    ∷ ("a:int:int", None)
    ∷ ("a/b:int", None)
    ∷ [])

-- those by formats
abbrev pub ColumnsByFormat : Type 0
ColumnsByFormat = AllAre (λ (e : Format × List ℕ). columns_read e.0 e.1) (
    ((format.Lines, []), Some (column "line" kind.Text ∷ []))
    ∷ ((format.Lines, codes "line:text"), None)
    ∷ ((format.Csv, codes "a:int"), Some (column "a" kind.Int ∷ []))
    ∷ ((format.Json, codes "a:int"), Some (column "a" kind.Int ∷ []))
    ∷ ((format.Json, []), None)
    ∷ [])

-- the formats of branches with an integer alone, with a text alone, and with two columns
abbrev pub BranchFormats : Type 0
BranchFormats = AllAre (λ (e : List Column × List ℕ). format_read e.0 e.1) (
    ((column "i" kind.Int ∷ [], codes "lines"), Err (refused (BadKind (codes "i"))))
    ∷ ((column "t" kind.Text ∷ [], codes "lines"), Ok format.Lines)
    ∷ ((column "t" kind.Text ∷ column "u" kind.Text ∷ [], codes "lines"), Err (refused (BadKind (codes "u"))))
    ∷ ((column "i" kind.Int ∷ [], codes "csv"), Ok format.Csv)
    ∷ ((column "i" kind.Int ∷ [], codes "json"), Ok format.Json)
    ∷ ((column "i" kind.Int ∷ [], codes "xml"), Err (refused BadValue))
    ∷ [])

-- the places of branches with a column of each kind
abbrev pub BranchPlaces : Type 0
BranchPlaces = AllRead (place_read one_of_each) (
    ("plain", Ok place.Plain)
    ∷ ("day i", Ok (place.Day (codes "i")))
    ∷ ("day \t i", Ok (place.Day (codes "i")))
    ∷ ("day t", Err (refused (BadKind (codes "t"))))
    ∷ ("day zz", Err (refused (NoColumn (codes "zz"))))
    ∷ ("day a/b", Err (refused BadValue))
    ∷ ("day", Err (refused BadValue))
    ∷ ("day i i", Err (refused BadValue))
    ∷ ("plain i", Err (refused BadValue))
    ∷ ("hour i", Err (refused BadValue))
    ∷ ("", Err (refused BadValue))
    ∷ [])

-- whose turns there are
abbrev pub Schedules : Type 0
Schedules = AllRead schedule_read (
    ("0", Some (0 ∷ []))
    ∷ ("2, 0,63", Some (2 ∷ 0 ∷ 63 ∷ []))
    ∷ ("64", None)
    ∷ ("", None)
    ∷ ("0,", None)
    ∷ ("00", None)
    ∷ [])

-- ---- how long lists may be

-- the text, and so many more of it behind a separator
abbrev pub repeated_text : ℕ → String → String → List ℕ
repeated_text n separator text = codes text ++ repeat n (codes separator ++ codes text)

-- 64 numbers and one more
abbrev pub LongestSchedule : Type 0
LongestSchedule = AllAre (λ n. option_map length (schedule_read (repeated_text n "," "7")))
    ((63, Some 64) ∷ (64, None) ∷ [])

-- as many elements as may stand, and one more
abbrev pub LongestLists : Type 0
LongestLists = AllAre (λ most. option_map length (few_elements most 59 (repeated_text 2 ";" "x")))
    ((3, Some 3) ∷ (2, None) ∷ [])

-- both ends of a range, and one past each
abbrev pub NumbersWithin : Type 0
NumbersWithin = AllRead (number_within 2 4) (("1", None) ∷ ("2", Some 2) ∷ ("4", Some 4) ∷ ("5", None) ∷ ("02", None) ∷
    ("+2", None) ∷ ("", None) ∷ [])

-- all of these
pub record ElementTables : Type 0 where
  pub without_blanks : TrimmedTexts
  pub elements : ListElements
  pub words : ElementWords
  pub value_words : ValueWords
  pub tests_by_kind : TestsByKind
  pub test_values : TestValues
  pub test_words : TestWords
  pub test_order : TestFaultOrder
  pub steps : StepForms
  pub steps_after_steps : StepsAfterSteps
  pub steps_when_full : StepsOfFullColumns
  pub rules : TaskRules
  pub columns : SourceColumns
  pub columns_by_format : ColumnsByFormat
  pub formats : BranchFormats
  pub places : BranchPlaces
  pub schedules : Schedules
  pub longest_schedule : LongestSchedule
  pub longest_lists : LongestLists
  pub numbers : NumbersWithin
