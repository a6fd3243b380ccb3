-- The forms of tests, steps and task rules, and what an element reads as. First its words must fit a form; then its
-- columns must be there; then they must be of the right kind; then all else must be right.
use Rattle.std.specs.Prelude.{ℕ, Bool, true, false, ◌&&◌, nat_le, nat_lt, if◌then◌else◌, List, [], ◌∷◌, length, codes}
use Rattle.std.specs.declared.option.Option.{Option}
use Rattle.std.specs.declared.option.Option.TheVariants.{None, Some}
use Rattle.std.specs.declared.result.Result.{Result}
use Rattle.std.specs.declared.result.Result.TheVariants.{Ok, Err}
use Rattle.std.specs.Option.{option_map, option_and_then, option_or, ok_or}
use Rattle.std.specs.List.{list_all}
use Rattle.std.specs.Prelude.{nat_eq}
use Rattle.std.specs.Str.{bytes_eq}
use Rattle.gob_bytes.specs.Names.{is_column_name}
use Rattle.gob_bytes.specs.Numbers.{number_read}
use Rattle.gob_bytes.specs.Tables.{Table, at_name}
use Rattle.gob_plan.specs.declared.rows.Kind.{Kind}
use Rattle.gob_plan.specs.declared.rows.Kind.TheVariants as kind
use Rattle.gob_plan.specs.declared.rows.Value.TheVariants as value
use Rattle.gob_plan.specs.declared.rows.Column.{Column}
use Rattle.gob_plan.specs.declared.checks.How.{How}
use Rattle.gob_plan.specs.declared.checks.How.TheVariants as how
use Rattle.gob_plan.specs.declared.checks.Check.{Check}
use Rattle.gob_plan.specs.declared.checks.Check.TheVariants as check
use Rattle.gob_plan.specs.declared.checks.TestSpec.{TestSpec}
use Rattle.gob_plan.specs.declared.steps.StepSpec.{StepSpec}
use Rattle.gob_plan.specs.declared.steps.StepSpec.TheVariants as step
use Rattle.gob_plan.specs.declared.steps.Refusal.{Refusal}
use Rattle.gob_plan.specs.declared.steps.Refusal.TheVariants.{NoColumn, BadKind, BadValue}
use Rattle.gob_plan.specs.declared.plan.Counter.{Counter}
use Rattle.gob_plan.specs.declared.plan.Counter.TheVariants as counter
use Rattle.gob_plan.specs.declared.plan.PlaceSpec.{PlaceSpec}
use Rattle.gob_plan.specs.declared.plan.PlaceSpec.TheVariants as place
use Rattle.gob_plan.specs.declared.plan.TaskRule.{TaskRule}
use Rattle.gob_plan.specs.declared.plan.TaskRule.TheVariants as rule
use Rattle.gob_plan.specs.Rows.{kind_of}
use Rattle.gob_plan.specs.Tests.{check_takes, check_is_right}
use Rattle.gob_meaning.specs.Values.{value_read}
use Rattle.gob_meaning.specs.Steps.{columns_after, columns_behind}
use Rattle.gob_jobs.specs.Words.{and_then, value_map, both, only_if, each_read, pieces, words_of, value_word}
use Rattle.gob_jobs.specs.Words.{number_within}

-- words, from which an X is read
abbrev pub Form : Type 0 → Type 0
Form X = List (List ℕ) → Option X

-- what the first word's form reads of the words after it
abbrev pub form_in : {X : Type 0} → Table (Form X) → Form X
form_in forms [] = None
form_in forms (first ∷ more) = option_and_then (λ form. form more) (at_name forms first)

-- a word that is a column name
abbrev pub column_word : List ℕ → Option (List ℕ)
column_word word = only_if is_column_name word

-- the kinds by their words
abbrev pub kinds : Table Kind
kinds = (codes "bool", kind.Bool) ∷ (codes "int", kind.Int) ∷ (codes "text", kind.Text) ∷ []

-- ---- tests

-- no word
abbrev pub no_word : Check → Form Check
no_word c [] = Some c
no_word c (w ∷ ws) = None

-- one value word
abbrev pub one_value : (List ℕ → Check) → Form Check
one_value make (v ∷ []) = option_map make (value_word v)
one_value make _ = None

-- two numbers
abbrev pub two_numbers : (ℕ → ℕ → Check) → Form Check
two_numbers make (low ∷ high ∷ []) = both make (number_read low) (number_read high)
two_numbers make _ = None

-- a comparison with a value that is still a text
abbrev pub compare : How → Form Check
compare h = one_value (λ text. check.Compare h (value.Text text))

-- the tests by their first words, and the words behind the column
abbrev pub check_forms : Table (Form Check)
check_forms =
    (codes "null", no_word check.Null)
    ∷ (codes "eq", compare how.Eq)
    ∷ (codes "lt", compare how.Lt)
    ∷ (codes "le", compare how.Le)
    ∷ (codes "gt", compare how.Gt)
    ∷ (codes "ge", compare how.Ge)
    ∷ (codes "like", one_value check.Like)
    ∷ (codes "bytes", two_numbers check.Bytes)
    ∷ []

-- a first word, a column and the words behind it
abbrev pub check_words : Bool → Form TestSpec
check_words negated (first ∷ column ∷ more) =
    both (λ name c. record { negated = negated; column = name; check = c }) (column_word column)
    (form_in check_forms (first ∷ more))
check_words negated _ = None

-- a test as it is worded, with one `not` in front or none; a value to compare with is still a text
unfoldable pub worded_test : Form TestSpec
worded_test [] = None
worded_test (first ∷ more) = if bytes_eq first (codes "not") then check_words true more else check_words false
    (first ∷ more)

-- the check with the value that its text means to a column of this kind
abbrev pub check_of_kind : Kind → Check → Option Check
check_of_kind k (check.Compare h (value.Text text)) = option_map (λ v. check.Compare h v) (value_read k text)
check_of_kind k c = Some c

-- a test whose column is of this kind, if it is there
abbrev pub test_of_kind : TestSpec → Option Kind → Result TestSpec Refusal
test_of_kind t None = Err (NoColumn t.column)
test_of_kind t (Some k) =
    if check_takes t.check k
    then ok_or (option_map (λ c. record t { check = c }) (option_and_then (only_if (λ c. check_is_right c k))
    (check_of_kind k t.check))) BadValue
    else Err (BadKind t.column)

-- a worded test over these columns
abbrev pub test_over : List Column → TestSpec → Result TestSpec Refusal
test_over columns t = test_of_kind t (kind_of t.column columns)

-- the test that an element is
unfoldable pub test_read : List Column → List ℕ → Result TestSpec Refusal
test_read columns element = and_then (test_over columns) (ok_or (worded_test (words_of element)) BadValue)

-- ---- steps

-- any number of columns
abbrev pub columns_words : (List (List ℕ) → StepSpec) → Form StepSpec
columns_words make words = option_map make (each_read column_word words)

-- one column
abbrev pub column_words : (List ℕ → StepSpec) → Form StepSpec
column_words make (c ∷ []) = option_map make (column_word c)
column_words make _ = None

-- two names of columns
abbrev pub two_columns : (List ℕ → List ℕ → StepSpec) → Form StepSpec
two_columns make (c ∷ n ∷ []) = both make (column_word c) (column_word n)
two_columns make _ = None

-- a column and a kind
abbrev pub cast_words : Form StepSpec
cast_words (c ∷ k ∷ []) = both (λ name to. step.Cast name to) (column_word c) (at_name kinds k)
cast_words _ = None

-- a column, a kind and a value of this kind
abbrev pub set_words : Form StepSpec
set_words (c ∷ k ∷ v ∷ []) =
    option_and_then (λ to. both (λ name w. step.Set name to w) (column_word c)
    (option_and_then (value_read to) (value_word v))) (at_name kinds k)
set_words _ = None

-- a column and a separator
abbrev pub explode_words : Form StepSpec
explode_words (c ∷ v ∷ []) = both (λ name separator. step.Explode name separator) (column_word c) (value_word v)
explode_words _ = None

-- a test as it is worded
abbrev pub where_words : Form StepSpec
where_words words = option_map (λ t. step.Where t) (worded_test words)

-- the steps by their first words
abbrev pub step_forms : Table (Form StepSpec)
step_forms =
    (codes "keep", columns_words (λ names. step.Keep names))
    ∷ (codes "drop", columns_words (λ names. step.Drop names))
    ∷ (codes "rename", two_columns (λ from to. step.Rename from to))
    ∷ (codes "cast", cast_words)
    ∷ (codes "set", set_words)
    ∷ (codes "copy", two_columns (λ from to. step.Copy from to))
    ∷ (codes "explode", explode_words)
    ∷ (codes "where", where_words)
    ∷ (codes "upper", column_words (λ name. step.Upper name))
    ∷ (codes "lower", column_words (λ name. step.Lower name))
    ∷ []

-- a step that these columns take
abbrev pub accepted_step : List Column → StepSpec → Result StepSpec Refusal
accepted_step columns s = value_map (λ after. s) (columns_after s columns)

-- a worded step over these columns
abbrev pub step_over : List Column → StepSpec → Result StepSpec Refusal
step_over columns (step.Where t) = value_map (λ read. step.Where read) (test_over columns t)
step_over columns s = accepted_step columns s

-- the step that an element is
unfoldable pub step_read : List Column → List ℕ → Result StepSpec Refusal
step_read columns element = and_then (step_over columns) (ok_or (form_in step_forms (words_of element)) BadValue)

-- the steps that elements are, each on the columns behind those before it, or the first refusal
unfoldable pub steps_read : List Column → List (List ℕ) → Result (List StepSpec) Refusal
steps_read columns [] = Ok []
steps_read columns (e ∷ es) = and_then (λ s. value_map (λ ss. s ∷ ss) (steps_read (columns_behind s columns) es))
    (step_read columns e)

-- ---- places

-- the places by their first words
abbrev pub place_forms : Table (Form PlaceSpec)
place_forms = (codes "plain", plain_words) ∷ (codes "day", day_words) ∷ []
  where
    plain_words : Form PlaceSpec
    plain_words [] = Some place.Plain
    plain_words (w ∷ ws) = None

    day_words : Form PlaceSpec
    day_words (c ∷ []) = option_map (λ name. place.Day name) (column_word c)
    day_words _ = None

-- ---- task rules

-- the counters of a unit by their words
abbrev pub unit_counters : Table Counter
unit_counters = (codes "records", counter.Records) ∷ (codes "bad", counter.Bad) ∷ (codes "rows", counter.Rows) ∷
    (codes "unrouted", counter.Unrouted) ∷ []

-- those of a branch
abbrev pub branch_counters : Table (ℕ → Counter)
branch_counters = (codes "written", counter.Written) ∷ (codes "errors", counter.Errors) ∷
    (codes "optional", counter.Optional) ∷ []

-- a branch's counter: its word, a dot, and the number of a branch
abbrev pub branch_counter : ℕ → Form Counter
branch_counter branches (word ∷ b ∷ []) =
    both (λ make n. make n) (at_name branch_counters word) (option_and_then (only_if (λ n. nat_lt n branches))
    (number_read b))
branch_counter branches _ = None

-- the counter that a word is, where there are so many branches
unfoldable pub counter_read : ℕ → List ℕ → Option Counter
counter_read branches word = option_or (at_name unit_counters word) (branch_counter branches (pieces (nat_eq 46) word))

-- a counter, a least and a greatest number
abbrev pub range_words : ℕ → Form TaskRule
range_words branches (c ∷ low ∷ high ∷ []) =
    option_and_then (λ of. both (λ l h. rule.Range of l h) (number_read low) (number_read high))
    (counter_read branches c)
range_words branches _ = None

-- two counters and a number of thousandths
abbrev pub share_words : ℕ → Form TaskRule
share_words branches (c ∷ d ∷ p ∷ []) =
    option_and_then (λ n. both (λ part whole. rule.Share part whole n) (counter_read branches c)
    (counter_read branches d)) (number_within 0 1000 p)
share_words branches _ = None

-- the least number isn't above the greatest
abbrev pub rule_is_right : TaskRule → Bool
rule_is_right (rule.Range c low high) = nat_le low high
rule_is_right (rule.Share c d permille) = true

-- the task rules by their first words
abbrev pub rule_forms : ℕ → Table (Form TaskRule)
rule_forms branches = (codes "range", range_words branches) ∷ (codes "share", share_words branches) ∷ []

-- the task rule that an element is, where there are so many branches
unfoldable pub rule_read : ℕ → List ℕ → Option TaskRule
rule_read branches element = option_and_then (only_if rule_is_right) (form_in (rule_forms branches) (words_of element))
