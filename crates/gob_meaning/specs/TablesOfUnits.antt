-- What units make, and what becomes of them, as tables.
use Rattle.std.specs.Prelude.{◌≡◌, ℕ, ◌-◌, ◌^◌, Bool, true, false, List, [], ◌∷◌, ◌++◌, map, codes}
use Prim.Native.String.{String}
use Rattle.gob_plan.specs.declared.rows.Value.{Value}
use Rattle.gob_plan.specs.declared.rows.Value.TheVariants as value
use Rattle.gob_plan.specs.declared.rows.Kind.TheVariants as kind
use Rattle.gob_plan.specs.declared.rows.Column.{Column}
use Rattle.gob_plan.specs.declared.checks.TestSpec.{TestSpec}
use Rattle.gob_plan.specs.declared.checks.Check.TheVariants as check
use Rattle.gob_plan.specs.declared.checks.How.TheVariants as how
use Rattle.gob_plan.specs.declared.steps.StepSpec.TheVariants as step
use Rattle.gob_plan.specs.declared.plan.Format.TheVariants as format
use Rattle.gob_plan.specs.declared.plan.Mode.{Mode}
use Rattle.gob_plan.specs.declared.plan.Mode.TheVariants as mode
use Rattle.gob_plan.specs.declared.plan.ForkHow.{ForkHow}
use Rattle.gob_plan.specs.declared.plan.ForkHow.TheVariants as fork_how
use Rattle.gob_plan.specs.declared.plan.PlaceSpec.TheVariants as place
use Rattle.gob_plan.specs.declared.plan.PolicySpec.{PolicySpec}
use Rattle.gob_plan.specs.declared.plan.Counter.TheVariants as counter
use Rattle.gob_plan.specs.declared.plan.TaskRule.{TaskRule}
use Rattle.gob_plan.specs.declared.plan.TaskRule.TheVariants.{Range, Share}
use Rattle.gob_plan.specs.declared.plan.TaskPolicy.{TaskPolicy}
use Rattle.gob_plan.specs.declared.plan.BranchSpec.{BranchSpec}
use Rattle.gob_plan.specs.declared.steps.StepSpec.{StepSpec}
use Rattle.gob_plan.specs.declared.plan.Plan.{Plan}
use Rattle.gob_plan.specs.declared.units.Counts.{Counts}
use Rattle.gob_plan.specs.declared.units.Cause.TheVariants.{Kill, BadRecords, Policy, Gone, Torn}
use Rattle.gob_meaning.specs.Policies.{Ruling, pass, to_error, kill, ruling}
use Rattle.gob_meaning.specs.Fork.{picks}
use Rattle.gob_meaning.specs.Items.{Target, out, err, bad}
use Rattle.gob_meaning.specs.Fold.{Delivery, sent_to, deliveries_of, unit_fold, before_stop}
use Rattle.gob_meaning.specs.Sums.{sum_of}
use Rattle.gob_meaning.specs.Results.{Verdict, good, failed, rule_holds, verdict_of}
use Rattle.gob_meaning.specs.Names.{target_name}
use Rattle.gob_meaning.specs.Samples.{text, int, row, text_column, int_column, id_name, test, negation, equals}
use Rattle.gob_meaning.specs.Samples.{at_least, policy, branch, lines_branch, fork, plan, lines_plan, forked_plan}
use Rattle.gob_meaning.specs.Samples.{unit_at, counts, branch_of}

-- ---- a row's policies and branches

-- one column of words
abbrev words : List Column
words = text_column "w" ∷ []

-- a policy that holds of x
abbrev holds : Mode → PolicySpec
holds m = policy (test "w" (equals (text "x"))) m

-- a policy that fails on x
abbrev fails : Mode → PolicySpec
fails m = policy (test "w" (equals (text "y"))) m

-- policies, and what they say of x
abbrev ruling_table : List (List PolicySpec × Ruling × ℕ)
ruling_table =
    ([], pass, 0)
    ∷ (holds mode.Fail ∷ holds mode.ErrFile ∷ holds mode.Optional ∷ [], pass, 0)
    ∷ (fails mode.Fail ∷ [], kill 0, 0)
    ∷ (fails mode.ErrFile ∷ [], to_error 0, 0)
    ∷ (fails mode.Optional ∷ [], pass, 1)
    ∷ (fails mode.Optional ∷ holds mode.Optional ∷ fails mode.Optional ∷ [], pass, 2)
    -- the first failing one that isn't optional decides, and what stands behind it isn't asked
    ∷ (holds mode.Fail ∷ fails mode.Fail ∷ fails mode.Optional ∷ [], kill 1, 0)
    ∷ (fails mode.ErrFile ∷ fails mode.Fail ∷ fails mode.Optional ∷ [], to_error 0, 0)
    ∷ (fails mode.Optional ∷ holds mode.ErrFile ∷ fails mode.Optional ∷ fails mode.ErrFile ∷ [], to_error 3, 2)
    ∷ (fails mode.Optional ∷ fails mode.Fail ∷ [], kill 1, 1)
    ∷ []

-- the policies say so
abbrev pub RulingTable : Type 0
RulingTable = map (λ r. ruling r.0 words (row (text "x" ∷ []))) ruling_table ≡ map (λ r. ruled r) ruling_table
  where
    ruled : List PolicySpec × Ruling × ℕ → Ruling × ℕ
    ruled r = (r.1, r.2)

-- what begins with a, what ends in z, and what is there
abbrev tests : List TestSpec
tests = test "w" (check.Like (codes "a*")) ∷ test "w" (check.Like (codes "*z")) ∷ negation (test "w" check.Null) ∷ []

-- how a fork goes, its tests, a word, and which of three branches take it
abbrev fork_table : List (ForkHow × List TestSpec × Value × List Bool)
fork_table =
    (fork_how.All, [], text "q", true ∷ true ∷ true ∷ [])
    ∷ (fork_how.Each, tests, text "az", true ∷ true ∷ true ∷ [])
    ∷ (fork_how.Each, tests, text "ab", true ∷ false ∷ true ∷ [])
    ∷ (fork_how.Each, tests, value.Null, false ∷ false ∷ false ∷ [])
    ∷ (fork_how.First, tests, text "az", true ∷ false ∷ false ∷ [])
    ∷ (fork_how.First, tests, text "bz", false ∷ true ∷ false ∷ [])
    ∷ (fork_how.First, tests, text "q", false ∷ false ∷ true ∷ [])
    ∷ (fork_how.First, tests, value.Null, false ∷ false ∷ false ∷ [])
    -- a branch without a test takes nothing
    ∷ (fork_how.Each, test "w" (equals (text "q")) ∷ [], text "q", true ∷ false ∷ false ∷ [])
    ∷ []

-- the branches take each word so
abbrev pub ForkTable : Type 0
ForkTable = map (λ r. map (λ b. picks (record { how = r.0; branches = 3; tests = r.1 }) words (row (r.2 ∷ [])) b)
    (0 ∷ 1 ∷ 2 ∷ [])) fork_table ≡ map (λ r. r.3) fork_table

-- ---- what is sent

-- csv of integers and texts, of which so many records may be bad
abbrev ids : ℕ → Plan
ids skip = record (plan format.Csv id_name [] (branch [] [] format.Csv)) { skip_errors = skip }

-- csv with a header line
abbrev with_header : Plan
with_header = record (ids 0) { skip_header = true }

-- a text of integers becomes a row for each, of which 1 kills
abbrev number_rows : ℕ → Plan
number_rows skip = record (plan format.Csv words steps only) { skip_errors = skip }
  where
    steps : List StepSpec
    steps = step.Explode (codes "w") (codes "|") ∷ step.Cast (codes "w") kind.Int ∷ []

    only : BranchSpec
    only = branch [] (policy (negation (test "w" (equals (int 1)))) mode.Fail ∷ []) format.Csv

-- whole lines by policies of each mode
abbrev three_modes : Plan
three_modes = lines_plan (branch []
    (policy (test "line" (check.Bytes 0 1)) mode.Optional
    ∷ policy (negation (test "line" (equals (text "e")))) mode.ErrFile
    ∷ policy (negation (test "line" (equals (text "k")))) mode.Fail ∷ []) format.Lines)

-- what begins with a goes to the first branch, what ends in z to the second
abbrev two_tests : ForkHow → Plan
two_tests how = forked_plan how
    (test "line" (check.Like (codes "a*")) ∷ test "line" (check.Like (codes "*z")) ∷ [])
    (lines_branch ∷ lines_branch ∷ [])

-- one branch changes letters and one doesn't
abbrev upper_first : Plan
upper_first = forked_plan fork_how.All [] (branch (step.Upper (codes "line") ∷ []) [] format.Lines ∷ lines_branch ∷ [])

-- csv by day, where x goes to the error file
abbrev by_day : Plan
by_day = plan format.Csv (int_column "ts" ∷ text_column "m" ∷ []) []
    (record (branch [] (policy (negation (test "m" (equals (text "x")))) mode.ErrFile ∷ []) format.Csv) {
      place = place.Day (codes "ts");
    })

-- two seconds of one day, one of the next, one of none, and one in the error file
abbrev day_text : List ℕ
day_text = codes "0,a\n86400,b\n,c\n86399,d\n86401,x\n"

-- web requests: errors keep two columns and go to csv, all else goes to json
abbrev web_tier : Plan
web_tier = record (plan format.Json columns [] lines_branch) {
  fork = fork fork_how.First (test "status" (at_least (int 400)) ∷ negation (test "status" check.Null) ∷ [])
      (lines_branch ∷ lines_branch ∷ []);
  branches = branch (step.Keep (codes "status" ∷ codes "path" ∷ []) ∷ [])
      (policy (test "status" (check.Compare how.Lt (int 500))) mode.Optional ∷ []) format.Csv
      ∷ branch [] [] format.Json ∷ [];
  task_policies = record { rule = Range counter.Records 1 1000; fails = true } ∷ [];
}
  where
    columns : List Column
    columns = text_column "ip" ∷ text_column "path" ∷ int_column "status" ∷ []

-- a good request and two errors
abbrev web_text : List ℕ
web_text = codes "{\"ip\":\"10.0.0.1\",\"path\":\"/p/0\",\"status\":200,\"took\":0.25}\n"
    ++ codes "{\"ip\":\"10.0.0.2\",\"path\":\"/p/3\",\"status\":404,\"took\":0.25}\n"
    ++ codes "{\"ip\":\"10.0.0.3\",\"path\":\"/p/7\",\"status\":500,\"took\":0.25}\n"

-- a plan, a text at the front of its partition, a target, and what goes there
abbrev pub sent_table : List (Plan × List ℕ × Target × List ℕ)
sent_table =
    -- whole lines go as they are but for one carriage return at their end; what stands behind the last goes nowhere
    (lines_plan lines_branch, codes "a\r\r\nb\r\n\nc", out 0 [], codes "a\r\nb\n\n")
    ∷ (lines_plan lines_branch, codes "a\n", err 0 [], [])
    ∷ (lines_plan lines_branch, codes "a\n", bad, [])
    -- a bad line goes to the file of bad lines as it was
    ∷ (ids 1, codes "1,a\n2\r\n3,c\n", out 0 [], codes "1,a\n3,c\n")
    ∷ (ids 1, codes "1,a\n2\r\n3,c\n", bad, codes "2\r\n")
    -- and as a whole, where one of its rows is bad, or its record
    ∷ (number_rows 1, codes "2|x\n3|4\n", out 0 [], codes "3\n4\n")
    ∷ (number_rows 1, codes "2|x\n3|4\n", bad, codes "2|x\n")
    ∷ (plan format.Json words [] lines_branch, codes "{\"w\":\"a\"}\n{}\n", out 0 [], codes "a\n")
    ∷ (plan format.Json words [] lines_branch, codes "{\"w\":\"a\"}\n{}\n", bad, codes "{}\n")
    -- a header makes nothing
    ∷ (with_header, codes "id,name\n7,a\n", out 0 [], codes "7,a\n")
    ∷ (with_header, codes "id,name\n7,a\n", bad, [])
    -- a row goes on past an optional policy, another sends it to the error file or kills it
    ∷ (three_modes, codes "ab\ne\nk\nc\n", out 0 [], codes "ab\nc\n")
    ∷ (three_modes, codes "ab\ne\nk\nc\n", err 0 [], codes "e\n")
    ∷ (three_modes, codes "ab\ne\nk\nc\n", bad, [])
    -- to each branch that takes it, or to the first one
    ∷ (two_tests fork_how.Each, codes "az\nab\nqq\nbz\n", out 0 [], codes "az\nab\n")
    ∷ (two_tests fork_how.Each, codes "az\nab\nqq\nbz\n", out 1 [], codes "az\nbz\n")
    ∷ (two_tests fork_how.First, codes "az\nab\nqq\nbz\n", out 1 [], codes "bz\n")
    -- a branch's steps are its own
    ∷ (upper_first, codes "a\n", out 0 [], codes "A\n")
    ∷ (upper_first, codes "a\n", out 1 [], codes "a\n")
    -- by day, error files too
    ∷ (by_day, day_text, out 0 (codes "1970/01/01/"), codes "0,a\n86399,d\n")
    ∷ (by_day, day_text, out 0 (codes "1970/01/02/"), codes "86400,b\n")
    ∷ (by_day, day_text, out 0 (codes "none/"), codes ",c\n")
    ∷ (by_day, day_text, err 0 (codes "1970/01/02/"), codes "86401,x\n")
    ∷ (by_day, day_text, out 0 [], [])
    -- web requests
    ∷ (web_tier, web_text, out 0 [], codes "404,/p/3\n500,/p/7\n")
    ∷ (web_tier, web_text, out 1 [], codes "{\"ip\":\"10.0.0.1\",\"path\":\"/p/0\",\"status\":200}\n")
    ∷ []

-- this goes to each target
abbrev pub SentTable : Type 0
SentTable = map (λ r. sent_to r.2 (deliveries_of (unit_fold r.0 0 r.1))) sent_table ≡ map (λ r. r.3) sent_table

-- each target gets its own alone
abbrev target_table : List (Target × List ℕ)
target_table =
    (out 0 [], codes "a")
    ∷ (out 1 [], codes "b")
    ∷ (out 0 (codes "x/"), codes "c")
    ∷ (err 0 [], codes "d")
    ∷ (err 1 [], codes "e")
    ∷ (err 0 (codes "x/"), codes "f")
    ∷ (bad, codes "g")
    ∷ []

-- where one byte goes to each target, each gets its own byte, and all of them one more after it
abbrev pub TargetTable : Type 0
TargetTable = map (λ r. sent_to r.0 (each ++ each)) target_table ≡ map (λ r. r.1 ++ r.1) target_table
  where
    each : List Delivery
    each = map (λ r. record { target = r.0; bytes = r.1 }) target_table

-- ---- counts

-- the end of a u64
abbrev most : ℕ
most = 2 ^ 64 - 1

-- two counts, and both together
abbrev sum_table : List (Counts × Counts × Counts)
sum_table = (
  counts 1 2 3 4 (branch_of 5 6 7 ∷ branch_of 8 9 10 ∷ []),
  counts 10 20 30 40 (branch_of 50 60 70 ∷ []),
  counts 11 22 33 44 (branch_of 55 66 77 ∷ branch_of 8 9 10 ∷ []),
)
    ∷ (counts 0 0 0 0 [], counts 1 2 3 4 (branch_of 5 6 7 ∷ []), counts 1 2 3 4 (branch_of 5 6 7 ∷ []))
    ∷ (
      counts most most most most (branch_of most most most ∷ []),
      counts 0 1 2 3 (branch_of 0 1 2 ∷ []),
      counts most most most most (branch_of most most most ∷ []),
    )
    ∷ []

-- counts add up so
abbrev pub SumTable : Type 0
SumTable = map (λ r. sum_of r.0 r.1) sum_table ≡ map (λ r. r.2) sum_table

-- ten records, and other counts of which no two are alike
abbrev ten : Counts
ten = counts 10 2 30 4 (branch_of 5 6 7 ∷ branch_of 8 9 11 ∷ [])

-- a rule, and whether it holds of these
abbrev rule_table : List (TaskRule × Bool)
rule_table =
    (Range counter.Records 10 10, true)
    ∷ (Range counter.Bad 2 2, true)
    ∷ (Range counter.Rows 30 30, true)
    ∷ (Range counter.Unrouted 4 4, true)
    ∷ (Range (counter.Written 0) 5 5, true)
    ∷ (Range (counter.Written 1) 8 8, true)
    ∷ (Range (counter.Errors 0) 6 6, true)
    ∷ (Range (counter.Errors 1) 9 9, true)
    ∷ (Range (counter.Optional 0) 7 7, true)
    ∷ (Range (counter.Optional 1) 11 11, true)
    ∷ (Range (counter.Written 2) 0 0, true)
    -- both ends are within a range
    ∷ (Range counter.Records 0 9, false)
    ∷ (Range counter.Records 11 20, false)
    ∷ (Range counter.Records 0 20, true)
    -- the first is at most so many thousandths of the second
    ∷ (Share counter.Bad counter.Records 200, true)
    ∷ (Share counter.Bad counter.Records 199, false)
    ∷ (Share counter.Records counter.Bad 200, false)
    ∷ (Share counter.Records counter.Records 1000, true)
    ∷ (Share counter.Records counter.Records 999, false)
    ∷ []

-- each rule holds so
abbrev pub RuleTable : Type 0
RuleTable = map (λ r. rule_holds r.0 ten) rule_table ≡ map (λ r. r.1) rule_table

-- ---- results

-- a task policy that holds of two records
abbrev task_holds : Bool → TaskPolicy
task_holds fails = record { rule = Range counter.Records 2 2; fails = fails }

-- one that doesn't
abbrev task_fails : Bool → TaskPolicy
task_fails fails = record { rule = Range counter.Records 3 9; fails = fails }

-- whole lines with task policies
abbrev ruled : List TaskPolicy → Plan
ruled policies = record (lines_plan lines_branch) { task_policies = policies }

-- two lines
abbrev two_lines : List ℕ
two_lines = codes "a\nb\n"

-- both are written, with these warnings
abbrev two_good : List ℕ → Verdict
two_good warnings = good (counts 2 0 2 0 (branch_of 2 0 0 ∷ [])) warnings

-- of four rows so many go to no branch, to the first and to the second one
abbrev of_four : ℕ → ℕ → ℕ → Verdict
of_four unrouted first second = good (counts 4 0 4 unrouted (branch_of first 0 0 ∷ branch_of second 0 0 ∷ [])) []

-- a branch that does nothing, and two that kill what isn't x
abbrev two_kills : Plan
two_kills = forked_plan fork_how.All [] (lines_branch ∷ killing mode.Optional ∷ killing mode.Fail ∷ [])
  where
    is_x : Mode → PolicySpec
    is_x m = policy (test "line" (equals (text "x"))) m

    killing : Mode → BranchSpec
    killing first = branch [] (is_x first ∷ is_x mode.Fail ∷ []) format.Lines

-- a plan, an offset, a text that stands there, and what becomes of a unit of it
abbrev pub result_table : List (Plan × ℕ × List ℕ × Verdict)
result_table =
    (lines_plan lines_branch, 0, codes "a\nb\n", two_good [])
    -- a unit must end in a line feed
    ∷ (lines_plan lines_branch, 0, codes "a\nb", failed Torn)
    ∷ (lines_plan lines_branch, 0, [], failed Torn)
    -- bad records: one more than may pass fails the unit, with its offset; the others count as records and as bad
    ∷ (lines_plan lines_branch, 0, codes "a\n" ++ 255 ∷ codes "\n", failed (BadRecords 2))
    ∷ (ids 0, 100, codes "1,a\n2\n3\n", failed (BadRecords 104))
    ∷ (ids 1, 100, codes "1,a\n2\n3\n", failed (BadRecords 106))
    ∷ (ids 2, 100, codes "1,a\n2\n3\n", good (counts 3 2 1 0 (branch_of 1 0 0 ∷ [])) [])
    ∷ (ids 0, 0, codes "1,a\n2", failed Torn)
    ∷ (ids 0, 0, codes "2\n1", failed (BadRecords 0))
    -- an empty line of csv counts as a record without a row; one line may make two rows
    ∷ (ids 0, 0, codes "\n1,a\r2,b\n", good (counts 2 0 2 0 (branch_of 2 0 0 ∷ [])) [])
    -- only the line at offset 0 is a header
    ∷ (with_header, 0, codes "id,name\n7,a\n", good (counts 1 0 1 0 (branch_of 1 0 0 ∷ [])) [])
    ∷ (with_header, 8, codes "7,a\n", good (counts 1 0 1 0 (branch_of 1 0 0 ∷ [])) [])
    -- rows of the error file and optional policies count in their branch
    ∷ (three_modes, 0, codes "ab\nc\ne\n", good (counts 3 0 3 0 (branch_of 2 1 1 ∷ [])) [])
    -- the first line with a kill, and in it the first kill by row, branch and row made
    ∷ (three_modes, 50, codes "ab\nk\nk\n", failed (Kill 0 2 53))
    ∷ (number_rows 0, 0, codes "2|1\n", failed (Kill 0 0 0))
    ∷ (two_kills, 0, codes "a\n", failed (Kill 1 1 0))
    -- in a line with a bad row a kill doesn't count
    ∷ (number_rows 1, 0, codes "1|x\n", good (counts 1 1 0 0 (branch_of 0 0 0 ∷ [])) [])
    ∷ (number_rows 0, 0, codes "x\n1\n", failed (BadRecords 0))
    ∷ (number_rows 0, 0, codes "1\nx\n", failed (Kill 0 0 0))
    -- rows that no branch takes
    ∷ (two_tests fork_how.Each, 0, codes "az\nab\nqq\nbz\n", of_four 1 2 2)
    ∷ (two_tests fork_how.First, 0, codes "az\nab\nqq\nbz\n", of_four 1 2 1)
    -- the first failing task policy that isn't optional fails the unit, else those that fail are warnings
    ∷ (ruled (task_holds true ∷ task_holds false ∷ []), 0, two_lines, two_good [])
    ∷ (ruled (task_fails false ∷ task_holds true ∷ task_fails false ∷ []), 0, two_lines, two_good (0 ∷ 2 ∷ []))
    ∷ (ruled (task_fails false ∷ task_fails true ∷ task_fails true ∷ []), 0, two_lines, failed (Policy 1))
    ∷ (ruled (task_fails true ∷ []), 0, codes "a\nb", failed Torn)
    -- web requests
    ∷ (web_tier, 0, web_text, good (counts 3 0 3 0 (branch_of 2 0 1 ∷ branch_of 1 0 0 ∷ [])) [])
    ∷ []

-- each unit ends so
abbrev pub ResultTable : Type 0
ResultTable = map (λ r. verdict_of r.0 (unit_at r.1 r.2) r.2) result_table ≡ map (λ r. r.3) result_table

-- a unit whose partition isn't listed is gone
abbrev pub GoneUnit : Type 0
GoneUnit = verdict_of (ids 0) (record (unit_at 0 (codes "1,a\n")) { listed = false }) (codes "1,a\n") ≡ failed Gone

-- a plan, a text, and the offsets of the lines before the one that stops a unit of it
abbrev pub stop_table : List (Plan × List ℕ × List ℕ)
stop_table =
    (ids 0, codes "1,a\n2\n3,c\n", 0 ∷ [])
    ∷ (ids 1, codes "1,a\n2\n3\n4,d\n", 0 ∷ 4 ∷ [])
    ∷ (ids 2, codes "1,a\n2\n3\n4,d\n", 0 ∷ 4 ∷ 6 ∷ 8 ∷ [])
    ∷ (three_modes, codes "a\nk\nb\n", 0 ∷ [])
    ∷ []

-- these lines stand before the one that stops
abbrev pub StopTable : Type 0
StopTable = map (λ r. map (λ f. f.at) (before_stop r.0 (unit_fold r.0 0 r.1))) stop_table ≡ map (λ r. r.2) stop_table

-- ---- names

-- the offsets 4 to 10 of the partition web1/a, in a folder and with an extension
abbrev named : String → String → List ℕ
named folder extension =
    codes folder ++ codes "web1%2Fa@00000000000000000004-00000000000000000010." ++ codes extension

-- a plan, a target, and the name of its file for these offsets
abbrev name_table : List (Plan × Target × List ℕ)
name_table =
    (lines_plan lines_branch, out 0 [], named "out/0/" "txt")
    ∷ (ids 0, err 0 [], named "err/0/" "csv")
    ∷ (web_tier, out 0 [], named "out/0/" "csv")
    ∷ (web_tier, out 1 [], named "out/1/" "json")
    ∷ (by_day, out 0 (codes "1970/01/02/"), named "out/0/1970/01/02/" "csv")
    ∷ (by_day, err 0 (codes "none/"), named "err/0/none/" "csv")
    ∷ (ids 0, bad, named "err/line/" "raw")
    ∷ []

-- the files are called so
abbrev pub NameTable : Type 0
NameTable = map (λ r. target_name r.0 (codes "web1/a") 4 10 r.1) name_table ≡ map (λ r. r.2) name_table
