-- What job files read as, key by key: values, defaults, ranges, words, and which fault comes first.
use Prim.Native.String.{String}
use Rattle.std.specs.Prelude.{◌≡◌, ℕ, ◌+◌, Bool, true, false, pos, List, [], ◌∷◌, ◌++◌, map, take, drop, zip, length}
use Rattle.std.specs.Prelude.{replicate, codes}
use Rattle.std.specs.declared.option.Option.{Option}
use Rattle.std.specs.declared.option.Option.TheVariants.{None, Some}
use Rattle.std.specs.declared.result.Result.TheVariants.{Ok}
use Rattle.std.specs.Option.{is_some, option_map, unwrap_or}
use Rattle.std.specs.List.{range_with_len, enumerate_from, repeat, flat_map}
use Rattle.std.specs.Fmt.{decimal}
use Rattle.gob_bytes.specs.Tables.{Table}
use Rattle.gob_plan.specs.declared.rows.Kind.TheVariants as kind
use Rattle.gob_plan.specs.declared.rows.Value.TheVariants as value
use Rattle.gob_plan.specs.declared.checks.How.TheVariants as how
use Rattle.gob_plan.specs.declared.checks.Check.TheVariants as check
use Rattle.gob_plan.specs.declared.steps.StepSpec.TheVariants as step
use Rattle.gob_plan.specs.declared.plan.CommitPolicy.TheVariants.{Full, Successful}
use Rattle.gob_plan.specs.declared.plan.CommitScope.TheVariants as scope
use Rattle.gob_plan.specs.declared.plan.Counter.TheVariants as counter
use Rattle.gob_plan.specs.declared.plan.ForkHow.TheVariants as fork_how
use Rattle.gob_plan.specs.declared.plan.Format.TheVariants as format
use Rattle.gob_plan.specs.declared.plan.Mode.TheVariants as mode
use Rattle.gob_plan.specs.declared.plan.PlaceSpec.TheVariants as place
use Rattle.gob_plan.specs.declared.plan.Plan.{Plan}
use Rattle.gob_plan.specs.declared.plan.TaskRule.TheVariants as rule
use Rattle.gob_meaning.specs.Job.{Job, plain_file, plain_job}
use Rattle.gob_jobs.specs.KeyTable.{Row, first_rows, branch_rows, last_rows, key_table}
use Rattle.gob_jobs.specs.Reading.{JobFault, missing, bad_value, bad_policy_count, no_column, bad_kind, interpolation}
use Rattle.gob_jobs.specs.Reading.{own_key, job_of, job_in_file, unknown_keys, pipeline_of}
use Rattle.gob_meaning.specs.Samples.{column}
use Rattle.gob_jobs.specs.Samples.{AllRead, AllAre, column_test, fault_in, job_fault_of, key_value}

-- ---- jobs

-- the plain file describes the plain job, whose limits are the table's
abbrev pub PlainFile : Type 0
PlainFile = job_in_file (codes "j1") plain_file ≡ Ok (Ok (record (plain_job (codes "j1")) {
  limits = record { prefix = []; max_bytes = 1048576; max_new_units = 1000 };
  turns = record { slots = 1; piece = 65536; schedule = 0 ∷ [] };
}))

-- a file with each key, for two branches
abbrev pub full_entries : Table (List ℕ)
full_entries =
    key_value "job.name" "any ${"
    ∷ key_value "source.class" "files"
    ∷ key_value "source.prefix" " web/ "
    ∷ key_value "source.format" "csv"
    ∷ key_value "source.columns" "a:text,i:int"
    ∷ key_value "source.skip.header" "true"
    ∷ key_value "source.max.bytes.per.unit" "11"
    ∷ key_value "source.max.new.units" "12"
    ∷ key_value "converter.classes" "upper a; copy i n"
    ∷ key_value "task.skip.error.records" "13"
    ∷ key_value "fork.operator.class" "each"
    ∷ key_value "fork.branches" "2"
    ∷ key_value "fork.test.0" "null i"
    ∷ key_value "converter.classes.0" "keep a"
    ∷ key_value "qualitychecker.row.policies.0" "eq a x; null a; not null a"
    ∷ key_value "qualitychecker.row.policy.types.0" "OPTIONAL,FAIL,ERR_FILE"
    ∷ key_value "writer.format.0" "lines"
    ∷ key_value "writer.placer.0" "plain"
    ∷ key_value "fork.test.1" "not null n"
    ∷ key_value "converter.classes.1" ""
    ∷ key_value "qualitychecker.row.policies.1" "null n"
    ∷ key_value "qualitychecker.row.policy.types.1" "FAIL"
    ∷ key_value "writer.format.1" "json"
    ∷ key_value "writer.placer.1" "day n"
    ∷ key_value "qualitychecker.task.policies" "range records 1 2; share bad rows 5"
    ∷ key_value "qualitychecker.task.policy.types" "OPTIONAL,FAIL"
    ∷ key_value "job.commit.policy" "successful"
    ∷ key_value "task.maxretries" "14"
    ∷ key_value "task.slots" "15"
    ∷ key_value "task.piece.bytes" "16"
    ∷ key_value "task.schedule" "1,0"
    ∷ key_value "job.commit.scope" "dataset"
    ∷ []

-- the same without an interpolation
abbrev pub each_entry : Table (List ℕ)
each_entry = key_value "job.name" "any" ∷ drop 1 full_entries

-- its plan
abbrev pub full_plan : Plan
full_plan = record {
  format = format.Csv;
  columns = column "a" kind.Text ∷ column "i" kind.Int ∷ [];
  skip_header = true;
  steps = step.Upper (codes "a") ∷ step.Copy (codes "i") (codes "n") ∷ [];
  skip_errors = 13;
  fork = record {
    how = fork_how.Each;
    branches = 2;
    tests = column_test false "i" check.Null ∷ column_test true "n" check.Null ∷ [];
  };
  branches = record {
    steps = step.Keep (codes "a" ∷ []) ∷ [];
    policies = record {
      test = column_test false "a" (check.Compare how.Eq (value.Text (codes "x")));
      mode =
          mode.Optional;
    }
        ∷ record { test = column_test false "a" check.Null; mode = mode.Fail }
        ∷ record { test = column_test true "a" check.Null; mode = mode.ErrFile }
        ∷ [];
    format = format.Lines;
    place = place.Plain;
  } ∷ record {
    steps = [];
    policies = record { test = column_test false "n" check.Null; mode = mode.Fail } ∷ [];
    format = format.Json;
    place = place.Day (codes "n");
  } ∷ [];
  task_policies = record { rule = rule.Range counter.Records 1 2; fails = false } ∷ record
      { rule = rule.Share counter.Bad counter.Rows 5; fails = true } ∷ [];
}

-- its pipeline text
abbrev pub full_pipeline : List ℕ
full_pipeline = codes "source.format=csv\nsource.columns=a%3Atext%2Ci%3Aint\nsource.skip.header=true\n"
    ++ codes "converter.classes=upper%20a%3B%20copy%20i%20n\nfork.operator.class=each\nfork.branches=2\n"
    ++ codes "fork.test.0=null%20i\nconverter.classes.0=keep%20a\n"
    ++ codes "qualitychecker.row.policies.0=eq%20a%20x%3B%20null%20a%3B%20not%20null%20a\n"
    ++ codes "qualitychecker.row.policy.types.0=OPTIONAL%2CFAIL%2CERR_FILE\nwriter.format.0=lines\n"
    ++ codes "writer.placer.0=plain\nfork.test.1=not%20null%20n\nconverter.classes.1=\n"
    ++ codes "qualitychecker.row.policies.1=null%20n\nqualitychecker.row.policy.types.1=FAIL\nwriter.format.1=json\n"
    ++ codes "writer.placer.1=day%20n\n"

-- its job
abbrev pub FullFile : Type 0
FullFile = job_of (codes "j2") each_entry ≡ Ok (record {
  name = codes "j2";
  plan = full_plan;
  limits = record { prefix = codes "web/"; max_bytes = 11; max_new_units = 12 };
  turns = record { slots = 15; piece = 16; schedule = 1 ∷ 0 ∷ [] };
  max_retries = 14;
  policy = Successful;
  scope = scope.Dataset;
  pipeline = full_pipeline;
})

-- ---- the order of reading

-- the same keys, each with a value that is refused
abbrev pub refused_entries : Table (List ℕ)
refused_entries = map (λ e. (e.0, codes "a ${b}")) full_entries

-- where the first so many keys are right, the next one is refused; keys that count for no branch aren't read
abbrev pub FirstFaults : Type 0
FirstFaults = map (λ n. job_fault_of (take n each_entry ++ drop n refused_entries)) (range_with_len 0 33) ≡ map
    (λ e. Some (interpolation e.0)) full_entries ++ None ∷ []

-- each key that has to be there
abbrev pub MissingKeys : Type 0
MissingKeys = AllRead fault_in (
    ("writer.format=lines", Some (missing (codes "source.format")))
    ∷ ("source.format=csv\nwriter.format=csv", Some (missing (codes "source.columns")))
    ∷ ("source.format=json\nwriter.format=csv", Some (missing (codes "source.columns")))
    ∷ ("source.format=lines", Some (missing (codes "writer.format")))
    ∷ ("source.format=lines\nfork.branches=2", Some (missing (codes "writer.format.0")))
    ∷ ("source.format=lines\nfork.branches=2\nwriter.format.0=csv", Some (missing (codes "writer.format.1")))
    ∷ ("source.format=lines\nfork.branches=2\nwriter.format=csv", None)
    ∷ ("source.format=lines\nwriter.format.0=csv", None)
    ∷ ("source.format=lines\nwriter.format.1=csv", Some (missing (codes "writer.format")))
    ∷ ("source.format=lines\nfork.operator.class=each\nwriter.format=csv", Some (missing (codes "fork.test.0")))
    ∷ (
      "source.format=lines\nfork.operator.class=first\nfork.branches=2\nfork.test.0=null line\nwriter.format=csv",
      Some (missing (codes "fork.test.1")),
    )
    ∷ [])

-- present and empty isn't absent (a text of a table is one literal, whatever its length)
abbrev pub EmptyValues : Type 0
EmptyValues = AllRead fault_in (
    ("source.format=", Some (bad_value (codes "source.format")))
    ∷ ("source.format=lines\nwriter.format=", Some (bad_value (codes "writer.format")))
    ∷ ("source.format=lines\nsource.class=\nwriter.format=lines", Some (bad_value (codes "source.class")))
    ∷ ("source.format=lines\nsource.columns=\nwriter.format=lines", None)
    ∷ ("source.format=lines\nsource.columns=line:text\nwriter.format=lines", Some (bad_value (codes "source.columns")))
    ∷ ("source.format=csv\nsource.columns=\nwriter.format=csv", Some (bad_value (codes "source.columns")))
    ∷ ("source.format=lines\nwriter.format=lines\nfork.branches=", Some (bad_value (codes "fork.branches")))
    ∷ ("source.format=lines\nwriter.format=lines\nfork.test.0=", None)
    ∷ ("source.format=lines\nwriter.format=lines\nfork.test.0=null line", Some (bad_value (codes "fork.test.0")))
    ∷ (
      "source.format=lines\nwriter.format=lines\nfork.operator.class=each\nfork.test.0=",
      Some (bad_value (codes "fork.test.0")),
    )
    ∷ (
      "source.format=lines\nwriter.format=lines\nfork.operator.class=first\nfork.test.0=",
      Some (bad_value (codes "fork.test.0")),
    )
    ∷ ("source.format=lines\nwriter.format=lines\nconverter.classes=\nconverter.classes.0=\nqualitychecker.row.policies=\nqualitychecker.row.policy.types=\nqualitychecker.task.policies=\nqualitychecker.task.policy.types=\nsource.prefix=\njob.name=", None)
    ∷ ("source.format=lines\nwriter.format=lines\nwriter.placer=", Some (bad_value (codes "writer.placer")))
    ∷ ("source.format=lines\nwriter.format=lines\ntask.schedule=", Some (bad_value (codes "task.schedule")))
    ∷ ("source.format=lines\nwriter.format=lines\njob.commit.scope=", Some (bad_value (codes "job.commit.scope")))
    ∷ [])

-- ---- numbers and words

-- whole lines, read and written, and this value at this key
abbrev pub lines_with : List ℕ → List ℕ → Option JobFault
lines_with key text = job_fault_of ((key, text) ∷ key_value "source.format" "lines" ∷ key_value "writer.format" "lines"
    ∷ [])

-- the key takes the numbers from the first to the last, and none past them
abbrev pub takes_from_to : String × ℕ × ℕ → List (Option JobFault)
takes_from_to r = map (λ text. lines_with (codes r.0) text) (decimal r.1 ∷ decimal r.2 ∷ decimal (r.2 + 1) ∷ [])

-- each number's range, up to its end, and one past it
abbrev pub NumberRanges : Type 0
NumberRanges = let ranges : List (String × ℕ × ℕ) =
    ("source.max.bytes.per.unit", 1, 1073741824)
    ∷ ("source.max.new.units", 1, 10000)
    ∷ ("task.skip.error.records", 0, 1000000000)
    ∷ ("fork.branches", 1, 8)
    ∷ ("task.maxretries", 0, 100)
    ∷ ("task.slots", 1, 64)
    ∷ ("task.piece.bytes", 1, 1048576)
    ∷ ("task.schedule", 0, 63)
    ∷ [] in
    map takes_from_to ranges ≡ map (λ r. None ∷ None ∷ Some (bad_value (codes r.0)) ∷ []) ranges

-- below a range there is nothing; numbers have one form
abbrev pub NoNumbers : Type 0
NoNumbers = AllAre (λ (e : String × String). lines_with (codes e.0) (codes e.1)) (
    (("source.max.bytes.per.unit", "0"), Some (bad_value (codes "source.max.bytes.per.unit")))
    ∷ (("source.max.new.units", "0"), Some (bad_value (codes "source.max.new.units")))
    ∷ (("task.skip.error.records", "-1"), Some (bad_value (codes "task.skip.error.records")))
    ∷ (("fork.branches", "0"), Some (bad_value (codes "fork.branches")))
    ∷ (("task.maxretries", "+1"), Some (bad_value (codes "task.maxretries")))
    ∷ (("task.slots", "0"), Some (bad_value (codes "task.slots")))
    ∷ (("task.slots", " 1\t"), None)
    ∷ (("task.slots", "1\r"), Some (bad_value (codes "task.slots")))
    ∷ (("task.slots", "01"), Some (bad_value (codes "task.slots")))
    ∷ (("task.piece.bytes", "0"), Some (bad_value (codes "task.piece.bytes")))
    ∷ [])

-- each word that a key takes, and words that it doesn't
abbrev pub Words : Type 0
Words = AllAre (λ (e : String × String). lines_with (codes e.0) (codes e.1)) (
    (("source.class", "files"), None)
    ∷ (("source.class", "jdbc"), Some (bad_value (codes "source.class")))
    ∷ (("source.format", "xml"), Some (bad_value (codes "source.format")))
    ∷ (("source.format", "Lines"), Some (bad_value (codes "source.format")))
    ∷ (("source.skip.header", "true"), None)
    ∷ (("source.skip.header", "false"), None)
    ∷ (("source.skip.header", "yes"), Some (bad_value (codes "source.skip.header")))
    ∷ (("fork.operator.class", "all"), None)
    ∷ (("fork.operator.class", "each"), Some (missing (codes "fork.test.0")))
    ∷ (("fork.operator.class", "first"), Some (missing (codes "fork.test.0")))
    ∷ (("fork.operator.class", "last"), Some (bad_value (codes "fork.operator.class")))
    ∷ (("writer.format.0", "json"), None)
    ∷ (("writer.format.0", "xml"), Some (bad_value (codes "writer.format.0")))
    ∷ (("writer.placer", "plain"), None)
    ∷ (("writer.placer", "hour"), Some (bad_value (codes "writer.placer")))
    ∷ (("job.commit.policy", "full"), None)
    ∷ (("job.commit.policy", "successful"), None)
    ∷ (("job.commit.policy", "partial"), Some (bad_value (codes "job.commit.policy")))
    ∷ (("job.commit.scope", "job"), None)
    ∷ (("job.commit.scope", "dataset"), None)
    ∷ (("job.commit.scope", "unit"), Some (bad_value (codes "job.commit.scope")))
    ∷ [])

-- ---- lists

-- whole lines with these keys and values
abbrev pub lines_and : Table (List ℕ) → Option JobFault
lines_and entries = job_fault_of (key_value "source.format" "lines" ∷ key_value "writer.format" "lines" ∷ entries)

-- so many of this text, between these separators
abbrev pub so_many : ℕ → String → String → List ℕ
so_many n separator text = repeat n (codes text ++ codes separator) ++ codes text

-- lists as long as they may be, and longer by one
abbrev pub LongLists : Type 0
LongLists = AllAre lines_and (
    ((codes "converter.classes", so_many 31 ";" "upper line") ∷ [], None)
    ∷ ((codes "converter.classes", so_many 32 ";" "upper line") ∷ [], Some (bad_value (codes "converter.classes")))
    ∷ ((codes "converter.classes.0", so_many 31 ";" "upper line") ∷ [], None)
    ∷ ((codes "converter.classes.0", so_many 32 ";" "upper line") ∷ [], Some (bad_value (codes "converter.classes.0")))
    ∷ (
      (codes "qualitychecker.row.policies", so_many 15 ";" "null line") ∷
          (codes "qualitychecker.row.policy.types", so_many 15 "," "FAIL") ∷ [],
      None,
    )
    ∷ (
      (codes "qualitychecker.row.policies", so_many 16 ";" "null line") ∷
          (codes "qualitychecker.row.policy.types", so_many 16 "," "FAIL") ∷ [],
      Some (bad_value (codes "qualitychecker.row.policies")),
    )
    ∷ (
      (codes "qualitychecker.row.policies", so_many 15 ";" "null line") ∷
          (codes "qualitychecker.row.policy.types", so_many 16 "," "FAIL") ∷ [],
      Some (bad_policy_count (codes "qualitychecker.row.policy.types")),
    )
    ∷ (
      (codes "qualitychecker.task.policies", so_many 15 ";" "range rows 0 1") ∷
          (codes "qualitychecker.task.policy.types", so_many 15 "," "FAIL") ∷ [],
      None,
    )
    ∷ (
      (codes "qualitychecker.task.policies", so_many 16 ";" "range rows 0 1") ∷
          (codes "qualitychecker.task.policy.types", so_many 16 "," "FAIL") ∷ [],
      Some (bad_value (codes "qualitychecker.task.policies")),
    )
    ∷ ((codes "task.schedule", so_many 63 "," "1") ∷ [], None)
    ∷ ((codes "task.schedule", so_many 64 "," "1") ∷ [], Some (bad_value (codes "task.schedule")))
    ∷ [])

-- sixty-four columns, and one more
abbrev pub ManyColumns : Type 0
ManyColumns = AllAre (λ n. job_fault_of (key_value "source.format" "csv" ∷ (
  codes "source.columns",
  codes "c:int" ++ flat_map (λ i. codes ",c" ++ decimal i ++ codes ":int")
      (range_with_len 0 n),
) ∷ key_value "writer.format" "csv" ∷ []))
    ((63, None) ∷ (64, Some (bad_value (codes "source.columns"))) ∷ [])

-- ---- policies and branches

-- the number of modes, and which fault goes first
abbrev pub Policies : Type 0
Policies = AllAre lines_and ((
  key_value "qualitychecker.row.policies" "null line" ∷ [],
  Some
      (bad_policy_count (codes "qualitychecker.row.policy.types")),
)
    ∷ (
      key_value "qualitychecker.row.policies.0" "null line" ∷ [],
      Some (bad_policy_count (codes "qualitychecker.row.policy.types")),
    )
    ∷ (
      key_value "qualitychecker.row.policy.types.0" "FAIL" ∷ [],
      Some (bad_policy_count (codes "qualitychecker.row.policy.types.0")),
    )
    ∷ (
      key_value "qualitychecker.row.policies" "null line" ∷ key_value "qualitychecker.row.policy.types" "FAIL,OPTIONAL"
          ∷ [],
      Some (bad_policy_count (codes "qualitychecker.row.policy.types")),
    )
    ∷ (
      key_value "qualitychecker.row.policies" "null line" ∷ key_value "qualitychecker.row.policy.types" "FAIL,fail"
          ∷ [],
      Some (bad_value (codes "qualitychecker.row.policy.types")),
    )
    ∷ (
      key_value "qualitychecker.row.policies" "null line; null zz" ∷ key_value "qualitychecker.row.policy.types" "fail"
          ∷ [],
      Some (no_column (codes "qualitychecker.row.policies") (codes "zz")),
    )
    ∷ (
      key_value "qualitychecker.row.policies" "null zz; null" ∷ [],
      Some (no_column (codes "qualitychecker.row.policies") (codes "zz")),
    )
    ∷ (
      key_value "qualitychecker.row.policies" "null zz; ;" ∷ [],
      Some
          (bad_value (codes "qualitychecker.row.policies")),
    )
    ∷ (
      key_value "qualitychecker.task.policies" "range records 2 9; share bad records 0" ∷ key_value
          "qualitychecker.task.policy.types" "FAIL,OPTIONAL" ∷ [],
      None,
    )
    ∷ (
      key_value "qualitychecker.task.policies" "range records 2 9" ∷ [],
      Some (bad_policy_count (codes "qualitychecker.task.policy.types")),
    )
    ∷ (
      key_value "qualitychecker.task.policies" "range records 2 9"
          ∷ key_value "qualitychecker.task.policy.types" "ERR_FILE" ∷
          [],
      Some (bad_value (codes "qualitychecker.task.policy.types")),
    )
    ∷ (
      key_value "qualitychecker.task.policies" "range written.1 2 9" ∷ key_value "fork.branches" "1" ∷ [],
      Some (bad_value (codes "qualitychecker.task.policies")),
    )
    ∷ (
      key_value "qualitychecker.task.policies" "range written.1 2 9"
          ∷ key_value "qualitychecker.task.policy.types" "FAIL" ∷
          key_value "fork.branches" "2" ∷ [],
      None,
    )
    ∷ [])

-- the key of a branch goes before that of all branches; only what counts is read
abbrev pub BranchKeys : Type 0
BranchKeys = AllAre job_fault_of ((
  key_value "source.format" "lines" ∷ key_value "writer.format" "${x}" ∷ key_value "writer.format.0" "csv"
      ∷ [],
  None,
)
    ∷ (
      key_value "source.format" "lines" ∷ key_value "writer.format" "csv" ∷ key_value "writer.format.0" "${x}" ∷ [],
      Some (interpolation (codes "writer.format.0")),
    )
    ∷ (
      key_value "source.format" "lines" ∷ key_value "writer.format" "csv" ∷ key_value "writer.format.1" "${x}"
          ∷ [],
      None,
    )
    ∷ (
      key_value "source.format" "lines" ∷ key_value "writer.format" "xml" ∷ key_value "fork.branches" "2"
          ∷ key_value "writer.format.0"
          "csv" ∷ [],
      Some (bad_value (codes "writer.format")),
    )
    ∷ (
      key_value "source.format" "lines" ∷ key_value "writer.format" "csv" ∷ key_value "fork.test" "${x}"
          ∷ key_value "job.title" "${x}"
          ∷ [],
      None,
    )
    ∷ (
      key_value "source.format" "lines" ∷ key_value "writer.format" "csv" ∷ key_value "writer.placer" "day line" ∷ [],
      Some (bad_kind (codes "writer.placer") (codes "line")),
    )
    ∷ (
      key_value "source.format" "lines" ∷ key_value "writer.format" "csv"
          ∷ key_value "converter.classes" "cast line int" ∷ key_value
          "converter.classes.0" "rename line n" ∷ key_value "writer.placer.0" "day n" ∷ [],
      None,
    )
    ∷ (
      key_value "source.format" "lines" ∷ key_value "writer.format" "csv"
          ∷ key_value "converter.classes" "rename line n" ∷ key_value
          "fork.operator.class" "each" ∷ key_value "fork.test.0" "null line" ∷ [],
      Some (no_column (codes "fork.test.0") (codes "line")),
    )
    ∷ (
      key_value "source.format" "lines" ∷ key_value "writer.format" "lines"
          ∷ key_value "converter.classes.0" "copy line n" ∷ [],
      Some (bad_kind (codes "writer.format") (codes "n")),
    )
    ∷ [])

-- `${` anywhere in a value, and neither of its halves alone
abbrev pub Interpolations : Type 0
Interpolations = AllRead (lines_with (codes "source.prefix")) (
    ("${", Some (interpolation (codes "source.prefix")))
    ∷ ("a${b}", Some (interpolation (codes "source.prefix")))
    ∷ ("$${", Some (interpolation (codes "source.prefix")))
    ∷ ("$", None)
    ∷ ("{$", None)
    ∷ ("$ {", None)
    ∷ [])

-- ---- keys that aren't known

-- by the number of branches
abbrev pub UnknownKeys : Type 0
UnknownKeys = let keys : Table (List ℕ) = map (λ row. (row.key, [])) key_table
    ++ map (λ row. (row.key ++ codes ".0", [])) branch_rows ++ map (λ row. (row.key ++ codes ".1", [])) branch_rows
    ++ key_value "writer.format.00" "" ∷ key_value "writer.format." "" ∷ key_value "task.slots.0" "" ∷ key_value
    "data.publisher.final.dir" "" ∷ key_value "" "" ∷ key_value "writer.format.2" "" ∷ [] in
    AllAre (λ (branches : Table (List ℕ)). unknown_keys (branches ++ keys)) ((
      [],
      codes "fork.test" ∷ map (λ row. row.key ++ codes ".1") branch_rows
          ++ codes "writer.format.00" ∷ codes "writer.format." ∷ codes "task.slots.0"
          ∷ codes "data.publisher.final.dir" ∷
          [] ∷ codes "writer.format.2" ∷ [],
    )
    ∷ (
      key_value "fork.branches" " 2 " ∷ [],
      codes "fork.test" ∷ codes "writer.format.00" ∷ codes "writer.format." ∷ codes
          "task.slots.0" ∷ codes "data.publisher.final.dir" ∷ [] ∷ codes "writer.format.2" ∷ [],
    )
    ∷ (
      key_value "fork.branches" "8" ∷ [],
      codes "fork.test" ∷ codes "writer.format.00" ∷ codes "writer.format." ∷ codes
          "task.slots.0" ∷ codes "data.publisher.final.dir" ∷ [] ∷ [],
    )
    ∷ (
      key_value "fork.branches" "9" ∷ [],
      codes "fork.test" ∷ map (λ row. row.key ++ codes ".1") branch_rows
          ++ codes "writer.format.00" ∷ codes "writer.format." ∷ codes "task.slots.0"
          ∷ codes "data.publisher.final.dir" ∷
          [] ∷ codes "writer.format.2" ∷ [],
    )
    ∷ (
      key_value "fork.branches" "0" ∷ [],
      codes "fork.test" ∷ map (λ row. row.key ++ codes ".1") branch_rows
          ++ codes "writer.format.00" ∷ codes "writer.format." ∷ codes "task.slots.0"
          ∷ codes "data.publisher.final.dir" ∷
          [] ∷ codes "writer.format.2" ∷ [],
    )
    ∷ [])

-- all of these
pub record KeyTables : Type 0 where
  pub plain_file : PlainFile
  pub full_file : FullFile
  pub first_faults : FirstFaults
  pub missing_keys : MissingKeys
  pub empty_values : EmptyValues
  pub ranges : NumberRanges
  pub no_numbers : NoNumbers
  pub words : Words
  pub long_lists : LongLists
  pub many_columns : ManyColumns
  pub policies : Policies
  pub branch_keys : BranchKeys
  pub interpolations : Interpolations
  pub unknown_keys : UnknownKeys
