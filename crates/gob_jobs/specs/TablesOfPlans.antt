-- What pipeline texts read as, and the worked job files.
use Prim.Native.String.{String}
use Rattle.std.specs.Prelude.{◌≡◌, ℕ, ◌-◌, ◌^◌, Bool, true, false, pos, List, [], ◌∷◌, ◌++◌, map, length, codes}
use Rattle.std.specs.declared.option.Option.{Option}
use Rattle.std.specs.declared.option.Option.TheVariants.{None, Some}
use Rattle.std.specs.declared.result.Result.{Result}
use Rattle.std.specs.declared.result.Result.TheVariants.{Ok, Err}
use Rattle.std.specs.Option.{is_some, option_map}
use Rattle.std.specs.Result.{result_ok, result_err}
use Rattle.gob_bytes.specs.Tables.{Table}
use Rattle.gob_plan.specs.declared.rows.Kind.TheVariants as kind
use Rattle.gob_plan.specs.declared.rows.Value.TheVariants as value
use Rattle.gob_plan.specs.declared.checks.How.TheVariants as how
use Rattle.gob_plan.specs.declared.checks.Check.TheVariants as check
use Rattle.gob_plan.specs.declared.steps.StepSpec.TheVariants as step
use Rattle.gob_plan.specs.declared.plan.CommitPolicy.TheVariants.{Successful}
use Rattle.gob_plan.specs.declared.plan.CommitScope.TheVariants as scope
use Rattle.gob_plan.specs.declared.plan.Counter.TheVariants as counter
use Rattle.gob_plan.specs.declared.plan.ForkHow.TheVariants as fork_how
use Rattle.gob_plan.specs.declared.plan.Format.TheVariants as format
use Rattle.gob_plan.specs.declared.plan.Mode.TheVariants as mode
use Rattle.gob_plan.specs.declared.plan.PlaceSpec.TheVariants as place
use Rattle.gob_plan.specs.declared.plan.Plan.{Plan}
use Rattle.gob_plan.specs.declared.plan.TaskRule.TheVariants as rule
use Rattle.gob_plan.specs.declared.plan.TurnRules.{TurnRules}
use Rattle.gob_props.specs.declared.fault.PropsFault.{PropsFault}
use Rattle.gob_props.specs.declared.fault.PropsFault.TheVariants.{BadEscape}
use Rattle.gob_props.specs.Properties.{properties_of}
use Rattle.gob_meaning.specs.Job.{Job, plain_plan, plain_pipeline}
use Rattle.gob_jobs.specs.Pipelines.{settings_in}
use Rattle.gob_jobs.specs.Reading.{JobFault, missing, bad_value, bad_policy_count, no_column, bad_kind, interpolation}
use Rattle.gob_jobs.specs.Reading.{job_of, job_in_file, unknown_keys}
use Rattle.gob_jobs.specs.Plans.{plan_of}
use Rattle.gob_meaning.specs.Samples.{column}
use Rattle.gob_jobs.specs.Samples.{AllRead, AllAre, column_test, fault_in, plan_in, key_value}
use Rattle.gob_jobs.specs.TablesOfKeys.{full_plan, full_pipeline, each_entry}
use Rattle.gob_meaning.specs.Plans.{without_rules}

-- ---- the form of pipeline texts

-- each line is a key, `=` and an escaped value
abbrev pub PipelineLines : Type 0
PipelineLines = AllRead settings_in (
    ("", Some [])
    ∷ ("a.B9=x%20y\n=\n", None)
    ∷ ("a.B9=x%20y\nb=\n", Some (key_value "a.B9" "x y" ∷ key_value "b" "" ∷ []))
    ∷ ("a=%FF\n", Some ((codes "a", 255 ∷ []) ∷ []))
    ∷ ("a=x", None)
    ∷ ("a=x\n\n", None)
    ∷ ("\n", None)
    ∷ ("a\n", None)
    ∷ ("=x\n", None)
    ∷ ("a_b=x\n", None)
    ∷ ("a=x=y\n", None)
    ∷ ("a=x y\n", None)
    ∷ ("a=%2f\n", None)
    ∷ ("a=%61\n", None)
    ∷ ("a=%2\n", None)
    ∷ ("a=x\r\n", None)
    ∷ [])

-- ---- plans

-- the plain text tells the plain plan, without a limit on bad lines
abbrev pub PlainText : Type 0
PlainText = plan_of plain_pipeline ≡ Some (without_rules plain_plan)

-- and a text with each key its own
abbrev pub FullText : Type 0
FullText = plan_of full_pipeline ≡ Some (record full_plan { skip_errors = 18446744073709551615; task_policies = [] })

-- two lines that tell a plan with these lines
abbrev with_lines : String → List ℕ
with_lines text = codes "source.format=lines\nwriter.format=csv\n" ++ codes text

-- whether a text tells a plan: other keys have no effect, the last of equal keys counts, and a key for all branches
-- does
abbrev pub PlansTold : Type 0
PlansTold = AllRead (λ text. is_some (plan_of (codes "source.format=lines\nwriter.format=csv\n" ++ text))) (
    ("", true)
    ∷ ("x=%24%7B\n", true)
    ∷ ("x=%FF\n", true)
    ∷ ("task.slots=0\njob.commit.policy=partial\nsource.class=jdbc\n", true)
    ∷ ("converter.classes=%FF\n", false)
    ∷ ("converter.classes=%FF\nconverter.classes=\n", true)
    ∷ ("converter.classes=upper%20line\nconverter.classes=%FF\n", false)
    ∷ ("converter.classes=%24%7B\n", false)
    ∷ ("writer.format=xml\n", false)
    ∷ ("writer.format=xml\nwriter.format.0=csv\n", true)
    ∷ ("writer.format=%FF\nwriter.format.0=csv\n", true)
    ∷ ("writer.format.0=%FF\n", false)
    ∷ ("writer.format=%20csv%09\n", true)
    ∷ ("writer.format=csv%0D\n", false)
    ∷ ("writer.placer.0=day%20%20line\n", false)
    ∷ ("converter.classes=cast%20line%20int\nwriter.placer.0=day%20%20line\n", true)
    ∷ ("fork.branches=9\n", false)
    ∷ ("fork.branches=2\nwriter.format.1=xml\n", false)
    ∷ ("writer.format.1=xml\n", true)
    ∷ ("fork.operator.class=each\n", false)
    ∷ ("qualitychecker.row.policies=null%20line\n", false)
    ∷ ("x=\n=\n", false)
    ∷ ("x", false)
    ∷ [])

-- what must be told
abbrev pub PlansMissing : Type 0
PlansMissing = AllRead (λ text. is_some (plan_of text)) (
    ("", false)
    ∷ ("source.format=lines\n", false)
    ∷ ("writer.format=csv\n", false)
    ∷ ("source.format=csv\nwriter.format=csv\n", false)
    ∷ ("source.format=csv\nsource.columns=a%3Aint\nwriter.format=csv\n", true)
    ∷ [])

-- ---- refused job files

-- whole lines as they are, and this key
abbrev pub RefusedFiles : Type 0
RefusedFiles = AllRead fault_in (
    ("writer.format=lines\n", Some (missing (codes "source.format")))
    ∷ (
      "source.format=lines\nwriter.format=lines\nqualitychecker.row.policies=null line\n",
      Some (bad_policy_count (codes "qualitychecker.row.policy.types")),
    )
    ∷ (
      "source.format=csv\nsource.columns=a:int,b:int\nconverter.classes=drop a; cast a text\nwriter.format=csv\n",
      Some (no_column (codes "converter.classes") (codes "a")),
    )
    ∷ (
      "source.format=csv\nsource.columns=a:int\nconverter.classes=upper a\nwriter.format=csv\n",
      Some (bad_kind (codes "converter.classes") (codes "a")),
    )
    ∷ ("source.format=lines\nwriter.format=${x}\n", Some (interpolation (codes "writer.format")))
    ∷ ("source.format=lines\nwriter.format=lines\ntask.slots=0\n", Some (bad_value (codes "task.slots")))
    ∷ ("source.class=jdbc\nsource.format=lines\nwriter.format=lines\n", Some (bad_value (codes "source.class")))
    ∷ (
      "source.format=lines\nsource.format = csv\nsource.columns=id:int\nsource.skip.header=true\nwriter.format=lines\n",
      Some (bad_kind (codes "writer.format") (codes "id")),
    )
    ∷ (
      "source.format=csv\nsource.columns=ts:int,m:text\nwriter.format=csv\nwriter.placer=day m\n",
      Some (bad_kind (codes "writer.placer") (codes "m")),
    )
    ∷ (
      "source.format=csv\nsource.columns=ts:int,m:text\nwriter.format=csv\nwriter.placer=day x\n",
      Some (no_column (codes "writer.placer") (codes "x")),
    )
    ∷ (
      "source.format=csv\nsource.columns=ts:int,m:text\nwriter.format=csv\nwriter.placer=hour ts\n",
      Some (bad_value (codes "writer.placer")),
    )
    ∷ ("source.format=lines\nwriter.format=lines\njob.commit.scope=unit\n", Some (bad_value (codes "job.commit.scope")))
    ∷ ("job.name=$\\{x}\nsource.format=lines\nwriter.format=lines\n", Some (interpolation (codes "job.name")))
    ∷ ("source.format=lines\nwriter.format=lines\\f\n", Some (bad_value (codes "writer.format")))
    ∷ ("source.format=lines\nwriter.format=lines\\t\n", None)
    ∷ (
      "source.format=csv\nsource.columns=i:int,t:text\nwriter.format=csv\nconverter.classes=upper zz; ;\n",
      Some (bad_value (codes "converter.classes")),
    )
    ∷ (
      "source.format=csv\nsource.columns=i:int,t:text\nwriter.format=csv\nconverter.classes=rename zz a/b\n",
      Some (bad_value (codes "converter.classes")),
    )
    ∷ (
      "source.format=csv\nsource.columns=i:int,t:text\nwriter.format=csv\nconverter.classes=keep t zz t\n",
      Some (no_column (codes "converter.classes") (codes "zz")),
    )
    ∷ (
      "source.format=csv\nsource.columns=i:int,t:text\nwriter.format=csv\nconverter.classes=explode t %3B;where like t a%2A\n",
      None,
    )
    ∷ [])

-- a malformed escape, and the line that it stands in
abbrev pub MalformedFile : Type 0
MalformedFile = job_in_file (codes "j") (codes "source.format=lines\nx=\\u00zz\n") ≡ Err (BadEscape 2)

-- ---- worked job files

-- a header is skipped, and the last of equal keys counts
abbrev pub HeaderFile : Type 0
HeaderFile = plan_in (codes "source.format=lines\nsource.format = csv\nsource.columns=id:int\n"
    ++ codes "source.skip.header=true\nwriter.format=csv\n")
    ≡ Some (record plain_plan {
      format = format.Csv;
      columns = column "id" kind.Int ∷ [];
      skip_header = true;
      branches = record { steps = []; policies = []; format = format.Csv; place = place.Plain } ∷ [];
    })

-- the clicks of a web tier
abbrev web_tier : List ℕ
web_tier = codes "# Clicks of the web tier\njob.name=clicks\nsource.class=files\nsource.format=json\n"
    ++ codes "source.columns=ip:text, path:text, \\\n    status:int\n! two branches\nfork.operator.class = first\n"
    ++ codes "fork.branches : 2\nfork.test.0=ge status 400\nfork.test.1=not null status\n"
    ++ codes "converter.classes.0=keep status path\nwriter.format.0=csv\nwriter.format.1=json\n"
    ++ codes "qualitychecker.row.policies.0=lt status 500\nqualitychecker.row.policy.types.0=OPTIONAL\n"
    ++ codes "qualitychecker.task.policies=range records 1 1000\nqualitychecker.task.policy.types=FAIL\n"
    ++ codes "job.commit.policy=successful\ndata.publisher.final.dir=${env:OUT}\n"

abbrev pub WebTier : Type 0
WebTier = job_in_file (codes "clicks") web_tier ≡ Ok (Ok (record {
  name = codes "clicks";
  plan = record {
    format = format.Json;
    columns = column "ip" kind.Text ∷ column "path" kind.Text ∷ column "status" kind.Int ∷ [];
    skip_header = false;
    steps = [];
    skip_errors = 0;
    fork = record {
      how = fork_how.First;
      branches = 2;
      tests = column_test false "status" (check.Compare how.Ge (value.Int (pos 400)))
          ∷ column_test true "status" check.Null ∷ [];
    };
    branches = record {
      steps = step.Keep (codes "status" ∷ codes "path" ∷ []) ∷ [];
      policies = record {
        test = column_test false "status" (check.Compare how.Lt (value.Int (pos 500)));
        mode =
            mode.Optional;
      } ∷ [];
      format = format.Csv;
      place = place.Plain;
    } ∷ record { steps = []; policies = []; format = format.Json; place = place.Plain } ∷ [];
    task_policies = record { rule = rule.Range counter.Records 1 1000; fails = true } ∷ [];
  };
  limits = record { prefix = []; max_bytes = 1048576; max_new_units = 1000 };
  turns = record { slots = 1; piece = 65536; schedule = 0 ∷ [] };
  max_retries = 5;
  policy = Successful;
  scope = scope.Job;
  pipeline = codes "source.format=json\nsource.columns=ip%3Atext%2C%20path%3Atext%2C%20status%3Aint\n"
      ++ codes "source.skip.header=false\nconverter.classes=\nfork.operator.class=first\nfork.branches=2\n"
      ++ codes "fork.test.0=ge%20status%20400\nconverter.classes.0=keep%20status%20path\n"
      ++ codes "qualitychecker.row.policies.0=lt%20status%20500\nqualitychecker.row.policy.types.0=OPTIONAL\n"
      ++ codes "writer.format.0=csv\nwriter.placer.0=plain\nfork.test.1=not%20null%20status\nconverter.classes.1=\n"
      ++ codes "qualitychecker.row.policies.1=\nqualitychecker.row.policy.types.1=\nwriter.format.1=json\n"
      ++ codes "writer.placer.1=plain\n";
}))

-- its one key that isn't known
abbrev pub WebTierUnknown : Type 0
WebTierUnknown = option_map unknown_keys (result_ok (properties_of web_tier)) ≡ Some
    (codes "data.publisher.final.dir" ∷ [])

-- scores into two formats, in turns of three
abbrev pub Scores : Type 0
Scores = option_map {U = Plan × TurnRules} (λ (j : Job). (j.plan, j.turns)) (result_ok (job_of (codes "drill") (
    key_value "source.format" "csv"
    ∷ key_value "source.columns" "id:int,score:int,tags:text"
    ∷ key_value "source.max.bytes.per.unit" "4096"
    ∷ key_value "converter.classes" "explode tags |"
    ∷ key_value "fork.operator.class" "first"
    ∷ key_value "fork.branches" "2"
    ∷ key_value "fork.test.0" "ge score 5"
    ∷ key_value "fork.test.1" "not null id"
    ∷ key_value "qualitychecker.row.policies.0" "not eq score 9"
    ∷ key_value "qualitychecker.row.policy.types.0" "ERR_FILE"
    ∷ key_value "writer.format.0" "csv"
    ∷ key_value "writer.format.1" "json"
    ∷ key_value "job.commit.policy" "successful"
    ∷ key_value "task.slots" "3"
    ∷ key_value "task.schedule" "2,0,1"
    ∷ key_value "task.piece.bytes" "64"
    ∷ [])))
    ≡ Some (
      record {
        format = format.Csv;
        columns = column "id" kind.Int ∷ column "score" kind.Int ∷ column "tags" kind.Text ∷ [];
        skip_header = false;
        steps = step.Explode (codes "tags") (codes "|") ∷ [];
        skip_errors = 0;
        fork = record {
          how = fork_how.First;
          branches = 2;
          tests = column_test false "score" (check.Compare how.Ge (value.Int (pos 5)))
              ∷ column_test true "id" check.Null ∷ [];
        };
        branches = record {
          steps = [];
          policies = record {
            test = column_test true "score"
                (check.Compare how.Eq (value.Int (pos 9)));
            mode = mode.ErrFile;
          }
              ∷ [];
          format = format.Csv;
          place = place.Plain;
        } ∷ record { steps = []; policies = []; format = format.Json; place = place.Plain } ∷ [];
        task_policies = [];
      },
      record { slots = 3; piece = 64; schedule = 2 ∷ 0 ∷ 1 ∷ [] },
    )

-- all of these
pub record PlanTables : Type 0 where
  pub lines : PipelineLines
  pub plain_text : PlainText
  pub full_text : FullText
  pub told : PlansTold
  pub missing : PlansMissing
  pub refused_files : RefusedFiles
  pub malformed_file : MalformedFile
  pub header : HeaderFile
  pub web_tier : WebTier
  pub web_tier_unknown : WebTierUnknown
  pub scores : Scores
