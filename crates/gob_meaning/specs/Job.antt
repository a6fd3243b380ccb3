-- A job, and the plain one.
use Rattle.std.specs.Prelude.{ℕ, ◌^◌, false, List, [], ◌∷◌, ◌++◌, codes}
use Rattle.gob_plan.specs.declared.rows.Kind.TheVariants as kind
use Rattle.gob_plan.specs.declared.plan.Format.TheVariants as format
use Rattle.gob_plan.specs.declared.plan.ForkHow.TheVariants as fork_how
use Rattle.gob_plan.specs.declared.plan.PlaceSpec.TheVariants as place
use Rattle.gob_plan.specs.declared.plan.CommitPolicy.{CommitPolicy}
use Rattle.gob_plan.specs.declared.plan.CommitPolicy.TheVariants.{Full}
use Rattle.gob_plan.specs.declared.plan.CommitScope.{CommitScope}
use Rattle.gob_plan.specs.declared.plan.CommitScope.TheVariants as scope
use Rattle.gob_plan.specs.declared.plan.TurnRules.{TurnRules}
use Rattle.gob_plan.specs.declared.plan.Limits.{Limits}
use Rattle.gob_plan.specs.declared.plan.Plan.{Plan}

-- what is to be done, with which partitions, in which turns, and what of it is committed
pub record Job : Type 0 where
  pub name : List ℕ
  pub plan : Plan
  pub limits : Limits
  pub turns : TurnRules
  pub max_retries : ℕ
  pub policy : CommitPolicy
  pub scope : CommitScope
  pub pipeline : List ℕ

-- whole lines go as they are to one branch that writes whole lines
abbrev pub plain_plan : Plan
plain_plan = record {
  format = format.Lines;
  columns = record { name = codes "line"; kind = kind.Text } ∷ [];
  skip_header = false;
  steps = [];
  skip_errors = 0;
  fork = record { how = fork_how.All; branches = 1; tests = [] };
  branches = record { steps = []; policies = []; format = format.Lines; place = place.Plain } ∷ [];
  task_policies = [];
}

-- the file that describes the plain job
abbrev pub plain_file : List ℕ
plain_file = codes "source.format=lines\nwriter.format=lines\n"

-- its pipeline text: every key that bears on what is made, with its value
abbrev pub plain_pipeline : List ℕ
plain_pipeline =
    codes "source.format=lines\nsource.columns=\nsource.skip.header=false\nconverter.classes=\n"
    ++ codes "fork.operator.class=all\nfork.branches=1\nfork.test.0=\nconverter.classes.0=\n"
    ++ codes "qualitychecker.row.policies.0=\nqualitychecker.row.policy.types.0=\n"
    ++ codes "writer.format.0=lines\nwriter.placer.0=plain\n"

-- the plain job of this name: nothing is limited, one unit is active and takes one pull
abbrev pub plain_job : List ℕ → Job
plain_job name = record {
  name = name;
  plan = plain_plan;
  limits = record { prefix = []; max_bytes = 2 ^ 63; max_new_units = 2 ^ 63 };
  turns = record { slots = 1; piece = 2 ^ 63; schedule = 0 ∷ [] };
  max_retries = 5;
  policy = Full;
  scope = scope.Job;
  pipeline = plain_pipeline;
}
