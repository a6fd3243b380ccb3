-- What must be published for a state over an archive.
use Rattle.std.specs.Prelude.{◌≡◌, ◌≢◌, ℕ, ◌-◌, List, []}
use Rattle.std.specs.declared.option.Option.TheVariants.{Some}
use Rattle.std.specs.List.{Contains, slice_get}
use Rattle.gob_bytes.specs.Paths.{under}
use Rattle.gob_device.specs.Supply.{Held, bytes_from}
use Rattle.gob_plan.specs.declared.plan.Plan.{Plan}
use Rattle.gob_meaning.specs.Items.{Target}
use Rattle.gob_meaning.specs.Fold.{unit_fold, deliveries_of, sent_to}
use Rattle.gob_meaning.specs.Names.{target_name}
use Rattle.gob_ledger.specs.Marks.{Span, Done, Marks}
use Rattle.gob_ledger.specs.State.{State, marks_at}
use Rattle.gob_ledger.specs.Units.{span_of}
use Rattle.gob_ledger.specs.Next.{Judged}
use Rattle.gob_jobs.specs.Plans.{plan_of}

-- a range's bytes
abbrev pub bytes_of_range : Held → List ℕ → Span → List ℕ
bytes_of_range archive part s = bytes_from archive part s.lo (s.hi - s.lo)

-- this path with this content is one of those that the bytes of a range make
pub record IsMade (plan : Plan) (part : List ℕ) (s : Span) (bytes path content : List ℕ) : Type 0 where
  pub target : Target
  pub sends : sent_to target (deliveries_of (unit_fold plan s.lo bytes)) ≡ content
  pub some : content ≢ []
  pub called : target_name plan part s.lo s.hi target ≡ path

-- this name with this content is expected of the job: a done range makes it, by the pipeline that the range names
pub record IsExpected (job : List ℕ) (s : State) (archive : Held) (name content : List ℕ) : Type 0 where
  pub part : List ℕ
  pub marks : Marks
  pub of_part : marks_at s part ≡ Some marks
  pub done : Done
  pub of_marks : Contains marks.finished done
  pub pipeline : List ℕ
  pub of_state : slice_get s.pipelines done.pipeline ≡ Some pipeline
  pub plan : Plan
  pub of_pipeline : plan_of pipeline ≡ Some plan
  pub path : List ℕ
  pub made : IsMade plan part done.span (bytes_of_range archive part done.span) path content
  pub called : name ≡ under job path

-- this name with this content is what one of these units makes
pub record IsPublished (job : List ℕ) (plan : Plan) (archive : Held) (units : List Judged)
    (name content : List ℕ) : Type 0 where
  pub unit : Judged
  pub of_units : Contains units unit
  pub path : List ℕ
  pub made : let s = span_of unit.0 in IsMade plan unit.0.part s (bytes_of_range archive unit.0.part s) path content
  pub called : name ≡ under job path
