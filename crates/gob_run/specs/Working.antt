-- The turns of a run's units, and the commits behind them: what they are, over what was loaded and cut.
use Rattle.std.specs.Prelude.{◌≡◌, ℕ, ◌+◌, ◌*◌, List, [], ◌++◌, IfErr, IfOk}
use Rattle.std.specs.declared.option.Option.{Option}
use Rattle.std.specs.declared.option.Option.TheVariants.{Some}
use Rattle.std.specs.List.{zip}
use Rattle.gob_bytes.specs.Paths.{under}
use Rattle.gob_device.specs.Causes.{Rose, RoseBy}
use Rattle.gob_device.specs.Disk.{Along, Disk, EachOf, Files, Went, last_map}
use Rattle.gob_device.specs.Supply.{Held, Supply, with_pulls}
use Rattle.gob_plan.specs.declared.units.Unit.{Unit as WorkUnit}
use Rattle.gob_plan.specs.declared.units.UnitResult.{UnitResult}
use Rattle.gob_meaning.specs.Job.{Job}
use Rattle.gob_ledger.specs.Delta.{Kept, KeepsAs}
use Rattle.gob_ledger.specs.Groups.{groups_of}
use Rattle.gob_ledger.specs.Next.{Judged}
use Rattle.gob_ledger.specs.State.{State}
use Rattle.gob_ledger.specs.Turns.{pulls_in, turns_of, verdicts_of}
use Rattle.gob_ledger.specs.Spelling.{Proper}
use Rattle.gob_recovery.specs.Commits.{OnlyBelow}
use Rattle.gob_recovery.specs.Settle.{IsSettled}
use Rattle.gob_history.specs.Laws.{StagedOver}
use Rattle.gob_history.specs.Runs.{state_or_empty}
use Rattle.gob_commit.specs.Going.{GoneAlong, GoneToEnd}
use Rattle.gob_cut.specs.declared.run_units.Cut.{Cut}
use Rattle.gob_segments.specs.Loading.{IsLoaded}
use Rattle.gob_segments.specs.declared.change.Loaded.{Loaded}
use Rattle.gob_state.specs.Committed.{judged_by, verdicts_in}
use Rattle.gob_state.specs.declared.next.Outcome.{Outcome}
use Rattle.gob_turns.specs.Taken.{AreFirstPulls, FailuresRose, HasPulled, given_up_in}
use Rattle.gob_run.specs.Answers.{Answer, AreGivenBy, OutcomeFits, groups_by}
use Rattle.gob_run.specs.World.{WorldGoesOn, World}
use Rattle.gob_run.specs.declared.fault.RunFault.{RunFault}
use Rattle.gob_run.specs.declared.fault.RunFault.TheVariants.{Damaged, Shrunk, Full, SourceFault, VolumeFault, Memory}

-- the groups of the units, with the verdicts that they have where these turns fail
abbrev pub groups_over : Job → Held → List WorkUnit → List ℕ → List (List Judged)
groups_over job held units failing = groups_of job.scope (zip units (verdicts_of job held units failing))

-- the maps of the turns, which differ from the settled one in staged files alone, and then those of the commits
pub record WorkGoes (Commits : List Files → Type 0) (job : List ℕ) (settled : Files) (added : List Files) : Type 0 where
  pub turns : List Files
  pub commits : List Files
  pub whole : added ≡ turns ++ commits
  pub over : EachOf (StagedOver job settled) turns
  pub gone : Commits commits

-- whatever is answered: some of these groups were committed, one after the other
abbrev pub WentOver : Job → Held → Option State → List (List Judged) → Files → List Files → Type 0
WentOver job held o groups settled added = WorkGoes (GoneAlong job held o groups settled) job.name settled added

abbrev pub WentAlong : Job → Held → Option State → List WorkUnit → List ℕ → Files → List Files → Type 0
WentAlong job held o units failing = WentOver job held o (groups_over job held units failing)

-- all of them were, and what the last one left stands
abbrev pub WentOverAll : Job → Held → Option State → List (List Judged) → Files → List Files → Type 0
WentOverAll job held o groups settled added =
    WorkGoes (λ commits. GoneToEnd job held o groups settled commits (last_map settled added)) job.name settled added

abbrev pub WentToEnd : Job → Held → Option State → List WorkUnit → List ℕ → Files → List Files → Type 0
WentToEnd job held o units failing = WentOverAll job held o (groups_over job held units failing)

-- whatever the source is: the good units were given bytes, and some groups were committed
pub record FiledAlong (job : Job) (o : Option State) (units : List WorkUnit) (settled : Files) (added : List Files)
    : Type 0 where
  pub results : List UnitResult
  pub given : Held
  pub judged : AreGivenBy job given (judged_by units results)
  pub went : WentOver job given o (groups_by job units results) settled added

-- all groups were
pub record FiledToEnd (job : Job) (o : Option State) (units : List WorkUnit) (results : List UnitResult)
    (settled : Files) (added : List Files) : Type 0 where
  pub given : Held
  pub judged : AreGivenBy job given (judged_by units results)
  pub went : WentOverAll job given o (groups_by job units results) settled added

-- over a settled map of which all was loaded, where the volume tells
abbrev pub OverFiled : Job → Loaded → World → World → (Files → List Files → Type 0) → Type 0
OverFiled job l old new P = (d : Disk) → old.disk ≡ Some d → IsSettled job.name d.files → (k : Option Kept)
    → KeepsAs job.name d.files k → IsLoaded k l → (e : Disk) × (new.disk ≡ Some e) × Went P d e

-- the same where the source tells too
abbrev pub OverLoaded : Job → Loaded → World → World → (Held → Files → List Files → Type 0) → Type 0
OverLoaded job l old new P = (s : Supply) → old.supply ≡ Some s → OverFiled job l old new (P s.held)

-- over a source that tells: each pull of the turns was made, and the verdicts are theirs
pub record WorkIsTold (job : Job) (failing : List ℕ) (cut : Cut) (out : Outcome) (s : Supply) (now : Option Supply)
    : Type 0 where
  pub pulls : now ≡ Some (with_pulls (pulls_in (turns_of job s.held cut.units failing)) s)
  pub verdicts : verdicts_in out.results ≡ verdicts_of job s.held cut.units failing

-- the units had their turns, and what the policy lets be committed is committed
pub record WorkIsDone (job : Job) (failing : List ℕ) (l : Loaded) (cut : Cut) (out : Outcome) (old new : World)
    : Type 0 where
  pub units : out.units ≡ cut.units
  pub too_long : out.too_long ≡ cut.too_long
  pub fits : OutcomeFits job l.state out
  pub told : (s : Supply) → old.supply ≡ Some s → WorkIsTold job failing cut out s new.supply
  pub left : OverLoaded job l old new (λ held. WentToEnd job held l.state cut.units failing)
  pub filed : OverFiled job l old new (FiledToEnd job l.state out.units out.results)
  pub gave_up : RoseBy (given_up_in out.results * (job.max_retries + 1)) old.source_faults new.source_faults

-- the volume failed, or no memory was left
abbrev pub WorkStops : World → World → RunFault → Type 0
WorkStops old new (Damaged name) = ⊥
WorkStops old new (Shrunk part next size) = ⊥
WorkStops old new (Full ranges units) = ⊥
WorkStops old new SourceFault = ⊥
WorkStops old new VolumeFault = Rose old.volume_faults new.volume_faults
WorkStops old new Memory = Unit {0}

-- what turns and commits say, whatever is answered
pub record Worked (job : Job) (failing : List ℕ) (l : Loaded) (cut : Cut) (a : Answer) (old new : World) : Type 0 where
  pub done : IfOk a (λ out. WorkIsDone job failing l cut out old new)
  pub along : OverLoaded job l old new (λ held. WentAlong job held l.state cut.units failing)
  pub filed : OverFiled job l old new (FiledAlong job l.state cut.units)
  pub pulls : (s : Supply) → old.supply ≡ Some s → AreFirstPulls job s cut.units failing new.supply
  pub pulled : HasPulled old.supply new.supply
  pub failed : FailuresRose failing old.source_faults new.source_faults
  pub stopped : IfErr a (WorkStops old new)
  pub planned : new.plan_faults ≡ old.plan_faults
  pub below : Along (OnlyBelow (under job.name [])) old.disk new.disk
  pub goes_on : WorldGoesOn old new

-- ---- no unit

-- a run without a unit has nothing to tell but the state that it found
pub record HasNothing (job : Job) (l : Loaded) (long : List (List ℕ)) (out : Outcome) : Type 0 where
  pub units : out.units ≡ []
  pub results : out.results ≡ []
  pub too_long : out.too_long ≡ long
  pub committed : out.committed ≡ []
  pub after : out.after ≡ state_or_empty job l.state
  pub proper : Proper out.after
