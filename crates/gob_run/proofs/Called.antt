-- What the calls of a run's work are given, and what they answer, of rules and lists that are the job's and the cut's.
use Rattle.std.proofs.Common.{◌≡◌, ◌≤◌, ℕ, ◌+◌, ◌*◌, true, List, [], Option, Some, None, IfSome, Err, sym, ap, subst}
use Rattle.std.proofs.Common.{subst₂, ◌∙◌, arith}
use Rattle.gob_bytes.specs.Paths.{sequence_name, staging, under}
use Rattle.gob_device.specs.Causes.{RoseBy}
use Rattle.gob_device.specs.Disk.{AddsMaps, Along, Disk}
use Rattle.gob_device.specs.Supply.{Supply}
use Rattle.gob_plan.specs.declared.plan.TurnRules.{TurnRules}
use Rattle.gob_plan.specs.declared.units.Unit.{Unit as WorkUnit}
use Rattle.gob_plan.specs.declared.units.UnitResult.{UnitResult}
use Rattle.gob_meaning.specs.Job.{Job}
use Rattle.gob_jobs.specs.Laws.{IsJob}
use Rattle.gob_ledger.specs.Spelling.{IsKeptPipeline}
use Rattle.gob_recovery.specs.Commits.{OnlyBelow}
use Rattle.gob_recovery.specs.Sequence.{is_file_name}
use Rattle.gob_cut.specs.declared.run_units.Cut.{Cut}
use Rattle.gob_segments.specs.Loading.{LoadedFits}
use Rattle.gob_segments.specs.declared.change.Loaded.{Loaded}
use Rattle.gob_task.specs.Turn.{TurnRulesValue}
use Rattle.gob_turns.specs.Asked.{AreHeld, IsWorkedBy, MayHaveTurns}
use Rattle.gob_turns.specs.Taken.{AllGiven, AreCommittable, AreFirstPulls, AreResults, FailuresRose, HasPulled}
use Rattle.gob_turns.specs.Taken.{given_up_in}
use Rattle.gob_commit.specs.Going.{CommitsAre, CommitsAlong, GoesToEnd}
use Rattle.gob_commit.specs.Staged.{AreReadyToMove, CanCommit, HasRules, all_pairs}
use Rattle.gob_commit.specs.declared.rules.CommitRules.{CommitRules}
use Rattle.gob_commit.specs.declared.rules.Committed.{Committed}
use Rattle.gob_run.specs.Answers.{Answer}
use Rattle.gob_run.specs.Cutting.{CutFits, CutIsTold, parts_of}
use Rattle.gob_run.specs.World.{World}
use Rattle.gob_run.specs.declared.fault.RunFault.{RunFault}
use Rattle.gob_run.proofs.Fitting.{are_held, are_there, can_commit, is_worked, may_have_turns, proper_parts, rules_of}
use Rattle.gob_run.proofs.Given.{given_over, tiled_parts}
use Rattle.gob_run.proofs.Worked.{CommitsSay, HaveRanges, TurnsEnd, TurnsSay}

-- what the work begins with
pub record Begins (job : Job) (l : Loaded) (cut : Cut) (old : World) : Type 0 where
  pub right : IsJob job.name job
  pub named : is_file_name job.name ≡ true
  pub loaded : LoadedFits l
  pub fits : CutFits (parts_of l.state) job.limits old.supply cut

-- the turns' rules and units are those of the job and of the cut
pub record AreTheirs (job : Job) (cut : Cut) (rules : TurnRulesValue) (units : List WorkUnit) : Type 0 where
  pub rules_are : rules ≡ rules_of job
  pub units_are : units ≡ cut.units

pub turns_asked : (job : Job) (l : Loaded) (cut : Cut) (rules : TurnRulesValue) (units : List WorkUnit) (old : World)
    → Begins job l cut old → AreTheirs job cut rules units → MayHaveTurns rules job.turns units
turns_asked job l cut rules units old begins theirs =
    subst₂ (λ r us. MayHaveTurns r job.turns us) (sym theirs.rules_are) (sym theirs.units_are)
    (may_have_turns job (parts_of l.state) old.supply cut begins.right begins.named
    (proper_parts l.state begins.loaded.proper) begins.fits)

-- what the turns of a job with these rules say, over a source that tells
abbrev pub OfTheJob : TurnRulesValue → TurnRules → List WorkUnit → World → (Job → Supply → Type 0) → Type 0
OfTheJob rules turns units old P = (j : Job) (s : Supply) → IsWorkedBy rules turns j → old.supply ≡ Some s
    → AreHeld s.held units → P j s

of_the_job : (job : Job) (l : Loaded) (cut : Cut) (rules : TurnRulesValue) (units : List WorkUnit) (old : World)
    (P : Job → Supply → Type 0) → Begins job l cut old → AreTheirs job cut rules units
    → OfTheJob rules job.turns units old P → (s : Supply) → old.supply ≡ Some s → P job s
of_the_job job l cut rules units old P begins theirs says s is =
    let told : CutIsTold (parts_of l.state) job.limits cut s =
    subst (λ (o : Option Supply). IfSome o (CutIsTold (parts_of l.state) job.limits cut)) is begins.fits.told in
    says job s (subst (λ (r : TurnRulesValue). IsWorkedBy r job.turns job) (sym theirs.rules_are) (is_worked job)) is
    (subst (λ (us : List WorkUnit). AreHeld s.held us) (sym theirs.units_are)
    (are_held l.state job.limits cut s begins.loaded.proper told))

-- what turns leave of the devices, whatever they answer
pub record TurnsLeave (job : List ℕ) (failing : List ℕ) (old new : World) : Type 0 where
  pub maps : Along (OnlyBelow (staging job)) old.disk new.disk
  pub failed : FailuresRose failing old.source_faults new.source_faults
  pub source : old.source_faults ≤ new.source_faults
  pub planned : new.plan_faults ≡ old.plan_faults
  pub volume : old.volume_faults ≤ new.volume_faults
  pub pulled : HasPulled old.supply new.supply

pub turns_say : (job : Job) (l : Loaded) (cut : Cut) (rules : TurnRulesValue) (units : List WorkUnit)
    (failing : List ℕ) (old new : World) → Begins job l cut old → AreTheirs job cut rules units
    → OfTheJob rules job.turns units old (λ j s. AreFirstPulls j s units failing new.supply)
    → TurnsLeave rules.job failing old new → TurnsSay job cut failing old new
turns_say job l cut rules units failing old new begins theirs told left = record {
  pulls = λ s is. subst (λ (us : List WorkUnit). AreFirstPulls job s us failing new.supply) theirs.units_are
      (of_the_job job l cut rules units old (λ j t. AreFirstPulls j t units failing new.supply) begins theirs told s
      is);
  maps = subst (λ (r : TurnRulesValue). Along (OnlyBelow (staging r.job)) old.disk new.disk) theirs.rules_are left.maps;
  pulled = left.pulled;
  failed = left.failed;
  planned = left.planned;
  goes_on = record {
    source = left.source;
    planned = subst (λ n. old.plan_faults ≤ n) (sym left.planned) (omega arith);
    volume = left.volume;
  };
}

pub turns_end : (job : Job) (l : Loaded) (cut : Cut) (rules : TurnRulesValue) (units : List WorkUnit)
    (failing : List ℕ) (results : List UnitResult) (old new : World) → Begins job l cut old
    → AreTheirs job cut rules units → TurnsSay job cut failing old new
    → OfTheJob rules job.turns units old (λ j s. AreResults j s units failing results new.supply new.disk)
    → ((j : Job) → IsWorkedBy rules job.turns j → AllGiven j units results new.disk)
    → RoseBy (given_up_in results * (rules.max_retries + 1)) old.source_faults new.source_faults
    → TurnsEnd job cut failing results old new
turns_end job l cut rules units failing results old new begins theirs say whole given gave_up = record {
  say = say;
  whole = λ s is. subst (λ (us : List WorkUnit). AreResults job s us failing results new.supply new.disk)
      theirs.units_are
      (of_the_job job l cut rules units old (λ j t. AreResults j t units failing results new.supply new.disk) begins
      theirs whole s is);
  given = given_over job (parts_of l.state) cut.units results new.disk begins.fits.are.fit
      (tiled_parts l.state begins.loaded.proper)
      (subst (λ (us : List WorkUnit). AllGiven job us results new.disk) theirs.units_are
      (given job (subst (λ (r : TurnRulesValue). IsWorkedBy r job.turns job) (sym theirs.rules_are) (is_worked job))));
  gave_up = subst (λ (r : TurnRulesValue). RoseBy (given_up_in results * (r.max_retries + 1)) old.source_faults
      new.source_faults) theirs.rules_are gave_up;
}

-- each unit has its range
pub have_ranges : (job : Job) (l : Loaded) (cut : Cut) (old : World) → Begins job l cut old → HaveRanges cut.units
have_ranges job l cut old begins = begins.fits.are.ranges (proper_parts l.state begins.loaded.proper)

-- ---- the commits

-- the units and results that are committed are those of the cut and of the turns
pub record AreCommitted (job : Job) (cut : Cut) (results : List UnitResult) (rules : CommitRules)
    (units : List WorkUnit) (made : List UnitResult) : Type 0 where
  pub has : HasRules job rules
  pub units_are : units ≡ cut.units
  pub made_are : made ≡ results

pub commits_can : (job : Job) (l : Loaded) (cut : Cut) (results : List UnitResult) (rules : CommitRules)
    (units : List WorkUnit) (made : List UnitResult) (of_turns : TurnRulesValue) (listed : List WorkUnit)
    (old : World) (disk : Option Disk) → Begins job l cut old → AreTheirs job cut of_turns listed
    → AreCommitted job cut results rules units made → IsKeptPipeline rules.pipeline.now
    → AreCommittable of_turns.job listed results disk → CanCommit rules l units made
commits_can job l cut results rules units made of_turns listed old disk begins theirs these kept can =
    subst₂ (λ us rs. CanCommit rules l us rs) (sym these.units_are) (sym these.made_are)
    (can_commit job rules l old.supply cut results disk these.has kept begins.right begins.named begins.loaded
    begins.fits
    (subst₂ (λ (r : TurnRulesValue) (us : List WorkUnit). AreCommittable r.job us results disk) theirs.rules_are
    theirs.units_are can))

pub commits_there : (job : Job) (cut : Cut) (results : List UnitResult) (rules : CommitRules) (units : List WorkUnit)
    (made : List UnitResult) (of_turns : TurnRulesValue) (listed : List WorkUnit) (old now : Option Disk)
    → AreTheirs job cut of_turns listed → AreCommitted job cut results rules units made
    → IfSome old (λ d. d.files (sequence_name job.name) ≡ None) → Along (OnlyBelow (staging of_turns.job)) old now
    → AreCommittable of_turns.job listed results now
    → IfSome now (λ d. AreReadyToMove rules.job.now (all_pairs made) d.files)
commits_there job cut results rules units made of_turns listed old now theirs these closed along can =
    let there = are_there job.name results old now closed
    (subst (λ (r : TurnRulesValue). Along (OnlyBelow (staging r.job)) old now) theirs.rules_are along) can.there in
    subst₂ (λ (name : List ℕ) (rs : List UnitResult). IfSome now (λ d. AreReadyToMove name (all_pairs rs) d.files))
    these.has.name (sym these.made_are) there

pub commits_say : (job : Job) (l : Loaded) (cut : Cut) (results : List UnitResult) (rules : CommitRules)
    (units : List WorkUnit) (made : List UnitResult) (old : World) (disk : Option Disk) (faults : ℕ)
    → AreCommitted job cut results rules units made → AddsMaps (CommitsAlong rules l units made) old.disk disk
    → Along (OnlyBelow (under rules.job.now [])) old.disk disk → old.volume_faults ≤ faults
    → CommitsSay job rules l cut.units results old disk faults
commits_say job l cut results rules units made old disk faults these along below goes = record {
  along = subst₂ (λ us rs. AddsMaps (CommitsAlong rules l us rs) old.disk disk) these.units_are these.made_are along;
  below = subst (λ (name : List ℕ). Along (OnlyBelow (under name [])) old.disk disk) (sym these.has.name) below;
  goes_on = goes;
}

-- what commits say where all is done
pub record CommitsEnd (rules : CommitRules) (l : Loaded) (units : List WorkUnit) (made : List UnitResult)
    (c : Committed) (old new : Option Disk) : Type 0 where
  pub are : CommitsAre rules l units made c
  pub goes : AddsMaps (GoesToEnd rules l units made) old new

pub commits_end : (job : Job) (l : Loaded) (cut : Cut) (results : List UnitResult) (rules : CommitRules)
    (units : List WorkUnit) (made : List UnitResult) (c : Committed) (old new : Option Disk)
    → AreCommitted job cut results rules units made → CommitsEnd rules l units made c old new
    → CommitsEnd rules l cut.units results c old new
commits_end job l cut results rules units made c old new these end =
    subst₂ (λ us rs. CommitsEnd rules l us rs c old new) these.units_are these.made_are end

-- ---- what is answered

-- the answer of a `?` that failed
pub at_err : (P : Answer → Type 0) (a : Answer) (f r : RunFault) → a ≡ Err f → f ≡ r → P (Err r) → P a
at_err P a f r is same h = subst P (sym (is ∙ ap (λ e. Err e) same)) h
