-- What a run answers, exactly where, and what it leaves.
use Rattle.std.specs.Prelude.{◌≡◌, ◌⊎◌, ℕ, ◌+◌, ◌*◌, ◌-◌, true, List, [], ◌++◌, map, length, IfErr, IfOk, IfSome}
use Rattle.std.specs.declared.option.Option.{Option}
use Rattle.std.specs.declared.option.Option.TheVariants.{Some}
use Rattle.std.specs.declared.result.Result.{Result}
use Rattle.std.specs.declared.result.Result.TheVariants.{Ok, Err}
use Rattle.std.specs.List.{Contains, flat_map}
use Rattle.gob_bytes.specs.Paths.{is_published, under}
use Rattle.gob_bytes.specs.Tables.{names_of}
use Rattle.gob_device.specs.Causes.{Rose, RoseBy}
use Rattle.gob_device.specs.Disk.{Along, Disk, EachOf, File, Files, clean, contents_at, last_map}
use Rattle.gob_device.specs.Supply.{Held, Pull, Supply, with_pulls}
use Rattle.gob_plan.specs.declared.units.Unit.{Unit as WorkUnit}
use Rattle.gob_plan.specs.declared.units.UnitResult.{UnitResult}
use Rattle.gob_meaning.specs.Job.{Job}
use Rattle.gob_meaning.specs.Results.{verdict_of}
use Rattle.gob_ledger.specs.Archive.{Agrees}
use Rattle.gob_ledger.specs.Expected.{IsPublished, bytes_of_range}
use Rattle.gob_ledger.specs.Groups.{groups_of, is_committed}
use Rattle.gob_ledger.specs.Next.{Judged, is_good}
use Rattle.gob_ledger.specs.Spelling.{Proper}
use Rattle.gob_ledger.specs.State.{State}
use Rattle.gob_ledger.specs.Turns.{pulls_in, turns_of}
use Rattle.gob_ledger.specs.Units.{UnitsFit, span_of, too_long}
use Rattle.gob_recovery.specs.Commits.{OnlyBelow}
use Rattle.gob_recovery.specs.Settle.{IsSettled, Settles}
use Rattle.gob_history.specs.Laws.{Lasting}
use Rattle.gob_history.specs.Runs.{GroupsLeft, Ran, Readable, StoredChange, TrailOfRun, after_groups, done_in}
use Rattle.gob_history.specs.Runs.{run_units}
use Rattle.gob_history.specs.Runs.{run_verdicts, state_after, state_or_empty}
use Rattle.gob_history.specs.Sound.{AllRecoverTo}
use Rattle.gob_state.specs.Committed.{judged_by, verdicts_in}
use Rattle.gob_state.specs.declared.next.Outcome.{Outcome}
use Rattle.gob_turns.specs.Taken.{FailuresRose, HasPulled, given_up_in}
use Rattle.gob_run.specs.Entry.{SettledEntry, IsFull, IsFirstShrunk, LeftBroken, IsBroken, OnlySettled, Refused}
use Rattle.gob_run.specs.Entry.{SettledTo, StaysDamaged, TooMany}
use Rattle.gob_run.specs.World.{WorldGoesOn, WhereFiled, WhereSupplied, WhereTold, World}
use Rattle.gob_run.specs.declared.fault.RunFault.{RunFault}
use Rattle.gob_run.specs.declared.fault.RunFault.TheVariants.{Damaged, Shrunk, Full, SourceFault, VolumeFault, Memory}

abbrev pub Answer : Type 0
Answer = Result Outcome RunFault

-- the groups of these units, with their results, that are committed one after the other
abbrev pub groups_by : Job → List WorkUnit → List UnitResult → List (List Judged)
groups_by job units results = groups_of job.scope (judged_by units results)

-- ---- what units were given

-- a good unit was given all bytes of its range, and its verdict is theirs
pub record IsGivenBy (job : Job) (held : Held) (j : Judged) : Type 0 where
  pub whole : length (bytes_of_range held j.0.part (span_of j.0)) ≡ j.0.hi - j.0.lo
  pub verdict : j.1 ≡ verdict_of job.plan j.0 (bytes_of_range held j.0.part (span_of j.0))

abbrev pub AreGivenBy : Job → Held → List Judged → Type 0
AreGivenBy job held judged = (j : Judged) → Contains judged j → is_good j.1 ≡ true → IsGivenBy job held j

-- ---- a run that was answered

-- told or not: of each unit a result and whether it was committed, as the policy says of its group, and the state after
-- the commits
pub record OutcomeFits (job : Job) (o : Option State) (out : Outcome) : Type 0 where
  pub results : length out.results ≡ length out.units
  pub committed : let all = judged_by out.units out.results in
      out.committed ≡ map (is_committed job.scope job.policy all) all
  pub after : out.after
      ≡ state_or_empty job (after_groups job o (groups_by job out.units out.results))
  pub proper : Proper out.after

-- over a source that tells: the units are those of what it holds and of the state that was found, their verdicts are
-- those of their bytes and of the turns that failed, and each pull of the turns was made
pub record RunIsTold (job : Job) (failing : List ℕ) (o : Option State) (out : Outcome) (s t : Supply) : Type 0 where
  pub units : out.units ≡ run_units job s.held o
  pub verdicts : verdicts_in out.results ≡ run_verdicts job s.held failing o
  pub too_long : out.too_long ≡ too_long job.limits (names_of s.held)
  pub pulls : t ≡ with_pulls (pulls_in (turns_of job s.held out.units failing)) s

-- over both: what such a run leaves, with nothing open and nothing staged, and all that it changed kept
pub record RunIsLeft (job : Job) (failing : List ℕ) (o : Option State) (out : Outcome) (d : Disk) (s : Supply)
    (e : Disk) (t : Supply) : Type 0 where
  pub entry : SettledEntry job.name d.files o
  pub settled : IsSettled job.name e.files
  pub ran : Ran job s.held entry.settled o failing out.units (verdicts_in out.results) e.files
  pub lasting : Lasting entry.settled e.files

-- over a volume that tells, whatever the source is: the same of the bytes that its good units were given
pub record RunIsFiled (job : Job) (o : Option State) (out : Outcome) (d e : Disk) : Type 0 where
  pub entry : SettledEntry job.name d.files o
  pub settled : IsSettled job.name e.files
  pub given : Held
  pub judged : AreGivenBy job given (judged_by out.units out.results)
  pub left : GroupsLeft job given entry.settled o (groups_by job out.units out.results) e.files
  pub change : StoredChange job (groups_by job out.units out.results) entry.settled e.files
  pub lasting : Lasting entry.settled e.files

-- the run found this state, and did what it has to do then; without a unit it has only settled the files
pub record RunIsDone (job : Job) (failing : List ℕ) (out : Outcome) (old new : World) : Type 0 where
  pub found : Option State
  pub entry : IfSome old.disk (λ d. SettledEntry job.name d.files found)
  pub fits : OutcomeFits job found out
  pub told : WhereSupplied (RunIsTold job failing found out) old new
  pub left : WhereTold (RunIsLeft job failing found out) old new
  pub filed : WhereFiled (RunIsFiled job found out) old new
  pub gave_up : RoseBy (given_up_in out.results * (job.max_retries + 1)) old.source_faults new.source_faults
  pub idle : out.units ≡ [] → WhereFiled (SettledTo job.name) old new

-- ---- whatever is answered

-- a reader who doesn't wait for recovery: each published file of each map is clean and expected of the state after the
-- run, where that was so of the first map and the state before it
abbrev pub ReadersOfRun : Job → Held → List ℕ → Files → List Files → Type 0
ReadersOfRun job held failing m added = (archive : Held) (o : Option State) → Agrees archive held
    → AllRecoverTo job.name archive o m → Readable job.name archive o m
    → EachOf (Readable job.name archive (state_after job held failing o)) added

-- the same of a call that only settles
abbrev pub ReadersOfSettling : List ℕ → Files → List Files → Type 0
ReadersOfSettling job m added = (archive : Held) (o : Option State) → AllRecoverTo job archive o m
    → Readable job archive o m → EachOf (Readable job archive o) added

-- the maps on the way
pub record TrailIs (job : Job) (failing : List ℕ) (d : Disk) (s : Supply) (e : Disk) (t : Supply) : Type 0 where
  pub added : List Files
  pub trail : e.trail ≡ d.trail ++ added
  pub stands : e.files ≡ last_map d.files added
  pub goes : TrailOfRun job s.held failing d.files added
  pub reads : ReadersOfRun job s.held failing d.files added

-- the pulls: those of the turns, from the first on
pub record PullsAre (job : Job) (failing : List ℕ) (s t : Supply) : Type 0 where
  pub found : Option State
  pub pulls : List Pull
  pub made : t ≡ with_pulls pulls s
  pub rest : List Pull
  pub turns : pulls_in (turns_of job s.held (run_units job s.held found) failing) ≡ pulls ++ rest

-- over a volume that tells too, the state is the one that was found there
pub record PullsAreOf (job : Job) (failing : List ℕ) (d : Disk) (s : Supply) (e : Disk) (t : Supply) : Type 0 where
  pub pulls : List Pull
  pub made : t ≡ with_pulls pulls s
  pub front : (o : Option State) → SettledEntry job.name d.files o → (rest : List Pull)
      × (pulls_in (turns_of job s.held (run_units job s.held o) failing) ≡ pulls ++ rest)

-- a published file is one of the map that was found or of what that settles to, or it is clean, and of a content that
-- stood under its name there or that the bytes given to these units make
abbrev pub MayBePublished : Job → Held → List Judged → Files → Files → List ℕ → File → Type 0
MayBePublished job given done found settled name f =
    (found name ≡ Some f) ⊎ (settled name ≡ Some f)
    ⊎ ((content : List ℕ) × (f ≡ clean content)
    × ((contents_at settled name ≡ Some content) ⊎ IsPublished job.name job.plan given done name content))

abbrev pub PublishesOnly : Job → Held → List Judged → Files → Files → Files → Type 0
PublishesOnly job given done found settled m = (name : List ℕ) (f : File) → is_published job.name name ≡ true
    → m name ≡ Some f → MayBePublished job given done found settled name f

-- over a volume that tells, whatever the source is: nothing is published in any map but what was found, and what the
-- bytes make that good units were given, of units that fit the state that was found
pub record PublishesGiven (job : Job) (d e : Disk) : Type 0 where
  pub added : List Files
  pub trail : e.trail ≡ d.trail ++ added
  pub stands : e.files ≡ last_map d.files added
  pub units : List WorkUnit
  pub results : List UnitResult
  pub fit : (o : Option State) → SettledEntry job.name d.files o → UnitsFit (state_or_empty job o).parts units
  pub given : Held
  pub judged : AreGivenBy job given (judged_by units results)
  pub publishes : (settled : Files) → Settles job.name d.files settled
      → EachOf (PublishesOnly job given (flat_map (done_in job) (groups_by job units results)) d.files settled) added

-- the state that was found and what the source holds owe no unit
abbrev pub OwesNothing : Job → Disk → Supply → Type 0
OwesNothing job d s = (o : Option State) → SettledEntry job.name d.files o → run_units job s.held o ≡ []

-- then nothing is changed but what settling changes
abbrev pub StaysIdle : Job → Disk → Supply → Disk → Supply → Type 0
StaysIdle job d s e t = OwesNothing job d s → OnlySettled job.name d e

-- no pull was made
abbrev pub NoPull : World → World → Type 0
NoPull old new = new.supply ≡ old.supply

-- refused over the state that was found: that is right where the source tells, the files are settled and nothing else,
-- and nothing was pulled
pub record IsRefused (job : Job) (right : Supply → Option State → Type 0) (stored : Option State → Type 0)
    (old new : World) : Type 0 where
  pub found : Option State
  pub entry : IfSome old.disk (λ d. SettledEntry job.name d.files found)
  pub told : IfSome old.supply (λ s. right s found)
  pub untold : stored found
  pub files : WhereFiled (SettledTo job.name) old new
  pub unpulled : NoPull old new

-- where each fault comes, and what it leaves
abbrev pub FaultCaused : Job → World → World → RunFault → Type 0
FaultCaused job old new (Damaged name) = WhereFiled (LeftBroken job.name name) old new × NoPull old new
FaultCaused job old new (Shrunk part next size) =
    IsRefused job (λ s o. IsFirstShrunk job s o part next size) (λ o. Unit {0}) old new
FaultCaused job old new (Full ranges units) =
    IsRefused job (λ s o. IsFull job s o ranges units) (λ o. TooMany job o ranges units) old new
FaultCaused job old new SourceFault =
    Rose old.plan_faults new.plan_faults × WhereFiled (SettledTo job.name) old new × NoPull old new
FaultCaused job old new VolumeFault = Rose old.volume_faults new.volume_faults
FaultCaused job old new Memory = Unit {0}

-- this is told, unless the volume failed or no memory was left
abbrev pub ToldFirst : {T : Type 0} → Result T RunFault → RunFault → Type 0
ToldFirst a r = (a ≡ Err r) ⊎ (a ≡ Err VolumeFault) ⊎ (a ≡ Err Memory)

-- a refusal that is due comes, unless a device failed before or no memory was left; damage needs no source
pub record Due (job : Job) (old : World) (a : Answer) : Type 0 where
  pub broken : IfSome old.disk (λ d. (name : List ℕ) → IsBroken job.name d.files name → ToldFirst a (Damaged name))
  pub refused : (d : Disk) (s : Supply) (r : RunFault) → old.disk ≡ Some d → old.supply ≡ Some s → Refused job d s r
      → ToldFirst a r ⊎ (a ≡ Err SourceFault)

-- where nothing is to be refused and no device failed, the run is done, unless no memory was left
abbrev pub Completes : Job → World → World → Answer → Type 0
Completes job old new a = (d : Disk) (s : Supply) → old.disk ≡ Some d → old.supply ≡ Some s
    → ((r : RunFault) → Refused job d s r → ⊥)
    → (Rose old.plan_faults new.plan_faults → ⊥) → (Rose old.volume_faults new.volume_faults → ⊥)
    → ((out : Outcome) × (a ≡ Ok out)) ⊎ (a ≡ Err Memory)

-- what a run says, whatever it answers
pub record RunAnswered (job : Job) (failing : List ℕ) (a : Answer) (old new : World) : Type 0 where
  pub done : IfOk a (λ out. RunIsDone job failing out old new)
  pub trail : WhereTold (TrailIs job failing) old new
  pub published : WhereFiled (PublishesGiven job) old new
  pub pulls : WhereSupplied (PullsAre job failing) old new
  pub own_pulls : WhereTold (PullsAreOf job failing) old new
  pub idle : WhereTold (StaysIdle job) old new
  pub damaged : WhereFiled (StaysDamaged job.name) old new
  pub pulled : HasPulled old.supply new.supply
  pub failed : FailuresRose failing old.source_faults new.source_faults
  pub caused : IfErr a (FaultCaused job old new)
  pub due : Due job old a
  pub completes : Completes job old new a
  pub below : Along (OnlyBelow (under job.name [])) old.disk new.disk
  pub goes_on : WorldGoesOn old new
