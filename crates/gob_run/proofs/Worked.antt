-- What turns and commits say, wherever they are stopped and where they are done.
use Rattle.std.proofs.Common.{◌≡◌, ℕ, ◌+◌, ◌*◌, ◌≤◌, List, [], ◌∷◌, zip, Option, Some, None, Ok, Err}
use Rattle.std.proofs.Common.{IfSome, length, map, refl, sym, ap, subst, subst₂, ◌∙◌, append-nil, arith}
use Rattle.std.specs.List.{Contains}
use Rattle.gob_bytes.specs.Paths.{staging, under}
use Rattle.gob_device.specs.Causes.{Rose, RoseBy}
use Rattle.gob_device.specs.Disk.{AddsMaps, Along, Both, Disk, EachOf, Files, Rises, Went, last_map}
use Rattle.gob_device.specs.Supply.{Held, Supply}
use Rattle.gob_device.proofs.Trail.{Join, along_map, along_nothing, along_then, each-last, last-append, maps_map}
use Rattle.gob_device.proofs.Trail.{maps_nothing, maps_then}
use Rattle.gob_device.proofs.Supply.{with_none}
use Rattle.gob_plan.specs.declared.units.Unit.{Unit as WorkUnit}
use Rattle.gob_plan.specs.declared.units.UnitResult.{UnitResult}
use Rattle.gob_meaning.specs.Job.{Job}
use Rattle.gob_meaning.specs.Laws.{IsRange}
use Rattle.gob_meaning.specs.Results.{Verdict}
use Rattle.gob_ledger.specs.Delta.{Kept, KeepsAs}
use Rattle.gob_ledger.specs.Groups.{groups_of, is_committed}
use Rattle.gob_ledger.specs.Next.{Judged}
use Rattle.gob_ledger.specs.Spelling.{Proper}
use Rattle.gob_ledger.specs.State.{State}
use Rattle.gob_ledger.specs.Turns.{pulls_in, turns_of, verdicts_of}
use Rattle.gob_recovery.specs.Commits.{OnlyBelow}
use Rattle.gob_recovery.specs.Settle.{IsSettled}
use Rattle.gob_recovery.proofs.Commits.{below_then}
use Rattle.gob_history.specs.Laws.{StagedOver}
use Rattle.gob_history.specs.Sound.{Stores}
use Rattle.gob_seq.specs.Faults.{RoseIfFailed}
use Rattle.gob_seq.specs.declared.faults.CommitFault.{CommitFault}
use Rattle.gob_seq.specs.declared.faults.CommitFault.TheVariants as commit_fault
use Rattle.gob_seq.proofs.Named.{below_job}
use Rattle.gob_cut.specs.declared.run_units.Cut.{Cut}
use Rattle.gob_segments.specs.Loading.{IsLoaded}
use Rattle.gob_segments.specs.declared.change.Loaded.{Loaded}
use Rattle.gob_state.specs.Committed.{judged_by, verdicts_in}
use Rattle.gob_state.specs.declared.next.Outcome.{Outcome}
use Rattle.gob_turns.specs.Taken.{AllStaged, AreFirstPulls, AreResults, FailuresRose, HasPulled, given_up_in}
use Rattle.gob_turns.specs.declared.fault.TurnsFault.{TurnsFault}
use Rattle.gob_turns.specs.declared.fault.TurnsFault.TheVariants as turns_fault
use Rattle.gob_commit.specs.Going.{CommitsAre, CommitsAlong, GoesToEnd, GoneAlong, GoneToEnd}
use Rattle.gob_commit.specs.Staged.{HasRules, RunHasStaged}
use Rattle.gob_commit.specs.declared.rules.CommitRules.{CommitRules}
use Rattle.gob_commit.specs.declared.rules.Committed.{Committed}
use Rattle.gob_commit.proofs.Doing.{nothing_first}
use Rattle.gob_turns.proofs.Pulled.{pulled_nothing}
use Rattle.gob_run.specs.Answers.{AreGivenBy, OutcomeFits, groups_by}
use Rattle.gob_run.specs.Faults.{run_of_commit, run_of_turns}
use Rattle.gob_run.specs.Working.{FiledAlong, FiledToEnd, OverFiled, OverLoaded, WentAlong, WentOver, WentOverAll}
use Rattle.gob_run.specs.Working.{WentToEnd, WorkStops, Worked, groups_over}
use Rattle.gob_run.specs.World.{WorldGoesOn, World}
use Rattle.gob_run.specs.declared.fault.RunFault.TheVariants.{Memory}
use Rattle.gob_run.proofs.Filing.{all_staged_given, are_given_by, none_given}
use Rattle.gob_run.proofs.Given.{AllGivenIn}
use Rattle.gob_run.proofs.Staging.{run_staged}
use Rattle.gob_run.proofs.World.{with_volume}

-- ---- maps over what was loaded

told_after : {A : Type 0} (R : A → A → Type 0) (old new : Option A) (a : A) → old ≡ Some a → Both R old new
    → (b : A) × (new ≡ Some b) × R a b
told_after R old None a is both = absurd (subst (λ o. Both R o None) is both)
told_after R old (Some b) a is both = (b, refl, subst (λ o. Both R o (Some b)) is both)

-- this holds of the maps, where the first is settled and all of it was loaded
abbrev Over : Job → Loaded → (Files → List Files → Type 0) → Files → List Files → Type 0
Over job l P m added =
    IsSettled job.name m → (k : Option Kept) → KeepsAs job.name m k → IsLoaded k l → P m added

over_filed : (job : Job) (l : Loaded) (old new : World) (P : Files → List Files → Type 0)
    → AddsMaps (Over job l P) old.disk new.disk → OverFiled job l old new P
over_filed job l old new P adds = λ d is_disk settled k keeps loaded.
    let t = told_after (Went (Over job l P)) old.disk new.disk d is_disk adds.told in (
      t.0,
      t.1,
      record {
        added = t.2.added;
        trail = t.2.trail;
        stands = t.2.stands;
        holds = t.2.holds settled k keeps loaded;
      },
    )

over_loaded : (job : Job) (l : Loaded) (old new : World) (P : Held → Files → List Files → Type 0)
    → ((s : Supply) → old.supply ≡ Some s → AddsMaps (Over job l (P s.held)) old.disk new.disk)
    → OverLoaded job l old new P
over_loaded job l old new P each = λ s is_supply. over_filed job l old new (P s.held) (each s is_supply)

-- what holds of the map that stands holds of the last one
maps_end : (Q : Files → List Files → Type 0) (R : Files → Type 0) (old new : Option Disk) → AddsMaps Q old new
    → IfSome new (λ d. R d.files) → AddsMaps (λ m added. Q m added × R (last_map m added)) old new
maps_end Q R None None a r = record { told = tt }
maps_end Q R None (Some e) a r = absurd a.told
maps_end Q R (Some d) None a r = absurd a.told
maps_end Q R (Some d) (Some e) a r = record {
  told = record {
    added = a.told.added;
    trail = a.told.trail;
    stands = a.told.stands;
    holds = (a.told.holds, subst R a.told.stands r);
  };
}

-- ---- before the commits

none_gone : (job : Job) (held : Held) (o : Option State) (groups : List (List Judged)) (m : Files)
    → IsSettled job.name m → Stores job.name m o → GoneAlong job held o groups m []
unfolding Rises
none_gone job held o groups m settled stores = record {
  before = [];
  rest = groups;
  whole = refl;
  last = m;
  maps = m ∷ [];
  done = nothing_first job held o m settled stores;
  rises = ([], [], refl, tt, refl);
  reads = tt;
}

turns_alone : (job : Job) (held : Held) (l : Loaded) (groups : List (List Judged)) (m : Files) (turns : List Files)
    → EachOf (StagedOver job.name m) turns → Over job l (WentOver job held l.state groups) m turns
turns_alone job held l groups m turns each = λ settled k keeps loaded. record {
  turns = turns;
  commits = [];
  whole = sym (append-nil turns);
  over = each;
  gone = none_gone job held l.state groups m settled (k, keeps, sym loaded.state);
}

-- no unit has a result
turns_filed : (job : Job) (l : Loaded) (units : List WorkUnit) (m : Files) (turns : List Files)
    → EachOf (StagedOver job.name m) turns → Over job l (FiledAlong job l.state units) m turns
turns_filed job l units m turns each = λ settled k keeps loaded. record {
  results = [];
  given = [];
  judged = none_given job [] units;
  went = turns_alone job [] l (groups_by job units []) m turns each settled k keeps loaded;
}

-- ---- the commits

-- the maps of the turns, the last of which has staged what the units make
abbrev Staged : Job → Held → List WorkUnit → List UnitResult → Files → List Files → Type 0
Staged job held units results m turns =
    EachOf (StagedOver job.name m) turns × AllStaged job held units results (last_map m turns)

-- each unit has a range
abbrev pub HaveRanges : List WorkUnit → Type 0
HaveRanges units = (u : WorkUnit) → Contains units u → IsRange u.part u.lo u.hi

staged_run : (job : Job) (held : Held) (l : Loaded) (units : List WorkUnit) (results : List UnitResult)
    → HaveRanges units → (m : Files) (turns : List Files) → Staged job held units results m turns
    → Over job l (λ n added. RunHasStaged job held l units results n (last_map n added)) m turns
staged_run job held l units results ranges m turns staged = λ settled k keeps loaded.
    run_staged job held l units results m (last_map m turns) k settled keeps loaded
    (each-last (StagedOver job.name m) m turns (λ name out. refl) staged.0) staged.1 ranges

-- the groups of units with these verdicts
abbrev groups_with : Job → List WorkUnit → List Verdict → List (List Judged)
groups_with job units verdicts = groups_of job.scope (zip units verdicts)

commits_along : (job : Job) (held : Held) (rules : CommitRules) (l : Loaded) (units : List WorkUnit)
    (results : List UnitResult) (verdicts : List Verdict) → HasRules job rules → HaveRanges units
    → verdicts_in results ≡ verdicts → Join (Staged job held units results) (CommitsAlong rules l units results)
    (Over job l (WentOver job held l.state (groups_with job units verdicts)))
commits_along job held rules l units results verdicts has ranges same m turns commits staged goes =
    λ settled k keeps loaded.
    let run = staged_run job held l units results ranges m turns staged settled k keeps loaded in
    record {
      turns = turns;
      commits = commits;
      whole = refl;
      over = staged.0;
      gone = subst
          (λ (vs : List Verdict). GoneAlong job held l.state (groups_with job units vs) m commits) same
          (goes job held m has run);
    }

commits_to_end : (job : Job) (held : Held) (rules : CommitRules) (l : Loaded) (units : List WorkUnit)
    (results : List UnitResult) (verdicts : List Verdict) → HasRules job rules → HaveRanges units
    → verdicts_in results ≡ verdicts → Join (Staged job held units results) (GoesToEnd rules l units results)
    (Over job l (WentOverAll job held l.state (groups_with job units verdicts)))
commits_to_end job held rules l units results verdicts has ranges same m turns commits staged goes =
    λ settled k keeps loaded.
    let run = staged_run job held l units results ranges m turns staged settled k keeps loaded in
    let gone = subst
    (λ (vs : List Verdict). GoneToEnd job held l.state (groups_with job units vs) m commits
    (last_map (last_map m turns) commits)) same (goes job held m has run) in
    record {
      turns = turns;
      commits = commits;
      whole = refl;
      over = staged.0;
      gone = subst
          (λ (last : Files). GoneToEnd job held l.state (groups_with job units verdicts) m commits last)
          (sym (last-append m turns commits)) gone;
    }

-- the same of the bytes that the units were given
filed_along : (job : Job) (held : Held) (rules : CommitRules) (l : Loaded) (units : List WorkUnit)
    (results : List UnitResult) → HasRules job rules → HaveRanges units
    → AreGivenBy job held (judged_by units results)
    → Join (Staged job held units results) (CommitsAlong rules l units results)
    (Over job l (FiledAlong job l.state units))
filed_along job held rules l units results has ranges given m turns commits staged goes =
    λ settled k keeps loaded. record {
      results = results;
      given = held;
      judged = given;
      went = commits_along job held rules l units results (verdicts_in results) has ranges refl m turns commits staged
          goes settled k keeps loaded;
    }

filed_to_end : (job : Job) (held : Held) (rules : CommitRules) (l : Loaded) (units : List WorkUnit)
    (results : List UnitResult) → HasRules job rules → HaveRanges units
    → AreGivenBy job held (judged_by units results)
    → Join (Staged job held units results) (GoesToEnd rules l units results)
    (Over job l (FiledToEnd job l.state units results))
filed_to_end job held rules l units results has ranges given m turns commits staged goes =
    λ settled k keeps loaded. record {
      given = held;
      judged = given;
      went = commits_to_end job held rules l units results (verdicts_in results) has ranges refl m turns commits staged
          goes settled k keeps loaded;
    }

-- ---- what the calls say

-- what turns say, whatever they answer
pub record TurnsSay (job : Job) (cut : Cut) (failing : List ℕ) (old new : World) : Type 0 where
  pub pulls : (s : Supply) → old.supply ≡ Some s → AreFirstPulls job s cut.units failing new.supply
  pub pulled : HasPulled old.supply new.supply
  pub maps : Along (OnlyBelow (staging job.name)) old.disk new.disk
  pub failed : FailuresRose failing old.source_faults new.source_faults
  pub planned : new.plan_faults ≡ old.plan_faults
  pub goes_on : WorldGoesOn old new

-- and where they end
pub record TurnsEnd (job : Job) (cut : Cut) (failing : List ℕ) (results : List UnitResult) (old new : World)
    : Type 0 where
  pub say : TurnsSay job cut failing old new
  pub whole : (s : Supply) → old.supply ≡ Some s
      → AreResults job s cut.units failing results new.supply new.disk
  pub given : (held : Held) × AllGivenIn job held cut.units results new.disk
  pub gave_up : RoseBy (given_up_in results * (job.max_retries + 1)) old.source_faults new.source_faults

-- what commits say, whatever they answer
pub record CommitsSay (job : Job) (rules : CommitRules) (l : Loaded) (units : List WorkUnit)
    (results : List UnitResult) (old : World) (disk : Option Disk) (faults : ℕ) : Type 0 where
  pub along : AddsMaps (CommitsAlong rules l units results) old.disk disk
  pub below : Along (OnlyBelow (under job.name [])) old.disk disk
  pub goes_on : old.volume_faults ≤ faults

-- ---- where the work stops

-- no turn was had
pub stopped_at_first : (job : Job) (l : Loaded) (cut : Cut) (w : World) → Worked job [] l cut (Err Memory) w w
stopped_at_first job l cut w = record {
  done = tt;
  along = over_loaded job l w w (λ held. WentAlong job held l.state cut.units []) (λ s is.
      maps_nothing (Over job l (WentAlong job s.held l.state cut.units []))
      (λ m. turns_alone job s.held l (groups_over job s.held cut.units []) m [] tt) w.disk);
  filed = over_filed job l w w (FiledAlong job l.state cut.units)
      (maps_nothing (Over job l (FiledAlong job l.state cut.units)) (λ m. turns_filed job l cut.units m [] tt) w.disk);
  pulls = λ s is. record {
    pulls = [];
    rest = pulls_in (turns_of job s.held cut.units []);
    supply = is ∙ ap (λ t. Some t) (with_none s);
    turns = refl;
  };
  pulled = pulled_nothing w.supply;
  failed = record { rising = (0, refl); counted = omega arith };
  stopped = tt;
  planned = refl;
  below = along_nothing (OnlyBelow (under job.name [])) w.disk;
  goes_on = record { source = omega arith; planned = omega arith; volume = omega arith };
}

turns_stop : (fault : TurnsFault) (old new : World)
    → (fault ≡ turns_fault.Failed → Rose old.volume_faults new.volume_faults) → WorkStops old new (run_of_turns fault)
turns_stop turns_fault.Failed old new rose = rose refl
turns_stop turns_fault.Memory old new rose = tt

-- the turns were stopped
pub stopped_in_turns : (job : Job) (l : Loaded) (cut : Cut) (failing : List ℕ) (fault : TurnsFault) (old new : World)
    → TurnsSay job cut failing old new
    → (fault ≡ turns_fault.Failed → Rose old.volume_faults new.volume_faults)
    → Worked job failing l cut (Err (run_of_turns fault)) old new
stopped_in_turns job l cut failing fault old new say rose = record {
  done = tt;
  along = over_loaded job l old new (λ held. WentAlong job held l.state cut.units failing) (λ s is.
      maps_map (λ m turns each. turns_alone job s.held l (groups_over job s.held cut.units failing) m turns each)
      say.maps);
  filed = over_filed job l old new (FiledAlong job l.state cut.units)
      (maps_map (λ m turns each. turns_filed job l cut.units m turns each) say.maps);
  pulls = say.pulls;
  pulled = say.pulled;
  failed = say.failed;
  stopped = turns_stop fault old new rose;
  planned = say.planned;
  below = along_map (OnlyBelow (staging job.name)) (OnlyBelow (under job.name [])) (below_job job.name) say.maps;
  goes_on = say.goes_on;
}

-- ---- where the commits were begun

-- what was staged for them
staged_maps : (job : Job) (cut : Cut) (failing : List ℕ) (results : List UnitResult) (old mid : World)
    → TurnsEnd job cut failing results old mid → (held : Held)
    → IfSome mid.disk (λ d. AllStaged job held cut.units results d.files)
    → AddsMaps (Staged job held cut.units results) old.disk mid.disk
staged_maps job cut failing results old mid end held staged =
    maps_end (λ m turns. EachOf (StagedOver job.name m) turns) (AllStaged job held cut.units results)
    old.disk mid.disk end.say.maps staged

given_maps : (job : Job) (cut : Cut) (failing : List ℕ) (results : List UnitResult) (old mid : World)
    → (end : TurnsEnd job cut failing results old mid)
    → AddsMaps (Staged job end.given.0 cut.units results) old.disk mid.disk
given_maps job cut failing results old mid end = staged_maps job cut failing results old mid end end.given.0
    (all_staged_given job end.given.0 cut.units results mid.disk end.given.1)

goes_on_then : (old mid : World) (disk : Option Disk) (faults : ℕ) → WorldGoesOn old mid → mid.volume_faults ≤ faults
    → WorldGoesOn old (with_volume mid disk faults)
goes_on_then old mid disk faults goes later = record {
  source = goes.source;
  planned = goes.planned;
  volume = let first = goes.volume in omega (arith, first, later);
}

below_both : (job : List ℕ) (old mid new : Option Disk) → Along (OnlyBelow (staging job)) old mid
    → Along (OnlyBelow (under job [])) mid new → Along (OnlyBelow (under job [])) old new
below_both job old mid new first then =
    along_then (OnlyBelow (under job [])) (below_then (under job []))
    (along_map (OnlyBelow (staging job)) (OnlyBelow (under job [])) (below_job job) first) then

along_both : (job : Job) (l : Loaded) (cut : Cut) (failing : List ℕ) (results : List UnitResult) (rules : CommitRules)
    (old mid : World) (disk : Option Disk) (faults : ℕ) → TurnsEnd job cut failing results old mid → HasRules job rules
    → HaveRanges cut.units → CommitsSay job rules l cut.units results mid disk faults
    → OverLoaded job l old (with_volume mid disk faults) (λ held. WentAlong job held l.state cut.units failing)
along_both job l cut failing results rules old mid disk faults end has ranges say =
    over_loaded job l old (with_volume mid disk faults) (λ held. WentAlong job held l.state cut.units failing)
    (λ s is. maps_then
    (commits_along job s.held rules l cut.units results (verdicts_of job s.held cut.units failing) has ranges
    (end.whole s is).verdicts)
    (staged_maps job cut failing results old mid end s.held (end.whole s is).staged) say.along)

filed_both : (job : Job) (l : Loaded) (cut : Cut) (failing : List ℕ) (results : List UnitResult) (rules : CommitRules)
    (old mid : World) (disk : Option Disk) (faults : ℕ) → TurnsEnd job cut failing results old mid → HasRules job rules
    → HaveRanges cut.units → CommitsSay job rules l cut.units results mid disk faults
    → OverFiled job l old (with_volume mid disk faults) (FiledAlong job l.state cut.units)
filed_both job l cut failing results rules old mid disk faults end has ranges say =
    over_filed job l old (with_volume mid disk faults) (FiledAlong job l.state cut.units)
    (maps_then
    (filed_along job end.given.0 rules l cut.units results has ranges
    (are_given_by job end.given.0 cut.units results mid.disk end.given.1))
    (given_maps job cut failing results old mid end) say.along)

to_end_both : (job : Job) (l : Loaded) (cut : Cut) (failing : List ℕ) (results : List UnitResult)
    (rules : CommitRules) (old mid : World) (disk : Option Disk) (faults : ℕ)
    → TurnsEnd job cut failing results old mid → HasRules job rules → HaveRanges cut.units
    → AddsMaps (GoesToEnd rules l cut.units results) mid.disk disk
    → OverLoaded job l old (with_volume mid disk faults) (λ held. WentToEnd job held l.state cut.units failing)
to_end_both job l cut failing results rules old mid disk faults end has ranges goes =
    over_loaded job l old (with_volume mid disk faults) (λ held. WentToEnd job held l.state cut.units failing)
    (λ s is. maps_then
    (commits_to_end job s.held rules l cut.units results (verdicts_of job s.held cut.units failing) has ranges
    (end.whole s is).verdicts)
    (staged_maps job cut failing results old mid end s.held (end.whole s is).staged) goes)

filed_end_both : (job : Job) (l : Loaded) (cut : Cut) (failing : List ℕ) (results : List UnitResult)
    (rules : CommitRules) (old mid : World) (disk : Option Disk) (faults : ℕ)
    → TurnsEnd job cut failing results old mid → HasRules job rules → HaveRanges cut.units
    → AddsMaps (GoesToEnd rules l cut.units results) mid.disk disk
    → OverFiled job l old (with_volume mid disk faults) (FiledToEnd job l.state cut.units results)
filed_end_both job l cut failing results rules old mid disk faults end has ranges goes =
    over_filed job l old (with_volume mid disk faults) (FiledToEnd job l.state cut.units results)
    (maps_then
    (filed_to_end job end.given.0 rules l cut.units results has ranges
    (are_given_by job end.given.0 cut.units results mid.disk end.given.1))
    (given_maps job cut failing results old mid end) goes)

commits_stop : (fault : CommitFault) (old mid : World) (disk : Option Disk) (faults : ℕ) → WorldGoesOn old mid
    → RoseIfFailed mid.volume_faults faults fault → WorkStops old (with_volume mid disk faults) (run_of_commit fault)
commits_stop commit_fault.Failed old mid disk faults goes rose = let first = goes.volume in omega (arith, first, rose)
commits_stop commit_fault.Memory old mid disk faults goes rose = tt

-- the commits were stopped
pub stopped_in_commits : (job : Job) (l : Loaded) (cut : Cut) (failing : List ℕ) (results : List UnitResult)
    (rules : CommitRules) (fault : CommitFault) (old mid : World) (disk : Option Disk) (faults : ℕ)
    → TurnsEnd job cut failing results old mid → HasRules job rules → HaveRanges cut.units
    → CommitsSay job rules l cut.units results mid disk faults → RoseIfFailed mid.volume_faults faults fault
    → Worked job failing l cut (Err (run_of_commit fault)) old (with_volume mid disk faults)
stopped_in_commits job l cut failing results rules fault old mid disk faults end has ranges say rose = record {
  done = tt;
  along = along_both job l cut failing results rules old mid disk faults end has ranges say;
  filed = filed_both job l cut failing results rules old mid disk faults end has ranges say;
  pulls = end.say.pulls;
  pulled = end.say.pulled;
  failed = end.say.failed;
  stopped = commits_stop fault old mid disk faults end.say.goes_on rose;
  planned = end.say.planned;
  below = below_both job.name old.disk mid.disk disk end.say.maps say.below;
  goes_on = goes_on_then old mid disk faults end.say.goes_on say.goes_on;
}

-- what the run answers
abbrev pub outcome_of : Cut → List UnitResult → Committed → Outcome
outcome_of cut results c = record {
  units = cut.units;
  results = results;
  too_long = cut.too_long;
  after = c.after;
  committed = c.committed;
}

outcome_fits : (job : Job) (l : Loaded) (cut : Cut) (results : List UnitResult) (rules : CommitRules) (c : Committed)
    → HasRules job rules → length results ≡ length cut.units → CommitsAre rules l cut.units results c
    → Proper c.after → OutcomeFits job l.state (outcome_of cut results c)
outcome_fits job l cut results rules c has counted are proper = record {
  results = counted;
  committed = subst₂ (λ s p. c.committed ≡ map (is_committed s p (judged_by cut.units results))
      (judged_by cut.units results)) (sym has.scope) (sym has.policy) are.committed;
  after = are.after job has;
  proper = proper;
}

-- all is done
pub work_done : (job : Job) (l : Loaded) (cut : Cut) (failing : List ℕ) (results : List UnitResult)
    (rules : CommitRules) (c : Committed) (old mid : World) (disk : Option Disk) (faults : ℕ)
    → TurnsEnd job cut failing results old mid → HasRules job rules → HaveRanges cut.units
    → length results ≡ length cut.units → CommitsSay job rules l cut.units results mid disk faults
    → CommitsAre rules l cut.units results c → Proper c.after
    → AddsMaps (GoesToEnd rules l cut.units results) mid.disk disk
    → Worked job failing l cut (Ok (outcome_of cut results c)) old (with_volume mid disk faults)
work_done job l cut failing results rules c old mid disk faults end has ranges counted say are proper goes = record {
  done = record {
    units = refl;
    too_long = refl;
    fits = outcome_fits job l cut results rules c has counted are proper;
    told = λ s is. let r = end.whole s is in record { pulls = r.pulls; verdicts = r.verdicts };
    left = to_end_both job l cut failing results rules old mid disk faults end has ranges goes;
    filed = filed_end_both job l cut failing results rules old mid disk faults end has ranges goes;
    gave_up = end.gave_up;
  };
  along = along_both job l cut failing results rules old mid disk faults end has ranges say;
  filed = filed_both job l cut failing results rules old mid disk faults end has ranges say;
  pulls = end.say.pulls;
  pulled = end.say.pulled;
  failed = end.say.failed;
  stopped = tt;
  planned = end.say.planned;
  below = below_both job.name old.disk mid.disk disk end.say.maps say.below;
  goes_on = goes_on_then old mid disk faults end.say.goes_on say.goes_on;
}
