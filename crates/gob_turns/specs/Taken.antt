-- What the turns of a run leave: pulls, results, staged files and faults.
use Rattle.std.specs.Prelude.{◌≡◌, ◌≢◌, ℕ, ◌-◌, true, List, [], ◌∷◌, ◌++◌, map, length, option_map, IfSome, IsSome}
use Rattle.std.specs.declared.option.Option.{Option}
use Rattle.std.specs.declared.option.Option.TheVariants.{Some}
use Rattle.std.specs.List.{Contains, count_by, flat_map, slice_get}
use Rattle.gob_bytes.specs.Paths.{begins_with, is_published, staging}
use Rattle.gob_device.specs.Causes.{RoseBy}
use Rattle.gob_device.specs.Disk.{Disk, Files}
use Rattle.gob_device.specs.Supply.{Held, Pull, Supply, with_pulls}
use Rattle.gob_plan.specs.declared.units.Counts.{Counts}
use Rattle.gob_plan.specs.declared.units.Unit.{Unit as WorkUnit}
use Rattle.gob_plan.specs.declared.units.UnitResult.{UnitResult}
use Rattle.gob_meaning.specs.Job.{Job}
use Rattle.gob_meaning.specs.Results.{verdict_of}
use Rattle.gob_ledger.specs.Expected.{bytes_of_range}
use Rattle.gob_ledger.specs.Laws.{ProperCounts}
use Rattle.gob_ledger.specs.Next.{counts_in, is_good}
use Rattle.gob_ledger.specs.TurnLaws.{is_fault}
use Rattle.gob_ledger.specs.Turns.{pulls_in, turns_of, verdicts_of}
use Rattle.gob_ledger.specs.Units.{span_of}
use Rattle.gob_recovery.specs.Sequence.{WellFormed}
use Rattle.gob_history.specs.Laws.{StagedFor, moves_of, staged_state}
use Rattle.gob_state.specs.Committed.{verdict_in, verdicts_in}
use Rattle.gob_sched.specs.CoreValue.{is_rising_below}
use Rattle.gob_task.specs.Finish.{staged_in}

-- a unit's files: where each is staged, and where it is to be published
abbrev pub moves_in : UnitResult → List (List ℕ × List ℕ)
moves_in r = map (λ f. (f.from, f.to)) (staged_in r)

-- the files of all units
abbrev pub all_moves : List UnitResult → List (List ℕ × List ℕ)
all_moves results = flat_map moves_in results

-- ---- over a source that tells

-- what is staged of each good unit is what it makes
abbrev pub AllStaged : Job → Held → List WorkUnit → List UnitResult → Files → Type 0
AllStaged job held units results m = (i : ℕ) (u : WorkUnit) (r : UnitResult)
    → slice_get units i ≡ Some u → slice_get results i ≡ Some r → is_good (verdict_in r) ≡ true
    → StagedFor job held ((u, verdict_in r) ∷ []) m (moves_in r)

-- the pulls are the first of the run in which these turns failed
pub record AreFirstPulls (job : Job) (s : Supply) (units : List WorkUnit) (failed : List ℕ) (now : Option Supply)
    : Type 0 where
  pub pulls : List Pull
  pub rest : List Pull
  pub supply : now ≡ Some (with_pulls pulls s)
  pub turns : pulls_in (turns_of job s.held units failed) ≡ pulls ++ rest

-- all pulls of the run, its verdicts, and what is staged
pub record AreResults (job : Job) (s : Supply) (units : List WorkUnit) (failed : List ℕ) (results : List UnitResult)
    (now : Option Supply) (disk : Option Disk) : Type 0 where
  pub pulls : now ≡ Some (with_pulls (pulls_in (turns_of job s.held units failed)) s)
  pub verdicts : verdicts_in results ≡ verdicts_of job s.held units failed
  pub staged : IfSome disk (λ d. AllStaged job s.held units results d.files)

-- ---- over any devices

-- a source that tells tells of these pulls more, and one that doesn't tell doesn't afterwards
abbrev pub HasPulled : Option Supply → Option Supply → Type 0
HasPulled old new = (pulls : List Pull) × (new ≡ option_map (with_pulls pulls) old)

-- the bytes that a good unit was given: as many as its range has; its verdict and its files are what they make
pub record IsGiven (job : Job) (u : WorkUnit) (r : UnitResult) (disk : Option Disk) : Type 0 where
  pub bytes : List ℕ
  pub whole : length bytes ≡ u.hi - u.lo
  pub verdict : verdict_in r ≡ verdict_of job.plan u bytes
  pub staged : IfSome disk (λ d. (held : Held) → bytes_of_range held u.part (span_of u) ≡ bytes
      → StagedFor job held ((u, verdict_in r) ∷ []) d.files (moves_in r))

-- each good unit was given bytes
abbrev pub AllGiven : Job → List WorkUnit → List UnitResult → Option Disk → Type 0
AllGiven job units results disk = (i : ℕ) (u : WorkUnit) (r : UnitResult)
    → slice_get units i ≡ Some u → slice_get results i ≡ Some r → is_good (verdict_in r) ≡ true
    → IsGiven job u r disk

-- the name of a staged file other than the state, and one that is published
pub record IsStagedPair (job : List ℕ) (p : List ℕ × List ℕ) : Type 0 where
  pub staged : begins_with (staging job) p.0 ≡ true
  pub other : p.0 ≢ staged_state job
  pub published : is_published job p.1 ≡ true

-- the results have files that a commit can move, and counts that a state can keep
pub record AreCommittable (job : List ℕ) (units : List WorkUnit) (results : List UnitResult) (new : Option Disk)
    : Type 0 where
  pub number : length results ≡ length units
  pub moves : WellFormed job (moves_of (all_moves results))
  pub names : (p : List ℕ × List ℕ) → Contains (all_moves results) p → IsStagedPair job p
  pub counted : (r : UnitResult) (c : Counts) → Contains results r → counts_in (verdict_in r) ≡ Some c → ProperCounts c
  pub there : IfSome new (λ d. (p : List ℕ × List ℕ) → Contains (all_moves results) p → IsSome (d.files p.0))

-- how many units were given up
abbrev pub given_up_in : List UnitResult → ℕ
given_up_in results = count_by (λ r. is_fault (verdict_in r)) results

-- the failed turns are numbered in order, and each is a fault of the source
pub record FailuresRose (failed : List ℕ) (old now : ℕ) : Type 0 where
  pub rising : (turns : ℕ) × (is_rising_below failed turns ≡ true)
  pub counted : RoseBy (length failed) old now
