-- What the units of a run have staged, and what is needed to commit it.
use Rattle.std.specs.Prelude.{◌≡◌, ◌≢◌, ◌≤◌, ℕ, true, List, [], ◌∷◌, length, map, IsSome}
use Rattle.std.specs.declared.option.Option.{Option}
use Rattle.std.specs.declared.option.Option.TheVariants.{None, Some}
use Rattle.std.specs.List.{Contains, flat_map, zip}
use Rattle.std.specs.List.Sorted.{IsPermutation}
use denote.Ref.{Bor}
use Rattle.gob_bytes.specs.Paths.{is_published, sequence_name}
use Rattle.gob_device.specs.Disk.{Files}
use Rattle.gob_device.specs.Supply.{Held}
use Rattle.gob_plan.specs.declared.units.StagedFile.{StagedFile}
use Rattle.gob_plan.specs.declared.units.Unit.{Unit as WorkUnit}
use Rattle.gob_plan.specs.declared.units.UnitResult.{UnitResult}
use Rattle.gob_plan.specs.declared.units.UnitResult.TheVariants as result
use Rattle.gob_meaning.specs.Job.{Job}
use Rattle.gob_meaning.specs.Laws.{IsRange}
use Rattle.gob_ledger.specs.Delta.{Kept, KeepsAs}
use Rattle.gob_ledger.specs.Next.{Judged, is_good}
use Rattle.gob_ledger.specs.Spelling.{IsKeptPipeline}
use Rattle.gob_ledger.specs.State.{State, empty_state}
use Rattle.gob_ledger.specs.Units.{UnitsFit}
use Rattle.gob_recovery.specs.Sequence.{CommitStep, WellFormed, is_file_name}
use Rattle.gob_recovery.specs.Settle.{IsSettled}
use Rattle.gob_history.specs.Laws.{StagedFor, StagedOver, moves_of, staged_state}
use Rattle.gob_segments.specs.declared.change.Loaded.{Loaded}
use Rattle.gob_state.specs.Committed.{AreKept, verdict_in}
use Rattle.gob_commit.specs.declared.rules.CommitRules.{CommitRules}
use Rattle.gob_segments.specs.Loading.{IsLoaded, LoadedFits}

-- a unit with its result
abbrev pub PulledUnit : Type 0
PulledUnit = WorkUnit × UnitResult

-- the same without its staged files
abbrev pub judged_of : PulledUnit → Judged
judged_of w = (w.0, verdict_in w.1)

-- the name of a staged file, and the one that it is to have
abbrev pub Pair : Type 0
Pair = List ℕ × List ℕ

abbrev pub pair_of : StagedFile → Pair
pair_of f = (f.from, f.to)

abbrev pub pairs_in : UnitResult → List Pair
pairs_in (result.Good counts warnings staged) = map pair_of staged
pairs_in (result.Failed cause) = []

abbrev pub all_pairs : List UnitResult → List Pair
all_pairs results = flat_map pairs_in results

-- a staged file and its target, lent in the other order
abbrev pub lent_pair : Bor (List ℕ) × Bor (List ℕ) → Pair
lent_pair f = (f.1.now, f.0.now)

-- the steps move all pairs, in some order
pub record MovesAll (pairs : List Pair) (steps : List CommitStep) : Type 0 where
  pub sorted : List Pair
  pub moved : IsPermutation pairs sorted
  pub are : steps ≡ moves_of sorted

-- ---- what is known, whether the volume tells or not

-- a sequence can move the files, none of them is the staged state, and each is published
pub record NamesFit (job : List ℕ) (pairs : List Pair) : Type 0 where
  pub fits : WellFormed job (moves_of pairs)
  pub apart : (p : Pair) → Contains pairs p → p.0 ≢ staged_state job
  pub published : (p : Pair) → Contains pairs p → is_published job p.1 ≡ true

-- no state counts as the empty state of so many branches
abbrev pub state_or : ℕ → Option State → State
state_or branches None = empty_state branches
state_or branches (Some s) = s

-- units with their results that can be committed over this state
pub record UnitsCanCommit (rules : CommitRules) (s : State) (units : List WorkUnit)
    (results : List UnitResult) : Type 0 where
  pub pipeline : IsKeptPipeline rules.pipeline.now
  pub counted : length results ≡ length units
  pub fits : UnitsFit s.parts units
  pub kept : AreKept units results

-- units with their results that can be committed over what was loaded
pub record CanCommit (rules : CommitRules) (l : Loaded) (units : List WorkUnit) (results : List UnitResult) : Type 0
  where
    pub job : is_file_name rules.job.now ≡ true
    pub branches : (1 ≤ rules.branches) × (rules.branches ≤ 8)
    pub loaded : LoadedFits l
    pub can : UnitsCanCommit rules (state_or rules.branches l.state) units results
    pub names : NamesFit rules.job.now (all_pairs results)

-- no sequence is open, and what is to be moved is there
pub record AreReadyToMove (job : List ℕ) (pairs : List Pair) (m : Files) : Type 0 where
  pub closed : m (sequence_name job) ≡ None
  pub there : (p : Pair) → Contains pairs p → IsSome (m p.0)

-- ---- what a volume tells

-- the job has these rules
pub record HasRules (j : Job) (rules : CommitRules) : Type 0 where
  pub name : j.name ≡ rules.job.now
  pub pipeline : j.pipeline ≡ rules.pipeline.now
  pub branches : length j.plan.branches ≡ rules.branches
  pub policy : j.policy ≡ rules.policy
  pub scope : j.scope ≡ rules.scope

-- over the settled map, of which all was loaded, each good unit has staged what it makes
pub record HasStaged (j : Job) (held : Held) (l : Loaded) (units : List WorkUnit) (results : List UnitResult)
    (settled m : Files) : Type 0 where
  pub closed : IsSettled j.name settled
  pub kept : Option Kept
  pub keeps : KeepsAs j.name settled kept
  pub loaded : IsLoaded kept l
  pub over : StagedOver j.name settled m
  pub staged : (w : PulledUnit) → Contains (zip units results) w → is_good (verdict_in w.1) ≡ true
      → StagedFor j held (judged_of w ∷ []) m (pairs_in w.1)

-- the same of a run's units, each with its range
pub record RunHasStaged (j : Job) (held : Held) (l : Loaded) (units : List WorkUnit) (results : List UnitResult)
    (settled m : Files) : Type 0 where
  pub has : HasStaged j held l units results settled m
  pub ranges : (u : WorkUnit) → Contains units u → IsRange u.part u.lo u.hi
