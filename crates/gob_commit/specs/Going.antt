-- What the commits of a run's groups leave.
use Rattle.std.specs.Prelude.{◌≡◌, ◌≢◌, ◌⊎◌, ℕ, true, List, [], ◌∷◌, ◌++◌, map}
use Rattle.std.specs.declared.option.Option.{Option}
use Rattle.std.specs.declared.option.Option.TheVariants.{None}
use Rattle.std.specs.List.{Contains, IsDistinct}
use Rattle.std.specs.Str.{bytes_eq}
use Rattle.gob_bytes.specs.Paths.{begins_with, keeps_state, sequence_name, staging}
use Rattle.gob_device.specs.Disk.{EachOf, Files, Rises, last_map}
use Rattle.gob_device.specs.Supply.{Held}
use Rattle.gob_plan.specs.declared.units.Unit.{Unit as WorkUnit}
use Rattle.gob_plan.specs.declared.units.UnitResult.{UnitResult}
use Rattle.gob_meaning.specs.Job.{Job}
use Rattle.gob_ledger.specs.Delta.{Change, Kept}
use Rattle.gob_ledger.specs.Groups.{groups_of, is_committed}
use Rattle.gob_ledger.specs.Next.{Judged, allowed_units, next_state}
use Rattle.gob_ledger.specs.State.{State}
use Rattle.gob_recovery.specs.Commits.{part_done, staged_sequence}
use Rattle.gob_recovery.specs.Sequence.{CommitStep, WellFormed, is_file_name}
use Rattle.gob_recovery.specs.Settle.{SettlesAs, do_steps, without_staging}
use Rattle.gob_history.specs.Laws.{CommittedGroup, StagedOver, group_steps, staged_state}
use Rattle.gob_history.specs.Runs.{after_groups, done_in, kept_after_group, state_or_empty, stored_where}
use Rattle.gob_segments.specs.declared.change.Loaded.{Loaded}
use Rattle.gob_seq.specs.Maps.{after_write}
use Rattle.gob_state.specs.Committed.{judged_by, verdicts_in}
use Rattle.gob_commit.specs.declared.rules.CommitRules.{CommitRules}
use Rattle.gob_commit.specs.declared.rules.Committed.{Committed}
use Rattle.gob_commit.specs.Done.{GroupsDone, PublishedFrom}
use Rattle.gob_segments.specs.Loading.{IsLoaded, LoadedFits}
use Rattle.gob_commit.specs.Staged.{HasRules, HasStaged, Pair, RunHasStaged, state_or}

-- ---- a run

-- what the commits came to, for each job with these rules
pub record CommitsAre (rules : CommitRules) (l : Loaded) (units : List WorkUnit) (results : List UnitResult)
    (c : Committed) : Type 0 where
  pub after : (j : Job) → HasRules j rules
      → c.after ≡ state_or_empty j (after_groups j l.state (groups_of j.scope (judged_by units results)))
  pub committed : c.committed
      ≡ map (is_committed rules.scope rules.policy (judged_by units results)) (judged_by units results)

-- the maps settle along the commits of the first groups, and each published file is one that one of these left
pub record GoneAlong (j : Job) (held : Held) (o : Option State) (groups : List (List Judged)) (settled : Files)
    (added : List Files) : Type 0 where
  pub before : List (List Judged)
  pub rest : List (List Judged)
  pub whole : groups ≡ before ++ rest
  pub last : Files
  pub maps : List Files
  pub done : GroupsDone j held o settled before last maps
  pub rises : Rises (SettlesAs j.name) maps added
  pub reads : EachOf (PublishedFrom j.name maps) added

-- the maps settle along the commits of all groups, and this is what the last one left
pub record GoneToEnd (j : Job) (held : Held) (o : Option State) (groups : List (List Judged)) (settled : Files)
    (added : List Files) (last : Files) : Type 0 where
  pub maps : List Files
  pub done : GroupsDone j held o settled groups last maps
  pub rises : Rises (SettlesAs j.name) maps added

-- all groups are committed, and the map that stands differs from what the last commit left in staged files alone
pub record GoneOver (j : Job) (held : Held) (o : Option State) (groups : List (List Judged)) (settled : Files)
    (added : List Files) (now : Files) : Type 0 where
  pub last : Files
  pub gone : GoneToEnd j held o groups settled added last
  pub over : StagedOver j.name last now
  pub reads : EachOf (PublishedFrom j.name gone.maps) added

-- of each job with these rules that has staged what its units make
abbrev pub OfEachJob : CommitRules → Loaded → List WorkUnit → List UnitResult
    → (Job → Held → List (List Judged) → Files → Files → List Files → Type 0) → Files → List Files → Type 0
OfEachJob rules l units results P m added = (j : Job) (held : Held) (settled : Files) → HasRules j rules
    → RunHasStaged j held l units results settled m → P j held (groups_of j.scope (judged_by units results)) settled m
    added

-- whatever is answered
abbrev pub CommitsAlong : CommitRules → Loaded → List WorkUnit → List UnitResult → Files → List Files → Type 0
CommitsAlong rules l units results = OfEachJob rules l units results
    (λ j held groups settled m added. GoneAlong j held l.state groups settled added)

-- all groups, and the staging is cleaned
abbrev pub GoesToEnd : CommitRules → Loaded → List WorkUnit → List UnitResult → Files → List Files → Type 0
GoesToEnd rules l units results = OfEachJob rules l units results
    (λ j held groups settled m added. GoneToEnd j held l.state groups settled added (last_map m added))

-- all groups, and the staging is left
abbrev pub GoesOverAll : CommitRules → Loaded → List WorkUnit → List UnitResult → Files → List Files → Type 0
GoesOverAll rules l units results = OfEachJob rules l units results
    (λ j held groups settled m added. GoneOver j held l.state groups settled added (last_map m added))

-- the state that the run's commits lead to, told or not
pub record LeadsToLast (rules : CommitRules) (l : Loaded) (units : List WorkUnit) (results : List UnitResult)
    (after : Loaded) : Type 0 where
  pub fits : LoadedFits after
  pub state : (j : Job) → HasRules j rules
      → after.state ≡ after_groups j l.state (groups_of j.scope (judged_by units results))

-- ---- one group

-- what is kept after a group's commit, told or not
pub record LeadsToNext (rules : CommitRules) (l : Loaded) (units : List WorkUnit) (results : List UnitResult)
    (after : Loaded) : Type 0 where
  pub fits : LoadedFits after
  pub state : after.state
      ≡ stored_where l.state
      (next_state (state_or rules.branches l.state) rules.pipeline.now units (verdicts_in results) rules.policy)
      (allowed_units rules.policy (judged_by units results))

-- nothing of the group is committed, or its commit left this map
abbrev pub LeftByGroup : Job → Held → Files → Option Kept → List Judged → Files → Type 0
LeftByGroup j held settled k group n =
    ((done_in j group ≡ []) × (n ≡ settled)) ⊎ CommittedGroup j held settled k group n

-- the maps settle as before the group's commit, and then as behind it
pub record GroupWent (j : Job) (held : Held) (settled : Files) (k : Option Kept) (group : List Judged)
    (added : List Files) : Type 0 where
  pub next : Files
  pub left : LeftByGroup j held settled k group next
  pub rises : Rises (SettlesAs j.name) (settled ∷ next ∷ []) added
  pub reads : EachOf (PublishedFrom j.name (settled ∷ next ∷ [])) added

-- the maps settle as before the group's commit
pub record GroupStayed (job : List ℕ) (settled : Files) (added : List Files) : Type 0 where
  pub still : EachOf (SettlesAs job settled) added
  pub reads : EachOf (PublishedFrom job (settled ∷ [])) added

-- whatever is answered: the commit has not begun, or was done or stopped on its way
abbrev pub GroupRose : Job → Held → Files → Option Kept → List Judged → List Files → Type 0
GroupRose j held settled k group added = GroupStayed j.name settled added ⊎ GroupWent j held settled k group added

-- the group is committed
pub record GroupEnded (j : Job) (held : Held) (settled : Files) (k : Option Kept) (group : List Judged)
    (after : Loaded) (added : List Files) (now : Files) : Type 0 where
  pub next : Files
  pub left : LeftByGroup j held settled k group next
  pub rises : Rises (SettlesAs j.name) (settled ∷ next ∷ []) added
  pub reads : EachOf (PublishedFrom j.name (settled ∷ next ∷ [])) added
  pub over : StagedOver j.name next now
  pub loaded : IsLoaded (kept_after_group j k group) after

abbrev pub GroupRises : CommitRules → Loaded → List WorkUnit → List UnitResult → Files → List Files → Type 0
GroupRises rules l units results m added = (j : Job) (held : Held) (settled : Files) → HasRules j rules
    → (s : HasStaged j held l units results settled m)
    → GroupRose j held settled s.kept (judged_by units results) added

abbrev pub GroupEnds : CommitRules → Loaded → List WorkUnit → List UnitResult → Loaded → Files → List Files → Type 0
GroupEnds rules l units results after m added = (j : Job) (held : Held) (settled : Files) → HasRules j rules
    → (s : HasStaged j held l units results settled m)
    → GroupEnded j held settled s.kept (judged_by units results) after added (last_map m added)

-- no sequence is open, and staged files are as before but for those that were moved or by which that was done
pub record StagingLeft (job : List ℕ) (pairs : List Pair) (m n : Files) : Type 0 where
  pub closed : m (sequence_name job) ≡ None → n (sequence_name job) ≡ None
  pub rest : (name : List ℕ) → begins_with (staging job) name ≡ true → name ≢ staged_sequence job
      → name ≢ staged_state job → ((p : Pair) → Contains pairs p → p.0 ≢ name) → n name ≡ m name

abbrev pub LeavesStaging : List ℕ → List Pair → Files → List Files → Type 0
LeavesStaging job pairs m added = StagingLeft job pairs m (last_map m added)

-- ---- the steps of one commit

-- a name of a file that tells the state, which a sequence can spell
pub record FileOfState (job name : List ℕ) : Type 0 where
  pub kept : keeps_state job name ≡ true
  pub named : is_file_name name ≡ true

-- the change's names are those of files that tell the state, each once
pub record ChangeNamed (job : List ℕ) (change : Change) : Type 0 where
  pub target : FileOfState job change.target
  pub removes : (name : List ℕ) → Contains change.removes name → FileOfState job name
  pub once : IsDistinct bytes_eq (change.target ∷ change.removes)

-- the same pairs in another order, by which a sequence does the change
pub record SortsPairs (job : List ℕ) (change : Change) (pairs sorted : List Pair) : Type 0 where
  pub from : (p : Pair) → Contains pairs p → Contains sorted p
  pub back : (p : Pair) → Contains sorted p → Contains pairs p
  pub fits : WellFormed job (group_steps job change sorted)

-- the steps do the change, with the pairs in some order
pub record DoesChange (job : List ℕ) (change : Change) (pairs : List Pair) (steps : List CommitStep) : Type 0 where
  pub sorted : List Pair
  pub order : SortsPairs job change pairs sorted
  pub are : steps ≡ group_steps job change sorted

-- the map with the state staged
abbrev pub with_state : List ℕ → Change → Files → Files
with_state job change m = after_write (staged_state job) change.text m

-- the map that the commit's steps leave, as settled
abbrev pub settled_by : List ℕ → Change → List Pair → Files → Files
settled_by job change sorted m = without_staging job (do_steps (group_steps job change sorted) (with_state job change
    m))

-- the maps settle as they did, and then as the steps leave them
pub record StepsRise (job : List ℕ) (change : Change) (pairs : List Pair) (m : Files) (added : List Files) : Type 0
  where
    pub sorted : List Pair
    pub order : SortsPairs job change pairs sorted
    pub rises : Rises (SettlesAs job) (without_staging job m ∷ settled_by job change sorted m ∷ []) added
    pub reads : EachOf (PublishedFrom job (without_staging job m ∷ settled_by job change sorted m ∷ [])) added

-- all steps are done
pub record StepsEnd (job : List ℕ) (change : Change) (pairs : List Pair) (m : Files) (added : List Files) : Type 0 where
  pub sorted : List Pair
  pub order : SortsPairs job change pairs sorted
  pub rises : Rises (SettlesAs job) (without_staging job m ∷ settled_by job change sorted m ∷ []) added
  pub reads : EachOf (PublishedFrom job (without_staging job m ∷ settled_by job change sorted m ∷ [])) added
  pub ends : last_map m added ≡ part_done job (group_steps job change sorted) (with_state job change m)
