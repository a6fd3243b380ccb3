-- The laws of a run's commits.
use Rattle.std.specs.Prelude.{◌≡◌, ◌≢◌, ℕ, ◌≤◌, ◌^◌, true, List, [], ◌∷◌, ◌++◌, length, option_map}
use Rattle.std.specs.declared.option.Option.{Option}
use Rattle.std.specs.List.{Contains}
use Rattle.gob_bytes.specs.Paths.{begins_with, staging}
use Rattle.gob_device.specs.Disk.{Files, EachOf, Rises}
use Rattle.gob_device.specs.Supply.{Held}
use Rattle.gob_meaning.specs.Job.{Job}
use Rattle.gob_meaning.specs.Laws.{IsRange}
use Rattle.gob_ledger.specs.State.{State}
use Rattle.gob_ledger.specs.Next.{Judged}
use Rattle.gob_ledger.specs.Delta.{Kept, KeepsAs, state_of}
use Rattle.gob_ledger.specs.Laws.{NoneShared}
use Rattle.gob_recovery.specs.Laws.{NoTornSequence}
use Rattle.gob_recovery.specs.Commits.{part_done, staged_sequence}
use Rattle.gob_recovery.specs.Sequence.{CommitStep, move, WellFormed}
use Rattle.gob_recovery.specs.Settle.{IsSettled, Settles, SettlesAs, do_steps, without_staging}
use Rattle.gob_history.specs.Sound.{Stores}
use Rattle.gob_history.specs.Runs.{RunLeft, StoredChange, done_in, kept_after, run_groups}
use Rattle.gob_history.specs.Laws.{CommittedGroup, RunMaps, StagedOver}
use Rattle.gob_commit.specs.Done.{GroupsDone, PublishApart}

abbrev pub NothingIsDoneAtFirst : Type 0
NothingIsDoneAtFirst = (job : Job) (held : Held) (o : Option State) (settled : Files) → IsSettled job.name settled
    → Stores job.name settled o → GroupsDone job held o settled [] settled (settled ∷ [])

-- one more group is committed, over what the last commit left
abbrev pub OneMoreIsDone : Type 0
OneMoreIsDone = (job : Job) (held : Held) (o : Option State) (settled last n : Files) (k : Option Kept)
    (before : List (List Judged)) (group : List Judged) (maps : List Files)
    → KeepsAs job.name settled k → option_map state_of k ≡ o → GroupsDone job held o settled before last maps
    → PublishApart job held before group → CommittedGroup job held last (kept_after job k before) group n
    → GroupsDone job held o settled (before ++ group ∷ []) n (maps ++ n ∷ [])

-- a group of which nothing is committed leaves what it found
abbrev pub UncommittedChangesNothing : Type 0
UncommittedChangesNothing = (job : Job) (held : Held) (o : Option State) (settled last : Files)
    (before : List (List Judged)) (group : List Judged) (maps : List Files)
    → done_in job group ≡ [] → GroupsDone job held o settled before last maps
    → GroupsDone job held o settled (before ++ group ∷ []) last (maps ++ last ∷ [])

-- a unit of a partition in bytes, with its ends
abbrev pub HasRange : Judged → Type 0
HasRange j = IsRange j.0.part j.0.lo j.0.hi

abbrev pub ApartUnitsPublishApart : Type 0
ApartUnitsPublishApart = (job : Job) (held : Held) (before : List (List Judged)) (group : List Judged)
    → length job.plan.branches ≤ 2 ^ 64
    → ((g : List Judged) (j : Judged) → Contains before g → Contains g j → HasRange j)
    → ((j : Judged) → Contains group j → HasRange j)
    → ((g : List Judged) → Contains before g → NoneShared g group) → PublishApart job held before group

abbrev pub StagedMapsSettleAlike : Type 0
StagedMapsSettleAlike = (job : List ℕ) (settled : Files) (maps : List Files) → IsSettled job settled
    → EachOf (StagedOver job settled) maps → EachOf (SettlesAs job settled) maps

-- a run that is stopped behind the commits of some of its groups, or within the next, goes along its states
abbrev pub DoneGoesAlong : Type 0
DoneGoesAlong = (job : Job) (held : Held) (failing : List ℕ) (m settled last : Files) (o : Option State)
    (before rest : List (List Judged)) (maps added : List Files)
    → Settles job.name m settled → Stores job.name settled o → GroupsDone job held o settled before last maps
    → run_groups job held failing o ≡ before ++ rest
    → (NoTornSequence job.name m → Rises (SettlesAs job.name) maps added) → RunMaps job held failing m settled added

-- behind the commits of all groups the run has left what it leaves, and its state by one change a commit
abbrev pub AllDoneIsTheRun : Type 0
AllDoneIsTheRun = (job : Job) (held : Held) (failing : List ℕ) (settled last : Files) (o : Option State)
    (maps : List Files)
    → GroupsDone job held o settled (run_groups job held failing o) last maps
    → RunLeft job held settled o failing last × StoredChange job (run_groups job held failing o) settled last

-- what one group's commit leaves of what is staged: no map differs from what the commit left but in staged files, and
-- those that it hasn't moved are as before
pub record PartDone (job : List ℕ) (steps : List CommitStep) (m : Files) : Type 0 where
  pub staged : StagedOver job (without_staging job (do_steps steps m)) (part_done job steps m)
  pub rest : (name : List ℕ) → begins_with (staging job) name ≡ true → name ≢ staged_sequence job
      → ((target : List ℕ) → Contains steps (move name target) → ⊥) → part_done job steps m name ≡ m name

abbrev pub PartsKeepTheRest : Type 0
PartsKeepTheRest = (job : List ℕ) (steps : List CommitStep) (m : Files) → WellFormed job steps → PartDone job steps m
