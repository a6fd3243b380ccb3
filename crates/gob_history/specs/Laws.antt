-- What a run keeps, apart from crashes.
use Rattle.std.specs.Prelude.{◌≡◌, ◌≢◌, ◌⊎◌, ℕ, false, List, [], ◌∷◌, ◌++◌, map, option_map, codes}
use Rattle.std.specs.List.{Contains, flat_map}
use Rattle.std.specs.declared.option.Option.{Option}
use Rattle.std.specs.declared.option.Option.TheVariants.{None, Some}
use Rattle.gob_bytes.specs.Paths.{begins_with, staging}
use Rattle.gob_bytes.specs.Tables.{names_of, IsInByteOrder}
use Rattle.gob_device.specs.Disk.{Files, clean, Rises}
use Rattle.gob_device.specs.Supply.{Held}
use Rattle.gob_meaning.specs.Job.{Job}
use Rattle.gob_ledger.specs.Marks.{Marks, Done}
use Rattle.gob_ledger.specs.State.{State, marks_at}
use Rattle.gob_ledger.specs.Archive.{Agrees}
use Rattle.gob_ledger.specs.Expected.{IsExpected, IsPublished}
use Rattle.gob_ledger.specs.Next.{Judged}
use Rattle.gob_ledger.specs.Spelling.{Proper}
use Rattle.gob_ledger.specs.Delta.{Change, Kept, KeepsAs, StateFollows, change_of, changes_in, last_run, state_of}
use Rattle.gob_ledger.specs.Delta.{version_in}
use Rattle.gob_recovery.specs.Sequence.{CommitStep, move, remove, WellFormed}
use Rattle.gob_recovery.specs.Laws.{NoTornSequence}
use Rattle.gob_recovery.specs.Settle.{do_steps, without_staging, IsSettled, Settles, SettlesAs}
use Rattle.gob_history.specs.Sound.{Stores, SoundIn, AllRecoverTo, IsDurable}
use Rattle.gob_history.specs.Runs.{GroupsLeft, RunLeft, TrailOfRun, after_group, after_groups, chain_from, done_in}
use Rattle.gob_history.specs.Runs.{kept_after_group, next_of_group, run_groups, state_after, state_or_empty}
use Rattle.gob_history.specs.Runs.{states_of_run}
use Rattle.gob_history.specs.Rounds.{History, Round}
use Rattle.gob_jobs.specs.Plans.{TellsPlan}

-- a run from a sound map over an archive that agrees leaves one that is sound for the state after it
abbrev pub RunLeavesSound : Type 0
RunLeavesSound = (job : Job) (archive held : Held) (settled n : Files) (o : Option State) (failing : List ℕ)
    → TellsPlan job → Agrees archive held → IsInByteOrder (names_of held)
    → Stores job.name settled o → SoundIn job.name archive o settled → RunLeft job held settled o failing n
    → SoundIn job.name archive (state_after job held failing o) n

-- a partition of the state has this done range
abbrev pub HasDone : State → List ℕ → Done → Type 0
HasDone s part d = (m : Marks) × (marks_at s part ≡ Some m) × Contains m.finished d

-- from one map of a history to the next: the state stays, or is one of those that some run goes through; what is done
-- stays done, with the same files
pub record Becomes (job : List ℕ) (archive later : Held) (o p : Option State) : Type 0 where
  pub how : (p ≡ o)
      ⊎ ((j : Job) × (j.name ≡ job) × TellsPlan j × (held : Held) × Agrees later held × (failing : List ℕ)
      × Contains (states_of_run j held failing o) p)
  pub done : (s : State) (part : List ℕ) (d : Done) → o ≡ Some s → HasDone s part d → (t : State) × (p ≡ Some t)
      × HasDone t part d
  pub files : (s : State) (name content : List ℕ) → o ≡ Some s → IsExpected job s archive name content → (t : State)
      × (p ≡ Some t) × IsExpected job t later name content

-- the maps of a history stand for these states, latest first
abbrev pub RecoverAlong : List ℕ → List (Held × Files) → List (Option State) → Type 0
RecoverAlong job [] os = ⊥
RecoverAlong job (e ∷ es) [] = ⊥
RecoverAlong job (e ∷ []) (o ∷ []) = AllRecoverTo job e.0 o e.1
RecoverAlong job (e ∷ []) (o ∷ p ∷ os) = ⊥
RecoverAlong job (e ∷ d ∷ es) (p ∷ []) = ⊥
RecoverAlong job (e ∷ d ∷ es) (p ∷ o ∷ os) = AllRecoverTo job e.0 p e.1 × Becomes job d.0 e.0 o p
    × RecoverAlong job (d ∷ es) (o ∷ os)

-- in every history each map stands for a state, wherever its run was stopped
abbrev pub HistoryRecovers : Type 0
HistoryRecovers = (job : List ℕ) (h : List (Held × Files)) → History (Round job) job h → (os : List (Option State))
    × RecoverAlong job h os

-- what was changed can't be lost in part: each name keeps what it held, is gone, or its file is clean
abbrev pub Lasting : Files → Files → Type 0
Lasting m n = (name : List ℕ) → (n name ≡ m name) ⊎ (n name ≡ None) ⊎ ((bytes : List ℕ) × (n name ≡ Some (clean bytes)))

-- settled maps from one to the next: each is what the commit of the next group leaves of the one before
abbrev pub LeftAlong : Job → Held → Option State → List (List Judged) → List Files → Type 0
LeftAlong job held o [] [] = ⊥
LeftAlong job held o [] (m ∷ []) = Unit {0}
LeftAlong job held o [] (m ∷ n ∷ ms) = ⊥
LeftAlong job held o (g ∷ gs) [] = ⊥
LeftAlong job held o (g ∷ gs) (m ∷ []) = ⊥
LeftAlong job held o (g ∷ gs) (m ∷ n ∷ ms) = GroupsLeft job held m o (g ∷ []) n × Lasting m n
    × LeftAlong job held (after_group job o g) gs (n ∷ ms)

-- each state has its steady map
abbrev pub AllDurable : List ℕ → Held → List (Option State) → List Files → Type 0
AllDurable job archive [] [] = Unit {0}
AllDurable job archive (o ∷ os) (m ∷ ms) = IsDurable job archive o m × AllDurable job archive os ms
AllDurable job archive [] (m ∷ ms) = ⊥
AllDurable job archive (o ∷ os) [] = ⊥

-- maps that settle as one steady map after the other go from each one's state to the next
abbrev pub RisingMapsRecover : Type 0
RisingMapsRecover = (job : List ℕ) (archive : Held) (os : List (Option State)) (firsts maps : List Files)
    → AllDurable job archive os firsts
    → Rises (SettlesAs job) firsts maps → Rises (AllRecoverTo job archive) os maps

-- the first of some maps
abbrev pub BeginsWith : Files → List Files → Type 0
BeginsWith m [] = ⊥
BeginsWith m (n ∷ ns) = m ≡ n

-- from a steady map the commits of a run's first groups go along steady maps
abbrev pub GroupsStayDurable : Type 0
GroupsStayDurable = (job : Job) (archive held : Held) (settled : Files) (o : Option State) (failing : List ℕ)
    (before rest : List (List Judged)) (firsts : List Files)
    → TellsPlan job → Agrees archive held → IsInByteOrder (names_of held) → IsDurable job.name archive o settled
    → run_groups job held failing o ≡ before ++ rest
    → BeginsWith settled firsts → LeftAlong job held o before firsts
    → AllDurable job.name archive (chain_from job o before) firsts

-- the commits of some groups, and then of one more, are the commits of them all
abbrev pub GroupsLeaveOneMore : Type 0
GroupsLeaveOneMore = (job : Job) (held : Held) (settled m n : Files) (o : Option State) (before : List (List Judged))
    (group : List Judged)
    → ((name content other : List ℕ) → IsPublished job.name job.plan held (flat_map (done_in job) before) name content
    → IsPublished job.name job.plan held (done_in job group) name other → ⊥)
    → GroupsLeft job held settled o before m → GroupsLeft job held m (after_groups job o before) (group ∷ []) n
    → GroupsLeft job held settled o (before ++ group ∷ []) n

-- what is known of the maps that a run adds, over what the entry settles to
pub record RunMaps (job : Job) (held : Held) (failing : List ℕ) (m settled : Files) (added : List Files) : Type 0 where
  pub settles : Settles job.name m settled
  pub firsts : List Files
  pub begins : BeginsWith settled firsts
  pub along : (o : Option State) → Stores job.name settled o
      → (before : List (List Judged)) × (rest : List (List Judged)) × (run_groups job held failing o ≡ before ++ rest)
      × LeftAlong job held o before firsts
  pub rises : NoTornSequence job.name m → Rises (SettlesAs job.name) firsts added

-- then they go along the run's states
abbrev pub RunGoesAlong : Type 0
RunGoesAlong = (job : Job) (held : Held) (failing : List ℕ) (m settled : Files) (added : List Files) → TellsPlan job
    → IsInByteOrder (names_of held)
    → RunMaps job held failing m settled added → TrailOfRun job held failing m added

-- ---- the commit of one group

-- the moves that publish files
abbrev pub moves_of : List (List ℕ × List ℕ) → List CommitStep
moves_of pairs = map (λ p. move p.0 p.1) pairs

abbrev pub removes_of : List (List ℕ) → List CommitStep
removes_of names = map (λ n. remove n) names

-- the staged state
abbrev pub staged_state : List ℕ → List ℕ
staged_state job = staging job ++ codes "state"

-- the steps of a group's commit: its files, the state, and the changes that the state replaces
abbrev pub group_steps : List ℕ → Change → List (List ℕ × List ℕ) → List CommitStep
group_steps job change pairs = moves_of pairs ++ move (staged_state job) change.target ∷ removes_of change.removes

-- what a commit does to the files that tell the state, over what is kept
abbrev pub change_over : List ℕ → Option Kept → State → Change
change_over job k next = change_of job (option_map state_of k) (changes_in k) (version_in k) next

-- the pairs of names move exactly what these units make, and it is clean
pub record StagedFor (job : Job) (held : Held) (done : List Judged) (m : Files) (pairs : List (List ℕ × List ℕ)) : Type
    0 where
  pub made : (p : List ℕ × List ℕ) → Contains pairs p → (content : List ℕ) × (m p.0 ≡ Some (clean content))
      × IsPublished job.name job.plan held done p.1 content
  pub all : (name content : List ℕ) → IsPublished job.name job.plan held done name content → (p : List ℕ × List ℕ)
      × Contains pairs p × (p.1 ≡ name) × (m p.0 ≡ Some (clean content))

-- the map differs from the settled one in staged files alone
abbrev pub StagedOver : List ℕ → Files → Files → Type 0
StagedOver job settled m = (name : List ℕ) → begins_with (staging job) name ≡ false → m name ≡ settled name

-- what the commit of a group leaves, as settled
pub record CommittedGroup (job : Job) (held : Held) (before : Files) (k : Option Kept) (group : List Judged) (n : Files)
    : Type 0 where
  pub settled : IsSettled job.name n
  pub keeps : KeepsAs job.name n (kept_after_group job k group)
  pub left : GroupsLeft job held before (option_map state_of k) (group ∷ []) n
  pub lasting : Lasting before n

-- the steps of a group's commit leave what they should, over a settled map that keeps something
abbrev pub CommittingAGroup : Type 0
CommittingAGroup = (job : Job) (held : Held) (settled m : Files) (k : Option Kept) (group : List Judged)
    (pairs : List (List ℕ × List ℕ))
    → let next = next_of_group job (option_map state_of k) group in
    let change = change_over job.name k next in
    IsSettled job.name settled → KeepsAs job.name settled k → StagedOver job.name settled m
    → done_in job group ≢ [] → Proper next → ((s : State) → option_map state_of k ≡ Some s → next.run ≢ last_run
    → StateFollows s next)
    → StagedFor job held (done_in job group) m pairs → m (staged_state job.name) ≡ Some (clean change.text)
    → WellFormed job.name (group_steps job.name change pairs)
    → CommittedGroup job held settled k group (without_staging job.name
    (do_steps (group_steps job.name change pairs) m))
