-- What one run leaves, told over a source: its state, its files, and the maps on its way.
use Rattle.std.specs.Prelude.{◌≡◌, ◌⊎◌, ◌↔◌, ℕ, true, false, List, [], ◌∷◌, map, length, option_map}
use Rattle.std.specs.declared.option.Option.{Option}
use Rattle.std.specs.declared.option.Option.TheVariants.{None, Some}
use Rattle.std.specs.List.{flat_map, zip}
use Rattle.gob_bytes.specs.Paths.{is_published, keeps_state}
use Rattle.gob_device.specs.Disk.{Files, File, clean, contents_at, Rises}
use Rattle.gob_device.specs.Supply.{Held}
use Rattle.gob_plan.specs.declared.units.Unit.{Unit as WorkUnit}
use Rattle.gob_meaning.specs.Job.{Job}
use Rattle.gob_meaning.specs.Results.{Verdict}
use Rattle.gob_ledger.specs.State.{State, empty_state}
use Rattle.gob_ledger.specs.Units.{units_of}
use Rattle.gob_ledger.specs.Next.{Judged, allowed_units, next_state}
use Rattle.gob_ledger.specs.Groups.{groups_of}
use Rattle.gob_ledger.specs.Delta.{Kept, KeepsAs, kept_next, state_of}
use Rattle.gob_ledger.specs.Archive.{Agrees}
use Rattle.gob_ledger.specs.Expected.{IsExpected, IsPublished}
use Rattle.gob_ledger.specs.Turns.{verdicts_of}
use Rattle.gob_history.specs.Sound.{Stores, AllRecoverTo}

-- no state counts as the empty state with the job's branches
abbrev pub state_or_empty : Job → Option State → State
state_or_empty job None = empty_state (length job.plan.branches)
state_or_empty job (Some s) = s

-- the units of a run that finds this state
abbrev pub run_units : Job → Held → Option State → List WorkUnit
run_units job held o = units_of (state_or_empty job o) held job.limits

-- their verdicts, where the turns with these numbers fail
abbrev pub run_verdicts : Job → Held → List ℕ → Option State → List Verdict
run_verdicts job held failing o = verdicts_of job held (run_units job held o) failing

-- the groups of them that are committed one after the other
abbrev pub run_groups : Job → Held → List ℕ → Option State → List (List Judged)
run_groups job held failing o = groups_of job.scope (zip (run_units job held o) (run_verdicts job held failing o))

-- the units of a group that are committed
abbrev pub done_in : Job → List Judged → List Judged
done_in job group = allowed_units job.policy group

-- the units that such a run commits
abbrev pub done_units : Job → Held → List ℕ → Option State → List Judged
done_units job held failing o = flat_map (done_in job) (run_groups job held failing o)

abbrev pub stored_where : Option State → State → List Judged → Option State
stored_where o next [] = o
stored_where o next (d ∷ ds) = Some next

abbrev pub group_units : List Judged → List WorkUnit
group_units group = map (λ j. j.0) group

abbrev pub group_verdicts : List Judged → List Verdict
group_verdicts group = map (λ j. j.1) group

-- the state that a group makes of this one
abbrev pub next_of_group : Job → Option State → List Judged → State
next_of_group job o group = next_state (state_or_empty job o) job.pipeline (group_units group) (group_verdicts group)
    job.policy

-- the state after a group: the next one, or what was stored where no unit of it is committed
abbrev pub after_group : Job → Option State → List Judged → Option State
after_group job o group = stored_where o (next_of_group job o group) (done_in job group)

-- the state after these groups
abbrev pub after_groups : Job → Option State → List (List Judged) → Option State
after_groups job o [] = o
after_groups job o (g ∷ gs) = after_groups job (after_group job o g) gs

-- the states before these groups, between them and after them
abbrev pub chain_from : Job → Option State → List (List Judged) → List (Option State)
chain_from job o [] = o ∷ []
chain_from job o (g ∷ gs) = o ∷ chain_from job (after_group job o g) gs

-- the state that such a run leaves
abbrev pub state_after : Job → Held → List ℕ → Option State → Option State
state_after job held failing o = after_groups job o (run_groups job held failing o)

-- the states that the maps of a run stand for: the old one, and then one for each group
abbrev pub states_of_run : Job → Held → List ℕ → Option State → List (Option State)
states_of_run job held failing o = chain_from job o (run_groups job held failing o)

-- what a map publishes, over another: what these units make is put in
abbrev pub PutsIn : Job → Held → List Judged → Files → Files → Type 0
PutsIn job held done settled n = (name content : List ℕ) → is_published job.name name ≡ true
    → (contents_at n name ≡ Some content)
    ↔ (IsPublished job.name job.plan held done name content
    ⊎ ((contents_at settled name ≡ Some content) × ((other : List ℕ)
    → IsPublished job.name job.plan held done name other → ⊥)))

-- all other files stay, but for those that tell the state
abbrev pub OthersStay : List ℕ → Files → Files → Type 0
OthersStay job settled n = (name : List ℕ) → is_published job name ≡ false → keeps_state job name ≡ false
    → n name ≡ settled name

-- the map that the commit of these groups left, over the settled one: what their committed units make is put in, and
-- nothing else but the state has changed
pub record GroupsLeft (job : Job) (held : Held) (settled : Files) (o : Option State) (groups : List (List Judged))
    (n : Files) : Type 0 where
  pub stored : Stores job.name n (after_groups job o groups)
  pub published : PutsIn job held (flat_map (done_in job) groups) settled n
  pub others : OthersStay job.name settled n

-- the map that a run left
abbrev pub RunLeft : Job → Held → Files → Option State → List ℕ → Files → Type 0
RunLeft job held settled o failing n = GroupsLeft job held settled o (run_groups job held failing o) n

abbrev pub kept_where : Option Kept → Kept → List Judged → Option Kept
kept_where k next [] = k
kept_where k next (d ∷ ds) = Some next

-- what is kept after a group: one commit more, where a unit of it is committed
abbrev pub kept_after_group : Job → Option Kept → List Judged → Option Kept
kept_after_group job k group = kept_where k (kept_next k (next_of_group job (option_map state_of k) group))
    (done_in job group)

abbrev pub kept_after : Job → Option Kept → List (List Judged) → Option Kept
kept_after job k [] = k
kept_after job k (g ∷ gs) = kept_after job (kept_after_group job k g) gs

-- the files that tell the state came from those that were there by one change for each group of which something is
-- committed
abbrev pub StoredChange : Job → List (List Judged) → Files → Files → Type 0
StoredChange job groups settled n = (k : Option Kept) → KeepsAs job.name settled k
    → KeepsAs job.name n (kept_after job k groups)

-- what a run that was answered did: its units, their verdicts, and the map that it left
pub record Ran (job : Job) (held : Held) (settled : Files) (o : Option State) (failing : List ℕ) (units : List WorkUnit)
    (verdicts : List Verdict) (n : Files) : Type 0 where
  pub cut : units ≡ run_units job held o
  pub judged : verdicts ≡ verdicts_of job held units failing
  pub left : RunLeft job held settled o failing n
  pub change : StoredChange job (run_groups job held failing o) settled n

-- the maps that a run adds, whatever it answers: from a map that stands for a state they go along the states of the
-- run, and never back
abbrev pub TrailOfRun : Job → Held → List ℕ → Files → List Files → Type 0
TrailOfRun job held failing m added = (archive : Held) (o : Option State) → Agrees archive held
    → AllRecoverTo job.name archive o m
    → Rises (AllRecoverTo job.name archive) (states_of_run job held failing o) added

-- the maps of a call that only settles
abbrev pub TrailOfSettling : List ℕ → Files → List Files → Type 0
TrailOfSettling job m added = (archive : Held) (o : Option State) → AllRecoverTo job archive o m
    → Rises (AllRecoverTo job archive) (o ∷ []) added

-- what a reader who doesn't wait for recovery may meet: each published file is clean and expected of the state, where
-- there is one
abbrev pub Readable : List ℕ → Held → Option State → Files → Type 0
Readable job archive o m = (name : List ℕ) (f : File) → is_published job name ≡ true → m name ≡ Some f
    → (bytes : List ℕ) × (f ≡ clean bytes) × (s : State) × (o ≡ Some s) × IsExpected job s archive name bytes
