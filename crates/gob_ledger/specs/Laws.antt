-- The laws of the ledger.
use Rattle.std.specs.Prelude.{◌≡◌, ◌≢◌, ◌⊎◌, ◌↔◌, ℕ, ◌<◌, ◌≤◌, Bool, true, List, [], ◌∷◌, length, map}
use Rattle.std.specs.declared.option.Option.{Option}
use Rattle.std.specs.declared.option.Option.TheVariants.{Some}
use Rattle.std.specs.Str.{IsUtf8}
use Rattle.std.specs.List.{filter, zip, Contains}
use Rattle.gob_bytes.specs.Paths.{delta_name}
use Rattle.gob_bytes.specs.Tables.{at_name, names_of, IsInByteOrder}
use Rattle.gob_device.specs.Disk.{Files}
use Rattle.gob_device.specs.Supply.{Held}
use Rattle.gob_plan.specs.declared.plan.CommitScope.{CommitScope}
use Rattle.gob_plan.specs.declared.plan.CommitPolicy.{CommitPolicy}
use Rattle.gob_plan.specs.declared.plan.Limits.{Limits}
use Rattle.gob_plan.specs.declared.plan.Plan.{Plan}
use Rattle.gob_plan.specs.declared.units.Counts.{Counts}
use Rattle.gob_plan.specs.declared.units.Unit.{Unit as WorkUnit}
use Rattle.gob_meaning.specs.Results.{Verdict}
use Rattle.gob_ledger.specs.State.{State, TiledState}
use Rattle.gob_ledger.specs.Units.{UnitsFit, span_of, units_of}
use Rattle.gob_ledger.specs.Next.{Judged, allowed_units, counts_in, next_state}
use Rattle.gob_ledger.specs.Archive.{Agrees, Grows, LiesOnLines, IsWithin}
use Rattle.gob_ledger.specs.Expected.{IsExpected, IsPublished}
use Rattle.gob_ledger.specs.Spelling.{Small, SmallCounts, Version, Proper, ReadsAs, IsKeptPipeline}
use Rattle.gob_ledger.specs.Delta.{StateFollows, ReadsAsChange, Kept, ProperKept, KeepsAs, StateDamaged}
use Rattle.gob_ledger.specs.Delta.{earlier_changes, kept_next, last_run, state_of}
use Rattle.gob_ledger.specs.Groups.{groups_of}
use Rattle.gob_ledger.specs.Totals.{SameCounts, counted_in, span_counts}
use Rattle.gob_jobs.specs.Plans.{plan_of}

-- a state that is tiled stays so after a run over units that fit it
abbrev pub NextTiles : Type 0
NextTiles = (s : State) (pipeline : List ℕ) (units : List WorkUnit) (verdicts : List Verdict) (policy : CommitPolicy)
    → length verdicts ≡ length units → TiledState s → UnitsFit s.parts units
    → TiledState (next_state s pipeline units verdicts policy)

-- the partitions of a state stay in byte order
abbrev pub NextInOrder : Type 0
NextInOrder = (s : State) (pipeline : List ℕ) (units : List WorkUnit) (verdicts : List Verdict) (policy : CommitPolicy)
    → IsInByteOrder (names_of s.parts) → IsInByteOrder (names_of (next_state s pipeline units verdicts policy).parts)

-- what a run adds to what is expected is what its committed units make, with the plan of its pipeline
abbrev pub NextExpects : Type 0
NextExpects = (job : List ℕ) (s : State) (pipeline : List ℕ) (plan : Plan) (units : List WorkUnit)
    (verdicts : List Verdict) (policy : CommitPolicy) (archive : Held) (name content : List ℕ)
    → TiledState s → plan_of pipeline ≡ Some plan
    → IsExpected job (next_state s pipeline units verdicts policy) archive name content
    ↔ (IsExpected job s archive name content
    ⊎ IsPublished job plan archive (allowed_units policy (zip units verdicts)) name content)

-- what the later archive says of a state that lies in the earlier one
pub record SaysTheSame (archive later : Held) (s : State) : Type 0 where
  pub within : IsWithin later s
  pub counted : counted_in s later ≡ counted_in s archive
  pub expected : (job name content : List ℕ)
      → IsExpected job s archive name content ↔ IsExpected job s later name content

-- partitions that grow change nothing of what a state means
abbrev pub GrownArchive : Type 0
GrownArchive = (archive later : Held) (s : State) → Grows archive later → IsWithin archive s → TiledState s
    → IsInByteOrder (names_of s.parts) → SaysTheSame archive later s

-- the units of a run fit the state that it found
abbrev pub UnitsFitState : Type 0
UnitsFitState = (s : State) (held : Held) (limits : Limits)
    → TiledState s → IsInByteOrder (names_of s.parts) → IsInByteOrder (names_of held)
    → UnitsFit s.parts (units_of s held limits)

-- the unit lies in this archive, on whole lines
abbrev pub Lies : Held → WorkUnit → Type 0
Lies archive u = (bytes : List ℕ) × (at_name archive u.part ≡ Some bytes) × LiesOnLines bytes (span_of u)

-- a listed unit lies in its partition, on whole lines
abbrev pub UnitsLieOnLines : Type 0
UnitsLieOnLines = (archive held : Held) (s : State) (limits : Limits) (u : WorkUnit)
    → Agrees archive held → IsWithin archive s → TiledState s
    → IsInByteOrder (names_of s.parts) → IsInByteOrder (names_of held)
    → Contains (units_of s held limits) u → u.listed ≡ true → Lies held u

-- each of these units counted what its range makes
abbrev pub CountsAre : Held → Plan → List Judged → Type 0
CountsAre archive plan units = (j : Judged) → Contains units j
    → counts_in j.1 ≡ Some (span_counts plan archive j.0.part (span_of j.0))

-- totals that are the sums over the done ranges stay so
abbrev pub NextTotals : Type 0
NextTotals = (s : State) (pipeline : List ℕ) (plan : Plan) (units : List WorkUnit) (verdicts : List Verdict)
    (policy : CommitPolicy) (archive : Held)
    → TiledState s → IsInByteOrder (names_of s.parts) → plan_of pipeline ≡ Some plan
    → CountsAre archive plan (allowed_units policy (zip units verdicts))
    → SameCounts s.totals (counted_in s archive)
    → let next = next_state s pipeline units verdicts policy in
    SameCounts next.totals (counted_in next archive)

-- ranges that lie in an archive do so after a run whose new units lie in it
abbrev pub NextWithin : Type 0
NextWithin = (s : State) (pipeline : List ℕ) (units : List WorkUnit) (verdicts : List Verdict) (policy : CommitPolicy)
    (archive : Held) → length verdicts ≡ length units
    → UnitsFit s.parts units → IsWithin archive s
    → ((u : WorkUnit) → Contains units u → u.fresh ≡ true → Lies archive u)
    → IsWithin archive (next_state s pipeline units verdicts policy)

-- a unit that a state can keep: its partition has a name, and its end is small
pub record ProperUnit (u : WorkUnit) : Type 0 where
  pub named : u.part ≢ []
  pub text : IsUtf8 u.part
  pub small : Small u.hi

-- counts that a state can keep
pub record ProperCounts (c : Counts) : Type 0 where
  pub small : SmallCounts c
  pub few : length c.branches ≤ 8

-- a state that can be kept is followed by one
abbrev pub NextIsProper : Type 0
NextIsProper = (s : State) (pipeline : List ℕ) (units : List WorkUnit) (verdicts : List Verdict) (policy : CommitPolicy)
    → length verdicts ≡ length units
    → Proper s → IsKeptPipeline pipeline → Small (length (next_state s pipeline units verdicts policy).pipelines)
    → UnitsFit s.parts units → ((u : WorkUnit) → Contains units u → ProperUnit u)
    → ((j : Judged) (c : Counts) → Contains (allowed_units policy (zip units verdicts)) j → counts_in j.1 ≡ Some c
    → ProperCounts c)
    → Proper (next_state s pipeline units verdicts policy)

-- ---- laws of changes and of groups

-- a commit that isn't the last leads to a state that follows
abbrev pub NextFollows : Type 0
NextFollows = (s : State) (pipeline : List ℕ) (units : List WorkUnit) (verdicts : List Verdict) (policy : CommitPolicy)
    → length verdicts ≡ length units → TiledState s → UnitsFit s.parts units → s.run < last_run
    → allowed_units policy (zip units verdicts) ≢ []
    → StateFollows s (next_state s pipeline units verdicts policy)

-- in each version a text is that of one state
abbrev pub OneSpellingAState : Type 0
OneSpellingAState = (v w : Version) (bytes : List ℕ) (s t : State) → ReadsAs v bytes s → ReadsAs w bytes t → (v ≡ w)
    × (s ≡ t)

-- behind a state a text is the change to one state
abbrev pub OneSpellingAChange : Type 0
OneSpellingAChange = (v : Version) (s : State) (bytes : List ℕ) (t u : State)
    → Proper s → ReadsAsChange v s bytes t → ReadsAsChange v s bytes u → t ≡ u

-- a map keeps one thing
abbrev pub KeepsOne : Type 0
KeepsOne = (job : List ℕ) (m : Files) (k l : Option Kept) → KeepsAs job m k → KeepsAs job m l → k ≡ l

-- a damaged map keeps nothing that can be read, and one name is to blame
pub record OneStateDamage (job : List ℕ) (m : Files) (name : List ℕ) : Type 0 where
  pub nothing : (k : Option Kept) → KeepsAs job m k → ⊥
  pub blamed : (other : List ℕ) → StateDamaged job m other → other ≡ name

abbrev pub StateDamageIsOne : Type 0
StateDamageIsOne = (job : List ℕ) (m : Files) (name : List ℕ) → StateDamaged job m name → OneStateDamage job m name

-- no partition is in both
abbrev pub NoneShared : List Judged → List Judged → Type 0
NoneShared g h = (j k : Judged) → Contains g j → Contains h k → j.0.part ≢ k.0.part

-- each pair of different groups
abbrev pub EachApart : List (List Judged) → Type 0
EachApart [] = Unit {0}
EachApart (g ∷ gs) = ((h : List Judged) → Contains gs h → NoneShared g h) × EachApart gs

-- the groups share no partition, each has all units of its partitions in their order, and together they have all
pub record IsGrouping (all : List Judged) (groups : List (List Judged)) : Type 0 where
  pub apart : EachApart groups
  pub each : (g : List Judged) → Contains groups g → (keep : List ℕ → Bool) × (g ≡ filter (λ j. keep j.0.part) all)
  pub whole : (j : Judged) → Contains all j → (g : List Judged) × Contains groups g × Contains g j

abbrev pub GroupsAreGrouping : Type 0
GroupsAreGrouping = (s : CommitScope) (all : List Judged) → IsGrouping all (groups_of s all)

-- units that fit a state do so after the commit of others
abbrev pub OthersStillFit : Type 0
OthersStillFit = (s : State) (pipeline : List ℕ) (group others : List Judged) (policy : CommitPolicy)
    → NoneShared group others → UnitsFit s.parts (map (λ j. j.0) others)
    → let next = next_state s pipeline (map (λ j. j.0) group) (map (λ j. j.1) group) policy in
    UnitsFit next.parts (map (λ j. j.0) others)

-- the changes that a state stands on are those with the numbers up to its run
abbrev pub ChangesAreNumbered : Type 0
ChangesAreNumbered = (job : List ℕ) (k : Kept) → ProperKept k → (length k.later ≤ (state_of k).run)
    × (map (λ t. delta_name job t.run) k.later ≡ earlier_changes job (state_of k).run (length k.later))

-- what is kept after a commit is proper where the next state is, and follows where it has to
abbrev pub KeptNextIsProper : Type 0
KeptNextIsProper = (k : Option Kept) (t : State) → ((l : Kept) → k ≡ Some l → ProperKept l
    × (t.run ≢ last_run → StateFollows (state_of l) t)) → Proper t → ProperKept (kept_next k t)
    × (state_of (kept_next k t) ≡ t)
