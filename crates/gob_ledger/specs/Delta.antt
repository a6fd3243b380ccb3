-- What a commit changes, how the change is spelled, and the states that changes lead to.
use Rattle.std.specs.Prelude.{◌≡◌, ◌⊎◌, ℕ, ◌+◌, ◌-◌, ◌^◌, ◌≤◌, Bool, true, cond, not, ◌&&◌, ◌||◌, nat_eq, nat_le}
use Rattle.std.specs.Prelude.{nat_lt, List, [], ◌∷◌, ◌++◌, map, length, drop, codes}
use Rattle.std.specs.declared.option.Option.{Option}
use Rattle.std.specs.declared.option.Option.TheVariants.{None, Some}
use Rattle.std.specs.List.{Contains, filter, list_any, range_with_len}
use Rattle.std.specs.Str.{bytes_eq}
use Rattle.std.specs.Option.{unwrap_or}
use Rattle.gob_bytes.specs.Paths.{state_name, delta_folder, delta_name, begins_with}
use Rattle.gob_bytes.specs.Tables.{Table}
use Rattle.gob_device.specs.Disk.{Files, contents_at, IsListing}
use Rattle.gob_ledger.specs.Marks.{Marks, Span, Done}
use Rattle.gob_ledger.specs.State.{State, marks_at}
use Rattle.gob_ledger.specs.Units.{same_span}
use Rattle.gob_ledger.specs.Next.{no_marks}
use Rattle.gob_ledger.specs.Spelling.{Version, version_1, version_2, version_number, FitsVersion, Proper, ReadsAs}
use Rattle.gob_ledger.specs.Spelling.{state_spelling, file_text, pipelines_text, totals_text, parts_text}

-- ---- a state that may come after another

-- no pipeline or one more
abbrev pub OneMore : List (List ℕ) → List (List ℕ) → Type 0
OneMore before after = (after ≡ before) ⊎ ((p : List ℕ) × (after ≡ before ++ p ∷ []))

-- a range of the later marks: it was there before, was owed and is done, or is new
pub record MarksFollow (before after : Marks) : Type 0 where
  pub next : before.next ≤ after.next
  pub finished : (d : Done) → Contains before.finished d → Contains after.finished d
  pub owed : (s : Span) → Contains before.owed s
      → Contains after.owed s ⊎ ((d : Done) × Contains after.finished d × (d.span ≡ s))
  pub new_done : (d : Done) → Contains after.finished d
      → Contains before.finished d ⊎ Contains before.owed d.span ⊎ (before.next ≤ d.span.lo)
  pub new_owed : (s : Span) → Contains after.owed s → Contains before.owed s ⊎ (before.next ≤ s.lo)

-- a partition that isn't known has no marks
abbrev pub marks_or_none : State → List ℕ → Marks
marks_or_none s part = unwrap_or (marks_at s part) no_marks

-- the second state follows the first by one commit
pub record StateFollows (s t : State) : Type 0 where
  pub run : t.run ≡ s.run + 1
  pub pipelines : OneMore s.pipelines t.pipelines
  pub branches : length s.totals.branches ≤ length t.totals.branches
  pub parts : (part : List ℕ) (m : Marks) → marks_at s part ≡ Some m → (n : Marks) × (marks_at t part ≡ Some n)
  pub marks : (part : List ℕ) → MarksFollow (marks_or_none s part) (marks_or_none t part)

-- ---- the change from one state to another

abbrev pub same_done : Done → Done → Bool
same_done a b = same_span a.span b.span && nat_eq a.pipeline b.pipeline

-- the ranges that were not so before
abbrev pub changed_marks : Marks → Marks → Marks
changed_marks before after = record after {
  finished = filter (λ d. not (list_any (same_done d) before.finished)) after.finished;
  owed = filter (λ s. not (list_any (same_span s) before.owed)) after.owed;
}

abbrev pub changed_part : State → List ℕ × Marks → List ℕ × Marks
changed_part s e = (e.0, changed_marks (marks_or_none s e.0) e.1)

abbrev pub has_ranges : List ℕ × Marks → Bool
has_ranges e = nat_lt 0 (length e.1.finished + length e.1.owed)

-- the partitions with new ranges or with ranges that are done now, each with these alone
abbrev pub changed_parts : State → State → Table Marks
changed_parts s t = filter has_ranges (map (changed_part s) t.parts)

-- the pipelines that came, where there may be several
abbrev pub new_pipelines : Version → State → State → List ℕ
new_pipelines version_1 s t = []
new_pipelines version_2 s t = pipelines_text version_2 (drop (length s.pipelines) t.pipelines)

-- the text of the change from one state to another
unfoldable pub delta_spelling : Version → State → State → List ℕ
delta_spelling v s t =
    file_text (codes "gobblin-delta") v t.run
    (new_pipelines v s t ++ totals_text t.totals ++ parts_text v (changed_parts s t))

-- a version that spells one pipeline alone can't add one, nor change a state of several
abbrev pub KeepsPipelines : Version → State → State → Type 0
KeepsPipelines version_1 s t = (length s.pipelines ≡ 1) × (t.pipelines ≡ s.pipelines)
KeepsPipelines version_2 s t = Unit {0}

-- a proper state to which a change of this version can lead
pub record LeadsTo (v : Version) (s t : State) : Type 0 where
  pub follows : StateFollows s t
  pub proper : Proper t
  pub pipelines : KeepsPipelines v s t

-- these bytes read as the change from this state to that one
pub record ReadsAsChange (v : Version) (s : State) (bytes : List ℕ) (t : State) : Type 0 where
  pub spelled : bytes ≡ delta_spelling v s t
  pub leads : LeadsTo v s t

-- ---- what is kept: a state as a whole, and the states that changes then led to

pub record Kept : Type 0 where
  pub version : Version
  pub base : State
  pub later : List State

-- each state leads to the next
abbrev pub EachLeads : Version → State → List State → Type 0
EachLeads v s [] = Unit {0}
EachLeads v s (t ∷ ts) = LeadsTo v s t × EachLeads v t ts

pub record ProperKept (k : Kept) : Type 0 where
  pub base : Proper k.base
  pub fits : FitsVersion k.version k.base
  pub later : EachLeads k.version k.base k.later

abbrev pub last_state : State → List State → State
last_state s [] = s
last_state s (t ∷ ts) = last_state t ts

-- the state that is kept
abbrev pub state_of : Kept → State
state_of k = last_state k.base k.later

-- the texts of the changes, each under its name
abbrev pub delta_at : List ℕ → Version → State → List State → List ℕ → Option (List ℕ)
delta_at job v s [] name = None
delta_at job v s (t ∷ ts) name =
    cond (bytes_eq name (delta_name job t.run)) (Some (delta_spelling v s t)) (delta_at job v t ts name)

-- the files of a map that tell what is committed are those of what is kept
pub record Keeps (job : List ℕ) (m : Files) (k : Kept) : Type 0 where
  pub base : contents_at m (state_name job) ≡ Some (state_spelling k.version k.base)
  pub deltas : (name : List ℕ) → begins_with (delta_folder job) name ≡ true
      → contents_at m name ≡ delta_at job k.version k.base k.later name

-- there are no such files
pub record KeepsNothing (job : List ℕ) (m : Files) : Type 0 where
  pub base : contents_at m (state_name job) ≡ None
  pub deltas : (name : List ℕ) → begins_with (delta_folder job) name ≡ true → contents_at m name ≡ None

-- what a map keeps, proper where it keeps something
abbrev pub KeepsAs : List ℕ → Files → Option Kept → Type 0
KeepsAs job m None = KeepsNothing job m
KeepsAs job m (Some k) = Keeps job m k × ProperKept k

abbrev pub changes_in : Option Kept → ℕ
changes_in None = 0
changes_in (Some k) = length k.later

-- the version of the state's file, and the one that is written where there is none
abbrev pub version_in : Option Kept → ℕ
version_in None = 2
version_in (Some k) = version_number k.version

-- ---- one more commit

-- the last run number
abbrev pub last_run : ℕ
last_run = 2 ^ 64 - 1

-- the next state must be kept as a whole: the file is of the first version, has changes enough, or the run number is at
-- its end
abbrev pub wants_whole : ℕ → ℕ → State → Bool
wants_whole version changes t = nat_eq version 1 || nat_le 64 changes || nat_eq t.run last_run

-- a state kept as a whole, without a change
abbrev pub base_alone : State → Kept
base_alone t = record { version = version_2; base = t; later = [] }

-- what is kept after one more commit
abbrev pub kept_next : Option Kept → State → Kept
kept_next None t = base_alone t
kept_next (Some k) t =
    cond (wants_whole (version_number k.version) (length k.later) t) (base_alone t)
    (record k { later = k.later ++ t ∷ [] })

-- what a commit does to the files that tell the state: the name and the text of the new one, the names that it takes
-- away, and how many changes then stand
pub record Change : Type 0 where
  pub target : List ℕ
  pub text : List ℕ
  pub removes : List (List ℕ)
  pub changes : ℕ

-- the last so many changes up to this run
abbrev pub earlier_changes : List ℕ → ℕ → ℕ → List (List ℕ)
earlier_changes job run changes = map (delta_name job) (range_with_len (run + 1 - changes) changes)

abbrev pub whole_change : List ℕ → List (List ℕ) → State → Change
whole_change job removes t =
    record { target = state_name job; text = state_spelling version_2 t; removes = removes; changes = 0 }

abbrev pub small_change : List ℕ → State → ℕ → State → Change
small_change job s changes t =
    record { target = delta_name job t.run; text = delta_spelling version_2 s t; removes = []; changes = changes + 1 }

-- from what was loaded (a state, the number of its changes and the version of its file) to the next state
unfoldable pub change_of : List ℕ → Option State → ℕ → ℕ → State → Change
change_of job None changes version t = whole_change job [] t
change_of job (Some s) changes version t =
    cond (wants_whole version changes t) (whole_change job (earlier_changes job s.run changes) t)
    (small_change job s changes t)

-- ---- files that aren't what is kept

-- the names of changes, in byte order, that are the next ones and lead on to this state
abbrev pub LeadOn : List ℕ → Files → Version → State → List (List ℕ) → State → Type 0
LeadOn job m v s [] t = s ≡ t
LeadOn job m v s (name ∷ names) t =
    (u : State) × (bytes : List ℕ) × (name ≡ delta_name job u.run) × (contents_at m name ≡ Some bytes)
    × ReadsAsChange v s bytes u × LeadOn job m v u names t

-- these bytes read as no state
abbrev pub ReadsAsNone : List ℕ → Type 0
ReadsAsNone bytes = (v : Version) (s : State) → ReadsAs v bytes s → ⊥

-- the file of this name isn't the next change behind the state
abbrev pub NoChange : List ℕ → Files → Version → State → List ℕ → Type 0
NoChange job m v s name = (text : List ℕ) (t : State) → name ≡ delta_name job t.run → contents_at m name ≡ Some text
    → ReadsAsChange v s text t → ⊥

-- nothing is kept that can be read, and this name is the one to blame
pub data StateDamaged (job : List ℕ) (m : Files) : List ℕ → Type 0 where
  base : (bytes : List ℕ) → contents_at m (state_name job) ≡ Some bytes → ReadsAsNone bytes
      → StateDamaged job m (state_name job)
  baseless : (name : List ℕ) (names : List (List ℕ)) → contents_at m (state_name job) ≡ None
      → IsListing (delta_folder job) m (name ∷ names) → StateDamaged job m name
  change : (v : Version) (bytes : List ℕ) (s t : State) (before after : List (List ℕ)) (name : List ℕ)
      → contents_at m (state_name job) ≡ Some bytes → ReadsAs v bytes s
      → IsListing (delta_folder job) m (before ++ name ∷ after) → LeadOn job m v s before t
      → NoChange job m v t name → StateDamaged job m name
