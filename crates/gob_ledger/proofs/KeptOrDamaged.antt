-- A map whose changes are listed keeps one thing, or has a name to blame.
use Rattle.std.proofs.Common.{◌≡◌, ◌⊎◌, inl, inr, ⊎_elim, ℕ, true, List, [], ◌∷◌, ◌++◌, refl, sym, ap, subst, ◌∙◌, Some}
use Rattle.std.proofs.Common.{None, option_map, is_some}
use Rattle.std.proofs.lemmas.Option.{same_Some}
use Rattle.std.specs.declared.cmp.Ordering.TheVariants.{Less}
use Rattle.std.specs.declared.option.Option.{Option}
use Rattle.std.specs.List.{Contains}
use Rattle.std.specs.Option.{IsSome}
use Rattle.gob_bytes.proofs.Tables.{rising_tail}
use Rattle.gob_bytes.specs.Paths.{begins_with, state_name, delta_folder, delta_name}
use Rattle.gob_bytes.specs.Tables.{name_cmp, IsInByteOrder}
use Rattle.gob_device.specs.Disk.{File, Files, contents_of, contents_at, IsListing}
use Rattle.gob_ledger.specs.State.{State}
use Rattle.gob_ledger.specs.Spelling.{Version, version_1, version_2, Proper, ReadsAs}
use Rattle.gob_ledger.specs.Delta.{ReadsAsChange, Kept, EachLeads, delta_at, KeepsAs, LeadOn, ReadsAsNone, NoChange}
use Rattle.gob_ledger.specs.Delta.{StateDamaged, base, baseless, change}
use Rattle.gob_ledger.specs.SpellingLaws.{KeptOrDamaged}
use Rattle.gob_ledger.proofs.Deciding.{Decidable, same_text, is_member}
use Rattle.gob_ledger.proofs.DecidingChange.{change_or_none}
use Rattle.gob_ledger.proofs.DecidingState.{state_or_none}
use Rattle.gob_ledger.proofs.DeltaNames.{name_above, not_itself_less}
use Rattle.gob_ledger.proofs.Members.{none_in, first_in, later_in, in_cases}
use Rattle.gob_ledger.proofs.OneDamage.{some_contents}
use Rattle.gob_ledger.proofs.OneState.{first_change, other_change}
use Rattle.gob_ledger.proofs.ReadingChange.{one_change}

-- ---- the state's file

-- in some version a text is a state's, or in none
abbrev SomeState : List ℕ → Type 0
SomeState bytes = (v : Version) × (s : State) × ReadsAs v bytes s

some_version : (bytes : List ℕ) → SomeState bytes ⊎ ReadsAsNone bytes
some_version bytes = cases (state_or_none version_1 bytes) (state_or_none version_2 bytes)
  where
    cases : ((s : State) × ReadsAs version_1 bytes s) ⊎ ((s : State) → ReadsAs version_1 bytes s → ⊥)
        → ((s : State) × ReadsAs version_2 bytes s) ⊎ ((s : State) → ReadsAs version_2 bytes s → ⊥)
        → SomeState bytes ⊎ ReadsAsNone bytes
    cases (inl r) q = inl (version_1, r.0, r.1)
    cases (inr never) (inl r) = inl (version_2, r.0, r.1)
    cases (inr never) (inr nor) = inr by_version
      where
        by_version : ReadsAsNone bytes
        by_version version_1 s r = never s r
        by_version version_2 s r = nor s r

-- ---- the changes, name by name

-- these names are those of the changes to these states, and hold their texts
record AreChanges (job : List ℕ) (m : Files) (v : Version) (s : State) (names : List (List ℕ)) : Type 0 where
  later : List State
  each : EachLeads v s later
  texts : (name : List ℕ) → Contains names name → contents_at m name ≡ delta_at job v s later name
  others : (name : List ℕ) → (Contains names name → ⊥) → delta_at job v s later name ≡ None

-- a name among these is the first that is no change
record StopsAt (job : List ℕ) (m : Files) (v : Version) (s : State) (names : List (List ℕ)) : Type 0 where
  before : List (List ℕ)
  name : List ℕ
  after : List (List ℕ)
  whole : names ≡ before ++ name ∷ after
  last : State
  leads : LeadOn job m v s before last
  stops : NoChange job m v last name

no_changes : (job : List ℕ) (m : Files) (v : Version) (s : State) → AreChanges job m v s []
no_changes job m v s = record { later = []; each = tt; texts = λ name h. none_in name h; others = λ name out. refl }

stop_here : (job : List ℕ) (m : Files) (v : Version) (s : State) (name : List ℕ) (names : List (List ℕ))
    → NoChange job m v s name → StopsAt job m v s (name ∷ names)
stop_here job m v s name names stops =
    record { before = []; name = name; after = names; whole = refl; last = s; leads = refl; stops = stops }

-- one change more in front
record NextChange (job : List ℕ) (m : Files) (v : Version) (s : State) (name : List ℕ) : Type 0 where
  next : State
  text : List ℕ
  named : name ≡ delta_name job next.run
  holds : contents_at m name ≡ Some text
  reads : ReadsAsChange v s text next

more_changes : (job : List ℕ) (m : Files) (v : Version) (s : State) (name : List ℕ) (names : List (List ℕ))
    (c : NextChange job m v s name)
    → IsInByteOrder (name ∷ names) → AreChanges job m v c.next names → AreChanges job m v s (name ∷ names)
more_changes job m v s name names c order a = record {
  later = c.next ∷ a.later;
  each = (c.reads.leads, a.each);
  texts = λ n h. ⊎_elim
      (λ e. subst (λ x. contents_at m x ≡ delta_at job v s (c.next ∷ a.later) x) e first)
      (λ k. a.texts n k
      ∙ sym (other_change job v s c.next a.later n
      (λ e. not_itself_less n (subst (λ x. name_cmp x n ≡ Less) (c.named ∙ sym e) (name_above name names n order k)))))
      (in_cases name names n h);
  others = λ n out.
      other_change job v s c.next a.later n (λ e. out (first_in name names n (c.named ∙ sym e)))
      ∙ a.others n (λ k. out (later_in name names n k));
}
  where
    first : contents_at m name ≡ delta_at job v s (c.next ∷ a.later) name
    first = c.holds ∙ ap Some c.reads.spelled
        ∙ sym (ap (delta_at job v s (c.next ∷ a.later)) c.named ∙ first_change job v s c.next a.later)

stop_later : (job : List ℕ) (m : Files) (v : Version) (s : State) (name : List ℕ) (names : List (List ℕ))
    (c : NextChange job m v s name) → StopsAt job m v c.next names → StopsAt job m v s (name ∷ names)
stop_later job m v s name names c a = record {
  before = name ∷ a.before;
  name = a.name;
  after = a.after;
  whole = ap (λ (ns : List (List ℕ)). name ∷ ns) a.whole;
  last = a.last;
  leads = (c.next, c.text, c.named, c.holds, c.reads, a.leads);
  stops = a.stops;
}

next_or_stop : (job : List ℕ) (m : Files) (v : Version) (s : State) (name text : List ℕ) → Proper s
    → contents_at m name ≡ Some text
    → NextChange job m v s name ⊎ NoChange job m v s name
next_or_stop job m v s name text proper holds = cases (change_or_none v s text proper)
  where
    here : (text' : List ℕ) → contents_at m name ≡ Some text' → text' ≡ text
    here text' e = same_Some text' text (sym e ∙ holds)

    by_name : (t : State) → ReadsAsChange v s text t → Decidable (name ≡ delta_name job t.run)
        → NextChange job m v s name ⊎ NoChange job m v s name
    by_name t r (inl e) = inl (record { next = t; text = text; named = e; holds = holds; reads = r })
    by_name t r (inr apart) = inr (λ text' u named e q.
        let same : t ≡ u =
        one_change v s text t u proper r (subst (λ x. ReadsAsChange v s x u) (here text' e) q) in
        apart (named ∙ ap (λ (w : State). delta_name job w.run) (sym same)))

    cases : ((t : State) × ReadsAsChange v s text t) ⊎ ((t : State) → ReadsAsChange v s text t → ⊥)
        → NextChange job m v s name ⊎ NoChange job m v s name
    cases (inl r) = by_name r.0 r.1 (same_text name (delta_name job r.0.run))
    cases (inr never) = inr (λ text' u named e q. never u (subst (λ x. ReadsAsChange v s x u) (here text' e) q))

changes_or_stop : (job : List ℕ) (m : Files) (v : Version) (s : State) (names : List (List ℕ)) → Proper s
    → IsInByteOrder names
    → ((name : List ℕ) → Contains names name → IsSome (m name)) → AreChanges job m v s names ⊎ StopsAt job m v s names
changes_or_stop job m v s [] proper order some = inl (no_changes job m v s)
changes_or_stop job m v s (name ∷ names) proper order some =
    let text = some_contents m name (some name (first_in name names name refl)) in
    ⊎_elim
    (λ c. ⊎_elim
    (λ a. inl (more_changes job m v s name names c order a))
    (λ a. inr (stop_later job m v s name names c a))
    (changes_or_stop job m v c.next names c.reads.leads.proper
    (rising_tail name names order) (λ n h. some n (later_in name names n h))))
    (λ never. inr (stop_here job m v s name names never))
    (next_or_stop job m v s name text.0 proper text.1)

-- ---- the map

pub no_file : (job : List ℕ) (m : Files) (names : List (List ℕ)) (name : List ℕ) → IsListing (delta_folder job) m names
    → begins_with (delta_folder job) name ≡ true → (Contains names name → ⊥) → contents_at m name ≡ None
no_file job m names name listing below out = cases (m name) refl
  where
    cases : (o : Option File) → m name ≡ o → option_map contents_of o ≡ None
    cases None e = refl
    cases (Some f) e = absurd (out ((listing.exact name).1 (below, ap is_some e)))

all_kept : (job : List ℕ) (m : Files) (names : List (List ℕ)) (bytes : List ℕ) (v : Version) (s : State)
    → IsListing (delta_folder job) m names → contents_at m (state_name job) ≡ Some bytes → ReadsAs v bytes s
    → AreChanges job m v s names → (k : Option Kept) × KeepsAs job m k
all_kept job m names bytes v s listing holds r a = (
  Some (record { version = v; base = s; later = a.later }),
  (
    record {
      base = holds ∙ ap Some r.spelled;
      deltas = λ name below. ⊎_elim
          (λ h. a.texts name h)
          (λ out. no_file job m names name listing below out ∙ sym (a.others name out))
          (is_member same_text names name);
    },
    record { base = r.proper; fits = r.fits; later = a.each },
  ),
)

damaged_there : (job : List ℕ) (m : Files) (names : List (List ℕ)) (bytes : List ℕ) (v : Version) (s : State)
    → IsListing (delta_folder job) m names → contents_at m (state_name job) ≡ Some bytes → ReadsAs v bytes s
    → StopsAt job m v s names → (name : List ℕ) × StateDamaged job m name
damaged_there job m names bytes v s listing holds r a = (
  a.name,
  change v bytes s a.last a.before a.after a.name holds r
      (subst (IsListing (delta_folder job) m) a.whole listing) a.leads a.stops,
)

pub kept_or_damaged : KeptOrDamaged
kept_or_damaged job m names listing = cases (contents_at m (state_name job)) refl names listing
  where
    read : (bytes : List ℕ) → contents_at m (state_name job) ≡ Some bytes → SomeState bytes ⊎ ReadsAsNone bytes
        → ((k : Option Kept) × KeepsAs job m k) ⊎ ((name : List ℕ) × StateDamaged job m name)
    read bytes holds (inr never) = inr (state_name job, base bytes holds never)
    read bytes holds (inl (v, s, r)) = ⊎_elim
        (λ a. inl (all_kept job m names bytes v s listing holds r a))
        (λ a. inr (damaged_there job m names bytes v s listing holds r a))
        (changes_or_stop job m v s names r.proper listing.rising (λ n h. ((listing.exact n).0 h).1))

    cases : (o : Option (List ℕ)) → contents_at m (state_name job) ≡ o → (ns : List (List ℕ))
        → IsListing (delta_folder job) m ns
        → ((k : Option Kept) × KeepsAs job m k) ⊎ ((name : List ℕ) × StateDamaged job m name)
    cases None gone [] l =
        inl (None, record { base = gone; deltas = λ name below. no_file job m [] name l below (λ h. none_in name h) })
    cases None gone (n ∷ ns) l = inr (n, baseless n ns gone l)
    cases (Some bytes) holds ns l = read bytes holds (some_version bytes)
