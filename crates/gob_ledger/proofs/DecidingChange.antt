-- Whether a text is the change from a state to another can be told.
use Rattle.std.proofs.Common.{◌≡◌, ◌⊎◌, inl, inr, ⊎_elim, ℕ, ◌+◌, ◌≤◌, Bool, true, false, cond, List, [], ◌∷◌, ◌++◌}
use Rattle.std.proofs.Common.{length, refl, sym, ap, subst, ◌∙◌, Some, None, unwrap_or, arith}
use Rattle.std.specs.declared.option.Option.{Option}
use Rattle.std.specs.List.{Contains}
use Rattle.std.specs.Str.{bytes_eq}
use Rattle.gob_bytes.proofs.Tables.{at_head, member_from_at}
use Rattle.gob_bytes.specs.Tables.{Table, at_name}
use Rattle.gob_ledger.specs.Marks.{Marks, Done, Span}
use Rattle.gob_ledger.specs.State.{State, marks_at}
use Rattle.gob_ledger.specs.Next.{no_marks}
use Rattle.gob_ledger.specs.Spelling.{Proper, Version, version_1, version_2}
use Rattle.gob_ledger.specs.Delta.{MarksFollow, StateFollows, KeepsPipelines, LeadsTo, ReadsAsChange, marks_or_none}
use Rattle.gob_ledger.specs.Delta.{delta_spelling}
use Rattle.gob_ledger.proofs.Deciding.{Decidable, like, both, either, always, same_number, not_above, same_text}
use Rattle.gob_ledger.proofs.Deciding.{same_list, each_member, some_member, is_member}
use Rattle.gob_ledger.proofs.DecidingState.{is_proper, if_told, if_told_is, if_told_all}
use Rattle.gob_ledger.proofs.Members.{none_in, in_cases}
use Rattle.gob_ledger.proofs.ReadingChange.{led_to, led_to_is}

-- ---- the marks of a partition

same_span_or_not : (s t : Span) → Decidable (s ≡ t)
same_span_or_not s t = like
    (λ p i. record { lo = p.0 i; hi = p.1 i })
    (λ e. (ap (λ (x : Span). x.lo) e, ap (λ (x : Span). x.hi) e))
    (both (same_number s.lo t.lo) (same_number s.hi t.hi))

same_done_or_not : (d e : Done) → Decidable (d ≡ e)
same_done_or_not d e = like
    (λ p i. record { span = p.0 i; pipeline = p.1 i })
    (λ q. (ap (λ (x : Done). x.span) q, ap (λ (x : Done). x.pipeline) q))
    (both (same_span_or_not d.span e.span) (same_number d.pipeline e.pipeline))

done_stays : (b n : Marks) → Decidable ((d : Done) → Contains b.finished d → Contains n.finished d)
done_stays b n = each_member (Contains n.finished) (is_member same_done_or_not n.finished) b.finished

abbrev StillOwed : Marks → Span → Type 0
StillOwed n s = Contains n.owed s ⊎ ((d : Done) × Contains n.finished d × (d.span ≡ s))

owed_stays : (b n : Marks) → Decidable ((s : Span) → Contains b.owed s → StillOwed n s)
owed_stays b n = each_member (StillOwed n)
    (λ s. either (is_member same_span_or_not n.owed s)
    (some_member (λ d. d.span ≡ s) (λ d. same_span_or_not d.span s) n.finished))
    b.owed

abbrev OldOrNew : Marks → Done → Type 0
OldOrNew b d = Contains b.finished d ⊎ Contains b.owed d.span ⊎ (b.next ≤ d.span.lo)

done_is_new : (b n : Marks) → Decidable ((d : Done) → Contains n.finished d → OldOrNew b d)
done_is_new b n = each_member (OldOrNew b)
    (λ d. either (is_member same_done_or_not b.finished d)
    (either (is_member same_span_or_not b.owed d.span) (not_above b.next d.span.lo)))
    n.finished

abbrev OldOrNewOwed : Marks → Span → Type 0
OldOrNewOwed b s = Contains b.owed s ⊎ (b.next ≤ s.lo)

owed_is_new : (b n : Marks) → Decidable ((s : Span) → Contains n.owed s → OldOrNewOwed b s)
owed_is_new b n = each_member (OldOrNewOwed b)
    (λ s. either (is_member same_span_or_not b.owed s) (not_above b.next s.lo)) n.owed

marks_follow : (b n : Marks) → Decidable (MarksFollow b n)
marks_follow b n = like
    (λ p. record { next = p.0; finished = p.1.0; owed = p.1.1.0; new_done = p.1.1.1.0; new_owed = p.1.1.1.1 })
    (λ r. (r.next, (r.finished, (r.owed, (r.new_done, r.new_owed)))))
    (both (not_above b.next n.next)
    (both (done_stays b n) (both (owed_stays b n) (both (done_is_new b n) (owed_is_new b n)))))

nothing_follows : MarksFollow no_marks no_marks
nothing_follows = record {
  next = omega arith;
  finished = λ d h. h;
  owed = λ s h. inl h;
  new_done = λ d h. inl h;
  new_owed = λ s h. inl h;
}

-- ---- all partitions

-- an entry's name has a value
named_value : {X : Type 0} (t : Table X) (e : List ℕ × X) → Contains t e → (x : X) × (at_name t e.0 ≡ Some x)
named_value [] e h = none_in e h
named_value {X} (d ∷ ds) e h = ⊎_elim
    (λ same. (d.1, ap (λ (x : List ℕ × X). at_name (d ∷ ds) x.0) (sym same) ∙ at_head d ds))
    (λ k. behind (bytes_eq e.0 d.0) (named_value ds e k))
    (in_cases d ds e h)
  where
    behind : (b : Bool) → (x : X) × (at_name ds e.0 ≡ Some x) → (x : X) × (cond b (Some d.1) (at_name ds e.0) ≡ Some x)
    behind true later = (d.1, refl)
    behind false later = later

has_value : (o : Option Marks) → Decidable ((n : Marks) × (o ≡ Some n))
has_value None = inr (λ r. let never : None ≡ Some r.0 = r.1 in cc)
has_value (Some n) = inl (n, refl)

abbrev AllStay : State → State → Type 0
AllStay s t = (part : List ℕ) (m : Marks) → marks_at s part ≡ Some m → (n : Marks) × (marks_at t part ≡ Some n)

parts_stay : (s t : State) → Decidable (AllStay s t)
parts_stay s t = like
    (λ f part m at. f (part, m) (member_from_at s.parts part m at))
    (λ f e h. let r = named_value s.parts e h in f e.0 r.0 r.1)
    (each_member (λ (e : List ℕ × Marks). (n : Marks) × (marks_at t e.0 ≡ Some n))
    (λ e. has_value (marks_at t e.0)) s.parts)

abbrev FollowAt : State → State → List ℕ → Type 0
FollowAt s t part = MarksFollow (marks_or_none s part) (marks_or_none t part)

-- a partition that neither state has follows
neither_has : (s t : State) (part : List ℕ) → marks_at s part ≡ None → marks_at t part ≡ None → FollowAt s t part
neither_has s t part a b =
    subst (λ (m : Marks). MarksFollow m (marks_or_none t part)) (sym (ap (λ o. unwrap_or o no_marks) a))
    (subst (MarksFollow no_marks) (sym (ap (λ o. unwrap_or o no_marks) b)) nothing_follows)

all_follow : (s t : State) → Decidable ((part : List ℕ) → FollowAt s t part)
all_follow s t = like
    (λ p part. cases p part (marks_at s part) refl (marks_at t part) refl)
    (λ f. (λ e h. f e.0, λ e h. f e.0))
    (both (each_member (λ (e : List ℕ × Marks). FollowAt s t e.0)
    (λ e. marks_follow (marks_or_none s e.0) (marks_or_none t e.0)) s.parts)
    (each_member (λ (e : List ℕ × Marks). FollowAt s t e.0)
    (λ e. marks_follow (marks_or_none s e.0) (marks_or_none t e.0)) t.parts))
  where
    cases : ((e : List ℕ × Marks) → Contains s.parts e → FollowAt s t e.0)
        × ((e : List ℕ × Marks) → Contains t.parts e → FollowAt s t e.0)
        → (part : List ℕ) → (o : Option Marks) → marks_at s part ≡ o → (q : Option Marks) → marks_at t part ≡ q
        → FollowAt s t part
    cases p part (Some m) a q b = p.0 (part, m) (member_from_at s.parts part m a)
    cases p part None a (Some n) b = p.1 (part, n) (member_from_at t.parts part n b)
    cases p part None a None b = neither_has s t part a b

-- ---- the states

abbrev LongerByOne : List (List ℕ) → List (List ℕ) → Type 0
LongerByOne ps qs = (p : List ℕ) × (qs ≡ ps ++ p ∷ [])

longer_by_one : (ps qs : List (List ℕ)) → Decidable (LongerByOne ps qs)
longer_by_one [] [] = inr (λ r. let e : [] ≡ r.0 ∷ [] = r.1 in cc)
longer_by_one [] (q ∷ []) = inl (q, refl)
longer_by_one [] (q ∷ r ∷ rs) = inr (λ s. let e : q ∷ r ∷ rs ≡ s.0 ∷ [] = s.1 in cc)
longer_by_one (p ∷ ps) [] = inr (λ r. let e : [] ≡ p ∷ (ps ++ r.0 ∷ []) = r.1 in cc)
longer_by_one (p ∷ ps) (q ∷ qs) = like
    (λ r. (r.1.0, λ i. r.0 i ∷ r.1.1 i))
    (λ r. let e : q ∷ qs ≡ p ∷ (ps ++ r.0 ∷ []) = r.1 in let a : q ≡ p = cc in let b : qs ≡ ps ++ r.0 ∷ [] = cc in
    (a, (r.0, b)))
    (both (same_text q p) (longer_by_one ps qs))

state_follows : (s t : State) → Decidable (StateFollows s t)
state_follows s t = like
    (λ p. record { run = p.0; pipelines = p.1.0; branches = p.1.1.0; parts = p.1.1.1.0; marks = p.1.1.1.1 })
    (λ r. (r.run, (r.pipelines, (r.branches, (r.parts, r.marks)))))
    (both (same_number t.run (s.run + 1))
    (both (either (same_list same_text t.pipelines s.pipelines) (longer_by_one s.pipelines t.pipelines))
    (both (not_above (length s.totals.branches) (length t.totals.branches))
    (both (parts_stay s t) (all_follow s t)))))

keeps_pipelines : (v : Version) (s t : State) → Decidable (KeepsPipelines v s t)
keeps_pipelines version_1 s t =
    both (same_number (length s.pipelines) 1) (same_list same_text t.pipelines s.pipelines)
keeps_pipelines version_2 s t = always

leads_to : (v : Version) (s t : State) → Decidable (LeadsTo v s t)
leads_to v s t = like
    (λ p. record { follows = p.0; proper = p.1.0; pipelines = p.1.1 })
    (λ r. (r.follows, (r.proper, r.pipelines)))
    (both (state_follows s t) (both (is_proper t) (keeps_pipelines v s t)))

pub reads_as_change : (v : Version) (s : State) (bytes : List ℕ) (t : State) → Decidable (ReadsAsChange v s bytes t)
reads_as_change v s bytes t = like
    (λ p. record { spelled = p.0; leads = p.1 })
    (λ r. (r.spelled, r.leads))
    (both (same_text bytes (delta_spelling v s t)) (leads_to v s t))

-- ---- the reader

abbrev pub change_if_read : Version → State → List ℕ → Option State → Option State
change_if_read v s bytes None = None
change_if_read v s bytes (Some t) = if_told (reads_as_change v s bytes t) t

-- the state to which a text in this version leads from this one
unfoldable pub change_read : Version → State → List ℕ → Option State
change_read v s bytes = change_if_read v s bytes (led_to v s bytes)

-- what is read is the state that the text leads to
pub change_read_is : (v : Version) (s : State) (bytes : List ℕ) (t : State) → change_read v s bytes ≡ Some t
    → ReadsAsChange v s bytes t
unfolding change_read
change_read_is v s bytes t e = cases (led_to v s bytes) e
  where
    cases : (o : Option State) → change_if_read v s bytes o ≡ Some t → ReadsAsChange v s bytes t
    cases None e = absurd (let never : None ≡ Some t = e in cc)
    cases (Some u) e = let r = if_told_is (reads_as_change v s bytes u) u t e in subst (ReadsAsChange v s bytes) r.1 r.0

-- the state that the text leads to is read
pub change_is_read : (v : Version) (s : State) (bytes : List ℕ) (t : State) → Proper s → ReadsAsChange v s bytes t
    → change_read v s bytes ≡ Some t
unfolding change_read
change_is_read v s bytes t proper r =
    ap (change_if_read v s bytes) (led_to_is v s bytes t proper r) ∙ if_told_all (reads_as_change v s bytes t) t r

-- behind a state a text is the change to a state, or to none
pub change_or_none : (v : Version) (s : State) (bytes : List ℕ) → Proper s
    → ((t : State) × ReadsAsChange v s bytes t) ⊎ ((t : State) → ReadsAsChange v s bytes t → ⊥)
change_or_none v s bytes proper = cases (change_read v s bytes) refl
  where
    cases : (o : Option State) → change_read v s bytes ≡ o
        → ((t : State) × ReadsAsChange v s bytes t) ⊎ ((t : State) → ReadsAsChange v s bytes t → ⊥)
    cases None e = inr (λ t r. let never : None ≡ Some t = sym e ∙ change_is_read v s bytes t proper r in cc)
    cases (Some t) e = inl (t, change_read_is v s bytes t e)
