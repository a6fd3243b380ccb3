-- Whether a state can be kept can be told, and so can what a text reads as.
use Rattle.std.proofs.Common.{◌≡◌, ◌⊎◌, inl, inr, ⊎_elim, ℕ, ◌+◌, ◌^◌, ◌<◌, ◌≤◌, cond, nat_lt, List, [], ◌∷◌, length}
use Rattle.std.proofs.Common.{All, codes, refl, sym, ap, subst, ◌∙◌, Some, None, arith}
use Rattle.std.specs.declared.option.Option.{Option}
use Rattle.std.specs.List.{Contains, IsDistinct, flat_map}
use Rattle.std.specs.Option.{option_and_then}
use Rattle.std.specs.Str.{bytes_eq, is_utf8}
use Rattle.std.proofs.lemmas.Bool.{cases_lt, le-ltb}
use Rattle.std.proofs.lemmas.Str.{IsUtf8-from_is_utf8, is_utf8-from_IsUtf8}
use Rattle.gob_bytes.proofs.Tables.{at_from_member, member_from_at}
use Rattle.gob_bytes.specs.Tables.{name_cmp, names_of, IsInByteOrder}
use Rattle.gob_plan.specs.declared.units.BranchCounts.{BranchCounts}
use Rattle.gob_plan.specs.declared.units.Counts.{Counts}
use Rattle.gob_ledger.specs.Marks.{Marks, Done, Span, times_covered, done_spans, InOrder, Tiled}
use Rattle.gob_ledger.specs.State.{State, marks_at, TiledState}
use Rattle.gob_ledger.specs.Spelling.{Small, SmallBranch, SmallCounts, ProperPart, Proper, Version, version_1}
use Rattle.gob_ledger.specs.Spelling.{version_2, FitsVersion, ReadsAs, state_spelling, IsKeptPipeline}
use Rattle.gob_jobs.specs.Pipelines.{is_key, IsSetting, setting_line, Setting}
use Rattle.gob_ledger.specs.SpellingLaws.{WrittenReadsBack}
use Rattle.gob_ledger.proofs.Deciding.{Decidable, like, both, then, refuted, always, same_number, lower, not_above}
use Rattle.gob_ledger.proofs.Deciding.{is_true, same_text, is_less, every, distinct, each_member, each_below}
use Rattle.gob_ledger.proofs.Members.{none_in, in_cases}
use Rattle.gob_ledger.proofs.Merging.{times_none}
use Rattle.gob_ledger.proofs.Ranges.{times, covered-is, within}
use Rattle.gob_ledger.proofs.ReadingSound.{CountIs, contents_are}
use Rattle.gob_ledger.proofs.ReadingState.{state_told, state_back, state_pipelines, state_text_is, have_lines}
use Rattle.gob_ledger.proofs.Reading.{contents_read}
use Rattle.gob_ledger.proofs.StateLines.{settings_in, settings_back, setting_lines_read}
use Rattle.gob_ledger.proofs.WordLines.{WordLine, lines_text, lines_fill, word_lines}

-- ---- pipelines

-- the settings of a pipeline's text
abbrev pub settings_of : List ℕ → Option (List Setting)
settings_of text = option_and_then settings_in (word_lines text)

pipeline_settings : (text : List ℕ) (p : IsKeptPipeline text) → settings_of text ≡ Some p.0
pipeline_settings text p =
    ap settings_of p.2 ∙ ap (option_and_then settings_in) (setting_lines_read p.0 p.1) ∙ settings_back p.0 p.1

is_setting : (s : Setting) → Decidable (IsSetting s.0 s.1)
is_setting s = like
    (λ p. record { keyed = p.0; bytes = p.1 })
    (λ r. (r.keyed, r.bytes))
    (both (is_true (is_key s.0)) (every (λ b. b < 256) (λ b. lower b 256) s.1))

pub is_pipeline : (text : List ℕ) → Decidable (IsKeptPipeline text)
is_pipeline text = cases (settings_of text) refl
  where
    cases : (o : Option (List Setting)) → settings_of text ≡ o → Decidable (IsKeptPipeline text)
    cases None e = inr (λ p. let never : None ≡ Some p.0 = sym e ∙ pipeline_settings text p in cc)
    cases (Some ss) e = like
        (λ r. (ss, r.0, r.1.0, r.1.1))
        (λ p.
        let same : p.0 ≡ ss = let h : Some p.0 ≡ Some ss = sym (pipeline_settings text p) ∙ e in cc in (
          subst (λ (z : List Setting). All (λ (s : Setting). IsSetting s.0 s.1) z) same p.1,
          (p.2 ∙ ap (flat_map setting_line) same, subst (λ (z : List Setting). Small (length z)) same p.3),
        ))
        (both (every (λ (s : Setting). IsSetting s.0 s.1) is_setting ss)
        (both (same_text text (flat_map setting_line ss)) (lower (length ss) (2 ^ 64))))

-- ---- counts

small_branch : (c : BranchCounts) → Decidable (SmallBranch c)
small_branch c = like
    (λ p. record { written = p.0; errors = p.1.0; optional = p.1.1 })
    (λ r. (r.written, (r.errors, r.optional)))
    (both (lower c.written (2 ^ 64)) (both (lower c.errors (2 ^ 64)) (lower c.optional (2 ^ 64))))

small_counts : (c : Counts) → Decidable (SmallCounts c)
small_counts c = like
    (λ p. record { records = p.0; bad = p.1.0; rows = p.1.1.0; unrouted = p.1.1.1.0; branches = p.1.1.1.1 })
    (λ r. (r.records, (r.bad, (r.rows, (r.unrouted, r.branches)))))
    (both (lower c.records (2 ^ 64)) (both (lower c.bad (2 ^ 64)) (both (lower c.rows (2 ^ 64))
    (both (lower c.unrouted (2 ^ 64)) (every SmallBranch small_branch c.branches)))))

-- ---- ranges

pub in_order : (from : ℕ) (ss : List Span) → Decidable (InOrder from ss)
in_order from [] = always
in_order from (s ∷ ss) = like
    (λ p. (p.0, p.1.0, p.1.1))
    (λ q. (q.0, (q.1, q.2)))
    (both (not_above from s.lo) (both (lower s.lo s.hi) (in_order s.hi ss)))

-- no range ends above this
abbrev pub highest : List Span → ℕ
highest [] = 0
highest (s ∷ ss) = s.hi + highest ss

below_highest : (ss : List Span) (s : Span) → Contains ss s → s.hi ≤ highest ss
below_highest [] s h = none_in s h
below_highest (t ∷ ts) s h = ⊎_elim
    (λ e. let same : t.hi ≡ s.hi = ap (λ (x : Span). x.hi) e in omega (arith, same))
    (λ k. let r = below_highest ts s k in omega (arith, r))
    (in_cases t ts s h)

none_above : (at : ℕ) (ss : List Span) → highest ss ≤ at → times at ss ≡ 0
none_above at ss above = times_none at ss (λ s h e.
    let a = (within at s e).1 in let b = below_highest ss s h in omega (arith, a, b, above))

abbrev reach : Marks → ℕ
reach m = highest (done_spans m) + highest m.owed + m.next

past_reach : (m : Marks) (at : ℕ) → reach m ≤ at → times_covered at m ≡ cond (nat_lt at m.next) 1 0
past_reach m at above =
    let done = none_above at (done_spans m) (omega (arith, above)) in
    let owed = none_above at m.owed (omega (arith, above)) in
    covered-is at m ∙ (λ i. done i + owed i) ∙ sym (ap (λ b. cond b 1 0) (le-ltb at m.next (omega (arith, above))))

pub is_tiled : (m : Marks) → Decidable (Tiled m)
is_tiled m = like
    (λ p. record {
      finished = p.0;
      owed = p.1.0;
      once = λ at. ⊎_elim (λ l. p.1.1 at l) (λ g. past_reach m at g) (cases_lt at (reach m));
    })
    (λ r. (r.finished, (r.owed, λ at l. r.once at)))
    (both (in_order 0 (done_spans m)) (both (in_order 0 m.owed)
    (each_below (λ at. times_covered at m ≡ cond (nat_lt at m.next) 1 0)
    (λ at. same_number (times_covered at m) (cond (nat_lt at m.next) 1 0)) (reach m))))

-- ---- partitions

pub in_byte_order : (names : List (List ℕ)) → Decidable (IsInByteOrder names)
in_byte_order [] = always
in_byte_order (x ∷ []) = always
in_byte_order (x ∷ y ∷ ys) = both (is_less (name_cmp x y)) (in_byte_order (y ∷ ys))

proper_part : (e : List ℕ × Marks) → Decidable (ProperPart e.0 e.1)
proper_part e = like
    (λ p. record { named = p.0; text = p.1.0; begun = p.1.1.0; small = p.1.1.1 })
    (λ r. (r.named, (r.text, (r.begun, r.small))))
    (both (refuted (same_text e.0 []))
    (both (like (IsUtf8-from_is_utf8 e.0) (is_utf8-from_IsUtf8 e.0) (is_true (is_utf8 e.0)))
    (both (lower 0 e.1.next) (lower e.1.next (2 ^ 64)))))

-- what holds of each entry holds of what is found by name
by_entries : (s : State) (P : List ℕ × Marks → Type 0) → ((e : List ℕ × Marks) → Decidable (P e))
    → IsInByteOrder (names_of s.parts)
    → Decidable ((part : List ℕ) (m : Marks) → marks_at s part ≡ Some m → P (part, m))
by_entries s P each order = like
    (λ f part m at. f (part, m) (member_from_at s.parts part m at))
    (λ f e h. f e.0 e.1 (at_from_member s.parts e.0 e.1 order h))
    (each_member P each s.parts)

tiled_state : (s : State) → IsInByteOrder (names_of s.parts) → Decidable (TiledState s)
tiled_state s order = like
    (λ p. record { tiled = p.0; indexed = λ part m d at h. p.1 part m at d h })
    (λ r. (r.tiled, λ part m at d h. r.indexed part m d at h))
    (both (by_entries s (λ e. Tiled e.1) (λ e. is_tiled e.1) order)
    (by_entries s (λ e. (d : Done) → Contains e.1.finished d → d.pipeline < length s.pipelines)
    (λ e. each_member (λ d. d.pipeline < length s.pipelines)
    (λ d. lower d.pipeline (length s.pipelines)) e.1.finished) order))

-- ---- the state

-- the parts of a proper state, in pairs
abbrev ProperAsPairs : State → Type 0
ProperAsPairs s =
    Small s.run ×
    (All IsKeptPipeline s.pipelines × (Small (length s.pipelines)
    × (IsDistinct bytes_eq s.pipelines × (SmallCounts s.totals
    × (((1 ≤ length s.totals.branches) × (length s.totals.branches ≤ 8)) × (IsInByteOrder (names_of s.parts)
    × (((part : List ℕ) (m : Marks) → marks_at s part ≡ Some m → ProperPart part m) × TiledState s)))))))

from_pairs : (s : State) → ProperAsPairs s → Proper s
from_pairs s p = record {
  run = p.0;
  pipelines = p.1.0;
  few = p.1.1.0;
  differ = p.1.1.1.0;
  totals = p.1.1.1.1.0;
  branches = p.1.1.1.1.1.0;
  names = p.1.1.1.1.1.1.0;
  parts = p.1.1.1.1.1.1.1.0;
  tiled = p.1.1.1.1.1.1.1.1;
}

to_pairs : (s : State) → Proper s → ProperAsPairs s
to_pairs s r = (r.run, (r.pipelines, (r.few, (r.differ, (r.totals, (r.branches, (r.names, (r.parts, r.tiled))))))))

pairs_told : (s : State) → Decidable (ProperAsPairs s)
pairs_told s =
    both (lower s.run (2 ^ 64))
    (both (every IsKeptPipeline is_pipeline s.pipelines) (both (lower (length s.pipelines) (2 ^ 64))
    (both (distinct bytes_eq s.pipelines) (both (small_counts s.totals)
    (both (both (not_above 1 (length s.totals.branches)) (not_above (length s.totals.branches) 8))
    (then (in_byte_order (names_of s.parts)) (λ order.
    both (by_entries s (λ e. ProperPart e.0 e.1) proper_part order) (tiled_state s order))))))))

pub is_proper : (s : State) → Decidable (Proper s)
is_proper s = like (from_pairs s) (to_pairs s) (pairs_told s)

-- ---- the reader

-- what is told in a version, proper or not, is spelled so, and the version can spell it
pub told_is : (v : Version) (bytes : List ℕ) (s : State) → state_told v bytes ≡ Some s
    → (bytes ≡ state_spelling v s) × FitsVersion v s
told_is v bytes s e = cases (word_lines bytes) refl e
  where
    fits : (v : Version) → CountIs (state_pipelines v) s.pipelines → FitsVersion v s
    fits version_1 count = count
    fits version_2 count = tt

    cases : (o : Option (List WordLine)) → word_lines bytes ≡ o
        → option_and_then (contents_read (codes "gobblin-state") v (state_pipelines v)) o ≡ Some s
        → (bytes ≡ state_spelling v s) × FitsVersion v s
    cases None is e = absurd (let never : None ≡ Some s = e in cc)
    cases (Some ls) is e =
        let r = contents_are (codes "gobblin-state") v (state_pipelines v) ls s e in (
          lines_fill bytes ls is ∙ ap lines_text r.whole ∙ state_text_is v s (have_lines s.pipelines r.pipelines),
          fits v r.count,
        )

abbrev pub if_told : {P : Type 0} → Decidable P → State → Option State
if_told (inl p) s = Some s
if_told (inr never) s = None

abbrev pub state_if_proper : Option State → Option State
state_if_proper None = None
state_if_proper (Some s) = if_told (is_proper s) s

-- what a text in this version reads as
unfoldable pub state_read : Version → List ℕ → Option State
state_read v bytes = state_if_proper (state_told v bytes)

pub if_told_is : {P : Type 0} (d : Decidable P) (s t : State) → if_told d s ≡ Some t → P × (s ≡ t)
if_told_is (inl p) s t e = (p, cc)
if_told_is (inr never) s t e = absurd (let no_state : None ≡ Some t = e in cc)

pub if_told_all : {P : Type 0} (d : Decidable P) (s : State) → P → if_told d s ≡ Some s
if_told_all (inl p) s q = refl
if_told_all (inr never) s q = absurd (never q)

-- what is read is the text's state
pub state_read_is : (v : Version) (bytes : List ℕ) (s : State) → state_read v bytes ≡ Some s → ReadsAs v bytes s
unfolding state_read
state_read_is v bytes s e = cases (state_told v bytes) refl e
  where
    cases : (o : Option State) → state_told v bytes ≡ o → state_if_proper o ≡ Some s → ReadsAs v bytes s
    cases None is e = absurd (let never : None ≡ Some s = e in cc)
    cases (Some t) is e =
        let r = if_told_is (is_proper t) t s e in
        let spelled = told_is v bytes t is in
        subst (ReadsAs v bytes) r.1 (record { spelled = spelled.0; fits = spelled.1; proper = r.0 })

-- the text's state is read
pub state_is_read : (v : Version) (bytes : List ℕ) (s : State) → ReadsAs v bytes s → state_read v bytes ≡ Some s
unfolding state_read
state_is_read v bytes s r = ap state_if_proper (state_back v bytes s r) ∙ if_told_all (is_proper s) s r.proper

-- a text is a state's, or no state's
pub state_or_none : (v : Version) (bytes : List ℕ)
    → ((s : State) × ReadsAs v bytes s) ⊎ ((s : State) → ReadsAs v bytes s → ⊥)
state_or_none v bytes = cases (state_read v bytes) refl
  where
    cases : (o : Option State) → state_read v bytes ≡ o
        → ((s : State) × ReadsAs v bytes s) ⊎ ((s : State) → ReadsAs v bytes s → ⊥)
    cases None e = inr (λ s r. let never : None ≡ Some s = sym e ∙ state_is_read v bytes s r in cc)
    cases (Some s) e = inl (s, state_read_is v bytes s e)

-- what was written reads back
pub written_back : WrittenReadsBack
written_back s proper = record {
  second = λ bytes. (λ r. r.spelled, λ e. record { spelled = e; fits = tt; proper = proper });
  first = λ bytes. (λ r. (r.fits, r.spelled), λ p. record { spelled = p.1; fits = p.0; proper = proper });
}
