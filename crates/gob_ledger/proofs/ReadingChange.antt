-- A change's file leads from a state to one state.
use Rattle.std.proofs.Common.{◌≡◌, inl, inr, ℕ, ◌+◌, ◌≤◌, Bool, true, false, cond, nat_lt, List, [], ◌∷◌, ◌++◌, map}
use Rattle.std.proofs.Common.{length, drop, refl, sym, ap, subst, ◌∙◌, Some, None, unwrap_or, option_map, append-nil}
use Rattle.std.proofs.Common.{length-drop, codes, arith}
use Rattle.std.specs.declared.option.Option.{Option}
use Rattle.std.specs.Option.{option_and_then, option_or}
use Rattle.std.specs.List.{AllByRecursion, Contains, filter, flat_map}
use Rattle.std.specs.Str.{bytes_eq}
use Rattle.std.proofs.lemmas.Bool.{ltb-false}
use Rattle.std.proofs.lemmas.List.Elements.{recursion_from_All, All-drop}
use Rattle.std.proofs.Math.Seq.{drop-append_seam}
use Rattle.gob_bytes.proofs.Tables.{same_name, name_itself, none_below, rising_tail, rising-with_name, at-with_name}
use Rattle.gob_bytes.proofs.Tables.{same_tables, at_from_member}
use Rattle.gob_bytes.specs.Tables.{Table, at_name, with_name, names_of, IsInByteOrder}
use Rattle.gob_ledger.specs.Marks.{Marks, Tiled}
use Rattle.gob_ledger.specs.State.{State, marks_at, TiledState}
use Rattle.gob_ledger.specs.Next.{no_marks}
use Rattle.gob_ledger.specs.Spelling.{Small, Proper, Version, version_1, version_2, FitsVersion, pipeline_part}
use Rattle.gob_ledger.specs.Spelling.{pipelines_text, totals_text, parts_text, file_text, IsKeptPipeline}
use Rattle.gob_ledger.specs.Delta.{OneMore, MarksFollow, StateFollows, KeepsPipelines, LeadsTo, ReadsAsChange}
use Rattle.gob_ledger.specs.Delta.{marks_or_none, changed_marks, changed_part, changed_parts, has_ranges, new_pipelines}
use Rattle.gob_ledger.specs.Delta.{delta_spelling}
use Rattle.gob_ledger.specs.Laws.{OneSpellingAChange}
use Rattle.gob_ledger.proofs.Members.{in_filter, in_map}
use Rattle.gob_ledger.proofs.Ranges.{tiled_none, order_filter}
use Rattle.gob_ledger.proofs.Merging.{merged, merged_is, unchanged, filter_order, is_new, is_new_owed, starts_apart}
use Rattle.gob_ledger.proofs.WordLines.{WordLine, lines_text, word_lines, lines_read}
use Rattle.gob_ledger.proofs.StateLines.{from_members, mixed_rises, SpanFits, DoneFits, PartFits, ContentsFit}
use Rattle.gob_ledger.proofs.StateLines.{contents_lines, contents_text, contents_good, counted_text}
use Rattle.gob_ledger.proofs.Reading.{AsMany, contents_read, contents_back}
use Rattle.gob_ledger.proofs.ReadingState.{part_fits, have_lines, text_read_by}

-- ---- a change put over a state

-- the partitions of the change put over the state's
abbrev pub merged_parts : State → Table Marks → Table Marks
merged_parts s [] = s.parts
merged_parts s (e ∷ es) = with_name (merged_parts s es) e.0 (merged (marks_or_none s e.0) e.1)

-- the state that a change leads to: it holds the new pipelines, and the partitions that changed
abbrev pub with_change : State → State → State
with_change s change =
    record change { pipelines = s.pipelines ++ change.pipelines; parts = merged_parts s change.parts }

-- what a change's file holds
abbrev pub change_contents : State → State → State
change_contents s t = record t { pipelines = drop (length s.pipelines) t.pipelines; parts = changed_parts s t }

at_merged : (s : State) (es : Table Marks) (q : List ℕ)
    → at_name (merged_parts s es) q ≡ option_or (option_map (merged (marks_or_none s q)) (at_name es q)) (marks_at s q)
at_merged s [] q = refl
at_merged s (e ∷ es) q =
    at-with_name (merged_parts s es) e.0 (merged (marks_or_none s e.0) e.1) q
    ∙ cases (bytes_eq q e.0) refl (at_merged s es q)
  where
    cases : (b : Bool) → bytes_eq q e.0 ≡ b
        → at_name (merged_parts s es) q ≡ option_or (option_map (merged (marks_or_none s q)) (at_name es q))
        (marks_at s q)
        → cond b (Some (merged (marks_or_none s e.0) e.1)) (at_name (merged_parts s es) q)
        ≡ option_or (option_map (merged (marks_or_none s q)) (cond b (Some e.1) (at_name es q))) (marks_at s q)
    cases true is later = ap (λ name. Some (merged (marks_or_none s name) e.1)) (sym (same_name q e.0 is))
    cases false is later = later

merged_in_order : (s : State) (es : Table Marks) → IsInByteOrder (names_of s.parts)
    → IsInByteOrder (names_of (merged_parts s es))
merged_in_order s [] order = order
merged_in_order s (e ∷ es) order =
    rising-with_name (merged_parts s es) e.0 (merged (marks_or_none s e.0) e.1) (merged_in_order s es order)

-- ---- the partitions that changed, by name

changed_none : (s : State) (es : Table Marks) (q : List ℕ) → at_name es q ≡ None
    → at_name (filter has_ranges (map (changed_part s) es)) q ≡ None
changed_none s [] q e = refl
changed_none s (d ∷ es) q e = cases (bytes_eq q d.0) refl (has_ranges (changed_part s d)) e (changed_none s es q)
  where
    cases : (b : Bool) → bytes_eq q d.0 ≡ b → (k : Bool) → cond b (Some d.1) (at_name es q) ≡ None
        → (at_name es q ≡ None → at_name (filter has_ranges (map (changed_part s) es)) q ≡ None)
        → at_name (cond k (changed_part s d ∷ filter has_ranges (map (changed_part s) es))
        (filter has_ranges (map (changed_part s) es))) q ≡ None
    cases true is k e later = absurd (let never : Some d.1 ≡ None = e in cc)
    cases false is true e later =
        ap (λ b. cond b (Some (changed_marks (marks_or_none s d.0) d.1))
        (at_name (filter has_ranges (map (changed_part s) es)) q)) is ∙ later e
    cases false is false e later = later e

-- its change where it has one
abbrev only_changed : State → List ℕ → Marks → Option Marks
only_changed s q n = cond (has_ranges (changed_part s (q, n))) (Some (changed_marks (marks_or_none s q) n)) None

at_changed : (s : State) (es : Table Marks) (q : List ℕ) (n : Marks) → IsInByteOrder (names_of es)
    → at_name es q ≡ Some n
    → at_name (filter has_ranges (map (changed_part s) es)) q ≡ only_changed s q n
at_changed s [] q n order e = absurd (let never : None ≡ Some n = e in cc)
at_changed s (d ∷ es) q n order e =
    cases (bytes_eq q d.0) refl e (at_changed s es q n (rising_tail d.0 (names_of es) order))
  where
    here : d.1 ≡ n → q ≡ d.0 → (k : Bool) → has_ranges (changed_part s d) ≡ k
        → at_name (cond k (changed_part s d ∷ filter has_ranges (map (changed_part s) es))
        (filter has_ranges (map (changed_part s) es))) q
        ≡ cond k (Some (changed_marks (marks_or_none s q) n)) None
    here value level true is =
        ap (λ b. cond b (Some (changed_marks (marks_or_none s d.0) d.1))
        (at_name (filter has_ranges (map (changed_part s) es)) q))
        (ap (λ x. bytes_eq x d.0) level ∙ name_itself d.0)
        ∙ (λ i. Some (changed_marks (marks_or_none s (sym level i)) (value i)))
    here value level false is =
        changed_none s es q (ap (at_name es) level ∙ none_below es d.0 order)

    cases : (b : Bool) → bytes_eq q d.0 ≡ b → cond b (Some d.1) (at_name es q) ≡ Some n
        → (at_name es q ≡ Some n → at_name (filter has_ranges (map (changed_part s) es)) q ≡ only_changed s q n)
        → at_name (filter has_ranges (map (changed_part s) (d ∷ es))) q ≡ only_changed s q n
    cases true is e later =
        let level = same_name q d.0 is in
        let value : d.1 ≡ n = cc in
        here value level (has_ranges (changed_part s d)) refl
        ∙ (λ i. cond (has_ranges (changed_part s (sym level i, value i)))
        (Some (changed_marks (marks_or_none s q) n)) None)
    cases false is e later = skipped (has_ranges (changed_part s d)) ∙ later e
      where
        skipped : (k : Bool)
            → at_name (cond k (changed_part s d ∷ filter has_ranges (map (changed_part s) es))
            (filter has_ranges (map (changed_part s) es))) q
            ≡ at_name (filter has_ranges (map (changed_part s) es)) q
        skipped true =
            ap (λ b. cond b (Some (changed_marks (marks_or_none s d.0) d.1))
            (at_name (filter has_ranges (map (changed_part s) es)) q)) is
        skipped false = refl

-- ---- the change from one state to the next leads to it

tiled_or_none : (s : State) (q : List ℕ) → TiledState s → Tiled (marks_or_none s q)
tiled_or_none s q tiled = cases (marks_at s q) refl
  where
    cases : (o : Option Marks) → marks_at s q ≡ o → Tiled (unwrap_or o no_marks)
    cases None e = tiled_none
    cases (Some m) e = tiled.tiled q m e

follows_at : (s t : State) (q : List ℕ) (n : Marks) → StateFollows s t → marks_at t q ≡ Some n
    → MarksFollow (marks_or_none s q) n
follows_at s t q n follow e =
    subst (MarksFollow (marks_or_none s q)) (ap (λ o. unwrap_or o no_marks) e) (follow.marks q)

pub not_positive : (k : ℕ) → nat_lt 0 k ≡ false → k ≡ 0
not_positive k e = let z : k ≤ 0 = ltb-false 0 k e in omega (arith, z)

-- a partition without a change was there, with the same marks
kept_part : (s t : State) (q : List ℕ) (n : Marks) → Proper s → Proper t → StateFollows s t → marks_at t q ≡ Some n
    → has_ranges (changed_part s (q, n)) ≡ false → marks_at s q ≡ Some n
kept_part s t q n ps pt follow e none = cases (marks_at s q) refl
  where
    same : marks_or_none s q ≡ n
    same = unchanged (marks_or_none s q) n (tiled_or_none s q ps.tiled) (pt.tiled.tiled q n e)
        (follows_at s t q n follow e)
        (not_positive
        (length (changed_marks (marks_or_none s q) n).finished + length (changed_marks (marks_or_none s q) n).owed)
        none)

    cases : (o : Option Marks) → marks_at s q ≡ o → marks_at s q ≡ Some n
    cases None is =
        let empty : no_marks ≡ n = sym (ap (λ o. unwrap_or o no_marks) is) ∙ same in
        let begun = (pt.parts q n e).begun in
        let zero_next : n.next ≡ 0 = sym (ap (λ (m : Marks). m.next) empty) in absurd (omega (arith, begun, zero_next))
    cases (Some m) is = is ∙ ap Some (sym (ap (λ o. unwrap_or o no_marks) is) ∙ same)

part_again : (s t : State) (q : List ℕ) → Proper s → Proper t → StateFollows s t
    → at_name (merged_parts s (changed_parts s t)) q ≡ marks_at t q
part_again s t q ps pt follow = at_merged s (changed_parts s t) q ∙ cases (marks_at t q) refl
  where
    changed : (n : Marks) → marks_at t q ≡ Some n → (k : Bool) → has_ranges (changed_part s (q, n)) ≡ k
        → option_or (option_map (merged (marks_or_none s q)) (cond k (Some (changed_marks (marks_or_none s q) n)) None))
        (marks_at s q) ≡ Some n
    changed n e true is =
        ap Some (merged_is (marks_or_none s q) n (tiled_or_none s q ps.tiled) (pt.tiled.tiled q n e)
        (follows_at s t q n follow e))
    changed n e false is = kept_part s t q n ps pt follow e is

    gone : (o : Option Marks) → marks_at t q ≡ None → marks_at s q ≡ o → marks_at s q ≡ None
    gone None e is = is
    gone (Some m) e is = absurd (let r = follow.parts q m is in let never : None ≡ Some r.0 = sym e ∙ r.1 in cc)

    cases : (o : Option Marks) → marks_at t q ≡ o
        → option_or (option_map (merged (marks_or_none s q)) (at_name (changed_parts s t) q)) (marks_at s q) ≡ o
    cases None e =
        ap (λ o. option_or (option_map (merged (marks_or_none s q)) o) (marks_at s q)) (changed_none s t.parts q e)
        ∙ gone (marks_at s q) e refl
    cases (Some n) e =
        ap (λ o. option_or (option_map (merged (marks_or_none s q)) o) (marks_at s q))
        (at_changed s t.parts q n pt.names e)
        ∙ changed n e (has_ranges (changed_part s (q, n))) refl

behind_itself : (ps : List (List ℕ)) → ps ++ drop (length ps) ps ≡ ps
behind_itself [] = refl
behind_itself (p ∷ ps) = ap (λ (qs : List (List ℕ)). p ∷ qs) (behind_itself ps)

pipelines_again : (ps qs : List (List ℕ)) → OneMore ps qs → ps ++ drop (length ps) qs ≡ qs
pipelines_again ps qs (inl e) = ap (λ x. ps ++ drop (length ps) x) e ∙ behind_itself ps ∙ sym e
pipelines_again ps qs (inr (p, e)) =
    ap (λ x. ps ++ drop (length ps) x) e ∙ ap (λ x. ps ++ x) (drop-append_seam ps (p ∷ [])) ∙ sym e

pub change_leads : (s t : State) → Proper s → Proper t → StateFollows s t → with_change s (change_contents s t) ≡ t
change_leads s t ps pt follow =
    let parts = same_tables (merged_parts s (changed_parts s t)) t.parts
    (merged_in_order s (changed_parts s t) ps.names) pt.names (λ q. part_again s t q ps pt follow) in
    let pipelines = pipelines_again s.pipelines t.pipelines follow.pipelines in
    λ i. record t { pipelines = pipelines i; parts = parts i }

-- ---- what a change's file can tell

each_filter : {X : Type 0} (P : X → Type 0) (p : X → Bool) (xs : List X) → AllByRecursion P xs
    → AllByRecursion P (filter p xs)
each_filter P p [] all = tt
each_filter P p (x ∷ xs) all = elim (p x) as (λ b. AllByRecursion P (cond b (x ∷ filter p xs) (filter p xs))) [
  | true ↦ (all.0, each_filter P p xs all.1)
  | false ↦ each_filter P p xs all.1
]

changed_fits : (v : Version) (s : State) (e : List ℕ × Marks) → Tiled e.1 → PartFits v e → PartFits v (changed_part s e)
changed_fits v s e tiled fit =
    let b = marks_or_none s e.0 in
    let done = filter_order (is_new b) 0 e.1.finished tiled.finished in
    let owed = order_filter (is_new_owed b) 0 e.1.owed tiled.owed in
    record {
      bytes = fit.bytes;
      next = fit.next;
      order = done;
      rise = mixed_rises 0 (filter (is_new b) e.1.finished) (filter (is_new_owed b) e.1.owed) done owed
          (λ d o h k. starts_apart e.1 tiled d o (in_filter (is_new b) e.1.finished d h).0
          (in_filter (is_new_owed b) e.1.owed o k).0);
      finished = each_filter (DoneFits v) (is_new b) e.1.finished fit.finished;
      owed = each_filter SpanFits (is_new_owed b) e.1.owed fit.owed;
    }

changed_part_fits : (v : Version) (s t : State) → Proper t → FitsVersion v t → (e : List ℕ × Marks)
    → Contains (changed_parts s t) e → PartFits v e
changed_part_fits v s t proper fits e h =
    let there = in_map (changed_part s) t.parts e (in_filter has_ranges (map (changed_part s) t.parts) e h).0 in
    let at : marks_at t there.0.0 ≡ Some there.0.1 = at_from_member t.parts there.0.0 there.0.1 proper.names there.1 in
    subst (PartFits v) there.2
    (changed_fits v s there.0 (proper.tiled.tiled there.0.0 there.0.1 at) (part_fits v t proper fits there.0 there.1))

length_drop_le : (n : ℕ) (ps : List (List ℕ)) → length (drop n ps) ≤ length ps
length_drop_le n ps = omega (arith, length-drop n ps)

-- the version that spells a state spells what it leads to
pub fits_after : (v : Version) (s t : State) → LeadsTo v s t → FitsVersion v t
fits_after version_1 s t leads = ap length leads.pipelines.1 ∙ leads.pipelines.0
fits_after version_2 s t leads = tt

change_fits : (v : Version) (s t : State) → LeadsTo v s t → ContentsFit v (change_contents s t)
change_fits v s t leads =
    let n = length s.pipelines in
    record {
      run = leads.proper.run;
      pipelines = have_lines (drop n t.pipelines)
          (recursion_from_All IsKeptPipeline (drop n t.pipelines)
          (All-drop IsKeptPipeline n t.pipelines leads.proper.pipelines));
      few = let few = leads.proper.few in let less = length_drop_le n t.pipelines in omega (arith, few, less);
      totals = leads.proper.totals;
      branches = leads.proper.branches.1;
      parts = from_members (PartFits v) (changed_parts s t)
          (changed_part_fits v s t leads.proper (fits_after v s t leads));
    }

-- ---- the reader

-- no pipeline, or a line with the number of new ones
abbrev pub change_pipelines : Version → Option ℕ
change_pipelines version_1 = Some 0
change_pipelines version_2 = None

none_new : (s t : State) → t.pipelines ≡ s.pipelines → drop (length s.pipelines) t.pipelines ≡ []
none_new s t e = ap (drop (length s.pipelines)) (e ∙ sym (append-nil s.pipelines)) ∙ drop-append_seam s.pipelines []

change_many : (v : Version) (s t : State) → LeadsTo v s t
    → AsMany (change_pipelines v) (drop (length s.pipelines) t.pipelines)
change_many version_1 s t leads = ap length (none_new s t leads.pipelines.1)
change_many version_2 s t leads = tt

abbrev pub change_lines : Version → State → State → List WordLine
change_lines v s t = contents_lines (codes "gobblin-delta") v (change_pipelines v) (change_contents s t)

new_text : (v : Version) (s t : State) → LeadsTo v s t
    → counted_text (change_pipelines v) (drop (length s.pipelines) t.pipelines) ≡ new_pipelines v s t
new_text version_1 s t leads = ap (flat_map pipeline_part) (none_new s t leads.pipelines.1)
new_text version_2 s t leads = refl

change_text_is : (v : Version) (s t : State) → LeadsTo v s t
    → lines_text (change_lines v s t) ≡ delta_spelling v s t
unfolding delta_spelling
change_text_is v s t leads =
    contents_text (codes "gobblin-delta") v (change_pipelines v) (change_contents s t)
    (change_fits v s t leads).pipelines
    ∙ ap (λ x. file_text (codes "gobblin-delta") v t.run
    (x ++ totals_text t.totals ++ parts_text v (changed_parts s t))) (new_text v s t leads)

-- what a text in this version tells, the next state's or not
abbrev pub change_told : Version → List ℕ → Option State
change_told v bytes = text_read_by (contents_read (codes "gobblin-delta") v (change_pipelines v)) bytes

-- a change that was written is read
pub change_back : (v : Version) (s : State) (bytes : List ℕ) (t : State) → ReadsAsChange v s bytes t
    → change_told v bytes ≡ Some (change_contents s t)
change_back v s bytes t r =
    let read : List WordLine → Option State = contents_read (codes "gobblin-delta") v (change_pipelines v) in
    let fit = change_fits v s t r.leads in
    ap (λ x. option_and_then read (word_lines x)) (r.spelled ∙ sym (change_text_is v s t r.leads))
    ∙ ap (option_and_then read)
    (lines_read (change_lines v s t)
    (contents_good (codes "gobblin-delta") v (change_pipelines v) (change_contents s t) refl fit))
    ∙ contents_back (codes "gobblin-delta") v (change_pipelines v) (change_contents s t) (change_many v s t r.leads) fit

-- the state that a text may lead to from this one
abbrev pub led_to : Version → State → List ℕ → Option State
led_to v s bytes = option_map (with_change s) (change_told v bytes)

pub led_to_is : (v : Version) (s : State) (bytes : List ℕ) (t : State) → Proper s → ReadsAsChange v s bytes t
    → led_to v s bytes ≡ Some t
led_to_is v s bytes t proper r =
    ap (option_map (with_change s)) (change_back v s bytes t r)
    ∙ ap Some (change_leads s t proper r.leads.proper r.leads.follows)

pub one_change : OneSpellingAChange
one_change v s bytes t u proper r q =
    let both : Some t ≡ Some u = sym (led_to_is v s bytes t proper r) ∙ led_to_is v s bytes u proper q in cc
