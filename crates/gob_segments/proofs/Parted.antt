-- Partitions of a change that are put over a table, one after the other.
use Rattle.std.proofs.Common.{◌≡◌, ◌⊎◌, inl, inr, ⊎_elim, ℕ, ◌+◌, ◌<◌, ◌≤◌, ◌^◌, Bool, true, false, cond, List}
use Rattle.std.proofs.Common.{[], ◌∷◌, ◌++◌, map, length, refl, sym, ap, subst, ◌∙◌, Some, None, IfSome, unwrap_or}
use Rattle.std.proofs.Common.{append_assoc, codes, arith}
use Rattle.std.specs.declared.cmp.Ordering.TheVariants.{Less}
use Rattle.std.specs.declared.option.Option.{Option}
use Rattle.std.specs.List.{AllByRecursion, Contains, filter, flat_map}
use Rattle.std.specs.Option.{option_and_then, option_or}
use Rattle.std.specs.Str.{bytes_eq}
use Rattle.std.proofs.lemmas.Bool.{cases_Bool, cases_lt, true≢false}
use Rattle.std.proofs.lemmas.List.Elements.{Contains-append_cases, Contains-append_left, Contains-append_right}
use Rattle.std.proofs.lemmas.Option.{same_Some}
use Rattle.gob_bytes.proofs.Tables.{at-with_name, at_from_member, less_apart, less_then, member_from_at, none_below}
use Rattle.gob_bytes.proofs.Tables.{rising-with_name, rising_tail, same_name, same_tables, two_names}
use Rattle.gob_bytes.specs.Tables.{Table, at_name, name_cmp, names_of, with_name, IsInByteOrder}
use Rattle.gob_ledger.specs.Marks.{Done, Marks, Span, Tiled}
use Rattle.gob_ledger.specs.Next.{no_marks}
use Rattle.gob_ledger.specs.Spelling.{Version, Small, part_text, parts_text}
use Rattle.gob_ledger.specs.Delta.{MarksFollow, changed_marks, has_ranges}
use Rattle.gob_ledger.proofs.DeltaNames.{name_above}
use Rattle.gob_ledger.proofs.Members.{none_in, first_in, later_in, in_cases, in_filter, filter_in, in_map, map_in}
use Rattle.gob_ledger.proofs.Merging.{is_new, is_new_owed, unchanged}
use Rattle.gob_ledger.proofs.Ranges.{done_below, order_members, owed_below, tiled_none}
use Rattle.gob_ledger.proofs.ReadingChange.{not_positive}
use Rattle.gob_ledger.proofs.Following.{follow_itself}
use Rattle.gob_marks.specs.Changed.{marks_in}
use Rattle.gob_state.proofs.Along.{Along, OneMore, all_read, at_start, one_missing, one_more}
use Rattle.gob_state.proofs.PartLemmas.{names_push, order_front}
use Rattle.gob_state.proofs.Steps.{Pairing, behind_text, both_read, first_missing, is_there, no_more, not_even, passed}
use Rattle.gob_state.proofs.Steps.{refused, second_missing}
use Rattle.gob_state.specs.Parts.{head_text, IsHead, IsPart, NoPart, part_rest}
use Rattle.gob_state.specs.Ranges.{AreMarks, NoRange, ranges_text}
use Rattle.gob_state.specs.Reads.{ReadsSpelling}
use Rattle.gob_text.specs.Words.{GoesOnAtAll, IsName, TakesText}
use Rattle.gob_segments.proofs.Put.{none_changed}
use Rattle.gob_segments.proofs.PutLines.{ranges_some}
use Rattle.gob_segments.specs.Applied.{AreParted, IsChange, MarksAfter, PartsAfter, change_rest, changed_entry}
use Rattle.gob_segments.specs.Applied.{changed_table}

-- ---- one partition

-- a head above the last name
abbrev pub IsNextHead : List ℕ → List ℕ × ℕ → Type 0
IsNextHead last p = IsHead p × (name_cmp last p.0 ≡ Less)

-- the marks end where the name's line says
abbrev pub EndsAt : Version → ℕ → Table Marks → List ℕ × ℕ → Marks → Type 0
EndsAt v n t p m = MarksAfter v n (marks_in t p.0) m × (m.next ≡ p.1)

abbrev pub change_pairing : (v : Version) (n : ℕ) (t : Table Marks) (last : List ℕ)
    → Pairing head_text (IsNextHead last) GoesOnAtAll (λ p m. ranges_text v (changed_marks (marks_in t p.0) m))
    (λ p m. EndsAt v n t p m) (change_rest v t) (IsChange v n t last) NoRange
change_pairing v n t last = record {
  to = λ p m. (p.0, m);
  first = λ e. (e.0, e.1.next);
  second = λ e. e.1;
  whole = λ e. refl;
  spells = λ p m head ends. ap (λ k. head_text (p.0, k) ++ ranges_text v (changed_marks (marks_in t p.0) m)) ends.1;
  fits = λ p m head ends. (head.0.0, ends.0, head.1);
  parts = λ e f. (((f.0, f.1.are.small), f.2), (f.1, refl));
  goes = λ p m after head ends g. tt;
}

pub no_marks_are : (v : Version) (n : ℕ) → AreMarks v n no_marks
no_marks_are v n = record { tiled = tiled_none; small = omega arith; indexed = λ d h. none_in d h }

-- the marks of a partition that is known or not
pub marks_are : (v : Version) (n : ℕ) (t : Table Marks) (part : List ℕ) → AreParted v n t
    → AreMarks v n (marks_in t part)
marks_are v n t part parts = cases (at_name t part) refl
  where
    cases : (o : Option Marks) → at_name t part ≡ o → AreMarks v n (unwrap_or o no_marks)
    cases None e = no_marks_are v n
    cases (Some m) e = (parts part m e).1

-- ---- tables by their names

-- the partition has changed
abbrev has_changed : Table Marks → List ℕ × Marks → Bool
has_changed t e = has_ranges (changed_entry t e)

abbrev entry_text : Version → Table Marks → List ℕ × Marks → List ℕ
entry_text v t e = part_text v (changed_entry t e)

-- the text of what has changed goes over the partitions that have
texts_are : (v : Version) (t es : Table Marks)
    → parts_text v (changed_table t es) ≡ flat_map (entry_text v t) (filter (has_changed t) es)
texts_are v t [] = refl
texts_are v t (e ∷ es) = elim (has_changed t e) as
    (λ b. flat_map (part_text v) (cond b (changed_entry t e ∷ changed_table t es) (changed_table t es))
    ≡ flat_map (entry_text v t) (cond b (e ∷ filter (has_changed t) es) (filter (has_changed t) es))) [
      | true ↦ ap (λ x. entry_text v t e ++ x) (texts_are v t es)
      | false ↦ texts_are v t es
    ]

none_named : {X : Type 0} (es : Table X) (low q : List ℕ) → IsInByteOrder (low ∷ names_of es) → name_cmp q low ≡ Less
    → IsInByteOrder (q ∷ names_of es)
none_named [] low q order less = tt
none_named (e ∷ es) low q order less = (less_then q low e.0 less order.0, order.1)

filter_rises : {X : Type 0} (p : List ℕ × X → Bool) (es : Table X) → IsInByteOrder (names_of es)
    → IsInByteOrder (names_of (filter p es))
filter_rises p [] order = tt
filter_rises {X} p (e ∷ es) order = elim (p e) as (λ b. IsInByteOrder
    (names_of (cond b (e ∷ filter p es) (filter p es)))) [
      | true ↦ behind e es order
      | false ↦ filter_rises p es (rising_tail e.0 (names_of es) order)
    ]
  where
    low : (d : List ℕ × X) (ds : Table X) → IsInByteOrder (d.0 ∷ names_of ds)
        → IsInByteOrder (d.0 ∷ names_of (filter p ds))
    low d [] o = tt
    low d (f ∷ fs) o = elim (p f) as (λ b. IsInByteOrder (d.0 ∷ names_of (cond b (f ∷ filter p fs) (filter p fs)))) [
      | true ↦ (o.0, low f fs o.1)
      | false ↦ low d fs (none_named fs f.0 d.0 o.1 o.0)
    ]

    behind : (d : List ℕ × X) (ds : Table X) → IsInByteOrder (names_of (d ∷ ds))
        → IsInByteOrder (names_of (d ∷ filter p ds))
    behind d ds o = low d ds o

-- what a filter leaves of a table, by name
at_filter : {X : Type 0} (p : List ℕ × X → Bool) (es : Table X) (q : List ℕ) → IsInByteOrder (names_of es)
    → at_name (filter p es) q ≡ option_and_then (λ x. cond (p (q, x)) (Some x) None) (at_name es q)
at_filter {X} p es q order = cases (at_name (filter p es) q) refl (at_name es q) refl
  where
    cases : (o : Option X) → at_name (filter p es) q ≡ o → (r : Option X) → at_name es q ≡ r
        → o ≡ option_and_then (λ x. cond (p (q, x)) (Some x) None) r
    cases None a None b = refl
    cases None a (Some x) b = ap (λ c. cond c (Some x) None) (sym (⊎_elim
        (λ yes. absurd (
        let there = at_from_member (filter p es) q x (filter_rises p es order)
        (filter_in p es (q, x) (member_from_at es q x b) yes) in
        let never : None ≡ Some x = sym a ∙ there in cc))
        (λ out. out) (cases_Bool (p (q, x)))))
    cases (Some x) a r b =
        let h = in_filter p es (q, x) (member_from_at (filter p es) q x a) in
        let there : Some x ≡ r = sym (at_from_member es q x order h.0) ∙ b in
        subst (λ s. Some x ≡ option_and_then (λ y. cond (p (q, y)) (Some y) None) s) there
        (sym (ap (λ c. cond c (Some x) None) h.1))

-- ---- partitions that were put over a table

-- a partition that has changed, over the table before
abbrev IsPut : Version → ℕ → Table Marks → List ℕ × Marks → Type 0
IsPut v n t e = IsName e.0 × MarksAfter v n (marks_in t e.0) e.1

-- the changed partitions of some whole change
abbrev Whole : Version → ℕ → Table Marks → Table Marks → Type 0
Whole v n t es = (u : Table Marks) × PartsAfter v n t u × (es ≡ filter (has_changed t) u)

-- the last name decides which may come next
pub record LastIs (last : List ℕ) (es : Table Marks) : Type 0 where
  pub next : (q : List ℕ) → name_cmp last q ≡ Less → IsInByteOrder (names_of es ++ q ∷ [])
  pub back : (q : List ℕ) → 0 < length q → IsInByteOrder (names_of es ++ q ∷ []) → name_cmp last q ≡ Less

pub record SomeChanges (v : Version) (n : ℕ) (t : Table Marks) (old rest : List ℕ) (u : Table Marks)
    (last : List ℕ) : Type 0 where
  pub changed : Table Marks
  pub along : Along (entry_text v t) (λ es. Unit {0}) (Whole v n t) NoPart old rest changed
  pub each : (e : List ℕ × Marks) → Contains changed e → IsPut v n t e
  pub names : IsInByteOrder (names_of changed)
  pub last_is : LastIs last changed
  pub before : AreParted v n t
  pub parts : AreParted v n u
  pub order : IsInByteOrder (names_of u)
  pub at : (q : List ℕ) → at_name u q ≡ option_or (at_name changed q) (at_name t q)

pub no_changes : (v : Version) (n : ℕ) (t : Table Marks) (old last : List ℕ) → AreParted v n t
    → IsInByteOrder (names_of t) → last ≡ [] → SomeChanges v n t old old t last
no_changes v n t old last parts order empty = record {
  changed = [];
  along = at_start old tt;
  each = λ e h. none_in e h;
  names = tt;
  last_is = record {
    next = λ q less. tt;
    back = λ q some order. subst (λ x. name_cmp x q ≡ Less) (sym empty) (above q some);
  };
  before = parts;
  parts = parts;
  order = order;
  at = λ q. refl;
}
  where
    above : (q : List ℕ) → 0 < length q → name_cmp [] q ≡ Less
    above [] some = absurd (omega (arith, some))
    above (b ∷ bs) some = refl

-- a name behind all of these isn't among them
not_among : (es : Table Marks) (q : List ℕ) → IsInByteOrder (names_of es ++ q ∷ []) → at_name es q ≡ None
not_among [] q order = refl
not_among (e ∷ es) q order =
    ap (λ b. cond b (Some e.1) (at_name es q)) (two_names q e.0
    (λ same. less_apart e.0 q (first_below e.0 (names_of es) q order) (sym same)))
    ∙ not_among es q (rising_tail e.0 (names_of es ++ q ∷ []) order)
  where
    first_below : (x : List ℕ) (xs : List (List ℕ)) (q : List ℕ) → IsInByteOrder (x ∷ (xs ++ q ∷ []))
        → name_cmp x q ≡ Less
    first_below x xs q o = name_above x (xs ++ q ∷ []) q o (Contains-append_right xs (q ∷ []) q (first_in q [] q refl))

at_push : (es : Table Marks) (e : List ℕ × Marks) (q : List ℕ) → at_name es e.0 ≡ None
    → at_name (es ++ e ∷ []) q ≡ cond (bytes_eq q e.0) (Some e.1) (at_name es q)
at_push [] e q none = refl
at_push (d ∷ es) e q none = cases (bytes_eq e.0 d.0) refl none (at_push es e q)
  where
    cases : (b : Bool) → bytes_eq e.0 d.0 ≡ b → cond b (Some d.1) (at_name es e.0) ≡ None
        → (at_name es e.0 ≡ None → at_name (es ++ e ∷ []) q ≡ cond (bytes_eq q e.0) (Some e.1) (at_name es q))
        → cond (bytes_eq q d.0) (Some d.1) (at_name (es ++ e ∷ []) q)
        ≡ cond (bytes_eq q e.0) (Some e.1) (cond (bytes_eq q d.0) (Some d.1) (at_name es q))
    cases true is none later = absurd (let never : Some d.1 ≡ None = none in cc)
    cases false is none later = swap (bytes_eq q d.0) refl (bytes_eq q e.0) refl (later none)
      where
        swap : (a : Bool) → bytes_eq q d.0 ≡ a → (c : Bool) → bytes_eq q e.0 ≡ c
            → at_name (es ++ e ∷ []) q ≡ cond c (Some e.1) (at_name es q)
            → cond a (Some d.1) (at_name (es ++ e ∷ []) q) ≡ cond c (Some e.1) (cond a (Some d.1) (at_name es q))
        swap true x true y h = absurd (true≢false (
            sym x ∙ ap (λ z. bytes_eq z d.0) (same_name q e.0 y) ∙ is))
        swap true x false y h = refl
        swap false x c y h = h

-- the marks of a partition that wasn't put are as before
as_before : (v : Version) (n : ℕ) (t : Table Marks) (old rest : List ℕ) (u : Table Marks) (last : List ℕ)
    (some : SomeChanges v n t old rest u last) (q : List ℕ)
    → name_cmp last q ≡ Less → marks_in u q ≡ marks_in t q
as_before v n t old rest u last some q less =
    ap (λ o. unwrap_or o no_marks) (some.at q
    ∙ ap (λ o. option_or o (at_name t q)) (not_among some.changed q (some.last_is.next q less)))

-- a change over the table so far is one over the table before
over_first : (v : Version) (n : ℕ) (t : Table Marks) (old rest new : List ℕ) (u : Table Marks) (last : List ℕ)
    (some : SomeChanges v n t old rest u last) (mid : List ℕ) (o : Option (List ℕ × Marks))
    → ReadsSpelling (change_rest v u) (IsChange v n u last) NoRange mid new o
    → ReadsSpelling (change_rest v t) (IsChange v n t last) NoRange mid new o
over_first v n t old rest new u last some mid o r = record { spelled = told o r.spelled; read = back }
  where
    same : (q : List ℕ) → name_cmp last q ≡ Less → marks_in u q ≡ marks_in t q
    same q less = as_before v n t old rest u last some q less

    told : (o : Option (List ℕ × Marks)) → IfSome o (λ e. IsChange v n u last e × (mid ≡ change_rest v u e ++ new))
        → IfSome o (λ e. IsChange v n t last e × (mid ≡ change_rest v t e ++ new))
    told None h = tt
    told (Some e) h = (
      (h.0.0, subst (λ b. MarksAfter v n b e.1) (same e.0 h.0.2) h.0.1, h.0.2),
      h.1 ∙ ap (λ b. part_rest v (e.0, changed_marks b e.1) ++ new) (same e.0 h.0.2),
    )

    back : (e : List ℕ × Marks) (after : List ℕ) → IsChange v n t last e → NoRange after
        → mid ≡ change_rest v t e ++ after → (o ≡ Some e) × (new ≡ after)
    back e after f g h = r.read e after (f.0, subst (λ b. MarksAfter v n b e.1) (sym (same e.0 f.2)) f.1, f.2) g
        (h ∙ ap (λ b. part_rest v (e.0, changed_marks b e.1) ++ after) (sym (same e.0 f.2)))

-- ---- one partition more

no_range_before : (v : Version) (t zs : Table Marks) (after : List ℕ) → NoPart after
    → NoRange (flat_map (entry_text v t) zs ++ after)
no_range_before v t [] after g = g.no_range
no_range_before v t (z ∷ zs) after g = record {
  no_done = λ x e. let n : ◌≡◌ {A = ℕ} 112 100 = cc in absurd (omega (arith, n));
  no_open = λ x e. let n : ◌≡◌ {A = ℕ} 112 111 = cc in absurd (omega (arith, n));
}

-- a changed partition of the table after a whole change
after_change : (v : Version) (n : ℕ) (t u : Table Marks) (e : List ℕ × Marks) → PartsAfter v n t u
    → Contains (filter (has_changed t) u) e → IsPut v n t e
after_change v n t u e a h =
    let r = in_filter (has_changed t) u e h in
    let at : at_name u e.0 ≡ Some e.1 = at_from_member u e.0 e.1 a.names r.0 in
    let part = a.parts e.0 e.1 at in (
      part.0,
      record {
        are = part.1;
        follow = subst (MarksFollow (marks_in t e.0)) (ap (λ o. unwrap_or o no_marks) at) (a.follow e.0);
        some = r.1;
      },
    )

one_more_change : (v : Version) (n : ℕ) (t : Table Marks) (old rest mid : List ℕ) (u : Table Marks) (last : List ℕ)
    (some : SomeChanges v n t old rest u last)
    → rest ≡ codes "partition" ++ mid
    → OneMore (entry_text v t) (IsChange v n t last) NoRange (Whole v n t) NoPart rest some.changed
one_more_change v n t old rest mid u last some there = record {
  more = λ after w g e. g.no_part mid (sym e ∙ there);
  fits = λ z zs w.
      let put = after_change v n t w.0 z w.1 (subst (λ es. Contains es z) w.2
      (Contains-append_right some.changed (z ∷ zs) z (first_in z zs z refl))) in (
        put.0,
        put.1,
        some.last_is.back z.0 put.0.0 (order_front some.changed z zs
            (subst (λ es. IsInByteOrder (names_of es)) (sym w.2) (filter_rises (has_changed t) w.0 w.1.names))),
      );
  goes = λ z zs after w g. no_range_before v t zs after g;
}

whole_change : (v : Version) (n : ℕ) (t : Table Marks) (last rest mid new : List ℕ) (b : Bool)
    (o : Option (List ℕ × Marks))
    → TakesText (codes "partition") rest mid b → b ≡ true → ReadsSpelling (change_rest v t)
    (IsChange v n t last) NoRange mid
    new o
    → ReadsSpelling (entry_text v t) (IsChange v n t last) NoRange rest new o
whole_change v n t last rest mid new b o text taken r =
    behind_text (codes "partition") rest mid new b o (λ e. refl) text taken r

nothing_below : (m : Marks) → Tiled m → m.next ≤ 0 → (m.finished ≡ []) × (m.owed ≡ [])
nothing_below m tiled low = (
  done m.finished (λ d h. done_below m tiled d.span (map_in (λ (e : Done). e.span) m.finished d h)),
  owed m.owed (λ s h. ((order_members 0 m.owed s tiled.owed h).1, owed_below m tiled s h)),
)
  where
    done : (ds : List Done) → ((d : Done) → Contains ds d → (d.span.lo < d.span.hi) × (d.span.hi ≤ m.next)) → ds ≡ []
    done [] each = refl
    done (d ∷ ds) each = absurd (let r = each d (first_in d ds d refl) in omega (arith, r.0, r.1, low))

    owed : (ss : List Span) → ((s : Span) → Contains ss s → (s.lo < s.hi) × (s.hi ≤ m.next)) → ss ≡ []
    owed [] each = refl
    owed (s ∷ ss) each = absurd (let r = each s (first_in s ss s refl) in omega (arith, r.0, r.1, low))

-- marks that have changed have begun
begun : (v : Version) (n : ℕ) (b m : Marks) → MarksAfter v n b m → 0 < m.next
begun v n b m a = ⊎_elim (λ l. l)
    (λ low.
    let none = nothing_below m a.are.tiled low in
    absurd (ranges_some (changed_marks b m) a.some (ap (filter (is_new b)) none.0)
    (ap (filter (is_new_owed b)) none.1)))
    (cases_lt 0 m.next)

order_then : (ns : List (List ℕ)) (x q : List ℕ) → IsInByteOrder (ns ++ x ∷ []) → name_cmp x q ≡ Less
    → IsInByteOrder ((ns ++ x ∷ []) ++ q ∷ [])
order_then [] x q order less = (less, tt)
order_then (n ∷ []) x q order less = (order.0, (less, tt))
order_then (n ∷ o ∷ ns) x q order less = (order.0, order_then (o ∷ ns) x q order.1 less)

order_last : (ns : List (List ℕ)) (x q : List ℕ) → IsInByteOrder ((ns ++ x ∷ []) ++ q ∷ []) → name_cmp x q ≡ Less
order_last [] x q order = order.0
order_last (n ∷ []) x q order = order.1.0
order_last (n ∷ o ∷ ns) x q order = order_last (o ∷ ns) x q order.1

pub next_change : (v : Version) (n : ℕ) (t : Table Marks) (old rest mid new : List ℕ) (u after : Table Marks)
    (last name : List ℕ) (e : List ℕ × Marks) (b : Bool) → SomeChanges v n t old rest u last
    → TakesText (codes "partition") rest mid b → b ≡ true
    → ReadsSpelling (change_rest v u) (IsChange v n u last) NoRange mid new (Some e) → after ≡ with_name u e.0 e.1
    → name ≡ e.0
    → SomeChanges v n t old new after name
next_change v n t old rest mid new u after last name e b some text taken read is level =
    subst (λ x. SomeChanges v n t old new x name) (sym is)
    (subst (SomeChanges v n t old new (with_name u e.0 e.1)) (sym level) (record {
      changed = some.changed ++ e ∷ [];
      along = one_more old rest new some.changed e some.along
          (one_more_change v n t old rest mid u last some (text.spelled taken))
          (whole_change v n t last rest mid new b (Some e) text taken r) tt;
      each = λ d h. ⊎_elim
          (λ k. some.each d k)
          (λ k. ⊎_elim (λ same. subst (IsPut v n t) same put) (λ l. none_in d l) (in_cases e [] d k))
          (Contains-append_cases some.changed (e ∷ []) d h);
      names = subst IsInByteOrder (sym (names_push some.changed e)) order;
      last_is = record {
        next = λ q less. subst (λ ns. IsInByteOrder (ns ++ q ∷ [])) (sym (names_push some.changed e))
            (order_then (names_of some.changed) e.0 q order less);
        back = λ q long o. order_last (names_of some.changed) e.0 q
            (subst (λ ns. IsInByteOrder (ns ++ q ∷ [])) (names_push some.changed e) o);
      };
      before = some.before;
      parts = λ part m at. parted part m (sym (at-with_name u e.0 e.1 part) ∙ at);
      order = rising-with_name u e.0 e.1 some.order;
      at = λ q. at-with_name u e.0 e.1 q ∙ named q (bytes_eq q e.0)
          ∙ ap (λ o. option_or o (at_name t q)) (sym (at_push some.changed e q (not_among some.changed e.0 order)));
    }))
  where
    r : ReadsSpelling (change_rest v t) (IsChange v n t last) NoRange mid new (Some e)
    r = over_first v n t old rest new u last some mid (Some e) read

    put : IsPut v n t e
    put = (r.spelled.0.0, r.spelled.0.1)

    order : IsInByteOrder (names_of some.changed ++ e.0 ∷ [])
    order = some.last_is.next e.0 r.spelled.0.2

    parted : (part : List ℕ) (m : Marks) → cond (bytes_eq part e.0) (Some e.1) (at_name u part) ≡ Some m
        → IsPart v n (part, m)
    parted part m = elim (bytes_eq part e.0) as
        (λ c. bytes_eq part e.0 ≡ c → cond c (Some e.1) (at_name u part) ≡ Some m → IsPart v n (part, m)) [
          | true ↦ λ c h.
              let same : e.1 ≡ m = same_Some e.1 m h in
              subst (λ x. IsPart v n (x, m)) (sym (same_name part e.0 c))
              (subst (λ x. IsPart v n (e.0, x)) same (put.0, put.1.are, begun v n (marks_in t e.0) e.1 put.1))
          | false ↦ λ c h. some.parts part m h
        ] refl

    named : (q : List ℕ) (c : Bool)
        → cond c (Some e.1) (at_name u q) ≡ option_or (cond c (Some e.1) (at_name some.changed q)) (at_name t q)
    named q true = refl
    named q false = some.at q

-- ---- what was read in the end

abbrev Spelled : Version → Table Marks → Table Marks → List ℕ
Spelled v t u = parts_text v (changed_table t u)

none_read : (v : Version) (n : ℕ) (t : Table Marks) (old new : List ℕ)
    → ReadsSpelling (λ es. flat_map (entry_text v t) es) (Whole v n t) NoPart old new None
    → ReadsSpelling (Spelled v t) (PartsAfter v n t) NoPart old new None
none_read v n t old new r = record {
  spelled = tt;
  read = λ u after f g e. absurd (no_more (filter (has_changed t) u)
      (r.read (filter (has_changed t) u) after (u, f, refl) g (e ∙ ap (λ x. x ++ after) (texts_are v t u))).0);
}

pub change_missing : (v : Version) (n : ℕ) (t : Table Marks) (old rest mid any new : List ℕ) (u : Table Marks)
    (last : List ℕ) (b : Bool) → SomeChanges v n t old rest u last → TakesText (codes "partition") rest mid b → b ≡ true
    → ReadsSpelling (change_rest v u) (IsChange v n u last) NoRange mid any None
    → ReadsSpelling (Spelled v t) (PartsAfter v n t) NoPart old new None
change_missing v n t old rest mid any new u last b some text taken r = none_read v n t old new
    (one_missing old rest any new some.changed None None some.along
    (one_more_change v n t old rest mid u last some (text.spelled taken))
    (whole_change v n t last rest mid any b None text taken (over_first v n t old rest any u last some mid None r))
    refl refl)

-- ---- the table at the end

option_none : (o r : Option Marks) → o ≡ None → option_or o r ≡ r
option_none o r e = ap (λ x. option_or x r) e

option_some : (o r : Option Marks) (m : Marks) → o ≡ Some m → option_or o r ≡ Some m
option_some o r m e = ap (λ x. option_or x r) e

not_changed : (t : Table Marks) (q : List ℕ) (m : Marks) → at_name t q ≡ Some m → has_changed t (q, m) ≡ false
not_changed t q m at =
    ap (λ o. has_ranges (q, changed_marks (unwrap_or o no_marks) m)) at ∙ ap (λ c. has_ranges (q, c)) (none_changed m)

table_after : (v : Version) (n : ℕ) (t : Table Marks) (old rest : List ℕ) (u : Table Marks) (last : List ℕ)
    → SomeChanges v n t old rest u last → IsInByteOrder (names_of u) → PartsAfter v n t u
table_after v n t old rest u last some order = record {
  names = order;
  parts = some.parts;
  stay = λ part m at. stay part m at (at_name some.changed part) refl;
  follow = λ part. follow part (at_name some.changed part) refl;
}
  where
    stay : (part : List ℕ) (m : Marks) → at_name t part ≡ Some m → (o : Option Marks) → at_name some.changed part ≡ o
        → (k : Marks) × (at_name u part ≡ Some k)
    stay part m at None e = (m, some.at part ∙ option_none (at_name some.changed part) (at_name t part) e ∙ at)
    stay part m at (Some k) e = (k, some.at part ∙ option_some (at_name some.changed part) (at_name t part) k e)

    follow : (part : List ℕ) (o : Option Marks) → at_name some.changed part ≡ o
        → MarksFollow (marks_in t part) (marks_in u part)
    follow part None e = subst (MarksFollow (marks_in t part))
        (sym (ap (λ o. unwrap_or o no_marks) (some.at part ∙ option_none (at_name some.changed part) (at_name t part)
        e)))
        (follow_itself (marks_in t part))
    follow part (Some k) e = subst (MarksFollow (marks_in t part))
        (sym (ap (λ o. unwrap_or o no_marks) (some.at part ∙ option_some (at_name some.changed part) (at_name t part) k
        e)))
        (some.each (part, k) (member_from_at some.changed part k e)).1.follow

only_these : (v : Version) (n : ℕ) (t : Table Marks) (old rest : List ℕ) (u : Table Marks) (last : List ℕ)
    → IsInByteOrder (names_of u) → (some : SomeChanges v n t old rest u last) → some.changed ≡ filter (has_changed t) u
only_these v n t old rest u last order some =
    same_tables some.changed (filter (has_changed t) u) some.names (filter_rises (has_changed t) u order)
    (λ q. cases q (at_name some.changed q) refl (at_name t q) refl ∙ sym (at_filter (has_changed t) u q order))
  where
    cases : (q : List ℕ) (o : Option Marks) → at_name some.changed q ≡ o → (r : Option Marks) → at_name t q ≡ r
        → at_name some.changed q ≡ option_and_then (λ x. cond (has_changed t (q, x)) (Some x) None) (at_name u q)
    cases q (Some m) e r f =
        e ∙ sym (ap (option_and_then (λ x. cond (has_changed t (q, x)) (Some x) None))
        (some.at q ∙ option_some (at_name some.changed q) (at_name t q) m e)
        ∙ ap (λ c. cond c (Some m) None) (some.each (q, m) (member_from_at some.changed q m e)).1.some)
    cases q None e None f =
        e ∙ sym (ap (option_and_then (λ x. cond (has_changed t (q, x)) (Some x) None))
        (some.at q ∙ option_none (at_name some.changed q) (at_name t q) e ∙ f))
    cases q None e (Some m) f =
        e ∙ sym (ap (option_and_then (λ x. cond (has_changed t (q, x)) (Some x) None))
        (some.at q ∙ option_none (at_name some.changed q) (at_name t q) e ∙ f)
        ∙ ap (λ c. cond c (Some m) None) (not_changed t q m f))

-- a partition that hasn't changed was there
was_there : (v : Version) (n : ℕ) (t k : Table Marks) (q : List ℕ) (m : Marks) → AreParted v n t → PartsAfter v n t k
    → at_name k q ≡ Some m → has_changed t (q, m) ≡ false → at_name t q ≡ Some m
was_there v n t k q m parts a at none = cases (at_name t q) refl
  where
    same : marks_in t q ≡ m
    same = unchanged (marks_in t q) m (marks_are v n t q parts).tiled (a.parts q m at).1.tiled
        (subst (MarksFollow (marks_in t q)) (ap (λ o. unwrap_or o no_marks) at) (a.follow q))
        (not_positive (length (changed_marks (marks_in t q) m).finished + length (changed_marks (marks_in t q) m).owed)
        none)

    cases : (o : Option Marks) → at_name t q ≡ o → at_name t q ≡ Some m
    cases None e =
        let empty : no_marks ≡ m = sym (ap (λ o. unwrap_or o no_marks) e) ∙ same in
        let some = (a.parts q m at).2 in
        let zero_next : m.next ≡ 0 = sym (ap (λ (x : Marks). x.next) empty) in absurd (omega (arith, some, zero_next))
    cases (Some k) e = e ∙ ap Some (sym (ap (λ o. unwrap_or o no_marks) e) ∙ same)

one_table : (v : Version) (n : ℕ) (t : Table Marks) (old rest : List ℕ) (u k : Table Marks) (last : List ℕ)
    (some : SomeChanges v n t old rest u last) → IsInByteOrder (names_of u) → PartsAfter v n t k
    → some.changed ≡ filter (has_changed t) k → u ≡ k
one_table v n t old rest u k last some order a is = same_tables u k order a.names
    (λ q. some.at q ∙ cases q (at_name k q) refl)
  where
    left : (q : List ℕ) (o : Option Marks) → at_name k q ≡ o
        → at_name some.changed q ≡ option_and_then (λ x. cond (has_changed t (q, x)) (Some x) None) o
    left q o e = ap (λ es. at_name es q) is ∙ at_filter (has_changed t) k q a.names
        ∙ ap (option_and_then (λ x. cond (has_changed t (q, x)) (Some x) None)) e

    gone : (q : List ℕ) → at_name k q ≡ None → (o : Option Marks) → at_name t q ≡ o → at_name t q ≡ None
    gone q e None f = f
    gone q e (Some m) f = absurd (let r = a.stay q m f in let never : None ≡ Some r.0 = sym e ∙ r.1 in cc)

    found : (q : List ℕ) (m : Marks) → at_name k q ≡ Some m → (c : Bool) → has_changed t (q, m) ≡ c
        → option_or (cond c (Some m) None) (at_name t q) ≡ Some m
    found q m e true c = refl
    found q m e false c = was_there v n t k q m some.before a e c

    cases : (q : List ℕ) (o : Option Marks) → at_name k q ≡ o
        → option_or (at_name some.changed q) (at_name t q) ≡ at_name k q
    cases q None e = ap (λ o. option_or o (at_name t q)) (left q None e) ∙ gone q e (at_name t q) refl ∙ sym e
    cases q (Some m) e = ap (λ o. option_or o (at_name t q)) (left q (Some m) e)
        ∙ found q m e (has_changed t (q, m)) refl ∙ sym e

pub changes_read : (v : Version) (n : ℕ) (t : Table Marks) (old rest new : List ℕ) (u : Table Marks) (last : List ℕ)
    (b : Bool) → SomeChanges v n t old rest u last → TakesText (codes "partition") rest new b → b ≡ false
    → ReadsSpelling (Spelled v t) (PartsAfter v n t) NoPart old new (Some u)
changes_read v n t old rest new u last b some text gone =
    subst (λ x. ReadsSpelling (Spelled v t) (PartsAfter v n t) NoPart old x (Some u)) (sym (text.unchanged gone))
    (record {
      spelled = (
        after_all,
        all.spelled.1 ∙ ap (λ x. x ++ rest) (ap (flat_map (entry_text v t)) these ∙ sym (texts_are v t u)),
      );
      read = λ k after f g e.
          let one = all.read (filter (has_changed t) k) after (k, f, refl) g
          (e ∙ ap (λ x. x ++ after) (texts_are v t k)) in (
            ap Some (one_table v n t old rest u k last some some.order f
                (same_Some some.changed (filter (has_changed t) k) one.0)),
            one.1,
          );
    })
  where
    after_all : PartsAfter v n t u
    after_all = table_after v n t old rest u last some some.order

    these : some.changed ≡ filter (has_changed t) u
    these = only_these v n t old rest u last some.order some

    all : ReadsSpelling (λ es. flat_map (entry_text v t) es) (Whole v n t) NoPart old rest (Some some.changed)
    all = all_read old rest some.changed some.along (u, after_all, these)
        (λ z zs after w g e. true≢false (sym (text.read (change_rest v t z ++ (flat_map (entry_text v t) zs ++ after))
        (e ∙ append_assoc (codes "partition") (change_rest v t z) (flat_map (entry_text v t) zs ++ after))).0 ∙ gone))

-- ---- a partition as it is read

pub head_above : (last name : List ℕ) (next : ℕ) (old mid : List ℕ) (o : Option (List ℕ × ℕ))
    → ReadsSpelling head_text IsHead GoesOnAtAll old mid o → o ≡ Some (name, next) → name_cmp last name ≡ Less
    → ReadsSpelling head_text (IsNextHead last) GoesOnAtAll old mid (Some (name, next))
head_above last name next old mid o r is less =
    let there = is_there old mid o (name, next) r is in
    passed old mid (name, next) there (λ p h. h.0) (there.spelled.0, less)

pub head_not_above : (v : Version) (n : ℕ) (t : Table Marks) (last name : List ℕ) (next : ℕ) (old mid new : List ℕ)
    (o : Option (List ℕ × ℕ)) → ReadsSpelling head_text IsHead GoesOnAtAll old mid o → o ≡ Some (name, next)
    → (name_cmp last name ≡ Less → ⊥) → ReadsSpelling (change_rest v t) (IsChange v n t last) NoRange old new None
head_not_above v n t last name next old mid new o r is out =
    first_missing (change_pairing v n t last) old mid new None None
    (refused old mid mid (name, next) None (is_there old mid o (name, next) r is) (λ p h. h.0) (λ h. out h.1) refl) refl
    refl

-- the ranges read over the marks of a partition
pub over_marks : (v : Version) (n : ℕ) (t : Table Marks) (name named : List ℕ) (b : Marks) (mid new : List ℕ)
    (o : Option Marks) → b ≡ marks_in t named → named ≡ name
    → ReadsSpelling (λ m. ranges_text v (changed_marks b m)) (MarksAfter v n b) NoRange mid new o
    → ReadsSpelling (λ m. ranges_text v (changed_marks (marks_in t name) m))
    (MarksAfter v n (marks_in t name)) NoRange mid new
    o
over_marks v n t name named b mid new o is level r =
    subst (λ x. ReadsSpelling (λ m. ranges_text v (changed_marks x m)) (MarksAfter v n x) NoRange mid new o)
    (is ∙ ap (marks_in t) level) r

pub change_none : (v : Version) (n : ℕ) (t : Table Marks) (last name : List ℕ) (next : ℕ) (old mid new : List ℕ)
    (o : Option Marks)
    → ReadsSpelling head_text (IsNextHead last) GoesOnAtAll old mid (Some (name, next))
    → ReadsSpelling (λ m. ranges_text v (changed_marks (marks_in t name) m))
    (MarksAfter v n (marks_in t name)) NoRange mid new
    o
    → o ≡ None → ReadsSpelling (change_rest v t) (IsChange v n t last) NoRange old new None
change_none v n t last name next old mid new o head r none =
    second_missing (change_pairing v n t last) old mid new (name, next) None None head
    (not_even mid new new o None r (λ m h. h.0) none refl) refl refl

pub change_other : (v : Version) (n : ℕ) (t : Table Marks) (last name : List ℕ) (next : ℕ) (old mid new : List ℕ)
    (o : Option Marks) (m : Marks)
    → ReadsSpelling head_text (IsNextHead last) GoesOnAtAll old mid (Some (name, next))
    → ReadsSpelling (λ m. ranges_text v (changed_marks (marks_in t name) m))
    (MarksAfter v n (marks_in t name)) NoRange mid new
    o
    → o ≡ Some m → (m.next ≡ next → ⊥) → ReadsSpelling (change_rest v t) (IsChange v n t last) NoRange old new None
change_other v n t last name next old mid new o m head r some apart =
    second_missing (change_pairing v n t last) old mid new (name, next) None None head
    (refused mid new new m None (is_there mid new o m r some) (λ k h. h.0) (λ h. apart h.1) refl) refl refl

pub change_there : (v : Version) (n : ℕ) (t : Table Marks) (last name : List ℕ) (next : ℕ) (old mid new : List ℕ)
    (o : Option Marks) (m : Marks)
    → ReadsSpelling head_text (IsNextHead last) GoesOnAtAll old mid (Some (name, next))
    → ReadsSpelling (λ m. ranges_text v (changed_marks (marks_in t name) m))
    (MarksAfter v n (marks_in t name)) NoRange mid new
    o
    → o ≡ Some m → m.next ≡ next → ReadsSpelling (change_rest v t) (IsChange v n t last) NoRange old new
    (Some (name, m))
change_there v n t last name next old mid new o m head r some level =
    let there = is_there mid new o m r some in
    both_read (change_pairing v n t last) old mid new (name, next) m (Some m) (Some (name, m)) head
    (passed mid new m there (λ k h. h.0) (there.spelled.0, level)) refl refl

pub named_last : (v : Version) (n : ℕ) (u : Table Marks) (given last : List ℕ) (mid new : List ℕ)
    (o : Option (List ℕ × Marks)) → given ≡ last → ReadsSpelling (change_rest v u)
    (IsChange v n u given) NoRange mid new o
    → ReadsSpelling (change_rest v u) (IsChange v n u last) NoRange mid new o
named_last v n u given last mid new o is r =
    subst (λ x. ReadsSpelling (change_rest v u) (IsChange v n u x) NoRange mid new o) is r
