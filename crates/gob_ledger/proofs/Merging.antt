-- A change put over the ranges before it gives the ranges after it, and no others.
use Rattle.std.proofs.Common.{◌≡◌, ◌⊎◌, inl, inr, ⊎_elim, ℕ, ◌+◌, ◌<◌, ◌≤◌, Bool, true, false, cond, not, nat_eq, List}
use Rattle.std.proofs.Common.{[], ◌∷◌, ◌++◌, map, length, refl, sym, ap, subst, ◌∙◌, append-nil, arith}
use Rattle.std.specs.List.{Contains, filter, list_any}
use Rattle.std.proofs.lemmas.Bool.{cases_Bool, cases_lt, cond-true, and_parts, and_from, or_cases, or_left, or_right}
use Rattle.std.proofs.lemmas.Bool.{eq-eqb, eqb-true, lt-ltb, le-ltb, not-true, not_from_false, true≢false}
use Rattle.std.proofs.lemmas.List.Elements.{Contains-append_left, Contains-append_right, Contains-append_cases}
use Rattle.gob_ledger.specs.Marks.{Marks, Done, Span, has, times_covered, done_spans, InOrder, Tiled}
use Rattle.gob_ledger.specs.Units.{same_span}
use Rattle.gob_ledger.specs.Next.{insert_done}
use Rattle.gob_ledger.specs.Delta.{MarksFollow, same_done, changed_marks}
use Rattle.gob_ledger.proofs.Members.{none_in, first_in, later_in, in_cases, in_filter, filter_in, in_map, map_in}
use Rattle.gob_ledger.proofs.Ranges.{times, inside, within, order_from, order_members, order_filter, order_insert}
use Rattle.gob_ledger.proofs.Ranges.{owed_below, owed_free, times_some, span_is, same_itself, spans}
use Rattle.gob_ledger.proofs.Tiling.{in_insert, insert_in}

-- ---- tests over lists

pub any_in : {X : Type 0} (p : X → Bool) (xs : List X) → list_any p xs ≡ true → (x : X) × Contains xs x × (p x ≡ true)
any_in p [] e = absurd (let never : false ≡ true = e in cc)
any_in p (x ∷ xs) e = ⊎_elim
    (λ h. (x, first_in x xs x refl, h))
    (λ h. let r = any_in p xs h in (r.0, later_in x xs r.0 r.1, r.2))
    (or_cases (p x) (list_any p xs) e)

pub in_any : {X : Type 0} (p : X → Bool) (xs : List X) (x : X) → Contains xs x → p x ≡ true → list_any p xs ≡ true
in_any p [] x h e = none_in x h
in_any p (y ∷ ys) x h e = ⊎_elim
    (λ s. or_left (p y) (list_any p ys) (ap p s ∙ e))
    (λ k. or_right (p y) (list_any p ys) (in_any p ys x k e))
    (in_cases y ys x h)

done_is : (d e : Done) → same_done d e ≡ true → d ≡ e
done_is d e h =
    let p = and_parts (same_span d.span e.span) (nat_eq d.pipeline e.pipeline) h in
    let span = span_is d.span e.span p.0 in
    let index = eqb-true d.pipeline e.pipeline p.1 in
    λ i. record { span = span i; pipeline = index i }

done_itself : (d : Done) → same_done d d ≡ true
done_itself d =
    and_from (same_span d.span d.span) (nat_eq d.pipeline d.pipeline) (same_itself d.span)
    (eq-eqb d.pipeline d.pipeline refl)

pub any_done : (d : Done) (ds : List Done) → list_any (same_done d) ds ≡ true → Contains ds d
any_done d ds e = let r = any_in (same_done d) ds e in subst (Contains ds) (sym (done_is d r.0 r.2)) r.1

pub done_any : (d : Done) (ds : List Done) → Contains ds d → list_any (same_done d) ds ≡ true
done_any d ds h = in_any (same_done d) ds d h (done_itself d)

pub any_span : (s : Span) (ss : List Span) → list_any (same_span s) ss ≡ true → Contains ss s
any_span s ss e = let r = any_in (same_span s) ss e in subst (Contains ss) (sym (span_is s r.0 r.2)) r.1

pub span_any : (s : Span) (ss : List Span) → Contains ss s → list_any (same_span s) ss ≡ true
span_any s ss h = in_any (same_span s) ss s h (same_itself s)

-- ---- lists in order with the same members are one

placed_members : {X : Type 0} (f : X → Span) (from : ℕ) (xs : List X) (x : X) → InOrder from (map f xs) → Contains xs x
    → (from ≤ (f x).lo) × ((f x).lo < (f x).hi)
placed_members f from xs x order h = order_members from (map f xs) (f x) order (map_in f xs x h)

-- a member behind the first isn't it
not_first : {X : Type 0} (f : X → Span) (y : X) (xs : List X) (z : X) → InOrder (f y).hi (map f xs)
    → (f y).lo < (f y).hi
    → Contains xs z → y ≡ z → ⊥
not_first f y xs z order some h e =
    let a : (f y).hi ≤ (f z).lo = (placed_members f (f y).hi xs z order h).0 in
    let same : (f y).lo ≡ (f z).lo = ap (λ w. (f w).lo) e in omega (arith, a, some, same)

pub same_sorted : {X : Type 0} (f : X → Span) (from low : ℕ) (xs ys : List X) → InOrder from (map f xs)
    → InOrder low (map f ys)
    → ((x : X) → Contains xs x → Contains ys x) → ((y : X) → Contains ys y → Contains xs y) → xs ≡ ys
same_sorted f from low [] [] ox oy there back = refl
same_sorted f from low [] (y ∷ ys) ox oy there back = none_in y (back y (first_in y ys y refl))
same_sorted f from low (x ∷ xs) [] ox oy there back = none_in x (there x (first_in x xs x refl))
same_sorted f from low (x ∷ xs) (y ∷ ys) ox oy there back =
    let level : x ≡ y =
    heads (in_cases y ys x (there x (first_in x xs x refl))) (in_cases x xs y (back y (first_in y ys y refl))) in
    let rest = same_sorted f (f x).hi (f y).hi xs ys ox.2 oy.2
    (λ z h. ⊎_elim
    (λ e. absurd (not_first f x xs z ox.2 ox.1 h (level ∙ e)))
    (λ k. k) (in_cases y ys z (there z (later_in x xs z h))))
    (λ z h. ⊎_elim
    (λ e. absurd (not_first f y ys z oy.2 oy.1 h (sym level ∙ e)))
    (λ k. k) (in_cases x xs z (back z (later_in y ys z h)))) in
    λ i. level i ∷ rest i
  where
    heads : (y ≡ x) ⊎ Contains ys x → (x ≡ y) ⊎ Contains xs y → x ≡ y
    heads (inl e) k = sym e
    heads (inr k) (inl e) = e
    heads (inr k) (inr l) =
        let a : (f y).hi ≤ (f x).lo = (placed_members f (f y).hi ys x oy.2 k).0 in
        let b : (f x).hi ≤ (f y).lo = (placed_members f (f x).hi xs y ox.2 l).0 in
        let c : (f x).lo < (f x).hi = ox.1 in
        let d : (f y).lo < (f y).hi = oy.1 in absurd (omega (arith, a, b, c, d))

-- an offset lies in one range of a list in order
one_covers : {X : Type 0} (f : X → Span) (from at : ℕ) (xs : List X) (x y : X) → InOrder from (map f xs) → Contains xs x
    → Contains xs y
    → has at (f x) ≡ true → has at (f y) ≡ true → x ≡ y
one_covers f from at [] x y order h k p q = none_in x h
one_covers {X} f from at (z ∷ zs) x y order h k p q =
    cases (in_cases z zs x h) (in_cases z zs y k) (λ a b. one_covers f (f z).hi at zs x y order.2 a b p q)
  where
    behind : (w : X) → Contains zs w → has at (f w) ≡ true → has at (f z) ≡ true → ⊥
    behind w l r t =
        let a : (f z).hi ≤ (f w).lo = (placed_members f (f z).hi zs w order.2 l).0 in
        let b = within at (f w) r in
        let c = within at (f z) t in omega (arith, a, b.0, c.1)

    cases : (z ≡ x) ⊎ Contains zs x → (z ≡ y) ⊎ Contains zs y → (Contains zs x → Contains zs y → x ≡ y) → x ≡ y
    cases (inl d) (inl e) later = sym d ∙ e
    cases (inl d) (inr l) later = absurd (behind y l q (ap (λ w. has at (f w)) d ∙ p))
    cases (inr l) (inl e) later = absurd (behind x l p (ap (λ w. has at (f w)) e ∙ q))
    cases (inr l) (inr m) later = later l m

pub times_none : (at : ℕ) (ss : List Span) → ((s : Span) → Contains ss s → has at s ≡ true → ⊥) → times at ss ≡ 0
times_none at [] apart = refl
times_none at (s ∷ ss) apart =
    let later = times_none at ss (λ t h. apart t (later_in s ss t h)) in
    let here : has at s ≡ false =
    ⊎_elim (λ e. absurd (apart s (first_in s ss s refl) e)) (λ e. e) (cases_Bool (has at s)) in
    ap (λ b. cond b 1 0 + times at ss) here ∙ omega (arith, later)

-- ---- done ranges

-- these ranges put among those, each at its place
abbrev pub insert_all : List Done → List Done → List Done
insert_all [] es = es
insert_all (d ∷ ds) es = insert_done d (insert_all ds es)

all_inserted : (ds es : List Done) (x : Done) → Contains (insert_all ds es) x → Contains ds x ⊎ Contains es x
all_inserted [] es x h = inr h
all_inserted (d ∷ ds) es x h = ⊎_elim
    (λ e. inl (first_in d ds x e))
    (λ k. ⊎_elim (λ l. inl (later_in d ds x l)) (λ l. inr l) (all_inserted ds es x k))
    (in_insert d (insert_all ds es) x h)

inserted_all : (ds es : List Done) (x : Done) → Contains ds x ⊎ Contains es x → Contains (insert_all ds es) x
inserted_all [] es x h = ⊎_elim (λ k. none_in x k) (λ k. k) h
inserted_all (d ∷ ds) es x (inl h) = ⊎_elim
    (λ e. insert_in d (insert_all ds es) x (inl e))
    (λ k. insert_in d (insert_all ds es) x (inr (inserted_all ds es x (inl k))))
    (in_cases d ds x h)
inserted_all (d ∷ ds) es x (inr h) = insert_in d (insert_all ds es) x (inr (inserted_all ds es x (inr h)))

-- members of one list in order, put together
sorted_all : (all ds es : List Done) (from : ℕ) → InOrder 0 (spans all)
    → ((x : Done) → Contains all x → (x.span.lo < x.span.hi))
    → InOrder from (spans ds) → InOrder 0 (spans es) → ((x : Done) → Contains ds x → Contains all x)
    → ((x : Done) → Contains es x → Contains all x)
    → ((x : Done) → Contains ds x → Contains es x → ⊥) → InOrder 0 (spans (insert_all ds es))
sorted_all all [] es from order some od oe ind ine apart = oe
sorted_all all (d ∷ ds) es from order some od oe ind ine apart =
    order_insert 0 (insert_all ds es) d
    (sorted_all all ds es d.span.hi order some od.2 oe (λ x h. ind x (later_in d ds x h)) ine
    (λ x h k. apart x (later_in d ds x h) k))
    (omega arith) od.1
    (λ at h. times_none at (spans (insert_all ds es)) (λ s k c.
    let r = in_map (λ (x : Done). x.span) (insert_all ds es) s k in
    clash at h r.0 r.1 (subst (λ t. has at t ≡ true) (sym r.2) c)))
  where
    clash : (at : ℕ) → has at d.span ≡ true → (e : Done) → Contains (insert_all ds es) e → has at e.span ≡ true → ⊥
    clash at h e k c =
        let mine = ind d (first_in d ds d refl) in
        ⊎_elim
        (λ l.
        let same = one_covers (λ (x : Done). x.span) 0 at all d e order mine (ind e (later_in d ds e l)) h c in
        not_first (λ (x : Done). x.span) d ds e od.2 od.1 l same)
        (λ l.
        let same = one_covers (λ (x : Done). x.span) 0 at all d e order mine (ine e l) h c in
        apart e (subst (Contains (d ∷ ds)) same (first_in d ds d refl)) l)
        (all_inserted ds es e k)

pub filter_order : (p : Done → Bool) (from : ℕ) (ds : List Done) → InOrder from (spans ds)
    → InOrder from (spans (filter p ds))
filter_order p from [] order = tt
filter_order p from (d ∷ ds) order =
    elim (p d) as (λ b. InOrder from (spans (cond b (d ∷ filter p ds) (filter p ds)))) [
      | true ↦ (order.0, order.1, filter_order p d.span.hi ds order.2)
      | false ↦ order_from from d.span.hi (spans (filter p ds))
          (let low : from ≤ d.span.lo = order.0 in
          let some : d.span.lo < d.span.hi = order.1 in omega (arith, low, some))
          (filter_order p d.span.hi ds order.2)
    ]

-- ---- ranges that are owed

order_raised : (low from : ℕ) (ss : List Span) → InOrder from ss → ((s : Span) → Contains ss s → low ≤ s.lo)
    → InOrder low ss
order_raised low from [] order above = tt
order_raised low from (s ∷ ss) order above = (above s (first_in s ss s refl), order.1, order.2)

order_joined : (from mid : ℕ) (xs ys : List Span) → from ≤ mid → InOrder from xs
    → ((s : Span) → Contains xs s → s.hi ≤ mid) → InOrder mid ys → InOrder from (xs ++ ys)
order_joined from mid [] ys le ox below oy = order_from from mid ys le oy
order_joined from mid (x ∷ xs) ys le ox below oy = (
  ox.0,
  ox.1,
  order_joined x.hi mid xs ys (below x (first_in x xs x refl)) ox.2
      (λ s h. below s (later_in x xs s h)) oy,
)

pub map_same : (ss : List Span) → map (λ (s : Span). s) ss ≡ ss
map_same [] = refl
map_same (s ∷ ss) = ap (λ (ts : List Span). s ∷ ts) (map_same ss)

-- ---- marks

-- the ranges of the change put over those before
abbrev pub merged : Marks → Marks → Marks
merged before change = record {
  next = change.next;
  finished = insert_all change.finished before.finished;
  owed = filter (λ s. not (list_any (same_span s) (spans change.finished))) before.owed ++ change.owed;
}

abbrev pub is_new : Marks → Done → Bool
is_new b d = not (list_any (same_done d) b.finished)

abbrev pub is_new_owed : Marks → Span → Bool
is_new_owed b s = not (list_any (same_span s) b.owed)

abbrev still_owed : Marks → Marks → Span → Bool
still_owed b n s = not (list_any (same_span s) (spans (filter (is_new b) n.finished)))

-- a done range and an owed one don't begin at one offset
pub starts_apart : (m : Marks) → Tiled m → (d : Done) (s : Span) → Contains m.finished d → Contains m.owed s
    → d.span.lo ≡ s.lo → ⊥
starts_apart m tiled d s h k e =
    let some : s.lo < s.hi = (order_members 0 m.owed s tiled.owed k).1 in
    let there = map_in (λ (x : Done). x.span) m.finished d h in
    let other : d.span.lo < d.span.hi = (order_members 0 (done_spans m) d.span tiled.finished there).1 in
    let none = owed_free m tiled s k s.lo (inside s.lo s (omega arith) some) in
    let one = times_some s.lo (done_spans m) d.span there
    (inside s.lo d.span (omega (arith, e)) (omega (arith, e, other))) in
    omega (arith, none, one)

-- a range isn't both done and owed
not_both : (m : Marks) → Tiled m → (d : Done) (s : Span) → Contains m.finished d → Contains m.owed s → d.span ≡ s → ⊥
not_both m tiled d s h k e = starts_apart m tiled d s h k (ap (λ (x : Span). x.lo) e)

-- a new done range is one of the later marks that the earlier ones lack
new_parts : (b n : Marks) (x : Done) → Contains (filter (is_new b) n.finished) x
    → Contains n.finished x × (Contains b.finished x → ⊥)
new_parts b n x h =
    let r = in_filter (is_new b) n.finished x h in (
      r.0,
      λ k. let yes = done_any x b.finished k in
          true≢false (sym yes ∙ not-true (list_any (same_done x) b.finished) r.1),
    )

old_or_new : (b n : Marks) (x : Done) → Contains n.finished x
    → Contains (filter (is_new b) n.finished) x ⊎ Contains b.finished x
old_or_new b n x h = ⊎_elim
    (λ e. inr (any_done x b.finished e))
    (λ e. inl (filter_in (is_new b) n.finished x h (not_from_false (list_any (same_done x) b.finished) e)))
    (cases_Bool (list_any (same_done x) b.finished))

merged_done : (b n : Marks) → Tiled b → Tiled n → MarksFollow b n
    → insert_all (filter (is_new b) n.finished) b.finished ≡ n.finished
merged_done b n tb tn follow =
    same_sorted (λ (d : Done). d.span) 0 0 (insert_all (filter (is_new b) n.finished) b.finished) n.finished
    (sorted_all n.finished (filter (is_new b) n.finished) b.finished 0 tn.finished
    (λ x h. (placed_members (λ (d : Done). d.span) 0 n.finished x tn.finished h).1)
    (filter_order (is_new b) 0 n.finished tn.finished) tb.finished
    (λ x h. (new_parts b n x h).0) follow.finished (λ x h k. (new_parts b n x h).1 k))
    tn.finished
    (λ x h. ⊎_elim (λ k. (new_parts b n x k).0) (λ k. follow.finished x k)
    (all_inserted (filter (is_new b) n.finished) b.finished x h))
    (λ x h. inserted_all (filter (is_new b) n.finished) b.finished x (old_or_new b n x h))

-- an owed range of the earlier marks that isn't done now is still owed
stays_owed : (b n : Marks) → Tiled b → MarksFollow b n → (s : Span) → Contains (filter (still_owed b n) b.owed) s
    → Contains n.owed s
stays_owed b n tb follow s h =
    let r = in_filter (still_owed b n) b.owed s h in
    ⊎_elim (λ k. k)
    (λ d. absurd (⊎_elim
    (λ k.
    let yes = span_any s (spans (filter (is_new b) n.finished))
    (subst (Contains (spans (filter (is_new b) n.finished))) d.2
    (map_in (λ (x : Done). x.span) (filter (is_new b) n.finished) d.0 k)) in
    true≢false (sym yes ∙ not-true (list_any (same_span s) (spans (filter (is_new b) n.finished))) r.1))
    (λ k. not_both b tb d.0 s k r.0 d.2)
    (old_or_new b n d.0 d.1)))
    (follow.owed s r.0)

new_owed_parts : (b n : Marks) (s : Span) → Contains (filter (is_new_owed b) n.owed) s
    → Contains n.owed s × (Contains b.owed s → ⊥)
new_owed_parts b n s h =
    let r = in_filter (is_new_owed b) n.owed s h in
    (r.0, λ k. let yes = span_any s b.owed k in true≢false (sym yes ∙ not-true (list_any (same_span s) b.owed) r.1))

owed_is_there : (b n : Marks) → Tiled n → (s : Span) → Contains n.owed s
    → Contains (filter (still_owed b n) b.owed ++ filter (is_new_owed b) n.owed) s
owed_is_there b n tn s h = ⊎_elim
    (λ e. Contains-append_left (filter (still_owed b n) b.owed) (filter (is_new_owed b) n.owed) s
    (filter_in (still_owed b n) b.owed s (any_span s b.owed e)
    (not_from_false (list_any (same_span s) (spans (filter (is_new b) n.finished))) (not_done e))))
    (λ e. Contains-append_right (filter (still_owed b n) b.owed) (filter (is_new_owed b) n.owed) s
    (filter_in (is_new_owed b) n.owed s h (not_from_false (list_any (same_span s) b.owed) e)))
    (cases_Bool (list_any (same_span s) b.owed))
  where
    not_done : list_any (same_span s) b.owed ≡ true
        → list_any (same_span s) (spans (filter (is_new b) n.finished)) ≡ false
    not_done e = ⊎_elim
        (λ f. absurd (
        let r = in_map (λ (x : Done). x.span) (filter (is_new b) n.finished) s
        (any_span s (spans (filter (is_new b) n.finished)) f) in
        not_both n tn r.0 s (new_parts b n r.0 r.1).0 h r.2))
        (λ f. f)
        (cases_Bool (list_any (same_span s) (spans (filter (is_new b) n.finished))))

merged_owed : (b n : Marks) → Tiled b → Tiled n → MarksFollow b n
    → filter (still_owed b n) b.owed ++ filter (is_new_owed b) n.owed ≡ n.owed
merged_owed b n tb tn follow =
    let own : List Span = filter (still_owed b n) b.owed ++ filter (is_new_owed b) n.owed in
    let old = order_filter (still_owed b n) 0 b.owed tb.owed in
    let fresh = order_raised b.next 0 (filter (is_new_owed b) n.owed) (order_filter (is_new_owed b) 0 n.owed tn.owed)
    (λ s h. let r = new_owed_parts b n s h in ⊎_elim (λ k. absurd (r.1 k)) (λ l. l) (follow.new_owed s r.0)) in
    let order : InOrder 0 own =
    order_joined 0 b.next (filter (still_owed b n) b.owed) (filter (is_new_owed b) n.owed) (omega arith) old
    (λ s h. owed_below b tb s (in_filter (still_owed b n) b.owed s h).0) fresh in
    same_sorted (λ (s : Span). s) 0 0 own n.owed (subst (InOrder 0) (sym (map_same own)) order)
    (subst (InOrder 0) (sym (map_same n.owed)) tn.owed)
    (λ s h. ⊎_elim (stays_owed b n tb follow s) (λ k. (new_owed_parts b n s k).0)
    (Contains-append_cases (filter (still_owed b n) b.owed) (filter (is_new_owed b) n.owed) s h))
    (owed_is_there b n tn)

-- what changed, put over the earlier marks, gives the later ones
pub merged_is : (b n : Marks) → Tiled b → Tiled n → MarksFollow b n → merged b (changed_marks b n) ≡ n
merged_is b n tb tn follow =
    let done = merged_done b n tb tn follow in
    let owed = merged_owed b n tb tn follow in
    λ i. record { next = n.next; finished = done i; owed = owed i }

-- ranges that tile tell where they end
next_of_ranges : (m n : Marks) → Tiled m → Tiled n → m.finished ≡ n.finished → m.owed ≡ n.owed → m.next ≡ n.next
next_of_ranges m n tm tn done owed = ⊎_elim
    (λ l. absurd (
    let full : times_covered m.next n ≡ 1 = tn.once m.next ∙ ap (λ b. cond b 1 0) (lt-ltb m.next n.next l) in
    let none : times_covered m.next m ≡ 0 =
    tm.once m.next ∙ ap (λ b. cond b 1 0) (le-ltb m.next m.next (omega arith)) in
    let same = level m.next in omega (arith, full, none, same)))
    (λ g. ⊎_elim
    (λ l. absurd (
    let full : times_covered n.next m ≡ 1 = tm.once n.next ∙ ap (λ b. cond b 1 0) (lt-ltb n.next m.next l) in
    let none : times_covered n.next n ≡ 0 =
    tn.once n.next ∙ ap (λ b. cond b 1 0) (le-ltb n.next n.next (omega arith)) in
    let same = level n.next in omega (arith, full, none, same)))
    (λ h. omega (arith, g, h))
    (cases_lt n.next m.next))
    (cases_lt m.next n.next)
  where
    level : (at : ℕ) → times_covered at m ≡ times_covered at n
    level at = λ i. times_covered at (record { next = m.next; finished = done i; owed = owed i })

filter_all : (p : Span → Bool) (ss : List Span) → ((s : Span) → p s ≡ true) → filter p ss ≡ ss
filter_all p [] every = refl
filter_all p (s ∷ ss) every =
    cond-true (p s) (s ∷ filter p ss) (filter p ss) (every s) ∙ ap (λ (ts : List Span). s ∷ ts) (filter_all p ss every)

no_member : {X : Type 0} (xs : List X) → length xs ≡ 0 → xs ≡ []
no_member [] e = refl
no_member (x ∷ xs) e = absurd (omega (arith, e))

-- where no range changed, the marks are the same
pub unchanged : (b n : Marks) → Tiled b → Tiled n → MarksFollow b n
    → length (changed_marks b n).finished + length (changed_marks b n).owed ≡ 0 → b ≡ n
unchanged b n tb tn follow none =
    let fresh = no_member (filter (is_new b) n.finished) (omega (arith, none)) in
    let owing = no_member (filter (is_new_owed b) n.owed) (omega (arith, none)) in
    let done : b.finished ≡ n.finished =
    sym (ap (λ ds. insert_all ds b.finished) fresh) ∙ merged_done b n tb tn follow in
    let rest : filter (still_owed b n) b.owed ≡ b.owed =
    filter_all (still_owed b n) b.owed (λ s. ap (λ ds. not (list_any (same_span s) (spans ds))) fresh) in
    let owed : b.owed ≡ n.owed =
    sym (append-nil b.owed) ∙ sym (λ i. rest i ++ owing i) ∙ merged_owed b n tb tn follow in
    let next = next_of_ranges b n tb tn done owed in
    λ i. record { next = next i; finished = done i; owed = owed i }
