-- Texts as they are written, piece by piece.
use Rattle.std.proofs.Common.{◌≡◌, ℕ, zero, suc, ◌+◌, ◌<◌, ◌≤◌, true, false, cond, nat_lt, List}
use Rattle.std.proofs.Common.{[], ◌∷◌, ◌++◌, map, length, drop, get_or, refl, sym, ap, subst, ◌∙◌, append_assoc}
use Rattle.std.proofs.Common.{arith, codes, Some}
use Rattle.std.specs.List.{AllByRecursion, flat_map, slice_get}
use Rattle.std.specs.Fmt.{decimal}
use Rattle.std.proofs.lemmas.Bool.{lt-ltb, le-ltb}
use Rattle.gob_bytes.specs.Words.{numbered_line}
use Rattle.gob_ledger.specs.Marks.{Done, Span, InOrder}
use Rattle.gob_ledger.specs.State.{State}
use Rattle.gob_ledger.specs.Spelling.{Placed, done_line, open_line, parts_text, pipelines_text, put_line}
use Rattle.gob_ledger.specs.Spelling.{put_lines, state_spelling, totals_text, version_2}
use Rattle.gob_ledger.proofs.Ranges.{order_from}
use Rattle.gob_state.specs.Reads.{spaced_number}
use Rattle.gob_state.specs.Written.{BeginsBehind, OpensPushed, lines_of_ranges}
use Rattle.gob_state.proofs.SettingLemmas.{at_drop, at_drop_or}
use Rattle.std.proofs.lemmas.Option.{none-some, same_Some}

-- ---- lines of numbers

pub numbered_is : (word ns : List ℕ) → numbered_line word ns ≡ word ++ (flat_map spaced_number ns ++ 10 ∷ [])
numbered_is word [] = refl
numbered_is word (n ∷ ns) = ap (λ t. word ++ 32 ∷ t) (numbered_is (decimal n) ns)
    ∙ ap (λ t. word ++ 32 ∷ t) (sym (append_assoc (decimal n) (flat_map spaced_number ns) (10 ∷ [])))

-- ---- ranges

-- each of these lines stands behind the offset
abbrev pub Behind : ℕ → List Placed → Type 0
Behind lo ls = AllByRecursion (λ (l : Placed). lo < l.0) ls

abbrev pub NotBefore : ℕ → List Done → Type 0
NotBefore lo ds = AllByRecursion (λ (d : Done). lo ≤ d.span.lo) ds

put_behind : (lo : ℕ) (l : Placed) (ls : List Placed) → lo < l.0 → Behind lo ls → Behind lo (put_line l ls)
put_behind lo l [] above all = (above, tt)
put_behind lo l (m ∷ ms) above all = elim (nat_lt l.0 m.0) as
    (λ b. Behind lo (cond b (l ∷ m ∷ ms) (m ∷ put_line l ms))) [
      | true ↦ (above, all)
      | false ↦ (all.0, put_behind lo l ms above all.1)
    ]

opens_behind : (lo from : ℕ) (os : List Span) → lo < from → InOrder from os → Behind lo (map open_line os)
opens_behind lo from [] above order = tt
opens_behind lo from (o ∷ os) above order = (
  let a : from ≤ o.lo = order.0 in omega arith,
  opens_behind lo o.hi os (let a : from ≤ o.lo = order.0 in
      let b : o.lo < o.hi = order.1 in omega arith) order.2,
)

lines_behind : (lo from : ℕ) (ds : List Done) (os : List Span) → lo < from
    → InOrder from (map (λ (d : Done). d.span) ds)
    → Behind lo (map open_line os) → Behind lo (put_lines (map (done_line version_2) ds) (map open_line os))
lines_behind lo from [] os above order all = all
lines_behind lo from (d ∷ ds) os above order all =
    put_behind lo (done_line version_2 d) (put_lines (map (done_line version_2) ds) (map open_line os))
    (let a : from ≤ d.span.lo = order.0 in omega arith)
    (lines_behind lo d.span.hi ds os (let a : from ≤ d.span.lo = order.0 in let b : d.span.lo < d.span.hi = order.1 in
    omega arith) order.2 all)

put_in_front : (l : Placed) (ls : List Placed) → Behind l.0 ls → put_line l ls ≡ l ∷ ls
put_in_front l [] all = refl
put_in_front l (m ∷ ms) all = ap (λ b. cond b (l ∷ m ∷ ms) (m ∷ put_line l ms)) (lt-ltb l.0 m.0 all.0)

-- a done range that begins before the first open one comes first
pub done_comes_first : (from : ℕ) (d : Done) (ds : List Done) (os : List Span)
    → InOrder from (map (λ (d : Done). d.span) (d ∷ ds)) → Behind d.span.lo (map open_line os)
    → lines_of_ranges (d ∷ ds) os ≡ numbered_line (codes "done") (d.span.lo ∷ d.span.hi ∷ d.pipeline ∷ [])
    ++ lines_of_ranges ds os
done_comes_first from d ds os order all = ap (flat_map (λ (l : Placed). l.1))
    (put_in_front (done_line version_2 d) (put_lines (map (done_line version_2) ds) (map open_line os))
    (lines_behind d.span.lo d.span.hi ds os order.1 order.2 all))

pub opens_behind_first : (lo from : ℕ) (o : Span) (os : List Span) → lo < o.lo → InOrder from (o ∷ os)
    → Behind lo (map open_line (o ∷ os))
opens_behind_first lo from o os above order =
    (above, opens_behind lo o.hi os (let b : o.lo < o.hi = order.1 in omega arith) order.2)

not_before : (lo from : ℕ) (ds : List Done) → lo ≤ from → InOrder from (map (λ (d : Done). d.span) ds) → NotBefore lo ds
not_before lo from [] le order = tt
not_before lo from (d ∷ ds) le order = (
  let a : from ≤ d.span.lo = order.0 in omega arith,
  not_before lo d.span.hi ds (let a : from ≤ d.span.lo =
      order.0 in let b : d.span.lo < d.span.hi = order.1 in omega arith) order.2,
)

put_lines_open : (o : Span) (ds : List Done) (os : List Span) → NotBefore o.lo ds
    → put_lines (map (done_line version_2) ds) (map open_line (o ∷ os))
    ≡ open_line o ∷ put_lines (map (done_line version_2) ds) (map open_line os)
put_lines_open o [] os all = refl
put_lines_open o (d ∷ ds) os all =
    let later : List Placed = put_lines (map (done_line version_2) ds) (map open_line os) in
    ap (put_line (done_line version_2 d)) (put_lines_open o ds os all.1)
    ∙ ap (λ b. cond b (done_line version_2 d ∷ open_line o ∷ later)
    (open_line o ∷ put_line (done_line version_2 d) later))
    (le-ltb d.span.lo o.lo all.0)

-- an open range that doesn't begin behind the first done one comes first
pub open_comes_first : (o : Span) (ds : List Done) (os : List Span) → NotBefore o.lo ds
    → lines_of_ranges ds (o ∷ os) ≡ numbered_line (codes "open") (o.lo ∷ o.hi ∷ []) ++ lines_of_ranges ds os
open_comes_first o ds os all = ap (flat_map (λ (l : Placed). l.1)) (put_lines_open o ds os all)

-- ---- loops

-- one number more
pub number_pushed : (old word : List ℕ) (ns : List ℕ) (i : ℕ) (a b c : List ℕ) → i < length ns
    → a ++ (flat_map spaced_number (drop i ns) ++ 10 ∷ []) ≡ old ++ numbered_line word ns → b ≡ a ++ 32 ∷ []
    → c ≡ b ++ decimal (get_or ns i 0) → c ++ (flat_map spaced_number (drop (i + 1) ns) ++ 10 ∷ []) ≡ old
    ++ numbered_line word ns
number_pushed old word ns i a b c below inv pb pc =
    let n = get_or ns i 0 in
    let rest = at_drop_or ns i 0 below in
    ap (λ t. t ++ (flat_map spaced_number (drop (i + 1) ns) ++ 10 ∷ [])) (pc ∙ ap (λ t. t ++ decimal n) pb)
    ∙ regrouped a (decimal n) (flat_map spaced_number (drop (i + 1) ns)) (10 ∷ [])
    ∙ ap (λ xs. a ++ (flat_map spaced_number xs ++ 10 ∷ [])) (sym rest) ∙ inv
  where
    regrouped : (a d r t : List ℕ) → ((a ++ 32 ∷ []) ++ d) ++ (r ++ t) ≡ a ++ (((32 ∷ d) ++ r) ++ t)
    regrouped a d r t = simp append_assoc

pub numbers_begin : (old word ns : List ℕ) (a : List ℕ) → a ≡ old ++ word
    → a ++ (flat_map spaced_number (drop 0 ns) ++ 10 ∷ []) ≡ old ++ numbered_line word ns
numbers_begin old word ns a is =
    ap (λ t. t ++ (flat_map spaced_number ns ++ 10 ∷ [])) is ∙ append_assoc old word
    (flat_map spaced_number ns ++ 10 ∷ [])
    ∙ ap (λ t. old ++ t) (sym (numbered_is word ns))

pub dropped_all : {X : Type 0} (xs : List X) (i : ℕ) → length xs ≤ i → drop i xs ≡ []
dropped_all [] zero past = refl
dropped_all [] (suc i) past = refl
dropped_all (q ∷ qs) zero past = absurd (omega arith)
dropped_all (q ∷ qs) (suc i) past = dropped_all qs i (omega arith)

pub numbers_end : (old word ns : List ℕ) (i : ℕ) (a b : List ℕ) → length ns ≤ i
    → a ++ (flat_map spaced_number (drop i ns) ++ 10 ∷ []) ≡ old ++ numbered_line word ns → b ≡ a ++ 10 ∷ []
    → b ≡ old ++ numbered_line word ns
numbers_end old word ns i a b past inv is =
    is ∙ ap (λ xs. a ++ (flat_map spaced_number xs ++ 10 ∷ [])) (sym (dropped_all ns i past)) ∙ inv

-- ---- open ranges

pub order_drop : (ss : List Span) (from k : ℕ) → InOrder from ss → InOrder 0 (drop k ss)
order_drop ss from zero order = order_from 0 from ss (omega arith) order
order_drop [] from (suc k) order = tt
order_drop (s ∷ ss) from (suc k) order = order_drop ss s.hi k order.2

pub open_pushed : (at : ℕ) (old a b : List ℕ) (before owed : List Span) (k : ℕ) (o : Span) → k < length owed
    → o ≡ get_or owed k o → o.lo ≤ at → OpensPushed at old before a (drop k owed)
    → b ≡ a ++ numbered_line (codes "open") (o.lo ∷ o.hi ∷ []) → OpensPushed at old before b (drop (k + 1) owed)
open_pushed at old a b before owed k o below is low inv pushed ds all =
    let rest = at_drop owed k o below is in
    inv ds all ∙ ap (λ os. a ++ lines_of_ranges ds os) rest
    ∙ ap (λ t. a ++ t) (open_comes_first o ds (drop (k + 1) owed) (not_before_less o.lo at ds low all))
    ∙ sym (append_assoc a (numbered_line (codes "open") (o.lo ∷ o.hi ∷ [])) (lines_of_ranges ds (drop (k + 1) owed)))
    ∙ ap (λ t. t ++ lines_of_ranges ds (drop (k + 1) owed)) (sym pushed)
  where
    not_before_less : (lo at : ℕ) (ds : List Done) → lo ≤ at → NotBefore at ds → NotBefore lo ds
    not_before_less lo at [] le all = tt
    not_before_less lo at (d ∷ ds) le all = (
      let a : at ≤ d.span.lo = all.0 in omega arith,
      not_before_less lo at ds le all.1,
    )

-- ---- done ranges

behind_all : (lo : ℕ) (os : List Span) → InOrder 0 os → BeginsBehind lo os → Behind lo (map open_line os)
behind_all lo [] order stop = tt
behind_all lo (o ∷ os) order stop = opens_behind_first lo 0 o os stop order

order_of_drop : (ds : List Done) (from i : ℕ) → InOrder from (map (λ (d : Done). d.span) ds)
    → (low : ℕ) × InOrder low (map (λ (d : Done). d.span) (drop i ds))
order_of_drop ds from zero order = (from, order)
order_of_drop [] from (suc i) order = (from, tt)
order_of_drop (d ∷ ds) from (suc i) order = order_of_drop ds d.span.hi i order.2

-- a done range more, with the open ones before it
pub done_pushed : (old a b c : List ℕ) (done : List Done) (owed : List Span) (i k l : ℕ) (d : Done) → i < length done
    → d ≡ get_or done i d → InOrder 0 (map (λ (d : Done). d.span) done) → InOrder 0 owed
    → a ++ lines_of_ranges (drop i done) (drop k owed) ≡ old ++ lines_of_ranges done owed
    → OpensPushed d.span.lo a (drop k owed) b (drop l owed) → BeginsBehind d.span.lo (drop l owed)
    → c ≡ b ++ numbered_line (codes "done") (d.span.lo ∷ d.span.hi ∷ d.pipeline ∷ [])
    → c ++ lines_of_ranges (drop (i + 1) done) (drop l owed) ≡ old ++ lines_of_ranges done owed
done_pushed old a b c done owed i k l d below is order opens inv pushed stop more =
    let rest = at_drop done i d below is in
    let at = order_of_drop done 0 i order in
    let here : InOrder at.0 (map (λ (x : Done). x.span) (d ∷ drop (i + 1) done)) =
    subst (λ ds. InOrder at.0 (map (λ (x : Done). x.span) ds)) rest at.1 in
    ap (λ t. t ++ lines_of_ranges (drop (i + 1) done) (drop l owed)) more
    ∙ append_assoc b (numbered_line (codes "done") (d.span.lo ∷ d.span.hi ∷ d.pipeline ∷ []))
    (lines_of_ranges (drop (i + 1) done) (drop l owed))
    ∙ ap (λ t. b ++ t) (sym (done_comes_first at.0 d (drop (i + 1) done) (drop l owed) here
    (behind_all d.span.lo (drop l owed) (order_drop owed 0 l opens) stop)))
    ∙ sym (pushed (d ∷ drop (i + 1) done) (
      omega arith,
      not_before d.span.lo d.span.hi (drop (i + 1) done)
          (let some : d.span.lo < d.span.hi = here.1 in omega arith) here.2,
    ))
    ∙ ap (λ ds. a ++ lines_of_ranges ds (drop k owed)) (sym rest) ∙ inv

-- ---- lists of texts

-- one text more of a list
pub text_more : {X : Type 0} (s : X → List ℕ) (old a b : List ℕ) (xs : List X) (i : ℕ) (x : X) → i < length xs
    → x ≡ get_or xs i x → a ++ flat_map s (drop i xs) ≡ old ++ flat_map s xs → b ≡ a ++ s x
    → b ++ flat_map s (drop (i + 1) xs) ≡ old ++ flat_map s xs
text_more s old a b xs i x below is inv more =
    ap (λ t. t ++ flat_map s (drop (i + 1) xs)) more
    ∙ append_assoc a (s x) (flat_map s (drop (i + 1) xs))
    ∙ ap (λ ys. a ++ flat_map s ys) (sym (at_drop xs i x below is)) ∙ inv

-- ---- the whole text

pub state_written : (s : State) (a b c d e f g : List ℕ) → a ≡ [] → b ≡ a ++ numbered_line (codes "gobblin-state")
    (2 ∷ [])
    → c ≡ b ++ numbered_line (codes "run") (s.run ∷ []) → d ≡ c ++ pipelines_text version_2 s.pipelines
    → e ≡ d ++ totals_text s.totals → f ≡ e ++ parts_text version_2 s.parts → g ≡ f ++ (codes "end" ++ 10 ∷ [])
    → g ≡ state_spelling version_2 s
unfolding state_spelling
state_written s a b c d e f g ra rb rc rd re rf rg =
    let first : List ℕ = numbered_line (codes "gobblin-state") (2 ∷ []) in
    let run : List ℕ = numbered_line (codes "run") (s.run ∷ []) in
    rg ∙ ap (λ x. x ++ (codes "end" ++ 10 ∷ [])) (rf ∙ ap (λ x. x ++ parts_text version_2 s.parts) (re
    ∙ ap (λ x. x ++ totals_text s.totals) (rd ∙ ap (λ x. x ++ pipelines_text version_2 s.pipelines) (rc
    ∙ ap (λ x. x ++ run) (rb ∙ ap (λ x. x ++ first) ra)))))
    ∙ regrouped first run (pipelines_text version_2 s.pipelines) (totals_text s.totals) (parts_text version_2 s.parts)
    (codes "end") (10 ∷ [])
  where
    regrouped : (x r p t q e n : List ℕ) → ((((x ++ r) ++ p) ++ t) ++ q) ++ (e ++ n)
        ≡ (((x ++ r) ++ ((p ++ t) ++ q)) ++ e) ++ n
    regrouped x r p t q e n = simp append_assoc

-- what is found at a place
pub got_at : {X : Type 0} (xs : List X) (i : ℕ) (x : X) → slice_get xs i ≡ Some x → (i < length xs)
    × (x ≡ get_or xs i x)
got_at [] i x e = absurd (none-some x e)
got_at (y ∷ ys) zero x e = let same : y ≡ x = same_Some y x e in (omega arith, sym same)
got_at (y ∷ ys) (suc i) x e = let r = got_at ys i x e in (let b = r.0 in omega arith, r.1)
