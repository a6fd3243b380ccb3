-- Ranges counted by their pipelines.
use Rattle.std.proofs.Common.{◌≡◌, ℕ, zero, suc, ◌+◌, ◌<◌, ◌≤◌, Bool, true, false, if◌then◌else◌, nat_eq, List, [], ◌∷◌}
use Rattle.std.proofs.Common.{◌++◌}
use Rattle.std.proofs.Common.{length, drop, take, get_or, set, replicate, refl, sym, ap, ◌∙◌, arith}
use Rattle.std.specs.List.{count_by, enumerate_from, flat_map, sum_by}
use Rattle.std.proofs.lemmas.Bool.{eq-eqb, ne_eqb}
use Rattle.std.proofs.lemmas.List.Sums.{sum_by-cons}
use Rattle.gob_bytes.specs.Tables.{Table}
use Rattle.gob_ledger.specs.Marks.{Done, Marks}
use Rattle.gob_ledger.specs.State.{State}
use Rattle.gob_state.proofs.SettingLemmas.{at_drop}
use Rattle.gob_state.proofs.WriteLemmas.{dropped_all}
use Rattle.gob_texts.specs.Commands.{pipeline_line}
use Rattle.gob_report.specs.Counted.{counted_from, ranges_made_by, made_in, range_line}

-- what is to be added is told by its values
pub counted_same : (s : ℕ) (ns : List ℕ) (f g : ℕ → ℕ) → ((k : ℕ) → f k ≡ g k)
    → counted_from s ns f ≡ counted_from s ns g
counted_same s [] f g same = refl
counted_same s (n ∷ ns) f g same = (λ j. (n + same s j) ∷ counted_same (s + 1) ns f g same j)

pub counted_twice : (s : ℕ) (ns : List ℕ) (f g : ℕ → ℕ)
    → counted_from s (counted_from s ns f) g ≡ counted_from s ns (λ k. f k + g k)
counted_twice s [] f g = refl
counted_twice s (n ∷ ns) f g = (λ j. sum n (f s) (g s) j ∷ counted_twice (s + 1) ns f g j)
  where
    sum : (x y z : ℕ) → (x + y) + z ≡ x + (y + z)
    sum x y z = omega arith

pub counted_none : (s : ℕ) (ns : List ℕ) → counted_from s ns (λ _. 0) ≡ ns
counted_none s [] = refl
counted_none s (n ∷ ns) = (λ j. nothing n j ∷ counted_none (s + 1) ns j)
  where
    nothing : (x : ℕ) → x + 0 ≡ x
    nothing x = omega arith

-- ---- ranges

-- the count at an index is one more
pub one_counted : (s : ℕ) (ns : List ℕ) (i : ℕ) → i < length ns
    → set ns i (get_or ns i 0 + 1) ≡ counted_from s ns (λ k. if nat_eq (s + i) k then 1 else 0)
one_counted s [] i below = absurd (omega arith)
one_counted s (n ∷ ns) zero below = (λ j. (here j) ∷ (beyond (s + 1) ns (omega arith)) j)
  where
    here : n + 1 ≡ n + (if nat_eq (s + 0) s then 1 else 0)
    here = ap (λ x. n + x) (sym (ap (λ v. if v then 1 else 0) (eq-eqb (s + 0) s (omega arith))))

    plus-zero : (x : ℕ) → x ≡ x + 0
    plus-zero x = omega arith

    differs : (x k : ℕ) → s < k → x ≡ x + (if nat_eq (s + 0) k then 1 else 0)
    differs x k above = plus-zero x
        ∙ ap (λ y. x + y) (sym (ap (λ v. if v then 1 else 0) (ne_eqb (s + 0) k (λ e. omega (arith, e, above)))))

    beyond : (t : ℕ) (ms : List ℕ) → s < t → ms ≡ counted_from t ms (λ k. if nat_eq (s + 0) k then 1 else 0)
    beyond t [] above = refl
    beyond t (m ∷ ms) above = (λ j. (differs m t above j) ∷ beyond (t + 1) ms (omega (arith, above)) j)
one_counted s (n ∷ ns) (suc i) below = (λ j. (same j)
    ∷ (one_counted (s + 1) ns i (omega (arith, below))
    ∙ ap (λ x. counted_from (s + 1) ns (λ k. if nat_eq x k then 1 else 0)) moved) j)
  where
    plus-zero : (x : ℕ) → x ≡ x + 0
    plus-zero x = omega arith

    same : n ≡ n + (if nat_eq (s + suc i) s then 1 else 0)
    same = plus-zero n ∙ ap (λ x. n + x)
        (sym (ap (λ v. if v then 1 else 0) (ne_eqb (s + suc i) s (λ e. omega (arith, e)))))

    moved : (s + 1) + i ≡ s + suc i
    moved = omega arith

-- the same, over all counts
pub one_more : (ns : List ℕ) (i more : ℕ) → i < length ns → more ≡ get_or ns i 0 + 1
    → set ns i more ≡ counted_from 0 ns (λ k. if nat_eq i k then 1 else 0)
one_more ns i more below is =
    ap (λ x. set ns i x) is ∙ one_counted 0 ns i below
    ∙ ap (λ x. counted_from 0 ns (λ k. if nat_eq x k then 1 else 0)) zero-plus
  where
    zero-plus : 0 + i ≡ i
    zero-plus = omega arith

-- there is no count at an index behind them
pub none_counted : (s : ℕ) (ns : List ℕ) (i : ℕ) → s + length ns ≤ i
    → ns ≡ counted_from s ns (λ k. if nat_eq i k then 1 else 0)
none_counted s [] i past = refl
none_counted s (n ∷ ns) i past = (λ j. (same j) ∷ none_counted (s + 1) ns i (omega (arith, past)) j)
  where
    same : n ≡ n + (if nat_eq i s then 1 else 0)
    same = plus-zero n ∙ ap (λ x. n + x) (sym (ap (λ v. if v then 1 else 0) (ne_eqb i s (λ e. omega (arith, e, past)))))
      where
        plus-zero : (x : ℕ) → x ≡ x + 0
        plus-zero x = omega arith

-- all ranges are counted
pub done_all : (old a : List ℕ) (ds : List Done) (i : ℕ) → length ds ≤ i
    → counted_from 0 a (ranges_made_by (drop i ds)) ≡ counted_from 0 old (ranges_made_by ds) → a ≡ counted_from 0 old
    (ranges_made_by ds)
done_all old a ds i past inv =
    sym (counted_none 0 a) ∙ ap (λ xs. counted_from 0 a (ranges_made_by xs)) (sym (dropped_all ds i past)) ∙ inv

-- all partitions are counted
pub parts_all : (old a : List ℕ) (parts : Table Marks) (i : ℕ) → length parts ≤ i
    → counted_from 0 a (made_in (drop i parts)) ≡ counted_from 0 old (made_in parts)
    → a ≡ counted_from 0 old (made_in parts)
parts_all old a parts i past inv =
    sym (counted_none 0 a) ∙ ap (λ xs. counted_from 0 a (made_in xs)) (sym (dropped_all parts i past)) ∙ inv

-- one range more is counted
pub done_counted : (old a b : List ℕ) (ds : List Done) (i : ℕ) (d : Done) → i < length ds → d ≡ get_or ds i d
    → counted_from 0 a (ranges_made_by (drop i ds)) ≡ counted_from 0 old (ranges_made_by ds)
    → b ≡ counted_from 0 a (λ k. if nat_eq d.pipeline k then 1 else 0)
    → counted_from 0 b (ranges_made_by (drop (i + 1) ds)) ≡ counted_from 0 old (ranges_made_by ds)
done_counted old a b ds i d below is inv one =
    let later = ranges_made_by (drop (i + 1) ds) in
    ap (λ ns. counted_from 0 ns later) one
    ∙ counted_twice 0 a (λ k. if nat_eq d.pipeline k then 1 else 0) later
    ∙ counted_same 0 a _ (ranges_made_by (d ∷ drop (i + 1) ds)) (λ k. sym (first k))
    ∙ ap (λ xs. counted_from 0 a (ranges_made_by xs)) (sym (at_drop ds i d below is)) ∙ inv
  where
    first : (k : ℕ) → ranges_made_by (d ∷ drop (i + 1) ds) k ≡ (if nat_eq d.pipeline k then 1 else 0) + ranges_made_by
        (drop (i + 1) ds) k
    first k = sum_by-cons (λ (e : Done). if nat_eq e.pipeline k then 1 else 0) d (drop (i + 1) ds)

-- one partition more
pub part_counted : (old a b : List ℕ) (parts : Table Marks) (i : ℕ) (e : List ℕ × Marks) → i < length parts
    → e ≡ get_or parts i e → counted_from 0 a (made_in (drop i parts)) ≡ counted_from 0 old (made_in parts)
    → b ≡ counted_from 0 a (ranges_made_by e.1.finished)
    → counted_from 0 b (made_in (drop (i + 1) parts)) ≡ counted_from 0 old (made_in parts)
part_counted old a b parts i e below is inv one =
    let later = made_in (drop (i + 1) parts) in
    ap (λ ns. counted_from 0 ns later) one ∙ counted_twice 0 a (ranges_made_by e.1.finished) later
    ∙ counted_same 0 a _ (made_in (e ∷ drop (i + 1) parts)) (λ k. sym (first k))
    ∙ ap (λ xs. counted_from 0 a (made_in xs)) (sym (at_drop parts i e below is)) ∙ inv
  where
    first : (k : ℕ) → made_in (e ∷ drop (i + 1) parts) k ≡ ranges_made_by e.1.finished k + made_in
        (drop (i + 1) parts) k
    first k = sum_by-cons (λ (x : List ℕ × Marks). ranges_made_by x.1.finished k) e (drop (i + 1) parts)

-- ---- lines

-- the lines of counts that began at zero
pub lines_counted : (s : State) (at : ℕ) (ps : List (List ℕ))
    → flat_map range_line (enumerate_from at (counted_from at (replicate (length ps) 0) (made_in s.parts)))
    ≡ flat_map (λ p. pipeline_line s p.0) (enumerate_from at ps)
lines_counted s at [] = refl
lines_counted s at (p ∷ ps) =
    (λ j. range_line (at, zero-plus (made_in s.parts at) j) ++ lines_counted s (at + 1) ps j)
  where
    zero-plus : (n : ℕ) → 0 + n ≡ n
    zero-plus n = omega arith

pub pipelines_pushed : (old new : List ℕ) (s : State) (counts zeros : List ℕ) → new ≡ old
    ++ flat_map range_line (enumerate_from 0 counts)
    → counts ≡ counted_from 0 zeros (made_in s.parts) → zeros ≡ replicate (length s.pipelines) 0
    → new ≡ old ++ flat_map (λ p. pipeline_line s p.0) (enumerate_from 0 s.pipelines)
pipelines_pushed old new s counts zeros pushed counted begun =
    pushed ∙ ap (λ ns. old ++ flat_map range_line (enumerate_from 0 ns))
    (counted ∙ ap (λ ns. counted_from 0 ns (made_in s.parts)) begun)
    ∙ ap (λ t. old ++ t) (lines_counted s 0 s.pipelines)

-- a front of so many is the first list
pub taken_all : (ns ms : List ℕ) (len : ℕ) → length ns ≡ len → take len (ns ++ ms) ≡ ns
taken_all [] ms zero same = refl
taken_all [] ms (suc len) same = absurd (omega (arith, same))
taken_all (n ∷ ns) ms zero same = absurd (omega (arith, same))
taken_all (n ∷ ns) ms (suc len) same = ap (λ t. n ∷ t) (taken_all ns ms len (omega (arith, same)))
