-- Ranges in order that are parted at an offset: what begins below it stands in front, and what begins there or behind
-- it follows.
use Rattle.std.proofs.Common.{◌≡◌, ℕ, zero, suc, ◌<◌, ◌≤◌, Bool, true, false, cond, not, List, [], ◌∷◌, map}
use Rattle.std.proofs.Common.{take, drop, length, get_or, refl, sym, ap, ◌∙◌, arith}
use Rattle.std.specs.List.{filter}
use Rattle.std.specs.List.Sorted.{IsNonDecreasingBy, IsPartitionPoint}
use Rattle.gob_ledger.specs.Marks.{Span, InOrder}

-- each range begins at from or behind
at_least : {X : Type 0} (f : X → Span) (from : ℕ) (xs : List X) (m : ℕ) (d : X) → InOrder from (map f xs)
    → m < length xs → from ≤ (f (get_or xs m d)).lo
at_least f from [] m d order within = absurd (omega (arith, within))
at_least f from (x ∷ xs) zero d (a, b, c) within = a
at_least f from (x ∷ xs) (suc m) d (a, b, c) within =
    omega (arith, a, b, at_least f (f x).hi xs m d c (omega (arith, within)))

-- ranges in order begin ever later
pub rises : {X : Type 0} (f : X → Span) (from : ℕ) (xs : List X) → InOrder from (map f xs)
    → IsNonDecreasingBy (λ x. (f x).lo) xs
rises f from [] order i j d le within = absurd (omega (arith, within))
rises f from (x ∷ xs) (a, b, c) zero zero d le within = omega arith
rises f from (x ∷ xs) (a, b, c) zero (suc j) d le within =
    omega (arith, b, at_least f (f x).hi xs j d c (omega (arith, within)))
rises f from (x ∷ xs) (a, b, c) (suc i) zero d le within = absurd (omega (arith, le))
rises f from (x ∷ xs) (a, b, c) (suc i) (suc j) d le within =
    rises f (f x).hi xs c i j d (omega (arith, le)) (omega (arith, within))

passing : {X : Type 0} (p : X → Bool) (x : X) (xs : List X) → p x ≡ true → filter p (x ∷ xs) ≡ x ∷ filter p xs
passing {X} p x xs e = ap (λ b. cond b (x ∷ filter p xs) (filter p xs)) e

failing : {X : Type 0} (p : X → Bool) (x : X) (xs : List X) → p x ≡ false → filter p (x ∷ xs) ≡ filter p xs
failing {X} p x xs e = ap (λ b. cond b (x ∷ filter p xs) (filter p xs)) e

-- what stands before the point passes, and what stands behind it doesn't
pub front_kept : {X : Type 0} (p : X → Bool) (xs : List X) (i : ℕ) → i ≤ length xs
    → IsPartitionPoint (λ x. p x ≡ true) (λ x. p x ≡ false) xs i → take i xs ≡ filter p xs
front_kept p [] zero within point = refl
front_kept p [] (suc i) within point = absurd (omega (arith, within))
front_kept {X} p (x ∷ xs) zero within (front, back) =
    front_kept p xs zero (omega arith) (
      λ k d low high. absurd (omega (arith, high)),
      λ k d low high. back (suc k) d (omega arith) (omega (arith, high)),
    )
    ∙ sym (failing p x xs (back 0 x (omega arith) (omega arith)))
front_kept {X} p (x ∷ xs) (suc i) within (front, back) =
    ap (λ (ys : List X). x ∷ ys) (front_kept p xs i (omega (arith, within)) (
      λ k d low high. front (suc k) d (omega arith) (omega (arith, high)),
      λ k d low high. back (suc k) d (omega (arith, low)) (omega (arith, high)),
    ))
    ∙ sym (passing p x xs (front 0 x (omega arith) (omega arith)))

pub back_kept : {X : Type 0} (p : X → Bool) (xs : List X) (i : ℕ) → i ≤ length xs
    → IsPartitionPoint (λ x. p x ≡ true) (λ x. p x ≡ false) xs i → drop i xs ≡ filter (λ x. not (p x)) xs
back_kept p [] zero within point = refl
back_kept p [] (suc i) within point = absurd (omega (arith, within))
back_kept {X} p (x ∷ xs) zero within (front, back) =
    ap (λ (ys : List X). x ∷ ys) (back_kept p xs zero (omega arith) (
      λ k d low high. absurd (omega (arith, high)),
      λ k d low high. back (suc k) d (omega arith) (omega (arith, high)),
    ))
    ∙ sym (passing (λ y. not (p y)) x xs (ap not (back 0 x (omega arith) (omega arith))))
back_kept {X} p (x ∷ xs) (suc i) within (front, back) =
    back_kept p xs i (omega (arith, within)) (
      λ k d low high. front (suc k) d (omega arith) (omega (arith, high)),
      λ k d low high. back (suc k) d (omega (arith, low)) (omega (arith, high)),
    )
    ∙ sym (failing (λ y. not (p y)) x xs (ap not (front 0 x (omega arith) (omega arith))))
