-- Lists that a loop makes, item by item.
use Rattle.std.proofs.Common.{◌≡◌, ℕ, zero, suc, ◌+◌, ◌<◌, ◌≤◌, List, [], ◌∷◌, ◌++◌, map, length, drop, get_or, refl}
use Rattle.std.proofs.Common.{sym}
use Rattle.std.proofs.Common.{ap, ◌∙◌, arith, add-one, append_assoc, append-nil, Some, slice_get}
use Rattle.std.specs.List.{flat_map}
use Rattle.std.specs.Option.{option_to_list}
use Rattle.gob_commit.specs.Groups.{picked_items}

drop_from : {X : Type 0} (xs : List X) (i : ℕ) (x : X) → i < length xs → x ≡ get_or xs i x
    → drop i xs ≡ x ∷ drop (suc i) xs
drop_from [] i x below is = absurd (omega (arith, below))
drop_from (y ∷ ys) zero x below is = ap (λ z. z ∷ ys) (sym is)
drop_from (y ∷ ys) (suc i) x below is = drop_from ys i x (omega (arith, below)) is

pub drop_here : {X : Type 0} (xs : List X) (i : ℕ) (x : X) → i < length xs → x ≡ get_or xs i x
    → drop i xs ≡ x ∷ drop (i + 1) xs
drop_here xs i x below is = drop_from xs i x below is ∙ ap (λ n. x ∷ drop n xs) (sym (add-one i))

pub drop_none : {X : Type 0} (xs : List X) (i : ℕ) → length xs ≤ i → drop i xs ≡ []
drop_none [] zero below = refl
drop_none [] (suc i) below = refl
drop_none (x ∷ xs) zero below = absurd (omega (arith, below))
drop_none (x ∷ xs) (suc i) below = drop_none xs i (omega (arith, below))

-- what one more item gives is added
pub given_more : {X Y : Type 0} (f : X → List Y) (ys new more whole : List Y) (xs : List X) (i : ℕ) (x : X)
    → i < length xs → x ≡ get_or xs i x → more ≡ f x → new ≡ ys ++ more → ys ++ flat_map f (drop i xs) ≡ whole
    → new ++ flat_map f (drop (i + 1) xs) ≡ whole
given_more f ys new more whole xs i x below is gives added so_far =
    ap (λ zs. zs ++ flat_map f (drop (i + 1) xs)) (added ∙ ap (λ zs. ys ++ zs) gives)
    ∙ append_assoc ys (f x) (flat_map f (drop (i + 1) xs))
    ∙ ap (λ zs. ys ++ flat_map f zs) (sym (drop_here xs i x below is)) ∙ so_far

pub given_all : {X Y : Type 0} (f : X → List Y) (ys whole : List Y) (xs : List X) (i : ℕ) → length xs ≤ i
    → ys ++ flat_map f (drop i xs) ≡ whole → ys ≡ whole
given_all f ys whole xs i ended so_far =
    sym (append-nil ys) ∙ ap (λ zs. ys ++ flat_map f zs) (sym (drop_none xs i ended)) ∙ so_far

-- the same where each item gives one
pub pushed_more : {X Y : Type 0} (f : X → Y) (ys new whole : List Y) (xs : List X) (i : ℕ) (x : X) (y : Y)
    → i < length xs → x ≡ get_or xs i x → y ≡ f x → new ≡ ys ++ y ∷ [] → ys ++ map f (drop i xs) ≡ whole
    → new ++ map f (drop (i + 1) xs) ≡ whole
pushed_more f ys new whole xs i x y below is gives added so_far =
    ap (λ zs. zs ++ map f (drop (i + 1) xs)) (added ∙ ap (λ z. ys ++ z ∷ []) gives)
    ∙ append_assoc ys (f x ∷ []) (map f (drop (i + 1) xs))
    ∙ ap (λ zs. ys ++ map f zs) (sym (drop_here xs i x below is)) ∙ so_far

pub pushed_all : {X Y : Type 0} (f : X → Y) (ys whole : List Y) (xs : List X) (i : ℕ) → length xs ≤ i
    → ys ++ map f (drop i xs) ≡ whole → ys ≡ whole
pushed_all f ys whole xs i ended so_far =
    sym (append-nil ys) ∙ ap (λ zs. ys ++ map f zs) (sym (drop_none xs i ended)) ∙ so_far

-- what stands at a place
pub get_here : {X : Type 0} (xs : List X) (i : ℕ) (x : X) → i < length xs → x ≡ get_or xs i x
    → slice_get xs i ≡ Some x
get_here [] i x below is = absurd (omega (arith, below))
get_here (y ∷ ys) zero x below is = ap (λ z. Some z) (sym is)
get_here (y ∷ ys) (suc i) x below is = get_here ys i x (omega (arith, below)) is

pub picked_one : {X : Type 0} (xs : List X) (p : ℕ) (x y : X) → p < length xs → x ≡ get_or xs p x → y ≡ x
    → y ∷ [] ≡ option_to_list (slice_get xs p)
picked_one xs p x y below is same =
    ap (λ z. z ∷ []) same ∙ ap option_to_list (sym (get_here xs p x below is))

-- a number is what it is, whatever stands past the end
number_here : (xs : List ℕ) (i : ℕ) → i < length xs → get_or xs i 0 ≡ get_or xs i (get_or xs i 0)
number_here [] i below = absurd (omega (arith, below))
number_here (x ∷ xs) zero below = refl
number_here (x ∷ xs) (suc i) below = number_here xs i (omega (arith, below))

pub place_more : {X : Type 0} (xs : List X) (ps : List ℕ) (i : ℕ) (x y : X) (group new whole : List X)
    → i < length ps → get_or ps i 0 < length xs → x ≡ get_or xs (get_or ps i 0) x → y ≡ x → new ≡ group ++ y ∷ []
    → group ++ picked_items xs (drop i ps) ≡ whole → new ++ picked_items xs (drop (i + 1) ps) ≡ whole
place_more {X} xs ps i x y group new whole below within is same added so_far =
    given_more (λ (p : ℕ). option_to_list (slice_get xs p)) group new (y ∷ []) whole ps i (get_or ps i 0) below
    (number_here ps i below) (picked_one xs (get_or ps i 0) x y within is same) added so_far

-- what stands within a list, whatever stands past its end
pub same_here : {X : Type 0} (xs : List X) (i : ℕ) (d : X) → i < length xs → get_or xs i d ≡ get_or xs i (get_or xs i d)
same_here [] i d below = absurd (omega (arith, below))
same_here (x ∷ xs) zero d below = refl
same_here (x ∷ xs) (suc i) d below = same_here xs i d (omega (arith, below))
