-- Lists that were added to, and loops that add.
use Rattle.std.proofs.Common.{◌≡◌, ℕ, suc, ◌≤◌, ◌<◌, ◌+◌, List, [], ◌∷◌, ◌++◌, length, take, drop, get_or, refl, sym}
use Rattle.std.proofs.Common.{ap, ◌∙◌, arith, take_all, append_assoc, true, false, ◌==◌}
use Rattle.std.proofs.lemmas.List.{take-take, take_at, length-take, get_or_default, drop_more, drop_all}
use Rattle.std.proofs.lemmas.Bool.{false_from_ne_true}
use Rattle.std.specs.List.{list_any}
use Rattle.gob_formats.specs.Adding.{KeepsFront}

pub keeps_same : {A : Type 0} (xs : List A) → KeepsFront xs xs
keeps_same xs = take_all (length xs) xs (omega arith)

pub keeps_added : {A : Type 0} (xs ys : List A) → KeepsFront xs (xs ++ ys)
keeps_added xs ys = take_at xs ys (length xs) refl

pub keeps_adds : {A : Type 0} (old new part : List A) → new ≡ old ++ part → KeepsFront old new
keeps_adds old new part is = ap (take (length old)) is ∙ keeps_added old part

pub keeps_then : {A : Type 0} (a b c : List A) → KeepsFront a b → KeepsFront b c → KeepsFront a c
keeps_then a b c first second =
    let min_is = length-take (length a) b in
    let same = ap length first in
    let short : length a ≤ length b = omega (arith, min_is, same) in
    sym (take-take (length a) (length b) c short) ∙ ap (take (length a)) second ∙ first

-- what a loop adds for each item of a list
pub loop_adds : {X A : Type 0} (F : List X → List A) (part : X → List A) (xs : List X) (i : ℕ) (x : X)
    (before now next : List A) → ((y : X) (ys : List X) → F (y ∷ ys) ≡ part y ++ F ys) → i < length xs
    → x ≡ get_or xs i x → next ≡ now ++ part x → now ++ F (drop i xs) ≡ before ++ F xs
    → next ++ F (drop (i + 1) xs) ≡ before ++ F xs
loop_adds F part xs i x before now next splits within is adds so_far =
    let here : drop i xs ≡ x ∷ drop (i + 1) xs =
    drop_more xs i x within ∙ ap (λ y. y ∷ drop (i + 1) xs) (sym is) in
    ap (λ l. l ++ F (drop (i + 1) xs)) adds ∙ append_assoc now (part x) (F (drop (i + 1) xs))
    ∙ ap (λ l. now ++ l) (sym (ap F here ∙ splits x (drop (i + 1) xs))) ∙ so_far

-- the same, where the item is read at its place
pub loop_adds_at : {X A : Type 0} (F : List X → List A) (part : X → List A) (xs : List X) (i : ℕ) (d : X)
    (before now next : List A) → ((y : X) (ys : List X) → F (y ∷ ys) ≡ part y ++ F ys) → i < length xs
    → next ≡ now ++ part (get_or xs i d) → now ++ F (drop i xs) ≡ before ++ F xs
    → next ++ F (drop (i + 1) xs) ≡ before ++ F xs
loop_adds_at F part xs i d before now next splits within adds so_far =
    loop_adds F part xs i (get_or xs i d) before now next splits within
    (get_or_default xs i d (get_or xs i d) within) adds so_far

-- what a loop has added at its end
pub loop_added : {X A : Type 0} (F : List X → List A) (xs : List X) (i : ℕ) (before now : List A)
    → length xs ≤ i → now ++ F (drop i xs) ≡ before ++ F xs → now ++ F [] ≡ before ++ F xs
loop_added F xs i before now over so_far = ap (λ l. now ++ F l) (sym (drop_all i xs over)) ∙ so_far

-- a byte that is found nowhere
pub nowhere : (a : ℕ) (xs : List ℕ) → ((k : ℕ) → 0 ≤ k → k < length xs → (get_or xs k 0 == a) ≡ true → ⊥)
    → list_any (λ b. b == a) xs ≡ false
nowhere a [] none = refl
nowhere a (x ∷ xs) none =
    let here = false_from_ne_true (x == a) (none 0 (omega arith) (omega arith)) in
    rw here (nowhere a xs (λ k low high. none (suc k) (omega arith) (omega arith)))

-- a text between two others
pub wrapped : (old text close : List ℕ) (b : ℕ) → ((old ++ b ∷ []) ++ text) ++ close ≡ old ++ b ∷ (text ++ close)
wrapped old text close b = simp append_assoc
