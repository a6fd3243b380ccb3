-- Lists of which a front was mapped.
use Rattle.std.proofs.Common.{◌≡◌, ℕ, zero, suc, ◌<◌, List, [], ◌∷◌, length, map, get_or, refl, sym, ap, ◌∙◌, arith}
use Rattle.std.proofs.Common.{take, drop, ◌++◌}
use Rattle.std.proofs.Math.Seq.{take-append_seam}
use Rattle.std.proofs.Math.ListN.{set}

-- the first so many are mapped
abbrev pub map_front : {A : Type 0} → (A → A) → ℕ → List A → List A
map_front f zero xs = xs
map_front f (suc n) [] = []
map_front f (suc n) (x ∷ xs) = f x ∷ map_front f n xs

pub front_kept : {A : Type 0} (f : A → A) (n : ℕ) (xs : List A) (d : A) → n < length xs →
    get_or (map_front f n xs) n d ≡ get_or xs n d
front_kept f zero xs d lt = refl
front_kept f (suc n) [] d lt = absurd (omega arith)
front_kept f (suc n) (x ∷ xs) d lt = front_kept f n xs d (omega arith)

-- one more
pub front_more : {A : Type 0} (f : A → A) (n : ℕ) (xs : List A) (d : A) → n < length xs →
    set (map_front f n xs) n (f (get_or xs n d)) ≡ map_front f (suc n) xs
front_more f zero [] d lt = absurd (omega arith)
front_more f zero (x ∷ xs) d lt = refl
front_more f (suc n) [] d lt = absurd (omega arith)
front_more f (suc n) (x ∷ xs) d lt = ap (λ ys. f x ∷ ys) (front_more f n xs d (omega arith))

-- all of them
pub front_all : {A : Type 0} (f : A → A) (xs : List A) → map_front f (length xs) xs ≡ map f xs
front_all f [] = refl
front_all f (x ∷ xs) = ap (λ ys. f x ∷ ys) (front_all f xs)

pub front_length : {A : Type 0} (f : A → A) (n : ℕ) (xs : List A) → length (map_front f n xs) ≡ length xs
front_length f zero xs = refl
front_length f (suc n) [] = refl
front_length f (suc n) (x ∷ xs) = ap suc (front_length f n xs)

-- what was lent as a whole is what was written there
pub refilled : {A : Type 0} (n : ℕ) (new old : List A) → n ≡ length new →
    take n (new ++ drop (length new) old) ≡ new
refilled n new old e = ap (λ k. take k (new ++ drop (length new) old)) e ∙ take-append_seam new (drop (length new) old)
