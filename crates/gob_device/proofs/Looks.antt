-- What looks tell, told again.
use Rattle.std.proofs.Common.{◌≡◌, ℕ, true, false, cond, nat_eq, List, [], ◌∷◌, ◌++◌, length, take, refl, sym, ap, ◌∙◌}
use Rattle.std.proofs.lemmas.List.{length-map, take_at}
use Rattle.gob_device.specs.Supply.{line_end_or_zero, seen_by_look}

pub length-looked : (bytes : List ℕ) → length (seen_by_look bytes) ≡ length bytes
unfolding seen_by_look
length-looked bytes = length-map bytes line_end_or_zero

told_once : (b : ℕ) → line_end_or_zero (line_end_or_zero b) ≡ line_end_or_zero b
told_once b = elim (nat_eq b 10) as (λ v. line_end_or_zero (cond v 10 0) ≡ cond v 10 0) [
  | true ↦ refl
  | false ↦ refl
]

pub looked-looked : (bytes : List ℕ) → seen_by_look (seen_by_look bytes) ≡ seen_by_look bytes
unfolding seen_by_look
looked-looked [] = refl
looked-looked (b ∷ bytes) = λ i. told_once b i ∷ looked-looked bytes i

-- the front of a buffer that was looked at
pub looked-front : (n : ℕ) (bytes others : List ℕ) → length bytes ≡ n
    → seen_by_look (take n (seen_by_look bytes ++ others)) ≡ take n (seen_by_look bytes ++ others)
looked-front n bytes others e =
    let front : take n (seen_by_look bytes ++ others) ≡ seen_by_look bytes =
    take_at (seen_by_look bytes) others n (length-looked bytes ∙ e) in
    ap seen_by_look front ∙ (looked-looked bytes ∙ sym front)
