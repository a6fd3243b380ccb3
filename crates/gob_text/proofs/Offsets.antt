-- One more digit of an offset.
use Rattle.std.proofs.Common.{◌≡◌, ℕ, zero, suc, ◌+◌, ◌-◌, ◌/◌, ◌%◌, ◌<◌, ◌≤◌, List, [], ◌∷◌, ◌++◌, length, drop, set}
use Rattle.std.proofs.Common.{refl, ap, ◌∙◌, sym, arith, append_assoc}
use Rattle.gob_bytes.specs.Digits.{padded_digits}

drop-set_here : (xs : List ℕ) (k v : ℕ) → k < length xs → drop k (set xs k v) ≡ v ∷ drop (suc k) xs
drop-set_here [] k v inside = absurd (omega arith)
drop-set_here (x ∷ xs) zero v inside = refl
drop-set_here (x ∷ xs) (suc k) v inside = drop-set_here xs k v (omega arith)

pub padded_step : (i n : ℕ) (digits : List ℕ) → 0 < i → i ≤ length digits →
    padded_digits (i - 1) (n / 10) ++ drop (i - 1) (set digits (i - 1) (48 + n % 10)) ≡ padded_digits i n
    ++ drop i digits
unfolding padded_digits
padded_step zero n digits some inside = absurd (omega arith)
padded_step (suc k) n digits some inside =
    let e : suc k - 1 ≡ k = omega arith in
    rw e (ap (λ x. padded_digits k (n / 10) ++ x) (drop-set_here digits k (48 + n % 10) (omega arith))
    ∙ sym (append_assoc (padded_digits k (n / 10)) ((48 + n % 10) ∷ []) (drop (suc k) digits)))

pub padded_none : (i n : ℕ) (digits : List ℕ) → i ≡ 0 → padded_digits i n ++ drop i digits ≡ digits
unfolding padded_digits
padded_none zero n digits e = refl
padded_none (suc k) n digits e = absurd (omega arith)
