-- What the converters and the placer of the tests make.
use Rattle.std.proofs.Common.{◌≡◌, ℕ, zero, suc, ◌+◌, ◌-◌, ◌%◌, ◌≤◌, nat_eq, nat_lt, nat_le, true, ◌||◌, cond, List, []}
use Rattle.std.proofs.Common.{◌∷◌, filter, None, Some, refl, arith}
use Rattle.std.proofs.lemmas.Bool.{leb-true, le-leb, ltb-false, or_parts, cond_both}
use Rattle.std.specs.Cmp.Derive.{both_true}
use Rattle.std.specs.List.{list_all, range_with_len}
use Rattle.gob_convert.specs.Made.{Made, all_made}

-- the numbers from this one on, so many, that divide n
abbrev pub divisors_from : ℕ → ℕ → ℕ → List ℕ
divisors_from n from count = filter (λ k. nat_eq (n % k) 0) (range_with_len from count)

-- the divisors of a number but itself; zero and the refused number are Bad
abbrev pub divisors_but : ℕ → ℕ → Made ℕ
divisors_but refused n = cond (nat_eq n 0 || nat_eq n refused) None (Some (divisors_from n 1 (n - 1)))

-- the two numbers of a pair, and none if they are one; a pair that falls or goes past the limit is Bad
abbrev pub both_of : ℕ → ℕ × ℕ → Made ℕ
both_of limit pair = cond (nat_lt pair.1 pair.0 || nat_lt limit pair.1) None
    (cond (nat_eq pair.0 pair.1) (Some []) (Some (pair.0 ∷ pair.1 ∷ [])))

divisors_fit : (limit n from count : ℕ) → from + count ≤ limit + 1 →
    list_all (λ k. nat_le k limit) (divisors_from n from count) ≡ true
divisors_fit limit n from zero within = refl
divisors_fit limit n from (suc count) within =
    let rest = divisors_fit limit n (from + 1) count (omega arith) in
    let Fit : List ℕ → Type 0 = λ ks. list_all (λ k. nat_le k limit) ks ≡ true in
    cond_both (nat_eq (n % from) 0) (from ∷ divisors_from n (from + 1) count) (divisors_from n (from + 1) count) Fit
    (λ divides. both_true (le-leb from limit (omega arith)) rest)
    (λ other. rest)

pub divisors_but-fits : (limit refused n : ℕ) → nat_le n limit ≡ true →
    all_made (λ k. nat_le k limit) (divisors_but refused n) ≡ true
divisors_but-fits limit refused n fits =
    let within : n ≤ limit = leb-true n limit fits in
    let Fit : Made ℕ → Type 0 = λ m. all_made (λ k. nat_le k limit) m ≡ true in
    cond_both (nat_eq n 0 || nat_eq n refused) None (Some (divisors_from n 1 (n - 1))) Fit
    (λ bad. refl)
    (λ good. divisors_fit limit n 1 (n - 1) (omega arith))

pub both_of-fits : (limit : ℕ) (pair : ℕ × ℕ) → all_made (λ k. nat_le k limit) (both_of limit pair) ≡ true
both_of-fits limit pair =
    let Fit : Made ℕ → Type 0 = λ m. all_made (λ k. nat_le k limit) m ≡ true in
    cond_both (nat_lt pair.1 pair.0 || nat_lt limit pair.1) None
    (cond (nat_eq pair.0 pair.1) (Some []) (Some (pair.0 ∷ pair.1 ∷ []))) Fit
    (λ bad. refl)
    (λ good. cond_both (nat_eq pair.0 pair.1) (Some []) (Some (pair.0 ∷ pair.1 ∷ [])) Fit
    (λ same. refl)
    (λ differ.
    let parts = or_parts (nat_lt pair.1 pair.0) (nat_lt limit pair.1) good in
    let rises : pair.0 ≤ pair.1 = ltb-false pair.1 pair.0 parts.0 in
    let within : pair.1 ≤ limit = ltb-false limit pair.1 parts.1 in
    both_true (le-leb pair.0 limit (omega arith)) (both_true (le-leb pair.1 limit within) refl)))
