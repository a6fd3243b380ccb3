-- The keys that a row has for the branches.
use Rattle.std.proofs.Common.{◌≡◌, ◌≢◌, ℕ, ◌<◌, ◌^◌, nat_lt, ◌||◌, Bool, true, false, List, [], ◌∷◌, ◌++◌}
use Rattle.std.proofs.Common.{Some, None, refl, sym, ap, subst, ◌∙◌, arith}
use Rattle.std.specs.Fmt.{decimal}
use Rattle.std.specs.List.{flat_map, list_any}
use Rattle.std.specs.Str.{bytes_eq}
use Rattle.std.proofs.lemmas.Bool.{ltb-true}
use Rattle.std.proofs.lemmas.Bool.Decides.{nat_tests}
use Rattle.std.proofs.lemmas.List.Folds.{list_any-append}
use Rattle.std.proofs.lemmas.List.{append_cancel_left}
use Rattle.gob_bytes.specs.Numbers.{number_read}
use Rattle.gob_bytes.proofs.Forms.{one_form}
use Rattle.gob_jobs.specs.KeyTable.{Row, first_rows, branch_rows, last_rows}
use Rattle.gob_jobs.specs.Reading.{with_number, keys_of_row, is_known}
use Rattle.gob_job.specs.KeysKnown.{any_number}
use Rattle.gob_jobs.proofs.Unknown.{own_among, among_own}

none_there : (v : Bool) → (v ≡ true → ⊥) → false ≡ v
none_there true never = absurd (never refl)
none_there false never = refl

-- a key of another front
pub no_front : (n : ℕ) (k key : List ℕ) → ((rest : List ℕ) → key ≢ k ++ rest) → false ≡ any_number n k key
no_front n k key never = none_there (any_number n k key) (λ is. let p = among_own n k key is in
    never (46 ∷ decimal p.0) p.2)

-- without a dot behind its front
pub no_dot : (n : ℕ) (k key rest : List ℕ) → key ≡ k ++ rest → ((number : List ℕ) → rest ≢ 46 ∷ number)
    → false ≡ any_number n k key
no_dot n k key rest is never =
    none_there (any_number n k key) (λ any. let p = among_own n k key any in
    never (decimal p.0) (append_cancel_left k rest (46 ∷ decimal p.0) (sym is ∙ p.2)))

same_number : (k key number : List ℕ) (b : ℕ) → key ≡ k ++ 46 ∷ number → key ≡ with_number k b → number ≡ decimal b
same_number k key number b is own =
    let e : 46 ∷ number ≡ 46 ∷ decimal b = append_cancel_left k (46 ∷ number) (46 ∷ decimal b) (sym is ∙ own) in cc

-- without a number behind its dot
pub no_number : (n : ℕ) (k key number : List ℕ) → n < 2 ^ 64 → key ≡ k ++ 46 ∷ number → number_read number ≡ None
    → false ≡ any_number n k key
no_number n k key number small is none =
    none_there (any_number n k key)
    (λ any.
    let p = among_own n k key any in
    let read : number_read number ≡ Some p.0 = (one_form number p.0).1
    (same_number k key number p.0 is p.2, omega arith) in
    cc)

-- with a number of a branch
pub with_branch : (n : ℕ) (k key number : List ℕ) (b : ℕ) → key ≡ k ++ 46 ∷ number → number_read number ≡ Some b → b < n
    → true ≡ any_number n k key
with_branch n k key number b is read small =
    let form = (one_form number b).0 read in
    sym (own_among n k key (b, small, is ∙ ap (λ x. k ++ 46 ∷ x) form.0))

-- with a number of none
pub past_branches : (n : ℕ) (k key number : List ℕ) (b : ℕ) → n < 2 ^ 64 → key ≡ k ++ 46 ∷ number
    → number_read number ≡ Some b → (b < n → ⊥) → false ≡ any_number n k key
past_branches n k key number b small is read past =
    none_there (any_number n k key)
    (λ any.
    let p = among_own n k key any in
    let other : number_read number ≡ Some p.0 = (one_form number p.0).1
    (same_number k key number p.0 is p.2, omega arith) in
    let same : p.0 ≡ b = cc in
    past (subst (λ x. x < n) same p.1))

-- by the number behind its dot
pub below : (n : ℕ) (k key number : List ℕ) (b : ℕ) → n < 2 ^ 64 → key ≡ k ++ 46 ∷ number → number_read number ≡ Some b
    → nat_lt b n ≡ any_number n k key
below n k key number b small is read =
    elim (nat_lt b n) as (λ v. nat_lt b n ≡ v → v ≡ any_number n k key) [
      | true ↦ λ e. with_branch n k key number b is read (ltb-true b n e)
      | false ↦ λ e. past_branches n k key number b small is read (λ lt. past b n e lt)
    ] refl
  where
    past : (x y : ℕ) → nat_lt x y ≡ false → x < y → ⊥
    past x y e lt = grind (arith, nat_tests)

-- ---- the keys of all rows

any_in : (p : List ℕ → Bool) (n : ℕ) (xs ys : List Row)
    → list_any p (flat_map (keys_of_row n) (xs ++ ys))
    ≡ (list_any p (flat_map (keys_of_row n) xs) || list_any p (flat_map (keys_of_row n) ys))
any_in p n [] ys = refl
any_in p n (x ∷ xs) ys =
    list_any-append p (keys_of_row n x) (flat_map (keys_of_row n) (xs ++ ys))
    ∙ (ap (λ v. list_any p (keys_of_row n x) || v) (any_in p n xs ys)
    ∙ (sym (or_assoc (list_any p (keys_of_row n x)) (list_any p (flat_map (keys_of_row n) xs))
    (list_any p (flat_map (keys_of_row n) ys)))
    ∙ ap (λ v. v || list_any p (flat_map (keys_of_row n) ys))
    (sym (list_any-append p (keys_of_row n x) (flat_map (keys_of_row n) xs)))))
  where
    or_assoc : (x y z : Bool) → ((x || y) || z) ≡ (x || (y || z))
    or_assoc true y z = refl
    or_assoc false y z = refl

pub known_parts : (n : ℕ) (key : List ℕ) → is_known n key
    ≡ ((list_any (bytes_eq key) (flat_map (keys_of_row n) first_rows)
    || list_any (bytes_eq key) (flat_map (keys_of_row n) branch_rows))
    || list_any (bytes_eq key) (flat_map (keys_of_row n) last_rows))
known_parts n key =
    any_in (bytes_eq key) n (first_rows ++ branch_rows) last_rows
    ∙ ap (λ v. v || list_any (bytes_eq key) (flat_map (keys_of_row n) last_rows))
    (any_in (bytes_eq key) n first_rows branch_rows)
