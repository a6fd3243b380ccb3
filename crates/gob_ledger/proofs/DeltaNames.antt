-- The names of changes: each below the folder of changes, in byte order as their numbers rise.
use Rattle.std.proofs.Common.{◌≡◌, ◌⊎◌, inl, inr, ⊎_elim, ℕ, zero, suc, ◌+◌, ◌/◌, ◌%◌, ◌^◌, ◌<◌, true, false, cond}
use Rattle.std.proofs.Common.{nat_eq, List, [], ◌∷◌, ◌++◌, length, refl, sym, ap, subst, ◌∙◌, length-append}
use Rattle.std.proofs.Common.{codes, arith}
use Rattle.std.specs.declared.cmp.Ordering.{Ordering}
use Rattle.std.specs.declared.cmp.Ordering.TheVariants.{Less, Equal, Greater}
use Rattle.std.specs.List.{Contains}
use Rattle.std.specs.Ordering.{nat_cmp, ordering_then}
use Rattle.std.proofs.lemmas.Bool.{cases_order, eq-eqb, lt-ltb, le-ltb}
use Rattle.gob_bytes.proofs.Forms.{offsets_one_form, length-padded_digits}
use Rattle.gob_bytes.proofs.Tables.{less_apart, less_then, name_level, rising_tail}
use Rattle.gob_bytes.proofs.Paths.{front_more, under_front}
use Rattle.gob_bytes.specs.Digits.{offset, padded_digits}
use Rattle.gob_bytes.specs.Paths.{begins_with, state_name, delta_folder, delta_name}
use Rattle.gob_bytes.specs.Tables.{name_cmp, IsInByteOrder}
use Rattle.gob_ledger.proofs.Members.{none_in, first_in, later_in, in_cases}

-- ---- below the folder

pub change_below : (job : List ℕ) (run : ℕ) → begins_with (delta_folder job) (delta_name job run) ≡ true
change_below job run = front_more (delta_folder job) (offset run)

pub state_not_below : (job : List ℕ) → begins_with (delta_folder job) (state_name job) ≡ false
state_not_below job = under_front job (codes "delta/") (codes "state")

-- ---- different numbers, different names

cancel_front : (x y z : List ℕ) → x ++ y ≡ x ++ z → y ≡ z
cancel_front [] y z e = e
cancel_front (b ∷ bs) y z e = cancel_front bs y z (let tail : bs ++ y ≡ bs ++ z = cc in tail)

pub same_number_named : (job : List ℕ) (a b : ℕ) → a < 2 ^ 64 → b < 2 ^ 64 → delta_name job a ≡ delta_name job b → a ≡ b
same_number_named job a b small small' e =
    offsets_one_form.1 a b (omega (arith, small)) (omega (arith, small'))
    (cancel_front (delta_folder job) (offset a) (offset b) e)

-- ---- byte order

level_number : (n : ℕ) → nat_cmp n n ≡ Equal
level_number n = ap (λ b. cond b Less (cond (nat_eq n n) Equal Greater)) (le-ltb n n (omega arith))
    ∙ ap (λ b. cond b Equal Greater) (eq-eqb n n refl)

less_number : (m n : ℕ) → m < n → nat_cmp m n ≡ Less
less_number m n less = ap (λ b. cond b Less (cond (nat_eq m n) Equal Greater)) (lt-ltb m n less)

behind_front : (f x y : List ℕ) → name_cmp (f ++ x) (f ++ y) ≡ name_cmp x y
behind_front [] x y = refl
behind_front (b ∷ f) x y = ap (λ o. ordering_then o (name_cmp (f ++ x) (f ++ y))) (level_number b) ∙ behind_front f x y

cmp_push : (xs ys : List ℕ) (a b : ℕ) → length xs ≡ length ys
    → name_cmp (xs ++ a ∷ []) (ys ++ b ∷ []) ≡ ordering_then (name_cmp xs ys) (ordering_then (nat_cmp a b) Equal)
cmp_push [] [] a b same = refl
cmp_push [] (y ∷ ys) a b same = absurd (omega (arith, same))
cmp_push (x ∷ xs) [] a b same = absurd (omega (arith, same))
cmp_push (x ∷ xs) (y ∷ ys) a b same = cases (nat_cmp x y) (cmp_push xs ys a b (omega (arith, same)))
  where
    cases : (o : Ordering)
        → name_cmp (xs ++ a ∷ []) (ys ++ b ∷ []) ≡ ordering_then (name_cmp xs ys) (ordering_then (nat_cmp a b) Equal)
        → ordering_then o (name_cmp (xs ++ a ∷ []) (ys ++ b ∷ [])) ≡ ordering_then (ordering_then o (name_cmp xs ys))
        (ordering_then (nat_cmp a b) Equal)
    cases Less later = refl
    cases Equal later = later
    cases Greater later = refl

padded_order : (k m n : ℕ) → m < n → n < 10 ^ k → name_cmp (padded_digits k m) (padded_digits k n) ≡ Less
unfolding padded_digits
padded_order zero m n less small = absurd (omega (arith, less, small))
padded_order (suc k) m n less small =
    cmp_push (padded_digits k (m / 10)) (padded_digits k (n / 10)) (48 + m % 10) (48 + n % 10)
    (length-padded_digits k (m / 10) ∙ sym (length-padded_digits k (n / 10)))
    ∙ ⊎_elim
    (λ level.
    let last : m % 10 < n % 10 = omega (arith, level, less) in
    ap (λ q. ordering_then (name_cmp (padded_digits k (m / 10)) (padded_digits k q))
    (ordering_then (nat_cmp (48 + m % 10) (48 + n % 10)) Equal)) (sym level)
    ∙ ap (λ o. ordering_then o (ordering_then (nat_cmp (48 + m % 10) (48 + n % 10)) Equal))
    (name_level (padded_digits k (m / 10)))
    ∙ ap (λ o. ordering_then o Equal) (less_number (48 + m % 10) (48 + n % 10) (omega (arith, last))))
    (λ apart. ⊎_elim
    (λ front.
    ap (λ o. ordering_then o (ordering_then (nat_cmp (48 + m % 10) (48 + n % 10)) Equal))
    (padded_order k (m / 10) (n / 10) front (omega (arith, small))))
    (λ above. absurd (omega (arith, above, less)))
    apart)
    (cases_order (m / 10) (n / 10))

pub change_order : (job : List ℕ) (m n : ℕ) → m < n → n < 2 ^ 64 → name_cmp (delta_name job m) (delta_name job n) ≡ Less
unfolding offset
change_order job m n less small =
    behind_front (delta_folder job) (padded_digits 20 m) (padded_digits 20 n) ∙ padded_order 20 m n less
    (omega (arith, small))

-- ---- names in order

pub name_above : (x : List ℕ) (xs : List (List ℕ)) (y : List ℕ) → IsInByteOrder (x ∷ xs) → Contains xs y
    → name_cmp x y ≡ Less
name_above x [] y order h = none_in y h
name_above x (z ∷ zs) y order h = ⊎_elim
    (λ e. subst (λ w. name_cmp x w ≡ Less) e order.0)
    (λ k. less_then x z y order.0 (name_above z zs y order.1 k))
    (in_cases z zs y h)

pub not_itself_less : (x : List ℕ) → name_cmp x x ≡ Less → ⊥
not_itself_less x e = less_apart x x e refl

-- two lists of names in order with the same members are one
pub same_names : (xs ys : List (List ℕ)) → IsInByteOrder xs → IsInByteOrder ys
    → ((x : List ℕ) → Contains xs x → Contains ys x) → ((y : List ℕ) → Contains ys y → Contains xs y) → xs ≡ ys
same_names [] [] ox oy there back = refl
same_names [] (y ∷ ys) ox oy there back = none_in y (back y (first_in y ys y refl))
same_names (x ∷ xs) [] ox oy there back = none_in x (there x (first_in x xs x refl))
same_names (x ∷ xs) (y ∷ ys) ox oy there back =
    let level : x ≡ y =
    heads (in_cases y ys x (there x (first_in x xs x refl))) (in_cases x xs y (back y (first_in y ys y refl))) in
    let rest = same_names xs ys (rising_tail x xs ox) (rising_tail y ys oy)
    (λ z h. ⊎_elim
    (λ e. absurd (not_itself_less z (subst (λ w. name_cmp w z ≡ Less) (level ∙ e) (name_above x xs z ox h))))
    (λ k. k) (in_cases y ys z (there z (later_in x xs z h))))
    (λ z h. ⊎_elim
    (λ e. absurd
    (not_itself_less z (subst (λ w. name_cmp w z ≡ Less) (sym level ∙ e) (name_above y ys z oy h))))
    (λ k. k) (in_cases x xs z (back z (later_in y ys z h)))) in
    λ i. level i ∷ rest i
  where
    heads : (y ≡ x) ⊎ Contains ys x → (x ≡ y) ⊎ Contains xs y → x ≡ y
    heads (inl e) k = sym e
    heads (inr k) (inl e) = e
    heads (inr k) (inr l) =
        absurd (not_itself_less x (less_then x y x (name_above x xs y ox l) (name_above y ys x oy k)))
