-- Targets by their slots and places.
use Rattle.std.proofs.Common.{◌≡◌, ◌≢◌, ℕ, zero, suc, ◌+◌, ◌*◌, ◌/◌, ◌%◌, ◌<◌, Bool, true, false, cond, not, ◌&&◌}
use Rattle.std.proofs.Common.{nat_eq, nat_lt}
use Rattle.std.proofs.Common.{List, [], ◌∷◌, ◌++◌, length, refl, sym, ap, ap₂, ◌∙◌, subst, arith}
use Rattle.std.proofs.lemmas.Bool.{cond_both, and_parts, and_from, eqb-true}
use Rattle.std.proofs.lemmas.Bool.Decides.{nat_tests}
use Rattle.std.specs.Str.{bytes_eq}
use Rattle.gob_bytes.proofs.Tables.{name_itself}
use Rattle.gob_meaning.specs.Items.{Target, out, err, bad}
use Rattle.gob_meaning.specs.Fold.{same_target}
use Rattle.gob_pipeline.specs.Made.{slot_of, place_in, target_in, is_placed, is_place}

-- ---- two numbers

same_odd : (b c : ℕ) → nat_eq (2 * b + 1) (2 * c + 1) ≡ nat_eq b c
same_odd b c = cases (nat_eq b c) refl
  where
    cases : (v : Bool) → nat_eq b c ≡ v → nat_eq (2 * b + 1) (2 * c + 1) ≡ v
    cases true e = grind (arith, nat_tests)
    cases false e = grind (arith, nat_tests)

same_even : (b c : ℕ) → nat_eq (2 * b + 2) (2 * c + 2) ≡ nat_eq b c
same_even b c = cases (nat_eq b c) refl
  where
    cases : (v : Bool) → nat_eq b c ≡ v → nat_eq (2 * b + 2) (2 * c + 2) ≡ v
    cases true e = grind (arith, nat_tests)
    cases false e = grind (arith, nat_tests)

pub apart : (m n : ℕ) → m ≢ n → nat_eq m n ≡ false
apart m n e = grind (arith, nat_tests)

-- ---- two targets are one where their slots and their places are

pub same_by_slot : (t u : Target) →
    same_target t u ≡ (nat_eq (slot_of t) (slot_of u) && bytes_eq (place_in t) (place_in u))
same_by_slot (out b p) (out c q) = ap (λ v. v && bytes_eq p q) (sym (same_odd b c))
same_by_slot (err b p) (err c q) = ap (λ v. v && bytes_eq p q) (sym (same_even b c))
same_by_slot bad bad = refl
same_by_slot (out b p) (err c q) =
    sym (ap (λ v. v && bytes_eq p q) (apart (2 * b + 1) (2 * c + 2) (λ e. absurd (omega (arith, e)))))
same_by_slot (err b p) (out c q) =
    sym (ap (λ v. v && bytes_eq p q) (apart (2 * b + 2) (2 * c + 1) (λ e. absurd (omega (arith, e)))))
same_by_slot (out b p) bad =
    sym (ap (λ v. v && bytes_eq p []) (apart (2 * b + 1) 0 (λ e. absurd (omega (arith, e)))))
same_by_slot (err b p) bad =
    sym (ap (λ v. v && bytes_eq p []) (apart (2 * b + 2) 0 (λ e. absurd (omega (arith, e)))))
same_by_slot bad (out c q) =
    sym (ap (λ v. v && bytes_eq [] q) (apart 0 (2 * c + 1) (λ e. absurd (omega (arith, e)))))
same_by_slot bad (err c q) =
    sym (ap (λ v. v && bytes_eq [] q) (apart 0 (2 * c + 2) (λ e. absurd (omega (arith, e)))))

-- ---- the target of a slot and a place

pub slot_in : (n : ℕ) (place : List ℕ) → slot_of (target_in n place) ≡ n
slot_in zero place = refl
slot_in (suc n) place = cond_both (nat_eq (n % 2) 0) (out (n / 2) place) (err (n / 2) place) (λ t. slot_of t ≡ suc n)
    (λ even. let e : n % 2 ≡ 0 = eqb-true (n % 2) 0 even in omega arith)
    (λ odd. let e : n % 2 ≢ 0 = grind (arith, nat_tests) in omega arith)

-- bad lines have no place
abbrev pub HasPlace : ℕ → List ℕ → Type 0
HasPlace n place = n ≡ 0 → place ≡ []

pub place_in_slot : (n : ℕ) (place : List ℕ) → HasPlace n place → place_in (target_in n place) ≡ place
place_in_slot zero place h = sym (h refl)
place_in_slot (suc n) place h =
    cond_both (nat_eq (n % 2) 0) (out (n / 2) place) (err (n / 2) place) (λ t. place_in t ≡ place) (λ _. refl)
    (λ _. refl)

pub placed_in_slot : (n : ℕ) (place : List ℕ) → is_place place ≡ true → is_placed (target_in n place) ≡ true
placed_in_slot zero place h = refl
placed_in_slot (suc n) place h =
    cond_both (nat_eq (n % 2) 0) (out (n / 2) place) (err (n / 2) place) (λ t. is_placed t ≡ true) (λ _. h) (λ _. h)

-- a target against that of a slot and a place
pub same_in_slot : (t : Target) (n : ℕ) (place : List ℕ) → HasPlace n place →
    same_target t (target_in n place) ≡ (nat_eq (slot_of t) n && bytes_eq (place_in t) place)
same_in_slot t n place h = same_by_slot t (target_in n place)
    ∙ ap₂ (λ m p. nat_eq (slot_of t) m && bytes_eq (place_in t) p) (slot_in n place) (place_in_slot n place h)
