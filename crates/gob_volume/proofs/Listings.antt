-- The names of a table that a test lets through.
use Rattle.std.proofs.Common.{◌≡◌, ℕ, zero, suc, Bool, true, false, cond, List, [], ◌∷◌, refl, sym, ap, subst, ◌∙◌}
use Rattle.std.proofs.Common.{Some, arith, IsSome}
use Rattle.std.specs.List.{Contains, filter}
use Rattle.std.specs.declared.cmp.Ordering.TheVariants.{Less}
use Rattle.std.specs.Str.{bytes_eq}
use Rattle.gob_bytes.specs.Paths.{begins_with}
use Rattle.gob_bytes.specs.Tables.{Table, name_cmp, at_name, names_of, IsInByteOrder}
use Rattle.gob_bytes.proofs.Tables.{same_name, name_itself, less_then, rising_tail}
use Rattle.gob_device.specs.Disk.{File, IsListing}
use Rattle.gob_memory.proofs.Places.{rising_shorter}

let_through : {X : Type 0} (p : X → Bool) (xs : List X) (n : X) → Contains (filter p xs) n → (p n ≡ true)
    × Contains xs n
let_through p [] n (k, below, is) = absurd (omega (arith, below))
let_through {X} p (x ∷ xs) n among = cases (p x) refl among (let_through p xs n)
  where
    later : (p n ≡ true) × Contains xs n → (p n ≡ true) × Contains (x ∷ xs) n
    later (passes, (k, below, is)) = (passes, (suc k, omega (arith, below), is))

    cases : (b : Bool) → p x ≡ b → Contains (cond b (x ∷ filter p xs) (filter p xs)) n
        → (Contains (filter p xs) n → (p n ≡ true) × Contains xs n) → (p n ≡ true) × Contains (x ∷ xs) n
    cases true is (zero, below, same) rest = (sym (ap p same) ∙ is, (0, omega arith, same))
    cases true is (suc k, below, same) rest = later (rest (k, omega (arith, below), same))
    cases false is among rest = later (rest among)

comes_through : {X : Type 0} (p : X → Bool) (xs : List X) (n : X) → p n ≡ true → Contains xs n
    → Contains (filter p xs) n
comes_through p [] n passes (k, below, is) = absurd (omega (arith, below))
comes_through p (x ∷ xs) n passes (zero, below, is) = rw (ap p is ∙ passes) (0, omega arith, is)
comes_through {X} p (x ∷ xs) n passes (suc k, below, is) = cases (p x)
    (comes_through p xs n passes (k, omega (arith, below), is))
  where
    cases : (b : Bool) → Contains (filter p xs) n → Contains (cond b (x ∷ filter p xs) (filter p xs)) n
    cases true (j, under, same) = (suc j, omega (arith, under), same)
    cases false rest = rest

named_there : {X : Type 0} (t : Table X) (n : List ℕ) → Contains (names_of t) n → IsSome (at_name t n)
named_there [] n (k, below, is) = absurd (omega (arith, below))
named_there (e ∷ es) n (zero, below, is) =
    let same : bytes_eq n e.0 ≡ true = subst (λ m. bytes_eq n m ≡ true) (sym is) (name_itself n) in
    rw same refl
named_there {X} (e ∷ es) n (suc k, below, is) = cases (bytes_eq n e.0) (named_there es n (k, omega (arith, below), is))
  where
    cases : (b : Bool) → IsSome (at_name es n) → IsSome (cond b (Some e.1) (at_name es n))
    cases true rest = refl
    cases false rest = rest

there_named : {X : Type 0} (t : Table X) (n : List ℕ) → IsSome (at_name t n) → Contains (names_of t) n
there_named [] n there = cc
there_named {X} (e ∷ es) n there = cases (bytes_eq n e.0) refl there (there_named es n)
  where
    cases : (b : Bool) → bytes_eq n e.0 ≡ b → IsSome (cond b (Some e.1) (at_name es n))
        → (IsSome (at_name es n) → Contains (names_of es) n) → Contains (names_of (e ∷ es)) n
    cases true is there rest = (0, omega arith, sym (same_name n e.0 is))
    cases false is there rest = let later = rest there in (suc later.0, omega (arith, later.1), later.2)

rising_under : (p : List ℕ → Bool) (low : List ℕ) (xs : List (List ℕ)) → IsInByteOrder (low ∷ xs)
    → IsInByteOrder (low ∷ filter p xs)
rising_under p low [] rising = tt
rising_under p low (x ∷ xs) rising = cases (p x) (rising_under p x xs rising.1)
    (rising_under p low xs (rising_shorter low x xs rising.0 rising.1))
  where
    cases : (b : Bool) → IsInByteOrder (x ∷ filter p xs) → IsInByteOrder (low ∷ filter p xs)
        → IsInByteOrder (low ∷ cond b (x ∷ filter p xs) (filter p xs))
    cases true with_it without = (rising.0, with_it)
    cases false with_it without = without

rising-filter : (p : List ℕ → Bool) (xs : List (List ℕ)) → IsInByteOrder xs → IsInByteOrder (filter p xs)
rising-filter p [] rising = tt
rising-filter p (x ∷ xs) rising = cases (p x) (rising_under p x xs rising)
    (rising-filter p xs (rising_tail x xs rising))
  where
    cases : (b : Bool) → IsInByteOrder (x ∷ filter p xs) → IsInByteOrder (filter p xs)
        → IsInByteOrder (cond b (x ∷ filter p xs) (filter p xs))
    cases true with_it without = with_it
    cases false with_it without = without

pub listing_of_table : (front : List ℕ) (t : Table File) → IsInByteOrder (names_of t)
    → IsListing front (at_name t) (filter (begins_with front) (names_of t))
listing_of_table front t rising = record {
  rising = rising-filter (begins_with front) (names_of t) rising;
  exact = λ n. (
    λ among. let through = let_through (begins_with front) (names_of t) n among in
        (through.0, named_there t n through.1),
    λ both. comes_through (begins_with front) (names_of t) n both.0 (there_named t n both.1),
  );
}
