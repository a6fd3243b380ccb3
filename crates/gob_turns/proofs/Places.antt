-- One unit among all: what changes of those that wait where it goes on or ends.
use Rattle.std.proofs.Common.{◌≡◌, ◌≢◌, ℕ, zero, suc, ◌+◌, ◌≤◌, Bool, true, false, List, [], ◌∷◌, ◌++◌, length}
use Rattle.std.proofs.Common.{take, drop, map, refl, sym, ap, ◌∙◌, arith, Some}
use Rattle.std.proofs.Math.ListN.{set}
use Rattle.std.specs.List.{slice_get, remove}
use Rattle.std.proofs.lemmas.Option.{none-some, same_Some}
use Rattle.gob_plan.specs.declared.units.Unit.{Unit as WorkUnit}
use Rattle.gob_turns.specs.declared.progress.Progress.{Progress}
use Rattle.gob_turns.specs.Standing.{all_ahead, gather, is_open, turns_ahead}

-- ---- lists

-- these in place of what stands at a place
abbrev pub in_place : {X : Type 0} → ℕ → List X → List X → List X
in_place i here xs = take i xs ++ here ++ drop (i + 1) xs

further : {X : Type 0} (j : ℕ) (x : X) (here xs : List X) → x ∷ in_place j here xs ≡ in_place (suc j) here (x ∷ xs)
further j x here xs =
    ap (λ k. x ∷ take j xs ++ here ++ drop k (x ∷ xs)) (let e : suc (j + 1) ≡ suc j + 1 = omega arith in e)

at_first : {X : Type 0} (x : X) (here xs : List X) → here ++ xs ≡ in_place 0 here (x ∷ xs)
at_first x here xs = ap (λ k. here ++ drop k (x ∷ xs)) (let e : suc 0 ≡ 0 + 1 = omega arith in e)

pub drop_none : {X : Type 0} (i : ℕ) → drop {A = X} i [] ≡ []
drop_none zero = refl
drop_none (suc i) = refl

take_none : {X : Type 0} (i : ℕ) → take {A = X} i [] ≡ []
take_none zero = refl
take_none (suc i) = refl

nowhere : {X : Type 0} (i : ℕ) → in_place {X = X} i [] [] ≡ []
nowhere {X} i = (λ k. take_none {X = X} i k ++ [] ++ drop_none {X = X} (i + 1) k)

pub put_same : {X : Type 0} (xs : List X) (i : ℕ) (x : X) → slice_get xs i ≡ Some x → in_place i (x ∷ []) xs ≡ xs
put_same [] i x is = absurd (none-some x is)
put_same (y ∷ ys) zero x is = sym (at_first y (x ∷ []) ys) ∙ ap (λ z. z ∷ ys) (sym (same_Some y x is))
put_same (y ∷ ys) (suc i) x is = sym (further i y (x ∷ []) ys) ∙ ap (λ zs. y ∷ zs) (put_same ys i x is)

pub map_in_place : {X Y : Type 0} (f : X → Y) (xs : List X) (i : ℕ)
    → map f (in_place i [] xs) ≡ in_place i [] (map f xs)
map_in_place f [] i = ap (map f) (nowhere i) ∙ sym (nowhere i)
map_in_place f (x ∷ xs) zero =
    sym (ap (map f) (at_first x [] xs)) ∙ at_first (f x) [] (map f xs)
map_in_place f (x ∷ xs) (suc i) =
    sym (ap (map f) (further i x [] xs)) ∙ (ap (λ ys. f x ∷ ys) (map_in_place f xs i) ∙ further i (f x) [] (map f xs))

pub removed : {X : Type 0} (xs : List X) (i : ℕ) → remove xs i ≡ in_place i [] xs
removed {X} [] zero = sym (nowhere {X = X} zero)
removed {X} [] (suc i) = sym (nowhere {X = X} (suc i))
removed (x ∷ xs) zero = at_first x [] xs
removed (x ∷ xs) (suc i) = ap (λ ys. x ∷ ys) (removed xs i) ∙ further i x [] xs

pub among_first : {X : Type 0} (n i : ℕ) (xs : List X) (x : X) → slice_get (take n xs) i ≡ Some x
    → slice_get xs i ≡ Some x
among_first zero i xs x is = absurd (none-some x is)
among_first (suc n) i [] x is = absurd (none-some x is)
among_first (suc n) zero (y ∷ ys) x is = is
among_first (suc n) (suc i) (y ∷ ys) x is = among_first n i ys x is

pub got_set : {X : Type 0} (xs : List X) (i : ℕ) (x y : X) → slice_get xs i ≡ Some x → slice_get (set xs i y) i ≡ Some y
got_set [] i x y is = absurd (none-some x is)
got_set (z ∷ zs) zero x y is = refl
got_set (z ∷ zs) (suc i) x y is = got_set zs i x y is

pub got_other : {X : Type 0} (xs : List X) (i j : ℕ) (y : X) → i ≢ j → slice_get (set xs i y) j ≡ slice_get xs j
got_other [] i j y apart = refl
got_other (z ∷ zs) zero zero y apart = absurd (apart refl)
got_other (z ∷ zs) zero (suc j) y apart = refl
got_other (z ∷ zs) (suc i) zero y apart = refl
got_other (z ∷ zs) (suc i) (suc j) y apart = got_other zs i j y (λ e. apart (ap suc e))

pub length_set : {X : Type 0} (xs : List X) (i : ℕ) (y : X) → length (set xs i y) ≡ length xs
length_set [] i y = refl
length_set (z ∷ zs) zero y = refl
length_set (z ∷ zs) (suc i) y = ap suc (length_set zs i y)

-- ---- what there is of each unit

-- one thing of each unit that may have a turn, with its number, and none of another
pub record HasOneEach {X : Type 0} (f : ℕ → WorkUnit → Progress → List X) (number : X → ℕ) : Type 0 where
  pub one : (i : ℕ) (u : WorkUnit) (p : Progress) → is_open p ≡ true → (x : X) × (f i u p ≡ x ∷ []) × (number x ≡ i)
  pub none : (i : ℕ) (u : WorkUnit) (p : Progress) → is_open p ≡ false → f i u p ≡ []

either_way : {P : Type 0} (b : Bool) → (b ≡ true → P) → (b ≡ false → P) → P
either_way true one other = one refl
either_way false one other = other refl

numbered : {X : Type 0} (f : ℕ → WorkUnit → Progress → List X) (number : X → ℕ) → HasOneEach f number
    → (i : ℕ) (us : List WorkUnit) (ps : List Progress) (j : ℕ) (x : X) → slice_get (gather f i us ps) j ≡ Some x
    → i ≤ number x
numbered f number has i [] ps j x is = absurd (none-some x is)
numbered f number has i (u ∷ us) [] j x is = absurd (none-some x is)
numbered {X} f number has i (u ∷ us) (p ∷ ps) j x is =
    let later = numbered f number has (i + 1) us ps in
    either_way (is_open p)
    (λ goes. let o = has.one i u p goes in
    here later o.0 o.2 j (sym (ap (λ xs. slice_get (xs ++ rest) j) o.1) ∙ is))
    (λ stays. above later j (sym (ap (λ xs. slice_get (xs ++ rest) j) (has.none i u p stays)) ∙ is))
  where
    rest : List X
    rest = gather f (i + 1) us ps

    Later : Type 0
    Later = (k : ℕ) (y : X) → slice_get rest k ≡ Some y → i + 1 ≤ number y

    above : Later → (k : ℕ) → slice_get rest k ≡ Some x → i ≤ number x
    above later k at = let more = later k x at in omega arith

    here : Later → (y : X) → number y ≡ i → (k : ℕ) → slice_get (y ∷ rest) k ≡ Some x → i ≤ number x
    here later y same zero at = let e : number y ≡ number x = ap number (same_Some y x at) in omega arith
    here later y same (suc k) at = above later k at

-- the thing of a unit, and what there is where the unit goes on
pub record IsAmong {X : Type 0} (f : ℕ → WorkUnit → Progress → List X) (i : ℕ) (us : List WorkUnit)
    (ps : List Progress) (m n : ℕ) (u : WorkUnit) (p : Progress) (j : ℕ) (x : X) : Type 0 where
  pub is : f n u p ≡ x ∷ []
  pub goes : (q : Progress) → gather f i us (set ps m q) ≡ in_place j (f n u q) (gather f i us ps)

pub is_among : {X : Type 0} (f : ℕ → WorkUnit → Progress → List X) (number : X → ℕ) → HasOneEach f number
    → (i : ℕ) (us : List WorkUnit) (ps : List Progress) (m n : ℕ) (u : WorkUnit) (p : Progress) (j : ℕ) (x : X)
    → n ≡ i + m → slice_get us m ≡ Some u → slice_get ps m ≡ Some p → is_open p ≡ true
    → slice_get (gather f i us ps) j ≡ Some x → number x ≡ n → IsAmong f i us ps m n u p j x
is_among f number has i [] ps m n u p j x place here there goes at named = absurd (none-some u here)
is_among f number has i (v ∷ us) [] m n u p j x place here there goes at named = absurd (none-some p there)
is_among {X} f number has i (v ∷ us) (r ∷ ps) zero n u p j x place here there goes at named = first j at
  where
    rest : List X
    rest = gather f (i + 1) us ps

    same : n ≡ i
    same = omega arith

    unit : v ≡ u
    unit = same_Some v u here

    state : r ≡ p
    state = same_Some r p there

    its : i ≡ n
    its = sym same

    back : u ≡ v
    back = sym unit

    was : p ≡ r
    was = sym state

    one : (y : X) × (f i v r ≡ y ∷ []) × (number y ≡ i)
    one = has.one i v r (ap is_open state ∙ goes)

    first : (k : ℕ) → slice_get (f i v r ++ rest) k ≡ Some x → IsAmong f i (v ∷ us) (r ∷ ps) zero n u p k x
    first zero found =
        let y_is : one.0 ≡ x =
        same_Some one.0 x (sym (ap (λ xs. slice_get (xs ++ rest) 0) one.1) ∙ found) in
        record {
          is = (λ k. f (same k) (back k) (was k)) ∙ (one.1 ∙ ap (λ z. z ∷ []) y_is);
          goes = λ q. (λ k. f (its k) (unit k) q ++ rest)
              ∙ (at_first one.0 (f n u q) rest ∙ sym (ap (λ xs. in_place 0 (f n u q) (xs ++ rest)) one.1));
        }
    first (suc k) found =
        let later : slice_get rest k ≡ Some x = sym (ap (λ xs. slice_get (xs ++ rest) (suc k)) one.1) ∙ found in
        let above = numbered f number has (i + 1) us ps k x later in absurd (omega arith)
is_among {X} f number has i (v ∷ us) (r ∷ ps) (suc m) n u p j x place here there goes at named =
    let next : Next =
    λ k found. is_among f number has (i + 1) us ps m n u p k x (omega arith) here there goes found named in
    either_way (is_open r)
    (λ more. let o = has.one i v r more in
    opened next o.0 o.1 o.2 j (sym (ap (λ xs. slice_get (xs ++ rest) j) o.1) ∙ at))
    (λ stays. closed next (has.none i v r stays))
  where
    rest : List X
    rest = gather f (i + 1) us ps

    Next : Type 0
    Next = (k : ℕ) → slice_get rest k ≡ Some x → IsAmong f (i + 1) us ps m n u p k x

    closed : Next → f i v r ≡ [] → IsAmong f i (v ∷ us) (r ∷ ps) (suc m) n u p j x
    closed next none =
        let later = next j (sym (ap (λ xs. slice_get (xs ++ rest) j) none) ∙ at) in
        record {
          is = later.is;
          goes = λ q. ap (λ xs. xs ++ gather f (i + 1) us (set ps m q)) none
              ∙ (later.goes q ∙ sym (ap (λ xs. in_place j (f n u q) (xs ++ rest)) none));
        }

    opened : Next → (y : X) → f i v r ≡ y ∷ [] → number y ≡ i → (k : ℕ) → slice_get (y ∷ rest) k ≡ Some x
        → IsAmong f i (v ∷ us) (r ∷ ps) (suc m) n u p k x
    opened next y one its zero found =
        let e : number y ≡ number x = ap number (same_Some y x found) in absurd (omega arith)
    opened next y one its (suc k) found =
        let later = next k found in
        record {
          is = later.is;
          goes = λ q. ap (λ xs. xs ++ gather f (i + 1) us (set ps m q)) one
              ∙ (ap (λ xs. y ∷ xs) (later.goes q)
              ∙ (further k y (f n u q) rest ∙ sym (ap (λ xs. in_place (suc k) (f n u q) (xs ++ rest)) one)));
        }

-- ---- how many turns can come

pub ahead_moves : (retries : ℕ) (us : List WorkUnit) (ps : List Progress) (m : ℕ) (u : WorkUnit) (p q : Progress)
    → slice_get us m ≡ Some u → slice_get ps m ≡ Some p
    → all_ahead retries us (set ps m q) + turns_ahead retries u p ≡ all_ahead retries us ps + turns_ahead retries u q
ahead_moves retries [] ps m u p q here there = absurd (none-some u here)
ahead_moves retries (v ∷ us) [] m u p q here there = absurd (none-some p there)
ahead_moves retries (v ∷ us) (r ∷ ps) zero u p q here there =
    let one : turns_ahead retries v q ≡ turns_ahead retries u q =
    ap (λ w. turns_ahead retries w q) (same_Some v u here) in
    let two : turns_ahead retries v r ≡ turns_ahead retries u p =
    (λ k. turns_ahead retries (same_Some v u here k) (same_Some r p there k)) in
    omega (arith, one, two)
ahead_moves retries (v ∷ us) (r ∷ ps) (suc m) u p q here there =
    let later = ahead_moves retries us ps m u p q here there in omega (arith, later)
