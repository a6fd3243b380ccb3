-- Names and pairs of names that differ.
use Rattle.std.proofs.Common.{◌≡◌, ◌≢◌, ◌⊎◌, inl, inr, ⊎_elim, ℕ, Bool, true, false, cond, ◌||◌, List, [], ◌∷◌, ◌++◌}
use Rattle.std.proofs.Common.{refl, sym, ap, subst, ◌∙◌}
use Rattle.std.specs.List.{AllByRecursion, Contains, IsDistinct, filter, flat_map, list_all}
use Rattle.std.specs.List.Sorted.{IsPermutation}
use Rattle.std.specs.Str.{bytes_eq}
use Rattle.std.proofs.lemmas.Bool.{and_from, and_parts}
use Rattle.std.proofs.lemmas.List.Sorted.{Contains-permutation, IsPermutation-sym}
use Rattle.std.proofs.lemmas.Map.Keys.{IsDistinct-IsPermutation}
use Rattle.gob_ledger.proofs.Changes.{all_member}
use Rattle.gob_ledger.proofs.Members.{first_in, flat_map_in, in_cases, in_filter, in_flat_map, later_in, none_in}
use Rattle.gob_recovery.specs.Sequence.{names_in}
use Rattle.gob_recovery.proofs.Again.{turned}
use Rattle.gob_history.specs.Laws.{moves_of}
use Rattle.gob_commit.specs.Staged.{Pair}

-- ---- what holds of each

pub each_all : {X : Type 0} (P : X → Type 0) (xs : List X) → ((x : X) → Contains xs x → P x) → AllByRecursion P xs
each_all P [] f = tt
each_all P (x ∷ xs) f = (f x (first_in x xs x refl), each_all P xs (λ y h. f y (later_in x xs y h)))

all_both : {X : Type 0} (P : X → Type 0) (xs ys : List X) → AllByRecursion P xs → AllByRecursion P ys
    → AllByRecursion P (xs ++ ys)
all_both P [] ys a b = b
all_both P (x ∷ xs) ys a b = (a.0, all_both P xs ys a.1 b)

all_front : {X : Type 0} (P : X → Type 0) (xs ys : List X) → AllByRecursion P (xs ++ ys) → AllByRecursion P xs
all_front P [] ys a = tt
all_front P (x ∷ xs) ys a = (a.0, all_front P xs ys a.1)

all_back : {X : Type 0} (P : X → Type 0) (xs ys : List X) → AllByRecursion P (xs ++ ys) → AllByRecursion P ys
all_back P [] ys a = a
all_back P (x ∷ xs) ys a = all_back P xs ys a.1

pub list_all_of : {X : Type 0} (p : X → Bool) (xs : List X) → ((x : X) → Contains xs x → p x ≡ true)
    → list_all p xs ≡ true
list_all_of p [] f = refl
list_all_of p (x ∷ xs) f =
    and_from (p x) (list_all p xs) (f x (first_in x xs x refl)) (list_all_of p xs (λ y h. f y (later_in x xs y h)))

pub list_all_at : {X : Type 0} (p : X → Bool) (xs : List X) (x : X) → list_all p xs ≡ true → Contains xs x
    → p x ≡ true
list_all_at p [] x all h = none_in x h
list_all_at p (y ∷ ys) x all h =
    let both = and_parts (p y) (list_all p ys) all in
    ⊎_elim (λ e. sym (ap p e) ∙ both.0) (λ k. list_all_at p ys x both.1 k) (in_cases y ys x h)

-- ---- lists in which no two are equal

pub record Joined {X : Type 0} (e : X → X → Bool) (xs ys : List X) : Type 0 where
  pub front : IsDistinct e xs
  pub back : IsDistinct e ys
  pub apart : (x y : X) → Contains xs x → Contains ys y → e x y ≡ false

pub distinct_both : {X : Type 0} (e : X → X → Bool) (xs ys : List X) → Joined e xs ys → IsDistinct e (xs ++ ys)
unfolding IsDistinct
distinct_both e [] ys j = j.back
distinct_both e (x ∷ xs) ys j = (
  all_both (λ y. e x y ≡ false) xs ys j.front.0
      (each_all (λ y. e x y ≡ false) ys (λ y h. j.apart x y (first_in x xs x refl) h)),
  distinct_both e xs ys
      (record { front = j.front.1; back = j.back; apart = λ v y h k. j.apart v y (later_in x xs v h) k }),
)

pub distinct_parts : {X : Type 0} (e : X → X → Bool) (xs ys : List X) → IsDistinct e (xs ++ ys) → Joined e xs ys
unfolding IsDistinct
distinct_parts e [] ys d = record { front = tt; back = d; apart = λ x y h k. none_in x h }
distinct_parts e (x ∷ xs) ys d =
    let later = distinct_parts e xs ys d.1 in
    record {
      front = (all_front (λ y. e x y ≡ false) xs ys d.0, later.front);
      back = later.back;
      apart = λ v y h k. ⊎_elim
          (λ same. subst (λ z. e z y ≡ false) same
          (all_member (λ w. e x w ≡ false) ys y (all_back (λ w. e x w ≡ false) xs ys d.0) k))
          (λ l. later.apart v y l k)
          (in_cases x xs v h);
    }

-- what some of the items give
pub some_given : {X Y : Type 0} (f : X → List Y) (p : X → Bool) (xs : List X) (y : Y)
    → Contains (flat_map f (filter p xs)) y → Contains (flat_map f xs) y
some_given f p xs y h =
    let found = in_flat_map f (filter p xs) y h in
    flat_map_in f xs found.0 y (in_filter p xs found.0 found.1).0 found.2

pub distinct_some : {X Y : Type 0} (e : Y → Y → Bool) (f : X → List Y) (p : X → Bool) (xs : List X)
    → IsDistinct e (flat_map f xs) → IsDistinct e (flat_map f (filter p xs))
distinct_some e f p [] d = d
distinct_some {X} {Y} e f p (x ∷ xs) d =
    let j = distinct_parts e (f x) (flat_map f xs) d in
    cases (p x) j (distinct_some e f p xs j.back)
  where
    cases : (b : Bool) → Joined e (f x) (flat_map f xs) → IsDistinct e (flat_map f (filter p xs))
        → IsDistinct e (flat_map f (cond b (x ∷ filter p xs) (filter p xs)))
    cases true j later = distinct_both e (f x) (flat_map f (filter p xs)) (record {
      front = j.front;
      back = later;
      apart = λ v y h k. j.apart v y h (some_given f p xs y k);
    })
    cases false j later = later

-- what two different items give
pub given_apart : {X Y : Type 0} (e : Y → Y → Bool) → ((a b : Y) → e a b ≡ e b a) → (f : X → List Y) (xs : List X)
    (w v : X) (a b : Y)
    → IsDistinct e (flat_map f xs) → Contains xs w → Contains xs v → w ≢ v → Contains (f w) a → Contains (f v) b
    → e a b ≡ false
given_apart e flips f [] w v a b d hw hv apart ha hb = none_in w hw
given_apart {X} {Y} e flips f (x ∷ xs) w v a b d hw hv apart ha hb =
    let j = distinct_parts e (f x) (flat_map f xs) d in
    ⊎_elim
    (λ sw. ⊎_elim
    (λ sv. absurd (apart (sym sw ∙ sv)))
    (λ kv. j.apart a b (subst (λ z. Contains (f z) a) (sym sw) ha) (flat_map_in f xs v b kv hb))
    (in_cases x xs v hv))
    (λ kw. ⊎_elim
    (λ sv. flips a b ∙ j.apart b a (subst (λ z. Contains (f z) b) (sym sv) hb) (flat_map_in f xs w a kw ha))
    (λ kv. given_apart e flips f xs w v a b j.back kw kv apart ha hb)
    (in_cases x xs v hv))
    (in_cases x xs w hw)

-- ---- pairs of names

-- a name of the one is a name of the other
abbrev pub clash : Pair → Pair → Bool
clash p q = bytes_eq p.0 q.0 || bytes_eq p.0 q.1 || bytes_eq p.1 q.0 || bytes_eq p.1 q.1

or_middle : (a b c d : Bool) → (a || b || c || d) ≡ (a || c || b || d)
or_middle true b c d = refl
or_middle false true true d = refl
or_middle false true false d = refl
or_middle false false true d = refl
or_middle false false false d = refl

eq_turned : (x y : List ℕ) → bytes_eq x y ≡ bytes_eq y x
eq_turned x y = cases (bytes_eq x y) (bytes_eq y x) refl refl
  where
    cases : (b c : Bool) → bytes_eq x y ≡ b → bytes_eq y x ≡ c → b ≡ c
    cases true true e f = refl
    cases false false e f = refl
    cases true false e f = let no : bytes_eq x y ≡ false = turned y x f in cc
    cases false true e f = let no : bytes_eq y x ≡ false = turned x y e in cc

pub clash_turned : (p q : Pair) → clash p q ≡ clash q p
clash_turned p q =
    (λ i. eq_turned p.0 q.0 i || eq_turned p.0 q.1 i || eq_turned p.1 q.0 i || eq_turned p.1 q.1 i)
    ∙ or_middle (bytes_eq q.0 p.0) (bytes_eq q.1 p.0) (bytes_eq q.0 p.1) (bytes_eq q.1 p.1)

-- none of the four names is another
record Four (a b c d : Bool) : Type 0 where
  first : a ≡ false
  second : b ≡ false
  third : c ≡ false
  fourth : d ≡ false

four_from : (a b c d : Bool) → (a || b || c || d) ≡ false → Four a b c d
four_from true b c d e = let no : true ≡ false = e in cc
four_from false true c d e = let no : true ≡ false = e in cc
four_from false false true d e = let no : true ≡ false = e in cc
four_from false false false d e = record { first = refl; second = refl; third = refl; fourth = e }

four_to : (a b c d : Bool) → Four a b c d → (a || b || c || d) ≡ false
four_to a b c d f = (λ i. f.first i || f.second i || f.third i || f.fourth i)

abbrev pub names_of_pairs : List Pair → List (List ℕ)
names_of_pairs pairs = flat_map names_in (moves_of pairs)

-- no name stands twice in the pairs
pub record PairsDiffer (pairs : List Pair) : Type 0 where
  pub apart : IsDistinct clash pairs
  pub own : AllByRecursion (λ p. bytes_eq p.0 p.1 ≡ false) pairs

off_pairs : (p : Pair) (qs : List Pair) → AllByRecursion (λ y. bytes_eq p.0 y ≡ false) (names_of_pairs qs)
    → AllByRecursion (λ y. bytes_eq p.1 y ≡ false) (names_of_pairs qs) → AllByRecursion (λ q. clash p q ≡ false) qs
off_pairs p [] a b = tt
off_pairs p (q ∷ qs) (a, (b, later)) (c, (d, behind)) = (
  four_to _ _ _ _ (record { first = a; second = b; third = c; fourth = d }),
  off_pairs p qs later behind,
)

pub pairs_differ : (pairs : List Pair) → IsDistinct bytes_eq (names_of_pairs pairs) → PairsDiffer pairs
unfolding IsDistinct
pairs_differ [] d = record { apart = tt; own = tt }
pairs_differ (p ∷ ps) ((own, a), (b, rest)) =
    let later = pairs_differ ps rest in
    record { apart = (off_pairs p ps a b, later.apart); own = (own, later.own) }

first_off : (p : Pair) (qs : List Pair) → AllByRecursion (λ q. clash p q ≡ false) qs
    → AllByRecursion (λ y. bytes_eq p.0 y ≡ false) (names_of_pairs qs)
first_off p [] a = tt
first_off p (q ∷ qs) a =
    let f = four_from (bytes_eq p.0 q.0) (bytes_eq p.0 q.1) (bytes_eq p.1 q.0) (bytes_eq p.1 q.1) a.0 in
    (f.first, (f.second, first_off p qs a.1))

second_off : (p : Pair) (qs : List Pair) → AllByRecursion (λ q. clash p q ≡ false) qs
    → AllByRecursion (λ y. bytes_eq p.1 y ≡ false) (names_of_pairs qs)
second_off p [] a = tt
second_off p (q ∷ qs) a =
    let f = four_from (bytes_eq p.0 q.0) (bytes_eq p.0 q.1) (bytes_eq p.1 q.0) (bytes_eq p.1 q.1) a.0 in
    (f.third, (f.fourth, second_off p qs a.1))

pub names_differ : (pairs : List Pair) → PairsDiffer pairs → IsDistinct bytes_eq (names_of_pairs pairs)
unfolding IsDistinct
names_differ [] d = tt
names_differ (p ∷ ps) d = (
  (d.own.0, first_off p ps d.apart.0),
  (second_off p ps d.apart.0, names_differ ps (record { apart = d.apart.1; own = d.own.1 })),
)

-- in another order
pub differ_sorted : (pairs sorted : List Pair) → IsPermutation pairs sorted → PairsDiffer pairs → PairsDiffer sorted
differ_sorted pairs sorted moved d = record {
  apart = IsDistinct-IsPermutation clash clash_turned pairs sorted moved d.apart;
  own = each_all (λ p. bytes_eq p.0 p.1 ≡ false) sorted
      (λ p h. all_member (λ q. bytes_eq q.0 q.1 ≡ false) pairs p d.own
      (Contains-permutation sorted pairs p (IsPermutation-sym pairs sorted moved) h));
}

-- the names that stand in the pairs
pub in_pairs : (pairs : List Pair) (x : List ℕ) → Contains (names_of_pairs pairs) x
    → (p : Pair) × Contains pairs p × ((x ≡ p.0) ⊎ (x ≡ p.1))
in_pairs [] x h = none_in x h
in_pairs (p ∷ ps) x h = ⊎_elim
    (λ e. (p, first_in p ps p refl, inl (sym e)))
    (λ k. ⊎_elim
    (λ e. (p, first_in p ps p refl, inr (sym e)))
    (λ l. let found = in_pairs ps x l in (found.0, later_in p ps found.0 found.1, found.2))
    (in_cases p.1 (names_of_pairs ps) x k))
    (in_cases p.0 (p.1 ∷ names_of_pairs ps) x h)
