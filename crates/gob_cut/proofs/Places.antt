-- Where lines end in the parts of a text, and where a cut ends.
use Rattle.std.proofs.Common.{◌≡◌, ◌⊎◌, inl, inr, ⊎_elim, ℕ, suc, ◌+◌, ◌-◌, ◌<◌, ◌≤◌, Bool, true, false, cond, ◌&&◌}
use Rattle.std.proofs.Common.{nat_eq, nat_lt, nat_le, List, [], ◌∷◌, ◌++◌, length, map, take, drop, min, IfSome, Some}
use Rattle.std.proofs.Common.{None, option_map, refl, sym, ap, subst, ◌∙◌, arith, append-nil, length-append}
use Rattle.std.specs.declared.option.Option.{Option}
use Rattle.std.specs.List.{filter, find, last_or, slice_get}
use Rattle.std.proofs.lemmas.Bool.Decides.{nat_tests}
use Rattle.std.proofs.lemmas.List.{drop-drop, length-drop, length-take-le, nil_from_length, take-append-drop}
use Rattle.std.proofs.lemmas.List.Elements.{filter-append}
use Rattle.gob_bytes.specs.Lines.{end_of, first_end, last_end, line_ends, lines_from}
use Rattle.gob_bytes.proofs.Cuts.{ends_told}
use Rattle.gob_device.specs.Supply.{line_end_or_zero, seen_by_look}
use Rattle.gob_ledger.specs.Units.{cut_end}
use Rattle.gob_cut.specs.Ends.{first_behind, last_between}

-- the offsets after a line feed, counted from a place on
abbrev pub places : ℕ → List ℕ → List ℕ
places k [] = []
places k (b ∷ bs) = cond (nat_eq b 10) (suc k ∷ places (suc k) bs) (places (suc k) bs)

ends_of : (bs : List ℕ) (place start : ℕ) (begun : List ℕ) → start + length begun ≡ place
    → map end_of (lines_from start begun bs) ≡ places place bs
unfolding lines_from
ends_of [] place start begun at = refl
ends_of (b ∷ bs) place start begun at =
    let joined = length-append begun (b ∷ []) in
    let here : start + length begun + 1 ≡ suc place = omega arith in
    elim (nat_eq b 10) as (λ v. map end_of (cond v (record { start = start; body = begun } ∷ lines_from
    (start + length begun + 1) [] bs) (lines_from start (begun ++ b ∷ []) bs))
    ≡ cond v (suc place ∷ places (suc place) bs) (places (suc place) bs)) [
      | true ↦ λ i. here i ∷ ends_of bs (suc place) (start + length begun + 1) [] (omega arith) i
      | false ↦ ends_of bs (suc place) start (begun ++ b ∷ []) (omega arith)
    ]

pub ends_are : (bs : List ℕ) → line_ends bs ≡ places 0 bs
ends_are bs = ends_of bs 0 0 [] (omega arith)

places-append : (x y : List ℕ) (k : ℕ) → places k (x ++ y) ≡ places k x ++ places (k + length x) y
places-append [] y k = ap (λ n. places n y) (omega arith)
places-append (b ∷ x) y k =
    let later : places (suc k) (x ++ y) ≡ places (suc k) x ++ places (k + suc (length x)) y =
    places-append x y (suc k) ∙ ap (λ n. places (suc k) x ++ places n y) (omega arith) in
    elim (nat_eq b 10) as (λ v. cond v (suc k ∷ places (suc k) (x ++ y)) (places (suc k) (x ++ y)) ≡ cond v
    (suc k ∷ places (suc k) x) (places (suc k) x) ++ places (k + suc (length x)) y) [
      | true ↦ ap (λ ns. suc k ∷ ns) later
      | false ↦ later
    ]

-- counted from another place
shifted : (bs : List ℕ) (k j : ℕ) → places (k + j) bs ≡ map (λ e. k + e) (places j bs)
shifted [] k j = refl
shifted (b ∷ bs) k j =
    let next : suc (k + j) ≡ k + suc j = omega arith in
    let later : places (suc (k + j)) bs ≡ map (λ e. k + e) (places (suc j) bs) = ap (λ n. places n bs) next
    ∙ shifted bs k (suc j) in
    elim (nat_eq b 10) as (λ v. cond v (suc (k + j) ∷ places (suc (k + j)) bs) (places (suc (k + j)) bs) ≡ map
    (λ e. k + e) (cond v (suc j ∷ places (suc j) bs) (places (suc j) bs))) [
      | true ↦ λ i. next i ∷ later i
      | false ↦ later
    ]

places_from : (bs : List ℕ) (k : ℕ) → places k bs ≡ map (λ e. k + e) (line_ends bs)
places_from bs k = ap (λ n. places n bs) (let same : k ≡ k + 0 = omega arith in same)
    ∙ (shifted bs k 0 ∙ ap (map (λ e. k + e)) (sym (ends_are bs)))

-- ---- the ends within two bounds, and behind them

in_bounds : (lo hi e : ℕ) → lo < e → e ≤ hi → nat_lt lo e && nat_le e hi ≡ true
in_bounds lo hi e a b = grind (arith, nat_tests)

before_bounds : (lo hi e : ℕ) → e ≤ lo → nat_lt lo e && nat_le e hi ≡ false
before_bounds lo hi e a = grind (arith, nat_tests)

behind_bounds : (lo hi e : ℕ) → hi < e → nat_lt lo e && nat_le e hi ≡ false
behind_bounds lo hi e a = grind (arith, nat_tests)

is_behind : (hi e : ℕ) → hi < e → nat_lt hi e ≡ true
is_behind hi e a = grind (arith, nat_tests)

isnt_behind : (hi e : ℕ) → e ≤ hi → nat_lt hi e ≡ false
isnt_behind hi e a = grind (arith, nat_tests)

all_within : (bs : List ℕ) (lo hi k : ℕ) → lo ≤ k → k + length bs ≤ hi
    → filter (λ e. nat_lt lo e && nat_le e hi) (places k bs) ≡ places k bs
all_within [] lo hi k a b = refl
all_within (b ∷ bs) lo hi k low high =
    let later = all_within bs lo hi (suc k) (omega arith) (omega arith) in
    elim (nat_eq b 10) as (λ v. filter (λ e. nat_lt lo e && nat_le e hi)
    (cond v (suc k ∷ places (suc k) bs) (places (suc k) bs)) ≡ cond v (suc k ∷ places (suc k) bs)
    (places (suc k) bs)) [
      | true ↦ ap (λ t. cond t (suc k ∷ filter (λ e. nat_lt lo e && nat_le e hi) (places (suc k) bs))
          (filter (λ e. nat_lt lo e && nat_le e hi) (places (suc k) bs)))
          (in_bounds lo hi (suc k) (omega arith) (omega arith)) ∙ ap (λ ns. suc k ∷ ns) later
      | false ↦ later
    ]

none_before : (bs : List ℕ) (lo hi k : ℕ) → k + length bs ≤ lo
    → filter (λ e. nat_lt lo e && nat_le e hi) (places k bs) ≡ []
none_before [] lo hi k a = refl
none_before (b ∷ bs) lo hi k high =
    let later = none_before bs lo hi (suc k) (omega arith) in
    elim (nat_eq b 10) as (λ v. filter (λ e. nat_lt lo e && nat_le e hi)
    (cond v (suc k ∷ places (suc k) bs) (places (suc k) bs)) ≡ []) [
      | true ↦ ap (λ t. cond t (suc k ∷ filter (λ e. nat_lt lo e && nat_le e hi) (places (suc k) bs))
          (filter (λ e. nat_lt lo e && nat_le e hi) (places (suc k) bs))) (before_bounds lo hi (suc k) (omega arith))
          ∙ later
      | false ↦ later
    ]

none_within : (bs : List ℕ) (lo hi k : ℕ) → hi ≤ k → filter (λ e. nat_lt lo e && nat_le e hi) (places k bs) ≡ []
none_within [] lo hi k a = refl
none_within (b ∷ bs) lo hi k high =
    let later = none_within bs lo hi (suc k) (omega arith) in
    elim (nat_eq b 10) as (λ v. filter (λ e. nat_lt lo e && nat_le e hi)
    (cond v (suc k ∷ places (suc k) bs) (places (suc k) bs)) ≡ []) [
      | true ↦ ap (λ t. cond t (suc k ∷ filter (λ e. nat_lt lo e && nat_le e hi) (places (suc k) bs))
          (filter (λ e. nat_lt lo e && nat_le e hi) (places (suc k) bs))) (behind_bounds lo hi (suc k) (omega arith))
          ∙ later
      | false ↦ later
    ]

none_behind : (bs : List ℕ) (hi k : ℕ) → k + length bs ≤ hi → find (λ e. nat_lt hi e) (places k bs) ≡ None
none_behind [] hi k a = refl
none_behind (b ∷ bs) hi k high =
    let later = none_behind bs hi (suc k) (omega arith) in
    elim (nat_eq b 10) as (λ v. find (λ e. nat_lt hi e) (cond v (suc k ∷ places (suc k) bs) (places (suc k) bs))
    ≡ None) [
      | true ↦ ap (λ t. cond t (Some (suc k)) (find (λ e. nat_lt hi e) (places (suc k) bs)))
          (isnt_behind hi (suc k) (omega arith)) ∙ later
      | false ↦ later
    ]

first_is : (bs : List ℕ) (hi k : ℕ) → hi ≤ k → find (λ e. nat_lt hi e) (places k bs) ≡ slice_get (places k bs) 0
first_is [] hi k a = refl
first_is (b ∷ bs) hi k high =
    let later = first_is bs hi (suc k) (omega arith) in
    elim (nat_eq b 10) as (λ v. find (λ e. nat_lt hi e) (cond v (suc k ∷ places (suc k) bs) (places (suc k) bs)) ≡
    slice_get (cond v (suc k ∷ places (suc k) bs) (places (suc k) bs)) 0) [
      | true ↦ ap (λ t. cond t (Some (suc k)) (find (λ e. nat_lt hi e) (places (suc k) bs)))
          (is_behind hi (suc k) (omega arith))
      | false ↦ later
    ]

find_behind : (p : ℕ → Bool) (xs ys : List ℕ) → find p xs ≡ None → find p (xs ++ ys) ≡ find p ys
find_behind p [] ys none = refl
find_behind p (x ∷ xs) ys none = cases (p x) none (find_behind p xs ys)
  where
    cases : (b : Bool) → cond b (Some x) (find p xs) ≡ None → (find p xs ≡ None → find p (xs ++ ys) ≡ find p ys)
        → cond b (Some x) (find p (xs ++ ys)) ≡ find p ys
    cases true none later = absurd (let no : Some x ≡ None = none in cc)
    cases false none later = later none

-- ---- the last of some numbers, and the first

-- the first of two answers that is there
abbrev pub either_end : Option ℕ → Option ℕ → Option ℕ
either_end None o = o
either_end (Some e) o = Some e

last_else : (o : Option ℕ) (xs : List ℕ) → last_or o xs ≡ either_end (last_or None xs) o
last_else o [] = refl
last_else o (x ∷ xs) = some_last (Some x) xs (λ y. last_else y xs)
  where
    over : (e : Option ℕ) (y : ℕ) → either_end e (Some y) ≡ either_end (either_end e (Some y)) o
    over None y = refl
    over (Some z) y = refl

    some_last : (y : Option ℕ) (xs : List ℕ) → ((y : Option ℕ) → last_or y xs ≡ either_end (last_or None xs) y)
        → last_or (Some x) xs ≡ either_end (last_or (Some x) xs) o
    some_last y xs all = all (Some x) ∙ (over (last_or None xs) x ∙ ap (λ e. either_end e o) (sym (all (Some x))))

last_mapped : (f : ℕ → ℕ) (o : Option ℕ) (xs : List ℕ) → last_or (option_map f o) (map f xs) ≡ option_map f
    (last_or o xs)
last_mapped f o [] = refl
last_mapped f o (x ∷ xs) = last_mapped f (Some x) xs

last_joined : (o : Option ℕ) (xs ys : List ℕ) → last_or o (xs ++ ys) ≡ last_or (last_or o xs) ys
last_joined o [] ys = refl
last_joined o (x ∷ xs) ys = last_joined (Some x) xs ys

first_mapped : (f : ℕ → ℕ) (xs : List ℕ) → slice_get (map f xs) 0 ≡ option_map f (slice_get xs 0)
first_mapped f [] = refl
first_mapped f (x ∷ xs) = refl

first_joined : (xs ys : List ℕ) → slice_get (xs ++ ys) 0 ≡ either_end (slice_get xs 0) (slice_get ys 0)
first_joined [] ys = refl
first_joined (x ∷ xs) ys = refl

last_at : (bs : List ℕ) (k : ℕ) → last_or None (places k bs) ≡ option_map (λ e. k + e) (last_end bs)
last_at bs k = ap (last_or None) (places_from bs k) ∙ last_mapped (λ e. k + e) None (line_ends bs)

first_at : (bs : List ℕ) (k : ℕ) → slice_get (places k bs) 0 ≡ option_map (λ e. k + e) (first_end bs)
first_at bs k = ap (λ ns. slice_get ns 0) (places_from bs k) ∙ first_mapped (λ e. k + e) (line_ends bs)

-- ---- texts in two pieces

pub last-append : (x y : List ℕ) → last_end (x ++ y) ≡ either_end (option_map (λ e. length x + e) (last_end y))
    (last_end x)
last-append x y =
    ap (last_or None) (ends_are (x ++ y) ∙ places-append x y 0)
    ∙ (last_joined None (places 0 x) (places (0 + length x) y)
    ∙ (last_else (last_or None (places 0 x)) (places (0 + length x) y)
    ∙ λ i. either_end ((ap (λ k. last_or None (places k y)) (let same : 0 + length x ≡ length x = omega arith in same)
    ∙ last_at y (length x)) i) (last_or None (sym (ends_are x) i))))

pub first-append : (x y : List ℕ) → first_end (x ++ y) ≡ either_end (first_end x)
    (option_map (λ e. length x + e) (first_end y))
first-append x y =
    ap (λ ns. slice_get ns 0) (ends_are (x ++ y) ∙ places-append x y 0)
    ∙ (first_joined (places 0 x) (places (0 + length x) y)
    ∙ λ i. either_end (slice_get (sym (ends_are x) i) 0) ((ap (λ k. slice_get (places k y) 0)
    (let same : 0 + length x ≡ length x = omega arith in same) ∙ first_at y (length x)) i))

-- ---- the end of a cut

-- a text in three parts, at two places
record Parted (bytes : List ℕ) (lo limit : ℕ) : Type 0 where
  whole : bytes ≡ take lo bytes ++ (take (limit - lo) (drop lo bytes) ++ drop limit bytes)
  first : length (take lo bytes) ≡ lo
  second : length (take (limit - lo) (drop lo bytes)) ≡ limit - lo

parted : (bytes : List ℕ) (lo limit : ℕ) → lo ≤ limit → limit ≤ length bytes → Parted bytes lo limit
parted bytes lo limit order inside =
    let rest : drop (limit - lo) (drop lo bytes) ≡ drop limit bytes = drop-drop (limit - lo) lo bytes
    ∙ ap (λ n. drop n bytes) (let same : lo + (limit - lo) ≡ limit = omega arith in same) in
    record {
      whole = sym (take-append-drop lo bytes) ∙ ap (λ t. take lo bytes ++ t)
          (sym (take-append-drop (limit - lo) (drop lo bytes)) ∙ ap (λ t. take (limit - lo) (drop lo bytes) ++ t) rest);
      first = length-take-le lo bytes (omega arith);
      second = length-take-le (limit - lo) (drop lo bytes) (omega (arith, length-drop lo bytes));
    }

ends_parted : (bytes : List ℕ) (lo limit : ℕ) → Parted bytes lo limit → lo ≤ limit
    → line_ends bytes ≡ places 0 (take lo bytes) ++ (places lo (take (limit - lo) (drop lo bytes))
    ++ places limit (drop limit bytes))
ends_parted bytes lo limit p order =
    let a : List ℕ = take lo bytes in
    let b : List ℕ = take (limit - lo) (drop lo bytes) in
    let c : List ℕ = drop limit bytes in
    ends_are bytes ∙ (ap (places 0) p.whole ∙ (places-append a (b ++ c) 0
    ∙ ap (λ ns. places 0 a ++ ns) (ap (λ k. places k (b ++ c))
    (let same : 0 + length a ≡ lo = omega (arith, p.first) in same)
    ∙ (places-append b c lo ∙ ap (λ k. places lo b ++ places k c)
    (let same : lo + length b ≡ limit = omega (arith, p.second) in same)))))

-- behind the limit there is what no bound reaches, or nothing
record Ended (bytes : List ℕ) (lo hi limit : ℕ) : Type 0 where
  outside : filter (λ e. nat_lt lo e && nat_le e hi) (places limit (drop limit bytes)) ≡ []
  first : find (λ e. nat_lt hi e) (places limit (drop limit bytes)) ≡ slice_get (places limit (drop limit bytes)) 0

ended : (bytes : List ℕ) (lo hi limit : ℕ) → limit ≡ min hi (length bytes) → Ended bytes lo hi limit
ended bytes lo hi limit is = cases (nat_le hi (length bytes)) refl
  where
    all_of : (bs : List ℕ) → bs ≡ [] → (filter (λ e. nat_lt lo e && nat_le e hi) (places limit bs) ≡ [])
        × (find (λ e. nat_lt hi e) (places limit bs) ≡ slice_get (places limit bs) 0)
    all_of bs none = subst (λ cs. (filter (λ e. nat_lt lo e && nat_le e hi) (places limit cs) ≡ [])
        × (find (λ e. nat_lt hi e) (places limit cs) ≡ slice_get (places limit cs) 0)) (sym none) (refl, refl)

    below : (a b : ℕ) → nat_le a b ≡ true → a ≤ b
    below a b e = grind (arith, nat_tests)

    above : (a b : ℕ) → nat_le a b ≡ false → b < a
    above a b e = grind (arith, nat_tests)

    cases : (b : Bool) → nat_le hi (length bytes) ≡ b → Ended bytes lo hi limit
    cases true e =
        let reached : hi ≤ limit = let inside = below hi (length bytes) e in omega arith in
        record {
          outside = none_within (drop limit bytes) lo hi limit reached;
          first =
              first_is (drop limit bytes) hi limit reached;
        }
    cases false e =
        let over = above hi (length bytes) e in
        let none : drop limit bytes ≡ [] = nil_from_length (drop limit bytes) (omega (arith, length-drop limit bytes))
        in
        let both = all_of (drop limit bytes) none in
        record { outside = both.0; first = both.1 }

pub cut_is : (bytes : List ℕ) (lo max limit : ℕ) → lo ≤ length bytes → limit ≡ min (lo + max) (length bytes)
    → cut_end (line_ends bytes) lo max ≡ either_end (last_between bytes lo limit) (first_behind bytes limit)
cut_is bytes lo max limit inside is =
    let hi : ℕ = lo + max in
    let a : List ℕ = take lo bytes in
    let b : List ℕ = take (limit - lo) (drop lo bytes) in
    let c : List ℕ = drop limit bytes in
    let order : lo ≤ limit = omega arith in
    let p = parted bytes lo limit order (omega arith) in
    let e = ended bytes lo hi limit is in
    let test : ℕ → Bool = λ e. nat_lt lo e && nat_le e hi in
    let all = ends_parted bytes lo limit p order in
    let within : filter test (line_ends bytes) ≡ places lo b =
    ap (filter test) all ∙ (filter-append test (places 0 a) (places lo b ++ places limit c)
    ∙ (ap (λ ns. ns ++ filter test (places lo b ++ places limit c)) (none_before a lo hi 0 (omega (arith, p.first)))
    ∙ (filter-append test (places lo b) (places limit c)
    ∙ ((λ i. all_within b lo hi lo (omega arith) (omega (arith, p.second, order, is)) i ++ e.outside i)
    ∙ append-nil (places lo b))))) in
    let behind : find (λ x. nat_lt hi x) (line_ends bytes) ≡ slice_get (places limit c) 0 =
    ap (find (λ x. nat_lt hi x)) all ∙ (find_behind (λ x. nat_lt hi x) (places 0 a) (places lo b ++ places limit c)
    (none_behind a hi 0 (omega (arith, p.first)))
    ∙ (find_behind (λ x. nat_lt hi x) (places lo b) (places limit c)
    (none_behind b hi lo (omega (arith, p.second, order, is))) ∙ e.first)) in
    (λ i. last_or (behind i) (within i))
    ∙ (last_else (slice_get (places limit c) 0) (places lo b) ∙ λ i. either_end (last_at b lo i) (first_at c limit i))

-- behind the end of a text there is no cut
pub no_cut : (bytes : List ℕ) (lo max : ℕ) → length bytes ≤ lo → cut_end (line_ends bytes) lo max ≡ None
no_cut bytes lo max past =
    (λ i. last_or (find (λ e. nat_lt (lo + max) e) (ends_are bytes i))
    (filter (λ e. nat_lt lo e && nat_le e (lo + max)) (ends_are bytes i)))
    ∙ (λ i. last_or (none_behind bytes (lo + max) 0 (omega (arith, past)) i)
    (none_before bytes lo (lo + max) 0 (omega (arith, past)) i))

-- ---- what a look tells

told_end : (b : ℕ) → nat_eq (line_end_or_zero b) 10 ≡ nat_eq b 10
told_end b = elim (nat_eq b 10) as (λ v. nat_eq (cond v 10 0) 10 ≡ v) [ true ↦ refl | false ↦ refl ]

pub ends_looked : (bs : List ℕ) → line_ends (seen_by_look bs) ≡ line_ends bs
unfolding seen_by_look
ends_looked bs = ends_told line_end_or_zero told_end bs

-- ---- where the last end and the first one lie

last_inside : (bs : List ℕ) (k e : ℕ) (o : Option ℕ) → last_or o (places k bs) ≡ Some e → (o ≡ Some e)
    ⊎ ((k < e) × (e ≤ k + length bs))
last_inside [] k e o is = inl is
last_inside (b ∷ bs) k e o is = cases (nat_eq b 10) is (λ p h. last_inside bs (suc k) e p h)
  where
    further : (p : Option ℕ) → (p ≡ Some e → (o ≡ Some e) ⊎ ((k < e) × (e ≤ k + suc (length bs)))) → (p ≡ Some e)
        ⊎ ((suc k < e) × (e ≤ suc k + length bs)) → (o ≡ Some e) ⊎ ((k < e) × (e ≤ k + suc (length bs)))
    further p same h = ⊎_elim same (λ (r : (suc k < e) × (e ≤ suc k + length bs)). inr (omega arith, omega arith)) h

    here : Some (suc k) ≡ Some e → (o ≡ Some e) ⊎ ((k < e) × (e ≤ k + suc (length bs)))
    here same = let at : suc k ≡ e = cc in inr (omega arith, omega arith)

    cases : (v : Bool) → last_or o (cond v (suc k ∷ places (suc k) bs) (places (suc k) bs)) ≡ Some e
        → ((p : Option ℕ) → last_or p (places (suc k) bs) ≡ Some e → (p ≡ Some e)
        ⊎ ((suc k < e) × (e ≤ suc k + length bs)))
        → (o ≡ Some e) ⊎ ((k < e) × (e ≤ k + suc (length bs)))
    cases true h later = further (Some (suc k)) here (later (Some (suc k)) h)
    cases false h later = further o (λ same. inl same) (later o h)

first_inside : (bs : List ℕ) (k e : ℕ) → slice_get (places k bs) 0 ≡ Some e → (k < e) × (e ≤ k + length bs)
first_inside [] k e is = absurd (let no : None ≡ Some e = is in cc)
first_inside (b ∷ bs) k e is = cases (nat_eq b 10) is (first_inside bs (suc k) e)
  where
    cases : (v : Bool) → slice_get (cond v (suc k ∷ places (suc k) bs) (places (suc k) bs)) 0 ≡ Some e
        → (slice_get (places (suc k) bs) 0 ≡ Some e → (suc k < e) × (e ≤ suc k + length bs)) → (k < e)
        × (e ≤ k + suc (length bs))
    cases true h later = let same : suc k ≡ e = cc in (omega arith, omega arith)
    cases false h later = let r = later h in (omega (arith, r.0), omega (arith, r.1))

pub last_within : (end : Option ℕ) (bs : List ℕ) (n : ℕ) → end ≡ last_end bs → length bs ≤ n
    → IfSome end (λ e. (0 < e) × (e ≤ n))
last_within None bs n is few = tt
last_within (Some e) bs n is few = ⊎_elim
    (λ (none : None ≡ Some e). absurd (let no : None ≡ Some e = none in cc))
    (λ (r : (0 < e) × (e ≤ 0 + length bs)). (r.0, omega (arith, r.1, few)))
    (last_inside bs 0 e None (sym (ap (last_or None) (ends_are bs)) ∙ sym is))

pub first_within : (end : Option ℕ) (bs : List ℕ) (n : ℕ) → end ≡ first_end bs → length bs ≤ n
    → IfSome end (λ e. (0 < e) × (e ≤ n))
first_within None bs n is few = tt
first_within (Some e) bs n is few =
    let r = first_inside bs 0 e (sym (ap (λ ns. slice_get ns 0) (ends_are bs)) ∙ sym is) in
    (r.0, omega (arith, r.1, few))
