-- Numbers that rise: one of them taken out, one more put at the end.
use Rattle.std.proofs.Common.{◌≡◌, ◌≢◌, ℕ, zero, suc, ◌+◌, ◌<◌, ◌≤◌, Bool, true, false, cond, not, ◌&&◌, nat_eq}
use Rattle.std.proofs.Common.{nat_lt, Some, ◌-◌, List, [], ◌∷◌, ◌++◌, filter, length, min, take, remove, get_or, refl}
use Rattle.std.proofs.Common.{sym, ap, ◌∙◌, subst, arith, append-nil, length-append}
use Rattle.std.proofs.lemmas.Bool.{and_parts, eq-eqb, ne_eqb, ltb-true, lt-ltb}
use Rattle.std.proofs.lemmas.List.FromFn.{length-range_with_len}
use Rattle.std.proofs.lemmas.List.{take-append-le, append_assoc}
use Rattle.std.specs.List.{range_with_len}
use Rattle.std.proofs.lemmas.List.Elements.{filter-append}
use Rattle.std.specs.Prelude.{◌%◌, slice_get, slice_index}
use Rattle.std.proofs.Math.Nat.{mod-eq_of_lt, mod-lt}
use Rattle.gob_plan.specs.declared.plan.TurnRules.{TurnRules}
use Rattle.gob_ledger.specs.Counted.{whose_turn}
use Rattle.gob_sched.specs.CoreValue.{is_rising_below}

abbrev pub others : ℕ → List ℕ → List ℕ
others unit us = filter (λ u. not (nat_eq u unit)) us

kept_first : (unit x : ℕ) (xs : List ℕ) → x ≢ unit → others unit (x ∷ xs) ≡ x ∷ others unit xs
kept_first unit x xs apart = ap (λ b. cond (not b) (x ∷ others unit xs) (others unit xs)) (ne_eqb x unit apart)

gone_first : (x : ℕ) (xs : List ℕ) → others x (x ∷ xs) ≡ others x xs
gone_first x xs = ap (λ b. cond (not b) (x ∷ others x xs) (others x xs)) (eq-eqb x x refl)

above_kept : (unit x : ℕ) (xs : List ℕ) (top : ℕ) → unit < x → is_rising_below (x ∷ xs) top ≡ true
    → others unit (x ∷ xs) ≡ x ∷ xs
above_kept unit x [] top less rising = kept_first unit x [] (λ e. omega (arith, less, e))
above_kept unit x (y ∷ ys) top less rising =
    let p = and_parts (nat_lt x y) (is_rising_below (y ∷ ys) top) rising in
    let next : x < y = ltb-true x y p.0 in
    kept_first unit x (y ∷ ys) (λ e. omega (arith, less, e)) ∙ ap (λ us. x ∷ us)
    (above_kept unit y ys top (omega (arith, less, next)) p.1)

pub first_below : (x : ℕ) (xs : List ℕ) (top at : ℕ) → is_rising_below (x ∷ xs) top ≡ true → at < length xs
    → x < get_or xs at 0
first_below x [] top at rising within = absurd (omega (arith, within))
first_below x (y ∷ ys) top zero rising within = ltb-true x y (and_parts (nat_lt x y) (is_rising_below (y ∷ ys) top)
    rising).0
first_below x (y ∷ ys) top (suc at) rising within =
    let p = and_parts (nat_lt x y) (is_rising_below (y ∷ ys) top) rising in
    let next : x < y = ltb-true x y p.0 in
    let later = first_below y ys top at p.1 (omega (arith, within)) in omega (arith, next, later)

pub all_below : (xs : List ℕ) (top at : ℕ) → is_rising_below xs top ≡ true → at < length xs → get_or xs at 0 < top
all_below [] top at rising within = absurd (omega (arith, within))
all_below (x ∷ []) top zero rising within = ltb-true x top rising
all_below (x ∷ []) top (suc at) rising within = absurd (omega (arith, within))
all_below (x ∷ y ∷ ys) top zero rising within =
    let p = and_parts (nat_lt x y) (is_rising_below (y ∷ ys) top) rising in
    let next : x < y = ltb-true x y p.0 in
    let later = all_below (y ∷ ys) top 0 p.1 (omega arith) in omega (arith, next, later)
all_below (x ∷ y ∷ ys) top (suc at) rising within =
    all_below (y ∷ ys) top at (and_parts (nat_lt x y) (is_rising_below (y ∷ ys) top) rising).1 (omega (arith, within))

-- the others are what is left once it is taken out
pub others_left : (unit : ℕ) (xs : List ℕ) (top at : ℕ) → is_rising_below xs top ≡ true → at < length xs
    → get_or xs at 0 ≡ unit → others unit xs ≡ remove xs at
others_left unit [] top at rising within is = absurd (omega (arith, within))
others_left unit (x ∷ []) top zero rising within is = ap (λ u. others u (x ∷ [])) (sym is) ∙ gone_first x []
others_left unit (x ∷ y ∷ ys) top zero rising within is =
    let p = and_parts (nat_lt x y) (is_rising_below (y ∷ ys) top) rising in
    ap (λ u. others u (x ∷ y ∷ ys)) (sym is) ∙ (gone_first x (y ∷ ys) ∙ above_kept x y ys top (ltb-true x y p.0) p.1)
others_left unit (x ∷ []) top (suc at) rising within is = absurd (omega (arith, within))
others_left unit (x ∷ y ∷ ys) top (suc at) rising within is =
    let below = first_below x (y ∷ ys) top at rising (omega (arith, within)) in
    kept_first unit x (y ∷ ys) (λ e. omega (arith, below, e, is))
    ∙ ap (λ us. x ∷ us) (others_left unit (y ∷ ys) top at (and_parts (nat_lt x y) (is_rising_below (y ∷ ys) top)
    rising).1 (omega (arith, within)) is)

and_true : (a b : Bool) → a ≡ true → b ≡ true → (a && b) ≡ true
and_true true b p q = q
and_true false b p q = p

pub rising_left : (xs : List ℕ) (top at : ℕ) → is_rising_below xs top ≡ true → at < length xs
    → is_rising_below (remove xs at) top ≡ true
rising_left [] top at rising within = absurd (omega (arith, within))
rising_left (x ∷ []) top zero rising within = refl
rising_left (x ∷ []) top (suc at) rising within = absurd (omega (arith, within))
rising_left (x ∷ y ∷ ys) top zero rising within = (and_parts (nat_lt x y) (is_rising_below (y ∷ ys) top) rising).1
rising_left (x ∷ y ∷ []) top (suc zero) rising within =
    let p = and_parts (nat_lt x y) (is_rising_below (y ∷ []) top) rising in
    let next : x < y = ltb-true x y p.0 in
    let last : y < top = ltb-true y top p.1 in lt-ltb x top (omega (arith, next, last))
rising_left (x ∷ y ∷ z ∷ zs) top (suc zero) rising within =
    let p = and_parts (nat_lt x y) (is_rising_below (y ∷ z ∷ zs) top) rising in
    let q = and_parts (nat_lt y z) (is_rising_below (z ∷ zs) top) p.1 in
    let next : x < y = ltb-true x y p.0 in
    let last : y < z = ltb-true y z q.0 in
    and_true (nat_lt x z) (is_rising_below (z ∷ zs) top) (lt-ltb x z (omega (arith, next, last))) q.1
rising_left (x ∷ y ∷ ys) top (suc (suc at)) rising within =
    let p = and_parts (nat_lt x y) (is_rising_below (y ∷ ys) top) rising in
    and_true (nat_lt x y) (is_rising_below (y ∷ remove ys at) top) p.0
    (rising_left (y ∷ ys) top (suc at) p.1 (omega (arith, within)))

pub rising_more : (xs : List ℕ) (top : ℕ) → is_rising_below xs top ≡ true
    → is_rising_below (xs ++ top ∷ []) (top + 1) ≡ true
rising_more [] top rising = lt-ltb top (top + 1) (omega arith)
rising_more (x ∷ []) top rising = and_true (nat_lt x top) (nat_lt top (top + 1)) rising
    (lt-ltb top (top + 1) (omega arith))
rising_more (x ∷ y ∷ ys) top rising =
    let p = and_parts (nat_lt x y) (is_rising_below (y ∷ ys) top) rising in
    and_true (nat_lt x y) (is_rising_below (y ∷ ys ++ top ∷ []) (top + 1)) p.0 (rising_more (y ∷ ys) top p.1)

pub rising_range : (a n : ℕ) → is_rising_below (range_with_len a n) (a + n) ≡ true
rising_range a zero = refl
rising_range a (suc zero) = lt-ltb a (a + 1) (omega arith)
rising_range a (suc (suc n)) =
    and_true (nat_lt a (a + 1)) (is_rising_below (range_with_len (a + 1) (suc n)) (a + suc (suc n)))
    (lt-ltb a (a + 1) (omega arith))
    (subst (λ t. is_rising_below (range_with_len (a + 1) (suc n)) t ≡ true) (omega arith)
    (rising_range (a + 1) (suc n)))

pub range_kept : (unit w n : ℕ) → unit < w → others unit (range_with_len w n) ≡ range_with_len w n
range_kept unit w zero less = refl
range_kept unit w (suc n) less =
    kept_first unit w (range_with_len (w + 1) n) (λ e. omega (arith, less, e))
    ∙ ap (λ us. w ∷ us) (range_kept unit (w + 1) n (omega (arith, less)))

-- those that have turns are the first of those that are left
pub first_are_active : (slots : ℕ) (active : List ℕ) (w n : ℕ) → length active ≡ min slots (length active + n)
    → take slots (active ++ range_with_len w n) ≡ active
first_are_active slots active w zero filled = ap (take slots) (append-nil active)
    ∙ take_all slots active (omega (arith, filled))
  where
    take_all : (k : ℕ) (xs : List ℕ) → length xs ≤ k → take k xs ≡ xs
    take_all zero [] few = refl
    take_all (suc k) [] few = refl
    take_all zero (x ∷ xs) few = absurd (omega (arith, few))
    take_all (suc k) (x ∷ xs) few = ap (λ ys. x ∷ ys) (take_all k xs (omega (arith, few)))
first_are_active slots active w (suc n) filled =
    let is : slots ≡ length active = omega (arith, filled) in
    ap (λ k. take k (active ++ range_with_len w (suc n))) is ∙
    (take-append-le (length active) active (range_with_len w (suc n)) (omega arith) ∙ take_own active)
  where
    take_own : (xs : List ℕ) → take (length xs) xs ≡ xs
    take_own [] = refl
    take_own (x ∷ xs) = ap (λ ys. x ∷ ys) (take_own xs)

range_next : (a n : ℕ) → range_with_len a (suc n) ≡ range_with_len a n ++ (a + n) ∷ []
range_next a zero = ap (λ k. k ∷ []) (let e : a ≡ a + 0 = omega arith in e)
range_next a (suc n) =
    ap (λ us. a ∷ us) (range_next (a + 1) n ∙ ap (λ k. range_with_len (a + 1) n ++ k ∷ [])
    (let e : a + 1 + n ≡ a + suc n = omega arith in e))

-- one more unit
pub one_more_unit : (n : ℕ) (xs ys : List ℕ) → xs ≡ range_with_len 0 n → ys ≡ xs ++ n ∷ []
    → ys ≡ range_with_len 0 (n + 1)
one_more_unit n xs ys is more =
    more ∙ (ap (λ us. us ++ n ∷ []) is ∙ (ap (λ k. range_with_len 0 n ++ k ∷ []) (let e : n ≡ 0 + n = omega arith in e)
    ∙ (sym (range_next 0 n) ∙ ap (range_with_len 0) (let e : suc n ≡ n + 1 = omega arith in e))))

-- ---- the core

-- whose turn it is, of those that have turns
pub picked : (rules : TurnRules) (place : ℕ) (active : List ℕ) (w n : ℕ) → place < length rules.schedule
    → length active ≡ min rules.slots (length active + n)
    → whose_turn rules place (active ++ range_with_len w n) ≡ slice_get active
    (slice_index rules.schedule place % length active)
picked rules place active w n within filled =
    ap (λ us. slice_get us (slice_index rules.schedule (place % length rules.schedule) % length us))
    (first_are_active rules.slots active w n filled)
    ∙ ap (λ p. slice_get active (slice_index rules.schedule p % length active)) (mod-eq_of_lt within)

-- what is known of the units that have turns, of which the first that waits is w and so many wait
pub record AreActive (slots : ℕ) (active : List ℕ) (w n : ℕ) : Type 0 where
  pub rising : is_rising_below active w ≡ true
  pub filled : length active ≡ min slots (length active + n)

one_fewer : (xs : List ℕ) (at : ℕ) → at < length xs → length (remove xs at) + 1 ≡ length xs
one_fewer [] at within = absurd (omega (arith, within))
one_fewer (x ∷ xs) zero within = omega arith
one_fewer (x ∷ xs) (suc at) within = let later = one_fewer xs at (omega (arith, within)) in omega (arith, later)

-- one is taken out, and none waits
pub without_one : (slots : ℕ) (active left : List ℕ) (w at : ℕ) → AreActive slots active w 0 → at < length active
    → left ≡ remove active at → AreActive slots left w 0
without_one slots active left w at are within is =
    let f = are.filled in
    let long = one_fewer active at within in
    let same : length left ≡ length (remove active at) = ap length is in
    record {
      rising = subst (λ us. is_rising_below us w ≡ true) (sym is) (rising_left active w at are.rising within);
      filled = omega (arith, f, long, same);
    }

-- one is taken out, and the first that waits takes its place
pub next_one : (slots : ℕ) (active left more : List ℕ) (w n at : ℕ) → AreActive slots active w (n + 1)
    → at < length active → left ≡ remove active at
    → more ≡ left ++ w ∷ [] → AreActive slots more (w + 1) n
next_one slots active left more w n at are within is added =
    let f = are.filled in
    let long = one_fewer active at within in
    let same : length left ≡ length (remove active at) = ap length is in
    let longer : length more ≡ length left + 1 = ap length added ∙ length-append left (w ∷ []) in
    record {
      rising = subst (λ us. is_rising_below us (w + 1) ≡ true) (sym added)
          (rising_more left w (subst (λ us. is_rising_below us w ≡ true) (sym is)
          (rising_left active w at are.rising within)));
      filled = omega (arith, f, long, same, longer);
    }

-- the others of those that are left
pub others_of_left : (unit : ℕ) (active left : List ℕ) (w n at : ℕ) → is_rising_below active w ≡ true
    → at < length active → get_or active at 0 ≡ unit → left ≡ remove active at
    → left ++ range_with_len w n ≡ others unit (active ++ range_with_len w n)
others_of_left unit active left w n at rising within named is =
    let below : unit < w = subst (λ u. u < w) named (all_below active w at rising within) in
    sym (filter-append (λ u. not (nat_eq u unit)) active (range_with_len w n)
    ∙ (ap (λ us. us ++ others unit (range_with_len w n)) (others_left unit active w at rising within named ∙ sym is)
    ∙ ap (λ us. left ++ us) (range_kept unit w n below)))

pub got : (xs : List ℕ) (i d : ℕ) → i < length xs → Some (get_or xs i d) ≡ slice_get xs i
got [] i d within = absurd (omega (arith, within))
got (x ∷ xs) zero d within = refl
got (x ∷ xs) (suc i) d within = got xs i d (omega (arith, within))

zero_more : (n : ℕ) → 0 + n ≡ n
zero_more n = omega arith

-- the first units, as many as there are slots for
pub first_units_active : (slots units : ℕ) (active : List ℕ) → active ≡ range_with_len 0 (min units slots)
    → AreActive slots active (min units slots) (units - min units slots)
first_units_active slots units active is =
    let long : length active ≡ min units slots = ap length is ∙ length-range_with_len 0 (min units slots) in
    record {
      rising = subst (λ us. is_rising_below us (min units slots) ≡ true) (sym is)
          (subst (λ t. is_rising_below (range_with_len 0 (min units slots)) t ≡ true) (zero_more (min units slots))
          (rising_range 0 (min units slots)));
      filled = omega (arith, long);
    }

-- a range in two parts
pub range_parts : (a n m : ℕ) → range_with_len a n ++ range_with_len (a + n) m ≡ range_with_len a (n + m)
range_parts a zero m = (λ k. range_with_len ((let e : a + 0 ≡ a = omega arith in e) k) ((let e : m ≡ 0 + m =
    omega arith in e) k))
range_parts a (suc n) m =
    ap (λ us. a ∷ us) (ap (λ b. range_with_len (a + 1) n ++ range_with_len b m) (let e : a + suc n ≡ a + 1 + n =
    omega arith in e) ∙ range_parts (a + 1) n m)
    ∙ ap (range_with_len a) (let e : suc (n + m) ≡ suc n + m = omega arith in e)

-- the first units and those that wait are all
pub all_units : (units first : ℕ) (active : List ℕ) → first ≤ units → active ≡ range_with_len 0 first
    → active ++ range_with_len first (units - first) ≡ range_with_len 0 units
all_units units first active within is =
    let whole : first + (units - first) ≡ units = omega (arith, within) in
    ap (λ us. us ++ range_with_len first (units - first)) is
    ∙ (ap (λ b. range_with_len 0 first ++ range_with_len b (units - first)) (sym (zero_more first))
    ∙ (range_parts 0 first (units - first) ∙ ap (range_with_len 0) whole))

-- the first that waits, put behind those that have turns, is where it was
pub next_left : (left more : List ℕ) (w n : ℕ) → more ≡ left ++ w ∷ []
    → more ++ range_with_len (w + 1) n ≡ left ++ range_with_len w (suc n)
next_left left more w n added =
    ap (λ us. us ++ range_with_len (w + 1) n) added ∙ append_assoc left (w ∷ []) (range_with_len (w + 1) n)

-- what is read at a place of the schedule
pub named_unit : (active schedule seen : List ℕ) (place size unit d : ℕ) → seen ≡ schedule → size ≡ length active
    → 0 < length active
    → unit ≡ get_or active (get_or seen place 0 % size) d → Some unit ≡ slice_get active
    (get_or schedule place 0 % length active)
named_unit active schedule seen place size unit d same long some is =
    ap (λ u. Some u) (is ∙ ap (λ xs. get_or active (get_or xs place 0 % size) d) same
    ∙ ap (λ n. get_or active (get_or schedule place 0 % n) d) long)
    ∙ got active (get_or schedule place 0 % length active) d (mod-lt (get_or schedule place 0) some)
