-- The turns of a run are those that come by the schedule.
use Rattle.std.proofs.Common.{◌≡◌, ◌≢◌, ◌⊎◌, inl, inr, ⊎_elim, ℕ, zero, suc, ◌+◌, ◌<◌, ◌≤◌, Bool, true, false, cond}
use Rattle.std.proofs.Common.{not, ◌||◌, nat_eq, nat_le, nat_lt, List, [], ◌∷◌, ◌++◌, map, length, take, drop, refl}
use Rattle.std.proofs.Common.{sym, ap, subst, ◌∙◌, Some, None, is_some, get_or, arith}
use Rattle.std.specs.declared.option.Option.{Option}
use Rattle.std.specs.List.{Contains, filter, slice_get}
use Rattle.std.proofs.lemmas.Bool.{eq-eqb, ne_eqb, cases_eq, cond-true, cond-false, ltb-true, ltb-false, lt-ltb, le-ltb}
use Rattle.std.proofs.lemmas.Bool.{leb-true, leb-false, le-leb, lt-leb, or_parts, not-true}
use Rattle.std.proofs.lemmas.List.{length_push}
use Rattle.std.proofs.lemmas.Option.{none-some, same_Some, slice_get-get_or}
use Rattle.gob_device.specs.Supply.{Pull}
use Rattle.gob_meaning.specs.Job.{Job}
use Rattle.gob_ledger.specs.Turns.{TakenTurn, Waiting, after_pull, first_pull, one_turn, replace_at}
use Rattle.gob_ledger.specs.Counted.{ListedUnit, failure_count, has_ended, has_failed, attempt_pulls, turn_behind}
use Rattle.gob_ledger.specs.Counted.{units_left}
use Rattle.gob_ledger.proofs.Members.{none_in, first_in, later_in, in_cases, in_filter}
use Rattle.gob_ledger.proofs.Counting.{ended_other, failures_more, failures_other, pulled_failed, pulled_other}
use Rattle.gob_ledger.proofs.Counting.{pulled_passed}

-- units in the order of their numbers, from a number on
abbrev pub Numbered : ℕ → List ListedUnit → Type 0
Numbered n [] = Unit {0}
Numbered n (u ∷ us) = (n ≤ u.unit) × Numbered (u.unit + 1) us

pub numbered_above : (n : ℕ) (us : List ListedUnit) (u : ListedUnit) → Numbered n us → Contains us u → n ≤ u.unit
numbered_above n [] u order h = none_in u h
numbered_above n (v ∷ vs) u (low, rest) h = ⊎_elim
    (λ same. subst (λ (x : ListedUnit). n ≤ x.unit) same low)
    (λ k. let above = numbered_above (v.unit + 1) vs u rest k in omega (arith, above))
    (in_cases v vs u h)

pub numbered_from : (m n : ℕ) (us : List ListedUnit) → m ≤ n → Numbered n us → Numbered m us
numbered_from m n [] le order = tt
numbered_from m n (u ∷ us) le (low, rest) = (omega arith, rest)

pub numbered_filter : (p : ListedUnit → Bool) (n : ℕ) (us : List ListedUnit) → Numbered n us → Numbered n (filter p us)
numbered_filter p n [] order = tt
numbered_filter p n (u ∷ us) (low, rest) = elim (p u) as (λ b. Numbered n (cond b (u ∷ filter p us) (filter p us))) [
  | true ↦ (low, numbered_filter p (u.unit + 1) us rest)
  | false ↦ numbered_from n (u.unit + 1) (filter p us) (omega arith) (numbered_filter p (u.unit + 1) us rest)
]

-- two units of one number are one
pub one_number : (n : ℕ) (us : List ListedUnit) (u v : ListedUnit) → Numbered n us → Contains us u → Contains us v
    → u.unit ≡ v.unit → u ≡ v
one_number n [] u v order h k same = none_in u h
one_number n (w ∷ ws) u v (low, rest) h k same = cases (in_cases w ws u h) (in_cases w ws v k)
    (λ a b. one_number (w.unit + 1) ws u v rest a b same)
  where
    cases : (w ≡ u) ⊎ Contains ws u → (w ≡ v) ⊎ Contains ws v → (Contains ws u → Contains ws v → u ≡ v) → u ≡ v
    cases (inl a) (inl b) later = sym a ∙ b
    cases (inl a) (inr b) later = absurd (
        let e : w.unit ≡ u.unit = ap (λ (x : ListedUnit). x.unit) a in
        let above = numbered_above (w.unit + 1) ws v rest b in omega (arith, above))
    cases (inr a) (inl b) later = absurd (
        let e : w.unit ≡ v.unit = ap (λ (x : ListedUnit). x.unit) b in
        let above = numbered_above (w.unit + 1) ws u rest a in omega (arith, above))
    cases (inr a) (inr b) later = later a b

-- each has pulls to make
abbrev pub AllHavePulls : List ListedUnit → Type 0
AllHavePulls us = (u : ListedUnit) → Contains us u → 0 < length u.own

-- a unit that is left, as it waits behind these turns
abbrev pub wait_of : List TakenTurn → ListedUnit → Waiting
wait_of turns u = record {
  unit = u.unit;
  all = u.own;
  left = drop
      (length (attempt_pulls u.unit turns)) u.own;
  failures = failure_count u.unit turns;
}

abbrev pub waiting_behind : ℕ → List ListedUnit → List TakenTurn → List Waiting
waiting_behind retries us turns = map (wait_of turns) (units_left retries us turns)

-- what is known of a unit that hasn't ended
pub record IsLeft (retries : ℕ) (turns : List TakenTurn) (u : ListedUnit) : Type 0 where
  pub more : length (attempt_pulls u.unit turns) < length u.own
  pub may : failure_count u.unit turns ≤ retries

pub is_left : (retries : ℕ) (us : List ListedUnit) (turns : List TakenTurn) (u : ListedUnit)
    → Contains (units_left retries us turns) u → Contains us u × IsLeft retries turns u
is_left retries us turns u h =
    let r = in_filter (λ v. not (has_ended retries turns v)) us u h in
    let parts = or_parts (nat_le (length u.own) (length (attempt_pulls u.unit turns)))
    (nat_lt retries (failure_count u.unit turns)) (not-true (has_ended retries turns u) r.1) in (
      r.0,
      record {
        more = leb-false (length u.own)
            (length (attempt_pulls u.unit turns)) parts.0;
        may = ltb-false retries (failure_count u.unit turns) parts.1;
      },
    )

pub get_in : {X : Type 0} (xs : List X) (i : ℕ) (x : X) → slice_get xs i ≡ Some x → Contains xs x
get_in [] i x e = absurd (none-some x e)
get_in (y ∷ ys) zero x e = first_in y ys x (same_Some y x e)
get_in (y ∷ ys) (suc i) x e = later_in y ys x (get_in ys i x e)

-- ---- one turn

drop_front : (n : ℕ) (ps : List Pull) → first_pull (drop n ps) ≡ slice_get ps n
drop_front zero [] = refl
drop_front zero (p ∷ ps) = refl
drop_front (suc n) [] = refl
drop_front (suc n) (p ∷ ps) = drop_front n ps

-- the turn that a waiting unit takes is the one that is counted
pub turn_is : (job : Job) (fails : Bool) (turns : List TakenTurn) (u : ListedUnit)
    → failure_count u.unit turns ≤ job.max_retries
    → (one_turn job fails (wait_of turns u)).0 ≡ turn_behind job.max_retries fails turns u
turn_is job true turns u may = λ i. record { unit = u.unit; pull = None; gave_up = same i }
  where
    same : nat_le job.max_retries (failure_count u.unit turns) ≡ nat_eq (failure_count u.unit turns) job.max_retries
    same = ⊎_elim
        (λ e. le-leb job.max_retries (failure_count u.unit turns) (omega arith) ∙ sym
        (eq-eqb (failure_count u.unit turns) job.max_retries e))
        (λ ne. lt-leb job.max_retries (failure_count u.unit turns) (omega arith) ∙ sym
        (ne_eqb (failure_count u.unit turns) job.max_retries ne))
        (cases_eq (failure_count u.unit turns) job.max_retries)
turn_is job false turns u may = λ i. record {
  unit = u.unit;
  pull = drop_front
      (length (attempt_pulls u.unit turns)) u.own i;
  gave_up = false;
}

-- a unit behind a turn of it, by what it has pulled and how often it failed
abbrev behind : ℕ → ListedUnit → List Pull → ℕ → List Waiting
behind retries u pulled failures =
    cond (not (nat_le (length u.own) (length pulled) || nat_lt retries failures))
    (record { unit = u.unit; all = u.own; left = drop (length pulled) u.own; failures = failures } ∷ []) []

map_one : {X Y : Type 0} (f : X → Y) (b : Bool) (x : X) → map f (cond b (x ∷ []) []) ≡ cond b (f x ∷ []) []
map_one f true x = refl
map_one f false x = refl

behind_is : (retries : ℕ) (turns : List TakenTurn) (u : ListedUnit)
    → map (wait_of turns) (filter (λ v. not (has_ended retries turns v)) (u ∷ []))
    ≡ behind retries u (attempt_pulls u.unit turns) (failure_count u.unit turns)
behind_is retries turns u = map_one (wait_of turns) (not (has_ended retries turns u)) u

next_drop : (m : ℕ) (p : Pull) (ps : List Pull) → drop (suc m + 1) (p ∷ ps) ≡ drop (m + 1) ps
next_drop m p ps = ap (λ n. drop n (p ∷ ps)) (shift m)
  where
    shift : (k : ℕ) → suc k + 1 ≡ suc (k + 1)
    shift k = omega arith

next_le : (m n : ℕ) → nat_le (suc n) (suc m + 1) ≡ nat_le n (m + 1)
next_le m n = elim (nat_le n (m + 1)) as (λ b. nat_le n (m + 1) ≡ b → nat_le (suc n) (suc m + 1) ≡ b) [
  | true ↦ λ e. le-leb (suc n) (suc m + 1) (let h : n ≤ m + 1 = leb-true n (m + 1) e in omega arith)
  | false ↦ λ e. lt-leb (suc n) (suc m + 1) (let h : m + 1 < n = leb-false n (m + 1) e in omega arith)
] refl

-- what a pull leaves of the pulls to make
pull_leaves : (w : Waiting) (own : List Pull) (n : ℕ) → n < length own
    → after_pull w (drop n own)
    ≡ cond (not (nat_le (length own) (n + 1))) (record w { left = drop (n + 1) own } ∷ []) []
pull_leaves w [] n below = absurd (omega (arith, below))
pull_leaves w (p ∷ []) zero below = refl
pull_leaves w (p ∷ q ∷ ps) zero below =
    sym (cond-true (not (nat_le (length (p ∷ q ∷ ps)) 1)) (record w { left = q ∷ ps } ∷ []) []
    (ap not (lt-leb (length (p ∷ q ∷ ps)) 1 (omega arith))))
pull_leaves w (p ∷ ps) (suc n) below =
    let same : cond (not (nat_le (length (p ∷ ps)) (suc n + 1)))
    (record w { left = drop (suc n + 1) (p ∷ ps) } ∷ []) []
    ≡ cond (not (nat_le (length ps) (n + 1))) (record w { left = drop (n + 1) ps } ∷ []) [] =
    λ i. cond (not (next_le n (length ps) i)) (record w { left = next_drop n p ps i } ∷ []) [] in
    pull_leaves w ps n (omega (arith, below)) ∙ sym same

behind_same : (retries : ℕ) (u : ListedUnit) (ps qs : List Pull) (f g : ℕ) → ps ≡ qs → f ≡ g → behind retries u ps f
    ≡ behind retries u qs g
behind_same retries u ps qs f g same alike = λ i. behind retries u (same i) (alike i)

no_or : (a b : Bool) → a ≡ false → (a || b) ≡ b
no_or true b e = let no : true ≡ false = e in cc
no_or false b e = refl

pub or_none : (a b : Bool) → b ≡ false → (a || b) ≡ a
or_none true b e = refl
or_none false b e = e

-- a unit may fail again exactly where one more failure isn't too many
may_again : (f retries : ℕ) → nat_lt f retries ≡ not (nat_lt retries (f + 1))
may_again f retries = elim (nat_lt f retries) as (λ b. nat_lt f retries ≡ b → b ≡ not (nat_lt retries (f + 1))) [
  | true ↦ λ e. sym (ap not (le-ltb retries (f + 1) (let h : f < retries = ltb-true f retries e in omega arith)))
  | false ↦ λ e. sym (ap not (lt-ltb retries (f + 1) (let h : retries ≤ f = ltb-false f retries e in omega arith)))
] refl

-- what is left of it is what waits behind that turn
left_is : (job : Job) (fails : Bool) (turns : List TakenTurn) (u : ListedUnit) → IsLeft job.max_retries turns u
    → let t = turn_behind job.max_retries fails turns u in
    (one_turn job fails (wait_of turns u)).1
    ≡ map (wait_of (turns ++ t ∷ [])) (filter (λ v. not (has_ended job.max_retries (turns ++ t ∷ []) v)) (u ∷ []))
left_is job true turns u left =
    let t : TakenTurn = turn_behind job.max_retries true turns u in
    let f : ℕ = failure_count u.unit turns in
    let now : Waiting = record { unit = u.unit; all = u.own; left = u.own; failures = f + 1 } in
    let none : nat_le (length u.own) 0 ≡ false = let more = left.more in lt-leb (length u.own) 0 (omega arith) in
    ap (λ b. cond b (now ∷ []) [])
    (may_again f job.max_retries ∙ ap not
    (sym (no_or (nat_le (length u.own) 0) (nat_lt job.max_retries (f + 1)) none)))
    ∙ (behind_same job.max_retries u [] (attempt_pulls u.unit (turns ++ t ∷ [])) (f + 1)
    (failure_count u.unit (turns ++ t ∷ [])) (sym (pulled_failed turns t u.unit refl refl))
    (sym (failures_more turns t u.unit refl))
    ∙ sym (behind_is job.max_retries (turns ++ t ∷ []) u))
left_is job false turns u left = pulls (slice_get u.own (length (attempt_pulls u.unit turns))) refl
  where
    pulls : (o : Option Pull) → slice_get u.own (length (attempt_pulls u.unit turns)) ≡ o
        → (one_turn job false (wait_of turns u)).1
        ≡ map (wait_of (turns ++ turn_behind job.max_retries false turns u ∷ []))
        (filter (λ v. not (has_ended job.max_retries (turns ++ turn_behind job.max_retries false turns u ∷ []) v))
        (u ∷ []))
    pulls None e =
        let more = left.more in
        absurd (none-some (get_or u.own (length (attempt_pulls u.unit turns)) (record { part = []; at = 0; len = 0 }))
        (sym e ∙ slice_get-get_or u.own (length (attempt_pulls u.unit turns))
        (record { part = []; at = 0; len = 0 }) more))
    pulls (Some p) e =
        let t : TakenTurn = turn_behind job.max_retries false turns u in
        let before : List Pull = attempt_pulls u.unit turns in
        let f : ℕ = failure_count u.unit turns in
        let n : ℕ = length before in
        let w : Waiting = wait_of turns u in
        let few : nat_lt job.max_retries f ≡ false = let may = left.may in le-ltb job.max_retries f may in
        let passed : has_failed t ≡ false = ap (λ o. not (is_some o)) e in
        let long : length (before ++ p ∷ []) ≡ n + 1 = length_push before p in
        let failures : failure_count u.unit (turns ++ t ∷ [])
        ≡ f = failures_more turns t u.unit refl ∙
        (ap (λ b. f + cond b 1 0) passed ∙ (let zero_more : f + 0 ≡ f = omega arith in zero_more)) in
        let after : behind job.max_retries u (before ++ p ∷ []) f
        ≡ cond (not (nat_le (length u.own) (n + 1))) (record w { left = drop (n + 1) u.own } ∷ []) [] =
        λ i. cond (not (or_none (nat_le (length u.own) (long i)) (nat_lt job.max_retries f) few i))
        (record { unit = u.unit; all = u.own; left = drop (long i) u.own; failures = f } ∷ []) [] in
        pull_leaves w u.own n left.more
        ∙ (sym after
        ∙ (behind_same job.max_retries u (before ++ p ∷ []) (attempt_pulls u.unit (turns ++ t ∷ [])) f
        (failure_count u.unit (turns ++ t ∷ [])) (sym (pulled_passed turns t u.unit p refl e)) (sym failures)
        ∙ sym (behind_is job.max_retries (turns ++ t ∷ []) u)))

-- ---- the others

filter_twice : (p q : ListedUnit → Bool) (us : List ListedUnit)
    → ((u : ListedUnit) → Contains us u → q u ≡ true → p u ≡ true) → filter q us ≡ filter q (filter p us)
filter_twice p q [] both = refl
filter_twice p q (u ∷ us) both = cases (p u) (q u) refl refl (filter_twice p q us (λ v h. both v (later_in u us v h)))
  where
    cases : (a b : Bool) → p u ≡ a → q u ≡ b → filter q us ≡ filter q (filter p us)
        → cond (q u) (u ∷ filter q us) (filter q us) ≡ filter q (cond a (u ∷ filter p us) (filter p us))
    cases true b pe qe later = λ i. cond (q u) (u ∷ later i) (later i)
    cases false true pe qe later = let yes : p u ≡ true = both u (first_in u us u refl) qe in cc
    cases false false pe qe later = cond-false (q u) (u ∷ filter q us) (filter q us) qe ∙ later

-- a member of a list is replaced, and the others stay
replaced : (f g : ListedUnit → Waiting) (q : ListedUnit → Bool) (new : List Waiting) (u : ListedUnit) (n : ℕ)
    (us : List ListedUnit) (i : ℕ)
    → Numbered n us → slice_get us i ≡ Some u
    → ((v : ListedUnit) → Contains us v → v.unit ≢ u.unit → (q v ≡ true) × (g v ≡ f v)) → new
    ≡ map g (filter q (u ∷ []))
    → replace_at i new (map f us) ≡ map g (filter q us)
replaced f g q new u n [] i order at others is = absurd (none-some u at)
replaced f g q new u n (v ∷ vs) zero (low, rest) at others is =
    let same : v ≡ u = same_Some v u at in
    let here : new ≡ map g (filter q (v ∷ [])) = is ∙ ap (λ x. map g (filter q (x ∷ []))) (sym same) in
    let stay = unchanged vs (λ w h. others w (later_in v vs w h) (λ e.
    let above = numbered_above (v.unit + 1) vs w rest h in
    let number : v.unit ≡ u.unit = ap (λ (x : ListedUnit). x.unit) same in omega (arith, above))) in
    ap (λ ws. ws ++ map f vs) here ∙ joined (q v) stay
  where
    unchanged : (ws : List ListedUnit) → ((w : ListedUnit) → Contains ws w → (q w ≡ true) × (g w ≡ f w))
        → map g (filter q ws) ≡ map f ws
    unchanged [] stay = refl
    unchanged (w ∷ ws) stay =
        let here = stay w (first_in w ws w refl) in
        ap (λ b. map g (cond b (w ∷ filter q ws) (filter q ws))) here.0 ∙ λ i. here.1 i
        ∷ unchanged ws (λ x h. stay x (later_in w ws x h)) i

    joined : (b : Bool) → map g (filter q vs) ≡ map f vs → map g (cond b (v ∷ []) []) ++ map f vs
        ≡ map g (cond b (v ∷ filter q vs) (filter q vs))
    joined true stay = ap (λ ws. g v ∷ ws) (sym stay)
    joined false stay = sym stay
replaced f g q new u n (v ∷ vs) (suc i) (low, rest) at others is =
    let there : Contains vs u = get_in vs i u at in
    let stays = others v (first_in v vs v refl)
    (λ e. let above = numbered_above (v.unit + 1) vs u rest there in omega (arith, above)) in
    let later = replaced f g q new u (v.unit + 1) vs i rest at (λ w h. others w (later_in v vs w h)) is in
    ap (λ n. f v ∷ (take i (map f vs) ++ new ++ drop n (f v ∷ map f vs))) (shift i)
    ∙ (ap (λ w. w ∷ replace_at i new (map f vs)) (sym stays.1)
    ∙ (ap (λ ws. g v ∷ ws) later
    ∙ ap (λ b. map g (cond b (v ∷ filter q vs) (filter q vs))) (sym stays.0)))
  where
    shift : (k : ℕ) → suc k + 1 ≡ suc (k + 1)
    shift k = omega arith

-- what waits after a turn is what is left, counted
pub waits_on : (job : Job) (fails : Bool) (us : List ListedUnit) (turns : List TakenTurn) (n i : ℕ) (u : ListedUnit)
    → Numbered n us → slice_get (units_left job.max_retries us turns) i ≡ Some u
    → replace_at i (one_turn job fails (wait_of turns u)).1 (waiting_behind job.max_retries us turns)
    ≡ waiting_behind job.max_retries us (turns ++ turn_behind job.max_retries fails turns u ∷ [])
waits_on job fails us turns n i u order at =
    let r : ℕ = job.max_retries in
    let t : TakenTurn = turn_behind r fails turns u in
    let there = is_left r us turns u (get_in (units_left r us turns) i u at) in
    let others : (v : ListedUnit) → Contains (units_left r us turns) v → v.unit ≢ u.unit
    → (not (has_ended r (turns ++ t ∷ []) v) ≡ true) × (wait_of (turns ++ t ∷ []) v ≡ wait_of turns v) =
    λ v h ne.
    let apart : t.unit ≢ v.unit = λ e. ne (sym e) in (
      ap not (ended_other r turns t v apart) ∙ (in_filter (λ w. not (has_ended r turns w)) us v h).1,
      λ j. record {
        unit = v.unit;
        all = v.own;
        left = drop
            (length (pulled_other turns t v.unit apart j)) v.own;
        failures = failures_other turns t v.unit apart j;
      },
    ) in
    let stays : (v : ListedUnit) → Contains us v → not (has_ended r (turns ++ t ∷ []) v) ≡ true
    → not (has_ended r turns v) ≡ true =
    λ v h on. ⊎_elim
    (λ e. let same : u ≡ v = one_number n us u v order there.0 h (sym e) in
    subst (λ x. not (has_ended r turns x) ≡ true) same
    (in_filter (λ w. not (has_ended r turns w)) us u (get_in (units_left r us turns) i u at)).1)
    (λ ne. sym (ap not (ended_other r turns t v (λ e. ne (sym e)))) ∙ on)
    (cases_eq v.unit u.unit) in
    replaced (wait_of turns) (wait_of (turns ++ t ∷ [])) (λ v. not (has_ended r (turns ++ t ∷ []) v))
    (one_turn job fails (wait_of turns u)).1 u n (units_left r us turns) i
    (numbered_filter (λ v. not (has_ended r turns v)) n us order) at others (left_is job fails turns u there.1)
    ∙ ap (map (wait_of (turns ++ t ∷ [])))
    (sym (filter_twice (λ v. not (has_ended r turns v)) (λ v. not (has_ended r (turns ++ t ∷ []) v)) us stays))
