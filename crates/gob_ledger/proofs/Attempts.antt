-- What each unit pulls, and when it is given up.
use Rattle.std.proofs.Common.{◌≡◌, ◌≢◌, ⊎_elim, ℕ, zero, suc, ◌+◌, ◌<◌, ◌≤◌, Bool, true, false, cond, not, ◌&&◌, ◌||◌}
use Rattle.std.proofs.Common.{nat_eq, nat_le, nat_lt, List, [], ◌∷◌, ◌++◌, map, length, take, refl, sym, ap, subst, ◌∙◌}
use Rattle.std.proofs.Common.{append-nil, append_assoc, Some, None, option_map, is_some, arith, length-take}
use Rattle.std.specs.declared.option.Option.{Option}
use Rattle.std.specs.List.{Contains, enumerate_from, filter, slice_get}
use Rattle.std.proofs.lemmas.Bool.{eq-eqb, ne_eqb, cases_eq, ltb-true, leb-true, or_cases}
use Rattle.std.proofs.lemmas.List.{length-append, take_all}
use Rattle.std.proofs.lemmas.List.Folds.{list_any-append}
use Rattle.std.proofs.lemmas.Option.{none-some, same_Some, slice_get_within, slice_get-get_or}
use Rattle.gob_device.specs.Supply.{Held, Pull}
use Rattle.gob_plan.specs.declared.units.Unit.{Unit as WorkUnit}
use Rattle.gob_meaning.specs.Job.{Job}
use Rattle.gob_ledger.specs.Turns.{TakenTurn, gave_up, member, turns_of}
use Rattle.gob_ledger.specs.Counted.{AreScheduled, ListedUnit, failure_count, has_ended, has_failed, listed_units}
use Rattle.gob_ledger.specs.Counted.{next_turn, attempt_pulls, turn_behind, units_left, whose_turn}
use Rattle.gob_ledger.specs.TurnLaws.{HaveBytes, UnitsPullTheirOwn, OnlyListedHaveTurns}
use Rattle.gob_ledger.proofs.Members.{none_in, first_in, later_in, in_cases, filter_in, map_in}
use Rattle.gob_ledger.proofs.Counting.{failures_more, failures_other, pulled_failed, pulled_other, pulled_passed}
use Rattle.gob_ledger.proofs.Scheduling.{IsLeft, Numbered, get_in, is_left, one_number}
use Rattle.gob_ledger.proofs.Taking.{get_here, listed_member, listed_unit, numbered_units, turns_scheduled}

pub in_front : {X : Type 0} (n : ℕ) (xs : List X) (x : X) → Contains (take n xs) x → Contains xs x
in_front zero xs x h = none_in x h
in_front (suc n) [] x h = none_in x h
in_front (suc n) (y ∷ ys) x h = ⊎_elim (λ e. first_in y ys x e) (λ k. later_in y ys x (in_front n ys x k))
    (in_cases y (take n ys) x h)

-- the unit that had this turn
pub record TurnOf (job : Job) (us : List ListedUnit) (failing : List ℕ) (before : List TakenTurn)
    (t : TakenTurn) : Type 0 where
  pub unit : ListedUnit
  pub left : Contains (units_left job.max_retries us before) unit
  pub is : turn_behind job.max_retries (member (length before) failing) before unit ≡ t

turn_of : (job : Job) (us : List ListedUnit) (failing : List ℕ) (before : List TakenTurn) (t : TakenTurn)
    → next_turn job us failing before ≡ Some t → TurnOf job us failing before t
turn_of job us failing before t e = cases
    (whose_turn job.turns (length before) (units_left job.max_retries us before)) refl e
  where
    cases : (o : Option ListedUnit) → whose_turn job.turns (length before) (units_left job.max_retries us before) ≡ o
        → option_map (turn_behind job.max_retries (member (length before) failing) before) o ≡ Some t
        → TurnOf job us failing before t
    cases None whose e = absurd (none-some t e)
    cases (Some u) whose e = record {
      unit = u;
      left = in_front job.turns.slots (units_left job.max_retries us before) u (get_in _ _ u whose);
      is = same_Some (turn_behind job.max_retries (member (length before) failing) before u) t e;
    }

-- what holds before the first turn and stays so in each holds behind each
along_turns : (Q : List TakenTurn → Type 0) (job : Job) (us : List ListedUnit) (failing : List ℕ)
    (turns : List TakenTurn) → AreScheduled job us failing turns → Q []
    → ((before : List TakenTurn) (t : TakenTurn) → TurnOf job us failing before t → Q before → Q (before ++ t ∷ []))
    → (k : ℕ) → Q (take k turns)
along_turns Q job us failing turns come first step zero = first
along_turns Q job us failing turns come first step (suc k) = cases (slice_get turns k) refl
    (along_turns Q job us failing turns come first step k)
  where
    cases : (o : Option TakenTurn) → slice_get turns k ≡ o → Q (take k turns) → Q (take (suc k) turns)
    cases None e here = subst Q (stays k turns e) here
      where
        stays : (n : ℕ) (ts : List TakenTurn) → slice_get ts n ≡ None → take n ts ≡ take (suc n) ts
        stays zero [] e = refl
        stays zero (t ∷ ts) e = absurd (none-some t (sym e))
        stays (suc n) [] e = refl
        stays (suc n) (t ∷ ts) e = ap (λ (xs : List TakenTurn). t ∷ xs) (stays n ts e)
    cases (Some t) e here =
        let below = slice_get_within turns k t e in
        subst Q (sym (grows k turns t e))
        (step (take k turns) t (turn_of job us failing (take k turns) t (sym (come.each k below) ∙ e)) here)
      where
        grows : (n : ℕ) (ts : List TakenTurn) (t : TakenTurn) → slice_get ts n ≡ Some t → take (suc n) ts
            ≡ take n ts ++ t ∷ []
        grows n [] t e = absurd (none-some t e)
        grows zero (s ∷ ts) t e = ap (λ (x : TakenTurn). x ∷ []) (same_Some s t e)
        grows (suc n) (s ∷ ts) t e = ap (λ (xs : List TakenTurn). s ∷ xs) (grows n ts t e)

at_end : (Q : List TakenTurn → Type 0) (turns : List TakenTurn) → ((k : ℕ) → Q (take k turns)) → Q turns
at_end Q turns all = subst Q (take_all (length turns) turns (omega arith)) (all (length turns))

-- ---- pulls

-- what the unit has pulled is a front of its own pulls
abbrev IsFront : ListedUnit → List TakenTurn → Type 0
IsFront u ts = (rest : List Pull) × (u.own ≡ attempt_pulls u.unit ts ++ rest)

one_more_pull : (retries : ℕ) (fails : Bool) (before : List TakenTurn) (t : TakenTurn) (u : ListedUnit)
    → turn_behind retries fails before u ≡ t → IsLeft retries before u
    → IsFront u before → IsFront u (before ++ t ∷ [])
one_more_pull retries true before t u is left (rest, front) =
    let unit : t.unit ≡ u.unit = ap (λ (x : TakenTurn). x.unit) (sym is) in
    let none : t.pull ≡ None = ap (λ (x : TakenTurn). x.pull) (sym is) in
    (u.own, sym (ap (λ ps. ps ++ u.own) (pulled_failed before t u.unit unit none)))
one_more_pull retries false before t u is left ([], front) = absurd (
    let more = left.more in let same = ap length (front ∙ append-nil (attempt_pulls u.unit before)) in omega arith)
one_more_pull retries false before t u is left (p ∷ rest, front) =
    let unit : t.unit ≡ u.unit = ap (λ (x : TakenTurn). x.unit) (sym is) in
    let some : t.pull
    ≡ Some p = ap (λ (x : TakenTurn). x.pull) (sym is) ∙
    (ap (λ ps. slice_get ps (length (attempt_pulls u.unit before))) front ∙ get_here
    (attempt_pulls u.unit before) p rest) in (
      rest,
      front ∙
          (sym (append_assoc (attempt_pulls u.unit before) (p ∷ []) rest) ∙ sym
          (ap (λ ps. ps ++ rest) (pulled_passed before t u.unit p unit some))),
    )

front_stays : (job : Job) (us : List ListedUnit) (failing : List ℕ) (u : ListedUnit) → Numbered 0 us → Contains us u
    → (before : List TakenTurn) (t : TakenTurn) → TurnOf job us failing before t → IsFront u before
    → IsFront u (before ++ t ∷ [])
front_stays job us failing u order there before t turn front =
    let left = is_left job.max_retries us before turn.unit turn.left in
    ⊎_elim
    (λ e. let same : turn.unit ≡ u = one_number 0 us turn.unit u order left.0 there e in
    one_more_pull job.max_retries (member (length before) failing) before t u
    (subst (λ x. turn_behind job.max_retries (member (length before) failing) before x ≡ t) same turn.is)
    (subst (IsLeft job.max_retries before) same left.1) front)
    (λ ne. let other : t.unit ≢ u.unit = λ e. ne (ap (λ (x : TakenTurn). x.unit) turn.is ∙ e) in
    (front.0, front.1 ∙ sym (ap (λ ps. ps ++ front.0) (pulled_other before t u.unit other))))
    (cases_eq turn.unit.unit u.unit)

-- ---- giving up

-- the unit is given up exactly where it has failed as often as it may and once more, and never fails again
record Failed (retries : ℕ) (i : ℕ) (ts : List TakenTurn) : Type 0 where
  most : failure_count i ts ≤ retries + 1
  given_up : gave_up ts i ≡ nat_eq (failure_count i ts) (retries + 1)

gave_up_more : (before : List TakenTurn) (t : TakenTurn) (i : ℕ) → gave_up (before ++ t ∷ []) i
    ≡ (gave_up before i || (t.gave_up && nat_eq t.unit i))
gave_up_more before t i = list_any-append (λ s. s.gave_up && nat_eq s.unit i) before (t ∷ []) ∙ ap
    (λ b. gave_up before i || b) (no_more (t.gave_up && nat_eq t.unit i))
  where
    no_more : (b : Bool) → (b || false) ≡ b
    no_more true = refl
    no_more false = refl

eq_false : (a b : ℕ) → a < b → nat_eq a b ≡ false
eq_false a b below = ne_eqb a b (λ e. omega (arith, below))

one_more_each : (f r : ℕ) → nat_eq f r ≡ nat_eq (f + 1) (r + 1)
one_more_each f r = ⊎_elim
    (λ e. eq-eqb f r e ∙ sym (eq-eqb (f + 1) (r + 1) (omega arith)))
    (λ ne. ne_eqb f r ne ∙ sym (ne_eqb (f + 1) (r + 1) (λ e. ne (omega (arith, e)))))
    (cases_eq f r)

one_more_failure : (retries : ℕ) (fails : Bool) (before : List TakenTurn) (t : TakenTurn) (u : ListedUnit)
    → turn_behind retries fails before u ≡ t → IsLeft retries before u
    → Failed retries u.unit before → Failed retries u.unit (before ++ t ∷ [])
one_more_failure retries true before t u is left known =
    let unit : t.unit ≡ u.unit = ap (λ (x : TakenTurn). x.unit) (sym is) in
    let f : ℕ = failure_count u.unit before in
    let ended : t.gave_up ≡ nat_eq f retries = ap (λ (x : TakenTurn). x.gave_up) (sym is) in
    let failed : has_failed t ≡ true = ap has_failed (sym is) in
    let may : f ≤ retries = left.may in
    let more : failure_count u.unit (before ++ t ∷ [])
    ≡ f + 1 = failures_more before t u.unit unit ∙ ap (λ b. f + cond b 1 0) failed in
    record {
      most = omega arith;
      given_up =
          gave_up_more before t u.unit
          ∙ ((λ i. known.given_up i || (ended i && eq-eqb t.unit u.unit unit i))
          ∙ (ap (λ b. b || (nat_eq f retries && true)) (eq_false f (retries + 1) (omega arith))
          ∙ (and_true (nat_eq f retries)
          ∙ (one_more_each f retries ∙ ap (λ n. nat_eq n (retries + 1)) (sym more)))));
    }
  where
    and_true : (b : Bool) → (b && true) ≡ b
    and_true true = refl
    and_true false = refl
one_more_failure retries false before t u is left known =
    let unit : t.unit ≡ u.unit = ap (λ (x : TakenTurn). x.unit) (sym is) in
    let f : ℕ = failure_count u.unit before in
    let n : ℕ = length (attempt_pulls u.unit before) in
    let d : Pull = record { part = []; at = 0; len = 0 } in
    let ended : t.gave_up ≡ false = ap (λ (x : TakenTurn). x.gave_up) (sym is) in
    let inside : n < length u.own = left.more in
    let passed : has_failed t
    ≡ false = ap has_failed (sym is) ∙ ap (λ o. not (is_some o)) (slice_get-get_or u.own n d inside) in
    let same : failure_count u.unit (before ++ t ∷ [])
    ≡ f = failures_more before t u.unit unit ∙
    (ap (λ b. f + cond b 1 0) passed ∙ (let none : f + 0 ≡ f = omega arith in none)) in
    record {
      most = let most = known.most in omega arith;
      given_up = gave_up_more before t u.unit ∙
          (ap (λ b. gave_up before u.unit || (b && nat_eq t.unit u.unit)) ended ∙
          (or_none (gave_up before u.unit) ∙ (known.given_up ∙ ap (λ m. nat_eq m (retries + 1)) (sym same))));
    }
  where
    or_none : (b : Bool) → (b || false) ≡ b
    or_none true = refl
    or_none false = refl

failed_stays : (job : Job) (us : List ListedUnit) (failing : List ℕ) (i : ℕ) (before : List TakenTurn) (t : TakenTurn)
    → TurnOf job us failing before t
    → Failed job.max_retries i before → Failed job.max_retries i (before ++ t ∷ [])
failed_stays job us failing i before t turn known =
    let left = is_left job.max_retries us before turn.unit turn.left in
    ⊎_elim
    (λ e. subst (λ n. Failed job.max_retries n (before ++ t ∷ [])) e
    (one_more_failure job.max_retries (member (length before) failing) before t turn.unit turn.is left.1
    (subst (λ n. Failed job.max_retries n before) (sym e) known)))
    (λ ne. let other : t.unit ≢ i = λ e. ne (ap (λ (x : TakenTurn). x.unit) turn.is ∙ e) in
    record {
      most = subst (λ n. n ≤ job.max_retries + 1) (sym (failures_other before t i other)) known.most;
      given_up =
          gave_up_more before t i
          ∙ ((λ j. known.given_up j || (t.gave_up && ne_eqb t.unit i other j))
          ∙ (and_none (nat_eq (failure_count i before) (job.max_retries + 1)) t.gave_up ∙ ap
          (λ n. nat_eq n (job.max_retries + 1)) (sym (failures_other before t i other))));
    })
    (cases_eq turn.unit.unit i)
  where
    and_none : (a b : Bool) → (a || (b && false)) ≡ a
    and_none true b = refl
    and_none false true = refl
    and_none false false = refl

pub failed_at_end : (job : Job) (held : Held) (units : List WorkUnit) (failing : List ℕ) → 0 < job.turns.slots
    → HaveBytes units → (i : ℕ)
    → (failure_count i (turns_of job held units failing) ≤ job.max_retries + 1)
    × (gave_up (turns_of job held units failing) i
    ≡ nat_eq (failure_count i (turns_of job held units failing)) (job.max_retries + 1))
failed_at_end job held units failing some bytes i =
    let us : List ListedUnit = listed_units job held units in
    let turns : List TakenTurn = turns_of job held units failing in
    let none : Failed job.max_retries i [] = record {
      most = omega arith;
      given_up = sym
          (eq_false 0 (job.max_retries + 1) (omega arith));
    } in
    let all : Failed job.max_retries i turns = at_end (Failed job.max_retries i) turns
    (along_turns (Failed job.max_retries i) job us failing turns
    (turns_scheduled job held units failing some bytes) none (failed_stays job us failing i)) in
    (all.most, all.given_up)

-- ---- the laws

listed_there : (job : Job) (held : Held) (n : ℕ) (units : List WorkUnit) (i : ℕ) (w : WorkUnit) → slice_get units i
    ≡ Some w → w.listed ≡ true
    → Contains (map (listed_unit job held) (filter (λ e. e.1.listed) (enumerate_from n units)))
    (listed_unit job held (n + i, w))
listed_there job held n units i w at listed =
    map_in (listed_unit job held) (filter (λ e. e.1.listed) (enumerate_from n units)) (n + i, w)
    (filter_in (λ e. e.1.listed) (enumerate_from n units) (n + i, w) (numbered n units i w at) listed)
  where
    numbered : (m : ℕ) (ws : List WorkUnit) (j : ℕ) (x : WorkUnit) → slice_get ws j ≡ Some x
        → Contains (enumerate_from m ws) (m + j, x)
    numbered m [] j x e = absurd (none-some x e)
    numbered m (y ∷ ys) zero x e = first_in (m, y) (enumerate_from (m + 1) ys) (m + 0, x)
        (λ i. (stay i, same_Some y x e i))
      where
        stay : m ≡ m + 0
        stay = omega arith
    numbered m (y ∷ ys) (suc j) x e = subst (λ k. Contains (enumerate_from m (y ∷ ys)) (k, x)) next
        (later_in (m, y) (enumerate_from (m + 1) ys) (m + 1 + j, x) (numbered (m + 1) ys j x e))
      where
        next : m + 1 + j ≡ m + suc j
        next = omega arith

pub units_pull : UnitsPullTheirOwn
units_pull job held units failing i w some bytes at listed =
    let us : List ListedUnit = listed_units job held units in
    let turns : List TakenTurn = turns_of job held units failing in
    let u : ListedUnit = listed_unit job held (i, w) in
    let come : AreScheduled job us failing turns = turns_scheduled job held units failing some bytes in
    let zero : 0 + i ≡ i = omega arith in
    let there : Contains us u = subst (λ n. Contains us (listed_unit job held (n, w))) zero
    (listed_there job held 0 units i w at listed) in
    let fronts : (k : ℕ)
    → IsFront u (take k turns) = along_turns (IsFront u) job us failing turns come (u.own, refl)
    (front_stays job us failing u (numbered_units job held units) there) in
    record {
      fronts = fronts;
      all = λ kept.
          let front = at_end (IsFront u) turns fronts in
          let known = failed_at_end job held units failing some bytes i in
          let few : failure_count i turns ≤ job.max_retries = not_yet (failure_count i turns) job.max_retries known.0
          (sym known.1 ∙ kept) in
          let ended : has_ended job.max_retries turns u ≡ true = left_none turns us u there come.all in
          whole u turns job.max_retries front ended few;
    }
  where
    not_yet : (f r : ℕ) → f ≤ r + 1 → nat_eq f (r + 1) ≡ false → f ≤ r
    not_yet f r most e = ⊎_elim
        (λ same. absurd
        (let yes : nat_eq f (r + 1) ≡ true = eq-eqb f (r + 1) same in let no : true ≡ false = sym yes ∙ e in cc))
        (λ ne. omega arith) (cases_eq f (r + 1))

    left_none : (turns : List TakenTurn) (us : List ListedUnit) (u : ListedUnit) → Contains us u
        → units_left job.max_retries us turns ≡ [] → has_ended job.max_retries turns u ≡ true
    left_none turns us u there none = elim (has_ended job.max_retries turns u) as
        (λ b. has_ended job.max_retries turns u ≡ b → b ≡ true) [
          | true ↦ λ e. refl
          | false ↦ λ e. none_in u
              (subst (λ (vs : List ListedUnit). Contains vs u) none
              (filter_in (λ v. not (has_ended job.max_retries turns v)) us u there (ap not e)))
        ] refl

    whole : (u : ListedUnit) (ts : List TakenTurn) (r : ℕ) → IsFront u ts → has_ended r ts u ≡ true
        → failure_count u.unit ts ≤ r → attempt_pulls u.unit ts ≡ u.own
    whole u ts r ([], front) ended few = sym (front ∙ append-nil (attempt_pulls u.unit ts))
    whole u ts r (p ∷ rest, front) ended few = ⊎_elim
        (λ e. absurd
        (let all : length u.own ≤ length
        (attempt_pulls u.unit ts) = leb-true _ _ e in let long = ap length front ∙ length-append
        (attempt_pulls u.unit ts) (p ∷ rest) in omega arith))
        (λ e. absurd (let over : r < failure_count u.unit ts = ltb-true _ _ e in omega arith))
        (or_cases (nat_le (length u.own) (length (attempt_pulls u.unit ts))) (nat_lt r (failure_count u.unit ts)) ended)

pub get_member : {X : Type 0} (xs : List X) (x : X) → Contains xs x → (k : ℕ) × (slice_get xs k ≡ Some x)
get_member [] x h = none_in x h
get_member (y ∷ ys) x h = ⊎_elim (λ e. (0, ap (λ z. Some z) e)) (λ k. let r = get_member ys x k in (suc r.0, r.1))
    (in_cases y ys x h)

-- the unit of the turn with this number
turn_at : (job : Job) (held : Held) (units : List WorkUnit) (failing : List ℕ) → 0 < job.turns.slots → HaveBytes units
    → (k : ℕ) (t : TakenTurn) → slice_get (turns_of job held units failing) k ≡ Some t
    → TurnOf job (listed_units job held units) failing (take k (turns_of job held units failing)) t
turn_at job held units failing some bytes k t at =
    let turns : List TakenTurn = turns_of job held units failing in
    let come = turns_scheduled job held units failing some bytes in
    turn_of job (listed_units job held units) failing (take k turns) t
    (sym (come.each k (slice_get_within turns k t at)) ∙ at)

pub only_listed : OnlyListedHaveTurns
only_listed job held units failing t some bytes h =
    let us : List ListedUnit = listed_units job held units in
    let turns : List TakenTurn = turns_of job held units failing in
    let at = get_member turns t h in
    let turn = turn_at job held units failing some bytes at.0 t at.1 in
    let there = (is_left job.max_retries us (take at.0 turns) turn.unit turn.left).0 in
    let m = listed_member job held 0 units turn.unit there in
    let unit : turn.unit.unit ≡ t.unit = ap (λ (x : TakenTurn). x.unit) turn.is in
    let number : m.0 ≡ t.unit = let is : 0 + m.0 ≡ turn.unit.unit = m.2 in omega arith in
    (m.1, ap (slice_get units) (sym number) ∙ m.3, m.4)

-- a turn fails exactly where its number is among the failing ones
pub fails_by_number : (job : Job) (held : Held) (units : List WorkUnit) (failing : List ℕ) → 0 < job.turns.slots
    → HaveBytes units
    → (k : ℕ) (t : TakenTurn) → slice_get (turns_of job held units failing) k ≡ Some t → has_failed t ≡ member k failing
fails_by_number job held units failing some bytes k t at =
    let us : List ListedUnit = listed_units job held units in
    let turns : List TakenTurn = turns_of job held units failing in
    let turn = turn_at job held units failing some bytes k t at in
    let before : List TakenTurn = take k turns in
    let left = (is_left job.max_retries us before turn.unit turn.left).1 in
    let long : length before
    ≡ k = let taken = length-take k turns in let below = slice_get_within turns k t at in omega arith in
    ap has_failed (sym turn.is) ∙
    (fails (member (length before) failing) before turn.unit left.more ∙ ap (λ n. member n failing) long)
  where
    fails : (b : Bool) (ts : List TakenTurn) (u : ListedUnit) → length (attempt_pulls u.unit ts) < length u.own
        → has_failed (turn_behind job.max_retries b ts u) ≡ b
    fails true ts u more = refl
    fails false ts u more = ap (λ o. not (is_some o))
        (slice_get-get_or u.own (length (attempt_pulls u.unit ts)) (record { part = []; at = 0; len = 0 }) more)
