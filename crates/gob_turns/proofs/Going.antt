-- One more turn of a run.
use Rattle.std.proofs.Common.{◌≡◌, ◌≢◌, ⊎_elim, ℕ, zero, suc, ◌+◌, ◌%◌, ◌^◌, ◌<◌, ◌≤◌, Bool, true, false}
use Rattle.std.proofs.Common.{cond, not, ◌&&◌, ◌||◌, nat_eq, nat_lt, List, [], ◌∷◌, ◌++◌, length, map, get_or}
use Rattle.std.proofs.Common.{refl, sym, ap, subst, ◌∙◌, arith, Some, Option, append_assoc, length-append}
use Rattle.std.proofs.Math.ListN.{set}
use Rattle.std.proofs.Math.Nat.{mod-add-mod}
use Rattle.std.specs.List.{remove, slice_get}
use Rattle.std.proofs.lemmas.Bool.{and_from, and_parts, cases_eq, eq-eqb, lt-ltb, ltb-true, ne_eqb}
use Rattle.std.proofs.lemmas.List.Elements.{filter_map-append}
use Rattle.std.proofs.lemmas.List.Folds.{list_any-append}
use Rattle.std.proofs.lemmas.List.Sums.{sum_by-set}
use Rattle.std.proofs.lemmas.Option.{same_Some, slice_get_within, get_or_from_slice_get}
use Rattle.gob_device.specs.Causes.{Rose, RoseBy}
use Rattle.gob_device.specs.Supply.{Held, Supply, bytes_at, with_pulls}
use Rattle.gob_plan.specs.declared.plan.TurnRules.{TurnRules}
use Rattle.gob_plan.specs.declared.units.Cause.TheVariants.{Fault}
use Rattle.gob_plan.specs.declared.units.Unit.{Unit as WorkUnit}
use Rattle.gob_meaning.specs.Job.{Job}
use Rattle.gob_meaning.specs.Results.{failed as verdict_failed}
use Rattle.gob_ledger.specs.Turns.{TakenTurn, Waiting, gave_up, one_turn, pulls_in, unit_verdict}
use Rattle.gob_sched.specs.CoreValue.{CoreValue, is_rising_below}
use Rattle.gob_sched.proofs.Rising.{others, others_left, rising_left, rising_more}
use Rattle.gob_task.specs.Turn.{Devices, TurnRulesValue}
use Rattle.gob_turns.specs.declared.progress.Progress.{Progress}
use Rattle.gob_turns.specs.declared.progress.Progress.TheVariants.{Waits, Runs, Ended}
use Rattle.gob_turns.specs.declared.progress.Step.{Step}
use Rattle.gob_turns.specs.Asked.{MayHaveTurns}
use Rattle.gob_turns.specs.Standing.{IsJudged, StandsAs, all_waiting, failures_so_far}
use Rattle.gob_turns.specs.Standing.{is_open, number_for, open_numbers, waiting_for}
use Rattle.gob_turns.specs.Underway.{AreUnderway, HasTurned, IsJudgedNow, IsPicked, AreRunTurns, IsTurnOf, KeepsOthers}
use Rattle.gob_turns.specs.Underway.{core_after}
use Rattle.gob_turns.specs.Turning.{HasTurn, TurnsSoFar, with_left}
use Rattle.gob_turns.proofs.Having.{one_failure, one_more}
use Rattle.gob_turns.proofs.Picking.{contains_at, has_turn, one_number, one_waiting}
use Rattle.gob_turns.proofs.Places.{IsAmong, ahead_moves, got_other, in_place, is_among, length_set}
use Rattle.gob_turns.proofs.Places.{map_in_place, put_same, removed}
use Rattle.gob_turns.proofs.Stays.{open_listed, stands_still}

-- ---- what was had, and one turn more

pub gave_up_more : (had : List TakenTurn) (t : TakenTurn) (i : ℕ)
    → gave_up (had ++ t ∷ []) i ≡ (gave_up had i || (t.gave_up && nat_eq t.unit i))
gave_up_more had t i =
    list_any-append (λ (x : TakenTurn). x.gave_up && nat_eq x.unit i) had (t ∷ [])
    ∙ ap (λ b. gave_up had i || b) (no_more (t.gave_up && nat_eq t.unit i))
  where
    no_more : (b : Bool) → (b || false) ≡ b
    no_more true = refl
    no_more false = refl

of_other : (had : List TakenTurn) (t : TakenTurn) (i : ℕ) → t.unit ≢ i → gave_up (had ++ t ∷ []) i ≡ gave_up had i
of_other had t i apart =
    gave_up_more had t i
    ∙ (ap (λ b. gave_up had i || (t.gave_up && b)) (ne_eqb t.unit i apart) ∙ none (gave_up had i) t.gave_up)
  where
    none : (a b : Bool) → (a || (b && false)) ≡ a
    none true b = refl
    none false true = refl
    none false false = refl

of_unit : (had : List TakenTurn) (t : TakenTurn) (i : ℕ) → t.unit ≡ i → gave_up had i ≡ false
    → gave_up (had ++ t ∷ []) i ≡ t.gave_up
of_unit had t i same none =
    gave_up_more had t i
    ∙ ((λ k. none k || (t.gave_up && eq-eqb t.unit i same k)) ∙ alone t.gave_up)
  where
    alone : (b : Bool) → (false || (b && true)) ≡ b
    alone true = refl
    alone false = refl

-- another unit is judged as before
judged_other : (job : Job) (held : Held) (had : List TakenTurn) (t : TakenTurn) (i : ℕ) (u : WorkUnit) (p : Progress)
    → t.unit ≢ i → IsJudged job held had i u p → IsJudged job held (had ++ t ∷ []) i u p
judged_other job held had t i u Waits apart is = of_other had t i apart ∙ is
judged_other job held had t i u (Runs b) apart is = of_other had t i apart ∙ is
judged_other job held had t i u (Ended r) apart is =
    is ∙ ap (λ b. cond b (verdict_failed Fault) (unit_verdict job held u)) (sym (of_other had t i apart))

-- the unit that had the turn is judged by it
judged_here : (job : Job) (held : Held) (had : List TakenTurn) (t : TakenTurn) (i : ℕ) (u : WorkUnit) (q : Progress)
    → t.unit ≡ i → gave_up had i ≡ false → IsJudgedNow job held u t.gave_up q → IsJudged job held (had ++ t ∷ []) i u q
judged_here job held had t i u Waits same none is = of_unit had t i same none ∙ is
judged_here job held had t i u (Runs b) same none is = of_unit had t i same none ∙ is
judged_here job held had t i u (Ended r) same none is =
    is ∙ ap (λ b. cond b (verdict_failed Fault) (unit_verdict job held u)) (sym (of_unit had t i same none))

open_gave : (job : Job) (held : Held) (had : List TakenTurn) (i : ℕ) (u : WorkUnit) (p : Progress) → is_open p ≡ true
    → IsJudged job held had i u p → gave_up had i ≡ false
open_gave job held had i u Waits goes is = is
open_gave job held had i u (Runs t) goes is = is
open_gave job held had i u (Ended r) goes is = absurd (let no : false ≡ true = goes in cc)

pulls_more : (had : List TakenTurn) (t : TakenTurn) (s : Supply)
    → with_pulls (pulls_in (t ∷ [])) (with_pulls (pulls_in had) s) ≡ with_pulls (pulls_in (had ++ t ∷ [])) s
pulls_more had t s =
    ap (λ ps. record s { pulls = ps })
    (append_assoc s.pulls (pulls_in had) (pulls_in (t ∷ []))
    ∙ ap (λ ps. s.pulls ++ ps) (sym (filter_map-append (λ (x : TakenTurn). x.pull) had (t ∷ []))))

turn_of_unit : (job : Job) (fails : Bool) (w : Waiting) → (one_turn job fails w).0.unit ≡ w.unit
turn_of_unit job true w = refl
turn_of_unit job false w = refl

-- ---- the told part

one_more_turn : (job : Job) (held : Held) (units : List WorkUnit) (losses : List ℕ) (k : ℕ) (had : List TakenTurn)
    (waiting : List Waiting) (w : Waiting) (fails : Bool) → HasTurn job k waiting w
    → TurnsSoFar job held units losses k had waiting
    → TurnsSoFar job held units (cond fails (losses ++ k ∷ []) losses) (k + 1)
    (had ++ (one_turn job fails w).0 ∷ []) (with_left job k (one_turn job fails w).1 waiting)
one_more_turn job held units losses k had waiting w true has so =
    one_failure job held units losses k had waiting w has so
one_more_turn job held units losses k had waiting w false has so =
    one_more job held units losses k had waiting w has so

-- what is said of each unit, where one of them has changed
each_after : (S T : ℕ → WorkUnit → Progress → Type 0) (units : List WorkUnit) (states : List Progress) (m : ℕ)
    (u : WorkUnit) (q : Progress) → slice_get units m ≡ Some u → m < length states → T m u q
    → ((i : ℕ) (v : WorkUnit) (p : Progress) → m ≢ i → slice_get units i ≡ Some v → S i v p → T i v p)
    → ((i : ℕ) (v : WorkUnit) (p : Progress) → slice_get units i ≡ Some v → slice_get states i ≡ Some p → S i v p)
    → (i : ℕ) (v : WorkUnit) (p : Progress) → slice_get units i ≡ Some v → slice_get (set states m q) i ≡ Some p
    → T i v p
each_after S T units states m u q of_unit within here others each i v p at_unit at_state = ⊎_elim
    (λ same.
    let unit : u ≡ v = same_Some u v (sym of_unit ∙ (ap (slice_get units) same ∙ at_unit)) in
    let state : q ≡ p = same_Some q p
    (sym (got_here states m within) ∙ (ap (slice_get (set states m q)) same ∙ at_state)) in
    subst (λ (r : Progress). T i v r) state (subst (λ w. T i w q) unit (subst (λ j. T j u q) same here)))
    (λ apart. others i v p apart at_unit (each i v p at_unit (sym (got_other states m i q apart) ∙ at_state)))
    (cases_eq m i)
  where
    got_here : (xs : List Progress) (j : ℕ) → j < length xs → slice_get (set xs j q) j ≡ Some q
    got_here [] j below = absurd (omega (arith, below))
    got_here (x ∷ xs) zero below = refl
    got_here (x ∷ xs) (suc j) below = got_here xs j (omega (arith, below))

pub told_more : (units : List WorkUnit) (listed : List ℕ) (states : List Progress) (core : CoreValue) (k : ℕ)
    (losses : List ℕ) (n : ℕ) (q : Progress) (fails : Bool) (old now : Option Supply) (job : Job) (s : Supply)
    → 0 < length job.turns.schedule → core.rules ≡ job.turns → core.place ≡ k % length job.turns.schedule
    → map (λ m. get_or listed m 0) core.left ≡ open_numbers units states
    → (picked : IsPicked units listed states core n)
    → ((t : Supply) (w : Waiting) → t.held ≡ s.held → old ≡ Some t
    → waiting_for job t.held picked.place picked.unit picked.state ≡ w ∷ []
    → IsTurnOf job t picked.place picked.unit w fails q now)
    → AreRunTurns job s units states k losses old
    → AreRunTurns job s units (set states picked.place q) (k + 1) (cond fails (losses ++ k ∷ []) losses) now
told_more units listed states core k losses n q fails old now job s some rules place left picked turned told =
    let held : Held = s.held in
    let waiting : List Waiting = all_waiting job held units states in
    let found = has_turn job held units listed states core n k picked rules place some left in
    let w : Waiting = found.0 in
    let among : IsAmong (waiting_for job held) 0 units states picked.place picked.place picked.unit picked.state
    picked.at w =
    is_among (waiting_for job held) (λ (v : Waiting). v.unit) (one_waiting job held) 0 units states picked.place
    picked.place picked.unit picked.state picked.at w (omega arith) picked.of_unit picked.of_state picked.may found.1
    found.2 in
    let t : Supply = with_pulls (pulls_in told.had) s in
    let turn = turned t w refl told.supply among.is in
    let taken : TakenTurn = (one_turn job fails w).0 in
    let of_place : taken.unit ≡ picked.place = turn_of_unit job fails w ∙ found.2 in
    let has : HasTurn job k waiting w = ap (slice_get waiting) found.3 ∙ found.1 in
    let so = one_more_turn job held units losses k told.had waiting w fails has told.so_far in
    let after : with_left job k (one_turn job fails w).1 waiting ≡ all_waiting job held units
    (set states picked.place q) =
    (λ i. in_place (found.3 i) (turn.left i) waiting) ∙ sym (among.goes q) in
    let before : gave_up told.had picked.place ≡ false =
    open_gave job held told.had picked.place picked.unit picked.state picked.may
    (told.judged picked.place picked.unit picked.state picked.of_unit picked.of_state) in
    record {
      had = told.had ++ taken ∷ [];
      so_far = subst (λ ws. TurnsSoFar job held units (cond fails (losses ++ k ∷ []) losses) (k + 1)
          (told.had ++ taken ∷ []) ws) after so;
      supply = turn.supply ∙ ap Some (pulls_more told.had taken s);
      judged = each_after (IsJudged job held told.had) (IsJudged job held (told.had ++ taken ∷ [])) units states
          picked.place picked.unit q picked.of_unit (slice_get_within states picked.place picked.state picked.of_state)
          (judged_here job held told.had taken picked.place picked.unit q of_place before turn.judged)
          (λ i v p apart at is. judged_other job held told.had taken i v p (λ e. apart (sym of_place ∙ e)) is)
          told.judged;
    }

-- ---- all of it

rising_later : (xs : List ℕ) (top : ℕ) → is_rising_below xs top ≡ true → is_rising_below xs (top + 1) ≡ true
rising_later [] top rising = refl
rising_later (x ∷ []) top rising =
    let below : x < top = ltb-true x top rising in lt-ltb x (top + 1) (omega arith)
rising_later (x ∷ y ∷ ys) top rising =
    let p = and_parts (nat_lt x y) (is_rising_below (y ∷ ys) top) rising in
    and_from (nat_lt x y) (is_rising_below (y ∷ ys) (top + 1)) p.0 (rising_later (y ∷ ys) top p.1)

core_rules : (ended : Bool) (n : ℕ) (core : CoreValue) → (core_after ended n core).rules ≡ core.rules
core_rules true n core = refl
core_rules false n core = refl

core_place : (ended : Bool) (n : ℕ) (core : CoreValue)
    → (core_after ended n core).place ≡ (core.place + 1) % length core.rules.schedule
core_place true n core = refl
core_place false n core = refl

record LeftAfter (units : List WorkUnit) (listed : List ℕ) (states : List Progress) (left : List ℕ) : Type 0 where
  rising : is_rising_below left (length listed) ≡ true
  numbers : map (λ m. get_or listed m 0) left ≡ open_numbers units states

left_after : (units : List WorkUnit) (listed : List ℕ) (states : List Progress) (core : CoreValue) (n : ℕ)
    (q : Progress) (ended : Bool) → ended ≡ not (is_open q)
    → is_rising_below core.left (length listed) ≡ true
    → map (λ m. get_or listed m 0) core.left ≡ open_numbers units states
    → (picked : IsPicked units listed states core n)
    → LeftAfter units listed (set states picked.place q) (core_after ended n core).left
left_after units listed states core n q ended is rising left picked = cases ended is
  where
    at : ℕ
    at = picked.at

    place : ℕ
    place = picked.place

    among : IsAmong number_for 0 units states place place picked.unit picked.state at place
    among = is_among number_for (λ m. m) one_number 0 units states place place picked.unit picked.state at place
        (omega arith) picked.of_unit picked.of_state picked.may picked.number refl

    within : at < length core.left
    within = slice_get_within core.left at n picked.left

    open_state : (b : Bool) → true ≡ not b → b ≡ false
    open_state true e = e
    open_state false e = refl

    still_open : (b : Bool) → false ≡ not b → b ≡ true
    still_open true e = refl
    still_open false e = e

    cases : (b : Bool) → b ≡ not (is_open q) → LeftAfter units listed (set states place q) (core_after b n core).left
    cases true e =
        let gone : is_open q ≡ false = open_state (is_open q) e in
        let out : others n core.left ≡ remove core.left at =
        others_left n core.left (length listed) at rising within (get_or_from_slice_get core.left at n 0 picked.left) in
        record {
          rising = subst (λ xs. is_rising_below xs (length listed) ≡ true) (sym out)
              (rising_left core.left (length listed) at rising within);
          numbers = ap (map (λ m. get_or listed m 0)) (out ∙ removed core.left at)
              ∙ (map_in_place (λ m. get_or listed m 0) core.left at
              ∙ (ap (in_place at []) left
              ∙ sym (among.goes q ∙ ap (λ b. in_place at (cond b (place ∷ []) []) (open_numbers units states)) gone)));
        }
    cases false e =
        let goes : is_open q ≡ true = still_open (is_open q) e in
        record {
          rising = rising;
          numbers = left
              ∙ (sym (put_same (open_numbers units states) at place picked.number)
              ∙ sym (among.goes q ∙ ap (λ b. in_place at (cond b (place ∷ []) []) (open_numbers units states)) goes));
        }

counted_more : (fails : Bool) (n before old now : ℕ) → RoseBy n before old → old ≤ now → (fails ≡ true → Rose old now)
    → RoseBy (n + cond fails 1 0) before now
counted_more true n before old now counted later rose = let up = rose refl in omega (arith, counted, later, up)
counted_more false n before old now counted later rose = omega (arith, counted, later)

length_more : (fails : Bool) (k : ℕ) (losses : List ℕ) → length (cond fails (losses ++ k ∷ []) losses)
    ≡ length losses + cond fails 1 0
length_more true k losses = length-append losses (k ∷ [])
length_more false k losses = let e : length losses ≡ length losses + 0 = omega arith in e

rising_now : (fails : Bool) (k : ℕ) (losses : List ℕ) → is_rising_below losses k ≡ true
    → is_rising_below (cond fails (losses ++ k ∷ []) losses) (k + 1) ≡ true
rising_now true k losses rising = rising_more losses k rising
rising_now false k losses rising = rising_later losses k rising

pub one_step : (rules : TurnRulesValue) (turns : TurnRules) (units : List WorkUnit) (listed : List ℕ)
    (states : List Progress) (core : CoreValue) (k : ℕ) (losses : List ℕ) (first old new : Devices) (n : ℕ)
    (q : Progress) (step : Step)
    → MayHaveTurns rules turns units
    → AreUnderway rules turns units listed states core k losses first old
    → (picked : IsPicked units listed states core n)
    → HasTurned rules picked.place picked.unit picked.state q step old new → KeepsOthers rules picked.place old new
    → AreUnderway rules turns units listed (set states picked.place q) (core_after step.ended n core) (k + 1)
    (cond step.failed (losses ++ k ∷ []) losses) first new
one_step rules turns units listed states core k losses first old new n q step may under picked turned keeps =
    let place : ℕ = picked.place in
    let few : length units < 2 ^ 32 = may.few in
    let in_units : place < length units = slice_get_within units place picked.unit picked.of_unit in
    let in_states : place < length states = slice_get_within states place picked.state picked.of_state in
    let after = left_after units listed states core n q step.ended turned.ended under.rising under.left picked in
    let moved = ahead_moves rules.max_retries units states place picked.unit picked.state q picked.of_unit
    picked.of_state in
    let fewer = turned.fewer in
    let ahead = under.ahead in
    let sums = sum_by-set (failures_so_far rules.max_retries) states place q picked.state in_states in
    let its : get_or states place picked.state ≡ picked.state =
    get_or_from_slice_get states place picked.state picked.state picked.of_state in
    let same_failures : failures_so_far rules.max_retries (get_or states place picked.state)
    ≡ failures_so_far rules.max_retries picked.state = ap (failures_so_far rules.max_retries) its in
    let listed_unit : picked.unit.listed ≡ true =
    open_listed rules picked.unit place picked.state old picked.may
    (under.stand place picked.unit picked.state picked.of_unit picked.of_state) in
    let longer = length_more step.failed k losses in
    let more = turned.failures in
    let so_many = under.failures in
    record {
      number = length_set states place q ∙ under.number;
      stand = each_after (λ i u p. StandsAs rules u i old.supply old.disk p)
          (λ i u p. StandsAs rules u i new.supply new.disk p) units states place picked.unit q picked.of_unit in_states
          turned.stands
          (λ i v p apart at stands. stands_still rules v i place p old new
          (let below = slice_get_within units i v at in omega arith) (omega arith) apart keeps stands)
          under.stand;
      by_rules = core_rules step.ended n core ∙ under.by_rules;
      place = core_place step.ended n core
          ∙ ((λ i. (under.place i + 1) % length ((under.by_rules i).schedule))
          ∙ mod-add-mod k (length turns.schedule) 1);
      rising = after.rising;
      left = after.numbers;
      ahead = omega (arith, moved, fewer, ahead);
      numbered = rising_now step.failed k losses under.numbered;
      counted = subst (λ m. RoseBy m first.source_faults new.source_faults) (sym longer)
          (counted_more step.failed (length losses) first.source_faults old.source_faults new.source_faults
          under.counted keeps.source turned.cause);
      failures = omega (arith, sums, same_failures, longer, more, so_many);
      told = λ job s works is held.
          told_more units listed states core k losses n q step.failed old.supply new.supply job s
          (subst (λ r. 0 < length r.schedule) (sym works.by_turns) may.schedule)
          (under.by_rules ∙ sym works.by_turns)
          (under.place ∙ ap (λ r. k % length r.schedule) (sym works.by_turns))
          under.left picked
          (λ t w same at waits. turned.told job t w
          (record {
            plan = works.plan;
            piece = ap (λ r. r.piece) works.by_turns ∙ may.piece;
            retries = works.retries;
          })
          at
          (subst (λ h. picked.unit.hi ≤ length (bytes_at h picked.unit.part)) (sym same)
          (held picked.unit (contains_at units place picked.unit picked.of_unit) listed_unit))
          waits)
          (under.told job s works is held);
    }
