-- Before the first turn.
use Rattle.std.proofs.Common.{◌≡◌, ℕ, zero, suc, ◌+◌, ◌*◌, ◌-◌, ◌^◌, ◌<◌, ◌≤◌, Bool, true, false, cond, List, [], ◌∷◌}
use Rattle.std.proofs.Common.{◌++◌, length, drop, map, get_or, refl, sym, ap, subst, ◌∙◌, arith, append-nil, Some}
use Rattle.std.proofs.Common.{Option, option_map}
use Rattle.std.proofs.Common.{suc-mul, append_assoc}
use Rattle.std.proofs.Math.Nat.{zero-mod, mul-le-mul}
use Rattle.std.proofs.Math.Seq.{drop-cons}
use Rattle.std.proofs.Math.ListN.{drop_of_length-le}
use Rattle.std.specs.List.{Contains, enumerate_from, flat_map, range_with_len, slice_get}
use Rattle.std.proofs.lemmas.Option.{same_Some, slice_get-map}
use Rattle.std.proofs.lemmas.List.Sums.{sum_by-cons}
use Rattle.gob_device.specs.Supply.{Held, Pull, Supply, bytes_from}
use Rattle.gob_plan.specs.declared.plan.TurnRules.{TurnRules}
use Rattle.gob_plan.specs.declared.units.Cause.TheVariants.{Gone}
use Rattle.gob_plan.specs.declared.units.Unit.{Unit as WorkUnit}
use Rattle.gob_plan.specs.declared.units.UnitResult.TheVariants as unit_result
use Rattle.gob_meaning.specs.Fold.{stop_of, unit_fold}
use Rattle.gob_meaning.specs.Job.{Job}
use Rattle.gob_meaning.specs.Results.{failed as verdict_failed, unless_stopped, verdict_of}
use Rattle.gob_ledger.specs.TurnLaws.{HaveBytes}
use Rattle.gob_ledger.specs.Turns.{own_pulls, waiting_unit}
use Rattle.gob_ledger.proofs.Members.{later_in, first_in}
use Rattle.gob_sched.specs.CoreValue.{CoreValue, is_rising_below, core_at_start}
use Rattle.gob_sched.proofs.Rising.{rising_range}
use Rattle.gob_task.specs.Task.{unit_length}
use Rattle.gob_task.specs.Turn.{Devices, TurnRulesValue}
use Rattle.gob_turns.specs.declared.progress.Progress.{Progress}
use Rattle.gob_turns.specs.declared.progress.Progress.TheVariants.{Waits, Ended}
use Rattle.gob_turns.specs.Asked.{IsWorkedBy, MayHaveTurns}
use Rattle.gob_turns.specs.Course.{HaveBegun, first_state, listed_from}
use Rattle.gob_turns.specs.Standing.{IsJudged, StandsAs, all_ahead, all_failures, failures_so_far, gather}
use Rattle.gob_turns.specs.Standing.{number_for, turns_ahead, waiting_for}
use Rattle.gob_turns.specs.Turning.{TurnsSoFar}
use Rattle.gob_turns.specs.Underway.{AreUnderway, AreRunTurns}
use Rattle.gob_turns.proofs.Having.{no_turn}
use Rattle.gob_turns.proofs.Left.{own_left}

-- ---- the listed units

abbrev gone : Progress
gone = Ended (unit_result.Failed Gone)

waiting_from : (job : Job) (held : Held) (i : ℕ) (us : List WorkUnit)
    → flat_map (waiting_unit job held) (enumerate_from i us) ≡ gather (waiting_for job held) i us (map first_state us)
waiting_from job held i [] = refl
waiting_from job held i (u ∷ us) =
    (λ k. one u.listed k ++ waiting_from job held (i + 1) us k)
  where
    one : (b : Bool)
        → cond b (record { unit = i; all = own_pulls job held u; left = own_pulls job held u; failures = 0 } ∷ []) []
        ≡ waiting_for job held i u (cond b Waits gone)
    one true = ap
        (λ (ps : List Pull). record { unit = i; all = own_pulls job held u; left = ps; failures = 0 } ∷ [])
        (own_left job held u)
    one false = refl

numbers_from : (i : ℕ) (us : List WorkUnit) → listed_from i us ≡ gather number_for i us (map first_state us)
numbers_from i [] = refl
numbers_from i (u ∷ us) = one u.listed (numbers_from (i + 1) us)
  where
    one : (b : Bool) → listed_from (i + 1) us ≡ gather number_for (i + 1) us (map first_state us)
        → cond b (i ∷ listed_from (i + 1) us) (listed_from (i + 1) us)
        ≡ number_for i u (cond b Waits gone) ++ gather number_for (i + 1) us (map first_state us)
    one true later = ap (λ ns. i ∷ ns) later
    one false later = later

got_range : (xs : List ℕ) (k n : ℕ) → k + n ≡ length xs → map (λ m. get_or xs m 0) (range_with_len k n) ≡ drop k xs
got_range xs k zero e = sym (drop_of_length-le xs (omega arith))
got_range xs k (suc n) e =
    let next : suc k ≡ k + 1 = omega arith in
    ap (λ ys. get_or xs k 0 ∷ ys) (got_range xs (k + 1) n (omega arith) ∙ ap (λ j. drop j xs) (sym next))
    ∙ sym (drop-cons xs k 0 (omega arith))

-- ---- how many turns can come

abbrev most_of_one : ℕ
most_of_one = 2 ^ 32 * 2 ^ 64

few_of_one : (retries : ℕ) (u : WorkUnit) → retries < 2 ^ 32 → u.hi < 2 ^ 64
    → (retries + 1) * unit_length u ≤ most_of_one
few_of_one retries u few small =
    mul-le-mul {n₁ = retries + 1} {m₁ = unit_length u} {n₂ = 2 ^ 32} {m₂ = 2 ^ 64} (omega arith) (omega arith)

few_ahead : (retries : ℕ) (us : List WorkUnit) → retries < 2 ^ 32
    → ((u : WorkUnit) → Contains us u → u.hi < 2 ^ 64)
    → all_ahead retries us (map first_state us) ≤ length us * most_of_one
few_ahead retries [] few small = omega arith
few_ahead retries (u ∷ us) few small =
    let here = few_of_one retries u few (small u (first_in u us u refl)) in
    let later = few_ahead retries us few (λ v at. small v (later_in u us v at)) in
    let all : suc (length us) * most_of_one ≡ length us * most_of_one + most_of_one =
    suc-mul (length us) most_of_one in
    let one = either u.listed here in
    omega (arith, one, later, all)
  where
    either : (b : Bool) → (retries + 1) * unit_length u ≤ most_of_one
        → turns_ahead retries u (cond b Waits gone) ≤ most_of_one
    either true few = few
    either false few = omega arith

bounded : (n ahead : ℕ) → n < 2 ^ 32 → ahead ≤ n * most_of_one → 0 + ahead < 2 ^ 128
bounded n ahead few below =
    let most : n * most_of_one ≤ (2 ^ 32 - 1) * most_of_one =
    mul-le-mul {n₁ = n} {m₁ = most_of_one} {n₂ = 2 ^ 32 - 1} {m₂ = most_of_one} (omega arith) (omega arith) in
    omega (arith, below, most)

no_failures : (retries : ℕ) (us : List WorkUnit) → all_failures retries (map first_state us) ≡ 0
no_failures retries [] = refl
no_failures retries (u ∷ us) =
    let sums = sum_by-cons (failures_so_far retries) (first_state u) (map first_state us) in
    let here = none u.listed in
    let later = no_failures retries us in
    omega (arith, sums, here, later)
  where
    none : (b : Bool) → failures_so_far retries (cond b Waits gone) ≡ 0
    none true = refl
    none false = refl

-- ---- each unit

first_of : (units : List WorkUnit) (i : ℕ) (u : WorkUnit) (p : Progress) → slice_get units i ≡ Some u
    → slice_get (map first_state units) i ≡ Some p → first_state u ≡ p
first_of units i u p at is = same_Some (first_state u) p
    (sym (slice_get-map first_state units i ∙ ap (option_map first_state) at) ∙ is)

stands_first : (rules : TurnRulesValue) (u : WorkUnit) (i : ℕ) (first : Devices)
    → StandsAs rules u i first.supply first.disk (first_state u)
stands_first rules u i first = either u.listed refl
  where
    either : (b : Bool) → u.listed ≡ b → StandsAs rules u i first.supply first.disk (cond b Waits gone)
    either true is = is
    either false is = tt

judged_first : (job : Job) (held : Held) (i : ℕ) (u : WorkUnit) → IsJudged job held [] i u (first_state u)
unfolding verdict_of
judged_first job held i u = either u.listed refl
  where
    bytes : List ℕ
    bytes = bytes_from held u.part u.lo (u.hi - u.lo)

    either : (b : Bool) → u.listed ≡ b → IsJudged job held [] i u (cond b Waits gone)
    either true is = refl
    either false is = sym (ap (λ b. cond b (unless_stopped job.plan u.lo bytes (stop_of job.plan
        (unit_fold job.plan u.lo bytes)))
        (verdict_failed Gone)) is)

have_bytes : (rules : TurnRulesValue) (turns : TurnRules) (units : List WorkUnit) → MayHaveTurns rules turns units
    → HaveBytes units
have_bytes rules turns units may u at listed = (may.pullable u at listed).bytes

told_first : (rules : TurnRulesValue) (turns : TurnRules) (units : List WorkUnit) (job : Job) (s : Supply)
    (now : Option Supply) → MayHaveTurns rules turns units → IsWorkedBy rules turns job → now ≡ Some s
    → AreRunTurns job s units (map first_state units) 0 [] now
told_first rules turns units job s now may works told = record {
  had = [];
  so_far = subst (λ ws. TurnsSoFar job s.held units [] 0 [] ws) (waiting_from job s.held 0 units)
      (no_turn job s.held units (subst (λ (r : TurnRules). 0 < r.slots) (sym works.by_turns) may.slots)
      (have_bytes rules turns units may));
  supply = told ∙ ap (λ ps. Some (record s { pulls = ps })) (sym (append-nil s.pulls));
  judged = λ i u p at is. subst (λ q. IsJudged job s.held [] i u q) (first_of units i u p at is)
      (judged_first job s.held i u);
}

-- ---- all of them

at_first : (rules : TurnRulesValue) (turns : TurnRules) (units : List WorkUnit) (first : Devices)
    → MayHaveTurns rules turns units
    → AreUnderway rules turns units (listed_from 0 units) (map first_state units)
    (core_at_start turns (length (listed_from 0 units))) 0 [] first first
at_first rules turns units first may =
    let listed : List ℕ = listed_from 0 units in
    let none = no_failures rules.max_retries units in
    record {
      number = same_length units;
      stand = λ i u p at is. subst (λ q. StandsAs rules u i first.supply first.disk q) (first_of units i u p at is)
          (stands_first rules u i first);
      by_rules = refl;
      place = sym (zero-mod (length turns.schedule));
      rising = subst (λ n. is_rising_below (range_with_len 0 (length listed)) n ≡ true)
          (let e : 0 + length listed ≡ length listed = omega arith in e) (rising_range 0 (length listed));
      left = got_range listed 0 (length listed) (omega arith) ∙ numbers_from 0 units;
      ahead = bounded (length units) (all_ahead rules.max_retries units (map first_state units)) may.few
          (few_ahead rules.max_retries units may.retries (λ u at. (may.proper u at).small));
      numbered = refl;
      counted = omega arith;
      failures = omega (arith, none);
      told = λ job s works told. λ held. told_first rules turns units job s first.supply may works told;
    }
  where
    same_length : (us : List WorkUnit) → length (map first_state us) ≡ length us
    same_length [] = refl
    same_length (u ∷ us) = ap suc (same_length us)

pub begins : (rules : TurnRulesValue) (turns : TurnRules) (units : List WorkUnit) (listed : List ℕ)
    (states : List Progress) (core : CoreValue) (k : ℕ) (first : Devices) → MayHaveTurns rules turns units
    → HaveBegun turns units listed states core k
    → AreUnderway rules turns units listed states core k [] first first
begins rules turns units listed states core k first may begun =
    let a = at_first rules turns units first may in
    let b = subst (λ l. AreUnderway rules turns units l (map first_state units) (core_at_start turns
    (length l)) 0 [] first first)
    (sym begun.places) a in
    let c = subst (λ s. AreUnderway rules turns units listed s (core_at_start turns (length listed)) 0 [] first first)
    (sym begun.all) b in
    let d = subst (λ x. AreUnderway rules turns units listed states x 0 [] first first) (sym begun.begins) c in
    subst (λ n. AreUnderway rules turns units listed states core n [] first first) (sym begun.none) d

-- ---- loops

-- one place more, where the unit is listed
pub place_more : (units : List WorkUnit) (places more : List ℕ) (place : ℕ) (u : WorkUnit) → place < length units
    → u ≡ get_or units place u → more ≡ cond u.listed (places ++ place ∷ []) places
    → places ++ listed_from place (drop place units) ≡ listed_from 0 units
    → more ++ listed_from (place + 1) (drop (place + 1) units) ≡ listed_from 0 units
place_more units places more place u within is added so =
    let next : suc place ≡ place + 1 = omega arith in
    let split : drop place units ≡ u ∷ drop (place + 1) units =
    drop-cons units place u within
    ∙ (λ k. is_back k ∷ drop (next k) units) in
    ap (λ ns. ns ++ listed_from (place + 1) (drop (place + 1) units)) added
    ∙ (either u.listed (listed_from (place + 1) (drop (place + 1) units))
    ∙ (sym (ap (λ us. places ++ listed_from place us) split) ∙ so))
  where
    is_back : get_or units place u ≡ u
    is_back = sym is

    either : (b : Bool) (rest : List ℕ)
        → cond b (places ++ place ∷ []) places ++ rest ≡ places ++ cond b (place ∷ rest) rest
    either true rest = append_assoc places (place ∷ []) rest
    either false rest = refl
