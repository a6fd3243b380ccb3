-- How many units can be given up, and their verdicts.
use Rattle.std.proofs.Common.{◌≡◌, ⊎_elim, ℕ, zero, suc, ◌+◌, ◌-◌, ◌*◌, ◌<◌, ◌≤◌, ◌↔◌, Bool, true, false, cond, ◌||◌}
use Rattle.std.proofs.Common.{nat_eq, List, [], ◌∷◌, map, length, refl, sym, ap, subst, ◌∙◌, Some, None, option_map}
use Rattle.std.proofs.Common.{arith, add-mul}
use Rattle.std.specs.declared.option.Option.{Option}
use Rattle.std.specs.List.{count_by, enumerate_from, slice_get, sum_by}
use Rattle.std.proofs.lemmas.Bool.{eqb-true, eq-eqb, ne_eqb, cases_eq}
use Rattle.std.proofs.lemmas.List.Sums.{sum_by-cons}
use Rattle.std.proofs.lemmas.Option.{none-some, same_Some, slice_get-map}
use Rattle.gob_device.specs.Supply.{Held, bytes_from}
use Rattle.gob_plan.specs.declared.plan.Plan.{Plan}
use Rattle.gob_plan.specs.declared.units.Cause.{Cause}
use Rattle.gob_plan.specs.declared.units.Cause.TheVariants.{Kill, BadRecords, Fault, Gone, Torn}
use Rattle.gob_plan.specs.declared.units.Unit.{Unit as WorkUnit}
use Rattle.gob_meaning.specs.Fold.{Folded, counts_of, first_kill, is_bad, line_stop, stop_from, stop_of, stops_or}
use Rattle.gob_meaning.specs.Fold.{unit_fold}
use Rattle.gob_meaning.specs.Items.{LineMade, nothing, bad_line, made}
use Rattle.gob_meaning.specs.Job.{Job}
use Rattle.gob_meaning.specs.Results.{Verdict, failed, first_failing, verdict_by_policies, unless_stopped, verdict_of}
use Rattle.gob_bytes.specs.Lines.{ends_in_lf}
use Rattle.gob_ledger.specs.Turns.{TakenTurn, gave_up, member, turns_from, turns_of, then_turns, verdicts_of}
use Rattle.gob_ledger.specs.Turns.{waiting_at_first, Waiting, place_at, replace_at}
use Rattle.gob_ledger.specs.Counted.{failure_count, has_failed, turns_of_unit}
use Rattle.gob_ledger.specs.TurnLaws.{GivingUpTakesFailures, NoFailureNoFault, is_fault}
use Rattle.gob_ledger.proofs.Counting.{one_if}
use Rattle.gob_ledger.proofs.Attempts.{failed_at_end, fails_by_number}

-- ---- what a unit's bytes make of it is no fault

fault_in : Option Cause → Bool
fault_in None = false
fault_in (Some c) = is_fault (failed c)

line_no_fault : (left at : ℕ) (m : LineMade) → fault_in (line_stop left at m) ≡ false
unfolding fault_in
line_no_fault left at nothing = refl
line_no_fault left at (bad_line raw) = elim (nat_eq left 0) as
    (λ b. fault_in (cond b (Some (BadRecords at)) None) ≡ false) [ true ↦ refl | false ↦ refl ]
line_no_fault left at (made m) = kills (first_kill m.items)
  where
    kills : (o : Option (ℕ × ℕ)) → fault_in (option_map (λ k. Kill k.0 k.1 at) o) ≡ false
    kills None = refl
    kills (Some k) = refl

stop_no_fault : (left : ℕ) (fs : List Folded) → fault_in (stop_from left fs) ≡ false
unfolding fault_in
stop_no_fault left [] = refl
stop_no_fault left (f ∷ fs) = either (line_stop left f.at f.made) (line_no_fault left f.at f.made)
    (stop_no_fault (left - cond (is_bad f.made) 1 0) fs)
  where
    either : (o : Option Cause) → fault_in o ≡ false → fault_in (stop_from (left - cond (is_bad f.made) 1 0) fs)
        ≡ false → fault_in (stops_or o (λ c. Some c) (stop_from (left - cond (is_bad f.made) 1 0) fs)) ≡ false
    either None here later = later
    either (Some c) here later = here

pub bytes_no_fault : (plan : Plan) (u : WorkUnit) (bytes : List ℕ) → is_fault (verdict_of plan u bytes) ≡ false
unfolding verdict_of stop_of fault_in
bytes_no_fault plan u bytes = elim u.listed as
    (λ b. is_fault (cond b (unless_stopped plan u.lo bytes (stop_of plan (unit_fold plan u.lo bytes))) (failed Gone))
    ≡ false) [
      | true ↦ stopped (stop_of plan (unit_fold plan u.lo bytes))
          (stop_no_fault plan.skip_errors (unit_fold plan u.lo bytes))
      | false ↦ refl
    ]
  where
    ruled : (o : Option ℕ) → is_fault (verdict_by_policies plan (counts_of plan (unit_fold plan u.lo bytes)) o) ≡ false
    ruled None = refl
    ruled (Some i) = refl

    stopped : (o : Option Cause) → fault_in o ≡ false → is_fault (unless_stopped plan u.lo bytes o) ≡ false
    stopped None none = elim (ends_in_lf bytes) as
        (λ b. is_fault
        (cond b (verdict_by_policies plan (counts_of plan (unit_fold plan u.lo bytes))
        (first_failing (enumerate_from 0 plan.task_policies) (counts_of plan (unit_fold plan u.lo bytes))))
        (failed Torn)) ≡ false) [
          | true ↦ ruled (first_failing (enumerate_from 0 plan.task_policies)
              (counts_of plan (unit_fold plan u.lo bytes)))
          | false ↦ refl
        ]
    stopped (Some c) none = none

-- ---- the failures of all units, against the turns that failed

-- how often the units with these numbers failed
failures_in : ℕ → ℕ → List TakenTurn → ℕ
failures_in n zero ts = 0
failures_in n (suc m) ts = failure_count n ts + failures_in (n + 1) m ts

failures_cons : (t : TakenTurn) (ts : List TakenTurn) (n : ℕ) → failure_count n (t ∷ ts)
    ≡ cond (nat_eq t.unit n) (cond (has_failed t) 1 0) 0 + failure_count n ts
failures_cons t ts n = elim (nat_eq t.unit n) as
    (λ b. count_by has_failed (cond b (t ∷ turns_of_unit n ts) (turns_of_unit n ts))
    ≡ cond b (cond (has_failed t) 1 0) 0 + failure_count n ts) [
      | true ↦ sum_by-cons (λ s. cond (has_failed s) 1 0) t (turns_of_unit n ts)
      | false ↦ (let none : failure_count n ts ≡ 0 + failure_count n ts = omega arith in none)
    ]

failures_past : (t : TakenTurn) (ts : List TakenTurn) (n m : ℕ) → t.unit < n → failures_in n m (t ∷ ts)
    ≡ failures_in n m ts
unfolding failures_in
failures_past t ts n zero below = refl
failures_past t ts n (suc m) below =
    let here : failure_count n (t ∷ ts) ≡ failure_count n ts =
    failures_cons t ts n ∙
    (ap (λ b. cond b (cond (has_failed t) 1 0) 0 + failure_count n ts)
    (ne_eqb t.unit n (λ e. omega (arith, below))) ∙
    (let none : 0 + failure_count n ts ≡ failure_count n ts = omega arith in none)) in
    let later = failures_past t ts (n + 1) m (omega arith) in
    λ i. here i + later i

failures_one : (t : TakenTurn) (ts : List TakenTurn) (n m : ℕ)
    → failures_in n m (t ∷ ts) ≤ cond (has_failed t) 1 0 + failures_in n m ts
unfolding failures_in
failures_one t ts n zero = omega arith
failures_one t ts n (suc m) = ⊎_elim
    (λ e. let here : failure_count n (t ∷ ts)
    ≡ cond (has_failed t) 1 0 + failure_count n ts = failures_cons t ts n ∙ ap
    (λ b. cond b (cond (has_failed t) 1 0) 0 + failure_count n ts) (eq-eqb t.unit n e) in
    let later = failures_past t ts (n + 1) m (omega (arith, e)) in omega arith)
    (λ ne. let here : failure_count n (t ∷ ts)
    ≡ 0 + failure_count n ts = failures_cons t ts n ∙ ap
    (λ b. cond b (cond (has_failed t) 1 0) 0 + failure_count n ts) (ne_eqb t.unit n ne) in
    let later = failures_one t ts (n + 1) m in omega arith)
    (cases_eq t.unit n)

failures_none : (n m : ℕ) → failures_in n m [] ≤ 0
unfolding failures_in
failures_none n zero = omega arith
failures_none n (suc m) = let later = failures_none (n + 1) m in omega arith

failures_few : (n m : ℕ) (ts : List TakenTurn) → failures_in n m ts ≤ count_by has_failed ts
failures_few n m [] = failures_none n m
failures_few n m (t ∷ ts) =
    let one = failures_one t ts n m in
    let later = failures_few n m ts in
    let sum = sum_by-cons (λ (s : TakenTurn). cond (has_failed s) 1 0) t ts in
    omega arith

-- how many of these numbers are in the list
members_in : ℕ → ℕ → List ℕ → ℕ
members_in n zero ks = 0
members_in n (suc m) ks = one_if (member n ks) + members_in (n + 1) m ks

members_past : (k : ℕ) (ks : List ℕ) (n m : ℕ) → k < n → members_in n m (k ∷ ks) ≡ members_in n m ks
unfolding members_in
members_past k ks n zero below = refl
members_past k ks n (suc m) below =
    let here : member n (k ∷ ks) ≡ member n ks = ap (λ b. b || member n ks) (ne_eqb n k (λ e. omega (arith, below))) in
    let later = members_past k ks (n + 1) m (omega arith) in
    λ i. one_if (here i) + later i

members_one : (k : ℕ) (ks : List ℕ) (n m : ℕ) → members_in n m (k ∷ ks) ≤ 1 + members_in n m ks
unfolding members_in
members_one k ks n zero = omega arith
members_one k ks n (suc m) = ⊎_elim
    (λ e. let most : one_if (member n (k ∷ ks)) ≤ 1 = at_most (member n (k ∷ ks)) in
    let later = members_past k ks (n + 1) m (omega (arith, e)) in omega arith)
    (λ ne. let here : one_if (member n (k ∷ ks))
    ≡ one_if (member n ks) = ap (λ b. one_if (b || member n ks)) (ne_eqb n k ne) in
    let later = members_one k ks (n + 1) m in omega arith)
    (cases_eq n k)
  where
    at_most : (b : Bool) → one_if b ≤ 1
    at_most true = omega arith
    at_most false = omega arith

members_none : (n m : ℕ) → members_in n m [] ≤ 0
unfolding members_in
members_none n zero = omega arith
members_none n (suc m) = let later = members_none (n + 1) m in omega arith

members_few : (n m : ℕ) (ks : List ℕ) → members_in n m ks ≤ length ks
members_few n m [] = members_none n m
members_few n m (k ∷ ks) = let one = members_one k ks n m in let later = members_few n m ks in omega arith

failed_members : (ts : List TakenTurn) (failing : List ℕ) (n : ℕ)
    → ((k : ℕ) (t : TakenTurn) → slice_get ts k ≡ Some t → has_failed t ≡ member (n + k) failing)
    → count_by has_failed ts ≤ members_in n (length ts) failing
unfolding members_in
failed_members [] failing n fails = omega arith
failed_members (t ∷ ts) failing n fails =
    let here : has_failed t
    ≡ member n failing = fails 0 t refl ∙ ap (λ m. member m failing) (let same : n + 0 ≡ n = omega arith in same) in
    let one : one_if (has_failed t) ≡ one_if (member n failing) = ap one_if here in
    let later = failed_members ts failing (n + 1)
    (λ k s e. fails (suc k) s e ∙ ap (λ m. member m failing)
    (let same : n + suc k ≡ n + 1 + k = omega arith in same)) in
    let sum = sum_by-cons (λ (s : TakenTurn). one_if (has_failed s)) t ts in
    omega arith

-- ---- the verdicts

abbrev verdict_at : Job → Held → List TakenTurn → ℕ × WorkUnit → Verdict
verdict_at job held turns e = cond (gave_up turns e.0) (failed Fault)
    (verdict_of job.plan e.1 (bytes_from held e.1.part e.1.lo (e.1.hi - e.1.lo)))

is_given_up : (job : Job) (held : Held) (turns : List TakenTurn) (e : ℕ × WorkUnit)
    → is_fault (verdict_at job held turns e) ≡ gave_up turns e.0
is_given_up job held turns e = elim (gave_up turns e.0) as
    (λ b. is_fault
    (cond b (failed Fault) (verdict_of job.plan e.1 (bytes_from held e.1.part e.1.lo (e.1.hi - e.1.lo)))) ≡ b) [
      | true ↦ refl
      | false ↦ bytes_no_fault job.plan e.1 (bytes_from held e.1.part e.1.lo (e.1.hi - e.1.lo))
    ]

-- each unit that was given up has failed so often
faults_cost : (job : Job) (held : Held) (turns : List TakenTurn) (n : ℕ) (units : List WorkUnit)
    → ((i : ℕ) → gave_up turns i ≡ nat_eq (failure_count i turns) (job.max_retries + 1))
    → count_by is_fault (map (verdict_at job held turns) (enumerate_from n units)) *
    (job.max_retries + 1) ≤ failures_in n (length units) turns
unfolding failures_in
faults_cost job held turns n [] known = omega arith
faults_cost job held turns n (u ∷ us) known =
    let later = faults_cost job held turns (n + 1) us known in
    let rest : ℕ = count_by is_fault (map (verdict_at job held turns) (enumerate_from (n + 1) us)) in
    let sum = sum_by-cons (λ v. one_if (is_fault v)) (verdict_at job held turns (n, u))
    (map (verdict_at job held turns) (enumerate_from (n + 1) us)) in
    let is : is_fault (verdict_at job held turns (n, u))
    ≡ nat_eq (failure_count n turns) (job.max_retries + 1) = is_given_up job held turns (n, u) ∙ known n in
    let first : one_if (is_fault (verdict_at job held turns (n, u)))
    ≡ one_if (nat_eq (failure_count n turns) (job.max_retries + 1)) = ap one_if is in
    let cost = costs (failure_count n turns) (job.max_retries + 1) rest in
    subst (λ m. m * (job.max_retries + 1) ≤ failure_count n turns + failures_in (n + 1) (length us) turns)
    (sym (sum ∙ ap (λ m. m + rest) first)) (omega arith)
  where
    costs : (f r rest : ℕ) → (one_if (nat_eq f r) + rest) * r ≤ f + rest * r
    costs f r rest = ⊎_elim
        (λ e. let one : (one_if (nat_eq f r) + rest) * r
        ≡ 1 * r + rest * r = ap (λ b. (one_if b + rest) * r) (eq-eqb f r e) ∙ add-mul 1 rest r in omega arith)
        (λ ne. let none : (one_if (nat_eq f r) + rest) * r
        ≡ 0 * r + rest * r = ap (λ b. (one_if b + rest) * r) (ne_eqb f r ne) ∙ add-mul 0 rest r in omega arith)
        (cases_eq f r)

enumerated : (n : ℕ) (us : List WorkUnit) (i : ℕ) → slice_get (enumerate_from n us) i
    ≡ option_map (λ u. (n + i, u)) (slice_get us i)
enumerated n [] i = refl
enumerated n (u ∷ us) zero = let same : n ≡ n + 0 = omega arith in ap (λ m. Some (m, u)) same
enumerated n (u ∷ us) (suc i) = enumerated (n + 1) us i ∙ ap (λ m. option_map (λ u. (m, u)) (slice_get us i))
    (let same : n + 1 + i ≡ n + suc i = omega arith in same)

fault_where : (job : Job) (held : Held) (turns : List TakenTurn) (units : List WorkUnit) (i : ℕ)
    → (slice_get (map (verdict_at job held turns) (enumerate_from 0 units)) i ≡ Some (failed Fault))
    ↔ ((u : WorkUnit) × (slice_get units i ≡ Some u) × (gave_up turns i ≡ true))
fault_where job held turns units i = cases (slice_get units i) refl
  where
    at : slice_get (map (verdict_at job held turns) (enumerate_from 0 units)) i
        ≡ option_map (verdict_at job held turns) (option_map (λ u. (0 + i, u)) (slice_get units i))
    at = slice_get-map (verdict_at job held turns) (enumerate_from 0 units) i ∙ ap
        (option_map (verdict_at job held turns)) (enumerated 0 units i)

    number : 0 + i ≡ i
    number = omega arith

    cases : (o : Option WorkUnit) → slice_get units i ≡ o
        → (slice_get (map (verdict_at job held turns) (enumerate_from 0 units)) i ≡ Some (failed Fault))
        ↔ ((u : WorkUnit) × (o ≡ Some u) × (gave_up turns i ≡ true))
    cases None e = (
      λ f. absurd
          (none-some (failed Fault)
          (sym (at ∙ ap (λ o. option_map (verdict_at job held turns) (option_map (λ u. (0 + i, u)) o)) e) ∙ f)),
      λ r. absurd (none-some r.0 r.1),
    )
    cases (Some u) e = (
      λ f. let v : verdict_at job held turns (0 + i, u)
          ≡ failed Fault = same_Some (verdict_at job held turns (0 + i, u)) (failed Fault)
          (sym (at ∙ ap (λ o. option_map (verdict_at job held turns) (option_map (λ u. (0 + i, u)) o)) e) ∙ f) in
          (u, refl, ap (gave_up turns) (sym number) ∙ (sym (is_given_up job held turns (0 + i, u)) ∙ ap is_fault v)),
      λ r. at ∙ (ap (λ o. option_map (verdict_at job held turns) (option_map (λ u. (0 + i, u)) o)) e
          ∙ ap (λ b. Some (cond b (failed Fault) (verdict_of job.plan u (bytes_from held u.part u.lo (u.hi - u.lo)))))
          (ap (gave_up turns) number ∙ r.2)),
    )

pub giving_up : GivingUpTakesFailures
unfolding verdicts_of
giving_up job held units failing some bytes =
    let turns : List TakenTurn = turns_of job held units failing in
    let known : (i : ℕ) → (failure_count i turns ≤ job.max_retries + 1)
    × (gave_up turns i
    ≡ nat_eq (failure_count i turns) (job.max_retries + 1)) = failed_at_end job held units failing some bytes in
    let fails : (k : ℕ) (t : TakenTurn) → slice_get turns k ≡ Some t → has_failed t
    ≡ member k failing = fails_by_number job held units failing some bytes in
    record {
      fails = fails;
      most = λ i. (known i).0;
      given_up = λ i. (
        λ e. eqb-true (failure_count i turns) (job.max_retries + 1) (sym (known i).1 ∙ e),
        λ e. (known i).1 ∙ eq-eqb (failure_count i turns) (job.max_retries + 1) e,
      );
      fault = fault_where job held turns units;
      few =
          let cost = faults_cost job held turns 0 units (λ i. (known i).1) in
          let all = failures_few 0 (length units) turns in
          let by_number = failed_members turns failing 0
          (λ k t e. fails k t e ∙ ap (λ m. member m failing) (let same : k ≡ 0 + k = omega arith in same)) in
          let most = members_few 0 (length turns) failing in
          omega arith;
    }

-- ---- where no turn fails

none_then : (job : Job) (o : Option Waiting) (later : List Waiting → List TakenTurn) (n : ℕ)
    → ((ws : List Waiting) → gave_up (later ws) n ≡ false) → gave_up (then_turns job false o later) n ≡ false
none_then job None later n none = refl
none_then job (Some w) later n none = none _

none_from : (fuel : ℕ) (job : Job) (k : ℕ) (waiting : List Waiting) (n : ℕ)
    → gave_up (turns_from fuel job [] k waiting) n ≡ false
none_from zero job k waiting n = refl
none_from (suc fuel) job k waiting n =
    let place : ℕ = place_at job.turns k (length waiting) in
    none_then job (slice_get waiting place) (λ left. turns_from fuel job [] (k + 1) (replace_at place left waiting)) n
    (λ left. none_from fuel job (k + 1) (replace_at place left waiting) n)

verdicts_there : (job : Job) (held : Held) (turns : List TakenTurn) (n : ℕ) (units : List WorkUnit)
    → ((i : ℕ) → gave_up turns i ≡ false)
    → map (verdict_at job held turns) (enumerate_from n units)
    ≡ map (λ u. verdict_of job.plan u (bytes_from held u.part u.lo (u.hi - u.lo))) units
verdicts_there job held turns n [] none = refl
verdicts_there job held turns n (u ∷ us) none =
    let here : verdict_at job held turns (n, u) ≡ verdict_of job.plan u (bytes_from held u.part u.lo (u.hi - u.lo)) =
    ap (λ b. cond b (failed Fault) (verdict_of job.plan u (bytes_from held u.part u.lo (u.hi - u.lo)))) (none n) in
    λ i. here i ∷ verdicts_there job held turns (n + 1) us none i

pub no_fault : NoFailureNoFault
unfolding verdicts_of turns_of
no_fault job held units =
    let waiting : List Waiting = waiting_at_first job held units in
    verdicts_there job held (turns_of job held units []) 0 units
    (λ i. none_from ((job.max_retries + 1) * sum_by (λ w. length w.all) waiting) job 0 waiting i)
