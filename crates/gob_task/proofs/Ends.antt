-- How a turn ends by the bytes that were fed.
use Rattle.std.proofs.Common.{◌≡◌, ℕ, ◌<◌, ◌≤◌, Bool, true, false, cond, not, ◌||◌, nat_lt, nat_eq, List, [], ◌∷◌, ◌++◌}
use Rattle.std.proofs.Common.{length, refl, sym, ap, ◌∙◌, None, Some, is_some, arith}
use Rattle.std.specs.declared.option.Option.{Option}
use Rattle.std.specs.List.{enumerate_from}
use Rattle.std.proofs.lemmas.Bool.{le-ltb, lt-ltb, ltb-false, ltb-true}
use Rattle.gob_bytes.specs.Lines.{ends_in_lf, rest, rest_from}
use Rattle.gob_ledger.specs.Next.{is_good}
use Rattle.gob_meaning.specs.Fold.{counts_of, stop_of, unit_fold}
use Rattle.gob_meaning.specs.Results.{Verdict, failed, first_failing, good, unless_stopped, verdict_by_policies}
use Rattle.gob_meaning.specs.Results.{verdict_of, warnings_of}
use Rattle.gob_plan.specs.declared.plan.Plan.{Plan}
use Rattle.gob_plan.specs.declared.units.Cause.{Cause}
use Rattle.gob_plan.specs.declared.units.Cause.TheVariants.{Gone, Policy, Torn}
use Rattle.gob_plan.specs.declared.units.Counts.{Counts}
use Rattle.gob_plan.specs.declared.units.Unit.{Unit as WorkUnit}
use Rattle.gob_pipeline.specs.Machine.{MachineValue, WasFed, is_nil}
use Rattle.gob_task.specs.Task.{unit_length}
use Rattle.gob_task.specs.Turn.{TurnEnd, end_of_bytes, ended, going}

-- ---- verdicts

-- the verdict of a listed unit
listed_verdict : (plan : Plan) (u : WorkUnit) (bytes : List ℕ) (o : Option Cause) → u.listed ≡ true
    → stop_of plan (unit_fold plan u.lo bytes) ≡ o → verdict_of plan u bytes ≡ unless_stopped plan u.lo bytes o
unfolding verdict_of
listed_verdict plan u bytes o listed is =
    ap (λ b. cond b (unless_stopped plan u.lo bytes (stop_of plan (unit_fold plan u.lo bytes))) (failed Gone)) listed
    ∙ ap (unless_stopped plan u.lo bytes) is

pub stopped_verdict : (plan : Plan) (u : WorkUnit) (bytes : List ℕ) (cause : Cause) → u.listed ≡ true
    → stop_of plan (unit_fold plan u.lo bytes) ≡ Some cause → verdict_of plan u bytes ≡ failed cause
stopped_verdict plan u bytes cause listed is = listed_verdict plan u bytes (Some cause) listed is

pub torn_verdict : (plan : Plan) (u : WorkUnit) (bytes : List ℕ) → u.listed ≡ true
    → stop_of plan (unit_fold plan u.lo bytes) ≡ None → ends_in_lf bytes ≡ false → verdict_of plan u bytes ≡ failed Torn
torn_verdict plan u bytes listed none torn =
    let n = counts_of plan (unit_fold plan u.lo bytes) in
    listed_verdict plan u bytes None listed none
    ∙ ap (λ b. cond b (verdict_by_policies plan n (first_failing (enumerate_from 0 plan.task_policies) n)) (failed
    Torn))
    torn

-- by its policies
pub judged_verdict : (plan : Plan) (u : WorkUnit) (bytes : List ℕ) (o : Option ℕ) → u.listed ≡ true
    → stop_of plan (unit_fold plan u.lo bytes) ≡ None → ends_in_lf bytes ≡ true
    → first_failing (enumerate_from 0 plan.task_policies) (counts_of plan (unit_fold plan u.lo bytes)) ≡ o
    → verdict_of plan u bytes ≡ verdict_by_policies plan (counts_of plan (unit_fold plan u.lo bytes)) o
judged_verdict plan u bytes o listed none whole is =
    let n = counts_of plan (unit_fold plan u.lo bytes) in
    listed_verdict plan u bytes None listed none
    ∙ (ap (λ b. cond b (verdict_by_policies plan n (first_failing (enumerate_from 0 plan.task_policies) n)) (failed
    Torn))
    whole ∙ ap (verdict_by_policies plan n) is)

not_good : (cause : Cause) (A : Type 0) → is_good (failed cause) ≡ true → A
not_good cause A e = absurd (let no : false ≡ true = e in cc)

-- a good unit isn't stopped
pub good_goes_on : (plan : Plan) (u : WorkUnit) (bytes : List ℕ) → u.listed ≡ true
    → is_good (verdict_of plan u bytes) ≡ true → stop_of plan (unit_fold plan u.lo bytes) ≡ None
good_goes_on plan u bytes listed is = cases (stop_of plan (unit_fold plan u.lo bytes)) refl
  where
    cases : (o : Option Cause) → stop_of plan (unit_fold plan u.lo bytes) ≡ o → o ≡ None
    cases None e = refl
    cases (Some cause) e =
        not_good cause (Some cause ≡ None) (ap is_good (sym (stopped_verdict plan u bytes cause listed e)) ∙ is)

-- and its verdict is told by its counts
pub good_is : (plan : Plan) (u : WorkUnit) (bytes : List ℕ) → u.listed ≡ true
    → is_good (verdict_of plan u bytes) ≡ true
    → let n = counts_of plan (unit_fold plan u.lo bytes) in
    verdict_of plan u bytes ≡ good n (warnings_of plan.task_policies n)
good_is plan u bytes listed is = by_end (ends_in_lf bytes) refl
  where
    n : Counts
    n = counts_of plan (unit_fold plan u.lo bytes)

    none : stop_of plan (unit_fold plan u.lo bytes) ≡ None
    none = good_goes_on plan u bytes listed is

    Wanted : Type 0
    Wanted = verdict_of plan u bytes ≡ good n (warnings_of plan.task_policies n)

    by_policy : (o : Option ℕ) → first_failing (enumerate_from 0 plan.task_policies) n ≡ o → ends_in_lf bytes ≡ true
        → Wanted
    by_policy None e whole = judged_verdict plan u bytes None listed none whole e
    by_policy (Some index) e whole = not_good (Policy index) Wanted
        (ap is_good (sym (judged_verdict plan u bytes (Some index) listed none whole e)) ∙ is)

    by_end : (b : Bool) → ends_in_lf bytes ≡ b → Wanted
    by_end true e = by_policy (first_failing (enumerate_from 0 plan.task_policies) n) refl e
    by_end false e = not_good Torn Wanted (ap is_good (sym (torn_verdict plan u bytes listed none e)) ∙ is)

-- ---- ends

-- an end that is told by where the bytes stop and how many they are
abbrev end_by : Verdict → Option Cause → Bool → TurnEnd
end_by v o less = cond (is_some o || not less) (ended v) going

end_is : (plan : Plan) (u : WorkUnit) (bytes : List ℕ) (v : Verdict) (o : Option Cause) (less : Bool)
    → verdict_of plan u bytes ≡ v → stop_of plan (unit_fold plan u.lo bytes) ≡ o
    → nat_lt (length bytes) (unit_length u) ≡ less → end_of_bytes plan u bytes ≡ end_by v o less
end_is plan u bytes v o less vs os ls =
    ap (λ w. end_by w (stop_of plan (unit_fold plan u.lo bytes)) (nat_lt (length bytes) (unit_length u))) vs
    ∙ (ap (λ p. end_by v p (nat_lt (length bytes) (unit_length u))) os ∙ ap (end_by v o) ls)

pub ends_stopped : (plan : Plan) (u : WorkUnit) (bytes : List ℕ) (cause : Cause) → u.listed ≡ true
    → stop_of plan (unit_fold plan u.lo bytes) ≡ Some cause → end_of_bytes plan u bytes ≡ ended (failed cause)
ends_stopped plan u bytes cause listed is =
    end_is plan u bytes (failed cause) (Some cause) _ (stopped_verdict plan u bytes cause listed is) is refl

pub ends_going : (plan : Plan) (u : WorkUnit) (bytes : List ℕ)
    → stop_of plan (unit_fold plan u.lo bytes) ≡ None → length bytes < unit_length u → end_of_bytes plan u bytes ≡ going
ends_going plan u bytes none less =
    end_is plan u bytes (verdict_of plan u bytes) None true refl none (lt-ltb (length bytes) (unit_length u) less)

pub ends_whole : (plan : Plan) (u : WorkUnit) (bytes : List ℕ) (v : Verdict)
    → stop_of plan (unit_fold plan u.lo bytes) ≡ None → unit_length u ≤ length bytes → verdict_of plan u bytes ≡ v
    → end_of_bytes plan u bytes ≡ ended v
ends_whole plan u bytes v none all is =
    end_is plan u bytes v None false is none (le-ltb (length bytes) (unit_length u) all)

-- what an end tells
pub record Going (plan : Plan) (u : WorkUnit) (bytes : List ℕ) : Type 0 where
  pub goes_on : stop_of plan (unit_fold plan u.lo bytes) ≡ None
  pub left : length bytes < unit_length u

pub going_told : (plan : Plan) (u : WorkUnit) (bytes : List ℕ) → end_of_bytes plan u bytes ≡ going → Going plan u bytes
going_told plan u bytes is = cases (stop_of plan (unit_fold plan u.lo bytes)) (nat_lt (length bytes) (unit_length
    u)) refl refl
    (sym (end_is plan u bytes (verdict_of plan u bytes) _ _ refl refl refl) ∙ is)
  where
    cases : (o : Option Cause) (less : Bool) → stop_of plan (unit_fold plan u.lo bytes) ≡ o
        → nat_lt (length bytes) (unit_length u) ≡ less → end_by (verdict_of plan u bytes) o less ≡ going
        → Going plan u bytes
    cases (Some cause) less os ls e = absurd (let no : ended (verdict_of plan u bytes) ≡ going = e in cc)
    cases None false os ls e = absurd (let no : ended (verdict_of plan u bytes) ≡ going = e in cc)
    cases None true os ls e = record { goes_on = os; left = ltb-true (length bytes) (unit_length u) ls }

pub record Whole (plan : Plan) (u : WorkUnit) (bytes : List ℕ) : Type 0 where
  pub goes_on : stop_of plan (unit_fold plan u.lo bytes) ≡ None
  pub all : unit_length u ≤ length bytes
  pub good : is_good (verdict_of plan u bytes) ≡ true

pub whole_told : (plan : Plan) (u : WorkUnit) (bytes : List ℕ) (counts : Counts) (warnings : List ℕ) → u.listed ≡ true
    → end_of_bytes plan u bytes ≡ ended (good counts warnings) → Whole plan u bytes
whole_told plan u bytes counts warnings listed is =
    cases (stop_of plan (unit_fold plan u.lo bytes)) (nat_lt (length bytes) (unit_length u)) refl refl
    (sym (end_is plan u bytes (verdict_of plan u bytes) _ _ refl refl refl) ∙ is)
  where
    good_one : ended (verdict_of plan u bytes) ≡ ended (good counts warnings) → is_good (verdict_of plan u bytes) ≡ true
    good_one e = let same : verdict_of plan u bytes ≡ good counts warnings = cc in ap is_good same

    cases : (o : Option Cause) (less : Bool) → stop_of plan (unit_fold plan u.lo bytes) ≡ o
        → nat_lt (length bytes) (unit_length u) ≡ less
        → end_by (verdict_of plan u bytes) o less ≡ ended (good counts warnings) → Whole plan u bytes
    cases (Some cause) less os ls e = absurd (
        let none : stop_of plan (unit_fold plan u.lo bytes) ≡ None = good_goes_on plan u bytes listed (good_one e) in
        let no : Some cause ≡ None = sym os ∙ none in cc)
    cases None true os ls e = absurd (let no : going ≡ ended (good counts warnings) = e in cc)
    cases None false os ls e = record {
      goes_on = os;
      all = ltb-false (length bytes) (unit_length u) ls;
      good = good_one e;
    }

-- ---- what a machine knows

-- bytes end in a line feed exactly where nothing stands behind the last one
ends_rest : (begun : List ℕ) (b : ℕ) (bs : List ℕ) → ends_in_lf (b ∷ bs) ≡ is_nil (rest_from begun (b ∷ bs))
unfolding rest_from
ends_rest begun b [] = elim (nat_eq b 10) as (λ (e : Bool). e ≡ is_nil (cond e [] (begun ++ b ∷ []))) [
  | true ↦ refl
  | false ↦ sym (pushed begun b)
]
  where
    pushed : (begun : List ℕ) (b : ℕ) → is_nil (begun ++ b ∷ []) ≡ false
    pushed [] b = refl
    pushed (c ∷ begun) b = refl
ends_rest begun b (c ∷ cs) = elim (nat_eq b 10)
    as (λ (e : Bool). ends_in_lf (c ∷ cs) ≡ is_nil (cond e (rest_from [] (c ∷ cs)) (rest_from (begun ++ b ∷ []) (c ∷
    cs)))) [
      | true ↦ ends_rest [] c cs
      | false ↦ ends_rest (begun ++ b ∷ []) c cs
    ]

pub feed_told : (fed : List ℕ) (torn : Bool) → 0 < length fed → torn ≡ not (is_nil (rest fed))
    → ends_in_lf fed ≡ not torn
feed_told [] torn some is = absurd (omega (arith, some))
feed_told (b ∷ bs) torn some is = ends_rest [] b bs ∙ twice (is_nil (rest (b ∷ bs))) ∙ ap not (sym is)
  where
    twice : (e : Bool) → e ≡ not (not e)
    twice true = refl
    twice false = refl

-- ---- how a turn ends by what a machine knows

none_here : (plan : Plan) (u : WorkUnit) (m : MachineValue) (fed : List ℕ) (o : Option Cause) → m.lo ≡ u.lo
    → m.stop ≡ o → WasFed plan m fed → stop_of plan (unit_fold plan u.lo fed) ≡ o
none_here plan u m fed o lo is was = ap (λ l. stop_of plan (unit_fold plan l fed)) (sym lo) ∙ (sym was.stop ∙ is)

pub judged_stopped : (plan : Plan) (u : WorkUnit) (m : MachineValue) (cause : Cause) → u.listed ≡ true → m.lo ≡ u.lo
    → m.stop ≡ Some cause → (fed : List ℕ) → WasFed plan m fed → end_of_bytes plan u fed ≡ ended (failed cause)
judged_stopped plan u m cause listed lo is fed was =
    ends_stopped plan u fed cause listed (none_here plan u m fed (Some cause) lo is was)

-- all bytes of the unit were fed, and no line stops it
pub record IsThrough (u : WorkUnit) (m : MachineValue) : Type 0 where
  pub listed : u.listed ≡ true
  pub bytes : u.lo < u.hi
  pub lo : m.lo ≡ u.lo
  pub goes_on : m.stop ≡ None
  pub all : unit_length u ≤ m.seen

pub judged_torn : (plan : Plan) (u : WorkUnit) (m : MachineValue) → IsThrough u m → m.torn ≡ true
    → (fed : List ℕ) → WasFed plan m fed → end_of_bytes plan u fed ≡ ended (failed Torn)
judged_torn plan u m t torn fed was =
    let none = none_here plan u m fed None t.lo t.goes_on was in
    let some : 0 < length fed = omega (arith, t.bytes, t.all, was.seen) in
    ends_whole plan u fed (failed Torn) none (omega (arith, t.all, was.seen))
    (torn_verdict plan u fed t.listed none (feed_told fed m.torn some was.torn ∙ ap not torn))

pub judged_by_policies : (plan : Plan) (u : WorkUnit) (m : MachineValue) (o : Option ℕ) → IsThrough u m → m.torn ≡ false
    → first_failing (enumerate_from 0 plan.task_policies) m.counts ≡ o
    → (fed : List ℕ) → WasFed plan m fed → end_of_bytes plan u fed ≡ ended (verdict_by_policies plan m.counts o)
judged_by_policies plan u m o t torn is fed was =
    let none = none_here plan u m fed None t.lo t.goes_on was in
    let some : 0 < length fed = omega (arith, t.bytes, t.all, was.seen) in
    let counted : m.counts ≡ counts_of plan (unit_fold plan u.lo fed) =
    was.counts t.goes_on ∙ ap (λ l. counts_of plan (unit_fold plan l fed)) t.lo in
    ends_whole plan u fed (verdict_by_policies plan m.counts o) none (omega (arith, t.all, was.seen))
    (judged_verdict plan u fed o t.listed none (feed_told fed m.torn some was.torn ∙ ap not torn)
    (ap (first_failing (enumerate_from 0 plan.task_policies)) (sym counted) ∙ is)
    ∙ ap (λ n. verdict_by_policies plan n o) (sym counted))
