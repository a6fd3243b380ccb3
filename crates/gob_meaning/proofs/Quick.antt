-- The lines of a text, by a definition that computes one branch at each byte.
use Rattle.std.proofs.Common.{◌≡◌, ℕ, ◌+◌, true, false, cond, List, [], ◌∷◌, ◌++◌, length, nat_eq, refl, ap, ◌∙◌}
use Rattle.std.proofs.Common.{map, Option, None, Some}
use Rattle.std.specs.List.{enumerate_from}
use Rattle.gob_bytes.specs.Lines.{Line, lines_from, ends_in_lf}
use Rattle.gob_plan.specs.declared.plan.Plan.{Plan}
use Rattle.gob_plan.specs.declared.units.Unit.{Unit as WorkUnit}
use Rattle.gob_plan.specs.declared.units.Cause.{Cause}
use Rattle.gob_plan.specs.declared.units.Cause.TheVariants.{Gone, Torn}
use Rattle.gob_meaning.specs.Items.{Target}
use Rattle.gob_meaning.specs.Fold.{Folded, folded_line, unit_fold, deliveries_of, sent_to, counts_of, stop_of}
use Rattle.gob_meaning.specs.Fold.{before_stop}
use Rattle.gob_meaning.specs.Results.{Verdict, failed, first_failing, verdict_by_policies, unless_stopped, verdict_of}
use Rattle.gob_meaning.specs.Samples.{unit_at}

abbrev pub quick_lines : ℕ → List ℕ → List ℕ → List Line
quick_lines start begun [] = []
quick_lines start begun (b ∷ bs) = elim (nat_eq b 10) [
  | true ↦ record { start = start; body = begun } ∷ quick_lines (start + length begun + 1) [] bs
  | false ↦ quick_lines start (begun ++ b ∷ []) bs
]

pub quick : (start : ℕ) (begun bs : List ℕ) → lines_from start begun bs ≡ quick_lines start begun bs
unfolding lines_from
quick start begun [] = refl
quick start begun (b ∷ bs) =
    elim (nat_eq b 10) as (λ v. cond v (record { start = start; body = begun } ∷ lines_from
    (start + length begun + 1) [] bs) (lines_from start (begun ++ b ∷ []) bs)
    ≡ elim v [
      | true ↦ record { start = start; body = begun } ∷ quick_lines (start + length begun + 1) [] bs
      | false ↦ quick_lines start (begun ++ b ∷ []) bs
    ]) [
      | true ↦ ap (λ (ls : List Line). record { start = start; body = begun } ∷ ls)
          (quick (start + length begun + 1) [] bs)
      | false ↦ quick start (begun ++ b ∷ []) bs
    ]

-- ---- the same of what lines make

-- what each line makes
abbrev pub quick_fold : Plan → ℕ → List ℕ → List Folded
quick_fold plan lo bytes = map (folded_line plan lo) (quick_lines 0 [] bytes)

pub quick_unit : (plan : Plan) (lo : ℕ) (bytes : List ℕ) → unit_fold plan lo bytes ≡ quick_fold plan lo bytes
unfolding unit_fold
quick_unit plan lo bytes = ap (map (folded_line plan lo)) (quick 0 [] bytes)

-- the result of a unit by what its lines make, where it isn't stopped
abbrev unless_by : Plan → List ℕ → List Folded → Option Cause → Verdict
unless_by plan bytes fold (Some cause) = failed cause
unless_by plan bytes fold None =
    let n = counts_of plan fold in
    cond (ends_in_lf bytes) (verdict_by_policies plan n (first_failing (enumerate_from 0 plan.task_policies) n))
    (failed Torn)

-- the result of a unit by what its lines make
abbrev result_of : Plan → WorkUnit → List ℕ → List Folded → Verdict
result_of plan unit bytes fold = cond unit.listed (unless_by plan bytes fold (stop_of plan fold)) (failed Gone)

abbrev pub quick_result : Plan → WorkUnit → List ℕ → Verdict
quick_result plan unit bytes = result_of plan unit bytes (quick_fold plan unit.lo bytes)

same_unless : (plan : Plan) (lo : ℕ) (bytes : List ℕ) (o : Option Cause)
    → unless_stopped plan lo bytes o ≡ unless_by plan bytes (unit_fold plan lo bytes) o
same_unless plan lo bytes None = refl
same_unless plan lo bytes (Some cause) = refl

pub quick_verdict : (plan : Plan) (unit : WorkUnit) (bytes : List ℕ) → verdict_of plan unit bytes
    ≡ quick_result plan unit bytes
unfolding verdict_of
quick_verdict plan unit bytes =
    ap (λ v. cond unit.listed v (failed Gone)) (same_unless plan unit.lo bytes
    (stop_of plan (unit_fold plan unit.lo bytes)))
    ∙ ap (result_of plan unit bytes) (quick_unit plan unit.lo bytes)

-- ---- of each row of a table

pub quick_sent : (rows : List (Plan × List ℕ × Target × List ℕ))
    → map (λ r. sent_to r.2 (deliveries_of (unit_fold r.0 0 r.1))) rows
    ≡ map (λ r. sent_to r.2 (deliveries_of (quick_fold r.0 0 r.1))) rows
quick_sent [] = refl
quick_sent (r ∷ rows) = rw (quick_unit r.0 0 r.1, quick_sent rows) refl

pub quick_results : (rows : List (Plan × ℕ × List ℕ × Verdict)) → map (λ r. verdict_of r.0 (unit_at r.1 r.2) r.2) rows
    ≡ map (λ r. quick_result r.0 (unit_at r.1 r.2) r.2) rows
quick_results [] = refl
quick_results (r ∷ rows) = rw (quick_verdict r.0 (unit_at r.1 r.2) r.2, quick_results rows) refl

pub quick_stops : (rows : List (Plan × List ℕ × List ℕ))
    → map (λ r. map (λ f. f.at) (before_stop r.0 (unit_fold r.0 0 r.1))) rows
    ≡ map (λ r. map (λ f. f.at) (before_stop r.0 (quick_fold r.0 0 r.1))) rows
quick_stops [] = refl
quick_stops (r ∷ rows) = rw (quick_unit r.0 0 r.1, quick_stops rows) refl
