-- Whole texts, in the parts that are written one after the other.
use Rattle.std.proofs.Common.{◌≡◌, ℕ, zero, suc, length, refl, arith, Bool, if◌then◌else◌, List, [], ◌∷◌, ◌++◌, map}
use Rattle.std.proofs.Common.{sym, ap, ◌∙◌, append_assoc, Some, None, codes}
use Rattle.std.specs.declared.option.Option.{Option}
use Rattle.std.specs.List.{enumerate_from, flat_map, zip}
use Rattle.gob_bytes.specs.Words.{words}
use Rattle.gob_ledger.specs.State.{State}
use Rattle.gob_meaning.specs.Steps.{columns_through}
use Rattle.gob_plan.specs.declared.plan.CommitPolicy.{CommitPolicy}
use Rattle.gob_plan.specs.declared.plan.Plan.{Plan}
use Rattle.gob_plan.specs.declared.units.BranchCounts.{BranchCounts}
use Rattle.gob_plan.specs.declared.units.Counts.{Counts}
use Rattle.gob_plan.specs.declared.units.Unit.{Unit as WorkUnit}
use Rattle.gob_plan.specs.declared.units.UnitResult.{UnitResult}
use Rattle.gob_state.specs.Committed.{judged_by, verdict_in, verdicts_in}
use Rattle.gob_texts.specs.Commands.{check_report, format_line, recovery_report, state_report, unknown_line}
use Rattle.gob_texts.specs.Refusals.{Refusal, refusal_line, refusal_status, refusal_text, status_line}
use Rattle.gob_texts.specs.Report.{count_lines, job_line, mark_line, report_of, run_status, tally, too_long_line}
use Rattle.gob_texts.specs.Report.{total_lines, units_lines}
use Rattle.gob_report.specs.Lines.{tally_line}
use Rattle.gob_report.specs.States.{body_of}

pub check_called : (job text : List ℕ) (plan : Plan) (unknown : List (List ℕ))
    → text ≡ words (codes "job") (job ∷ codes "ok" ∷ [])
    ++ flat_map (format_line (columns_through plan.steps plan.columns)) (enumerate_from 0 plan.branches)
    ++ flat_map unknown_line unknown ++ status_line 0
    → text ≡ check_report job plan unknown
unfolding check_report
check_called job text plan unknown is = is

pub refusal_called : (text : List ℕ) (r : Refusal) → text ≡ refusal_line r ++ status_line (refusal_status r)
    → text ≡ refusal_text r
unfolding refusal_text
refusal_called text r is = is

pub recovery_called : (job text : List ℕ) (was_open : Bool)
    → text ≡ words (codes "recovered") (job ∷ codes "sequence" ∷ (if was_open then codes "open" else codes "none") ∷ [])
    ++ status_line 0 → text ≡ recovery_report job was_open
unfolding recovery_report
recovery_called job text was_open is = is

pub state_called : (job text : List ℕ) (s : Option State)
    → text ≡ words (codes "job") (job ∷ []) ++ body_of s ++ status_line 0 → text ≡ state_report job s
unfolding state_report
state_called job text None is = is
state_called job text (Some s) is = is ∙ simp append_assoc

-- what all units made, in all and then branch by branch
pub counts_pushed : (old a b : List ℕ) (c : Counts) (ts : List (List ℕ)) (bs : List BranchCounts) → ts ≡ tally c
    → bs ≡ c.branches → a ≡ old ++ words (codes "total") ts
    → b ≡ a ++ flat_map (tally_line (codes "total") (codes "branch" ∷ [])) (enumerate_from 0 bs)
    → b ≡ old ++ count_lines c
counts_pushed old a b c ts bs told all pa pb =
    pb ∙ (λ j. (pa ∙ ap (λ t. old ++ words (codes "total") t) told) j
    ++ flat_map (tally_line (codes "total") (codes "branch" ∷ [])) (enumerate_from 0 (all j)))
    ∙ append_assoc old (words (codes "total") (tally c))
    (flat_map (tally_line (codes "total") (codes "branch" ∷ [])) (enumerate_from 0 c.branches))

verdicts_of_units : (us : List WorkUnit) (rs : List UnitResult) → length rs ≡ length us
    → map (λ j. j.1) (judged_by us rs) ≡ verdicts_in rs
verdicts_of_units [] [] same = refl
verdicts_of_units [] (r ∷ rs) same = absurd (omega (arith, same))
verdicts_of_units (u ∷ us) [] same = absurd (omega (arith, same))
verdicts_of_units (u ∷ us) (r ∷ rs) same =
    ap (λ vs. verdict_in r ∷ vs) (verdicts_of_units us rs (omega (arith, same)))

pub report_called : (job : List ℕ) (policy : CommitPolicy) (names : List (List ℕ)) (us : List WorkUnit)
    (rs : List UnitResult) (cs : List Bool) (after : State) (a b t : List ℕ) → length rs ≡ length us
    → a ≡ [] ++ job_line job policy
    → b ≡ a ++ flat_map too_long_line names ++ units_lines (judged_by us rs) cs ++ flat_map mark_line after.parts
    ++ total_lines after
    → t ≡ b ++ status_line (run_status (verdicts_in rs)) → t ≡ report_of job policy names (judged_by us rs) cs after
unfolding report_of
report_called job policy names us rs cs after a b t counted pa pb pt =
    let n : List ℕ = flat_map too_long_line names in
    let u : List ℕ = units_lines (judged_by us rs) cs in
    let m : List ℕ = flat_map mark_line after.parts in
    pt ∙ (λ j. (pb ∙ ap (λ x. x ++ n ++ u ++ m ++ total_lines after) pa) j
    ++ status_line (run_status (sym (verdicts_of_units us rs counted) j)))
