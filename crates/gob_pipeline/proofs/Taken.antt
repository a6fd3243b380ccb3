-- A line that was taken.
use Rattle.std.proofs.Common.{◌≡◌, ℕ, List, [], ◌∷◌, ◌++◌, length, map, suc, ◌+◌, Option, Some, None, refl, sym, ap}
use Rattle.std.proofs.Common.{◌∙◌, subst, append-nil}
use Rattle.gob_plan.specs.declared.plan.Plan.{Plan}
use Rattle.gob_plan.specs.declared.units.Cause.{Cause}
use Rattle.gob_plan.specs.declared.units.Counts.{Counts}
use Rattle.gob_meaning.specs.Items.{LineMade}
use Rattle.gob_meaning.specs.Fold.{Delivery, deliveries_of, before_stop_from, line_deliveries, line_stop, left_after}
use Rattle.gob_meaning.specs.Fold.{stops_or}
use Rattle.gob_meaning.specs.Fold.{Folded}
use Rattle.std.specs.List.{range_with_len}
use Rattle.gob_plan.specs.declared.units.BranchCounts.{BranchCounts}
use Rattle.gob_meaning.specs.Fold.{branch_counts}
use Rattle.gob_meaning.specs.Sums.{branch_sums, sum_of}
use Rattle.gob_pipeline.specs.Made.{Buffers, AddsTo}
use Rattle.gob_pipeline.specs.Taking.{TakesLine, LineMakes, counts_of_line, line_folds}
use Rattle.gob_pipeline.specs.declared.tally.Tally.{Tally}
use Rattle.gob_pipeline.proofs.Cuts.{adds_nothing}

-- one that stops the unit sends nothing
pub stopped_takes : (plan : Plan) (old : Tally) (at : ℕ) (raw : List ℕ) (b : Buffers) (l : LineMade)
    (stop : Option Cause) (cause : Cause) → LineMakes plan at raw l → stop ≡ line_stop old.bad_left at l
    → stop ≡ Some cause
    → TakesLine plan old (record { counts = old.counts; bad_left = old.bad_left; stop = stop }) at raw b b
stopped_takes plan old at raw b l stop cause makes stops is = record {
  line = l;
  makes = makes;
  stop = stops;
  added = let none = ap (λ o. deliveries_of (stops_or o (λ c. [])
      (record { at = at; made = l } ∷ before_stop_from (left_after old.bad_left l) []))) (sym stops ∙ is) in
      subst (λ (given : List Delivery). AddsTo b b given) (sym none) (adds_nothing b);
  counts = λ h. absurd (let e : None ≡ Some cause = sym h ∙ is in cc);
  bad_left = λ h. absurd (let e : None ≡ Some cause = sym h ∙ is in cc);
}

-- another one is sent and counted
pub counted_takes : (plan : Plan) (old : Tally) (at : ℕ) (raw : List ℕ) (b after : Buffers) (l : LineMade)
    (stop : Option Cause) (counts : Counts) (left : ℕ) → LineMakes plan at raw l → stop ≡ line_stop old.bad_left at l
    → stop ≡ None → AddsTo b after (line_deliveries l)
    → counts ≡ sum_of old.counts (counts_of_line (length plan.branches) l) → left ≡ left_after old.bad_left l
    → TakesLine plan old (record { counts = counts; bad_left = left; stop = stop }) at raw b after
counted_takes plan old at raw b after l stop counts left makes stops none added counted left_is = record {
  line = l;
  makes = makes;
  stop = stops;
  added = let all = ap (λ o. deliveries_of (stops_or o (λ c. [])
      (record { at = at; made = l } ∷ before_stop_from (left_after old.bad_left l) []))) (sym stops ∙ none)
      ∙ append-nil (line_deliveries l) in
      subst (λ (given : List Delivery). AddsTo b after given) (sym all) added;
  counts = λ h. counted;
  bad_left = λ h. left_is;
}

pub not_some : {A : Type 0} (o : Option A) → ((x : A) → o ≡ Some x → ⊥) → o ≡ None
not_some None other = refl
not_some (Some x) other = absurd (other x refl)

sums_length : (bs : List BranchCounts) (g : ℕ → BranchCounts) (start : ℕ)
    → length (branch_sums bs (map g (range_with_len start (length bs)))) ≡ length bs
sums_length [] g start = refl
sums_length (b ∷ bs) g start = ap suc (sums_length bs g (start + 1))

pub counts_length : (old : Counts) (l : LineMade)
    → length (sum_of old (counts_of_line (length old.branches) l)).branches ≡ length old.branches
unfolding sum_of
counts_length old l = sums_length old.branches (branch_counts (line_folds 0 l)) 0
