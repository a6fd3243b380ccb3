use Rattle.std.proofs.Common.{◌≡◌, ◌<◌, length, get_or, Bool, true, false, cond, not, refl, ap, ◌∙◌, arith}
use mathlib.Core.Bool.{beq}
use Rattle.gob_plan.specs.Rows.{conforms}
use Rattle.gob_plan.specs.Tests.{check_holds, test_holds}
use Rattle.gob_rowcheck.proofs.Places.{value_at}
use Rattle.gob_rowcheck.proofs.placed.holds_at.Goals as goal

turned : (holds negated : Bool) → not (beq holds negated) ≡ cond negated (not holds) holds
turned true true = refl
turned true false = refl
turned false true = refl
turned false false = refl

pub bounds-as_slice-place : goal.bounds-as_slice-place
unfolding conforms
bounds-as_slice-place c =
    let at = value_at c.args.test.now.column c.args.columns.now c.args.row.now.values c.args.place c.requires.conforms
    c.requires.stands in
    omega (arith, at.there, ap length c.as_slice.ensures)

pub offset_bounds-as_slice-place : goal.offset_bounds-as_slice-place
unfolding conforms
offset_bounds-as_slice-place c =
    let at = value_at c.args.test.now.column c.args.columns.now c.args.row.now.values c.args.place c.requires.conforms
    c.requires.stands in
    let there : c.args.place < length c.as_slice.result.now =
    omega (arith, at.there, ap length c.as_slice.ensures) in
    omega (arith, there, c.as_slice.type_inv)

pub returns : goal.returns
unfolding conforms test_holds
returns c =
    let test = c.args.test.now in
    let at = value_at c.args.test.now.column c.args.columns.now c.args.row.now.values c.args.place c.requires.conforms
    c.requires.stands in
    let value = c.index-as_slice-place.result in
    let same = c.index-as_slice-place.is ∙ ap (λ values. get_or values c.args.place value) c.as_slice.ensures
    ∙ at.value value in
    turned c.is_met.result test.negated
    ∙ ap (λ h. cond test.negated (not h) h) (c.is_met.ensures ∙ ap (check_holds test.check) same)
