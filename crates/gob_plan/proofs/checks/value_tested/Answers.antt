use Rattle.std.proofs.Common.{◌<◌, length, get_or, ap, ◌∙◌, arith}
use Rattle.gob_plan.specs.Rows.{conforms}
use Rattle.gob_plan.specs.Tests.{test_fits}
use Rattle.gob_plan.proofs.Named.{value_there, fits_none}
use Rattle.gob_plan.proofs.checks.value_tested.Goals as goal

pub bounds-as_slice-place : goal.bounds-as_slice-place
unfolding conforms
bounds-as_slice-place c =
    let at = value_there _ _ _ _ c.in-Some.place c.requires.conforms c.as_str.ensures c.in-Some.ensures in
    omega (arith, at.there, ap length c.as_slice.ensures)

pub offset_bounds-as_slice-place : goal.offset_bounds-as_slice-place
unfolding conforms
offset_bounds-as_slice-place c =
    let at = value_there _ _ _ _ c.in-Some.place c.requires.conforms c.as_str.ensures c.in-Some.ensures in
    let there : c.in-Some.place < length c.as_slice.result.now =
    omega (arith, at.there, ap length c.as_slice.ensures) in
    omega (arith, there, c.as_slice.type_inv)

pub unreachable-requires : goal.unreachable-requires
unfolding test_fits
unreachable-requires c = fits_none c.args.test.now.check _ _ _ c.as_str.ensures c.in-None.ensures c.requires.fits

pub returns : goal.returns
unfolding conforms
returns c =
    let at = value_there _ _ _ _ c.in-Some.place c.requires.conforms c.as_str.ensures c.in-Some.ensures in
    let value = c.index-as_slice-place.result in
    c.index-as_slice-place.is ∙ ap (λ values. get_or values c.in-Some.place value) c.as_slice.ensures ∙ at.value value
