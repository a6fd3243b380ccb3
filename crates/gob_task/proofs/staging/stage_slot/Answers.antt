use Rattle.std.proofs.Common.{arith}
use Rattle.gob_task.proofs.Appended.{appended_as, so_far_below, so_far_more, so_far_none}
use Rattle.gob_task.proofs.Slots.{all_places, next_place, place_at}
use Rattle.gob_task.proofs.staging.stage_slot.Goals as goal

pub stage_place-requires-clause-proper : goal.stage_place-requires-clause-proper
stage_place-requires-clause-proper g c =
    place_at c.args.places.now c.loop-place.place-index c.loop-place-item.result (omega arith) c.loop-place-item.is
    c.requires.proper.places

pub stage_place-requires-clause-there : goal.stage_place-requires-clause-there
stage_place-requires-clause-there g c = c.loop-place.invariant.so_far.appended.there c.requires.there

pub loop-place-init : goal.loop-place-init
loop-place-init g c = record { so_far = so_far_none _ _ _; spelled = c.requires.spelled }

pub loop-place-preserved : goal.loop-place-preserved
loop-place-preserved g c = record {
  so_far = so_far_more
      (next_place c.args.plan.now c.args.unit.now c.args.slot c.args.places.now c.loop-place.place-index
      c.loop-place-item.result (omega arith) c.loop-place-item.is) c.loop-place.invariant.so_far
      c.in_ok-stage_place.ensures.appended c.stage_place.ensures.below c.stage_place.ensures.cause.later;
  spelled = c.stage_place.ensures.spelled;
}

pub returns-in_err-stage_place-clause-below : goal.returns-in_err-stage_place-clause-below
returns-in_err-stage_place-clause-below g c =
    so_far_below _ _ _ _ _ _ _ _ c.loop-place.invariant.so_far c.stage_place.ensures.below

pub returns-clause-appended : goal.returns-clause-appended
returns-clause-appended g c =
    appended_as
    (all_places c.args.plan.now c.args.unit.now c.args.slot c.args.places.now c.loop-place.place-index (omega arith))
    c.loop-place.invariant.so_far.appended
