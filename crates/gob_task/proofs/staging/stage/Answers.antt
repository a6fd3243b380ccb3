use Rattle.std.proofs.Common.{ap, arith}
use Rattle.gob_task.specs.Staging.{appends_of}
use Rattle.gob_task.proofs.Appended.{appended_as, so_far_below, so_far_more, so_far_none}
use Rattle.gob_task.proofs.Slots.{all_slots, more_slots, next_slot, no_slots, slots_all}
use Rattle.gob_task.proofs.staging.stage.Goals as goal

pub stage_slot-requires-clause-there : goal.stage_slot-requires-clause-there
stage_slot-requires-clause-there g c = c.loop-slot.invariant.so_far.appended.there c.requires.there

pub loop-slot-init : goal.loop-slot-init
loop-slot-init g c = record {
  so_far = so_far_none _ _ _;
  spelled = c.requires.spelled;
  slots = no_slots c.args.buffers.now;
}

pub loop-slot-preserved : goal.loop-slot-preserved
loop-slot-preserved g c = record {
  so_far = so_far_more
      (next_slot c.args.plan.now c.args.unit.now c.args.buffers.now c.loop-slot.slot c.slot.result.now
      c.slot.ensures.found)
      c.loop-slot.invariant.so_far c.in_ok-stage_slot.ensures.appended c.stage_slot.ensures.below
      c.stage_slot.ensures.cause.later;
  spelled = c.stage_slot.ensures.spelled;
  slots = more_slots c.loop-slot.slot c.args.buffers.now c.slot.result.now c.loop-slot.invariant.slots
      c.slot.ensures.found
      c.slot.ensures.proper;
}

pub returns-in_err-stage_slot-clause-below : goal.returns-in_err-stage_slot-clause-below
returns-in_err-stage_slot-clause-below g c =
    so_far_below _ _ _ _ _ _ _ _ c.loop-slot.invariant.so_far c.stage_slot.ensures.below

pub returns-clause-appended : goal.returns-clause-appended
returns-clause-appended g c =
    appended_as
    (ap (appends_of c.args.plan.now c.args.unit.now) (all_slots c.args.buffers.now c.loop-slot.slot (omega arith)))
    c.loop-slot.invariant.so_far.appended

pub returns-clause-slots : goal.returns-clause-slots
returns-clause-slots g c = slots_all c.loop-slot.slot c.args.buffers.now (omega arith) c.loop-slot.invariant.slots
