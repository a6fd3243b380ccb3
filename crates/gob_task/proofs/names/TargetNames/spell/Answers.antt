use Rattle.std.proofs.Common.{sym, subst}
use Rattle.gob_task.specs.Task.{AreSpelled}
use Rattle.gob_task.proofs.Spelled.{more_spelled, slot_spelled, vectors_name, vectors_spelled}
use Rattle.gob_task.proofs.names.TargetNames.spell.Goals as goal

pub returns-in_err-make_slots-clause-spelled : goal.returns-in_err-make_slots-clause-spelled
returns-in_err-make_slots-clause-spelled c =
    more_spelled c.args.plan.now c.args.unit.now _ _ c.make_slots.ensures.longer
    (subst (AreSpelled c.args.plan.now c.args.unit.now) (sym c.self.view_is) c.requires.spelled)

pub spell_in-requires-clause-spelled : goal.spell_in-requires-clause-spelled
spell_in-requires-clause-spelled c =
    slot_spelled (λ v. v.items) c.args.plan.now c.args.unit.now c.make_slots.new.slots.items c.args.slot
    c.index_mut-table.result.now
    (more_spelled c.args.plan.now c.args.unit.now _ _ c.make_slots.ensures.longer
    (subst (AreSpelled c.args.plan.now c.args.unit.now) (sym c.self.view_is) c.requires.spelled))
    c.in_ok-make_slots.ensures.there c.index_mut-table.ensures.value

pub returns-in_err-at-clause-spelled : goal.returns-in_err-at-clause-spelled
returns-in_err-at-clause-spelled c =
    vectors_spelled (λ v. v.items) c.args.plan.now c.args.unit.now _ c.make_slots.new.slots.items c.args.slot
    c.spell_in.new.table c.make_slots.ensures.longer
    (subst (AreSpelled c.args.plan.now c.args.unit.now) (sym c.self.view_is) c.requires.spelled)
    c.spell_in.ensures.spelled

pub returns-clause-spelled : goal.returns-clause-spelled
returns-clause-spelled c =
    vectors_spelled (λ v. v.items) c.args.plan.now c.args.unit.now _ c.make_slots.new.slots.items c.args.slot
    c.spell_in.new.table c.make_slots.ensures.longer
    (subst (AreSpelled c.args.plan.now c.args.unit.now) (sym c.self.view_is) c.requires.spelled)
    c.spell_in.ensures.spelled

pub returns-clause-name : goal.returns-clause-name
returns-clause-name c =
    (vectors_name (λ v. v.items) c.args.plan.now c.args.unit.now c.make_slots.new.slots.items c.args.slot
    c.spell_in.new.table c.args.place.now c.in_ok-at.at c.in_ok-make_slots.ensures.there c.spell_in.ensures.spelled
    c.in_ok-at.ensures.at).0

pub returns-clause-file : goal.returns-clause-file
returns-clause-file c =
    (vectors_name (λ v. v.items) c.args.plan.now c.args.unit.now c.make_slots.new.slots.items c.args.slot
    c.spell_in.new.table c.args.place.now c.in_ok-at.at c.in_ok-make_slots.ensures.there c.spell_in.ensures.spelled
    c.in_ok-at.ensures.at).1
