use Rattle.std.proofs.Common.{◌+◌, ◌*◌, length, sym, ap, ◌∙◌, subst}
use Rattle.gob_pipeline.specs.Made.{AreEmpty, AreSlots}
use Rattle.gob_pipeline.proofs.Adds.{none_slots, none_length, none_empty}
use Rattle.gob_pipeline.proofs.buffers.TargetBuffers.new.Goals as goal

pub invariant_of-result : goal.invariant_of-result
invariant_of-result c = subst AreSlots (sym c.in_ok-slots.ensures) (none_slots 0 (2 * c.args.branches + 1))

pub returns-clause-slots : goal.returns-clause-slots
returns-clause-slots c = ap length c.in_ok-slots.ensures ∙ none_length (2 * c.args.branches + 1)

pub returns-clause-empty : goal.returns-clause-empty
returns-clause-empty c = subst AreEmpty (sym c.in_ok-slots.ensures) (none_empty (2 * c.args.branches + 1))
