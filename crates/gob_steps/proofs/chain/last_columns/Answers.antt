use Rattle.std.proofs.Common.{◌-◌, ◌∙◌, sym, ap, length}
use Rattle.std.specs.List.{slice_get}
use Rattle.gob_steps.specs.Building.{after_of}
use Rattle.gob_steps.proofs.Chains.{last_shape}
use Rattle.gob_steps.proofs.chain.last_columns.Goals as goal

pub returns-in-Some : goal.returns-in-Some
returns-in-Some c =
    c.output.ensures ∙ sym (last_shape after_of c.args.columns.now c.args.list.now.items c.in-Some.step.now
    (c.in-Some.ensures.value ∙ ap (λ items. slice_get items (length items - 1)) c.deref.ensures.value))
