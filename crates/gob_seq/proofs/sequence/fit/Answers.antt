use Rattle.std.proofs.Common.{◌∙◌, map, sym, ap, rules}
use Rattle.std.specs.List.{list_all}
use Rattle.std.proofs.lemmas.List.{take_all, length-map}
use Rattle.gob_seq.specs.Steps.{fits_at, commit_step_of}
use Rattle.gob_seq.proofs.Rows.{all_more, one_not}
use Rattle.gob_seq.proofs.sequence.fit.Goals as goal

pub returns-then-not-step_fits : goal.returns-then-not-step_fits
returns-then-not-step_fits c =
    one_not (fits_at c.args.place.now) c.args.steps.now c.loop-step.step-index c.step-item.result (search rules)
    c.step-item.is
    (sym c.step_fits.ensures ∙ c.if-not-step_fits.true)

pub loop-step-preserved : goal.loop-step-preserved
loop-step-preserved c =
    all_more (fits_at c.args.place.now) c.args.steps.now c.loop-step.step-index c.step-item.result (search rules)
    c.step-item.is
    c.loop-step.invariant (sym c.step_fits.ensures ∙ c.if-not-step_fits.false)

pub returns : goal.returns
returns c =
    sym c.loop-step.invariant
    ∙ ap (list_all (fits_at c.args.place.now))
    (take_all c.loop-step.step-index (map commit_step_of c.args.steps.now) (search (rules, length-map)))
