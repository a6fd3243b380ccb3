use Rattle.std.proofs.Common.{◌≡◌, ◌∙◌, true, List, sym, ap, subst}
use Rattle.std.specs.List.{list_all}
use Rattle.gob_device.specs.Names.{IsPathname}
use Rattle.gob_recovery.specs.Sequence.{CommitStep}
use Rattle.gob_seq.specs.Steps.{is_callable}
use Rattle.gob_seq.specs.declared.place.Place.{Place}
use Rattle.gob_seq.proofs.Losing.{all_ready, lost_unready, open_unready}
use Rattle.gob_seq.proofs.Named.{callable, sequence_named}
use Rattle.gob_seq.proofs.commits.is_ready.Goals as goal

pub size-requires : goal.size-requires
size-requires g c =
    subst IsPathname (sym (c.as_str.ensures ∙ ap (λ (p : Place). p.sequence) c.in_ok-place.ensures))
    (sequence_named c.args.job.now c.requires.named)

pub returns-in-Some-clause-ready : goal.returns-in-Some-clause-ready
returns-in-Some-clause-ready g c =
    open_unready c.args.job.now c.as_str.result.now c.args.sequence.now c.in-Some.field-0 _
    (c.as_str.ensures ∙ ap (λ (p : Place). p.sequence) c.in_ok-place.ensures)
    (rw c.in-Some.is at c.in_ok-size.ensures.bytes)

pub first_lost-requires : goal.first_lost-requires
first_lost-requires g c = record {
  steps = subst (λ (t : List CommitStep). list_all is_callable t ≡ true) (sym c.steps.ensures)
      (callable c.args.job.now c.args.sequence.now c.requires.fits);
}

pub returns-in-Some-2-clause-ready : goal.returns-in-Some-2-clause-ready
returns-in-Some-2-clause-ready g c =
    lost_unready c.args.job.now _ c.args.sequence.now _ _ _ c.size.ensures.disk c.steps.ensures
    (rw c.in-Some-2.is at c.in_ok-first_lost.ensures.lost)

pub returns-clause-ready : goal.returns-clause-ready
returns-clause-ready g c =
    all_ready c.args.job.now c.as_str.result.now c.args.sequence.now _ _ _ c.size.ensures.disk c.steps.ensures
    (c.as_str.ensures ∙ ap (λ (p : Place). p.sequence) c.in_ok-place.ensures)
    (rw c.in_default.is at c.in_ok-size.ensures.bytes)
    (rw c.in-None.is at c.in_ok-first_lost.ensures.lost)
