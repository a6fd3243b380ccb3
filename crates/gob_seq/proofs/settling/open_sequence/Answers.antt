use Rattle.std.proofs.Common.{◌≡◌, ◌∙◌, true, List, sym, subst}
use Rattle.std.specs.List.{list_all}
use Rattle.gob_recovery.specs.Sequence.{CommitStep}
use Rattle.gob_seq.specs.Steps.{is_callable}
use Rattle.gob_seq.proofs.Named.{callable}
use Rattle.gob_seq.proofs.Openings.{can_found, closed_found, lost_damaged, unread_damaged}
use Rattle.gob_seq.proofs.settling.open_sequence.Goals as goal

pub returns-in_default-clause-found : goal.returns-in_default-clause-found
returns-in_default-clause-found g c =
    closed_found c.args.name.now _ (rw c.in_default.is at c.in_ok-bytes.ensures.bytes)

pub returns-in_default-2-clause-damaged : goal.returns-in_default-2-clause-damaged
returns-in_default-2-clause-damaged g c = (
  unread_damaged c.args.job.now c.args.name.now _ _ _ _ c.requires.is c.in_ok-damaged.ensures c.as_slice.ensures.value
      (rw c.in-Some.is at c.in_ok-bytes.ensures.bytes) (rw c.in_default-2.is at c.in_ok-sequence.ensures),
  c.read.ensures.disk,
)

pub first_lost-requires : goal.first_lost-requires
first_lost-requires g c = record {
  steps =
      let reads = rw c.in-Some-2.is at c.in_ok-sequence.ensures in
      subst (λ (t : List CommitStep). list_all is_callable t ≡ true) (sym c.steps.ensures)
      (callable c.args.job.now c.in-Some-2.sequence reads.fits);
}

pub returns-in-Some-3-clause-damaged : goal.returns-in-Some-3-clause-damaged
returns-in-Some-3-clause-damaged g c = (
  lost_damaged c.args.job.now c.args.name.now _ _ _ _ c.in-Some-2.sequence _ _ _ c.requires.is c.in_ok-lost.ensures
      c.read.ensures.disk
      c.steps.ensures c.as_slice.ensures.value (rw c.in-Some.is at c.in_ok-bytes.ensures.bytes)
      (rw c.in-Some-2.is at c.in_ok-sequence.ensures) (rw c.in-Some-3.is at c.in_ok-source.ensures.lost),
  c.first_lost.ensures.disk ∙ c.read.ensures.disk,
)

pub returns-clause-found : goal.returns-clause-found
returns-clause-found g c =
    can_found c.args.job.now c.args.name.now _ _ c.in-Some-2.sequence _ _ _ c.requires.is c.read.ensures.disk
    c.steps.ensures
    c.as_slice.ensures.value (rw c.in-Some.is at c.in_ok-bytes.ensures.bytes)
    (rw c.in-Some-2.is at c.in_ok-sequence.ensures)
    (rw c.in_default-3.is at c.in_ok-source.ensures.lost)

pub returns-clause-fits : goal.returns-clause-fits
returns-clause-fits g c = let reads = rw c.in-Some-2.is at c.in_ok-sequence.ensures in reads.fits
