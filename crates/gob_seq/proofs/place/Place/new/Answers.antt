use Rattle.std.proofs.Common.{◌∙◌}
use Rattle.gob_seq.proofs.Named.{staged_is}
use Rattle.gob_seq.proofs.place.Place.new.Goals as goal

pub returns : goal.returns
returns c = λ i. record {
  folder = c.in_ok-folder.ensures i;
  staging = c.in_ok-staging.ensures i;
  staged = (c.in_ok-staged.ensures ∙ staged_is c.args.job.now) i;
  sequence = c.in_ok-sequence.ensures i;
}
