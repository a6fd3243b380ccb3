use Rattle.std.proofs.Common.{[], refl, arith}
use Rattle.gob_volume.specs.Calls.{trail_of}
use Rattle.gob_volume.proofs.store.Store.new.Goals as goal

pub invariant_of-result : goal.invariant_of-result
invariant_of-result c = record {
  replayed = rw (c.new-2.ensures.items) (record { agrees = λ name i. c.new.ensures i name; within = omega arith });
}

pub returns : goal.returns
unfolding trail_of
returns c = rw c.new-2.ensures.items (λ i. record { files = c.new.ensures i; trail = [] })
