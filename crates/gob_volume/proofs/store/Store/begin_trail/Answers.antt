use Rattle.std.proofs.Common.{ap, ◌∙◌}
use Rattle.gob_volume.specs.Calls.{trail_of}
use Rattle.gob_volume.specs.Maps.{map_of}
use Rattle.gob_volume.proofs.Trails.{trail-anew}
use Rattle.gob_volume.proofs.store.Store.begin_trail.Goals as goal

pub returns : goal.returns
returns c =
    let calls = c.args.self.now.calls in
    let anew = ap (trail_of calls.items) (c.len-self.ensures ∙ calls.ok.0) ∙ trail-anew calls.items in
    λ i. record { files = map_of c.args.self.now.table; trail = anew i }
