use Rattle.std.proofs.Common.{rules}
use Rattle.gob_commit.proofs.Pushing.{place_more}
use Rattle.gob_commit.proofs.places.units_at.Goals as goal

pub loop-place-preserved : goal.loop-place-preserved
loop-place-preserved c =
    place_more c.args.units.now c.args.places.now c.loop-place.place-index c.index-units-place.result c.in_ok-unit.unit
    c.loop-place.group c.push.new.self _ (search rules) (search rules) c.index-units-place.is c.in_ok-unit.ensures
    c.in_ok-push.ensures.ok c.loop-place.invariant
