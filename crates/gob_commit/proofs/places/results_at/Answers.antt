use Rattle.std.proofs.Common.{rules}
use Rattle.gob_commit.proofs.Pushing.{place_more}
use Rattle.gob_commit.proofs.places.results_at.Goals as goal

pub loop-place-preserved : goal.loop-place-preserved
loop-place-preserved c =
    place_more c.args.results.now c.args.places.now c.loop-place.place-index c.index-results-place.result
    c.in_ok-made.made
    c.loop-place.group c.push.new.self _ (search rules) (search rules) c.index-results-place.is c.in_ok-made.ensures
    c.in_ok-push.ensures.ok c.loop-place.invariant
