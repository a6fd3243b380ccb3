use Rattle.std.proofs.Common.{◌≡◌, ◌++◌, drop}
use Rattle.gob_commit.specs.Groups.{picked_items}
use Rattle.gob_commit.proofs.places.results_at.Given as goal

abbrev pub invariant-loop-place : goal.invariant-loop-place
invariant-loop-place l = l.group ++ picked_items l.results (drop l.place-index l.places)
    ≡ picked_items l.results l.places
