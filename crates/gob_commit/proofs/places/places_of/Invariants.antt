use Rattle.std.proofs.Common.{take}
use Rattle.gob_commit.specs.Groups.{PlacesAre}
use Rattle.gob_commit.proofs.places.places_of.Given as goal

abbrev pub invariant-loop-i : goal.invariant-loop-i
invariant-loop-i l = PlacesAre (take l.i l.units) l.datasets
