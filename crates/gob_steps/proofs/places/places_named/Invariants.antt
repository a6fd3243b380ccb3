use Rattle.std.proofs.Common.{◌≡◌, take}
use Rattle.gob_steps.specs.Places.{places_of}
use Rattle.gob_steps.proofs.places.places_named.Given as goal

abbrev pub invariant-loop-column : goal.invariant-loop-column
invariant-loop-column l = l.places.items ≡ places_of (take l.column-index l.kept) l.columns
