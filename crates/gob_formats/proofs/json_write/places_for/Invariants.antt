use Rattle.std.proofs.Common.{◌≡◌, drop, map}
use Rattle.gob_formats.specs.Members.{named_place, names_from}
use Rattle.gob_formats.proofs.json_write.places_for.Given as goal

abbrev pub invariant-loop-index : goal.invariant-loop-index
invariant-loop-index l = map named_place l.places.items ≡ names_from l.index (drop l.index l.columns)
