use Rattle.std.proofs.Common.{◌≡◌, ◌≤◌, ◌++◌, drop, take, map, length}
use Rattle.gob_formats.specs.Members.{named_place, put_name}
use Rattle.gob_formats.proofs.json_write.put.Given as goal

abbrev pub invariant-loop-at : goal.invariant-loop-at
invariant-loop-at l =
    (l.places.items ≡ l.fn.places.items) × (l.at ≤ length l.places.items)
    × (map named_place (take l.at l.places.items)
    ++ put_name l.new.name.now l.new.index (map named_place (drop l.at l.places.items))
    ≡ put_name l.new.name.now l.new.index (map named_place l.places.items))
