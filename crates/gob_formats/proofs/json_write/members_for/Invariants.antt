use Rattle.std.proofs.Common.{◌≡◌, ◌++◌, drop, map, false}
use Rattle.gob_formats.specs.Members.{named_place, names_from, keyed_members}
use Rattle.gob_formats.proofs.json_write.members_for.Given as goal

abbrev pub invariant-loop-place : goal.invariant-loop-place
invariant-loop-place l =
    l.members.items ++ keyed_members l.later (map named_place (drop l.place-index l.place-items))
    ≡ keyed_members false (names_from 0 l.columns)
