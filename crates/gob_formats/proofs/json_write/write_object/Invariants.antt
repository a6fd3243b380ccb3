use Rattle.std.proofs.Common.{◌≡◌, ◌++◌, ◌∷◌, [], drop}
use Rattle.gob_formats.specs.Adding.{KeepsFront}
use Rattle.gob_formats.specs.Members.{members_written}
use Rattle.gob_formats.proofs.json_write.write_object.Given as goal

abbrev pub invariant-loop-member : goal.invariant-loop-member
invariant-loop-member l =
    (l.into.items ++ members_written (drop l.member-index l.members) l.values
    ≡ (l.fn.into.items ++ 123 ∷ []) ++ members_written l.members l.values)
    × KeepsFront l.fn.into.items l.into.items
