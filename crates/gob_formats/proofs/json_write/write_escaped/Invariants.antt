use Rattle.std.proofs.Common.{◌≡◌, ◌++◌, drop}
use Rattle.json.specs.Print.{escape}
use Rattle.gob_formats.specs.Adding.{KeepsFront}
use Rattle.gob_formats.proofs.json_write.write_escaped.Given as goal

abbrev pub invariant-loop-b : goal.invariant-loop-b
invariant-loop-b l =
    (l.into.items ++ escape (drop l.b-index l.text) ≡ l.fn.into.items ++ escape l.text)
    × KeepsFront l.fn.into.items l.into.items
