use Rattle.std.proofs.Common.{◌≡◌, take}
use Rattle.std.specs.List.{list_any}
use Rattle.gob_formats.specs.Escapes.{is_escaped}
use Rattle.gob_formats.proofs.json_write.needs_escape.Given as goal

abbrev pub invariant-loop-b : goal.invariant-loop-b
invariant-loop-b l = l.found ≡ list_any is_escaped (take l.b-index l.text)
