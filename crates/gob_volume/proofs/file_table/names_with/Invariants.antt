use Rattle.std.proofs.Common.{◌≡◌, take}
use Rattle.std.specs.List.{filter}
use Rattle.gob_bytes.specs.Paths.{begins_with}
use Rattle.gob_bytes.specs.Tables.{names_of}
use Rattle.gob_volume.proofs.file_table.names_with.Given as goal

abbrev pub invariant-loop-name : goal.invariant-loop-name
invariant-loop-name l = l.names.items ≡ filter (begins_with l.prefix) (names_of (take l.name-index l.entries))
