use Rattle.std.proofs.Common.{◌≡◌, map, take}
use Rattle.gob_bytes.specs.Tables.{names_of}
use Rattle.gob_io.specs.Listing.{entry_of}
use Rattle.gob_ledger.specs.Units.{too_long}
use Rattle.gob_cut.proofs.listing.too_long.Given as goal

abbrev pub invariant-loop-part : goal.invariant-loop-part
invariant-loop-part l = l.names ≡ too_long l.limits (names_of (map entry_of (take l.part-index l.parts)))
