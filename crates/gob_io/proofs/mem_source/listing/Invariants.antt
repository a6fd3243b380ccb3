use Rattle.std.proofs.Common.{◌≡◌, map, take}
use Rattle.gob_device.specs.Supply.{listing_of}
use Rattle.gob_io.specs.Listing.{entry_of}
use Rattle.gob_io.proofs.mem_source.listing.Given as goal

abbrev pub invariant-loop-name : goal.invariant-loop-name
invariant-loop-name l = map entry_of l.listing.items ≡ listing_of (take l.name-index l.parts)
