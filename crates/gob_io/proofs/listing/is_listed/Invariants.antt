use Rattle.std.proofs.Common.{map, length, ◌↔◌}
use Rattle.gob_device.specs.Supply.{IsListed}
use Rattle.gob_io.specs.Listing.{entry_of}
use Rattle.gob_io.proofs.listing.is_listed.Given as goal

abbrev pub invariant-loop-left : goal.invariant-loop-left
invariant-loop-left l = IsListed (map entry_of l.left) ↔ IsListed (map entry_of l.fn.parts)

abbrev pub decreases-loop-left : goal.decreases-loop-left
decreases-loop-left l = length l.left
