use Rattle.std.proofs.Common.{◌≡◌, drop, map}
use Rattle.gob_io.specs.Listing.{entry_of}
use Rattle.gob_ledger.specs.Units.{first_shrunk}
use Rattle.gob_cut.proofs.listing.refuse_shrunk.Given as goal

abbrev pub invariant-loop-part : goal.invariant-loop-part
invariant-loop-part l = first_shrunk l.marks (map entry_of (drop l.part-index l.parts)) ≡ first_shrunk l.marks
    (map entry_of l.parts)
