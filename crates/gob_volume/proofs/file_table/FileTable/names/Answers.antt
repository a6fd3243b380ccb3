use Rattle.std.proofs.Common.{sym, subst}
use Rattle.gob_device.specs.Disk.{IsListing}
use Rattle.gob_volume.specs.Maps.{map_of}
use Rattle.gob_volume.proofs.Listings.{listing_of_table}
use Rattle.gob_volume.proofs.file_table.FileTable.names.Goals as goal

pub returns : goal.returns
returns c =
    subst (IsListing c.args.prefix.now (map_of c.args.self.now))
    (sym (rw c.as_slice.ensures.value at c.in_ok-names.ensures))
    (listing_of_table c.args.prefix.now c.args.self.now.entries.items c.args.self.now.rising)
