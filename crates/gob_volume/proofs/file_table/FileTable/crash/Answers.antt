use Rattle.std.proofs.Common.{ap, sym, subst, ◌∙◌}
use Rattle.gob_bytes.specs.Tables.{IsInByteOrder, at_name, names_of}
use Rattle.gob_volume.specs.Crashes.{image_of}
use Rattle.gob_volume.proofs.Tables.{map-crash, names-map}
use Rattle.gob_volume.proofs.file_table.FileTable.crash.Goals as goal

pub invariant_of-self : goal.invariant_of-self
invariant_of-self c =
    let names = ap names_of (rw c.as_slice.ensures.value at c.in_ok-self.ensures)
    ∙ names-map (image_of c.args.tail.now) c.args.self.now.entries.items in
    record { rising = subst IsInByteOrder (sym names) c.args.self.now.rising }

pub returns-clause-ok : goal.returns-clause-ok
returns-clause-ok c = ap at_name (rw c.as_slice.ensures.value at c.in_ok-self.ensures)
    ∙ map-crash c.args.tail.now c.args.self.now.entries.items
