use Rattle.std.proofs.Common.{sym}
use Rattle.gob_memory.proofs.Places.{value_there}
use Rattle.gob_memory.proofs.table.get.Goals as goal

pub returns-in-Ok : goal.returns-in-Ok
returns-in-Ok g c = sym (value_there c.args.table.now c.args.name.now c.in-Ok.place c.index-table-place.result
    c.requires c.in-Ok.ensures)
