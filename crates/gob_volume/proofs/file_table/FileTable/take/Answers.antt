use Rattle.std.proofs.Common.{ap, ◌∙◌}
use Rattle.gob_bytes.specs.Tables.{at_name}
use Rattle.gob_volume.proofs.Tables.{map-without}
use Rattle.gob_volume.proofs.file_table.FileTable.take.Goals as goal

pub returns-clause-after : goal.returns-clause-after
returns-clause-after c = ap at_name c.take.ensures.after ∙ map-without c.args.self.now.entries.items c.args.name.now
    c.args.self.now.rising
