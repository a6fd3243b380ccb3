use Rattle.std.proofs.Common.{ap, ◌∙◌}
use Rattle.gob_bytes.specs.Tables.{at_name}
use Rattle.gob_volume.proofs.Tables.{map-with}
use Rattle.gob_volume.proofs.file_table.FileTable.put.Goals as goal

pub returns-clause-ok : goal.returns-clause-ok
returns-clause-ok c = ap at_name c.in_ok-set.ensures.ok ∙ map-with c.args.self.now.entries.items c.args.name.now
    c.args.stored
