use Rattle.gob_device.specs.Disk.{after_append, with_more}
use Rattle.gob_volume.proofs.Tables.{map-changed, rising-changed}
use Rattle.gob_volume.proofs.file_table.FileTable.append.Goals as goal

pub invariant_of-self : goal.invariant_of-self
invariant_of-self c = record {
  rising = rising-changed c.append.new.self c.args.self.now.rising c.place_of-place.ensures c.index_mut.ensures.value;
}

pub returns-clause-ok : goal.returns-clause-ok
unfolding after_append
returns-clause-ok c = map-changed (with_more c.args.bytes.now) c.args.self.now.rising c.place_of-place.ensures
    c.index_mut.ensures.value c.in_ok-append.ensures.ok
