use Rattle.gob_device.specs.Disk.{after_sync, synced_file}
use Rattle.gob_volume.proofs.Tables.{map-changed, rising-changed}
use Rattle.gob_volume.proofs.file_table.FileTable.sync.Goals as goal

pub invariant_of-self : goal.invariant_of-self
invariant_of-self c = record {
  rising = rising-changed c.sync.new.self c.args.self.now.rising c.place_of-place.ensures c.index_mut.ensures.value;
}

pub returns : goal.returns
unfolding after_sync
returns c =
    map-changed synced_file c.args.self.now.rising c.place_of-place.ensures c.index_mut.ensures.value c.sync.ensures
