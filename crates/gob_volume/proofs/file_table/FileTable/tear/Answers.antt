use Rattle.gob_volume.specs.Crashes.{after_tear, torn_file}
use Rattle.gob_volume.proofs.Tables.{map-changed, rising-changed}
use Rattle.gob_volume.proofs.file_table.FileTable.tear.Goals as goal

pub invariant_of-self : goal.invariant_of-self
invariant_of-self c = record {
  rising = rising-changed c.tear.new.self c.args.self.now.rising c.place_of-place.ensures c.index_mut.ensures.value;
}

pub returns : goal.returns
unfolding after_tear
returns c =
    map-changed torn_file c.args.self.now.rising c.place_of-place.ensures c.index_mut.ensures.value c.tear.ensures
