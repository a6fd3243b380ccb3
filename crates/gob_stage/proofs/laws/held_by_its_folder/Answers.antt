use Rattle.gob_stage.proofs.Held.{clean_same, held_there, staged_same}
use Rattle.gob_stage.proofs.laws.held_by_its_folder.Goals as goal

pub returns : goal.returns
returns c a contents m n = record {
  there = held_there a contents m;
  held = staged_same a contents m n;
  clean = clean_same a contents m n;
}
