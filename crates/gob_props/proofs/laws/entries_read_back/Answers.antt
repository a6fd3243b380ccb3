use Rattle.gob_props.proofs.WrittenLaws.{read_back}
use Rattle.gob_props.proofs.laws.entries_read_back.Goals as goal

pub returns : goal.returns
returns c = read_back
