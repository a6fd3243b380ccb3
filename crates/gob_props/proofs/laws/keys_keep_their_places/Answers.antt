use Rattle.gob_props.proofs.PutLaws.{puts_entry}
use Rattle.gob_props.proofs.laws.keys_keep_their_places.Goals as goal

pub returns : goal.returns
returns c = puts_entry
