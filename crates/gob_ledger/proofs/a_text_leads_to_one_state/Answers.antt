use Rattle.gob_ledger.proofs.ReadingChange.{one_change}
use Rattle.gob_ledger.proofs.a_text_leads_to_one_state.Goals as goal

pub returns : goal.returns
returns c = one_change
