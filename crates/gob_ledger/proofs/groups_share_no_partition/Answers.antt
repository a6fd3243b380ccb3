use Rattle.gob_ledger.proofs.Datasets.{grouped}
use Rattle.gob_ledger.proofs.groups_share_no_partition.Goals as goal

pub returns : goal.returns
returns c = grouped
