use Rattle.std.proofs.Common.{IfSome, subst}
use Rattle.gob_ledger.specs.Spelling.{Proper}
use Rattle.gob_state_tests.proofs.texts.changed_reads_back.Goals as goal

pub write_state-requires : goal.write_state-requires
write_state-requires g c = subst (λ o. IfSome o Proper) c.in-Some.is c.in_ok-state.ensures.proper
