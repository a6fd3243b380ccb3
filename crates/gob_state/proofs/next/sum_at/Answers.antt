use Rattle.gob_state.proofs.NextLemmas.{one_at}
use Rattle.gob_state.proofs.SettingLemmas.{at_drop_or}
use Rattle.gob_state.proofs.next.sum_at.Goals as goal

pub returns : goal.returns
returns c = one_at c.args.a.now c.args.b.now c.args.i _
    (at_drop_or c.args.a.now c.args.i (record { written = 0; errors = 0; optional = 0 }) c.requires) c.if-i-b.false
