use Rattle.gob_segments.proofs.Loads.{next_named}
use Rattle.gob_segments.proofs.loading.next_state.Goals as goal

pub read-requires : goal.read-requires
read-requires g c = next_named c.args.job.now c.args.name.now c.state.inside.run c.in_ok-is_next.field-0
    c.requires.named
    c.in_ok-is_next.ensures c.if-not-branch.false
