use Rattle.std.proofs.Common.{arith}
use Rattle.gob_bytes.specs.Tables.{at_name}
use Rattle.gob_jobs.specs.Reading.{branches_told}
use Rattle.gob_job.proofs.UnknownSteps.{key_missing, unknown_step}
use Rattle.gob_job.proofs.unknown.unknown_keys.Goals as goal

pub unreachable-requires : goal.unreachable-requires
unreachable-requires c = key_missing c.args.props.now c.loop-i.i (omega arith) c.in-None.ensures

pub loop-i-preserved : goal.loop-i-preserved
loop-i-preserved c =
    unknown_step (branches_told (at_name c.args.props.now)) c.args.props.now c.loop-i.i c.loop-i.unknown _
    c.in-Some.key.now (omega arith) c.in-Some.ensures c.loop-i.invariant
    (rw c.branches_told-branches.ensures at c.in_ok-push_unknown-in-Some.ensures)
