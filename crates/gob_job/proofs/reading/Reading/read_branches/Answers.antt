use Rattle.std.proofs.Common.{arith}
use Rattle.gob_job.specs.LookUps.{look_of}
use Rattle.gob_job.specs.Readings.{reading_from}
use Rattle.gob_job.specs.Rows.{rows_from}
use Rattle.gob_job.proofs.BranchLoops.{branch_read, branch_fault}
use Rattle.gob_job.proofs.Due.{gives_handed}
use Rattle.gob_job.proofs.reading.Reading.read_branches.Goals as goal

pub returns-in_err-read_rows : goal.returns-in_err-read_rows
returns-in_err-read_rows c =
    gives_handed _ _ _ _ c.from_residual.ensures.1
    (branch_fault (λ (_ : Unit {0}). reading_from c.read_rows.new.self)
    (λ (_ : Unit {0}). reading_from c.read_rows.new.self) (look_of c.args.values) (rows_from c.args.rows.now)
    c.loop-branch.branch c.args.branches (reading_from c.loop-branch.self) _ (omega arith)
    c.loop-branch.invariant c.in_err-read_rows.ensures)

pub loop-branch-preserved : goal.loop-branch-preserved
loop-branch-preserved c =
    branch_read (look_of c.args.values) (rows_from c.args.rows.now) c.loop-branch.branch c.args.branches
    (reading_from c.loop-branch.self) _ _ (omega arith) c.loop-branch.invariant c.in_ok-read_rows.ensures
    c.in_ok-end_branch.ensures
