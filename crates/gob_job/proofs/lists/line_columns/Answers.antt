use Rattle.gob_job.proofs.LineColumns.{line_fine}
use Rattle.gob_job.proofs.lists.line_columns.Goals as goal

pub unreachable-requires : goal.unreachable-requires
unreachable-requires c =
    line_fine c.push.new.self (rw (c.new-columns.ensures, c.in_ok-from_str.ensures) at c.in_ok-push.ensures.ok)
    c.in-Err.ensures.1
