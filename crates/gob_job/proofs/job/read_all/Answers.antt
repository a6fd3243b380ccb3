use Rattle.gob_bytes.specs.Tables.{at_name}
use Rattle.gob_job.specs.Readings.{reading_from}
use Rattle.gob_job.specs.Rows.{rows_from}
use Rattle.gob_job.proofs.Due.{gives_handed}
use Rattle.gob_job.proofs.PlansTold.{all_fault, all_read}
use Rattle.gob_job.proofs.job.read_all.Goals as goal

pub returns-in_err-read_table : goal.returns-in_err-read_table
returns-in_err-read_table c =
    gives_handed _ _ _ _ c.from_residual-in_err-read_table.ensures.1
    (all_fault (λ (_ : Unit {0}). reading_from c.read_table.new.self) reading_from (at_name c.args.props.now)
    (rows_from c.first_rows.result.now) (rows_from c.branch_rows.result.now) (rows_from c.last_rows.result.now)
    (reading_from c.in_ok-reading.reading) _
    c.first_rows.ensures c.branch_rows.ensures c.last_rows.ensures c.in_ok-reading.ensures c.in_err-read_table.ensures)

pub returns : goal.returns
returns c =
    all_read (at_name c.args.props.now)
    (rows_from c.first_rows.result.now) (rows_from c.branch_rows.result.now) (rows_from c.last_rows.result.now)
    (reading_from c.in_ok-reading.reading) (reading_from c.read_table.new.self)
    c.first_rows.ensures c.branch_rows.ensures c.last_rows.ensures c.in_ok-reading.ensures c.in_ok-read_table.ensures
