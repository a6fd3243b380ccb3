-- The code's rows as those of the key table.
use Rattle.std.specs.Prelude.{List, map}
use Rattle.gob_jobs.specs.KeyTable as keys
use Rattle.gob_job.specs.declared.rows.Field.{Field}
use Rattle.gob_job.specs.declared.rows.Field.TheVariants as field
use Rattle.gob_job.specs.declared.rows.Need.{Need}
use Rattle.gob_job.specs.declared.rows.Need.TheVariants as need
use Rattle.gob_job.specs.declared.rows.Row.{Row}
use Rattle.gob_job.specs.declared.rows.Standing.{Standing}
use Rattle.gob_job.specs.declared.rows.Standing.TheVariants as standing
use Rattle.gob_job.specs.Drafts.{plan_reader, rules_reader}

abbrev pub standing_from : Standing → keys.Standing
standing_from standing.Once = keys.once
standing_from standing.ForEachBranch = keys.for_each_branch
standing_from standing.ForEachBranchOrAll = keys.for_each_branch_or_all

abbrev pub need_from : Need → keys.Need
need_from need.Needed = keys.needed
need_from (need.ElseIs text) = keys.else_is text.now
need_from need.NeededUnlessLines = keys.needed_unless_lines
need_from need.NeededUnlessAll = keys.needed_unless_all

abbrev pub reader_of : Field → keys.Reader
reader_of (field.Plan f) = plan_reader f
reader_of (field.Rules f) = rules_reader f

abbrev pub row_from : Row → keys.Row
row_from r = record {
  key = r.key.now;
  standing = standing_from r.standing;
  need = need_from r.need;
  reader = reader_of r.field;
}

abbrev pub rows_from : List Row → List keys.Row
rows_from rows = map row_from rows
