use Rattle.std.proofs.Common.{length}
use Rattle.gob_formats_tests.proofs.helpers.+conform.Given as goal

abbrev pub decreases-conform : goal.decreases-conform
decreases-conform l = length l.columns.now
