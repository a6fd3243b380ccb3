use Rattle.std.proofs.Common.{rules}
use Rattle.gob_plan.specs.Rows.{conforms}
use Rattle.gob_plan.specs.Tests.{test_fits, test_holds}
use Rattle.gob_text_tests.proofs.trials.verdict.Goals as goal

pub holds-requires-clause-fits : goal.holds-requires-clause-fits
unfolding test_fits
holds-requires-clause-fits c = search rules

pub holds-requires-clause-conforms : goal.holds-requires-clause-conforms
unfolding conforms
holds-requires-clause-conforms c = search rules

pub returns : goal.returns
unfolding test_holds
returns c = search rules
