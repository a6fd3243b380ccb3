use Rattle.std.proofs.Common.{◌∙◌}
use Rattle.gob_steps.proofs.Named.{place_none}
use Rattle.gob_steps.proofs.places.place_named.Goals as goal

pub returns-in-None-clause-place : goal.returns-in-None-clause-place
returns-in-None-clause-place c =
    c.len-behind.ensures.len ∙ place_none c.args.name.now c.args.columns.now c.in-None.ensures
