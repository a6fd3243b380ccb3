use Rattle.std.proofs.Common.{◌∙◌}
use Rattle.gob_turns_tests.proofs.TwoUnits.{may_have}
use Rattle.gob_turns_tests.proofs.turns.run_rules.Goals as goal

pub run_units-requires : goal.run_units-requires
run_units-requires c =
    may_have _ _ _ c.requires c.in_ok-turns.ensures (c.as_slice.ensures.value ∙ c.in_ok-units.ensures)
