use Rattle.std.proofs.Common.{ap, ◌∙◌}
use Rattle.gob_turns_tests.specs.Given.{rules_with}
use Rattle.gob_turns_tests.proofs.turns.run_plan.Goals as goal

pub run_rules-requires : goal.run_rules-requires
run_rules-requires c = c.in_ok-rules.ensures ∙ ap (λ p. rules_with p 3) c.requires.plain
