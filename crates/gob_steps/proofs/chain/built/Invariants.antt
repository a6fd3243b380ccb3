use Rattle.std.proofs.Common.{◌≡◌}
use Rattle.gob_steps.specs.Building.{Building}
use Rattle.gob_steps.proofs.chain.built.Given as goal

abbrev pub invariant-loop-spec : goal.invariant-loop-spec
invariant-loop-spec l = record {
  place : l.at ≡ l.spec-index;
  building : Building l.specs l.columns l.list.items l.spec-index;
}
