use Rattle.std.proofs.Common.{◌≡◌, take, length}
use Rattle.gob_pipeline.specs.Routes.{AreNumberedBranches, specs_of}
use Rattle.gob_pipeline.proofs.routes.branches_of.Given as goal

abbrev pub invariant-loop-spec : goal.invariant-loop-spec
invariant-loop-spec l = record {
  are : AreNumberedBranches l.columns 0 l.branches.items;
  specs : specs_of l.branches.items ≡ take l.spec-index l.specs;
  number : l.number ≡ l.spec-index;
  many : length l.branches.items ≡ l.spec-index;
}
