use Rattle.std.proofs.Common.{◌+◌, ◌*◌, ap, sym, ◌∙◌, arith}
use Rattle.gob_plan.specs.declared.plan.Plan.{Plan}
use Rattle.gob_meaning.proofs.Fits.{fits_in_parts}
use Rattle.gob_pipeline_tests.proofs.bench.Bench.new.Goals as goal

pub invariant_of-result : goal.invariant_of-result
invariant_of-result c =
    let plan : Plan = c.in_ok-pipeline.pipeline in
    record {
      near = omega (arith, c.in_ok-machine.ensures.lo);
      counted = c.in_ok-machine.ensures.branches;
      slots = c.in_ok-buffers.ensures.slots
          ∙ ap (λ (p : Plan). 2 * p.fork.branches + 1) c.plan.ensures.plan
          ∙ ap (λ n. 2 * n + 1) (sym ((fits_in_parts plan).0 c.plan.ensures.fitting).as_many_branches);
    }
