use Rattle.std.proofs.Common.{arith}
use Rattle.gob_steps.proofs.Chains.{building_on, all_built}
use Rattle.gob_steps.proofs.chain.built.Goals as goal

pub loop-spec-preserved : goal.loop-spec-preserved
loop-spec-preserved c =
    let l = c.loop-spec in
    record {
      place = omega arith;
      building = building_on c.args.specs.now c.args.columns.now l.list.items c.push_step.new.list.items l.spec-index
          c.spec-item.result c.loop-spec-test.true c.spec-item.is c.in_default.ensures.ok l.invariant.building;
    }

pub returns-clause-ok : goal.returns-clause-ok
returns-clause-ok c =
    let l = c.loop-spec in
    all_built c.args.specs.now c.args.columns.now l.list.items l.spec-index c.loop-spec-test.false l.invariant.building
