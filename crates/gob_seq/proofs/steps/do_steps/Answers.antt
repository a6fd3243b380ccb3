use Rattle.std.proofs.Common.{map, arith, rules}
use Rattle.std.proofs.lemmas.List.{take_all, length-map}
use Rattle.gob_seq.specs.Steps.{commit_step_of}
use Rattle.gob_seq.proofs.Fronts.{done_all, done_front, none_done, one_done, one_more, step_left}
use Rattle.gob_seq.proofs.Named.{callable_at}
use Rattle.gob_seq.proofs.steps.do_steps.Goals as goal

pub loop-step-init : goal.loop-step-init
loop-step-init g c = record { maps = none_done _ _; goes_on = omega arith }

pub do_step-requires : goal.do_step-requires
do_step-requires g c =
    callable_at commit_step_of c.args.steps.now c.loop-step.step-index c.step-item.result (search rules) c.step-item.is
    c.requires.steps

pub returns-in_err-do_step-clause-maps : goal.returns-in_err-do_step-clause-maps
returns-in_err-do_step-clause-maps g c =
    step_left (map commit_step_of c.args.steps.now) c.loop-step.step-index (commit_step_of c.step-item.result)
    (one_more commit_step_of c.args.steps.now c.loop-step.step-index c.step-item.result (search rules) c.step-item.is)
    c.loop-step.invariant.maps c.do_step.ensures.maps

pub loop-step-preserved : goal.loop-step-preserved
loop-step-preserved g c = record {
  maps = one_done (map commit_step_of c.args.steps.now) c.loop-step.step-index (commit_step_of c.step-item.result)
      (one_more commit_step_of c.args.steps.now c.loop-step.step-index c.step-item.result (search rules) c.step-item.is)
      c.loop-step.invariant.maps c.do_step.ensures.maps c.in_ok-do_step.ensures.ok;
  goes_on = omega (arith, c.loop-step.invariant.goes_on, c.do_step.ensures.goes_on);
}

pub returns-clause-maps : goal.returns-clause-maps
returns-clause-maps g c = done_front (map commit_step_of c.args.steps.now) c.loop-step.step-index
    c.loop-step.invariant.maps

pub returns-clause-ok : goal.returns-clause-ok
returns-clause-ok g c =
    done_all (map commit_step_of c.args.steps.now) c.loop-step.step-index
    (take_all c.loop-step.step-index (map commit_step_of c.args.steps.now) (search (rules, length-map)))
    c.loop-step.invariant.maps
