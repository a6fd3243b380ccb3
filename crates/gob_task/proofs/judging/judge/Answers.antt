use Rattle.std.proofs.Common.{◌≡◌, None, Some, sym, ◌∙◌, arith}
use Rattle.std.specs.List.{enumerate_from}
use Rattle.gob_meaning.specs.Results.{first_failing, warnings_of}
use Rattle.gob_task.proofs.Ends.{IsThrough, judged_by_policies, judged_stopped, judged_torn}
use Rattle.gob_task.proofs.judging.judge.Goals as goal

pub returns-in-Some : goal.returns-in-Some
returns-in-Some c = judged_stopped c.args.plan.now c.args.unit.now c.args.machine.now c.in-Some.cause c.requires.listed
    c.requires.lo (sym c.in-Some.ensures)

pub returns-then-torn : goal.returns-then-torn
returns-then-torn c =
    let through : IsThrough c.args.unit.now c.args.machine.now = record {
      listed = c.requires.listed;
      bytes = c.requires.bytes;
      lo = c.requires.lo;
      goes_on = sym c.in_default.ensures;
      all = omega (arith, c.if-seen-unit.false, c.seen.ensures);
    } in
    judged_torn c.args.plan.now c.args.unit.now c.args.machine.now through (sym c.torn.ensures ∙ c.if-torn.true)

pub returns-in-Bad : goal.returns-in-Bad
returns-in-Bad c =
    let through : IsThrough c.args.unit.now c.args.machine.now = record {
      listed = c.requires.listed;
      bytes = c.requires.bytes;
      lo = c.requires.lo;
      goes_on = sym c.in_default.ensures;
      all = omega (arith, c.if-seen-unit.false, c.seen.ensures);
    } in
    let first : Some c.in-Bad.index
    ≡ first_failing (enumerate_from 0 c.args.plan.now.task_policies) c.args.machine.now.counts =
    rw c.counts.ensures at (rw c.as_slice.ensures at c.in-Bad.ensures.verdict) in
    judged_by_policies c.args.plan.now c.args.unit.now c.args.machine.now (Some c.in-Bad.index) through
    (sym c.torn.ensures ∙ c.if-torn.false) (sym first)

pub returns-in-Good : goal.returns-in-Good
returns-in-Good c =
    let through : IsThrough c.args.unit.now c.args.machine.now = record {
      listed = c.requires.listed;
      bytes = c.requires.bytes;
      lo = c.requires.lo;
      goes_on = sym c.in_default.ensures;
      all = omega (arith, c.if-seen-unit.false, c.seen.ensures);
    } in
    let first : None ≡ first_failing (enumerate_from 0 c.args.plan.now.task_policies) c.args.machine.now.counts =
    rw c.counts.ensures at (rw c.as_slice.ensures at c.in-Good.ensures.verdict) in
    λ fed was. (
      c.args.machine.now.counts,
      warnings_of c.args.plan.now.task_policies c.args.machine.now.counts,
      judged_by_policies c.args.plan.now c.args.unit.now c.args.machine.now None through
          (sym c.torn.ensures ∙ c.if-torn.false) (sym first) fed was,
    )
