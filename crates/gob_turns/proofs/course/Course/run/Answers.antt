use Rattle.std.proofs.Common.{sym}
use Rattle.gob_turns.proofs.Answering.{on_err}
use Rattle.gob_turns.proofs.Whole.{keeps_here, keeps_then, left_with, with_rules}
use Rattle.gob_turns.proofs.course.Course.run.Goals as goal

pub turns-init : goal.turns-init
turns-init g c = record {
  underway = c.requires.underway;
  keeps = keeps_here _ _;
  bench = c.requires.bench;
}

pub turns-preserved : goal.turns-preserved
turns-preserved g c = record {
  underway = with_rules c.turns.invariant.underway.by_rules
      (c.in_ok-one_turn.ensures.went _
      (with_rules (sym c.turns.invariant.underway.by_rules) c.turns.invariant.underway));
  keeps = keeps_then _ _ _ _ c.turns.invariant.keeps c.in_ok-one_turn.ensures.keeps;
  bench = c.in_ok-one_turn.ensures.bench;
}

pub returns-in_err-one_turn-clause-stopped : goal.returns-in_err-one_turn-clause-stopped
returns-in_err-one_turn-clause-stopped g c =
    on_err _ (left_with _ _ _ _ _ _ _ c.turns.invariant.underway.by_rules
    (c.in_err-one_turn.ensures.stopped _
    (with_rules (sym c.turns.invariant.underway.by_rules) c.turns.invariant.underway)))

pub returns-in_err-one_turn-clause-keeps : goal.returns-in_err-one_turn-clause-keeps
returns-in_err-one_turn-clause-keeps g c =
    keeps_then _ _ _ _ c.turns.invariant.keeps c.in_err-one_turn.ensures.keeps
