use Rattle.std.proofs.Common.{◌≡◌, ◌≤◌, ◌<◌, ◌-◌, length}
use Rattle.gob_cut.proofs.Looks.{FirstFrom}
use Rattle.gob_cut.proofs.ends.first_end.Given as goal

abbrev pub invariant-loop-at : goal.invariant-loop-at
invariant-loop-at g l = record {
  low : l.fn.lo ≤ l.at;
  high : l.at ≤ l.fn.size;
  room : 0 < length l.window;
  supply : g.S.Source.supply l.source ≡ g.S.Source.supply l.fn.source;
  faults : g.S.Source.faults l.fn.source ≤ g.S.Source.faults l.source;
  planned : g.S.Source.plan_faults l.fn.source ≤ g.S.Source.plan_faults l.source;
  firsts : FirstFrom (g.S.Source.supply l.fn.source) l.fn.part l.fn.size l.fn.lo l.at;
}

abbrev pub decreases-loop-at : goal.decreases-loop-at
decreases-loop-at g l = l.fn.size - l.at
