use Rattle.std.proofs.Common.{◌≡◌, ◌≤◌, ◌<◌, length}
use Rattle.gob_cut.proofs.Looks.{LastUpTo}
use Rattle.gob_cut.proofs.ends.last_end.Given as goal

abbrev pub invariant-loop-end : goal.invariant-loop-end
invariant-loop-end g l = record {
  low : l.fn.lo ≤ l.end;
  high : l.end ≤ l.fn.hi;
  room : 0 < length l.window;
  supply : g.S.Source.supply l.source ≡ g.S.Source.supply l.fn.source;
  faults : g.S.Source.faults l.fn.source ≤ g.S.Source.faults l.source;
  planned : g.S.Source.plan_faults l.fn.source ≤ g.S.Source.plan_faults l.source;
  ends : LastUpTo (g.S.Source.supply l.fn.source) l.fn.part l.fn.lo l.fn.hi l.end;
}

abbrev pub decreases-loop-end : goal.decreases-loop-end
decreases-loop-end g l = l.end
