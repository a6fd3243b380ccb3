use Rattle.std.proofs.Common.{◌≡◌, ◌+◌, ◌≤◌, ◌<◌, All, length}
use Rattle.gob_cut.specs.Going.{Goes}
use Rattle.gob_cut.specs.Rounds.{IsCursor}
use Rattle.gob_cut.proofs.Taking.{RoundsGo}
use Rattle.gob_cut.proofs.rounds.add_rounds.Given as goal

abbrev pub invariant-loop-alloc : goal.invariant-loop-alloc
invariant-loop-alloc g l = record {
  cursors : All (IsCursor l.fn.kept) l.going.items;
  room : 0 < length l.window;
  supply : g.S.Source.supply l.source ≡ g.S.Source.supply l.fn.source;
  faults : g.S.Source.faults l.fn.source ≤ g.S.Source.faults l.source;
  planned : g.S.Source.plan_faults l.fn.source ≤ g.S.Source.plan_faults l.source;
  goes : Goes l.fn.kept l.fn.cursors.items l.going.items l.fn.units l.units;
  count : length l.units + l.left ≡ length l.fn.units + l.fn.most;
  units : RoundsGo (g.S.Source.supply l.fn.source) l.fn.kept l.fn.max l.fn.most l.fn.cursors.items l.fn.units l.left
      l.going.items l.units;
}

abbrev pub decreases-loop-alloc : goal.decreases-loop-alloc
decreases-loop-alloc g l = l.left + length l.going.items
