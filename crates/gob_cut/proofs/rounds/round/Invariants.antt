use Rattle.std.proofs.Common.{◌≡◌, ◌≤◌, ◌<◌, ◌+◌, ◌++◌, All, drop, length}
use Rattle.gob_cut.specs.Going.{Goes}
use Rattle.gob_cut.specs.Rounds.{IsCursor}
use Rattle.gob_cut.proofs.Taking.{TakesRounds}
use Rattle.gob_cut.proofs.rounds.round.Given as goal

abbrev pub invariant-loop-cursor : goal.invariant-loop-cursor
invariant-loop-cursor g l = record {
  few : length l.going.items ≤ l.fn.most;
  cursors : All (IsCursor l.fn.kept) l.going.items;
  room : 0 < length l.window;
  supply : g.S.Source.supply l.source ≡ g.S.Source.supply l.fn.source;
  faults : g.S.Source.faults l.fn.source ≤ g.S.Source.faults l.source;
  planned : g.S.Source.plan_faults l.fn.source ≤ g.S.Source.plan_faults l.source;
  goes : Goes l.fn.kept l.fn.cursors (l.going.items ++ drop l.cursor-index l.fn.cursors) l.fn.units l.units;
  count : length l.units ≡ length l.fn.units + length l.going.items;
  units : TakesRounds (g.S.Source.supply l.fn.source) l.fn.kept l.fn.max l.fn.most l.fn.cursors l.going.items
      (drop l.cursor-index l.fn.cursors) l.fn.units l.units;
}
