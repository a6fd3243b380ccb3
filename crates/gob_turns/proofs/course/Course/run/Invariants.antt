use Rattle.gob_task.specs.Bench.{FitsBench}
use Rattle.gob_task.specs.Turn.{Devices}
use Rattle.gob_turns.specs.OneTurn.{devices}
use Rattle.gob_turns.specs.Standing.{all_ahead}
use Rattle.gob_turns.specs.Underway.{AreUnderway, KeepsAll}
use Rattle.gob_turns.proofs.course.Course.run.Given as goal

abbrev pub invariant-turns : goal.invariant-turns
invariant-turns g l =
    let first : Devices = devices (g.S.Source.supply l.initial.source) (g.S.Source.faults l.initial.source)
    (g.S.Source.plan_faults l.initial.source) (g.V.Volume.disk l.initial.volume) (g.V.Volume.faults l.initial.volume) in
    let now : Devices = devices (g.S.Source.supply l.source) (g.S.Source.faults l.source)
    (g.S.Source.plan_faults l.source) (g.V.Volume.disk l.volume) (g.V.Volume.faults l.volume) in
    record {
      underway : AreUnderway l.rules l.initial.self.core.rules l.units l.self.listed.items l.self.states.items
          l.self.core
          l.self.turn l.failed first now;
      keeps : KeepsAll l.rules.job first now;
      bench : FitsBench l.rules l.self.bench;
    }

abbrev pub decreases-turns : goal.decreases-turns
decreases-turns g l = all_ahead l.rules.max_retries l.units l.self.states.items
