-- Before the first commit.
use Rattle.std.proofs.Common.{List, [], ◌∷◌, refl, sym}
use Rattle.std.specs.declared.option.Option.{Option}
use Rattle.gob_device.specs.Disk.{AddsMaps, Disk, Files, Rises}
use Rattle.gob_device.specs.Supply.{Held}
use Rattle.gob_device.proofs.Trail.{maps_nothing}
use Rattle.gob_plan.specs.declared.units.Unit.{Unit as WorkUnit}
use Rattle.gob_plan.specs.declared.units.UnitResult.{UnitResult}
use Rattle.gob_meaning.specs.Job.{Job}
use Rattle.gob_ledger.specs.Next.{Judged}
use Rattle.gob_segments.specs.declared.change.Loaded.{Loaded}
use Rattle.gob_commit.specs.declared.rules.CommitRules.{CommitRules}
use Rattle.gob_commit.specs.Done.{GroupsDone}
use Rattle.gob_commit.specs.Going.{CommitsAlong, GoneAlong}
use Rattle.gob_commit.specs.Staged.{HasStaged}
use Rattle.gob_commit.proofs.Doing.{nothing_first}

pub none_done : (j : Job) (held : Held) (l : Loaded) (units : List WorkUnit) (results : List UnitResult)
    (settled m : Files) → HasStaged j held l units results settled m
    → GroupsDone j held l.state settled [] settled (settled ∷ [])
none_done j held l units results settled m has =
    nothing_first j held l.state settled has.closed (has.kept, has.keeps, sym has.loaded.state)

none_gone : (j : Job) (held : Held) (l : Loaded) (units : List WorkUnit) (results : List UnitResult)
    (groups : List (List Judged)) (settled m : Files) → HasStaged j held l units results settled m
    → GoneAlong j held l.state groups settled []
unfolding Rises
none_gone j held l units results groups settled m has = record {
  before = [];
  rest = groups;
  whole = refl;
  last = settled;
  maps = settled ∷ [];
  done = none_done j held l units results settled m has;
  rises = ([], [], refl, tt, refl);
  reads = tt;
}

pub nothing_along : (rules : CommitRules) (l : Loaded) (units : List WorkUnit) (results : List UnitResult)
    (o : Option Disk) → AddsMaps (CommitsAlong rules l units results) o o
nothing_along rules l units results o =
    maps_nothing (CommitsAlong rules l units results)
    (λ m j held settled has run. none_gone j held l units results _ settled m run.has) o
