use Rattle.std.proofs.Common.{sym, subst, map, List}
use Rattle.gob_commit.specs.Groups.{ArePlaces}
use Rattle.gob_commit.proofs.Placing.{Places, placed}
use Rattle.gob_commit.proofs.places.places_by_dataset.Goals as goal

pub returns : goal.returns
returns c =
    subst (λ (gs : List Places). ArePlaces c.args.units.now (map (λ (p : Places). p.items) gs))
    (sym c.in_ok-groups.ensures) (placed c.args.units.now c.in_ok-datasets.datasets c.in_ok-datasets.ensures)
