-- The task policies that only warn.
use Rattle.std.specs.Prelude.{ℕ, List, map, filter}
use Rattle.std.specs.List.{enumerate_from}
use Rattle.gob_meaning.specs.Results.{warns_task}
use Rattle.gob_plan.specs.declared.plan.TaskPolicy.{TaskPolicy}
use Rattle.gob_plan.specs.declared.units.Counts.{Counts}

-- the places of those that don't hold, where the first of these has this place
unfoldable pub warning_places : ℕ → List TaskPolicy → Counts → List ℕ
warning_places start policies n = map (λ p. p.0) (filter (λ p. warns_task p.1 n) (enumerate_from start policies))
