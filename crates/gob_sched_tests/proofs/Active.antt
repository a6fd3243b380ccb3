-- A unit that was picked is active.
use Rattle.std.proofs.Common.{◌≡◌, ℕ, ◌%◌, List, length, take, Some}
use Rattle.std.specs.Prelude.{slice_index}
use Rattle.std.specs.List.{Contains}
use Rattle.std.proofs.lemmas.Option.{get_or_from_slice_get, slice_get_within}
use Rattle.gob_plan.specs.declared.plan.TurnRules.{TurnRules}
use Rattle.gob_ledger.specs.Counted.{whose_turn}

pub is_active : (rules : TurnRules) (k : ℕ) (left : List ℕ) (unit : ℕ) → whose_turn rules k left ≡ Some unit
    → Contains (take rules.slots left) unit
is_active rules k left unit is =
    let active : List ℕ = take rules.slots left in
    let at : ℕ = slice_index rules.schedule (k % length rules.schedule) % length active in
    (at, slice_get_within active at unit is, get_or_from_slice_get active at unit unit is)
