-- Units that are added while cursors go on.
use Rattle.std.specs.Prelude.{◌≡◌, ℕ, ◌+◌, ◌≤◌, List, [], ◌∷◌, ◌++◌, All}
use Rattle.std.specs.List.{AllByRecursion}
use Rattle.gob_bytes.specs.Tables.{Table}
use Rattle.gob_plan.specs.declared.units.Unit.{Unit as WorkUnit}
use Rattle.gob_ledger.specs.Units.{AreAdjacentFrom, fresh_in}
use Rattle.gob_cut.specs.declared.rounds.Cursor.{Cursor}
use Rattle.gob_cut.specs.Rounds.{IsCursor, part_at}
use Rattle.gob_cut.specs.Units.{IsNewUnit}

-- where units that follow each other end
abbrev pub end_from : ℕ → List WorkUnit → ℕ
end_from from [] = from
end_from from (u ∷ us) = end_from u.hi us

-- where each partition goes on behind these units
abbrev pub ends_of : (List ℕ → ℕ) → List WorkUnit → List ℕ → ℕ
ends_of from added part = end_from (from part) (fresh_in part added)

-- each place is above the one before
abbrev pub PlacesRise : ℕ → List Cursor → Type 0
PlacesRise low [] = Unit {0}
PlacesRise low (c ∷ cs) = (low ≤ c.place) × PlacesRise (c.place + 1) cs

-- the cursor stands where its partition goes on
abbrev pub BeginsAt : Table ℕ → (List ℕ → ℕ) → Cursor → Type 0
BeginsAt kept from c = c.at ≡ from (part_at kept c.place)

-- in each partition units follow each other, and its cursor stands at their end
pub record Follows (kept : Table ℕ) (from : List ℕ → ℕ) (added : List WorkUnit) (going : List Cursor) : Type 0 where
  pub adjacent : (part : List ℕ) → AreAdjacentFrom (from part) (fresh_in part added)
  pub ends : AllByRecursion (BeginsAt kept (ends_of from added)) going

-- new units are added, and of the first cursors these go on behind them
pub record Goes (kept : Table ℕ) (first going : List Cursor) (before after : List WorkUnit) : Type 0 where
  pub added : List WorkUnit
  pub are : after ≡ before ++ added
  pub each : All (IsNewUnit kept) added
  pub there : AllByRecursion (IsCursor kept) going
  pub rise : PlacesRise 0 going
  pub follow : (from : List ℕ → ℕ) → AllByRecursion (BeginsAt kept from) first → Follows kept from added going
