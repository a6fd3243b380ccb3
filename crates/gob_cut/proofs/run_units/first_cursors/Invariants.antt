use Rattle.std.proofs.Common.{◌≡◌, ◌<◌, ◌++◌, ℕ, All, drop}
use Rattle.std.specs.List.{AllByRecursion}
use Rattle.gob_device.specs.Supply.{Held}
use Rattle.gob_ledger.specs.Units.{next_of}
use Rattle.gob_cut.specs.Going.{BeginsAt, PlacesRise}
use Rattle.gob_cut.specs.Rounds.{AreSized, IsCursor, all_cuts_of, all_rounds, lists_of}
use Rattle.gob_cut.proofs.run_units.first_cursors.Given as goal

abbrev pub invariant-loop-place : goal.invariant-loop-place
invariant-loop-place l = record {
  cursors : All (IsCursor l.kept) l.cursors.items;
  apart : PlacesRise 0 l.cursors.items;
  below : AllByRecursion (λ c. c.place < l.place) l.cursors.items;
  begins : AllByRecursion (BeginsAt l.kept (next_of l.marks)) l.cursors.items;
  cuts : (held : Held) (max : ℕ) → AreSized held l.kept
      → all_rounds (lists_of held max l.kept l.cursors.items ++ all_cuts_of held l.marks max (drop l.place l.kept)) ≡
      all_rounds (all_cuts_of held l.marks max l.kept);
}
