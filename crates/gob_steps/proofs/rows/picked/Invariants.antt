use Rattle.std.proofs.Common.{◌≡◌, ◌++◌, true, length, drop}
use Rattle.std.specs.List.{list_all}
use Rattle.gob_steps.specs.Places.{are_apart, is_below, values_at}
use Rattle.gob_steps.proofs.rows.picked.Given as goal

-- the values that are left stand where they stood
abbrev pub invariant-loop-place : goal.invariant-loop-place
invariant-loop-place l = record {
  long : length l.values.items ≡ length l.fn.row.values;
  below : list_all (is_below (length l.values.items)) (drop l.place-index l.places) ≡ true;
  apart : are_apart (drop l.place-index l.places) ≡ true;
  left : l.picked ++ values_at (drop l.place-index l.places) l.values.items ≡ values_at l.places l.fn.row.values;
}
