use Rattle.std.proofs.Common.{◌≡◌, ◌≤◌, ◌++◌, drop, length}
use Rattle.gob_turns.specs.Course.{listed_from}
use Rattle.gob_turns.proofs.course.listed_places.Given as goal

abbrev pub invariant-loop-place : goal.invariant-loop-place
invariant-loop-place l = record {
  places : l.places.items ++ listed_from l.place (drop l.place l.units) ≡ listed_from 0 l.units;
  few : length l.places.items ≤ l.place;
}
