use Rattle.std.proofs.Common.{◌≡◌, ◌++◌, drop, length}
use Rattle.gob_turns.specs.Standing.{results_in}
use Rattle.gob_turns.proofs.course.results_of.Given as goal

abbrev pub invariant-loop-place : goal.invariant-loop-place
invariant-loop-place l = record {
  results : l.results ++ results_in (drop l.place l.states.items) ≡ results_in l.fn.states.items;
  long : length l.states.items ≡ length l.fn.states.items;
}
