use Rattle.std.proofs.Common.{◌≡◌, ◌++◌, take}
use Rattle.gob_cut.specs.Rounds.{owed_units_of}
use Rattle.gob_cut.proofs.owed.add_owed.Given as goal

abbrev pub invariant-loop-place : goal.invariant-loop-place
invariant-loop-place l = l.units ≡ l.initial.units ++ owed_units_of l.kept (take l.place l.marks)
