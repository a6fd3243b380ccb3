use Rattle.std.proofs.Common.{◌≡◌, take}
use Rattle.gob_ledger.specs.UnitLaws.{new_count}
use Rattle.gob_meaning.specs.Fold.{saturate_u64}
use Rattle.gob_run.proofs.cutting.count_new.Given as goal

abbrev pub invariant-loop-unit : goal.invariant-loop-unit
invariant-loop-unit l = l.count ≡ saturate_u64 (new_count (take l.unit-index l.units))
