-- What turns work with.
use Rattle.std.specs.Prelude.{◌≡◌, ℕ, ◌+◌, ◌*◌, length}
use Rattle.gob_task.specs.Turn.{TurnRulesValue}

-- how many bytes one pull can give, and how many slots the buffers of targets have
pub record BenchValue : Type 0 where
  pub piece : ℕ
  pub slots : ℕ

-- it is made for these rules
pub record FitsBench (rules : TurnRulesValue) (bench : BenchValue) : Type 0 where
  pub piece : bench.piece ≡ rules.piece
  pub slots : bench.slots ≡ 2 * length rules.plan.branches + 1
