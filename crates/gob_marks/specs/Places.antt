-- Where an offset stands among ranges in order.
use Rattle.std.specs.Prelude.{ℕ, zero, suc, cond, nat_lt, List, [], ◌∷◌}
use Rattle.gob_ledger.specs.Marks.{Span}

-- how many ranges at the front begin at this offset or before
abbrev pub begun_by : ℕ → List Span → ℕ
begun_by at [] = zero
begun_by at (s ∷ ss) = cond (nat_lt at s.lo) zero (suc (begun_by at ss))
