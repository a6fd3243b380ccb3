use Rattle.std.proofs.Common.{◌≡◌, ◌-◌, ◌++◌}
use Rattle.gob_text_tests.specs.Samples.{divisors_from}
use Rattle.gob_text_tests.proofs.conversions.DivisorsConvert.convert.Given as goal

-- those found, and those that are still to come
abbrev pub invariant-loop-k : goal.invariant-loop-k
invariant-loop-k l = l.made.items ++ divisors_from l.rec l.k (l.rec - l.k) ≡ divisors_from l.rec 1 (l.rec - 1)
