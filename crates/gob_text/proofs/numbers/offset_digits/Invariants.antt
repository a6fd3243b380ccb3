use Rattle.std.proofs.Common.{◌≡◌, ◌++◌, drop, length}
use Rattle.gob_bytes.specs.Digits.{padded_digits}
use Rattle.gob_text.proofs.numbers.offset_digits.Given as goal

abbrev pub invariant-loop-i : goal.invariant-loop-i
invariant-loop-i l = (length l.digits ≡ 20) × (padded_digits l.i l.n ++ drop l.i l.digits ≡ padded_digits 20 l.fn.n)
