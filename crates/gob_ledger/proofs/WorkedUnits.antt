-- The tables of ranges and units, computed.
use Rattle.std.proofs.Common.{◌≡◌, ◌<◌, ◌≤◌, ℕ, zero, suc, true, refl, arith, ap, ◌∙◌, cond, nat_le, nat_lt, le-ltb}
use Rattle.percent_encoding.specs.Percent.{percent_encode_byte}
use Rattle.gob_bytes.specs.Escapes.{escape_of}
use Rattle.gob_bytes.specs.Lines.{lines_from}
use Rattle.std.proofs.lemmas.Bool.{and_right}
use Rattle.gob_ledger.proofs.Counting.{one_if}
use Rattle.gob_ledger.proofs.Ranges.{covered-is, one_in}
use Rattle.gob_ledger.specs.Marks.{Span, is_done, times_covered}
use Rattle.gob_ledger.specs.Units.{units_of_parts}
use Rattle.gob_ledger.specs.Examples.{kill_marks, span}
use Rattle.gob_ledger.specs.WorkedUnits.{WorkedRanges, WorkedCuts, WorkedPartitions, WorkedOrder, WorkedUnits}

below_two : (at : ℕ) → at < 2 → is_done at kill_marks ≡ true
below_two zero below = refl
below_two (suc zero) below = refl
below_two (suc (suc at)) below = absurd (omega (arith, below))

once : (at : ℕ) → times_covered at kill_marks ≡ cond (nat_lt at 6) 1 0
once zero = refl
once (suc zero) = refl
once (suc (suc zero)) = refl
once (suc (suc (suc zero))) = refl
once (suc (suc (suc (suc zero)))) = refl
once (suc (suc (suc (suc (suc zero))))) = refl
once (suc (suc (suc (suc (suc (suc at)))))) =
    let far : ℕ = suc (suc (suc (suc (suc (suc at))))) in
    let first : one_in far (span 0 2) ≡ 0 = behind far (span 0 2) (omega arith) in
    let second : one_in far (span 4 6) ≡ 0 = behind far (span 4 6) (omega arith) in
    let third : one_in far (span 2 4) ≡ 0 = behind far (span 2 4) (omega arith) in
    let none : one_if (nat_lt far 6) ≡ 0 = ap one_if (le-ltb far 6 (omega arith)) in
    covered-is far kill_marks ∙ omega arith
  where
    behind : (k : ℕ) (s : Span) → s.hi ≤ k → one_in k s ≡ 0
    behind k s past = ap one_if (and_right (nat_le s.lo k) (nat_lt k s.hi) (le-ltb k s.hi past))

of_ranges : WorkedRanges
of_ranges = record {
  has_offsets = refl;
  covered = refl;
  done_offsets = refl;
  all_spans = refl;
  same_spans = refl;
  touching = (omega arith, omega arith, (omega arith, omega arith, tt));
  overlapping = λ o. absurd (omega (arith, o.2.0));
  empty = λ o. absurd (omega (arith, o.1));
  watermark = record { below = below_two; here = refl };
  tiled = record {
    finished = (omega arith, omega arith, (omega arith, omega arith, tt));
    owed =
        (omega arith, omega arith, tt);
    once = once;
  };
}

of_cuts : WorkedCuts
of_cuts = record { from_start = refl; from_an_end = refl; from_behind = refl; in_a_row = refl; rounds = refl }

of_partitions : WorkedPartitions
unfolding escape_of percent_encode_byte
of_partitions = record {
  short = refl;
  kept = refl;
  too_long_names = refl;
  listed = refl;
  next = refl;
  shrunk =
      refl;
  ranges = refl;
}

of_order : WorkedOrder
unfolding units_of_parts escape_of percent_encode_byte lines_from
of_order = record { owed_first = refl; more_at_once = refl; new_of_one = refl; same_units = refl }

pub worked : WorkedUnits
worked = record { of_ranges = of_ranges; of_cuts = of_cuts; of_partitions = of_partitions; of_order = of_order }
