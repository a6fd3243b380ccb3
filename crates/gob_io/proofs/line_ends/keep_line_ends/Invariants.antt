use Rattle.std.proofs.Common.{◌≡◌, ◌++◌, map, take, drop}
use Rattle.gob_device.specs.Supply.{line_end_or_zero}
use Rattle.gob_io.proofs.line_ends.keep_line_ends.Given as goal

abbrev pub invariant-loop-byte : goal.invariant-loop-byte
invariant-loop-byte l = l.bytes ≡ map line_end_or_zero (take l.byte-index l.initial.bytes)
    ++ drop l.byte-index l.initial.bytes
