use Rattle.std.proofs.Common.{◌≡◌, length, min, take, ◌-◌, ◌^◌}
use Rattle.gob_bytes.specs.Escapes.{escape_of}
use Rattle.gob_text.proofs.names.escaped_len.Given as goal

abbrev pub invariant-loop-byte : goal.invariant-loop-byte
invariant-loop-byte l = l.len ≡ min (length (escape_of (take l.byte-index l.name))) (2 ^ 64 - 1)
