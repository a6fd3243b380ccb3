use Rattle.std.proofs.Common.{◌≡◌, ◌+◌, false, drop}
use Rattle.gob_props.specs.Properties.{key_length}
use Rattle.gob_props.proofs.entry.key_length.Given as goal

abbrev pub invariant-loop-i : goal.invariant-loop-i
invariant-loop-i l = key_length false l.text ≡ l.i + key_length l.escaped (drop l.i l.text)
