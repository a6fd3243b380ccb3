use Rattle.std.proofs.Common.{◌≡◌, ◌-◌, ◌+◌, map}
use Rattle.std.specs.List.{range_with_len}
use Rattle.gob_bytes.specs.Paths.{delta_name}
use Rattle.gob_segments.proofs.change.earlier_changes.Given as goal

abbrev pub invariant-loop-i : goal.invariant-loop-i
invariant-loop-i l = l.names ≡ map (delta_name l.fn.job) (range_with_len (l.fn.run + 1 - l.fn.deltas) l.i)
