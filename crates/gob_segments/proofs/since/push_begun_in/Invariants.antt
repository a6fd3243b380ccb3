use Rattle.std.proofs.Common.{◌≡◌, ◌++◌, drop}
use Rattle.std.specs.List.{flat_map}
use Rattle.gob_segments.specs.Written.{begun_in}
use Rattle.gob_segments.proofs.since.push_begun_in.Given as goal

abbrev pub invariant-loop-i : goal.invariant-loop-i
invariant-loop-i l = l.into.items ++ flat_map (λ s. begun_in s l.fn.after) (drop l.i l.fn.ranges)
    ≡ l.fn.into.items ++ flat_map (λ s. begun_in s l.fn.after) l.fn.ranges
