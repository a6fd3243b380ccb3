use Rattle.std.proofs.Common.{◌-◌, vec_len}
use Rattle.gob_io.proofs.Sorting.{Sorting}
use Rattle.gob_io.proofs.by_name.sort_by_name.Given as goal

abbrev pub invariant-loop-done : goal.invariant-loop-done
invariant-loop-done l = Sorting l.fn.parts.items l.parts.items l.done

abbrev pub decreases-loop-done : goal.decreases-loop-done
decreases-loop-done l = vec_len l.parts - l.done
