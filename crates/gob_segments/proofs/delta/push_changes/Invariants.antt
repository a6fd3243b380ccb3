use Rattle.std.proofs.Common.{◌≡◌, ◌++◌, drop}
use Rattle.gob_segments.specs.Written.{changed_texts}
use Rattle.gob_segments.proofs.delta.push_changes.Given as goal

abbrev pub invariant-loop-i : goal.invariant-loop-i
invariant-loop-i l =
    l.into.items ++ changed_texts l.fn.before (drop l.i l.fn.after) ≡ l.fn.into.items
    ++ changed_texts l.fn.before l.fn.after
