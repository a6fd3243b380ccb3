use Rattle.std.proofs.Common.{◌≡◌, ◌++◌, drop}
use Rattle.gob_ledger.specs.Spelling.{parts_text, version_2}
use Rattle.gob_state.proofs.push.push_parts.Given as goal

abbrev pub invariant-loop-i : goal.invariant-loop-i
invariant-loop-i l =
    l.into.items ++ parts_text version_2 (drop l.i l.fn.marks) ≡ l.fn.into.items ++ parts_text version_2 l.fn.marks
