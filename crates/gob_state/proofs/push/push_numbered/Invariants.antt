use Rattle.std.proofs.Common.{◌≡◌, ◌++◌, ◌∷◌, [], drop}
use Rattle.std.specs.List.{flat_map}
use Rattle.gob_bytes.specs.Words.{numbered_line}
use Rattle.gob_state.specs.Reads.{spaced_number}
use Rattle.gob_state.proofs.push.push_numbered.Given as goal

abbrev pub invariant-loop-i : goal.invariant-loop-i
invariant-loop-i l =
    l.into.items ++ (flat_map spaced_number (drop l.i l.fn.numbers) ++ 10 ∷ []) ≡ l.fn.into.items
    ++ numbered_line l.fn.word l.fn.numbers
