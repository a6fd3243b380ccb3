use Rattle.std.proofs.Common.{◌≡◌, ◌+◌, drop}
use Rattle.std.specs.List.{position_or_len}
use Rattle.std.specs.Str.{bytes_eq}
use Rattle.gob_state.proofs.next.place_of.Given as goal

abbrev pub invariant-loop-i : goal.invariant-loop-i
invariant-loop-i l =
    position_or_len (bytes_eq l.fn.pipeline) l.fn.pipelines ≡ l.i + position_or_len (bytes_eq l.fn.pipeline)
    (drop l.i l.fn.pipelines)
