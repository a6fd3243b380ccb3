use Rattle.std.proofs.Common.{◌≡◌, ◌++◌, ℕ, List}
use Rattle.percent_encoding.specs.Percent.{percent_encode}
use Rattle.percent_encoding.specs.Iter.{encoded_text}
use Rattle.gob_text.specs.declared.names.TheConstants.{ESCAPED}
use Rattle.gob_text.proofs.names.push_escaped.Given as goal

abbrev pub invariant-loop-piece : goal.invariant-loop-piece
invariant-loop-piece l = (done : List ℕ) × (l.into.items ≡ l.fn.into.items ++ done)
    × (done ++ encoded_text l.piece-iterator ≡ percent_encode ESCAPED l.name)
