use Rattle.std.proofs.Common.{◌≡◌, ◌++◌, ℕ, List}
use Rattle.percent_encoding.specs.Percent.{percent_encode}
use Rattle.percent_encoding.specs.Iter.{encoded_text}
use Rattle.gob_text.specs.declared.names.TheConstants.{ESCAPED}
use Rattle.gob_text.proofs.names.is_spelled.Given as goal

abbrev pub invariant-loop-piece : goal.invariant-loop-piece
invariant-loop-piece l = (done : List ℕ) × (l.fn.text ≡ done ++ l.text)
    × (done ++ encoded_text l.piece-iterator ≡ percent_encode ESCAPED l.name)
