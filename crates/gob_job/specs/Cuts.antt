-- Texts that are lent, and what is left of a text that is cut.
use Rattle.std.specs.Prelude.{ℕ, suc, Bool, List, [], map, length}
use Rattle.std.specs.declared.option.Option.{Option}
use Rattle.std.specs.declared.option.Option.TheVariants.{None, Some}
use denote.Ref.{Bor}
use Rattle.gob_jobs.specs.Words.{pieces}

-- the texts themselves
abbrev pub texts_of : List (Bor (List ℕ)) → List (List ℕ)
texts_of texts = map (λ t. t.now) texts

-- the pieces of what follows a separator; none without one
abbrev pub pieces_left : (ℕ → Bool) → Option (Bor (List ℕ)) → List (List ℕ)
pieces_left separates None = []
pieces_left separates (Some rest) = pieces separates rest.now

-- one more than what is left, if anything is
abbrev pub left_length : Option (Bor (List ℕ)) → ℕ
left_length None = 0
left_length (Some rest) = suc (length rest.now)
