-- Lines of words, parted by one space.
use Rattle.std.specs.Prelude.{ℕ, List, [], ◌∷◌, ◌++◌, map}
use Rattle.std.specs.Fmt.{decimal}

-- a line of a first word and these others
abbrev pub words : List ℕ → List (List ℕ) → List ℕ
words first [] = first ++ 10 ∷ []
words first (w ∷ ws) = first ++ 32 ∷ words w ws

-- a line of a word and these numbers
abbrev pub numbered_line : List ℕ → List ℕ → List ℕ
numbered_line word numbers = words word (map decimal numbers)
