-- What is known of a pattern and a text once their fronts were held against each other.
use Rattle.std.specs.Prelude.{◌≡◌, ◌<◌, ◌≤◌, ℕ, List, ◌∷◌, length}
use Rattle.std.specs.Str.{chars}
use Rattle.gob_plan.specs.declared.like.Front.{Front}
use Rattle.gob_plan.specs.declared.like.Front.TheVariants.{Star, Ended}
use Rattle.gob_plan.specs.Tests.{matches}

-- the pattern matches the text exactly where this is so
pub record Continues (pattern text after rest : List ℕ) : Type 0 where
  -- the whole text
  pub whole : matches (chars pattern) (chars text) ≡ matches (42 ∷ chars after) (chars rest)
  -- some ending of the text
  pub ending : matches (42 ∷ chars pattern) (chars text) ≡ matches (42 ∷ chars after) (chars rest)
  pub shorter : length after < length pattern
  pub no_longer : length rest ≤ length text

-- up to a star, which then decides for the whole text and for its endings alike, or to an answer
abbrev pub GoesAlong : List ℕ → List ℕ → Front → Type 0
GoesAlong pattern text (Star after rest) = Continues pattern text after.now rest.now
GoesAlong pattern text (Ended b) = matches (chars pattern) (chars text) ≡ b
