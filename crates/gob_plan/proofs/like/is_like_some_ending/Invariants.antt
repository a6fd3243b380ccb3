use Rattle.std.proofs.Common.{◌≡◌, ◌+◌, ◌∷◌, length}
use denote.Text.{Utf8}
use denote.Shadow.{shadow}
use Rattle.std.specs.Str.{chars}
use Rattle.gob_plan.specs.Tests.{matches}
use Rattle.gob_plan.proofs.like.is_like_some_ending.Given as goal

-- what is left of the two has such an ending exactly where the whole had one
abbrev pub invariant-loop-after : goal.invariant-loop-after
invariant-loop-after l = record {
  pattern_text : shadow (Utf8 l.pattern);
  text_text : shadow (Utf8 l.text);
  same : matches (42 ∷ chars l.pattern) (chars l.text) ≡ matches (42 ∷ chars l.fn.pattern) (chars l.fn.text);
}

abbrev pub decreases-loop-after : goal.decreases-loop-after
decreases-loop-after l = length l.pattern + length l.text
