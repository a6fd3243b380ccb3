use Rattle.std.proofs.Common.{◌≡◌, ◌≤◌, length}
use denote.Text.{Utf8}
use denote.Shadow.{shadow}
use Rattle.std.specs.Str.{chars}
use Rattle.gob_plan.proofs.Along.{along}
use Rattle.gob_plan.proofs.like.go_along.Given as goal

-- what is left of the two goes along as the whole did
abbrev pub invariant-loop-p : goal.invariant-loop-p
invariant-loop-p l = record {
  pattern_text : shadow (Utf8 l.pattern);
  text_text : shadow (Utf8 l.text);
  same : along (chars l.pattern) (chars l.text) ≡ along (chars l.fn.pattern) (chars l.fn.text);
  shorter : length l.pattern ≤ length l.fn.pattern;
  no_longer : length l.text ≤ length l.fn.text;
}

abbrev pub decreases-loop-p : goal.decreases-loop-p
decreases-loop-p l = length l.pattern
