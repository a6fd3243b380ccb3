use Rattle.std.proofs.Common.{◌≡◌, length}
use denote.Text.{Utf8}
use denote.Shadow.{shadow}
use Rattle.std.specs.Str.{chars}
use Rattle.gob_props.specs.Properties.{without_white_space}
use Rattle.gob_props.proofs.lines.trimmed.Given as goal

abbrev pub invariant-loop-first : goal.invariant-loop-first
invariant-loop-first l = shadow (Utf8 l.left) × (without_white_space (chars l.text) ≡ without_white_space
    (chars l.left))

abbrev pub decreases-loop-first : goal.decreases-loop-first
decreases-loop-first l = length l.left
