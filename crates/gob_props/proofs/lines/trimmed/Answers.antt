use Rattle.std.proofs.Common.{sym, ap, ◌∙◌}
use Rattle.std.specs.Str.{chars}
use Rattle.std.proofs.lemmas.Str.{chars-nil}
use Rattle.gob_props.specs.Properties.{without_white_space}
use Rattle.gob_props.proofs.lines.trimmed.Goals as goal

pub returns : goal.returns
returns c =
    let over = ap chars c.in_default.ensures ∙ chars-nil in
    over ∙ sym (c.loop-first.invariant.1 ∙ ap without_white_space over)
