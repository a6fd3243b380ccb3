use Rattle.std.proofs.Common.{◌∷◌, sym, ap, ◌∙◌}
use Rattle.std.specs.Str.{chars}
use Rattle.std.proofs.lemmas.Str.{chars-nil}
use Rattle.gob_props.specs.Steps.{behind_line_end}
use Rattle.gob_props.proofs.lines.after_end.Goals as goal

pub returns-in_default-clause-rest : goal.returns-in_default-clause-rest
returns-in_default-clause-rest c =
    let over = ap chars c.in_default.ensures ∙ chars-nil in
    over ∙ sym (ap behind_line_end over)

pub returns-in_default-split_first-3-clause-rest : goal.returns-in_default-split_first-3-clause-rest
returns-in_default-split_first-3-clause-rest c =
    let none = rw c.in_default-split_first.is at c.split_first-2.ensures in
    let over = ap chars none ∙ chars-nil in
    over ∙ sym (ap behind_line_end (c.in-Some.ensures.0 ∙ ap (λ l. c.in-Some.first ∷ l) over))
