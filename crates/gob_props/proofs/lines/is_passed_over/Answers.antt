use Rattle.std.proofs.Common.{sym, ap, ◌∙◌}
use Rattle.std.specs.Str.{chars}
use Rattle.std.proofs.lemmas.Str.{chars-nil}
use Rattle.gob_props.specs.Properties.{is_comment}
use Rattle.gob_props.proofs.lines.is_passed_over.Goals as goal

pub returns-in-None : goal.returns-in-None
returns-in-None c = sym (ap is_comment (sym c.trimmed.ensures ∙ ap chars c.in-None.ensures ∙ chars-nil))
