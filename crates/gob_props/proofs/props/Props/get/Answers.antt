use Rattle.std.proofs.Common.{ap, ◌∙◌, Some, option_map, option_copied, string_bytes}
use Rattle.gob_bytes.specs.Tables.{at_name}
use Rattle.gob_props.proofs.EntryLemmas.{view-get}
use Rattle.gob_props.proofs.props.Props.get.Goals as goal

pub returns-in_err-get : goal.returns-in_err-get
returns-in_err-get c =
    ap option_copied c.from_residual.ensures
    ∙ ap (option_map string_bytes) c.in_err-get.ensures.value
    ∙ view-get _ c.args.key.now
    ∙ ap (λ es. at_name es c.args.key.now) c.self.view_is

pub returns : goal.returns
returns c =
    ap Some c.as_str.ensures.value
    ∙ ap (option_map string_bytes) c.in_ok-get.ensures.value
    ∙ view-get _ c.args.key.now
    ∙ ap (λ es. at_name es c.args.key.now) c.self.view_is
