use Rattle.std.proofs.Common.{ap, ◌∙◌, map, string_bytes}
use Rattle.gob_props.specs.Properties.{with_entry}
use Rattle.gob_props.specs.Steps.{entry_from}
use Rattle.gob_props.proofs.EntryLemmas.{view-put}
use Rattle.gob_props.proofs.props.Props.put.Goals as goal

pub returns : goal.returns
returns c =
    ap (map entry_from) c.in_ok-insert.ensures.entries
    ∙ view-put _ c.args.key c.args.value
    ∙ ap (λ es. with_entry es (string_bytes c.args.key, string_bytes c.args.value)) c.self.view_is
