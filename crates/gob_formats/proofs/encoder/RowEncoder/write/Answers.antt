use Rattle.std.proofs.Common.{◌∷◌, ◌++◌, Some, List, sym, ap, ap₂, ◌∙◌}
use Rattle.gob_convert.specs.Made.{concatenation}
use Rattle.gob_plan.specs.declared.plan.Format.{Format}
use Rattle.gob_plan.specs.declared.rows.Value.{Value}
use Rattle.gob_meaning.specs.Formats.{record_of}
use Rattle.gob_formats.specs.declared.json_write.Member.{Member}
use Rattle.gob_formats.specs.Members.{members_written}
use Rattle.gob_formats.proofs.Spelled.{record_spelled, as_many_values}
use Rattle.gob_formats.proofs.encoder.RowEncoder.write.Goals as goal

pub returns-in_ok-write_object-in-Json-clause-ok : goal.returns-in_ok-write_object-in-Json-clause-ok
unfolding record_of
returns-in_ok-write_object-in-Json-clause-ok c =
    let e = c.args.self.now in
    let old = c.args.into.now.items in
    let row = c.args.row.now in
    ap (λ (f : Format). concatenation (Some old) (record_of f e.columns row)) c.in-Json.is
    ∙ ap (λ t. Some t) (sym (c.in_ok-write_object-in-Json.ensures.ok
    ∙ ap (λ t. old ++ t) (ap₂ (λ (ms : List Member) (vs : List Value). 123 ∷ members_written ms vs)
    (c.as_slice-members.ensures ∙ e.spelled) c.as_slice-values.ensures
    ∙ record_spelled e.columns row.values (as_many_values e.columns row c.requires))))
