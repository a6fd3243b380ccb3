use Rattle.std.proofs.Common.{◌≡◌, ◌++◌, get_or, Some, ap, sym, ◌∙◌}
use Rattle.gob_plan.specs.declared.rows.Value.TheVariants as value
use Rattle.gob_plan.specs.Rows.{conforms}
use Rattle.gob_convert.specs.Made.{concatenation}
use Rattle.gob_steps.specs.Places.{rows_of_pieces}
use Rattle.gob_steps.proofs.Making.{needs_own, own_at, explode_step, separator_there}
use Rattle.gob_steps.proofs.step.Step.step.Goals as goal

pub push_pieces-requires-clause-within : goal.push_pieces-requires-clause-within
unfolding conforms
push_pieces-requires-clause-within c =
    let s = c.args.self.now in
    (own_at s.spec s.columns s.after s.place c.args.row.values s.told (ap needs_own c.in-Explode.is) s.own
    c.requires).below

pub push_pieces-requires-clause-some : goal.push_pieces-requires-clause-some
push_pieces-requires-clause-some c = λ empty.
    let s = c.args.self.now in
    separator_there s.spec _ c.in-Explode.separator s.columns s.after c.in-Explode.is s.told
    (sym c.as_str.ensures ∙ empty)

pub returns-in_ok-push_pieces-in-Explode-clause-ok : goal.returns-in_ok-push_pieces-in-Explode-clause-ok
unfolding conforms
returns-in_ok-push_pieces-in-Explode-clause-ok c =
    let s = c.args.self.now in
    let row = c.args.row in
    let old = c.args.rows.now.items in
    let at = own_at s.spec s.columns s.after s.place row.values s.told (ap needs_own c.in-Explode.is) s.own
    c.requires in
    ap (concatenation (Some old)) (explode_step s.spec _ c.in-Explode.separator s.columns s.place row
    c.in-Explode.is at)
    ∙ ap (λ separator. Some (old ++ rows_of_pieces separator s.place row (get_or row.values s.place value.Null)))
    (sym c.as_str.ensures)
    ∙ ap Some (sym c.in_ok-push_pieces-in-Explode.ensures.ok)
