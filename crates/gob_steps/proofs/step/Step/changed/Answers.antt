use Rattle.std.proofs.Common.{◌≡◌, [], ◌∷◌, get_or, set, option_map, None, ap, ◌∙◌}
use Rattle.gob_plan.specs.declared.rows.Value.{Value}
use Rattle.gob_plan.specs.declared.rows.Value.TheVariants as value
use Rattle.gob_plan.specs.Rows.{conforms}
use Rattle.gob_steps.specs.Changes.{value_change_of}
use Rattle.gob_steps.proofs.Making.{own_at, changing_needs, change_made, changed_done}
use Rattle.gob_steps.proofs.step.Step.changed.Goals as goal

pub with_change-requires : goal.with_change-requires
unfolding conforms
with_change-requires c =
    let s = c.args.self.now in
    (own_at s.spec s.columns s.after s.place c.args.row.values s.told (changing_needs s.spec c.requires.changes) s.own
    c.requires.conforms).below

pub returns-in-Ok-clause-ok : goal.returns-in-Ok-clause-ok
unfolding conforms
returns-in-Ok-clause-ok c =
    let s = c.args.self.now in
    let row = c.args.row in
    let at = own_at s.spec s.columns s.after s.place row.values s.told (changing_needs s.spec c.requires.changes) s.own
    c.requires.conforms in
    change_made s.spec s.columns row s.place c.requires.changes at
    ∙ changed_done (value_change_of s.spec (get_or row.values s.place value.Null)) (set row.values s.place)
    c.in-Ok.changed.values c.in-Ok.ensures.ok

pub returns-in-Err-clause-bad : goal.returns-in-Err-clause-bad
unfolding conforms
returns-in-Err-clause-bad c = λ bad.
    let s = c.args.self.now in
    let row = c.args.row in
    let at = own_at s.spec s.columns s.after s.place row.values s.told (changing_needs s.spec c.requires.changes) s.own
    c.requires.conforms in
    change_made s.spec s.columns row s.place c.requires.changes at
    ∙ ap (option_map (λ (w : Value). record { values = set row.values s.place w } ∷ [])) (c.in-Err.ensures.bad bad)
