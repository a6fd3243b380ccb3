use Rattle.std.proofs.Common.{◌≡◌, cond, [], ◌∷◌, Some, ap, ◌∙◌}
use Rattle.gob_steps.proofs.Making.{can_ask, where_made}
use Rattle.gob_steps.proofs.step.Step.selected.Goals as goal

pub holds_at-requires-clause-fits : goal.holds_at-requires-clause-fits
holds_at-requires-clause-fits c =
    let s = c.args.self.now in
    (can_ask s.spec c.args.test.now s.columns s.after s.place c.requires.asks s.told s.own).fits

pub holds_at-requires-clause-stands : goal.holds_at-requires-clause-stands
holds_at-requires-clause-stands c =
    let s = c.args.self.now in
    (can_ask s.spec c.args.test.now s.columns s.after s.place c.requires.asks s.told s.own).stands

pub returns-then-holds_at : goal.returns-then-holds_at
returns-then-holds_at c =
    let s = c.args.self.now in
    let row = c.args.row in
    where_made s.spec c.args.test.now s.columns row c.holds_at.result c.requires.asks c.holds_at.ensures
    ∙ ap (λ b. Some (cond b (row ∷ []) [])) c.if-holds_at.true

pub returns-else-holds_at : goal.returns-else-holds_at
returns-else-holds_at c =
    let s = c.args.self.now in
    let row = c.args.row in
    where_made s.spec c.args.test.now s.columns row c.holds_at.result c.requires.asks c.holds_at.ensures
    ∙ ap (λ b. Some (cond b (row ∷ []) [])) c.if-holds_at.false
