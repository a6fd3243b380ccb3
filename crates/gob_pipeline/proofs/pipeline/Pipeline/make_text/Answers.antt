use Rattle.std.proofs.Common.{◌≡◌, rules, ◌∙◌}
use Rattle.gob_convert.specs.declared.convert.ConvertFault.TheVariants.{Bad}
use Rattle.gob_pipeline.specs.Making.{BadText}
use Rattle.gob_pipeline.proofs.Making.{bad_here, made_here, sent_conform}
use Rattle.gob_pipeline.proofs.pipeline.Pipeline.make_text.Goals as goal

pub push_rows-requires : goal.push_rows-requires
push_rows-requires c =
    sent_conform c.self.inside.plan c.args.self.now c.self.inside.routes c.args.text.now c.in_ok-rows.rows.items
    c.self.view_is c.self.invariant.0 c.self.invariant.4 c.in_ok-rows.ensures.ok

pub returns-in_err-unrouted-clause-bad : goal.returns-in_err-unrouted-clause-bad
returns-in_err-unrouted-clause-bad c =
    let bad : c.in_err-unrouted.field-0.0 ≡ Bad → BadText c.args.self.now c.args.text.now = λ is_bad.
    bad_here c.self.inside.plan c.args.self.now c.self.inside.routes c.args.text.now c.in_ok-rows.rows.items
    c.args.workspace.now.items c.self.view_is c.self.invariant.4 c.requires c.in_ok-rows.ensures.ok
    (c.in_err-unrouted.ensures.bad is_bad) in
    search (rules, bad)

pub returns-clause-ok : goal.returns-clause-ok
returns-clause-ok c =
    made_here c.self.inside.plan c.args.self.now c.self.inside.routes c.args.text.now c.in_ok-rows.rows.items
    c.args.workspace.now.items c.push_rows.new.items c.len-count.result c.in_ok-unrouted.unrouted c.self.view_is
    c.self.invariant.4 c.requires c.in_ok-rows.ensures.ok c.in_ok-unrouted.ensures.ok
    (c.len-count.ensures ∙ c.in_ok-rows.rows.ok.0) c.in_ok-unrouted.ensures.unrouted
