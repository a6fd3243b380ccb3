use Rattle.gob_pipeline.proofs.Making.{decoded, decoded_conform, kept}
use Rattle.gob_pipeline.proofs.pipeline.Pipeline.rows_of_text.Goals as goal

pub returns-then-is_empty-clause-ok : goal.returns-then-is_empty-clause-ok
returns-then-is_empty-clause-ok c =
    let own = c.self.inside.plan in
    let rows = c.decode.new.rows.items in
    kept own c.args.self.now c.self.inside.chain c.args.text.now rows c.self.view_is c.self.invariant.3
    (c.is_empty.ensures.0 c.if-is_empty.true)
    (decoded own c.self.inside.decoder.format c.self.inside.decoder.columns c.args.text.now c.new-rows.result.items rows
    c.self.invariant.1 c.self.invariant.2 c.new-rows.ensures.items c.in_ok-decode.ensures.ok)

pub through_steps-requires : goal.through_steps-requires
through_steps-requires c =
    let own = c.self.inside.plan in
    let rows = c.decode.new.rows.items in
    decoded_conform own c.self.inside.chain c.args.text.now rows c.self.invariant.0 c.self.invariant.3
    (decoded own c.self.inside.decoder.format c.self.inside.decoder.columns c.args.text.now c.new-rows.result.items rows
    c.self.invariant.1 c.self.invariant.2 c.new-rows.ensures.items c.in_ok-decode.ensures.ok)
