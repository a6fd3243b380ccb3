use Rattle.std.proofs.Common.{sym, ◌∙◌}
use Rattle.gob_pipeline.proofs.Making.{header_makes, text_is_made}
use Rattle.gob_pipeline.proofs.pipeline.Pipeline.make_line.Goals as goal

pub returns-then-is_header-clause-made : goal.returns-then-is_header-clause-made
returns-then-is_header-clause-made c =
    header_makes c.args.self.now c.args.offset c.args.raw.now (sym c.is_header.ensures ∙ c.if-is_header.true)

pub returns-in-Ok-clause-made : goal.returns-in-Ok-clause-made
returns-in-Ok-clause-made c =
    text_is_made c.args.self.now c.args.offset c.args.raw.now c.text_of.result.now _
    (sym c.is_header.ensures ∙ c.if-is_header.false) c.text_of.ensures (c.in-Ok.ensures.ok c.args.raw.now)

pub returns-in-Err-Bad-clause-made : goal.returns-in-Err-Bad-clause-made
returns-in-Err-Bad-clause-made c =
    text_is_made c.args.self.now c.args.offset c.args.raw.now c.text_of.result.now _
    (sym c.is_header.ensures ∙ c.if-is_header.false) c.text_of.ensures
    (c.in-Err-Bad.ensures.bad c.in-Err-Bad.field-0-is c.args.raw.now)
