use Rattle.std.proofs.Common.{refl}
use Rattle.gob_job.specs.Drafts.{draft_from}
use Rattle.gob_job.proofs.FieldSteps.{rules_field}
use Rattle.gob_job.proofs.reading.Reading.read_value.Goals as goal

pub returns-in-Rules : goal.returns-in-Rules
returns-in-Rules c =
    rules_field c.args.field c.in-Rules.field (draft_from c.args.self.now.draft) c.args.self.now.rules _
    c.args.value.now _ c.in-Rules.is (c.read-in-Rules.ensures c.args.self.now.draft.plan refl)
