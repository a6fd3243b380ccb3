use Rattle.gob_stage.proofs.Maps.{appended_only, created_only, made_only, there_created}
use Rattle.gob_stage.proofs.attempt.make_file.Goals as goal

pub append-requires-clause-there : goal.append-requires-clause-there
append-requires-clause-there g c = there_created c.args.name.now _ _ c.in_ok-create.ensures.change.ok

pub returns-in_err-create-clause-only : goal.returns-in_err-create-clause-only
returns-in_err-create-clause-only g c = created_only c.args.name.now c.create.ensures.change

pub returns-in_err-append-clause-only : goal.returns-in_err-append-clause-only
returns-in_err-append-clause-only g c =
    made_only c.args.name.now (created_only c.args.name.now c.create.ensures.change)
    (appended_only c.args.name.now c.args.bytes.now c.append.ensures.change)

pub returns-clause-only : goal.returns-clause-only
returns-clause-only g c =
    made_only c.args.name.now (created_only c.args.name.now c.create.ensures.change)
    (appended_only c.args.name.now c.args.bytes.now c.append.ensures.change)
