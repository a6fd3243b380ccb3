use Rattle.std.proofs.Common.{sym, subst, IfSome, IsSome}
use Rattle.std.specs.declared.option.Option.{Option}
use Rattle.gob_device.specs.Disk.{Disk, OnlyAt}
use Rattle.gob_device.proofs.Trail.{along_then}
use Rattle.gob_device.proofs.Only.{only_at_then}
use Rattle.gob_seq.proofs.Written.{appended_only, created_only, synced_only, there_appended, there_created}
use Rattle.gob_seq.proofs.commits.write_file.Goals as goal

pub append-requires-clause-there : goal.append-requires-clause-there
append-requires-clause-there g c =
    subst (λ (o : Option Disk). IfSome o (λ d. IsSome (d.files c.args.name.now))) (sym c.in_ok-create.ensures.change.ok)
    (there_created _ c.args.name.now)

pub sync-requires-clause-there : goal.sync-requires-clause-there
sync-requires-clause-there g c =
    let There : Option Disk → Type 0 = λ o. IfSome o (λ d. IsSome (d.files c.args.name.now)) in
    subst There (sym c.in_ok-append.ensures.change.ok)
    (there_appended _ c.args.name.now c.args.bytes.now
    (subst There (sym c.in_ok-create.ensures.change.ok) (there_created _ c.args.name.now)))

pub returns-in_err-create-clause-only : goal.returns-in_err-create-clause-only
returns-in_err-create-clause-only g c = created_only c.args.name.now c.create.ensures.change

pub returns-in_err-append-clause-only : goal.returns-in_err-append-clause-only
returns-in_err-append-clause-only g c =
    along_then (OnlyAt c.args.name.now) (only_at_then c.args.name.now)
    (created_only c.args.name.now c.create.ensures.change)
    (appended_only c.args.name.now c.args.bytes.now c.append.ensures.change)

pub returns-in_err-sync-clause-only : goal.returns-in_err-sync-clause-only
returns-in_err-sync-clause-only g c =
    let name = c.args.name.now in
    along_then (OnlyAt name) (only_at_then name)
    (along_then (OnlyAt name) (only_at_then name) (created_only name c.create.ensures.change)
    (appended_only name c.args.bytes.now c.append.ensures.change))
    (synced_only name c.sync.ensures.change)

pub returns-clause-only : goal.returns-clause-only
returns-clause-only g c =
    let name = c.args.name.now in
    along_then (OnlyAt name) (only_at_then name)
    (along_then (OnlyAt name) (only_at_then name) (created_only name c.create.ensures.change)
    (appended_only name c.args.bytes.now c.append.ensures.change))
    (synced_only name c.sync.ensures.change)
