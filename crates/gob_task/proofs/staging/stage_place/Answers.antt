use Rattle.std.proofs.Common.{◌≡◌, ◌≢◌, [], true, false}
use Rattle.gob_recovery.proofs.Names.{file_pathname}
use Rattle.gob_task.proofs.Slots.{no_place_appended, place_appended}
use Rattle.gob_task.proofs.Spelled.{name_told}
use Rattle.gob_task.proofs.staging.stage_place.Goals as goal

pub returns-then-is_empty-clause-appended : goal.returns-then-is_empty-clause-appended
returns-then-is_empty-clause-appended g c =
    no_place_appended c.args.plan.now c.args.unit.now c.args.slot c.args.place.now c.args.bytes.now c.args.staged.now _
    (c.is_empty.ensures.0 c.if-is_empty.true)

pub append-requires-clause-named : goal.append-requires-clause-named
append-requires-clause-named g c =
    file_pathname c.name_at.result.now (name_told c.name_at.ensures c.in_ok-at.ensures.name c.in_ok-at.ensures.file).1

pub returns-clause-appended : goal.returns-clause-appended
returns-clause-appended g c =
    let some : c.args.bytes.now ≢ [] = λ e.
    let yes : c.is_empty.result ≡ true = c.is_empty.ensures.1 e in
    let no : c.is_empty.result ≡ false = c.if-is_empty.false in cc in
    let name = name_told c.name_at.ensures c.in_ok-at.ensures.name c.in_ok-at.ensures.file in
    place_appended c.args.plan.now c.args.unit.now c.args.slot c.args.place.now c.args.bytes.now c.name_at.result.now
    c.as_slice.result.now c.args.staged.now c.append.new.self _ _ some name.0
    c.as_slice.ensures name.1
    c.in_ok-append.ensures.begun c.in_ok-append.ensures.disk c.in_ok-append.ensures.holds
    c.in_ok-append.ensures.there
