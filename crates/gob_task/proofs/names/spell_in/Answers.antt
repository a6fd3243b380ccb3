use Rattle.std.proofs.Common.{◌≡◌, sym, ap, subst, ◌∙◌}
use Rattle.gob_bytes.specs.Tables.{with_name}
use Rattle.gob_memory.specs.Places.{StandsAt, rank_of}
use Rattle.gob_task.specs.Task.{IsSpelled}
use Rattle.gob_task.proofs.Spelled.{spelled_with, stands_with}
use Rattle.gob_task.proofs.names.spell_in.Goals as goal

pub returns-in_ok-set-in-Err-clause-spelled : goal.returns-in_ok-set-in-Err-clause-spelled
returns-in_ok-set-in-Err-clause-spelled c =
    let table = c.args.table.now.items in
    let name = c.in_ok-name-in-Err.name in
    subst (IsSpelled c.args.plan.now c.args.unit.now c.args.slot)
    (sym (c.in_ok-set-in-Err.ensures.ok ∙ ap (λ p. with_name table p name) c.as_str-in-Err.ensures))
    (spelled_with c.args.plan.now c.args.unit.now c.args.slot table c.args.place.now name c.requires.spelled
    c.in_ok-name-in-Err.ensures.name c.in_ok-name-in-Err.ensures.spelled)

pub returns-in_ok-set-in-Err-clause-at : goal.returns-in_ok-set-in-Err-clause-at
returns-in_ok-set-in-Err-clause-at c =
    let table = c.args.table.now.items in
    let place = c.args.place.now in
    let name = c.in_ok-name-in-Err.name in
    let rank : rank_of table place ≡ c.in-Err.at =
    rw (c.as_slice.ensures.value, c.as_str.ensures) at c.in-Err.ensures.rank in
    subst (λ t. StandsAt t place c.in-Err.at)
    (sym (c.in_ok-set-in-Err.ensures.ok ∙ ap (λ p. with_name table p name) c.as_str-in-Err.ensures))
    (subst (StandsAt (with_name table place name) place) rank (stands_with table place name))
