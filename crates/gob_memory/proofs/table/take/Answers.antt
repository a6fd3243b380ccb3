use Rattle.gob_bytes.specs.Tables.{IsInByteOrder, names_of}
use Rattle.std.proofs.Common.{sym, ap, subst, ◌∙◌, Some}
use Rattle.gob_memory.proofs.Places.{value_there, rising-without, without-stands, without-absent}
use Rattle.gob_memory.proofs.table.take.Goals as goal

pub returns-in-Ok-clause-value : goal.returns-in-Ok-clause-value
returns-in-Ok-clause-value g c =
    let at = rw c.as_slice.ensures.value at c.in-Ok.ensures in
    ap (λ e. Some e.1) c.remove-value.ensures.value ∙ sym (value_there c.args.table.now.items c.args.name.now
    c.in-Ok.place c.remove-value.result c.requires at)

pub returns-in-Ok-clause-after : goal.returns-in-Ok-clause-after
returns-in-Ok-clause-after g c =
    let at = rw c.as_slice.ensures.value at c.in-Ok.ensures in
    c.remove-value.ensures.items ∙ sym (without-stands c.args.table.now.items c.args.name.now c.in-Ok.place at)

pub returns-in-Err-clause-after : goal.returns-in-Err-clause-after
returns-in-Err-clause-after g c =
    let at = rw c.as_slice.ensures.value at c.in-Err.ensures in
    sym (without-absent c.args.table.now.items c.args.name.now at.absent)

pub returns-in-Ok-clause-rising : goal.returns-in-Ok-clause-rising
returns-in-Ok-clause-rising g c = subst (λ t. IsInByteOrder (names_of t)) (sym (returns-in-Ok-clause-after g c))
    (rising-without c.args.table.now.items c.args.name.now c.requires)
