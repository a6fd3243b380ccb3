use Rattle.std.proofs.Common.{sym, subst}
use Rattle.gob_bytes.specs.Tables.{IsInByteOrder, names_of}
use Rattle.gob_bytes.proofs.Tables.{rising-with_name}
use Rattle.gob_memory.proofs.Places.{with-changed, with-added}
use Rattle.gob_memory.proofs.table.set.Goals as goal

pub returns-in-Ok-clause-ok : goal.returns-in-Ok-clause-ok
returns-in-Ok-clause-ok g c =
    let at = rw c.as_slice.ensures.value at c.in-Ok.ensures in
    with-changed c.args.table.now.items c.args.name.now c.in-Ok.place c.index_mut.result.now c.args.value at
    c.index_mut.ensures.value

pub returns-in_default-clause-ok : goal.returns-in_default-clause-ok
returns-in_default-clause-ok g c =
    let at = rw c.as_slice.ensures.value at c.in-Err.ensures in
    rw c.in_default.ensures.items (with-added c.args.table.now.items c.args.name.now c.in_ok-name-in-Err.name
    c.args.value c.in-Err.place at c.in_ok-name-in-Err.ensures)

pub returns-in-Ok-clause-rising : goal.returns-in-Ok-clause-rising
returns-in-Ok-clause-rising g c = subst (λ t. IsInByteOrder (names_of t)) (sym (returns-in-Ok-clause-ok g c))
    (rising-with_name c.args.table.now.items c.args.name.now c.args.value c.requires)

pub returns-in_default-clause-rising : goal.returns-in_default-clause-rising
returns-in_default-clause-rising g c = subst (λ t. IsInByteOrder (names_of t)) (sym (returns-in_default-clause-ok g c))
    (rising-with_name c.args.table.now.items c.args.name.now c.args.value c.requires)
