use Rattle.std.proofs.Common.{refl, ◌∙◌, ap}
use Rattle.gob_bytes.specs.Tables.{Table, with_name}
use Rattle.gob_ledger.specs.Marks.{Marks}
use Rattle.gob_marks.proofs.Rows.{Found, Missing, found-set, set_tiled, missing-insert, insert_tiled}
use Rattle.gob_marks.proofs.table.MarkTable.put.Goals as goal

pub invariant_of-self : goal.invariant_of-self
invariant_of-self c =
    let stands = rw (c.as_slice.ensures.value, c.as_str.ensures) at c.in-Ok.ensures in
    let f : Found c.self.inside.parts.items c.args.part c.in-Ok.place c.index_mut.result.now =
    record { table = c.self.invariant; stands = stands; read = c.index_mut.ensures.value } in
    set_tiled c.self.inside.parts.items c.args.part c.in-Ok.place c.index_mut.result.now c.args.marks f
    c.next-next.ensures.tiled

pub returns-in-Ok-clause-ok : goal.returns-in-Ok-clause-ok
returns-in-Ok-clause-ok c =
    let stands = rw (c.as_slice.ensures.value, c.as_str.ensures) at c.in-Ok.ensures in
    let f : Found c.self.inside.parts.items c.args.part c.in-Ok.place c.index_mut.result.now =
    record { table = c.self.invariant; stands = stands; read = c.index_mut.ensures.value } in
    found-set c.self.inside.parts.items c.args.part c.in-Ok.place c.index_mut.result.now c.args.marks f
    ∙ ap (λ (t : Table Marks). with_name t c.args.part c.args.marks) c.self.view_is

pub invariant_of-self-in-Continue-1 : goal.invariant_of-self-in-Continue-1
invariant_of-self-in-Continue-1 c =
    let goes = rw (c.as_slice.ensures.value, c.as_str.ensures) at c.in-Err.ensures in
    let m : Missing c.self.inside.parts.items c.args.part c.in-Err.place =
    record { table = c.self.invariant; goes = goes } in
    rw c.in_ok-insert-in-Err.ensures.items
    (insert_tiled c.self.inside.parts.items c.args.part c.args.part c.in-Err.place c.args.marks m refl
    c.next-next.ensures.tiled)

pub returns-in_ok-insert-in-Err-clause-ok : goal.returns-in_ok-insert-in-Err-clause-ok
returns-in_ok-insert-in-Err-clause-ok c =
    let goes = rw (c.as_slice.ensures.value, c.as_str.ensures) at c.in-Err.ensures in
    let m : Missing c.self.inside.parts.items c.args.part c.in-Err.place =
    record { table = c.self.invariant; goes = goes } in
    rw c.in_ok-insert-in-Err.ensures.items
    (missing-insert c.self.inside.parts.items c.args.part c.args.part c.in-Err.place c.args.marks m refl
    ∙ ap (λ (t : Table Marks). with_name t c.args.part c.args.marks) c.self.view_is)
