use Rattle.std.proofs.Common.{◌≡◌, ◌<◌, ap, sym, subst, ◌∙◌, arith, List, ℕ}
use Rattle.std.specs.List.{insert}
use Rattle.std.proofs.Math.ListN.{set}
use Rattle.gob_bytes.specs.Tables.{Table}
use Rattle.gob_ledger.specs.Marks.{Marks}
use Rattle.gob_ledger.specs.Next.{no_marks, with_owed}
use Rattle.gob_marks.specs.Changed.{change_marks, marks_in, next_span}
use Rattle.gob_marks.proofs.Rows.{Found, Missing, found-marks, missing-marks, set-changed, set_open, insert_tiled}
use Rattle.gob_marks.proofs.Rows.{insert-changed, first_open}
use Rattle.gob_marks.proofs.table.MarkTable.add_open.Goals as goal

-- what the call leaves where the partition is there, and where it isn't
changed_there : (t now : Table Marks) (part : List ℕ) (i : ℕ) (e : List ℕ × Marks) (x : Marks) (hi : ℕ) → t ≡ now
    → Found t part i e → x ≡ with_owed (next_span e.1 hi) e.1
    → set t i (e.0, x) ≡ change_marks (with_owed (next_span (marks_in now part) hi)) part now
changed_there t now part i e x hi same f is =
    subst (λ (u : Table Marks). set t i (e.0, x) ≡ change_marks
    (with_owed (next_span (marks_in u part) hi)) part u) same
    (set-changed (with_owed (next_span (marks_in t part) hi)) t part i e x f
    (is ∙ ap (λ (m : Marks). with_owed (next_span m hi) e.1) (sym (found-marks t part i e f))))

changed_new : (t now : Table Marks) (part other : List ℕ) (i : ℕ) (x m : Marks) (hi : ℕ) → t ≡ now → Missing t part i
    → other ≡ part → m ≡ no_marks → x ≡ with_owed (next_span m hi) m
    → insert t i (other, x) ≡ change_marks (with_owed (next_span (marks_in now part) hi)) part now
changed_new t now part other i x m hi same missing named none is =
    subst (λ (u : Table Marks). insert t i (other, x) ≡ change_marks
    (with_owed (next_span (marks_in u part) hi)) part u) same
    (insert-changed (with_owed (next_span (marks_in t part) hi)) t part other i x missing named
    (is ∙ ap (λ (n : Marks). with_owed (next_span n hi) n) none
    ∙ ap (λ (n : Marks). with_owed (next_span n hi) no_marks) (sym (missing-marks t part i missing))))

pub add_open-requires : goal.add_open-requires
add_open-requires c =
    let stands = rw c.as_slice.ensures.value at c.in-Ok.ensures in
    let f : Found c.self.inside.parts.items c.args.part.now c.in-Ok.place c.index_mut.result.now =
    record { table = c.self.invariant; stands = stands; read = c.index_mut.ensures.value } in
    let here = found-marks c.self.inside.parts.items c.args.part.now c.in-Ok.place c.index_mut.result.now f in
    let same : marks_in c.args.self.now c.args.part.now ≡ c.index_mut.result.now.1 =
    ap (λ (t : Table Marks). marks_in t c.args.part.now) (sym c.self.view_is) ∙ here in
    omega (arith, ap (λ (m : Marks). m.next) same, c.requires)

pub invariant_of-self : goal.invariant_of-self
invariant_of-self c =
    let stands = rw c.as_slice.ensures.value at c.in-Ok.ensures in
    let f : Found c.self.inside.parts.items c.args.part.now c.in-Ok.place c.index_mut.result.now =
    record { table = c.self.invariant; stands = stands; read = c.index_mut.ensures.value } in
    let here = found-marks c.self.inside.parts.items c.args.part.now c.in-Ok.place c.index_mut.result.now f in
    let same : marks_in c.args.self.now c.args.part.now ≡ c.index_mut.result.now.1 =
    ap (λ (t : Table Marks). marks_in t c.args.part.now) (sym c.self.view_is) ∙ here in
    let some : c.index_mut.result.now.1.next < c.args.hi = omega (arith, ap (λ (m : Marks). m.next) same, c.requires) in
    set_open c.self.inside.parts.items c.args.part.now c.in-Ok.place c.index_mut.result.now c.add_open.new.self
    c.args.hi f some c.in_ok-add_open-in-Ok.ensures.ok

pub returns-in_ok-add_open-in-Ok-clause-ok : goal.returns-in_ok-add_open-in-Ok-clause-ok
returns-in_ok-add_open-in-Ok-clause-ok c =
    let stands = rw c.as_slice.ensures.value at c.in-Ok.ensures in
    let f : Found c.self.inside.parts.items c.args.part.now c.in-Ok.place c.index_mut.result.now =
    record { table = c.self.invariant; stands = stands; read = c.index_mut.ensures.value } in
    changed_there c.self.inside.parts.items c.args.self.now c.args.part.now c.in-Ok.place c.index_mut.result.now
    c.add_open.new.self c.args.hi c.self.view_is f c.in_ok-add_open-in-Ok.ensures.ok

pub invariant_of-self-in-Continue-branch-4 : goal.invariant_of-self-in-Continue-branch-4
invariant_of-self-in-Continue-branch-4 c =
    let goes = rw c.as_slice.ensures.value at c.in-Err.ensures in
    let m : Missing c.self.inside.parts.items c.args.part.now c.in-Err.place =
    record { table = c.self.invariant; goes = goes } in
    let none = missing-marks c.self.inside.parts.items c.args.part.now c.in-Err.place m in
    let same : marks_in c.args.self.now c.args.part.now ≡ no_marks =
    ap (λ (t : Table Marks). marks_in t c.args.part.now) (sym c.self.view_is) ∙ none in
    let some : 0 < c.args.hi = omega (arith, ap (λ (n : Marks). n.next) same, c.requires) in
    rw c.in_ok-insert-in-Err.ensures.items
    (insert_tiled c.self.inside.parts.items c.args.part.now c.in_ok-name-in-Err.name c.in-Err.place
    c.add_open-in-Err.new.self m c.in_ok-name-in-Err.ensures
    (first_open c.add_open-in-Err.new.self c.new-marks.result c.args.hi c.new-marks.ensures some
    c.in_ok-add_open-in-Err.ensures.ok))

pub returns-in_ok-insert-in-Err-clause-ok : goal.returns-in_ok-insert-in-Err-clause-ok
returns-in_ok-insert-in-Err-clause-ok c =
    let goes = rw c.as_slice.ensures.value at c.in-Err.ensures in
    let m : Missing c.self.inside.parts.items c.args.part.now c.in-Err.place =
    record { table = c.self.invariant; goes = goes } in
    rw c.in_ok-insert-in-Err.ensures.items
    (changed_new c.self.inside.parts.items c.args.self.now c.args.part.now c.in_ok-name-in-Err.name c.in-Err.place
    c.add_open-in-Err.new.self c.new-marks.result c.args.hi c.self.view_is m c.in_ok-name-in-Err.ensures
    c.new-marks.ensures c.in_ok-add_open-in-Err.ensures.ok)
