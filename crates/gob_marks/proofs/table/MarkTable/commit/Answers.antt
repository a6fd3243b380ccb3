use Rattle.std.proofs.Common.{◌∙◌, ap, sym}
use Rattle.std.specs.List.{list_any}
use Rattle.gob_bytes.specs.Tables.{Table}
use Rattle.gob_ledger.specs.Marks.{Marks}
use Rattle.gob_ledger.specs.Next.{with_done}
use Rattle.gob_ledger.specs.Units.{same_span}
use Rattle.gob_marks.specs.Changed.{change_marks, marks_in}
use Rattle.gob_marks.proofs.Rows.{Found, found-marks, found-tiled, set-changed, set_tiled}
use Rattle.gob_marks.proofs.Tiles.{commit_tiled}
use Rattle.gob_marks.proofs.table.MarkTable.commit.Goals as goal

found : (c : goal.In_ok-done-in-Ok)
    → Found c.self.inside.parts.items c.args.part.now c.in-Ok.place c.index_mut.result.now
found c =
    let stands = rw c.as_slice.ensures.value at c.in-Ok.ensures in
    record { table = c.self.invariant; stands = stands; read = c.index_mut.ensures.value }

pub invariant_of-self-in-Ok : goal.invariant_of-self-in-Ok
invariant_of-self-in-Ok c =
    let tiled = found-tiled c.self.inside.parts.items c.args.part.now c.in-Ok.place c.index_mut.result.now (found c) in
    set_tiled c.self.inside.parts.items c.args.part.now c.in-Ok.place c.index_mut.result.now c.commit.new.self (found c)
    (commit_tiled c.index_mut.result.now.1 c.commit.new.self c.args.range c.args.pipeline
    c.in_ok-done-in-Ok.done tiled c.in_ok-done-in-Ok.ensures.answer c.in_ok-done-in-Ok.ensures.committed
    c.in_ok-done-in-Ok.ensures.kept)

pub returns-in_ok-done-in-Ok-clause-answer : goal.returns-in_ok-done-in-Ok-clause-answer
returns-in_ok-done-in-Ok-clause-answer c =
    let here = found-marks c.self.inside.parts.items c.args.part.now c.in-Ok.place c.index_mut.result.now (found c) in
    c.in_ok-done-in-Ok.ensures.answer
    ∙ ap (λ (m : Marks). list_any (same_span c.args.range) m.owed) (sym here)
    ∙ ap (λ (t : Table Marks). list_any (same_span c.args.range) (marks_in t c.args.part.now).owed) c.self.view_is

pub returns-in_ok-done-in-Ok-clause-committed : goal.returns-in_ok-done-in-Ok-clause-committed
returns-in_ok-done-in-Ok-clause-committed c = λ yes.
    set-changed (with_done c.args.pipeline c.args.range) c.self.inside.parts.items c.args.part.now c.in-Ok.place
    c.index_mut.result.now c.commit.new.self (found c) (c.in_ok-done-in-Ok.ensures.committed yes)
    ∙ ap (change_marks (with_done c.args.pipeline c.args.range) c.args.part.now) c.self.view_is
