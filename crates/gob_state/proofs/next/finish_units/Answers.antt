use Rattle.std.proofs.Common.{◌≡◌, ◌<◌, ◌+◌, length, true, sym, subst, ◌∙◌, arith}
use Rattle.std.specs.List.{list_any}
use Rattle.gob_ledger.specs.Next.{with_done}
use Rattle.gob_ledger.specs.Units.{same_span, span_of}
use Rattle.gob_marks.specs.Changed.{change_marks, marks_in}
use Rattle.gob_state.proofs.NextLemmas.{Finishing, one_finished, owed_here, passed_by}
use Rattle.gob_state.proofs.next.finish_units.Goals as goal
use Rattle.gob_state.proofs.next.finish_units.Goals.{then-is_allowed+in_ok-commit, else-is_allowed}

pub loop-i-preserved : goal.loop-i-preserved
loop-i-preserved c =
    let within : c.loop-i.i < length c.args.results.now =
    let counted = c.requires.counted in let below = c.loop-i-test.true in omega arith in
    elim c.if-is_allowed.branch [
      | then-is_allowed+in_ok-commit w ↦
          subst (λ t. Finishing c.args.pipeline c.args.policy c.args.all c.args.marks.now t c.args.units.now
          c.args.results.now (c.loop-i.i + 1)) (sym w.marks-is)
          (one_finished c.args.pipeline c.args.policy c.args.all c.args.marks.now c.loop-i.marks w.commit.new.self
          c.args.units.now c.args.results.now c.loop-i.i w.index-units-i.result c.index-results-i.result
          c.loop-i.invariant c.loop-i-test.true within w.index-units-i.is c.index-results-i.is
          (sym c.is_allowed.ensures ∙ w.if-is_allowed.true)
          (subst (λ p. w.commit.new.self
          ≡ change_marks (with_done c.args.pipeline (span_of w.index-units-i.result)) p c.loop-i.marks) w.as_str.ensures
          (w.in_ok-commit.ensures.committed (w.in_ok-commit.ensures.answer
          ∙ subst (λ p. list_any (same_span (span_of w.index-units-i.result)) (marks_in c.loop-i.marks p).owed ≡ true)
          (sym w.as_str.ensures)
          (owed_here c.args.pipeline c.args.policy c.args.all c.args.marks.now c.loop-i.marks c.args.units.now
          c.args.results.now c.loop-i.i w.index-units-i.result c.loop-i.invariant c.loop-i-test.true
          w.index-units-i.is)))))
      | else-is_allowed w ↦
          subst (λ t. Finishing c.args.pipeline c.args.policy c.args.all c.args.marks.now t c.args.units.now
          c.args.results.now (c.loop-i.i + 1)) (sym w.marks-is)
          (passed_by c.args.pipeline c.args.policy c.args.all c.args.marks.now c.loop-i.marks c.args.units.now
          c.args.results.now c.loop-i.i c.index-results-i.result c.loop-i.invariant c.loop-i-test.true within
          c.index-results-i.is (sym c.is_allowed.ensures ∙ w.if-is_allowed.false))
    ]
