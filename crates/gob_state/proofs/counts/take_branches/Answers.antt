use Rattle.std.proofs.Common.{◌≡◌, ℕ, ◌+◌, List, true, refl, sym, subst, None, Option, arith}
use Rattle.gob_plan.specs.declared.units.BranchCounts.{BranchCounts}
use Rattle.gob_state.specs.Counts.{branch_count_lines, AreBranches, NoBranch}
use Rattle.gob_state.specs.Reads.{ReadsSpelling}
use Rattle.gob_state.proofs.CountLemmas.{SomeBranches, branch_missing, branch_of_four, branches_end, eight_branches}
use Rattle.gob_state.proofs.CountLemmas.{four_missing, index_differs, next_branch, none_at_first}
use Rattle.gob_state.proofs.counts.take_branches.Goals as goal
use Rattle.gob_state.proofs.counts.take_branches.Goals.{then-index-eq0, else-index-eq0}

abbrev At : (o n : List ℕ) → Option (List BranchCounts) → Type 0
At o n r = ReadsSpelling branch_count_lines AreBranches NoBranch o n r

pub returns-then-not-take_text : goal.returns-then-not-take_text
returns-then-not-take_text c = elim c.if-index-eq0.branch [
  | then-index-eq0 w ↦ subst (At c.args.text.now c.take_text.new.self) (sym w.result-is)
      (none_at_first c.loop-index.index _ _ _ c.loop-index.branches c.take_text.result c.loop-index.invariant
      w.if-index-eq0.true c.take_text.ensures c.if-not-take_text.true)
  | else-index-eq0 w ↦ subst (At c.args.text.now c.take_text.new.self) (sym w.result-is)
      (branches_end c.loop-index.index _ _ _ c.loop-index.branches c.take_text.result c.loop-index.invariant
      (omega (arith, w.if-index-eq0.false)) (omega arith) c.take_text.ensures c.if-not-take_text.true)
]

pub returns-in_default : goal.returns-in_default
returns-in_default c =
    let taken : c.take_text.result ≡ true = cc in
    branch_missing c.loop-index.index _ _ c.take_text.new.self _ _ c.loop-index.branches c.loop-index.invariant
    (c.take_text.ensures.spelled taken)
    (four_missing c.loop-index.index _ _ _ c.take_four.new.text c.take_text.result None
    (omega arith) c.take_text.ensures taken
    c.in_default.ensures refl)

pub returns-then-place-index : goal.returns-then-place-index
returns-then-place-index c =
    let taken : c.take_text.result ≡ true = cc in
    branch_missing c.loop-index.index _ _ c.take_text.new.self _ _ c.loop-index.branches c.loop-index.invariant
    (c.take_text.ensures.spelled taken)
    (index_differs c.loop-index.index _ _ _ c.take_four.new.text c.take_text.result c.in-Some.place c.in-Some.written
    c.in-Some.errors c.in-Some.optional (omega arith) c.take_text.ensures taken c.in-Some.ensures c.if-place-index.true)

pub loop-index-preserved : goal.loop-index-preserved
loop-index-preserved c =
    let taken : c.take_text.result ≡ true = cc in
    subst (λ bs. SomeBranches c.args.text.now c.take_four.new.text bs (c.loop-index.index + 1))
    (sym c.in_ok-push.ensures.ok)
    (next_branch c.loop-index.index _ _ c.take_text.new.self _ c.loop-index.branches _ c.loop-index.invariant
    (c.take_text.ensures.spelled taken)
    (branch_of_four c.loop-index.index _ _ _ c.take_text.result c.in-Some.place c.in-Some.written
    c.in-Some.errors c.in-Some.optional
    (omega arith) c.take_text.ensures taken c.in-Some.ensures c.if-place-index.false))

pub returns : goal.returns
returns c =
    let all : c.loop-index.index ≡ 8 = omega arith in
    eight_branches _ _ c.loop-index.branches
    (subst (SomeBranches c.args.text.now c.loop-index.text c.loop-index.branches) all c.loop-index.invariant)
