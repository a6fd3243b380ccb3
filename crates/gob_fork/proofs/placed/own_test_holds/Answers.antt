use Rattle.std.proofs.Common.{◌≡◌, ◌<◌, ℕ, zero, suc, List, [], ◌∷◌, Some, length, get_or, sym, ap, ◌∙◌, arith}
use Rattle.std.specs.List.{slice_get}
use Rattle.gob_plan.specs.declared.checks.TestSpec.{TestSpec}
use Rattle.gob_meaning.specs.Fork.{holds_if_there}
use Rattle.gob_rowcheck.proofs.Standing.{stands_there}
use Rattle.gob_fork.proofs.placed.own_test_holds.Goals as goal

got : (tests : List TestSpec) (i : ℕ) (t : TestSpec) → i < length tests → t ≡ get_or tests i t
    → slice_get tests i ≡ Some t
got [] i t lt is = absurd (omega arith)
got (x ∷ xs) zero t lt is = ap Some (sym is)
got (x ∷ xs) (suc i) t lt is = got xs i t (omega arith) is

pub bounds-places-branch : goal.bounds-places-branch
bounds-places-branch c =
    let below = c.if-branch-tests.false in
    (stands_there (λ (t : TestSpec). t.column) c.args.tests.now c.args.columns.now c.args.places.now c.args.branch
    c.index-tests-branch.result c.requires.stand (omega (arith, below)) c.index-tests-branch.is).there

pub holds_at-requires-clause-stands : goal.holds_at-requires-clause-stands
holds_at-requires-clause-stands c =
    let below = c.if-branch-tests.false in
    (stands_there (λ (t : TestSpec). t.column) c.args.tests.now c.args.columns.now c.args.places.now c.args.branch
    c.index-tests-branch.result c.requires.stand (omega (arith, below)) c.index-tests-branch.is).stands 0

pub returns : goal.returns
returns c =
    let below = c.if-branch-tests.false in
    c.holds_at.ensures ∙ sym (ap (λ o. holds_if_there o c.args.columns.now c.args.row.now)
    (got c.args.tests.now c.args.branch c.index-tests-branch.result (omega (arith, below)) c.index-tests-branch.is))
