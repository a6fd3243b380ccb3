use Rattle.std.proofs.Common.{◌≡◌, ℕ, suc, zero, Bool, true, List, [], ◌∷◌, take, refl, ap, ◌∙◌}
use Rattle.std.specs.List.{list_all, list_any}
use Rattle.std.proofs.lemmas.Bool.{and_parts, and_from}
use Rattle.std.proofs.lemmas.List.{take_min}
use Rattle.gob_plan.specs.declared.checks.TestSpec.{TestSpec}
use Rattle.gob_plan.specs.Tests.{test_fits, test_holds}
use Rattle.gob_fork.proofs.fork.one_holds_before.Goals as goal

fit_in_front : (p : TestSpec → Bool) (n : ℕ) (ts : List TestSpec) → list_all p ts ≡ true → list_all p (take n ts) ≡ true
fit_in_front p zero ts fit = refl
fit_in_front p (suc n) [] fit = refl
fit_in_front p (suc n) (t ∷ ts) fit =
    let parts = and_parts (p t) (list_all p ts) fit in
    and_from (p t) (list_all p (take n ts)) parts.0 (fit_in_front p n ts parts.1)

pub one_holds-requires-clause-fit : goal.one_holds-requires-clause-fit
one_holds-requires-clause-fit c =
    let fits = λ (t : TestSpec). test_fits t c.args.columns.now in
    ap (list_all fits) c.split_at.ensures.front
    ∙ fit_in_front fits c.min.result c.args.tests.now c.requires.fit

pub returns : goal.returns
returns c =
    let holds = λ (t : TestSpec). test_holds t c.args.columns.now c.args.row.now in
    let tests = c.args.tests.now in
    c.one_holds.ensures ∙ ap (list_any holds) c.split_at.ensures.front
    ∙ ap (λ n. list_any holds (take n tests)) c.min.ensures
    ∙ ap (list_any holds) (take_min c.args.branch tests)
