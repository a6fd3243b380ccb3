-- What units make doesn't depend on what a pipeline text leaves out.
use Rattle.std.proofs.Common.{◌≡◌, ℕ, ◌≤◌, ◌^◌, Bool, true, false, cond, List, length, sym, ap, subst, ◌∙◌, Some}
use Rattle.std.proofs.Common.{None, arith}
use Rattle.std.specs.Prelude.{nat_le}
use Rattle.std.proofs.lemmas.Bool.{and_parts, leb-true}
use Rattle.gob_plan.specs.declared.plan.Plan.{Plan}
use Rattle.gob_meaning.specs.Items.{Target, out, err, bad}
use Rattle.gob_meaning.specs.Fold.{deliveries_of, sent_to}
use Rattle.gob_meaning.specs.Names.{target_name}
use Rattle.gob_ledger.specs.Marks.{Span}
use Rattle.gob_ledger.specs.Expected.{IsMade}
use Rattle.gob_jobs.specs.Plans.{plan_of}
use Rattle.gob_jobs.proofs.Tells.{plans_right}
use Rattle.gob_meaning.specs.Plans.{without_rules}
use Rattle.gob_meaning.proofs.Fits.{bare_names, bare_fold}

pub made_with : (plan : Plan) (part : List ℕ) (s : Span) (bytes path content : List ℕ)
    → IsMade plan part s bytes path content → IsMade (without_rules plan) part s bytes path content
made_with plan part s bytes path content m = record {
  target = m.target;
  sends = ap (λ f. sent_to m.target (deliveries_of f)) (bare_fold plan s.lo bytes) ∙ m.sends;
  some = m.some;
  called = bare_names plan part s.lo s.hi m.target ∙ m.called;
}

pub made_without : (plan : Plan) (part : List ℕ) (s : Span) (bytes path content : List ℕ)
    → IsMade (without_rules plan) part s bytes path content → IsMade plan part s bytes path content
made_without plan part s bytes path content m = record {
  target = m.target;
  sends = ap (λ f. sent_to m.target (deliveries_of f)) (sym (bare_fold plan s.lo bytes)) ∙ m.sends;
  some = m.some;
  called = sym (bare_names plan part s.lo s.hi m.target) ∙ m.called;
}

-- a plan that a pipeline text tells has few branches
pub few_branches : (text : List ℕ) (plan : Plan) → plan_of text ≡ Some plan → length plan.branches ≤ 2 ^ 64
few_branches text plan e =
    let fits = (plans_right text plan e).fitting in
    let few = leb-true plan.fork.branches 8 (and_parts _ (nat_le plan.fork.branches 8) fits.some_branches).1 in
    let as_many = fits.as_many_branches in omega (arith, few, as_many)
