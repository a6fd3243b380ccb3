use Rattle.std.proofs.Common.{◌≡◌, ◌≤◌, true, drop}
use Rattle.std.specs.List.{list_all}
use Rattle.gob_plan.specs.Tests.{test_fits}
use Rattle.gob_meaning.specs.Policies.{ruling_from}
use Rattle.gob_rowcheck.specs.Verdicts.{counted_ruling}
use Rattle.gob_rowcheck.proofs.verdict.judge_row.Given as goal

-- what the policies that are left say, with the optional ones counted so far, is what all of them say
abbrev pub invariant-loop-policy : goal.invariant-loop-policy
invariant-loop-policy l = record {
  place : l.index ≡ l.policy-index;
  few : l.optional ≤ l.index;
  fit : list_all (λ p. test_fits p.test l.columns) (drop l.policy-index l.fn.policies) ≡ true;
  left : counted_ruling l.optional (ruling_from l.policy-index (drop l.policy-index l.fn.policies) l.columns l.row)
      ≡ ruling_from 0 l.fn.policies l.columns l.row;
}
