use Rattle.std.proofs.Common.{◌≡◌, true, sym, ◌∙◌, subst}
use Rattle.std.specs.List.{list_all}
use Rattle.gob_plan.specs.Rows.{conforms}
use Rattle.gob_meaning.specs.Steps.{chain_rows, columns_through}
use Rattle.gob_meaning.proofs.StepRows.{steps_keep}
use Rattle.gob_branch.specs.Branches.{ChainValue, after_chain}
use Rattle.gob_branch.proofs.Joined.{all_of_made}
use Rattle.gob_branch.proofs.chain.Chain.rows_of.Goals as goal

pub returns-clause-conform : goal.returns-clause-conform
returns-clause-conform c =
    let specs = c.self.inside.specs in
    let before = c.self.inside.before in
    let row = c.args.row in
    let rows = c.in_ok-rows.rows.items in
    let fit : conforms before row ≡ true =
    subst (λ (v : ChainValue). conforms v.before row ≡ true) (sym c.self.view_is) c.requires in
    let test = conforms (columns_through specs before) in
    subst (λ (v : ChainValue). list_all (conforms (after_chain v)) rows ≡ true) c.self.view_is
    (all_of_made test (chain_rows specs before row) rows (sym (c.self.invariant.1 row) ∙ c.in_ok-rows.ensures.ok)
    ((steps_keep specs before).rows row c.self.invariant.4 c.self.invariant.2 fit))
