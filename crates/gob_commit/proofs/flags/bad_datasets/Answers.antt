use Rattle.std.proofs.Common.{◌∙◌, ◌||◌, ap, sym, arith, Bor, List, ℕ, get_or, false, []}
use Rattle.std.specs.List.{list_any}
use Rattle.std.specs.Str.{bytes_eq}
use Rattle.gob_plan.specs.declared.units.Unit.{Unit as WorkUnit}
use Rattle.gob_ledger.specs.Groups.{dataset_of}
use Rattle.gob_state.specs.Committed.{judged_by}
use Rattle.gob_commit.specs.Groups.{is_bad_unit}
use Rattle.gob_commit.proofs.Judging.{bad_end, bad_more, bad_put, good_stays}
use Rattle.gob_commit.proofs.Pushing.{same_here}
use Rattle.gob_commit.proofs.flags.bad_datasets.Goals as goal

pub loop-i-init : goal.loop-i-init
loop-i-init c = λ q.
    ap (λ (ks : List (Bor (List ℕ))). list_any (λ (n : Bor (List ℕ)). bytes_eq q.now n.now) ks
    || list_any (is_bad_unit q.now) (judged_by c.args.units.now c.args.results.now)) c.new-bad.ensures.empty

pub loop-i-preserved-then-is_good : goal.loop-i-preserved-then-is_good
loop-i-preserved-then-is_good c = λ q.
    let none : WorkUnit = record { part = []; lo = 0; hi = 0; fresh = false; listed = false } in
    let u : WorkUnit = get_or c.args.units.now c.loop-i.i none in
    bad_more q.now c.args.units.now c.args.results.now c.loop-i.i u c.index-results-i.result _ _ _
    (omega arith) (omega arith) (same_here c.args.units.now c.loop-i.i none (omega arith)) c.index-results-i.is
    (good_stays q.now u c.index-results-i.result _ c.is_good.result c.is_good.ensures c.if-is_good.true)
    (c.loop-i.invariant q)

pub loop-i-preserved : goal.loop-i-preserved
loop-i-preserved c = λ q.
    bad_more q.now c.args.units.now c.args.results.now c.loop-i.i c.index-units-i.result c.index-results-i.result _ _ _
    (omega arith) (omega arith) c.index-units-i.is c.index-results-i.is
    (bad_put q.now c.dataset_of-dataset.result.now c.index-units-i.result c.index-results-i.result _ _ c.is_good.result
    c.is_good.ensures c.if-is_good.false (c.dataset_of-dataset.ensures ∙ ap dataset_of c.as_str.ensures
    ∙ ap (λ (u : WorkUnit). dataset_of u.part) (sym c.index-units-i.is))
    (c.in_ok-insert.ensures.updates.0 q))
    (c.loop-i.invariant q)

pub returns : goal.returns
returns c = λ q. bad_end q.now c.args.units.now c.args.results.now c.loop-i.i _ _ (omega arith) (c.loop-i.invariant q)
