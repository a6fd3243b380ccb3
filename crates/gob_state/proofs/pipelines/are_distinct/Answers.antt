use Rattle.std.proofs.Common.{◌∙◌, Bor, ℕ, List, sym, ap, refl}
use Rattle.std.proofs.Common.{rules}
use Rattle.std.specs.List.{list_any}
use Rattle.std.specs.Str.{bytes_eq}
use Rattle.std.proofs.lemmas.Bool.{false≢true, not-false, not-true}
use Rattle.gob_bytes.proofs.Once.{all_seen, apart_more, none_twice, seen_more, stands_twice}
use Rattle.gob_state.proofs.pipelines.are_distinct.Goals as goal

pub loop-pipeline-init : goal.loop-pipeline-init
loop-pipeline-init c = record {
  apart = none_twice;
  seen = λ q. ap (list_any (λ (n : Bor (List ℕ)). bytes_eq q.now n.now)) c.new-seen.ensures.empty;
}

pub returns-then-not-branch : goal.returns-then-not-branch
returns-then-not-branch c =
    let x = c.as_str.result in
    let hit = not-false _ (sym (c.in_ok-insert.ensures.added) ∙ c.if-not-branch.true) in (
      λ e. absurd (false≢true e),
      λ apart. absurd (stands_twice c.args.pipelines.now c.loop-pipeline.pipeline-index x.now c.pipeline-item.result
          (search rules) (c.as_str.ensures ∙ c.pipeline-item.is) (sym (c.loop-pipeline.invariant.seen x) ∙ hit) apart),
    )

pub loop-pipeline-preserved : goal.loop-pipeline-preserved
loop-pipeline-preserved c =
    let x = c.as_str.result in
    let i = c.loop-pipeline.pipeline-index in
    let new = not-true _ (sym (c.in_ok-insert.ensures.added) ∙ c.if-not-branch.false) in
    record {
      apart = apart_more c.args.pipelines.now i x.now c.pipeline-item.result (search rules)
          (c.as_str.ensures ∙ c.pipeline-item.is) c.loop-pipeline.invariant.apart
          (sym (c.loop-pipeline.invariant.seen x) ∙ new);
      seen = λ q. seen_more c.args.pipelines.now i x.now c.pipeline-item.result q.now _ _ (search rules)
          (c.as_str.ensures ∙ c.pipeline-item.is) (c.loop-pipeline.invariant.seen q)
          (c.in_ok-insert.ensures.updates.0 q);
    }

pub returns : goal.returns
returns c = (
  λ e. all_seen c.args.pipelines.now c.loop-pipeline.pipeline-index (search rules) c.loop-pipeline.invariant.apart,
  λ apart. refl,
)
