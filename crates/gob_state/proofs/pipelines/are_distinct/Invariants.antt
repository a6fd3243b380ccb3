use Rattle.std.proofs.Common.{◌≡◌, Bor, bytes_eq, ℕ, List, take}
use Rattle.std.specs.List.{IsDistinct, list_any}
use Rattle.std.specs.HashSet as bag
use Rattle.gob_state.proofs.pipelines.are_distinct.Given as goal

abbrev pub invariant-loop-pipeline : goal.invariant-loop-pipeline
invariant-loop-pipeline l = record {
  apart : IsDistinct bytes_eq (take l.pipeline-index l.pipelines);
  seen : (q : Bor (List ℕ)) → bag.contains (λ (a b : Bor (List ℕ)). bytes_eq a.now b.now) l.seen q
      ≡ list_any (bytes_eq q.now) (take l.pipeline-index l.pipelines);
}
