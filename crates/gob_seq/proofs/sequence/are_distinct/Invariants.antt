use Rattle.std.proofs.Common.{◌≡◌, bytes_eq, take}
use Rattle.std.specs.List.{IsDistinct, list_any}
use Rattle.std.specs.HashSet as bag
use Rattle.gob_seq.proofs.Once.{Name, texts}
use Rattle.gob_seq.proofs.sequence.are_distinct.Given as goal

abbrev pub invariant-loop-name : goal.invariant-loop-name
invariant-loop-name l = record {
  apart : IsDistinct bytes_eq (take l.name-index (texts l.names));
  seen : (q : Name) → bag.contains (λ (a b : Name). bytes_eq a.now b.now) l.seen q ≡ list_any (bytes_eq q.now)
      (take l.name-index (texts l.names));
}
