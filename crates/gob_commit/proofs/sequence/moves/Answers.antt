use Rattle.std.proofs.Common.{◌∙◌, ap, map, subst, List, Bor, ℕ}
use Rattle.std.specs.List.Sorted.{IsPermutation}
use Rattle.std.proofs.lemmas.List.Sorted.{IsPermutation-map}
use Rattle.gob_history.specs.Laws.{moves_of}
use Rattle.gob_commit.specs.Staged.{Pair, lent_pair}
use Rattle.gob_commit.proofs.sequence.moves.Goals as goal

pub returns : goal.returns
returns c = record {
  sorted = map lent_pair c.sort.new.self.items;
  moved = subst (λ (ps : List Pair). IsPermutation ps (map lent_pair c.sort.new.self.items)) c.in_ok-files.ensures
      (IsPermutation-map lent_pair c.in_ok-files.files.items c.sort.new.self.items c.sort.ensures.permutation);
  are = c.in_ok-steps.ensures
      ∙ ap (λ (fs : List (Bor (List ℕ) × Bor (List ℕ))). moves_of (map lent_pair fs)) c.as_slice.ensures.value;
}
