use Rattle.std.proofs.Common.{◌≡◌, ◌||◌, ℕ, List, Bor, drop}
use Rattle.std.specs.HashSet.{contains}
use Rattle.std.specs.List.{list_any}
use Rattle.std.specs.Str.{bytes_eq}
use Rattle.gob_state.specs.Committed.{judged_by}
use Rattle.gob_commit.specs.Groups.{is_bad_unit}
use Rattle.gob_commit.proofs.flags.bad_datasets.Given as goal

abbrev pub invariant-loop-i : goal.invariant-loop-i
invariant-loop-i l = (q : Bor (List ℕ)) → (contains (λ (a b : Bor (List ℕ)). bytes_eq a.now b.now) l.bad q
    || list_any (is_bad_unit q.now) (judged_by (drop l.i l.units) (drop l.i l.results)))
    ≡ list_any (is_bad_unit q.now) (judged_by l.units l.results)
