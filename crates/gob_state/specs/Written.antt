-- Texts as they are written, piece by piece.
use Rattle.std.specs.Prelude.{◌≡◌, ◌<◌, ◌≤◌, ℕ, List, [], ◌∷◌, ◌++◌, map}
use Rattle.std.specs.List.{AllByRecursion, enumerate_from, flat_map}
use Rattle.gob_plan.specs.declared.units.BranchCounts.{BranchCounts}
use Rattle.gob_ledger.specs.Marks.{Done, Span}
use Rattle.gob_ledger.specs.Spelling.{branch_line, done_line, open_line, put_lines, version_2}

-- the lines of branches, from this index on
abbrev pub branch_lines_from : ℕ → List BranchCounts → List ℕ
branch_lines_from i bs = flat_map branch_line (enumerate_from i bs)

-- no range of these begins at the offset or before
abbrev pub BeginsBehind : ℕ → List Span → Type 0
BeginsBehind at [] = Unit {0}
BeginsBehind at (o ∷ os) = at < o.lo

-- the lines of ranges, by their offsets
abbrev pub lines_of_ranges : List Done → List Span → List ℕ
lines_of_ranges done owed = flat_map (λ l. l.1) (put_lines (map (done_line version_2) done) (map open_line owed))

-- the lines of some open ranges were pushed, which come before those of any done ranges from the offset on
abbrev pub OpensPushed : ℕ → List ℕ → List Span → List ℕ → List Span → Type 0
OpensPushed at old before new after = (ds : List Done) → AllByRecursion (λ d. at ≤ d.span.lo) ds
    → old ++ lines_of_ranges ds before ≡ new ++ lines_of_ranges ds after
