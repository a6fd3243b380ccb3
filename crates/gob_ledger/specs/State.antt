-- What a job has committed.
use Rattle.std.specs.Prelude.{◌≡◌, ℕ, ◌<◌, List, [], map, length}
use Rattle.std.specs.declared.option.Option.{Option}
use Rattle.std.specs.declared.option.Option.TheVariants.{Some}
use Rattle.std.specs.List.{range_with_len, Contains}
use Rattle.gob_plan.specs.declared.units.BranchCounts.{BranchCounts}
use Rattle.gob_plan.specs.declared.units.Counts.{Counts}
use Rattle.gob_bytes.specs.Tables.{Table, at_name}
use Rattle.gob_ledger.specs.Marks.{Marks, Done, Tiled}

-- the commits so far, the pipelines that made them, what they made in all, and each partition's ranges
pub record State : Type 0 where
  pub run : ℕ
  pub pipelines : List (List ℕ)
  pub totals : Counts
  pub parts : Table Marks

-- nothing went to a branch
abbrev pub no_branch_counts : BranchCounts
no_branch_counts = record { written = 0; errors = 0; optional = 0 }

-- nothing was counted, of so many branches
abbrev pub no_counts : ℕ → Counts
no_counts branches = record {
  records = 0;
  bad = 0;
  rows = 0;
  unrouted = 0;
  branches = map (λ _. no_branch_counts) (range_with_len 0 branches);
}

-- nothing is committed yet
abbrev pub empty_state : ℕ → State
empty_state branches = record { run = 0; pipelines = []; totals = no_counts branches; parts = [] }

-- a partition's marks, where it is known
abbrev pub marks_at : State → List ℕ → Option Marks
marks_at s part = at_name s.parts part

-- every partition is tiled by its ranges, and each done one names a pipeline of the state
pub record TiledState (s : State) : Type 0 where
  pub tiled : (part : List ℕ) (m : Marks) → marks_at s part ≡ Some m → Tiled m
  pub indexed : (part : List ℕ) (m : Marks) (d : Done) → marks_at s part ≡ Some m → Contains m.finished d
      → d.pipeline < length s.pipelines
