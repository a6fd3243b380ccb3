-- What the done ranges of a state made in all.
use Rattle.std.specs.Prelude.{◌≡◌, ℕ, List, [], ◌∷◌, map, unwrap_or}
use Rattle.std.specs.declared.option.Option.{Option}
use Rattle.std.specs.declared.option.Option.TheVariants.{None, Some}
use Rattle.std.specs.Option.{option_and_then}
use Rattle.std.specs.List.{flat_map, slice_get}
use Rattle.gob_device.specs.Supply.{Held}
use Rattle.gob_plan.specs.declared.plan.Plan.{Plan}
use Rattle.gob_plan.specs.declared.units.BranchCounts.{BranchCounts}
use Rattle.gob_plan.specs.declared.units.Counts.{Counts}
use Rattle.gob_meaning.specs.Fold.{unit_fold, counts_of}
use Rattle.gob_ledger.specs.Marks.{Marks, Span, Done}
use Rattle.gob_meaning.specs.Sums.{sum_of}
use Rattle.gob_ledger.specs.State.{State, no_branch_counts, no_counts}
use Rattle.gob_ledger.specs.Expected.{bytes_of_range}
use Rattle.gob_jobs.specs.Plans.{plan_of}

-- what a range of a partition makes
abbrev pub span_counts : Plan → Held → List ℕ → Span → Counts
span_counts plan archive part s = counts_of plan (unit_fold plan s.lo (bytes_of_range archive part s))

-- the plan of the state's pipeline with this index
abbrev pub plan_at : List (List ℕ) → ℕ → Option Plan
plan_at pipelines index = option_and_then plan_of (slice_get pipelines index)

-- what a range makes by this plan; without one it counts nothing
abbrev pub counts_where : Option Plan → Held → List ℕ → Span → Counts
counts_where None archive part s = no_counts 0
counts_where (Some plan) archive part s = span_counts plan archive part s

-- what a done range made, by the pipeline that it names
abbrev pub done_counts : List (List ℕ) → Held → List ℕ → Done → Counts
done_counts pipelines archive part d = counts_where (plan_at pipelines d.pipeline) archive part d.span

-- what each done range of a partition made
abbrev pub part_counts : List (List ℕ) → Held → List ℕ × Marks → List Counts
part_counts pipelines archive e = map (done_counts pipelines archive e.0) e.1.finished

-- the sum of these counts
abbrev pub sum_counts : List Counts → Counts
sum_counts [] = no_counts 0
sum_counts (c ∷ cs) = sum_of c (sum_counts cs)

-- what all done ranges of the state made
unfoldable pub counted_in : State → Held → Counts
counted_in s archive = sum_counts (flat_map (part_counts s.pipelines archive) s.parts)

-- what went to a branch, nothing where there is none of this index
abbrev pub branch_at : Counts → ℕ → BranchCounts
branch_at c i = unwrap_or (slice_get c.branches i) no_branch_counts

-- the same counts, where a branch that one side lacks counts as zero
pub record SameCounts (a b : Counts) : Type 0 where
  pub records : a.records ≡ b.records
  pub bad : a.bad ≡ b.bad
  pub rows : a.rows ≡ b.rows
  pub unrouted : a.unrouted ≡ b.unrouted
  pub branches : (i : ℕ) → branch_at a i ≡ branch_at b i
