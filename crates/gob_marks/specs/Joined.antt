-- Done ranges that become one.
use Rattle.std.specs.Prelude.{◌≡◌, ℕ, ◌<◌, ◌≤◌, ◌++◌, List, [], ◌∷◌, length, take}
use Rattle.gob_ledger.specs.Marks.{Marks, Span, Done}

-- ranges of one pipeline that follow each other from lo to hi
abbrev pub FollowEachOther : ℕ → ℕ → ℕ → List Done → Type 0
FollowEachOther pipeline lo hi [] = lo ≡ hi
FollowEachOther pipeline lo hi (d ∷ ds) =
    (d.span.lo ≡ lo) × (d.pipeline ≡ pipeline) × FollowEachOther pipeline d.span.hi hi ds

-- two or more of the done ranges, all of one pipeline, fill this range
pub record Fill (s : Span) (ds : List Done) : Type 0 where
  pub before : List Done
  pub inside : List Done
  pub behind : List Done
  pub pipeline : ℕ
  pub parted : ds ≡ before ++ (inside ++ behind)
  pub several : 2 ≤ length inside
  pub fill : FollowEachOther pipeline s.lo s.hi inside

-- the done ranges that fill this range have become one, of their pipeline, and nothing else has changed
pub record Joins (s : Span) (old new : Marks) : Type 0 where
  pub parts : Fill s old.finished
  pub joined : new ≡ record old {
    finished = parts.before ++ record { span = s; pipeline = parts.pipeline } ∷ parts.behind;
  }

-- the pipeline of the first range
abbrev pub first_pipeline : List Done → ℕ
first_pipeline [] = 0
first_pipeline (d ∷ ds) = d.pipeline

-- so many ranges at the front fill this range, all of the first one's pipeline; 0 where no number of them does
pub record FillsFront (s : Span) (ds : List Done) (count : ℕ) : Type 0 where
  pub within : count ≤ length ds
  pub fill : 0 < count → FollowEachOther (first_pipeline ds) s.lo s.hi (take count ds)
  pub only : (inside behind : List Done) → ds ≡ inside ++ behind → 0 < length inside
      → FollowEachOther (first_pipeline ds) s.lo s.hi inside → count ≡ length inside
