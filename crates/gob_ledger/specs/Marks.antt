-- The ranges of a partition: which are done, and which are still owed.
use Rattle.std.specs.Prelude.{◌≡◌, ℕ, ◌+◌, ◌<◌, ◌≤◌, Bool, true, false, if◌then◌else◌, ◌&&◌, nat_le, nat_lt, List, []}
use Rattle.std.specs.Prelude.{◌∷◌, ◌++◌, map}
use Rattle.std.specs.List.{count_by, list_any}

-- offsets from lo, below hi
pub record Span : Type 0 where
  pub lo : ℕ
  pub hi : ℕ

-- a done range, and which of the state's pipelines made it
pub record Done : Type 0 where
  pub span : Span
  pub pipeline : ℕ

-- the ranges before next, each done or owed
pub record Marks : Type 0 where
  pub next : ℕ
  pub finished : List Done
  pub owed : List Span

-- the offset lies in the range
abbrev pub has : ℕ → Span → Bool
has at s = nat_le s.lo at && nat_lt at s.hi

-- in how many ranges an offset lies
abbrev pub times_covered : ℕ → Marks → ℕ
times_covered at m = count_by (λ d. has at d.span) m.finished + count_by (has at) m.owed

-- the ranges that are done
abbrev pub done_spans : Marks → List Span
done_spans m = map (λ d. d.span) m.finished

-- all ranges
abbrev pub spans_of : Marks → List Span
spans_of m = done_spans m ++ m.owed

-- ranges that aren't empty, each behind the one before, the first not below from
abbrev pub InOrder : ℕ → List Span → Type 0
InOrder from [] = Unit {0}
InOrder from (s ∷ ss) = (from ≤ s.lo) × (s.lo < s.hi) × InOrder s.hi ss

-- each offset below next lies in one range, and no other in any
pub record Tiled (m : Marks) : Type 0 where
  pub finished : InOrder 0 (done_spans m)
  pub owed : InOrder 0 m.owed
  pub once : (at : ℕ) → times_covered at m ≡ (if nat_lt at m.next then 1 else 0)

-- the offset lies in a done range
abbrev pub is_done : ℕ → Marks → Bool
is_done at m = list_any (λ d. has at d.span) m.finished

-- the least offset in no done range
pub record IsWatermark (w : ℕ) (m : Marks) : Type 0 where
  pub below : (at : ℕ) → at < w → is_done at m ≡ true
  pub here : is_done w m ≡ false
