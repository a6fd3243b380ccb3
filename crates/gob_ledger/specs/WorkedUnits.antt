-- Worked tables: ranges, cuts, names, and the order of units.
use Rattle.std.specs.Prelude.{◌≡◌, ℕ, Bool, true, false, List, [], ◌∷◌, ◌++◌, map, replicate, codes}
use Rattle.std.specs.declared.option.Option.TheVariants.{None, Some}
use Rattle.std.specs.List.{range_with_len}
use Rattle.gob_bytes.specs.Tables.{Table}
use Rattle.gob_device.specs.Supply.{Held}
use Rattle.gob_plan.specs.declared.plan.Limits.{Limits}
use Rattle.gob_plan.specs.declared.units.Unit.{Unit as WorkUnit}
use Rattle.gob_ledger.specs.Marks.{InOrder, IsWatermark, Marks, Tiled, has, is_done, spans_of}
use Rattle.gob_ledger.specs.Marks.{times_covered}
use Rattle.gob_ledger.specs.Units.{cut_end, cuts, first_shrunk, fresh_in, in_rounds, is_kept, is_listed}
use Rattle.gob_ledger.specs.Units.{is_short}
use Rattle.gob_ledger.specs.Units.{next_of, range_count, same_span, same_unit, too_long, units_of_parts}
use Rattle.gob_ledger.specs.Examples.{range_done, fresh, kill_marks, killed_unit, span}

-- a name of so many letters
abbrev pub letters : ℕ → List ℕ
letters n = replicate n 97

-- partitions whose names begin with web
abbrev pub of_web : Limits
of_web = record { prefix = codes "web"; max_bytes = 2; max_new_units = 2 }

-- two partitions of which something was taken, and what of them is owed
abbrev pub two_known : Table Marks
two_known =
    (codes "a", record { next = 6; finished = range_done 2 4 ∷ []; owed = span 0 2 ∷ span 4 6 ∷ [] })
    ∷ (codes "web/b", record { next = 4; finished = range_done 0 2 ∷ []; owed = span 2 4 ∷ [] })
    ∷ []

-- two partitions that grew, and a new one
abbrev pub three_held : Held
three_held = (codes "a", codes "1\n2\n3\n4\n") ∷ (codes "web/b", codes "1\n2\n3\n4\n5\n")
    ∷ (codes "web/c", codes "1\n2\n") ∷ []

-- three ends of lines
abbrev pub three_ends : List ℕ
three_ends = 3 ∷ 12 ∷ 14 ∷ []

-- an owed range of a unit of a run
abbrev pub whole_owed_unit : List ℕ → ℕ → ℕ → Bool → WorkUnit
whole_owed_unit part lo hi listed = record { part = part; lo = lo; hi = hi; fresh = false; listed = listed }

-- ranges that touch, ranges that overlap, and an empty one
pub record WorkedRanges : Type 0 where
  pub has_offsets : map (λ at. has at (span 1 3)) (range_with_len 0 5) ≡ false ∷ true ∷ true ∷ false ∷ false ∷ []
  pub covered : map (λ at. times_covered at kill_marks) (range_with_len 0 7) ≡ 1 ∷ 1 ∷ 1 ∷ 1 ∷ 1 ∷ 1 ∷ 0 ∷ []
  pub done_offsets : map (λ at. is_done at kill_marks) (range_with_len 0 7)
      ≡ true ∷ true ∷ false ∷ false ∷ true ∷ true ∷ false ∷ []
  pub all_spans : spans_of kill_marks ≡ span 0 2 ∷ span 4 6 ∷ span 2 4 ∷ []
  pub same_spans : map (same_span (span 1 3)) (span 1 3 ∷ span 1 4 ∷ span 2 3 ∷ []) ≡ true ∷ false ∷ false ∷ []
  pub touching : InOrder 1 (span 1 3 ∷ span 3 4 ∷ [])
  pub overlapping : InOrder 0 (span 1 3 ∷ span 2 4 ∷ []) → ⊥
  pub empty : InOrder 0 (span 1 1 ∷ []) → ⊥
  pub watermark : IsWatermark 2 kill_marks
  pub tiled : Tiled kill_marks

-- where cuts end: at the last end within reach, else at the first one behind, and never at the start itself
pub record WorkedCuts : Type 0 where
  pub from_start : map (cut_end three_ends 0) (1 ∷ 2 ∷ 3 ∷ 11 ∷ 12 ∷ 13 ∷ 14 ∷ 99 ∷ [])
      ≡ Some 3 ∷ Some 3 ∷ Some 3 ∷ Some 3 ∷ Some 12 ∷ Some 12 ∷ Some 14 ∷ Some 14 ∷ []
  pub from_an_end : map (cut_end three_ends 3) (1 ∷ 8 ∷ 9 ∷ 10 ∷ 11 ∷ [])
      ≡ Some 12 ∷ Some 12 ∷ Some 12 ∷ Some 12 ∷ Some 14 ∷ []
  pub from_behind : map (λ lo. cut_end three_ends lo 4) (10 ∷ 12 ∷ 13 ∷ 14 ∷ 15 ∷ [])
      ≡ Some 14 ∷ Some 14 ∷ Some 14 ∷ None ∷ None ∷ []
  pub in_a_row : map (cuts 9 three_ends 4) (0 ∷ 3 ∷ 14 ∷ [])
      ≡ (span 0 3 ∷ span 3 12 ∷ span 12 14 ∷ []) ∷ (span 3 12 ∷ span 12 14 ∷ []) ∷ [] ∷ []
  pub rounds : in_rounds 3
      ((fresh [] 0 1 ∷ fresh [] 1 2 ∷ fresh [] 2 3 ∷ []) ∷ (fresh [] 3 4 ∷ []) ∷ []
      ∷ (fresh [] 4 5 ∷ fresh [] 5 6 ∷ []) ∷ [])
      ≡ fresh [] 0 1 ∷ fresh [] 3 4 ∷ fresh [] 4 5 ∷ fresh [] 1 2 ∷ fresh [] 5 6 ∷ fresh [] 2 3 ∷ []

-- which partitions are taken, and from where
pub record WorkedPartitions : Type 0 where
  pub short : map is_short (letters 180 ∷ letters 181 ∷ replicate 60 47 ∷ replicate 61 47 ∷ [])
      ≡ true ∷ false ∷ true ∷ false ∷ []
  pub kept : map (is_kept of_web) (codes "web/b" ∷ codes "a" ∷ codes "we" ∷ (codes "web" ++ letters 178) ∷ [])
      ≡ true ∷ false ∷ false ∷ false ∷ []
  pub too_long_names : too_long of_web (codes "web/b" ∷ letters 181 ∷ (codes "web" ++ letters 178) ∷ [])
      ≡ (codes "web" ++ letters 178) ∷ []
  pub listed : map (is_listed three_held of_web) (codes "web/b" ∷ codes "a" ∷ codes "web/z" ∷ [])
      ≡ true ∷ false ∷ false ∷ []
  pub next : map (next_of two_known) (codes "a" ∷ codes "web/b" ∷ codes "web/c" ∷ []) ≡ 6 ∷ 4 ∷ 0 ∷ []
  pub shrunk : map (first_shrunk two_known)
      (((codes "a", 6) ∷ (codes "web/b", 3) ∷ []) ∷ ((codes "a", 5) ∷ (codes "web/b", 3) ∷ [])
      ∷ ((codes "a", 7) ∷ (codes "c", 0) ∷ []) ∷ [])
      ≡ Some (codes "web/b", 3) ∷ Some (codes "a", 5) ∷ None ∷ []
  pub ranges : range_count two_known ≡ 5

-- the owed ranges first, and then as many new ones as there may be
pub record WorkedOrder : Type 0 where
  pub owed_first : units_of_parts two_known three_held of_web
      ≡ whole_owed_unit (codes "a") 0 2 false ∷ whole_owed_unit (codes "a") 4 6 false ∷ whole_owed_unit
      (codes "web/b") 2 4 true
      ∷ fresh (codes "web/b") 4 6 ∷ fresh (codes "web/c") 0 2 ∷ []
  pub more_at_once : units_of_parts two_known three_held (record of_web { max_new_units = 3; max_bytes = 4 })
      ≡ whole_owed_unit (codes "a") 0 2 false ∷ whole_owed_unit (codes "a") 4 6 false ∷ whole_owed_unit
      (codes "web/b") 2 4 true
      ∷ fresh (codes "web/b") 4 8 ∷ fresh (codes "web/c") 0 4 ∷ fresh (codes "web/b") 8 10 ∷ []
  pub new_of_one : fresh_in (codes "web/b") (units_of_parts two_known three_held of_web)
      ≡ fresh (codes "web/b") 4 6 ∷ []
  pub same_units : map (same_unit killed_unit)
      (fresh (codes "a.log") 2 4 ∷ fresh (codes "a.log") 2 5 ∷ fresh (codes "a.log") 1 4 ∷ fresh (codes "b") 2 4 ∷ [])
      ≡ true ∷ false ∷ false ∷ false ∷ []

-- all tables of ranges and units
pub record WorkedUnits : Type 0 where
  pub of_ranges : WorkedRanges
  pub of_cuts : WorkedCuts
  pub of_partitions : WorkedPartitions
  pub of_order : WorkedOrder
