-- The text of a partition, and of all partitions.
use Rattle.std.specs.Prelude.{◌≢◌, ◌<◌, ℕ, List, ◌∷◌, ◌++◌, codes}
use Rattle.std.specs.List.{AllByRecursion}
use Rattle.gob_bytes.specs.Escapes.{escape_of}
use Rattle.gob_bytes.specs.Tables.{Table, names_of, IsInByteOrder}
use Rattle.gob_ledger.specs.Marks.{Marks}
use Rattle.gob_ledger.specs.Spelling.{Version, Small}
use Rattle.gob_text.specs.Words.{IsName}
use Rattle.gob_state.specs.Reads.{spaced_last}
use Rattle.gob_state.specs.Ranges.{AreMarks, NoRange, ranges_text}

-- a partition's name and its end, behind the word
abbrev pub head_text : List ℕ × ℕ → List ℕ
head_text p = (32 ∷ escape_of p.0) ++ spaced_last p.1

abbrev pub IsHead : List ℕ × ℕ → Type 0
IsHead p = IsName p.0 × Small p.1

-- a partition, behind the word
abbrev pub part_rest : Version → List ℕ × Marks → List ℕ
part_rest v e = head_text (e.0, e.1.next) ++ ranges_text v e.1

-- a partition that the version can tell, with pipelines of so many
abbrev pub IsPart : Version → ℕ → List ℕ × Marks → Type 0
IsPart v n e = IsName e.0 × AreMarks v n e.1 × (0 < e.1.next)

-- partitions in byte order
abbrev pub AreParts : Version → ℕ → Table Marks → Type 0
AreParts v n es = AllByRecursion (IsPart v n) es × IsInByteOrder (names_of es)

-- the partitions are at their end
pub record NoPart (text : List ℕ) : Type 0 where
  pub no_range : NoRange text
  pub no_part : (after : List ℕ) → text ≢ codes "partition" ++ after
  pub no_branch : (after : List ℕ) → text ≢ codes "branch" ++ after
