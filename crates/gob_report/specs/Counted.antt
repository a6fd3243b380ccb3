-- How many of some ranges each pipeline made, and lists of counts.
use Rattle.std.specs.Prelude.{ℕ, ◌+◌, List, [], ◌∷◌, codes, nat_eq}
use Rattle.std.specs.List.{count_by, enumerate_from, flat_map, sum_by}
use Rattle.std.specs.Fmt.{decimal}
use Rattle.gob_bytes.specs.Tables.{Table}
use Rattle.gob_bytes.specs.Words.{words}
use Rattle.gob_ledger.specs.Marks.{Done, Marks}

-- how many of these ranges a pipeline made
abbrev pub ranges_made_by : List Done → ℕ → ℕ
ranges_made_by ds index = count_by (λ d. nat_eq d.pipeline index) ds

-- how many ranges of these partitions a pipeline made
abbrev pub made_in : Table Marks → ℕ → ℕ
made_in parts index = sum_by (λ e. ranges_made_by e.1.finished index) parts

-- counts, the first of which has this index, with what is to be added to each
abbrev pub counted_from : ℕ → List ℕ → (ℕ → ℕ) → List ℕ
counted_from index [] more = []
counted_from index (n ∷ ns) more = (n + more index) ∷ counted_from (index + 1) ns more

-- a pipeline and how many ranges it made
abbrev pub range_line : ℕ × ℕ → List ℕ
range_line p = words (codes "pipeline") (decimal p.0 ∷ codes "ranges" ∷ decimal p.1 ∷ [])

-- a line for each of these counts
abbrev pub range_count_lines : List ℕ → List ℕ
range_count_lines counts = flat_map range_line (enumerate_from 0 counts)
