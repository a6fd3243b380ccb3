-- The parts of a state's text.
use Rattle.std.specs.Prelude.{◌≡◌, ℕ, List, [], ◌∷◌, ◌++◌, length, codes}
use Rattle.std.specs.List.{AllByRecursion, IsDistinct}
use Rattle.std.specs.Str.{bytes_eq}
use Rattle.gob_bytes.specs.Tables.{Table}
use Rattle.gob_bytes.specs.Words.{numbered_line}
use Rattle.gob_plan.specs.declared.units.Counts.{Counts}
use Rattle.gob_ledger.specs.Marks.{Marks}
use Rattle.gob_ledger.specs.Spelling.{Version, version_1, version_2, FitsVersion, IsKeptPipeline, Proper, ReadsAs}
use Rattle.gob_ledger.specs.Spelling.{Small, parts_text, pipelines_text, totals_text}
use Rattle.gob_ledger.specs.State as states
use Rattle.gob_state.specs.Counts.{AreTotals}
use Rattle.gob_state.specs.Parts.{AreParts}

-- how many pipelines there are, where the version tells it
abbrev pub count_line : Version → ℕ → List ℕ
count_line version_1 n = []
count_line version_2 n = numbered_line (codes "pipelines") (n ∷ [])

abbrev pub CountFits : Version → ℕ → Type 0
CountFits version_1 n = n ≡ 1
CountFits version_2 n = Small n

-- pipelines that the version can tell
abbrev pub ArePipelinesOf : Version → List (List ℕ) → Type 0
ArePipelinesOf v ps = AllByRecursion IsKeptPipeline ps × CountFits v (length ps) × IsDistinct bytes_eq ps

abbrev pub counted_text : Version → Counts × Table Marks → List ℕ
counted_text v z = totals_text z.0 ++ parts_text v z.1

-- totals and partitions, with pipelines of so many
abbrev pub AreCounted : Version → ℕ → Counts × Table Marks → Type 0
AreCounted v n z = AreTotals z.0 × AreParts v n z.1

abbrev pub rest_text : Version → List (List ℕ) × (Counts × Table Marks) → List ℕ
rest_text v z = pipelines_text v z.0 ++ counted_text v z.1

-- all but a state's first and last line
abbrev pub state_rest : Version → states.State → List ℕ
state_rest v s = numbered_line (codes "run") (s.run ∷ []) ++ rest_text v (s.pipelines, (s.totals, s.parts))

-- a state that can be kept and that the version can tell
abbrev pub IsToldBy : Version → states.State → Type 0
IsToldBy v s = Proper s × FitsVersion v s

-- the bytes are the text of no state
abbrev pub NoStateIn : List ℕ → Type 0
NoStateIn bytes = (v : Version) (s : states.State) → ReadsAs v bytes s → ⊥
