-- The versions of files, as the code tells them.
use Rattle.std.specs.Prelude.{ℕ, List, [], ◌∷◌}
use Rattle.gob_bytes.specs.Words.{numbered_line}
use Rattle.gob_ledger.specs.Spelling as spelling
use Rattle.gob_state.specs.declared.version.Version.{Version}
use Rattle.gob_state.specs.declared.version.Version.TheVariants.{First, Second}

abbrev pub version_of : Version → spelling.Version
version_of First = spelling.version_1
version_of Second = spelling.version_2

-- the first line of a file
abbrev pub version_line : List ℕ → Version → List ℕ
version_line kind v = numbered_line kind (spelling.version_number (version_of v) ∷ [])

abbrev pub AnyVersion : Version → Type 0
AnyVersion v = Unit {0}
