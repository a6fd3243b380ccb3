-- The texts of pipelines, line by line.
use Rattle.std.specs.Prelude.{◌≡◌, ◌||◌, nat_eq, Bool, ℕ, List, [], ◌∷◌, ◌++◌, length}
use Rattle.std.specs.List.{AllByRecursion, flat_map}
use Rattle.gob_bytes.specs.Escapes.{escape_of, is_letter, is_digit}
use Rattle.gob_jobs.specs.Pipelines.{Setting, IsSetting}
use Rattle.gob_ledger.specs.Spelling.{IsKeptPipeline}

-- a byte of a key
abbrev pub is_key_byte : ℕ → Bool
is_key_byte c = is_letter c || is_digit c || nat_eq c 46

-- a line that sets a key
abbrev pub IsSettingLine : List ℕ → Type 0
IsSettingLine line = (s : Setting) × IsSetting s.0 s.1 × (line ≡ s.0 ++ 61 ∷ escape_of s.1)

-- a line with its end
abbrev pub whole_line : List ℕ → List ℕ
whole_line line = line ++ 10 ∷ []

-- so many lines, each setting a key
abbrev pub AreSettingLines : ℕ → List (List ℕ) → Type 0
AreSettingLines n lines = AllByRecursion IsSettingLine lines × (length lines ≡ n)

-- a text of so many lines, each setting a key
abbrev pub IsSettingsText : ℕ → List ℕ → Type 0
IsSettingsText n text = (lines : List (List ℕ)) × AreSettingLines n lines × (text ≡ flat_map whole_line lines)

-- so many pipelines
abbrev pub ArePipelines : ℕ → List (List ℕ) → Type 0
ArePipelines n ps = AllByRecursion IsKeptPipeline ps × (length ps ≡ n)
