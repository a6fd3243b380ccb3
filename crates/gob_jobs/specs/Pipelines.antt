-- Pipeline texts: a line for each key with its value.
use Rattle.std.specs.Prelude.{◌≡◌, ℕ, ◌<◌, Bool, true, false, ◌&&◌, ◌||◌, nat_eq, if◌then◌else◌, List, [], ◌∷◌, ◌++◌}
use Rattle.std.specs.declared.option.Option.{Option}
use Rattle.std.specs.declared.option.Option.TheVariants.{None, Some}
use Rattle.std.specs.Option.{option_or}
use Rattle.std.specs.List.{All, flat_map, list_all}
use Rattle.std.specs.Str.{bytes_eq}
use Rattle.percent_encoding.specs.Percent.{percent_decode}
use Rattle.gob_bytes.specs.Escapes.{escape_of, is_letter, is_digit}
use Rattle.gob_jobs.specs.Words.{both, only_if, is_empty, pieces}

-- a key and its value
abbrev pub Setting : Type 0
Setting = List ℕ × List ℕ

-- a key of a pipeline text: letters, digits and dots
abbrev pub is_key : List ℕ → Bool
is_key [] = false
is_key (b ∷ bs) = list_all (λ c. is_letter c || is_digit c || nat_eq c 46) (b ∷ bs)

-- a key with its value, which are bytes
pub record IsSetting (key value : List ℕ) : Type 0 where
  pub keyed : is_key key ≡ true
  pub bytes : All (λ b. b < 256) value

abbrev pub setting_line : Setting → List ℕ
setting_line s = s.0 ++ 61 ∷ escape_of s.1 ++ 10 ∷ []

-- the text of settings
abbrev pub pipeline_text : List Setting → List ℕ
pipeline_text settings = flat_map setting_line settings

-- a text that describes a pipeline: a line for each setting
abbrev pub IsPipeline : List ℕ → Type 0
IsPipeline text = (settings : List Setting) × All (λ s. IsSetting s.0 s.1) settings × (text ≡ pipeline_text settings)

-- ---- reading

-- the value that is escaped so; bytes have one spelling
abbrev pub unescaped_value : List ℕ → Option (List ℕ)
unescaped_value text = if bytes_eq (escape_of (percent_decode text)) text then Some (percent_decode text) else None

-- the setting of a line's two pieces, cut at `=`
abbrev pub setting_of_pieces : List (List ℕ) → Option Setting
setting_of_pieces (key ∷ value ∷ []) = both (λ k v. (k, v)) (only_if is_key key) (unescaped_value value)
setting_of_pieces _ = None

-- the settings of lines, of which the last has no end and is empty
abbrev pub settings_of_lines : List (List ℕ) → Option (List Setting)
settings_of_lines [] = None
settings_of_lines (line ∷ []) = if is_empty line then Some [] else None
settings_of_lines (line ∷ next ∷ lines) =
    both (λ s ss. s ∷ ss) (setting_of_pieces (pieces (nat_eq 61) line)) (settings_of_lines (next ∷ lines))

-- the settings of a pipeline text
unfoldable pub settings_in : List ℕ → Option (List Setting)
settings_in text = settings_of_lines (pieces (nat_eq 10) text)

-- the value at a key; the last of equal keys counts
abbrev pub last_value : List Setting → List ℕ → Option (List ℕ)
last_value [] key = None
last_value (s ∷ ss) key = option_or (last_value ss key) (if bytes_eq key s.0 then Some s.1 else None)
