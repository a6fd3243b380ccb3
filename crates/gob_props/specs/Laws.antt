-- What a properties text says, in the words of its format: laws of the definitions beside this file.
use Rattle.std.specs.Prelude.{◌≡◌, ◌⊎◌, ◌↔◌, ℕ, Bool, true, false, cond, not, ◌&&◌, ◌||◌, nat_eq, List, [], ◌∷◌, ◌++◌}
use Rattle.std.specs.Prelude.{map}
use Rattle.std.specs.Prelude.{if◌then◌else◌, is_some, encode_utf8_all, fold}
use Rattle.std.specs.declared.option.Option.TheVariants.{Some}
use Rattle.std.specs.declared.result.Result.TheVariants.{Ok}
use Rattle.std.specs.List.{flat_map, list_all}
use Rattle.std.specs.Str.{all_scalars, bytes_eq}
use Rattle.gob_bytes.specs.Tables.{at_name, names_of}
use Rattle.gob_props.specs.Properties.{is_line_end, natural_lines, is_backslash, is_separator, KeyValue, with_entry}
use Rattle.gob_props.specs.Properties.{properties_of}

-- ---- natural lines

-- no line feed and no carriage return
abbrev pub has_no_end : List ℕ → Bool
has_no_end line = list_all (λ c. not (is_line_end c)) line

abbrev pub begins_with_feed : List ℕ → Bool
begins_with_feed [] = false
begins_with_feed (c ∷ cs) = nat_eq c 10

-- a line end, where this follows it: a line feed, a carriage return and a line feed, or a carriage return alone
abbrev pub IsEnd : List ℕ → List ℕ → Type 0
IsEnd end rest =
    (end ≡ 10 ∷ []) ⊎ ((end ≡ 13 ∷ 10 ∷ []) ⊎ ((end ≡ 13 ∷ []) × (begins_with_feed rest ≡ false)))

-- the lines with line ends between them are the text, and none of them holds a line end
abbrev pub AreNatural : List (List ℕ) → List ℕ → Type 0
AreNatural [] text = ⊥
AreNatural (l ∷ []) text = (has_no_end l ≡ true) × (text ≡ l)
AreNatural (l ∷ m ∷ ls) text = (has_no_end l ≡ true)
    × ((end : List ℕ) × (rest : List ℕ) × IsEnd end rest × (text ≡ l ++ (end ++ rest)) × AreNatural (m ∷ ls) rest)

-- a text's natural lines are those that make it up so, and no others do
abbrev pub NaturalLinesAreTheText : Type 0
NaturalLinesAreTheText = (lines : List (List ℕ)) (text : List ℕ) → (natural_lines text ≡ lines) ↔ AreNatural lines text

-- ---- entries

-- a key that is there takes the value in its place, another goes last
pub record PutsEntry (es : List KeyValue) (new : KeyValue) : Type 0 where
  pub values : (key : List ℕ) →
      at_name (with_entry es new) key ≡ cond (bytes_eq key new.0) (Some new.1) (at_name es key)
  pub keys : names_of (with_entry es new) ≡ cond (is_some (at_name es new.0)) (names_of es) (names_of es ++ new.0 ∷ [])

-- a key or a value as characters, and with its key
abbrev pub Written : Type 0
Written = List ℕ × List ℕ

-- the characters that mean themselves only after a backslash
abbrev pub needs_backslash : ℕ → Bool
needs_backslash c = is_separator c || is_backslash c || nat_eq c 35 || nat_eq c 33

-- a character as it may be written
abbrev pub spelled_character : ℕ → List ℕ
spelled_character c = if nat_eq c 10 then 92 ∷ 110 ∷ [] else (if nat_eq c 13 then 92 ∷ 114 ∷ [] else
    (if needs_backslash c then 92 ∷ c ∷ [] else c ∷ []))

abbrev pub spelled_text : List ℕ → List ℕ
spelled_text text = flat_map spelled_character text

-- an entry on a line of its own
abbrev pub line_of : Written → List ℕ
line_of e = spelled_text e.0 ++ 61 ∷ spelled_text e.1

abbrev pub written_text : List Written → List ℕ
written_text es = flat_map (λ e. line_of e ++ 10 ∷ []) es

abbrev pub are_scalars : List Written → Bool
are_scalars es = list_all (λ e. all_scalars e.0 && all_scalars e.1) es

abbrev pub in_bytes : Written → KeyValue
in_bytes e = (encode_utf8_all e.0, encode_utf8_all e.1)

-- entries that are written out are read back: each is put behind those before it, so that the last of equal keys
-- counts,
-- in the place of the first
abbrev pub EntriesReadBack : Type 0
EntriesReadBack = (es : List Written) → are_scalars es ≡ true →
    properties_of (encode_utf8_all (written_text es)) ≡ Ok (fold with_entry [] (map in_bytes es))
