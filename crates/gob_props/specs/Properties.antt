-- What a properties text says: first its natural lines, then its logical lines, then each one's key and value, and then
-- the escapes in these. A text is a list of characters.
use Rattle.std.specs.Prelude.{ℕ, zero, suc, ◌+◌, ◌-◌, ◌*◌, ◌%◌, Bool, true, false, cond, ◌&&◌, ◌||◌, not, nat_eq}
use Rattle.std.specs.Prelude.{if◌then◌else◌, nat_le, List, [], ◌∷◌, ◌++◌, length, take, drop, fold, encode_utf8_all}
use Rattle.std.specs.declared.option.Option.{Option}
use Rattle.std.specs.declared.option.Option.TheVariants.{None, Some}
use Rattle.std.specs.declared.result.Result.{Result}
use Rattle.std.specs.declared.result.Result.TheVariants.{Ok, Err}
use Rattle.std.specs.Option.{option_map, option_and_then}
use Rattle.std.specs.List.{suffix_len, list_all}
use Rattle.std.specs.Char.{is_digit}
use Rattle.std.specs.Str.{chars, is_utf8, bytes_eq}
use Rattle.std.specs.Str.Parse.{digits_value}
use Rattle.gob_props.specs.declared.fault.PropsFault.{PropsFault}
use Rattle.gob_props.specs.declared.fault.PropsFault.TheVariants.{NotUtf8, BadEscape}

-- ---- natural lines

-- a line feed or a carriage return
abbrev pub is_line_end : ℕ → Bool
is_line_end c = nat_eq c 10 || nat_eq c 13

-- the natural lines of a text whose first line has begun with these characters; a carriage return and a line feed
-- after it
-- are one end
unfoldable pub natural_from : List ℕ → List ℕ → List (List ℕ)
natural_from begun [] = begun ∷ []
natural_from begun (c ∷ []) = cond (is_line_end c) (begun ∷ [] ∷ []) ((begun ++ c ∷ []) ∷ [])
natural_from begun (c ∷ d ∷ cs) = cond (nat_eq c 13 && nat_eq d 10) (begun ∷ natural_from [] cs)
    (cond (is_line_end c) (begun ∷ natural_from [] (d ∷ cs)) (natural_from (begun ++ c ∷ []) (d ∷ cs)))

abbrev pub natural_lines : List ℕ → List (List ℕ)
natural_lines text = natural_from [] text

-- ---- logical lines

-- white space: a space, a tab or a form feed
abbrev pub is_white_space : ℕ → Bool
is_white_space c = nat_eq c 32 || nat_eq c 9 || nat_eq c 12

abbrev pub is_backslash : ℕ → Bool
is_backslash c = nat_eq c 92

-- a text without white space in front
abbrev pub without_white_space : List ℕ → List ℕ
without_white_space [] = []
without_white_space (c ∷ cs) = cond (is_white_space c) (without_white_space cs) (c ∷ cs)

-- nothing, or a text that begins with '#' or '!'
abbrev pub is_comment : List ℕ → Bool
is_comment [] = true
is_comment (c ∷ cs) = nat_eq c 35 || nat_eq c 33

-- a natural line that begins no logical line: a blank one, or a comment
abbrev pub is_passed_over : List ℕ → Bool
is_passed_over line = is_comment (without_white_space line)

-- the next natural line goes on with this one, which ends with an odd number of backslashes
unfoldable pub goes_on : List ℕ → Bool
goes_on line = nat_eq (suffix_len is_backslash line % 2) 1

-- what a natural line adds to its logical line: all but white space in front and the backslash that makes the next one
-- go on
abbrev pub part_of : List ℕ → List ℕ
part_of line = cond (goes_on line) (take (length (without_white_space line) - 1) (without_white_space line))
    (without_white_space line)

-- a logical line, and the number of the natural line that begins it
pub record Logical : Type 0 where
  pub number : ℕ
  pub text : List ℕ

-- the logical line with one more natural line
abbrev pub with_line : Logical → List ℕ → Logical
with_line begun line = record { number = begun.number; text = begun.text ++ part_of line }

-- the logical lines of natural lines, the first of which has this number, and goes on with the logical line that has
-- begun,
-- if one has
unfoldable pub logical_from : Option Logical → ℕ → List (List ℕ) → List Logical
logical_from None n [] = []
logical_from None n (line ∷ lines) = cond (is_passed_over line) (logical_from None (n + 1) lines)
    (cond (goes_on line) (logical_from (Some (with_line (record { number = n; text = [] }) line)) (n + 1) lines)
    (with_line (record { number = n; text = [] }) line ∷ logical_from None (n + 1) lines))
logical_from (Some begun) n [] = begun ∷ []
logical_from (Some begun) n (line ∷ lines) =
    cond (goes_on line) (logical_from (Some (with_line begun line)) (n + 1) lines)
    (with_line begun line ∷ logical_from None (n + 1) lines)

abbrev pub logical_lines : List ℕ → List Logical
logical_lines text = logical_from None 1 (natural_lines text)

-- ---- key and value

-- '=' or ':'
abbrev pub is_key_end : ℕ → Bool
is_key_end c = nat_eq c 61 || nat_eq c 58

abbrev pub is_separator : ℕ → Bool
is_separator c = is_key_end c || is_white_space c

-- how long the key is: it ends at the first mark or white space that no backslash escapes. The test says whether the
-- character before escapes the first of these
abbrev pub key_length : Bool → List ℕ → ℕ
key_length escaped [] = 0
key_length escaped (c ∷ cs) = cond (not escaped && is_separator c) 0 (1 + key_length (not escaped && is_backslash c) cs)

-- a text without one mark in front
abbrev pub without_mark : List ℕ → List ℕ
without_mark [] = []
without_mark (c ∷ cs) = cond (is_key_end c) cs (c ∷ cs)

unfoldable pub key_part : List ℕ → List ℕ
key_part text = take (key_length false text) text

-- what follows the key, white space, at most one mark, and white space again
unfoldable pub value_part : List ℕ → List ℕ
value_part text = without_white_space (without_mark (without_white_space (drop (key_length false text) text)))

-- ---- escapes

-- a character, and what follows it
pub record Character : Type 0 where
  pub value : ℕ
  pub after : List ℕ

-- what a character means after a backslash: `t`, `n`, `r` and `f` are a tab, LF, CR and form feed, others themselves
abbrev pub meaning_of : ℕ → ℕ
meaning_of c =
    if nat_eq c 116 then 9
    else (if nat_eq c 110 then 10
    else (if nat_eq c 114 then 13
    else (if nat_eq c 102 then 12 else c)))

-- the UTF-16 code unit of four hexadecimal digits at the front
unfoldable pub code_unit : List ℕ → Option ℕ
code_unit cs = cond (nat_eq (length (take 4 cs)) 4 && list_all (λ c. is_digit c 16) (take 4 cs))
    (Some (digits_value 16 (take 4 cs))) None

-- the code unit that is escaped at the front: a backslash, `u` and four digits
abbrev pub escaped_unit : List ℕ → Option ℕ
escaped_unit [] = None
escaped_unit (c ∷ []) = None
escaped_unit (c ∷ d ∷ cs) = cond (is_backslash c && nat_eq d 117) (code_unit cs) None

-- the two halves of a character above U+FFFF
abbrev pub is_high : ℕ → Bool
is_high unit = nat_le 0xD800 unit && nat_le unit 0xDBFF

abbrev pub is_low : ℕ → Bool
is_low unit = nat_le 0xDC00 unit && nat_le unit 0xDFFF

-- the character of a high surrogate, where an escaped low one follows at once
abbrev pub paired_character : ℕ → List ℕ → Option ℕ → Option Character
paired_character high after None = None
paired_character high after (Some low) = cond (is_low low)
    (Some (record { value = 0x10000 + (high - 0xD800) * 0x400 + (low - 0xDC00); after = drop 6 after })) None

-- the character of a code unit with this text after it; a surrogate alone is none
abbrev pub coded_character : List ℕ → Option ℕ → Option Character
coded_character after None = None
coded_character after (Some unit) = cond (is_high unit) (paired_character unit after (escaped_unit after))
    (cond (is_low unit) None (Some (record { value = unit; after = after })))

-- the character of an escape, by what follows its backslash; a logical line never ends within one
abbrev pub escape : List ℕ → Option Character
escape [] = None
escape (c ∷ cs) = cond (nat_eq c 117) (coded_character (drop 4 cs) (code_unit cs))
    (Some (record { value = meaning_of c; after = cs }))

-- the first character of a text
unfoldable pub first_character : ℕ → List ℕ → Option Character
first_character c cs = cond (is_backslash c) (escape cs) (Some (record { value = c; after = cs }))

-- up to so many characters of a text, one by one; none where an escape is malformed
unfoldable pub read_characters : ℕ → List ℕ → Option (List ℕ)
read_characters n [] = Some []
read_characters zero (c ∷ cs) = None
read_characters (suc n) (c ∷ cs) = option_and_then
    (λ (x : Character). option_map (λ later. x.value ∷ later) (read_characters n x.after)) (first_character c cs)

-- the text without escapes
abbrev pub without_escapes : List ℕ → Option (List ℕ)
without_escapes text = read_characters (length text) text

-- ---- entries

-- a key and its value, in UTF-8
abbrev pub KeyValue : Type 0
KeyValue = List ℕ × List ℕ

abbrev pub paired_up : Option (List ℕ) → Option (List ℕ) → Option KeyValue
paired_up None value = None
paired_up (Some key) None = None
paired_up (Some key) (Some value) = Some (encode_utf8_all key, encode_utf8_all value)

-- the entry of a logical line's text; none where an escape is malformed
unfoldable pub key_value_of : List ℕ → Option KeyValue
key_value_of text = paired_up (without_escapes (key_part text)) (without_escapes (value_part text))

-- an entry before the others, unless it or one of them is malformed; the first such line counts
abbrev pub put_first : ℕ → Option KeyValue → Result (List KeyValue) PropsFault → Result (List KeyValue) PropsFault
put_first number None later = Err (BadEscape number)
put_first number (Some e) (Ok es) = Ok (e ∷ es)
put_first number (Some e) (Err fault) = Err fault

-- the entries of logical lines in their order; an empty line has none
unfoldable pub all_entries : List Logical → Result (List KeyValue) PropsFault
all_entries [] = Ok []
all_entries (l ∷ ls) = cond (nat_eq (length l.text) 0) (all_entries ls)
    (put_first l.number (key_value_of l.text) (all_entries ls))

-- the entries with one more: a key that is there keeps its place and takes the value, another goes last
abbrev pub with_entry : List KeyValue → KeyValue → List KeyValue
with_entry [] new = new ∷ []
with_entry (e ∷ es) new = cond (bytes_eq new.0 e.0) ((e.0, new.1) ∷ es) (e ∷ with_entry es new)

-- these entries and those that are read after them
abbrev pub with_all : List KeyValue → Result (List KeyValue) PropsFault → Result (List KeyValue) PropsFault
with_all es (Ok later) = Ok (fold with_entry es later)
with_all es (Err fault) = Err fault

-- the keys and values of a text, or why it has none
abbrev pub read_text : List ℕ → Result (List KeyValue) PropsFault
read_text text = with_all [] (all_entries (logical_lines text))

-- the keys and values of a file, in the order of the keys' first places, or why it has none
unfoldable pub properties_of : List ℕ → Result (List KeyValue) PropsFault
properties_of bytes = cond (is_utf8 bytes) (read_text (chars bytes)) (Err NotUtf8)
