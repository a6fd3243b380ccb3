-- What is UTF-8: escaped names, and bytes of which names and keys are made.
use Rattle.std.proofs.Common.{◌≡◌, ℕ, ◌<◌, Bool, true, cond, ◌&&◌}
use Rattle.std.proofs.Common.{nat_le, List, [], ◌∷◌, All, IsUtf8, sym}
use Rattle.std.proofs.Common.{length, arith}
use Rattle.std.specs.List.{list_all}
use Rattle.std.proofs.lemmas.Bool.{and_parts, cond_both, true≢false}
use Rattle.std.proofs.lemmas.Bool.Decides.{nat_tests}
use Rattle.std.proofs.lemmas.List.Elements.{All-nil, All-cons, All-append, All-weaker}
use Rattle.std.proofs.lemmas.Str.{IsUtf8-from_ascii}
use Rattle.std.proofs.lemmas.Str.Ascii.{IsAscii-from_all}
use Rattle.percent_encoding.specs.Percent.{percent_encode_byte}
use Rattle.percent_encoding.proofs.PercentLemmas.{IsEscapeByte, All-percent_encode_byte}
use Rattle.gob_bytes.specs.Escapes.{is_plain, escape_of}
use Rattle.gob_bytes.specs.Names.{is_column_name}
use Rattle.gob_jobs.specs.Pipelines.{is_key}
use Rattle.gob_job.specs.LookUps.{is_look_up_byte}

-- an ASCII byte
abbrev IsLow : ℕ → Type 0
IsLow b = b < 128

plain_low : (b : ℕ) → is_plain b ≡ true → IsLow b
plain_low b is = grind (arith, nat_tests)

key_low : (b : ℕ) → is_look_up_byte b ≡ true → IsLow b
key_low b is = grind (arith, nat_tests)

escape_low : (b : ℕ) → IsEscapeByte b → IsLow b
escape_low b is = omega arith

all_low : (f : ℕ → Bool) → ((b : ℕ) → f b ≡ true → IsLow b) → (bs : List ℕ) → list_all f bs ≡ true → All IsLow bs
all_low f low [] all = All-nil IsLow
all_low f low (b ∷ bs) all =
    let p = and_parts (f b) (list_all f bs) all in All-cons IsLow b bs (low b p.0) (all_low f low bs p.1)

low_text : (bs : List ℕ) → All IsLow bs → IsUtf8 bs
low_text bs all = IsUtf8-from_ascii bs (IsAscii-from_all bs all)

escaped_low : (bs : List ℕ) → All IsLow (escape_of bs)
unfolding escape_of
escaped_low [] = All-nil IsLow
escaped_low (b ∷ bs) =
    All-append IsLow (cond (is_plain b) (b ∷ []) (percent_encode_byte b)) (escape_of bs)
    (cond_both (is_plain b) (b ∷ []) (percent_encode_byte b) (All IsLow)
    (λ plain. All-cons IsLow b [] (plain_low b plain) (All-nil IsLow))
    (λ _. All-weaker IsEscapeByte IsLow escape_low (percent_encode_byte b) (All-percent_encode_byte b)))
    (escaped_low bs)

-- an escaped name is a text
pub escaped_text : (bs : List ℕ) → IsUtf8 (escape_of bs)
escaped_text bs = low_text (escape_of bs) (escaped_low bs)

-- so is a column name
pub name_text : (word : List ℕ) → is_column_name word ≡ true → IsUtf8 word
unfolding is_column_name
name_text word is =
    let p = and_parts (nat_le 1 (length word) && nat_le (length word) 64) (list_all is_plain word) is in
    low_text word (all_low is_plain plain_low word p.1)

-- and a key of a pipeline text
pub key_text : (key : List ℕ) → is_key key ≡ true → IsUtf8 key
key_text [] is = absurd (true≢false (sym is))
key_text (b ∷ bs) is = low_text (b ∷ bs) (all_low is_look_up_byte key_low (b ∷ bs) is)
