-- Properties texts and what they say.
use Rattle.std.proofs.Common.{◌≡◌, ℕ, List, [], ◌∷◌, ◌++◌, Ok, Err, refl}
use Rattle.std.specs.Prelude.{codes}
use Rattle.std.specs.Str.{chars, is_utf8}
use lib.Utf8.{encode}
use Rattle.gob_props.specs.Properties.{natural_from, goes_on, logical_from, key_part, value_part, code_unit}
use Rattle.gob_props.specs.Properties.{first_character, read_characters, key_value_of, all_entries, properties_of}
use Rattle.gob_props.specs.declared.fault.PropsFault.TheVariants.{NotUtf8, BadEscape}

-- keys and values: an escaped separator, an empty key, an empty value, no separator, white space around and behind
pub separators :
    (properties_of (codes "a" ++ (92 ∷ []) ++ codes "=b=c" ++ (10 ∷ [])) ≡ Ok ((codes "a=b", codes "c") ∷ []))
    × (properties_of (codes "a" ++ (92 ∷ []) ++ codes " b : c") ≡ Ok ((codes "a b", codes "c") ∷ []))
    × (properties_of (codes "=x" ++ (10 ∷ [])) ≡ Ok (([], codes "x") ∷ []))
    × (properties_of (codes "a=" ++ (10 ∷ [])) ≡ Ok ((codes "a", []) ∷ []))
    × (properties_of (codes "a" ++ (10 ∷ [])) ≡ Ok ((codes "a", []) ∷ []))
    × (properties_of (codes "a = b " ++ (10 ∷ [])) ≡ Ok ((codes "a", codes "b ") ∷ []))
    × (properties_of (codes "a==b") ≡ Ok ((codes "a", codes "=b") ∷ []))
    × (properties_of (codes "a b=c") ≡ Ok ((codes "a", codes "b=c") ∷ []))
    × (properties_of
    ((12 ∷ []) ++ codes " a" ++ (12 ∷ []) ++ codes "=" ++ (12 ∷ []) ++ codes "b" ++
    (12 ∷ 10 ∷ [])) ≡ Ok ((codes "a", codes "b" ++ (12 ∷ [])) ∷ []))
unfolding properties_of natural_from goes_on logical_from key_part value_part code_unit first_character read_characters
    key_value_of all_entries chars is_utf8 encode
separators = (refl, refl, refl, refl, refl, refl, refl, refl, refl)

-- each kind of line end, and a backslash at the end of the file
pub ends :
    (properties_of
    (codes "a=1" ++ (13 ∷ []) ++ codes "b=2" ++ (13 ∷ 10 ∷ []) ++ codes "c=3" ++ (10 ∷ 13 ∷ []) ++ codes "d=4") ≡
    Ok ((codes "a", codes "1") ∷ (codes "b", codes "2") ∷ (codes "c", codes "3") ∷ (codes "d", codes "4") ∷ []))
    × (properties_of (codes "a=b" ++ (92 ∷ [])) ≡ Ok ((codes "a", codes "b") ∷ []))
    × (properties_of (codes "a=b" ++ (92 ∷ 13 ∷ 10 ∷ []) ++ codes " c") ≡
    Ok ((codes "a", codes "bc") ∷ [])) × (properties_of ([]) ≡ Ok ([]))
unfolding properties_of natural_from goes_on logical_from key_part value_part code_unit first_character read_characters
    key_value_of all_entries chars is_utf8 encode
ends = (refl, refl, refl, refl)

-- lines that go on: by an odd number of backslashes, with a comment after, with a blank line after, an empty logical
-- line
pub continued :
    (properties_of (codes "a=b" ++ (92 ∷ 10 ∷ []) ++ codes "  #c" ++ (10 ∷ [])) ≡ Ok ((codes "a", codes "b#c") ∷ []))
    × (properties_of (codes "a=b" ++ (92 ∷ 92 ∷ 10 ∷ []) ++ codes "c=d") ≡
    Ok ((codes "a", codes "b" ++ (92 ∷ [])) ∷ (codes "c", codes "d") ∷ []))
    × (properties_of (codes "a=b" ++ (92 ∷ 92 ∷ 92 ∷ 10 ∷ []) ++ codes "c=d") ≡
    Ok ((codes "a", codes "b" ++ (92 ∷ []) ++ codes "c=d") ∷ []))
    × (properties_of (codes "a=b" ++ (92 ∷ 10 ∷ 10 ∷ []) ++ codes "c=d") ≡
    Ok ((codes "a", codes "b") ∷ (codes "c", codes "d") ∷ []))
    × (properties_of
    ((92 ∷ 10 ∷ 10 ∷ []) ++ codes "#x" ++ (92 ∷ 10 ∷ []) ++ codes " !y" ++
    (10 ∷ []) ++ codes " " ++ (9 ∷ 12 ∷ 10 ∷ []) ++ codes "c=d" ++ (10 ∷ [])) ≡
    Ok ((codes "c", codes "d") ∷ []))
    × (properties_of
    (codes "x=" ++ (92 ∷ []) ++ codes "u00" ++
    (92 ∷ 10 ∷ []) ++ codes "  41") ≡
    Ok ((codes "x", codes "A") ∷ []))
    × (properties_of
    (codes "# c" ++ (92 ∷ 10 ∷ []) ++ codes "a=1") ≡
    Ok ((codes "a", codes "1") ∷ []))
unfolding properties_of natural_from goes_on logical_from key_part value_part code_unit first_character read_characters
    key_value_of all_entries chars is_utf8 encode
continued = (refl, refl, refl, refl, refl, refl, refl)

-- the last of equal keys counts, in the place of the first
pub equal_keys :
    (properties_of (codes "a=1" ++ (10 ∷ []) ++ codes "b=2" ++ (10 ∷ []) ++ codes "a=3" ++ (10 ∷ [])) ≡
    Ok ((codes "a", codes "3") ∷ (codes "b", codes "2") ∷ []))
    × (properties_of (codes "a=1" ++ (10 ∷ 92 ∷ []) ++ codes "u0061=2" ++ (10 ∷ [])) ≡
    Ok ((codes "a", codes "2") ∷ []))
unfolding properties_of natural_from goes_on logical_from key_part value_part code_unit first_character read_characters
    key_value_of all_entries chars is_utf8 encode
equal_keys = (refl, refl)

-- escapes, and a pair of surrogates
pub escapes :
    (properties_of
    (codes "x=" ++ (92 ∷ []) ++ codes "t" ++ (92 ∷ []) ++ codes "n" ++ (92 ∷ []) ++ codes "r" ++
    (92 ∷ []) ++ codes "f" ++ (92 ∷ []) ++ codes "q" ++ (92 ∷ 92 ∷ 92 ∷ []) ++ codes "U" ++ (10 ∷ [])) ≡
    Ok ((codes "x", (9 ∷ 10 ∷ 13 ∷ 12 ∷ []) ++ codes "q" ++ (92 ∷ []) ++ codes "U") ∷ []))
    × (properties_of (codes "x=" ++ (92 ∷ []) ++ codes "u00e9" ++ (92 ∷ []) ++ codes "u20AC") ≡
    Ok ((codes "x", (195 ∷ 169 ∷ 226 ∷ 130 ∷ 172 ∷ [])) ∷ []))
    × (properties_of (codes "x=" ++ (92 ∷ []) ++ codes "uD83D" ++ (92 ∷ []) ++ codes "ude00!") ≡
    Ok ((codes "x", (240 ∷ 159 ∷ 152 ∷ 128 ∷ []) ++ codes "!") ∷ []))
    × (properties_of
    (codes "x=" ++ (92 ∷ []) ++ codes "ud83d" ++
    (92 ∷ 10 ∷ 92 ∷ []) ++ codes "ude00") ≡ Ok
    ((codes "x", (240 ∷ 159 ∷ 152 ∷ 128 ∷ [])) ∷ []))
    × (properties_of
    ((239 ∷ 187 ∷ 191 ∷ []) ++ codes "a=" ++ (195 ∷ 169 ∷ [])) ≡
    Ok ((
      (239 ∷ 187 ∷ 191 ∷ []) ++ codes "a",
      (195 ∷ 169 ∷ []),
    ) ∷ []))
unfolding properties_of natural_from goes_on logical_from key_part value_part code_unit first_character read_characters
    key_value_of all_entries chars is_utf8 encode
escapes = (refl, refl, refl, refl, refl)

-- malformed escapes, and the natural line that begins the logical one
pub bad_escapes :
    (properties_of (codes "source.format=lines" ++ (10 ∷ []) ++ codes "x=" ++ (92 ∷ []) ++ codes "u00zz" ++ (10 ∷ [])) ≡
    Err (BadEscape 2)) × (properties_of (codes "x=" ++ (92 ∷ []) ++ codes "u12") ≡ Err (BadEscape 1))
    × (properties_of (codes "x=" ++ (92 ∷ []) ++ codes "ud83d") ≡ Err (BadEscape 1))
    × (properties_of (codes "x=" ++ (92 ∷ []) ++ codes "ude00") ≡ Err (BadEscape 1))
    × (properties_of (codes "x=" ++ (92 ∷ []) ++ codes "ud83dA") ≡ Err (BadEscape 1))
    × (properties_of (codes "x=" ++ (92 ∷ []) ++ codes "ud83d" ++ (92 ∷ []) ++ codes "u0041") ≡
    Err (BadEscape 1))
    × (properties_of ((92 ∷ []) ++ codes "ud83d=" ++ (92 ∷ []) ++ codes "ude00") ≡
    Err (BadEscape 1))
    × (properties_of
    (codes "# c" ++ (13 ∷ 10 ∷ 13 ∷ 13 ∷ []) ++ codes "a=" ++
    (92 ∷ 10 ∷ []) ++ codes " b" ++ (92 ∷ 10 ∷ []) ++ codes " " ++
    (92 ∷ []) ++ codes "u00") ≡ Err (BadEscape 4))
    × (properties_of
    (codes "a=" ++ (92 ∷ []) ++ codes "u1" ++
    (10 ∷ []) ++ codes "b=" ++ (92 ∷ []) ++ codes "u2") ≡
    Err (BadEscape 1))
unfolding properties_of natural_from goes_on logical_from key_part value_part code_unit first_character read_characters
    key_value_of all_entries chars is_utf8 encode
bad_escapes = (refl, refl, refl, refl, refl, refl, refl, refl, refl)

-- bytes that are not UTF-8, in a comment and before a malformed escape too
pub not_utf8 : (properties_of (codes "# " ++ (255 ∷ 10 ∷ []) ++ codes "a=1") ≡ Err NotUtf8)
    × (properties_of (codes "a=" ++ (92 ∷ []) ++ codes "u1" ++ (10 ∷ []) ++ codes "b=" ++ (195 ∷ [])) ≡ Err NotUtf8)
    × (properties_of ((237 ∷ 160 ∷ 128 ∷ []) ++ codes "=1") ≡ Err NotUtf8)
unfolding properties_of natural_from goes_on logical_from key_part value_part code_unit first_character read_characters
    key_value_of all_entries chars is_utf8 encode
not_utf8 = (refl, refl, refl)

-- the job file of a web tier
abbrev clicks : List ℕ
clicks = (codes "# Clicks of the web tier" ++ 10 ∷ []) ++ (codes "job.name=clicks" ++ 10 ∷ []) ++
    (codes "source.class=files" ++ 10 ∷ []) ++ (codes "source.format=json" ++ 10 ∷ []) ++
    (codes "source.columns=ip:text, path:text, " ++ (92 ∷ []) ++ 10 ∷ []) ++ (codes "    status:int" ++ 10 ∷ []) ++
    (codes "! two branches" ++ 10 ∷ []) ++ (codes "fork.operator.class = first" ++ 10 ∷ []) ++
    (codes "fork.branches : 2" ++ 10 ∷ []) ++ (codes "fork.test.0=ge status 400" ++ 10 ∷ []) ++
    (codes "fork.test.1=not null status" ++ 10 ∷ []) ++
    (codes "converter.classes.0=keep status path" ++ 10 ∷ []) ++
    (codes "writer.format.0=csv" ++ 10 ∷ []) ++ (codes "writer.format.1=json" ++ 10 ∷ []) ++
    (codes "qualitychecker.row.policies.0=lt status 500" ++ 10 ∷ []) ++
    (codes "qualitychecker.row.policy.types.0=OPTIONAL" ++ 10 ∷ []) ++
    (codes "qualitychecker.task.policies=range records 1 1000" ++ 10 ∷ []) ++
    (codes "qualitychecker.task.policy.types=FAIL" ++ 10 ∷ []) ++
    (codes "job.commit.policy=successful" ++ 10 ∷ []) ++
    (codes "data.publisher.final.dir=${env:OUT}" ++ 10 ∷ [])

pub web_tier : properties_of clicks ≡
    Ok ((codes "job.name", codes "clicks") ∷ (codes "source.class", codes "files") ∷
    (codes "source.format", codes "json") ∷ (codes "source.columns", codes "ip:text, path:text, status:int") ∷
    (codes "fork.operator.class", codes "first") ∷ (codes "fork.branches", codes "2") ∷
    (codes "fork.test.0", codes "ge status 400") ∷ (codes "fork.test.1", codes "not null status") ∷
    (codes "converter.classes.0", codes "keep status path") ∷ (codes "writer.format.0", codes "csv") ∷
    (codes "writer.format.1", codes "json") ∷
    (codes "qualitychecker.row.policies.0", codes "lt status 500") ∷
    (codes "qualitychecker.row.policy.types.0", codes "OPTIONAL") ∷
    (codes "qualitychecker.task.policies", codes "range records 1 1000") ∷
    (codes "qualitychecker.task.policy.types", codes "FAIL") ∷
    (codes "job.commit.policy", codes "successful") ∷
    (codes "data.publisher.final.dir", codes "${env:OUT}") ∷ [])
unfolding properties_of natural_from goes_on logical_from key_part value_part code_unit first_character read_characters
    key_value_of all_entries chars is_utf8 encode
web_tier = refl
