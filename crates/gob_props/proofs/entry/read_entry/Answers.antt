use Rattle.std.proofs.Common.{◌≡◌, ℕ, List, Option, Some, None, String, Global, string_bytes, option_map}
use Rattle.std.proofs.Common.{encode_utf8_all, take, drop, sym, ap, ◌∙◌}
use Rattle.gob_props.specs.Properties.{without_white_space, without_mark, key_part, value_part, without_escapes}
use Rattle.gob_props.specs.Properties.{key_value_of}
use Rattle.gob_props.proofs.EscapeLemmas.{entry_no_key, entry_no_value, entry_both}
use Rattle.gob_props.proofs.entry.read_entry.Goals as goal

-- the key and the value as the code has them
key_is : (text key : List ℕ) (n m : ℕ) → key ≡ take n text → n ≡ m → key ≡ take m text
key_is text key n m front same = front ∙ ap (λ k. take k text) same

value_is : (text back first unmarked value : List ℕ) (n m : ℕ) → back ≡ drop n text → n ≡ m → first
    ≡ without_white_space back →
    unmarked ≡ without_mark first → value ≡ without_white_space unmarked → value ≡ without_white_space
    (without_mark (without_white_space (drop m text)))
value_is text back first unmarked value n m rest same a b d = d
    ∙ ap without_white_space (b ∙ ap without_mark (a ∙ ap without_white_space (rest ∙ ap (λ k. drop k text) same)))

-- what was unescaped, as the definition has it
unescaped_is : (o : Option (String Global)) (r : Option (List ℕ)) (text part : List ℕ) → option_map string_bytes o ≡ r →
    option_map string_bytes o ≡ option_map encode_utf8_all (without_escapes text) → text ≡ part →
    r ≡ option_map encode_utf8_all (without_escapes part)
unescaped_is o r text part is ensures' same = sym is ∙ ensures'
    ∙ ap (λ t. option_map encode_utf8_all (without_escapes t)) same

pub returns-in_default : goal.returns-in_default
unfolding key_value_of key_part value_part
returns-in_default c =
    let key = key_is _ _ _ _ c.split_at.ensures.front c.key_length.ensures.value in
    entry_no_key _ _ (unescaped_is _ None _ _ (ap (option_map string_bytes) c.in_default.is) c.in_ok-key.ensures key)

pub returns-in_default-2 : goal.returns-in_default-2
unfolding key_value_of key_part value_part
returns-in_default-2 c =
    let value =
    value_is _ _ _ _ _ _ _ c.split_at.ensures.back c.key_length.ensures.value c.trimmed.ensures c.without_mark.ensures
    c.trimmed-value.ensures in
    entry_no_value _ _
    (unescaped_is _ None _ _ (ap (option_map string_bytes) c.in_default-2.is) c.in_ok-value.ensures value)

pub returns : goal.returns
unfolding key_value_of key_part value_part
returns c =
    let key = key_is _ _ _ _ c.split_at.ensures.front c.key_length.ensures.value in
    let value =
    value_is _ _ _ _ _ _ _ c.split_at.ensures.back c.key_length.ensures.value c.trimmed.ensures c.without_mark.ensures
    c.trimmed-value.ensures in
    entry_both _ _ _ _
    (unescaped_is _ (Some (string_bytes c.in-Some.key)) _ _
    (ap (option_map string_bytes) c.in-Some.is) c.in_ok-key.ensures key)
    (unescaped_is _ (Some (string_bytes c.in-Some-2.value)) _ _
    (ap (option_map string_bytes) c.in-Some-2.is) c.in_ok-value.ensures value)
