-- Texts as rows and records.
use Rattle.std.proofs.Common.{◌≡◌, ℕ, false, cond, nat_eq, List, [], ◌∷◌, ◌++◌, Some, None, sym, ap, ◌∙◌, append_assoc}
use Rattle.std.specs.List.{list_any}
use Rattle.std.specs.Str.{IsUtf8, is_utf8}
use Rattle.std.proofs.lemmas.Str.{IsUtf8-from_is_utf8, is_utf8-from_IsUtf8}
use Rattle.std.proofs.lemmas.Bool.{false_from_ne_true}
use Rattle.gob_convert.specs.Made.{concatenation}
use Rattle.gob_plan.specs.declared.rows.Kind.{Kind}
use Rattle.gob_plan.specs.declared.rows.Value.TheVariants as value
use Rattle.gob_meaning.specs.Formats.{row_of, text_line_rows, field_value}
use Rattle.gob_formats.specs.Fields.{line_record, field_read}

pub no_text : (bytes : List ℕ) → ¬ (IsUtf8 bytes) → is_utf8 bytes ≡ false
no_text bytes other = false_from_ne_true (is_utf8 bytes) (λ yes. other (IsUtf8-from_is_utf8 bytes yes))

-- ---- whole lines

pub bad_line : (line : List ℕ) → ¬ (IsUtf8 line) → text_line_rows line ≡ None
bad_line line other = ap (λ b. row_of (cond b (Some (value.Text line ∷ [])) None)) (no_text line other)

pub line_rows_are : (line : List ℕ) → IsUtf8 line
    → text_line_rows line ≡ Some (record { values = value.Text line ∷ [] } ∷ [])
line_rows_are line text =
    ap (λ b. row_of (cond b (Some (value.Text line ∷ [])) None)) (is_utf8-from_IsUtf8 line text)

pub line_added : (old text new : List ℕ) → list_any (λ b. nat_eq b 10) text ≡ false
    → new ≡ (old ++ text) ++ 10 ∷ [] → concatenation (Some old) (line_record text) ≡ Some new
line_added old text new none is =
    ap (λ b. concatenation (Some old) (cond b None (Some (text ++ 10 ∷ [])))) none
    ∙ ap (λ l. Some l) (sym (append_assoc old text (10 ∷ [])) ∙ sym is)

-- ---- fields

pub bad_field_text : (k : Kind) (field : List ℕ) → ¬ (IsUtf8 field) → field_read k field ≡ None
bad_field_text k field other = ap (λ b. cond b (field_value k field) None) (no_text field other)

pub field_is_read : (k : Kind) (field : List ℕ) → IsUtf8 field → field_read k field ≡ field_value k field
field_is_read k field text = ap (λ b. cond b (field_value k field) None) (is_utf8-from_IsUtf8 field text)
