-- The value that stands at a key, by what it is.
use Rattle.std.proofs.Common.{◌≡◌, ℕ, Bool, true, false, List, Ok, Err, IsUtf8, refl, sym, ap, ◌∙◌}
use Rattle.std.specs.Str.{is_utf8}
use Rattle.std.proofs.lemmas.Bool.{cond-true, cond-false}
use Rattle.std.proofs.lemmas.Str.{is_utf8-from_IsUtf8, IsUtf8-from_is_utf8}
use Rattle.gob_jobs.specs.Reading.{interpolation, bad_value, has_interpolation, value_at}

pub value_fine : (key text found : List ℕ) → has_interpolation text ≡ false → IsUtf8 text → found ≡ text
    → value_at key text ≡ Ok found
value_fine key text found plain utf8 same =
    cond-false (has_interpolation text) (Err (interpolation key)) _ plain
    ∙ (cond-true (is_utf8 text) (Ok text) (Err (bad_value key)) (is_utf8-from_IsUtf8 text utf8)
    ∙ ap (λ t. Ok t) (sym same))

pub value_bad : (key named text : List ℕ) → has_interpolation text ≡ false → (IsUtf8 text → ⊥) → named ≡ key
    → value_at key text ≡ Err (bad_value named)
value_bad key named text plain never same =
    cond-false (has_interpolation text) (Err (interpolation key)) _ plain
    ∙ (cond-false (is_utf8 text) (Ok text) (Err (bad_value key))
    (none (is_utf8 text) (λ is. never (IsUtf8-from_is_utf8 text is))) ∙ ap (λ k. Err (bad_value k)) (sym same))
  where
    none : (v : Bool) → (v ≡ true → ⊥) → v ≡ false
    none true h = absurd (h refl)
    none false h = refl
