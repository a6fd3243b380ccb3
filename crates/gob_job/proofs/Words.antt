-- Words that are column names or values.
use Rattle.std.proofs.Common.{◌≡◌, ℕ, Bool, true, false, List, [], Some, None, Result, Ok, Err}
use Rattle.std.proofs.Common.{IsUtf8, MatchResult, refl, sym, ap, ◌∙◌, subst}
use Rattle.std.proofs.lemmas.Bool.{true≢false, cond-true, cond-false, cond_both}
use Rattle.std.proofs.lemmas.Str.{is_utf8-from_IsUtf8, IsUtf8-from_is_utf8}
use Rattle.std.specs.Str.{is_utf8, bytes_eq}
use Rattle.percent_encoding.specs.Percent.{percent_decode}
use Rattle.gob_bytes.specs.Names.{is_column_name}
use Rattle.gob_jobs.specs.Elements.{column_word}
use Rattle.gob_jobs.specs.Words.{empty_word, value_word}
use Rattle.gob_job.proofs.Texts.{name_text}

-- another text is no name
pub no_name : (word text : List ℕ) → text ≡ word → is_column_name text ≡ false → None ≡ column_word word
no_name word text same never = sym (cond-false (is_column_name word) (Some word) None (ap is_column_name (sym same)
    ∙ never))

-- what isn't text is none
pub not_text : (word : List ℕ) → (IsUtf8 word → ⊥) → None ≡ column_word word
not_text word never =
    cond_both (is_column_name word) (Some word) None (λ o. None ≡ o) (λ is. absurd (never (name_text word is)))
    (λ _. refl)

pub other_word : (word : List ℕ) → bytes_eq word empty_word ≡ false → is_utf8 (percent_decode word) ≡ true
    → value_word word ≡ Some (percent_decode word)
unfolding value_word
other_word word other is =
    cond-false (bytes_eq word empty_word) (Some []) _ other
    ∙ cond-true (is_utf8 (percent_decode word)) (Some (percent_decode word)) None is

pub no_word : (word : List ℕ) → bytes_eq word empty_word ≡ false → is_utf8 (percent_decode word) ≡ false
    → value_word word ≡ None
unfolding value_word
no_word word other is =
    cond-false (bytes_eq word empty_word) (Some []) _ other
    ∙ cond-false (is_utf8 (percent_decode word)) (Some (percent_decode word)) None is

pub no_text : {T E : Type 0} (P : T → Type 0) (Q : E → Type 0) (word : List ℕ) (r : Result T E)
    → MatchResult r P (λ e. (IsUtf8 word → ⊥) × Q e) → ((x : T) → r ≡ Ok x → ⊥) → None ≡ column_word word
no_text P Q word (Ok x) told never = absurd (never x refl)
no_text P Q word (Err e) told never = not_text word told.0

-- ---- values

pub decoded_text : (word text : List ℕ) → bytes_eq word empty_word ≡ false → text ≡ percent_decode word → IsUtf8 text
    → Some text ≡ value_word word
decoded_text word text other is utf8 =
    sym (other_word word other (ap is_utf8 (sym is) ∙ is_utf8-from_IsUtf8 text utf8) ∙ ap (λ t. Some t) (sym is))

pub decoded_bytes : (word bytes : List ℕ) → bytes_eq word empty_word ≡ false → bytes ≡ percent_decode word
    → (IsUtf8 bytes → false ≡ true) → None ≡ value_word word
decoded_bytes word bytes other is never = sym (no_word word other
    (none (is_utf8 (percent_decode word)) (λ utf8. true≢false
    (sym (never (subst IsUtf8 (sym is) (IsUtf8-from_is_utf8 (percent_decode word) utf8)))))))
  where
    none : (v : Bool) → (v ≡ true → ⊥) → v ≡ false
    none true h = absurd (h refl)
    none false h = refl
