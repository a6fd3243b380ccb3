-- The keys and values of a pipeline text.
use Rattle.std.proofs.Common.{◌≡◌, ◌≢◌, ℕ, true, false, cond, not, ◌&&◌, ◌==◌, List, [], ◌∷◌, length}
use Rattle.std.proofs.Common.{Some, None, Result, Ok, Err, IsUtf8, MatchResult, refl}
use Rattle.std.proofs.Common.{sym, ap, ◌∙◌, arith}
use Rattle.std.specs.List.{list_all}
use Rattle.std.specs.Str.{bytes_eq}
use Rattle.std.proofs.lemmas.Bool.{cond-false, cond_both, eqb-true}
use Rattle.percent_encoding.specs.Percent.{percent_decode}
use Rattle.percent_encoding.proofs.PercentLemmas.{All-percent_decode}
use Rattle.gob_bytes.specs.Escapes.{escape_of, AreBytes}
use Rattle.gob_bytes.proofs.Forms as forms
use Rattle.gob_bytes.proofs.Tables.{same_name, name_itself}
use Rattle.gob_jobs.specs.Words.{only_if}
use Rattle.gob_jobs.specs.Pipelines.{is_key, unescaped_value}
use Rattle.gob_job.specs.LookUps.{is_look_up_byte}
use Rattle.gob_job.proofs.Texts.{key_text}

-- ---- keys

none_first : (b : ℕ) (bs : List ℕ) → (length (b ∷ bs) == 0) ≡ false
none_first b bs = elim (length (b ∷ bs) == 0) as (λ v. (length (b ∷ bs) == 0) ≡ v → v ≡ false) [
  | true ↦ λ e. let none : length (b ∷ bs) ≡ 0 = eqb-true (length (b ∷ bs)) 0 e in absurd (omega arith)
  | false ↦ λ e. refl
] refl

pub key_is : (key : List ℕ) → (not (length key == 0) && list_all is_look_up_byte key) ≡ is_key key
key_is [] = refl
key_is (b ∷ bs) = ap (λ v. not v && list_all is_look_up_byte (b ∷ bs)) (none_first b bs)

pub other_key : (key : List ℕ) → is_key key ≡ false → None ≡ only_if is_key key
other_key key other = sym (cond-false (is_key key) (Some key) None other)

pub not_text : {T E : Type 0} (P : T → Type 0) (Q : E → Type 0) (key : List ℕ) (r : Result T E)
    → MatchResult r P (λ e. (IsUtf8 key → ⊥) × Q e) → ((x : T) → r ≡ Ok x → ⊥) → None ≡ only_if is_key key
not_text P Q key (Ok x) told never = absurd (never x refl)
not_text P Q key (Err e) told never = cond_both (is_key key) (Some key) None (λ o. None ≡ o)
    (λ is. absurd (told.0 (key_text key is))) (λ _. refl)

-- ---- values

pub value_some : (text bytes : List ℕ) → AreBytes bytes → escape_of bytes ≡ text → Some bytes ≡ unescaped_value text
value_some text bytes small is =
    let decoded : percent_decode text ≡ bytes = ap percent_decode (sym is) ∙ forms.unescaped bytes small in
    sym (ap (λ v. cond (bytes_eq (escape_of v) text) (Some v) None) decoded
    ∙ (ap (λ t. cond (bytes_eq t text) (Some bytes) None) is ∙ ap (λ v. cond v (Some bytes) None) (name_itself text)))

pub value_none : (text : List ℕ) → AreBytes text → ((bytes : List ℕ) → AreBytes bytes → escape_of bytes ≢ text)
    → None ≡ unescaped_value text
value_none text small never =
    cond_both (bytes_eq (escape_of (percent_decode text)) text) (Some (percent_decode text)) None (λ o. None ≡ o)
    (λ same. absurd (never (percent_decode text) (All-percent_decode text small)
    (same_name (escape_of (percent_decode text)) text same)))
    (λ _. refl)
