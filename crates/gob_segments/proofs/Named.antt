-- Names of changes are text.
use Rattle.std.proofs.Common.{◌≡◌, ◌<◌, ℕ, ◌+◌, ◌/◌, ◌%◌, zero, suc, List, [], ◌∷◌, ◌++◌, codes, ap, ◌∙◌}
use Rattle.std.proofs.Common.{append_assoc, IsUtf8, arith, refl, rules, true}
use Rattle.std.specs.List.{list_all}
use Rattle.std.proofs.lemmas.Bool.{and_from, and_parts}
use Rattle.std.proofs.lemmas.Bool.Decides.{nat_tests}
use Rattle.std.proofs.lemmas.Str.{IsUtf8-append, IsUtf8-from_ascii, IsUtf8-nil}
use Rattle.std.proofs.lemmas.Str.Ascii.{IsAscii-cons, IsAscii-nil}
use Rattle.gob_bytes.specs.Digits.{offset, padded_digits}
use Rattle.gob_bytes.specs.Paths.{delta_folder, delta_name, state_name}
use Rattle.gob_device.specs.Names.{IsPathname, is_name_byte}
use Rattle.gob_device.proofs.Names.{name_before}

one_byte : (b : ℕ) → b < 128 → IsUtf8 (b ∷ [])
one_byte b small = IsUtf8-from_ascii (b ∷ []) (IsAscii-cons b [] small IsAscii-nil)

digits_text : (k n : ℕ) → IsUtf8 (padded_digits k n)
unfolding padded_digits
digits_text zero n = IsUtf8-nil
digits_text (suc k) n = IsUtf8-append (padded_digits k (n / 10)) ((48 + n % 10) ∷ []) (digits_text k (n / 10))
    (one_byte (48 + n % 10) (omega arith))

pub offset_text : (n : ℕ) → IsUtf8 (offset n)
unfolding offset
offset_text n = digits_text 20 n

pub delta_text : (job : List ℕ) (run : ℕ) → IsUtf8 job → IsUtf8 (delta_name job run)
delta_text job run text = IsUtf8-append (delta_folder job) (offset run)
    (IsUtf8-append job (47 ∷ codes "delta/") text (IsUtf8-from_ascii (47 ∷ codes "delta/") (search rules)))
    (offset_text run)

pub delta_pushed : (old job a b c : List ℕ) (run : ℕ) → a ≡ old ++ job → b ≡ a ++ codes "/delta/"
    → c ≡ b ++ offset run → c ≡ old ++ delta_name job run
delta_pushed old job a b c run ra rb rc =
    rc ∙ ap (λ x. x ++ offset run) (rb ∙ ap (λ x. x ++ codes "/delta/") ra)
    ∙ joined old job (codes "/delta/") (offset run)
  where
    joined : (old job folder digits : List ℕ) → ((old ++ job) ++ folder) ++ digits ≡ old ++ ((job ++ folder) ++ digits)
    joined old job folder digits = simp append_assoc

-- ---- names that a volume may be given

digit_behind : (front : List ℕ) (b : ℕ) → list_all is_name_byte front ≡ true → is_name_byte b ≡ true
    → list_all is_name_byte (front ++ b ∷ []) ≡ true
digit_behind [] b all one = and_from (is_name_byte b) true one refl
digit_behind (c ∷ cs) b all one =
    let p = and_parts (is_name_byte c) (list_all is_name_byte cs) all in
    and_from (is_name_byte c) (list_all is_name_byte (cs ++ b ∷ [])) p.0 (digit_behind cs b p.1 one)

digits_named : (k n : ℕ) → list_all is_name_byte (padded_digits k n) ≡ true
unfolding padded_digits
digits_named zero n = refl
digits_named (suc k) n =
    digit_behind (padded_digits k (n / 10)) (48 + n % 10) (digits_named k (n / 10)) (grind (arith, nat_tests))

pub change_named : (job : List ℕ) (run : ℕ) → IsPathname job → IsPathname (delta_name job run)
unfolding offset
change_named job run named =
    name_before (delta_folder job) (offset run) (name_before job (47 ∷ codes "delta/") named refl) (digits_named 20 run)

pub state_named : (job : List ℕ) → IsPathname job → IsPathname (state_name job)
state_named job named = name_before job (47 ∷ codes "state") named refl
