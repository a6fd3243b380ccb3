-- What is written of a number or a name has one form.
use Rattle.std.proofs.Common.{◌≡◌, ℕ, zero, suc, ◌-◌, ◌/◌, ◌^◌, ◌<◌, ◌≤◌, true, false, nat_le, ◌&&◌, List, [], ◌∷◌}
use Rattle.std.proofs.Common.{◌++◌, length, get_or, Some, refl, sym, ap, ◌∙◌, subst, ltb, arith, IsUtf8, ⊎_elim}
use Rattle.std.proofs.Common.{length-append}
use Rattle.std.specs.Fmt.{decimal}
use Rattle.std.specs.Str.{all_ascii_digits}
use Rattle.std.specs.Str.Parse.{digits_value}
use Rattle.std.proofs.lemmas.Bool.{cases_eq, cond_both, ltb-true, cond-true, cond-false, both_ways, and_parts, and_from}
use Rattle.std.proofs.lemmas.Bool.{leb-true, le-leb, eqb-false, ne_eqb, true≢false}
use Rattle.std.proofs.lemmas.List.Elements.{All-head, All-tail, All-nil, All-append, All-from_recursion}
use Rattle.std.specs.List.{AllByRecursion}
use lib.Utf8.{scalar, scalars, encode, encodes, scalar_cases}
use Rattle.std.proofs.lemmas.Str.Parse.{IsNumeralModel, numerals_by_value, tells_all_ascii_digits}
use Rattle.std.proofs.lemmas.Fmt.{decimal-digits_value, digits_decimal, digits_value-decimal, decimal_nonempty}
use Rattle.std.proofs.lemmas.Fmt.{first_decimal, decimal_digit}
use Rattle.percent_encoding.specs.Percent.{percent_encode_byte, percent_decode}
use Rattle.percent_encoding.proofs.PercentLemmas.{percent_decode-nil, percent_decode-percent_encode_byte}
use Rattle.percent_encoding.proofs.PercentLemmas.{percent_decode_not_percent, IsByte}
use Rattle.gob_bytes.specs.Digits.{padded_digits, offset, OffsetsHaveOneForm}
use Rattle.gob_bytes.specs.Numbers.{is_digits, read_up_to, has_spare_zero, number_read, NumbersHaveOneForm}
use Rattle.gob_bytes.specs.Escapes.{is_plain, escape_of, AreBytes, EscapesTellNamesApart}

pub own : IsNumeralModel (λ ds. all_ascii_digits ds ≡ true) (digits_value 10)
own = numerals_by_value _ tells_all_ascii_digits

-- ---- numbers

is_digits_parts : (bs : List ℕ) → is_digits bs ≡ true → (all_ascii_digits bs ≡ true) × (0 < length bs)
is_digits_parts [] h = absurd (true≢false (sym h))
is_digits_parts (b ∷ bs) h = (h, omega arith)

is_digits_from : (bs : List ℕ) → all_ascii_digits bs ≡ true → 0 < length bs → is_digits bs ≡ true
is_digits_from [] h nonempty = absurd (omega arith)
is_digits_from (b ∷ bs) h nonempty = h

no_spare_zero : (bs : List ℕ) → has_spare_zero bs ≡ false → get_or bs 0 0 ≡ 48 → 0 < length bs → length bs ≡ 1
no_spare_zero [] h zero' nonempty = absurd (omega arith)
no_spare_zero (b ∷ []) h zero' nonempty = refl
no_spare_zero (b ∷ c ∷ bs) h zero' nonempty = absurd (eqb-false b 48 h zero')

spare_zero_not : (bs : List ℕ) → 48 < get_or bs 0 0 → has_spare_zero bs ≡ false
spare_zero_not [] h = refl
spare_zero_not (b ∷ []) h = refl
spare_zero_not (b ∷ c ∷ bs) h = ne_eqb b 48 (λ e. omega arith)

decimal_not_spare : (n : ℕ) → n < 2 ^ 64 → has_spare_zero (decimal n) ≡ false
decimal_not_spare n small =
    ⊎_elim
    (λ zero'. rw (zero', decimal_digit 0 (omega arith)) refl)
    (λ other. spare_zero_not (decimal n) (first_decimal n (omega arith) small))
    (cases_eq n 0)

-- a number that is read is what its digits write, within the bound
pub read_up_to_some : (most : ℕ) (bs : List ℕ) (n : ℕ) → read_up_to most bs ≡ Some n →
    (is_digits bs ≡ true) × (digits_value 10 bs ≡ n) × (n ≤ most)
read_up_to_some most bs n =
    cond_both (is_digits bs && nat_le (digits_value 10 bs) most) _ _
    (λ o. o ≡ Some n → (is_digits bs ≡ true) × (digits_value 10 bs ≡ n) × (n ≤ most))
    (λ t h. let parts = and_parts (is_digits bs) _ t in let same : digits_value 10 bs ≡ n = cc in let small =
    leb-true _ _ parts.1 in (parts.0, same, omega arith))
    (λ _ h. (cc, cc, cc))

pub read_up_to_from : (most : ℕ) (bs : List ℕ) → is_digits bs ≡ true → digits_value 10 bs ≤ most →
    read_up_to most bs ≡ Some (digits_value 10 bs)
read_up_to_from most bs digits small = cond-true _ _ _ (and_from _ _ digits (le-leb _ _ small))

pub one_form : NumbersHaveOneForm
unfolding number_read
one_form bs n = (
  cond_both (has_spare_zero bs) _ _ (λ o. o ≡ Some n → (bs ≡ decimal n) × (n < 2 ^ 64))
      (λ _ h. (cc, cc))
      (λ no h.
      let parts = read_up_to_some (2 ^ 64 - 1) bs n h in
      let digits = is_digits_parts bs parts.0 in
      let written = decimal-digits_value own bs digits.0 digits.1 (λ zero'. no_spare_zero bs no zero' digits.1)
      (omega arith) in
      (sym written ∙ ap decimal parts.1, omega arith)),
  (λ h.
      let text = digits_decimal own n h.1 in
      let value = digits_value-decimal own n h.1 in
      let no = decimal_not_spare n h.1 in
      let read = read_up_to_from (2 ^ 64 - 1) (decimal n) (is_digits_from _ text (decimal_nonempty n h.1))
      (omega arith) in
      rw h.0 (cond-false _ _ _ no ∙ read ∙ ap Some value)),
)

-- ---- names

-- what a name is escaped to decodes to the name
pub unescaped : (bs : List ℕ) → AreBytes bs → percent_decode (escape_of bs) ≡ bs
unfolding escape_of
unescaped [] small = percent_decode-nil
unescaped (b ∷ bs) small =
    let later = ap (λ x. b ∷ x) (unescaped bs (All-tail IsByte b bs small)) in
    cond_both (is_plain b) (b ∷ []) (percent_encode_byte b) (λ x. percent_decode (x ++ escape_of bs) ≡ b ∷ bs)
    (λ plain. percent_decode_not_percent b (escape_of bs) (λ e. both_ways (is_plain b) (ap is_plain e) plain) ∙ later)
    (λ _. percent_decode-percent_encode_byte b (escape_of bs) (All-head IsByte b bs small) ∙ later)

pub escapes_apart : EscapesTellNamesApart
escapes_apart x y small small' same = sym (unescaped x small) ∙ ap percent_decode same ∙ unescaped y small'

-- ---- offsets

pub length-padded_digits : (k n : ℕ) → length (padded_digits k n) ≡ k
unfolding padded_digits
length-padded_digits zero n = refl
length-padded_digits (suc k) n = let shorter = length-padded_digits k (n / 10) in simp length-append (omega arith)

push_apart : (xs ys : List ℕ) (x y : ℕ) → xs ++ x ∷ [] ≡ ys ++ y ∷ [] → (xs ≡ ys) × (x ≡ y)
push_apart [] [] x y same = (refl, cc)
push_apart [] (b ∷ []) x y same = absurd (cc)
push_apart [] (b ∷ c ∷ ys) x y same = absurd (cc)
push_apart (b ∷ []) [] x y same = absurd (cc)
push_apart (b ∷ c ∷ xs) [] x y same = absurd (cc)
push_apart (b ∷ xs) (c ∷ ys) x y same =
    let rest : xs ++ x ∷ [] ≡ ys ++ y ∷ [] = cc in
    let parts = push_apart xs ys x y rest in (cc, parts.1)

padded_apart : (k m n : ℕ) → m < 10 ^ k → n < 10 ^ k → padded_digits k m ≡ padded_digits k n → m ≡ n
unfolding padded_digits
padded_apart zero m n below below' same = omega arith
padded_apart (suc k) m n below below' same =
    let parts = push_apart (padded_digits k (m / 10)) (padded_digits k (n / 10)) _ _ same in
    let front = padded_apart k (m / 10) (n / 10) (omega arith) (omega arith) parts.0 in
    omega arith

pub offsets_one_form : OffsetsHaveOneForm
unfolding offset
offsets_one_form = (length-padded_digits 20, padded_apart 20)

-- ---- texts are bytes

encoded_bytes : (c : ℕ) → scalar c ≡ true → AllByRecursion IsByte (encode c)
unfolding encode
encoded_bytes c valid =
    let small : c < 1114112 = ⊎_elim (λ h. omega arith) (λ h. h.1) (scalar_cases c valid) in
    cond_both (ltb c 128) _ _ (AllByRecursion IsByte)
    (λ e. let h = ltb-true c 128 e in (omega arith, tt))
    (λ _. cond_both (ltb c 2048) _ _ (AllByRecursion IsByte)
    (λ e. let h = ltb-true c 2048 e in (omega arith, (omega arith, tt)))
    (λ _. cond_both (ltb c 65536) _ _ (AllByRecursion IsByte)
    (λ e. let h = ltb-true c 65536 e in (omega arith, (omega arith, (omega arith, tt))))
    (λ _. (omega arith, (omega arith, (omega arith, (omega arith, tt)))))))

all_encoded_bytes : (cs : List ℕ) → scalars cs ≡ true → AreBytes (encodes cs)
all_encoded_bytes [] valid = All-nil IsByte
all_encoded_bytes (c ∷ cs) valid =
    let parts = and_parts (scalar c) (scalars cs) valid in
    All-append IsByte (encode c) (encodes cs) (All-from_recursion IsByte (encode c) (encoded_bytes c parts.0))
    (all_encoded_bytes cs parts.1)

pub bytes_from_utf8 : (bs : List ℕ) → IsUtf8 bs → AreBytes bs
bytes_from_utf8 bs h = subst AreBytes h.1.1 (all_encoded_bytes h.0 h.1.0)
