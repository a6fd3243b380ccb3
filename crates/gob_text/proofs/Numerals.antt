-- What `parse` answers at digits, in the words of the definitions.
use Rattle.std.proofs.Common.{◌≡◌, ℕ, ◌-◌, ◌<◌, ◌≤◌, ◌^◌, true, false, cond, nat_eq, ◌&&◌, List, [], ◌∷◌, length}
use Rattle.std.proofs.Common.{get_or, drop, Some, None, Result, Ok, Err, refl, ap, ◌∙◌, sym, arith, pos, neg_ℤ, ℤ}
use Rattle.std.proofs.Common.{IsAscii, IsUtf8, ⊎_elim}
use mir.Syntax.{w64}
use Rattle.std.specs.Char.{is_ascii_digit}
use Rattle.std.specs.List.{list_all}
use Rattle.std.specs.Result.{result_ok}
use Rattle.std.specs.Str.{all_ascii_digits}
use Rattle.std.specs.Str.Parse.{digits_value, ParsesUnsigned, ParsesSigned}
use Rattle.std.proofs.lemmas.Bool.{cond-true, cond-false, and_from, and_left, and_right, le-leb, lt-leb, eqb-true}
use Rattle.std.proofs.lemmas.Bool.{cond_both, cases_Bool, and_parts}
use Rattle.std.proofs.lemmas.Bool.Decides.{nat_tests}
use Rattle.std.proofs.lemmas.Str.Ascii.{IsAscii-nil, IsAscii-cons}
use Rattle.std.proofs.lemmas.Str.{IsUtf8-from_ascii}
use Rattle.std.specs.Option.{option_map}
use Rattle.std.proofs.lemmas.Str.Parse.{IsNumeralModel, numerals_by_value, tells_all_ascii_digits, parse_digits}
use Rattle.std.proofs.lemmas.Str.Parse.{parse_signed_minus, parse_signed_digits}
use Rattle.gob_bytes.specs.Numbers.{is_digits, read_up_to, has_spare_zero, number_read, integer_read}
use Rattle.gob_bytes.proofs.Forms.{read_up_to_from, own}

pub list_all-digits : (bs : List ℕ) → list_all is_ascii_digit bs ≡ all_ascii_digits bs
list_all-digits [] = refl
list_all-digits (b ∷ bs) = ap (λ t. is_ascii_digit b && t) (list_all-digits bs)

pub number_read-spare : (bs : List ℕ) → has_spare_zero bs ≡ true → number_read bs ≡ None
unfolding number_read
number_read-spare bs spare = cond-true _ _ _ spare

is_digits-no : (bs : List ℕ) → list_all is_ascii_digit bs ≡ false → is_digits bs ≡ false
is_digits-no [] h = refl
is_digits-no (b ∷ bs) h = sym (list_all-digits (b ∷ bs)) ∙ h

is_digits-yes : (bs : List ℕ) → list_all is_ascii_digit bs ≡ true → 0 < length bs → is_digits bs ≡ true
is_digits-yes [] h nonempty = absurd (omega arith)
is_digits-yes (b ∷ bs) h nonempty = sym (list_all-digits (b ∷ bs)) ∙ h

is_digits-empty : (bs : List ℕ) → length bs ≡ 0 → is_digits bs ≡ false
is_digits-empty [] h = refl
is_digits-empty (b ∷ bs) h = absurd (omega arith)

read_up_to-no : (most : ℕ) (bs : List ℕ) → is_digits bs ≡ false → read_up_to most bs ≡ None
read_up_to-no most bs no' = cond-false _ _ _ (and_left _ _ no')

read_up_to-large : (most : ℕ) (bs : List ℕ) → most < digits_value 10 bs → read_up_to most bs ≡ None
read_up_to-large most bs large = cond-false _ _ _ (and_right _ _ (lt-leb _ _ large))

read_up_to-refused : (most : ℕ) (bs : List ℕ) → list_all is_ascii_digit bs ≡ true →
    ((0 < length bs) × (digits_value 10 bs ≤ most) → ⊥) → read_up_to most bs ≡ None
read_up_to-refused most [] digits never = refl
read_up_to-refused most (b ∷ bs) digits never =
    read_up_to-large most (b ∷ bs) (omega (arith, λ (h : digits_value 10 (b ∷ bs) ≤ most). never (omega arith, h)))

pub number_read-no_digits : (bs : List ℕ) → list_all is_ascii_digit bs ≡ false → number_read bs ≡ None
unfolding number_read
number_read-no_digits bs h = cond_both (has_spare_zero bs) None (read_up_to (2 ^ 64 - 1) bs) (λ o. o ≡ None) (λ _. refl)
    (λ _. read_up_to-no _ bs (is_digits-no bs h))

digits_ascii : (bs : List ℕ) → list_all is_ascii_digit bs ≡ true → IsAscii bs
digits_ascii [] h = IsAscii-nil
digits_ascii (b ∷ bs) h =
    let parts = and_parts (is_ascii_digit b) (list_all is_ascii_digit bs) h in
    IsAscii-cons b bs (grind (arith, nat_tests)) (digits_ascii bs parts.1)

-- digits are UTF-8
pub digits_utf8 : (bs : List ℕ) → list_all is_ascii_digit bs ≡ true → IsUtf8 bs
digits_utf8 bs h = IsUtf8-from_ascii bs (digits_ascii bs h)

read_from_parse : {E : Type 0} (bs : List ℕ) (r : Result ℕ E) → ParsesUnsigned 64 10 bs r →
    list_all is_ascii_digit bs ≡ true → result_ok r ≡ read_up_to (2 ^ 64 - 1) bs
read_from_parse {E} bs (Ok n) parsed digits =
    let p = parse_digits own {E = E} 64 bs (Ok n) parsed (sym (list_all-digits bs) ∙ digits) in
    ap Some p.1 ∙ sym (read_up_to_from _ bs (is_digits-yes bs digits p.0.0) (omega arith))
read_from_parse {E} bs (Err e) parsed digits =
    let refused = parse_digits own {E = E} 64 bs (Err e) parsed (sym (list_all-digits bs) ∙ digits) in
    sym (read_up_to-refused (2 ^ 64 - 1) bs digits (λ h. refused (h.0, omega arith)))

pub number_read-parsed : {E : Type 0} (bs : List ℕ) (r : Result ℕ E) → ParsesUnsigned 64 10 bs r →
    list_all is_ascii_digit bs ≡ true → has_spare_zero bs ≡ false → result_ok r ≡ number_read bs
unfolding number_read
number_read-parsed bs r parsed digits first = read_from_parse bs r parsed digits ∙ sym (cond-false _ _ _ first)

-- ---- integers

-- a text without a minus in front
abbrev pub without_minus : List ℕ → List ℕ
without_minus bs = cond (nat_eq (get_or bs 0 0) 45) (drop 1 bs) bs

pub integer_read-no_digits : (bs : List ℕ) → list_all is_ascii_digit (without_minus bs) ≡ false → integer_read bs ≡ None
unfolding integer_read
integer_read-no_digits [] h = refl
integer_read-no_digits (b ∷ bs) h =
    elim (nat_eq b 45) as
    (λ v. list_all is_ascii_digit (cond v bs (b ∷ bs)) ≡ false →
    cond v (option_map (λ n. neg_ℤ (pos n)) (read_up_to (2 ^ 63) bs))
    (option_map pos (read_up_to (2 ^ 63 - 1) (b ∷ bs))) ≡ None) [
      | true ↦ λ no'. ap (option_map (λ n. neg_ℤ (pos n))) (read_up_to-no _ bs (is_digits-no bs no'))
      | false ↦ λ no'. ap (option_map pos) (read_up_to-no _ (b ∷ bs) (is_digits-no (b ∷ bs) no'))
    ] h

pub integer_utf8 : (bs : List ℕ) → list_all is_ascii_digit (without_minus bs) ≡ true → IsUtf8 bs
integer_utf8 [] h = digits_utf8 [] h
integer_utf8 (b ∷ bs) h =
    ⊎_elim
    (λ minus. IsUtf8-from_ascii (b ∷ bs)
    (IsAscii-cons b bs (omega (arith, eqb-true b 45 minus))
    (digits_ascii bs (ap (list_all is_ascii_digit) (sym (cond-true _ bs (b ∷ bs) minus)) ∙ h))))
    (λ other. digits_utf8 (b ∷ bs) (ap (list_all is_ascii_digit) (sym (cond-false _ bs (b ∷ bs) other)) ∙ h))
    (cases_Bool (nat_eq b 45))

minus_from_parse : {E : Type 0} (b : ℕ) (bs : List ℕ) (r : Result ℤ E) → ParsesSigned w64 10 (b ∷ bs) r → b ≡ 45 →
    list_all is_ascii_digit bs ≡ true → result_ok r ≡ option_map (λ n. neg_ℤ (pos n)) (read_up_to (2 ^ 63) bs)
minus_from_parse {E} b bs (Ok z) parsed minus digits =
    let p = parse_signed_minus own {E = E} w64 (b ∷ bs) (Ok z) parsed minus in
    ap Some p.1 ∙ ap (option_map (λ n. neg_ℤ (pos n))) (sym
    (read_up_to_from _ bs (is_digits-yes bs digits p.0.1) p.0.2))
minus_from_parse {E} b bs (Err e) parsed minus digits =
    let refused = parse_signed_minus own {E = E} w64 (b ∷ bs) (Err e) parsed minus in
    ap (option_map (λ n. neg_ℤ (pos n)))
    (sym (read_up_to-refused (2 ^ 63) bs digits (λ h. refused (sym (list_all-digits bs) ∙ digits, h.0, h.1))))

plain_from_parse : {E : Type 0} (bs : List ℕ) (r : Result ℤ E) → ParsesSigned w64 10 bs r →
    list_all is_ascii_digit bs ≡ true → result_ok r ≡ option_map pos (read_up_to (2 ^ 63 - 1) bs)
plain_from_parse {E} bs (Ok z) parsed digits =
    let p = parse_signed_digits own {E = E} w64 bs (Ok z) parsed (sym (list_all-digits bs) ∙ digits) in
    ap Some p.1 ∙ ap (option_map pos) (sym (read_up_to_from _ bs (is_digits-yes bs digits p.0.0) (omega arith)))
plain_from_parse {E} bs (Err e) parsed digits =
    let refused = parse_signed_digits own {E = E} w64 bs (Err e) parsed (sym (list_all-digits bs) ∙ digits) in
    ap (option_map pos) (sym (read_up_to-refused (2 ^ 63 - 1) bs digits (λ h. refused (h.0, omega arith))))

pub integer_read-parsed : {E : Type 0} (bs : List ℕ) (r : Result ℤ E) → ParsesSigned w64 10 bs r →
    list_all is_ascii_digit (without_minus bs) ≡ true → result_ok r ≡ integer_read bs
unfolding integer_read
integer_read-parsed [] r parsed digits = plain_from_parse [] r parsed digits
integer_read-parsed (b ∷ bs) r parsed digits =
    ⊎_elim
    (λ minus. minus_from_parse b bs r parsed (eqb-true b 45 minus)
    (ap (list_all is_ascii_digit) (sym (cond-true _ bs (b ∷ bs) minus)) ∙ digits) ∙ sym (cond-true _ _ _ minus))
    (λ other. plain_from_parse (b ∷ bs) r parsed
    (ap (list_all is_ascii_digit) (sym (cond-false _ bs (b ∷ bs) other)) ∙ digits) ∙ sym (cond-false _ _ _ other))
    (cases_Bool (nat_eq b 45))
