-- The folders of days are plain bytes and slashes.
use Rattle.std.proofs.Common.{◌≡◌, ℕ, zero, suc, ◌+◌, ◌/◌, ◌%◌, Bool, true, false, cond, ◌&&◌, ◌||◌, nat_eq, nat_le}
use Rattle.std.proofs.Common.{get_or}
use Rattle.std.proofs.Common.{List, [], ◌∷◌, ◌++◌, pos, negsuc, None, Some, Option, refl, ap, ◌∙◌, arith}
use Rattle.std.proofs.lemmas.Bool.{cond_both, and_from, and_parts, le-leb}
use Rattle.std.proofs.lemmas.List.Folds.{list_all-append}
use Rattle.std.proofs.lemmas.Bool.Decides.{nat_tests}
use Rattle.std.proofs.lemmas.Str.{IsUtf8-from_ascii}
use Rattle.std.proofs.lemmas.Str.Ascii.{IsAscii-nil, IsAscii-cons}
use Rattle.std.specs.List.{list_all}
use Rattle.std.specs.Str.{IsUtf8, IsAscii}
use Rattle.gob_bytes.specs.Digits.{padded_digits}
use Rattle.gob_bytes.specs.Escapes.{is_letter, is_digit, is_plain}
use Rattle.gob_plan.specs.declared.rows.Row.{Row}
use Rattle.gob_plan.specs.declared.rows.Value.{Value}
use Rattle.gob_plan.specs.declared.rows.Value.TheVariants as value
use Rattle.gob_meaning.specs.Days.{Date, date_of, date_folder, day_folder, last_second, no_day}
use Rattle.gob_timeplace.specs.declared.day.Day.{Day}
use Rattle.gob_branch.specs.Branches.{place_by}

-- a plain byte or a slash
abbrev pub is_folder_byte : ℕ → Bool
is_folder_byte b = cond (is_plain b) true (nat_eq b 47)

-- a digit or a slash, or a letter of "none"
abbrev is_day_byte : ℕ → Bool
is_day_byte b = nat_le 47 b && nat_le b 57

digit_in : (n : ℕ) → is_day_byte (48 + n % 10) ≡ true
digit_in n = and_from _ _ (le-leb 47 (48 + n % 10) (omega arith)) (le-leb (48 + n % 10) 57 (omega arith))

padded_in : (k n : ℕ) → list_all is_day_byte (padded_digits k n) ≡ true
unfolding padded_digits
padded_in zero n = refl
padded_in (suc k) n = list_all-append is_day_byte (padded_digits k (n / 10)) ((48 + n % 10) ∷ [])
    ∙ and_from _ _ (padded_in k (n / 10)) (and_from _ _ (digit_in n) refl)

date_in : (date : Date) → list_all is_day_byte (date_folder date) ≡ true
date_in date =
    let year = padded_digits 4 date.year in
    let month = padded_digits 2 date.month in
    let day = padded_digits 2 date.day in
    list_all-append is_day_byte (year ++ 47 ∷ month ++ 47 ∷ day) (47 ∷ [])
    ∙ and_from _ _
    (list_all-append is_day_byte (year ++ 47 ∷ month) (47 ∷ day)
    ∙ and_from _ _
    (list_all-append is_day_byte year (47 ∷ month) ∙ and_from _ _ (padded_in 4 date.year) (padded_in 2 date.month))
    (padded_in 2 date.day))
    refl

-- ---- so they are ASCII

day_ascii : (bs : List ℕ) → list_all is_day_byte bs ≡ true → IsAscii bs
day_ascii [] h = IsAscii-nil
day_ascii (b ∷ bs) h =
    let parts = and_parts (is_day_byte b) (list_all is_day_byte bs) h in
    IsAscii-cons b bs (grind (arith, nat_tests)) (day_ascii bs parts.1)

no_day_text : IsUtf8 no_day
no_day_text = IsUtf8-from_ascii no_day
    (IsAscii-cons 110 (111 ∷ 110 ∷ 101 ∷ 47 ∷ []) (omega arith)
    (IsAscii-cons 111 (110 ∷ 101 ∷ 47 ∷ []) (omega arith)
    (IsAscii-cons 110 (101 ∷ 47 ∷ []) (omega arith)
    (IsAscii-cons 101 (47 ∷ []) (omega arith) (IsAscii-cons 47 [] (omega arith) IsAscii-nil)))))

folder_text : (v : Value) → IsUtf8 (day_folder v)
folder_text value.Null = no_day_text
folder_text (value.Bool b) = no_day_text
folder_text (value.Text t) = no_day_text
folder_text (value.Int (negsuc n)) = no_day_text
folder_text (value.Int (pos n)) =
    let date = date_of (n / 86400) in
    cond_both (nat_le n last_second) (date_folder date) no_day IsUtf8
    (λ _. IsUtf8-from_ascii (date_folder date) (day_ascii (date_folder date) (date_in date)))
    (λ _. no_day_text)

pub place_text : (day : Option Day) (row : Row) → IsUtf8 (place_by day row)
place_text None row = IsUtf8-from_ascii [] IsAscii-nil
place_text (Some day) row = folder_text (get_or row.values day.column value.Null)

-- ---- and each byte may stand in a folder's name

either_or : (a b c d e : Bool) → b ≡ true → (a || b || c || d || e) ≡ true
either_or true b c d e h = refl
either_or false b c d e h = ap (λ v. v || c || d || e) h

day_byte_fits : (b : ℕ) → is_day_byte b ≡ true → is_folder_byte b ≡ true
day_byte_fits b h = cases (nat_le 48 b) refl
  where
    cases : (v : Bool) → nat_le 48 b ≡ v → is_folder_byte b ≡ true
    cases true low =
        let digit : is_digit b ≡ true = and_from _ _ low (and_parts (nat_le 47 b) (nat_le b 57) h).1 in
        ap (λ v. cond v true (nat_eq b 47)) (either_or (is_letter b) (is_digit b) _ _ _ digit)
    cases false low =
        let slash : b ≡ 47 = grind (arith, nat_tests) in
        ap is_folder_byte slash

day_bytes_fit : (bs : List ℕ) → list_all is_day_byte bs ≡ true → list_all is_folder_byte bs ≡ true
day_bytes_fit [] h = refl
day_bytes_fit (b ∷ bs) h =
    let parts = and_parts (is_day_byte b) (list_all is_day_byte bs) h in
    and_from _ _ (day_byte_fits b parts.0) (day_bytes_fit bs parts.1)

-- so is each byte of a day's folder
pub folder_bytes : (v : Value) → list_all is_folder_byte (day_folder v) ≡ true
folder_bytes value.Null = refl
folder_bytes (value.Bool b) = refl
folder_bytes (value.Text t) = refl
folder_bytes (value.Int (negsuc n)) = refl
folder_bytes (value.Int (pos n)) =
    let date = date_of (n / 86400) in
    cond_both (nat_le n last_second) (date_folder date) no_day (λ folder. list_all is_folder_byte folder ≡ true)
    (λ _. day_bytes_fit (date_folder date) (date_in date))
    (λ _. refl)
