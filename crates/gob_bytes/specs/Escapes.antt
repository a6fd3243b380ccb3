-- Names as they are escaped: every byte but letters, digits, '.', '_' and '-' as '%' and two upper-case digits.
use Rattle.std.specs.Prelude.{◌≡◌, ℕ, ◌<◌, Bool, cond, ◌&&◌, ◌||◌, nat_eq, nat_le, List, [], ◌∷◌, All}
use Rattle.std.specs.List.{flat_map}
use Rattle.percent_encoding.specs.Percent.{percent_encode_byte}

abbrev pub is_letter : ℕ → Bool
is_letter b = (nat_le 65 b && nat_le b 90) || (nat_le 97 b && nat_le b 122)

abbrev pub is_digit : ℕ → Bool
is_digit b = nat_le 48 b && nat_le b 57

-- a byte that stands for itself in an escaped name
abbrev pub is_plain : ℕ → Bool
is_plain b = is_letter b || is_digit b || nat_eq b 46 || nat_eq b 95 || nat_eq b 45

unfoldable pub escape_of : List ℕ → List ℕ
escape_of name = flat_map (λ b. cond (is_plain b) (b ∷ []) (percent_encode_byte b)) name

-- numbers that are bytes
abbrev pub AreBytes : List ℕ → Type 0
AreBytes bs = All (λ b. b < 256) bs

-- two names that are escaped alike are one
abbrev pub EscapesTellNamesApart : Type 0
EscapesTellNamesApart = (x y : List ℕ) → AreBytes x → AreBytes y → escape_of x ≡ escape_of y → x ≡ y
