-- Numbers as they are written with a fixed width.
use Rattle.std.specs.Prelude.{◌≡◌, ℕ, zero, suc, ◌+◌, ◌/◌, ◌%◌, ◌^◌, ◌<◌, List, [], ◌∷◌, ◌++◌, length}

-- the last so many digits of a number, with zeros in front
unfoldable pub padded_digits : ℕ → ℕ → List ℕ
padded_digits zero n = []
padded_digits (suc k) n = padded_digits k (n / 10) ++ (48 + n % 10) ∷ []

-- an offset: twenty digits
unfoldable pub offset : ℕ → List ℕ
offset n = padded_digits 20 n

-- an offset has twenty digits, and two offsets below 10^20 that are written alike are one
abbrev pub OffsetsHaveOneForm : Type 0
OffsetsHaveOneForm = ((n : ℕ) → length (offset n) ≡ 20)
    × ((m n : ℕ) → m < 10 ^ 20 → n < 10 ^ 20 → offset m ≡ offset n → m ≡ n)
