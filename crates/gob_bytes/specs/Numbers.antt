-- Numbers as they are read.
use Rattle.std.specs.Prelude.{◌≡◌, ℕ, ◌-◌, ◌^◌, ◌<◌, ◌↔◌, Bool, false, cond, ◌&&◌, nat_eq, nat_le, List, [], ◌∷◌, ℤ}
use Rattle.std.specs.Prelude.{pos, neg_ℤ}
use Rattle.std.specs.declared.option.Option.{Option}
use Rattle.std.specs.declared.option.Option.TheVariants.{None, Some}
use Rattle.std.specs.Option.{option_map}
use Rattle.std.specs.Str.{all_ascii_digits}
use Rattle.std.specs.Str.Parse.{digits_value}
use Rattle.std.specs.Fmt.{decimal}

-- one or more digits
abbrev pub is_digits : List ℕ → Bool
is_digits [] = false
is_digits (b ∷ bs) = all_ascii_digits (b ∷ bs)

-- the number that one or more digits write, where it is at most this
abbrev pub read_up_to : ℕ → List ℕ → Option ℕ
read_up_to most bs = cond (is_digits bs && nat_le (digits_value 10 bs) most) (Some (digits_value 10 bs)) None

-- a zero in front of more digits
abbrev pub has_spare_zero : List ℕ → Bool
has_spare_zero [] = false
has_spare_zero (b ∷ []) = false
has_spare_zero (b ∷ c ∷ bs) = nat_eq b 48

-- a number up to 2^64 - 1: `0`, or a digit from 1 to 9 and digits after it
unfoldable pub number_read : List ℕ → Option ℕ
number_read bs = cond (has_spare_zero bs) None (read_up_to (2 ^ 64 - 1) bs)

-- an integer from -2^63 to 2^63 - 1: `-` or nothing, and one or more digits, among them zeros in front
unfoldable pub integer_read : List ℕ → Option ℤ
integer_read [] = None
integer_read (b ∷ bs) = cond (nat_eq b 45) (option_map (λ n. neg_ℤ (pos n)) (read_up_to (2 ^ 63) bs))
    (option_map pos (read_up_to (2 ^ 63 - 1) (b ∷ bs)))

-- a number is read from what `decimal` writes of it, and from no other text
abbrev pub NumbersHaveOneForm : Type 0
NumbersHaveOneForm = (bs : List ℕ) (n : ℕ) → (number_read bs ≡ Some n) ↔ ((bs ≡ decimal n) × (n < 2 ^ 64))
