-- The lines of a text. Each ends at a line feed; what stands after the last line feed belongs to no line.
use Rattle.std.specs.Prelude.{◌≡◌, ℕ, ◌+◌, ◌≤◌, Bool, true, false, cond, not, nat_eq, List, [], ◌∷◌, ◌++◌, map, length}
use Rattle.std.specs.Prelude.{All}
use Rattle.std.specs.declared.option.Option.{Option}
use Rattle.std.specs.declared.option.Option.TheVariants.{None}
use Rattle.std.specs.List.{flat_map, list_all, slice_get, last_or}
use Rattle.std.specs.List.Sorted.{IsStrictlyIncreasing}

-- where a line starts, and its bytes before its line feed
pub record Line : Type 0 where
  pub start : ℕ
  pub body : List ℕ

-- the line with its end
abbrev pub raw_of : Line → List ℕ
raw_of l = l.body ++ 10 ∷ []

-- bytes without one carriage return at their end
abbrev pub without_cr : List ℕ → List ℕ
without_cr [] = []
without_cr (b ∷ []) = cond (nat_eq b 13) [] (b ∷ [])
without_cr (b ∷ c ∷ bs) = b ∷ without_cr (c ∷ bs)

-- the line without its end: neither the line feed nor one carriage return before it
abbrev pub text_of : Line → List ℕ
text_of l = without_cr l.body

-- the lines of a text whose first line began at start with the bytes begun
unfoldable pub lines_from : ℕ → List ℕ → List ℕ → List Line
lines_from start begun [] = []
lines_from start begun (b ∷ bs) = cond (nat_eq b 10)
    (record { start = start; body = begun } ∷ lines_from (start + length begun + 1) [] bs)
    (lines_from start (begun ++ b ∷ []) bs)

abbrev pub lines : List ℕ → List Line
lines bytes = lines_from 0 [] bytes

-- what stands after the last line feed, where the first line began with the bytes begun
unfoldable pub rest_from : List ℕ → List ℕ → List ℕ
rest_from begun [] = begun
rest_from begun (b ∷ bs) = cond (nat_eq b 10) (rest_from [] bs) (rest_from (begun ++ b ∷ []) bs)

abbrev pub rest : List ℕ → List ℕ
rest bytes = rest_from [] bytes

-- where that rest starts
unfoldable pub start_from : ℕ → List ℕ → List ℕ → ℕ
start_from start begun [] = start
start_from start begun (b ∷ bs) = cond (nat_eq b 10) (start_from (start + length begun + 1) [] bs)
    (start_from start (begun ++ b ∷ []) bs)

-- the offset after a line's end
abbrev pub end_of : Line → ℕ
end_of l = l.start + length l.body + 1

-- the offsets after a line feed, rising
abbrev pub line_ends : List ℕ → List ℕ
line_ends bytes = map end_of (lines bytes)

-- the offset after the first line feed, if there is one
abbrev pub first_end : List ℕ → Option ℕ
first_end bytes = slice_get (line_ends bytes) 0

-- the offset after the last line feed, if there is one
abbrev pub last_end : List ℕ → Option ℕ
last_end bytes = last_or None (line_ends bytes)

-- the text ends in a line feed
abbrev pub ends_in_lf : List ℕ → Bool
ends_in_lf [] = false
ends_in_lf (b ∷ []) = nat_eq b 10
ends_in_lf (b ∷ c ∷ bs) = ends_in_lf (c ∷ bs)

-- the lines of a text in two pieces are those of the first, and then those that go on from its rest
pub record LinesJoin (x y : List ℕ) : Type 0 where
  pub lines : lines_from 0 [] (x ++ y) ≡ lines_from 0 [] x ++ lines_from (start_from 0 [] x) (rest_from [] x) y
  pub rest : rest_from [] (x ++ y) ≡ rest_from (rest_from [] x) y

-- no byte of these is a line feed
abbrev pub has_no_feed : List ℕ → Bool
has_no_feed bytes = list_all (λ b. not (nat_eq b 10)) bytes

-- the first of the lines starts here, and each other one where the one before it ends
abbrev pub StandInARowFrom : ℕ → List Line → Type 0
StandInARowFrom place [] = Unit {0}
StandInARowFrom place (l ∷ ls) = (l.start ≡ place) × StandInARowFrom (end_of l) ls

-- the ends of a text's lines rise and lie within it, no line holds a line feed, the lines stand one behind the other,
-- and with the rest they are the whole text
pub record LinesFill (bytes : List ℕ) : Type 0 where
  pub rising : IsStrictlyIncreasing (line_ends bytes)
  pub within : All (λ e. e ≤ length bytes) (line_ends bytes)
  pub bodies : list_all (λ l. has_no_feed l.body) (lines bytes) ≡ true
  pub in_a_row : StandInARowFrom 0 (lines bytes)
  pub start : start_from 0 [] bytes + length (rest bytes) ≡ length bytes
  pub whole : flat_map raw_of (lines bytes) ++ rest bytes ≡ bytes

-- where lines end is told by where line feeds stand: what shows the line feeds of a text shows its line ends
abbrev pub LineEndsAreTold : Type 0
LineEndsAreTold =
    (shown : ℕ → ℕ) → ((b : ℕ) → nat_eq (shown b) 10 ≡ nat_eq b 10) →
    (bytes : List ℕ) → line_ends (map shown bytes) ≡ line_ends bytes
