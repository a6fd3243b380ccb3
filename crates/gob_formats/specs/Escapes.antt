-- Which texts json writes as they are.
use Rattle.std.specs.Prelude.{ℕ, Bool, ◌==◌, ◌||◌, nat_lt, List}
use Rattle.std.specs.List.{list_any}

-- a quote, a backslash and a control character have an escape
abbrev pub is_escaped : ℕ → Bool
is_escaped b = (b == 34) || (b == 92) || nat_lt b 32

-- some byte of the text has one
abbrev pub needs_escape : List ℕ → Bool
needs_escape text = list_any is_escaped text
