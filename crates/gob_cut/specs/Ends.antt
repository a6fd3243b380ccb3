-- Line ends in a part of a text, by their offsets in the whole.
use Rattle.std.specs.Prelude.{ℕ, ◌+◌, ◌-◌, List, take, drop, option_map}
use Rattle.std.specs.declared.option.Option.{Option}
use Rattle.gob_bytes.specs.Lines.{first_end, last_end}

-- the last line end above lo, up to hi
abbrev pub last_between : List ℕ → ℕ → ℕ → Option ℕ
last_between bytes lo hi = option_map (λ e. lo + e) (last_end (take (hi - lo) (drop lo bytes)))

-- the first line end above lo
abbrev pub first_behind : List ℕ → ℕ → Option ℕ
first_behind bytes lo = option_map (λ e. lo + e) (first_end (drop lo bytes))
