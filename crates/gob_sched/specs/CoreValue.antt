-- What the core of turns shows: its rules, the place in the schedule, and the units that haven't ended.
use Rattle.std.specs.Prelude.{ℕ, ◌+◌, ◌%◌, Bool, true, not, ◌&&◌, nat_eq, nat_lt, List, [], ◌∷◌, filter, length}
use Rattle.std.specs.List.{range_with_len}
use Rattle.gob_plan.specs.declared.plan.TurnRules.{TurnRules}

pub record CoreValue : Type 0 where
  pub rules : TurnRules
  pub place : ℕ
  pub left : List ℕ

-- so many units, none of which has had a turn
abbrev pub core_at_start : TurnRules → ℕ → CoreValue
core_at_start rules units = record { rules = rules; place = 0; left = range_with_len 0 units }

-- the next place of the schedule, which begins anew at its end
abbrev pub after_turn : CoreValue → CoreValue
after_turn c = record c { place = (c.place + 1) % length c.rules.schedule }

-- the same, and the unit has ended
abbrev pub after_end : ℕ → CoreValue → CoreValue
after_end unit c = record (after_turn c) { left = filter (λ u. not (nat_eq u unit)) c.left }

-- numbers that rise, the last of them below another
abbrev pub is_rising_below : List ℕ → ℕ → Bool
is_rising_below [] top = true
is_rising_below (x ∷ []) top = nat_lt x top
is_rising_below (x ∷ y ∷ ys) top = nat_lt x y && is_rising_below (y ∷ ys) top
