-- A day's folder ends in a slash.
use Rattle.std.proofs.Common.{◌≡◌, ◌⊎◌, inr, ℕ, List, [], ◌∷◌, ◌++◌, ◌/◌, nat_le, pos, negsuc, codes, refl}
use Rattle.std.proofs.lemmas.Bool.{cond_both}
use Rattle.gob_bytes.specs.Digits.{padded_digits}
use Rattle.gob_plan.specs.declared.rows.Value.{Value}
use Rattle.gob_plan.specs.declared.rows.Value.TheVariants as value
use Rattle.gob_meaning.specs.Days.{date_of, last_second, date_folder, no_day, day_folder}

abbrev Ends : List ℕ → Type 0
Ends text = (text ≡ []) ⊎ ((front : List ℕ) × (text ≡ front ++ 47 ∷ []))

none : Ends no_day
none = inr (codes "none", refl)

pub ends_in_slash : (v : Value) → Ends (day_folder v)
ends_in_slash value.Null = none
ends_in_slash (value.Bool b) = none
ends_in_slash (value.Text t) = none
ends_in_slash (value.Int (negsuc n)) = none
ends_in_slash (value.Int (pos second)) =
    let date = date_of (second / 86400) in
    cond_both (nat_le second last_second) (date_folder date) no_day Ends
    (λ _. inr (padded_digits 4 date.year ++ 47 ∷ padded_digits 2 date.month ++ 47 ∷ padded_digits 2 date.day, refl))
    (λ _. none)
