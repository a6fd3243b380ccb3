-- Dates by day number, where day 0 is 1 January 1970, and the folder of a second's day.
use Rattle.std.specs.Prelude.{◌≡◌, ℕ, ◌+◌, ◌-◌, ◌*◌, ◌/◌, ◌%◌, nat_lt, nat_le, if◌then◌else◌, ℤ, pos, negsuc, List, []}
use Rattle.std.specs.Prelude.{◌∷◌, ◌++◌, codes}
use Rattle.gob_bytes.specs.Digits.{padded_digits}
use Rattle.gob_plan.specs.declared.rows.Value.{Value}
use Rattle.gob_plan.specs.declared.rows.Value.TheVariants as value
use Rattle.jiff_core.specs.Calendar.{IsCivilDate, days_from_civil}

-- a date of the years from 0 on
pub record Date : Type 0 where
  pub year : ℕ
  pub month : ℕ
  pub day : ℕ

-- the date at this place, from 0, of the year that begins in March
abbrev pub march_date : ℕ → ℕ → Date
march_date year place =
    let month = (5 * place + 461) / 153 in
    let day = (5 * place + 461) % 153 / 5 + 1 in
    if nat_lt 12 month then record { year = year + 1; month = month - 12; day = day }
    else record { year = year; month = month; day = day }

-- the date of a day number, in closed form: what it means stands in `IsDateOf`
unfoldable pub date_of : ℕ → Date
date_of number =
    let quarters = 4 * (number + 719468) + 3 in
    let in_century = quarters % 146097 / 4 * 4 + 3 in
    march_date (100 * (quarters / 146097) + in_century / 1461) (in_century % 1461 / 4)

-- the date is in the calendar, has this day number, and is the only one that has it
pub record IsDateOf (number : ℕ) (date : Date) : Type 0 where
  pub civil : IsCivilDate (pos date.year) date.month date.day
  pub numbered : days_from_civil (pos date.year) date.month date.day ≡ pos number
  pub only : (y : ℤ) (m d : ℕ) → IsCivilDate y m d → days_from_civil y m d ≡ pos number
      → (y ≡ pos date.year) × (m ≡ date.month) × (d ≡ date.day)

-- the last second of the year 9999
abbrev pub last_second : ℕ
last_second = 253402300799

-- four, two and two digits, each with a '/'
abbrev pub date_folder : Date → List ℕ
date_folder date = padded_digits 4 date.year ++ 47 ∷ padded_digits 2 date.month ++ 47 ∷ padded_digits 2 date.day ++ 47
    ∷ []

-- where what has no day is placed
abbrev pub no_day : List ℕ
no_day = codes "none/"

-- the folder of the day of a second since 1970; no other value has a day
abbrev pub day_folder : Value → List ℕ
day_folder (value.Int (pos second)) =
    if nat_le second last_second then date_folder (date_of (second / 86400)) else no_day
day_folder (value.Int (negsuc n)) = no_day
day_folder value.Null = no_day
day_folder (value.Bool b) = no_day
day_folder (value.Text t) = no_day
