-- A date of the calendar, by its parts, and the folder that it gives a value.
use Rattle.std.specs.Prelude.{◌≡◌, unsigned_abs, Option, MatchOption}
use Rattle.jiff_core.specs.declared.civil.date.Date as civil
use Rattle.gob_plan.specs.declared.rows.Value.{Value}
use Rattle.gob_meaning.specs.Days.{Date, date_folder, no_day, day_folder}

-- the year, the month and the day
abbrev pub date_parts : civil.Date → Date
date_parts d = record { year = unsigned_abs d.year; month = d.month; day = d.day }

-- the value has this day, or has none
abbrev pub IsDayOf : Value → Option civil.Date → Type 0
IsDayOf v day = MatchOption day (day_folder v ≡ no_day) (λ d. day_folder v ≡ date_folder (date_parts d))
