-- The day of a second, in the calendar.
use lib.Signed.{lt_z}
use Rattle.std.proofs.Common.{◌≡◌, false, ℕ, ◌/◌, ◌≤◌, cond, ℤ, pos, negsuc, unsigned_abs, refl, sym, ap, ◌∙◌, arith}
use Rattle.std.proofs.lemmas.Bool.{le-leb}
use Rattle.jiff_core.specs.declared.civil.date.Date as civil
use Rattle.jiff_core.specs.Date.{epoch_day}
use Rattle.gob_plan.specs.declared.rows.Value.TheVariants as value
use Rattle.gob_meaning.specs.Days.{Date, date_of, IsDateOf, last_second, date_folder, no_day, day_folder}
use Rattle.gob_meaning.proofs.Dates.{dates_are}
use Rattle.gob_timeplace.specs.Folders.{date_parts}

-- the calendar's date of a day number is the day's date
parts_are : (d : civil.Date) (number : ℕ) → number ≤ 2932896 → epoch_day d ≡ pos number
    → date_of number ≡ date_parts d
parts_are d number small is =
    let known = (dates_are number small).only d.year d.month d.day (d.year_in, d.month_in, d.day_in) is in
    λ i. record { year = unsigned_abs (sym known.0 i); month = sym known.1 i; day = sym known.2 i }

pub folder_is : (d : civil.Date) (second : ℕ) → second ≤ 253402300799 → epoch_day d ≡ pos (second / 86400)
    → day_folder (value.Int (pos second)) ≡ date_folder (date_parts d)
folder_is d second small is =
    ap (λ b. cond b (date_folder (date_of (second / 86400))) no_day) (le-leb second last_second small)
    ∙ ap date_folder (parts_are d (second / 86400) (omega arith) is)

-- a second that isn't before 1970 isn't negative
pub since_1970 : (s : ℤ) → lt_z s (pos 0) ≡ false → s ≡ pos (unsigned_abs s)
since_1970 (pos n) since = refl
since_1970 (negsuc n) since = cc
