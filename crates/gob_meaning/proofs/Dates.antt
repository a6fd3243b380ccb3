-- The date of a day number is in the calendar, has that number and is alone in having it.
use Rattle.std.proofs.Common.{◌≡◌, ℕ, suc, ◌+◌, ◌-◌, ◌*◌, ◌/◌, ◌%◌, ◌<◌, ◌≤◌, ◌↔◌, inl, inr, nat_lt, sym, ◌∙◌, arith, ℤ}
use Rattle.std.proofs.Common.{pos, ◌<ℤ◌}
use Rattle.std.proofs.lemmas.Bool.{cond_both, cases_order, ltb-true, ltb-false}
use Rattle.std.proofs.lemmas.Int.{by_lt_z}
use Rattle.jiff_core.specs.Calendar.{day_count, days_from_civil, IsCivilDate}
use Rattle.jiff_core.specs.March.{march_days}
use Rattle.jiff_core.proofs.SignedLemmas.{signed_arith}
use Rattle.jiff_core.proofs.MarchLemmas.{leap_day, leap_day-shift, march_days-suc, day_count-early, day_count-late}
use Rattle.jiff_core.proofs.MarchLemmas.{month_and_day, day_in_month, day_in_early_month}
use Rattle.jiff_core.proofs.CalendarLemmas.{days_from_civil-day_count, day_count-lt_year, day_count-lt_month}
use Rattle.jiff_core.proofs.CalendarLemmas.{day_count-day}
use Rattle.gob_meaning.specs.Days.{date_of, IsDateOf}

-- a day of the year that begins in March, and how many days come before that year
record IsMarchDay (number year place : ℕ) : Type 0 where
  counted : march_days (year + 10000) + place ≡ number + 4371893
  within : number + 4371893 < march_days (year + 10001)
  short : place < 366

march_day : (number : ℕ) → number ≤ 2932896 → let quarters = 4 * (number + 719468) + 3 in let in_century =
    quarters % 146097 / 4 * 4 + 3 in
    IsMarchDay number (100 * (quarters / 146097) + in_century / 1461) (in_century % 1461 / 4)
march_day number small = record {
  counted = omega arith;
  within = omega arith;
  short = omega arith;
}

-- what is said of a day's date but that it is the only one
record IsOfDay (number year month day : ℕ) : Type 0 where
  civil : IsCivilDate (pos year) month day
  numbered : day_count (pos year) month day ≡ number + 4371953

-- from March to December the date lies in the year itself
late_date : (number year place : ℕ) → number ≤ 2932896 → IsMarchDay number year place → (5 * place + 461) / 153 ≤ 12
    → IsOfDay number year ((5 * place + 461) / 153) ((5 * place + 461) % 153 / 5 + 1)
late_date number year place small day late =
    let count = day_count-late (pos year) (year + 10000) ((5 * place + 461) / 153) ((5 * place + 461) % 153 / 5 + 1)
    (omega (arith, signed_arith)) (omega arith) late (omega arith) in
    record {
      civil = (
        (omega (arith, signed_arith), omega (arith, signed_arith)),
        (omega arith, late),
        (omega arith, day_in_month (pos year) place late),
      );
      numbered = omega (arith, count, month_and_day place day.short);
    }

-- a day of the year that begins in March is one of its days
within_year : (number year place : ℕ) → IsMarchDay number year place → place < 365 + leap_day (pos (year + 1))
within_year number year place day =
    let next : suc (year + 10000) ≡ year + 10001 = omega arith in
    let longer = rw next at (march_days-suc (year + 10000)) in
    let shifted = leap_day-shift (pos (year + 1)) (year + 10001) (omega (arith, signed_arith)) in
    omega (arith, longer, shifted, day.counted, day.within)

-- and in January and February in the next one
early_date : (number year place : ℕ) → number ≤ 2932896 → IsMarchDay number year place → 12 < (5 * place + 461) / 153
    → IsOfDay number (year + 1) ((5 * place + 461) / 153 - 12) ((5 * place + 461) % 153 / 5 + 1)
early_date number year place small day early =
    let month : (5 * place + 461) / 153 - 12 + 12 ≡ (5 * place + 461) / 153 = omega arith in
    let count = day_count-early (pos (year + 1)) (year + 10000) ((5 * place + 461) / 153 - 12)
    ((5 * place + 461) % 153 / 5 + 1) (omega (arith, signed_arith)) (omega arith) (omega arith) (omega arith) in
    record {
      civil = (
        (omega (arith, signed_arith), omega (arith, signed_arith)),
        (omega arith, omega arith),
        (omega arith, day_in_early_month (pos (year + 1)) place early (within_year number year place day)),
      );
      numbered = omega (arith, rw month at count, month_and_day place day.short);
    }

-- the parts of a date, as the calendar has them
record Civil : Type 0 where
  year : ℤ
  month : ℕ
  day : ℕ
  known : IsCivilDate year month day

abbrev number_of : Civil → ℕ
number_of c = day_count c.year c.month c.day

-- a date of a later year, or a later month, or a later day, has a larger number
later_year : (a b : Civil) → a.year <ℤ b.year → number_of a < number_of b
later_year a b later = day_count-lt_year a.year a.month a.day b.year b.month b.day a.known b.known.2.0 later

later_month : (a b : Civil) → a.year ≡ b.year → a.month < b.month → number_of a < number_of b
later_month a b year later = rw (← year) (day_count-lt_month a.year a.month a.day b.month b.day a.known b.known.2.0
    later)

later_day : (a b : Civil) → a.year ≡ b.year → a.month ≡ b.month → a.day < b.day → number_of a < number_of b
later_day a b year month later =
    rw (← year, ← month) (omega (arith, later, day_count-day a.year a.month a.day b.day a.known.2.0 b.known.2.0))

-- so two dates of one number are one
same_date : (a b : Civil) → number_of a ≡ number_of b → (a.year ≡ b.year) × (a.month ≡ b.month) × (a.day ≡ b.day)
same_date a b same =
    by_lt_z a.year b.year (λ before. absurd (omega (arith, later_year a b before)))
    (λ not_before. by_lt_z b.year a.year (λ after. absurd (omega (arith, later_year b a after)))
    (λ not_after. let year : a.year ≡ b.year = omega (arith, signed_arith) in
    elim (cases_order a.month b.month) [
      | inl month ↦ elim (cases_order a.day b.day) [
        | inl day ↦ (year, month, day)
        | inr (inl before) ↦ absurd (omega (arith, later_day a b year month before))
        | inr (inr after) ↦ absurd (omega (arith, later_day b a (sym year) (sym month) after))
      ]
      | inr (inl before) ↦ absurd (omega (arith, later_month a b year before))
      | inr (inr after) ↦ absurd (omega (arith, later_month b a (sym year) after))
    ]))

-- the day number of a date, by the count of days before it
day_number : (y : ℤ) (m d number : ℕ) → (days_from_civil y m d ≡ pos number) ↔ (day_count y m d ≡ number + 4371953)
day_number y m d number = (
  λ named. omega (arith, signed_arith, days_from_civil-day_count y m d),
  λ counted. omega (arith, signed_arith, days_from_civil-day_count y m d),
)

is_date : (number year month day : ℕ) → IsOfDay number year month day
    → IsDateOf number (record { year = year; month = month; day = day })
is_date number year month day is = record {
  civil = is.civil;
  numbered = (day_number (pos year) month day number).1 is.numbered;
  only = λ y m d known named. same_date (record { year = y; month = m; day = d; known = known })
      (record { year = pos year; month = month; day = day; known = is.civil })
      ((day_number y m d number).0 named ∙ sym is.numbered);
}

-- each day up to the end of the year 9999 has its date
pub dates_are : (number : ℕ) → number ≤ 2932896 → IsDateOf number (date_of number)
unfolding date_of
dates_are number small =
    let quarters = 4 * (number + 719468) + 3 in
    let in_century = quarters % 146097 / 4 * 4 + 3 in
    let year = 100 * (quarters / 146097) + in_century / 1461 in
    let place = in_century % 1461 / 4 in
    let day = march_day number small in
    cond_both (nat_lt 12 ((5 * place + 461) / 153)) _ _ (IsDateOf number)
    (λ early. is_date number _ _ _ (early_date number year place small day
    (ltb-true 12 ((5 * place + 461) / 153) early)))
    (λ late. is_date number _ _ _ (late_date number year place small day (ltb-false 12 ((5 * place + 461) / 153) late)))
