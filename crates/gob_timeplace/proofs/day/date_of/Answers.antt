use Rattle.std.proofs.Common.{◌≡◌, ◌/◌, pos, FitsSigned, w64, sym, ap, ◌∙◌, arith}
use Rattle.std.proofs.lemmas.Int.{to_z-of_z}
use Rattle.jiff_core.proofs.SignedLemmas.{signed_arith}
use Rattle.jiff_core.specs.Date.{epoch_day}
use Rattle.gob_plan.specs.declared.rows.Value.TheVariants as value
use Rattle.gob_meaning.specs.Days.{day_folder}
use Rattle.gob_timeplace.proofs.DayLemmas.{folder_is, since_1970}
use Rattle.gob_timeplace.proofs.day.date_of.Goals as goal

pub returns : goal.returns
returns c =
    let fits : FitsSigned w64 c.args.second = c.ranges.second in
    let since = simp to_z-of_z at c.if-second-lt0.false in
    let size = simp to_z-of_z at c.unsigned_abs-second.ensures.value in
    let n = c.unsigned_abs-second.result in
    let is : c.args.second ≡ pos n = since_1970 c.args.second since ∙ ap pos (sym size) in
    let day = c.from_days_since_min.result in
    let number : epoch_day day ≡ pos (n / 86400) = omega (arith, signed_arith, c.from_days_since_min.ensures) in
    ap (λ s. day_folder (value.Int s)) is ∙ folder_is day n c.if-second-gt-LAST.false number
