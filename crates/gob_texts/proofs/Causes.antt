-- How a unit's failure is told, cause by cause.
use Rattle.std.proofs.Common.{◌≡◌, [], ◌∷◌, refl, codes}
use Rattle.std.specs.Fmt.{digits}
use Rattle.gob_plan.specs.declared.units.Cause.TheVariants as cause
use Rattle.gob_texts.specs.Report.{cause_words}

pub causes_told :
    (cause_words (cause.Kill 1 20 300) ≡ codes "kill" ∷ codes "1" ∷ codes "20" ∷ codes "300" ∷ [])
    × (cause_words (cause.BadRecords 7) ≡ codes "bad-records" ∷ codes "7" ∷ [])
    × (cause_words (cause.Policy 0) ≡ codes "policy" ∷ codes "0" ∷ [])
    × (cause_words cause.Gone ≡ codes "gone" ∷ []) × (cause_words cause.Torn ≡ codes "torn" ∷ [])
    × (cause_words cause.Fault ≡ codes "fault" ∷ [])
unfolding digits
causes_told = (refl, refl, refl, refl, refl, refl)
