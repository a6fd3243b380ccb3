-- There is one watermark.
use Rattle.std.proofs.Common.{◌≡◌, ℕ, ◌<◌, true, false, sym, ◌∙◌, arith}
use Rattle.gob_ledger.specs.Marks.{Marks, Tiled, IsWatermark}
use Rattle.gob_texts.specs.Report.{watermark_of}
use Rattle.gob_texts.proofs.Reached.{watermark}

not_below : (m : Marks) (v w : ℕ) → IsWatermark v m → IsWatermark w m → v < w → ⊥
not_below m v w is other below = let clash : true ≡ false = sym (other.below v below) ∙ is.here in cc

-- what is told is what the marks answer
pub told_watermark : (m : Marks) (w : ℕ) → Tiled m → IsWatermark w m → w ≡ watermark_of m
told_watermark m w tiled is =
    let due = watermark m tiled in
    let over = not_below m w (watermark_of m) is due in
    let under = not_below m (watermark_of m) w due is in
    omega (arith, over, under)
