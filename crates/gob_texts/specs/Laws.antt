-- The law of what a run tells.
use Rattle.gob_ledger.specs.Marks.{Marks, Tiled, IsWatermark}
use Rattle.gob_texts.specs.Report.{watermark_of}

-- the watermark that a mark line tells is the least offset in no done range
abbrev pub TellsWatermark : Type 0
TellsWatermark = (m : Marks) → Tiled m → IsWatermark (watermark_of m) m
