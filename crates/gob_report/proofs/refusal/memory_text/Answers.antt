use Rattle.std.proofs.Common.{refl}
use Rattle.std.specs.Fmt.{digits}
use Rattle.gob_texts.specs.Refusals.{refusal_text}
use Rattle.gob_report.proofs.refusal.memory_text.Goals as goal

pub returns : goal.returns
unfolding digits refusal_text
returns c = refl
