use Rattle.std.proofs.Common.{refl, None}
use Rattle.gob_state.proofs.SettingLemmas.{pipeline_pairing}
use Rattle.gob_state.proofs.Steps.{first_missing, same_mapped, then_second}
use Rattle.gob_state.proofs.pipelines.take_pipeline.Goals as goal

pub returns-in_default : goal.returns-in_default
returns-in_default c =
    first_missing pipeline_pairing _ c.take_numbered.new.text _ None None c.in_default.ensures refl refl

pub returns : goal.returns
returns c = then_second pipeline_pairing _ c.take_numbered.new.text _ c.in-Some.lines c.in_ok-settings.settings _
    c.in-Some.ensures c.in_ok-settings.ensures (same_mapped c.in_ok-settings.settings)
