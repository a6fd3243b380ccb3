use Rattle.std.proofs.Common.{refl, None}
use Rattle.gob_state.specs.Versions.{version_of}
use Rattle.gob_state.proofs.FileLemmas.{counted_pairing}
use Rattle.gob_state.proofs.Steps.{both_read, first_missing, is_there, second_missing}
use Rattle.gob_state.proofs.read.take_counted.Goals as goal

pub returns-in_default : goal.returns-in_default
returns-in_default c = first_missing
    (counted_pairing (version_of c.args.version) c.args.pipelines) _ c.take_totals.new.text _
    c.in_ok-totals.field-0 None c.in_ok-totals.ensures c.in_default.is refl

pub returns-in_default-2 : goal.returns-in_default-2
returns-in_default-2 c = second_missing
    (counted_pairing (version_of c.args.version) c.args.pipelines) _ c.take_totals.new.text _
    c.in-Some.totals c.in_ok-marks.field-0 None (is_there _ _ _ c.in-Some.totals c.in_ok-totals.ensures c.in-Some.is)
    c.in_ok-marks.ensures c.in_default-2.is refl

pub returns : goal.returns
returns c = both_read (counted_pairing (version_of c.args.version) c.args.pipelines) _ c.take_totals.new.text _
    c.in-Some.totals c.in-Some-2.marks c.in_ok-marks.field-0 _
    (is_there _ _ _ c.in-Some.totals c.in_ok-totals.ensures c.in-Some.is) c.in_ok-marks.ensures c.in-Some-2.is refl
