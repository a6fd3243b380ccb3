use Rattle.std.proofs.Common.{refl, subst, Some, None}
use Rattle.gob_state.specs.Files.{AreCounted, counted_text}
use Rattle.gob_state.specs.Parts.{NoPart}
use Rattle.gob_state.specs.Reads.{ReadsSpelling}
use Rattle.gob_state.specs.Versions.{version_of}
use Rattle.gob_state.proofs.FileLemmas.{rest_pairing, state_pairing}
use Rattle.gob_state.proofs.Steps.{both_read, first_missing, is_there, second_missing}
use Rattle.gob_state.proofs.read.take_state.Goals as goal

pub returns-in_default-2 : goal.returns-in_default-2
returns-in_default-2 c = second_missing
    (state_pairing (version_of c.args.version)) _ c.take_numbered.new.text _ c.in-Some.run'
    None None c.in-Some.ensures
    (first_missing
    (rest_pairing (version_of c.args.version)) _ c.take_all_pipelines.new.text _ c.in_ok-pipelines.field-0 None
    c.in_ok-pipelines.ensures c.in_default-2.is refl) refl refl

pub returns-in_default-3 : goal.returns-in_default-3
returns-in_default-3 c = second_missing
    (state_pairing (version_of c.args.version)) _ c.take_numbered.new.text _ c.in-Some.run'
    None None c.in-Some.ensures
    (second_missing (rest_pairing (version_of c.args.version)) _ c.take_all_pipelines.new.text _ c.in-Some-2.pipelines
    c.in_ok-totals.field-0 None
    (is_there _ _ _ c.in-Some-2.pipelines c.in_ok-pipelines.ensures c.in-Some-2.is)
    (subst (λ k. ReadsSpelling (counted_text (version_of c.args.version))
    (AreCounted (version_of c.args.version) k) NoPart
    c.take_all_pipelines.new.text c.take_counted.new.text c.in_ok-totals.field-0) c.len-count.ensures
    c.in_ok-totals.ensures)
    c.in_default-3.is refl) refl refl

pub returns : goal.returns
returns c = both_read (state_pairing (version_of c.args.version)) _ c.take_numbered.new.text _ c.in-Some.run'
    (c.in-Some-2.pipelines, (c.in-Some-3.totals, c.in-Some-3.marks))
    (Some (c.in-Some-2.pipelines, (c.in-Some-3.totals, c.in-Some-3.marks))) _ c.in-Some.ensures
    (both_read (rest_pairing (version_of c.args.version)) _ c.take_all_pipelines.new.text _ c.in-Some-2.pipelines
    (c.in-Some-3.totals, c.in-Some-3.marks) c.in_ok-totals.field-0 _
    (is_there _ _ _ c.in-Some-2.pipelines c.in_ok-pipelines.ensures c.in-Some-2.is)
    (subst (λ k. ReadsSpelling (counted_text (version_of c.args.version))
    (AreCounted (version_of c.args.version) k) NoPart
    c.take_all_pipelines.new.text c.take_counted.new.text c.in_ok-totals.field-0) c.len-count.ensures
    c.in_ok-totals.ensures)
    c.in-Some-3.is refl) refl refl
