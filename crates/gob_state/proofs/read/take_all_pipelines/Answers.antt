use Rattle.std.proofs.Common.{refl, sym, subst, ◌∙◌, Some, None}
use Rattle.std.specs.List.{IsDistinct}
use Rattle.std.specs.Str.{bytes_eq}
use Rattle.std.proofs.lemmas.Bool.{false≢true}
use Rattle.gob_state.specs.Versions.{version_of}
use Rattle.gob_state.proofs.FileLemmas.{pipelines_pairing}
use Rattle.gob_state.proofs.Steps.{both_read, first_missing, not_even, passed, refused, second_missing}
use Rattle.gob_state.proofs.read.take_all_pipelines.Goals as goal

pub returns-in_default : goal.returns-in_default
returns-in_default c = not_even _ _ _ None None
    (first_missing
    (pipelines_pairing (version_of c.args.version)) _ c.take_count.new.text c.take_count.new.text None None
    c.in_default.ensures refl refl) (λ ps h. (h.0, h.1)) refl refl

pub returns-in_default-2 : goal.returns-in_default-2
returns-in_default-2 c = not_even _ _ _ None None
    (second_missing (pipelines_pairing (version_of c.args.version)) _ c.take_count.new.text c.take_pipelines.new.text
    c.in-Some.count c.in_ok-pipelines.field-0 None c.in-Some.ensures c.in_ok-pipelines.ensures c.in_default-2.is refl)
    (λ ps h. (h.0, h.1)) refl refl

pub returns-then-not-branch : goal.returns-then-not-branch
returns-then-not-branch c = refused _ _ _ c.in-Some-2.pipelines None
    (both_read (pipelines_pairing (version_of c.args.version)) _ c.take_count.new.text c.take_pipelines.new.text
    c.in-Some.count c.in-Some-2.pipelines c.in_ok-pipelines.field-0 _ c.in-Some.ensures c.in_ok-pipelines.ensures
    c.in-Some-2.is refl) (λ ps h. (h.0, h.1))
    (λ h. false≢true (sym c.if-not-branch.true
    ∙ c.in_ok-are_distinct.ensures.1 (subst (IsDistinct bytes_eq) (sym c.as_slice.ensures) h.2))) refl

pub returns : goal.returns
returns c =
    let r = both_read (pipelines_pairing (version_of c.args.version)) _ c.take_count.new.text c.take_pipelines.new.text
    c.in-Some.count c.in-Some-2.pipelines c.in_ok-pipelines.field-0 (Some c.in-Some-2.pipelines) c.in-Some.ensures
    c.in_ok-pipelines.ensures c.in-Some-2.is refl in
    passed _ _ c.in-Some-2.pipelines r (λ ps h. (h.0, h.1)) (
      r.spelled.0.0,
      r.spelled.0.1,
      subst (IsDistinct bytes_eq) c.as_slice.ensures (c.in_ok-are_distinct.ensures.0 c.if-not-branch.false),
    )
