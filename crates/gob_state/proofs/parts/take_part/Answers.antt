use Rattle.std.proofs.Common.{◌≡◌, ◌<◌, refl, sym, ◌∙◌, Some, None, arith}
use Rattle.gob_state.specs.Versions.{version_of}
use Rattle.gob_state.proofs.PartLemmas.{part_pairing}
use Rattle.gob_state.proofs.Steps.{both_read, first_missing, is_there, not_even, passed, refused, second_missing}
use Rattle.gob_state.proofs.parts.take_part.Goals as goal

pub returns-in_default : goal.returns-in_default
returns-in_default c = first_missing
    (part_pairing (version_of c.args.version) c.args.pipelines) _ c.take_head.new.text _
    c.in_ok-name.field-0 None c.in_ok-name.ensures c.in_default.is refl

pub returns-in_default-2 : goal.returns-in_default-2
returns-in_default-2 c = second_missing
    (part_pairing (version_of c.args.version) c.args.pipelines) _ c.take_head.new.text _
    (c.in-Some.name, c.in-Some.next) None None
    (is_there _ _ _ (c.in-Some.name, c.in-Some.next) c.in_ok-name.ensures c.in-Some.is)
    (not_even _ _ _ c.in_ok-marks.field-0 None c.in_ok-marks.ensures (λ m h. h.0) c.in_default-2.is refl) refl refl

pub returns-then-next-eq0 : goal.returns-then-next-eq0
returns-then-next-eq0 c = second_missing
    (part_pairing (version_of c.args.version) c.args.pipelines) _ c.take_head.new.text _
    (c.in-Some.name, c.in-Some.next) None None
    (is_there _ _ _ (c.in-Some.name, c.in-Some.next) c.in_ok-name.ensures c.in-Some.is)
    (refused _ _ _ c.in-Some-2.marks None (is_there _ _ _ c.in-Some-2.marks c.in_ok-marks.ensures c.in-Some-2.is)
    (λ m h. h.0) (λ h. let some : 0 < c.in-Some.next = h.2 in let none : c.in-Some.next ≡ 0 = c.if-next-eq0.true in
    absurd (omega arith)) refl) refl refl

pub returns-then-next : goal.returns-then-next
returns-then-next c = second_missing
    (part_pairing (version_of c.args.version) c.args.pipelines) _ c.take_head.new.text _
    (c.in-Some.name, c.in-Some.next) None None
    (is_there _ _ _ (c.in-Some.name, c.in-Some.next) c.in_ok-name.ensures c.in-Some.is)
    (refused _ _ _ c.in-Some-2.marks None (is_there _ _ _ c.in-Some-2.marks c.in_ok-marks.ensures c.in-Some-2.is)
    (λ m h. h.0) (λ h. c.if-next.true (c.next.ensures.next ∙ h.1)) refl) refl refl

pub returns : goal.returns
returns c =
    let r = is_there _ _ _ c.in-Some-2.marks c.in_ok-marks.ensures c.in-Some-2.is in
    let some : 0 < c.in-Some.next = let h = c.if-next-eq0.false in omega arith in
    both_read (part_pairing (version_of c.args.version) c.args.pipelines) _ c.take_head.new.text _
    (c.in-Some.name, c.in-Some.next) c.in-Some-2.marks (Some c.in-Some-2.marks) _
    (is_there _ _ _ (c.in-Some.name, c.in-Some.next) c.in_ok-name.ensures c.in-Some.is)
    (passed _ _ c.in-Some-2.marks r (λ m h. h.0) (
      r.spelled.0,
      sym c.next.ensures.next ∙ c.if-next.false,
      some,
    )) refl refl
