use Rattle.std.proofs.Common.{◌≡◌, ◌∙◌, false, refl, sym, subst, None}
use Rattle.std.specs.declared.cmp.Ordering.TheVariants.{Less}
use Rattle.std.proofs.lemmas.Bool.{false≢true}
use Rattle.gob_bytes.specs.Tables.{name_cmp}
use Rattle.gob_marks.specs.Changed.{marks_in}
use Rattle.gob_state.specs.Ranges.{AreMarks}
use Rattle.gob_state.specs.Versions.{version_of}
use Rattle.gob_state.proofs.Steps.{first_missing, not_even}
use Rattle.gob_segments.proofs.Parted.{change_none, change_other, change_pairing, change_there, head_above}
use Rattle.gob_segments.proofs.Parted.{head_not_above, marks_are, over_marks}
use Rattle.gob_segments.proofs.parts.take_change.Goals as goal

pub returns-in_default : goal.returns-in_default
returns-in_default c = first_missing
    (change_pairing (version_of c.args.version) c.args.pipelines c.args.table.now c.args.last.now) _
    c.take_head.new.text _
    None None (not_even _ _ _ c.in_ok-name.field-0 None c.in_ok-name.ensures (λ p h. h.0) c.in_default.is refl) refl
    refl

pub returns-then-not-is_below : goal.returns-then-not-is_below
returns-then-not-is_below c = head_not_above (version_of c.args.version) c.args.pipelines c.args.table.now
    c.args.last.now c.in-Some.name c.in-Some.next _ _ _ c.in_ok-name.field-0 c.in_ok-name.ensures c.in-Some.is
    (λ less. false≢true (sym c.if-not-is_below.true ∙ c.is_below.ensures.1
    (subst (λ n. name_cmp c.args.last.now n ≡ Less) (sym c.as_str.ensures) less)))

pub take_changed-requires : goal.take_changed-requires
take_changed-requires c = subst (AreMarks (version_of c.args.version) c.args.pipelines) (sym c.in_ok-before.ensures)
    (marks_are (version_of c.args.version) c.args.pipelines c.args.table.now _ c.requires)

pub returns-in_default-2 : goal.returns-in_default-2
returns-in_default-2 c =
    let less = subst (λ n. name_cmp c.args.last.now n ≡ Less) c.as_str.ensures
    (c.is_below.ensures.0 c.if-not-is_below.false) in
    change_none (version_of c.args.version) c.args.pipelines c.args.table.now c.args.last.now c.in-Some.name
    c.in-Some.next
    _ c.take_head.new.text _ c.in_ok-marks.field-0
    (head_above c.args.last.now c.in-Some.name c.in-Some.next _ _ _ c.in_ok-name.ensures c.in-Some.is less)
    (over_marks (version_of c.args.version) c.args.pipelines c.args.table.now c.in-Some.name _ _ _ _ _
    c.in_ok-before.ensures c.as_str-2.ensures c.in_ok-marks.ensures) c.in_default-2.is

pub returns-then-next : goal.returns-then-next
returns-then-next c =
    let less = subst (λ n. name_cmp c.args.last.now n ≡ Less) c.as_str.ensures
    (c.is_below.ensures.0 c.if-not-is_below.false) in
    change_other (version_of c.args.version) c.args.pipelines c.args.table.now c.args.last.now c.in-Some.name
    c.in-Some.next _ c.take_head.new.text _ c.in_ok-marks.field-0 c.in-Some-2.marks
    (head_above c.args.last.now c.in-Some.name c.in-Some.next _ _ _ c.in_ok-name.ensures c.in-Some.is less)
    (over_marks (version_of c.args.version) c.args.pipelines c.args.table.now c.in-Some.name _ _ _ _ _
    c.in_ok-before.ensures c.as_str-2.ensures c.in_ok-marks.ensures) c.in-Some-2.is
    (λ e. c.if-next.true (c.next.ensures.next ∙ e))

pub returns : goal.returns
returns c =
    let less = subst (λ n. name_cmp c.args.last.now n ≡ Less) c.as_str.ensures
    (c.is_below.ensures.0 c.if-not-is_below.false) in
    change_there (version_of c.args.version) c.args.pipelines c.args.table.now c.args.last.now c.in-Some.name
    c.in-Some.next _ c.take_head.new.text _ c.in_ok-marks.field-0 c.in-Some-2.marks
    (head_above c.args.last.now c.in-Some.name c.in-Some.next _ _ _ c.in_ok-name.ensures c.in-Some.is less)
    (over_marks (version_of c.args.version) c.args.pipelines c.args.table.now c.in-Some.name _ _ _ _ _
    c.in_ok-before.ensures c.as_str-2.ensures c.in_ok-marks.ensures) c.in-Some-2.is
    (sym c.next.ensures.next ∙ c.if-next.false)
