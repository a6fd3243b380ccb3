use Rattle.std.proofs.Common.{◌≡◌, [], ◌∷◌, ◌++◌, sym, ap, ◌∙◌, append-nil, append_assoc, arith}
use Rattle.gob_meaning.specs.Values.{value_text}
use Rattle.gob_formats.specs.Fields.{field_written, more_fields}
use Rattle.gob_formats.proofs.Kept.{loop_adds, loop_added, keeps_then, keeps_adds}
use Rattle.gob_formats.proofs.Written.{more_splits, no_more}
use Rattle.gob_formats.proofs.csv_write.write_more.Goals as goal

pub loop-value-preserved : goal.loop-value-preserved
loop-value-preserved c =
    let l = c.loop-value in
    let x = c.value-item.result in
    let field = field_written (value_text x) in
    let next = c.write_field.new.into.items in
    let adds : next ≡ l.into.items ++ (44 ∷ field) =
    c.in_ok-write_field.ensures.ok ∙ ap (λ t. t ++ field) c.in_ok-push.ensures.items
    ∙ append_assoc l.into.items (44 ∷ []) field in (
      loop_adds more_fields (λ v. 44 ∷ field_written (value_text v)) c.args.values.now l.value-index x
          c.args.into.now.items l.into.items next more_splits (omega arith) c.value-item.is adds l.invariant.0,
      keeps_then _ _ _ l.invariant.1 (keeps_adds _ _ _ adds),
    )

pub returns-clause-ok : goal.returns-clause-ok
returns-clause-ok c =
    let l = c.loop-value in
    sym (append-nil l.into.items) ∙ ap (λ t. l.into.items ++ t) (sym no_more)
    ∙ loop_added more_fields c.args.values.now l.value-index c.args.into.now.items l.into.items
    (omega arith) l.invariant.0

pub returns-in_err-write_field-clause-keeps : goal.returns-in_err-write_field-clause-keeps
returns-in_err-write_field-clause-keeps c =
    keeps_then _ _ _ c.loop-value.invariant.1
    (keeps_then _ _ _ (keeps_adds _ _ _ c.in_ok-push.ensures.items) c.write_field.ensures.keeps)
