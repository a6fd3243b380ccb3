use Rattle.std.proofs.Common.{◌≡◌, [], ◌∷◌, ◌++◌, ap, ◌∙◌, append_assoc, arith}
use Rattle.std.proofs.lemmas.Result.{on_ok_weaker}
use Rattle.serde_json.specs.Written.{compact_text}
use Rattle.gob_meaning.specs.Formats.{value_data}
use Rattle.gob_formats.specs.declared.json_write.Member.{Member}
use Rattle.gob_formats.specs.Members.{column_value, members_written}
use Rattle.gob_formats.proofs.Kept.{loop_adds, loop_added, keeps_then, keeps_adds}
use Rattle.gob_formats.proofs.Spelled.{members_split}
use Rattle.gob_formats.proofs.json_write.write_object.Goals as goal

pub loop-member-preserved : goal.loop-member-preserved
loop-member-preserved c =
    let l = c.loop-member in
    let x = c.member-item.result in
    let values = c.args.values.now in
    let text = compact_text (value_data (column_value x.index values)) in
    let next = c.write_member.new.into.items in
    let adds : next ≡ l.into.items ++ (x.key ++ text) =
    c.in_ok-write_member.ensures.ok
    ∙ ap (λ t. t ++ text) (c.in_ok-add.ensures.ok ∙ ap (λ k. l.into.items ++ k) c.as_slice.ensures)
    ∙ append_assoc l.into.items x.key text in (
      loop_adds (λ ms. members_written ms values)
          (λ (m : Member). m.key ++ compact_text (value_data (column_value m.index values)))
          c.args.members.now l.member-index x (c.args.into.now.items ++ 123 ∷ []) l.into.items next
          (λ m ms. members_split m ms values) (omega arith) c.member-item.is adds
          l.invariant.0,
      keeps_then _ _ _ l.invariant.1 (keeps_adds _ _ _ adds),
    )

pub returns-clause-ok : goal.returns-clause-ok
returns-clause-ok c =
    let l = c.loop-member in
    let values = c.args.values.now in
    let whole : l.into.items ++ 125 ∷ 10 ∷ []
    ≡ c.args.into.now.items ++ 123 ∷ members_written c.args.members.now values =
    loop_added (λ ms. members_written ms values) c.args.members.now l.member-index
    (c.args.into.now.items ++ 123 ∷ []) l.into.items (omega arith) l.invariant.0
    ∙ append_assoc c.args.into.now.items (123 ∷ []) (members_written c.args.members.now values) in
    on_ok_weaker c.add-2.result (λ is. is ∙ whole) c.add-2.ensures.ok
