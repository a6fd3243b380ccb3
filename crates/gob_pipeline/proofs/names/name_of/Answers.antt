use Rattle.std.proofs.Common.{◌++◌, ap, ap₂, ◌∙◌}
use Rattle.gob_pipeline.specs.Made.{target_value}
use Rattle.gob_pipeline.specs.Alphabet.{is_target_name}
use Rattle.gob_pipeline.proofs.Spelling.{named, name_text}
use Rattle.gob_pipeline.proofs.names.name_of.Goals as goal

pub text_from-requires : goal.text_from-requires
text_from-requires c =
    name_text c.extend_from_slice.new.self.items
    (named c.args.plan.now c.args.part.now c.args.lo c.args.hi (target_value c.args.target) c.push_front.new.into.items
    c.extend_from_slice.new.self.items c.in_ok-push_front.ensures.name c.in_ok-push_front.ensures.spelled
    (c.in_ok-extend_from_slice.ensures.items
    ∙ ap₂ (λ a b. a ++ b) c.in_ok-push_range.ensures (c.as_bytes.ensures.value ∙ c.ending.ensures))).bytes

pub returns-clause-name : goal.returns-clause-name
returns-clause-name c =
    c.from_string.ensures ∙ c.text_from.ensures
    ∙ (named c.args.plan.now c.args.part.now c.args.lo c.args.hi (target_value c.args.target)
    c.push_front.new.into.items c.extend_from_slice.new.self.items c.in_ok-push_front.ensures.name
    c.in_ok-push_front.ensures.spelled
    (c.in_ok-extend_from_slice.ensures.items
    ∙ ap₂ (λ a b. a ++ b) c.in_ok-push_range.ensures (c.as_bytes.ensures.value ∙ c.ending.ensures))).is

pub returns-clause-spelled : goal.returns-clause-spelled
returns-clause-spelled c =
    ap is_target_name (c.from_string.ensures ∙ c.text_from.ensures)
    ∙ (named c.args.plan.now c.args.part.now c.args.lo c.args.hi (target_value c.args.target)
    c.push_front.new.into.items c.extend_from_slice.new.self.items c.in_ok-push_front.ensures.name
    c.in_ok-push_front.ensures.spelled
    (c.in_ok-extend_from_slice.ensures.items
    ∙ ap₂ (λ a b. a ++ b) c.in_ok-push_range.ensures (c.as_bytes.ensures.value ∙ c.ending.ensures))).spelled
