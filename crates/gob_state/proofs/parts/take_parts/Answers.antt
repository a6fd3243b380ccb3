use Rattle.std.proofs.Common.{sym, subst, ◌∙◌}
use Rattle.std.proofs.lemmas.Bool.{false≢true}
use Rattle.gob_state.specs.Versions.{version_of}
use Rattle.gob_state.proofs.PartLemmas.{SomeParts, next_part, no_part_yet, part_missing, part_out_of_order, parts_read}
use Rattle.gob_state.proofs.Steps.{is_there, is_missing}
use Rattle.gob_state.proofs.parts.take_parts.Goals as goal

pub loop-alloc-init : goal.loop-alloc-init
loop-alloc-init c = subst (SomeParts (version_of c.args.version) c.args.pipelines c.args.text.now c.args.text.now)
    (sym c.new-table.ensures) (no_part_yet (version_of c.args.version) c.args.pipelines c.args.text.now)

pub returns-in_default : goal.returns-in_default
returns-in_default c = part_missing
    (version_of c.args.version) c.args.pipelines _ _ c.take_text.new.self _ _ c.loop-alloc.table
    c.take_text.result c.loop-alloc.invariant c.take_text.ensures c.loop-alloc-test.true
    (is_missing _ c.take_part.new.text c.in_ok-name.field-0 c.in_ok-name.ensures c.in_default.is)

pub returns-then-not-branch : goal.returns-then-not-branch
returns-then-not-branch c = part_out_of_order (version_of c.args.version) c.args.pipelines _ _ c.take_text.new.self
    c.take_part.new.text _ c.loop-alloc.table (c.in-Some.name, c.in-Some.marks)
    c.take_text.result c.loop-alloc.invariant c.take_text.ensures c.loop-alloc-test.true
    (is_there _ _ _ (c.in-Some.name, c.in-Some.marks) c.in_ok-name.ensures c.in-Some.is)
    (λ order. false≢true (sym c.if-not-branch.true ∙ c.in_ok-push.ensures.answer.1 order))

pub loop-alloc-preserved : goal.loop-alloc-preserved
loop-alloc-preserved c =
    subst (SomeParts (version_of c.args.version) c.args.pipelines c.args.text.now c.take_part.new.text)
    (sym (c.in_ok-push.ensures.added c.if-not-branch.false))
    (next_part (version_of c.args.version) c.args.pipelines _ _ c.take_text.new.self
    c.take_part.new.text c.loop-alloc.table (c.in-Some.name, c.in-Some.marks)
    c.take_text.result c.loop-alloc.invariant c.take_text.ensures c.loop-alloc-test.true
    (is_there _ _ _ (c.in-Some.name, c.in-Some.marks) c.in_ok-name.ensures c.in-Some.is)
    (c.in_ok-push.ensures.answer.0 c.if-not-branch.false))

pub returns : goal.returns
returns c = parts_read (version_of c.args.version) c.args.pipelines _ _ _ c.loop-alloc.table c.take_text.result
    c.loop-alloc.invariant c.take_text.ensures c.loop-alloc-test.false
