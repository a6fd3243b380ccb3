use Rattle.std.proofs.Common.{None, Some}
use Rattle.gob_state.specs.Versions.{version_of}
use Rattle.gob_state.proofs.Steps.{is_missing, is_there}
use Rattle.gob_segments.proofs.Parted.{change_missing, changes_read, named_last, next_change, no_changes}
use Rattle.gob_segments.proofs.parts.take_changes.Goals as goal

pub loop-alloc-init : goal.loop-alloc-init
loop-alloc-init c = no_changes (version_of c.args.version) c.args.pipelines c.args.before c.args.text.now _
    c.requires.parted c.requires.names c.in_ok-last.ensures

pub take_change-requires : goal.take_change-requires
take_change-requires c = c.loop-alloc.invariant.parts

pub returns-in_default : goal.returns-in_default
returns-in_default c = change_missing (version_of c.args.version) c.args.pipelines c.args.before _ _
    c.take_text.new.self _ _ c.loop-alloc.table c.loop-alloc.last c.take_text.result c.loop-alloc.invariant
    c.take_text.ensures c.loop-alloc-test.true
    (named_last (version_of c.args.version) c.args.pipelines c.loop-alloc.table c.as_str.result.now c.loop-alloc.last _
    _ None
    c.as_str.ensures (is_missing _ c.take_change.new.text c.in_ok-name.field-0 c.in_ok-name.ensures c.in_default.is))

pub loop-alloc-preserved : goal.loop-alloc-preserved
loop-alloc-preserved c = next_change (version_of c.args.version) c.args.pipelines c.args.before _ _
    c.take_text.new.self c.take_change.new.text c.loop-alloc.table _ c.loop-alloc.last _
    (c.in-Some.name, c.in-Some.marks) c.take_text.result c.loop-alloc.invariant
    c.take_text.ensures c.loop-alloc-test.true
    (named_last (version_of c.args.version) c.args.pipelines c.loop-alloc.table c.as_str.result.now c.loop-alloc.last _
    _
    (Some (c.in-Some.name, c.in-Some.marks)) c.as_str.ensures
    (is_there _ _ _ (c.in-Some.name, c.in-Some.marks) c.in_ok-name.ensures c.in-Some.is)) c.in_ok-put.ensures.ok
    c.in_ok-last-2.ensures

pub returns : goal.returns
returns c = changes_read (version_of c.args.version) c.args.pipelines c.args.before _ _ _ c.loop-alloc.table
    c.loop-alloc.last c.take_text.result c.loop-alloc.invariant c.take_text.ensures c.loop-alloc-test.false
