use Rattle.gob_props.proofs.EscapeLemmas.{first_and_rest, step_some, step_none, step_end}
use Rattle.gob_props.proofs.entry.unescape.Goals as goal

pub loop-left-preserved : goal.loop-left-preserved
loop-left-preserved c =
    let left = c.loop-left.left.now in
    step_some _ _ left c.first-item.result c.in-Some.c _ c.in-Some.after.now _
    (first_and_rest left c.first-item.result c.in-len1-up.len_at_least c.first-item.is) c.in-Some.ensures.value
    c.in_ok-push-in-Some.ensures.bytes c.loop-left.invariant

pub returns-in-None : goal.returns-in-None
returns-in-None c =
    let left = c.loop-left.left.now in
    step_none _ left c.first-item.result _ _
    (first_and_rest left c.first-item.result c.in-len1-up.len_at_least c.first-item.is) c.in-None.ensures.value
    c.loop-left.invariant

pub returns : goal.returns
returns c = step_end _ c.loop-left.left.now _ c.in_default.len_below c.loop-left.invariant
