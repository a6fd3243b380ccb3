use Rattle.std.proofs.Common.{set, sym, ap, ◌∙◌, ◌++◌, []}
use Rattle.std.specs.Option.{unwrap_or}
use Rattle.gob_bytes.specs.Tables.{with_name}
use Rattle.gob_memory.proofs.Places.{with-changed, at-changed}
use Rattle.gob_pipeline.proofs.buffers.add_at.Goals as goal

pub returns-in_ok-push-in-Ok-clause-ok : goal.returns-in_ok-push-in-Ok-clause-ok
returns-in_ok-push-in-Ok-clause-ok c =
    let at = rw c.as_slice.ensures.value at c.in-Ok.ensures in
    let table = c.args.table.now.items in
    let place = c.args.place.now in
    let entry = c.index_mut.result.now in
    let is = c.index_mut.ensures.value in
    ap (λ b. set table c.in-Ok.at (entry.0, b)) c.in_ok-push-in-Ok.ensures.ok
    ∙ with-changed table place c.in-Ok.at entry (entry.1 ++ c.args.bytes.now) at is
    ∙ ap (λ o. with_name table place (unwrap_or o [] ++ c.args.bytes.now))
    (sym (at-changed table place c.in-Ok.at entry c.requires at is))
