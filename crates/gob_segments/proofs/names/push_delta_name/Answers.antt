use Rattle.gob_segments.proofs.Named.{delta_pushed}
use Rattle.gob_segments.proofs.names.push_delta_name.Goals as goal

pub returns : goal.returns
returns c =
    let first = rw c.as_bytes.ensures.value at c.in_ok-extend_from_slice.ensures.items in
    delta_pushed c.args.into.now.items c.args.job.now _ _ _ c.args.run first c.in_ok-extend_from_slice-2.ensures.items
    c.in_ok-push_offset.ensures.ok
