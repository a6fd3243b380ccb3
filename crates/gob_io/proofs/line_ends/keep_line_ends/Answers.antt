use Rattle.std.proofs.Common.{◌<◌, length, ◌∙◌, arith, get_or}
use Rattle.std.proofs.lemmas.List.{append-nil, drop_all, take_all}
use Rattle.std.proofs.lemmas.List.Edits.{map_over_more}
use Rattle.std.proofs.lemmas.List.{get_or_default}
use Rattle.gob_device.specs.Supply.{line_end_or_zero, seen_by_look}
use Rattle.gob_io.proofs.line_ends.keep_line_ends.Goals as goal

pub loop-byte-preserved : goal.loop-byte-preserved
loop-byte-preserved c =
    let bytes = c.loop-byte.bytes in
    let i = c.loop-byte.byte-index in
    let within : i < length bytes = omega arith in
    rw c.only_line_end.ensures (map_over_more line_end_or_zero c.args.bytes.now bytes i (get_or bytes i 0) (omega arith)
    c.loop-byte.invariant (get_or_default bytes i 0 (get_or bytes i 0) within))

pub returns : goal.returns
unfolding seen_by_look
returns c =
    let i = c.loop-byte.byte-index in
    let all = c.args.bytes.now in
    c.loop-byte.invariant ∙ simp (
      take_all i all c.loop-byte-test.false,
      drop_all i all c.loop-byte-test.false,
      append-nil,
    )
