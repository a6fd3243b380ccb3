use Rattle.gob_state.proofs.WriteLemmas.{numbers_begin}
use Rattle.gob_state.proofs.push.push_numbered.Goals as goal

pub loop-i-init : goal.loop-i-init
loop-i-init c =
    numbers_begin c.args.into.now.items c.args.word.now c.args.numbers.now _ c.in_ok-extend_from_slice.ensures.items
