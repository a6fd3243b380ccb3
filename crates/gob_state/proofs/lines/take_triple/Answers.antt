use Rattle.std.proofs.Common.{refl, Some, None}
use Rattle.gob_state.proofs.LineLemmas.{triple_pairing}
use Rattle.gob_state.proofs.Steps.{then_second}
use Rattle.gob_state.proofs.lines.take_triple.Goals as goal

pub returns-in_err-second : goal.returns-in_err-second
returns-in_err-second c = then_second triple_pairing _ _ _ c.in_ok-first.first None _ c.in_ok-first.ensures
    c.in_err-second.ensures c.from_residual-in_err-second.ensures

pub returns : goal.returns
returns c = then_second triple_pairing _ _ _ c.in_ok-first.first (Some (c.in_ok-second.second, c.in_ok-second.third)) _
    c.in_ok-first.ensures c.in_ok-second.ensures refl
