use Rattle.std.proofs.Common.{take, arith}
use Rattle.std.proofs.lemmas.List.{length-take}
use Rattle.gob_cut.proofs.Looks.{last_told}
use Rattle.gob_cut.proofs.Places.{last_within}
use Rattle.gob_cut.proofs.ends.look_for_last.Goals as goal

pub returns-clause-end : goal.returns-clause-end
returns-clause-end g c =
    last_told (g.S.Source.supply c.args.source.now) c.args.part.now c.args.at _ c.in_ok-n.n c.look.new.into
    c.last_line_end.result c.in_ok-n.ensures.bytes c.last_line_end.ensures

pub returns-clause-within : goal.returns-clause-within
returns-clause-within g c =
    last_within c.last_line_end.result (take c.in_ok-n.n c.look.new.into) _ c.last_line_end.ensures
    (omega (arith, length-take c.in_ok-n.n c.look.new.into, c.look.auto.into))
