use Rattle.std.proofs.Common.{◌≡◌, ◌+◌, min, arith}
use Rattle.gob_cut.proofs.Looks.{first_is_end, last_is_end}
use Rattle.gob_cut.proofs.ends.next_end.Goals as goal

pub returns-in-Some-clause-end : goal.returns-in-Some-clause-end
returns-in-Some-clause-end g c =
    let limit : c.min-limit.result ≡ min (c.args.lo + c.args.max) c.args.size = omega arith in
    let told = rw c.in-Some.is at c.in_ok-last.ensures.end in
    last_is_end (g.S.Source.supply c.args.source.now) c.args.part.now c.args.size c.args.lo c.args.max
    c.min-limit.result c.in-Some.end c.requires.within limit told

pub returns-in_ok-first-in-None-clause-end : goal.returns-in_ok-first-in-None-clause-end
returns-in_ok-first-in-None-clause-end g c =
    let limit : c.min-limit.result ≡ min (c.args.lo + c.args.max) c.args.size = omega arith in
    let told = rw c.in-None.is at c.in_ok-last.ensures.end in
    first_is_end (g.S.Source.supply c.args.source.now) (g.S.Source.supply c.last_end.new.source) c.args.part.now
    c.args.size c.args.lo c.args.max c.min-limit.result c.in_ok-first-in-None.first
    c.in_ok-last.ensures.supply c.requires.within limit told c.in_ok-first-in-None.ensures.end
