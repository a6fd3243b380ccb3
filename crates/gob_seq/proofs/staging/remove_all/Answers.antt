use Rattle.std.proofs.Common.{map, subst, arith, rules}
use Rattle.std.proofs.lemmas.List.{take_all, length-map}
use Rattle.gob_device.specs.Disk.{AddsMaps, Along, Whole, after_remove}
use Rattle.gob_recovery.specs.Sequence.{remove}
use Rattle.gob_seq.specs.Maps.{EndsAs}
use Rattle.gob_seq.proofs.Fronts.{done_all, done_front, none_done, one_done, one_more, step_left}
use Rattle.gob_seq.proofs.staging.remove_all.Goals as goal

pub loop-name-init : goal.loop-name-init
loop-name-init g c = record { maps = none_done _ _; goes_on = omega arith }

pub returns-in_err-remove-clause-maps : goal.returns-in_err-remove-clause-maps
returns-in_err-remove-clause-maps g c =
    step_left (map remove c.args.names.now) c.loop-name.name-index (remove c.name-item.result)
    (one_more remove c.args.names.now c.loop-name.name-index c.name-item.result (search rules) c.name-item.is)
    c.loop-name.invariant.maps
    (subst (λ n. Along (Whole (after_remove n)) (g.V.Volume.disk c.loop-name.volume)
    (g.V.Volume.disk c.remove.new.volume)) c.as_str.ensures c.remove.ensures.maps)

pub loop-name-preserved : goal.loop-name-preserved
loop-name-preserved g c = record {
  maps = one_done (map remove c.args.names.now) c.loop-name.name-index (remove c.name-item.result)
      (one_more remove c.args.names.now c.loop-name.name-index c.name-item.result (search rules) c.name-item.is)
      c.loop-name.invariant.maps
      (subst (λ n. Along (Whole (after_remove n)) (g.V.Volume.disk c.loop-name.volume)
      (g.V.Volume.disk c.remove.new.volume)) c.as_str.ensures c.remove.ensures.maps)
      (subst (λ n. AddsMaps (EndsAs (after_remove n)) (g.V.Volume.disk c.loop-name.volume)
      (g.V.Volume.disk c.remove.new.volume)) c.as_str.ensures c.in_ok-remove.ensures.ok);
  goes_on = omega (arith, c.loop-name.invariant.goes_on, c.remove.ensures.goes_on);
}

pub returns-clause-maps : goal.returns-clause-maps
returns-clause-maps g c = done_front (map remove c.args.names.now) c.loop-name.name-index c.loop-name.invariant.maps

pub returns-clause-ok : goal.returns-clause-ok
returns-clause-ok g c =
    done_all (map remove c.args.names.now) c.loop-name.name-index
    (take_all c.loop-name.name-index (map remove c.args.names.now) (search (rules, length-map)))
    c.loop-name.invariant.maps
