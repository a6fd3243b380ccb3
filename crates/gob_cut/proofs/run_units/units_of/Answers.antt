use Rattle.gob_cut.proofs.Taking.{owed_and_new}
use Rattle.gob_cut.proofs.Whole.{cut_are}
use Rattle.gob_cut.proofs.run_units.units_of.Goals as goal

pub returns-clause-units : goal.returns-clause-units
returns-clause-units g c =
    owed_and_new (g.S.Source.supply c.args.source.now) c.args.kept.now c.args.marks.now c.args.limits.now.max_bytes _
    c.in_ok-cursors.cursors.items c.new-units.result c.add_owed.new.units c.add_rounds.new.units
    c.new-units.ensures c.in_ok-add_owed.ensures.units c.in_ok-cursors.ensures.cuts c.in_ok-add_rounds.ensures.units

pub returns-clause-cut : goal.returns-clause-cut
returns-clause-cut g c =
    cut_are c.args.kept.now c.args.marks.now _ c.in_ok-cursors.cursors.items c.new-units.result c.add_owed.new.units
    c.add_rounds.new.units
    c.new-units.ensures c.in_ok-add_owed.ensures.units c.in_ok-cursors.ensures.begins c.in_ok-add_rounds.ensures.goes
    c.in_ok-add_rounds.ensures.few
