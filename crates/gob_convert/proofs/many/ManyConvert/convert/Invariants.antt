use Rattle.std.proofs.Common.{drop}
use Rattle.gob_convert.specs.Made.{made_through}
use Rattle.gob_convert.proofs.Going.{Going}
use Rattle.gob_convert.proofs.many.ManyConvert.convert.Given as goal

abbrev pub invariant-loop-converter : goal.invariant-loop-converter
invariant-loop-converter g l =
    let a = g.A.Convert in
    Going a.fits a.shape a.out_shape a.made (drop l.converter-index l.others) l.records.items
    (made_through a.made l.self.list.items l.fn.rec)
