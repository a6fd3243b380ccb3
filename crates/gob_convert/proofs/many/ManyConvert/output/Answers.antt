use Rattle.std.proofs.Common.{◌∙◌, sym, ap}
use Rattle.gob_convert.specs.Made.{shape_through}
use Rattle.gob_convert.proofs.MadeLemmas.{shape_through-last}
use Rattle.gob_convert.proofs.many.ManyConvert.output.Goals as goal

-- the last converter's shape is the one behind the list
pub returns-in-Some : goal.returns-in-Some
returns-in-Some g c =
    let m = c.args.self.now in
    c.output.ensures
    ∙ sym (ap (shape_through g.A.Convert.out_shape m.shape) (sym c.deref.ensures.value ∙ (c.in-Some.ensures).cases.0)
    ∙ shape_through-last g.A.Convert.out_shape m.shape c.in-Some.field-0-1.now c.in-Some.last.now)
