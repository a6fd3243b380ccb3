use Rattle.gob_convert.proofs.MadeLemmas.{list_all-of_made}
use Rattle.gob_convert.proofs.chain.ChainConvert.convert.Goals as goal

-- what the first one makes fits its output, and so the second one's input
pub convert_each-requires : goal.convert_each-requires
convert_each-requires g c =
    let a = g.A.Convert in
    let first = c.args.self.now.first in
    list_all-of_made (a.out_fits (a.out_shape first))
    (g.B.Convert.fits (g.B.Convert.shape c.args.self.now.second)) c.args.self.now.fit
    (a.made first c.args.rec) c.in_ok-between.between.items c.in_ok-between.ensures.ok
    (g.met.A.Convert.keeps first c.args.rec c.requires)
