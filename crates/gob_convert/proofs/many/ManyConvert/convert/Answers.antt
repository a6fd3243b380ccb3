use Rattle.std.proofs.Common.{◌≡◌, ◌+◌, List, [], ◌∷◌, drop, None, sym, ◌∙◌, subst, rules}
use Rattle.std.proofs.lemmas.List.{drop_all}
use Rattle.gob_convert.specs.Made.{made_through, FitTogether}
use Rattle.gob_convert.specs.declared.convert.ConvertFault.TheVariants.{Bad}
use Rattle.gob_convert.proofs.MadeLemmas.{made_each-one}
use Rattle.gob_convert.proofs.Going.{Going, going_from, going_at, going_fits, going_on, going_bad, going_done}
use Rattle.gob_convert.proofs.many.ManyConvert.convert.Goals as goal

pub loop-converter-init : goal.loop-converter-init
loop-converter-init g c =
    let a = g.A.Convert in
    let m = c.args.self.now in
    let first = c.in-Some.first.now in
    let others = c.in-Some.others.now in
    let made_now = c.in_ok-records.records.items in
    let split : m.list.items ≡ first ∷ others = sym c.deref.ensures.value ∙ c.in-Some.ensures.cases.0 in
    let Followed : List g.row.A.Denot → Type 0 = λ cs. ∥ FitTogether a.shape a.out_shape m.shape cs ∥₁ in
    let After : List g.row.A.Denot → Type 0 =
    λ cs. Going a.fits a.shape a.out_shape a.made others made_now (made_through a.made cs c.args.rec) in
    let start = going_from a.fits a.shape a.out_shape a.made m.shape (first ∷ others) c.args.rec
    (subst Followed split m.follow) c.requires in
    subst After (sym split)
    (going_on a.fits a.shape a.out_shape a.made a.out_fits m.same_ends first (g.met.A.Convert.keeps first) others
    (c.args.rec ∷ []) made_now (made_through a.made (first ∷ others) c.args.rec) start
    (made_each-one (a.made first) c.args.rec ∙ c.in_ok-records.ensures.ok))

pub convert_each-requires : goal.convert_each-requires
convert_each-requires g c =
    let a = g.A.Convert in
    let others = c.in-Some.others.now in
    let i = c.loop-converter.converter-index in
    let next = c.converter-item.result in
    let records = c.loop-converter.records.items in
    let whole = made_through a.made c.args.self.now.list.items c.args.rec in
    going_fits a.fits a.shape a.out_shape a.made next (drop (i + 1) others) records whole
    (going_at a.fits a.shape a.out_shape a.made others i next records whole c.loop-converter-test.true
    c.converter-item.is c.loop-converter.invariant)

pub returns-in_err-records-2-clause-bad : goal.returns-in_err-records-2-clause-bad
returns-in_err-records-2-clause-bad g c =
    let a = g.A.Convert in
    let others = c.in-Some.others.now in
    let i = c.loop-converter.converter-index in
    let next = c.converter-item.result in
    let records = c.loop-converter.records.items in
    let whole = made_through a.made c.args.self.now.list.items c.args.rec in
    let bad : c.in_err-records-2.field-0.0 ≡ Bad → whole ≡ None = λ is_bad.
    going_bad a.fits a.shape a.out_shape a.made next (drop (i + 1) others) records whole
    (going_at a.fits a.shape a.out_shape a.made others i next records whole c.loop-converter-test.true
    c.converter-item.is c.loop-converter.invariant)
    (c.in_err-records-2.ensures.bad is_bad)
    in search (rules, bad)

pub loop-converter-preserved : goal.loop-converter-preserved
loop-converter-preserved g c =
    let a = g.A.Convert in
    let others = c.in-Some.others.now in
    let i = c.loop-converter.converter-index in
    let next = c.converter-item.result in
    let records = c.loop-converter.records.items in
    let whole = made_through a.made c.args.self.now.list.items c.args.rec in
    going_on a.fits a.shape a.out_shape a.made a.out_fits c.args.self.now.same_ends next (g.met.A.Convert.keeps next)
    (drop (i + 1) others) records c.in_ok-records-2.records.items whole
    (going_at a.fits a.shape a.out_shape a.made others i next records whole c.loop-converter-test.true
    c.converter-item.is c.loop-converter.invariant)
    c.in_ok-records-2.ensures.ok

pub returns-clause-ok : goal.returns-clause-ok
returns-clause-ok g c =
    let a = g.A.Convert in
    let records = c.loop-converter.records.items in
    let whole = made_through a.made c.args.self.now.list.items c.args.rec in
    let Left : List g.row.A.Denot → Type 0 = λ cs. Going a.fits a.shape a.out_shape a.made cs records whole in
    going_done a.fits a.shape a.out_shape a.made records whole
    (subst Left
    (drop_all c.loop-converter.converter-index c.in-Some.others.now c.loop-converter-test.false)
    c.loop-converter.invariant)
