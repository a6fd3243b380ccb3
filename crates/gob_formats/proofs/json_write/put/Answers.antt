use Rattle.std.proofs.Common.{◌≡◌, map, length, refl, sym, ap, ◌∙◌, arith}
use Rattle.std.proofs.lemmas.List.{get_or_default}
use Rattle.std.specs.Ordering.{nat_cmp}
use Rattle.std.specs.declared.cmp.Ordering.TheVariants.{Equal}
use Rattle.std.specs.Cmp.Lexicographic.{slice_cmp}
use Rattle.gob_formats.specs.declared.json_write.Place.{Place}
use Rattle.gob_formats.specs.Members.{named_place, put_name}
use Rattle.gob_formats.proofs.Spelled.{put_at_equal}
use Rattle.gob_formats.proofs.json_write.put.Goals as goal

pub returns-in-Equal : goal.returns-in-Equal
returns-in-Equal c =
    let l = c.loop-at in
    let name = c.args.new.name.now in
    let p = c.index.result.now in
    let q = c.index_mut.result.now in
    let sized = ap length l.invariant.0 in
    let alike : p ≡ q =
    c.index.ensures ∙ get_or_default l.places.items l.at p q (omega (arith, c.args.places.now.ok.0))
    ∙ sym c.index_mut.ensures.value in
    let same : slice_cmp nat_cmp name q.name.now ≡ Equal =
    ap (λ (x : Place). slice_cmp nat_cmp name x.name.now) (sym alike) ∙ sym c.in-Equal.ensures in
    put_at_equal l.places.items l.at q (record { name = q.name; index = c.args.new.index }) name c.args.new.index _
    (omega (arith, c.args.places.now.ok.0)) c.index_mut.ensures.value same refl
    (l.invariant.2 ∙ ap (λ xs. put_name name c.args.new.index (map named_place xs)) l.invariant.0)
