use Rattle.std.proofs.Common.{◌≡◌, [], sym, ap, refl, ◌∙◌, take, drop, length, unwrap_or, arith}
use Rattle.std.proofs.lemmas.List.{take_all, drop_all}
use Rattle.gob_device.specs.Supply.{bytes_at, bytes_from}
use Rattle.gob_io.proofs.Listed.{rising_held}
use Rattle.gob_io.proofs.mem_source.give.Goals as goal

pub get-requires : goal.get-requires
get-requires c = rising_held c.args.parts.now c.requires

pub returns-in-Some-clause-fills : goal.returns-in-Some-clause-fills
unfolding bytes_from
returns-in-Some-clause-fills c =
    let held : c.as_slice.result.now ≡ bytes_at c.args.parts.now c.args.part.now = c.as_slice.ensures
    ∙ ap (λ o. unwrap_or o []) c.in-Some.ensures in
    rw held at c.fill_from.ensures.fills

pub returns-in-None-clause-fills : goal.returns-in-None-clause-fills
unfolding bytes_from
returns-in-None-clause-fills c =
    let none : bytes_at c.args.parts.now c.args.part.now ≡ [] = ap (λ o. unwrap_or o []) (sym c.in-None.ensures) in
    let nothing : bytes_from c.args.parts.now c.args.part.now c.args.at (length c.args.into.now) ≡ [] =
    ap (λ bytes. take (length c.args.into.now) (drop c.args.at bytes)) none
    ∙ ap (take (length c.args.into.now)) (drop_all c.args.at [] (omega arith))
    ∙ take_all (length c.args.into.now) [] (omega arith) in
    rw nothing (record { number = refl; front = refl })
