use Rattle.std.proofs.Common.{◌≡◌, [], ◌++◌, unwrap_or, sym, ap, subst, ◌∙◌}
use Rattle.std.proofs.lemmas.Result.{on_ok_weaker}
use Rattle.gob_bytes.specs.Tables.{names_of, IsInByteOrder, with_name}
use Rattle.gob_device.specs.Supply.{IsListed, bytes_at, listing_of}
use Rattle.gob_memory.proofs.Places.{at-changed, with-changed}
use Rattle.gob_io.proofs.Listed.{rising_held, listed-with_name, either_listed}
use Rattle.gob_io.proofs.mem_source.grow_part.Goals as goal

pub find-requires : goal.find-requires
find-requires c = subst (λ t. IsInByteOrder (names_of t)) (sym c.as_slice.ensures.value)
    (rising_held c.args.parts.now.items c.requires.listed)

pub set-requires : goal.set-requires
set-requires c = rising_held c.args.parts.now.items c.requires.listed

pub returns-in-Ok-clause-ok : goal.returns-in-Ok-clause-ok
returns-in-Ok-clause-ok c =
    let parts = c.args.parts.now.items in
    let part = c.args.part.now in
    let at = rw c.as_slice.ensures.value at c.in-Ok.ensures in
    let before : bytes_at parts part ≡ c.index_mut.result.now.1 =
    ap (λ o. unwrap_or o []) (at-changed parts part c.in-Ok.place c.index_mut.result.now
    (rising_held parts c.requires.listed) at c.index_mut.ensures.value) in
    on_ok_weaker c.extend.result
    (λ grown. with-changed parts part c.in-Ok.place c.index_mut.result.now c.extend.new.held at
    c.index_mut.ensures.value
    ∙ ap (with_name parts part) (grown ∙ ap (λ bytes. bytes ++ c.args.bytes.now) (sym before)))
    c.extend.ensures.ok

pub returns-in-Ok-clause-listed : goal.returns-in-Ok-clause-listed
returns-in-Ok-clause-listed c =
    let at = rw c.as_slice.ensures.value at c.in-Ok.ensures in
    rw (with-changed c.args.parts.now.items c.args.part.now c.in-Ok.place c.index_mut.result.now c.extend.new.held at
    c.index_mut.ensures.value)
    (listed-with_name c.args.parts.now.items c.args.part.now c.extend.new.held c.requires.named c.extend.ensures.fits
    c.requires.listed)

pub returns-in_ok-extend-in-Err-clause-listed : goal.returns-in_ok-extend-in-Err-clause-listed
returns-in_ok-extend-in-Err-clause-listed c =
    let parts = c.args.parts.now.items in
    let put = with_name parts c.args.part.now c.extend-in-Err.new.held in
    let after : IsListed (listing_of put) = listed-with_name parts c.args.part.now c.extend-in-Err.new.held
    c.requires.named c.extend-in-Err.ensures.fits c.requires.listed in
    either_listed c.set.result c.set.new.table.items put parts c.set.ensures.ok c.set.ensures.err after
    c.requires.listed
