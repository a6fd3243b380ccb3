use Rattle.std.proofs.Common.{◌≡◌, ◌≢◌, ℕ, List, [], All, map, None, sym, ap, subst, ◌∙◌}
use Rattle.std.specs.Str.{IsUtf8}
use Rattle.gob_bytes.specs.Tables.{IsInByteOrder, Table, names_of}
use Rattle.gob_io.specs.Listing.{entry_of}
use Rattle.gob_io.specs.declared.source.Part.{Part}
use Rattle.gob_ledger.specs.Units.{first_shrunk, too_long}
use Rattle.gob_cut.specs.Units.{kept_of}
use Rattle.gob_cut.proofs.Told.{kept_named, kept_rising, told_names, told_rising, told_units}
use Rattle.gob_cut.proofs.Whole.{units_are}
use Rattle.gob_cut.proofs.run_units.units_through.Goals as goal

pub units_of-requires-clause-named : goal.units_of-requires-clause-named
units_of-requires-clause-named g c =
    let limits = c.args.limits.now in
    let whole : c.as_slice-4.result.now ≡ kept_of limits (map entry_of c.in-Ok.parts.items) =
    c.as_slice-4.ensures.value ∙ (c.in_ok-kept.ensures.kept ∙ ap (λ (ps : List Part). kept_of limits (map entry_of ps))
    c.as_slice-3.ensures.value) in
    subst (λ (es : Table ℕ). All (λ e. e.0 ≢ []) es) (sym whole)
    (kept_named limits (map entry_of c.in-Ok.parts.items) c.in-Ok.ensures.listed)

pub units_of-requires-clause-rising : goal.units_of-requires-clause-rising
units_of-requires-clause-rising g c =
    let limits = c.args.limits.now in
    let whole : c.as_slice-4.result.now ≡ kept_of limits (map entry_of c.in-Ok.parts.items) =
    c.as_slice-4.ensures.value ∙ (c.in_ok-kept.ensures.kept ∙ ap (λ (ps : List Part). kept_of limits (map entry_of ps))
    c.as_slice-3.ensures.value) in
    subst (λ (es : Table ℕ). IsInByteOrder (names_of es)) (sym whole)
    (kept_rising limits (map entry_of c.in-Ok.parts.items) c.in-Ok.ensures.listed)

pub returns-clause-units : goal.returns-clause-units
returns-clause-units g c =
    let limits = c.args.limits.now in
    let whole : c.as_slice-4.result.now ≡ kept_of limits (map entry_of c.in-Ok.parts.items) =
    c.as_slice-4.ensures.value ∙ (c.in_ok-kept.ensures.kept ∙ ap (λ (ps : List Part). kept_of limits (map entry_of ps))
    c.as_slice-3.ensures.value) in
    told_units (g.S.Source.supply c.args.source.now) (g.S.Source.supply c.list.new.self) limits c.args.marks.now
    (map entry_of c.in-Ok.parts.items) c.as_slice-4.result.now c.in_ok-units.units
    c.in-Ok.ensures.supply c.in-Ok.ensures.entries c.in-Ok.ensures.listed whole c.in_ok-units.ensures.units

pub returns-clause-too_long : goal.returns-clause-too_long
returns-clause-too_long g c =
    told_names (g.S.Source.supply c.args.source.now) c.args.limits.now (map entry_of c.in-Ok.parts.items)
    c.in_ok-long.long c.in-Ok.ensures.entries
    (c.in_ok-long.ensures ∙ ap (λ (ps : List Part). too_long c.args.limits.now (names_of (map entry_of ps)))
    c.as_slice-2.ensures.value)

pub returns-clause-cut : goal.returns-clause-cut
returns-clause-cut g c =
    let limits = c.args.limits.now in
    let whole : c.as_slice-4.result.now ≡ kept_of limits (map entry_of c.in-Ok.parts.items) =
    c.as_slice-4.ensures.value ∙ (c.in_ok-kept.ensures.kept ∙ ap (λ (ps : List Part). kept_of limits (map entry_of ps))
    c.as_slice-3.ensures.value) in
    units_are c.args.marks.now limits (map entry_of c.in-Ok.parts.items) c.as_slice-4.result.now _
    c.in-Ok.ensures.listed c.in_ok-units.ensures.tiled
    (subst (λ (ps : List Part). first_shrunk c.args.marks.now (map entry_of ps) ≡ None) c.as_slice.ensures.value
    c.in_ok-refuse_shrunk.ensures.ok)
    (c.in_ok-long.ensures ∙ ap (λ (ps : List Part). too_long limits (names_of (map entry_of ps)))
    c.as_slice-2.ensures.value)
    whole
    (subst (λ (es : Table ℕ). All (λ e. IsUtf8 e.0) es) (sym c.as_slice-4.ensures.value) c.in_ok-kept.ensures.texts)
    c.in_ok-units.ensures.cut

pub returns-clause-rising : goal.returns-clause-rising
returns-clause-rising g c =
    told_rising (g.S.Source.supply c.args.source.now) (map entry_of c.in-Ok.parts.items) c.in-Ok.ensures.entries
    c.in-Ok.ensures.listed
