-- The units of a run, whatever the source answered.
use Rattle.std.proofs.Common.{◌≡◌, ⊎_elim, ℕ, ◌+◌, ◌<◌, ◌≤◌, true, false, cond, not, List, [], ◌∷◌, ◌++◌, All, length}
use Rattle.std.proofs.Common.{map, Some, None, is_some, unwrap_or, option_map, refl, sym, ap, subst, ◌∙◌, arith}
use Rattle.std.proofs.Common.{append-nil, length-append}
use Rattle.std.specs.declared.option.Option.{Option}
use Rattle.std.specs.List.{AllByRecursion, Contains, count_by, filter}
use Rattle.std.specs.Str.{IsUtf8}
use Rattle.std.proofs.lemmas.List.Elements.{All-contains, Contains-append_cases, filter-append}
use Rattle.std.proofs.lemmas.List.Sums.{count_by-le-length, length-filter}
use Rattle.gob_bytes.specs.Tables.{Table, at_name, names_of}
use Rattle.gob_bytes.proofs.Forms.{bytes_from_utf8}
use Rattle.gob_bytes.proofs.Tables.{at_from_member, member_from_at}
use Rattle.gob_device.specs.Supply.{IsEntry, IsListed}
use Rattle.gob_plan.specs.declared.plan.Limits.{Limits}
use Rattle.gob_plan.specs.declared.units.Unit.{Unit as WorkUnit}
use Rattle.gob_meaning.specs.Laws.{IsRange}
use Rattle.gob_ledger.specs.Laws.{ProperUnit}
use Rattle.gob_ledger.specs.Marks.{Marks, Span}
use Rattle.gob_ledger.specs.Units.{first_shrunk, is_kept, next_of, too_long, UnitsFit}
use Rattle.gob_ledger.specs.UnitLaws.{new_count}
use Rattle.gob_ledger.proofs.Cutting.{owed_and_new_fit, range_member}
use Rattle.gob_ledger.proofs.Losing.{none_shrunk}
use Rattle.gob_ledger.proofs.Members.{first_in, in_filter, later_in}
use Rattle.gob_ledger.proofs.Ranges.{order_members, owed_below}
use Rattle.gob_marks.specs.Tables.{TiledTable}
use Rattle.gob_cut.specs.declared.rounds.Cursor.{Cursor}
use Rattle.gob_cut.specs.declared.run_units.Cut.{Cut}
use Rattle.gob_cut.specs.Going.{BeginsAt, Goes}
use Rattle.gob_cut.specs.Rounds.{owed_unit_of, owed_units_of}
use Rattle.gob_cut.specs.Units.{AreCut, AreProper, IsListedUnit, IsNewUnit, UnitsAre, kept_of}

pub cut_are : (kept : Table ℕ) (parts : Table Marks) (most : ℕ) (cursors : List Cursor)
    (none before units : List WorkUnit) → none ≡ [] → before ≡ none ++ owed_units_of kept parts
    → AllByRecursion (BeginsAt kept (next_of parts)) cursors → Goes kept cursors [] before units → length units ≤
    length before + most → AreCut kept parts most units
cut_are kept parts most cursors none before units empty is begins g few = record {
  added = g.added;
  are = g.are ∙ ap (λ us. us ++ g.added) (is ∙ ap (λ us. us ++ owed_units_of kept parts) empty);
  few = omega (arith, few, ap length g.are, length-append before g.added);
  each = g.each;
  follow = (g.follow (next_of parts) begins).adjacent;
}

-- ---- the open ranges

none_fresh : (kept : Table ℕ) (part : List ℕ) (ss : List Span)
    → filter (λ u. u.fresh) (map (owed_unit_of kept part) ss) ≡ []
none_fresh kept part [] = refl
none_fresh kept part (s ∷ ss) = none_fresh kept part ss

no_fresh : (kept : Table ℕ) (parts : Table Marks) → filter (λ u. u.fresh) (owed_units_of kept parts) ≡ []
no_fresh kept [] = refl
no_fresh kept (e ∷ parts) = filter-append (λ u. u.fresh) (map (owed_unit_of kept e.0) e.1.owed)
    (owed_units_of kept parts)
    ∙ λ i. none_fresh kept e.0 e.1.owed i ++ no_fresh kept parts i

all_old : (kept : Table ℕ) (part : List ℕ) (ss : List Span)
    → filter (λ u. not u.fresh) (map (owed_unit_of kept part) ss) ≡ map (owed_unit_of kept part) ss
all_old kept part [] = refl
all_old kept part (s ∷ ss) = ap (λ us. owed_unit_of kept part s ∷ us) (all_old kept part ss)

are_old : (kept : Table ℕ) (parts : Table Marks)
    → filter (λ u. not u.fresh) (owed_units_of kept parts) ≡ owed_units_of kept parts
are_old kept [] = refl
are_old kept (e ∷ parts) = filter-append (λ u. not u.fresh) (map (owed_unit_of kept e.0) e.1.owed)
    (owed_units_of kept parts)
    ∙ λ i. all_old kept e.0 e.1.owed i ++ are_old kept parts i

none_old : (us : List WorkUnit) → ((u : WorkUnit) → Contains us u → u.fresh ≡ true) → filter (λ u. not u.fresh) us ≡ []
none_old [] fresh = refl
none_old (u ∷ us) fresh =
    ap (λ b. cond (not b) (u ∷ filter (λ v. not v.fresh) us) (filter (λ v. not v.fresh) us))
    (fresh u (first_in u us u refl))
    ∙ none_old us (λ v h. fresh v (later_in u us v h))

-- ---- the whole cut

record IsOver (parts : Table Marks) (limits : Limits) (listing : Table ℕ) : Type 0 where
  listed : IsListed listing
  tiled : TiledTable parts
  whole : first_shrunk parts listing ≡ None
  texts : All (λ e. IsUtf8 e.0) (kept_of limits listing)

next_at : (parts : Table Marks) (part : List ℕ) (m : Marks) → at_name parts part ≡ Some m → next_of parts part ≡ m.next
next_at parts part m at = ap (λ o. unwrap_or (option_map (λ (x : Marks). x.next) o) 0) at

-- a range of a unit, open in its partition
record OpenUnit (kept : Table ℕ) (parts : Table Marks) (u : WorkUnit) : Type 0 where
  marks : Marks
  at : at_name parts u.part ≡ Some marks
  some : u.lo < u.hi
  below : u.hi ≤ marks.next
  listed : u.listed ≡ is_some (at_name kept u.part)

open_unit : (kept : Table ℕ) (parts : Table Marks) (u : WorkUnit) → TiledTable parts
    → Contains (owed_units_of kept parts) u → OpenUnit kept parts u
open_unit kept parts u tiled h =
    let o = range_member (λ part. is_some (at_name kept part)) parts u h in
    let at : at_name parts o.entry.0 ≡ Some o.entry.1 = at_from_member parts o.entry.0 o.entry.1 tiled.names o.there in
    let marks = tiled.tiled o.entry.0 o.entry.1 at in
    subst (OpenUnit kept parts) o.is (record {
      marks = o.entry.1;
      at = at;
      some = (order_members 0 o.entry.1.owed o.span marks.owed o.owed).1;
      below = owed_below o.entry.1 marks o.span o.owed;
      listed = refl;
    })

kept_size : (parts : Table Marks) (limits : Limits) (listing : Table ℕ) (part : List ℕ) (size : ℕ)
    → IsOver parts limits listing → at_name (kept_of limits listing) part ≡ Some size → Contains listing (part, size)
kept_size parts limits listing part size over at =
    (in_filter (λ e. is_kept limits e.0) listing (part, size) (member_from_at (kept_of limits listing) part size at)).0

open_held : (parts : Table Marks) (limits : Limits) (listing : Table ℕ) (u : WorkUnit) → IsOver parts limits listing
    → OpenUnit (kept_of limits listing) parts u → u.listed ≡ true → IsListedUnit (kept_of limits listing) u
open_held parts limits listing u over o listed = cases (at_name (kept_of limits listing) u.part) refl
    (sym o.listed ∙ listed)
  where
    cases : (p : Option ℕ) → at_name (kept_of limits listing) u.part ≡ p → is_some p ≡ true
        → IsListedUnit (kept_of limits listing) u
    cases None at there = absurd (let no : false ≡ true = there in cc)
    cases (Some size) at there =
        let fits = none_shrunk parts listing (u.part, size) over.whole
        (kept_size parts limits listing u.part size over at) in
        record { size = size; there = at; within = omega (arith, fits, o.below, next_at parts u.part o.marks o.at) }

open_proper : (kept : Table ℕ) (parts : Table Marks) (u : WorkUnit) → AreProper parts → OpenUnit kept parts u
    → ProperUnit u
open_proper kept parts u proper o =
    let part = proper u.part o.marks o.at in
    record { named = part.named; text = part.text; small = omega (arith, part.small, o.below) }

new_proper : (parts : Table Marks) (limits : Limits) (listing : Table ℕ) (u : WorkUnit) → IsOver parts limits listing
    → IsNewUnit (kept_of limits listing) u → ProperUnit u
new_proper parts limits listing u over n =
    let place = n.place in
    let entry = All-contains (λ e. IsEntry e.0 e.1) listing (u.part, place.size) over.listed.entries
    (kept_size parts limits listing u.part place.size over place.there) in
    record {
      named = entry.named;
      text = All-contains (λ e. IsUtf8 e.0) (kept_of limits listing) (u.part, place.size) over.texts
          (member_from_at (kept_of limits listing) u.part place.size place.there);
      small = omega (arith, place.within, entry.fits);
    }

in_range : (u : WorkUnit) → u.lo < u.hi → ProperUnit u → IsRange u.part u.lo u.hi
in_range u some proper = (bytes_from_utf8 u.part proper.text, omega (arith, some, proper.small), proper.small)

units_over : (parts : Table Marks) (limits : Limits) (listing : Table ℕ) (cut : Cut) → IsOver parts limits listing
    → cut.too_long ≡ too_long limits (names_of listing)
    → AreCut (kept_of limits listing) parts limits.max_new_units cut.units → UnitsAre parts limits cut
units_over parts limits listing cut over long a = record {
  listing = listing;
  listed = over.listed;
  whole = over.whole;
  long = long;
  fit = subst (UnitsFit parts) (sym a.are) (owed_and_new_fit (λ part. is_some (at_name kept part)) parts a.added
      over.tiled.names over.tiled.tiled fresh a.follow);
  few = omega (arith, a.few, count_by-le-length (λ u. u.fresh) a.added, count);
  owed = ap (filter (λ u. not u.fresh)) a.are ∙ (filter-append (λ u. not u.fresh) (owed_units_of kept parts) a.added
      ∙ ((λ i. are_old kept parts i ++ none_old a.added fresh i) ∙ append-nil (owed_units_of kept parts)));
  some = some;
  placed = λ u h listed. each u h (λ o. open_held parts limits listing u over o listed) (λ n. n.place);
  proper = proper;
  ranges = λ known u h. in_range u (some u h) (proper known u h);
}
  where
    kept : Table ℕ
    kept = kept_of limits listing

    fresh : (u : WorkUnit) → Contains a.added u → u.fresh ≡ true
    fresh u h = (All-contains (IsNewUnit kept) a.added u a.each h).fresh

    count : new_count cut.units ≡ count_by (λ u. u.fresh) a.added
    count = ap new_count a.are ∙ (sym (length-filter (λ u. u.fresh) (owed_units_of kept parts ++ a.added))
        ∙ (ap length (filter-append (λ u. u.fresh) (owed_units_of kept parts) a.added ∙ ap
        (λ us. us ++ filter (λ u. u.fresh) a.added) (no_fresh kept parts))
        ∙ length-filter (λ u. u.fresh) a.added))

    each : {P : Type 0} (u : WorkUnit) → Contains cut.units u → (OpenUnit kept parts u → P) → (IsNewUnit kept u → P) → P
    each u h old new = ⊎_elim
        (λ k. old (open_unit kept parts u over.tiled k))
        (λ k. new (All-contains (IsNewUnit kept) a.added u a.each k))
        (Contains-append_cases (owed_units_of kept parts) a.added u (subst (λ us. Contains us u) a.are h))

    some : (u : WorkUnit) → Contains cut.units u → u.lo < u.hi
    some u h = each u h (λ o. o.some) (λ n. n.some)

    proper : AreProper parts → (u : WorkUnit) → Contains cut.units u → ProperUnit u
    proper known u h = each u h (open_proper kept parts u known) (new_proper parts limits listing u over)

pub units_are : (parts : Table Marks) (limits : Limits) (listing kept : Table ℕ) (cut : Cut) → IsListed listing
    → TiledTable parts → first_shrunk parts listing ≡ None
    → cut.too_long ≡ too_long limits (names_of listing) → kept ≡ kept_of limits listing → All (λ e. IsUtf8 e.0) kept
    → AreCut kept parts limits.max_new_units cut.units → UnitsAre parts limits cut
units_are parts limits listing kept cut listed tiled whole long is texts a =
    units_over parts limits listing cut
    (record { listed = listed; tiled = tiled; whole = whole; texts = subst (All (λ e. IsUtf8 e.0)) is texts })
    long (subst (λ k. AreCut k parts limits.max_new_units cut.units) is a)
