-- Units that are added while cursors go on.
use Rattle.std.proofs.Common.{◌≡◌, ◌⊎◌, inl, inr, ⊎_elim, ℕ, zero, suc, ◌+◌, ◌<◌, ◌≤◌, Bool, true, false, cond, List}
use Rattle.std.proofs.Common.{[], ◌∷◌, ◌++◌, length, get_or, Some, None, IfSome, refl, sym, ap, subst, ◌∙◌, arith}
use Rattle.std.proofs.Common.{append-nil, append_assoc, length-append}
use Rattle.std.specs.declared.option.Option.{Option}
use Rattle.std.specs.declared.cmp.Ordering.TheVariants.{Less}
use Rattle.std.specs.List.{AllByRecursion, Contains}
use Rattle.std.specs.Str.{bytes_eq}
use Rattle.std.proofs.lemmas.List.Elements.{All-append, All-cons, All-nil, filter-append}
use Rattle.gob_bytes.specs.Tables.{IsInByteOrder, Table, at_name, name_cmp, names_of}
use Rattle.gob_bytes.proofs.Tables.{at_from_member, less_apart, less_then, name_itself, rising_tail, same_name}
use Rattle.gob_bytes.proofs.Tables.{two_names}
use Rattle.gob_plan.specs.declared.units.Unit.{Unit as WorkUnit}
use Rattle.gob_ledger.specs.Units.{AreAdjacentFrom, fresh_in, new_unit}
use Rattle.gob_ledger.proofs.Cutting.{is_new_in}
use Rattle.gob_ledger.proofs.Members.{first_in, later_in}
use Rattle.gob_cut.specs.declared.rounds.Cursor.{Cursor}
use Rattle.gob_cut.specs.Going.{BeginsAt, Goes, PlacesRise, end_from, ends_of}
use Rattle.gob_cut.specs.Rounds.{IsCursor, found_cursors, found_units, part_at, size_at}
use Rattle.gob_cut.specs.Units.{IsNewUnit}
use Rattle.gob_cut.proofs.Taking.{entry_at}

-- ---- units that follow each other

adjacent_join : (from : ℕ) (us vs : List WorkUnit) → AreAdjacentFrom from us → AreAdjacentFrom (end_from from us) vs
    → AreAdjacentFrom from (us ++ vs)
adjacent_join from [] vs a b = b
adjacent_join from (u ∷ us) vs (lo, some, rest) b = (lo, some, adjacent_join u.hi us vs rest b)

end_join : (from : ℕ) (us vs : List WorkUnit) → end_from from (us ++ vs) ≡ end_from (end_from from us) vs
end_join from [] vs = refl
end_join from (u ∷ us) vs = end_join u.hi us vs

ends_join : (from : List ℕ → ℕ) (us vs : List WorkUnit) (part : List ℕ)
    → ends_of (ends_of from us) vs part ≡ ends_of from (us ++ vs) part
ends_join from us vs part =
    sym (ap (end_from (from part)) (filter-append (is_new_in part) us vs) ∙ end_join (from part) (fresh_in part us)
    (fresh_in part vs))

-- ---- listed partitions

lower_than : (kept : Table ℕ) (low : List ℕ) (j : ℕ) → IsInByteOrder (low ∷ names_of kept) → j < length kept
    → name_cmp low (part_at kept j) ≡ Less
lower_than [] low j rising within = absurd (omega (arith, within))
lower_than (e ∷ kept) low zero rising within = rising.0
lower_than (e ∷ kept) low (suc j) rising within =
    less_then low e.0 (part_at kept j) rising.0 (lower_than kept e.0 j rising.1 (omega (arith, within)))

parts_rise : (kept : Table ℕ) (i j : ℕ) → IsInByteOrder (names_of kept) → i < j → j < length kept
    → name_cmp (part_at kept i) (part_at kept j) ≡ Less
parts_rise [] i j rising below within = absurd (omega (arith, within))
parts_rise (e ∷ kept) i zero rising below within = absurd (omega (arith, below))
parts_rise (e ∷ kept) zero (suc j) rising below within = lower_than kept e.0 j rising (omega (arith, within))
parts_rise (e ∷ kept) (suc i) (suc j) rising below within =
    parts_rise kept i j (rising_tail e.0 (names_of kept) rising) (omega (arith, below)) (omega (arith, within))

parts_differ : (kept : Table ℕ) (i j : ℕ) → IsInByteOrder (names_of kept) → i < length kept → j < length kept
    → (i < j) ⊎ (j < i) → bytes_eq (part_at kept i) (part_at kept j) ≡ false
parts_differ kept i j rising first second apart = two_names (part_at kept i) (part_at kept j) (⊎_elim
    (λ below. less_apart (part_at kept i) (part_at kept j) (parts_rise kept i j rising below second))
    (λ above same. less_apart (part_at kept j) (part_at kept i) (parts_rise kept j i rising above first) (sym same))
    apart)

in_place : (kept : Table ℕ) (i : ℕ) → i < length kept → Contains kept (part_at kept i, size_at kept i)
in_place [] i within = absurd (omega (arith, within))
in_place (e ∷ kept) zero within = first_in e kept e refl
in_place (e ∷ kept) (suc i) within = later_in e kept (part_at kept i, size_at kept i)
    (in_place kept i (omega (arith, within)))

at_place : (kept : Table ℕ) (i : ℕ) → IsInByteOrder (names_of kept) → i < length kept
    → at_name kept (part_at kept i) ≡ Some (size_at kept i)
at_place kept i rising within = at_from_member kept (part_at kept i) (size_at kept i) rising (in_place kept i within)

-- ---- cursors, one of which goes on or ends

rise_low : (low : ℕ) (xs ys : List Cursor) (c : Cursor) → PlacesRise low (xs ++ c ∷ ys) → low ≤ c.place
rise_low low [] ys c rise = rise.0
rise_low low (x ∷ xs) ys c rise = let later = rise_low (x.place + 1) xs ys c rise.1 in omega (arith, rise.0, later)

rise_lower : (low high : ℕ) (xs : List Cursor) → low ≤ high → PlacesRise high xs → PlacesRise low xs
rise_lower low high [] below rise = tt
rise_lower low high (x ∷ xs) below rise = (omega (arith, below, rise.0), rise.1)

rise_without : (low : ℕ) (xs ys : List Cursor) (c : Cursor) → PlacesRise low (xs ++ c ∷ ys) → PlacesRise low (xs ++ ys)
rise_without low [] ys c rise = rise_lower low (c.place + 1) ys (omega (arith, rise.0)) rise.1
rise_without low (x ∷ xs) ys c rise = (rise.0, rise_without (x.place + 1) xs ys c rise.1)

rise_on : (low : ℕ) (xs ys : List Cursor) (c d : Cursor) → d.place ≡ c.place → PlacesRise low (xs ++ c ∷ ys)
    → PlacesRise low ((xs ++ d ∷ []) ++ ys)
rise_on low [] ys c d same rise = (omega (arith, same, rise.0), subst (λ n. PlacesRise (n + 1) ys) (sym same) rise.1)
rise_on low (x ∷ xs) ys c d same rise = (rise.0, rise_on (x.place + 1) xs ys c d same rise.1)

rise_front : (low : ℕ) (xs ys : List Cursor) → PlacesRise low (xs ++ ys) → PlacesRise low xs
rise_front low [] ys rise = tt
rise_front low (x ∷ xs) ys rise = (rise.0, rise_front (x.place + 1) xs ys rise.1)

pub rise_push : (low : ℕ) (xs : List Cursor) (c : Cursor) → PlacesRise low xs
    → AllByRecursion (λ x. x.place < c.place) xs → low ≤ c.place → PlacesRise low (xs ++ c ∷ [])
rise_push low [] c rise below least = (least, tt)
rise_push low (x ∷ xs) c rise below least = (
  rise.0,
  rise_push (x.place + 1) xs c rise.1 below.1
      (omega (arith, below.0)),
)

each_without : (P : Cursor → Type 0) (xs ys : List Cursor) (c : Cursor) → AllByRecursion P (xs ++ c ∷ ys)
    → AllByRecursion P (xs ++ ys)
each_without P [] ys c all = all.1
each_without P (x ∷ xs) ys c all = (all.0, each_without P xs ys c all.1)

each_front : (P : Cursor → Type 0) (xs ys : List Cursor) → AllByRecursion P (xs ++ ys) → AllByRecursion P xs
each_front P [] ys all = tt
each_front P (x ∷ xs) ys all = (all.0, each_front P xs ys all.1)

each_here : (P : Cursor → Type 0) (xs ys : List Cursor) (c : Cursor) → AllByRecursion P (xs ++ c ∷ ys) → P c
each_here P [] ys c all = all.0
each_here P (x ∷ xs) ys c all = each_here P xs ys c all.1

pub each_push : (P : Cursor → Type 0) (xs : List Cursor) (c : Cursor) → AllByRecursion P xs → P c
    → AllByRecursion P (xs ++ c ∷ [])
each_push P [] c all here = (here, tt)
each_push P (x ∷ xs) c all here = (all.0, each_push P xs c all.1 here)

pub each_same : (P Q : Cursor → Type 0) (xs : List Cursor) → ((x : Cursor) → P x → Q x) → AllByRecursion P xs
    → AllByRecursion Q xs
each_same P Q [] f all = tt
each_same P Q (x ∷ xs) f all = (f x all.0, each_same P Q xs f all.1)

-- the cursors behind a place
each_above : (P Q : Cursor → Type 0) (low : ℕ) (xs : List Cursor) → PlacesRise low xs
    → ((x : Cursor) → low ≤ x.place → P x → Q x) → AllByRecursion P xs → AllByRecursion Q xs
each_above P Q low [] rise f all = tt
each_above P Q low (x ∷ xs) rise f all =
    (f x rise.0 all.0, each_above P Q (x.place + 1) xs rise.1 (λ y above p. f y (omega (arith, above, rise.0)) p) all.1)

-- where one cursor goes on, the others stay
each_on : (P Q : Cursor → Type 0) (low : ℕ) (xs ys : List Cursor) (c d : Cursor) → PlacesRise low (xs ++ c ∷ ys)
    → ((x : Cursor) → (x.place < c.place) ⊎ (c.place < x.place) → P x → Q x) → Q d → AllByRecursion P (xs ++ c ∷ ys)
    → AllByRecursion Q ((xs ++ d ∷ []) ++ ys)
each_on P Q low [] ys c d rise f here all = (
  here,
  each_above P Q (c.place + 1) ys rise.1
      (λ x above p. f x (inr (omega (arith, above))) p) all.1,
)
each_on P Q low (x ∷ xs) ys c d rise f here all =
    let below : x.place + 1 ≤ c.place = rise_low (x.place + 1) xs ys c rise.1 in
    (f x (inl (omega (arith, below))) all.0, each_on P Q (x.place + 1) xs ys c d rise.1 f here all.1)

-- ---- cursors go on

pub goes_first : (kept : Table ℕ) (cursors : List Cursor) (units : List WorkUnit)
    → AllByRecursion (IsCursor kept) cursors → PlacesRise 0 cursors → Goes kept cursors cursors units units
goes_first kept cursors units there rise = record {
  added = [];
  are = sym (append-nil units);
  each = All-nil (IsNewUnit kept);
  there = there;
  rise = rise;
  follow = λ from begins. record { adjacent = λ part. tt; ends = begins };
}

pub goes_then : (kept : Table ℕ) (first next last : List Cursor) (us vs ws : List WorkUnit)
    → Goes kept first next us vs → Goes kept next last vs ws → Goes kept first last us ws
goes_then kept first next last us vs ws a b = record {
  added = a.added ++ b.added;
  are = b.are ∙ (ap (λ xs. xs ++ b.added) a.are ∙ append_assoc us a.added b.added);
  each = All-append (IsNewUnit kept) a.added b.added a.each b.each;
  there = b.there;
  rise = b.rise;
  follow = λ from begins.
      let f = a.follow from begins in
      let g = b.follow (ends_of from a.added) f.ends in
      record {
        adjacent = λ part. subst (AreAdjacentFrom (from part)) (sym (filter-append (is_new_in part) a.added b.added))
            (adjacent_join (from part) (fresh_in part a.added) (fresh_in part b.added) (f.adjacent part)
            (g.adjacent part));
        ends = each_same (BeginsAt kept (ends_of (ends_of from a.added) b.added))
            (BeginsAt kept (ends_of from (a.added ++ b.added))) last
            (λ x at. at ∙ ends_join from a.added b.added (part_at kept x.place)) g.ends;
      };
}

-- no more is taken of the later ones
pub goes_less : (kept : Table ℕ) (first going later : List Cursor) (before units : List WorkUnit)
    → Goes kept first (going ++ later) before units → Goes kept first going before units
goes_less kept first going later before units g = record {
  added = g.added;
  are = g.are;
  each = g.each;
  there = each_front (IsCursor kept) going later g.there;
  rise = rise_front 0 going later g.rise;
  follow = λ from begins. let f = g.follow from begins in record
      { adjacent = f.adjacent; ends = each_front (BeginsAt kept (ends_of from g.added)) going later f.ends };
}

goes_none : (kept : Table ℕ) (first going rest : List Cursor) (c : Cursor) (before units : List WorkUnit)
    → Goes kept first (going ++ c ∷ rest) before units → Goes kept first (going ++ rest) before units
goes_none kept first going rest c before units g = record {
  added = g.added;
  are = g.are;
  each = g.each;
  there = each_without (IsCursor kept) going rest c g.there;
  rise = rise_without 0 going rest c g.rise;
  follow = λ from begins. let f = g.follow from begins in record
      { adjacent = f.adjacent; ends = each_without (BeginsAt kept (ends_of from g.added)) going rest c f.ends };
}

-- one more cut of a partition
goes_cut : (kept : Table ℕ) (going rest : List Cursor) (c : Cursor) (hi : ℕ) (units : List WorkUnit)
    → IsInByteOrder (names_of kept)
    → c.at < hi → hi ≤ size_at kept c.place → AllByRecursion (IsCursor kept) (going ++ c ∷ rest) → PlacesRise 0
    (going ++ c ∷ rest)
    → Goes kept (going ++ c ∷ rest) ((going ++ record { place = c.place; at = hi } ∷ []) ++ rest) units
    (units ++ new_unit (part_at kept c.place) (record { lo = c.at; hi = hi }) ∷ [])
goes_cut kept going rest c hi units rising above fits there rise = record {
  added = u ∷ [];
  are = refl;
  each = All-cons (IsNewUnit kept) u [] (record {
    fresh = refl;
    listed = refl;
    some = above;
    place = record
        { size = size_at kept c.place; there = at_place kept c.place rising here.place; within = fits };
  })
      (All-nil (IsNewUnit kept));
  there = each_on (IsCursor kept) (IsCursor kept) 0 going rest c d rise (λ x apart p. p)
      (record { place = here.place; at = fits }) there;
  rise = rise_on 0 going rest c d refl rise;
  follow = λ from begins. record {
    adjacent = λ part. alone from part (each_here (BeginsAt kept from) going rest c begins);
    ends = ends from begins;
  };
}
  where
    part : List ℕ
    part = part_at kept c.place

    u : WorkUnit
    u = new_unit part (record { lo = c.at; hi = hi })

    d : Cursor
    d = record { place = c.place; at = hi }

    here : IsCursor kept c
    here = each_here (IsCursor kept) going rest c there

    alone : (from : List ℕ → ℕ) (q : List ℕ) → c.at ≡ from part → AreAdjacentFrom (from q) (fresh_in q (u ∷ []))
    alone from q at = cases (bytes_eq part q) refl
      where
        cases : (b : Bool) → bytes_eq part q ≡ b → AreAdjacentFrom (from q) (fresh_in q (u ∷ []))
        cases true is = subst (λ us. AreAdjacentFrom (from q) us) (sym (ap (λ b. cond b (u ∷ []) []) is))
            (at ∙ ap from (same_name part q is), above, tt)
        cases false is = subst (λ us. AreAdjacentFrom (from q) us) (sym (ap (λ b. cond b (u ∷ []) []) is)) tt

    other : (from : List ℕ → ℕ) (x : Cursor) → x.place < length kept → (x.place < c.place) ⊎ (c.place < x.place)
        → BeginsAt kept from x → BeginsAt kept (ends_of from (u ∷ [])) x
    other from x within apart begins =
        let differ : bytes_eq part (part_at kept x.place) ≡ false = parts_differ kept c.place x.place rising
        here.place within (⊎_elim (λ b. inr b) (λ b. inl b) apart) in
        begins ∙ sym (ap (λ b. end_from (from (part_at kept x.place)) (cond b (u ∷ []) [])) differ)

    ends : (from : List ℕ → ℕ) → AllByRecursion (BeginsAt kept from) (going ++ c ∷ rest)
        → AllByRecursion (BeginsAt kept (ends_of from (u ∷ []))) ((going ++ d ∷ []) ++ rest)
    ends from begins =
        each_on (λ x. IsCursor kept x × BeginsAt kept from x) (BeginsAt kept (ends_of from (u ∷ []))) 0 going rest c
        d rise
        (λ x apart p. other from x p.0.place apart p.1)
        (sym (ap (λ b. end_from (from part) (cond b (u ∷ []) [])) (name_itself part)))
        (both (going ++ c ∷ rest) there begins)
      where
        both : (xs : List Cursor) → AllByRecursion (IsCursor kept) xs → AllByRecursion (BeginsAt kept from) xs
            → AllByRecursion (λ x. IsCursor kept x × BeginsAt kept from x) xs
        both [] a b = tt
        both (x ∷ xs) a b = ((a.0, b.0), both xs a.1 b.1)

-- the next cursor's cut, where there is one
pub goes_step : (kept : Table ℕ) (first going later rest on : List Cursor) (c : Cursor) (e : List ℕ × ℕ)
    (end : Option ℕ) (before units more : List WorkUnit) → IsInByteOrder (names_of kept)
    → later ≡ c ∷ rest → e ≡ get_or kept c.place e → c.place < length kept → IfSome end (λ hi. (c.at < hi) × (hi ≤ e.1))
    → more ≡ units ++ found_units e.0 c.at end → on ≡ going ++ found_cursors c.place end
    → Goes kept first (going ++ later) before units → Goes kept first (on ++ rest) before more
goes_step kept first going later rest on c e None before units more rising next entry within inside added went g =
    let now : Goes kept first (going ++ c ∷ rest) before units = subst
    (λ cs. Goes kept first (going ++ cs) before units) next g in
    subst (λ cs. Goes kept first (cs ++ rest) before more) (sym (went ∙ append-nil going))
    (subst (λ us. Goes kept first (going ++ rest) before us) (sym (added ∙ append-nil units))
    (goes_none kept first going rest c before units now))
goes_step kept first going later rest on c e (Some hi) before units more rising next entry within inside added went g =
    let now : Goes kept first (going ++ c ∷ rest) before units = subst
    (λ cs. Goes kept first (going ++ cs) before units) next g in
    let is : get_or kept c.place ([], 0) ≡ e = entry_at kept c.place e within entry in
    let size : size_at kept c.place ≡ e.1 = ap (λ (x : List ℕ × ℕ). x.1) is in
    let cut = goes_cut kept going rest c hi units rising inside.0 (omega (arith, size, inside.1)) now.there now.rise in
    let all = goes_then kept first (going ++ c ∷ rest) ((going ++ record { place = c.place; at = hi } ∷ []) ++ rest)
    before units (units ++ new_unit (part_at kept c.place) (record { lo = c.at; hi = hi }) ∷ []) now cut in
    subst (λ cs. Goes kept first (cs ++ rest) before more) (sym went)
    (subst (λ us. Goes kept first ((going ++ record { place = c.place; at = hi } ∷ []) ++ rest) before us)
    (sym (added ∙ ap (λ (x : List ℕ × ℕ). units ++ new_unit x.0 (record { lo = c.at; hi = hi }) ∷ []) (sym is))) all)

pub added_one : (going on : List Cursor) (before units more : List WorkUnit) (part : List ℕ) (place at : ℕ)
    (end : Option ℕ) → more ≡ units ++ found_units part at end → on ≡ going ++ found_cursors place end
    → length units ≡ length before + length going → length more ≡ length before + length on
added_one going on before units more part place at None added went so_far =
    ap length (added ∙ append-nil units) ∙ (so_far ∙ ap (λ cs. length before + length cs)
    (sym (went ∙ append-nil going)))
added_one going on before units more part place at (Some hi) added went so_far =
    omega (
      arith,
      ap length added,
      ap length went,
      length-append units
          (new_unit part (record { lo = at; hi = hi }) ∷ []),
      length-append going
          (record { place = place; at = hi } ∷ []),
      so_far,
    )
