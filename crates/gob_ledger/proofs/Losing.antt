-- Nothing is lost: what isn't done is owed, or new.
use Rattle.std.proofs.Common.{◌≡◌, ◌⊎◌, ◌↔◌, inl, inr, ⊎_elim, ℕ, ◌+◌, ◌<◌, ◌≤◌, Bool, true, false, ◌||◌, cond, is_some}
use Rattle.std.proofs.Common.{nat_lt, List}
use Rattle.std.proofs.Common.{[], ◌∷◌, ◌++◌, map, length, refl, sym, ap, subst, ◌∙◌, Some, None, unwrap_or, option_map}
use Rattle.std.proofs.Common.{arith}
use Rattle.std.specs.declared.option.Option.{Option}
use Rattle.std.specs.List.{Contains, IsDistinct, list_any, range_with_len}
use Rattle.std.specs.Str.{IsUtf8}
use Rattle.std.proofs.lemmas.Bool.{lt-ltb, le-ltb, ltb-false, and_from, and_parts, cases_lt, or_parts}
use Rattle.std.proofs.lemmas.List.Elements.{All-contains, All-map, All-nil, Contains-append_left, Contains-append_cases}
use Rattle.std.proofs.lemmas.List.FromFn.{length-map-range_with_len}
use Rattle.std.proofs.lemmas.Option.{none-some}
use Rattle.gob_bytes.specs.Lines.{line_ends}
use Rattle.gob_bytes.specs.Tables.{Table, at_name, names_of, IsInByteOrder}
use Rattle.gob_bytes.proofs.Cuts.{lines_fill}
use Rattle.gob_bytes.proofs.Tables.{at_from_member, member_from_at, name_itself}
use Rattle.gob_device.specs.Supply.{Held, IsEntry, bytes_at, listing_of}
use Rattle.gob_plan.specs.declared.plan.Limits.{Limits}
use Rattle.gob_plan.specs.declared.units.Unit.{Unit as WorkUnit}
use Rattle.gob_ledger.specs.Marks.{Marks, Span, Done, Tiled, done_spans, has, is_done}
use Rattle.gob_ledger.specs.State.{State, TiledState, marks_at, no_branch_counts, no_counts}
use Rattle.gob_ledger.specs.Units.{first_shrunk, fresh_in, is_kept, is_listed, new_units, next_of, owed_unit}
use Rattle.gob_ledger.specs.Units.{owed_units, span_of, units_of}
use Rattle.gob_ledger.specs.Units.{units_of_parts}
use Rattle.gob_ledger.specs.Next.{no_marks}
use Rattle.gob_ledger.specs.Delta.{marks_or_none}
use Rattle.gob_ledger.specs.Spelling.{SmallBranch, IsKeptPipeline}
use Rattle.gob_ledger.specs.Laws.{ProperUnit}
use Rattle.gob_ledger.specs.UnitLaws.{EmptyIsProper, IsOwedOrNew, NothingIsLost, UnitsAreOwedOrNew, UnitsAreProper}
use Rattle.gob_ledger.specs.UnitLaws.{ListedUnitsAreHeld}
use Rattle.gob_ledger.specs.UnitLaws.{UnitsHaveBytes, new, old}
use Rattle.gob_ledger.proofs.Members.{in_cases, none_in, filter_in, map_in, flat_map_in}
use Rattle.gob_ledger.proofs.Ranges.{covered-is, order_members, owed_below, tiled_none, times, times_some}
use Rattle.gob_ledger.proofs.Counting.{one_if}
use Rattle.gob_ledger.proofs.Cutting.{cuts_lie, follow_above, is_new_in, new_follow, new_member, old_member}
use Rattle.gob_ledger.proofs.Cutting.{times_gives}

-- ---- what isn't done

done_some : (at : ℕ) (ds : List Done) → list_any (λ d. has at d.span) ds ≡ true → 1 ≤ times at (map (λ d. d.span) ds)
done_some at [] e = absurd (let no : false ≡ true = e in cc)
done_some at (d ∷ ds) e = cases (has at d.span) e (done_some at ds)
  where
    cases : (b : Bool) → (b || list_any (λ (c : Done). has at c.span) ds) ≡ true
        → (list_any (λ (c : Done). has at c.span) ds ≡ true → 1 ≤ times at (map (λ c. c.span) ds))
        → 1 ≤ one_if b + times at (map (λ c. c.span) ds)
    cases true e later = omega arith
    cases false e later = let some = later e in omega arith

done_none : (at : ℕ) (ds : List Done) → list_any (λ d. has at d.span) ds ≡ false → times at (map (λ d. d.span) ds) ≡ 0
done_none at [] e = refl
done_none at (d ∷ ds) e =
    let parts = or_parts (has at d.span) (list_any (λ (c : Done). has at c.span) ds) e in
    (λ i. one_if (parts.0 i) + times at (map (λ (c : Done). c.span) ds)) ∙
    (let later = done_none at ds parts.1 in omega arith)

waits_in : (m : Marks) → Tiled m → (at : ℕ) → (is_done at m ≡ false)
    ↔ ((m.next ≤ at) ⊎ ((r : Span) × Contains m.owed r × (has at r ≡ true)))
waits_in m tiled at = (there, back)
  where
    once : times at (done_spans m) + times at m.owed ≡ one_if (nat_lt at m.next)
    once = sym (covered-is at m) ∙ tiled.once at

    there : is_done at m ≡ false → (m.next ≤ at) ⊎ ((r : Span) × Contains m.owed r × (has at r ≡ true))
    there undone = ⊎_elim
        (λ below.
        let one : one_if (nat_lt at m.next) ≡ 1 = ap one_if (lt-ltb at m.next below) in
        let none : times at (done_spans m) ≡ 0 = done_none at m.finished undone in
        inr (times_gives at m.owed (omega (arith, once))))
        (λ above. inl above)
        (cases_lt at m.next)

    back : (m.next ≤ at) ⊎ ((r : Span) × Contains m.owed r × (has at r ≡ true)) → is_done at m ≡ false
    back where_it_is = elim (is_done at m) as (λ b. is_done at m ≡ b → b ≡ false) [
      | false ↦ λ e. refl
      | true ↦ λ e. absurd (
          let some : 1 ≤ times at (done_spans m) = done_some at m.finished e in
          ⊎_elim
          (λ above. let none : one_if (nat_lt at m.next)
          ≡ 0 = ap one_if (le-ltb at m.next above) in omega (arith, once))
          (λ (r : (r : Span) × Contains m.owed r
          × (has at r ≡ true)). let more : 1 ≤ times at m.owed = times_some at m.owed r.0 r.1 r.2 in
          let most : one_if (nat_lt at m.next) ≤ 1 = at_most (nat_lt at m.next) in omega (arith, once))
          where_it_is)
    ] refl
      where
        at_most : (b : Bool) → one_if b ≤ 1
        at_most true = omega arith
        at_most false = omega arith

-- a partition's marks, and that they are tiled
tiled_at : (s : State) (part : List ℕ) → TiledState s → Tiled (marks_or_none s part)
    × (next_of s.parts part ≡ (marks_or_none s part).next)
tiled_at s part tiled = cases (marks_at s part) refl
  where
    cases : (o : Option Marks) → marks_at s part ≡ o → Tiled (unwrap_or o no_marks)
        × (unwrap_or (option_map (λ (m : Marks). m.next) o) 0 ≡ (unwrap_or o no_marks).next)
    cases None e = (tiled_none, refl)
    cases (Some m) e = (tiled.tiled part m e, refl)

owed_in : (s : State) (held : Held) (limits : Limits) (part : List ℕ) (r : Span) → IsInByteOrder (names_of s.parts)
    → Contains (marks_or_none s part).owed r ↔ Contains (units_of s held limits) (owed_unit held limits part r)
unfolding units_of_parts
owed_in s held limits part r rising = (there (marks_at s part) refl, back)
  where
    there : (o : Option Marks) → marks_at s part ≡ o → Contains (unwrap_or o no_marks).owed r
        → Contains (owed_units s.parts held limits ++ new_units s.parts held limits) (owed_unit held limits part r)
    there None e h = none_in r h
    there (Some m) e h = Contains-append_left (owed_units s.parts held limits) (new_units s.parts held limits)
        (owed_unit held limits part r)
        (flat_map_in (λ e. map (owed_unit held limits e.0) e.1.owed) s.parts (part, m) (owed_unit held limits part r)
        (member_from_at s.parts part m e) (map_in (owed_unit held limits part) m.owed r h))

    back : Contains (owed_units s.parts held limits ++ new_units s.parts held limits) (owed_unit held limits part r)
        → Contains (marks_or_none s part).owed r
    back h = ⊎_elim
        (λ k.
        let o = old_member s.parts held limits (owed_unit held limits part r) k in
        let lo : o.span.lo ≡ r.lo = ap (λ (x : WorkUnit). x.lo) o.is in
        let hi : o.span.hi ≡ r.hi = ap (λ (x : WorkUnit). x.hi) o.is in
        let name : o.entry.0 ≡ part = ap (λ (x : WorkUnit). x.part) o.is in
        let same : o.span ≡ r = λ i. record { lo = lo i; hi = hi i } in
        let marks : marks_at s part
        ≡ Some o.entry.1 = subst (λ n. marks_at s n ≡ Some o.entry.1) name
        (at_from_member s.parts o.entry.0 o.entry.1 rising o.there) in
        subst (λ x. Contains (unwrap_or x no_marks).owed r) (sym marks) (subst (Contains o.entry.1.owed) same o.owed))
        (λ k. let n = new_member s.parts held limits (owed_unit held limits part r) k in
        absurd (let no : true ≡ false = ap (λ (x : WorkUnit). x.fresh) n.is in cc))
        (Contains-append_cases (owed_units s.parts held limits) (new_units s.parts held limits)
        (owed_unit held limits part r) h)

pub nothing_lost : NothingIsLost
nothing_lost s held limits part tiled rising =
    let marks = tiled_at s part tiled in
    record {
      owed = λ r. owed_in s held limits part r rising;
      waits = λ at. subst
          (λ n. (is_done at (marks_or_none s part) ≡ false)
          ↔ ((n ≤ at) ⊎ ((r : Span) × Contains (marks_or_none s part).owed r × (has at r ≡ true)))) (sym marks.1)
          (waits_in (marks_or_none s part) marks.0 at);
    }

-- ---- each unit of a run

pub units_are : UnitsAreOwedOrNew
unfolding units_of_parts
units_are s held limits u tiled rising order h = ⊎_elim
    (λ k.
    let o = old_member s.parts held limits u k in
    let same : u
    ≡ owed_unit held limits u.part (span_of u) = subst
    (λ (x : WorkUnit). x ≡ owed_unit held limits x.part (span_of x)) o.is refl in
    old same ((owed_in s held limits u.part (span_of u) rising).1
    (subst (Contains (owed_units s.parts held limits ++ new_units s.parts held limits)) same h)))
    (λ k.
    let n = new_member s.parts held limits u k in
    let part : n.entry.0 ≡ u.part = ap (λ (x : WorkUnit). x.part) n.is in
    let fresh : u.fresh ≡ true = sym (ap (λ (x : WorkUnit). x.fresh) n.is) in
    let listed : u.listed ≡ true = sym (ap (λ (x : WorkUnit). x.listed) n.is) in
    let at : at_name held u.part
    ≡ Some n.entry.1 = subst (λ x. at_name held x ≡ Some n.entry.1) part
    (at_from_member held n.entry.0 n.entry.1 order n.kept) in
    let cut = cuts_lie (length (line_ends n.entry.1)) (line_ends n.entry.1) limits.max_bytes
    (next_of s.parts n.entry.0) n.span n.cut in
    let hi : n.span.hi ≡ u.hi = ap (λ (x : WorkUnit). x.hi) n.is in
    let fits : n.span.hi ≤ length n.entry.1 = All-contains (λ e. e ≤ length n.entry.1) (line_ends n.entry.1) n.span.hi
    (lines_fill n.entry.1).within cut.1 in
    let mine : Contains (fresh_in u.part (new_units s.parts held limits)) u = filter_in (is_new_in u.part)
    (new_units s.parts held limits) u k (and_from _ _ fresh (name_itself u.part)) in
    let above = follow_above (next_of s.parts u.part) (fresh_in u.part (new_units s.parts held limits)) u
    (new_follow s.parts held limits u.part order) mine in
    new fresh listed (subst (λ x. is_kept limits x ≡ true) part n.taken) n.entry.1 at
    (omega (arith, fits)) above.0 above.1)
    (Contains-append_cases (owed_units s.parts held limits) (new_units s.parts held limits) u h)

pub units_bytes : UnitsHaveBytes
units_bytes s held limits tiled rising order u h listed = some (units_are s held limits u tiled rising order h)
  where
    some : IsOwedOrNew s held limits u → u.lo < u.hi
    some (old same owed) = (order_members 0 (marks_or_none s u.part).owed (span_of u)
        (tiled_at s u.part tiled).0.owed owed).1
    some (new fresh l kept bytes at fits above below) = below

-- ---- what is held

pub none_shrunk : (parts : Table Marks) (listing : Table ℕ) (e : List ℕ × ℕ) → first_shrunk parts listing ≡ None
    → Contains listing e → next_of parts e.0 ≤ e.1
none_shrunk parts [] e none h = none_in e h
none_shrunk parts (d ∷ ds) e none h = cases (nat_lt d.1 (next_of parts d.0)) refl none (none_shrunk parts ds e)
  where
    cases : (b : Bool) → nat_lt d.1 (next_of parts d.0) ≡ b → cond b (Some d) (first_shrunk parts ds) ≡ None
        → (first_shrunk parts ds ≡ None → Contains ds e → next_of parts e.0 ≤ e.1) → next_of parts e.0 ≤ e.1
    cases true is none later = absurd (none-some d (sym none))
    cases false is none later = ⊎_elim
        (λ same. subst (λ (x : List ℕ × ℕ). next_of parts x.0 ≤ x.1) same (ltb-false d.1 (next_of parts d.0) is))
        (later none) (in_cases d ds e h)

pub listed_held : ListedUnitsAreHeld
listed_held s held limits u tiled rising order whole h listed = cases (units_are s held limits u tiled rising order h)
  where
    length_at : (bytes : List ℕ) → at_name held u.part ≡ Some bytes → length bytes ≡ length (bytes_at held u.part)
    length_at bytes at = ap (λ o. length (unwrap_or o [])) (sym at)

    old_held : (o : Option Marks) → marks_at s u.part ≡ o → Contains (unwrap_or o no_marks).owed (span_of u)
        → (b : Option (List ℕ)) → at_name held u.part ≡ b → is_some b ≡ true → u.hi ≤ length (bytes_at held u.part)
    old_held None e k b at there = none_in (span_of u) k
    old_held (Some m) e k None at there = absurd (let no : false ≡ true = there in cc)
    old_held (Some m) e k (Some bytes) at there =
        let below = owed_below m (tiled.tiled u.part m e) (span_of u) k in
        let next : next_of s.parts u.part ≡ m.next = ap (λ o. unwrap_or (option_map (λ (x : Marks). x.next) o) 0) e in
        let fits = none_shrunk s.parts (listing_of held) (u.part, length bytes) whole
        (map_in (λ e. (e.0, length e.1)) held (u.part, bytes) (member_from_at held u.part bytes at)) in
        omega (arith, below, next, fits, length_at bytes at)

    cases : IsOwedOrNew s held limits u → u.hi ≤ length (bytes_at held u.part)
    cases (old same owed) =
        let known : is_listed held limits u.part ≡ true = sym (ap (λ (x : WorkUnit). x.listed) same) ∙ listed in
        old_held (marks_at s u.part) refl owed (at_name held u.part) refl
        (and_parts (is_some (at_name held u.part)) (is_kept limits u.part) known).0
    cases (new fresh l kept bytes at fits above below) = omega (arith, fits, length_at bytes at)

-- ---- what can be kept

listed_names : (held : Held) → names_of (listing_of held) ≡ names_of held
listed_names [] = refl
listed_names (e ∷ es) = ap (λ (ns : List (List ℕ)). e.0 ∷ ns) (listed_names es)

pub units_proper : UnitsAreProper
units_proper s held limits u proper listed text h =
    let order : IsInByteOrder (names_of held) = subst IsInByteOrder (listed_names held) listed.rising in
    cases (units_are s held limits u proper.tiled proper.names order h)
  where
    known : (o : Option Marks) → marks_at s u.part ≡ o → Contains (unwrap_or o no_marks).owed (span_of u) → ProperUnit u
    known None e k = none_in (span_of u) k
    known (Some m) e k =
        let part = proper.parts u.part m e in
        let below = owed_below m (proper.tiled.tiled u.part m e) (span_of u) k in
        record { named = part.named; text = part.text; small = let small = part.small in omega arith }

    cases : IsOwedOrNew s held limits u → ProperUnit u
    cases (old same owed) = known (marks_at s u.part) refl owed
    cases (new fresh l kept bytes at fits above below) =
        let there : Contains held (u.part, bytes) = member_from_at held u.part bytes at in
        let entry : IsEntry u.part (length bytes) = All-contains (λ e. IsEntry e.0 e.1) (listing_of held)
        (u.part, length bytes) listed.entries (map_in (λ e. (e.0, length e.1)) held (u.part, bytes) there) in
        record {
          named = entry.named;
          text = All-contains (λ e. IsUtf8 e.0) held
              (u.part, bytes) text there;
          small = let size = entry.fits in omega arith;
        }

pub empty_proper : EmptyIsProper
unfolding IsDistinct
empty_proper branches some few =
    let number : length (no_counts branches).branches
    ≡ branches = length-map-range_with_len (λ _. no_branch_counts) 0 branches in
    record {
      run = omega arith;
      pipelines = All-nil IsKeptPipeline;
      few = omega arith;
      differ = tt;
      totals = record {
        records = omega arith;
        bad = omega arith;
        rows = omega arith;
        unrouted = omega arith;
        branches = All-map SmallBranch (λ _. no_branch_counts) (range_with_len 0 branches)
            (λ k d below. record { written = omega arith; errors = omega arith; optional = omega arith });
      };
      branches = (omega arith, omega arith);
      names = tt;
      parts = λ part m e. absurd (none-some m e);
      tiled = record { tiled = λ part m e. absurd (none-some m e); indexed = λ part m d e. absurd (none-some m e) };
    }
