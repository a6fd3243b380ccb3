-- Rounds over lists of cuts, one cut after the other.
use Rattle.std.proofs.Common.{◌≡◌, ◌⊎◌, ⊎_elim, ℕ, zero, suc, ◌+◌, ◌-◌, ◌<◌, ◌≤◌, List, [], ◌∷◌, ◌++◌, All, length, map}
use Rattle.std.proofs.Common.{take, drop, get_or, Some, None, IfSome, refl, sym, ap, subst, ◌∙◌, arith, append-nil}
use Rattle.std.proofs.Common.{append_assoc, length-append, add-one}
use Rattle.std.specs.declared.option.Option.{Option}
use Rattle.std.specs.Option.{option_to_list}
use Rattle.std.specs.List.{flat_map, range_with_len, slice_get}
use Rattle.std.proofs.lemmas.List.{length-drop}
use Rattle.std.proofs.lemmas.List.Concat.{flat_map-append}
use Rattle.std.proofs.lemmas.List.Elements.{All-get_or, All-push, All-same}
use Rattle.gob_bytes.specs.Lines.{line_ends}
use Rattle.gob_bytes.specs.Tables.{Table}
use Rattle.gob_device.specs.Supply.{Held, Supply, bytes_at}
use Rattle.gob_plan.specs.declared.units.Unit.{Unit as WorkUnit}
use Rattle.gob_ledger.specs.Marks.{Marks}
use Rattle.gob_ledger.specs.Units.{cut_end, cuts, in_rounds, new_unit, then_cuts}
use Rattle.gob_ledger.proofs.Pieces.{bounds}
use Rattle.gob_cut.specs.declared.rounds.Cursor.{Cursor}
use Rattle.gob_cut.specs.Rounds.{AreSized, IsCursor, all_cuts_of, all_rounds, cuts_from, found_cursors, found_units}
use Rattle.gob_cut.specs.Rounds.{lists_of, owed_units_of, part_at, size_at}

Lists : Type 0
Lists = List (List WorkUnit)

abbrev one_round : ℕ → List (List WorkUnit) → List WorkUnit
one_round k lists = flat_map (λ us. option_to_list (slice_get us k)) lists

-- the first of each list, and what is behind it
abbrev pub heads : List (List WorkUnit) → List WorkUnit
heads lists = one_round 0 lists

abbrev pub tails : List (List WorkUnit) → List (List WorkUnit)
tails lists = map (drop 1) lists

later_get : (us : List WorkUnit) (k : ℕ) → slice_get us (k + 1) ≡ slice_get (drop 1 us) k
later_get [] k = ap (λ n. slice_get {X = WorkUnit} [] n) (add-one k) ∙ none k
  where
    none : (k : ℕ) → slice_get {X = WorkUnit} [] (suc k) ≡ slice_get [] k
    none zero = refl
    none (suc k) = refl
later_get (u ∷ us) k = ap (slice_get (u ∷ us)) (add-one k)

later_round : (lists : List (List WorkUnit)) (k : ℕ) → one_round (k + 1) lists ≡ one_round k (tails lists)
later_round [] k = refl
later_round (us ∷ lists) k = λ i. option_to_list (later_get us k i) ++ later_round lists k i

shifted : (f g : ℕ → List WorkUnit) (a n : ℕ) → ((k : ℕ) → f (k + 1) ≡ g k)
    → flat_map f (range_with_len (a + 1) n) ≡ flat_map g (range_with_len a n)
shifted f g a zero same = refl
shifted f g a (suc n) same = λ i. same a i ++ shifted f g (a + 1) n same i

-- the first round, and then the others
pub rounds_step : (n : ℕ) (lists : List (List WorkUnit)) → in_rounds (suc n) lists ≡ heads lists
    ++ in_rounds n (tails lists)
rounds_step n lists = ap (λ us. heads lists ++ us) (shifted (λ k. one_round k lists) (λ k. one_round k (tails lists)) 0
    n (later_round lists))

fewer : (lists : List (List WorkUnit)) → length (flat_map (λ us. us) (tails lists)) ≤ length (flat_map (λ us. us) lists)
fewer [] = omega arith
fewer (us ∷ lists) =
    omega (
      arith,
      fewer lists,
      length-drop 1 us,
      length-append us (flat_map (λ (vs : List WorkUnit). vs) lists),
      length-append (drop 1 us) (flat_map (λ (vs : List WorkUnit). vs) (tails lists)),
    )

pub all_step : (lists : List (List WorkUnit)) → all_rounds lists ≡ heads lists ++ all_rounds (tails lists)
unfolding all_rounds
all_step lists =
    let n : ℕ = length (flat_map (λ (us : List WorkUnit). us) lists) in
    let m : ℕ = length (flat_map (λ (us : List WorkUnit). us) (tails lists)) in
    let enough : m + (n - m) ≡ n = omega (arith, fewer lists) in
    sym (bounds.rounds 1 lists) ∙ (ap (λ k. in_rounds k lists) (add-one n) ∙ (rounds_step n lists
    ∙ ap (λ us. heads lists ++ us) (ap (λ k. in_rounds k (tails lists)) (sym enough)
    ∙ bounds.rounds (n - m) (tails lists))))

none_in_round : (x y : List (List WorkUnit)) (k : ℕ) → one_round k (x ++ [] ∷ y) ≡ one_round k (x ++ y)
none_in_round x y k =
    let f : List WorkUnit → List WorkUnit = λ us. option_to_list (slice_get us k) in
    flat_map-append f x ([] ∷ y) ∙ (ap (λ us. flat_map f x ++ us) (none k) ∙ sym (flat_map-append f x y))
  where
    none : (k : ℕ) → option_to_list (slice_get {X = WorkUnit} [] k) ++ one_round k y ≡ one_round k y
    none zero = refl
    none (suc k) = refl

same_rounds : (f g : ℕ → List WorkUnit) (a n : ℕ) → ((k : ℕ) → f k ≡ g k)
    → flat_map f (range_with_len a n) ≡ flat_map g (range_with_len a n)
same_rounds f g a zero same = refl
same_rounds f g a (suc n) same = λ i. same a i ++ same_rounds f g (a + 1) n same i

-- a list without cuts changes nothing
pub all_without : (x y : List (List WorkUnit)) → all_rounds (x ++ [] ∷ y) ≡ all_rounds (x ++ y)
unfolding all_rounds
all_without x y =
    let id : List WorkUnit → List WorkUnit = λ us. us in
    let flat : flat_map id (x ++ [] ∷ y) ≡ flat_map id (x ++ y) = flat_map-append id x ([] ∷ y)
    ∙ sym (flat_map-append id x y) in
    ap (λ us. in_rounds (length us) (x ++ [] ∷ y)) flat
    ∙ same_rounds (λ k. one_round k (x ++ [] ∷ y)) (λ k. one_round k (x ++ y)) 0 (length (flat_map id (x ++ y)))
    (none_in_round x y)

pub all_none : all_rounds [] ≡ []
unfolding all_rounds
all_none = refl

-- ---- the cuts of one partition

-- no cut, or one and those behind it
abbrev pub cut_units : Held → ℕ → List ℕ → ℕ → Option ℕ → List WorkUnit
cut_units held max part lo None = []
cut_units held max part lo (Some hi) = new_unit part (record { lo = lo; hi = hi }) ∷ cuts_from held max part hi

pub cuts_step : (held : Held) (max : ℕ) (part : List ℕ) (lo : ℕ)
    → cuts_from held max part lo ≡ cut_units held max part lo (cut_end (line_ends (bytes_at held part)) lo max)
unfolding cuts_from
cuts_step held max part lo =
    ap (map (new_unit part)) (sym (bounds.cuts 1 ends max lo) ∙ ap (λ n. cuts n ends max lo) (add-one (length ends)))
    ∙ cases (cut_end ends lo max)
  where
    ends : List ℕ
    ends = line_ends (bytes_at held part)

    cases : (o : Option ℕ) → map (new_unit part) (then_cuts lo o (cuts (length ends) ends max)) ≡ cut_units held max
        part lo o
    cases None = refl
    cases (Some hi) = refl

-- ---- one round, partition by partition

-- what is left to take of all rounds, where these partitions have had their turn and those haven't
abbrev pub left_of : Held → ℕ → Table ℕ → List Cursor → List Cursor → List WorkUnit
left_of held max kept going later = heads (lists_of held max kept later)
    ++ all_rounds (lists_of held max kept going ++ tails (lists_of held max kept later))

pub left_first : (held : Held) (max : ℕ) (kept : Table ℕ) (later : List Cursor)
    → all_rounds (lists_of held max kept later) ≡ left_of held max kept [] later
left_first held max kept later = all_step (lists_of held max kept later)

pub left_last : (held : Held) (max : ℕ) (kept : Table ℕ) (going : List Cursor)
    → left_of held max kept going [] ≡ all_rounds (lists_of held max kept going)
left_last held max kept going = ap all_rounds (append-nil (lists_of held max kept going))

-- the next partition has no cut
pub left_none : (held : Held) (max : ℕ) (kept : Table ℕ) (going later : List Cursor) (c : Cursor)
    → cuts_from held max (part_at kept c.place) c.at ≡ [] → left_of held max kept going (c ∷ later) ≡ left_of held max
    kept going later
left_none held max kept going later c none =
    (λ i. option_to_list (slice_get (none i) 0) ++ heads (lists_of held max kept later)
    ++ all_rounds (lists_of held max kept going ++ drop 1 (none i) ∷ tails (lists_of held max kept later)))
    ∙ ap (λ us. heads (lists_of held max kept later) ++ us) (all_without (lists_of held max kept going)
    (tails (lists_of held max kept later)))

lists_more : (held : Held) (max : ℕ) (kept : Table ℕ) (going : List Cursor) (c : Cursor) (y : List (List WorkUnit))
    → lists_of held max kept going ++ cuts_from held max (part_at kept c.place) c.at ∷ y ≡ lists_of held max kept
    (going ++ c ∷ []) ++ y
lists_more held max kept [] c y = refl
lists_more held max kept (g ∷ going) c y = ap (λ ls. cuts_from held max (part_at kept g.place) g.at ∷ ls)
    (lists_more held max kept going c y)

-- the next partition has a cut
pub left_some : (held : Held) (max : ℕ) (kept : Table ℕ) (going later : List Cursor) (c d : Cursor) (u : WorkUnit)
    → cuts_from held max (part_at kept c.place) c.at ≡ u ∷ cuts_from held max (part_at kept d.place) d.at
    → left_of held max kept going (c ∷ later) ≡ u ∷ left_of held max kept (going ++ d ∷ []) later
left_some held max kept going later c d u some =
    (λ i. option_to_list (slice_get (some i) 0) ++ heads (lists_of held max kept later)
    ++ all_rounds (lists_of held max kept going ++ drop 1 (some i) ∷ tails (lists_of held max kept later)))
    ∙ ap (λ ls. u ∷ (heads (lists_of held max kept later) ++ all_rounds ls))
    (lists_more held max kept going d (tails (lists_of held max kept later)))

-- ---- one round over a source that may tell

-- the units so far, and what is left to take, are what was to be taken
abbrev pub TakesRounds : Option Supply → Table ℕ → ℕ → ℕ → List Cursor → List Cursor → List Cursor → List WorkUnit
    → List WorkUnit → Type 0
TakesRounds o kept max most cursors going later before units = IfSome o (λ s. AreSized s.held kept
    → units ++ take (most - length going) (left_of s.held max kept going later) ≡ before
    ++ take most (all_rounds (lists_of s.held max kept cursors)))

-- where a cut of a listed partition ends
abbrev pub EndsAt : Option Supply → List ℕ → ℕ → ℕ → ℕ → Option ℕ → Type 0
EndsAt o part size at max end = IfSome o (λ s. size ≡ length (bytes_at s.held part)
    → end ≡ cut_end (line_ends (bytes_at s.held part)) at max)

-- the next partition and its cursor
pub record NextCursor (kept : Table ℕ) (later rest : List Cursor) (c : Cursor) (e : List ℕ × ℕ) : Type 0 where
  pub next : later ≡ c ∷ rest
  pub entry : e ≡ get_or kept c.place e
  pub place : c.place < length kept

pub entry_at : (kept : Table ℕ) (place : ℕ) (e : List ℕ × ℕ) → place < length kept → e ≡ get_or kept place e
    → get_or kept place ([], 0) ≡ e
entry_at [] place e within is = absurd (omega (arith, within))
entry_at (d ∷ kept) zero e within is = sym is
entry_at (d ∷ kept) (suc place) e within is = entry_at kept place e (omega (arith, within)) is

pub is_sized : (held : Held) (kept : Table ℕ) (place : ℕ) (e : List ℕ × ℕ) → place < length kept
    → e ≡ get_or kept place e → AreSized held kept → e.1 ≡ length (bytes_at held e.0)
is_sized held kept place e within is all =
    subst (λ (x : List ℕ × ℕ). x.1 ≡ length (bytes_at held x.0)) (sym is)
    (All-get_or (λ x. x.1 ≡ length (bytes_at held x.0)) kept place e within all)

pub round_first : (o : Option Supply) (kept : Table ℕ) (max most : ℕ) (cursors : List Cursor) (units : List WorkUnit)
    → TakesRounds o kept max most cursors [] cursors units units
round_first None kept max most cursors units = tt
round_first (Some s) kept max most cursors units = λ sized.
    (λ i. units ++ take (same i) (sym (left_first s.held max kept cursors) i))
  where
    same : most - 0 ≡ most
    same = omega arith

pub round_none : (o q : Option Supply) (kept : Table ℕ) (max most : ℕ) (cursors going later rest : List Cursor)
    (before units : List WorkUnit) (c : Cursor) (e : List ℕ × ℕ) → q ≡ o
    → NextCursor kept later rest c e → EndsAt q e.0 e.1 c.at max None
    → TakesRounds o kept max most cursors going later before units
    → TakesRounds o kept max most cursors going rest before units
round_none o q kept max most cursors going later rest before units c e told n ends takes =
    cases o (subst (λ r. EndsAt r e.0 e.1 c.at max None) told ends) takes
  where
    cases : (o : Option Supply) → EndsAt o e.0 e.1 c.at max None
        → TakesRounds o kept max most cursors going later before units
        → TakesRounds o kept max most cursors going rest before units
    cases None ends takes = tt
    cases (Some s) ends takes = λ sized.
        let part : part_at kept c.place ≡ e.0 = ap (λ (x : List ℕ × ℕ). x.0) (entry_at kept c.place e n.place n.entry)
        in
        let none : cut_end (line_ends (bytes_at s.held e.0)) c.at max ≡ None =
        sym (ends (is_sized s.held kept c.place e n.place n.entry sized)) in
        let empty : cuts_from s.held max (part_at kept c.place) c.at ≡ [] =
        ap (λ p. cuts_from s.held max p c.at) part ∙ (cuts_step s.held max e.0 c.at
        ∙ ap (cut_units s.held max e.0 c.at) none) in
        ap (λ us. units ++ take (most - length going) us) (sym (left_none s.held max kept going rest c empty)
        ∙ ap (left_of s.held max kept going) (sym n.next)) ∙ takes sized

take_more : (most count : ℕ) (u : WorkUnit) (us : List WorkUnit) → count < most
    → take (most - count) (u ∷ us) ≡ u ∷ take (most - (count + 1)) us
take_more most count u us below = ap (λ n. take n (u ∷ us)) (let same : most - count ≡ suc (most - (count + 1)) =
    omega arith in same)

pub round_some : (o q : Option Supply) (kept : Table ℕ) (max most : ℕ) (cursors going later rest : List Cursor)
    (before units more : List WorkUnit) (c d : Cursor) (e : List ℕ × ℕ) (hi : ℕ) → q ≡ o
    → NextCursor kept later rest c e → EndsAt q e.0 e.1 c.at max (Some hi) → length going < most → d.place ≡ c.place
    → d.at ≡ hi
    → more ≡ units ++ new_unit e.0 (record { lo = c.at; hi = hi }) ∷ []
    → TakesRounds o kept max most cursors going later before units
    → TakesRounds o kept max most cursors (going ++ d ∷ []) rest before more
round_some o q kept max most cursors going later rest before units more c d e hi told n ends below same at added takes =
    cases o (subst (λ r. EndsAt r e.0 e.1 c.at max (Some hi)) told ends) takes
  where
    cases : (o : Option Supply) → EndsAt o e.0 e.1 c.at max (Some hi)
        → TakesRounds o kept max most cursors going later before units
        → TakesRounds o kept max most cursors (going ++ d ∷ []) rest before more
    cases None ends takes = tt
    cases (Some s) ends takes = λ sized.
        let part : part_at kept c.place ≡ e.0 = ap (λ (x : List ℕ × ℕ). x.0) (entry_at kept c.place e n.place n.entry)
        in
        let u : WorkUnit = new_unit e.0 (record { lo = c.at; hi = hi }) in
        let some : cut_end (line_ends (bytes_at s.held e.0)) c.at max ≡ Some hi =
        sym (ends (is_sized s.held kept c.place e n.place n.entry sized)) in
        let rest_is : cuts_from s.held max (part_at kept d.place) d.at ≡ cuts_from s.held max e.0 hi =
        (λ i. cuts_from s.held max ((ap (part_at kept) same ∙ part) i) (at i)) in
        let cut : cuts_from s.held max (part_at kept c.place) c.at ≡ u ∷ cuts_from s.held max (part_at kept d.place)
        d.at =
        ap (λ p. cuts_from s.held max p c.at) part ∙ (cuts_step s.held max e.0 c.at
        ∙ (ap (cut_units s.held max e.0 c.at) some ∙ ap (λ us. u ∷ us) (sym rest_is))) in
        let count : length (going ++ d ∷ []) ≡ length going + 1 = length-append going (d ∷ []) in
        let step : take (most - length going) (left_of s.held max kept going later) ≡ u ∷ take
        (most - (length going + 1)) (left_of s.held max kept (going ++ d ∷ []) rest) =
        ap (take (most - length going)) (ap (left_of s.held max kept going) n.next
        ∙ left_some s.held max kept going rest c d u cut)
        ∙ take_more most (length going) u (left_of s.held max kept (going ++ d ∷ []) rest) below in
        (λ i. added i ++ take (most - count i) (left_of s.held max kept (going ++ d ∷ []) rest))
        ∙ (append_assoc units (u ∷ []) (take (most - (length going + 1))
        (left_of s.held max kept (going ++ d ∷ []) rest))
        ∙ (ap (λ us. units ++ us) (sym step) ∙ takes sized))

-- what a whole round leaves
abbrev pub RoundLeaves : Option Supply → Table ℕ → ℕ → ℕ → List Cursor → List Cursor → List WorkUnit → List WorkUnit
    → Type 0
RoundLeaves o kept max most cursors going before units = IfSome o (λ s. AreSized s.held kept
    → units ++ take (most - length going) (all_rounds (lists_of s.held max kept going)) ≡ before
    ++ take most (all_rounds (lists_of s.held max kept cursors)))

pub round_done : (o : Option Supply) (kept : Table ℕ) (max most : ℕ) (cursors going later : List Cursor)
    (before units : List WorkUnit) → later ≡ []
    → TakesRounds o kept max most cursors going later before units
    → RoundLeaves o kept max most cursors going before units
round_done None kept max most cursors going later before units none takes = tt
round_done (Some s) kept max most cursors going later before units none takes = λ sized.
    ap (λ us. units ++ take (most - length going) us) (sym (left_last s.held max kept going)
    ∙ ap (left_of s.held max kept going) (sym none)) ∙ takes sized

-- no more may be taken
pub round_full : (o : Option Supply) (kept : Table ℕ) (max most : ℕ) (cursors going later : List Cursor)
    (before units : List WorkUnit) → most ≤ length going
    → TakesRounds o kept max most cursors going later before units
    → RoundLeaves o kept max most cursors going before units
round_full None kept max most cursors going later before units full takes = tt
round_full (Some s) kept max most cursors going later before units full takes = λ sized.
    (λ i. units ++ (no_more (all_rounds (lists_of s.held max kept going))
    ∙ sym (no_more (left_of s.held max kept going later))) i) ∙ takes sized
  where
    no_more : (us : List WorkUnit) → take (most - length going) us ≡ []
    no_more us = ap (λ n. take n us) (let none : most - length going ≡ 0 = omega arith in none)

-- ---- rounds, one after the other

-- the units so far, and what further rounds are to add
abbrev pub RoundsGo : Option Supply → Table ℕ → ℕ → ℕ → List Cursor → List WorkUnit → ℕ → List Cursor → List WorkUnit
    → Type 0
RoundsGo o kept max most cursors before left going units = IfSome o (λ s. AreSized s.held kept
    → units ++ take left (all_rounds (lists_of s.held max kept going)) ≡ before
    ++ take most (all_rounds (lists_of s.held max kept cursors)))

pub rounds_first : (o : Option Supply) (kept : Table ℕ) (max most : ℕ) (cursors : List Cursor) (units : List WorkUnit)
    → RoundsGo o kept max most cursors units most cursors units
rounds_first None kept max most cursors units = tt
rounds_first (Some s) kept max most cursors units = λ sized. refl

pub rounds_then : (o q : Option Supply) (kept : Table ℕ) (max most left count : ℕ)
    (cursors going lent next : List Cursor) (before units more : List WorkUnit) → q ≡ o → lent ≡ going
    → count ≡ length next → RoundLeaves q kept max left lent next units more
    → RoundsGo o kept max most cursors before left going units
    → RoundsGo o kept max most cursors before (left - count) next more
rounds_then o q kept max most left count cursors going lent next before units more told same counted round so_far =
    cases o (subst (λ r. RoundLeaves r kept max left going next units more) told
    (subst (λ cs. RoundLeaves q kept max left cs next units more) same round)) so_far
  where
    cases : (o : Option Supply) → RoundLeaves o kept max left going next units more
        → RoundsGo o kept max most cursors before left going units
        → RoundsGo o kept max most cursors before (left - count) next more
    cases None round so_far = tt
    cases (Some s) round so_far = λ sized.
        ap (λ n. more ++ take (left - n) (all_rounds (lists_of s.held max kept next))) counted
        ∙ (round sized ∙ so_far sized)

-- nothing may be taken any more, or nothing is left
pub rounds_done : (o : Option Supply) (kept : Table ℕ) (max most left : ℕ) (cursors going : List Cursor)
    (before units : List WorkUnit) → (left ≡ 0) ⊎ (going ≡ [])
    → IfSome o (λ s. AreSized s.held kept → units ++ take left (all_rounds (lists_of s.held max kept going)) ≡ before
    ++ take most (all_rounds (lists_of s.held max kept cursors)))
    → IfSome o (λ s. AreSized s.held kept → units ≡ before ++ take most (all_rounds (lists_of s.held max kept cursors)))
rounds_done None kept max most left cursors going before units done so_far = tt
rounds_done (Some s) kept max most left cursors going before units done so_far = λ sized.
    sym (append-nil units) ∙ (ap (λ us. units ++ us) (sym none) ∙ so_far sized)
  where
    take_of_none : (n : ℕ) → take {A = WorkUnit} n [] ≡ []
    take_of_none zero = refl
    take_of_none (suc n) = refl

    none : take left (all_rounds (lists_of s.held max kept going)) ≡ []
    none = ⊎_elim
        (λ (e : left ≡ 0). ap (λ n. take n (all_rounds (lists_of s.held max kept going))) e)
        (λ (e : going ≡ []). ap (λ cs. take left (all_rounds (lists_of s.held max kept cs))) e
        ∙ (ap (take left) all_none ∙ take_of_none left)) done

pub round_step : (o q : Option Supply) (kept : Table ℕ) (max most : ℕ) (cursors going later rest on : List Cursor)
    (before units more : List WorkUnit) (c : Cursor) (e : List ℕ × ℕ) (end : Option ℕ) → q ≡ o
    → NextCursor kept later rest c e → EndsAt q e.0 e.1 c.at max end → length going < most → more ≡ units
    ++ found_units e.0 c.at end → on ≡ going ++ found_cursors c.place end
    → TakesRounds o kept max most cursors going later before units
    → TakesRounds o kept max most cursors on rest before more
round_step o q kept max most cursors going later rest on before units more c e None told n ends below added went takes =
    subst (λ gs. TakesRounds o kept max most cursors gs rest before more) (sym (went ∙ append-nil going))
    (subst (λ us. TakesRounds o kept max most cursors going rest before us) (sym (added ∙ append-nil units))
    (round_none o q kept max most cursors going later rest before units c e told n ends takes))
round_step o q kept max most cursors going later rest on before units more c e (Some hi) told n ends below added went
    takes =
    subst (λ gs. TakesRounds o kept max most cursors gs rest before more) (sym went)
    (round_some o q kept max most cursors going later rest before units more c (record { place = c.place; at = hi }) e
    hi told n ends below refl refl added takes)

-- a cursor that goes on is one
pub cursors_on : (kept : Table ℕ) (going on : List Cursor) (place : ℕ) (e : List ℕ × ℕ) (end : Option ℕ)
    → place < length kept → e ≡ get_or kept place e → IfSome end (λ hi. hi ≤ e.1)
    → on ≡ going ++ found_cursors place end → All (IsCursor kept) going → All (IsCursor kept) on
cursors_on kept going on place e None within is fits went all =
    All-same (IsCursor kept) on going (went ∙ append-nil going) all
cursors_on kept going on place e (Some hi) within is fits went all =
    let size : size_at kept place ≡ e.1 = ap (λ (x : List ℕ × ℕ). x.1) (entry_at kept place e within is) in
    All-same (IsCursor kept) on (going ++ record { place = place; at = hi } ∷ []) went
    (All-push (IsCursor kept) going (record { place = place; at = hi }) all
    (record { place = within; at = omega (arith, fits, size) }))

pub many_on : (going on : List Cursor) (place most : ℕ) (end : Option ℕ) → length going < most → on ≡ going
    ++ found_cursors place end → length on ≤ most
many_on going on place most None below went = omega (arith, below, ap length (went ∙ append-nil going))
many_on going on place most (Some hi) below went = omega (
  arith,
  below,
  ap length went,
  length-append going (record { place = place; at = hi } ∷ []),
)

-- ---- the owed ranges, and then the cuts

pub owed_and_new : (o : Option Supply) (kept : Table ℕ) (parts : Table Marks) (max most : ℕ) (cursors : List Cursor)
    (none owed units : List WorkUnit) → none ≡ [] → owed ≡ none ++ owed_units_of kept parts
    → ((held : Held) (max : ℕ) → AreSized held kept → all_rounds (lists_of held max kept cursors) ≡ all_rounds
    (all_cuts_of held parts max kept))
    → IfSome o (λ s. AreSized s.held kept → units ≡ owed ++ take most (all_rounds (lists_of s.held max kept cursors)))
    → IfSome o (λ s. AreSized s.held kept → units ≡ owed_units_of kept parts
    ++ take most (all_rounds (all_cuts_of s.held parts max kept)))
owed_and_new None kept parts max most cursors none owed units empty is cuts taken = tt
owed_and_new (Some s) kept parts max most cursors none owed units empty is cuts taken = λ sized.
    taken sized ∙ (λ i. (is ∙ ap (λ us. us ++ owed_units_of kept parts) empty) i ++ take most (cuts s.held max sized i))

pub next_cursor : (cs : List Cursor) (i : ℕ) (d : Cursor) → i < length cs → drop i cs ≡ get_or cs i d ∷ drop (i + 1) cs
next_cursor [] i d within = absurd (omega (arith, within))
next_cursor (c ∷ cs) zero d within = refl
next_cursor (c ∷ cs) (suc i) d within = rw add-one (rw add-one at (next_cursor cs i d (omega (arith, within))))

pub inside_fits : (end : Option ℕ) (lo size : ℕ) → IfSome end (λ hi. (lo < hi) × (hi ≤ size))
    → IfSome end (λ hi. hi ≤ size)
inside_fits None lo size h = tt
inside_fits (Some hi) lo size h = h.1
