-- Loops over a listing.
use Rattle.std.proofs.Common.{◌≡◌, ℕ, zero, suc, ◌+◌, ◌<◌, ◌≤◌, Bool, true, false, cond, nat_lt, List, [], ◌∷◌, ◌++◌}
use Rattle.std.proofs.Common.{All, length, map, take, drop, get_or, Some, None, is_some, refl, sym, ap, subst, ◌∙◌}
use Rattle.std.proofs.Common.{arith, add-one, append-nil, append_assoc}
use Rattle.std.specs.List.{AllByRecursion, filter, slice_get}
use Rattle.std.proofs.lemmas.Bool.{ltb-false, ltb-true}
use Rattle.std.proofs.lemmas.Bool.Decides.{nat_tests}
use Rattle.std.proofs.lemmas.List.{take_more}
use Rattle.std.proofs.lemmas.List.Concat.{flat_map-append}
use Rattle.std.proofs.lemmas.List.Elements.{All-push, All-same, filter-append}
use Rattle.gob_bytes.specs.Tables.{Table, at_name, names_of}
use Rattle.gob_device.specs.Supply.{Held, bytes_at}
use Rattle.gob_io.specs.Listing.{entry_of}
use Rattle.gob_io.specs.declared.source.Part.{Part}
use Rattle.gob_ledger.specs.Marks.{Marks}
use Rattle.gob_ledger.specs.Units.{first_shrunk, next_of}
use Rattle.gob_plan.specs.declared.units.Unit.{Unit as WorkUnit}
use Rattle.gob_cut.specs.declared.rounds.Cursor.{Cursor}
use Rattle.gob_cut.specs.Rounds.{AreSized, IsCursor, all_cuts_of, all_rounds, cuts_from, first_cursor, lists_of}
use Rattle.gob_cut.specs.Rounds.{owed_unit_of, owed_units_of, part_at, size_at, unit_of_range}
use Rattle.gob_cut.specs.Going.{BeginsAt, PlacesRise}
use Rattle.gob_cut.proofs.Going.{each_push, each_same, rise_push}
use Rattle.gob_cut.proofs.Places.{no_cut}
use Rattle.gob_cut.proofs.Taking.{all_without, cut_units, cuts_step, entry_at, is_sized}

map_joined : {X Y : Type 0} (f : X → Y) (xs ys : List X) → map f (xs ++ ys) ≡ map f xs ++ map f ys
map_joined f [] ys = refl
map_joined f (x ∷ xs) ys = ap (λ zs. f x ∷ zs) (map_joined f xs ys)

-- ---- a partition that shrank

below_is : (size next : ℕ) → size < next → nat_lt size next ≡ true
below_is size next below = grind (arith, nat_tests)

not_below : (size next : ℕ) → next ≤ size → nat_lt size next ≡ false
not_below size next above = grind (arith, nat_tests)

pub next_part : (parts : List Part) (i : ℕ) (p : Part) → i < length parts → p ≡ get_or parts i p
    → map entry_of (drop i parts) ≡ entry_of p ∷ map entry_of (drop (i + 1) parts)
next_part [] i p within is = absurd (omega (arith, within))
next_part (q ∷ parts) zero p within is = ap (λ (x : Part). entry_of x ∷ map entry_of parts) (sym is)
next_part (q ∷ parts) (suc i) p within is = rw add-one (rw add-one at (next_part parts i p (omega (arith, within)) is))

pub shrunk_here : (parts : Table Marks) (listing rest : List (List ℕ × ℕ)) (e : List ℕ × ℕ) (next : ℕ)
    → listing ≡ e ∷ rest → next ≡ next_of parts e.0 → e.1 < next → first_shrunk parts listing ≡ Some e
shrunk_here parts listing rest e next is at below =
    ap (first_shrunk parts) is ∙ ap (λ b. cond b (Some e) (first_shrunk parts rest))
    (below_is e.1 (next_of parts e.0) (omega (arith, at, below)))

pub shrunk_later : (parts : Table Marks) (listing rest : List (List ℕ × ℕ)) (e : List ℕ × ℕ) (next : ℕ)
    → listing ≡ e ∷ rest → next ≡ next_of parts e.0 → next ≤ e.1 → first_shrunk parts listing ≡ first_shrunk parts rest
shrunk_later parts listing rest e next is at above =
    ap (first_shrunk parts) is ∙ ap (λ b. cond b (Some e) (first_shrunk parts rest))
    (not_below e.1 (next_of parts e.0) (omega (arith, at, above)))

-- ---- the partitions that pass a test

one_more : (p : List ℕ × ℕ → Bool) (parts : List Part) (i : ℕ) (q : Part) → i < length parts → q ≡ get_or parts i q
    → filter p (map entry_of (take (i + 1) parts)) ≡ filter p (map entry_of (take i parts))
    ++ filter p (entry_of q ∷ [])
one_more p parts i q within is =
    ap (λ qs. filter p (map entry_of qs)) (take_more parts i q within
    ∙ ap (λ (x : Part). take i parts ++ x ∷ []) (sym is))
    ∙ (ap (filter p) (map_joined entry_of (take i parts) (q ∷ []))
    ∙ filter-append p (map entry_of (take i parts)) (entry_of q ∷ []))

pub passes : (p : List ℕ × ℕ → Bool) (parts : List Part) (i : ℕ) (q : Part) (before after : List (List ℕ × ℕ))
    → i < length parts → q ≡ get_or parts i q → p (entry_of q) ≡ true
    → after ≡ before ++ entry_of q ∷ [] → before ≡ filter p (map entry_of (take i parts))
    → after ≡ filter p (map entry_of (take (i + 1) parts))
passes p parts i q before after within is pass added so_far =
    added ∙ ((λ j. so_far j ++ sym (ap (λ b. cond b (entry_of q ∷ []) []) pass) j)
    ∙ sym (one_more p parts i q within is))

pub fails : (p : List ℕ × ℕ → Bool) (parts : List Part) (i : ℕ) (q : Part) (before : List (List ℕ × ℕ))
    → i < length parts → q ≡ get_or parts i q → p (entry_of q) ≡ false
    → before ≡ filter p (map entry_of (take i parts)) → before ≡ filter p (map entry_of (take (i + 1) parts))
fails p parts i q before within is fail so_far =
    so_far ∙ (sym (append-nil (filter p (map entry_of (take i parts))))
    ∙ ((λ j. filter p (map entry_of (take i parts)) ++ sym (ap (λ b. cond b (entry_of q ∷ []) []) fail) j)
    ∙ sym (one_more p parts i q within is)))

names_one_more : (p : List ℕ → Bool) (parts : List Part) (i : ℕ) (q : Part) → i < length parts → q ≡ get_or parts i q
    → filter p (names_of (map entry_of (take (i + 1) parts))) ≡ filter p (names_of (map entry_of (take i parts)))
    ++ filter p (q.name ∷ [])
names_one_more p parts i q within is =
    ap (λ qs. filter p (names_of (map entry_of qs))) (take_more parts i q within
    ∙ ap (λ (x : Part). take i parts ++ x ∷ []) (sym is))
    ∙ (ap (λ es. filter p (names_of es)) (map_joined entry_of (take i parts) (q ∷ []))
    ∙ (ap (filter p) (map_joined (λ (e : List ℕ × ℕ). e.0) (map entry_of (take i parts)) (entry_of q ∷ []))
    ∙ filter-append p (names_of (map entry_of (take i parts))) (q.name ∷ [])))

pub name_passes : (p : List ℕ → Bool) (parts : List Part) (i : ℕ) (q : Part) (before after : List (List ℕ))
    → i < length parts → q ≡ get_or parts i q → p q.name ≡ true
    → after ≡ before ++ q.name ∷ [] → before ≡ filter p (names_of (map entry_of (take i parts)))
    → after ≡ filter p (names_of (map entry_of (take (i + 1) parts)))
name_passes p parts i q before after within is pass added so_far =
    added ∙ ((λ j. so_far j ++ sym (ap (λ b. cond b (q.name ∷ []) []) pass) j)
    ∙ sym (names_one_more p parts i q within is))

pub name_fails : (p : List ℕ → Bool) (parts : List Part) (i : ℕ) (q : Part) (before : List (List ℕ)) → i < length parts
    → q ≡ get_or parts i q → p q.name ≡ false
    → before ≡ filter p (names_of (map entry_of (take i parts)))
    → before ≡ filter p (names_of (map entry_of (take (i + 1) parts)))
name_fails p parts i q before within is fail so_far =
    so_far ∙ (sym (append-nil (filter p (names_of (map entry_of (take i parts)))))
    ∙ ((λ j. filter p (names_of (map entry_of (take i parts))) ++ sym (ap (λ b. cond b (q.name ∷ []) []) fail) j)
    ∙ sym (names_one_more p parts i q within is)))

-- ---- the marks of each partition

front_more : {X : Type 0} (xs : List X) (i : ℕ) (x : X) → Some x ≡ slice_get xs i → take (i + 1) xs ≡ take i xs
    ++ x ∷ []
front_more [] zero x is = absurd (let no : Some x ≡ None = is in cc)
front_more [] (suc i) x is = absurd (let no : Some x ≡ None = is in cc)
front_more (y ∷ ys) zero x is = let same : x ≡ y = cc in ap (λ z. z ∷ []) (sym same)
front_more (y ∷ ys) (suc i) x is = rw add-one (ap (λ zs. y ∷ zs) (rw add-one at (front_more ys i x is)))

pub is_there : {X : Type 0} (xs : List X) (i : ℕ) → i < length xs → None ≡ slice_get xs i → ⊥
is_there [] i within is = omega (arith, within)
is_there (x ∷ xs) zero within is = let no : None ≡ Some x = is in cc
is_there (x ∷ xs) (suc i) within is = is_there xs i (omega (arith, within)) is

pub owed_step : (kept : Table ℕ) (marks : Table Marks) (i : ℕ) (e : List ℕ × Marks) (listed : Bool)
    (base now after : List WorkUnit) → Some e ≡ slice_get marks i
    → listed ≡ is_some (at_name kept e.0) → after ≡ now ++ map (unit_of_range e.0 listed) e.1.owed → now ≡ base
    ++ owed_units_of kept (take i marks)
    → after ≡ base ++ owed_units_of kept (take (i + 1) marks)
owed_step kept marks i e listed base now after is tests added so_far =
    let f : List ℕ × Marks → List WorkUnit = λ d. map (owed_unit_of kept d.0) d.1.owed in
    let more : owed_units_of kept (take (i + 1) marks) ≡ owed_units_of kept (take i marks) ++ f e =
    ap (owed_units_of kept) (front_more marks i e is) ∙ (flat_map-append f (take i marks) (e ∷ [])
    ∙ ap (λ us. owed_units_of kept (take i marks) ++ us) (append-nil (f e))) in
    added ∙ ((λ j. so_far j ++ map (unit_of_range e.0 (tests j)) e.1.owed)
    ∙ (append_assoc base (owed_units_of kept (take i marks)) (f e) ∙ ap (λ us. base ++ us) (sym more)))

-- ---- the partitions that have grown

nothing_new : (held : Held) (max : ℕ) (part : List ℕ) (at : ℕ) → length (bytes_at held part) ≤ at
    → cuts_from held max part at ≡ []
nothing_new held max part at past =
    cuts_step held max part at ∙ ap (cut_units held max part at) (no_cut (bytes_at held part) at max past)

lists_joined : (held : Held) (max : ℕ) (kept : Table ℕ) (cs ds : List Cursor)
    → lists_of held max kept (cs ++ ds) ≡ lists_of held max kept cs ++ lists_of held max kept ds
lists_joined held max kept cs ds = map_joined (λ c. cuts_from held max (part_at kept c.place) c.at) cs ds

next_entry : (kept : Table ℕ) (i : ℕ) (e : List ℕ × ℕ) → i < length kept → e ≡ get_or kept i e
    → drop i kept ≡ e ∷ drop (i + 1) kept
next_entry [] i e within is = absurd (omega (arith, within))
next_entry (d ∷ kept) zero e within is = ap (λ (x : List ℕ × ℕ). x ∷ kept) (sym is)
next_entry (d ∷ kept) (suc i) e within is = rw add-one (rw add-one at (next_entry kept i e (omega (arith, within)) is))

pub grown_step : (held : Held) (max : ℕ) (parts : Table Marks) (kept : Table ℕ) (i : ℕ) (e : List ℕ × ℕ) (at : ℕ)
    (before after : List Cursor) → i < length kept → e ≡ get_or kept i e
    → at ≡ next_of parts e.0 → after ≡ before ++ first_cursor i at e.1 → AreSized held kept
    → all_rounds (lists_of held max kept before ++ all_cuts_of held parts max (drop i kept)) ≡ all_rounds
    (all_cuts_of held parts max kept)
    → all_rounds (lists_of held max kept after ++ all_cuts_of held parts max (drop (i + 1) kept)) ≡ all_rounds
    (all_cuts_of held parts max kept)
grown_step held max parts kept i e at before after within is next went sized so_far =
    ap (λ cs. all_rounds (lists_of held max kept cs ++ rest)) went
    ∙ (cases (nat_lt at e.1) refl ∙ (ap (λ es. all_rounds
    (lists_of held max kept before ++ all_cuts_of held parts max es)) (sym (next_entry kept i e within is))
    ∙ so_far))
  where
    rest : List (List WorkUnit)
    rest = all_cuts_of held parts max (drop (i + 1) kept)

    here : cuts_from held max e.0 (next_of parts e.0) ≡ cuts_from held max e.0 at
    here = ap (cuts_from held max e.0) (sym next)

    cases : (b : Bool) → nat_lt at e.1 ≡ b
        → all_rounds (lists_of held max kept (before ++ cond b (record { place = i; at = at } ∷ []) []) ++ rest) ≡
        all_rounds (lists_of held max kept before ++ cuts_from held max e.0 (next_of parts e.0) ∷ rest)
    cases true more =
        let named : part_at kept i ≡ e.0 = ap (λ (x : List ℕ × ℕ). x.0) (entry_at kept i e within is) in
        ap (λ ls. all_rounds (ls ++ rest)) (lists_joined held max kept before (record { place = i; at = at } ∷ []))
        ∙ (ap all_rounds (append_assoc (lists_of held max kept before) (cuts_from held max (part_at kept i) at ∷ [])
        rest)
        ∙ ap (λ us. all_rounds (lists_of held max kept before ++ us ∷ rest))
        (ap (λ p. cuts_from held max p at) named ∙ sym here))
    cases false none =
        let past : e.1 ≤ at = ltb-false at e.1 none in
        let empty : cuts_from held max e.0 (next_of parts e.0) ≡ [] = here
        ∙ nothing_new held max e.0 at (omega (arith, past, is_sized held kept i e within is sized)) in
        ap (λ cs. all_rounds (lists_of held max kept cs ++ rest)) (append-nil before)
        ∙ (sym (all_without (lists_of held max kept before) rest)
        ∙ ap (λ us. all_rounds (lists_of held max kept before ++ us ∷ rest)) (sym empty))

pub grown_cursor : (kept : Table ℕ) (i : ℕ) (e : List ℕ × ℕ) (at : ℕ) (before after : List Cursor) → i < length kept
    → e ≡ get_or kept i e → after ≡ before ++ first_cursor i at e.1
    → All (IsCursor kept) before → All (IsCursor kept) after
grown_cursor kept i e at before after within is went all = cases (nat_lt at e.1) refl went
  where
    cases : (b : Bool) → nat_lt at e.1 ≡ b → after ≡ before ++ cond b (record { place = i; at = at } ∷ []) []
        → All (IsCursor kept) after
    cases true more went =
        let below : at < e.1 = ltb-true at e.1 more in
        let size : size_at kept i ≡ e.1 = ap (λ (x : List ℕ × ℕ). x.1) (entry_at kept i e within is) in
        All-same (IsCursor kept) after (before ++ record { place = i; at = at } ∷ []) went
        (All-push (IsCursor kept) before (record { place = i; at = at }) all
        (record { place = within; at = omega (arith, below, size) }))
    cases false none went = All-same (IsCursor kept) after before (went ∙ append-nil before) all

pub grown_apart : (i : ℕ) (e : List ℕ × ℕ) (at : ℕ) (before after : List Cursor) → after ≡ before
    ++ first_cursor i at e.1 → AllByRecursion (λ c. c.place < i) before → PlacesRise 0 before → PlacesRise 0 after
grown_apart i e at before after went below rise = subst (PlacesRise 0) (sym went) (cases (nat_lt at e.1))
  where
    cases : (b : Bool) → PlacesRise 0 (before ++ cond b (record { place = i; at = at } ∷ []) [])
    cases true = rise_push 0 before (record { place = i; at = at }) rise below (omega arith)
    cases false = subst (PlacesRise 0) (sym (append-nil before)) rise

pub grown_below : (i : ℕ) (e : List ℕ × ℕ) (at : ℕ) (before after : List Cursor) → after ≡ before
    ++ first_cursor i at e.1 → AllByRecursion (λ c. c.place < i) before → AllByRecursion (λ c. c.place < i + 1) after
grown_below i e at before after went below = subst (AllByRecursion (λ c. c.place < i + 1)) (sym went)
    (cases (nat_lt at e.1))
  where
    later : AllByRecursion (λ (c : Cursor). c.place < i + 1) before
    later = each_same (λ c. c.place < i) (λ c. c.place < i + 1) before (λ c b. omega (arith, b)) below

    cases : (b : Bool) → AllByRecursion (λ c. c.place < i + 1)
        (before ++ cond b (record { place = i; at = at } ∷ []) [])
    cases true = each_push (λ c. c.place < i + 1) before (record { place = i; at = at }) later (omega arith)
    cases false = subst (AllByRecursion (λ c. c.place < i + 1)) (sym (append-nil before)) later

pub grown_begins : (kept : Table ℕ) (i : ℕ) (e : List ℕ × ℕ) (at : ℕ) (from : List ℕ → ℕ) (before after : List Cursor)
    → i < length kept → e ≡ get_or kept i e → at ≡ from e.0
    → after ≡ before ++ first_cursor i at e.1 → AllByRecursion (BeginsAt kept from) before
    → AllByRecursion (BeginsAt kept from) after
grown_begins kept i e at from before after within is next went begins =
    subst (AllByRecursion (BeginsAt kept from)) (sym went) (cases (nat_lt at e.1))
  where
    cases : (b : Bool) → AllByRecursion (BeginsAt kept from) (before ++ cond b (record { place = i; at = at } ∷ []) [])
    cases true = each_push (BeginsAt kept from) before (record { place = i; at = at }) begins
        (next ∙ ap from (sym (ap (λ (x : List ℕ × ℕ). x.0) (entry_at kept i e within is))))
    cases false = subst (AllByRecursion (BeginsAt kept from)) (sym (append-nil before)) begins
