-- The places of each dataset's units.
use Rattle.std.proofs.Common.{◌≡◌, ℕ, zero, suc, ◌+◌, ◌<◌, Bool, true, false, cond, List, [], ◌∷◌}
use Rattle.std.proofs.Common.{◌++◌}
use Rattle.std.proofs.Common.{map, length, take, get_or, refl, sym, ap, subst, ◌∙◌, arith, Some, None, Vec, Global}
use Rattle.std.proofs.Common.{option_map, unwrap_or, slice_get, add-one, append-nil, append_assoc, length-append}
use Rattle.std.proofs.Common.{zero-add}
use Rattle.std.specs.declared.cmp.Ordering.{Ordering}
use Rattle.std.specs.declared.option.Option.{Option}
use Rattle.std.specs.BTreeMap.{BTreeMap, UpdatesBy, get_by, is_at, values}
use Rattle.std.specs.Cmp.Lexicographic.{nat_list_eq_equiv, slice_cmp}
use Rattle.std.specs.List.{Contains, filter}
use Rattle.std.specs.List.Sorted.{IsStrictlySortedBy}
use Rattle.std.specs.Map.{keys_of, lookup}
use Rattle.std.specs.Option.{option_to_list}
use Rattle.std.specs.Ordering.{nat_cmp}
use Rattle.std.specs.Str.{bytes_eq}
use Rattle.std.proofs.lemmas.Map.Keys.{sorted_head, sorted_tail}
use Rattle.std.proofs.lemmas.Map.Text.{btree_map_updates_str, is_eq-slice_cmp}
use Rattle.gob_seq.proofs.Once.{Name}
use Rattle.gob_bytes.proofs.Tables.{at-with_name, at_from_member, rising-with_name, same_name, same_tables}
use Rattle.gob_bytes.specs.Tables.{IsInByteOrder, Table, at_name, names_of}
use Rattle.gob_plan.specs.declared.units.Unit.{Unit as WorkUnit}
use Rattle.gob_ledger.specs.Groups.{by_dataset, dataset_of, groups_of}
use Rattle.gob_ledger.specs.Next.{Judged}
use Rattle.gob_ledger.proofs.Members.{in_map}
use Rattle.gob_commit.specs.Groups.{ArePlaces, PlacesAre, picked_items, places_from, some_of}

abbrev pub Places : Type 0
Places = Vec ℕ Global

-- ---- one unit more

places_more : (q : List ℕ) (n : ℕ) (units : List WorkUnit) (i : ℕ) (u : WorkUnit) → i < length units
    → u ≡ get_or units i u
    → places_from n q (take (suc i) units)
    ≡ places_from n q (take i units) ++ cond (bytes_eq q (dataset_of u.part)) ((n + i) ∷ []) []
places_more q n [] i u below is = absurd (omega (arith, below))
places_more q n (v ∷ vs) zero u below is =
    ap (λ (w : WorkUnit). cond (bytes_eq q (dataset_of w.part)) (n ∷ []) []) (sym is)
    ∙ ap (λ k. cond (bytes_eq q (dataset_of u.part)) (k ∷ []) []) same
  where
    same : n ≡ n + 0
    same = omega arith
places_more q n (v ∷ vs) (suc i) u below is =
    cases (bytes_eq q (dataset_of v.part)) (places_more q (n + 1) vs i u (omega (arith, below)) is)
  where
    last : List ℕ
    last = cond (bytes_eq q (dataset_of u.part)) ((n + suc i) ∷ []) []

    same : (n + 1) + i ≡ n + suc i
    same = omega arith

    cases : (b : Bool)
        → places_from (n + 1) q (take (suc i) vs)
        ≡ places_from (n + 1) q (take i vs) ++ cond (bytes_eq q (dataset_of u.part)) (((n + 1) + i) ∷ []) []
        → cond b (n ∷ places_from (n + 1) q (take (suc i) vs)) (places_from (n + 1) q (take (suc i) vs))
        ≡ cond b (n ∷ places_from (n + 1) q (take i vs)) (places_from (n + 1) q (take i vs)) ++ last
    cases true later = ap (λ ps. n ∷ ps)
        (later ∙ ap (λ k. places_from (n + 1) q (take i vs) ++ cond (bytes_eq q (dataset_of u.part)) (k ∷ []) []) same)
    cases false later =
        later ∙ ap (λ k. places_from (n + 1) q (take i vs) ++ cond (bytes_eq q (dataset_of u.part)) (k ∷ []) []) same

unwrapped : (ps : List ℕ) → unwrap_or (some_of ps) [] ≡ ps
unwrapped [] = refl
unwrapped (p ∷ ps) = refl

some_pushed : {X : Type 0} (ps : List X) (p : X) → Some (ps ++ p ∷ []) ≡ some_of (ps ++ p ∷ [])
some_pushed [] p = refl
some_pushed (q ∷ ps) p = refl

items_or : (o : Option Places) (none : Places) → none.items ≡ []
    → (unwrap_or o none).items ≡ unwrap_or (option_map (λ (p : Places). p.items) o) []
items_or None none e = e
items_or (Some p) none e = refl

abbrev at_text : List ℕ → BTreeMap Name Places → Option Places
at_text q m = get_by (λ (k : Name). slice_cmp nat_cmp q k.now) m

abbrev by_text : Name → Name → Ordering
by_text x y = slice_cmp nat_cmp x.now y.now

pub placed_more : (units : List WorkUnit) (i : ℕ) (u : WorkUnit) (m mid n : BTreeMap Name Places) (d : List ℕ)
    (none taken pushed : Places) → i < length units → u ≡ get_or units i u
    → ((q : List ℕ) → option_map (λ (p : Places). p.items) (at_text q m) ≡ some_of (places_from 0 q (take i units)))
    → d ≡ dataset_of u.part → none.items ≡ []
    → UpdatesBy by_text (λ (k : Name). slice_cmp nat_cmp d k.now) m mid None
    → taken ≡ unwrap_or (at_text d m) none → pushed.items ≡ taken.items ++ i ∷ []
    → UpdatesBy by_text (λ (k : Name). slice_cmp nat_cmp d k.now) mid n (Some pushed)
    → (q : List ℕ)
    → option_map (λ (p : Places). p.items) (at_text q n) ≡ some_of (places_from 0 q (take (i + 1) units))
placed_more units i u m mid n d none taken pushed below is so_far named empty out took put back q =
    ap (option_map (λ (p : Places). p.items)) (btree_map_updates_str d mid n (Some pushed) back q)
    ∙ (cases (bytes_eq d q) refl ∙ sym (ap some_of (ap (λ k. places_from 0 q (take k units)) (add-one i) ∙ more)))
  where
    so : List ℕ
    so = places_from 0 q (take i units)

    more : places_from 0 q (take (suc i) units) ≡ so ++ cond (bytes_eq d q) (i ∷ []) []
    more = places_more q 0 units i u below is
        ∙ ap (λ k. so ++ cond (bytes_eq q (dataset_of u.part)) (k ∷ []) []) (zero-add i)
        ∙ ap (λ b. so ++ cond b (i ∷ []) []) (ap (bytes_eq q) (sym named) ∙ nat_list_eq_equiv.symm q d)

    had : taken.items ≡ places_from 0 d (take i units)
    had = ap (λ (p : Places). p.items) took ∙ items_or (at_text d m) none empty
        ∙ ap (λ (o : Option (List ℕ)). unwrap_or o []) (so_far d) ∙ unwrapped (places_from 0 d (take i units))

    cases : (b : Bool) → bytes_eq d q ≡ b
        → option_map (λ (p : Places). p.items) (cond b (Some pushed) (at_text q mid))
        ≡ some_of (so ++ cond b (i ∷ []) [])
    cases true same =
        ap (λ ps. Some ps) (put ∙ ap (λ ps. ps ++ i ∷ [])
        (had ∙ ap (λ e. places_from 0 e (take i units)) (same_name d q same)))
        ∙ some_pushed so i
    cases false apart =
        ap (option_map (λ (p : Places). p.items)) (btree_map_updates_str d m mid None out q)
        ∙ ap (λ b. option_map (λ (p : Places). p.items) (cond b None (at_text q m))) apart
        ∙ so_far q ∙ ap some_of (sym (append-nil so))

-- ---- the table of places

abbrev Entries : Type 0
Entries = List (Name × Places)

abbrev table : Entries → Table (List ℕ)
table es = map (λ (e : Name × Places). (e.0.now, e.1.items)) es

table_at : (es : Entries) (q : List ℕ)
    → at_name (table es) q
    ≡ option_map (λ (p : Places). p.items) (lookup (is_at (λ (k : Name). slice_cmp nat_cmp q k.now)) es)
table_at [] q = refl
table_at (e ∷ es) q = cases (bytes_eq q e.0.now) (is_at (λ (k : Name). slice_cmp nat_cmp q k.now) e.0)
    (sym (is_eq-slice_cmp q e.0.now)) (table_at es q)
  where
    test : Name → Bool
    test = is_at (λ (k : Name). slice_cmp nat_cmp q k.now)

    cases : (b c : Bool) → b ≡ c → at_name (table es) q ≡ option_map (λ (p : Places). p.items) (lookup test es)
        → cond b (Some e.1.items) (at_name (table es) q)
        ≡ option_map (λ (p : Places). p.items) (cond c (Some e.1) (lookup test es))
    cases true true same later = refl
    cases false false same later = later
    cases true false same later = cc
    cases false true same later = cc

table_order : (es : Entries) → IsStrictlySortedBy by_text (keys_of es) → IsInByteOrder (names_of (table es))
table_order [] sorted = tt
table_order (e ∷ []) sorted = tt
table_order (e ∷ f ∷ es) sorted = (
  (sorted_head by_text e.0 (keys_of (f ∷ es)) sorted).0,
  table_order (f ∷ es) (sorted_tail by_text e.0 (keys_of
      (f ∷ es)) sorted),
)

table_values : (es : Entries) → map (λ (e : List ℕ × List ℕ). e.1) (table es)
    ≡ map (λ (p : Places). p.items) (map (λ (e : Name × Places). e.1) es)
table_values [] = refl
table_values (e ∷ es) = ap (λ (ps : List (List ℕ)). e.1.items ∷ ps) (table_values es)

-- ---- the units at the places

abbrev of_dataset : List ℕ → List Judged → List Judged
of_dataset d js = filter (λ j. bytes_eq d (dataset_of j.0.part)) js

get_behind : {X : Type 0} (front : List X) (x : X) (xs : List X) → slice_get (front ++ x ∷ xs) (length front) ≡ Some x
get_behind [] x xs = refl
get_behind (y ∷ ys) x xs = get_behind ys x xs

-- the units at a dataset's places are those of the dataset, in any list that goes along with the units
pub picked_are : {X : Type 0} (part : X → List ℕ) (d : List ℕ) (whole front back : List X) (units : List WorkUnit)
    (n : ℕ) → whole ≡ front ++ back → length front ≡ n → map (λ (u : WorkUnit). u.part) units ≡ map part back
    → picked_items whole (places_from n d units) ≡ filter (λ x. bytes_eq d (dataset_of (part x))) back
picked_are part d whole front [] [] n is long along = refl
picked_are part d whole front (x ∷ xs) [] n is long along = let no : [] ≡ part x ∷ map part xs = along in cc
picked_are part d whole front [] (u ∷ us) n is long along =
    let no : u.part ∷ map (λ (v : WorkUnit). v.part) us ≡ [] = along in cc
picked_are {X} part d whole front (x ∷ xs) (u ∷ us) n is long along =
    cases (bytes_eq d (dataset_of u.part)) (bytes_eq d (dataset_of (part x)))
    (ap (λ p. bytes_eq d (dataset_of p)) head)
    (picked_are part d whole (front ++ x ∷ []) xs us (n + 1) (is ∙ sym (append_assoc front (x ∷ []) xs)) longer tail)
  where
    head : u.part ≡ part x
    head = let both : u.part ∷ map (λ (v : WorkUnit). v.part) us ≡ part x ∷ map part xs = along in cc

    tail : map (λ (v : WorkUnit). v.part) us ≡ map part xs
    tail = let both : u.part ∷ map (λ (v : WorkUnit). v.part) us ≡ part x ∷ map part xs = along in cc

    longer : length (front ++ x ∷ []) ≡ n + 1
    longer = length-append front (x ∷ []) ∙ ap (λ k. k + 1) long

    here : slice_get whole n ≡ Some x
    here = ap (λ k. slice_get whole k) (sym long) ∙ ap (λ ys. slice_get ys (length front)) is ∙ get_behind front x xs

    cases : (b c : Bool) → b ≡ c
        → picked_items whole (places_from (n + 1) d us) ≡ filter (λ y. bytes_eq d (dataset_of (part y))) xs
        → picked_items whole (cond b (n ∷ places_from (n + 1) d us) (places_from (n + 1) d us))
        ≡ cond c (x ∷ filter (λ y. bytes_eq d (dataset_of (part y))) xs)
        (filter (λ y. bytes_eq d (dataset_of (part y))) xs)
    cases true true same later =
        ap (λ o. option_to_list o ++ picked_items whole (places_from (n + 1) d us)) here ∙ ap (λ ys. x ∷ ys) later
    cases false false same later = later
    cases true false same later = cc
    cases false true same later = cc

picked_map : {X : Type 0} (js : List X) (t : Table (List ℕ)) → map (λ (e : List ℕ × List X). e.1)
    (map (λ (e : List ℕ × List ℕ). (e.0, picked_items js e.1)) t) ≡ map (picked_items js)
    (map (λ (e : List ℕ × List ℕ). e.1) t)
picked_map js [] = refl
picked_map {X} js (e ∷ es) = ap (λ (xs : List (List X)). picked_items js e.1 ∷ xs) (picked_map js es)

picked_at : {X : Type 0} (js : List X) (t : Table (List ℕ)) (q : List ℕ)
    → at_name (map (λ (e : List ℕ × List ℕ). (e.0, picked_items js e.1)) t) q ≡ option_map (picked_items js)
    (at_name t q)
picked_at js [] q = refl
picked_at {X} js (e ∷ es) q = cases (bytes_eq q e.0) (picked_at js es q)
  where
    cases : (b : Bool)
        → at_name (map (λ (f : List ℕ × List ℕ). (f.0, picked_items js f.1)) es) q ≡ option_map (picked_items js)
        (at_name es q)
        → cond b (Some (picked_items js e.1)) (at_name (map (λ (f : List ℕ × List ℕ). (f.0, picked_items js f.1)) es) q)
        ≡ option_map (picked_items js) (cond b (Some e.1) (at_name es q))
    cases true later = refl
    cases false later = later

picked_names : {X : Type 0} (js : List X) (t : Table (List ℕ))
    → names_of (map (λ (e : List ℕ × List ℕ). (e.0, picked_items js e.1)) t) ≡ names_of t
picked_names js [] = refl
picked_names js (e ∷ es) = ap (λ (ns : List (List ℕ)). e.0 ∷ ns) (picked_names js es)

-- ---- the table of the definitions

in_order : (js : List Judged) → IsInByteOrder (names_of (by_dataset js))
in_order [] = tt
in_order (j ∷ js) =
    rising-with_name (by_dataset js) (dataset_of j.0.part)
    (j ∷ unwrap_or (at_name (by_dataset js) (dataset_of j.0.part)) []) (in_order js)

unwrapped_units : (js : List Judged) → unwrap_or (some_of js) [] ≡ js
unwrapped_units [] = refl
unwrapped_units (j ∷ js) = refl

at_dataset : (js : List Judged) (q : List ℕ) → at_name (by_dataset js) q ≡ some_of (of_dataset q js)
at_dataset [] q = refl
at_dataset (j ∷ js) q =
    let d = dataset_of j.0.part in
    let own : unwrap_or (at_name (by_dataset js) d) [] ≡ of_dataset d js =
    ap (λ (o : Option (List Judged)). unwrap_or o []) (at_dataset js d) ∙ unwrapped_units (of_dataset d js) in
    at-with_name (by_dataset js) d (j ∷ unwrap_or (at_name (by_dataset js) d) []) q
    ∙ cases (bytes_eq q d) refl own (at_dataset js q)
  where
    cases : (b : Bool) → bytes_eq q (dataset_of j.0.part) ≡ b
        → unwrap_or (at_name (by_dataset js) (dataset_of j.0.part)) [] ≡ of_dataset (dataset_of j.0.part) js
        → at_name (by_dataset js) q ≡ some_of (of_dataset q js)
        → cond b (Some (j ∷ unwrap_or (at_name (by_dataset js) (dataset_of j.0.part)) [])) (at_name (by_dataset js) q)
        ≡ some_of (cond b (j ∷ of_dataset q js) (of_dataset q js))
    cases true is own later = ap (λ (ks : List Judged). Some (j ∷ ks))
        (own ∙ ap (λ e. of_dataset e js) (sym (same_name q (dataset_of j.0.part) is)))
    cases false is own later = later

-- a dataset has places where it has units
some_picked : {X : Type 0} (js : List X) (places : List ℕ) (xs : List X) → picked_items js places ≡ xs
    → (places ≡ [] → xs ≡ []) → (xs ≡ [] → places ≡ []) → option_map (picked_items js) (some_of places) ≡ some_of xs
some_picked js [] [] is there back = refl
some_picked {X} js [] (x ∷ xs) is there back = let no : x ∷ xs ≡ [] = there refl in cc
some_picked js (p ∷ ps) [] is there back = let no : p ∷ ps ≡ [] = back refl in cc
some_picked js (p ∷ ps) (x ∷ xs) is there back = ap (λ ys. Some ys) is

places_none : {X : Type 0} (part : X → List ℕ) (d : List ℕ) (back : List X) (units : List WorkUnit) (n : ℕ)
    → map (λ (u : WorkUnit). u.part) units ≡ map part back
    → filter (λ x. bytes_eq d (dataset_of (part x))) back ≡ [] → places_from n d units ≡ []
places_none part d back [] n along none = refl
places_none part d [] (u ∷ us) n along none =
    let no : u.part ∷ map (λ (v : WorkUnit). v.part) us ≡ [] = along in cc
places_none {X} part d (x ∷ xs) (u ∷ us) n along none =
    cases (bytes_eq d (dataset_of u.part)) (bytes_eq d (dataset_of (part x)))
    (ap (λ p. bytes_eq d (dataset_of p)) head) none (λ e. places_none part d xs us (n + 1) tail e)
  where
    head : u.part ≡ part x
    head = let both : u.part ∷ map (λ (v : WorkUnit). v.part) us ≡ part x ∷ map part xs = along in cc

    tail : map (λ (v : WorkUnit). v.part) us ≡ map part xs
    tail = let both : u.part ∷ map (λ (v : WorkUnit). v.part) us ≡ part x ∷ map part xs = along in cc

    rest : List X
    rest = filter (λ y. bytes_eq d (dataset_of (part y))) xs

    cases : (b c : Bool) → b ≡ c → cond c (x ∷ rest) rest ≡ [] → (rest ≡ [] → places_from (n + 1) d us ≡ [])
        → cond b (n ∷ places_from (n + 1) d us) (places_from (n + 1) d us) ≡ []
    cases true true same e later = let no : x ∷ rest ≡ [] = e in cc
    cases false false same e later = later e
    cases true false same e later = cc
    cases false true same e later = cc

some_is : (x ps : List ℕ) → Some x ≡ some_of ps → x ≡ ps
some_is x [] e = let no : Some x ≡ None = e in cc
some_is x (p ∷ ps) e = let both : Some x ≡ Some (p ∷ ps) = e in cc

parts_along : (js : List Judged) → map (λ (u : WorkUnit). u.part) (map (λ (j : Judged). j.0) js)
    ≡ map (λ (j : Judged). j.0.part) js
parts_along [] = refl
parts_along (j ∷ js) = ap (λ (ps : List (List ℕ)). j.0.part ∷ ps) (parts_along js)

pub placed : (units : List WorkUnit) (m : BTreeMap Name Places) → PlacesAre units m
    → ArePlaces units (map (λ (p : Places). p.items) (values m))
unfolding groups_of
placed units m are = record { each = each; all = all }
  where
    t : Table (List ℕ)
    t = table m.entries

    order : IsInByteOrder (names_of (table m.entries))
    order = table_order m.entries are.ordered

    at : (q : List ℕ) → at_name (table m.entries) q ≡ some_of (places_from 0 q units)
    at q = table_at m.entries q ∙ are.at q

    each : (g : List ℕ) → Contains (map (λ (p : Places). p.items) (values m)) g
        → (d : List ℕ) × (g ≡ places_from 0 d units)
    each g h =
        let found = in_map (λ (e : List ℕ × List ℕ). e.1) t g
        (subst (λ (gs : List (List ℕ)). Contains gs g) (sym (table_values m.entries)) h) in
        let there = at_from_member t found.0.0 found.0.1 order found.1 in
        (found.0.0, sym found.2 ∙ some_is found.0.1 (places_from 0 found.0.0 units) (sym there ∙ at found.0.0))

    all : (js : List Judged) → map (λ (j : Judged). j.0) js ≡ units
        → map (picked_items js) (map (λ (p : Places). p.items) (values m)) ≡ map (λ (e : List ℕ × List Judged). e.1)
        (by_dataset js)
    all js e =
        let along : map (λ (u : WorkUnit). u.part) units ≡ map (λ (j : Judged). j.0.part) js =
        ap (map (λ (u : WorkUnit). u.part)) (sym e) ∙ parts_along js in
        let picks : (q : List ℕ) → picked_items js (places_from 0 q units) ≡ of_dataset q js =
        λ q. picked_are (λ (j : Judged). j.0.part) q js [] js units 0 refl refl along in
        ap (map (picked_items js)) (sym (table_values m.entries))
        ∙ sym (picked_map js t)
        ∙ ap (map (λ (f : List ℕ × List Judged). f.1))
        (same_tables (map (λ (f : List ℕ × List ℕ). (f.0, picked_items js f.1)) t) (by_dataset js)
        (subst IsInByteOrder (sym (picked_names js t)) order) (in_order js)
        (λ q. picked_at js t q ∙ ap (option_map (picked_items js)) (at q)
        ∙ some_picked js (places_from 0 q units) (of_dataset q js) (picks q)
        (λ none. sym (picks q) ∙ ap (picked_items js) none)
        (λ none. places_none (λ (j : Judged). j.0.part) q js units 0 along none)
        ∙ sym (at_dataset js q)))
