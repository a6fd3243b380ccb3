-- The members of a record with their texts spell the object of its values.
use Rattle.std.proofs.Common.{◌≡◌, ℕ, ◌+◌, ◌-◌, ◌<◌, ◌≤◌, ◌==◌, List, [], ◌∷◌, ◌++◌, length, drop, take, set, map, suc}
use Rattle.std.proofs.Common.{get_or, Bool, true, false, refl, sym, ap, ◌∙◌, arith, append_assoc, Ordering}
use Rattle.std.proofs.lemmas.Bool.{eqb-true, false_from_ne_true, or_parts}
use Rattle.std.proofs.lemmas.List.{drop_more, set_split, map-append}
use Rattle.std.specs.Prelude.{nat_lt, ◌||◌, ◌&&◌}
use Rattle.std.specs.Ordering.{nat_cmp, match_ordering}
use Rattle.std.specs.declared.cmp.Ordering.TheVariants.{Less, Equal, Greater}
use Rattle.std.specs.Cmp.Lexicographic.{slice_cmp}
use Rattle.json.specs.Print.{quoted, escape, escape_byte}
use Rattle.serde_json.specs.Data as json
use Rattle.serde_json.specs.Data.{Data, Members}
use Rattle.serde_json.specs.Written.{comma_if, compact_text, members_text}
use Rattle.gob_plan.specs.declared.rows.Value.{Value}
use Rattle.gob_plan.specs.declared.rows.Value.TheVariants as value
use Rattle.gob_plan.specs.declared.rows.Column.{Column}
use Rattle.gob_plan.specs.declared.rows.Row.{Row}
use Rattle.gob_plan.specs.Rows.{values_conform, may_stand, conforms}
use Rattle.gob_meaning.specs.Formats.{value_data, members_of, json_record}
use Rattle.gob_formats.specs.Escapes.{is_escaped, needs_escape}
use Rattle.gob_formats.specs.declared.json_write.Member.{Member}
use Rattle.gob_formats.specs.declared.json_write.Place.{Place}
use Rattle.gob_formats.specs.Members.{Named, named_place, put_name, names_from, key_text, keyed_members, column_value}
use Rattle.gob_formats.specs.Members.{members_at}
use Rattle.gob_formats.specs.Members.{members_written}

-- ---- the members in order

put_name_at : (o : Ordering) (k : List ℕ) (i : ℕ) (n : Named) (ns : List Named) (values : List Value)
    → members_at (put_name k i ns) values ≡ json.put k (value_data (column_value i values)) (members_at ns values)
    → members_at (match_ordering o (record { name = k; index = i } ∷ n ∷ ns) (record { name = n.name; index = i } ∷ ns)
    (n ∷ put_name k i ns)) values
    ≡ match_ordering o
    (json.member k (value_data (column_value i values))
    (json.member n.name (value_data (column_value n.index values)) (members_at ns values)))
    (json.member n.name (value_data (column_value i values)) (members_at ns values))
    (json.member n.name (value_data (column_value n.index values))
    (json.put k (value_data (column_value i values)) (members_at ns values)))
put_name_at Less k i n ns values later = refl
put_name_at Equal k i n ns values later = refl
put_name_at Greater k i n ns values later = ap (json.member n.name (value_data (column_value n.index values))) later

-- a name goes to the place where its member goes
put_name_put : (k : List ℕ) (i : ℕ) (ns : List Named) (values : List Value)
    → members_at (put_name k i ns) values ≡ json.put k (value_data (column_value i values)) (members_at ns values)
put_name_put k i [] values = refl
put_name_put k i (n ∷ ns) values =
    put_name_at (slice_cmp nat_cmp k n.name) k i n ns values (put_name_put k i ns values)

members_of_names : (first : ℕ) (columns : List Column) (values : List Value) → first + length columns ≡ length values
    → members_of columns (drop first values) ≡ members_at (names_from first columns) values
members_of_names first [] values as_many = refl
members_of_names first (c ∷ cs) values as_many =
    let within : first < length values = omega arith in
    let here : drop first values ≡ column_value first values ∷ drop (first + 1) values =
    drop_more values first value.Null within in
    let fewer : first + 1 + length cs ≡ length values = omega arith in
    ap (members_of (c ∷ cs)) here
    ∙ ap (json.put c.name (value_data (column_value first values))) (members_of_names (first + 1) cs values fewer)
    ∙ sym (put_name_put c.name first (names_from (first + 1) cs) values)

-- ---- their texts

regroup : (a q t m e : List ℕ) → (a ++ (q ++ 58 ∷ [])) ++ (t ++ (m ++ e)) ≡ (a ++ (q ++ 58 ∷ (t ++ m))) ++ e
regroup a q t m e = simp append_assoc

members_spelled : (later : Bool) (ns : List Named) (values : List Value)
    → members_written (keyed_members later ns) values ≡ members_text later (members_at ns values) ++ 10 ∷ []
members_spelled later [] values = refl
members_spelled later (n ∷ ns) values =
    let text = compact_text (value_data (column_value n.index values)) in
    ap (λ l. key_text later n.name ++ (text ++ l)) (members_spelled true ns values)
    ∙ regroup (comma_if later) (quoted n.name) text (members_text true (members_at ns values)) (10 ∷ [])

pub record_spelled : (columns : List Column) (values : List Value) → length columns ≡ length values
    → 123 ∷ members_written (keyed_members false (names_from 0 columns)) values ≡ json_record columns values
record_spelled columns values as_many =
    ap (λ l. 123 ∷ l) (members_spelled false (names_from 0 columns) values)
    ∙ ap (λ ms. (123 ∷ members_text false ms) ++ 10 ∷ []) (sym (members_of_names 0 columns values (omega arith)))

-- a row that conforms has a value for each column
conform_length : (columns : List Column) (values : List Value) → values_conform columns values ≡ true
    → length columns ≡ length values
conform_length [] [] conform = refl
conform_length [] (v ∷ vs) conform = cc conform
conform_length (c ∷ cs) [] conform = cc conform
conform_length (c ∷ cs) (v ∷ vs) conform =
    let rest = conform_length cs vs (right_true (may_stand c.kind v) (values_conform cs vs) conform) in omega arith
  where
    right_true : (a b : Bool) → (a && b) ≡ true → b ≡ true
    right_true true b both = both
    right_true false b both = cc both

pub as_many_values : (columns : List Column) (row : Row) → conforms columns row ≡ true
    → length columns ≡ length row.values
unfolding conforms
as_many_values columns row conform = conform_length columns row.values conform

-- ---- the members as they are made

-- the column before
pub names_back : (i : ℕ) (columns : List Column) (c : Column) → 0 < i → i ≤ length columns
    → c ≡ get_or columns (i - 1) c
    → names_from (i - 1) (drop (i - 1) columns) ≡ put_name c.name (i - 1) (names_from i (drop i columns))
names_back i columns c some within is =
    let before : i - 1 < length columns = omega arith in
    let back : i - 1 + 1 ≡ i = omega arith in
    let here : drop (i - 1) columns ≡ c ∷ drop (i - 1 + 1) columns =
    drop_more columns (i - 1) c before ∙ ap (λ y. y ∷ drop (i - 1 + 1) columns) (sym is) in
    ap (names_from (i - 1)) here
    ∙ ap (λ n. put_name c.name (i - 1) (names_from n (drop n columns))) back

pub members_split : (m : Member) (ms : List Member) (values : List Value)
    → members_written (m ∷ ms) values
    ≡ (m.key ++ compact_text (value_data (column_value m.index values))) ++ members_written ms values
members_split m ms values =
    sym (append_assoc m.key (compact_text (value_data (column_value m.index values))) (members_written ms values))

-- ---- a name among those that are there

put_here : (o : Ordering) (k : List ℕ) (i : ℕ) (n : Named) (ns : List Named) → slice_cmp nat_cmp k n.name ≡ o
    → put_name k i (n ∷ ns)
    ≡ match_ordering o (record { name = k; index = i } ∷ n ∷ ns) (record { name = n.name; index = i } ∷ ns)
    (n ∷ put_name k i ns)
put_here o k i n ns is =
    ap (λ x. match_ordering x (record { name = k; index = i } ∷ n ∷ ns) (record { name = n.name; index = i } ∷ ns)
    (n ∷ put_name k i ns)) is

pub put_less : (k : List ℕ) (i : ℕ) (n : Named) (ns : List Named) → slice_cmp nat_cmp k n.name ≡ Less
    → put_name k i (n ∷ ns) ≡ record { name = k; index = i } ∷ n ∷ ns
put_less k i n ns is = put_here Less k i n ns is

pub put_equal : (k : List ℕ) (i : ℕ) (n : Named) (ns : List Named) → slice_cmp nat_cmp k n.name ≡ Equal
    → put_name k i (n ∷ ns) ≡ record { name = n.name; index = i } ∷ ns
put_equal k i n ns is = put_here Equal k i n ns is

pub put_greater : (k : List ℕ) (i : ℕ) (n : Named) (ns : List Named) → slice_cmp nat_cmp k n.name ≡ Greater
    → put_name k i (n ∷ ns) ≡ n ∷ put_name k i ns
put_greater k i n ns is = put_here Greater k i n ns is

-- a name that is there gets the new column
pub put_at_equal : (ps : List Place) (at : ℕ) (p p' : Place) (name : List ℕ) (index : ℕ) (whole : List Named)
    → at < length ps → p ≡ get_or ps at p → slice_cmp nat_cmp name p.name.now ≡ Equal
    → named_place p' ≡ record { name = p.name.now; index = index }
    → map named_place (take at ps) ++ put_name name index (map named_place (drop at ps)) ≡ whole
    → map named_place (set ps at p') ≡ whole
put_at_equal ps at p p' name index whole within is same becomes so_far =
    let rest = drop (at + 1) ps in
    let here : drop at ps ≡ p ∷ rest = drop_more ps at p within ∙ ap (λ y. y ∷ rest) (sym is) in
    let next : suc at ≡ at + 1 = omega arith in
    ap (map named_place) (set_split ps at p' within)
    ∙ map-append named_place (take at ps) (p' ∷ drop (suc at) ps)
    ∙ ap (λ n. map named_place (take at ps) ++ named_place p' ∷ map named_place (drop n ps)) next
    ∙ ap (λ (q : Named). map named_place (take at ps) ++ q ∷ map named_place rest) becomes
    ∙ ap (λ l. map named_place (take at ps) ++ l) (sym (put_equal name index (named_place p)
    (map named_place rest) same))
    ∙ ap (λ ds. map named_place (take at ps) ++ put_name name index (map named_place ds)) (sym here)
    ∙ so_far

-- ---- texts without escapes

other_byte : (x k : ℕ) → nat_lt k 32 ≡ true → nat_lt x 32 ≡ false → (x == k) ≡ false
other_byte x k small big = false_from_ne_true (x == k) (λ t.
    let same : x ≡ k = eqb-true x k t in
    let less : nat_lt x 32 ≡ true = ap (λ n. nat_lt n 32) same ∙ small in
    cc)

plain_byte : (x : ℕ) → is_escaped x ≡ false → escape_byte x ≡ x ∷ []
unfolding escape_byte
plain_byte x plain =
    let quote : (x == 34) ≡ false =
    (or_parts (x == 34) (x == 92) (or_parts ((x == 34) || (x == 92)) (nat_lt x 32) plain).0).0 in
    let backslash : (x == 92) ≡ false =
    (or_parts (x == 34) (x == 92) (or_parts ((x == 34) || (x == 92)) (nat_lt x 32) plain).0).1 in
    let big : nat_lt x 32 ≡ false = (or_parts ((x == 34) || (x == 92)) (nat_lt x 32) plain).1 in
    rw (
      quote,
      backslash,
      other_byte x 8 refl big,
      other_byte x 12 refl big,
      other_byte x 10 refl big,
      other_byte x 13 refl big,
      other_byte x 9 refl big,
      big,
    ) refl

pub plain_escape : (text : List ℕ) → needs_escape text ≡ false → escape text ≡ text
plain_escape [] plain = refl
plain_escape (x ∷ xs) plain =
    ap (λ l. l ++ escape xs) (plain_byte x (or_parts (is_escaped x) (needs_escape xs) plain).0)
    ∙ ap (λ l. x ∷ l) (plain_escape xs (or_parts (is_escaped x) (needs_escape xs) plain).1)
