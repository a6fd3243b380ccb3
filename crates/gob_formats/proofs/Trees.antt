-- What the code reads of a tree is what serde_json reads.
use Rattle.std.proofs.Common.{◌≡◌, ℕ, Bool, true, false, cond, List, [], ◌∷◌, Some, None, Option, refl, sym, ap, ◌∙◌}
use Rattle.std.proofs.Common.{subst, is_some, length, ◌==◌, arith}
use Rattle.std.specs.Prelude.{◌&&◌}
use Rattle.std.specs.Option.{option_map, option_and_then}
use Rattle.std.specs.Str.{bytes_eq, is_utf8}
use Rattle.std.specs.Cmp.Lexicographic.{bytes_decides}
use Rattle.std.proofs.lemmas.Bool.{eqb-true}
use Rattle.json.specs.Json as json
use Rattle.json.specs.Find as find
use Rattle.serde_json.specs.Data as serde
use Rattle.serde_json.specs.Data.{Data, Members}
use Rattle.serde_json.specs.Read.{of_json, of_items, of_members, number_of, read}
use Rattle.serde_json.specs.Find.{as_i64, as_object, get_member}
use Rattle.serde_json.proofs.Views.{get_member-put, get_member-put_other}
use Rattle.gob_plan.specs.declared.rows.Kind.{Kind}
use Rattle.gob_plan.specs.declared.rows.Kind.TheVariants as kind
use Rattle.gob_plan.specs.declared.rows.Value.{Value}
use Rattle.gob_plan.specs.declared.rows.Value.TheVariants as value
use Rattle.gob_plan.specs.declared.rows.Column.{Column}
use Rattle.gob_meaning.specs.Formats.{row_of, value_before, member_value, member_or_null, member_values, json_line_rows}
use Rattle.gob_formats.specs.Objects.{tree_of, finite, items_finite, members_finite, value_of_json, member_found}
use Rattle.gob_formats.specs.Objects.{tree_values, object_values}

-- ---- a tree is read where its numbers are finite

map_some : {A B : Type 0} (f : A → B) (o : Option A) → is_some (option_map f o) ≡ is_some o
map_some f None = refl
map_some f (Some a) = refl

then_some : {A B : Type 0} (f : A → Option B) (b : Bool) (o : Option A) → ((a : A) → is_some (f a) ≡ b)
    → is_some (option_and_then f o) ≡ (is_some o && b)
then_some f b None each = refl
then_some f b (Some a) each = each a

mutual
  pub finite_reads : (j : json.Json) → is_some (of_json j) ≡ finite j
  finite_reads json.null = refl
  finite_reads (json.boolean b) = refl
  finite_reads (json.number s) = map_some serde.number (number_of s)
  finite_reads (json.string s) = refl
  finite_reads (json.array js) = map_some serde.array (of_items js) ∙ items_read js
  finite_reads (json.object ms) = map_some serde.object (of_members ms serde.no_members)
      ∙ members_read ms serde.no_members

  items_read : (js : json.Items) → is_some (of_items js) ≡ items_finite js
  items_read json.no_items = refl
  items_read (json.item j js) =
      then_some (λ d. option_map (serde.item d) (of_items js)) (items_finite js) (of_json j)
      (λ d. map_some (serde.item d) (of_items js) ∙ items_read js)
      ∙ ap (λ x. x && items_finite js) (finite_reads j)

  members_read : (ms : json.Members) (old : Members) → is_some (of_members ms old) ≡ members_finite ms
  members_read json.no_members old = refl
  members_read (json.member k j ms) old =
      then_some (λ d. of_members ms (serde.put k d old)) (members_finite ms) (of_json j)
      (λ d. members_read ms (serde.put k d old))
      ∙ ap (λ x. x && members_finite ms) (finite_reads j)

-- ---- look-ups

-- a name is found in the tree and in what it is read as, or is found in what was there before
abbrev pub Looks : Option json.Json → Option Data → Option Data → Type 0
Looks None before after = after ≡ before
Looks (Some j) before after = (d : Data) × (of_json j ≡ Some d) × (after ≡ Some d)

looks_later : (later : Option json.Json) (same : Bool) (k name : List ℕ) (j : json.Json) (d : Data) (old : Members)
    (after : Option Data) → bytes_eq k name ≡ same → of_json j ≡ Some d
    → Looks later (get_member name (serde.put k d old)) after
    → Looks (find.later_or later (cond same (Some j) None)) (get_member name old) after
looks_later (Some l) same k name j d old after is reads found = found
looks_later None true k name j d old after is reads found =
    let alike : k ≡ name = (bytes_decides k name).0 is in
    (d, reads, found ∙ ap (λ n. get_member n (serde.put k d old)) (sym alike) ∙ get_member-put k d old)
looks_later None false k name j d old after is reads found =
    found ∙ get_member-put_other name k d old (λ alike. apart alike)
  where
    apart : name ≡ k → ⊥
    apart alike = let yes : bytes_eq k name ≡ true = (bytes_decides k name).1 (sym alike) in cc

looks_at : (k : List ℕ) (j : json.Json) (ms : json.Members) (old ds : Members) (name : List ℕ)
    → ((d : Data) → of_members ms (serde.put k d old) ≡ Some ds
    → Looks (find.get_member name ms) (get_member name (serde.put k d old)) (get_member name ds))
    → (o : Option Data) → of_json j ≡ o → of_members (json.member k j ms) old ≡ Some ds
    → Looks (find.get_member name (json.member k j ms)) (get_member name old) (get_member name ds)
looks_at k j ms old ds name rest None is reads =
    let none : of_members (json.member k j ms) old ≡ None = rw is refl in cc
looks_at k j ms old ds name rest (Some d) is reads =
    let whole : of_members (json.member k j ms) old ≡ of_members ms (serde.put k d old) = rw is refl in
    looks_later (find.get_member name ms) (bytes_eq k name) k name j d old (get_member name ds) refl is
    (rest d (sym whole ∙ reads))

looks : (ms : json.Members) (old ds : Members) (name : List ℕ) → of_members ms old ≡ Some ds
    → Looks (find.get_member name ms) (get_member name old) (get_member name ds)
looks json.no_members old ds name reads = let same : old ≡ ds = cc in ap (get_member name) (sym same)
looks (json.member k j ms) old ds name reads =
    looks_at k j ms old ds name (λ d. looks ms (serde.put k d old) ds name) (of_json j) refl reads

-- ---- values

abbrev Fits : Kind → json.Json → Option Data → Type 0
Fits k j None = Unit {0}
Fits k j (Some d) = value_of_json k j ≡ member_value k d

fits_number : (k : Kind) (s : List ℕ) (o : Option serde.Num) → number_of s ≡ o
    → Fits k (json.number s) (option_map serde.number o)
fits_number k s None is = tt
fits_number kind.Bool s (Some n) is = refl
fits_number kind.Int s (Some n) is = ap (λ o. option_map value.Int (option_and_then as_i64 o)) is
fits_number kind.Text s (Some n) is = refl

fits_array : (k : Kind) (js : json.Items) (o : Option serde.Items) → Fits k (json.array js) (option_map serde.array o)
fits_array k js None = tt
fits_array kind.Bool js (Some ds) = refl
fits_array kind.Int js (Some ds) = refl
fits_array kind.Text js (Some ds) = refl

fits_object : (k : Kind) (ms : json.Members) (o : Option Members)
    → Fits k (json.object ms) (option_map serde.object o)
fits_object k ms None = tt
fits_object kind.Bool ms (Some ds) = refl
fits_object kind.Int ms (Some ds) = refl
fits_object kind.Text ms (Some ds) = refl

fits : (k : Kind) (j : json.Json) → Fits k j (of_json j)
fits k json.null = refl
fits kind.Bool (json.boolean b) = refl
fits kind.Int (json.boolean b) = refl
fits kind.Text (json.boolean b) = refl
fits k (json.number s) = fits_number k s (number_of s) refl
fits kind.Bool (json.string s) = refl
fits kind.Int (json.string s) = refl
fits kind.Text (json.string s) = refl
fits k (json.array js) = fits_array k js (of_items js)
fits k (json.object ms) = fits_object k ms (of_members ms serde.no_members)

value_is : (k : Kind) (j : json.Json) (d : Data) → of_json j ≡ Some d → value_of_json k j ≡ member_value k d
value_is k j d reads = subst (Fits k j) reads (fits k j)

member_is : (k : Kind) (found : Option json.Json) (after : Option Data) → Looks found None after
    → member_found k found ≡ member_or_null k after
member_is k None after same = ap (member_or_null k) (sym same)
member_is k (Some j) after found = value_is k j found.0 found.1 ∙ ap (member_or_null k) (sym found.2)

-- ---- the values of columns

object_step : (c : Column) (cs : List Column) (ms : json.Members) (o : Option Members)
    → of_members ms serde.no_members ≡ o → is_some o ≡ true
    → tree_values (c ∷ cs) (json.object ms)
    ≡ value_before (member_found c.kind (find.get_member c.name ms)) (tree_values cs (json.object ms))
object_step c cs ms None is reads = cc
object_step c cs ms (Some ds) is reads =
    let member = member_is c.kind (find.get_member c.name ms) (get_member c.name ds)
    (looks ms serde.no_members ds c.name is) in
    rw (is, member) refl

-- the first column's value, and those of the others
pub tree_step : (c : Column) (cs : List Column) (j : json.Json) → is_some (find.as_object j) ≡ true → finite j ≡ true
    → tree_values (c ∷ cs) j ≡ value_before (member_found c.kind (find.get c.name j)) (tree_values cs j)
tree_step c cs json.null object fine = cc
tree_step c cs (json.boolean b) object fine = cc
tree_step c cs (json.number s) object fine = cc
tree_step c cs (json.string s) object fine = cc
tree_step c cs (json.array js) object fine = cc
tree_step c cs (json.object ms) object fine =
    object_step c cs ms (of_members ms serde.no_members) refl (members_read ms serde.no_members ∙ fine)

object_none : (ms : json.Members) (o : Option Members) → of_members ms serde.no_members ≡ o → is_some o ≡ true
    → tree_values [] (json.object ms) ≡ Some []
object_none ms None is reads = cc
object_none ms (Some ds) is reads = rw is refl

-- no column has no value
pub tree_none : (j : json.Json) → is_some (find.as_object j) ≡ true → finite j ≡ true → tree_values [] j ≡ Some []
tree_none json.null object fine = cc
tree_none (json.boolean b) object fine = cc
tree_none (json.number s) object fine = cc
tree_none (json.string s) object fine = cc
tree_none (json.array js) object fine = cc
tree_none (json.object ms) object fine =
    object_none ms (of_members ms serde.no_members) refl (members_read ms serde.no_members ∙ fine)

no_object : {A : Type 0} (columns : List Column) (f : A → Data) (o : Option A) → ((a : A) → as_object (f a) ≡ None)
    → option_and_then (member_values columns) (option_and_then as_object (option_map f o)) ≡ None
no_object columns f None other = refl
no_object columns f (Some a) other = ap (option_and_then (member_values columns)) (other a)

-- another value than an object is bad
pub tree_other : (columns : List Column) (j : json.Json) → is_some (find.as_object j) ≡ false
    → tree_values columns j ≡ None
tree_other columns json.null other = refl
tree_other columns (json.boolean b) other = refl
tree_other columns (json.number s) other = no_object columns serde.number (number_of s) (λ n. refl)
tree_other columns (json.string s) other = refl
tree_other columns (json.array js) other = no_object columns serde.array (of_items js) (λ ds. refl)
tree_other columns (json.object ms) other = cc

some_not : {A : Type 0} (o : Option A) → is_some o ≡ false → o ≡ None
some_not None none = refl
some_not (Some a) none = cc

-- a number that is too large is bad
pub tree_too_large : (columns : List Column) (j : json.Json) → finite j ≡ false → tree_values columns j ≡ None
tree_too_large columns j large =
    ap (λ o. option_and_then (member_values columns) (option_and_then as_object o))
    (some_not (of_json j) (finite_reads j ∙ large))

-- ---- the line

read_is : (text : List ℕ) → read text ≡ option_and_then of_json (tree_of text)
read_is text = refl

pub line_read : (columns : List Column) (line : List ℕ) (j : json.Json) → is_utf8 line ≡ true → tree_of line ≡ Some j
    → object_values columns line ≡ tree_values columns j
line_read columns line j text tree =
    ap (λ b. cond b (option_and_then (member_values columns) (option_and_then as_object (read line))) None) text
    ∙ ap (λ o. option_and_then (member_values columns) (option_and_then as_object o))
    (read_is line ∙ ap (option_and_then of_json) tree)

pub line_refused : (columns : List Column) (line : List ℕ) → tree_of line ≡ None → object_values columns line ≡ None
line_refused columns line refused =
    ap (λ o. cond (is_utf8 line) (option_and_then (member_values columns) (option_and_then as_object o)) None)
    (read_is line ∙ ap (option_and_then of_json) refused) ∙ either (is_utf8 line)
  where
    either : (b : Bool) → cond {A = Option (List Value)} b None None ≡ None
    either true = refl
    either false = refl

pub line_not_text : (columns : List Column) (line : List ℕ) → is_utf8 line ≡ false → object_values columns line ≡ None
line_not_text columns line other =
    ap (λ b. cond b (option_and_then (member_values columns) (option_and_then as_object (read line))) None) other

row_or_bad : (b : Bool) (o : Option (List Value)) → cond b (row_of o) None ≡ row_of (cond b o None)
row_or_bad true o = refl
row_or_bad false o = refl

-- a line that isn't empty is one row
pub line_row : (columns : List Column) (b : ℕ) (bs : List ℕ)
    → json_line_rows columns (b ∷ bs) ≡ row_of (object_values columns (b ∷ bs))
line_row columns b bs =
    row_or_bad (is_utf8 (b ∷ bs))
    (option_and_then (member_values columns) (option_and_then as_object (read (b ∷ bs))))

pub some_line : (columns : List Column) (line : List ℕ) → (length line == 0) ≡ false
    → json_line_rows columns line ≡ row_of (object_values columns line)
some_line columns [] some = cc
some_line columns (b ∷ bs) some = line_row columns b bs

pub empty_line : (columns : List Column) (line : List ℕ) → (length line == 0) ≡ true
    → json_line_rows columns line ≡ Some []
empty_line columns [] none = refl
empty_line columns (b ∷ bs) none =
    let nothing : length (b ∷ bs) ≡ 0 = eqb-true (length (b ∷ bs)) 0 none in
    absurd (omega arith)
