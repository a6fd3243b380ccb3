-- What formats make of lines and rows.
use Rattle.std.proofs.Common.{◌≡◌, ℕ, Bool, true, false, cond, nat_eq, List, [], ◌∷◌, ◌++◌, map, codes, option_and_then}
use Rattle.std.proofs.Common.{Some, None, Option, refl, sym, subst, append_assoc}
use Rattle.std.specs.List.{list_any, list_all}
use Rattle.std.specs.Option.{option_map, is_none}
use Rattle.std.specs.Str.{bytes_eq, is_utf8}
use Rattle.std.proofs.lemmas.Bool.{cond_both, and_parts, and_from, true≢false}
use Rattle.gob_convert.specs.Made.{all_made}
use Rattle.gob_plan.specs.declared.rows.Kind.{Kind}
use Rattle.gob_plan.specs.declared.rows.Kind.TheVariants as kind
use Rattle.gob_plan.specs.declared.rows.Value.{Value}
use Rattle.gob_plan.specs.declared.rows.Value.TheVariants as value
use Rattle.gob_plan.specs.declared.rows.Column.{Column}
use Rattle.gob_plan.specs.declared.rows.Row.{Row}
use Rattle.gob_plan.specs.declared.steps.Refusal.{Refusal}
use Rattle.gob_plan.specs.Rows.{is_text, may_stand, values_conform, conforms}
use Rattle.gob_meaning.specs.Values.{value_text, value_read}
use Rattle.gob_bytes.specs.Lines.{ends_in_lf}
use Rattle.csv.specs.Reading.{default_config, strip_bom, records}
use Rattle.csv.specs.Writing.{default_writer, row_body, is_blank}
use Rattle.serde_json.specs.Data as json
use Rattle.serde_json.specs.Read.{read}
use Rattle.serde_json.specs.Find.{as_i64, as_object, get_member}
use Rattle.serde_json.specs.Written.{compact_text}
use Rattle.gob_convert.specs.Fitting.{all_made-each}
use Rattle.gob_plan.specs.declared.plan.Format.{Format}
use Rattle.gob_plan.specs.declared.plan.Format.TheVariants as format
use Rattle.gob_meaning.specs.Plans.{lines_refusal, writes_columns}
use Rattle.gob_meaning.specs.Formats.{row_of, value_before, text_line_rows, text_record, field_value, field_values}
use Rattle.gob_meaning.specs.Formats.{csv_record, member_value, member_or_null, member_values, members_of, json_record}
use Rattle.gob_meaning.specs.Formats.{line_rows, record_of}
use Rattle.gob_meaning.specs.Laws.{FormatKeeps}
use Rattle.gob_meaning.proofs.StepRows.{int_stands, read_stands, text_kind, one_conforms}
use Rattle.gob_meaning.specs.Plans.{are_line}
use Rattle.gob_meaning.specs.Laws.{ReadIsWritten}

-- what is read, where it is read, may stand in its column
abbrev stands : Kind → Option Value → Bool
stands k None = true
stands k (Some v) = may_stand k v

abbrev all_stand : List Column → Option (List Value) → Bool
all_stand cs None = true
all_stand cs (Some vs) = values_conform cs vs

before_stands : (c : Column) (cs : List Column) (o : Option Value) (os : Option (List Value)) → stands c.kind o ≡ true
    → all_stand cs os ≡ true → all_stand (c ∷ cs) (value_before o os) ≡ true
before_stands c cs None os here there = refl
before_stands c cs (Some v) None here there = refl
before_stands c cs (Some v) (Some vs) here there = and_from (may_stand c.kind v) (values_conform cs vs) here there

row_stands : (cs : List Column) (o : Option (List Value)) → all_stand cs o ≡ true → all_made (conforms cs) (row_of o)
    ≡ true
row_stands cs None fits = refl
row_stands cs (Some vs) fits = one_conforms cs vs fits

option_stands : (k : Kind) (o : Option Value) → ((w : Value) → o ≡ Some w → may_stand k w ≡ true) → stands k o ≡ true
option_stands k None all = refl
option_stands k (Some w) all = all w refl

field_stands : (k : Kind) (f : List ℕ) → stands k (field_value k f) ≡ true
field_stands kind.Text f = refl
field_stands kind.Bool [] = refl
field_stands kind.Int [] = refl
field_stands kind.Bool (b ∷ bs) = option_stands kind.Bool (value_read kind.Bool (b ∷ bs))
    (read_stands kind.Bool (b ∷ bs))
field_stands kind.Int (b ∷ bs) = option_stands kind.Int (value_read kind.Int (b ∷ bs)) (read_stands kind.Int (b ∷ bs))

fields_stand : (cs : List Column) (fs : List (List ℕ)) → all_stand cs (field_values cs fs) ≡ true
fields_stand [] [] = refl
fields_stand [] (f ∷ fs) = refl
fields_stand (c ∷ cs) [] = refl
fields_stand (c ∷ cs) (f ∷ fs) =
    before_stands c cs (cond (is_utf8 f) (field_value c.kind f) None) (field_values cs fs)
    (cond_both (is_utf8 f) (field_value c.kind f) None (λ o. stands c.kind o ≡ true) (λ _. field_stands c.kind f)
    (λ _. refl))
    (fields_stand cs fs)

member_stands : (k : Kind) (d : json.Data) → stands k (member_value k d) ≡ true
member_stands k json.null = refl
member_stands kind.Bool (json.boolean b) = refl
member_stands kind.Int (json.boolean b) = refl
member_stands kind.Text (json.boolean b) = refl
member_stands kind.Bool (json.number n) = refl
member_stands kind.Int (json.number n) = option_stands kind.Int (option_map value.Int (as_i64 n))
    (int_stands (as_i64 n))
member_stands kind.Text (json.number n) = refl
member_stands kind.Bool (json.string t) = refl
member_stands kind.Int (json.string t) = refl
member_stands kind.Text (json.string t) = refl
member_stands kind.Bool (json.array ds) = refl
member_stands kind.Int (json.array ds) = refl
member_stands kind.Text (json.array ds) = refl
member_stands kind.Bool (json.object ms) = refl
member_stands kind.Int (json.object ms) = refl
member_stands kind.Text (json.object ms) = refl

null_stands : (k : Kind) (o : Option json.Data) → stands k (member_or_null k o) ≡ true
null_stands k None = refl
null_stands k (Some d) = member_stands k d

members_stand : (cs : List Column) (ms : json.Members) → all_stand cs (member_values cs ms) ≡ true
members_stand [] ms = refl
members_stand (c ∷ cs) ms = before_stands c cs (member_or_null c.kind (get_member c.name ms)) (member_values cs ms)
    (null_stands c.kind (get_member c.name ms)) (members_stand cs ms)

object_stands : (cs : List Column) (o : Option json.Members) → all_stand cs (option_and_then (member_values cs) o)
    ≡ true
object_stands cs None = refl
object_stands cs (Some ms) = members_stand cs ms

-- a refusal by a condition, where there is none
unless_some : (t : Bool) (why : Refusal) → is_none (cond t None (Some why)) ≡ true → t ≡ true
unless_some true why none = refl
unless_some false why none = none

lines_conform : (columns : List Column) (line : List ℕ) → is_none (lines_refusal columns) ≡ true
    → all_made (conforms columns) (text_line_rows line) ≡ true
lines_conform [] line reads = absurd (true≢false (sym reads))
lines_conform (c ∷ []) line reads =
    let text = text_kind c.kind (unless_some (is_text c.kind) (Refusal.BadKind c.name) reads) in
    row_stands (c ∷ []) (cond (is_utf8 line) (Some (value.Text line ∷ [])) None)
    (cond_both (is_utf8 line) (Some (value.Text line ∷ [])) None (λ o. all_stand (c ∷ []) o ≡ true)
    (λ _. rw text refl) (λ _. refl))
lines_conform (c ∷ d ∷ cs) line reads = absurd (true≢false (sym reads))

all_pass : (xs : List (List (List ℕ))) → list_all (λ x. true) xs ≡ true
all_pass [] = refl
all_pass (x ∷ xs) = all_pass xs

rows_conform : (f : Format) (columns : List Column) (line : List ℕ) → writes_columns f columns ≡ true
    → all_made (conforms columns) (line_rows f columns line) ≡ true
unfolding line_rows
rows_conform format.Lines columns line reads = lines_conform columns line reads
rows_conform format.Csv columns line reads =
    all_made-each (λ fields. true) (conforms columns) (λ fields. row_of (field_values columns fields))
    (λ fields _. row_stands columns (field_values columns fields) (fields_stand columns fields))
    (records default_config (strip_bom line)) (all_pass (records default_config (strip_bom line)))
rows_conform format.Json columns [] reads = refl
rows_conform format.Json columns (b ∷ bs) reads =
    cond_both (is_utf8 (b ∷ bs)) (row_of (option_and_then (member_values columns)
    (option_and_then as_object (read (b ∷ bs))))) None (λ o. all_made (conforms columns) o ≡ true)
    (λ _. row_stands columns (option_and_then (member_values columns) (option_and_then as_object (read (b ∷ bs))))
    (object_stands columns (option_and_then as_object (read (b ∷ bs)))))
    (λ _. refl)

ends-push : (x : List ℕ) → ends_in_lf (x ++ 10 ∷ []) ≡ true
ends-push [] = refl
ends-push (a ∷ []) = refl
ends-push (a ∷ b ∷ x) = ends-push (b ∷ x)

lines_end : (values : List Value) (bytes : List ℕ) → text_record values ≡ Some bytes → ends_in_lf bytes ≡ true
lines_end [] bytes told = cc
lines_end (value.Null ∷ []) bytes told = cc
lines_end (value.Bool b ∷ []) bytes told = cc
lines_end (value.Int n ∷ []) bytes told = cc
lines_end (value.Text t ∷ []) bytes told =
    cond_both (list_any (λ b. nat_eq b 10) t) None (Some (t ++ 10 ∷ [])) (λ o. o ≡ Some bytes → ends_in_lf bytes ≡ true)
    (λ _ none. cc)
    (λ _ some. let same : t ++ 10 ∷ [] ≡ bytes = cc in rw (← same) (ends-push t))
    told
lines_end (value.Null ∷ w ∷ values) bytes told = cc
lines_end (value.Bool b ∷ w ∷ values) bytes told = cc
lines_end (value.Int n ∷ w ∷ values) bytes told = cc
lines_end (value.Text t ∷ w ∷ values) bytes told = cc

csv_end : (values : List Value) → ends_in_lf (csv_record values) ≡ true
csv_end values =
    let fields = map value_text values in
    let marks = cond (is_blank default_writer fields) (34 ∷ 34 ∷ []) [] in
    subst (λ bytes. ends_in_lf bytes ≡ true) (append_assoc (row_body default_writer fields) marks (10 ∷ []))
    (ends-push (row_body default_writer fields ++ marks))

records_end : (f : Format) (columns : List Column) (row : Row) (bytes : List ℕ) → record_of f columns row ≡ Some bytes
    → ends_in_lf bytes ≡ true
unfolding record_of
records_end format.Lines columns row bytes told = lines_end row.values bytes told
records_end format.Csv columns row bytes told = let same : csv_record row.values ≡ bytes = cc in
    rw (← same) (csv_end row.values)
records_end format.Json columns row bytes told = let same : json_record columns row.values ≡ bytes = cc in
    rw (← same) (ends-push (compact_text (json.object (members_of columns row.values))))

pub format_keeps : (f : Format) (columns : List Column) → FormatKeeps f columns
format_keeps f columns = record {
  rows = rows_conform f columns;
  record_ends = records_end f columns;
}

-- columns that are read as whole lines are one text
line_is_written : (columns : List Column) → are_line columns ≡ true → is_none (lines_refusal columns) ≡ true
line_is_written [] reads = reads
line_is_written (c ∷ []) reads = rw (and_parts (bytes_eq c.name (codes "line")) (is_text c.kind) reads).1 refl
line_is_written (c ∷ d ∷ cs) reads = reads

pub read_is_written : (f : Format) (columns : List Column) → ReadIsWritten f columns
read_is_written format.Lines columns reads = line_is_written columns reads
read_is_written format.Csv columns reads = refl
read_is_written format.Json columns reads = refl
