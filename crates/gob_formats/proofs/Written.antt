-- Records of csv, put together from their fields.
use Rattle.std.proofs.Common.{◌≡◌, ℕ, ◌==◌, List, [], ◌∷◌, ◌++◌, length, map, true, false, cond, refl, sym, ap, ◌∙◌}
use Rattle.std.proofs.Common.{arith, append_assoc, inl, inr}
use Rattle.std.proofs.lemmas.Bool.{cases_Bool, eqb-true, false_from_ne_true}
use Rattle.std.proofs.lemmas.List.{append-nil, length-append}
use Rattle.std.specs.Prelude.{if◌then◌else◌}
use Rattle.csv.specs.Writing.{default_writer, needs_quotes, escaped, quoted, field_text, fields_text, is_blank}
use Rattle.gob_plan.specs.declared.rows.Value.{Value}
use Rattle.gob_meaning.specs.Formats.{csv_record}
use Rattle.gob_meaning.specs.Values.{value_text}
use Rattle.gob_formats.specs.Fields.{field_written, more_fields, record_body}

-- ---- one field

pub field_plain : (field : List ℕ) → needs_quotes default_writer field ≡ false → field_written field ≡ field
unfolding field_written
field_plain field none = ap (λ b. cond b (quoted default_writer field) field) none

pub field_quoted : (field : List ℕ) → needs_quotes default_writer field ≡ true
    → field_written field ≡ 34 ∷ (escaped default_writer field ++ 34 ∷ [])
unfolding field_written
field_quoted field some = ap (λ b. cond b (quoted default_writer field) field) some

pub escaped_splits : (b : ℕ) (rest : List ℕ)
    → escaped default_writer (b ∷ rest) ≡ escaped default_writer (b ∷ []) ++ escaped default_writer rest
unfolding escaped
escaped_splits b rest = elim (cases_Bool (b == 34)) [ inl quote ↦ rw quote refl | inr isnt ↦ rw isnt refl ]

-- ---- one record

pub more_splits : (v : Value) (values : List Value)
    → more_fields (v ∷ values) ≡ (44 ∷ field_written (value_text v)) ++ more_fields values
unfolding more_fields field_written fields_text
more_splits v values = refl

pub no_more : more_fields [] ≡ []
unfolding more_fields fields_text
no_more = refl

abbrev pub record_text : List ℕ → List ℕ
record_text body = body ++ ((if length body == 0 then 34 ∷ 34 ∷ [] else []) ++ 10 ∷ [])

not_empty : (xs ys : List ℕ) (y : ℕ) → (length (xs ++ y ∷ ys) == 0) ≡ false
not_empty xs ys y = false_from_ne_true (length (xs ++ y ∷ ys) == 0) (λ t.
    let none : length (xs ++ y ∷ ys) ≡ 0 = eqb-true (length (xs ++ y ∷ ys)) 0 t in
    let sum = length-append xs (y ∷ ys) in
    omega arith)

pub record_is : (values : List Value) → csv_record values ≡ record_text (record_body values)
unfolding field_written more_fields fields_text is_blank
record_is [] = refl
record_is (v ∷ []) = rw (append-nil (field_text default_writer (value_text v))) refl
record_is (v ∷ w ∷ values) =
    rw (not_empty (field_text default_writer (value_text v))
    (field_text default_writer (value_text w) ++ fields_text default_writer (map value_text values)) 44) refl

pub nothing_added : (old body : List ℕ) → length (old ++ body) ≡ length old → (length body == 0) ≡ true
nothing_added old [] same = refl
nothing_added old (b ∷ bs) same =
    let sum = length-append old (b ∷ bs) in
    absurd (omega arith)

pub something_added : (old body : List ℕ) → (length (old ++ body) ≡ length old → ⊥) → (length body == 0) ≡ false
something_added old [] differ = absurd (differ (ap length (append-nil old)))
something_added old (b ∷ bs) differ = not_empty [] bs b

pub blank_record : (old : List ℕ) (values : List Value) → (length (record_body values) == 0) ≡ true
    → (old ++ record_body values) ++ 34 ∷ 34 ∷ 10 ∷ [] ≡ old ++ csv_record values
blank_record old values blank =
    append_assoc old (record_body values) (34 ∷ 34 ∷ 10 ∷ [])
    ∙ ap (λ t. old ++ t) (sym (record_is values
    ∙ ap (λ b. record_body values ++ ((if b then 34 ∷ 34 ∷ [] else []) ++ 10 ∷ [])) blank))

pub some_record : (old : List ℕ) (values : List Value) → (length (record_body values) == 0) ≡ false
    → (old ++ record_body values) ++ 10 ∷ [] ≡ old ++ csv_record values
some_record old values some =
    append_assoc old (record_body values) (10 ∷ [])
    ∙ ap (λ t. old ++ t) (sym (record_is values
    ∙ ap (λ b. record_body values ++ ((if b then 34 ∷ 34 ∷ [] else []) ++ 10 ∷ [])) some))
