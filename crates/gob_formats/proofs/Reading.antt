-- Values and rows that are read one after another.
use Rattle.std.proofs.Common.{◌≡◌, ◌≢◌, ℕ, zero, suc, ◌+◌, ◌≤◌, ◌==◌, ◌∷◌, ◌++◌, [], List, length, drop, true, false}
use Rattle.std.proofs.Common.{Some, None, Option, refl, sym, ap, ◌∙◌, arith, inl, inr, append-nil, append_assoc}
use Rattle.std.proofs.lemmas.Bool.{cases_Bool}
use Rattle.csv.specs.Machine as csv
use Rattle.csv.specs.Reading.{default_config}
use Rattle.csv.specs.Records.{field_at}
use Rattle.csv.specs.declared.parser.State.{State}
use Rattle.gob_convert.specs.Made.{Made, concatenation}
use Rattle.gob_plan.specs.declared.rows.Value.{Value}
use Rattle.gob_plan.specs.declared.rows.Column.{Column}
use Rattle.gob_plan.specs.declared.rows.Row.{Row}
use Rattle.gob_meaning.specs.Formats.{row_of, value_before, field_values}
use Rattle.gob_formats.specs.Fields.{field_read}
use Rattle.gob_formats.specs.Splits.{comma_fields, step, records_on}
use Rattle.gob_formats.specs.Rows.{rows_on, rows_after}
use Rattle.gob_formats.proofs.Plain.{concatenation-nil}

-- ---- what is made of parts

pub concatenation_assoc : {A : Type 0} (a b c : Made A)
    → concatenation (concatenation a b) c ≡ concatenation a (concatenation b c)
concatenation_assoc None b c = refl
concatenation_assoc (Some xs) None c = refl
concatenation_assoc (Some xs) (Some ys) None = refl
concatenation_assoc (Some xs) (Some ys) (Some zs) = ap (λ l. Some l) (append_assoc xs ys zs)

-- a row more
pub row_added : (rows : List Row) (o : Option (List Value)) (row : Row) → o ≡ Some row.values
    → concatenation (Some rows) (row_of o) ≡ Some (rows ++ row ∷ [])
row_added rows o row is = ap (λ v. concatenation (Some rows) (row_of v)) is

-- a value more
pub value_added : (values : List Value) (v : Value) (o : Option (List Value))
    → concatenation (Some (values ++ v ∷ [])) o ≡ concatenation (Some values) (value_before (Some v) o)
value_added values v None = refl
value_added values v (Some vs) = ap (λ l. Some l) (append_assoc values (v ∷ []) vs)

pub no_value : (values : List Value) (o : Option (List Value))
    → concatenation (Some values) (value_before None o) ≡ None
no_value values o = refl

-- ---- fields

-- the values of a column and a field, and of the others
pub field_added : (values : List Value) (c : Column) (cs : List Column) (f : List ℕ) (fs : List (List ℕ)) (v : Value)
    → field_read c.kind f ≡ Some v
    → concatenation (Some (values ++ v ∷ [])) (field_values cs fs)
    ≡ concatenation (Some values) (field_values (c ∷ cs) (f ∷ fs))
field_added values c cs f fs v read =
    value_added values v (field_values cs fs)
    ∙ ap (λ o. concatenation (Some values) (value_before o (field_values cs fs))) (sym read)

pub bad_field : (values : List Value) (c : Column) (cs : List Column) (f : List ℕ) (fs : List (List ℕ))
    → field_read c.kind f ≡ None → concatenation (Some values) (field_values (c ∷ cs) (f ∷ fs)) ≡ None
bad_field values c cs f fs bad = ap (λ o. concatenation (Some values) (value_before o (field_values cs fs))) bad

pub too_many : (field text : List ℕ) → field_values [] (comma_fields field text) ≡ None
unfolding comma_fields
too_many field [] = refl
too_many field (b ∷ rest) = elim (cases_Bool (b == 44)) [
  | inl comma ↦ rw comma refl
  | inr other ↦ rw other (too_many (field ++ b ∷ []) rest)
]

pub other_length : (cs : List Column) (fs : List (List ℕ)) → length fs ≢ length cs → field_values cs fs ≡ None
other_length [] [] differ = absurd (differ refl)
other_length [] (f ∷ fs) differ = refl
other_length (c ∷ cs) [] differ = refl
other_length (c ∷ cs) (f ∷ fs) differ =
    ap (value_before (field_read c.kind f)) (other_length cs fs (λ same. differ (omega (arith, same))))
    ∙ before_none (field_read c.kind f)
  where
    before_none : (o : Option Value) → value_before o None ≡ None
    before_none None = refl
    before_none (Some v) = refl

pub field_here : (fs : List (List ℕ)) (i : ℕ) (f : List ℕ) → field_at fs i ≡ Some f
    → drop i fs ≡ f ∷ drop (i + 1) fs
unfolding field_at
field_here [] i f found = absurd (cc)
field_here (g ∷ fs) zero f found = let same : g ≡ f = cc in rw same refl
field_here (g ∷ fs) (suc i) f found =
    let next : suc i + 1 ≡ suc (i + 1) = omega arith in
    field_here fs i f found ∙ ap (λ n. f ∷ drop n (g ∷ fs)) (sym next)

pub field_missing : (fs : List (List ℕ)) (i : ℕ) → field_at fs i ≡ None → length fs ≤ i
unfolding field_at
field_missing [] i none = omega arith
field_missing (g ∷ fs) zero none = absurd (cc)
field_missing (g ∷ fs) (suc i) none = let later = field_missing fs i none in omega arith

pub no_rows : {A : Type 0} (xs : List A) (m : Made A) → concatenation (Some xs) m ≡ None → m ≡ None
no_rows xs None none = refl
no_rows xs (Some ys) none = cc

-- ---- the machine's steps

-- a byte is taken
pub rows_step : (columns : List Column) (s : State) (fields : List (List ℕ)) (field : List ℕ) (b : ℕ) (rest : List ℕ)
    → rows_on columns s fields field (b ∷ rest) ≡ rows_after columns (step s b).0 (step s b).1 fields field b rest
unfolding records_on
rows_step columns s fields field b rest = elim (cases_Bool (csv.is_end (csv.step default_config s b).1)) [
  | inl ends ↦ rw ends refl
  | inr goes_on ↦ rw goes_on refl
]

-- the rows at the end of the text
pub rows_at_end : (columns : List Column) (s : State) (fields : List (List ℕ)) (field : List ℕ)
    → csv.ends_at_end s ≡ true
    → rows_on columns s fields field [] ≡ row_of (field_values columns (fields ++ field ∷ []))
unfolding records_on
rows_at_end columns s fields field ends =
    rw ends (concatenation-nil (row_of (field_values columns (fields ++ field ∷ []))))

pub no_rows_at_end : (columns : List Column) (s : State) (fields : List (List ℕ)) (field : List ℕ)
    → csv.ends_at_end s ≡ false → rows_on columns s fields field [] ≡ Some []
unfolding records_on
no_rows_at_end columns s fields field goes_on = rw goes_on refl
