-- The records that the code's machine reads are those that csv reads.
use Rattle.std.proofs.Common.{◌≡◌, ℕ, zero, suc, ◌+◌, ◌≤◌, ◌==◌, ◌∷◌, ◌++◌, [], List, length, refl, ap, ◌∙◌, arith, inl}
use Rattle.std.proofs.Common.{inr}
use Rattle.std.proofs.lemmas.Bool.{cases_Bool}
use Rattle.csv.specs.Machine as csv
use Rattle.csv.specs.Machine.{next_record}
use Rattle.csv.specs.Reading.{default_config, records_from, records_next, records, strip_bom}
use Rattle.csv.specs.declared.parser.State.{State}
use Rattle.csv.specs.declared.parser.State.TheVariants as st
use Rattle.gob_convert.specs.Made.{made_each}
use Rattle.gob_plan.specs.declared.rows.Column.{Column}
use Rattle.gob_meaning.specs.Formats.{row_of, field_values, csv_line_rows}
use Rattle.gob_formats.specs.Splits.{settled_state, step, records_on}
use Rattle.gob_formats.specs.Rows.{rows_on}

-- after a carriage return it goes on as before a record
step_settled : (s : State) (b : ℕ) → step (settled_state s) b ≡ step s b
step_settled st.StartRecord b = refl
step_settled st.StartField b = refl
step_settled st.InField b = refl
step_settled st.InQuoted b = refl
step_settled st.AfterQuote b = refl
step_settled st.InEscape b = refl
step_settled st.InComment b = refl
step_settled st.AfterCr b = elim (cases_Bool (b == 10)) [
  | inl is_feed ↦ elim (cases_Bool (b == 13)) [
    | inl is_return ↦ rw (is_feed, is_return) refl
    | inr isnt ↦ rw (is_feed, isnt) refl
  ]
  | inr isnt ↦ rw isnt refl
]

ends_settled : (s : State) → csv.ends_at_end (settled_state s) ≡ csv.ends_at_end s
ends_settled st.StartRecord = refl
ends_settled st.StartField = refl
ends_settled st.InField = refl
ends_settled st.InQuoted = refl
ends_settled st.AfterQuote = refl
ends_settled st.InEscape = refl
ends_settled st.InComment = refl
ends_settled st.AfterCr = refl

pub none_left : (n : ℕ) → records_from default_config n st.StartRecord [] ≡ []
unfolding records_from next_record
none_left zero = refl
none_left (suc n) = refl

at_end : (n : ℕ) (s : State) (fields : List (List ℕ)) (field : List ℕ)
    → records_next (records_from default_config n) (next_record default_config s fields field [])
    ≡ records_on (settled_state s) fields field []
unfolding next_record records_on
at_end n s fields field = rw (ends_settled s) (elim (cases_Bool (csv.ends_at_end s)) [
  | inl ends ↦ rw ends (ap (λ l. (fields ++ field ∷ []) ∷ l) (none_left n))
  | inr goes_on ↦ rw goes_on refl
])

pub records_read : (n : ℕ) (s : State) (fields : List (List ℕ)) (field xs : List ℕ) → length xs ≤ n
    → records_next (records_from default_config n) (next_record default_config s fields field xs)
    ≡ records_on (settled_state s) fields field xs
unfolding records_from next_record records_on
records_read n s fields field [] enough = at_end n s fields field
records_read zero s fields field (b ∷ rest) enough = absurd (omega arith)
records_read (suc m) s fields field (b ∷ rest) enough =
    let state = ap (λ r. r.0) (step_settled s b) in
    let action = ap (λ r. r.1) (step_settled s b) in
    rw (action, state) (elim (cases_Bool (csv.is_end (csv.step default_config s b).1)) [
      | inl ends ↦ rw ends (ap (λ l. csv.fields_after (csv.step default_config s b).1 fields field ∷ l)
          (records_read m (csv.step default_config s b).0 [] [] rest (omega arith)))
      | inr goes_on ↦ rw goes_on (records_read (suc m) (csv.step default_config s b).0
          (csv.fields_after (csv.step default_config s b).1 fields field)
          (csv.field_after (csv.step default_config s b).1 b field) rest (omega arith))
    ])

pub csv_records : (xs : List ℕ) → records default_config xs ≡ records_on st.StartRecord [] [] xs
unfolding records_from
csv_records xs =
    let one_more : length xs + 1 ≡ suc (length xs) = omega arith in
    ap (λ n. records_from default_config n st.StartRecord xs) one_more
    ∙ records_read (length xs) st.StartRecord [] [] xs (omega arith)

-- so the rows of a line are those of the machine
pub marked_rows : (columns : List Column) (line : List ℕ)
    → csv_line_rows columns line ≡ rows_on columns st.StartRecord [] [] (strip_bom line)
marked_rows columns line =
    ap (made_each (λ fields. row_of (field_values columns fields))) (csv_records (strip_bom line))
