-- The fields of a plain line are what stands between its commas.
use Rattle.std.proofs.Common.{◌≡◌, ℕ, zero, suc, ◌+◌, ◌<◌, ◌==◌, ◌∷◌, ◌++◌, [], List, length, take, drop, get_or, Bool}
use Rattle.std.proofs.Common.{true, false, Some, None, refl, ap, ◌∙◌, arith, inl, inr, append-nil, append_assoc}
use Rattle.std.specs.Prelude.{◌&&◌, not}
use Rattle.std.specs.List.{list_any}
use Rattle.std.proofs.lemmas.Bool.{cases_Bool, false_from_ne_true, or_parts}
use Rattle.csv.specs.Machine.{next_record}
use Rattle.csv.specs.Reading.{default_config, records_from, records_next, records, strip_bom}
use Rattle.csv.proofs.RoundTrip.{start-same}
use Rattle.csv.specs.declared.parser.State.TheVariants as st
use Rattle.gob_convert.specs.Made.{Made, concatenation, made_each}
use Rattle.gob_plan.specs.declared.rows.Column.{Column}
use Rattle.gob_plan.specs.declared.rows.Row.{Row}
use Rattle.gob_meaning.specs.Formats.{row_of, field_values, csv_line_rows}
use Rattle.gob_formats.specs.Splits.{is_mark, is_plain_line, comma_fields}
use Rattle.gob_formats.proofs.Machine.{none_left}

no_mark : (b : ℕ) → is_mark b ≡ false → ((b == 34) ≡ false) × ((b == 13) ≡ false) × ((b == 10) ≡ false)
no_mark b e =
    let q = false_from_ne_true (b == 34) (λ t. cc (rw t at e)) in
    let r = false_from_ne_true (b == 13) (λ t. cc (rw (q, t) at e)) in
    let n = false_from_ne_true (b == 10) (λ t. cc (rw (q, r, t) at e)) in
    (q, r, n)

-- at the start of a field as in one
start_any : (fields : List (List ℕ)) (text : List ℕ) → list_any is_mark text ≡ false
    → next_record default_config st.StartField fields [] text ≡ next_record default_config st.InField fields [] text
unfolding next_record
start_any fields [] e = refl
start_any fields (c ∷ tail) e = start-same fields [] c tail (no_mark c (or_parts _ _ e).0).0

plain_in : (fields : List (List ℕ)) (field text : List ℕ) → list_any is_mark text ≡ false
    → next_record default_config st.InField fields field text
    ≡ Some (fields ++ comma_fields field text, st.StartRecord, [])
unfolding next_record comma_fields
plain_in fields field [] e = refl
plain_in fields field (b ∷ rest) e = elim (cases_Bool (b == 44)) [
  | inl same ↦
      rw same (start_any (fields ++ (field ∷ [])) rest (or_parts _ _ e).1
      ∙ plain_in (fields ++ (field ∷ [])) [] rest (or_parts _ _ e).1
      ∙ ap (λ (f : List (List ℕ)). Some (f, st.StartRecord, []))
      (append_assoc fields (field ∷ []) (comma_fields [] rest)))
  | inr other ↦
      let q = no_mark b (or_parts _ _ e).0 in
      rw (other, q.1, q.2) (plain_in fields (field ++ (b ∷ [])) rest (or_parts _ _ e).1)
]

plain_record : (b : ℕ) (rest : List ℕ) → list_any is_mark (b ∷ rest) ≡ false
    → next_record default_config st.StartRecord [] [] (b ∷ rest)
    ≡ Some (comma_fields [] (b ∷ rest), st.StartRecord, [])
unfolding next_record comma_fields
plain_record b rest e =
    let q = no_mark b (or_parts _ _ e).0 in
    let first : next_record default_config st.StartRecord [] [] (b ∷ rest)
    ≡ next_record default_config st.InField [] [] (b ∷ rest) = rw (q.0, q.1, q.2) refl in
    first ∙ plain_in [] [] (b ∷ rest) e

plain_records : (b : ℕ) (rest : List ℕ) → list_any is_mark (b ∷ rest) ≡ false
    → records default_config (b ∷ rest) ≡ comma_fields [] (b ∷ rest) ∷ []
unfolding records_from
plain_records b rest e =
    let one_more : length (b ∷ rest) + 1 ≡ suc (length (b ∷ rest)) = omega arith in
    ap (λ n. records_from default_config n st.StartRecord (b ∷ rest)) one_more
    ∙ ap (records_next (records_from default_config (length (b ∷ rest)))) (plain_record b rest e)
    ∙ ap (λ l. comma_fields [] (b ∷ rest) ∷ l) (none_left (length (b ∷ rest)))

no_bom : (b : ℕ) (rest : List ℕ) → (b == 239) ≡ false → strip_bom (b ∷ rest) ≡ b ∷ rest
unfolding strip_bom
no_bom b [] e = refl
no_bom b (c ∷ []) e = refl
no_bom b (c ∷ d ∷ rest) e = rw e refl

pub concatenation-nil : {A : Type 0} (m : Made A) → concatenation m (Some []) ≡ m
concatenation-nil None = refl
concatenation-nil (Some xs) = ap (λ l. Some l) (append-nil xs)

not_false : (b : Bool) → not b ≡ true → b ≡ false
not_false false e = refl
not_false true e = cc e

both_left : (a b : Bool) → (a && b) ≡ true → a ≡ true
both_left true b e = refl
both_left false b e = cc e

both_right : (a b : Bool) → (a && b) ≡ true → b ≡ true
both_right true b e = e
both_right false b e = cc e

-- a plain line is one row
pub plain_rows : (columns : List Column) (line : List ℕ) → is_plain_line line ≡ true
    → csv_line_rows columns line ≡ row_of (field_values columns (comma_fields [] line))
plain_rows columns [] plain = cc plain
plain_rows columns (b ∷ rest) plain =
    let unmarked = not_false (list_any is_mark (b ∷ rest)) (both_right (not (b == 239)) _ plain) in
    let bare = no_bom b rest (not_false (b == 239) (both_left (not (b == 239)) _ plain)) in
    let rows : List (List (List ℕ)) → Made Row = made_each (λ fields. row_of (field_values columns fields)) in
    ap (λ l. rows (records default_config l)) bare ∙ ap rows (plain_records b rest unmarked)
    ∙ concatenation-nil (row_of (field_values columns (comma_fields [] (b ∷ rest))))

-- ---- cutting at the first comma

pub cut_none : (field text : List ℕ)
    → ((k : ℕ) → k < length text → (get_or text k 0 == 44) ≡ true → ⊥)
    → comma_fields field text ≡ (field ++ text) ∷ []
unfolding comma_fields
cut_none field [] h = rw (append-nil field) refl
cut_none field (b ∷ rest) h =
    let here = false_from_ne_true (b == 44) (h 0 (omega arith)) in
    rw here (cut_none (field ++ (b ∷ [])) rest (λ k lt. h (suc k) (omega arith))
    ∙ ap (λ (f : List ℕ). f ∷ []) (append_assoc field (b ∷ []) rest))

pub cut_at : (field text : List ℕ) (at : ℕ) → at < length text
    → ((k : ℕ) → k < at → (get_or text k 0 == 44) ≡ true → ⊥) → (get_or text at 0 == 44) ≡ true
    → comma_fields field text ≡ (field ++ take at text) ∷ comma_fields [] (drop (suc at) text)
unfolding comma_fields
cut_at field [] at lt h is = absurd (omega arith)
cut_at field (b ∷ rest) zero lt h is = rw (is, append-nil field) refl
cut_at field (b ∷ rest) (suc at) lt h is =
    let here = false_from_ne_true (b == 44) (h 0 (omega arith)) in
    rw here (cut_at (field ++ (b ∷ [])) rest at (omega arith) (λ k less. h (suc k) (omega arith)) is
    ∙ ap (λ (f : List ℕ). f ∷ comma_fields [] (drop (suc at) rest)) (append_assoc field (b ∷ []) (take at rest)))

pub plus_one : (n : ℕ) (text : List ℕ) → drop (n + 1) text ≡ drop (suc n) text
plus_one n text =
    let same : n + 1 ≡ suc n = omega arith in
    ap (λ (k : ℕ). drop k text) same
