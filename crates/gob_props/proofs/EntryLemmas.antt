-- What the map of strings holds, as pairs of bytes, and how lines add to it.
use Rattle.std.proofs.Common.{◌≡◌, ℕ, ◌+◌, true, false, cond, nat_eq, bytes_eq, List, [], ◌∷◌, length, map, fold, refl}
use Rattle.std.proofs.Common.{sym, ap, ◌∙◌, Option, Some, None, option_map, Result, Ok, Err, String, Global}
use Rattle.std.proofs.Common.{string_bytes, string_eq, IsErrAnd, Bor}
use Rattle.std.specs.Str.{chars}
use Rattle.std.specs.Map.{lookup}
use Rattle.indexmap.specs.IndexMap.{insert_entry}
use Rattle.gob_props.specs.declared.fault.PropsFault.{PropsFault}
use Rattle.gob_props.specs.Properties.{KeyValue, Logical, with_entry, with_all, all_entries, put_first, key_value_of}
use Rattle.gob_props.specs.Properties.{natural_lines, is_passed_over, goes_on, with_line, logical_from}
use Rattle.gob_bytes.specs.Tables.{at_name}
use Rattle.gob_props.specs.Steps.{entry_from, put_entry, read_line, later_lines, lines_left}
use Rattle.gob_props.proofs.LogicalLemmas.{logical_passed, logical_start}

pub view-put : (es : List (String Global × String Global)) (k v : String Global) →
    map entry_from (insert_entry string_eq es k v) ≡ with_entry (map entry_from es) (string_bytes k, string_bytes v)
view-put [] k v = refl
view-put (e ∷ es) k v =
    elim (bytes_eq (string_bytes k) (string_bytes e.0)) as
    (λ t. map entry_from (cond t ((e.0, v) ∷ es) (e ∷ insert_entry string_eq es k v)) ≡
    cond t ((string_bytes e.0, string_bytes v) ∷ map entry_from es)
    (entry_from e ∷ with_entry (map entry_from es) (string_bytes k, string_bytes v))) [
      | true ↦ refl
      | false ↦ ap (λ (later : List KeyValue). entry_from e ∷ later) (view-put es k v)
    ]

pub view-get : (es : List (String Global × String Global)) (key : List ℕ) →
    option_map string_bytes (lookup (λ (k : String Global). bytes_eq key (string_bytes k)) es) ≡
    at_name (map entry_from es) key
view-get [] key = refl
view-get (e ∷ es) key =
    elim (bytes_eq key (string_bytes e.0)) as
    (λ t. option_map string_bytes
    (cond t (Some e.1) (lookup (λ (k : String Global). bytes_eq key (string_bytes k)) es)) ≡
    cond t (Some (string_bytes e.1)) (at_name (map entry_from es) key)) [
      | true ↦ refl
      | false ↦ view-get es key
    ]

put_first_ok : (es es' : List KeyValue) (number : ℕ) (o : Option KeyValue) (later : Result (List KeyValue) PropsFault) →
    put_entry es number o ≡ Ok es' → with_all es (put_first number o later) ≡ with_all es' later
put_first_ok es es' number None later h = absurd (cc)
put_first_ok es es' number (Some e) (Ok more) h =
    let same : with_entry es e ≡ es' = cc in
    ap (λ (xs : List KeyValue). Ok (fold with_entry xs more)) same
put_first_ok es es' number (Some e) (Err fault) h = refl

put_first_err : (es : List KeyValue) (number : ℕ) (o : Option KeyValue) (later : Result (List KeyValue) PropsFault)
    (fault : PropsFault) → put_entry es number o ≡ Err fault → with_all es (put_first number o later) ≡ Err fault
put_first_err es number None later fault h = h
put_first_err es number (Some e) later fault h = absurd (cc)

-- a logical line that was put
pub line_put : (es es' : List KeyValue) (l : Logical) (ls : List Logical) → read_line es l ≡ Ok es' →
    with_all es (all_entries (l ∷ ls)) ≡ with_all es' (all_entries ls)
unfolding all_entries
line_put es es' l ls =
    elim (nat_eq (length l.text) 0) as
    (λ t. cond t (Ok es) (put_entry es l.number (key_value_of l.text)) ≡ Ok es' →
    with_all es (cond t (all_entries ls) (put_first l.number (key_value_of l.text) (all_entries ls))) ≡
    with_all es' (all_entries ls)) [
      | true ↦ λ h. let same : es ≡ es' = cc in ap (λ (xs : List KeyValue). with_all xs (all_entries ls)) same
      | false ↦ λ h. put_first_ok es es' l.number (key_value_of l.text) (all_entries ls) h
    ]

-- a logical line that is malformed
pub line_bad : (es : List KeyValue) (l : Logical) (ls : List Logical) (fault : PropsFault) → read_line es l ≡ Err fault
    →
    with_all es (all_entries (l ∷ ls)) ≡ Err fault
unfolding all_entries
line_bad es l ls fault =
    elim (nat_eq (length l.text) 0) as
    (λ t. cond t (Ok es) (put_entry es l.number (key_value_of l.text)) ≡ Err fault →
    with_all es (cond t (all_entries ls) (put_first l.number (key_value_of l.text) (all_entries ls))) ≡ Err fault) [
      | true ↦ λ h. absurd (cc)
      | false ↦ λ h. put_first_err es l.number (key_value_of l.text) (all_entries ls) fault h
    ]

-- ---- a turn of the reader

-- the entries so far, with those of the natural lines that are left from this number on
abbrev pub Reads : List KeyValue → ℕ → List (List ℕ) → Result (List KeyValue) PropsFault → Type 0
Reads es number lines all = with_all es (all_entries (logical_from None number lines)) ≡ all

-- the next natural line of what is left
pub next_line : (es : List KeyValue) (number : ℕ) (left others : Option (Bor (List ℕ))) (rest : Bor (List ℕ))
    (line : List ℕ) (all : Result (List KeyValue) PropsFault) → left ≡ Some rest →
    natural_lines (chars rest.now) ≡ line ∷ lines_left others → Reads es number (lines_left left) all →
    Reads es number (line ∷ lines_left others) all
next_line es number left others rest line all is whole reads =
    ap (λ lines. with_all es (all_entries (logical_from None number lines))) (sym (ap lines_left is ∙ whole)) ∙ reads

-- it is passed over
pub line_passed : (es : List KeyValue) (number : ℕ) (line : List ℕ) (lines : List (List ℕ))
    (all : Result (List KeyValue) PropsFault) → is_passed_over line ≡ true → Reads es number (line ∷ lines) all →
    Reads es (number + 1) lines all
line_passed es number line lines all passed reads =
    ap (λ ls. with_all es (all_entries ls)) (sym (logical_passed number line lines passed)) ∙ reads

-- it begins a logical line
pub line_joined : (es : List KeyValue) (number count : ℕ) (line text : List ℕ) (lines after : List (List ℕ))
    (all : Result (List KeyValue) PropsFault) → is_passed_over line ≡ false →
    later_lines (goes_on line) (with_line (record { number = number; text = [] }) line) (number + 1) lines ≡
    record { number = number; text = text } ∷ logical_from None (number + count) after →
    Reads es number (line ∷ lines) all → with_all es
    (all_entries (record { number = number; text = text } ∷ logical_from None (number + count) after)) ≡
    all
line_joined es number count line text lines after all passed joined reads =
    ap (λ ls. with_all es (all_entries ls)) (sym (logical_start number line lines passed ∙ joined)) ∙ reads

-- nothing is left
pub reads_end : (es : List KeyValue) (number : ℕ) (left : Option (Bor (List ℕ)))
    (all : Result (List KeyValue) PropsFault) →
    left ≡ None → Reads es number (lines_left left) all → Ok es ≡ all
unfolding logical_from all_entries
reads_end es number left all none reads =
    ap (λ o. with_all es (all_entries (logical_from None number (lines_left o)))) (sym none) ∙ reads

-- ---- the exit of a `?`

pub err_is : {T E : Type 0} (r : Result T E) (fault : E) → IsErrAnd r (λ e. e ≡ fault) → r ≡ Err fault
err_is (Ok x) fault h = absurd h
err_is (Err e) fault h = ap Err h
