-- Rows read the same over another look-up that has their values as the pipeline text spells them.
use Rattle.std.proofs.Common.{◌≡◌, ℕ, Bool, true, false, cond, List, [], ◌∷◌, Option, Some, None, Ok, Err, Result, refl}
use Rattle.std.proofs.Common.{sym, ap, ◌∙◌}
use Rattle.std.proofs.lemmas.Bool.{true≢false, cond_both}
use Rattle.std.specs.List.{AllByRecursion, range_with_len}
use Rattle.std.specs.Option.{is_some, option_map, unwrap_or, ok_or}
use Rattle.std.specs.Str.{is_utf8, chars}
use Rattle.gob_plan.specs.declared.plan.Plan.{Plan}
use Rattle.gob_plan.specs.declared.plan.Format.{Format}
use Rattle.gob_plan.specs.declared.plan.Format.TheVariants as format
use Rattle.gob_plan.specs.declared.plan.ForkHow.{ForkHow}
use Rattle.gob_plan.specs.declared.plan.ForkHow.TheVariants as fork_how
use Rattle.gob_jobs.specs.Words.{and_then, without_blanks}
use Rattle.gob_jobs.specs.KeyTable.{Standing, once, for_each_branch, for_each_branch_or_all, Need, needed, else_is}
use Rattle.gob_jobs.specs.KeyTable.{needed_unless_lines, needed_unless_all, Row}
use Rattle.gob_jobs.specs.Reading.{LookUp, JobFault, interpolation, bad_value, missing, Reading, with_number}
use Rattle.gob_jobs.specs.Reading.{by_standing, own_key, key_that_counts, missing_key, unless_lines, unless_all}
use Rattle.gob_jobs.specs.Reading.{absent_value, has_interpolation, value_at, value_found, value_of_row, default_text}
use Rattle.gob_jobs.specs.Reading.{spelled_value, read_row, read_rows, with_branch, read_branches, read_table}
use Rattle.gob_jobs.proofs.Results.{then_ok, ok_or_ok}
use Rattle.gob_jobs.proofs.Rows.{row_parts, row_from, TableParts, table_parts, table_from}
use Rattle.gob_jobs.proofs.Trimming.{trimmed_twice}

-- a value that can stand at a key as it is
pub record IsFine (text : List ℕ) : Type 0 where
  pub plain : has_interpolation text ≡ false
  pub utf8 : is_utf8 text ≡ true
  pub bare : without_blanks text ≡ text

-- ---- a value that was found

at_key : (key text v : List ℕ) → value_at key text ≡ Ok v → (has_interpolation text ≡ false) × (is_utf8 text ≡ true)
    × (text ≡ v)
at_key key text v =
    let P : Result (List ℕ) JobFault → Type 0 = λ o. o ≡ Ok v → (has_interpolation text ≡ false) × (is_utf8 text ≡ true)
    × (text ≡ v) in
    cond_both (has_interpolation text) (Err (interpolation key)) (cond (is_utf8 text) (Ok text) (Err (bad_value key))) P
    (λ _ no. cc)
    (λ plain. cond_both (is_utf8 text) (Ok text) (Err (bad_value key)) P (λ utf8 is. (plain, utf8, cc)) (λ _ no. cc))

from_fine : (key text : List ℕ) → IsFine text → value_found key (Ok text) (Some text) ≡ Ok text
from_fine key text fine =
    ap (value_at key) fine.bare
    ∙ (ap (λ v. cond v (Err (interpolation key)) (cond (is_utf8 text) (Ok text) (Err (bad_value key)))) fine.plain
    ∙ ap (λ v. cond v (Ok text) (Err (bad_value key))) fine.utf8)

found_fine : (key d v : List ℕ) (absent : Result (List ℕ) JobFault) (o : Option (List ℕ))
    → value_found key absent o ≡ Ok v → (absent ≡ Ok v → d ≡ v) → IsFine d
    → (unwrap_or (option_map without_blanks o) d ≡ v) × IsFine v
found_fine key d v absent None is else_is_d fine = let e = else_is_d is in (e, subst_fine d v e fine)
  where
    subst_fine : (x y : List ℕ) → x ≡ y → IsFine x → IsFine y
    subst_fine x y e f = record {
      plain = ap has_interpolation (sym e) ∙ f.plain;
      utf8 = ap is_utf8 (sym e)
          ∙ f.utf8;
      bare = ap without_blanks (sym e) ∙ (f.bare ∙ e);
    }
found_fine key d v absent (Some value) is else_is_d fine =
    let p = at_key key (without_blanks value) v is in (
      p.2,
      record {
        plain = ap has_interpolation (sym p.2) ∙ p.0;
        utf8 = ap is_utf8 (sym p.2) ∙ p.1;
        bare = ap without_blanks (sym p.2) ∙ (trimmed_twice value ∙ p.2);
      },
    )

lines_absent : (f : Format) (v : List ℕ) → unless_lines f ≡ Some v → [] ≡ v
lines_absent format.Lines v is = cc
lines_absent format.Csv v is = cc
lines_absent format.Json v is = cc

all_absent : (how : ForkHow) (v : List ℕ) → unless_all how ≡ Some v → [] ≡ v
all_absent fork_how.All v is = cc
all_absent fork_how.Each v is = cc
all_absent fork_how.First v is = cc

absent_text : (need : Need) (plan : Plan) (v : List ℕ) → absent_value need plan ≡ Some v → default_text need ≡ v
absent_text needed plan v is = cc
absent_text (else_is text) plan v is = cc
absent_text needed_unless_lines plan v is = lines_absent plan.format v is
absent_text needed_unless_all plan v is = all_absent plan.fork.how v is

-- a row whose value where it is absent can stand at its key
abbrev pub HasFineDefault : Row → Type 0
HasFineDefault row = IsFine (default_text row.need)

pub spelled_fine : (look : LookUp) (row : Row) (b : ℕ) (plan : Plan) (v : List ℕ) → HasFineDefault row
    → value_of_row look row b plan ≡ Ok v → (spelled_value look row b ≡ v) × IsFine v
unfolding value_of_row
spelled_fine look row b plan v fine is =
    found_fine (key_that_counts look row b) (default_text row.need) v
    (ok_or (absent_value row.need plan) (missing (missing_key row b plan.fork.branches)))
    (look (key_that_counts look row b)) is
    (λ e. absent_text row.need plan v (ok_or_ok (absent_value row.need plan)
    (missing (missing_key row b plan.fork.branches)) v e)) fine

-- ---- the value over the other look-up

-- the look-up has the row's value
abbrev pub HasValue : LookUp → LookUp → ℕ → Row → Type 0
HasValue look other b row = other (own_key row b) ≡ Some (spelled_value look row b)

own_counts : (standing : Standing) (other : LookUp) (key own v : List ℕ)
    → other (by_standing standing key own own) ≡ Some v
    → by_standing standing key own (cond (is_some (other own)) own key) ≡ by_standing standing key own own
own_counts once other key own v is = refl
own_counts for_each_branch other key own v is = refl
own_counts for_each_branch_or_all other key own v is = ap (λ o. cond (is_some o) own key) is

value_again : (look other : LookUp) (row : Row) (b : ℕ) (plan : Plan) (v : List ℕ) → HasFineDefault row
    → HasValue look other b row → value_of_row look row b plan ≡ Ok v → value_of_row other row b plan ≡ Ok v
unfolding value_of_row
value_again look other row b plan v fine has is =
    let p = spelled_fine look row b plan v fine is in
    let there : other (own_key row b) ≡ Some v = has ∙ ap (λ x. Some x) p.0 in
    let key : key_that_counts other row b ≡ own_key row b = own_counts row.standing other row.key
    (with_number row.key b) v there in
    let absent = ok_or (absent_value row.need plan) (missing (missing_key row b plan.fork.branches)) in
    ap (λ k. value_found k absent (other k)) key ∙ (ap (value_found (own_key row b) absent) there
    ∙ from_fine (own_key row b) v p.1)

-- ---- rows, branches and the table

-- what is asked of a row that is read again
pub record CanBeRead (look other : LookUp) (b : ℕ) (row : Row) : Type 0 where
  pub default : HasFineDefault row
  pub value : HasValue look other b row

row_again : (look other : LookUp) (row : Row) (b : ℕ) (r s : Reading) → CanBeRead look other b row
    → read_row look row b r ≡ Ok s → read_row other row b r ≡ Ok s
row_again look other row b r s can is =
    let p = row_parts look row b r s is in
    row_from other row b r s p.0 (value_again look other row b r.draft.plan p.0 can.default can.value p.1) p.2

rows_again : (look other : LookUp) (rows : List Row) (b : ℕ) (r s : Reading)
    → AllByRecursion (CanBeRead look other b) rows → read_rows look rows b r ≡ Ok s → read_rows other rows b r ≡ Ok s
rows_again look other [] b r s can is = is
rows_again look other (row ∷ rows) b r s can is =
    let p = then_ok (read_rows look rows b) (read_row look row b r) s is in
    ap (and_then (read_rows other rows b)) (row_again look other row b r p.0 can.0 p.1)
    ∙ rows_again look other rows b p.0 s can.1 p.2

branches_again : (look other : LookUp) (rows : List Row) (bs : List ℕ) (r s : Reading)
    → AllByRecursion (λ b. AllByRecursion (CanBeRead look other b) rows) bs → read_branches look rows bs r ≡ Ok s
    → read_branches other rows bs r ≡ Ok s
branches_again look other rows [] r s can is = is
branches_again look other rows (b ∷ bs) r s can is =
    let p = then_ok (λ x. read_branches look rows bs (with_branch x)) (read_rows look rows b r) s is in
    ap (and_then (λ x. read_branches other rows bs (with_branch x))) (rows_again look other rows b r p.0 can.0 p.1)
    ∙ branches_again look other rows bs (with_branch p.0) s can.1 p.2

pub table_again : (look other : LookUp) (firsts each : List Row) (r s : Reading)
    → (parts : TableParts look firsts each [] r s) → AllByRecursion (CanBeRead look other 0) firsts
    → AllByRecursion (λ b. AllByRecursion (CanBeRead look other b) each)
    (range_with_len 0 parts.first.draft.plan.fork.branches)
    → read_table other firsts each [] r ≡ Ok s
table_again look other firsts each r s parts firsts_can each_can =
    table_from other firsts each [] r s (record {
      first = parts.first;
      second = parts.second;
      firsts_read = rows_again look other firsts 0 r parts.first firsts_can parts.firsts_read;
      each_read = branches_again look other each (range_with_len 0 parts.first.draft.plan.fork.branches) parts.first
          parts.second each_can parts.each_read;
      lasts_read = parts.lasts_read;
    })

-- ---- each value that was read is fine

pub rows_fine : (look : LookUp) (rows : List Row) (b : ℕ) (r s : Reading) → AllByRecursion HasFineDefault rows
    → read_rows look rows b r ≡ Ok s → AllByRecursion (λ row. IsFine (spelled_value look row b)) rows
rows_fine look [] b r s fine is = tt
rows_fine look (row ∷ rows) b r s fine is =
    let p = then_ok (read_rows look rows b) (read_row look row b r) s is in
    let q = row_parts look row b r p.0 p.1 in
    let v = spelled_fine look row b r.draft.plan q.0 fine.0 q.1 in (
      record {
        plain = ap has_interpolation v.0 ∙ v.1.plain;
        utf8 = ap is_utf8 v.0 ∙ v.1.utf8;
        bare = ap without_blanks v.0
            ∙ (v.1.bare ∙ sym v.0);
      },
      rows_fine look rows b p.0 s fine.1 p.2,
    )

pub branches_fine : (look : LookUp) (rows : List Row) (bs : List ℕ) (r s : Reading) → AllByRecursion HasFineDefault rows
    → read_branches look rows bs r ≡ Ok s
    → AllByRecursion (λ b. AllByRecursion (λ row. IsFine (spelled_value look row b)) rows) bs
branches_fine look rows [] r s fine is = tt
branches_fine look rows (b ∷ bs) r s fine is =
    let p = then_ok (λ x. read_branches look rows bs (with_branch x)) (read_rows look rows b r) s is in
    (rows_fine look rows b r p.0 fine p.1, branches_fine look rows bs (with_branch p.0) s fine p.2)
