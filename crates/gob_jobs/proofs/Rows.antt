-- Rows that tell the plan are read alike without those that don't.
use Rattle.std.proofs.Common.{◌≡◌, ℕ, Bool, true, false, cond, List, [], ◌∷◌, filter, Ok, Err, Result, refl, sym, ap}
use Rattle.std.proofs.Common.{◌∙◌}
use Rattle.std.proofs.lemmas.Bool.{true≢false}
use Rattle.std.specs.List.{range_with_len}
use Rattle.gob_plan.specs.declared.plan.Plan.{Plan}
use Rattle.gob_jobs.specs.Words.{and_then, value_map, fault_map}
use Rattle.gob_jobs.specs.KeyTable.{Draft, RunRules, Reader, of_plan, of_runs, is_of_plan, Row, tells_plan}
use Rattle.gob_jobs.specs.Reading.{LookUp, JobFault, Reading, key_that_counts, value_of_row, fault_at, read_value}
use Rattle.gob_jobs.specs.Reading.{read_row, read_rows, with_branch, read_branches, read_table}
use Rattle.gob_jobs.proofs.Results.{then_ok, map_ok, fault_ok}

-- a reading with another draft
abbrev pub with_draft : Draft → Reading → Reading
with_draft d r = record r { draft = d }

draft_of : Reading → Draft
draft_of r = r.draft

-- ---- one row

pub row_parts : (look : LookUp) (row : Row) (b : ℕ) (r s : Reading) → read_row look row b r ≡ Ok s
    → (v : List ℕ) × (value_of_row look row b r.draft.plan ≡ Ok v) × (read_value row.reader r v ≡ Ok s)
unfolding read_row
row_parts look row b r s is =
    let f : List ℕ → Result Reading JobFault = λ value. fault_map (fault_at (key_that_counts look row b))
    (read_value row.reader r value) in
    let p = then_ok f (value_of_row look row b r.draft.plan) s is in
    (p.0, p.1, fault_ok (fault_at (key_that_counts look row b)) (read_value row.reader r p.0) s p.2)

pub row_from : (look : LookUp) (row : Row) (b : ℕ) (r s : Reading) (v : List ℕ)
    → value_of_row look row b r.draft.plan ≡ Ok v → read_value row.reader r v ≡ Ok s → read_row look row b r ≡ Ok s
unfolding read_row
row_from look row b r s v found is =
    ap (and_then (λ value. fault_map (fault_at (key_that_counts look row b)) (read_value row.reader r value))) found
    ∙ ap (fault_map (fault_at (key_that_counts look row b))) is

told_again : (reader : Reader) (r t s : Reading) (v : List ℕ) → is_of_plan reader ≡ true → read_value reader r v ≡ Ok s
    → r.draft ≡ t.draft → read_value reader t v ≡ Ok (with_draft s.draft t)
told_again (of_plan read) r t s v is read_is same =
    let m = map_ok (λ d. with_draft d r) (read r.draft v) s read_is in
    ap (value_map (λ d. with_draft d t)) (ap (λ d. read d v) (sym same) ∙ m.1)
    ∙ ap (λ (x : Reading). Ok (with_draft x.draft t)) m.2
told_again (of_runs read) r t s v is read_is same = absurd (true≢false (sym is))

untold : (reader : Reader) (r s : Reading) (v : List ℕ) → is_of_plan reader ≡ false → read_value reader r v ≡ Ok s
    → s.draft ≡ r.draft
untold (of_plan read) r s v is read_is = absurd (true≢false is)
untold (of_runs read) r s v is read_is =
    let m = map_ok (λ rules. record r { rules = rules }) (read r.draft.plan r.rules v) s read_is in
    sym (ap (λ (x : Reading). x.draft) m.2)

row_told : (look : LookUp) (row : Row) (b : ℕ) (r t s : Reading) → tells_plan row ≡ true → read_row look row b r ≡ Ok s
    → r.draft ≡ t.draft → read_row look row b t ≡ Ok (with_draft s.draft t)
row_told look row b r t s is read_is same =
    let p = row_parts look row b r s read_is in
    row_from look row b t (with_draft s.draft t) p.0 (ap (λ (d : Draft). value_of_row look row b d.plan) (sym same)
    ∙ p.1) (told_again row.reader r t s p.0 is p.2 same)

row_untold : (look : LookUp) (row : Row) (b : ℕ) (r s : Reading) → tells_plan row ≡ false → read_row look row b r ≡ Ok s
    → s.draft ≡ r.draft
row_untold look row b r s is read_is = let p = row_parts look row b r s read_is in untold row.reader r s p.0 is p.2

-- ---- rows, branches and the table

pub rows_told : (look : LookUp) (rows : List Row) (b : ℕ) (r t s : Reading) → read_rows look rows b r ≡ Ok s
    → r.draft ≡ t.draft → read_rows look (filter tells_plan rows) b t ≡ Ok (with_draft s.draft t)
rows_told look [] b r t s is same =
    let e : r ≡ s = cc in ap (λ d. Ok (with_draft d t)) (sym same ∙ ap (λ (x : Reading). x.draft) e)
rows_told look (row ∷ rows) b r t s is same =
    let p = then_ok (read_rows look rows b) (read_row look row b r) s is in
    elim (tells_plan row) as (λ v. tells_plan row ≡ v → read_rows look
    (cond v (row ∷ filter tells_plan rows) (filter tells_plan rows)) b t ≡ Ok (with_draft s.draft t)) [
      | true ↦ λ e.
          ap (and_then (read_rows look (filter tells_plan rows) b)) (row_told look row b r t p.0 e p.1 same)
          ∙ rows_told look rows b p.0 (with_draft p.0.draft t) s p.2 refl
      | false ↦ λ e. rows_told look rows b p.0 t s p.2 (row_untold look row b r p.0 e p.1 ∙ same)
    ] refl

pub branches_told : (look : LookUp) (rows : List Row) (bs : List ℕ) (r t s : Reading)
    → read_branches look rows bs r ≡ Ok s → r.draft ≡ t.draft
    → read_branches look (filter tells_plan rows) bs t ≡ Ok (with_draft s.draft t)
branches_told look rows [] r t s is same =
    let e : r ≡ s = cc in ap (λ d. Ok (with_draft d t)) (sym same ∙ ap (λ (x : Reading). x.draft) e)
branches_told look rows (b ∷ bs) r t s is same =
    let p = then_ok (λ x. read_branches look rows bs (with_branch x)) (read_rows look rows b r) s is in
    ap (and_then (λ x. read_branches look (filter tells_plan rows) bs (with_branch x)))
    (rows_told look rows b r t p.0 p.1 same)
    ∙ branches_told look rows bs (with_branch p.0) (with_branch (with_draft p.0.draft t)) s p.2 refl

-- the parts of a table that was read
pub record TableParts (look : LookUp) (firsts each lasts : List Row) (r s : Reading) : Type 0 where
  pub first : Reading
  pub second : Reading
  pub firsts_read : read_rows look firsts 0 r ≡ Ok first
  pub each_read : read_branches look each (range_with_len 0 first.draft.plan.fork.branches) first ≡ Ok second
  pub lasts_read : read_rows look lasts 0 second ≡ Ok s

pub table_parts : (look : LookUp) (firsts each lasts : List Row) (r s : Reading)
    → read_table look firsts each lasts r ≡ Ok s → TableParts look firsts each lasts r s
table_parts look firsts each lasts r s is =
    let f : Reading → Result Reading JobFault = λ x. and_then (read_rows look lasts 0)
    (read_branches look each (range_with_len 0 x.draft.plan.fork.branches) x) in
    let p = then_ok f (read_rows look firsts 0 r) s is in
    let q = then_ok (read_rows look lasts 0) (read_branches look each (range_with_len 0 p.0.draft.plan.fork.branches)
    p.0) s p.2 in
    record { first = p.0; second = q.0; firsts_read = p.1; each_read = q.1; lasts_read = q.2 }

pub table_from : (look : LookUp) (firsts each lasts : List Row) (r s : Reading) → TableParts look firsts each lasts r s
    → read_table look firsts each lasts r ≡ Ok s
table_from look firsts each lasts r s parts =
    ap (and_then (λ x. and_then (read_rows look lasts 0) (read_branches look each
    (range_with_len 0 x.draft.plan.fork.branches) x))) parts.firsts_read
    ∙ (ap (and_then (read_rows look lasts 0)) parts.each_read ∙ parts.lasts_read)

-- what the rows that tell the plan read alone
pub table_told : (look : LookUp) (firsts each lasts : List Row) (r s : Reading)
    → read_table look firsts each lasts r ≡ Ok s
    → read_table look (filter tells_plan firsts) (filter tells_plan each) (filter tells_plan lasts) r ≡ Ok
    (with_draft s.draft r)
table_told look firsts each lasts r s is =
    let p = table_parts look firsts each lasts r s is in
    let one = with_draft p.first.draft r in
    let two = with_draft p.second.draft one in
    table_from look (filter tells_plan firsts) (filter tells_plan each) (filter tells_plan lasts) r
    (with_draft s.draft r) (record {
      first = one;
      second = two;
      firsts_read = rows_told look firsts 0 r r p.first p.firsts_read refl;
      each_read = branches_told look each (range_with_len 0 p.first.draft.plan.fork.branches) p.first one p.second
          p.each_read refl;
      lasts_read = rows_told look lasts 0 p.second two s p.lasts_read refl;
    })
