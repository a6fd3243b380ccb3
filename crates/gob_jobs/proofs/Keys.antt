-- The keys of a pipeline text differ, so each row finds its own value.
use Rattle.std.proofs.Common.{◌≡◌, ◌⊎◌, inl, inr, ℕ, zero, suc, ◌+◌, ◌<◌, ◌≤◌, Bool, true, false, cond, not, ◌&&◌, ◌||◌}
use Rattle.std.proofs.Common.{nat_eq, List, [], ◌∷◌, ◌++◌, map, filter, Option, Some, None, refl, sym, ap, ◌∙◌, arith}
use Rattle.std.specs.Fmt.{digits}
use Rattle.std.specs.Option.{option_or}
use Rattle.std.specs.List.{AllByRecursion, flat_map, list_any, list_all, range_with_len}
use Rattle.std.specs.Str.{bytes_eq}
use Rattle.std.proofs.lemmas.Bool.{true≢false, or_parts, and_parts, and_from, not-true, agree_below_at, cond-true}
use Rattle.std.proofs.lemmas.Bool.{cond-false}
use Rattle.gob_bytes.proofs.Tables.{name_itself}
use Rattle.gob_jobs.specs.Pipelines.{Setting, is_key, last_value}
use Rattle.gob_jobs.specs.KeyTable.{Row, tells_plan, first_rows, branch_rows, last_rows}
use Rattle.gob_jobs.specs.Reading.{LookUp, own_key, spelled_value, setting_of_row, settings_of_rows, plan_settings}

-- ---- the last of different keys

keys_of : List Setting → List (List ℕ)
keys_of settings = map (λ s. s.0) settings

-- no key stands twice
differ : List (List ℕ) → Bool
differ [] = true
differ (k ∷ ks) = not (list_any (bytes_eq k) ks) && differ ks

-- the setting is one of these
Has : List Setting → Setting → Type 0
Has [] s = ⊥
Has (t ∷ ts) s = (t ≡ s) ⊎ Has ts s

not_among : (settings : List Setting) (key : List ℕ) → list_any (bytes_eq key) (keys_of settings) ≡ false
    → last_value settings key ≡ None
unfolding keys_of
not_among [] key none = refl
not_among (s ∷ ss) key none =
    let p = or_parts (bytes_eq key s.0) (list_any (bytes_eq key) (keys_of ss)) none in
    ap (λ o. option_or o (cond (bytes_eq key s.0) (Some s.1) None)) (not_among ss key p.1)
    ∙ cond-false _ (Some s.1) None p.0

last_own : (settings : List Setting) (s : Setting) → differ (keys_of settings) ≡ true → Has settings s
    → last_value settings s.0 ≡ Some s.1
unfolding keys_of differ Has
last_own [] s apart has = absurd has
last_own (t ∷ ts) s apart (inl e) =
    let p = and_parts (not (list_any (bytes_eq t.0) (keys_of ts))) (differ (keys_of ts)) apart in
    let none = not_among ts t.0 (not-true _ p.0) in
    ap (λ (u : Setting). last_value (t ∷ ts) u.0) (sym e)
    ∙ (ap (λ o. option_or o (cond (bytes_eq t.0 t.0) (Some t.1) None)) none
    ∙ (cond-true _ (Some t.1) None (name_itself t.0) ∙ ap (λ (u : Setting). Some u.1) e))
last_own (t ∷ ts) s apart (inr has) =
    let p = and_parts (not (list_any (bytes_eq t.0) (keys_of ts))) (differ (keys_of ts)) apart in
    ap (λ o. option_or o (cond (bytes_eq s.0 t.0) (Some t.1) None)) (last_own ts s p.1 has)

has_left : (xs ys : List Setting) (s : Setting) → Has xs s → Has (xs ++ ys) s
unfolding Has
has_left [] ys s has = absurd has
has_left (x ∷ xs) ys s (inl e) = inl e
has_left (x ∷ xs) ys s (inr has) = inr (has_left xs ys s has)

has_right : (xs ys : List Setting) (s : Setting) → Has ys s → Has (xs ++ ys) s
unfolding Has
has_right [] ys s has = has
has_right (x ∷ xs) ys s has = inr (has_right xs ys s has)

-- ---- each row's setting

-- a set of settings that has those of the rows
RowsIn : LookUp → ℕ → List Setting → List Row → Type 0
RowsIn look b settings rows = AllByRecursion (λ row. Has settings (setting_of_row look b row)) rows

rows_later : (look : LookUp) (b : ℕ) (s : Setting) (settings : List Setting) (rows : List Row)
    → RowsIn look b settings rows → RowsIn look b (s ∷ settings) rows
unfolding RowsIn Has
rows_later look b s settings [] all = tt
rows_later look b s settings (row ∷ rows) all = (inr all.0, rows_later look b s settings rows all.1)

rows_in : (look : LookUp) (b : ℕ) (rows : List Row) → RowsIn look b (map (setting_of_row look b) rows) rows
unfolding RowsIn Has
rows_in look b [] = tt
rows_in look b (row ∷ rows) = (
  inl refl,
  rows_later look b (setting_of_row look b row)
      (map (setting_of_row look b) rows) rows (rows_in look b rows),
)

rows_left : (look : LookUp) (b : ℕ) (xs ys : List Setting) (rows : List Row) → RowsIn look b xs rows
    → RowsIn look b (xs ++ ys) rows
unfolding RowsIn
rows_left look b xs ys [] all = tt
rows_left look b xs ys (row ∷ rows) all = (
  has_left xs ys (setting_of_row look b row) all.0,
  rows_left look b xs ys rows all.1,
)

rows_right : (look : LookUp) (b : ℕ) (xs ys : List Setting) (rows : List Row) → RowsIn look b ys rows
    → RowsIn look b (xs ++ ys) rows
unfolding RowsIn
rows_right look b xs ys [] all = tt
rows_right look b xs ys (row ∷ rows) all = (
  has_right xs ys (setting_of_row look b row) all.0,
  rows_right look b xs ys rows all.1,
)

branches_right : (look : LookUp) (xs ys : List Setting) (rows : List Row) (bs : List ℕ)
    → AllByRecursion (λ b. RowsIn look b ys rows) bs → AllByRecursion (λ b. RowsIn look b (xs ++ ys) rows) bs
branches_right look xs ys rows [] all = tt
branches_right look xs ys rows (b ∷ bs) all = (
  rows_right look b xs ys rows all.0,
  branches_right look xs ys rows bs all.1,
)

branches_in : (look : LookUp) (rows : List Row) (bs : List ℕ)
    → AllByRecursion (λ b. RowsIn look b (flat_map (λ c. map (setting_of_row look c) rows) bs) rows) bs
branches_in look rows [] = tt
branches_in look rows (b ∷ bs) =
    let own = map (setting_of_row look b) rows in
    let later = flat_map (λ c. map (setting_of_row look c) rows) bs in (
      rows_left look b own later rows (rows_in look b rows),
      branches_right look own later rows bs
          (branches_in look rows bs),
    )

-- ---- the value of each row

-- the settings have each row's own value
abbrev pub HasValues : LookUp → List Setting → ℕ → List Row → Type 0
HasValues look settings b rows = AllByRecursion (λ row. last_value settings (own_key row b) ≡ Some
    (spelled_value look row b)) rows

rows_values : (look : LookUp) (settings : List Setting) (b : ℕ) (rows : List Row) → differ (keys_of settings) ≡ true
    → RowsIn look b settings rows → HasValues look settings b rows
unfolding RowsIn
rows_values look settings b [] apart all = tt
rows_values look settings b (row ∷ rows) apart all =
    (last_own settings (setting_of_row look b row) apart all.0, rows_values look settings b rows apart all.1)

branches_values : (look : LookUp) (settings : List Setting) (rows : List Row) (bs : List ℕ)
    → differ (keys_of settings) ≡ true
    → AllByRecursion (λ b. RowsIn look b settings rows) bs → AllByRecursion (λ b. HasValues look settings b rows) bs
branches_values look settings rows [] apart all = tt
branches_values look settings rows (b ∷ bs) apart all =
    (rows_values look settings b rows apart all.0, branches_values look settings rows bs apart all.1)

-- the keys of at most 8 branches differ
keys_differ : (look : LookUp) (branches : ℕ) → branches < 9 → differ (keys_of (plan_settings look branches)) ≡ true
unfolding differ keys_of first_rows branch_rows digits
keys_differ look branches few = agree_below_at (λ n. differ (keys_of (plan_settings look n))) (λ n. true) 9 branches
    refl few

pub first_values : (look : LookUp) (branches : ℕ) → branches < 9
    → HasValues look (plan_settings look branches) 0 (filter tells_plan first_rows)
first_values look branches few =
    let own = map (setting_of_row look 0) (filter tells_plan first_rows) in
    let later = flat_map (λ b. map (setting_of_row look b) (filter tells_plan branch_rows)) (range_with_len 0 branches)
    in
    rows_values look (plan_settings look branches) 0 (filter tells_plan first_rows) (keys_differ look branches few)
    (rows_left look 0 own later (filter tells_plan first_rows) (rows_in look 0 (filter tells_plan first_rows)))

pub branch_values : (look : LookUp) (branches : ℕ) → branches < 9
    → AllByRecursion (λ b. HasValues look (plan_settings look branches) b (filter tells_plan branch_rows))
    (range_with_len 0 branches)
branch_values look branches few =
    let own = map (setting_of_row look 0) (filter tells_plan first_rows) in
    let later = flat_map (λ b. map (setting_of_row look b) (filter tells_plan branch_rows)) (range_with_len 0 branches)
    in
    branches_values look (plan_settings look branches) (filter tells_plan branch_rows) (range_with_len 0 branches)
    (keys_differ look branches few)
    (branches_right look own later (filter tells_plan branch_rows) (range_with_len 0 branches)
    (branches_in look (filter tells_plan branch_rows) (range_with_len 0 branches)))
