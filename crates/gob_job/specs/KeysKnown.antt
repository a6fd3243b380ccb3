-- Which keys rows have.
use Rattle.std.specs.Prelude.{ℕ, Bool, not, List, filter, map}
use Rattle.std.specs.List.{flat_map, list_any, range_with_len}
use Rattle.std.specs.Str.{bytes_eq}
use Rattle.gob_jobs.specs.Reading.{with_number, keys_of_row, is_known}
use Rattle.gob_job.specs.declared.rows.Row.{Row}
use Rattle.gob_job.specs.Rows.{rows_from}

-- the key is that of one of so many branches
abbrev pub any_number : ℕ → List ℕ → List ℕ → Bool
any_number n k key = list_any (bytes_eq key) (map (with_number k) (range_with_len 0 n))

-- the key is that of one of these rows
abbrev pub keys_known : ℕ → List Row → List ℕ → Bool
keys_known n rows key = list_any (bytes_eq key) (flat_map (keys_of_row n) (rows_from rows))

-- those of these keys that no row has
abbrev pub unknown_of : ℕ → List (List ℕ) → List (List ℕ)
unknown_of branches keys = filter (λ key. not (is_known branches key)) keys
