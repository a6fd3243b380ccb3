-- The names of jobs and of columns.
use Rattle.std.specs.Prelude.{ℕ, Bool, false, ◌&&◌, ◌||◌, not, nat_eq, nat_le, List, [], ◌∷◌, length, codes}
use Rattle.std.specs.List.{list_all}
use Rattle.std.specs.Str.{bytes_eq}
use Rattle.gob_bytes.specs.Escapes.{is_digit, is_plain}

-- a lower-case letter or a digit
abbrev pub is_lower_or_digit : ℕ → Bool
is_lower_or_digit b = (nat_le 97 b && nat_le b 122) || is_digit b

-- a byte of a job's name: a lower-case letter, a digit, '_' or '-'
abbrev pub is_job_byte : ℕ → Bool
is_job_byte b = is_lower_or_digit b || nat_eq b 95 || nat_eq b 45

abbrev pub begins_as_job : List ℕ → Bool
begins_as_job [] = false
begins_as_job (b ∷ bs) = is_lower_or_digit b

-- 1 to 64 such bytes, of which the first is a letter or a digit; `jobs` is the folder of job files
unfoldable pub is_job_name : List ℕ → Bool
is_job_name name = begins_as_job name && nat_le (length name) 64 && list_all is_job_byte name && not
    (bytes_eq name (codes "jobs"))

-- 1 to 64 letters, digits, '.', '_' and '-'
unfoldable pub is_column_name : List ℕ → Bool
is_column_name name = nat_le 1 (length name) && nat_le (length name) 64 && list_all is_plain name
