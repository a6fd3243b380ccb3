-- Numbers and names that are read or refused.
use Rattle.std.proofs.Common.{◌≡◌, true, false, [], Some, None, refl, pos, negsuc, replicate}
use Rattle.std.proofs.Common.{ℕ, Bool, List, ◌∷◌, map, filter}
use Rattle.std.specs.Prelude.{codes}
use Rattle.std.specs.Fmt.{digits}
use Rattle.gob_bytes.specs.Lines.{text_of, lines, lines_from, rest, rest_from, line_ends, first_end, last_end}
use Rattle.gob_bytes.specs.Lines.{ends_in_lf}
use Rattle.gob_bytes.specs.Paths.{job_file, state_name, delta_name, sequence_name, attempt_folder, keeps_state}
use Rattle.gob_bytes.specs.Paths.{is_published}
use Rattle.gob_bytes.specs.Words.{words, numbered_line}
use Rattle.gob_bytes.specs.Numbers.{number_read, integer_read}
use Rattle.gob_bytes.specs.Names.{is_job_name, is_column_name, is_lower_or_digit, is_job_byte}
use Rattle.gob_bytes.specs.Digits.{padded_digits, offset}
use Rattle.gob_bytes.specs.Escapes.{escape_of, is_letter, is_digit, is_plain}
use Rattle.percent_encoding.specs.Percent.{percent_encode_byte}

pub numbers : (number_read (codes "0") ≡ Some 0)
    × (number_read (codes "18446744073709551615") ≡ Some 18446744073709551615)
unfolding number_read
numbers = (refl, refl)

pub no_numbers : (number_read [] ≡ None) × (number_read (codes "00") ≡ None) × (number_read (codes "07") ≡ None)
    × (number_read (codes "+7") ≡ None) × (number_read (codes "7 ") ≡ None)
    × (number_read (codes "18446744073709551616") ≡ None)
unfolding number_read
no_numbers = (refl, refl, refl, refl, refl, refl)

pub integers : (integer_read (codes "-9223372036854775808") ≡ Some (negsuc 9223372036854775807))
    × (integer_read (codes "9223372036854775807") ≡ Some (pos 9223372036854775807))
    × (integer_read (codes "-007") ≡ Some (negsuc 6)) × (integer_read (codes "-0") ≡ Some (pos 0))
unfolding integer_read
integers = (refl, refl, refl, refl)

pub no_integers : (integer_read (codes "9223372036854775808") ≡ None)
    × (integer_read (codes "-9223372036854775809") ≡ None) × (integer_read (codes "-") ≡ None)
    × (integer_read (codes "+7") ≡ None) × (integer_read [] ≡ None) × (integer_read (codes "--7") ≡ None)
unfolding integer_read
no_integers = (refl, refl, refl, refl, refl, refl)

pub jobs : (is_job_name (codes "a-b_9") ≡ true) × (is_job_name (codes "9") ≡ true)
    × (is_job_name (codes "jobs2") ≡ true) × (is_job_name (replicate 64 97) ≡ true)
unfolding is_job_name
jobs = (refl, refl, refl, refl)

pub no_jobs : (is_job_name (codes "jobs") ≡ false) × (is_job_name [] ≡ false) × (is_job_name (codes "_a") ≡ false)
    × (is_job_name (codes "A") ≡ false) × (is_job_name (codes "a.b") ≡ false) × (is_job_name (replicate 65 97) ≡ false)
unfolding is_job_name
no_jobs = (refl, refl, refl, refl, refl, refl)

pub columns : (is_column_name (codes "A.b_c-9") ≡ true) × (is_column_name (codes "-") ≡ true)
    × (is_column_name [] ≡ false) × (is_column_name (codes "a b") ≡ false) × (is_column_name (replicate 65 97) ≡ false)
unfolding is_column_name
columns = (refl, refl, refl, refl, refl)

pub written : (offset 4 ≡ codes "00000000000000000004") × (escape_of (codes "web1/a b.log") ≡ codes "web1%2Fa%20b.log")
unfolding padded_digits offset escape_of percent_encode_byte
written = (refl, refl)

-- ---- bytes of names, by kind

-- which of these bytes are so, around the ends of each range
abbrev edges : (ℕ → Bool) → List ℕ
edges test = filter test (44 ∷ 45 ∷ 46 ∷ 47 ∷ 48 ∷ 57 ∷ 58 ∷ 64 ∷ 65 ∷ 90 ∷ 91 ∷ 94 ∷ 95 ∷ 96 ∷ 97 ∷ 122 ∷ 123 ∷ [])

pub bytes_of_names :
    (edges is_letter ≡ 65 ∷ 90 ∷ 97 ∷ 122 ∷ [])
    × (edges is_digit ≡ 48 ∷ 57 ∷ [])
    × (edges is_plain ≡ 45 ∷ 46 ∷ 48 ∷ 57 ∷ 65 ∷ 90 ∷ 95 ∷ 97 ∷ 122 ∷ [])
    × (edges is_lower_or_digit ≡ 48 ∷ 57 ∷ 97 ∷ 122 ∷ [])
    × (edges is_job_byte ≡ 45 ∷ 48 ∷ 57 ∷ 95 ∷ 97 ∷ 122 ∷ [])
bytes_of_names = (refl, refl, refl, refl, refl)

-- ---- lines

pub lines_told :
    (map text_of (lines (codes "ab\nc\r\n\r\r\nd")) ≡ codes "ab" ∷ codes "c" ∷ codes "\r" ∷ [])
    × (line_ends (codes "ab\nc\r\n\r\r\nd") ≡ 3 ∷ 6 ∷ 9 ∷ [])
    × (rest (codes "ab\nc\r\n\r\r\nd") ≡ codes "d")
    × (first_end (codes "ab\nc\n") ≡ Some 3) × (last_end (codes "ab\nc\n") ≡ Some 5)
    × (first_end (codes "ab") ≡ None) × (last_end [] ≡ None)
unfolding lines_from rest_from
lines_told = (refl, refl, refl, refl, refl, refl, refl)

pub ends_in_feeds :
    (ends_in_lf (codes "a\n") ≡ true) × (ends_in_lf (codes "\n") ≡ true)
    × (ends_in_lf (codes "\na") ≡ false) × (ends_in_lf [] ≡ false)
ends_in_feeds = (refl, refl, refl, refl)

-- ---- names of files, and lines of words

pub file_names :
    (job_file (codes "j") ≡ codes "jobs/j.pull") × (state_name (codes "j") ≡ codes "j/state")
    × (delta_name (codes "j") 7 ≡ codes "j/delta/00000000000000000007") × (sequence_name (codes "j") ≡ codes "j/seq")
    × (attempt_folder (codes "j") 12 3 ≡ codes "j/stage/12-3/")
unfolding offset padded_digits digits
file_names = (refl, refl, refl, refl, refl)

pub files_told :
    (map (keeps_state (codes "j")) (codes "j/state" ∷ codes "j/delta/1" ∷ codes "j/states" ∷ codes "j/seq" ∷ [])
    ≡ true ∷ true ∷ false ∷ false ∷ [])
    × (map (is_published (codes "j")) (codes "j/out/a" ∷ codes "j/err/a" ∷ codes "j/state" ∷ codes "k/out/a" ∷ [])
    ≡ true ∷ true ∷ false ∷ false ∷ [])
files_told = (refl, refl)

pub words_written :
    (words (codes "done") (codes "a" ∷ codes "b" ∷ []) ≡ codes "done a b\n")
    × (words (codes "done") [] ≡ codes "done\n")
    × (numbered_line (codes "counts") (12 ∷ 0 ∷ []) ≡ codes "counts 12 0\n")
unfolding digits
words_written = (refl, refl, refl)
