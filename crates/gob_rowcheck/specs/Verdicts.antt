-- A row's verdict, as the definitions see it.
use Rattle.std.specs.Prelude.{◌≡◌, ℕ, ◌+◌}
use Rattle.gob_meaning.specs.Policies.{Ruling, pass, to_error, kill}
use Rattle.gob_rowcheck.specs.declared.verdict.RowEnd.{RowEnd}
use Rattle.gob_rowcheck.specs.declared.verdict.RowEnd.TheVariants.{Pass, ToError, Kill}
use Rattle.gob_rowcheck.specs.declared.verdict.RowVerdict.{RowVerdict}

-- what becomes of the row
abbrev pub end_ruling : RowEnd → Ruling
end_ruling Pass = pass
end_ruling (ToError k) = to_error k
end_ruling (Kill k) = kill k

-- that, with the number of optional policies that failed
abbrev pub ruling_of : RowVerdict → Ruling × ℕ
ruling_of v = (end_ruling v.end, v.optional)

-- a ruling of later policies, where so many optional ones failed before them
abbrev pub counted_ruling : ℕ → Ruling × ℕ → Ruling × ℕ
counted_ruling n later = (later.0, later.1 + n)
