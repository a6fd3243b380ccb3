-- Changes of one partition's marks, and of a table of partitions.
use Rattle.std.specs.Prelude.{ℕ, ◌++◌, List, [], ◌∷◌}
use Rattle.std.specs.Option.{unwrap_or}
use Rattle.gob_bytes.specs.Tables.{Table, at_name, with_name}
use Rattle.gob_ledger.specs.Marks.{Marks, Span}
use Rattle.gob_ledger.specs.Next.{no_marks}

-- the range from next to here
abbrev pub next_span : Marks → ℕ → Span
next_span m hi = record { lo = m.next; hi = hi }

-- a new range is done at once
abbrev pub with_new_done : ℕ → Span → Marks → Marks
with_new_done pipeline s m =
    record m { next = s.hi; finished = m.finished ++ record { span = s; pipeline = pipeline } ∷ [] }

-- the marks of a partition, which has none at first
abbrev pub marks_in : Table Marks → List ℕ → Marks
marks_in t part = unwrap_or (at_name t part) no_marks

-- the table with the marks of one partition changed
abbrev pub change_marks : (Marks → Marks) → List ℕ → Table Marks → Table Marks
change_marks f part t = with_name t part (f (marks_in t part))
