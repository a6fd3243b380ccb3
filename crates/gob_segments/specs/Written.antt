-- What of a partition a change spells.
use Rattle.std.specs.Prelude.{ℕ, List, [], if◌then◌else◌, not, nat_lt}
use Rattle.std.specs.List.{filter, flat_map}
use Rattle.gob_bytes.specs.Tables.{Table}
use Rattle.gob_ledger.specs.Marks.{Marks, Done, Span, has, is_done}
use Rattle.gob_ledger.specs.Spelling.{part_text, version_2}
use Rattle.gob_ledger.specs.Delta.{changed_marks, has_ranges}
use Rattle.gob_marks.specs.Changed.{marks_in}

-- the text of what has changed of a partition, where something has
abbrev pub changed_text : List ℕ → Marks → Marks → List ℕ
changed_text part before after =
    if has_ranges (part, changed_marks before after)
    then part_text version_2 (part, changed_marks before after)
    else []

-- the texts of all partitions that have changed
abbrev pub changed_texts : Table Marks → Table Marks → List ℕ
changed_texts before after = flat_map (λ e. changed_text e.0 (marks_in before e.0) e.1) after

-- the done ranges that begin where nothing was done
abbrev pub new_done : Marks → List Done → List Done
new_done before after = filter (λ d. not (is_done d.span.lo before)) after

-- the open ranges that begin behind what was taken
abbrev pub new_open : ℕ → List Span → List Span
new_open from after = filter (λ s. not (nat_lt s.lo from)) after

-- the done ranges that begin in this range
abbrev pub begun_in : Span → List Done → List Done
begun_in s ds = filter (λ d. has d.span.lo s) ds

-- those that begin at this offset or behind it
abbrev pub done_from : ℕ → List Done → List Done
done_from at ds = filter (λ d. not (nat_lt d.span.lo at)) ds
