-- A list of partitions as a table.
use Rattle.std.specs.Prelude.{List, [], ◌∷◌, ℕ}
use Rattle.gob_bytes.specs.Tables.{with_name}
use Rattle.gob_device.specs.Supply.{Held}

-- each put into the table in turn, in place of what was there
abbrev pub with_parts : Held → List (List ℕ × List ℕ) → Held
with_parts held [] = held
with_parts held (p ∷ ps) = with_parts (with_name held p.0 p.1) ps

-- of equal names the last one
abbrev pub table_of : List (List ℕ × List ℕ) → Held
table_of parts = with_parts [] parts
