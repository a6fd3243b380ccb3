-- What holds of every table of partitions.
use Rattle.std.specs.Prelude.{◌≡◌, ℕ, List}
use Rattle.std.specs.declared.option.Option.TheVariants.{Some}
use Rattle.gob_bytes.specs.Tables.{Table, at_name, names_of, IsInByteOrder}
use Rattle.gob_ledger.specs.Marks.{Marks, Tiled}

-- names rise, and the marks of every partition are tiled
pub record TiledTable (t : Table Marks) : Type 0 where
  pub names : IsInByteOrder (names_of t)
  pub tiled : (part : List ℕ) (m : Marks) → at_name t part ≡ Some m → Tiled m
