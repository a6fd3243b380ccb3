-- Items in one buffer: each a place, and behind it a record.
use Rattle.std.specs.Prelude.{◌≤◌, ℕ, ◌-◌, List, [], ◌∷◌, drop, length, map, take}
use Rattle.std.specs.Str.{IsUtf8}
use Rattle.gob_meaning.specs.Items.{RowMade, End, written, error, killed}
use Rattle.gob_branch.specs.declared.items.Item.{Item}
use Rattle.gob_branch.specs.declared.items.ItemEnd.{ItemEnd}
use Rattle.gob_branch.specs.declared.items.ItemEnd.TheVariants.{Written, Error, Killed}
use Rattle.gob_branch.specs.declared.items.Span.{Span}

-- the bytes of a buffer from one place to another
abbrev pub bytes_between : ℕ → ℕ → List ℕ → List ℕ
bytes_between from to bytes = take (to - from) (drop from bytes)

-- what becomes of a row with this record
abbrev pub end_made : ItemEnd → List ℕ → End
end_made Written bytes = written bytes
end_made Error bytes = error bytes
end_made (Killed policy) bytes = killed policy

-- an item of these parts
abbrev pub row_made : ℕ → List ℕ → ℕ → ItemEnd → List ℕ → RowMade
row_made branch place optional end bytes =
    record { branch = branch; place = place; optional = optional; end = end_made end bytes }

-- a lent item
abbrev pub item_value : Item → RowMade
item_value i = row_made i.branch i.place.now i.optional i.end i.record.now

-- the item that stands there
abbrev pub span_made : List ℕ → Span → RowMade
span_made bytes s = row_made s.branch (bytes_between s.place_start s.place_end bytes) s.optional s.end
    (bytes_between s.place_end s.record_end bytes)

abbrev pub rows_made : List ℕ → List Span → List RowMade
rows_made bytes spans = map (span_made bytes) spans

-- the item stands in the buffer, its place before its record, and the place is a text
pub record ItemIsWithin (bytes : List ℕ) (s : Span) : Type 0 where
  pub place : s.place_start ≤ s.place_end
  pub placed : s.place_end ≤ s.record_end
  pub end : s.record_end ≤ length bytes
  pub text : IsUtf8 (bytes_between s.place_start s.place_end bytes)

abbrev pub ItemsAreWithin : List ℕ → List Span → Type 0
ItemsAreWithin bytes [] = Unit {0}
ItemsAreWithin bytes (s ∷ ss) = ItemIsWithin bytes s × ItemsAreWithin bytes ss
