-- What a source holds, and what was pulled from it.
use Rattle.std.specs.Prelude.{◌≡◌, ◌≢◌, ℕ, ◌-◌, ◌^◌, ◌≤◌, if◌then◌else◌, nat_eq, unwrap_or}
use Rattle.std.specs.Prelude.{List, [], ◌∷◌, ◌++◌, map, length, take, drop, All}
use Rattle.gob_bytes.specs.Tables.{Table, at_name, names_of, IsInByteOrder}

-- partitions and their bytes
abbrev pub Held : Type 0
Held = Table (List ℕ)

-- a pull that was answered: the partition, the offset and how many bytes were asked for
pub record Pull : Type 0 where
  pub part : List ℕ
  pub at : ℕ
  pub len : ℕ

-- a source that tells
pub record Supply : Type 0 where
  pub held : Held
  pub pulls : List Pull

abbrev pub with_pull : Pull → Supply → Supply
with_pull p s = record s { pulls = s.pulls ++ p ∷ [] }

-- pulls that were answered one after the other
abbrev pub with_pulls : List Pull → Supply → Supply
with_pulls ps s = record s { pulls = s.pulls ++ ps }

-- a partition's bytes; one that isn't there has none
abbrev pub bytes_at : Held → List ℕ → List ℕ
bytes_at held part = unwrap_or (at_name held part) []

-- what a partition has from an offset on, at most so many
unfoldable pub bytes_from : Held → List ℕ → ℕ → ℕ → List ℕ
bytes_from held part at len = take len (drop at (bytes_at held part))

-- the partitions and their sizes
abbrev pub listing_of : Held → List (List ℕ × ℕ)
listing_of held = map (λ e. (e.0, length e.1)) held

-- a line feed for a line feed, and 0 for every other byte
abbrev pub line_end_or_zero : ℕ → ℕ
line_end_or_zero b = if nat_eq b 10 then 10 else 0

unfoldable pub seen_by_look : List ℕ → List ℕ
seen_by_look bytes = map line_end_or_zero bytes

-- the front of a buffer holds these bytes, and the answer is their number
pub record Fills (buffer : List ℕ) (answer : ℕ) (bytes : List ℕ) : Type 0 where
  pub number : answer ≡ length bytes
  pub front : take answer buffer ≡ bytes

-- a partition's entry in a listing: it has a name and a size that fits
pub record IsEntry (name : List ℕ) (size : ℕ) : Type 0 where
  pub named : name ≢ []
  pub fits : size ≤ 2 ^ 63 - 1

-- a listing: byte order of names, each once, with names and sizes that fit
pub record IsListed (listing : List (List ℕ × ℕ)) : Type 0 where
  pub rising : IsInByteOrder (names_of listing)
  pub entries : All (λ e. IsEntry e.0 e.1) listing
