-- Where a name stands in a table, and the table without it.
use Rattle.std.specs.Prelude.{◌≡◌, ℕ, zero, suc, ◌<◌, ◌≤◌, cond, List, [], ◌∷◌, length, slice_index_or}
use Rattle.std.specs.declared.option.Option.TheVariants.{None}
use Rattle.std.specs.Ordering.{is_gt}
use Rattle.std.specs.Str.{bytes_eq}
use Rattle.gob_bytes.specs.Tables.{Table, name_cmp, at_name}

-- how many names at the front are below this one
abbrev pub rank_of : {X : Type 0} → Table X → List ℕ → ℕ
rank_of [] name = zero
rank_of (e ∷ es) name = cond (is_gt (name_cmp name e.0)) (suc (rank_of es name)) zero

-- the table with nothing at the name
abbrev pub without_name : {X : Type 0} → Table X → List ℕ → Table X
without_name [] name = []
without_name (e ∷ es) name = cond (bytes_eq name e.0) es (e ∷ without_name es name)

-- the name stands here
pub record StandsAt {X : Type 0} (t : Table X) (name : List ℕ) (place : ℕ) : Type 0 where
  pub rank : rank_of t name ≡ place
  pub within : place < length t
  pub named : (d : List ℕ × X) → (slice_index_or t place d).0 ≡ name

-- the name isn't there, and goes here
pub record GoesAt {X : Type 0} (t : Table X) (name : List ℕ) (place : ℕ) : Type 0 where
  pub rank : rank_of t name ≡ place
  pub within : place ≤ length t
  pub absent : at_name t name ≡ None
