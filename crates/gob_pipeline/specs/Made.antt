-- Buffers for what the lines of a unit send.
use Rattle.std.specs.Prelude.{◌≡◌, ℕ, zero, suc, ◌+◌, ◌*◌, ◌-◌, ◌/◌, ◌%◌, Bool, true, ◌&&◌, nat_eq, nat_lt}
use Rattle.std.specs.Prelude.{if◌then◌else◌, cond}
use Rattle.std.specs.Prelude.{List, [], ◌∷◌, ◌++◌, length, map}
use Rattle.std.specs.Option.{unwrap_or}
use Rattle.std.specs.List.{slice_get, list_all, flat_map, enumerate_from}
use Rattle.gob_bytes.specs.Escapes.{is_plain}
use Rattle.gob_bytes.specs.Tables.{Table, at_name, names_of, IsInByteOrder}
use Rattle.gob_meaning.specs.Items.{Target, out, err, bad}
use Rattle.gob_meaning.specs.Fold.{Delivery, sent_to}
use Rattle.gob_meaning.specs.Laws.{is_folder}
use Rattle.gob_pipeline.specs.declared.buffers.Target.{Target as CodeTarget}
use Rattle.gob_pipeline.specs.declared.buffers.Target.TheVariants as target

-- buffers by place, for bad lines and then for what each branch writes and what it refuses
abbrev pub Buffers : Type 0
Buffers = List (Table (List ℕ))

abbrev pub slot_of : Target → ℕ
slot_of (out branch place) = 2 * branch + 1
slot_of (err branch place) = 2 * branch + 2
slot_of bad = 0

abbrev pub place_in : Target → List ℕ
place_in (out branch place) = place
place_in (err branch place) = place
place_in bad = []

-- the bytes in the buffer of a target
abbrev pub buffer_of : Buffers → Target → List ℕ
buffer_of buffers t = unwrap_or (at_name (unwrap_or (slice_get buffers (slot_of t)) []) (place_in t)) []

-- to each target these deliveries were added at its end
abbrev pub AddsTo : Buffers → Buffers → List Delivery → Type 0
AddsTo before after given = (t : Target) → buffer_of after t ≡ buffer_of before t ++ sent_to t given

-- no buffer has a byte
abbrev pub AreEmpty : Buffers → Type 0
AreEmpty buffers = (t : Target) → buffer_of buffers t ≡ []

-- a place without a byte
abbrev pub emptied_place : List ℕ × List ℕ → List ℕ × List ℕ
emptied_place e = (e.0, [])

-- the same places, each without a byte
abbrev pub emptied_table : Table (List ℕ) → Table (List ℕ)
emptied_table table = map emptied_place table

-- so many slots without a place
abbrev pub no_places : ℕ → Buffers
no_places zero = []
no_places (suc n) = [] ∷ no_places n

-- ---- places and targets

-- a byte that a place may have: a plain one or '/'
abbrev pub is_place_byte : ℕ → Bool
is_place_byte b = cond (is_plain b) true (nat_eq b 47)

-- a folder that a name can have: empty, or plain bytes with a '/' at the end
abbrev pub is_place : List ℕ → Bool
is_place place = is_folder place && list_all is_place_byte place

-- a target with a place that a name can have
abbrev pub is_placed : Target → Bool
is_placed (out branch place) = is_place place
is_placed (err branch place) = is_place place
is_placed bad = true

-- the target that code names
abbrev pub target_value : CodeTarget → Target
target_value (target.Out branch place) = out branch place.now
target_value (target.Err branch place) = err branch place.now
target_value target.Bad = bad

-- the target of a place in a slot: in odd slots what a branch writes, in even ones what it refuses
abbrev pub target_in : ℕ → List ℕ → Target
target_in zero place = bad
target_in (suc n) place = cond (nat_eq (n % 2) 0) (out (n / 2) place) (err (n / 2) place)

-- ---- slots

-- the buffers of one slot: in byte order of places, all of them folders; bad lines have one place alone
pub record IsSlot (slot : ℕ) (table : Table (List ℕ)) : Type 0 where
  pub rising : IsInByteOrder (names_of table)
  pub places : list_all is_place (names_of table) ≡ true
  pub bad_lines : slot ≡ 0 → list_all (λ place. nat_eq (length place) 0) (names_of table) ≡ true

-- all slots, the first of which has this number
abbrev pub AreSlotsFrom : ℕ → Buffers → Type 0
AreSlotsFrom slot [] = Unit {0}
AreSlotsFrom slot (table ∷ tables) = IsSlot slot table × AreSlotsFrom (suc slot) tables

abbrev pub AreSlots : Buffers → Type 0
AreSlots buffers = AreSlotsFrom 0 buffers

-- ---- what is in the buffers

-- what the buffer of a place holds, where it holds something
abbrev pub filled_place : ℕ → List ℕ × List ℕ → List Delivery
filled_place slot (place, []) = []
filled_place slot (place, b ∷ bs) = record { target = target_in slot place; bytes = b ∷ bs } ∷ []

-- the targets that have bytes, in order of slots and then of places
abbrev pub filled_slot : ℕ × Table (List ℕ) → List Delivery
filled_slot e = flat_map (filled_place e.0) e.1

unfoldable pub filled_targets : Buffers → List Delivery
filled_targets buffers = flat_map filled_slot (enumerate_from 0 buffers)
