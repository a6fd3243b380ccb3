-- For every cut of a unit's bytes into pieces, a machine makes the same.
use Rattle.std.specs.Prelude.{◌≡◌, ℕ, Bool, true, false, not, ◌||◌, ◌&&◌, nat_lt, List, [], ◌∷◌, ◌++◌, length}
use Rattle.std.specs.declared.option.Option.TheVariants.{None, Some}
use Rattle.gob_bytes.specs.Lines.{Line, raw_of, has_no_feed}
use Rattle.gob_plan.specs.declared.units.Cause.{Cause}
use Rattle.std.specs.List.{flat_map, list_all}
use Rattle.gob_plan.specs.declared.plan.Plan.{Plan}
use Rattle.gob_meaning.specs.Items.{Target, LineMade, line_made}
use Rattle.gob_meaning.specs.Fold.{Delivery, sent_to, same_target}
use Rattle.gob_pipeline.specs.Made.{Buffers, AddsTo, AreEmpty, AreSlots, buffer_of, filled_targets, is_placed, slot_of}
use Rattle.gob_pipeline.specs.Machine.{MachineValue, is_nil, WasFed, sent_before_stop, Fed, LineTaken, line_start}
use Rattle.gob_pipeline.specs.Machine.{MachineGoesOn}

-- the pieces were fed one after the other, each to the machine that the one before left
abbrev pub FedAll : Plan → MachineValue → List (List ℕ) → MachineValue → Buffers → Buffers → Type 0
FedAll plan old [] new before after = (old ≡ new) × (before ≡ after)
FedAll plan old (piece ∷ pieces) new before after =
    (between : MachineValue) × (so_far : Buffers)
    × Fed plan old between piece before so_far × FedAll plan between pieces new so_far after

-- whatever the pieces are, a machine that wasn't fed before knows of all their bytes, and each target was sent what
-- they
-- make up to the line that stops them
abbrev pub AnyCutMakesTheSame : Type 0
AnyCutMakesTheSame = (plan : Plan) (old new : MachineValue) (pieces : List (List ℕ)) (before after : Buffers)
    → WasFed plan old [] → FedAll plan old pieces new before after
    → let bytes = flat_map (λ piece. piece) pieces in
    WasFed plan new bytes
    × ((t : Target) → buffer_of after t ≡ buffer_of before t ++ sent_to t (sent_before_stop plan old.lo bytes))

-- ---- the steps of a machine

-- the end of a line, where nothing stopped the machine before: the line is taken, with what was kept of it
abbrev pub EndsOfLinesAreFed : Type 0
EndsOfLinesAreFed = (plan : Plan) (old new : MachineValue) (x : List ℕ) (l : LineMade) (before after : Buffers)
    → has_no_feed x ≡ true → old.stop ≡ None
    → ((line : Line) → raw_of line ≡ old.line ++ (x ++ 10 ∷ []) → line_made plan (line_start old) line ≡ l)
    → MachineGoesOn old new (length (x ++ 10 ∷ [])) false → new.line ≡ []
    → LineTaken plan old new (line_start old) l before after
    → Fed plan old new (x ++ 10 ∷ []) before after

-- bytes that end no line: they are kept behind what was kept
abbrev pub RestsAreFed : Type 0
RestsAreFed = (plan : Plan) (old new : MachineValue) (x : List ℕ) (b : Buffers)
    → has_no_feed x ≡ true → MachineGoesOn old new (length x) (old.torn || not (is_nil x)) → new.stop ≡ old.stop
    → new.counts ≡ old.counts → new.bad_left ≡ old.bad_left → (old.stop ≡ None → new.line ≡ old.line ++ x)
    → Fed plan old new x b b

-- the end of a line behind the stop: it is passed over
abbrev pub BytesBehindAStopAreFed : Type 0
BytesBehindAStopAreFed = (plan : Plan) (old new : MachineValue) (x : List ℕ) (c : Cause) (b : Buffers)
    → has_no_feed x ≡ true → old.stop ≡ Some c → MachineGoesOn old new (length (x ++ 10 ∷ [])) false → new.stop
    ≡ old.stop
    → Fed plan old new (x ++ 10 ∷ []) b b

-- ---- what is in the buffers

abbrev pub has_bytes : List ℕ → Bool
has_bytes bytes = not (is_nil bytes)

-- no two of these have one target
abbrev pub all_apart : List Delivery → Bool
all_apart [] = true
all_apart (d ∷ ds) = list_all (λ e. not (same_target d.target e.target)) ds && all_apart ds

-- the targets that have bytes, each once and with all its bytes, have places that a name can have and slots that are
-- there
pub record IsFilled (buffers : Buffers) : Type 0 where
  pub sent : (t : Target) → sent_to t (filled_targets buffers) ≡ buffer_of buffers t
  pub placed : list_all (λ d. is_placed d.target) (filled_targets buffers) ≡ true
  pub within : list_all (λ d. nat_lt (slot_of d.target) (length buffers)) (filled_targets buffers) ≡ true
  pub some : list_all (λ d. has_bytes d.bytes) (filled_targets buffers) ≡ true
  pub apart : all_apart (filled_targets buffers) ≡ true

abbrev pub FilledBuffersAreSent : Type 0
FilledBuffersAreSent = (buffers : Buffers) → AreSlots buffers → IsFilled buffers

-- what was added to empty buffers is what is in them: who appends each of them to its target's file has appended to
-- each target what was sent to it
abbrev pub PiecesFillBuffers : Type 0
PiecesFillBuffers = (before after : Buffers) (given : List Delivery) → AreEmpty before → AddsTo before after given
    → AreSlots after → (t : Target) → sent_to t given ≡ sent_to t (filled_targets after)
