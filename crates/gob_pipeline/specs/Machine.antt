-- What a machine knows of the bytes that it was fed.
use Rattle.std.specs.Prelude.{◌≡◌, ℕ, ◌+◌, ◌-◌, Bool, true, false, not, List, [], ◌∷◌, ◌++◌, length}
use Rattle.std.specs.declared.option.Option.{Option}
use Rattle.std.specs.declared.option.Option.TheVariants.{None}
use Rattle.gob_bytes.specs.Lines.{rest}
use Rattle.gob_plan.specs.declared.plan.Plan.{Plan}
use Rattle.gob_plan.specs.declared.units.Cause.{Cause}
use Rattle.gob_plan.specs.declared.units.Counts.{Counts}
use Rattle.gob_meaning.specs.Fold.{Delivery, unit_fold, deliveries_of, counts_of, stop_of, before_stop, line_stop}
use Rattle.gob_meaning.specs.Fold.{before_stop_from, left_after}
use Rattle.gob_meaning.specs.Items.{LineMade}
use Rattle.gob_meaning.specs.Sums.{sum_of}
use Rattle.gob_meaning.specs.Laws.{bad_line_count}
use Rattle.gob_pipeline.specs.Made.{Buffers, AddsTo}

-- where its unit begins, how many bytes it was fed, the bytes of the line that hasn't ended, what was counted, how many
-- bad lines may still pass, why it stopped, whether bytes stand behind the last line feed, and whether it wanted memory
pub record MachineValue : Type 0 where
  pub lo : ℕ
  pub seen : ℕ
  pub line : List ℕ
  pub counts : Counts
  pub bad_left : ℕ
  pub stop : Option Cause
  pub torn : Bool
  pub broken : Bool

abbrev pub is_nil : List ℕ → Bool
is_nil [] = true
is_nil (b ∷ bs) = false

-- the machine has been fed these bytes, from its unit's beginning on
pub record WasFed (plan : Plan) (m : MachineValue) (fed : List ℕ) : Type 0 where
  pub whole : m.broken ≡ false
  pub seen : m.seen ≡ length fed
  pub stop : m.stop ≡ stop_of plan (unit_fold plan m.lo fed)
  pub torn : m.torn ≡ not (is_nil (rest fed))
  pub line : m.stop ≡ None → m.line ≡ rest fed
  pub counts : m.stop ≡ None → m.counts ≡ counts_of plan (unit_fold plan m.lo fed)
  pub bad_left : m.stop ≡ None → m.bad_left ≡ plan.skip_errors - bad_line_count (unit_fold plan m.lo fed)

-- what the lines before the stop send
unfoldable pub sent_before_stop : Plan → ℕ → List ℕ → List Delivery
sent_before_stop plan lo fed = deliveries_of (before_stop plan (unit_fold plan lo fed))

-- what one more piece sends: behind what was sent before it is what both together send
pub record Sends (plan : Plan) (lo : ℕ) (fed piece : List ℕ) (before after : Buffers) : Type 0 where
  pub given : List Delivery
  pub all : sent_before_stop plan lo (fed ++ piece) ≡ sent_before_stop plan lo fed ++ given
  pub added : AddsTo before after given

-- one more piece was fed, and what came of it was added to the buffers
pub record Fed (plan : Plan) (old new : MachineValue) (piece : List ℕ) (before after : Buffers) : Type 0 where
  pub lo : new.lo ≡ old.lo
  pub goes : (fed : List ℕ) → WasFed plan old fed
      → WasFed plan new (fed ++ piece) × Sends plan old.lo fed piece before after

-- ---- the steps of a machine, piece by piece

-- a line that begins here was taken and makes this: what it sends was added to the buffers, but of one that stops the
-- machine
pub record LineTaken (plan : Plan) (old new : MachineValue) (at : ℕ) (l : LineMade) (before after : Buffers)
    : Type 0 where
  pub stop : new.stop ≡ line_stop old.bad_left at l
  pub added : AddsTo before after (deliveries_of (before_stop_from old.bad_left (record { at = at; made = l } ∷ [])))
  pub counts : new.stop ≡ None → new.counts ≡ sum_of old.counts (counts_of plan (record { at = at; made = l } ∷ []))
  pub bad_left : new.stop ≡ None → new.bad_left ≡ left_after old.bad_left l

-- where the line that hasn't ended begins
abbrev pub line_start : MachineValue → ℕ
line_start m = m.lo + (m.seen - length m.line)

-- the machine went on by so many bytes, behind which this is left of a line
pub record MachineGoesOn (old new : MachineValue) (bytes : ℕ) (torn_now : Bool) : Type 0 where
  pub lo : new.lo ≡ old.lo
  pub seen : new.seen ≡ old.seen + bytes
  pub torn : new.torn ≡ torn_now
  pub whole : new.broken ≡ old.broken
