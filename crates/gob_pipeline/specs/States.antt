-- The state of a machine, as its value.
use Rattle.std.specs.Prelude.{◌≡◌, ℕ, true, false, List, [], ◌++◌}
use Rattle.gob_plan.specs.declared.plan.Plan.{Plan}
use Rattle.gob_meaning.specs.Items.{LineMade}
use Rattle.gob_pipeline.specs.Made.{Buffers}
use Rattle.gob_pipeline.specs.Machine.{MachineValue, LineTaken, line_start}
use Rattle.gob_pipeline.specs.Taking.{LineMakes}
use Rattle.gob_pipeline.specs.declared.machine.State.{State}

abbrev pub state_value : State → MachineValue
state_value s = record {
  lo = s.lo;
  seen = s.seen;
  line = s.line.items;
  counts = s.tally.counts;
  bad_left = s.tally.bad_left;
  stop = s.tally.stop;
  torn = s.torn;
  broken = s.broken;
}

-- a line that ended with these bytes was taken; what was seen isn't counted yet
pub record TakesEnd (plan : Plan) (old new : State) (last : List ℕ) (before after : Buffers) : Type 0 where
  pub whole : new.broken ≡ old.broken
  pub line : new.line.items ≡ []
  pub made : LineMade
  pub makes : LineMakes plan (line_start (state_value old)) (old.line.items ++ last) made
  pub taken : LineTaken plan (state_value old) (state_value new) (line_start (state_value old)) made before after
