use Rattle.std.proofs.Common.{◌≡◌, flat_map, length, take}
use Rattle.gob_meaning.specs.Fold.{delivery_of}
use Rattle.gob_pipeline.specs.Made.{AddsTo}
use Rattle.gob_pipeline.proofs.tally.send_items.Given as goal

abbrev pub invariant-loop-place : goal.invariant-loop-place
invariant-loop-place l = record {
  slots : length l.buffers ≡ length l.fn.buffers;
  added : AddsTo l.fn.buffers l.buffers (flat_map delivery_of (take l.place l.items));
}
