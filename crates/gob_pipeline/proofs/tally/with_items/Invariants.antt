use Rattle.std.proofs.Common.{drop}
use Rattle.gob_pipeline.proofs.Counting.{Counting}
use Rattle.gob_pipeline.proofs.tally.with_items.Given as goal

abbrev pub invariant-loop-place : goal.invariant-loop-place
invariant-loop-place l = Counting l.made l.branch (drop l.place l.items) l.items
