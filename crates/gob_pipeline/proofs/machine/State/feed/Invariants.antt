use Rattle.std.proofs.Common.{◌≡◌, length}
use Rattle.gob_pipeline.proofs.Feeding.{FedSoFar}
use Rattle.gob_pipeline.proofs.machine.State.feed.Given as goal

abbrev pub invariant-lines : goal.invariant-lines
invariant-lines l = record {
  fed : FedSoFar l.pipeline l.fn.self l.self l.fn.piece l.left l.fn.buffers l.buffers;
  lo : l.self.lo ≡ l.fn.self.lo;
  counts : length l.self.tally.counts.branches ≡ length l.fn.self.tally.counts.branches;
  buffers : length l.buffers ≡ length l.fn.buffers;
}

abbrev pub decreases-lines : goal.decreases-lines
decreases-lines l = length l.left
