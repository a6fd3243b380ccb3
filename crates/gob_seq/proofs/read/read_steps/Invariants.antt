use Rattle.std.proofs.Common.{length, map}
use Rattle.gob_seq.specs.Steps.{commit_step_of}
use Rattle.gob_seq.proofs.Lines.{ReadUpTo}
use Rattle.gob_seq.proofs.read.read_steps.Given as goal

abbrev pub invariant-loop-steps : goal.invariant-loop-steps
invariant-loop-steps l = ReadUpTo l.fn.words l.words (map commit_step_of l.steps)

abbrev pub decreases-loop-steps : goal.decreases-loop-steps
decreases-loop-steps l = length l.words
