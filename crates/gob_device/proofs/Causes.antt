-- Counts of faults over several calls.
use Rattle.std.proofs.Common.{ℕ, ◌≤◌, arith}
use Rattle.gob_device.specs.Causes.{Rose}

-- a count that rose after others that didn't fall
pub rose_after : (before between now : ℕ) → before ≤ between → Rose between now → Rose before now
rose_after before between now later rose = omega (arith, later, rose)
