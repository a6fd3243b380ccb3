-- Changes of one name only.
use Rattle.std.proofs.Common.{ℕ, List, ◌∙◌}
use Rattle.gob_device.specs.Disk.{Files, OnlyAt}

pub only_at_then : (name : List ℕ) (m n k : Files) → OnlyAt name m n → OnlyAt name n k → OnlyAt name m k
only_at_then name m n k a b other apart = b other apart ∙ a other apart
