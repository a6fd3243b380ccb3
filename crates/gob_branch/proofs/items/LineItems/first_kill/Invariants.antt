use Rattle.std.proofs.Common.{◌≡◌, drop}
use Rattle.gob_meaning.specs.Fold.{first_kill}
use Rattle.gob_branch.proofs.items.LineItems.first_kill.Given as goal

abbrev pub invariant-loop-span : goal.invariant-loop-span
invariant-loop-span l = first_kill l.self ≡ first_kill (drop l.span-index l.self)
