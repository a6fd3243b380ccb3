use Rattle.std.proofs.Common.{◌≡◌, drop}
use Rattle.std.specs.List.{list_all}
use Rattle.gob_ledger.specs.Next.{is_good}
use Rattle.gob_state.specs.Committed.{verdicts_in}
use Rattle.gob_report.proofs.units.are_good.Given as goal

abbrev pub invariant-loop-made : goal.invariant-loop-made
invariant-loop-made l =
    list_all is_good (verdicts_in (drop l.made-index l.fn.results)) ≡ list_all is_good (verdicts_in l.fn.results)
