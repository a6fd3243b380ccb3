use Rattle.gob_state.proofs.SettingLemmas.{SomeLines}
use Rattle.gob_state.proofs.settings.take_settings.Given as goal

abbrev pub invariant-loop : goal.invariant-loop
invariant-loop l = SomeLines l.fn.lines l.fn.text l.text l.settings l.counter
