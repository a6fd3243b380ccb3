use Rattle.gob_state.proofs.SettingLemmas.{SomePipelines}
use Rattle.gob_state.proofs.pipelines.take_pipelines.Given as goal

abbrev pub invariant-loop : goal.invariant-loop
invariant-loop l = SomePipelines l.fn.count l.fn.text l.text l.pipelines l.counter
