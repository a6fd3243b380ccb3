use Rattle.std.proofs.Common.{◌≡◌, ◌++◌, ◌∷◌, [], drop, length, codes}
use Rattle.std.specs.List.{flat_map}
use Rattle.gob_bytes.specs.Words.{numbered_line}
use Rattle.gob_ledger.specs.Spelling.{pipeline_part}
use Rattle.gob_state.proofs.push.push_pipelines.Given as goal

abbrev pub invariant-loop-pipeline : goal.invariant-loop-pipeline
invariant-loop-pipeline l =
    l.into.items ++ flat_map pipeline_part (drop l.pipeline-index l.fn.pipelines)
    ≡ (l.fn.into.items ++ numbered_line (codes "pipelines") (length l.fn.pipelines ∷ []))
    ++ flat_map pipeline_part l.fn.pipelines
