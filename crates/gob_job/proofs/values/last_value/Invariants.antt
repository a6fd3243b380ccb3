use Rattle.std.proofs.Common.{◌≡◌, drop, map}
use Rattle.std.specs.Option.{option_copied, option_or}
use Rattle.gob_jobs.specs.Pipelines.{last_value}
use Rattle.gob_job.specs.LookUps.{setting_from}
use Rattle.gob_job.proofs.values.last_value.Given as goal

abbrev pub invariant-loop-setting : goal.invariant-loop-setting
invariant-loop-setting l = option_or (last_value (map setting_from (drop l.setting-index l.fn.settings)) l.fn.key)
    (option_copied l.found) ≡ last_value (map setting_from l.fn.settings) l.fn.key
