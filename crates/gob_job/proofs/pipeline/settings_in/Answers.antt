use Rattle.std.proofs.Common.{map, option_map, sym, ap, ◌∙◌}
use Rattle.gob_jobs.specs.Pipelines.{settings_in}
use Rattle.gob_job.specs.LookUps.{setting_from}
use Rattle.gob_job.proofs.SettingLines.{line_none, line_some}
use Rattle.gob_job.proofs.pipeline.settings_in.Goals as goal

pub returns-in_default-2 : goal.returns-in_default-2
unfolding settings_in
returns-in_default-2 c =
    line_none (map setting_from c.loop-rest.settings) c.loop-rest.left.now _ c.split_piece.result.1 c.in-Some.rest
    c.loop-rest.invariant c.split_piece.ensures.pieces c.in-Some.is
    (ap (option_map setting_from) (sym c.in_default-2.is) ∙ c.in_ok-setting.ensures)

pub loop-rest-preserved : goal.loop-rest-preserved
loop-rest-preserved c =
    line_some c.loop-rest.settings c.push.new.self c.in-Some-2.setting c.loop-rest.left.now _ c.split_piece.result.1
    c.in-Some.rest c.loop-rest.invariant c.split_piece.ensures.pieces c.in-Some.is
    (ap (option_map setting_from) (sym c.in-Some-2.is) ∙ c.in_ok-setting.ensures) c.in_ok-push.ensures.ok
