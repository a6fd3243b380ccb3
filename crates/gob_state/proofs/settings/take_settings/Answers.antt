use Rattle.std.proofs.Common.{◌≡◌, ◌++◌, ◌∷◌, [], ap, subst, ◌∙◌, arith}
use Rattle.std.specs.Option.{option_copied}
use Rattle.gob_state.proofs.SettingLemmas.{SomeLines, next_setting, setting_missing, settings_read}
use Rattle.gob_state.proofs.Steps.{is_there}
use Rattle.gob_state.proofs.settings.take_settings.Goals as goal

pub returns-in_default : goal.returns-in_default
returns-in_default c = setting_missing c.args.lines c.loop.counter _ _ c.take_setting.new.text _ c.loop.settings _
    c.loop.invariant c.loop-test.true c.in_ok-line.ensures (ap option_copied c.in_default.is)

pub loop-preserved : goal.loop-preserved
loop-preserved c =
    next_setting c.args.lines c.loop.counter _ _ c.take_setting.new.text c.loop.settings c.in-Some.line.now _
    c.loop.invariant c.loop-test.true
    (is_there _ _ _ c.in-Some.line.now c.in_ok-line.ensures (ap option_copied c.in-Some.is))
    (c.in_ok-push-2.ensures.ok ∙ ap (λ t. t ++ 10 ∷ []) c.in_ok-push.ensures.ok)

pub returns : goal.returns
returns c =
    let all : c.loop.counter ≡ c.args.lines = omega arith in
    settings_read c.args.lines _ _ c.loop.settings
    (subst (SomeLines c.args.lines c.args.text.now c.loop.text c.loop.settings) all c.loop.invariant)
