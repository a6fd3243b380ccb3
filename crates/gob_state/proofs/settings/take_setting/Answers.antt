use Rattle.std.proofs.Common.{List, ℕ, refl, sym, subst, ◌∙◌, Some, None}
use Rattle.std.proofs.lemmas.Bool.{false≢true}
use Rattle.gob_text.specs.Words.{GoesOnAtAll}
use Rattle.gob_state.specs.Reads.{ReadsSpelling}
use Rattle.gob_state.specs.Settings.{IsSettingLine, whole_line}
use Rattle.gob_state.proofs.SettingLemmas.{setting_is_line, setting_is_text}
use Rattle.gob_state.proofs.Steps.{from_takes, not_even, refused, passed}
use Rattle.gob_state.proofs.settings.take_setting.Goals as goal

pub returns-in_default : goal.returns-in_default
returns-in_default c = not_even _ c.take_line.new.self _ None None
    (from_takes _ _ None c.in_default.ensures) setting_is_line refl refl

pub returns-in_default-from_utf8 : goal.returns-in_default-from_utf8
returns-in_default-from_utf8 c = refused _ c.take_line.new.self _ c.in-Some.bytes.now None
    (from_takes _ _ (Some c.in-Some.bytes.now) c.in-Some.ensures) setting_is_line
    (λ s. c.in_default-from_utf8.ensures.cases.0 (setting_is_text c.in-Some.bytes.now s)) refl

pub returns-then-branch : goal.returns-then-branch
returns-then-branch c =
    let same = c.in-Ok.ensures.cases.0 in
    let is = c.in_ok-is_setting.ensures.0 c.if-branch.true in
    subst (λ (l : List ℕ). ReadsSpelling whole_line IsSettingLine GoesOnAtAll c.args.text.now c.take_line.new.self
    (Some l))
    (sym same)
    (passed _ _ c.in-Some.bytes.now (from_takes _ _ (Some c.in-Some.bytes.now) c.in-Some.ensures) setting_is_line
    (subst IsSettingLine same is))

pub returns-else-branch : goal.returns-else-branch
returns-else-branch c =
    let same = c.in-Ok.ensures.cases.0 in
    refused _ c.take_line.new.self _ c.in-Some.bytes.now None
    (from_takes _ _ (Some c.in-Some.bytes.now) c.in-Some.ensures) setting_is_line
    (λ s. false≢true (sym c.if-branch.false ∙ c.in_ok-is_setting.ensures.1 (subst IsSettingLine (sym same) s))) refl
