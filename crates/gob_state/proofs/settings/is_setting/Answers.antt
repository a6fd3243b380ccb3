use Rattle.std.proofs.Common.{◌≡◌, true, false, sym, ◌∙◌, ℕ, Vec, Global, Some, None, lit<}
use Rattle.std.proofs.lemmas.Bool.{false≢true}
use Rattle.std.proofs.lemmas.Str.Pattern.{split_parts}
use Rattle.gob_jobs.specs.Pipelines.{is_key}
use Rattle.gob_state.proofs.SettingLemmas.{no_equals, setting_parts, setting_made, told}
use Rattle.gob_state.proofs.settings.is_setting.Goals as goal

pub returns-in_default : goal.returns-in_default
returns-in_default c =
    let free = split_parts 61 c.args.line.now None c.in_default.ensures.cases (lit< tt) in
    (λ h. absurd (false≢true h), λ s. absurd (no_equals c.args.line.now free s))

pub returns-then-not-is_key : goal.returns-then-not-is_key
returns-then-not-is_key c =
    let parts = split_parts 61 c.args.line.now (Some (c.in-Some.key, c.in-Some.value)) c.in-Some.ensures.cases
    (lit< tt) in
    let no : is_key c.in-Some.key.now ≡ false = cc in (
      λ h. absurd (false≢true h),
      λ s. absurd (false≢true (sym no
          ∙ (setting_parts c.args.line.now c.in-Some.key.now c.in-Some.value.now parts.0 parts.1 s).0)),
    )

pub returns : goal.returns
returns c =
    let parts = split_parts 61 c.args.line.now (Some (c.in-Some.key, c.in-Some.value)) c.in-Some.ensures.cases
    (lit< tt) in
    let keyed : is_key c.in-Some.key.now ≡ true = cc in
    let value : c.as_bytes-2.result.now ≡ c.in-Some.value.now = c.as_bytes-2.ensures.value in
    let t = told (λ (v : Vec ℕ Global). v.items) c.as_bytes-2.result.now c.in_ok-found.found c.in_ok-found.ensures in (
      λ h.
          let r = t.0 (sym c.is_some.ensures ∙ h) in
          setting_made c.args.line.now c.in-Some.key.now c.in-Some.value.now parts.0 keyed (r.0, r.1, r.2 ∙ value),
      λ s.
          let r = (setting_parts c.args.line.now c.in-Some.key.now c.in-Some.value.now parts.0 parts.1 s) in
          c.is_some.ensures ∙ t.1 (r.1, r.2, r.3 ∙ sym value),
    )
