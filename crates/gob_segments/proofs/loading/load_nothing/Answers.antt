use Rattle.std.proofs.Common.{◌≡◌, ◌∙◌, ap, refl, sym, option_copied}
use Rattle.gob_segments.proofs.Loads.{listed_damaged, none_kept}
use Rattle.gob_segments.proofs.loading.load_nothing.Goals as goal

pub returns-in-Some-clause-damaged : goal.returns-in-Some-clause-damaged
returns-in-Some-clause-damaged g c =
    listed_damaged c.args.job.now c.as_str.result.now c.in_ok-name.name c.in-Some.name.now c.in_ok-names.names.items _ _
    _
    (c.as_str.ensures ∙ c.in_ok-folder.ensures) c.as_slice.ensures.value c.first.ensures.value
    (ap option_copied c.in-Some.is) c.in_ok-name.ensures c.requires.gone c.in_ok-names.ensures.names

pub returns-clause-kept : goal.returns-clause-kept
returns-clause-kept g c =
    none_kept c.args.job.now c.as_str.result.now c.in_ok-names.names.items _ _ _ _
    (c.as_str.ensures ∙ c.in_ok-folder.ensures) c.as_slice.ensures.value c.first.ensures.value
    (ap option_copied c.in_default.is) c.requires.gone c.in_ok-names.ensures.names refl refl refl
