use Rattle.std.proofs.Common.{◌≡◌, ◌∙◌, refl, subst, IfSome}
use Rattle.std.proofs.lemmas.Result.{err_from_is_err_and}
use Rattle.gob_state.specs.Versions.{version_of}
use Rattle.gob_segments.proofs.Loads.{changes_damaged, changes_kept}
use Rattle.gob_segments.proofs.loading.load_changes.Goals as goal

pub returns-in_err-state-clause-damaged : goal.returns-in_err-state-clause-damaged
returns-in_err-state-clause-damaged g c =
    let p = err_from_is_err_and c.from_residual-in_err-state.result c.from_residual-in_err-state.ensures.1 in
    rw (p.1, p.2) (changes_damaged c.args.job.now c.as_str.result.now (version_of c.args.version) c.args.base
    c.in_ok-names.names.items c.as_slice.result.now _ _ _ (c.as_str.ensures ∙ c.in_ok-folder.ensures)
    c.as_slice.ensures.value
    c.names.ensures.disk c.requires.base c.in_ok-names.ensures.names c.in_err-state.ensures.damaged)

pub returns-clause-kept : goal.returns-clause-kept
returns-clause-kept g c =
    changes_kept c.args.job.now c.as_str.result.now (version_of c.args.version) c.args.base _ c.in_ok-names.names.items
    c.as_slice.result.now _ _ _ (c.as_str.ensures ∙ c.in_ok-folder.ensures) c.as_slice.ensures.value
    c.names.ensures.disk
    c.requires.base c.in_ok-names.ensures.names c.in_ok-state.ensures.leads refl
    (c.len.ensures ∙ c.in_ok-names.names.ok.0)
    c.version_number.ensures
