use Rattle.std.proofs.Common.{refl, sym, subst, ◌∙◌, None}
use Rattle.std.proofs.lemmas.Bool.{false≢true}
use Rattle.gob_ledger.specs.Spelling.{ReadsAs}
use Rattle.gob_state.specs.Files.{NoStateIn}
use Rattle.gob_state.specs.Versions.{version_of}
use Rattle.gob_state.proofs.FileLemmas.{more_behind, no_end, no_state, no_version, state_read}
use Rattle.gob_state.proofs.Steps.{is_there}
use Rattle.gob_state.proofs.read.read_versioned.Goals as goal

pub returns-in_default : goal.returns-in_default
returns-in_default c = subst NoStateIn c.new-text.ensures
    (no_version _ c.take_version.new.text None c.in_default.ensures refl)

pub returns-in_default-2 : goal.returns-in_default-2
returns-in_default-2 c = subst NoStateIn c.new-text.ensures
    (no_state _ c.take_version.new.text c.take_state.new.text c.in-Some.version c.in_ok-state.field-0 c.in-Some.ensures
    c.in_ok-state.ensures c.in_default-2.is)

pub returns-then-not-take_text : goal.returns-then-not-take_text
returns-then-not-take_text c = subst NoStateIn c.new-text.ensures
    (no_end _ c.take_version.new.text c.take_state.new.text c.take_text.new.self c.in-Some.version c.in-Some-2.state
    c.take_text.result c.in-Some.ensures (is_there _ _ _ c.in-Some-2.state c.in_ok-state.ensures c.in-Some-2.is)
    c.take_text.ensures c.if-not-take_text.true)

pub returns-then-not-is_done : goal.returns-then-not-is_done
returns-then-not-is_done c = subst NoStateIn c.new-text.ensures
    (more_behind _ c.take_version.new.text c.take_state.new.text c.take_text.new.self c.in-Some.version
    c.in-Some-2.state c.take_text.result c.in-Some.ensures
    (is_there _ _ _ c.in-Some-2.state c.in_ok-state.ensures c.in-Some-2.is)
    c.take_text.ensures (λ e. false≢true (sym c.if-not-is_done.true ∙ c.is_done.ensures.1 e)))

pub returns : goal.returns
returns c = subst (λ b. ReadsAs (version_of c.in-Some.version) b c.in-Some-2.state) c.new-text.ensures
    (state_read _ c.take_version.new.text c.take_state.new.text c.take_text.new.self c.in-Some.version c.in-Some-2.state
    c.take_text.result c.in-Some.ensures (is_there _ _ _ c.in-Some-2.state c.in_ok-state.ensures c.in-Some-2.is)
    c.take_text.ensures c.if-not-take_text.false (c.is_done.ensures.0 c.if-not-is_done.false))
