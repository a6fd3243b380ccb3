use Rattle.std.proofs.Common.{◌∙◌, ap, subst, sym}
use Rattle.std.proofs.lemmas.Bool.{false≢true}
use Rattle.gob_ledger.specs.Delta.{ReadsAsChange}
use Rattle.gob_ledger.specs.State.{State}
use Rattle.gob_state.specs.Versions.{version_of}
use Rattle.gob_state.proofs.Steps.{is_there}
use Rattle.gob_segments.proofs.Stated.{change_read, more_behind, no_end, no_rest, no_run, run_reads}
use Rattle.gob_segments.proofs.apply.apply_delta.Goals as goal

pub returns-in_default : goal.returns-in_default
returns-in_default c = no_run (version_of c.args.version) c.args.state c.args.bytes.now _ c.take_run.result
    (run_reads (version_of c.args.version) c.args.state _ c.args.bytes.now _ c.state.inside.run c.take_run.result
    c.new-text.ensures (ap (λ (s : State). s.run) c.state.view_is) c.take_run.ensures) c.in_default.is

pub returns-in_default-2 : goal.returns-in_default-2
returns-in_default-2 c = no_rest (version_of c.args.version) c.args.state c.args.bytes.now _ _ c.take_run.result
    c.in_ok-rest.field-0
    (run_reads (version_of c.args.version) c.args.state _ c.args.bytes.now _ c.state.inside.run c.take_run.result
    c.new-text.ensures (ap (λ (s : State). s.run) c.state.view_is) c.take_run.ensures) c.in_ok-rest.ensures
    c.in_default-2.is

pub returns-then-not-take_text : goal.returns-then-not-take_text
returns-then-not-take_text c = no_end (version_of c.args.version) c.args.state c.args.bytes.now _ _ _ c.take_run.result
    c.in_ok-rest.field-0 c.take_text.result
    (run_reads (version_of c.args.version) c.args.state _ c.args.bytes.now _ c.state.inside.run c.take_run.result
    c.new-text.ensures (ap (λ (s : State). s.run) c.state.view_is) c.take_run.ensures) c.in_ok-rest.ensures
    c.take_text.ensures c.if-not-take_text.true

pub returns-then-not-is_done : goal.returns-then-not-is_done
returns-then-not-is_done c = more_behind (version_of c.args.version) c.args.state c.args.bytes.now _ _ _
    c.take_run.result
    c.in_ok-rest.field-0 c.take_text.result
    (run_reads (version_of c.args.version) c.args.state _ c.args.bytes.now _ c.state.inside.run c.take_run.result
    c.new-text.ensures (ap (λ (s : State). s.run) c.state.view_is) c.take_run.ensures) c.in_ok-rest.ensures
    c.take_text.ensures (λ e. false≢true (sym c.if-not-is_done.true ∙ c.is_done.ensures.1 e))

pub returns : goal.returns
returns c = subst (ReadsAsChange (version_of c.args.version) c.args.state c.args.bytes.now) (sym c.state_with.ensures)
    (change_read (version_of c.args.version) c.args.state c.args.bytes.now _ _ _ c.in-Some.run' c.in-Some-2.rest
    c.take_text.result
    (is_there _ _ _ c.in-Some.run' (run_reads (version_of c.args.version) c.args.state _ c.args.bytes.now _
    c.state.inside.run c.take_run.result c.new-text.ensures (ap (λ (s : State). s.run) c.state.view_is)
    c.take_run.ensures) c.in-Some.is)
    (is_there _ _ _ c.in-Some-2.rest c.in_ok-rest.ensures c.in-Some-2.is)
    c.take_text.ensures c.if-not-take_text.false (c.is_done.ensures.0 c.if-not-is_done.false))
