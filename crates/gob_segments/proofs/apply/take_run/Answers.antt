use Rattle.std.proofs.Common.{◌∙◌, sym}
use Rattle.std.proofs.lemmas.Bool.{false≢true}
use Rattle.gob_segments.proofs.Stated.{other_run, other_version, run_missing, run_there, version_missing}
use Rattle.gob_segments.proofs.apply.take_run.Goals as goal

pub returns-in_default : goal.returns-in_default
returns-in_default c = version_missing c.args.version c.args.run _ _ c.take_version.result c.take_version.ensures
    c.in_default.is

pub returns-then-not-is_same : goal.returns-then-not-is_same
returns-then-not-is_same c = other_version c.args.version c.in-Some.told c.args.run _ _ c.take_version.result
    c.take_version.ensures c.in-Some.is (λ e. false≢true (sym c.if-not-is_same.true ∙ c.is_same.ensures.1 e))

pub returns-in_default-take_numbered : goal.returns-in_default-take_numbered
returns-in_default-take_numbered c = run_missing c.args.version c.in-Some.told c.args.run _ _ _ c.take_version.result
    c.take_numbered.result c.take_version.ensures c.in-Some.is (c.is_same.ensures.0 c.if-not-is_same.false)
    c.take_numbered.ensures c.in_default-take_numbered.is

pub returns-then-not-is_behind : goal.returns-then-not-is_behind
returns-then-not-is_behind c = other_run c.args.version c.in-Some.told c.args.run c.in-Some-take_numbered.next _ _ _
    c.take_version.result c.take_numbered.result c.take_version.ensures c.in-Some.is
    (c.is_same.ensures.0 c.if-not-is_same.false) c.take_numbered.ensures c.in-Some-take_numbered.is
    (λ e. false≢true (sym c.if-not-is_behind.true ∙ c.is_behind.ensures.1 e))

pub returns : goal.returns
returns c = run_there c.args.version c.in-Some.told c.args.run c.in-Some-take_numbered.next _ _ _
    c.take_version.result c.take_numbered.result c.take_version.ensures c.in-Some.is
    (c.is_same.ensures.0 c.if-not-is_same.false) c.take_numbered.ensures c.in-Some-take_numbered.is
    (c.is_behind.ensures.0 c.if-not-is_behind.false)
