use Rattle.std.proofs.Common.{◌≡◌, ◌≤◌, ◌∙◌, refl, subst, sym, arith, rules, IfSome}
use Rattle.std.proofs.lemmas.Result.{err_from_is_err_and}
use Rattle.gob_bytes.proofs.Options.{always}
use Rattle.gob_ledger.specs.Delta.{LeadOn}
use Rattle.gob_segments.specs.Loading.{BlamesNext, BlamesSome, LedTo, RoseIfLoadFailed}
use Rattle.gob_segments.proofs.Loads.{leads_all, leads_more, led_more, led_none, rose_on, stops_next}
use Rattle.gob_state.specs.Versions.{version_of}
use Rattle.gob_segments.proofs.loading.follow_changes.Goals as goal

pub loop-name-init : goal.loop-name-init
loop-name-init g c = record {
  leads = always _ (λ d. refl);
  led = led_none c.args.base c.requires.proper;
  disk = refl;
  goes_on = omega arith;
}

pub next_state-requires-clause-proper : goal.next_state-requires-clause-proper
next_state-requires-clause-proper g c = c.loop-name.invariant.led.proper

pub returns-in_err-state-clause-damaged : goal.returns-in_err-state-clause-damaged
returns-in_err-state-clause-damaged g c =
    let p = err_from_is_err_and c.from_residual.result c.from_residual.ensures.1 in
    rw (p.1, p.2) (stops_next c.args.job.now (version_of c.args.version) c.args.base c.loop-name.state c.args.names.now
    c.loop-name.name-index c.as_str.result.now c.name-item.result _ _ _ c.loop-name.invariant.disk (search rules)
    c.name-item.is c.as_str.ensures c.loop-name.invariant.leads c.in_err-state.ensures.damaged)

pub returns-in_err-state-clause-disk : goal.returns-in_err-state-clause-disk
returns-in_err-state-clause-disk g c = c.next_state.ensures.disk ∙ c.loop-name.invariant.disk

pub returns-in_err-state-clause-err : goal.returns-in_err-state-clause-err
returns-in_err-state-clause-err g c =
    let p = err_from_is_err_and c.from_residual.result c.from_residual.ensures.1 in
    rw (p.1, p.2) (rose_on _ _ _ _ c.loop-name.invariant.goes_on c.in_err-state.ensures.err)

pub returns-in_err-state-clause-goes_on : goal.returns-in_err-state-clause-goes_on
returns-in_err-state-clause-goes_on g c = omega (arith, c.loop-name.invariant.goes_on, c.next_state.ensures.goes_on)

pub loop-name-preserved : goal.loop-name-preserved
loop-name-preserved g c = record {
  leads = leads_more c.args.job.now (version_of c.args.version) c.args.base c.loop-name.state _ c.args.names.now
      c.loop-name.name-index c.as_str.result.now c.name-item.result _ _ c.loop-name.invariant.disk (search rules)
      c.name-item.is c.as_str.ensures c.loop-name.invariant.leads c.in_ok-state.ensures.next;
  led = led_more c.args.base c.loop-name.state _ c.loop-name.name-index c.loop-name.invariant.led
      c.in_ok-state.ensures.led;
  disk = c.next_state.ensures.disk ∙ c.loop-name.invariant.disk;
  goes_on = omega (arith, c.loop-name.invariant.goes_on, c.next_state.ensures.goes_on);
}

pub returns-clause-leads : goal.returns-clause-leads
returns-clause-leads g c = leads_all c.args.job.now (version_of c.args.version) c.args.base c.loop-name.state
    c.args.names.now c.loop-name.name-index _ (search rules) c.loop-name.invariant.leads

pub returns-clause-led : goal.returns-clause-led
returns-clause-led g c = subst (λ n. LedTo c.args.base n c.loop-name.state) (search rules) c.loop-name.invariant.led

pub returns-clause-disk : goal.returns-clause-disk
returns-clause-disk g c = c.loop-name.invariant.disk

pub returns-clause-goes_on : goal.returns-clause-goes_on
returns-clause-goes_on g c = c.loop-name.invariant.goes_on
