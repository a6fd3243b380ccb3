use Rattle.std.proofs.Common.{◌≡◌, ◌∙◌, ◌≤◌, ap, sym, subst, true, false, Some}
use Rattle.std.specs.List.{list_all, list_any}
use Rattle.gob_ledger.specs.Next.{is_good, next_state}
use Rattle.gob_history.specs.Runs.{stored_where}
use Rattle.gob_history.proofs.Keeps.{stored_some}
use Rattle.gob_state.specs.Committed.{may_commit, verdicts_in}
use Rattle.gob_commit.specs.Staged.{all_pairs, state_or}
use Rattle.gob_commit.proofs.Committing.{Next, group_change, group_ends, group_leaves, group_rises, idle_ends}
use Rattle.gob_commit.proofs.Committing.{idle_leaves}
use Rattle.gob_commit.proofs.Committing.{idle_rises}
use Rattle.gob_commit.proofs.Nexting.{changes_fit, follows_where, none_allowed, some_allowed}
use Rattle.gob_commit.proofs.group.commit_group.Goals as goal

pub returns-then-not-is_any_allowed-clause-value : goal.returns-then-not-is_any_allowed-clause-value
returns-then-not-is_any_allowed-clause-value g c =
    let rules = c.args.rules.now in
    let l = c.args.loaded in
    let units = c.args.units.now in
    let results = c.args.results.now in
    let vs = verdicts_in results in
    let any : list_any (may_commit rules.policy (list_all is_good vs)) vs ≡ false =
    sym (c.is_any_allowed.ensures ∙ ap (λ a. list_any (may_commit rules.policy a) vs) c.are_good.ensures)
    ∙ c.if-not-is_any_allowed.true in
    let none = none_allowed rules.policy units results c.requires.can.can.counted any in
    record {
      fits = c.requires.can.loaded;
      state = sym (ap (stored_where l.state
          (next_state (state_or rules.branches l.state) rules.pipeline.now units vs rules.policy)) none);
    }

pub returns-then-not-is_any_allowed-clause-rises : goal.returns-then-not-is_any_allowed-clause-rises
returns-then-not-is_any_allowed-clause-rises g c =
    idle_rises c.args.rules.now c.args.loaded c.args.units.now c.args.results.now _

pub returns-then-not-is_any_allowed-clause-ok : goal.returns-then-not-is_any_allowed-clause-ok
returns-then-not-is_any_allowed-clause-ok g c =
    let rules = c.args.rules.now in
    let l = c.args.loaded in
    let units = c.args.units.now in
    let results = c.args.results.now in
    let vs = verdicts_in results in
    let any : list_any (may_commit rules.policy (list_all is_good vs)) vs ≡ false =
    sym (c.is_any_allowed.ensures ∙ ap (λ a. list_any (may_commit rules.policy a) vs) c.are_good.ensures)
    ∙ c.if-not-is_any_allowed.true in
    let none = none_allowed rules.policy units results c.requires.can.can.counted any in
    idle_ends rules l units results _ none

pub returns-then-not-is_any_allowed-clause-rest : goal.returns-then-not-is_any_allowed-clause-rest
returns-then-not-is_any_allowed-clause-rest g c =
    idle_leaves c.args.rules.now.job.now (all_pairs c.args.results.now) _

pub returns-in_err-next-clause-rises : goal.returns-in_err-next-clause-rises
returns-in_err-next-clause-rises g c =
    idle_rises c.args.rules.now c.args.loaded c.args.units.now c.args.results.now _

pub commit_change-requires-clause-follows : goal.commit_change-requires-clause-follows
commit_change-requires-clause-follows g c =
    let rules = c.args.rules.now in
    let l = c.args.loaded in
    let units = c.args.units.now in
    let results = c.args.results.now in
    let vs = verdicts_in results in
    let any : list_any (may_commit rules.policy (list_all is_good vs)) vs ≡ true =
    sym (c.is_any_allowed.ensures ∙ ap (λ a. list_any (may_commit rules.policy a) vs) c.are_good.ensures)
    ∙ c.if-not-is_any_allowed.false in
    let t = c.in_ok-next.next in
    let n : Next rules l units results t = record {
      before = c.requires.can.loaded.proper;
      counted = c.requires.can.can.counted;
      fits = c.requires.can.can.fits;
      any = any;
      are = c.in_ok-next.ensures.next;
      proper = c.in_ok-next.ensures.proper;
    } in
    follows_where rules.branches rules.pipeline.now rules.policy l.state units results t l.version l.deltas n

pub returns-in_err-deltas-clause-rises : goal.returns-in_err-deltas-clause-rises
returns-in_err-deltas-clause-rises g c =
    let rules = c.args.rules.now in
    let l = c.args.loaded in
    let units = c.args.units.now in
    let results = c.args.results.now in
    let vs = verdicts_in results in
    let any : list_any (may_commit rules.policy (list_all is_good vs)) vs ≡ true =
    sym (c.is_any_allowed.ensures ∙ ap (λ a. list_any (may_commit rules.policy a) vs) c.are_good.ensures)
    ∙ c.if-not-is_any_allowed.false in
    let t = c.in_ok-next.next in
    let n : Next rules l units results t = record {
      before = c.requires.can.loaded.proper;
      counted = c.requires.can.can.counted;
      fits = c.requires.can.can.fits;
      any = any;
      are = c.in_ok-next.ensures.next;
      proper = c.in_ok-next.ensures.proper;
    } in
    group_rises rules l units results t n c.requires.can.names.apart c.commit_change.ensures.rises

pub returns-clause-rises : goal.returns-clause-rises
returns-clause-rises g c =
    let rules = c.args.rules.now in
    let l = c.args.loaded in
    let units = c.args.units.now in
    let results = c.args.results.now in
    let vs = verdicts_in results in
    let any : list_any (may_commit rules.policy (list_all is_good vs)) vs ≡ true =
    sym (c.is_any_allowed.ensures ∙ ap (λ a. list_any (may_commit rules.policy a) vs) c.are_good.ensures)
    ∙ c.if-not-is_any_allowed.false in
    let t = c.in_ok-next.next in
    let n : Next rules l units results t = record {
      before = c.requires.can.loaded.proper;
      counted = c.requires.can.can.counted;
      fits = c.requires.can.can.fits;
      any = any;
      are = c.in_ok-next.ensures.next;
      proper = c.in_ok-next.ensures.proper;
    } in
    group_rises rules l units results t n c.requires.can.names.apart c.commit_change.ensures.rises

pub returns-clause-value : goal.returns-clause-value
returns-clause-value g c =
    let rules = c.args.rules.now in
    let l = c.args.loaded in
    let units = c.args.units.now in
    let results = c.args.results.now in
    let vs = verdicts_in results in
    let any : list_any (may_commit rules.policy (list_all is_good vs)) vs ≡ true =
    sym (c.is_any_allowed.ensures ∙ ap (λ a. list_any (may_commit rules.policy a) vs) c.are_good.ensures)
    ∙ c.if-not-is_any_allowed.false in
    let t = c.in_ok-next.next in
    let n : Next rules l units results t = record {
      before = c.requires.can.loaded.proper;
      counted = c.requires.can.can.counted;
      fits = c.requires.can.can.fits;
      any = any;
      are = c.in_ok-next.ensures.next;
      proper = c.in_ok-next.ensures.proper;
    } in
    record {
      fits = record {
        proper = c.in_ok-next.ensures.proper;
        counted = subst (λ d. d ≤ t.run) (sym c.in_ok-deltas.ensures.deltas)
            (changes_fit rules.job.now l.state l.deltas l.version t c.requires.can.loaded.counted
            (follows_where rules.branches rules.pipeline.now rules.policy l.state units results t l.version l.deltas
            n));
      };
      state = ap (λ s. Some s) c.in_ok-next.ensures.next
          ∙ sym (stored_some l.state _ _ (some_allowed rules.policy units results c.requires.can.can.counted any));
    }

pub returns-clause-ok : goal.returns-clause-ok
returns-clause-ok g c =
    let rules = c.args.rules.now in
    let l = c.args.loaded in
    let units = c.args.units.now in
    let results = c.args.results.now in
    let vs = verdicts_in results in
    let any : list_any (may_commit rules.policy (list_all is_good vs)) vs ≡ true =
    sym (c.is_any_allowed.ensures ∙ ap (λ a. list_any (may_commit rules.policy a) vs) c.are_good.ensures)
    ∙ c.if-not-is_any_allowed.false in
    let t = c.in_ok-next.next in
    let n : Next rules l units results t = record {
      before = c.requires.can.loaded.proper;
      counted = c.requires.can.can.counted;
      fits = c.requires.can.can.fits;
      any = any;
      are = c.in_ok-next.ensures.next;
      proper = c.in_ok-next.ensures.proper;
    } in
    group_ends rules l units results t c.in_ok-deltas.deltas n c.requires.can.names.apart c.in_ok-deltas.ensures.deltas
    c.in_ok-deltas.ensures.ok

pub returns-clause-rest : goal.returns-clause-rest
returns-clause-rest g c =
    let rules = c.args.rules.now in
    let l = c.args.loaded in
    let units = c.args.units.now in
    let results = c.args.results.now in
    let vs = verdicts_in results in
    let any : list_any (may_commit rules.policy (list_all is_good vs)) vs ≡ true =
    sym (c.is_any_allowed.ensures ∙ ap (λ a. list_any (may_commit rules.policy a) vs) c.are_good.ensures)
    ∙ c.if-not-is_any_allowed.false in
    let t = c.in_ok-next.next in
    let n : Next rules l units results t = record {
      before = c.requires.can.loaded.proper;
      counted = c.requires.can.can.counted;
      fits = c.requires.can.can.fits;
      any = any;
      are = c.in_ok-next.ensures.next;
      proper = c.in_ok-next.ensures.proper;
    } in
    group_leaves rules.job.now (group_change rules.job.now l t) (all_pairs results) c.in_ok-deltas.ensures.ok
