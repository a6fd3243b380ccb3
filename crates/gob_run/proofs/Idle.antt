-- A run without a unit: it has no turn and commits nothing.
use Rattle.std.proofs.Common.{◌≡◌, ℕ, ◌+◌, ◌*◌, zero, suc, List, [], ◌∷◌, Ok, refl, sym, ap, subst, subst₂, ◌∙◌, Some}
use Rattle.std.proofs.Common.{append-nil, arith, length, map}
use Rattle.std.specs.declared.option.Option.{Option}
use Rattle.gob_device.specs.Causes.{RoseBy}
use Rattle.gob_device.specs.Disk.{Files, Rises}
use Rattle.gob_device.specs.Supply.{Held, with_pulls}
use Rattle.gob_device.proofs.Supply.{with_none}
use Rattle.gob_plan.specs.declared.plan.CommitScope.{CommitScope}
use Rattle.gob_plan.specs.declared.plan.CommitScope.TheVariants as scope
use Rattle.gob_plan.specs.declared.units.Unit.{Unit as WorkUnit}
use Rattle.gob_plan.specs.declared.units.UnitResult.{UnitResult}
use Rattle.gob_meaning.specs.Job.{Job}
use Rattle.gob_ledger.specs.Groups.{groups_of, is_committed}
use Rattle.gob_ledger.specs.State.{State}
use Rattle.gob_ledger.specs.Turns.{pulls_in, turns_from, turns_of, verdicts_of}
use Rattle.gob_recovery.specs.Settle.{IsSettled}
use Rattle.gob_history.specs.Runs.{after_groups, state_or_empty}
use Rattle.gob_history.specs.Sound.{Stores}
use Rattle.gob_commit.specs.Going.{GoneToEnd}
use Rattle.gob_commit.proofs.Doing.{nothing_first, uncommitted}
use Rattle.gob_cut.specs.declared.run_units.Cut.{Cut}
use Rattle.gob_segments.specs.declared.change.Loaded.{Loaded}
use Rattle.gob_state.specs.Committed.{judged_by, verdicts_in}
use Rattle.gob_state.specs.declared.next.Outcome.{Outcome}
use Rattle.gob_turns.specs.Taken.{given_up_in}
use Rattle.gob_run.specs.Answers.{OutcomeFits}
use Rattle.gob_run.specs.Working.{FiledToEnd, HasNothing, WentOverAll, Worked, groups_over}
use Rattle.gob_run.specs.World.{World}
use Rattle.gob_run.proofs.Filing.{none_given}
use Rattle.gob_run.proofs.Worked.{stopped_at_first}

-- ---- no turn

none_from : (most : ℕ) (job : Job) (failing : List ℕ) → turns_from most job failing 0 [] ≡ []
none_from zero job failing = refl
none_from (suc most) job failing = refl

no_turns : (job : Job) (held : Held) (failing : List ℕ) → turns_of job held [] failing ≡ []
unfolding turns_of
no_turns job held failing = none_from ((job.max_retries + 1) * 0) job failing

no_verdicts : (job : Job) (held : Held) (failing : List ℕ) → verdicts_of job held [] failing ≡ []
unfolding verdicts_of
no_verdicts job held failing = refl

-- ---- no commit

no_groups : (job : Job) (held : Held) (o : Option State) (m : Files) → IsSettled job.name m → Stores job.name m o
    → (s : CommitScope) → GoneToEnd job held o (groups_of s []) m [] m
unfolding groups_of Rises
no_groups job held o m settled stores scope.Job = record {
  maps = m ∷ m ∷ [];
  done = uncommitted job held o m m [] [] (m ∷ []) refl (nothing_first job held o m settled stores);
  rises = ([], [], refl, tt, ([], [], refl, tt, refl));
}
no_groups job held o m settled stores scope.Dataset = record {
  maps = m ∷ [];
  done = nothing_first job held o m settled stores;
  rises = ([], [], refl, tt, refl);
}

same_state : (job : Job) (o : Option State) (s : CommitScope) → after_groups job o (groups_of s []) ≡ o
unfolding groups_of
same_state job o scope.Job = refl
same_state job o scope.Dataset = refl

-- ---- the work

fits : (job : Job) (l : Loaded) (long : List (List ℕ)) (out : Outcome) → HasNothing job l long out
    → OutcomeFits job l.state out
fits job l long out idle = record {
  results = ap (λ (rs : List UnitResult). length rs) idle.results
      ∙ sym (ap (λ (us : List WorkUnit). length us) idle.units);
  committed = idle.committed ∙ ap (λ js. map (is_committed job.scope job.policy js) js) (sym no_judged);
  after = idle.after
      ∙ ap (λ o. state_or_empty job o) (sym (same_state job l.state job.scope)
      ∙ ap (λ js. after_groups job l.state (groups_of job.scope js)) (sym no_judged));
  proper = idle.proper;
}
  where
    no_judged : judged_by out.units out.results ≡ []
    no_judged = ap (λ (us : List WorkUnit). judged_by us out.results) idle.units

pub idle_done : (job : Job) (l : Loaded) (cut : Cut) (out : Outcome) (w : World) → cut.units ≡ []
    → HasNothing job l cut.too_long out → Worked job [] l cut (Ok out) w w
idle_done job l cut out w none idle =
    let first = stopped_at_first job l cut w in
    record {
      done = record {
        units = idle.units ∙ sym none;
        too_long = idle.too_long;
        fits = fits job l cut.too_long out idle;
        told = λ s is. record {
          pulls = is ∙ ap (λ t. Some t) (with_none s) ∙ ap (λ ps. Some (with_pulls ps s)) (sym (no_pulls s.held));
          verdicts = ap verdicts_in idle.results ∙ sym (of_none s.held);
        };
        left = λ s is_s d is_d settled k keeps loaded. (
          d,
          is_d,
          record {
            added = [];
            trail = sym (append-nil d.trail);
            stands = refl;
            holds = subst (λ groups. WentOverAll job s.held l.state groups d.files []) (sym (grouped s.held))
                (none_went s.held d.files settled (k, keeps, sym loaded.state));
          },
        );
        filed = λ d is_d settled k keeps loaded. (
          d,
          is_d,
          record {
            added = [];
            trail = sym (append-nil d.trail);
            stands = refl;
            holds = subst₂ (λ us rs. FiledToEnd job l.state us rs d.files []) (sym idle.units) (sym idle.results)
                (record {
                  given = [];
                  judged = none_given job [] [];
                  went = none_went [] d.files settled (k, keeps, sym loaded.state);
                });
          },
        );
        gave_up = subst (λ rs. RoseBy (given_up_in rs * (job.max_retries + 1)) w.source_faults w.source_faults)
            (sym idle.results) (omega arith);
      };
      along = first.along;
      filed = first.filed;
      pulls = first.pulls;
      pulled = first.pulled;
      failed = first.failed;
      stopped = tt;
      planned = refl;
      below = first.below;
      goes_on = first.goes_on;
    }
  where
    of_none : (held : Held) → verdicts_of job held cut.units [] ≡ []
    of_none held = ap (λ us. verdicts_of job held us []) none ∙ no_verdicts job held []

    no_pulls : (held : Held) → pulls_in (turns_of job held cut.units []) ≡ []
    no_pulls held = ap (λ us. pulls_in (turns_of job held us [])) none ∙ ap pulls_in (no_turns job held [])

    grouped : (held : Held) → groups_over job held cut.units [] ≡ groups_of job.scope []
    grouped held = ap (λ us. groups_over job held us []) none

    none_went : (held : Held) (m : Files) → IsSettled job.name m → Stores job.name m l.state
        → WentOverAll job held l.state (groups_of job.scope []) m []
    none_went held m settled stores = record {
      turns = [];
      commits = [];
      whole = refl;
      over = tt;
      gone = no_groups job held l.state m settled stores job.scope;
    }
