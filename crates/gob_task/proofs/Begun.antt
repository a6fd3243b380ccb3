-- A task before its first turn, and how many branches and policies a plan has.
use Rattle.std.proofs.Common.{◌≡◌, ℕ, ◌<◌, ◌≤◌, ◌^◌, true, nat_le, List, [], length, refl, sym, ap, subst, ◌∙◌, None}
use Rattle.std.proofs.Common.{Some, arith}
use Rattle.std.specs.List.{list_all}
use Rattle.std.proofs.lemmas.Bool.{and_parts, leb-true}
use Rattle.gob_recovery.specs.Sequence.{is_file_name}
use Rattle.gob_bytes.specs.Lines.{lines_from}
use Rattle.gob_meaning.specs.Fold.{sent_to, stop_of, unit_fold}
use Rattle.gob_meaning.specs.Plans.{IsFitting, is_fitting, max_branches}
use Rattle.gob_meaning.proofs.Fits.{fits_in_parts}
use Rattle.gob_plan.specs.declared.plan.Plan.{Plan}
use Rattle.gob_plan.specs.declared.units.Unit.{Unit as WorkUnit}
use Rattle.gob_pipeline.specs.Machine.{MachineValue, WasFed}
use Rattle.gob_stage.specs.Attempt.{AttemptValue, new_attempt}
use Rattle.gob_task.specs.Task.{AreSent, AreSpelled, HasBegun, IsPullable, Names, TaskValue, unit_sends}
use Rattle.gob_task.proofs.Spelled.{none_spelled}

pub few_branches : (plan : Plan) → is_fitting plan ≡ true → length plan.branches ≤ 8
few_branches plan fits =
    let parts : IsFitting plan = (fits_in_parts plan).0 fits in
    let limits = and_parts (nat_le 1 plan.fork.branches) (nat_le plan.fork.branches max_branches) parts.some_branches in
    let few : plan.fork.branches ≤ 8 = leb-true plan.fork.branches 8 limits.1 in
    omega (arith, few, parts.as_many_branches)

pub few_policies : (plan : Plan) → is_fitting plan ≡ true → length plan.task_policies < 2 ^ 32
few_policies plan fits =
    let parts : IsFitting plan = (fits_in_parts plan).0 fits in
    let few : length plan.task_policies ≤ 16 = leb-true (length plan.task_policies) 16 parts.few_policies in
    omega (arith, few)

no_stop : (plan : Plan) (lo : ℕ) → stop_of plan (unit_fold plan lo []) ≡ None
unfolding stop_of unit_fold lines_from
no_stop plan lo = refl

nothing_sent : (plan : Plan) (u : WorkUnit) → AreSent plan u (unit_sends plan u []) []
unfolding sent_to unit_fold lines_from
nothing_sent plan u = record {
  all = λ t some. absurd (some refl);
  only = λ name bytes is. absurd (let no : None ≡ Some bytes = is in cc);
}

pub has_begun : (job : List ℕ) (plan : Plan) (u v : WorkUnit) (number attempt : ℕ) (m : MachineValue) (names : Names)
    (a : AttemptValue) → IsPullable u → number < 2 ^ 32 → attempt < 2 ^ 32 → v ≡ u → WasFed plan m [] → m.lo ≡ v.lo
    → length m.counts.branches ≡ length plan.branches → names ≡ [] → a ≡ new_attempt job number attempt
    → HasBegun job plan u number attempt
    (record { unit = v; index = number; failures = attempt; machine = m; names = names; staged = a })
has_begun job plan u v number attempt m names a pullable small few same known lo branches unspelled new = record {
  unit = same;
  index = refl;
  failures = refl;
  stands = record {
    was = record {
      pullable = subst IsPullable (sym same) pullable;
      small = (small, few);
      lo = lo;
      known = known;
      goes_on = known.stop ∙ no_stop plan m.lo;
      branches = branches;
      of_job = ap (λ w. w.job) new;
      folder = ap (λ w. w.folder) new;
      begun = record {
        contents = [];
        sent = nothing_sent plan v;
        names = ap (λ w. w.begun) (sym new);
        spelled = subst (λ w. list_all is_file_name w.begun ≡ true) (sym new) refl;
      };
    };
    left = omega (arith, (subst IsPullable (sym same) pullable).bytes);
    names = subst (AreSpelled plan v) (sym unspelled) (none_spelled plan v);
  };
  staged = new;
}

pub begun_as : {job job' : List ℕ} {plan plan' : Plan} {u : WorkUnit} {number attempt : ℕ} {t : TaskValue} → job ≡ job'
    → plan ≡ plan' → HasBegun job plan u number attempt t → HasBegun job' plan' u number attempt t
begun_as {job} {job'} {plan} {plan'} {u} {number} {attempt} {t} same alike begun =
    subst (λ j. HasBegun j plan' u number attempt t) same (subst (λ p. HasBegun job p u number attempt t) alike begun)
