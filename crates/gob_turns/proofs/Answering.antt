-- What a unit's turn keeps, and what is told of one that was stopped.
use Rattle.std.proofs.Common.{inl, inr, ◌≡◌, ⊎_elim, ℕ, ◌+◌, ◌-◌, ◌<◌, ◌≤◌, min, Bool, not, List, [], ◌∷◌}
use Rattle.std.proofs.Common.{length, refl, sym, ap, subst, ◌∙◌, arith, Some, None, Option, IfSome, OnErr, option_map}
use Rattle.std.proofs.Common.{nat_lt}
use Rattle.std.specs.declared.result.Result.{Result}
use Rattle.std.specs.declared.result.Result.TheVariants.{Ok, Err}
use Rattle.gob_bytes.specs.Paths.{attempt_folder}
use Rattle.gob_device.specs.Disk.{Along, Disk}
use Rattle.gob_device.specs.Supply.{Pull, Supply, with_pull}
use Rattle.gob_device.proofs.Trail.{along_then}
use Rattle.gob_plan.specs.declared.units.Unit.{Unit as WorkUnit}
use Rattle.gob_meaning.specs.Job.{Job}
use Rattle.gob_meaning.specs.Results.{failed, good}
use Rattle.gob_plan.specs.declared.units.Cause.TheVariants.{Fault}
use Rattle.gob_ledger.specs.Turns.{Waiting, first_pull}
use Rattle.gob_recovery.specs.Commits.{OnlyBelow}
use Rattle.gob_stage.specs.Attempt.{AreThere}
use Rattle.gob_stage.proofs.Held.{held_there}
use Rattle.gob_task.specs.Task.{HoldsSent, IsWhole, TaskValue}
use Rattle.gob_task.specs.Turn.{Devices, TurnDone, TurnRulesValue, TurnStopped, TurnTaken}
use Rattle.gob_task.specs.Turn.{turn_pull}
use Rattle.gob_task.specs.declared.fault.TurnFault.{TurnFault}
use Rattle.gob_task.specs.declared.fault.TurnFault.TheVariants as turn_fault
use Rattle.gob_task.specs.declared.task.Turn.{Turn}
use Rattle.gob_task.specs.declared.task.Turn.TheVariants as turn
use Rattle.gob_turns.specs.declared.progress.Progress.{Progress}
use Rattle.gob_turns.specs.OneTurn.{IsNextTask, StandsThen, StandsWhere, StaysStill, fails_in}
use Rattle.gob_turns.specs.Standing.{IsTaskOf, StandsAs, is_open, waiting_for}
use Rattle.gob_turns.specs.Underway.{AtMostOnePull, GoesBy, HasTurned, KeepsOthers, StoppedIsTold}
use Rattle.gob_turns.proofs.Left.{first_of_left, pull_at}
use Rattle.gob_turns.proofs.Turned.{fails_for_good}
use Rattle.gob_turns.proofs.Ways.{TurnFacts, next_is_task, next_stands, turn_facts, waits_as}

pub on_err : {T E P : Type 0} (r : Result T E) → P → OnErr r P
on_err (Ok x) p = tt
on_err (Err e) p = p

-- the task that has the turn, and where it stands
pub record TaskHere (rules : TurnRulesValue) (u : WorkUnit) (i : ℕ) (p : Progress) (t : TaskValue)
    (supply : Option Supply) (disk : Option Disk) : Type 0 where
  pub next : IsNextTask rules u i p t
  pub is : IsTaskOf rules u i t supply disk
  pub at : StandsWhere rules u i p t

pub task_here : (rules : TurnRulesValue) (u : WorkUnit) (i : ℕ) (p was : Progress) (t begun : TaskValue)
    (supply : Option Supply) (disk : Option Disk) → StandsAs rules u i supply disk p → was ≡ p
    → IsNextTask rules u i was begun → t ≡ begun → TaskHere rules u i p t supply disk
task_here rules u i p was t begun supply disk stands same next is =
    let here : IsNextTask rules u i p t =
    subst (λ x. IsNextTask rules u i p x) (sym is) (subst (λ x. IsNextTask rules u i x begun) same next) in
    record {
      next = here;
      is = next_is_task rules u i p t supply disk stands here;
      at = next_stands rules u i p t here;
    }

pub task_there : (rules : TurnRulesValue) (u : WorkUnit) (i : ℕ) (t : TaskValue) (supply : Option Supply)
    (disk : Option Disk) → IsTaskOf rules u i t supply disk → IfSome disk (λ d. AreThere t.staged d.files)
task_there rules u i t supply None is = tt
task_there rules u i t supply (Some d) is =
    let holds : HoldsSent rules.plan t is.fed d.files = is.holds in
    held_there t.staged holds.contents d.files holds.holds

-- ---- pulls

next_pull : (rules : TurnRulesValue) (u : WorkUnit) (i : ℕ) (p : Progress) (t : TaskValue) (supply : Option Supply)
    (disk : Option Disk) (job : Job) (s : Supply) (w : Waiting) → 0 < rules.piece → IsTaskOf rules u i t supply disk
    → StandsWhere rules u i p t → GoesBy rules job → waiting_for job s.held i u p ≡ w ∷ []
    → first_pull w.left ≡ Some (turn_pull rules.piece t)
next_pull rules u i p t supply disk job s w some is at by waits =
    let unit = is.unit in
    let inside : length is.fed < t.unit.hi - t.unit.lo = is.stands.left in
    let seen : t.machine.seen ≡ length is.fed = is.stands.was.known.seen in
    let piece : job.turns.piece ≡ rules.piece = by.piece in
    let less : t.machine.seen < t.unit.hi - t.unit.lo = omega arith in
    let here : t.machine.seen < u.hi - u.lo = subst (λ (v : WorkUnit). t.machine.seen < v.hi - v.lo) unit less in
    let back = sym unit in
    ap (λ (x : Waiting). first_pull x.left) (sym (waits_as rules i u p t job s.held w at waits))
    ∙ (first_of_left job s.held u t.machine.seen (min job.turns.piece (u.hi - u.lo - t.machine.seen))
    (omega (arith, piece, some)) here refl
    ∙ (λ k. Some (pull_at ((back k).part) ((back k).lo + t.machine.seen)
    (min (piece k) ((back k).hi - (back k).lo - t.machine.seen)))))

pulled_told : (old now : Option Supply) (s : Supply) (pull : Pull) → old ≡ Some s
    → now ≡ option_map (with_pull pull) old → now ≡ Some (with_pull pull s)
pulled_told old now s pull told is = is ∙ ap (option_map (with_pull pull)) told

pub stopped_told : (rules : TurnRulesValue) (u : WorkUnit) (i : ℕ) (p : Progress) (t : TaskValue) (fault : TurnFault)
    (old mid : Devices) → 0 < rules.piece → TaskHere rules u i p t old.supply old.disk
    → TurnStopped rules t fault old mid → StoppedIsTold rules i u p old mid
stopped_told rules u i p t turn_fault.Failed old mid some here stopped job s w by told waits =
    inr (
      turn_pull rules.piece t,
      next_pull rules u i p t old.supply old.disk job s w some here.is here.at by waits,
      pulled_told old.supply mid.supply s (turn_pull rules.piece t) told stopped.2,
    )
stopped_told rules u i p t turn_fault.Memory old mid some here stopped job s w by told waits = ⊎_elim
    (λ same. inl (same ∙ told))
    (λ more. inr (
      turn_pull rules.piece t,
      next_pull rules u i p t old.supply old.disk job s w some here.is here.at by waits,
      pulled_told old.supply mid.supply s (turn_pull rules.piece t) told more,
    ))
    stopped

pub taken_told : (rules : TurnRulesValue) (u : WorkUnit) (i : ℕ) (p : Progress) (t v : TaskValue) (r : Turn)
    (old mid new : Devices) → 0 < rules.piece → TaskHere rules u i p t old.supply old.disk
    → TurnTaken rules t v r old mid → new.supply ≡ mid.supply → StoppedIsTold rules i u p old new
taken_told rules u i p t v r old mid new some here taken same job s w by told waits = ⊎_elim
    (λ fails. inl (same ∙ (fails.unpulled ∙ told)))
    (λ answer. inr (
      turn_pull rules.piece t,
      next_pull rules u i p t old.supply old.disk job s w some here.is here.at by waits,
      pulled_told old.supply new.supply s (turn_pull rules.piece t) told (same ∙ answer.1.pulled),
    ))
    taken

stopped_pulls : (rules : TurnRulesValue) (t : TaskValue) (fault : TurnFault) (old mid : Devices)
    → TurnStopped rules t fault old mid → AtMostOnePull old.supply mid.supply
stopped_pulls rules t turn_fault.Failed old mid stopped = inr (turn_pull rules.piece t, stopped.2)
stopped_pulls rules t turn_fault.Memory old mid stopped =
    ⊎_elim (λ same. inl same) (λ more. inr (turn_pull rules.piece t, more)) stopped

taken_pulls : (rules : TurnRulesValue) (t v : TaskValue) (r : Turn) (old mid : Devices)
    → TurnTaken rules t v r old mid → AtMostOnePull old.supply mid.supply
taken_pulls rules t v r old mid taken =
    ⊎_elim (λ fails. inl fails.unpulled) (λ answer. inr (turn_pull rules.piece t, answer.1.pulled)) taken

-- ---- what stays

folder_of : (rules : TurnRulesValue) (u : WorkUnit) (i : ℕ) (t : TaskValue) (supply : Option Supply)
    (disk : Option Disk) → IsTaskOf rules u i t supply disk → t.staged.folder ≡ attempt_folder rules.job i t.failures
folder_of rules u i t supply disk is =
    is.stands.was.folder ∙ ap (λ k. attempt_folder rules.job k t.failures) is.index

below_in : (f g : List ℕ) (old new : Option Disk) → f ≡ g → Along (OnlyBelow f) old new → Along (OnlyBelow g) old new
below_in f g old new same along = subst (λ x. Along (OnlyBelow x) old new) same along

below_then : (folder : List ℕ) (old mid new : Option Disk) → Along (OnlyBelow folder) old mid
    → Along (OnlyBelow folder) mid new → Along (OnlyBelow folder) old new
below_then folder old mid new first later =
    along_then (OnlyBelow folder) (λ m n k a b name off. b name off ∙ a name off) first later

pub keeps_stopped : (rules : TurnRulesValue) (u : WorkUnit) (i : ℕ) (p : Progress) (t v : TaskValue)
    (fault : TurnFault) (old mid : Devices) → TaskHere rules u i p t old.supply old.disk
    → TurnDone rules t v (Err fault) old mid → KeepsOthers rules i old mid
keeps_stopped rules u i p t v fault old mid here done = record {
  failures = t.failures;
  small = here.is.stands.was.small.1;
  below = below_in t.staged.folder (attempt_folder rules.job i t.failures) old.disk mid.disk
      (folder_of rules u i t old.supply old.disk here.is) done.below;
  source = done.source;
  planned = done.planned;
  volume = done.volume;
  pulls = stopped_pulls rules t fault old mid done.answered;
}

-- a good unit's task has the folder that it had
whole_folder : (rules : TurnRulesValue) (u : WorkUnit) (i : ℕ) (t v : TaskValue) (old mid : Devices)
    → IsTaskOf rules u i t old.supply old.disk → TurnTaken rules t v turn.Whole old mid
    → v.staged.folder ≡ attempt_folder rules.job i t.failures
whole_folder rules u i t v old mid is taken = ⊎_elim
    (λ fails. absurd (let bad : good fails.ends.0 fails.ends.1 ≡ failed Fault =
    (fails_for_good (nat_lt t.failures rules.max_retries) (good fails.ends.0 fails.ends.1) fails.ends.2).1 in cc))
    (λ answer. let on = answer.1.goes_on is.fed is.stands in
    let index = on.1.index ∙ is.index in
    let fails = on.1.failures in
    on.0.was.folder ∙ (λ k. attempt_folder rules.job (index k) (fails k)))
    taken

still_below : (rules : TurnRulesValue) (u : WorkUnit) (i : ℕ) (t v : TaskValue) (r : Turn) (old mid : Devices)
    (disk : Option Disk) → IsTaskOf rules u i t old.supply old.disk → TurnTaken rules t v r old mid
    → StaysStill r mid.disk disk → Along (OnlyBelow v.staged.folder) mid.disk disk
    → Along (OnlyBelow (attempt_folder rules.job i t.failures)) old.disk mid.disk
    → Along (OnlyBelow (attempt_folder rules.job i t.failures)) old.disk disk
still_below rules u i t v turn.Going old mid disk is taken still along first =
    subst (λ x. Along (OnlyBelow (attempt_folder rules.job i t.failures)) old.disk x) (sym still) first
still_below rules u i t v turn.Retry old mid disk is taken still along first =
    subst (λ x. Along (OnlyBelow (attempt_folder rules.job i t.failures)) old.disk x) (sym still) first
still_below rules u i t v (turn.Failed c) old mid disk is taken still along first =
    subst (λ x. Along (OnlyBelow (attempt_folder rules.job i t.failures)) old.disk x) (sym still) first
still_below rules u i t v turn.Whole old mid disk is taken still along first =
    below_then (attempt_folder rules.job i t.failures) old.disk mid.disk disk first
    (below_in v.staged.folder (attempt_folder rules.job i t.failures) mid.disk disk
    (whole_folder rules u i t v old mid is taken) along)

pub keeps_taken : {rules : TurnRulesValue} {u : WorkUnit} {i : ℕ} {p : Progress} {t v : TaskValue} {r : Turn}
    {old mid new : Devices} → TaskHere rules u i p t old.supply old.disk
    → TurnDone rules t v (Ok r) old mid → StaysStill r mid.disk new.disk
    → Along (OnlyBelow v.staged.folder) mid.disk new.disk → new.supply ≡ mid.supply
    → new.source_faults ≡ mid.source_faults → new.plan_faults ≡ mid.plan_faults → mid.volume_faults ≤ new.volume_faults
    → KeepsOthers rules i old new
keeps_taken {rules} {u} {i} {p} {t} {v} {r} {old} {mid} {new} here done still along supply faults planned later =
    record {
      failures = t.failures;
      small = here.is.stands.was.small.1;
      below = still_below rules u i t v r old mid new.disk here.is done.answered still along
          (below_in t.staged.folder (attempt_folder rules.job i t.failures) old.disk mid.disk
          (folder_of rules u i t old.supply old.disk here.is) done.below);
      source = (let up = done.source in omega (arith, up, faults));
      planned = planned ∙ done.planned;
      volume = (let up = done.volume in omega (arith, up, later));
      pulls = subst (λ x. AtMostOnePull old.supply x) (sym supply) (taken_pulls rules t v r old mid done.answered);
    }

-- ---- a good unit

pub whole_then : (rules : TurnRulesValue) (u : WorkUnit) (i : ℕ) (t v : TaskValue) (r : Turn) (old mid : Devices)
    → IsTaskOf rules u i t old.supply old.disk → TurnTaken rules t v r old mid → r ≡ turn.Whole
    → (fed : List ℕ) × IsWhole rules.job rules.plan v fed
whole_then rules u i t v r old mid is taken same = whole (subst (λ x. TurnTaken rules t v x old mid) same taken)
  where
    whole : TurnTaken rules t v turn.Whole old mid → (fed : List ℕ) × IsWhole rules.job rules.plan v fed
    whole taken = ⊎_elim
        (λ fails. absurd (let bad : good fails.ends.0 fails.ends.1 ≡ failed Fault =
        (fails_for_good (nat_lt t.failures rules.max_retries) (good fails.ends.0 fails.ends.1) fails.ends.2).1 in cc))
        (λ answer. (_, (answer.1.goes_on is.fed is.stands).0))
        taken

-- ---- the turn as a whole

pub has_turned : {rules : TurnRulesValue} {u : WorkUnit} {i : ℕ} {p q : Progress} {t v : TaskValue} {r : Turn}
    {fails ends : Bool} {old mid new : Devices} → 0 < rules.piece → StandsAs rules u i old.supply old.disk p
    → TaskHere rules u i p t old.supply old.disk → TurnTaken rules t v r old mid
    → StandsThen rules r v mid.disk new.disk q → new.supply ≡ mid.supply → new.source_faults ≡ mid.source_faults
    → fails ≡ fails_in r → ends ≡ not (is_open q)
    → HasTurned rules i u p q (record { failed = fails; ended = ends }) old new
has_turned {rules} {u} {i} {p} {q} {t} {v} {r} {fails} {ends} {old} {mid} {new} some stands here taken
    then supply faults is_failed is_ended =
    let facts : TurnFacts rules i u p q fails old new =
    subst (λ b. TurnFacts rules i u p q b old new) (sym is_failed)
    (turn_facts rules i u p q t v r old mid new some stands here.next taken then supply faults) in
    record {
      ended = is_ended;
      stands = facts.stands;
      fewer = facts.fewer;
      failures = facts.failures;
      cause = facts.cause;
      told = facts.told;
    }
