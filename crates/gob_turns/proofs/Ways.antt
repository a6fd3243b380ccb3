-- Which way a unit's turn went, and where the unit then stands.
use Rattle.std.proofs.Common.{inl, inr}
use Rattle.std.proofs.Common.{◌≡◌, ◌⊎◌, ⊎_elim, ℕ, suc, ◌+◌, ◌*◌, ◌-◌, ◌<◌, ◌≤◌, min, Bool, true, false, cond}
use Rattle.std.proofs.Common.{nat_lt, List, [], ◌∷◌, ◌++◌, length, refl, sym, ap, subst, ◌∙◌, arith, Some, None, IfSome}
use Rattle.std.proofs.Common.{option_map, length-append, suc-mul}
use Rattle.std.specs.declared.option.Option.{Option}
use Rattle.std.proofs.lemmas.Bool.{ltb-true, ltb-false}
use Rattle.std.proofs.lemmas.Option.{none-some}
use Rattle.gob_bytes.specs.Paths.{attempt_folder}
use Rattle.gob_bytes.specs.Tables.{Table, at_name, names_of}
use Rattle.gob_device.specs.Causes.{Rose}
use Rattle.gob_device.specs.Disk.{Both, Disk, Files}
use Rattle.gob_device.specs.Supply.{Held, Supply, bytes_at, bytes_from, with_pull}
use Rattle.gob_plan.specs.declared.units.Cause.{Cause}
use Rattle.gob_plan.specs.declared.units.Cause.TheVariants.{Fault, Gone}
use Rattle.gob_plan.specs.declared.units.Counts.{Counts}
use Rattle.gob_plan.specs.declared.units.Unit.{Unit as WorkUnit}
use Rattle.gob_plan.specs.declared.units.UnitResult.{UnitResult}
use Rattle.gob_plan.specs.declared.units.UnitResult.TheVariants as unit_result
use Rattle.gob_meaning.specs.Job.{Job}
use Rattle.gob_meaning.specs.Results.{Verdict, failed, good, verdict_of}
use Rattle.gob_ledger.specs.TurnLaws.{is_fault}
use Rattle.gob_ledger.specs.Turns.{Waiting, unit_verdict}
use Rattle.gob_ledger.proofs.GivingUp.{bytes_no_fault}
use Rattle.gob_state.specs.Committed.{verdict_in}
use Rattle.gob_stage.specs.Attempt.{new_attempt}
use Rattle.gob_task.specs.Finish.{AreStagedFor, HoldCleanly, IsFinished}
use Rattle.gob_task.specs.Task.{HasBegun, HoldsSent, IsWhole, StandsBehind, TaskValue, unit_length, unit_sends}
use Rattle.gob_task.specs.Turn.{AnswerTaken, Devices, FailureTaken, IsFed, TurnRulesValue, TurnTaken}
use Rattle.gob_task.specs.Turn.{asked_for, end_of_answer, ended, ends_with}
use Rattle.gob_task.specs.Turn.{going, turn_pull, retry}
use Rattle.gob_task.specs.declared.task.Turn.{Turn}
use Rattle.gob_task.specs.declared.task.Turn.TheVariants as turn
use Rattle.gob_turns.specs.declared.progress.Progress.{Progress}
use Rattle.gob_turns.specs.declared.progress.Progress.TheVariants.{Waits, Runs, Ended}
use Rattle.gob_turns.specs.OneTurn.{GoesOnWith, HasFinished, IsNextTask, StandsThen, StandsWhere, fails_in}
use Rattle.gob_turns.specs.Standing.{HasResult, IsTaskOf, StandsAs, failures_so_far, is_open, turns_ahead}
use Rattle.gob_turns.specs.Standing.{waiting_behind, waiting_for}
use Rattle.gob_turns.specs.Underway.{GoesBy, IsTurnOf, TurnIsTold}
use Rattle.gob_turns.proofs.Left.{PullsNext, bytes_join, bytes_long, ended_verdict, pull_at, pulls_next}
use Rattle.gob_turns.proofs.Stays.{supply_stays}
use Rattle.gob_turns.proofs.Turned.{ended_by, ended_told, fails_anew, fails_for_good, gave_up_told, going_on}
use Rattle.gob_turns.proofs.Turned.{going_told, never_goes, never_retried, retry_told}

-- ---- the task that has the turn

seen_is : (rules : TurnRulesValue) (t : TaskValue) (fed : List ℕ) → StandsBehind rules.job rules.plan t fed
    → t.machine.seen ≡ length fed
seen_is rules t fed stands = stands.was.known.seen

no_names : (contents : Table (List ℕ)) → names_of contents ≡ [] → contents ≡ []
no_names [] e = refl
no_names (e ∷ es) is = absurd (let no : e.0 ∷ names_of es ≡ [] = is in cc)

-- an attempt that has begun holds what no bytes make, whatever the map
begun_holds : (rules : TurnRulesValue) (u : WorkUnit) (i failures : ℕ) (t : TaskValue) (m : Files)
    → HasBegun rules.job rules.plan u i failures t → HoldsSent rules.plan t [] m
begun_holds rules u i failures t m begun =
    let told = begun.stands.was.begun in
    let none : t.staged.begun ≡ [] = ap (λ a. a.begun) begun.staged in
    let empty : told.contents ≡ [] = no_names told.contents (told.names ∙ none) in
    record {
      contents = told.contents;
      sent = told.sent;
      holds = record {
        begun = told.names;
        files = λ target bytes is.
            absurd (none-some bytes (sym (ap (λ c. at_name c target) empty) ∙ is));
      };
    }

nothing_from : (held : Held) (part : List ℕ) (lo : ℕ) → [] ≡ bytes_from held part lo 0
unfolding bytes_from
nothing_from held part lo = refl

if_all : {X : Type 0} (P : X → Type 0) (o : Option X) → ((x : X) → P x) → IfSome o P
if_all P None all = tt
if_all P (Some x) all = all x

begun_is : (rules : TurnRulesValue) (u : WorkUnit) (i failures : ℕ) (t : TaskValue) (supply : Option Supply)
    (disk : Option Disk) → failures ≤ rules.max_retries → HasBegun rules.job rules.plan u i failures t
    → IsTaskOf rules u i t supply disk
begun_is rules u i failures t supply disk few begun = record {
  fed = [];
  unit = begun.unit;
  index = begun.index;
  few = let same = begun.failures in omega (arith, same, few);
  stands = begun.stands;
  bytes = if_all (λ s. [] ≡ bytes_from s.held u.part u.lo 0) supply (λ s. nothing_from s.held u.part u.lo);
  holds = if_all (λ d. HoldsSent rules.plan t [] d.files) disk
      (λ d. begun_holds rules u i failures t d.files begun);
}

pub next_is_task : (rules : TurnRulesValue) (u : WorkUnit) (i : ℕ) (p : Progress) (t : TaskValue)
    (supply : Option Supply) (disk : Option Disk) → StandsAs rules u i supply disk p → IsNextTask rules u i p t
    → IsTaskOf rules u i t supply disk
next_is_task rules u i Waits t supply disk stands next =
    begun_is rules u i 0 t supply disk (let e : 0 ≤ rules.max_retries = omega arith in e) next
next_is_task rules u i (Runs b) t supply disk stands next =
    subst (λ v. IsTaskOf rules u i v supply disk) (sym next) stands
next_is_task rules u i (Ended r) t supply disk stands next = absurd next

pub next_stands : (rules : TurnRulesValue) (u : WorkUnit) (i : ℕ) (p : Progress) (t : TaskValue)
    → IsNextTask rules u i p t → StandsWhere rules u i p t
next_stands rules u i Waits t next =
    let fails : t.failures ≡ 0 = next.failures in
    let seen : t.machine.seen ≡ 0 = seen_is rules t [] next.stands in
    let unseen : 0 ≡ t.machine.seen = sym seen in
    let unfailed : 0 ≡ t.failures = sym fails in
    let one : rules.max_retries + 1 ≡ suc rules.max_retries = omega arith in
    let whole : rules.max_retries ≡ rules.max_retries - 0 = omega arith in
    let all : unit_length u ≡ unit_length u - 0 = omega arith in
    record {
      waits = λ job held. (λ k. waiting_behind job held i u (unseen k) (unfailed k) ∷ []);
      ahead =
          ap (λ m. m * unit_length u) one ∙ (suc-mul rules.max_retries (unit_length u)
          ∙ (λ k. whole k * unit_length u + all k))
          ∙ (λ k. (rules.max_retries - unfailed k) * unit_length u + (unit_length u - unseen k));
      failures = unfailed;
    }
next_stands rules u i (Runs b) t next = record {
  waits = λ job held. ap (λ v. waiting_behind job held i u v.machine.seen v.failures ∷ []) (sym next);
  ahead = ap (λ v. (rules.max_retries - v.failures) * unit_length u + (unit_length u - v.machine.seen)) (sym next);
  failures = ap (λ v. v.failures) (sym next);
}
next_stands rules u i (Ended r) t next = absurd next

-- ---- where the unit stands behind the turn

-- its task goes on
pub record GoesAs (rules : TurnRulesValue) (u : WorkUnit) (i : ℕ) (t : TaskValue) (supply : Option Supply)
    (disk : Option Disk) (q : Progress) : Type 0 where
  pub may : is_open q ≡ true
  pub stands : StandsAs rules u i supply disk q
  pub waits : (job : Job) (held : Held)
      → waiting_for job held i u q ≡ waiting_behind job held i u t.machine.seen t.failures ∷ []
  pub ahead : turns_ahead rules.max_retries u q
      ≡ (rules.max_retries - t.failures) * unit_length u + (unit_length u - t.machine.seen)
  pub failures : failures_so_far rules.max_retries q ≡ t.failures

goes_as : (rules : TurnRulesValue) (u : WorkUnit) (i : ℕ) (t : TaskValue) (supply : Option Supply)
    (disk : Option Disk) (q : Progress) → GoesOnWith t q → IsTaskOf rules u i t supply disk
    → GoesAs rules u i t supply disk q
goes_as rules u i t supply disk Waits goes is = absurd goes
goes_as rules u i t supply disk (Runs b) goes is = record {
  may = refl;
  stands = subst (λ v. IsTaskOf rules u i v supply disk) (sym goes) is;
  waits = λ job held. ap (λ v. waiting_behind job held i u v.machine.seen v.failures ∷ []) goes;
  ahead = ap (λ v. (rules.max_retries - v.failures) * unit_length u + (unit_length u - v.machine.seen)) goes;
  failures = ap (λ v. v.failures) goes;
}
goes_as rules u i t supply disk (Ended r) goes is = absurd goes

-- ---- a pull that failed

less_anew : (retries failures n seen : ℕ) → failures < retries → seen < n
    → (retries - (failures + 1)) * n + (n - 0) < (retries - failures) * n + (n - seen)
less_anew retries failures n seen below inside =
    let k : ℕ = retries - (failures + 1) in
    let more : retries - failures ≡ suc k = omega arith in
    let split : suc k * n ≡ n + k * n = suc_times k n in
    let e : (retries - failures) * n ≡ suc k * n = ap (λ x. x * n) more in
    omega (arith, split, e)
  where
    suc_times : (a b : ℕ) → suc a * b ≡ b + a * b
    suc_times a b = let s : suc a * b ≡ a * b + b = suc-mul a b in omega (arith, s)

some_ahead : (x n seen : ℕ) → seen < n → 0 < x + (n - seen)
some_ahead x n seen inside = omega arith

once_more : (b : Bool) (x f retries : ℕ) → b ≡ true → x ≡ retries + 1 → retries ≤ f → x ≤ f + cond b 1 0
once_more true x f retries is e over = omega (arith, e, over)
once_more false x f retries is e over = absurd (let no : false ≡ true = is in cc)

pub record TurnFacts (rules : TurnRulesValue) (i : ℕ) (u : WorkUnit) (p q : Progress) (fails : Bool)
    (old new : Devices) : Type 0 where
  pub stands : StandsAs rules u i new.supply new.disk q
  pub fewer : turns_ahead rules.max_retries u q < turns_ahead rules.max_retries u p
  pub failures : failures_so_far rules.max_retries q ≤ failures_so_far rules.max_retries p + cond fails 1 0
  pub cause : fails ≡ true → Rose old.source_faults new.source_faults
  pub told : TurnIsTold rules i u p q fails old new

pub waits_as : (rules : TurnRulesValue) (i : ℕ) (u : WorkUnit) (p : Progress) (t : TaskValue) (job : Job) (held : Held)
    (w : Waiting) → StandsWhere rules u i p t → waiting_for job held i u p ≡ w ∷ []
    → waiting_behind job held i u t.machine.seen t.failures ≡ w
waits_as rules i u p t job held w at waits =
    let both : waiting_behind job held i u t.machine.seen t.failures ∷ [] ≡ w ∷ [] =
    sym (at.waits job held) ∙ waits in
    same both
  where
    same : {x : Waiting} → x ∷ [] ≡ w ∷ [] → x ≡ w
    same e = cc

failed_way : (rules : TurnRulesValue) (i : ℕ) (u : WorkUnit) (p q : Progress) (t v : TaskValue) (r : Turn)
    (old mid new : Devices) → IsTaskOf rules u i t old.supply old.disk → StandsWhere rules u i p t
    → FailureTaken rules t v r old mid → StandsThen rules r v mid.disk new.disk q
    → new.supply ≡ mid.supply → new.source_faults ≡ mid.source_faults
    → TurnFacts rules i u p q (fails_in r) old new
failed_way rules i u p q t v turn.Going old mid new is at taken then supply faults =
    absurd (never_goes (nat_lt t.failures rules.max_retries) (taken.ends))
failed_way rules i u p q t v turn.Whole old mid new is at taken then supply faults =
    absurd (let no = (fails_for_good (nat_lt t.failures rules.max_retries)
    (good taken.ends.0 taken.ends.1) taken.ends.2).1 in
    let bad : good taken.ends.0 taken.ends.1 ≡ failed Fault = no in cc)
failed_way rules i u p q t v turn.Retry old mid new is at taken then supply faults =
    let anew = taken.anew refl in
    let below : nat_lt t.failures rules.max_retries ≡ true =
    fails_anew (nat_lt t.failures rules.max_retries) taken.ends in
    let less : t.failures < rules.max_retries = ltb-true t.failures rules.max_retries below in
    let unit : v.unit ≡ u = anew.unit ∙ is.unit in
    let index : v.index ≡ i = anew.index ∙ is.index in
    let fails : v.failures ≡ t.failures + 1 = anew.failures in
    let seen : v.machine.seen ≡ 0 = seen_is rules v [] anew.stands in
    let begun : HasBegun rules.job rules.plan u i (t.failures + 1) v = record {
      unit = unit;
      index = index;
      failures = fails;
      stands = anew.stands;
      staged = anew.staged ∙ ap (λ k. new_attempt rules.job k (t.failures + 1)) is.index;
    } in
    let task = begun_is rules u i (t.failures + 1) v new.supply new.disk (omega arith) begun in
    let goes = goes_as rules u i v new.supply new.disk q then.0 task in
    let inside : length is.fed < unit_length t.unit = is.stands.left in
    let of_unit : unit_length t.unit ≡ unit_length u = ap unit_length is.unit in
    let was : t.machine.seen ≡ length is.fed = seen_is rules t is.fed is.stands in
    let fewer = less_anew rules.max_retries t.failures (unit_length u) t.machine.seen less (omega arith) in
    let after : turns_ahead rules.max_retries u q
    ≡ (rules.max_retries - (t.failures + 1)) * unit_length u + (unit_length u - 0) =
    goes.ahead ∙ (λ k. (rules.max_retries - fails k) * unit_length u + (unit_length u - seen k)) in
    let before = at.ahead in
    let failing = at.failures in
    let failed_now = goes.failures in
    record {
      stands = goes.stands;
      fewer = omega (arith, fewer, after, before);
      failures = omega (arith, failing, failed_now, fails);
      cause = λ e. subst (λ n. Rose old.source_faults n) (sym faults) taken.rose;
      told = λ job s w by told_old within waits.
          subst (λ x. IsTurnOf job s i u x true q new.supply)
          (waits_as rules i u p t job s.held w at waits)
          (retry_told job s i u t.machine.seen t.failures q new.supply
          (ap (λ m. nat_lt t.failures m) by.retries ∙ below)
          (supply ∙ (taken.unpulled ∙ told_old)) goes.may
          (goes.waits job s.held ∙ (λ k. waiting_behind job s.held i u (seen k) (fails k) ∷ [])));
    }
failed_way rules i u p q t v (turn.Failed c) old mid new is at taken then supply faults =
    let bad = fails_for_good (nat_lt t.failures rules.max_retries) (failed c) taken.ends in
    let over : rules.max_retries ≤ t.failures = ltb-false t.failures rules.max_retries bad.0 in
    let inside : length is.fed < unit_length t.unit = is.stands.left in
    let of_unit : unit_length t.unit ≡ unit_length u = ap unit_length is.unit in
    let was : t.machine.seen ≡ length is.fed = seen_is rules t is.fed is.stands in
    let before = at.ahead in
    let some = some_ahead ((rules.max_retries - t.failures) * unit_length u) (unit_length u) t.machine.seen
    (omega arith) in
    let after : turns_ahead rules.max_retries u q ≡ 0 = ap (turns_ahead rules.max_retries u) then.0 in
    let given : is_fault (failed c) ≡ true = ap is_fault bad.1 in
    let once : failures_so_far rules.max_retries q ≡ rules.max_retries + 1 =
    ap (failures_so_far rules.max_retries) then.0 ∙ ap (λ b. cond b (rules.max_retries + 1) 0) given in
    let failing = at.failures in
    record {
      stands = subst (λ x. StandsAs rules u i new.supply new.disk x) (sym then.0) tt;
      fewer = omega (arith, some, after, before);
      failures = once_more (is_fault (failed c)) (failures_so_far rules.max_retries q)
          (failures_so_far rules.max_retries p)
          rules.max_retries given once (omega (arith, failing, over));
      cause = λ e. subst (λ n. Rose old.source_faults n) (sym faults) taken.rose;
      told = λ job s w by told_old within waits.
          subst (λ x. IsTurnOf job s i u x (is_fault (failed c)) q new.supply)
          (waits_as rules i u p t job s.held w at waits)
          (subst (λ b. IsTurnOf job s i u (waiting_behind job s.held i u t.machine.seen t.failures) b q new.supply)
          (sym given)
          (subst (λ x. IsTurnOf job s i u (waiting_behind job s.held i u t.machine.seen t.failures) true x new.supply)
          (sym then.0)
          (gave_up_told job s i u t.machine.seen t.failures c new.supply
          (ap (λ m. nat_lt t.failures m) by.retries ∙ bad.0)
          (supply ∙ (taken.unpulled ∙ told_old)) bad.1)));
    }

-- ---- a pull that was answered

if_both : {X : Type 0} (P Q R : X → Type 0) (o : Option X) → ((x : X) → P x → Q x → R x) → IfSome o P → IfSome o Q
    → IfSome o R
if_both P Q R None all p q = tt
if_both P Q R (Some x) all p q = all x p q

both_then : (P Q : Files → Type 0) (old new : Option Disk) → Both (λ d e. P d.files → Q e.files) old new
    → IfSome old (λ d. P d.files) → IfSome new (λ d. Q d.files)
both_then P Q None None both told = tt
both_then P Q None (Some e) both told = absurd both
both_then P Q (Some d) None both told = absurd both
both_then P Q (Some d) (Some e) both told = both told

answer_ends : (b e : Bool) (v x : Verdict) → cond b (ended (failed Gone)) (cond e (ended v) going) ≡ ended x
    → ((b ≡ true) × (failed Gone ≡ x)) ⊎ ((b ≡ false) × (e ≡ true) × (v ≡ x))
answer_ends true e v x is = inl (refl, (ended_by true (failed Gone) x is).1)
answer_ends false e v x is = let r = ended_by e v x is in inr (refl, r.0, r.1)

answer_goes : (b e : Bool) (v : Verdict) → cond b (ended (failed Gone)) (cond e (ended v) going) ≡ going
    → (b ≡ false) × (e ≡ false)
answer_goes true e v is = absurd (let no : ended (failed Gone) ≡ going = is in cc)
answer_goes false e v is = (refl, going_on e v is)

never_anew : (b e : Bool) (v : Verdict) → cond b (ended (failed Gone)) (cond e (ended v) going) ≡ retry → ⊥
never_anew true e v is = cc
never_anew false e v is = never_retried e v is

bytes_now : (rules : TurnRulesValue) (t : TaskValue) (fed given : List ℕ) (held : Held)
    → t.machine.seen ≡ length fed
    → fed ≡ bytes_from held t.unit.part t.unit.lo (length fed)
    → given ≡ bytes_from held t.unit.part (t.unit.lo + t.machine.seen) (asked_for rules.piece t)
    → fed ++ given ≡ bytes_from held t.unit.part t.unit.lo (t.machine.seen + asked_for rules.piece t)
bytes_now rules t fed given held seen of_fed of_given =
    let at = of_fed ∙ ap (bytes_from held t.unit.part t.unit.lo) (sym seen) in
    (λ k. at k ++ of_given k)
    ∙ sym (bytes_join held t.unit.part t.unit.lo t.machine.seen (asked_for rules.piece t))

-- what is known of an answered turn over a source that tells
record IsAnswered (rules : TurnRulesValue) (t : TaskValue) (fed given : List ℕ) (job : Job) (s : Supply) (i : ℕ)
    (now : Option Supply) : Type 0 where
  full : length given ≡ asked_for rules.piece t
  bytes : fed ++ given ≡ bytes_from s.held t.unit.part t.unit.lo (t.machine.seen + asked_for rules.piece t)
  long : length (bytes_from s.held t.unit.part t.unit.lo (t.machine.seen + asked_for rules.piece t))
      ≡ t.machine.seen + asked_for rules.piece t
  next : PullsNext job s.held t.unit t.machine.seen (asked_for rules.piece t)
      (waiting_behind job s.held i t.unit t.machine.seen t.failures)
  pulled : now ≡ Some (with_pull (pull_at t.unit.part (t.unit.lo + t.machine.seen) (asked_for rules.piece t)) s)

is_answered : (rules : TurnRulesValue) (i : ℕ) (t v : TaskValue) (given : List ℕ) (r : Turn) (old mid : Devices)
    (now : Option Supply) (job : Job) (s : Supply) → 0 < rules.piece
    → (is : IsTaskOf rules t.unit i t old.supply old.disk) → AnswerTaken rules t v given r old mid → now ≡ mid.supply
    → GoesBy rules job → old.supply ≡ Some s → t.unit.hi ≤ length (bytes_at s.held t.unit.part)
    → IsAnswered rules t is.fed given job s i now
is_answered rules i t v given r old mid now job s some is taken same by told within =
    let a : ℕ = asked_for rules.piece t in
    let seen : t.machine.seen ≡ length is.fed = seen_is rules t is.fed is.stands in
    let inside : length is.fed < t.unit.hi - t.unit.lo = is.stands.left in
    let of_given : given ≡ bytes_from s.held t.unit.part (t.unit.lo + t.machine.seen) a =
    subst (λ o. IfSome o (λ z. given ≡ bytes_from z.held t.unit.part (t.unit.lo + t.machine.seen) a)) told taken.told in
    let of_fed : is.fed ≡ bytes_from s.held t.unit.part t.unit.lo (length is.fed) =
    subst (λ o. IfSome o (λ z. is.fed ≡ bytes_from z.held t.unit.part t.unit.lo (length is.fed))) told is.bytes in
    let long = bytes_long s.held t.unit.part t.unit.lo (t.machine.seen + a) (omega arith) in
    let piece : job.turns.piece ≡ rules.piece = by.piece in
    record {
      full = ap length of_given
          ∙ bytes_long s.held t.unit.part (t.unit.lo + t.machine.seen) a (omega arith);
      bytes = bytes_now rules t is.fed given s.held seen of_fed of_given;
      long = long;
      next = pulls_next job s.held t.unit t.machine.seen a
          (waiting_behind job s.held i t.unit t.machine.seen t.failures) (omega (arith, piece, some)) (omega arith)
          (ap (λ m. min m (t.unit.hi - t.unit.lo - t.machine.seen)) (sym piece)) long;
      pulled = same ∙ (taken.pulled ∙ ap (option_map (with_pull (turn_pull rules.piece t))) told);
    }

-- the task is fed with all that was asked for
fed_is : (rules : TurnRulesValue) (i : ℕ) (t v : TaskValue) (given : List ℕ) (r : Turn) (old mid : Devices)
    → (is : IsTaskOf rules t.unit i t old.supply old.disk) → AnswerTaken rules t v given r old mid
    → nat_lt (length given) (asked_for rules.piece t) ≡ false
    → IfSome mid.supply (λ s. is.fed ++ given ≡ bytes_from s.held t.unit.part t.unit.lo (length (is.fed ++ given)))
fed_is rules i t v given r old mid is taken full =
    let a : ℕ = asked_for rules.piece t in
    let seen : t.machine.seen ≡ length is.fed = seen_is rules t is.fed is.stands in
    let all : a ≤ length given = ltb-false (length given) a full in
    let few = taken.few in
    let joined = length-append is.fed given in
    let long : t.machine.seen + a ≡ length (is.fed ++ given) = omega arith in
    supply_stays (λ held. is.fed ++ given ≡ bytes_from held t.unit.part t.unit.lo (length (is.fed ++ given)))
    old.supply mid.supply (inr (turn_pull rules.piece t, taken.pulled))
    (if_both (λ s. is.fed ≡ bytes_from s.held t.unit.part t.unit.lo (length is.fed))
    (λ s. given ≡ bytes_from s.held t.unit.part (t.unit.lo + t.machine.seen) a)
    (λ s. is.fed ++ given ≡ bytes_from s.held t.unit.part t.unit.lo (length (is.fed ++ given))) old.supply
    (λ s of_fed of_given. bytes_now rules t is.fed given s.held seen of_fed of_given
    ∙ ap (bytes_from s.held t.unit.part t.unit.lo) long)
    is.bytes taken.told)

answered_going : (rules : TurnRulesValue) (i : ℕ) (p q : Progress) (t v : TaskValue) (given : List ℕ)
    (old mid new : Devices) → 0 < rules.piece → (is : IsTaskOf rules t.unit i t old.supply old.disk)
    → StandsWhere rules t.unit i p t → AnswerTaken rules t v given turn.Going old mid
    → StandsThen rules turn.Going v mid.disk new.disk q → new.supply ≡ mid.supply
    → TurnFacts rules i t.unit p q false old new
answered_going rules i p q t v given old mid new some is at taken then supply =
    let a : ℕ = asked_for rules.piece t in
    let now : List ℕ = is.fed ++ given in
    let ends = answer_goes (nat_lt (length given) a) (ends_with rules.plan t.unit now)
    (verdict_of rules.plan t.unit now)
    (taken.ends is.fed is.stands) in
    let on = taken.goes_on is.fed is.stands in
    let unit : v.unit ≡ t.unit = on.1.unit in
    let task : IsTaskOf rules t.unit i v new.supply new.disk = record {
      fed = now;
      unit = unit;
      index = on.1.index ∙ is.index;
      few = (let same = on.1.failures in let few = is.few in omega (arith, same, few));
      stands = on.0;
      bytes = subst (λ o. IfSome o (λ s. now ≡ bytes_from s.held t.unit.part t.unit.lo (length now))) (sym supply)
          (fed_is rules i t v given turn.Going old mid is taken ends.0);
      holds = subst (λ o. IfSome o (λ d. HoldsSent rules.plan v now d.files)) (sym then.1)
          (both_then (HoldsSent rules.plan t is.fed) (HoldsSent rules.plan v now) old.disk mid.disk on.1.holds
          is.holds);
    } in
    let goes = goes_as rules t.unit i v new.supply new.disk q then.0 task in
    let seen : t.machine.seen ≡ length is.fed = seen_is rules t is.fed is.stands in
    let seen_now : v.machine.seen ≡ length now = seen_is rules v now on.0 in
    let all : a ≤ length given = ltb-false (length given) a ends.0 in
    let joined = length-append is.fed given in
    let inside : length is.fed < t.unit.hi - t.unit.lo = is.stands.left in
    let fails : v.failures ≡ t.failures = on.1.failures in
    let before = at.ahead in
    let after : turns_ahead rules.max_retries t.unit q
    ≡ (rules.max_retries - t.failures) * unit_length t.unit + (unit_length t.unit - v.machine.seen) =
    goes.ahead ∙ (λ k. (rules.max_retries - fails k) * unit_length t.unit + (unit_length t.unit - v.machine.seen)) in
    let failing = at.failures in
    let failed_now = goes.failures in
    record {
      stands = goes.stands;
      fewer = omega arith;
      failures = omega (arith, failing, failed_now, fails);
      cause = λ e. absurd (let no : false ≡ true = e in cc);
      told = λ job s w by told within waits.
          let answered = is_answered rules i t v given turn.Going old mid new.supply job s some is taken supply by told
          within in
          let back = sym answered.bytes in
          let end : ends_with job.plan t.unit (bytes_from s.held t.unit.part t.unit.lo (t.machine.seen + a)) ≡ false =
          (λ k. ends_with (by.plan k) t.unit (back k)) ∙ ends.1 in
          let full = answered.full in
          let reached : v.machine.seen ≡ t.machine.seen + a = omega (arith, seen_now, joined, seen, full) in
          subst (λ x. IsTurnOf job s i t.unit x false q new.supply)
          (waits_as rules i t.unit p t job s.held w at waits)
          (going_told job s i t.unit t.machine.seen a t.failures q new.supply answered.next end answered.pulled goes.may
          (goes.waits job s.held ∙ (λ k. waiting_behind job s.held i t.unit (reached k) (fails k) ∷ [])));
    }

-- what is left of a unit that has ended
ended_facts : (rules : TurnRulesValue) (i : ℕ) (p : Progress) (t : TaskValue) (r : UnitResult) (old new : Devices)
    → (is : IsTaskOf rules t.unit i t old.supply old.disk) → StandsWhere rules t.unit i p t
    → HasResult rules t.unit i new.supply new.disk r → is_fault (verdict_in r) ≡ false
    → TurnIsTold rules i t.unit p (Ended r) false old new → TurnFacts rules i t.unit p (Ended r) false old new
ended_facts rules i p t r old new is at result sound told =
    let inside : length is.fed < t.unit.hi - t.unit.lo = is.stands.left in
    let seen : t.machine.seen ≡ length is.fed = seen_is rules t is.fed is.stands in
    let before = at.ahead in
    let some = some_ahead ((rules.max_retries - t.failures) * unit_length t.unit) (unit_length t.unit) t.machine.seen
    (omega arith) in
    let none : cond (is_fault (verdict_in r)) (rules.max_retries + 1) 0 ≡ 0 =
    ap (λ b. cond b (rules.max_retries + 1) 0) sound in
    record {
      stands = result;
      fewer = omega (arith, some, before);
      failures = omega (arith, none);
      cause = λ e. absurd (let no : false ≡ true = e in cc);
      told = told;
    }

-- where all bytes came, the verdict is that of the unit's bytes
told_ended : (rules : TurnRulesValue) (i : ℕ) (p : Progress) (t v : TaskValue) (given : List ℕ) (r : Turn)
    (result : UnitResult) (old mid new : Devices) → 0 < rules.piece
    → (is : IsTaskOf rules t.unit i t old.supply old.disk) → StandsWhere rules t.unit i p t
    → AnswerTaken rules t v given r old mid → new.supply ≡ mid.supply
    → ends_with rules.plan t.unit (is.fed ++ given) ≡ true
    → verdict_of rules.plan t.unit (is.fed ++ given) ≡ verdict_in result
    → TurnIsTold rules i t.unit p (Ended result) false old new
told_ended rules i p t v given r result old mid new some is at taken supply ends verdict job s w by told within waits =
    let a : ℕ = asked_for rules.piece t in
    let answered = is_answered rules i t v given r old mid new.supply job s some is taken supply by told within in
    let seen : t.machine.seen ≡ length is.fed = seen_is rules t is.fed is.stands in
    let inside : length is.fed < t.unit.hi - t.unit.lo = is.stands.left in
    let back = sym answered.bytes in
    let plan_back = sym by.plan in
    let end : ends_with job.plan t.unit (bytes_from s.held t.unit.part t.unit.lo (t.machine.seen + a)) ≡ true =
    (λ k. ends_with (by.plan k) t.unit (back k)) ∙ ends in
    let same : verdict_in result ≡ unit_verdict job s.held t.unit =
    sym verdict ∙ ((λ k. verdict_of (plan_back k) t.unit (answered.bytes k))
    ∙ ended_verdict job s.held t.unit (t.machine.seen + a) (omega arith) answered.long end) in
    subst (λ x. IsTurnOf job s i t.unit x false (Ended result) new.supply)
    (waits_as rules i t.unit p t job s.held w at waits)
    (ended_told job s i t.unit t.machine.seen a t.failures result new.supply answered.next end answered.pulled same)

answered_failed : (rules : TurnRulesValue) (i : ℕ) (p q : Progress) (t v : TaskValue) (given : List ℕ) (c : Cause)
    (old mid new : Devices) → 0 < rules.piece → (is : IsTaskOf rules t.unit i t old.supply old.disk)
    → StandsWhere rules t.unit i p t → AnswerTaken rules t v given (turn.Failed c) old mid
    → StandsThen rules (turn.Failed c) v mid.disk new.disk q → new.supply ≡ mid.supply
    → TurnFacts rules i t.unit p q (is_fault (failed c)) old new
answered_failed rules i p q t v given c old mid new some is at taken then supply =
    subst (λ x. TurnFacts rules i t.unit p x (is_fault (failed c)) old new) (sym then.0)
    (⊎_elim gone judged
    (answer_ends (nat_lt (length given) a) (ends_with rules.plan t.unit now) (verdict_of rules.plan t.unit now)
    (failed c)
    (taken.ends is.fed is.stands)))
  where
    a : ℕ
    a = asked_for rules.piece t

    now : List ℕ
    now = is.fed ++ given

    r : UnitResult
    r = unit_result.Failed c

    sound : is_fault (failed c) ≡ false → TurnIsTold rules i t.unit p (Ended r) false old new
        → TurnFacts rules i t.unit p (Ended r) (is_fault (failed c)) old new
    sound no_fault told =
        subst (λ b. TurnFacts rules i t.unit p (Ended r) b old new) (sym no_fault)
        (ended_facts rules i p t r old new is at tt no_fault told)

    gone : (nat_lt (length given) a ≡ true) × (failed Gone ≡ failed c)
        → TurnFacts rules i t.unit p (Ended r) (is_fault (failed c)) old new
    gone few = sound (ap is_fault (sym few.1)) (λ job s w by told within waits.
        let answered = is_answered rules i t v given (turn.Failed c) old mid new.supply job s some is taken supply
        by told
        within in
        let less : length given < a = ltb-true (length given) a few.0 in
        let full = answered.full in
        absurd (omega (arith, less, full)))

    judged : (nat_lt (length given) a ≡ false) × (ends_with rules.plan t.unit now ≡ true)
        × (verdict_of rules.plan t.unit now ≡ failed c)
        → TurnFacts rules i t.unit p (Ended r) (is_fault (failed c)) old new
    judged all = sound (ap is_fault (sym all.2) ∙ bytes_no_fault rules.plan t.unit now)
        (told_ended rules i p t v given (turn.Failed c) r old mid new some is at taken supply all.1 all.2)

-- a unit that has finished
has_result : (rules : TurnRulesValue) (i : ℕ) (t v : TaskValue) (fed given : List ℕ) (r : UnitResult)
    (old mid : Devices) (now : Option Supply) (disk : Option Disk) → v.unit ≡ t.unit → v.index ≡ i
    → IsWhole rules.job rules.plan v (fed ++ given)
    → IfSome now (λ s. fed ++ given ≡ bytes_from s.held t.unit.part t.unit.lo (length (fed ++ given)))
    → IfSome mid.disk (λ d. HoldsSent rules.plan v (fed ++ given) d.files)
    → IsFinished rules v (fed ++ given) r mid.disk disk → HasResult rules t.unit i now disk r
has_result rules i t v fed given (unit_result.Failed c) old mid now disk unit index whole bytes holds finished = tt
has_result rules i t v fed given (unit_result.Good n ws files) old mid now disk unit index whole bytes holds finished =
    let all : List ℕ = fed ++ given in
    let folder : v.staged.folder ≡ attempt_folder rules.job i v.failures =
    whole.was.folder ∙ ap (λ k. attempt_folder rules.job k v.failures) index in
    let long : length all ≡ t.unit.hi - t.unit.lo = whole.whole ∙ ap unit_length unit in
    record {
      bytes = all;
      failures = v.failures;
      small = whole.was.small.1;
      whole = long;
      verdict = finished.verdict ∙ ap (λ x. verdict_of rules.plan x all) unit;
      told = if_both (λ s. all ≡ bytes_from s.held t.unit.part t.unit.lo (length all)) (λ s. Unit {0})
          (λ s. all ≡ bytes_from s.held t.unit.part t.unit.lo (t.unit.hi - t.unit.lo)) now
          (λ s e none. e ∙ ap (bytes_from s.held t.unit.part t.unit.lo) long) bytes
          (if_all (λ s. Unit {0}) now (λ s. tt));
      files = subst (λ x. AreStagedFor rules.job rules.plan x
          (attempt_folder rules.job i v.failures) (unit_sends rules.plan x all) files) unit
          (subst (λ f. AreStagedFor rules.job rules.plan v.unit f
          (unit_sends rules.plan v.unit all) files) folder finished.files);
      hold = subst (λ x. IfSome disk (λ d. HoldCleanly rules.plan x rules.job
          (unit_sends rules.plan x all) files d.files))
          unit
          (both_then (HoldsSent rules.plan v all)
          (HoldCleanly rules.plan v.unit rules.job (unit_sends rules.plan v.unit all) files) mid.disk disk finished.hold
          holds);
    }

answered_whole : (rules : TurnRulesValue) (i : ℕ) (p q : Progress) (t v : TaskValue) (given : List ℕ)
    (old mid new : Devices) → 0 < rules.piece → (is : IsTaskOf rules t.unit i t old.supply old.disk)
    → StandsWhere rules t.unit i p t → AnswerTaken rules t v given turn.Whole old mid
    → HasFinished rules v mid.disk new.disk q → new.supply ≡ mid.supply
    → TurnFacts rules i t.unit p q false old new
answered_whole rules i p Waits t v given old mid new some is at taken then supply = absurd then
answered_whole rules i p (Runs b) t v given old mid new some is at taken then supply = absurd then
answered_whole rules i p (Ended r) t v given old mid new some is at taken then supply =
    ⊎_elim (λ few. absurd (let no : failed Gone ≡ good told.0 told.1 = few.1 in cc)) judged
    (answer_ends (nat_lt (length given) a) (ends_with rules.plan t.unit now) (verdict_of rules.plan t.unit now)
    (good told.0 told.1) told.2)
  where
    a : ℕ
    a = asked_for rules.piece t

    now : List ℕ
    now = is.fed ++ given

    told : (n : Counts) × (ws : List ℕ)
        × (end_of_answer rules.plan t.unit is.fed (asked_for rules.piece t) given ≡ ended (good n ws))
    told = taken.ends is.fed is.stands

    on : IsWhole rules.job rules.plan v now × IsFed rules t v is.fed given old.disk mid.disk
    on = taken.goes_on is.fed is.stands

    finished : IsFinished rules v now r mid.disk new.disk
    finished = then now on.0

    verdict : verdict_in r ≡ verdict_of rules.plan t.unit now
    verdict = finished.verdict ∙ ap (λ x. verdict_of rules.plan x now) on.1.unit

    judged : (nat_lt (length given) a ≡ false) × (ends_with rules.plan t.unit now ≡ true)
        × (verdict_of rules.plan t.unit now ≡ good told.0 told.1)
        → TurnFacts rules i t.unit p (Ended r) false old new
    judged all = ended_facts rules i p t r old new is at
        (has_result rules i t v is.fed given r old mid new.supply new.disk on.1.unit (on.1.index ∙ is.index) on.0
        (subst (λ o. IfSome o (λ s. now ≡ bytes_from s.held t.unit.part t.unit.lo (length now))) (sym supply)
        (fed_is rules i t v given turn.Whole old mid is taken all.0))
        (both_then (HoldsSent rules.plan t is.fed) (HoldsSent rules.plan v now) old.disk mid.disk on.1.holds is.holds)
        finished)
        (ap is_fault verdict ∙ bytes_no_fault rules.plan t.unit now)
        (told_ended rules i p t v given turn.Whole r old mid new some is at taken supply all.1 (sym verdict))

answered_way : (rules : TurnRulesValue) (i : ℕ) (p q : Progress) (t v : TaskValue) (given : List ℕ) (r : Turn)
    (old mid new : Devices) → 0 < rules.piece → (is : IsTaskOf rules t.unit i t old.supply old.disk)
    → StandsWhere rules t.unit i p t → AnswerTaken rules t v given r old mid
    → StandsThen rules r v mid.disk new.disk q → new.supply ≡ mid.supply
    → TurnFacts rules i t.unit p q (fails_in r) old new
answered_way rules i p q t v given turn.Going old mid new some is at taken then supply =
    answered_going rules i p q t v given old mid new some is at taken then supply
answered_way rules i p q t v given turn.Retry old mid new some is at taken then supply =
    absurd (never_anew (nat_lt (length given) (asked_for rules.piece t)) (ends_with rules.plan t.unit (is.fed ++ given))
    (verdict_of rules.plan t.unit (is.fed ++ given)) (taken.ends is.fed is.stands))
answered_way rules i p q t v given (turn.Failed c) old mid new some is at taken then supply =
    answered_failed rules i p q t v given c old mid new some is at taken then supply
answered_way rules i p q t v given turn.Whole old mid new some is at taken then supply =
    answered_whole rules i p q t v given old mid new some is at taken then supply

-- whichever way the turn went
pub turn_facts : (rules : TurnRulesValue) (i : ℕ) (u : WorkUnit) (p q : Progress) (t v : TaskValue) (r : Turn)
    (old mid new : Devices) → 0 < rules.piece → StandsAs rules u i old.supply old.disk p → IsNextTask rules u i p t
    → TurnTaken rules t v r old mid → StandsThen rules r v mid.disk new.disk q
    → new.supply ≡ mid.supply → new.source_faults ≡ mid.source_faults → TurnFacts rules i u p q (fails_in r) old new
turn_facts rules i u p q t v r old mid new some stands next taken then supply faults =
    let is : IsTaskOf rules u i t old.supply old.disk = next_is_task rules u i p t old.supply old.disk stands next in
    let at : StandsWhere rules u i p t = next_stands rules u i p t next in
    ⊎_elim
    (λ fails. failed_way rules i u p q t v r old mid new is at fails then supply faults)
    (λ answer. subst (λ w. TurnFacts rules i w p q (fails_in r) old new) is.unit
    (answered_way rules i p q t v answer.0 r old mid new some
    (subst (λ w. IsTaskOf rules w i t old.supply old.disk) (sym is.unit) is)
    (subst (λ w. StandsWhere rules w i p t) (sym is.unit) at) answer.1 then supply))
    taken
