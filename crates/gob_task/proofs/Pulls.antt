-- Turns by what their pull came to.
use Rattle.std.proofs.Common.{◌≡◌, inr, ℕ, ◌+◌, ◌<◌, ◌≤◌, Bool, true, false, cond, nat_lt, List, [], ◌++◌, length, take}
use Rattle.std.proofs.Common.{refl, sym, ap, subst, ◌∙◌, None, Some, option_map, IfSome, arith}
use Rattle.std.specs.declared.option.Option.{Option}
use Rattle.std.specs.declared.result.Result.TheVariants.{Ok}
use Rattle.std.proofs.lemmas.Bool.{le-ltb, lt-ltb}
use Rattle.std.proofs.lemmas.List.{length-take}
use Rattle.gob_device.specs.Disk.{Along, Disk, Files}
use Rattle.gob_device.specs.Supply.{Pull, Supply, bytes_from, with_pull}
use Rattle.gob_device.proofs.Trail.{along_nothing}
use Rattle.gob_ledger.specs.Next.{is_good}
use Rattle.gob_meaning.specs.Results.{failed, good, verdict_of}
use Rattle.gob_plan.specs.declared.plan.Plan.{Plan}
use Rattle.gob_plan.specs.declared.units.Cause.TheVariants.{Fault, Gone}
use Rattle.gob_plan.specs.declared.units.Counts.{Counts}
use Rattle.gob_plan.specs.declared.units.Unit.{Unit as WorkUnit}
use Rattle.gob_recovery.specs.Commits.{OnlyBelow}
use Rattle.gob_stage.specs.Attempt.{AreThere, AttemptValue, new_attempt}
use Rattle.gob_task.specs.Task.{HasBegun, StandsBehind, TaskValue}
use Rattle.gob_task.specs.Turn.{AnswerTaken, BytesTaken, Devices, StandsAfter, TellsTurn, TurnDone, TurnRulesValue}
use Rattle.gob_task.specs.Turn.{asked_for, end_of_bytes, end_of_failure, ended, ends_with, going, turn_pull, retry}
use Rattle.gob_task.specs.declared.task.Turn.{Turn}
use Rattle.gob_task.specs.declared.task.Turn.TheVariants as turn

-- fewer bytes came than were asked for
pub gone_taken : (rules : TurnRulesValue) (t u : TaskValue) (given : List ℕ) (old new : Devices)
    → length given < asked_for rules.piece t
    → IfSome old.supply
    (λ s. given ≡ bytes_from s.held t.unit.part (t.unit.lo + t.machine.seen) (asked_for rules.piece t))
    → new.supply ≡ option_map (with_pull (turn_pull rules.piece t)) old.supply → new.source_faults ≡ old.source_faults
    → u ≡ t → new.disk ≡ old.disk → AnswerTaken rules t u given (turn.Failed Gone) old new
gone_taken rules t u given old new less told pulled same unfed unchanged = record {
  few = omega (arith, less);
  told = told;
  pulled = pulled;
  no_fault = same;
  ends = λ fed stands. ap
      (λ b. cond b (ended (failed Gone)) (end_of_bytes rules.plan t.unit (fed ++ given)))
      (lt-ltb (length given) (asked_for rules.piece t) less);
  goes_on = λ fed stands. tt;
  files = λ all fed stands. absurd (omega (arith, less, all));
  gone = λ _. (unfed, unchanged);
}

-- all of them came
pub all_taken : (rules : TurnRulesValue) (t u : TaskValue) (given : List ℕ) (r : Turn) (old new : Devices)
    → length given ≡ asked_for rules.piece t
    → IfSome old.supply
    (λ s. given ≡ bytes_from s.held t.unit.part (t.unit.lo + t.machine.seen) (asked_for rules.piece t))
    → new.supply ≡ option_map (with_pull (turn_pull rules.piece t)) old.supply → new.source_faults ≡ old.source_faults
    → ((fed : List ℕ) → StandsBehind rules.job rules.plan t fed
    → BytesTaken rules t u fed given r old.disk new.disk)
    → AnswerTaken rules t u given r old new
all_taken rules t u given r old new all told pulled same taken = record {
  few = omega (arith, all);
  told = told;
  pulled = pulled;
  no_fault = same;
  ends = λ fed stands. subst (TellsTurn r) (sym (ap
      (λ b. cond b (ended (failed Gone)) (end_of_bytes rules.plan t.unit (fed ++ given)))
      (le-ltb (length given) (asked_for rules.piece t) (omega (arith, all))))) (taken fed stands).ends;
  goes_on = λ fed stands. (taken fed stands).goes_on;
  files = λ _ fed stands. (taken fed stands).files;
  gone = λ less. absurd (omega (arith, all, less));
}

pub given_up : (retries failures : ℕ) → retries ≤ failures → end_of_failure retries failures ≡ ended (failed Fault)
given_up retries failures past =
    ap (λ b. cond b retry (ended (failed Fault))) (le-ltb failures retries past)

pub tried_again : (retries failures : ℕ) → failures < retries → end_of_failure retries failures ≡ retry
tried_again retries failures less = ap (λ b. cond b retry (ended (failed Fault))) (lt-ltb failures retries less)

-- an attempt that has begun nothing has its files
pub new_there : (job : List ℕ) (unit attempt : ℕ) (a : AttemptValue) (m : Files) → a ≡ new_attempt job unit attempt
    → AreThere a m
new_there job unit attempt a m new =
    subst (λ v. AreThere v m) (sym new) (λ target begun. absurd (let no : false ≡ true = begun in cc))

-- ---- whole turns

-- a pull of so many bytes of the task's unit, behind those that were fed
pub record Asked (rules : TurnRulesValue) (t : TaskValue) (asked at : ℕ) (part : List ℕ) : Type 0 where
  pub number : asked ≡ asked_for rules.piece t
  pub unit : part ≡ t.unit.part
  pub place : at ≡ t.unit.lo + t.machine.seen

-- it was answered: so many bytes are in the front of a buffer
pub record Answered (asked at : ℕ) (part front : List ℕ) (n : ℕ) (old new : Devices) : Type 0 where
  pub room : asked ≤ length front
  pub within : n ≤ asked
  pub bytes : IfSome old.supply (λ s. take n front ≡ bytes_from s.held part at asked)
  pub pulled : new.supply ≡ option_map (with_pull (record { part = part; at = at; len = asked })) old.supply
  pub source : new.source_faults ≡ old.source_faults
  pub planned : new.plan_faults ≡ old.plan_faults

told_front : (o : Option Supply) (n asked at : ℕ) (front part : List ℕ) (rules : TurnRulesValue) (t : TaskValue)
    → Asked rules t asked at part → IfSome o (λ s. take n front ≡ bytes_from s.held part at asked)
    → IfSome o (λ s. take n front ≡ bytes_from s.held t.unit.part (t.unit.lo + t.machine.seen) (asked_for
    rules.piece t))
told_front None n asked at front part rules t a told = tt
told_front (Some s) n asked at front part rules t a told =
    told
    ∙ (ap (λ p. bytes_from s.held p at asked) a.unit
    ∙ (ap (λ i. bytes_from s.held t.unit.part i asked) a.place
    ∙ ap (bytes_from s.held t.unit.part (t.unit.lo + t.machine.seen)) a.number))

same_pull : (rules : TurnRulesValue) (t : TaskValue) (asked at : ℕ) (part : List ℕ) → Asked rules t asked at part
    → ◌≡◌ {A = Pull} (record { part = part; at = at; len = asked }) (turn_pull rules.piece t)
same_pull rules t asked at part a = λ i. record { part = a.unit i; at = a.place i; len = a.number i }

-- fewer bytes than were asked for
pub short_turn : (rules : TurnRulesValue) (t : TaskValue) (asked at n : ℕ) (part front : List ℕ) (old new : Devices)
    → Asked rules t asked at part → Answered asked at part front n old new → n < asked
    → new.disk ≡ old.disk → new.volume_faults ≡ old.volume_faults
    → TurnDone rules t t (Ok (turn.Failed Gone)) old new
short_turn rules t asked at n part front old new a b less unchanged same = record {
  answered = inr (
    take n front,
    gone_taken rules t t (take n front) old new
        (omega (arith, less, a.number, b.room, length-take n front))
        (told_front old.supply n asked at front part rules t a b.bytes)
        (b.pulled ∙ ap (λ p. option_map (with_pull p) old.supply) (same_pull rules t asked at part a)) b.source
        refl unchanged,
  );
  below = subst (λ d. Along (OnlyBelow t.staged.folder) old.disk d) (sym unchanged)
      (along_nothing (OnlyBelow t.staged.folder) old.disk);
  source = omega (arith, b.source);
  planned = b.planned;
  volume = omega (arith, same);
}

-- all of them
pub long_turn : (rules : TurnRulesValue) (t u : TaskValue) (asked at n : ℕ) (part front piece : List ℕ)
    (r : Turn) (old new : Devices) → Asked rules t asked at part → Answered asked at part front n old new → asked ≤ n
    → piece ≡ take asked front
    → ((fed : List ℕ) → StandsBehind rules.job rules.plan t fed
    → BytesTaken rules t u fed piece r old.disk new.disk)
    → Along (OnlyBelow t.staged.folder) old.disk new.disk → old.volume_faults ≤ new.volume_faults
    → TurnDone rules t u (Ok r) old new
long_turn rules t u asked at n part front piece r old new a b all same taken below later = record {
  answered = inr (
    take n front,
    all_taken rules t u (take n front) r old new
        (omega (arith, all, a.number, b.within, b.room, length-take n front))
        (told_front old.supply n asked at front part rules t a b.bytes)
        (b.pulled ∙ ap (λ p. option_map (with_pull p) old.supply) (same_pull rules t asked at part a)) b.source
        (λ fed stands. subst (λ bs. BytesTaken rules t u fed bs r old.disk new.disk)
        (same ∙ ap (λ m. take m front) one) (taken fed stands)),
  );
  below = below;
  source = omega (arith, b.source);
  planned = b.planned;
  volume = later;
}
  where
    one : asked ≡ n
    one = omega (arith, all, b.within)

-- ---- what the next call may go on from

not_retry : (plan : Plan) (u : WorkUnit) (bytes : List ℕ) (A : Type 0) → end_of_bytes plan u bytes ≡ retry → A
not_retry plan u bytes A is = cases (ends_with plan u bytes) is
  where
    cases : (b : Bool) → cond b (ended (verdict_of plan u bytes)) going ≡ retry → A
    cases true e = absurd (let no : ended (verdict_of plan u bytes) ≡ retry = e in cc)
    cases false e = absurd (let no : going ≡ retry = e in cc)

pub stands_taken : (rules : TurnRulesValue) (t u : TaskValue) (fed given : List ℕ) (r : Turn) (old new : Option Disk)
    → BytesTaken rules t u fed given r old new → StandsAfter rules u r
stands_taken rules t u fed given turn.Going old new b = (fed ++ given, b.goes_on.0)
stands_taken rules t u fed given turn.Retry old new b = not_retry rules.plan t.unit (fed ++ given) _ b.ends
stands_taken rules t u fed given (turn.Failed cause) old new b = tt
stands_taken rules t u fed given turn.Whole old new b = (fed ++ given, b.goes_on.0)

not_going : (retries failures : ℕ) (A : Type 0) → end_of_failure retries failures ≡ going → A
not_going retries failures A is = cases (nat_lt failures retries) is
  where
    cases : (b : Bool) → cond b retry (ended (failed Fault)) ≡ going → A
    cases true e = absurd (let no : retry ≡ going = e in cc)
    cases false e = absurd (let no : ended (failed Fault) ≡ going = e in cc)

not_whole : (retries failures : ℕ) (A : Type 0) (counts : Counts) (warnings : List ℕ)
    → end_of_failure retries failures ≡ ended (good counts warnings) → A
not_whole retries failures A counts warnings is = cases (nat_lt failures retries) is
  where
    cases : (b : Bool) → cond b retry (ended (failed Fault)) ≡ ended (good counts warnings) → A
    cases true e = absurd (let no : retry ≡ ended (good counts warnings) = e in cc)
    cases false e = absurd (
        let same : failed Fault ≡ good counts warnings = cc in
        let yes : is_good (failed Fault) ≡ true = ap is_good same in
        let no : false ≡ true = yes in cc)

pub stands_failed : (rules : TurnRulesValue) (t u : TaskValue) (r : Turn)
    → TellsTurn r (end_of_failure rules.max_retries t.failures)
    → (r ≡ turn.Retry → HasBegun rules.job rules.plan t.unit t.index (t.failures + 1) u) → StandsAfter rules u r
stands_failed rules t u turn.Going ends anew = not_going rules.max_retries t.failures _ ends
stands_failed rules t u turn.Retry ends anew = ([], (anew refl).stands)
stands_failed rules t u (turn.Failed cause) ends anew = tt
stands_failed rules t u turn.Whole ends anew = not_whole rules.max_retries t.failures _ ends.0 ends.1 ends.2
