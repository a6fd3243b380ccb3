-- What a task knows behind one more piece.
use Rattle.std.proofs.Common.{◌≡◌, ℕ, ◌+◌, ◌≤◌, ◌^◌, true, List, [], ◌++◌, length, refl, sym, ap, subst, ◌∙◌, None}
use Rattle.std.proofs.Common.{arith, length-append}
use Rattle.std.specs.declared.option.Option.{Option}
use Rattle.std.specs.List.{list_all}
use Rattle.gob_bytes.specs.Escapes.{AreBytes}
use Rattle.gob_bytes.specs.Tables.{Table}
use Rattle.gob_device.specs.Disk.{Disk}
use Rattle.gob_device.proofs.Trail.{both_map}
use Rattle.gob_meaning.specs.Fold.{deliveries_of, sent_to, stop_of, unit_fold}
use Rattle.gob_meaning.specs.Items.{Target}
use Rattle.gob_meaning.specs.Laws.{IsRange}
use Rattle.gob_meaning.proofs.Joins.{parts_join, sent-append}
use Rattle.gob_plan.specs.declared.plan.Plan.{Plan}
use Rattle.gob_recovery.specs.Sequence.{is_file_name}
use Rattle.gob_pipeline.specs.Machine.{Fed, MachineValue, Sends, WasFed, sent_before_stop}
use Rattle.gob_pipeline.specs.Made.{AreEmpty, AreSlots, Buffers, filled_targets}
use Rattle.gob_pipeline.proofs.Filled.{pieces_fill}
use Rattle.gob_stage.specs.Attempt.{AttemptValue, HoldsStaged}
use Rattle.gob_task.specs.Staging.{Appended, Appends, HoldsAppends, appends_of, with_appends}
use Rattle.gob_task.specs.Task.{AreSent, AreSpelled, HoldsSent, HoldsToStop, Names, StandsBehind, TaskValue}
use Rattle.gob_task.specs.Task.{WasFedIn, unit_length, unit_sends}
use Rattle.gob_task.specs.Turn.{BytesTaken, FilesKept, TaskGoesOn, IsFed, TellsTurn, TurnRulesValue, end_of_bytes}
use Rattle.gob_task.specs.declared.task.Turn.{Turn}
use Rattle.gob_task.specs.declared.task.Turn.TheVariants as turn
use Rattle.gob_task.proofs.Appended.{after_folder, after_job, names_after, spelled_after}
use Rattle.gob_task.proofs.Ends.{going_told, whole_told}
use Rattle.gob_task.proofs.Slots.{all_filled}
use Rattle.gob_task.proofs.Sent.{placed_of_unit, sent_alike, sent_all}

-- where no line stops the unit, all lines are before the stop
sent_whole : (plan : Plan) (lo : ℕ) (bytes : List ℕ) → stop_of plan (unit_fold plan lo bytes) ≡ None
    → sent_before_stop plan lo bytes ≡ deliveries_of (unit_fold plan lo bytes)
unfolding sent_before_stop
sent_whole plan lo bytes none = ap deliveries_of ((parts_join plan (unit_fold plan lo bytes) []).all none)

-- the same task with another machine, other names and other files
abbrev pub with_parts : TaskValue → MachineValue → Names → AttemptValue → TaskValue
with_parts t m names a = record t { machine = m; names = names; staged = a }

-- one piece was fed to the task's machine, which sent this, and what came of it was staged
pub record PieceTaken (rules : TurnRulesValue) (t : TaskValue) (m : MachineValue) (a : AttemptValue) (fed piece :
    List ℕ)
    (after : Buffers) (old new : Option Disk) : Type 0 where
  pub few : length rules.plan.branches ≤ 2 ^ 64
  pub range : IsRange t.unit.part t.unit.lo t.unit.hi
  pub stands : StandsBehind rules.job rules.plan t fed
  pub before : Buffers
  pub empty : AreEmpty before
  pub took : Fed rules.plan t.machine m piece before after
  pub branches : length m.counts.branches ≡ length t.machine.counts.branches
  pub slots : AreSlots after
  pub short : length after ≤ 2 ^ 32
  pub appended : Appended (appends_of rules.plan t.unit (filled_targets after)) t.staged a old new
  pub within : t.machine.seen + length piece ≤ unit_length t.unit

-- what the pieces have sent before a stop is in the contents, where it was before the last piece
piece_sent : (rules : TurnRulesValue) (t : TaskValue) (m : MachineValue) (a : AttemptValue)
    (fed piece : List ℕ) (after : Buffers) (old new : Option Disk) → PieceTaken rules t m a fed piece after old new
    → (contents : Table (List ℕ)) → AreSent rules.plan t.unit (unit_sends rules.plan t.unit fed) contents
    → AreSent rules.plan t.unit (sent_before_stop rules.plan t.unit.lo (fed ++ piece))
    (with_appends (appends_of rules.plan t.unit (filled_targets after)) contents)
piece_sent rules t m a fed piece after old new p contents sent =
    sent_alike plan t.unit (unit_sends plan t.unit fed ++ filled_targets after)
    (sent_before_stop plan t.unit.lo (fed ++ piece))
    (with_appends (appends_of plan t.unit (filled_targets after)) contents) alike
    (sent_all plan t.unit p.range (filled_targets after) (unit_sends plan t.unit fed) contents (all_filled after p.short
    p.slots)
    (placed_of_unit plan t.unit fed p.few) sent)
  where
    plan : Plan
    plan = rules.plan

    w : WasFedIn rules.job rules.plan t fed
    w = p.stands.was

    sends : Sends plan t.machine.lo fed piece p.before after
    sends = (p.took.goes fed w.known).1

    none_before : stop_of plan (unit_fold plan t.unit.lo fed) ≡ None
    none_before =
        ap (λ l. stop_of plan (unit_fold plan l fed)) (sym w.lo) ∙ (sym w.known.stop ∙ w.goes_on)

    joined : sent_before_stop plan t.unit.lo (fed ++ piece) ≡ unit_sends plan t.unit fed ++ sends.given
    joined =
        subst (λ l. sent_before_stop plan l (fed ++ piece) ≡ sent_before_stop plan l fed ++ sends.given) w.lo sends.all
        ∙ ap (λ ds. ds ++ sends.given) (sent_whole plan t.unit.lo fed none_before)

    alike : (s : Target) → sent_to s (unit_sends plan t.unit fed ++ filled_targets after)
        ≡ sent_to s (sent_before_stop plan t.unit.lo (fed ++ piece))
    alike s =
        sent-append s (unit_sends plan t.unit fed) (filled_targets after)
        ∙ (ap (λ bs. sent_to s (unit_sends plan t.unit fed) ++ bs)
        (sym (pieces_fill p.before after sends.given p.empty sends.added p.slots s))
        ∙ (sym (sent-append s (unit_sends plan t.unit fed) sends.given) ∙ ap (sent_to s) (sym joined)))

files_kept : (rules : TurnRulesValue) (t : TaskValue) (m : MachineValue) (names : Names) (a : AttemptValue)
    (fed piece : List ℕ) (after : Buffers) (old new : Option Disk) → PieceTaken rules t m a fed piece after old new
    → FilesKept rules t (with_parts t m names a) fed piece old new
files_kept rules t m names a fed piece after old new p = record {
  unit = refl;
  folder = ap (λ v. v.folder) p.appended.attempt ∙ after_folder es t.staged;
  holds = both_map (HoldsAppends es t.staged)
      (λ d e. HoldsSent rules.plan t fed d.files
      → HoldsToStop rules.plan (with_parts t m names a) (fed ++ piece) e.files) held old new p.appended.holds;
  appends = record { buffers = after; slots = p.slots; calls = p.appended.calls };
}
  where
    es : Appends
    es = appends_of rules.plan t.unit (filled_targets after)

    held : (d e : Disk) → HoldsAppends es t.staged d e → HoldsSent rules.plan t fed d.files
        → HoldsToStop rules.plan (with_parts t m names a) (fed ++ piece) e.files
    held d e appends h = record {
      contents = with_appends es h.contents;
      sent = piece_sent rules t m a fed piece after old new p h.contents h.sent;
      holds = subst (λ v. HoldsStaged v (with_appends es h.contents) e.files) (sym p.appended.attempt)
          (appends h.contents h.holds);
    }

-- no line of these bytes stops the unit
pub record OnwardTaken (rules : TurnRulesValue) (t u : TaskValue) (fed piece : List ℕ) (old new : Option Disk)
    : Type 0 where
  pub was : WasFedIn rules.job rules.plan u (fed ++ piece)
  pub same : IsFed rules t u fed piece old new
  pub most : length (fed ++ piece) ≤ unit_length t.unit

onward : (rules : TurnRulesValue) (t : TaskValue) (m : MachineValue) (names : Names) (a : AttemptValue)
    (fed piece : List ℕ) (after : Buffers) (old new : Option Disk) → PieceTaken rules t m a fed piece after old new
    → stop_of rules.plan (unit_fold rules.plan t.unit.lo (fed ++ piece)) ≡ None
    → OnwardTaken rules t (with_parts t m names a) fed piece old new
onward rules t m names a fed piece after old new p none = record {
  was = record {
    pullable = w.pullable;
    small = w.small;
    lo = lo;
    known = known;
    goes_on = known.stop ∙ (ap (λ l. stop_of plan (unit_fold plan l (fed ++ piece))) lo ∙ none);
    branches = p.branches ∙ w.branches;
    of_job = ap (λ v. v.job) p.appended.attempt ∙ (after_job es t.staged ∙ w.of_job);
    folder = ap (λ v. v.folder) p.appended.attempt ∙ (after_folder es t.staged ∙ w.folder);
    begun = record {
      contents = with_appends es w.begun.contents;
      sent = sent_now w.begun.contents w.begun.sent;
      names = names_after es t.staged w.begun.contents w.begun.names ∙ ap (λ v. v.begun) (sym p.appended.attempt);
      spelled = subst (λ v. list_all is_file_name v.begun ≡ true) (sym p.appended.attempt)
          (spelled_after es t.staged p.appended.spelled w.begun.spelled);
    };
  };
  same = record {
    unit = refl;
    index = refl;
    failures = refl;
    holds = both_map (HoldsAppends es t.staged)
        (λ d e. HoldsSent plan t fed d.files → HoldsSent plan (with_parts t m names a) (fed ++ piece) e.files) held
        old new p.appended.holds;
  };
  most = omega (arith, length-append fed piece, w.known.seen, p.within);
}
  where
    plan : Plan
    plan = rules.plan

    w : WasFedIn rules.job rules.plan t fed
    w = p.stands.was

    es : Appends
    es = appends_of plan t.unit (filled_targets after)

    known : WasFed plan m (fed ++ piece)
    known = (p.took.goes fed w.known).0

    lo : m.lo ≡ t.unit.lo
    lo = p.took.lo ∙ w.lo

    sent_now : (contents : Table (List ℕ)) → AreSent plan t.unit (unit_sends plan t.unit fed) contents
        → AreSent plan t.unit (unit_sends plan t.unit (fed ++ piece)) (with_appends es contents)
    sent_now contents sent =
        subst (λ ds. AreSent plan t.unit ds (with_appends es contents))
        (sent_whole plan t.unit.lo (fed ++ piece) none)
        (piece_sent rules t m a fed piece after old new p contents sent)

    held : (d e : Disk) → HoldsAppends es t.staged d e → HoldsSent plan t fed d.files
        → HoldsSent plan (with_parts t m names a) (fed ++ piece) e.files
    held d e appends h = record {
      contents = with_appends es h.contents;
      sent = sent_now h.contents h.sent;
      holds = subst (λ v. HoldsStaged v (with_appends es h.contents) e.files) (sym p.appended.attempt)
          (appends h.contents h.holds);
    }

goes_on : (rules : TurnRulesValue) (t : TaskValue) (m : MachineValue) (names : Names) (a : AttemptValue)
    (fed piece : List ℕ) (after : Buffers) (old new : Option Disk) (r : Turn)
    → PieceTaken rules t m a fed piece after old new → AreSpelled rules.plan t.unit names
    → TellsTurn r (end_of_bytes rules.plan t.unit (fed ++ piece))
    → TaskGoesOn rules t (with_parts t m names a) fed piece r old new
goes_on rules t m names a fed piece after old new turn.Going p spelled is =
    let end = going_told rules.plan t.unit (fed ++ piece) is in
    let o = onward rules t m names a fed piece after old new p end.goes_on in
    (record { was = o.was; left = end.left; names = spelled }, o.same)
goes_on rules t m names a fed piece after old new turn.Retry p spelled is = tt
goes_on rules t m names a fed piece after old new (turn.Failed cause) p spelled is = tt
goes_on rules t m names a fed piece after old new turn.Whole p spelled is =
    let end = whole_told rules.plan t.unit (fed ++ piece) is.0 is.1 p.stands.was.pullable.listed is.2 in
    let o = onward rules t m names a fed piece after old new p end.goes_on in
    (record { was = o.was; whole = omega (arith, end.all, o.most); good = end.good }, o.same)

-- a machine and files behind one more piece
pub piece_done : (rules : TurnRulesValue) (t : TaskValue) (m : MachineValue) (names : Names) (a : AttemptValue)
    (fed piece : List ℕ) (before after : Buffers) (old new : Option Disk) (r : Turn) (plan : Plan) → plan ≡ rules.plan
    → length rules.plan.branches ≤ 8 → AreBytes t.unit.part → StandsBehind rules.job rules.plan t fed
    → AreEmpty before → Fed rules.plan t.machine m piece before after
    → length m.counts.branches ≡ length t.machine.counts.branches → length after ≤ 2 ^ 32 → AreSlots after
    → AreSpelled plan t.unit names → Appended (appends_of plan t.unit (filled_targets after)) t.staged a old new
    → t.machine.seen + length piece ≤ unit_length t.unit
    → ((bytes : List ℕ) → WasFed plan m bytes → TellsTurn r (end_of_bytes plan t.unit bytes))
    → BytesTaken rules t (with_parts t m names a) fed piece r old new
piece_done rules t m names a fed piece before after old new r plan same few bytes stands empty took branches short slots
    spelled appended
    within judged = record {
      ends = ends;
      goes_on = goes_on rules t m names a fed piece after old new r taken
          (subst (λ p. AreSpelled p t.unit names) same spelled) ends;
      files = files_kept rules t m names a fed piece after old new taken;
    }
  where
    ends : TellsTurn r (end_of_bytes rules.plan t.unit (fed ++ piece))
    ends = subst (λ p. TellsTurn r (end_of_bytes p t.unit (fed ++ piece))) same
        (judged (fed ++ piece) (subst (λ p. WasFed p m (fed ++ piece)) (sym same) (took.goes fed stands.was.known).0))

    taken : PieceTaken rules t m a fed piece after old new
    taken = record {
      few = omega (arith, few);
      range = (bytes, omega (arith, stands.was.pullable.bytes, stands.was.pullable.end), stands.was.pullable.end);
      stands = stands;
      before = before;
      empty = empty;
      took = took;
      branches = branches;
      slots = slots;
      short = short;
      appended = subst (λ p. Appended (appends_of p t.unit (filled_targets after)) t.staged a old new) same appended;
      within = within;
    }

-- what is known of the values inside is known of their views
pub taken_seen : (rules seen : TurnRulesValue) (t within u : TaskValue) (piece : List ℕ) (r : Turn) (old new :
    Option Disk)
    → seen ≡ rules → within ≡ t
    → ((fed : List ℕ) → StandsBehind seen.job seen.plan within fed → BytesTaken seen within u fed piece r old new)
    → (fed : List ℕ) → StandsBehind rules.job rules.plan t fed → BytesTaken rules t u fed piece r old new
taken_seen rules seen t within u piece r old new same alike done =
    subst (λ (v : TurnRulesValue). (fed : List ℕ) → StandsBehind v.job v.plan t fed → BytesTaken v t u fed piece r
    old new)
    same
    (subst (λ (v : TaskValue). (fed : List ℕ) → StandsBehind seen.job seen.plan v fed
    → BytesTaken seen v u fed piece r old new) alike done)
