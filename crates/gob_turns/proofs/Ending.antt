-- What is left where the turns are stopped, and behind the last of them.
use Rattle.std.proofs.Common.{◌≡◌, ⊎_elim, ℕ, zero, suc, ◌+◌, ◌*◌, ◌%◌, ◌<◌, ◌≤◌, Bool, true}
use Rattle.std.proofs.Common.{false, cond, List, [], ◌∷◌, ◌++◌, length, take, map, get_or, refl, sym, ap, subst, ◌∙◌}
use Rattle.std.proofs.Common.{arith}
use Rattle.std.proofs.Common.{suc-mul, append-nil, append_assoc, Some, None, Option, option_map}
use Rattle.std.specs.List.{enumerate_from, slice_get}
use Rattle.std.specs.Prelude.{slice_index}
use Rattle.std.proofs.lemmas.List.Elements.{filter_map-append}
use Rattle.std.proofs.lemmas.List.Sums.{sum_by-cons}
use Rattle.std.proofs.lemmas.Option.{slice_get-map}
use Rattle.std.proofs.Math.Nat.{mod-lt}
use Rattle.gob_device.specs.Causes.{RoseBy}
use Rattle.gob_device.specs.Supply.{Held, Pull, Supply, bytes_at, with_pulls}
use Rattle.gob_plan.specs.declared.plan.TurnRules.{TurnRules}
use Rattle.gob_plan.specs.declared.units.Unit.{Unit as WorkUnit}
use Rattle.gob_plan.specs.declared.units.UnitResult.{UnitResult}
use Rattle.gob_meaning.specs.Job.{Job}
use Rattle.gob_meaning.specs.Results.{Verdict}
use Rattle.gob_ledger.specs.Counted.{whose_turn}
use Rattle.gob_ledger.specs.TurnLaws.{is_fault}
use Rattle.gob_ledger.specs.Turns.{TakenTurn, Waiting, first_pull, member, one_turn, pulls_in, turns_from, turns_of}
use Rattle.gob_ledger.specs.Turns.{verdict_after, verdicts_of}
use Rattle.gob_state.specs.Committed.{verdict_in, verdicts_in}
use Rattle.gob_sched.specs.CoreValue.{CoreValue}
use Rattle.gob_task.specs.Turn.{Devices, TurnRulesValue}
use Rattle.gob_turns.specs.declared.progress.Progress.{Progress}
use Rattle.gob_turns.specs.declared.progress.Progress.TheVariants.{Waits, Runs, Ended}
use Rattle.gob_turns.specs.declared.progress.Step.{Step}
use Rattle.gob_turns.specs.Asked.{AreHeld, IsWorkedBy, MayHaveTurns}
use Rattle.gob_turns.specs.Standing.{StandsAs, all_failures, all_waiting, failures_so_far, gather}
use Rattle.gob_turns.specs.Standing.{number_for, open_numbers, results_in, waiting_for}
use Rattle.gob_turns.specs.Taken.{AreFirstPulls, given_up_in}
use Rattle.gob_turns.specs.Turning.{GoesOnFrom, HasTurn, TurnsSoFar, most_turns, with_left}
use Rattle.gob_turns.specs.Underway.{AreUnderway, GoesBy, HasTurned, IsLeft, IsPicked, AreRunTurns}
use Rattle.gob_turns.specs.Underway.{StoppedIsTold}
use Rattle.gob_turns.proofs.Having.{behind_below, last_turn, next_turn}
use Rattle.gob_turns.proofs.Picking.{contains_at, has_turn, one_waiting, waiting_numbers}
use Rattle.gob_turns.proofs.Places.{IsAmong, is_among}
use Rattle.gob_turns.proofs.Stays.{open_listed}

-- ---- where the turns are stopped

-- the pulls of the turns that were had come first
pulls_first : (job : Job) (held : Held) (units : List WorkUnit) (losses : List ℕ) (k : ℕ) (had : List TakenTurn)
    (waiting : List Waiting) → TurnsSoFar job held units losses k had waiting
    → (rest : List TakenTurn) × (pulls_in (turns_of job held units losses) ≡ pulls_in had ++ pulls_in rest)
pulls_first job held units losses k had waiting so =
    let most : ℕ = most_turns job held units in
    let on : GoesOnFrom k losses losses = record { more = []; parts = sym (append-nil losses); behind = tt } in (
      turns_from most job losses k waiting,
      ap pulls_in (so.goes losses most on (omega arith))
          ∙ filter_map-append (λ (t : TakenTurn). t.pull) had (turns_from most job losses k waiting),
    )

-- and then the next pull of the unit that has the turn
pulls_next_first : (job : Job) (held : Held) (units : List WorkUnit) (losses : List ℕ) (k : ℕ) (had : List TakenTurn)
    (waiting : List Waiting) (w : Waiting) (pull : Pull) → TurnsSoFar job held units losses k had waiting
    → HasTurn job k waiting w → first_pull w.left ≡ Some pull
    → (rest : List TakenTurn)
    × (pulls_in (turns_of job held units losses) ≡ (pulls_in had ++ pull ∷ []) ++ pulls_in rest)
pulls_next_first job held units losses k had waiting w pull so has first =
    let most : ℕ = most_turns job held units in
    let on : GoesOnFrom k losses losses = record { more = []; parts = sym (append-nil losses); behind = tt } in
    let fine : member k losses ≡ false =
    ap (member k) (sym (append-nil losses)) ∙ behind_below k losses [] so.before in
    let turn : TakenTurn = (one_turn job false w).0 in
    let later : List TakenTurn =
    turns_from most job losses (k + 1) (with_left job k (one_turn job false w).1 waiting) in
    let all = so.goes losses (suc most) on (omega arith) in (
      later,
      ap pulls_in (all ∙ ap (λ ts. had ++ ts) (next_turn job losses k most waiting w false has fine))
          ∙ (filter_map-append (λ (t : TakenTurn). t.pull) had (turn ∷ later)
          ∙ (ap (λ ps. pulls_in had ++ ps) (one_pull turn later first)
          ∙ sym (append_assoc (pulls_in had) (pull ∷ []) (pulls_in later)))),
    )
  where
    one_pull : (t : TakenTurn) (ts : List TakenTurn) → t.pull ≡ Some pull → pulls_in (t ∷ ts) ≡ pull ∷ pulls_in ts
    one_pull t ts is =
        ap (λ o. pulls_in (record { unit = t.unit; pull = o; gave_up = t.gave_up } ∷ ts)) is

left_told : (job : Job) (s : Supply) (units : List WorkUnit) (states : List Progress) (k : ℕ) (losses : List ℕ)
    (now : Option Supply) (t : AreRunTurns job s units states k losses now) (later : Option Supply)
    → later ≡ now → AreFirstPulls job s units losses later
left_told job s units states k losses now t later same =
    let first = pulls_first job s.held units losses k t.had (all_waiting job s.held units states) t.so_far in
    record {
      pulls = pulls_in t.had;
      rest = pulls_in first.0;
      supply = same ∙ t.supply;
      turns = first.1;
    }

-- between two turns
pub underway_left : (rules : TurnRulesValue) (turns : TurnRules) (units : List WorkUnit) (listed : List ℕ)
    (states : List Progress) (core : CoreValue) (k : ℕ) (losses : List ℕ) (first now : Devices)
    → AreUnderway rules turns units listed states core k losses first now
    → IsLeft rules turns units losses first now
underway_left rules turns units listed states core k losses first now under = record {
  rising = (k, under.numbered);
  counted = under.counted;
  told = λ job s works is held.
      left_told job s units states k losses now.supply (under.told job s works is held) now.supply refl;
}

more_counted : (n before old now : ℕ) → RoseBy n before old → old ≤ now → RoseBy n before now
more_counted n before old now counted later = omega (arith, counted, later)

goes_by : (rules : TurnRulesValue) (turns : TurnRules) (units : List WorkUnit) (job : Job)
    → MayHaveTurns rules turns units → IsWorkedBy rules turns job → GoesBy rules job
goes_by rules turns units job may works = record {
  plan = works.plan;
  piece = ap (λ (r : TurnRules). r.piece) works.by_turns ∙ may.piece;
  retries = works.retries;
}

-- within a turn
pub stopped_left : (rules : TurnRulesValue) (turns : TurnRules) (units : List WorkUnit) (listed : List ℕ)
    (states : List Progress) (core : CoreValue) (k : ℕ) (losses : List ℕ) (first old now : Devices) (n : ℕ)
    → MayHaveTurns rules turns units
    → AreUnderway rules turns units listed states core k losses first old
    → (picked : IsPicked units listed states core n)
    → StoppedIsTold rules picked.place picked.unit picked.state old now → old.source_faults ≤ now.source_faults
    → IsLeft rules turns units losses first now
stopped_left rules turns units listed states core k losses first old now n may under picked stopped later = record {
  rising = (k, under.numbered);
  counted = more_counted (length losses) first.source_faults old.source_faults now.source_faults under.counted later;
  told = λ job s works is held. pulls_of job s works (under.told job s works is held);
}
  where
    pulls_of : (job : Job) (s : Supply) → IsWorkedBy rules turns job
        → AreRunTurns job s units states k losses old.supply
        → AreFirstPulls job s units losses now.supply
    pulls_of job s works t =
        let waiting : List Waiting = all_waiting job s.held units states in
        let found = has_turn job s.held units listed states core n k picked (under.by_rules ∙ sym works.by_turns)
        (under.place ∙ ap (λ (r : TurnRules). k % length r.schedule) (sym works.by_turns))
        (subst (λ (r : TurnRules). 0 < length r.schedule) (sym works.by_turns) may.schedule) under.left in
        let w : Waiting = found.0 in
        let among : IsAmong (waiting_for job s.held) 0 units states picked.place picked.place picked.unit picked.state
        picked.at w =
        is_among (waiting_for job s.held) (λ (v : Waiting). v.unit) (one_waiting job s.held) 0 units states picked.place
        picked.place picked.unit picked.state picked.at w (omega arith) picked.of_unit picked.of_state picked.may
        found.1
        found.2 in
        let has : HasTurn job k waiting w = ap (slice_get waiting) found.3 ∙ found.1 in
        let behind : Supply = with_pulls (pulls_in t.had) s in
        ⊎_elim
        (λ same. left_told job s units states k losses old.supply t now.supply (same ∙ sym t.supply))
        (λ more.
        let pull : Pull = more.0 in
        let next = pulls_next_first job s.held units losses k t.had waiting w pull t.so_far has more.1 in
        record {
          pulls = pulls_in t.had ++ pull ∷ [];
          rest = pulls_in next.0;
          supply = more.2
              ∙ ap (λ ps. Some (record s { pulls = ps })) (append_assoc s.pulls (pulls_in t.had) (pull ∷ []));
          turns = next.1;
        })
        (stopped job behind w (goes_by rules turns units job may works) t.supply among.is)

-- behind a turn whose pull failed, of which the number isn't kept
pub unnoted_left : (rules : TurnRulesValue) (turns : TurnRules) (units : List WorkUnit) (listed : List ℕ)
    (states : List Progress) (core : CoreValue) (k : ℕ) (losses : List ℕ) (first old now : Devices) (n : ℕ)
    (q : Progress) (step : Step) → MayHaveTurns rules turns units
    → AreUnderway rules turns units listed states core k losses first old
    → (picked : IsPicked units listed states core n)
    → HasTurned rules picked.place picked.unit picked.state q step old now → step.failed ≡ true
    → old.source_faults ≤ now.source_faults → IsLeft rules turns units losses first now
unnoted_left rules turns units listed states core k losses first old now n q step may under picked turned fails later =
    record {
      rising = (k, under.numbered);
      counted =
          more_counted (length losses) first.source_faults old.source_faults now.source_faults under.counted later;
      told = λ job s works is held. pulls_of job s works held (under.told job s works is held);
    }
  where
    pulls_of : (job : Job) (s : Supply) → IsWorkedBy rules turns job → AreHeld s.held units
        → AreRunTurns job s units states k losses old.supply → AreFirstPulls job s units losses now.supply
    pulls_of job s works held t =
        let found = has_turn job s.held units listed states core n k picked (under.by_rules ∙ sym works.by_turns)
        (under.place ∙ ap (λ (r : TurnRules). k % length r.schedule) (sym works.by_turns))
        (subst (λ (r : TurnRules). 0 < length r.schedule) (sym works.by_turns) may.schedule) under.left in
        let w : Waiting = found.0 in
        let among : IsAmong (waiting_for job s.held) 0 units states picked.place picked.place picked.unit picked.state
        picked.at w =
        is_among (waiting_for job s.held) (λ (v : Waiting). v.unit) (one_waiting job s.held) 0 units states picked.place
        picked.place picked.unit picked.state picked.at w (omega arith) picked.of_unit picked.of_state picked.may
        found.1
        found.2 in
        let behind : Supply = with_pulls (pulls_in t.had) s in
        let listed_unit : picked.unit.listed ≡ true =
        open_listed rules picked.unit picked.place picked.state old picked.may
        (under.stand picked.place picked.unit picked.state picked.of_unit picked.of_state) in
        let within : picked.unit.hi ≤ length (bytes_at s.held picked.unit.part) =
        held picked.unit (contains_at units picked.place picked.unit picked.of_unit) listed_unit in
        let turn = turned.told job behind w (goes_by rules turns units job may works) t.supply within among.is in
        let same : now.supply ≡ Some behind =
        turn.supply ∙ (ap (λ b. Some (with_pulls (pulls_in ((one_turn job b w).0 ∷ [])) behind)) fails
        ∙ ap (λ ps. Some (record s { pulls = ps })) (append-nil behind.pulls)) in
        left_told job s units states k losses old.supply t now.supply (same ∙ sym t.supply)

-- ---- behind the last turn

none_picked : (rules : TurnRules) (place : ℕ) (left : List ℕ) → 0 < rules.slots
    → whose_turn rules place left ≡ None → left ≡ []
none_picked rules place [] some is = refl
none_picked rules place (n ∷ ns) some is = absurd (first rules.slots some is)
  where
    there : {X : Type 0} (xs : List X) (j : ℕ) → j < length xs → slice_get xs j ≡ None → ⊥
    there [] j below e = omega (arith, below)
    there (x ∷ xs) zero below e = let no : Some x ≡ None = e in cc
    there (x ∷ xs) (suc j) below e = there xs j (omega (arith, below)) e

    first : (slots : ℕ) → 0 < slots
        → slice_get (take slots (n ∷ ns)) (slice_index rules.schedule (place % length rules.schedule)
        % length (take slots (n ∷ ns))) ≡ None → ⊥
    first zero some e = omega (arith, some)
    first (suc slots) some e =
        there (n ∷ take slots ns) _ (mod-lt (slice_index rules.schedule (place % length rules.schedule))
        {m = length (n ∷ take slots ns)} (omega arith)) e

-- where none may have a turn all have ended
all_ended : (i : ℕ) (us : List WorkUnit) (ps : List Progress) → length ps ≡ length us → gather number_for i us ps ≡ []
    → ps ≡ map (λ r. Ended r) (results_in ps)
all_ended i [] [] long none = refl
all_ended i [] (p ∷ ps) long none = absurd (omega (arith, long))
all_ended i (u ∷ us) [] long none = absurd (omega (arith, long))
all_ended i (u ∷ us) (Waits ∷ ps) long none = absurd (let no : i ∷ gather number_for (i + 1) us ps ≡ [] = none in cc)
all_ended i (u ∷ us) (Runs t ∷ ps) long none = absurd (let no : i ∷ gather number_for (i + 1) us ps ≡ [] = none in cc)
all_ended i (u ∷ us) (Ended r ∷ ps) long none =
    ap (λ qs. Ended r ∷ qs) (all_ended (i + 1) us ps (omega (arith, long)) none)

-- all units have ended
pub record HaveEnded (rules : TurnRulesValue) (turns : TurnRules) (units : List WorkUnit) (states : List Progress)
    (losses : List ℕ) (first now : Devices) : Type 0 where
  pub number : length (results_in states) ≡ length units
  pub result : (i : ℕ) (r : UnitResult) → slice_get (results_in states) i ≡ Some r
      → slice_get states i ≡ Some (Ended r)
  pub stand : (i : ℕ) (u : WorkUnit) (r : UnitResult) → slice_get units i ≡ Some u
      → slice_get (results_in states) i ≡ Some r → StandsAs rules u i now.supply now.disk (Ended r)
  pub none : open_numbers units states ≡ []
  pub given_up : given_up_in (results_in states) * (rules.max_retries + 1) ≤ length losses

length_mapped : {X Y : Type 0} (f : X → Y) (xs : List X) → length (map f xs) ≡ length xs
length_mapped f [] = refl
length_mapped f (x ∷ xs) = ap suc (length_mapped f xs)

given_up_count : (retries : ℕ) (rs : List UnitResult)
    → all_failures retries (map (λ r. Ended r) rs) ≡ given_up_in rs * (retries + 1)
given_up_count retries [] = let e : 0 ≡ 0 * (retries + 1) = omega arith in e
given_up_count retries (r ∷ rs) =
    let one = sum_by-cons (failures_so_far retries) (Ended r) (map (λ x. Ended x) rs) in
    let two = sum_by-cons (λ (x : UnitResult). cond (is_fault (verdict_in x)) 1 0) r rs in
    let later = given_up_count retries rs in
    either (is_fault (verdict_in r)) one two later
  where
    either : (b : Bool)
        → all_failures retries (map (λ x. Ended x) (r ∷ rs))
        ≡ cond b (retries + 1) 0 + all_failures retries (map (λ x. Ended x) rs)
        → given_up_in (r ∷ rs) ≡ cond b 1 0 + given_up_in rs
        → all_failures retries (map (λ x. Ended x) rs) ≡ given_up_in rs * (retries + 1)
        → all_failures retries (map (λ x. Ended x) (r ∷ rs)) ≡ given_up_in (r ∷ rs) * (retries + 1)
    either true one two later =
        let times : suc (given_up_in rs) * (retries + 1) ≡ given_up_in rs * (retries + 1) + (retries + 1) =
        suc-mul (given_up_in rs) (retries + 1) in
        let count : given_up_in (r ∷ rs) ≡ suc (given_up_in rs) = omega (arith, two) in
        let e : given_up_in (r ∷ rs) * (retries + 1) ≡ suc (given_up_in rs) * (retries + 1) =
        ap (λ m. m * (retries + 1)) count in
        omega (arith, one, later, times, e)
    either false one two later =
        let count : given_up_in (r ∷ rs) ≡ given_up_in rs = omega (arith, two) in
        let e : given_up_in (r ∷ rs) * (retries + 1) ≡ given_up_in rs * (retries + 1) =
        ap (λ m. m * (retries + 1)) count in
        omega (arith, one, later, e)

pub have_ended : (rules : TurnRulesValue) (turns : TurnRules) (units : List WorkUnit) (listed : List ℕ)
    (states : List Progress) (core : CoreValue) (k : ℕ) (losses : List ℕ) (first now : Devices)
    → MayHaveTurns rules turns units → AreUnderway rules turns units listed states core k losses first now
    → whose_turn core.rules core.place core.left ≡ None → HaveEnded rules turns units states losses first now
have_ended rules turns units listed states core k losses first now may under is =
    let some : 0 < core.rules.slots = subst (λ (r : TurnRules). 0 < r.slots) (sym under.by_rules) may.slots in
    let none : open_numbers units states ≡ [] =
    sym under.left ∙ ap (map (λ m. get_or listed m 0)) (none_picked core.rules core.place core.left some is) in
    let results : List UnitResult = results_in states in
    let ended : states ≡ map (λ r. Ended r) results = all_ended 0 units states under.number none in
    let many = length_mapped (λ r. Ended r) results in
    let failures = under.failures in
    let same = ap (all_failures rules.max_retries) ended in
    let count = given_up_count rules.max_retries results in
    let state_of : (i : ℕ) (r : UnitResult) → slice_get results i ≡ Some r → slice_get states i ≡ Some (Ended r) =
    λ i r at. ap (λ ps. slice_get ps i) ended
    ∙ (slice_get-map (λ x. Ended x) results i ∙ ap (option_map (λ x. Ended x)) at) in
    record {
      number = sym many ∙ (sym (ap length ended) ∙ under.number);
      result = state_of;
      stand = λ i u r at is. under.stand i u (Ended r) at (state_of i r is);
      none = none;
      given_up = omega (arith, failures, same, count);
    }

-- ---- the verdicts

each_verdict : (f : ℕ × WorkUnit → Verdict) (i : ℕ) (us : List WorkUnit) (rs : List UnitResult) → length rs ≡ length us
    → ((j : ℕ) (u : WorkUnit) (r : UnitResult) → slice_get us j ≡ Some u → slice_get rs j ≡ Some r
    → verdict_in r ≡ f (i + j, u))
    → map verdict_in rs ≡ map f (enumerate_from i us)
each_verdict f i [] [] long each = refl
each_verdict f i [] (r ∷ rs) long each = absurd (omega (arith, long))
each_verdict f i (u ∷ us) [] long each = absurd (omega (arith, long))
each_verdict f i (u ∷ us) (r ∷ rs) long each =
    let here : i + 0 ≡ i = omega arith in
    let first : verdict_in r ≡ f (i, u) = each 0 u r refl refl ∙ ap (λ n. f (n, u)) here in
    let later = each_verdict f (i + 1) us rs (omega (arith, long))
    (λ j v x at is. let next : i + suc j ≡ i + 1 + j = omega arith in
    each (suc j) v x at is ∙ ap (λ n. f (n, v)) next) in
    (λ k. first k ∷ later k)

-- the turns that were had are all
all_had : (job : Job) (held : Held) (units : List WorkUnit) (states : List Progress) (k : ℕ) (losses : List ℕ)
    (had : List TakenTurn) → open_numbers units states ≡ []
    → TurnsSoFar job held units losses k had (all_waiting job held units states) → turns_of job held units losses ≡ had
all_had job held units states k losses had none so =
    last_turn job held units losses k had
    (subst (λ ws. TurnsSoFar job held units losses k had ws)
    (no_more (all_waiting job held units states) (waiting_numbers job held units states ∙ none)) so)
  where
    no_more : (ws : List Waiting) → map (λ (w : Waiting). w.unit) ws ≡ [] → ws ≡ []
    no_more [] e = refl
    no_more (w ∷ ws) e = absurd (let no : w.unit ∷ map (λ (v : Waiting). v.unit) ws ≡ [] = e in cc)

-- what is told behind the last turn
pub record AllTold (job : Job) (s : Supply) (units : List WorkUnit) (losses : List ℕ) (results : List UnitResult)
    (now : Option Supply) : Type 0 where
  pub pulls : now ≡ Some (with_pulls (pulls_in (turns_of job s.held units losses)) s)
  pub verdicts : verdicts_in results ≡ verdicts_of job s.held units losses

pub all_told : (rules : TurnRulesValue) (turns : TurnRules) (units : List WorkUnit) (states : List Progress) (k : ℕ)
    (losses : List ℕ) (first now : Devices) (job : Job) (s : Supply)
    → HaveEnded rules turns units states losses first now → AreRunTurns job s units states k losses now.supply
    → AllTold job s units losses (results_in states) now.supply
unfolding verdicts_of
all_told rules turns units states k losses first now job s ended t =
    let turns_are = all_had job s.held units states k losses t.had ended.none t.so_far in
    record {
      pulls = t.supply ∙ ap (λ ts. Some (with_pulls (pulls_in ts) s)) (sym turns_are);
      verdicts = each_verdict (verdict_after job s.held t.had) 0 units (results_in states) ended.number
          (λ j u r at is. let same : j ≡ 0 + j = omega arith in
          t.judged j u (Ended r) at (ended.result j r is) ∙ ap (λ n. verdict_after job s.held t.had (n, u)) same)
          ∙ ap (λ ts. map (verdict_after job s.held ts) (enumerate_from 0 units)) (sym turns_are);
    }
