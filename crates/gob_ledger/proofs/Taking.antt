-- The turns of a run end, and are those that come by the schedule.
use Rattle.std.proofs.Common.{◌≡◌, ⊎_elim, ℕ, zero, suc, ◌+◌, ◌-◌, ◌*◌, ◌%◌, ◌<◌, ◌≤◌, min, Bool, true, false, cond}
use Rattle.std.proofs.Common.{not, ◌||◌, nat_lt, List, [], ◌∷◌, ◌++◌, map, length, take, drop, refl, sym, ap, subst}
use Rattle.std.proofs.Common.{◌∙◌, append-nil, append_assoc, Some, None, option_map, slice_index, get_or, arith}
use Rattle.std.proofs.Common.{add-mul, mul-add, mod-lt, length-drop, length-take}
use Rattle.std.specs.declared.option.Option.{Option}
use Rattle.std.specs.List.{Contains, enumerate_from, filter, flat_map, slice_get, sum_by}
use Rattle.std.proofs.lemmas.Bool.{ltb-true, lt-ltb, le-ltb, lt-leb}
use Rattle.std.proofs.lemmas.List.{length-map, length_push, length-append, take_at}
use Rattle.std.proofs.lemmas.List.Sums.{sum_by-cons}
use Rattle.std.proofs.lemmas.Option.{none-some, same_Some, slice_get-map, slice_get-get_or}
use Rattle.gob_device.specs.Supply.{Held, Pull}
use Rattle.gob_plan.specs.declared.plan.TurnRules.{TurnRules}
use Rattle.gob_plan.specs.declared.units.Unit.{Unit as WorkUnit}
use Rattle.gob_meaning.specs.Job.{Job}
use Rattle.gob_ledger.specs.Turns.{TakenTurn, Waiting, after_pull, member, one_turn, own_pulls, place_at, pulls_from}
use Rattle.gob_ledger.specs.Turns.{replace_at, stops_within, then_turns, turns_from, turns_of, up_to_first}
use Rattle.gob_ledger.specs.Turns.{waiting_at_first}
use Rattle.gob_ledger.specs.Counted.{AreScheduled, ListedUnit, has_ended, listed_units, next_turn, attempt_pulls}
use Rattle.gob_ledger.specs.Counted.{turn_behind, units_left, whose_turn}
use Rattle.gob_ledger.specs.TurnLaws.{HaveBytes, TurnsAreScheduled}
use Rattle.gob_ledger.proofs.Members.{none_in, first_in, later_in, in_cases}
use Rattle.gob_ledger.proofs.Scheduling.{AllHavePulls, IsLeft, Numbered, numbered_from, get_in, is_left, turn_is}
use Rattle.gob_ledger.proofs.Scheduling.{wait_of, waiting_behind, waits_on}

-- ---- whose turn it is

get_front : {X : Type 0} (n i : ℕ) (xs : List X) → i < n → slice_get (take n xs) i ≡ slice_get xs i
get_front zero i xs below = absurd (omega (arith, below))
get_front (suc n) i [] below = refl
get_front (suc n) zero (x ∷ xs) below = refl
get_front (suc n) (suc i) (x ∷ xs) below = get_front n i xs (omega (arith, below))

get_none : {X : Type 0} (i : ℕ) → slice_get {X = X} [] i ≡ None
get_none i = refl

take_none : {X : Type 0} (n : ℕ) → take {A = X} n [] ≡ []
take_none zero = refl
take_none (suc n) = refl

pub place_is : {X : Type 0} (rules : TurnRules) (k : ℕ) (xs : List X) → 0 < rules.slots → whose_turn rules k xs
    ≡ slice_get xs (place_at rules k (length xs))
place_is rules k [] some = ap
    (λ ys. slice_get ys (slice_index rules.schedule (k % length rules.schedule) % length ys)) (take_none rules.slots)
place_is rules k (x ∷ xs) some =
    let s : ℕ = slice_index rules.schedule (k % length rules.schedule) in
    let m : ℕ = min rules.slots (length (x ∷ xs)) in
    let few : 0 < m = omega arith in
    let below : s % m < m = mod-lt s few in
    let inside : s % m < rules.slots = omega arith in
    ap (λ n. slice_get (take rules.slots (x ∷ xs)) (s % n)) (length-take rules.slots (x ∷ xs)) ∙ get_front rules.slots
    (s % m) (x ∷ xs) inside

-- where units are left, it is the turn of one
some_turn : {X : Type 0} (rules : TurnRules) (k : ℕ) (xs : List X) → 0 < rules.slots → whose_turn rules k xs ≡ None
    → xs ≡ []
some_turn rules k [] some e = refl
some_turn rules k (x ∷ xs) some e =
    let s : ℕ = slice_index rules.schedule (k % length rules.schedule) in
    let m : ℕ = min rules.slots (length (x ∷ xs)) in
    let few : 0 < m = omega arith in
    let below : s % m < m = mod-lt s few in
    let inside : s % m < length (x ∷ xs) = omega arith in
    absurd (none-some (get_or (x ∷ xs) (s % m) x)
    (sym e ∙ (place_is rules k (x ∷ xs) some ∙ slice_get-get_or (x ∷ xs) (s % m) x inside)))

-- ---- how many turns may still come

-- the turns that the waiting can have
abbrev work : ℕ → List Waiting → ℕ
work retries [] = 0
work retries (w ∷ ws) = length w.left + (retries - w.failures) * length w.all + work retries ws

one_less : (a b n : ℕ) → a ≡ b + 1 → a * n ≡ n + b * n
one_less a b n e = let split = add-mul b 1 n in ap (λ m. m * n) e ∙ omega arith

-- each turn takes one of them
one_works : (job : Job) (fails : Bool) (w : Waiting) → 0 < length w.left
    → suc (work job.max_retries (one_turn job fails w).1) ≤ work job.max_retries (w ∷ [])
one_works job true w some = cases (nat_lt w.failures job.max_retries) refl
  where
    cases : (b : Bool) → nat_lt w.failures job.max_retries ≡ b
        → suc (work job.max_retries
        (cond b (record w { left = w.all; failures = w.failures + 1 } ∷ []) [])) ≤ work job.max_retries (w ∷ [])
    cases true is =
        let may : w.failures < job.max_retries = ltb-true w.failures job.max_retries is in
        let less = one_less (job.max_retries - w.failures) (job.max_retries - (w.failures + 1)) (length w.all)
        (omega arith) in
        omega arith
    cases false is = omega arith
one_works job false w some = cases w.left some
  where
    cases : (ps : List Pull) → 0 < length ps
        → suc (work job.max_retries (after_pull w ps)) ≤ length ps + (job.max_retries - w.failures) * length w.all + 0
    cases [] some = absurd (omega (arith, some))
    cases (p ∷ []) some = omega arith
    cases (p ∷ q ∷ ps) some = omega arith

work_append : (retries : ℕ) (xs ys : List Waiting) → work retries (xs ++ ys) ≡ work retries xs + work retries ys
work_append retries [] ys = omega arith
work_append retries (x ∷ xs) ys = omega (arith, work_append retries xs ys)

replaced_works : (retries i : ℕ) (new : List Waiting) (w : Waiting) (ws : List Waiting) → slice_get ws i ≡ Some w
    → suc (work retries new) ≤ work retries (w ∷ []) → suc (work retries (replace_at i new ws)) ≤ work retries ws
replaced_works retries i new w [] at less = absurd (none-some w at)
replaced_works retries zero new w (v ∷ ws) at less =
    let same : v ≡ w = same_Some v w at in
    let here : suc (work retries new) ≤ work retries (v ∷ []) = subst
    (λ x. suc (work retries new) ≤ work retries (x ∷ [])) (sym same) less in
    let split = work_append retries new ws in
    omega arith
replaced_works retries (suc i) new w (v ∷ ws) at less =
    let later = replaced_works retries i new w ws at less in
    subst (λ n. suc (work retries (v ∷ (take i ws ++ new ++ drop n (v ∷ ws)))) ≤ work retries (v ∷ ws))
    (sym (shift i)) (omega (arith, later))
  where
    shift : (k : ℕ) → suc k + 1 ≡ suc (k + 1)
    shift k = omega arith

-- ---- turns behind turns

-- each of these turns is the one that comes behind those before it, until no unit is left
abbrev pub Follow : Job → List ListedUnit → List ℕ → List TakenTurn → List TakenTurn → Type 0
Follow job us failing before [] = units_left job.max_retries us before ≡ []
Follow job us failing before (t ∷ ts) = (next_turn job us failing before ≡ Some t)
    × Follow job us failing (before ++ t ∷ []) ts

has_pulls : (turns : List TakenTurn) (u : ListedUnit) → length (attempt_pulls u.unit turns) < length u.own
    → 0 < length (wait_of turns u).left
has_pulls turns u more = let left = length-drop (length (attempt_pulls u.unit turns)) u.own in omega arith

nothing_waits : (retries : ℕ) (us : List ListedUnit) (turns : List TakenTurn)
    → work retries (waiting_behind retries us turns) ≤ 0 → units_left retries us turns ≡ []
nothing_waits retries us turns none = cases (units_left retries us turns) (λ u h. (is_left retries us turns u h).1) none
  where
    cases : (ls : List ListedUnit) → ((u : ListedUnit) → Contains ls u → IsLeft retries turns u)
        → work retries (map (wait_of turns) ls) ≤ 0 → ls ≡ []
    cases [] left none = refl
    cases (u ∷ ls) left none = absurd (let some = has_pulls turns u (left u (first_in u ls u refl)).more in omega arith)

-- the turns that are computed come by the schedule
pub followed : (fuel : ℕ) (job : Job) (us : List ListedUnit) (failing : List ℕ) (turns : List TakenTurn) (n : ℕ)
    → 0 < job.turns.slots → Numbered n us → work job.max_retries (waiting_behind job.max_retries us turns) ≤ fuel
    → Follow job us failing turns (turns_from fuel job failing (length turns) (waiting_behind job.max_retries us turns))
followed zero job us failing turns n some order enough = nothing_waits job.max_retries us turns enough
followed (suc fuel) job us failing turns n some order enough =
    let left : List ListedUnit = units_left job.max_retries us turns in
    let k : ℕ = length turns in
    let place : ℕ = place_at job.turns k (length (map (wait_of turns) left)) in
    let get : slice_get (map (wait_of turns) left) place
    ≡ option_map (wait_of turns) (slice_get left place) = slice_get-map (wait_of turns) left place in
    let whose : whose_turn job.turns k left
    ≡ slice_get left place = place_is job.turns k left some ∙ ap (λ m. slice_get left (place_at job.turns k m))
    (sym (length-map left (wait_of turns))) in
    subst (λ o. Follow job us failing turns
    (then_turns job (member k failing) o
    (λ ws. turns_from fuel job failing (k + 1) (replace_at place ws (map (wait_of turns) left))))) (sym get)
    (cases (slice_get left place) refl whose (λ ts. followed fuel job us failing ts n some order))
  where
    cases : (o : Option ListedUnit)
        → slice_get (units_left job.max_retries us turns)
        (place_at job.turns (length turns) (length (waiting_behind job.max_retries us turns))) ≡ o
        → whose_turn job.turns (length turns) (units_left job.max_retries us turns)
        ≡ slice_get (units_left job.max_retries us turns)
        (place_at job.turns (length turns) (length (waiting_behind job.max_retries us turns)))
        → ((ts : List TakenTurn) → work job.max_retries (waiting_behind job.max_retries us ts) ≤ fuel
        → Follow job us failing ts (turns_from fuel job failing (length ts) (waiting_behind job.max_retries us ts)))
        → Follow job us failing turns (then_turns job (member (length turns) failing) (option_map (wait_of turns) o)
        (λ ws. turns_from fuel job failing (length turns + 1)
        (replace_at (place_at job.turns (length turns) (length (waiting_behind job.max_retries us turns))) ws
        (waiting_behind job.max_retries us turns))))
    cases None e whose later = some_turn job.turns (length turns) (units_left job.max_retries us turns) some (whose ∙ e)
    cases (Some u) e whose later =
        let fails : Bool = member (length turns) failing in
        let left : List ListedUnit = units_left job.max_retries us turns in
        let ws : List Waiting = waiting_behind job.max_retries us turns in
        let place : ℕ = place_at job.turns (length turns) (length ws) in
        let known = is_left job.max_retries us turns u (get_in left place u e) in
        let t : TakenTurn = turn_behind job.max_retries fails turns u in
        let is : (one_turn job fails (wait_of turns u)).0 ≡ t = turn_is job fails turns u known.1.may in
        let waits : replace_at place (one_turn job fails (wait_of turns u)).1 ws
        ≡ waiting_behind job.max_retries us (turns ++ t ∷ []) = waits_on job fails us turns n place u order e in
        let at : slice_get ws place
        ≡ Some (wait_of turns u) = slice_get-map (wait_of turns) left place ∙ ap (option_map (wait_of turns)) e in
        let fewer : suc
        (work job.max_retries
        (replace_at place (one_turn job fails (wait_of turns u)).1 ws)) ≤ work job.max_retries ws =
        replaced_works job.max_retries place (one_turn job fails (wait_of turns u)).1 (wait_of turns u) ws at
        (one_works job fails (wait_of turns u) (has_pulls turns u known.1.more)) in
        let less : work job.max_retries (waiting_behind job.max_retries us (turns ++ t ∷ [])) ≤ fuel = subst
        (λ vs. work job.max_retries vs ≤ fuel) waits (omega arith) in
        let next : next_turn job us failing turns
        ≡ Some t = ap (option_map (turn_behind job.max_retries fails turns)) (whose ∙ e) in
        subst (λ s. Follow job us failing turns
        (s ∷ turns_from fuel job failing (length turns + 1)
        (replace_at place (one_turn job fails (wait_of turns u)).1 ws))) (sym is) (
          next,
          subst (λ vs. Follow job us failing (turns ++ t ∷ []) (turns_from fuel job failing (length turns + 1) vs))
              (sym waits)
              (subst (λ m. Follow job us failing (turns ++ t ∷ [])
              (turns_from fuel job failing m (waiting_behind job.max_retries us (turns ++ t ∷ []))))
              (length_push turns t) (later (turns ++ t ∷ []) less)),
        )

-- ---- one list of turns alone comes by the schedule

-- a turn that comes is a turn of a unit that is left
no_turn : (job : Job) (us : List ListedUnit) (failing : List ℕ) (turns : List TakenTurn)
    → units_left job.max_retries us turns ≡ [] → next_turn job us failing turns ≡ None
no_turn job us failing turns none =
    ap (λ ls. option_map (turn_behind job.max_retries (member (length turns) failing) turns)
    (whose_turn job.turns (length turns) ls)) none
    ∙ ap (λ (ls : List ListedUnit). option_map (turn_behind job.max_retries (member (length turns) failing) turns)
    (slice_get ls (slice_index job.turns.schedule (length turns % length job.turns.schedule) % length ls)))
    (take_none job.turns.slots)

pub follow_once : (job : Job) (us : List ListedUnit) (failing : List ℕ) (before ts vs : List TakenTurn)
    → Follow job us failing before ts → Follow job us failing before vs → ts ≡ vs
follow_once job us failing before [] [] f g = refl
follow_once job us failing before [] (v ∷ vs) f g = absurd (none-some v (sym (no_turn job us failing before f) ∙ g.0))
follow_once job us failing before (t ∷ ts) [] f g = absurd (none-some t (sym (no_turn job us failing before g) ∙ f.0))
follow_once job us failing before (t ∷ ts) (v ∷ vs) f g =
    let same : t ≡ v = same_Some t v (sym f.0 ∙ g.0) in
    let rest = follow_once job us failing (before ++ t ∷ []) ts vs f.1
    (subst (λ x. Follow job us failing (before ++ x ∷ []) vs) (sym same) g.1) in
    λ i. same i ∷ rest i

pub get_here : {X : Type 0} (xs : List X) (y : X) (ys : List X) → slice_get (xs ++ y ∷ ys) (length xs) ≡ Some y
get_here [] y ys = refl
get_here (x ∷ xs) y ys = get_here xs y ys

follow_scheduled : (job : Job) (us : List ListedUnit) (failing : List ℕ) (turns before ts : List TakenTurn) → turns
    ≡ before ++ ts → AreScheduled job us failing turns → Follow job us failing before ts
follow_scheduled job us failing turns before [] is come = subst (λ xs. units_left job.max_retries us xs ≡ [])
    (is ∙ append-nil before) come.all
follow_scheduled job us failing turns before (t ∷ ts) is come =
    let long = length-append before (t ∷ ts) in
    let all : length turns ≡ length (before ++ t ∷ ts) = ap length is in
    let here : slice_get turns (length before)
    ≡ next_turn job us failing (take (length before) turns) = come.each (length before) (omega arith) in
    let front : take (length before) turns
    ≡ before = ap (take (length before)) is ∙ take_at before (t ∷ ts) (length before) refl in (
      sym (ap (next_turn job us failing) front) ∙
          (sym here ∙ (ap (λ xs. slice_get xs (length before)) is ∙ get_here before t ts)),
      follow_scheduled job us failing turns (before ++ t ∷ []) ts (is ∙ sym (append_assoc before (t ∷ []) ts)) come,
    )

follow_each : (job : Job) (us : List ListedUnit) (failing : List ℕ) (before ts : List TakenTurn)
    → Follow job us failing before ts
    → (k : ℕ) → k < length ts → slice_get ts k ≡ next_turn job us failing (before ++ take k ts)
follow_each job us failing before [] f k below = absurd (omega (arith, below))
follow_each job us failing before (t ∷ ts) f zero below = sym f.0 ∙ ap (next_turn job us failing)
    (sym (append-nil before))
follow_each job us failing before (t ∷ ts) f (suc k) below =
    follow_each job us failing (before ++ t ∷ []) ts f.1 k (omega (arith, below)) ∙ ap (next_turn job us failing)
    (append_assoc before (t ∷ []) (take k ts))

follow_all : (job : Job) (us : List ListedUnit) (failing : List ℕ) (before ts : List TakenTurn)
    → Follow job us failing before ts → units_left job.max_retries us (before ++ ts) ≡ []
follow_all job us failing before [] f = ap (units_left job.max_retries us) (append-nil before) ∙ f
follow_all job us failing before (t ∷ ts) f = ap (units_left job.max_retries us)
    (sym (append_assoc before (t ∷ []) ts)) ∙ follow_all job us failing (before ++ t ∷ []) ts f.1

pub scheduled_follow : (job : Job) (us : List ListedUnit) (failing : List ℕ) (ts : List TakenTurn)
    → Follow job us failing [] ts → AreScheduled job us failing ts
scheduled_follow job us failing ts f = record {
  each = follow_each job us failing [] ts f;
  all =
      follow_all job us failing [] ts f;
}

-- ---- before the first turn

one_pull : (stops : Pull → Bool) (k : ℕ) (part : List ℕ) (piece lo hi : ℕ) → 0 < k → lo < hi
    → 0 < length (up_to_first stops (pulls_from k part piece lo hi))
one_pull stops zero part piece lo hi some inside = absurd (omega (arith, some))
one_pull stops (suc k) part piece lo hi some inside =
    let p : Pull = record { part = part; at = lo; len = min piece (hi - lo) } in
    subst (λ b. 0 < length (up_to_first stops (cond b (p ∷ pulls_from k part piece (lo + piece) hi) [])))
    (sym (lt-ltb lo hi inside))
    (either (stops p) p (pulls_from k part piece (lo + piece) hi))
  where
    either : (b : Bool) (p : Pull) (ps : List Pull) → 0 < length (cond b (p ∷ []) (p ∷ up_to_first stops ps))
    either true p ps = omega arith
    either false p ps = omega arith

own_pull : (job : Job) (held : Held) (u : WorkUnit) → u.lo < u.hi → 0 < length (own_pulls job held u)
unfolding own_pulls
own_pull job held u some = one_pull (stops_within job.plan held u) (u.hi - u.lo) u.part job.turns.piece u.lo u.hi
    (omega arith) some

abbrev pub listed_unit : Job → Held → ℕ × WorkUnit → ListedUnit
listed_unit job held e = record { unit = e.0; own = own_pulls job held e.1 }

-- a listed unit is one of the units
pub listed_member : (job : Job) (held : Held) (n : ℕ) (units : List WorkUnit) (u : ListedUnit)
    → Contains (map (listed_unit job held) (filter (λ e. e.1.listed) (enumerate_from n units))) u
    → (i : ℕ) × (w : WorkUnit) × (n + i ≡ u.unit) × (slice_get units i ≡ Some w) × (w.listed ≡ true)
    × (u.own ≡ own_pulls job held w)
listed_member job held n [] u h = none_in u h
listed_member job held n (w ∷ ws) u h = cases w.listed refl h (λ k. listed_member job held (n + 1) ws u k)
  where
    cases : (b : Bool) → w.listed ≡ b
        → Contains (map (listed_unit job held)
        (cond b ((n, w) ∷ filter (λ (e : ℕ × WorkUnit). e.1.listed) (enumerate_from (n + 1) ws))
        (filter (λ (e : ℕ × WorkUnit). e.1.listed) (enumerate_from (n + 1) ws)))) u
        → (Contains
        (map (listed_unit job held) (filter (λ (e : ℕ × WorkUnit). e.1.listed) (enumerate_from (n + 1) ws))) u
        → (i : ℕ) × (x : WorkUnit) × (n + 1 + i ≡ u.unit) × (slice_get ws i ≡ Some x) × (x.listed ≡ true)
        × (u.own ≡ own_pulls job held x))
        → (i : ℕ) × (x : WorkUnit) × (n + i ≡ u.unit) × (slice_get (w ∷ ws) i ≡ Some x) × (x.listed ≡ true)
        × (u.own ≡ own_pulls job held x)
    cases true is h later = ⊎_elim
        (λ (e : listed_unit job held (n, w) ≡ u). (
          0,
          w,
          let at : n
              ≡ u.unit = ap (λ (x : ListedUnit). x.unit) e in omega arith,
          refl,
          is,
          sym
              (ap (λ (x : ListedUnit). x.own) e),
        ))
        (λ k. let r = later k in (suc r.0, r.1, let at : n + 1 + r.0 ≡ u.unit = r.2 in omega arith, r.3, r.4, r.5))
        (in_cases (listed_unit job held (n, w))
        (map (listed_unit job held) (filter (λ (e : ℕ × WorkUnit). e.1.listed) (enumerate_from (n + 1) ws))) u h)
    cases false is h later = let r = later h in
        (suc r.0, r.1, let at : n + 1 + r.0 ≡ u.unit = r.2 in omega arith, r.3, r.4, r.5)

numbered_listed : (job : Job) (held : Held) (n : ℕ) (units : List WorkUnit)
    → Numbered n (map (listed_unit job held) (filter (λ e. e.1.listed) (enumerate_from n units)))
numbered_listed job held n [] = tt
numbered_listed job held n (w ∷ ws) = elim w.listed
    as (λ b. Numbered n
    (map (listed_unit job held)
    (cond b ((n, w) ∷ filter (λ (e : ℕ × WorkUnit). e.1.listed) (enumerate_from (n + 1) ws))
    (filter (λ (e : ℕ × WorkUnit). e.1.listed) (enumerate_from (n + 1) ws))))) [
      | true ↦ (omega arith, numbered_listed job held (n + 1) ws)
      | false ↦ numbered_from n (n + 1)
          (map (listed_unit job held) (filter (λ e. e.1.listed) (enumerate_from (n + 1) ws))) (omega arith)
          (numbered_listed job held (n + 1) ws)
    ]

pub numbered_units : (job : Job) (held : Held) (units : List WorkUnit) → Numbered 0 (listed_units job held units)
numbered_units job held units = numbered_listed job held 0 units

pub have_pulls : (job : Job) (held : Held) (units : List WorkUnit) → HaveBytes units
    → AllHavePulls (listed_units job held units)
have_pulls job held units bytes u h =
    let m = listed_member job held 0 units u h in
    subst (λ ps. 0 < length ps) (sym m.5) (own_pull job held m.1 (bytes m.1 (get_in units m.0 m.1 m.3) m.4))

all_wait : (job : Job) (held : Held) (n : ℕ) (units : List WorkUnit)
    → flat_map (λ (e : ℕ × WorkUnit). cond e.1.listed
    (let all = own_pulls job held e.1 in record { unit = e.0; all = all; left = all; failures = 0 } ∷ []) [])
    (enumerate_from n units)
    ≡ map (wait_of []) (map (listed_unit job held) (filter (λ e. e.1.listed) (enumerate_from n units)))
all_wait job held n [] = refl
all_wait job held n (w ∷ ws) = cases w.listed (all_wait job held (n + 1) ws)
  where
    cases : (b : Bool)
        → flat_map (λ (e : ℕ × WorkUnit). cond e.1.listed
        (let all = own_pulls job held e.1 in record { unit = e.0; all = all; left = all; failures = 0 } ∷ []) [])
        (enumerate_from (n + 1) ws)
        ≡ map (wait_of [])
        (map (listed_unit job held) (filter (λ (e : ℕ × WorkUnit). e.1.listed) (enumerate_from (n + 1) ws)))
        → cond b (record { unit = n; all = own_pulls job held w; left = own_pulls job held w; failures = 0 } ∷ []) []
        ++ flat_map
        (λ (e : ℕ × WorkUnit). cond e.1.listed
        (let all = own_pulls job held e.1 in record { unit = e.0; all = all; left = all; failures = 0 }
        ∷ []) []) (enumerate_from (n + 1) ws)
        ≡ map (wait_of [])
        (map (listed_unit job held)
        (cond b ((n, w) ∷ filter (λ (e : ℕ × WorkUnit). e.1.listed) (enumerate_from (n + 1) ws))
        (filter (λ (e : ℕ × WorkUnit). e.1.listed) (enumerate_from (n + 1) ws))))
    cases true later = ap
        (λ (vs : List Waiting). record {
          unit = n;
          all = own_pulls job held w;
          left = own_pulls job held w;
          failures =
              0;
        } ∷ vs) later
    cases false later = later

none_ended : (retries : ℕ) (us : List ListedUnit) → AllHavePulls us → units_left retries us [] ≡ us
none_ended retries [] some = refl
none_ended retries (u ∷ us) some =
    let here : has_ended retries [] u ≡ false =
    (λ i. lt-leb (length u.own) 0 (some u (first_in u us u refl)) i || le-ltb retries 0 (omega arith) i) in
    let later = none_ended retries us (λ v h. some v (later_in u us v h)) in
    λ i. cond (not (here i)) (u ∷ later i) (later i)

-- the units that wait before the first turn
first_waits : (job : Job) (held : Held) (units : List WorkUnit) → HaveBytes units → waiting_at_first job held units
    ≡ waiting_behind job.max_retries (listed_units job held units) []
first_waits job held units bytes =
    all_wait job held 0 units ∙ ap (map (wait_of []))
    (sym (none_ended job.max_retries (listed_units job held units) (have_pulls job held units bytes)))

first_work : (retries : ℕ) (us : List ListedUnit) → work retries (map (wait_of []) us)
    ≡ (retries + 1) * sum_by (λ w. length w.all) (map (wait_of []) us)
first_work retries [] = let none : (retries + 1) * 0 ≡ 0 = omega arith in sym none
first_work retries (u ∷ us) =
    let w : Waiting = wait_of [] u in
    let sum = sum_by-cons (λ (x : Waiting). length x.all) w (map (wait_of []) us) in
    let later = first_work retries us in
    let split : (retries + 1) * (length u.own + sum_by (λ x. length x.all) (map (wait_of []) us))
    ≡ (retries + 1) * length u.own + (retries + 1) * sum_by (λ x. length x.all) (map (wait_of []) us) = mul-add
    (retries + 1) (length u.own) (sum_by (λ x. length x.all) (map (wait_of []) us)) in
    let once : (retries + 1) * length u.own
    ≡ retries * length u.own + 1 * length u.own = add-mul retries 1 (length u.own) in
    ap (λ n. length u.own + n * length u.own + work retries (map (wait_of []) us))
    (let none : retries - 0 ≡ retries = omega arith in none)
    ∙ (let all : length u.own + retries * length u.own + work retries (map (wait_of []) us)
    ≡ (retries + 1) * (length u.own + sum_by (λ x. length x.all) (map (wait_of []) us)) = omega arith in all
    ∙ ap (λ n. (retries + 1) * n) (sym sum))

-- with any bound that is large enough the turns come by the schedule
enough_turns : (job : Job) (held : Held) (units : List WorkUnit) (failing : List ℕ) (more : ℕ) → 0 < job.turns.slots
    → HaveBytes units
    → let waiting = waiting_at_first job held units in
    Follow job (listed_units job held units) failing []
    (turns_from ((job.max_retries + 1) * sum_by (λ w. length w.all) waiting + more) job failing 0 waiting)
enough_turns job held units failing more some bytes =
    let us : List ListedUnit = listed_units job held units in
    let waiting : List Waiting = waiting_at_first job held units in
    let fuel : ℕ = (job.max_retries + 1) * sum_by (λ w. length w.all) waiting + more in
    let is : waiting ≡ waiting_behind job.max_retries us [] = first_waits job held units bytes in
    let all : waiting ≡ map (wait_of []) us = all_wait job held 0 units in
    let works : work job.max_retries waiting ≡ (job.max_retries + 1) * sum_by (λ w. length w.all) waiting =
    ap (work job.max_retries) all ∙
    (first_work job.max_retries us ∙ ap (λ ws. (job.max_retries + 1) * sum_by (λ w. length w.all) ws) (sym all)) in
    let enough : work job.max_retries (waiting_behind job.max_retries us []) ≤ fuel = subst
    (λ ws. work job.max_retries ws ≤ fuel) is (omega arith) in
    subst (λ ws. Follow job us failing [] (turns_from fuel job failing 0 ws)) (sym is)
    (followed fuel job us failing [] 0 some (numbered_units job held units) enough)

turns_follow : (job : Job) (held : Held) (units : List WorkUnit) (failing : List ℕ) → 0 < job.turns.slots
    → HaveBytes units → Follow job (listed_units job held units) failing [] (turns_of job held units failing)
unfolding turns_of
turns_follow job held units failing some bytes =
    let waiting : List Waiting = waiting_at_first job held units in
    let same : (job.max_retries + 1) * sum_by (λ w. length w.all) waiting + 0
    ≡ (job.max_retries + 1) * sum_by (λ w. length w.all) waiting = omega arith in
    subst (λ n. Follow job (listed_units job held units) failing [] (turns_from n job failing 0 waiting)) same
    (enough_turns job held units failing 0 some bytes)

pub more_turns : (more : ℕ) (job : Job) (held : Held) (units : List WorkUnit) (failing : List ℕ) → 0 < job.turns.slots
    → HaveBytes units
    → let waiting = waiting_at_first job held units in
    turns_from ((job.max_retries + 1) * sum_by (λ w. length w.all) waiting + more) job failing 0 waiting
    ≡ turns_of job held units failing
more_turns more job held units failing some bytes =
    follow_once job (listed_units job held units) failing [] _ _ (enough_turns job held units failing more some bytes)
    (turns_follow job held units failing some bytes)

pub turns_scheduled : (job : Job) (held : Held) (units : List WorkUnit) (failing : List ℕ) → 0 < job.turns.slots
    → HaveBytes units → AreScheduled job (listed_units job held units) failing (turns_of job held units failing)
turns_scheduled job held units failing some bytes = scheduled_follow job (listed_units job held units) failing
    (turns_of job held units failing) (turns_follow job held units failing some bytes)

pub by_the_schedule : TurnsAreScheduled
by_the_schedule job held units failing turns some bytes = (
  λ come. follow_once job (listed_units job held units) failing [] turns (turns_of job held units failing)
      (follow_scheduled job (listed_units job held units) failing turns [] turns refl come)
      (turns_follow job held units failing some bytes),
  λ same. subst (AreScheduled job (listed_units job held units) failing) (sym same)
      (turns_scheduled job held units failing some bytes),
)
