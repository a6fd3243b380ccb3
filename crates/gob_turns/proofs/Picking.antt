-- The unit that the core picks is the one whose turn it is.
use Rattle.std.proofs.Common.{◌≡◌, ℕ, zero, suc, ◌+◌, ◌%◌, ◌<◌, min, Bool, true, false, cond, List, [], ◌∷◌, ◌++◌}
use Rattle.std.proofs.Common.{length}
use Rattle.std.proofs.Common.{take, map, get_or, refl, sym, ap, ◌∙◌, arith, Some, None, option_map, length-take}
use Rattle.std.specs.declared.option.Option.{Option}
use Rattle.std.specs.List.{Contains, slice_get}
use Rattle.std.specs.Prelude.{slice_index}
use Rattle.std.proofs.Math.Nat.{mod-eq_of_lt, mod-lt}
use Rattle.std.proofs.lemmas.Option.{none-some, same_Some, slice_get_within, slice_get-map, get_or_from_slice_get}
use Rattle.gob_plan.specs.declared.units.Unit.{Unit as WorkUnit}
use Rattle.gob_device.specs.Supply.{Held}
use Rattle.gob_meaning.specs.Job.{Job}
use Rattle.gob_ledger.specs.Counted.{whose_turn}
use Rattle.gob_ledger.specs.Turns.{Waiting, place_at}
use Rattle.gob_sched.specs.CoreValue.{CoreValue, is_rising_below}
use Rattle.gob_sched.proofs.Rising.{all_below}
use Rattle.gob_turns.specs.declared.progress.Progress.{Progress}
use Rattle.gob_turns.specs.declared.progress.Progress.TheVariants.{Waits, Runs, Ended}
use Rattle.gob_turns.specs.Standing.{all_waiting, gather, is_open, number_for, open_numbers, waiting_for}
use Rattle.gob_turns.specs.Underway.{IsPicked}
use Rattle.gob_turns.proofs.Places.{HasOneEach, among_first}

-- ---- one number each, and one that waits

open_number : HasOneEach number_for (λ n. n)
open_number = record {
  one = λ i u p goes. (i, ap (λ b. cond b (i ∷ []) []) goes, refl);
  none = λ i u p stays. ap (λ b. cond b (i ∷ []) []) stays;
}

pub one_number : HasOneEach number_for (λ n. n)
one_number = open_number

pub one_waiting : (job : Job) (held : Held) → HasOneEach (waiting_for job held) (λ w. w.unit)
one_waiting job held = record { one = one; none = none }
  where
    one : (i : ℕ) (u : WorkUnit) (p : Progress) → is_open p ≡ true
        → (w : Waiting) × (waiting_for job held i u p ≡ w ∷ []) × (w.unit ≡ i)
    one i u Waits goes = (_, refl, refl)
    one i u (Runs t) goes = (_, refl, refl)
    one i u (Ended r) goes = absurd (let no : false ≡ true = goes in cc)

    none : (i : ℕ) (u : WorkUnit) (p : Progress) → is_open p ≡ false → waiting_for job held i u p ≡ []
    none i u Waits stays = absurd (let no : true ≡ false = stays in cc)
    none i u (Runs t) stays = absurd (let no : true ≡ false = stays in cc)
    none i u (Ended r) stays = refl

-- what waits has those numbers
numbers_from : (job : Job) (held : Held) (i : ℕ) (us : List WorkUnit) (ps : List Progress)
    → map (λ (w : Waiting). w.unit) (gather (waiting_for job held) i us ps) ≡ gather number_for i us ps
numbers_from job held i [] ps = refl
numbers_from job held i (u ∷ us) [] = refl
numbers_from job held i (u ∷ us) (Waits ∷ ps) = ap (λ ns. i ∷ ns) (numbers_from job held (i + 1) us ps)
numbers_from job held i (u ∷ us) (Runs t ∷ ps) = ap (λ ns. i ∷ ns) (numbers_from job held (i + 1) us ps)
numbers_from job held i (u ∷ us) (Ended r ∷ ps) = numbers_from job held (i + 1) us ps

pub waiting_numbers : (job : Job) (held : Held) (us : List WorkUnit) (ps : List Progress)
    → map (λ (w : Waiting). w.unit) (all_waiting job held us ps) ≡ open_numbers us ps
waiting_numbers job held us ps = numbers_from job held 0 us ps

-- ---- where a number stands

-- a number that may have a turn is that of a unit
record IsOpenAt (i : ℕ) (us : List WorkUnit) (ps : List Progress) (n : ℕ) : Type 0 where
  place : ℕ
  unit : WorkUnit
  state : Progress
  is : n ≡ i + place
  of_unit : slice_get us place ≡ Some unit
  of_state : slice_get ps place ≡ Some state
  may : is_open state ≡ true

open_at : (i : ℕ) (us : List WorkUnit) (ps : List Progress) (j n : ℕ) → slice_get (gather number_for i us ps) j ≡ Some n
    → IsOpenAt i us ps n
open_at i [] ps j n is = absurd (none-some n is)
open_at i (u ∷ us) [] j n is = absurd (none-some n is)
open_at i (u ∷ us) (p ∷ ps) j n is = cases (open_at (i + 1) us ps) (is_open p) refl j is
  where
    rest : List ℕ
    rest = gather number_for (i + 1) us ps

    Found : Type 0
    Found = (k m : ℕ) → slice_get rest k ≡ Some m → IsOpenAt (i + 1) us ps m

    later : Found → (k : ℕ) → slice_get rest k ≡ Some n → IsOpenAt i (u ∷ us) (p ∷ ps) n
    later found k at =
        let o = found k n at in
        let its = o.is in
        record {
          place = suc o.place;
          unit = o.unit;
          state = o.state;
          is = omega (arith, its);
          of_unit = o.of_unit;
          of_state = o.of_state;
          may = o.may;
        }

    cases : Found → (b : Bool) → is_open p ≡ b → (k : ℕ) → slice_get (cond b (i ∷ []) [] ++ rest) k ≡ Some n
        → IsOpenAt i (u ∷ us) (p ∷ ps) n
    cases found false stays k at = later found k at
    cases found true goes zero at =
        let its = same_Some i n at in
        record {
          place = 0;
          unit = u;
          state = p;
          is = omega (arith, its);
          of_unit = refl;
          of_state = refl;
          may = goes;
        }
    cases found true goes (suc k) at = later found k at

-- ---- what the core picks

pub contains_at : {X : Type 0} (xs : List X) (k : ℕ) (x : X) → slice_get xs k ≡ Some x → Contains xs x
contains_at xs k x is = (k, slice_get_within xs k x is, get_or_from_slice_get xs k x x is)

pub is_picked : (units : List WorkUnit) (listed : List ℕ) (states : List Progress) (core : CoreValue) (n : ℕ)
    → is_rising_below core.left (length listed) ≡ true
    → map (λ m. get_or listed m 0) core.left ≡ open_numbers units states
    → whose_turn core.rules core.place core.left ≡ Some n → IsPicked units listed states core n
is_picked units listed states core n rising left is =
    let active : List ℕ = take core.rules.slots core.left in
    let at : ℕ = slice_index core.rules.schedule (core.place % length core.rules.schedule) % length active in
    let found : slice_get core.left at ≡ Some n = among_first core.rules.slots at core.left n is in
    let number : slice_get (open_numbers units states) at ≡ Some (get_or listed n 0) =
    ap (λ ns. slice_get ns at) (sym left)
    ∙ (slice_get-map (λ m. get_or listed m 0) core.left at ∙ ap (option_map (λ m. get_or listed m 0)) found) in
    let o = open_at 0 units states at (get_or listed n 0) number in
    let its = o.is in
    let same : get_or listed n 0 ≡ o.place = omega (arith, its) in
    let below = all_below core.left (length listed) at rising (slice_get_within core.left at n found) in
    let is_n : get_or core.left at 0 ≡ n = get_or_from_slice_get core.left at n 0 found in
    record {
      place = o.place;
      at = at;
      unit = o.unit;
      state = o.state;
      within = omega (arith, below, is_n);
      is_place = same;
      of_unit = o.of_unit;
      of_state = o.of_state;
      may = o.may;
      active = contains_at active at n is;
      left = found;
      number = number ∙ ap Some same;
      turn = refl;
    }

-- the unit that waits there has the turn
pub has_turn : (job : Job) (held : Held) (units : List WorkUnit) (listed : List ℕ) (states : List Progress)
    (core : CoreValue) (n k : ℕ) → (picked : IsPicked units listed states core n) → core.rules ≡ job.turns
    → core.place ≡ k % length job.turns.schedule → 0 < length job.turns.schedule
    → map (λ m. get_or listed m 0) core.left ≡ open_numbers units states
    → (w : Waiting) × (slice_get (all_waiting job held units states) picked.at ≡ Some w) × (w.unit ≡ picked.place)
    × (place_at job.turns k (length (all_waiting job held units states)) ≡ picked.at)
has_turn job held units listed states core n k picked rules place some left = found (slice_get waiting at) refl
  where
    waiting : List Waiting
    waiting = all_waiting job held units states

    at : ℕ
    at = picked.at

    numbered : slice_get (map (λ (w : Waiting). w.unit) waiting) at ≡ Some picked.place
    numbered = ap (λ ns. slice_get ns at) (waiting_numbers job held units states) ∙ picked.number

    named : option_map (λ (w : Waiting). w.unit) (slice_get waiting at) ≡ Some picked.place
    named = sym (slice_get-map (λ (w : Waiting). w.unit) waiting at) ∙ numbered

    length_map : {X Y : Type 0} (f : X → Y) (xs : List X) → length (map f xs) ≡ length xs
    length_map f [] = refl
    length_map f (x ∷ xs) = ap suc (length_map f xs)

    many : length waiting ≡ length core.left
    many = sym (length_map (λ (w : Waiting). w.unit) waiting)
        ∙ (ap length (waiting_numbers job held units states)
        ∙ (sym (ap length left) ∙ length_map (λ m. get_or listed m 0) core.left))

    few : length core.left ≡ length waiting
    few = sym many

    actives : length (take core.rules.slots core.left) ≡ min job.turns.slots (length waiting)
    actives = length-take core.rules.slots core.left
        ∙ (λ i. min ((rules i).slots) (few i))

    once : core.place % length core.rules.schedule ≡ k % length job.turns.schedule
    once = (λ i. place i % length ((rules i).schedule)) ∙ mod-eq_of_lt (mod-lt k some)

    turn : place_at job.turns k (length waiting) ≡ at
    turn = sym (picked.turn ∙ (λ i. slice_index ((rules i).schedule) (once i) % actives i))

    found : (o : Option Waiting) → slice_get waiting at ≡ o
        → (w : Waiting) × (slice_get waiting at ≡ Some w) × (w.unit ≡ picked.place)
        × (place_at job.turns k (length waiting) ≡ at)
    found None is = absurd (none-some picked.place
        (sym (ap (option_map (λ (w : Waiting). w.unit)) is) ∙ named))
    found (Some w) is = (
      w,
      is,
      same_Some w.unit picked.place
          (sym (ap (option_map (λ (w : Waiting). w.unit)) is) ∙ named),
      turn,
    )
