-- Whose turn it is, and what each turn pulls, where some turns fail.
use Rattle.std.specs.Prelude.{ℕ, zero, suc, ◌+◌, ◌-◌, ◌*◌, ◌%◌, min, Bool, true, false, if◌then◌else◌, ◌&&◌, nat_eq}
use Rattle.std.specs.Prelude.{nat_le, nat_lt, List, [], ◌∷◌, ◌++◌, map, length, take, drop, slice_get, slice_index}
use Rattle.std.specs.declared.option.Option.{Option}
use Rattle.std.specs.declared.option.Option.TheVariants.{None, Some}
use Rattle.std.specs.Option.{is_some}
use Rattle.std.specs.List.{enumerate_from, filter_map, flat_map, list_any, sum_by}
use Rattle.gob_device.specs.Supply.{Held, Pull, bytes_from}
use Rattle.gob_plan.specs.declared.plan.Plan.{Plan}
use Rattle.gob_plan.specs.declared.plan.TurnRules.{TurnRules}
use Rattle.gob_plan.specs.declared.units.Cause.TheVariants.{Fault}
use Rattle.gob_plan.specs.declared.units.Unit.{Unit as WorkUnit}
use Rattle.gob_meaning.specs.Fold.{unit_fold, stop_of}
use Rattle.gob_meaning.specs.Results.{Verdict, failed, verdict_of}
use Rattle.gob_meaning.specs.Job.{Job}

-- the pulls of at most so many pieces from lo up to hi, the last of them shorter
abbrev pub pulls_from : ℕ → List ℕ → ℕ → ℕ → ℕ → List Pull
pulls_from zero part piece lo hi = []
pulls_from (suc k) part piece lo hi =
    if nat_lt lo hi
    then record { part = part; at = lo; len = min piece (hi - lo) } ∷ pulls_from k part piece (lo + piece) hi
    else []

-- what was pulled of the unit with this pull has a line that stops it
abbrev pub stops_within : Plan → Held → WorkUnit → Pull → Bool
stops_within plan held u p =
    is_some (stop_of plan (unit_fold plan u.lo (bytes_from held u.part u.lo (p.at + p.len - u.lo))))

-- up to the first that passes, with it
abbrev pub up_to_first : (Pull → Bool) → List Pull → List Pull
up_to_first p [] = []
up_to_first p (x ∷ xs) = if p x then x ∷ [] else x ∷ up_to_first p xs

-- the pulls that a unit makes where none fails
unfoldable pub own_pulls : Job → Held → WorkUnit → List Pull
own_pulls job held u =
    up_to_first (stops_within job.plan held u) (pulls_from (u.hi - u.lo) u.part job.turns.piece u.lo u.hi)

-- a unit that hasn't ended: its number, all its pulls, those still to make, and how often it failed
pub record Waiting : Type 0 where
  pub unit : ℕ
  pub all : List Pull
  pub left : List Pull
  pub failures : ℕ

-- one turn: the unit, its pull where that was answered, and whether a failure ended the unit
pub record TakenTurn : Type 0 where
  pub unit : ℕ
  pub pull : Option Pull
  pub gave_up : Bool

-- the number is in the list
abbrev pub member : ℕ → List ℕ → Bool
member k ks = list_any (nat_eq k) ks

-- the place, among the waiting, of the unit whose turn it is
abbrev pub place_at : TurnRules → ℕ → ℕ → ℕ
place_at rules k waiting = slice_index rules.schedule (k % length rules.schedule) % min rules.slots waiting

-- the list with these in place of what stands at a place
abbrev pub replace_at : ℕ → List Waiting → List Waiting → List Waiting
replace_at i here ws = take i ws ++ here ++ drop (i + 1) ws

-- the unit goes on with its next pull, and ends with its last
abbrev pub after_pull : Waiting → List Pull → List Waiting
after_pull w [] = []
after_pull w (p ∷ []) = []
after_pull w (p ∷ q ∷ ps) = record w { left = q ∷ ps } ∷ []

-- the unit begins anew, and ends where it has failed too often
abbrev pub after_failure : ℕ → Waiting → List Waiting
after_failure retries w =
    if nat_lt w.failures retries then record w { left = w.all; failures = w.failures + 1 } ∷ [] else []

-- the first of these pulls
abbrev pub first_pull : List Pull → Option Pull
first_pull [] = None
first_pull (p ∷ ps) = Some p

-- a turn of a unit, which fails or not, and what then is left of the unit
abbrev pub one_turn : Job → Bool → Waiting → TakenTurn × List Waiting
one_turn job true w = (
  record { unit = w.unit; pull = None; gave_up = nat_le job.max_retries w.failures },
  after_failure job.max_retries w,
)
one_turn job false w = (
  record { unit = w.unit; pull = first_pull w.left; gave_up = false },
  after_pull w w.left,
)

-- the turn of this unit, where there is one, and those that come later
abbrev pub then_turns : Job → Bool → Option Waiting → (List Waiting → List TakenTurn) → List TakenTurn
then_turns job fails None later = []
then_turns job fails (Some w) later = let t = one_turn job fails w in t.0 ∷ later t.1

-- the turns from number k on, at most so many
abbrev pub turns_from : ℕ → Job → List ℕ → ℕ → List Waiting → List TakenTurn
turns_from zero job failing k waiting = []
turns_from (suc fuel) job failing k waiting =
    let place = place_at job.turns k (length waiting) in
    then_turns job (member k failing) (slice_get waiting place)
    (λ left. turns_from fuel job failing (k + 1) (replace_at place left waiting))

-- a unit with its number, before its first turn; one that isn't listed has none
abbrev pub waiting_unit : Job → Held → ℕ × WorkUnit → List Waiting
waiting_unit job held e =
    let all = own_pulls job held e.1 in
    if e.1.listed then record { unit = e.0; all = all; left = all; failures = 0 } ∷ [] else []

-- the listed units, before the first turn
abbrev pub waiting_at_first : Job → Held → List WorkUnit → List Waiting
waiting_at_first job held units = flat_map (waiting_unit job held) (enumerate_from 0 units)

-- the turns of a run over these units, where the turns with these numbers fail
unfoldable pub turns_of : Job → Held → List WorkUnit → List ℕ → List TakenTurn
turns_of job held units failing =
    let waiting = waiting_at_first job held units in
    turns_from ((job.max_retries + 1) * sum_by (λ w. length w.all) waiting) job failing 0 waiting

-- the pulls that were answered
abbrev pub pulls_in : List TakenTurn → List Pull
pulls_in turns = filter_map (λ t. t.pull) turns

-- a failure ended the unit with this number
abbrev pub gave_up : List TakenTurn → ℕ → Bool
gave_up turns u = list_any (λ t. t.gave_up && nat_eq t.unit u) turns

-- the verdict of a unit's bytes
abbrev pub unit_verdict : Job → Held → WorkUnit → Verdict
unit_verdict job held u = verdict_of job.plan u (bytes_from held u.part u.lo (u.hi - u.lo))

-- the verdict of the unit with this number after these turns: Fault where a failure ended it
abbrev pub verdict_after : Job → Held → List TakenTurn → ℕ × WorkUnit → Verdict
verdict_after job held turns e = if gave_up turns e.0 then failed Fault else unit_verdict job held e.1

-- the verdicts of the run's units
unfoldable pub verdicts_of : Job → Held → List WorkUnit → List ℕ → List Verdict
verdicts_of job held units failing =
    let turns = turns_of job held units failing in
    map (verdict_after job held turns) (enumerate_from 0 units)
