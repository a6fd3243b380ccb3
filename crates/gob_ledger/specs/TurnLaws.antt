-- The laws of turns.
use Rattle.std.specs.Prelude.{◌≡◌, ◌⊎◌, ◌↔◌, ℕ, suc, ◌+◌, ◌-◌, ◌*◌, ◌<◌, ◌≤◌, min, Bool, true, false}
use Rattle.std.specs.Prelude.{List, [], ◌∷◌, ◌++◌, map, length, take, slice_get}
use Rattle.std.specs.declared.option.Option.TheVariants.{Some}
use Rattle.std.specs.Int.{div_ceil}
use Rattle.std.specs.List.{Contains, count_by, filter, flat_map, sum_by}
use Rattle.gob_device.specs.Supply.{Held, Pull}
use Rattle.gob_plan.specs.declared.units.Cause.TheVariants.{Fault}
use Rattle.gob_plan.specs.declared.units.Unit.{Unit as WorkUnit}
use Rattle.gob_meaning.specs.Job.{Job}
use Rattle.gob_meaning.specs.Results.{Verdict, good, failed}
use Rattle.gob_ledger.specs.Units.{cuts, in_rounds}
use Rattle.gob_ledger.specs.Turns.{TakenTurn, gave_up, member, own_pulls, pulls_from, stops_within, turns_from}
use Rattle.gob_ledger.specs.Turns.{turns_of}
use Rattle.gob_ledger.specs.Turns.{unit_verdict, verdicts_of, waiting_at_first}
use Rattle.gob_ledger.specs.Counted.{AreScheduled, attempt_pulls, failure_count, has_failed, listed_units}

-- each listed unit has bytes
abbrev pub HaveBytes : List WorkUnit → Type 0
HaveBytes units = (u : WorkUnit) → Contains units u → u.listed ≡ true → u.lo < u.hi

-- the turns are those that come by the schedule, and no others do
abbrev pub TurnsAreScheduled : Type 0
TurnsAreScheduled = (job : Job) (held : Held) (units : List WorkUnit) (failing : List ℕ) (turns : List TakenTurn)
    → 0 < job.turns.slots → HaveBytes units
    → AreScheduled job (listed_units job held units) failing turns ↔ (turns ≡ turns_of job held units failing)

-- how many pieces a unit has
abbrev pub piece_count : ℕ → WorkUnit → ℕ
piece_count piece u = div_ceil (u.hi - u.lo) piece

-- a run has at most as many turns as its units have pieces, once more for each retry
abbrev pub TurnsAreFew : Type 0
TurnsAreFew = (job : Job) (held : Held) (units : List WorkUnit) (failing : List ℕ) → 0 < job.turns.piece
    → let pieces = sum_by (piece_count job.turns.piece) (filter (λ u. u.listed) units) in
    length (turns_of job held units failing) ≤ (job.max_retries + 1) * pieces

-- no cut, round, pull or turn is missing for want of the bound by which it is computed
pub record BoundsSuffice : Type 0 where
  pub cuts : (more : ℕ) (ends : List ℕ) (max lo : ℕ)
      → cuts (length ends + more) ends max lo ≡ cuts (length ends) ends max lo
  pub rounds : (more : ℕ) (lists : List (List WorkUnit))
      → let all = length (flat_map (λ us. us) lists) in
      in_rounds (all + more) lists ≡ in_rounds all lists
  pub pulls : (more : ℕ) (part : List ℕ) (piece lo hi : ℕ) → 0 < piece
      → pulls_from (hi - lo + more) part piece lo hi ≡ pulls_from (hi - lo) part piece lo hi
  pub turns : (more : ℕ) (job : Job) (held : Held) (units : List WorkUnit) (failing : List ℕ)
      → 0 < job.turns.slots → HaveBytes units
      → let waiting = waiting_at_first job held units in
      let most = (job.max_retries + 1) * sum_by (λ w. length w.all) waiting in
      turns_from (most + more) job failing 0 waiting ≡ turns_of job held units failing

-- piece number j of a unit
abbrev pub piece_of : ℕ → WorkUnit → ℕ → Pull
piece_of piece u j =
    let at = u.lo + j * piece in
    record { part = u.part; at = at; len = min piece (u.hi - at) }

-- these pulls are the unit's pieces in order, up to the first that stops it, else up to its end
pub record ArePieces (job : Job) (held : Held) (u : WorkUnit) (own : List Pull) : Type 0 where
  pub some : u.lo < u.hi → 0 < length own
  pub pieces : (j : ℕ) (p : Pull) → slice_get own j ≡ Some p
      → (p ≡ piece_of job.turns.piece u j) × (p.at < u.hi)
  pub before : (j : ℕ) (p : Pull) → slice_get own j ≡ Some p → suc j < length own
      → stops_within job.plan held u p ≡ false
  pub last : (front : List Pull) (p : Pull) → own ≡ front ++ p ∷ []
      → (stops_within job.plan held u p ≡ true) ⊎ (p.at + p.len ≡ u.hi)

-- what a unit pulls where none fails are its pieces
abbrev pub OwnPullsArePieces : Type 0
OwnPullsArePieces = (job : Job) (held : Held) (u : WorkUnit) → 0 < job.turns.piece
    → ArePieces job held u (own_pulls job held u)

-- in each attempt the unit pulls a front of its own pulls, and in the last one all, unless it is given up
pub record PullsItsOwn (own : List Pull) (turns : List TakenTurn) (i : ℕ) : Type 0 where
  pub fronts : (k : ℕ) → (rest : List Pull) × (own ≡ attempt_pulls i (take k turns) ++ rest)
  pub all : gave_up turns i ≡ false → attempt_pulls i turns ≡ own

-- each listed unit of a run does so
abbrev pub UnitsPullTheirOwn : Type 0
UnitsPullTheirOwn = (job : Job) (held : Held) (units : List WorkUnit) (failing : List ℕ) (i : ℕ) (u : WorkUnit)
    → 0 < job.turns.slots → HaveBytes units → slice_get units i ≡ Some u → u.listed ≡ true
    → PullsItsOwn (own_pulls job held u) (turns_of job held units failing) i

-- only listed units have turns
abbrev pub OnlyListedHaveTurns : Type 0
OnlyListedHaveTurns = (job : Job) (held : Held) (units : List WorkUnit) (failing : List ℕ) (t : TakenTurn)
    → 0 < job.turns.slots → HaveBytes units → Contains (turns_of job held units failing) t
    → (u : WorkUnit) × (slice_get units t.unit ≡ Some u) × (u.listed ≡ true)

-- a unit that a failure ended
abbrev pub is_fault : Verdict → Bool
is_fault (good counts warnings) = false
is_fault (failed Fault) = true
is_fault (failed cause) = false

-- turns fail by their numbers, and a unit is given up exactly where it has failed once more than it may be retried
pub record GivesUp (job : Job) (held : Held) (units : List WorkUnit) (failing : List ℕ) : Type 0 where
  pub fails : (k : ℕ) (t : TakenTurn) → slice_get (turns_of job held units failing) k ≡ Some t
      → has_failed t ≡ member k failing
  pub most : (i : ℕ) → failure_count i (turns_of job held units failing) ≤ job.max_retries + 1
  pub given_up : (i : ℕ) → (gave_up (turns_of job held units failing) i ≡ true)
      ↔ (failure_count i (turns_of job held units failing) ≡ job.max_retries + 1)
  pub fault : (i : ℕ) → (slice_get (verdicts_of job held units failing) i ≡ Some (failed Fault))
      ↔ ((u : WorkUnit) × (slice_get units i ≡ Some u) × (gave_up (turns_of job held units failing) i ≡ true))
  pub few : count_by is_fault (verdicts_of job held units failing) * (job.max_retries + 1) ≤ length failing

-- so it is in each run
abbrev pub GivingUpTakesFailures : Type 0
GivingUpTakesFailures = (job : Job) (held : Held) (units : List WorkUnit) (failing : List ℕ)
    → 0 < job.turns.slots → HaveBytes units → GivesUp job held units failing

-- where no turn fails the verdicts are those of the units' bytes
abbrev pub NoFailureNoFault : Type 0
NoFailureNoFault = (job : Job) (held : Held) (units : List WorkUnit)
    → verdicts_of job held units [] ≡ map (unit_verdict job held) units
