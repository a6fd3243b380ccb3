-- One more turn: what is counted of its unit, and that nothing changes for the others.
use Rattle.std.proofs.Common.{◌≡◌, ◌≢◌, ℕ, ◌+◌, Bool, true, false, cond, ◌||◌, nat_eq, nat_le, nat_lt, List, [], ◌∷◌}
use Rattle.std.proofs.Common.{◌++◌, length, refl, ap, ◌∙◌, append-nil, Some, None}
use Rattle.std.specs.Option.{is_none}
use Rattle.std.specs.List.{cons_option, count_by, list_any}
use Rattle.std.proofs.lemmas.Bool.{eq-eqb, ne_eqb, cond-true}
use Rattle.std.proofs.lemmas.List.Elements.{filter-append, filter_map-append}
use Rattle.std.proofs.lemmas.List.Folds.{list_any-append}
use Rattle.std.proofs.lemmas.List.Sums.{sum_by_push}
use Rattle.gob_device.specs.Supply.{Pull}
use Rattle.gob_ledger.specs.Turns.{TakenTurn, pulls_in}
use Rattle.gob_ledger.specs.Counted.{ListedUnit, failure_count, has_ended, has_failed, attempt_pulls, last_attempt}
use Rattle.gob_ledger.specs.Counted.{turns_of_unit}

-- a test as a number
abbrev pub one_if : Bool → ℕ
one_if b = cond b 1 0

-- the unit's turns, with one more of it
pub own_turn : (turns : List TakenTurn) (t : TakenTurn) (i : ℕ) → t.unit ≡ i → turns_of_unit i (turns ++ t ∷ [])
    ≡ turns_of_unit i turns ++ t ∷ []
own_turn turns t i is = filter-append (λ s. nat_eq s.unit i) turns (t ∷ []) ∙ ap
    (λ b. turns_of_unit i turns ++ cond b (t ∷ []) []) (eq-eqb t.unit i is)

-- the unit's turns, with one more of another
pub other_turn : (turns : List TakenTurn) (t : TakenTurn) (i : ℕ) → t.unit ≢ i → turns_of_unit i (turns ++ t ∷ [])
    ≡ turns_of_unit i turns
other_turn turns t i other =
    filter-append (λ s. nat_eq s.unit i) turns (t ∷ [])
    ∙ (ap (λ b. turns_of_unit i turns ++ cond b (t ∷ []) []) (ne_eqb t.unit i other) ∙ append-nil
    (turns_of_unit i turns))

since_failed : (ts : List TakenTurn) (t : TakenTurn) → has_failed t ≡ true → last_attempt (ts ++ t ∷ []) ≡ []
since_failed [] t fails = ap (λ b. cond (b || false) [] (t ∷ [])) fails
since_failed (s ∷ ts) t fails =
    let some : list_any has_failed ((s ∷ ts) ++ t ∷ [])
    ≡ true = list_any-append has_failed (s ∷ ts) (t ∷ []) ∙
    (ap (λ b. list_any has_failed (s ∷ ts) || (b || false)) fails ∙ or_true (list_any has_failed (s ∷ ts))) in
    cond-true (list_any has_failed ((s ∷ ts) ++ t ∷ [])) (last_attempt (ts ++ t ∷ []))
    (s ∷ ts ++ t ∷ []) some ∙ since_failed ts t fails
  where
    or_true : (b : Bool) → (b || (true || false)) ≡ true
    or_true true = refl
    or_true false = refl

since_passed : (ts : List TakenTurn) (t : TakenTurn) → has_failed t ≡ false → last_attempt (ts ++ t ∷ [])
    ≡ last_attempt ts ++ t ∷ []
since_passed [] t passes = ap (λ b. cond (b || false) [] (t ∷ [])) passes
since_passed (s ∷ ts) t passes =
    ap (λ b. cond b (last_attempt (ts ++ t ∷ [])) (s ∷ ts ++ t ∷ []))
    (list_any-append has_failed (s ∷ ts) (t ∷ []) ∙
    (ap (λ b. list_any has_failed (s ∷ ts) || (b || false)) passes ∙ or_false (list_any has_failed (s ∷ ts))))
    ∙ by_test (list_any has_failed (s ∷ ts)) (since_passed ts t passes)
  where
    or_false : (b : Bool) → (b || (false || false)) ≡ b
    or_false true = refl
    or_false false = refl

    by_test : (b : Bool) → last_attempt (ts ++ t ∷ []) ≡ last_attempt ts ++ t ∷ []
        → cond b (last_attempt (ts ++ t ∷ [])) (s ∷ ts ++ t ∷ []) ≡ cond b (last_attempt ts) (s ∷ ts) ++ t ∷ []
    by_test true later = later
    by_test false later = refl

-- what the unit has pulled, after one more turn of it
pub pulled_failed : (turns : List TakenTurn) (t : TakenTurn) (i : ℕ) → t.unit ≡ i → t.pull ≡ None
    → attempt_pulls i (turns ++ t ∷ []) ≡ []
pulled_failed turns t i is none =
    ap (λ ts. pulls_in (last_attempt ts)) (own_turn turns t i is)
    ∙ ap pulls_in (since_failed (turns_of_unit i turns) t (ap {B = Bool} is_none none))

pub pulled_passed : (turns : List TakenTurn) (t : TakenTurn) (i : ℕ) (p : Pull) → t.unit ≡ i → t.pull ≡ Some p
    → attempt_pulls i (turns ++ t ∷ []) ≡ attempt_pulls i turns ++ p ∷ []
pulled_passed turns t i p is some =
    ap (λ ts. pulls_in (last_attempt ts)) (own_turn turns t i is)
    ∙ (ap pulls_in (since_passed (turns_of_unit i turns) t (ap {B = Bool} is_none some))
    ∙ (filter_map-append (λ (s : TakenTurn). s.pull) (last_attempt (turns_of_unit i turns)) (t ∷ [])
    ∙ ap (λ o. pulls_in (last_attempt (turns_of_unit i turns)) ++ cons_option o []) some))

pub pulled_other : (turns : List TakenTurn) (t : TakenTurn) (i : ℕ) → t.unit ≢ i → attempt_pulls i (turns ++ t ∷ [])
    ≡ attempt_pulls i turns
pulled_other turns t i other = ap (λ ts. pulls_in (last_attempt ts)) (other_turn turns t i other)

-- how often the unit failed, after one more turn of it
pub failures_more : (turns : List TakenTurn) (t : TakenTurn) (i : ℕ) → t.unit ≡ i → failure_count i (turns ++ t ∷ [])
    ≡ failure_count i turns + cond (has_failed t) 1 0
failures_more turns t i is = ap (count_by has_failed) (own_turn turns t i is) ∙ sum_by_push
    (λ s. cond (has_failed s) 1 0) (turns_of_unit i turns) t

pub failures_other : (turns : List TakenTurn) (t : TakenTurn) (i : ℕ) → t.unit ≢ i → failure_count i (turns ++ t ∷ [])
    ≡ failure_count i turns
failures_other turns t i other = ap (count_by has_failed) (other_turn turns t i other)

-- another unit has ended where it had
pub ended_other : (retries : ℕ) (turns : List TakenTurn) (t : TakenTurn) (u : ListedUnit) → t.unit ≢ u.unit
    → has_ended retries (turns ++ t ∷ []) u ≡ has_ended retries turns u
ended_other retries turns t u other =
    ap (λ ts. nat_le (length u.own) (length (pulls_in (last_attempt ts))) || nat_lt retries (count_by has_failed ts))
    (other_turn turns t u.unit other)
