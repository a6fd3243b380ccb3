-- What is left to pull of a unit, and what its bytes then make of it.
use Rattle.std.proofs.Common.{◌≡◌, ℕ, zero, suc, ◌+◌, ◌-◌, ◌<◌, ◌≤◌, min, Bool, true, false, cond, not, ◌||◌, nat_lt}
use Rattle.std.proofs.Common.{List, [], ◌∷◌, ◌++◌, length, take, drop, refl, sym, ap, ◌∙◌, arith, Some, None}
use Rattle.std.proofs.Common.{length-drop, map}
use Rattle.std.specs.declared.option.Option.{Option}
use Rattle.std.specs.Option.{is_some}
use Rattle.std.proofs.lemmas.Bool.{cond-false, ltb-true, ltb-false, lt-ltb, le-ltb}
use Rattle.std.proofs.lemmas.List.{length-take}
use Rattle.std.proofs.Math.Seq.{take-add}
use Rattle.gob_device.specs.Supply.{Held, Pull, bytes_at, bytes_from}
use Rattle.gob_plan.specs.declared.plan.Plan.{Plan}
use Rattle.gob_plan.specs.declared.units.Cause.{Cause}
use Rattle.gob_plan.specs.declared.units.Cause.TheVariants.{Gone}
use Rattle.gob_plan.specs.declared.units.Unit.{Unit as WorkUnit}
use Rattle.gob_meaning.specs.Fold.{folded_line, stop_from, stop_of, stops_or, unit_fold}
use Rattle.gob_bytes.specs.Lines.{lines_from, rest, start_from}
use Rattle.gob_meaning.specs.Job.{Job}
use Rattle.gob_meaning.specs.Laws.{bad_line_count}
use Rattle.gob_meaning.specs.Results.{failed, unless_stopped, verdict_of}
use Rattle.gob_meaning.proofs.Joins.{fold_joins, parts_join}
use Rattle.gob_ledger.specs.Turns.{Waiting, after_pull, first_pull, own_pulls, pulls_from, stops_within, unit_verdict}
use Rattle.gob_ledger.specs.Turns.{up_to_first}
use Rattle.gob_ledger.proofs.Pieces.{bounds}
use Rattle.gob_task.specs.Task.{unit_length}
use Rattle.gob_task.specs.Turn.{ends_with}
use Rattle.gob_turns.specs.Standing.{pulls_left}
use Rattle.gob_turns.proofs.Places.{drop_none}

-- ---- pulls, whatever bounds them

abbrev pub pull_at : List ℕ → ℕ → ℕ → Pull
pull_at part at len = record { part = part; at = at; len = len }

enough : (k : ℕ) (part : List ℕ) (piece lo hi : ℕ) → 0 < piece → hi ≤ lo + k
    → pulls_from k part piece lo hi ≡ pulls_from (hi - lo) part piece lo hi
enough k part piece lo hi some many =
    ap (λ n. pulls_from n part piece lo hi) (let e : k ≡ hi - lo + (k - (hi - lo)) = omega arith in e)
    ∙ bounds.pulls (k - (hi - lo)) part piece lo hi some

none_left : (k : ℕ) (part : List ℕ) (piece lo hi : ℕ) → hi ≤ lo → pulls_from k part piece lo hi ≡ []
none_left zero part piece lo hi past = refl
none_left (suc k) part piece lo hi past =
    cond-false (nat_lt lo hi) (pull_at part lo (min piece (hi - lo)) ∷ pulls_from k part piece (lo + piece) hi) []
    (le-ltb lo hi past)

next_left : (k n : ℕ) (part : List ℕ) (piece lo hi : ℕ) → 0 < piece → hi ≤ lo + suc k → hi ≤ lo + n
    → pulls_from k part piece (lo + piece) hi ≡ pulls_from n part piece (lo + min piece (hi - lo)) hi
next_left k n part piece lo hi some first later = cases (nat_lt (hi - lo) piece) refl
  where
    cases : (b : Bool) → nat_lt (hi - lo) piece ≡ b
        → pulls_from k part piece (lo + piece) hi ≡ pulls_from n part piece (lo + min piece (hi - lo)) hi
    cases true is =
        let short : hi - lo < piece = ltb-true (hi - lo) piece is in
        none_left k part piece (lo + piece) hi (omega arith)
        ∙ sym (none_left n part piece (lo + min piece (hi - lo)) hi (omega arith))
    cases false is =
        let long : piece ≤ hi - lo = ltb-false (hi - lo) piece is in
        let whole : piece ≡ min piece (hi - lo) = omega arith in
        enough k part piece (lo + piece) hi some (omega arith)
        ∙ (sym (enough n part piece (lo + piece) hi some (omega arith))
        ∙ ap (λ m. pulls_from n part piece (lo + m) hi) whole)

first_from : (k n : ℕ) (q : Pull → Bool) (part : List ℕ) (piece lo hi : ℕ) → 0 < piece → lo < hi → hi ≤ lo + suc k
    → hi ≤ lo + n
    → let p = pull_at part lo (min piece (hi - lo)) in
    up_to_first q (pulls_from (suc k) part piece lo hi)
    ≡ cond (q p) (p ∷ []) (p ∷ up_to_first q (pulls_from n part piece (lo + min piece (hi - lo)) hi))
first_from k n q part piece lo hi some inside first later =
    let p = pull_at part lo (min piece (hi - lo)) in
    ap (λ b. up_to_first q (cond b (p ∷ pulls_from k part piece (lo + piece) hi) [])) (lt-ltb lo hi inside)
    ∙ ap (λ ps. cond (q p) (p ∷ []) (p ∷ up_to_first q ps)) (next_left k n part piece lo hi some first later)

-- ---- what is left of a unit

-- a line of so many bytes of the unit stops it
abbrev pub stops_at : Plan → Held → WorkUnit → ℕ → Bool
stops_at plan held u n = is_some (stop_of plan (unit_fold plan u.lo (bytes_from held u.part u.lo n)))

pub own_left : (job : Job) (held : Held) (u : WorkUnit) → own_pulls job held u ≡ pulls_left job held u 0
unfolding own_pulls
own_left job held u =
    ap (λ at. up_to_first (stops_within job.plan held u) (pulls_from (u.hi - u.lo) u.part job.turns.piece at u.hi))
    (let e : u.lo ≡ u.lo + 0 = omega arith in e)

pub first_left : (job : Job) (held : Held) (u : WorkUnit) (seen a : ℕ) → 0 < job.turns.piece
    → seen < u.hi - u.lo → a ≡ min job.turns.piece (u.hi - u.lo - seen)
    → let p = pull_at u.part (u.lo + seen) a in
    pulls_left job held u seen
    ≡ cond (stops_at job.plan held u (seen + a)) (p ∷ []) (p ∷ pulls_left job held u (seen + a))
first_left job held u seen a some inside is =
    let q : Pull → Bool = stops_within job.plan held u in
    let n : ℕ = u.hi - u.lo in
    let at : ℕ = u.lo + seen in
    let piece : ℕ = job.turns.piece in
    let whole : n ≡ suc (n - 1) = omega arith in
    let len : min piece (u.hi - at) ≡ a = omega arith in
    let end : at + min piece (u.hi - at) ≡ u.lo + (seen + a) = omega arith in
    let size : at + a - u.lo ≡ seen + a = omega arith in
    ap (λ m. up_to_first q (pulls_from m u.part piece at u.hi)) whole
    ∙ (first_from (n - 1) n q u.part piece at u.hi some (omega arith) (omega arith) (omega arith)
    ∙ ((λ i. cond (q (pull_at u.part at (len i))) (pull_at u.part at (len i) ∷ [])
    (pull_at u.part at (len i) ∷ up_to_first q (pulls_from n u.part piece (end i) u.hi)))
    ∙ ap (λ m. cond (stops_at job.plan held u m) (pull_at u.part at a ∷ [])
    (pull_at u.part at a ∷ pulls_left job held u (seen + a))) size))

all_pulled : (job : Job) (held : Held) (u : WorkUnit) (seen : ℕ) → u.hi - u.lo ≤ seen → pulls_left job held u seen ≡ []
all_pulled job held u seen past =
    ap (up_to_first (stops_within job.plan held u))
    (none_left (u.hi - u.lo) u.part job.turns.piece (u.lo + seen) u.hi (omega arith))

either_some : (b : Bool) (x : Pull) (ys : List Pull) → [] ≡ cond b (x ∷ []) (x ∷ ys) → ⊥
either_some true x ys e = cc
either_some false x ys e = cc

goes_on : (w : Waiting) (p : Pull) (b : Bool) (x : Pull) (ys ps : List Pull) → ps ≡ cond b (x ∷ []) (x ∷ ys)
    → after_pull w (p ∷ ps) ≡ record w { left = ps } ∷ []
goes_on w p b x ys [] e = absurd (either_some b x ys e)
goes_on w p b x ys (q ∷ qs) e = refl

-- ---- a pull that was answered with all that was asked for

-- the turn of a unit that was pulled so far, and asked for so much more
pub record PullsNext (job : Job) (held : Held) (u : WorkUnit) (seen a : ℕ) (w : Waiting) : Type 0 where
  pub first : first_pull (pulls_left job held u seen) ≡ Some (pull_at u.part (u.lo + seen) a)
  pub after : after_pull w (pulls_left job held u seen)
      ≡ cond (ends_with job.plan u (bytes_from held u.part u.lo (seen + a))) []
      (record w { left = pulls_left job held u (seen + a) } ∷ [])

pub pulls_next : (job : Job) (held : Held) (u : WorkUnit) (seen a : ℕ) (w : Waiting) → 0 < job.turns.piece
    → seen < u.hi - u.lo → a ≡ min job.turns.piece (u.hi - u.lo - seen)
    → length (bytes_from held u.part u.lo (seen + a)) ≡ seen + a → PullsNext job held u seen a w
pulls_next job held u seen a w some inside is long = record {
  first = ap first_pull parts ∙ first_of (stops_at job.plan held u (seen + a));
  after = ap (after_pull w) parts ∙ stopped (stops_at job.plan held u (seen + a));
}
  where
    p : Pull
    p = pull_at u.part (u.lo + seen) a

    rest : List Pull
    rest = pulls_left job held u (seen + a)

    parts : pulls_left job held u seen ≡ cond (stops_at job.plan held u (seen + a)) (p ∷ []) (p ∷ rest)
    parts = first_left job held u seen a some inside is

    first_of : (b : Bool) → first_pull (cond b (p ∷ []) (p ∷ rest)) ≡ Some p
    first_of true = refl
    first_of false = refl

    bytes : List ℕ
    bytes = bytes_from held u.part u.lo (seen + a)

    last : (b : Bool) → nat_lt (seen + a) (u.hi - u.lo) ≡ b
        → after_pull w (p ∷ rest) ≡ cond (not b) [] (record w { left = rest } ∷ [])
    last true below =
        let more : seen + a < u.hi - u.lo = ltb-true (seen + a) (u.hi - u.lo) below in
        let b : ℕ = min job.turns.piece (u.hi - u.lo - (seen + a)) in
        goes_on w p (stops_at job.plan held u (seen + a + b)) (pull_at u.part (u.lo + (seen + a)) b)
        (pulls_left job held u (seen + a + b)) rest (first_left job held u (seen + a) b some more refl)
    last false over =
        let past : u.hi - u.lo ≤ seen + a = ltb-false (seen + a) (u.hi - u.lo) over in
        ap (λ ps. after_pull w (p ∷ ps)) (all_pulled job held u (seen + a) past)

    stopped : (b : Bool) → after_pull w (cond b (p ∷ []) (p ∷ rest))
        ≡ cond (b || not (nat_lt (length bytes) (unit_length u))) [] (record w { left = rest } ∷ [])
    stopped true = refl
    stopped false =
        last (nat_lt (seen + a) (u.hi - u.lo)) refl
        ∙ ap (λ n. cond (not (nat_lt n (u.hi - u.lo))) [] (record w { left = rest } ∷ [])) (sym long)

-- the first of what is left, whatever the bytes are
pub first_of_left : (job : Job) (held : Held) (u : WorkUnit) (seen a : ℕ) → 0 < job.turns.piece
    → seen < u.hi - u.lo → a ≡ min job.turns.piece (u.hi - u.lo - seen)
    → first_pull (pulls_left job held u seen) ≡ Some (pull_at u.part (u.lo + seen) a)
first_of_left job held u seen a some inside is =
    ap first_pull (first_left job held u seen a some inside is) ∙ either (stops_at job.plan held u (seen + a))
  where
    either : (b : Bool) → first_pull (cond b (pull_at u.part (u.lo + seen) a ∷ [])
        (pull_at u.part (u.lo + seen) a ∷ pulls_left job held u (seen + a)))
        ≡ Some (pull_at u.part (u.lo + seen) a)
    either true = refl
    either false = refl

-- ---- bytes of a unit

pub bytes_join : (held : Held) (part : List ℕ) (lo n m : ℕ)
    → bytes_from held part lo (n + m) ≡ bytes_from held part lo n ++ bytes_from held part (lo + n) m
unfolding bytes_from
bytes_join held part lo n m =
    let all : List ℕ = bytes_at held part in
    take-add n m (drop lo all) ∙ ap (λ xs. take n (drop lo all) ++ take m xs) (drop_both lo n all)
  where
    drop_both : (a b : ℕ) (xs : List ℕ) → drop b (drop a xs) ≡ drop (a + b) xs
    drop_both zero b xs = ap (λ k. drop k xs) (let e : b ≡ 0 + b = omega arith in e)
    drop_both (suc a) b [] = drop_none b ∙ sym (drop_none (suc a + b))
    drop_both (suc a) b (x ∷ xs) =
        drop_both a b xs ∙ ap (λ k. drop k (x ∷ xs)) (let e : suc (a + b) ≡ suc a + b = omega arith in e)

pub bytes_long : (held : Held) (part : List ℕ) (lo n : ℕ) → lo + n ≤ length (bytes_at held part)
    → length (bytes_from held part lo n) ≡ n
unfolding bytes_from
bytes_long held part lo n within =
    let all : List ℕ = bytes_at held part in
    let left = length-drop lo all in
    length-take n (drop lo all) ∙ omega arith

-- a line that stops a front of them stops them all
stop_stays : (plan : Plan) (lo : ℕ) (x y : List ℕ) (c : Cause) → stop_of plan (unit_fold plan lo x) ≡ Some c
    → stop_of plan (unit_fold plan lo (x ++ y)) ≡ Some c
stop_stays plan lo x y c stopped =
    let fold = unit_fold plan lo x in
    let more = map (folded_line plan lo) (lines_from (start_from 0 [] x) (rest x) y) in
    ap (stop_of plan) (fold_joins plan lo x y).lines
    ∙ ((parts_join plan fold more).stop
    ∙ ap (λ o. stops_or o (λ d. Some d) (stop_from (plan.skip_errors - bad_line_count fold) more)) stopped)

stopped_verdict : (plan : Plan) (u : WorkUnit) (bytes : List ℕ) (c : Cause)
    → stop_of plan (unit_fold plan u.lo bytes) ≡ Some c
    → verdict_of plan u bytes ≡ cond u.listed (failed c) (failed Gone)
unfolding verdict_of
stopped_verdict plan u bytes c is =
    ap (λ o. cond u.listed (unless_stopped plan u.lo bytes o) (failed Gone)) is

-- bytes with which the unit has ended judge it as all of its bytes do
pub ended_verdict : (job : Job) (held : Held) (u : WorkUnit) (n : ℕ) → n ≤ u.hi - u.lo
    → length (bytes_from held u.part u.lo n) ≡ n
    → ends_with job.plan u (bytes_from held u.part u.lo n) ≡ true
    → verdict_of job.plan u (bytes_from held u.part u.lo n) ≡ unit_verdict job held u
ended_verdict job held u n within long ends = cases (stop_of plan (unit_fold plan u.lo bytes)) refl
  where
    plan : Plan
    plan = job.plan

    bytes : List ℕ
    bytes = bytes_from held u.part u.lo n

    all : List ℕ
    all = bytes_from held u.part u.lo (u.hi - u.lo)

    later : List ℕ
    later = bytes_from held u.part (u.lo + n) (u.hi - u.lo - n)

    joined : bytes ++ later ≡ all
    joined = sym (bytes_join held u.part u.lo n (u.hi - u.lo - n))
        ∙ ap (bytes_from held u.part u.lo) (let e : n + (u.hi - u.lo - n) ≡ u.hi - u.lo = omega arith in e)

    whole : (b : Bool) → nat_lt n (u.hi - u.lo) ≡ b → not b ≡ true → n ≡ u.hi - u.lo
    whole true is e = absurd (let no : false ≡ true = e in cc)
    whole false is e = let past : u.hi - u.lo ≤ n = ltb-false n (u.hi - u.lo) is in omega arith

    cases : (o : Option Cause) → stop_of plan (unit_fold plan u.lo bytes) ≡ o
        → verdict_of plan u bytes ≡ verdict_of plan u all
    cases (Some c) is =
        let stays = stop_stays plan u.lo bytes later c is in
        stopped_verdict plan u bytes c is
        ∙ sym (stopped_verdict plan u all c (ap (λ bs. stop_of plan (unit_fold plan u.lo bs)) (sym joined) ∙ stays))
    cases None is =
        let past : not (nat_lt (length bytes) (unit_length u)) ≡ true =
        ap (λ o. is_some o || not (nat_lt (length bytes) (unit_length u))) (sym is) ∙ ends in
        let over : not (nat_lt n (u.hi - u.lo)) ≡ true = ap (λ m. not (nat_lt m (u.hi - u.lo))) (sym long) ∙ past in
        ap (λ m. verdict_of plan u (bytes_from held u.part u.lo m)) (whole (nat_lt n (u.hi - u.lo)) refl over)
