-- A unit's own pulls are its pieces, and no bound by which a list is computed cuts it short.
use Rattle.std.proofs.Common.{◌≡◌, ◌⊎◌, inl, inr, ⊎_elim, ℕ, zero, suc, ◌+◌, ◌-◌, ◌*◌, ◌/◌, ◌%◌, ◌<◌, ◌≤◌, min, Bool}
use Rattle.std.proofs.Common.{true, false, cond, nat_lt, List, [], ◌∷◌, ◌++◌, length, get_or, refl, sym, ap, subst, ◌∙◌}
use Rattle.std.proofs.Common.{append-nil, append_assoc, Some, None, arith, suc-mul, div-add-mod', mul-le-mul_left}
use Rattle.std.proofs.Common.{le_trans, length-append}
use Rattle.std.specs.declared.option.Option.{Option}
use Rattle.std.specs.Option.{option_to_list}
use Rattle.std.specs.Int.{div_ceil}
use Rattle.std.specs.List.{Contains, enumerate_from, filter, flat_map, range_with_len, slice_get, sum_by}
use Rattle.std.proofs.lemmas.Bool.{cases_eq, cond-false, ltb-true, ltb-false, lt-ltb, le-ltb}
use Rattle.std.proofs.lemmas.List.Sums.{sum_by-cons}
use Rattle.std.proofs.lemmas.Nat.{le-div}
use Rattle.std.proofs.lemmas.Option.{none-some, same_Some, slice_get_past, slice_get-get_or}
use Rattle.gob_device.specs.Supply.{Held, Pull}
use Rattle.gob_plan.specs.declared.units.Unit.{Unit as WorkUnit}
use Rattle.gob_meaning.specs.Job.{Job}
use Rattle.gob_ledger.specs.Marks.{Span}
use Rattle.gob_ledger.specs.Units.{cut_end, cuts, in_rounds, then_cuts}
use Rattle.gob_ledger.specs.Turns.{Waiting, member, one_turn, own_pulls, place_at, pulls_from, replace_at, stops_within}
use Rattle.gob_ledger.specs.Turns.{then_turns, turns_from, turns_of, up_to_first, waiting_at_first}
use Rattle.gob_ledger.specs.TurnLaws.{BoundsSuffice, OwnPullsArePieces, TurnsAreFew, piece_count}
use Rattle.gob_ledger.proofs.Members.{none_in, in_cases}
use Rattle.gob_ledger.proofs.Counting.{one_if}
use Rattle.gob_ledger.proofs.Cutting.{cut_gives}
use Rattle.gob_ledger.proofs.Taking.{more_turns}

-- ---- cuts

-- how many of these offsets lie above one
abbrev pub above : ℕ → List ℕ → ℕ
above lo [] = 0
above lo (e ∷ es) = one_if (nat_lt lo e) + above lo es

pub few_above : (lo : ℕ) (es : List ℕ) → above lo es ≤ length es
few_above lo [] = omega arith
few_above lo (e ∷ es) = let later = few_above lo es in elim (nat_lt lo e) as
    (λ b. one_if b + above lo es ≤ suc (length es)) [ true ↦ omega arith | false ↦ omega arith ]

fewer_above : (lo hi : ℕ) (es : List ℕ) → lo < hi → above hi es ≤ above lo es
fewer_above lo hi [] below = omega arith
fewer_above lo hi (e ∷ es) below = cases (nat_lt hi e) refl (fewer_above lo hi es below)
  where
    cases : (b : Bool) → nat_lt hi e ≡ b → above hi es ≤ above lo es
        → one_if b + above hi es ≤ one_if (nat_lt lo e) + above lo es
    cases true is later =
        let over : hi < e = ltb-true hi e is in
        subst (λ c. 1 + above hi es ≤ one_if c + above lo es) (sym (lt-ltb lo e (omega arith))) (omega arith)
    cases false is later = omega arith

pub one_above : (lo hi : ℕ) (es : List ℕ) → lo < hi → Contains es hi → suc (above hi es) ≤ above lo es
one_above lo hi [] below h = none_in hi h
one_above lo hi (e ∷ es) below h = ⊎_elim
    (λ same.
    let less = fewer_above lo hi es below in
    let here : one_if (nat_lt hi e) ≡ 0 = ap one_if (le-ltb hi e (omega arith)) in
    let there : one_if (nat_lt lo e) ≡ 1 = ap one_if (lt-ltb lo e (omega arith)) in
    omega arith)
    (λ k. let less = one_above lo hi es below k in
    cases (nat_lt hi e) refl less)
    (in_cases e es hi h)
  where
    cases : (b : Bool) → nat_lt hi e ≡ b → suc (above hi es) ≤ above lo es
        → suc (one_if b + above hi es) ≤ one_if (nat_lt lo e) + above lo es
    cases true is later =
        let over : hi < e = ltb-true hi e is in
        subst (λ c. suc (1 + above hi es) ≤ one_if c + above lo es) (sym (lt-ltb lo e (omega arith))) (omega arith)
    cases false is later = omega arith

more_cuts : (k more : ℕ) (ends : List ℕ) (max lo : ℕ) → above lo ends ≤ k → cuts (k + more) ends max lo
    ≡ cuts k ends max lo
more_cuts zero more ends max lo enough = ap (λ n. cuts n ends max lo)
    (let same : 0 + more ≡ more = omega arith in same) ∙ no_cut more
  where
    no_end : cut_end ends lo max ≡ None
    no_end = ended (cut_end ends lo max) refl
      where
        ended : (o : Option ℕ) → cut_end ends lo max ≡ o → o ≡ None
        ended None e = refl
        ended (Some hi) e = let cut = cut_gives ends lo max hi e in let one = one_above lo hi ends cut.1 cut.0 in
            absurd (omega arith)

    no_cut : (n : ℕ) → cuts n ends max lo ≡ []
    no_cut zero = refl
    no_cut (suc n) = ap (λ o. then_cuts lo o (cuts n ends max)) no_end
more_cuts (suc k) more ends max lo enough =
    ap (λ n. cuts n ends max lo) (let same : suc k + more ≡ suc (k + more) = omega arith in same)
    ∙ cases (cut_end ends lo max) refl (λ hi. more_cuts k more ends max hi)
  where
    cases : (o : Option ℕ) → cut_end ends lo max ≡ o
        → ((hi : ℕ) → above hi ends ≤ k → cuts (k + more) ends max hi ≡ cuts k ends max hi)
        → then_cuts lo o (cuts (k + more) ends max) ≡ then_cuts lo o (cuts k ends max)
    cases None e later = refl
    cases (Some hi) e later =
        let cut = cut_gives ends lo max hi e in
        let one = one_above lo hi ends cut.1 cut.0 in
        ap (λ (ss : List Span). record { lo = lo; hi = hi } ∷ ss) (later hi (omega arith))

-- ---- rounds

range_join : (a n m : ℕ) → range_with_len a (n + m) ≡ range_with_len a n ++ range_with_len (a + n) m
range_join a zero m = (λ i. range_with_len (start i) (long i))
  where
    start : a ≡ a + 0
    start = omega arith

    long : 0 + m ≡ m
    long = omega arith
range_join a (suc n) m =
    ap (range_with_len a) (let same : suc n + m ≡ suc (n + m) = omega arith in same)
    ∙ ap (λ (ks : List ℕ). a ∷ ks)
    (range_join (a + 1) n m ∙ ap (λ b. range_with_len (a + 1) n ++ range_with_len b m)
    (let same : a + 1 + n ≡ a + suc n = omega arith in same))

flat_join : {X Y : Type 0} (f : X → List Y) (xs ys : List X) → flat_map f (xs ++ ys) ≡ flat_map f xs ++ flat_map f ys
flat_join f [] ys = refl
flat_join f (x ∷ xs) ys = ap (λ zs. f x ++ zs) (flat_join f xs ys) ∙ sym
    (append_assoc (f x) (flat_map f xs) (flat_map f ys))

past_all : (k : ℕ) (lists : List (List WorkUnit)) → length (flat_map (λ us. us) lists) ≤ k
    → flat_map (λ us. option_to_list (slice_get us k)) lists ≡ []
past_all k [] past = refl
past_all k (us ∷ lists) past =
    let long = length-append us (flat_map (λ (vs : List WorkUnit). vs) lists) in
    ap (λ o. option_to_list o ++ flat_map (λ (vs : List WorkUnit). option_to_list (slice_get vs k)) lists)
    (slice_get_past us k (omega arith)) ∙ past_all k lists (omega arith)

none_past : (a n : ℕ) (lists : List (List WorkUnit)) → length (flat_map (λ us. us) lists) ≤ a
    → flat_map (λ k. flat_map (λ us. option_to_list (slice_get us k)) lists) (range_with_len a n) ≡ []
none_past a zero lists past = refl
none_past a (suc n) lists past =
    ap (λ us. us ++ flat_map (λ k. flat_map (λ vs. option_to_list (slice_get vs k)) lists) (range_with_len (a + 1) n))
    (past_all a lists past) ∙ none_past (a + 1) n lists (omega arith)

more_rounds : (more : ℕ) (lists : List (List WorkUnit))
    → let all = length (flat_map (λ us. us) lists) in in_rounds (all + more) lists ≡ in_rounds all lists
more_rounds more lists =
    let all : ℕ = length (flat_map (λ us. us) lists) in
    let round : ℕ → List WorkUnit = λ k. flat_map (λ us. option_to_list (slice_get us k)) lists in
    ap (flat_map round) (range_join 0 all more)
    ∙ (flat_join round (range_with_len 0 all) (range_with_len (0 + all) more)
    ∙ (ap (λ us. flat_map round (range_with_len 0 all) ++ us)
    (none_past (0 + all) more lists (omega arith)) ∙ append-nil (flat_map round (range_with_len 0 all))))

-- ---- pulls

more_pulls : (k more : ℕ) (part : List ℕ) (piece lo hi : ℕ) → 0 < piece → hi ≤ lo + k
    → pulls_from (k + more) part piece lo hi ≡ pulls_from k part piece lo hi
more_pulls zero more part piece lo hi some enough = ap (λ n. pulls_from n part piece lo hi)
    (let same : 0 + more ≡ more = omega arith in same) ∙ no_pull more
  where
    no_pull : (n : ℕ) → pulls_from n part piece lo hi ≡ []
    no_pull zero = refl
    no_pull (suc n) = cond-false (nat_lt lo hi)
        (record { part = part; at = lo; len = min piece (hi - lo) } ∷ pulls_from n part piece (lo + piece) hi) []
        (le-ltb lo hi (omega arith))
more_pulls (suc k) more part piece lo hi some enough =
    ap (λ n. pulls_from n part piece lo hi) (let same : suc k + more ≡ suc (k + more) = omega arith in same)
    ∙ ap (λ ps. cond (nat_lt lo hi) (record { part = part; at = lo; len = min piece (hi - lo) } ∷ ps) [])
    (more_pulls k more part piece (lo + piece) hi some (omega arith))

pub bounds : BoundsSuffice
bounds = record {
  cuts = λ more ends max lo. more_cuts (length ends) more ends max lo (few_above lo ends);
  rounds = more_rounds;
  pulls = λ more part piece lo hi some. more_pulls (hi - lo) more part piece lo hi some (omega arith);
  turns = more_turns;
}

-- ---- a unit's own pulls

get_first : (q : Pull → Bool) (ps : List Pull) (j : ℕ) (p : Pull) → slice_get (up_to_first q ps) j ≡ Some p
    → slice_get ps j ≡ Some p
get_first q [] j p e = e
get_first q (x ∷ xs) j p e = cases (q x) j e (λ i f. get_first q xs i p f)
  where
    cases : (b : Bool) (i : ℕ) → slice_get (cond b (x ∷ []) (x ∷ up_to_first q xs)) i ≡ Some p
        → ((k : ℕ) → slice_get (up_to_first q xs) k ≡ Some p → slice_get xs k ≡ Some p) → slice_get (x ∷ xs) i ≡ Some p
    cases true zero e later = e
    cases true (suc i) e later = absurd (none-some p e)
    cases false zero e later = e
    cases false (suc i) e later = later i e

pull_at : (k : ℕ) (part : List ℕ) (piece lo hi j : ℕ) (p : Pull) → slice_get (pulls_from k part piece lo hi) j ≡ Some p
    → (p ≡ record { part = part; at = lo + j * piece; len = min piece (hi - (lo + j * piece)) }) × (p.at < hi)
pull_at zero part piece lo hi j p e = absurd (none-some p e)
pull_at (suc k) part piece lo hi j p e = cases (nat_lt lo hi) refl j e
    (λ i f. pull_at k part piece (lo + piece) hi i p f)
  where
    cases : (b : Bool) → nat_lt lo hi ≡ b → (i : ℕ)
        → slice_get
        (cond b (record { part = part; at = lo; len = min piece (hi - lo) }
        ∷ pulls_from k part piece (lo + piece) hi) []) i ≡ Some p
        → ((m : ℕ) → slice_get (pulls_from k part piece (lo + piece) hi) m ≡ Some p
        → (p ≡ record {
          part = part;
          at = lo + piece + m * piece;
          len = min piece
              (hi - (lo + piece + m * piece));
        }) × (p.at < hi))
        → (p ≡ record { part = part; at = lo + i * piece; len = min piece (hi - (lo + i * piece)) }) × (p.at < hi)
    cases false is i e later = absurd (none-some p e)
    cases true is zero e later =
        let inside : lo < hi = ltb-true lo hi is in
        let here : record { part = part; at = lo; len = min piece (hi - lo) }
        ≡ p = same_Some (record { part = part; at = lo; len = min piece (hi - lo) }) p e in
        let start : lo ≡ lo + 0 * piece = omega arith in (
          sym here ∙ (λ m. record { part = part; at = start m; len = min piece (hi - start m) }),
          subst
              (λ (x : Pull). x.at < hi) here inside,
        )
    cases true is (suc i) e later =
        let r = later i e in
        let shift : lo + piece + i * piece ≡ lo + suc i * piece = let more = suc-mul i piece in omega arith in
        (r.0 ∙ (λ m. record { part = part; at = shift m; len = min piece (hi - shift m) }), r.1)

before_stop : (q : Pull → Bool) (ps : List Pull) (j : ℕ) (p : Pull) → slice_get (up_to_first q ps) j ≡ Some p
    → suc j < length (up_to_first q ps) → q p ≡ false
before_stop q [] j p e below = absurd (none-some p e)
before_stop q (x ∷ xs) j p e below = cases (q x) refl j e below (λ i f l. before_stop q xs i p f l)
  where
    cases : (b : Bool) → q x ≡ b → (i : ℕ) → slice_get (cond b (x ∷ []) (x ∷ up_to_first q xs)) i ≡ Some p
        → suc i < length (cond b (x ∷ []) (x ∷ up_to_first q xs))
        → ((k : ℕ) → slice_get (up_to_first q xs) k ≡ Some p → suc k < length (up_to_first q xs) → q p ≡ false) → q p
        ≡ false
    cases true is i e below later = absurd (omega (arith, below))
    cases false is zero e below later = ap q (sym (same_Some x p e)) ∙ is
    cases false is (suc i) e below later = later i e (omega (arith, below))

tail_same : {X : Type 0} (x y : X) (xs ys : List X) → x ∷ xs ≡ y ∷ ys → (x ≡ y) × (xs ≡ ys)
tail_same x y xs ys e = (let a : x ≡ y = cc in a, let b : xs ≡ ys = cc in b)

last_stops : (q : Pull → Bool) (ps front : List Pull) (p : Pull) → up_to_first q ps ≡ front ++ p ∷ [] → (q p ≡ true)
    ⊎ (ps ≡ front ++ p ∷ [])
last_stops q [] front p e = inr e
last_stops q (x ∷ xs) front p e = cases (q x) refl front e (λ fs f. last_stops q xs fs p f)
  where
    cases : (b : Bool) → q x ≡ b → (fs : List Pull) → cond b (x ∷ []) (x ∷ up_to_first q xs) ≡ fs ++ p ∷ []
        → ((gs : List Pull) → up_to_first q xs ≡ gs ++ p ∷ [] → (q p ≡ true) ⊎ (xs ≡ gs ++ p ∷ [])) → (q p ≡ true)
        ⊎ (x ∷ xs ≡ fs ++ p ∷ [])
    cases true is [] e later = inl (ap q (sym (tail_same x p [] [] e).0) ∙ is)
    cases true is (f ∷ fs) e later = absurd
        (let long = ap length (tail_same x f [] (fs ++ p ∷ []) e).1 in let more = length-append fs
        (p ∷ []) in omega arith)
    cases false is [] e later =
        let parts = tail_same x p (up_to_first q xs) [] e in
        nothing_more xs parts.0 parts.1
      where
        nothing_more : (ys : List Pull) → x ≡ p → up_to_first q ys ≡ [] → (q p ≡ true) ⊎ (x ∷ ys ≡ p ∷ [])
        nothing_more [] same none = inr (ap (λ (z : Pull). z ∷ []) same)
        nothing_more (y ∷ ys) same none = absurd
            (elim (q y) as
            (λ b. cond b (y ∷ []) (y ∷ up_to_first q ys) ≡ [] → ⊥) [ true ↦ λ f. cc | false ↦ λ f. cc ] none)
    cases false is (f ∷ fs) e later =
        let parts = tail_same x f (up_to_first q xs) (fs ++ p ∷ []) e in
        ⊎_elim (λ s. inl s) (λ s. inr (λ i. parts.0 i ∷ s i)) (later fs parts.1)

last_reaches : (k : ℕ) (part : List ℕ) (piece lo hi : ℕ) (front : List Pull) (p : Pull) → 0 < piece → hi ≤ lo + k
    → pulls_from k part piece lo hi ≡ front ++ p ∷ [] → p.at + p.len ≡ hi
last_reaches zero part piece lo hi front p some enough e = absurd
    (let long = ap length e in let more = length-append front (p ∷ []) in omega arith)
last_reaches (suc k) part piece lo hi front p some enough e = cases (nat_lt lo hi) refl front e
    (λ fs f. last_reaches k part piece (lo + piece) hi fs p some (omega arith) f)
  where
    cases : (b : Bool) → nat_lt lo hi ≡ b → (fs : List Pull)
        → cond b (record { part = part; at = lo; len = min piece (hi - lo) }
        ∷ pulls_from k part piece (lo + piece) hi) [] ≡ fs ++ p ∷ []
        → ((gs : List Pull) → pulls_from k part piece (lo + piece) hi ≡ gs ++ p ∷ [] → p.at + p.len ≡ hi)
        → p.at + p.len ≡ hi
    cases false is fs e later = absurd (let long = ap length e in let more = length-append fs (p ∷ []) in omega arith)
    cases true is [] e later =
        let parts = tail_same (record { part = part; at = lo; len = min piece (hi - lo) }) p
        (pulls_from k part piece (lo + piece) hi) [] e in
        let inside : lo < hi = ltb-true lo hi is in
        let over : hi ≤ lo + piece = none_left k enough parts.1 in
        let reached : lo + min piece (hi - lo) ≡ hi = omega arith in
        subst (λ (x : Pull). x.at + x.len ≡ hi) parts.0 reached
      where
        none_left : (m : ℕ) → hi ≤ lo + suc m → pulls_from m part piece (lo + piece) hi ≡ [] → hi ≤ lo + piece
        none_left zero few none = omega arith
        none_left (suc m) few none = elim (nat_lt (lo + piece) hi)
            as (λ b. nat_lt (lo + piece) hi ≡ b
            → cond b (record { part = part; at = lo + piece; len = min piece (hi - (lo + piece)) }
            ∷ pulls_from m part piece (lo + piece + piece) hi) [] ≡ [] → hi ≤ lo + piece) [
              | true ↦ λ t f. cc
              | false ↦ λ t f. ltb-false (lo + piece) hi t
            ] refl none
    cases true is (f ∷ fs) e later = later fs
        (tail_same (record { part = part; at = lo; len = min piece (hi - lo) }) f
        (pulls_from k part piece (lo + piece) hi) (fs ++ p ∷ []) e).1

own_some : (q : Pull → Bool) (k : ℕ) (part : List ℕ) (piece lo hi : ℕ) → hi ≤ lo + k → lo < hi
    → 0 < length (up_to_first q (pulls_from k part piece lo hi))
own_some q zero part piece lo hi enough inside = absurd (omega (arith, inside))
own_some q (suc k) part piece lo hi enough inside =
    let p : Pull = record { part = part; at = lo; len = min piece (hi - lo) } in
    subst (λ b. 0 < length (up_to_first q (cond b (p ∷ pulls_from k part piece (lo + piece) hi) [])))
    (sym (lt-ltb lo hi inside)) (either (q p) p (pulls_from k part piece (lo + piece) hi))
  where
    either : (b : Bool) (p : Pull) (ps : List Pull) → 0 < length (cond b (p ∷ []) (p ∷ up_to_first q ps))
    either true p ps = omega arith
    either false p ps = omega arith

pub own_pieces : OwnPullsArePieces
unfolding own_pulls
own_pieces job held u some =
    let q : Pull → Bool = stops_within job.plan held u in
    let k : ℕ = u.hi - u.lo in
    let piece : ℕ = job.turns.piece in
    record {
      some = own_some q k u.part piece u.lo u.hi (omega arith);
      pieces = λ j p e. pull_at k u.part piece u.lo u.hi j p (get_first q (pulls_from k u.part piece u.lo u.hi) j p e);
      before = before_stop q (pulls_from k u.part piece u.lo u.hi);
      last = λ front p e. ⊎_elim (λ s. inl s)
          (λ s. inr (last_reaches k u.part piece u.lo u.hi front p some (omega arith) s))
          (last_stops q (pulls_from k u.part piece u.lo u.hi) front p e);
    }

-- ---- how many

le_ceil : (n x y : ℕ) → 0 < y → (0 < n → (n - 1) * y < x) → n ≤ div_ceil x y
le_ceil zero x y some below = omega arith
le_ceil (suc n) x y some below =
    let less : n * y < x = subst (λ m. m * y < x) (let same : suc n - 1 ≡ n = omega arith in same)
    (below (omega arith)) in
    let split : x / y * y + x % y ≡ x = div-add-mod' x y in
    let most : n ≤ x / y = le-div n x y some (omega arith) in
    ⊎_elim
    (λ e. let same : n * y ≡ x / y * y = ap (λ m. m * y) e in let over : 1 ≤ min 1 (x % y) = omega arith in omega arith)
    (λ ne. omega arith)
    (cases_eq n (x / y))

own_few : (job : Job) (held : Held) (u : WorkUnit) → 0 < job.turns.piece
    → length (own_pulls job held u) ≤ piece_count job.turns.piece u
own_few job held u some = le_ceil (length (own_pulls job held u)) (u.hi - u.lo) job.turns.piece some below
  where
    below : 0 < length (own_pulls job held u) → (length (own_pulls job held u) - 1) * job.turns.piece < u.hi - u.lo
    below one =
        let own : List Pull = own_pulls job held u in
        let d : Pull = record { part = []; at = 0; len = 0 } in
        let j : ℕ = length own - 1 in
        let at = slice_get-get_or own j d (omega arith) in
        let last = (own_pieces job held u some).pieces j (get_or own j d) at in
        let start : (get_or own j d).at ≡ u.lo + j * job.turns.piece = ap (λ (x : Pull). x.at) last.0 in
        let inside : (get_or own j d).at < u.hi = last.1 in
        omega arith

turns_bounded : (fuel : ℕ) (job : Job) (failing : List ℕ) (k : ℕ) (waiting : List Waiting)
    → length (turns_from fuel job failing k waiting) ≤ fuel
turns_bounded zero job failing k waiting = omega arith
turns_bounded (suc fuel) job failing k waiting =
    let place : ℕ = place_at job.turns k (length waiting) in
    cases (slice_get waiting place) (λ ws. turns_bounded fuel job failing (k + 1) (replace_at place ws waiting))
  where
    cases : (o : Option Waiting)
        → ((ws : List Waiting)
        → length (turns_from fuel job failing (k + 1)
        (replace_at (place_at job.turns k (length waiting)) ws waiting)) ≤ fuel)
        → length (then_turns job (member k failing) o
        (λ ws. turns_from fuel job failing (k + 1)
        (replace_at (place_at job.turns k (length waiting)) ws waiting))) ≤ suc fuel
    cases None later = omega arith
    cases (Some w) later = let rest = later (one_turn job (member k failing) w).1 in omega (arith, rest)

abbrev first_waiting : Job → Held → ℕ × WorkUnit → List Waiting
first_waiting job held e = cond e.1.listed
    (let all = own_pulls job held e.1 in record { unit = e.0; all = all; left = all; failures = 0 } ∷ []) []

abbrev pulls_to_make : List Waiting → ℕ
pulls_to_make ws = sum_by (λ (w : Waiting). length w.all) ws

pieces_at_first : (job : Job) (held : Held) (n : ℕ) (units : List WorkUnit) → 0 < job.turns.piece
    → pulls_to_make (flat_map (first_waiting job held) (enumerate_from n units)) ≤ sum_by
    (piece_count job.turns.piece) (filter (λ u. u.listed) units)
pieces_at_first job held n [] some = omega arith
pieces_at_first job held n (u ∷ us) some = cases u.listed (pieces_at_first job held (n + 1) us some)
  where
    cases : (b : Bool)
        → pulls_to_make (flat_map (first_waiting job held) (enumerate_from (n + 1) us)) ≤ sum_by
        (piece_count job.turns.piece) (filter (λ (v : WorkUnit). v.listed) us)
        → pulls_to_make
        (cond b (record { unit = n; all = own_pulls job held u; left = own_pulls job held u; failures = 0 }
        ∷ []) [] ++ flat_map (first_waiting job held) (enumerate_from (n + 1) us))
        ≤ sum_by (piece_count job.turns.piece)
        (cond b (u ∷ filter (λ (v : WorkUnit). v.listed) us) (filter (λ (v : WorkUnit). v.listed) us))
    cases true later =
        let few = own_few job held u some in
        let left = sum_by-cons (λ (w : Waiting). length w.all)
        (record { unit = n; all = own_pulls job held u; left = own_pulls job held u; failures = 0 })
        (flat_map (first_waiting job held) (enumerate_from (n + 1) us)) in
        let right = sum_by-cons (piece_count job.turns.piece) u (filter (λ (v : WorkUnit). v.listed) us) in
        omega (arith, few, left, right, later)
    cases false later = later

pub few_turns : TurnsAreFew
unfolding turns_of
few_turns job held units failing some =
    let waiting : List Waiting = waiting_at_first job held units in
    let all : ℕ = pulls_to_make waiting in
    let few : all ≤ sum_by (piece_count job.turns.piece)
    (filter (λ u. u.listed) units) = pieces_at_first job held 0 units some in
    le_trans (turns_bounded ((job.max_retries + 1) * all) job failing 0 waiting)
    (mul-le-mul_left (job.max_retries + 1) few)
