-- The policies that warn, one after the other.
use Rattle.std.proofs.Common.{◌≡◌, ℕ, zero, suc, ◌+◌, ◌<◌, ◌≤◌, Bool, true, false, cond, List, [], ◌∷◌, ◌++◌, length}
use Rattle.std.proofs.Common.{map, filter, drop, get_or, refl, sym, ap, ◌∙◌, add-one, append_assoc, append-nil}
use Rattle.std.proofs.Common.{drop-cons, arith}
use Rattle.std.specs.List.{enumerate_from}
use Rattle.gob_meaning.specs.Results.{warnings_of, warns_task}
use Rattle.gob_plan.specs.declared.plan.TaskPolicy.{TaskPolicy}
use Rattle.gob_plan.specs.declared.units.Counts.{Counts}
use Rattle.gob_task.specs.Judging.{warning_places}

pub all_warnings : (policies : List TaskPolicy) (n : Counts) → warning_places 0 policies n ≡ warnings_of policies n
unfolding warning_places warnings_of
all_warnings policies n = refl

pub no_policies : (start : ℕ) (n : Counts) → warning_places start [] n ≡ []
unfolding warning_places
no_policies start n = refl

abbrev one_where : Bool → ℕ → List ℕ
one_where b start = cond b (start ∷ []) []

places_from : (start : ℕ) (p : TaskPolicy) (ps : List TaskPolicy) (n : Counts)
    → warning_places start (p ∷ ps) n ≡ one_where (warns_task p n) start ++ warning_places (start + 1) ps n
unfolding warning_places
places_from start p ps n = cases (warns_task p n) refl
  where
    cases : (b : Bool) → warns_task p n ≡ b
        → map (λ (q : ℕ × TaskPolicy). q.0)
        (filter (λ (q : ℕ × TaskPolicy). warns_task q.1 n) ((start, p) ∷ enumerate_from (start + 1) ps))
        ≡ one_where b start
        ++ map (λ (q : ℕ × TaskPolicy). q.0)
        (filter (λ (q : ℕ × TaskPolicy). warns_task q.1 n) (enumerate_from (start + 1) ps))
    cases true is = rw is refl
    cases false is = rw is refl

-- one policy alone
pub warned : (start : ℕ) (p : TaskPolicy) (n : Counts) → warns_task p n ≡ true
    → warning_places start (p ∷ []) n ≡ start ∷ []
warned start p n is =
    places_from start p [] n
    ∙ (ap (λ ns. one_where (warns_task p n) start ++ ns) (no_policies (start + 1) n)
    ∙ (append-nil (one_where (warns_task p n) start) ∙ ap (λ b. one_where b start) is))

pub not_warned : (start : ℕ) (p : TaskPolicy) (n : Counts) → warns_task p n ≡ false
    → warning_places start (p ∷ []) n ≡ []
not_warned start p n is =
    places_from start p [] n
    ∙ (ap (λ ns. one_where (warns_task p n) start ++ ns) (no_policies (start + 1) n)
    ∙ (append-nil (one_where (warns_task p n) start) ∙ ap (λ b. one_where b start) is))

places_next : (start : ℕ) (p : TaskPolicy) (ps : List TaskPolicy) (n : Counts)
    → warning_places start (p ∷ ps) n ≡ warning_places start (p ∷ []) n ++ warning_places (start + 1) ps n
places_next start p ps n =
    places_from start p ps n
    ∙ ap (λ ns. ns ++ warning_places (start + 1) ps n)
    (sym (places_from start p [] n
    ∙ (ap (λ ns. one_where (warns_task p n) start ++ ns) (no_policies (start + 1) n)
    ∙ append-nil (one_where (warns_task p n) start))))

-- behind one more policy
pub one_more_policy : (policies : List TaskPolicy) (i index : ℕ) (p d : TaskPolicy) (n : Counts) (list later : List ℕ)
    → index ≡ i → i < length policies → p ≡ get_or policies i d
    → list ++ warning_places i (drop i policies) n ≡ warning_places 0 policies n
    → later ≡ list ++ warning_places index (p ∷ []) n
    → later ++ warning_places (i + 1) (drop (i + 1) policies) n ≡ warning_places 0 policies n
one_more_policy policies i index p d n list later same within is so_far added =
    ap (λ l. l ++ warning_places (i + 1) (drop (i + 1) policies) n)
    (added ∙ ap (λ k. list ++ warning_places k (p ∷ []) n) same)
    ∙ (append_assoc list (warning_places i (p ∷ []) n) (warning_places (i + 1) (drop (i + 1) policies) n)
    ∙ (ap (λ ns. list ++ ns) (sym (places_next i p (drop (i + 1) policies) n))
    ∙ (ap (λ ps. list ++ warning_places i ps n) (sym here) ∙ so_far)))
  where
    here : drop i policies ≡ p ∷ drop (i + 1) policies
    here = rw add-one (drop-cons policies i d within ∙ ap (λ q. q ∷ drop (suc i) policies) (sym is))

pub last_policy : (policies : List TaskPolicy) (i : ℕ) (n : Counts) (list : List ℕ) → length policies ≤ i
    → list ++ warning_places i (drop i policies) n ≡ warning_places 0 policies n → list ≡ warnings_of policies n
last_policy policies i n list past so_far =
    sym (append-nil list)
    ∙ (ap (λ ns. list ++ ns) (sym (ap (λ ps. warning_places i ps n) (none policies i past) ∙ no_policies i n))
    ∙ (so_far ∙ all_warnings policies n))
  where
    none : (ps : List TaskPolicy) (i : ℕ) → length ps ≤ i → drop i ps ≡ []
    none [] zero past = refl
    none [] (suc i) past = refl
    none (q ∷ ps) zero past = absurd (omega (arith, past))
    none (q ∷ ps) (suc i) past = none ps i (omega (arith, past))
