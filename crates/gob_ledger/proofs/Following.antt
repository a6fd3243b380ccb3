-- The state after a commit that isn't the last follows the state before.
use Rattle.std.proofs.Common.{◌≡◌, ◌≢◌, ◌⊎◌, inl, inr, ⊎_elim, ℕ, ◌<◌, ◌≤◌, Bool, true, false, cond, ◌&&◌, not, List}
use Rattle.std.proofs.Common.{[], ◌∷◌, ◌++◌, length, refl, sym, ap, subst, ◌∙◌, Some, None, arith, unwrap_or}
use Rattle.std.specs.declared.option.Option.{Option}
use Rattle.std.specs.List.{Contains, filter, list_any, zip}
use Rattle.std.specs.Str.{bytes_eq}
use Rattle.gob_bytes.specs.Tables.{at_name}
use Rattle.std.proofs.lemmas.Bool.{and_from}
use Rattle.gob_bytes.proofs.Tables.{name_itself, same_name}
use Rattle.gob_plan.specs.declared.units.Counts.{Counts}
use Rattle.gob_plan.specs.declared.units.Unit.{Unit as WorkUnit}
use Rattle.gob_meaning.specs.Fold.{saturate_u64}
use Rattle.gob_meaning.specs.Results.{Verdict}
use Rattle.gob_meaning.specs.Sums.{sum_of}
use Rattle.gob_ledger.specs.Marks.{Marks, Span, Done}
use Rattle.gob_ledger.specs.State.{State, marks_at, TiledState}
use Rattle.gob_ledger.specs.Units.{span_of, same_span, next_of, fresh_in, AreAdjacentFrom, UnitsFit}
use Rattle.gob_ledger.specs.Next.{Judged, no_marks, with_owed, with_done, change_part, add_unit, finish_unit}
use Rattle.gob_ledger.specs.Next.{fold_units, counts_in, plus, with_pipeline, pipeline_index, state_with_commit_or}
use Rattle.gob_ledger.specs.Next.{allowed_units, next_state}
use Rattle.gob_ledger.specs.Delta.{MarksFollow, OneMore, StateFollows, last_run}
use Rattle.gob_ledger.specs.Laws.{NextFollows}
use Rattle.gob_ledger.proofs.Members.{none_in, first_in, later_in, in_cases, in_filter, filter_in, map_in}
use Rattle.gob_ledger.proofs.Changes.{marks_or, marks_or-at, at_itself, at_other, units_in, units_of_zip}
use Rattle.gob_ledger.proofs.Changes.{adds-pipelines, finishes-pipelines, with-pipelines, with-parts}
use Rattle.gob_ledger.proofs.Tiling.{Adds, added_one, in_insert, insert_in, next_or, with_tiled}
use Rattle.gob_ledger.proofs.Cutting.{follow_above}
use Rattle.gob_ledger.proofs.Properly.{adds_totals, sums_more, with-totals}
use Rattle.gob_ledger.proofs.Ranges.{span_is}

pub follow_itself : (m : Marks) → MarksFollow m m
follow_itself m = record {
  next = omega arith;
  finished = λ d h. h;
  owed = λ s h. inl h;
  new_done = λ d h.
      inl h;
  new_owed = λ s h. inl h;
}

in_push : (s : Span) (xs : List Span) (x : Span) → Contains (xs ++ s ∷ []) x → Contains xs x ⊎ (s ≡ x)
in_push s [] x h = ⊎_elim (λ e. inr e) (λ k. none_in x k) (in_cases s [] x h)
in_push s (y ∷ ys) x h = ⊎_elim (λ e. inl (first_in y ys x e))
    (λ k. ⊎_elim (λ l. inl (later_in y ys x l)) (λ e. inr e) (in_push s ys x k)) (in_cases y (ys ++ s ∷ []) x h)

push_in : (s : Span) (xs : List Span) (x : Span) → Contains xs x → Contains (xs ++ s ∷ []) x
push_in s [] x h = none_in x h
push_in s (y ∷ ys) x h = ⊎_elim (λ e. first_in y (ys ++ s ∷ []) x e)
    (λ k. later_in y (ys ++ s ∷ []) x (push_in s ys x k)) (in_cases y ys x h)

owing_follows : (b m : Marks) (s : Span) → MarksFollow b m → b.next ≤ s.lo → m.next ≤ s.hi
    → MarksFollow b (with_owed s m)
owing_follows b m s f low high = record {
  next = let n = f.next in omega (arith, n, high);
  finished = f.finished;
  owed = λ x h. ⊎_elim (λ k. inl (push_in s m.owed x k)) (λ d. inr d) (f.owed x h);
  new_done = f.new_done;
  new_owed = λ x h. ⊎_elim (λ k. f.new_owed x k) (λ e. inr (subst (λ (y : Span). b.next ≤ y.lo) e low))
      (in_push s m.owed x h);
}

doing_follows : (b m : Marks) (p : ℕ) (s : Span) → MarksFollow b m → Contains b.owed s ⊎ (b.next ≤ s.lo)
    → MarksFollow b (with_done p s m)
doing_follows b m p s f old = record {
  next = f.next;
  finished = λ d h. insert_in mine m.finished d (inr (f.finished d h));
  owed = λ x h. ⊎_elim (λ k. stays x k) (λ d. inr (d.0, insert_in mine m.finished d.0 (inr d.1), d.2)) (f.owed x h);
  new_done = λ d h. ⊎_elim
      (λ e. ⊎_elim (λ k. inr (inl (subst (λ (y : Done). Contains b.owed y.span) e k)))
      (λ l. inr (inr (subst (λ (y : Done). b.next ≤ y.span.lo) e l))) old)
      (λ k. f.new_done d k)
      (in_insert mine m.finished d h);
  new_owed = λ x h. f.new_owed x (in_filter (λ o. not (same_span o s)) m.owed x h).0;
}
  where
    mine : Done
    mine = record { span = s; pipeline = p }

    stays : (x : Span) → Contains m.owed x → Contains (with_done p s m).owed x
        ⊎ ((d : Done) × Contains (with_done p s m).finished d × (d.span ≡ x))
    stays x k = elim (same_span x s) as (λ v. same_span x s ≡ v → Contains (with_done p s m).owed x
        ⊎ ((d : Done) × Contains (with_done p s m).finished d × (d.span ≡ x))) [
          | true ↦ λ e. inr (mine, insert_in mine m.finished mine (inl refl), sym (span_is x s e))
          | false ↦ λ e. inl (filter_in (λ o. not (same_span o s)) m.owed x k (ap not e))
        ] refl

-- each partition's marks follow those of another state
abbrev Fol : State → State → Type 0
Fol b s = (q : List ℕ) → MarksFollow (marks_or b q) (marks_or s q)

-- a partition of the first is in the second
abbrev Has : State → State → Type 0
Has b s = (q : List ℕ) (m : Marks) → marks_at b q ≡ Some m → (n : Marks) × (marks_at s q ≡ Some n)

change_follows : (g : Marks → Marks) (part : List ℕ) (b s : State) → Fol b s
    → MarksFollow (marks_or b part) (g (marks_or s part)) → Fol b (change_part g part s)
change_follows g part b s f here q = cases (bytes_eq q part) refl
  where
    cases : (v : Bool) → bytes_eq q part ≡ v → MarksFollow (marks_or b q) (marks_or (change_part g part s) q)
    cases true is =
        let same = same_name q part is in
        subst (λ p. MarksFollow (marks_or b p) (marks_or (change_part g part s) p)) (sym same)
        (subst (MarksFollow (marks_or b part)) (sym (marks_or-at (change_part g part s) part (g (marks_or s part))
        (at_itself g part s))) here)
    cases false is = subst (MarksFollow (marks_or b q)) (sym (ap (λ o. unwrap_or o no_marks) (at_other g part s q is)))
        (f q)

change_has : (g : Marks → Marks) (part : List ℕ) (b s : State) → Has b s → Has b (change_part g part s)
change_has g part b s has q m e = cases (bytes_eq q part) refl
  where
    cases : (v : Bool) → bytes_eq q part ≡ v → (n : Marks) × (marks_at (change_part g part s) q ≡ Some n)
    cases true is = (
      g (marks_or s part),
      ap (marks_at (change_part g part s)) (same_name q part is)
          ∙ at_itself g part s,
    )
    cases false is = let h = has q m e in (h.0, at_other g part s q is ∙ h.1)

adds_follow : (b : State) (js : List Judged) (s : State) → TiledState s → Adds s (units_in js) → Fol b s → Has b s
    → Fol b (fold_units add_unit s js) × Has b (fold_units add_unit s js)
adds_follow b [] s tiled adds f has = (f, has)
adds_follow b (j ∷ js) s tiled adds f has =
    let one = added_one s j (units_in js) tiled adds in
    let here = step j.0.fresh refl in
    adds_follow b js (add_unit s j) one.tiled one.adds here.0 here.1
  where
    step : (v : Bool) → j.0.fresh ≡ v → Fol b (cond j.0.fresh (change_part (with_owed (span_of j.0)) j.0.part s) s)
        × Has b (cond j.0.fresh (change_part (with_owed (span_of j.0)) j.0.part s) s)
    step false e = subst (λ (t : State). Fol b t × Has b t) (sym
        (ap (λ v. cond v (change_part (with_owed (span_of j.0)) j.0.part s) s) e)) (f, has)
    step true e =
        let in_it : Contains (fresh_in j.0.part (j.0 ∷ units_in js)) j.0 =
        filter_in (λ v. v.fresh && bytes_eq v.part j.0.part) (j.0 ∷ units_in js) j.0
        (first_in j.0 (units_in js) j.0 refl) (and_from _ _ e (name_itself j.0.part)) in
        let above = follow_above (next_of s.parts j.0.part) (fresh_in j.0.part (j.0 ∷ units_in js)) j.0 (adds j.0.part)
        in_it in
        let next = next_or s j.0.part in
        let old = (f j.0.part).next in
        subst (λ (t : State). Fol b t × Has b t) (sym (ap (λ v.
        cond v (change_part (with_owed (span_of j.0)) j.0.part s) s) e)) (
          change_follows (with_owed (span_of j.0)) j.0.part b s f
              (owing_follows (marks_or b j.0.part) (marks_or s j.0.part) (span_of j.0) (f j.0.part)
              (omega (arith, above, next, old)) (omega (arith, above, next))),
          change_has (with_owed (span_of j.0)) j.0.part b s has,
        )

finishes_follow : (b : State) (p : ℕ) (js : List Judged) (s : State)
    → ((j : Judged) → Contains js j → Contains (marks_or b j.0.part).owed (span_of j.0)
    ⊎ ((marks_or b j.0.part).next ≤ j.0.lo)) → Fol b s → Has b s
    → Fol b (fold_units (finish_unit p) s js) × Has b (fold_units (finish_unit p) s js)
finishes_follow b p [] s old f has = (f, has)
finishes_follow b p (j ∷ js) s old f has =
    finishes_follow b p js (finish_unit p s j) (λ k h. old k (later_in j js k h))
    (change_follows (with_done p (span_of j.0)) j.0.part b s f
    (doing_follows (marks_or b j.0.part) (marks_or s j.0.part) p (span_of j.0) (f j.0.part)
    (old j (first_in j js j refl))))
    (change_has (with_done p (span_of j.0)) j.0.part b s has)

plus_more : (a : Counts) (o : Option Counts) → length a.branches ≤ length (plus a o).branches
unfolding sum_of
plus_more a None = omega arith
plus_more a (Some c) = sums_more a.branches c.branches

finishes_more : (p : ℕ) (js : List Judged) (s : State) → length s.totals.branches ≤ length
    (fold_units (finish_unit p) s js).totals.branches
finishes_more p [] s = omega arith
finishes_more p (j ∷ js) s = let here = plus_more s.totals (counts_in j.1) in let later =
    finishes_more p js (finish_unit p s j) in omega (arith, here, later)

one_more : (b : Bool) (p : List ℕ) (ps : List (List ℕ)) → OneMore ps (cond b ps (ps ++ p ∷ []))
one_more true p ps = inl refl
one_more false p ps = inr (p, refl)

committed_follows : (s : State) (pipeline : List ℕ) (all : List Judged) (keep : Judged → Bool) (done : List Judged)
    → done ≡ filter keep all → TiledState s → UnitsFit s.parts (units_in all) → s.run < last_run → done ≢ []
    → StateFollows s (state_with_commit_or s pipeline all done)
committed_follows s pipeline all keep [] is tiled fit below some = absurd (some refl)
committed_follows s pipeline all keep (d ∷ ds) is tiled fit below some =
    let p = pipeline_index pipeline s in
    let start = with_pipeline pipeline s in
    let parts = with-parts pipeline s in
    let same : (q : List ℕ) → marks_at start q ≡ marks_at s q = λ q. ap (λ t. at_name t q) parts in
    let added = adds_follow s all start (with_tiled pipeline s tiled)
    (λ q. subst (λ t. AreAdjacentFrom (next_of t q) (fresh_in q (units_in all))) (sym parts) (fit.fresh q))
    (λ q. subst (MarksFollow (marks_or s q)) (sym (ap (λ o. unwrap_or o no_marks) (same q)))
    (follow_itself (marks_or s q)))
    (λ q m e. (m, same q ∙ e)) in
    let old : (j : Judged) → Contains (d ∷ ds) j → Contains (marks_or s j.0.part).owed (span_of j.0)
    ⊎ ((marks_or s j.0.part).next ≤ j.0.lo) = λ j h.
    let unit = map_in (λ (x : Judged). x.0) all j (in_filter keep all j
    (subst (λ (js : List Judged). Contains js j) is h)).0 in
    elim j.0.fresh as (λ b. j.0.fresh ≡ b → Contains (marks_or s j.0.part).owed (span_of j.0)
    ⊎ ((marks_or s j.0.part).next ≤ j.0.lo)) [
      | true ↦ λ e.
          let in_it = filter_in (λ v. v.fresh && bytes_eq v.part j.0.part) (units_in all) j.0 unit
          (and_from _ _ e (name_itself j.0.part)) in
          let above = follow_above (next_of s.parts j.0.part) (fresh_in j.0.part (units_in all)) j.0
          (fit.fresh j.0.part) in_it in
          let next = next_or s j.0.part in inr (omega (arith, above, next))
      | false ↦ λ e. let o = fit.owed j.0 unit e in inl (subst (λ (n : Marks). Contains n.owed (span_of j.0))
          (sym (marks_or-at s j.0.part o.0 o.1)) o.2)
    ] refl in
    let end = finishes_follow s p (d ∷ ds) (fold_units add_unit start all) old added.0 added.1 in
    let more = finishes_more p (d ∷ ds) (fold_units add_unit start all) in
    let first : (fold_units add_unit start all).totals ≡ s.totals = adds_totals all start ∙ with-totals pipeline s in
    let level = ap (λ (c : Counts). length c.branches) first in
    let pipes = finishes-pipelines p (d ∷ ds) (fold_units add_unit start all)
    ∙ (adds-pipelines all start ∙ with-pipelines pipeline s) in
    record {
      run = omega (arith, below);
      pipelines = subst (OneMore s.pipelines) (sym pipes) (one_more (list_any (bytes_eq pipeline) s.pipelines) pipeline
          s.pipelines);
      branches = omega (arith, more, level);
      parts = end.1;
      marks = end.0;
    }

pub follows_next : NextFollows
unfolding next_state
follows_next s pipeline units verdicts policy same tiled fit below some =
    let all = zip units verdicts in
    committed_follows s pipeline all _ (allowed_units policy all) refl tiled
    (subst (UnitsFit s.parts) (sym (units_of_zip units verdicts same)) fit) below some
