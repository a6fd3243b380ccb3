-- A tiled state stays tiled.
use Rattle.std.proofs.Common.{◌≡◌, ◌⊎◌, inl, inr, ⊎_elim, ℕ, zero, suc, ◌<◌, Bool, true, false, cond, not, ◌&&◌, nat_lt}
use Rattle.std.proofs.Common.{List, [], ◌∷◌, length, option_map, refl, sym, ap, subst, ◌∙◌, Some, None, unwrap_or}
use Rattle.std.proofs.Common.{arith}
use Rattle.std.specs.declared.option.Option.{Option}
use Rattle.std.specs.List.{Contains, AllByRecursion, IsDistinct, filter, zip, slice_get}
use Rattle.std.specs.Str.{bytes_eq}
use Rattle.std.proofs.lemmas.Bool.{and_from}
use Rattle.std.proofs.lemmas.List.Elements.{Contains-append_left, Contains-push}
use Rattle.std.proofs.lemmas.Option.{slice_get_within}
use Rattle.gob_bytes.proofs.Tables.{same_name, name_itself}
use Rattle.gob_plan.specs.declared.units.Unit.{Unit as WorkUnit}
use Rattle.gob_bytes.specs.Tables.{at_name}
use Rattle.gob_ledger.specs.Marks.{Marks, Span, Done, Tiled}
use Rattle.gob_ledger.specs.State.{State, marks_at, TiledState}
use Rattle.gob_ledger.specs.Units.{span_of, same_span, same_unit, next_of, fresh_in, AreAdjacentFrom, IsOwed, UnitsFit}
use Rattle.gob_ledger.specs.Next.{Judged, no_marks, insert_done, with_owed, with_done, change_part, add_unit}
use Rattle.gob_ledger.specs.Next.{finish_unit, fold_units, with_pipeline, pipeline_index, state_with_commit_or}
use Rattle.gob_ledger.specs.Next.{allowed_units, next_state}
use Rattle.gob_ledger.specs.Laws.{NextTiles}
use Rattle.gob_ledger.proofs.Members.{none_in, first_in, later_in, in_cases, in_filter, filter_in, in_map, map_in}
use Rattle.gob_ledger.proofs.Ranges.{tiled_none, tiled_owed, tiled_done, span_is, same_itself}
use Rattle.gob_ledger.proofs.Changes.{marks_or, marks_or-at, changed_cases, at_itself, at_other, all_member, units_in}
use Rattle.gob_ledger.proofs.Changes.{units_of_zip, adds-pipelines, with-parts, pipeline_there, pipeline_stays}
use Rattle.gob_ledger.proofs.Cutting.{turned}

pub in_insert : (d : Done) (es : List Done) (x : Done) → Contains (insert_done d es) x → (d ≡ x) ⊎ Contains es x
in_insert d [] x h = in_cases d [] x h
in_insert d (e ∷ es) x h = cases (nat_lt d.span.lo e.span.lo) h (in_insert d es x)
  where
    cases : (b : Bool) → Contains (cond b (d ∷ e ∷ es) (e ∷ insert_done d es)) x
        → (Contains (insert_done d es) x → (d ≡ x) ⊎ Contains es x) → (d ≡ x) ⊎ Contains (e ∷ es) x
    cases true h later = in_cases d (e ∷ es) x h
    cases false h later = ⊎_elim (λ same. inr (first_in e es x same))
        (λ k. ⊎_elim (λ l. inl l) (λ l. inr (later_in e es x l)) (later k)) (in_cases e (insert_done d es) x h)

pub insert_in : (d : Done) (es : List Done) (x : Done) → (d ≡ x) ⊎ Contains es x → Contains (insert_done d es) x
insert_in d [] x h = ⊎_elim (λ e. first_in d [] x e) (λ k. none_in x k) h
insert_in d (e ∷ es) x h = cases (nat_lt d.span.lo e.span.lo) h (insert_in d es x)
  where
    cases : (b : Bool) → (d ≡ x) ⊎ Contains (e ∷ es) x → ((d ≡ x) ⊎ Contains es x → Contains (insert_done d es) x)
        → Contains (cond b (d ∷ e ∷ es) (e ∷ insert_done d es)) x
    cases true (inl same) later = first_in d (e ∷ es) x same
    cases true (inr k) later = later_in d (e ∷ es) x k
    cases false (inl same) later = later_in e (insert_done d es) x (later (inl same))
    cases false (inr k) later = ⊎_elim (λ same. first_in e (insert_done d es) x same)
        (λ l. later_in e (insert_done d es) x (later (inr l))) (in_cases e es x k)

tiled_or : (s : State) (part : List ℕ) → TiledState s → Tiled (marks_or s part)
tiled_or s part tiled = cases (marks_at s part) refl
  where
    cases : (o : Option Marks) → marks_at s part ≡ o → Tiled (unwrap_or o no_marks)
    cases None e = tiled_none
    cases (Some m) e = tiled.tiled part m e

indexed_or : (s : State) (part : List ℕ) (d : Done) → TiledState s → Contains (marks_or s part).finished d
    → d.pipeline < length s.pipelines
indexed_or s part d tiled h = cases (marks_at s part) refl h
  where
    cases : (o : Option Marks) → marks_at s part ≡ o → Contains (unwrap_or o no_marks).finished d
        → d.pipeline < length s.pipelines
    cases None e h = none_in d h
    cases (Some m) e h = tiled.indexed part m d e h

change_tiled : (f : Marks → Marks) (part : List ℕ) (s : State) → TiledState s → Tiled (f (marks_or s part))
    → ((d : Done) → Contains (f (marks_or s part)).finished d → d.pipeline < length s.pipelines)
    → TiledState (change_part f part s)
change_tiled f part s tiled here indexes = record {
  tiled = λ q m e. ⊎_elim (λ p. subst Tiled p.1 here) (λ p. tiled.tiled q m p.1) (changed_cases f part s q m e);
  indexed = λ q m d e h. ⊎_elim (λ p. indexes d (subst (λ (n : Marks). Contains n.finished d) (sym p.1) h))
      (λ p. tiled.indexed q m d p.1 h) (changed_cases f part s q m e);
}

pub next_or : (s : State) (part : List ℕ) → next_of s.parts part ≡ (marks_or s part).next
next_or s part = elim (marks_at s part) as (λ o. unwrap_or (option_map (λ (m : Marks). m.next) o) 0 ≡
    (unwrap_or o no_marks).next) [ None ↦ refl | Some m ↦ refl ]

next_changed : (sp : Span) (part : List ℕ) (s : State) → next_of (change_part (with_owed sp) part s).parts part ≡ sp.hi
next_changed sp part s = ap (λ o. unwrap_or (option_map (λ (m : Marks). m.next) o) 0) (at_itself (with_owed sp) part s)

next_other : (sp : Span) (part : List ℕ) (s : State) (q : List ℕ) → bytes_eq q part ≡ false
    → next_of (change_part (with_owed sp) part s).parts q ≡ next_of s.parts q
next_other sp part s q e = ap (λ o. unwrap_or (option_map (λ (m : Marks). m.next) o) 0)
    (at_other (with_owed sp) part s q e)

-- the fresh units among these can be added one after the other
abbrev pub Adds : State → List WorkUnit → Type 0
Adds s us = (part : List ℕ) → AreAdjacentFrom (next_of s.parts part) (fresh_in part us)

fresh_head : (u : WorkUnit) (us : List WorkUnit) → u.fresh ≡ true → fresh_in u.part (u ∷ us) ≡ u ∷ fresh_in u.part us
fresh_head u us e = ap (λ b. cond b (u ∷ fresh_in u.part us) (fresh_in u.part us))
    (and_from u.fresh (bytes_eq u.part u.part) e (name_itself u.part))

not_both : (a b : Bool) → (a ≡ false) ⊎ (b ≡ false) → (a && b) ≡ false
not_both true true h = ⊎_elim (λ e. e) (λ e. e) h
not_both true false h = refl
not_both false b h = refl

fresh_skip : (u : WorkUnit) (us : List WorkUnit) (part : List ℕ) → (u.fresh ≡ false) ⊎ (bytes_eq u.part part ≡ false)
    → fresh_in part (u ∷ us) ≡ fresh_in part us
fresh_skip u us part h = ap (λ b. cond b (u ∷ fresh_in part us) (fresh_in part us))
    (not_both u.fresh (bytes_eq u.part part) h)

-- what one added unit leaves
pub record Added (s t : State) (u : WorkUnit) (us : List WorkUnit) : Type 0 where
  pub tiled : TiledState t
  pub adds : Adds t us
  keeps : (k : WorkUnit) → IsOwed s.parts k → IsOwed t.parts k
  owes : u.fresh ≡ true → IsOwed t.parts u

added_fresh : (s : State) (u : WorkUnit) (us : List WorkUnit) → TiledState s → Adds s (u ∷ us) → u.fresh ≡ true
    → Added s (change_part (with_owed (span_of u)) u.part s) u us
added_fresh s u us tiled adds fresh =
    let first : AreAdjacentFrom (next_of s.parts u.part) (u ∷ fresh_in u.part us) =
    subst (AreAdjacentFrom (next_of s.parts u.part)) (fresh_head u us fresh) (adds u.part) in
    let t : State = change_part (with_owed (span_of u)) u.part s in
    record {
      tiled = change_tiled (with_owed (span_of u)) u.part s tiled
          (tiled_owed (marks_or s u.part) (span_of u) (tiled_or s u.part tiled) (first.0 ∙ next_or s u.part) first.1)
          (λ d h. indexed_or s u.part d tiled h);
      adds = λ q. follow q (bytes_eq q u.part) refl first.2;
      keeps = λ k o. kept k o (bytes_eq k.part u.part) refl;
      owes = λ e. (
        with_owed (span_of u) (marks_or s u.part),
        at_itself (with_owed (span_of u)) u.part s,
        Contains-push (marks_or s u.part).owed (span_of u),
      );
    }
  where
    follow : (q : List ℕ) (b : Bool) → bytes_eq q u.part ≡ b → AreAdjacentFrom u.hi (fresh_in u.part us)
        → AreAdjacentFrom (next_of (change_part (with_owed (span_of u)) u.part s).parts q) (fresh_in q us)
    follow q true is rest = subst (λ p. AreAdjacentFrom (next_of (change_part (with_owed (span_of u)) u.part s).parts p)
        (fresh_in p us)) (sym (same_name q u.part is))
        (subst (λ n. AreAdjacentFrom n (fresh_in u.part us)) (sym (next_changed (span_of u) u.part s)) rest)
    follow q false is rest = subst (λ n. AreAdjacentFrom n (fresh_in q us)) (sym (next_other (span_of u) u.part s q is))
        (subst (AreAdjacentFrom (next_of s.parts q)) (fresh_skip u us q (inr (turned q u.part is))) (adds q))

    kept : (k : WorkUnit) → IsOwed s.parts k → (b : Bool) → bytes_eq k.part u.part ≡ b
        → IsOwed (change_part (with_owed (span_of u)) u.part s).parts k
    kept k o true is =
        let same = same_name k.part u.part is in
        let m : marks_or s u.part ≡ o.0 = marks_or-at s u.part o.0 (ap (marks_at s) (sym same) ∙ o.1) in (
          with_owed (span_of u) (marks_or s u.part),
          ap (at_name (change_part (with_owed (span_of u)) u.part s).parts) same
              ∙ at_itself (with_owed (span_of u)) u.part s,
          Contains-append_left (marks_or s u.part).owed (span_of u ∷ []) (span_of k)
              (subst (λ (n : Marks). Contains n.owed (span_of k)) (sym m) o.2),
        )
    kept k o false is = (o.0, at_other (with_owed (span_of u)) u.part s k.part is ∙ o.1, o.2)

pub added_one : (s : State) (j : Judged) (us : List WorkUnit) → TiledState s → Adds s (j.0 ∷ us)
    → Added s (add_unit s j) j.0 us
added_one s j us tiled adds = elim j.0.fresh as (λ b. j.0.fresh ≡ b
    → Added s (cond b (change_part (with_owed (span_of j.0)) j.0.part s) s) j.0 us) [
      | true ↦ λ e. added_fresh s j.0 us tiled adds e
      | false ↦ λ e. record {
        tiled = tiled;
        adds = λ q. subst (AreAdjacentFrom (next_of s.parts q))
            (fresh_skip j.0 us q (inl e)) (adds q);
        keeps = λ k o. o;
        owes = λ f.
            absurd (let no : true ≡ false = sym f ∙ e in cc);
      }
    ] refl

-- what all added units leave
pub record AllAdded (s t : State) (us : List WorkUnit) : Type 0 where
  pub tiled : TiledState t
  pub keeps : (k : WorkUnit) → IsOwed s.parts k → IsOwed t.parts k
  pub owes : (k : WorkUnit) → Contains us k → k.fresh ≡ true → IsOwed t.parts k

pub all_added : (js : List Judged) (s : State) → TiledState s → Adds s (units_in js)
    → AllAdded s (fold_units add_unit s js) (units_in js)
all_added [] s tiled adds = record { tiled = tiled; keeps = λ k o. o; owes = λ k h e. none_in k h }
all_added (j ∷ js) s tiled adds =
    let one = added_one s j (units_in js) tiled adds in
    let rest = all_added js (add_unit s j) one.tiled one.adds in
    record {
      tiled = rest.tiled;
      keeps = λ k o. rest.keeps k (one.keeps k o);
      owes = λ k h e. ⊎_elim
          (λ same. rest.keeps k (subst (IsOwed (add_unit s j).parts) same
          (one.owes (ap (λ (u : WorkUnit). u.fresh) same ∙ e))))
          (λ l. rest.owes k l e)
          (in_cases j.0 (units_in js) k h);
    }

finish_tiled : (p : ℕ) (s : State) (j : Judged) → TiledState s → p < length s.pipelines → IsOwed s.parts j.0
    → TiledState (finish_unit p s j)
finish_tiled p s j tiled below o =
    let m : marks_or s j.0.part ≡ o.0 = marks_or-at s j.0.part o.0 o.1 in
    let there : Contains (marks_or s j.0.part).owed (span_of j.0) =
    subst (λ (n : Marks). Contains n.owed (span_of j.0)) (sym m) o.2 in
    let t = change_tiled (with_done p (span_of j.0)) j.0.part s tiled
    (tiled_done (marks_or s j.0.part) p (span_of j.0) (tiled_or s j.0.part tiled) there)
    (λ d h. ⊎_elim (λ e. subst (λ (x : Done). x.pipeline < length s.pipelines) e below)
    (λ k. indexed_or s j.0.part d tiled k) (in_insert (record { span = span_of j.0; pipeline = p })
    (marks_or s j.0.part).finished d h)) in
    record { tiled = t.tiled; indexed = t.indexed }

pub finish_keeps : (p : ℕ) (s : State) (j : Judged) (k : WorkUnit) → same_unit j.0 k ≡ false → IsOwed s.parts k
    → IsOwed (finish_unit p s j).parts k
finish_keeps p s j k apart o = cases (bytes_eq k.part j.0.part) refl
  where
    cases : (b : Bool) → bytes_eq k.part j.0.part ≡ b → IsOwed (finish_unit p s j).parts k
    cases false is = (o.0, at_other (with_done p (span_of j.0)) j.0.part s k.part is ∙ o.1, o.2)
    cases true is =
        let same = same_name k.part j.0.part is in
        let m : marks_or s j.0.part ≡ o.0 = marks_or-at s j.0.part o.0 (ap (marks_at s) (sym same) ∙ o.1) in
        let there : Contains (marks_or s j.0.part).owed (span_of k) =
        subst (λ (n : Marks). Contains n.owed (span_of k)) (sym m) o.2 in
        let differ : same_span (span_of k) (span_of j.0) ≡ false =
        elim (same_span (span_of k) (span_of j.0)) as (λ v. same_span (span_of k) (span_of j.0) ≡ v → v ≡ false) [
          | true ↦ λ e.
              let spans : span_of j.0 ≡ span_of k = sym (span_is (span_of k) (span_of j.0) e) in
              let both : same_unit j.0 k ≡ true = and_from _ _
              (subst (λ x. bytes_eq j.0.part x ≡ true) (sym same) (name_itself j.0.part))
              (subst (λ x. same_span (span_of j.0) x ≡ true) spans (same_itself (span_of j.0))) in
              cc
          | false ↦ λ e. refl
        ] refl in (
          with_done p (span_of j.0) (marks_or s j.0.part),
          ap (at_name (finish_unit p s j).parts) same ∙ at_itself (with_done p (span_of j.0)) j.0.part s,
          filter_in (λ x. not (same_span x (span_of j.0))) (marks_or s j.0.part).owed (span_of k) there (ap not differ),
        )

all_finished : (p : ℕ) (js : List Judged) (s : State) → TiledState s → p < length s.pipelines
    → IsDistinct same_unit (units_in js) → ((k : WorkUnit) → Contains (units_in js) k → IsOwed s.parts k)
    → TiledState (fold_units (finish_unit p) s js)
unfolding IsDistinct
all_finished p [] s tiled below apart owed = tiled
all_finished p (j ∷ js) s tiled below apart owed =
    all_finished p js (finish_unit p s j) (finish_tiled p s j tiled below
    (owed j.0 (first_in j.0 (units_in js) j.0 refl))) below apart.1
    (λ k h. finish_keeps p s j k (all_member (λ y. same_unit j.0 y ≡ false) (units_in js) k apart.0 h)
    (owed k (later_in j.0 (units_in js) k h)))

all_filter : (p : Judged → Bool) (P : WorkUnit → Type 0) (js : List Judged) → AllByRecursion P (units_in js)
    → AllByRecursion P (units_in (filter p js))
all_filter p P [] all = tt
all_filter p P (j ∷ js) all = elim (p j) as
    (λ b. AllByRecursion P (units_in (cond b (j ∷ filter p js) (filter p js)))) [
      | true ↦ (all.0, all_filter p P js all.1)
      | false ↦ all_filter p P js all.1
    ]

pub distinct_filter : (p : Judged → Bool) (js : List Judged) → IsDistinct same_unit (units_in js)
    → IsDistinct same_unit (units_in (filter p js))
unfolding IsDistinct
distinct_filter p [] apart = tt
distinct_filter p (j ∷ js) apart = elim (p j) as (λ b. IsDistinct same_unit
    (units_in (cond b (j ∷ filter p js) (filter p js)))) [
      | true ↦ (all_filter p (λ y. same_unit j.0 y ≡ false) js apart.0, distinct_filter p js apart.1)
      | false ↦ distinct_filter p js apart.1
    ]

pub filter_units : (p : Judged → Bool) (js : List Judged) (k : WorkUnit) → Contains (units_in (filter p js)) k
    → Contains (units_in js) k
filter_units p js k h =
    let r = in_map (λ (j : Judged). j.0) (filter p js) k h in
    subst (Contains (units_in js)) r.2 (map_in (λ (j : Judged). j.0) js r.0 (in_filter p js r.0 r.1).0)

some_there : (xs : List (List ℕ)) (k : ℕ) → k < length xs → (x : List ℕ) × (slice_get xs k ≡ Some x)
some_there [] k below = absurd (omega (arith, below))
some_there (x ∷ xs) zero below = (x, refl)
some_there (x ∷ xs) (suc k) below = some_there xs k (omega (arith, below))

pub with_tiled : (p : List ℕ) (s : State) → TiledState s → TiledState (with_pipeline p s)
with_tiled p s tiled = record {
  tiled = λ q m e. tiled.tiled q m (ap (λ t. at_name t q) (sym (with-parts p s)) ∙ e);
  indexed = λ q m d e h.
      let below = tiled.indexed q m d (ap (λ t. at_name t q) (sym (with-parts p s)) ∙ e) h in
      longer d.pipeline below;
}
  where
    longer : (k : ℕ) → k < length s.pipelines → k < length (with_pipeline p s).pipelines
    longer k below = let there = some_there s.pipelines k below in
        slice_get_within (with_pipeline p s).pipelines k there.0 (pipeline_stays p s k below ∙ there.1)

committed_tiled : (s : State) (pipeline : List ℕ) (all : List Judged) (keep : Judged → Bool) (done : List Judged)
    → done ≡ filter keep all → TiledState s → UnitsFit s.parts (units_in all)
    → TiledState (state_with_commit_or s pipeline all done)
committed_tiled s pipeline all keep [] is tiled fit = tiled
committed_tiled s pipeline all keep (d ∷ ds) is tiled fit =
    let start = with_pipeline pipeline s in
    let parts = with-parts pipeline s in
    let added = all_added all start (with_tiled pipeline s tiled)
    (λ q. subst (λ t. AreAdjacentFrom (next_of t q) (fresh_in q (units_in all))) (sym parts) (fit.fresh q)) in
    let t = fold_units add_unit start all in
    let owed : (k : WorkUnit) → Contains (units_in all) k → IsOwed t.parts k = λ k h.
    elim k.fresh as (λ b. k.fresh ≡ b → IsOwed t.parts k) [
      | true ↦ λ e. added.owes k h e
      | false ↦ λ e. added.keeps k (subst (λ q. IsOwed q k) (sym parts) (fit.owed k h e))
    ] refl in
    let below : pipeline_index pipeline s < length t.pipelines =
    subst (λ ps. pipeline_index pipeline s < length ps) (sym (adds-pipelines all start))
    (slice_get_within start.pipelines (pipeline_index pipeline s) pipeline (pipeline_there pipeline s)) in
    let end = all_finished (pipeline_index pipeline s) (d ∷ ds) t added.tiled below
    (subst (λ js. IsDistinct same_unit (units_in js)) (sym is) (distinct_filter keep all fit.once))
    (λ k h. owed k (filter_units keep all k (subst (λ js. Contains (units_in js) k) is h))) in
    record { tiled = end.tiled; indexed = end.indexed }

pub tiles : NextTiles
unfolding next_state
tiles s pipeline units verdicts policy same tiled fit =
    committed_tiled s pipeline (zip units verdicts) _ (allowed_units policy (zip units verdicts)) refl tiled
    (subst (UnitsFit s.parts) (sym (units_of_zip units verdicts same)) fit)
