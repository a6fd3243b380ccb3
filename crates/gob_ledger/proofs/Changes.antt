-- What a change of one partition leaves of a state.
use Rattle.std.proofs.Common.{◌≡◌, ◌⊎◌, inl, inr, ⊎_elim, ℕ, zero, suc, ◌+◌, ◌<◌, Bool, true, false, cond, List, []}
use Rattle.std.proofs.Common.{◌∷◌, ◌++◌, map, length, refl, sym, ap, subst, ◌∙◌, Some, unwrap_or, arith, None}
use Rattle.std.specs.declared.option.Option.{Option}
use Rattle.std.specs.List.{Contains, AllByRecursion, zip, list_any, position_or_len, slice_get}
use Rattle.std.specs.Str.{bytes_eq}
use Rattle.gob_bytes.proofs.Tables.{at-with_name, rising-with_name, same_name, name_itself}
use Rattle.gob_bytes.specs.Tables.{names_of, IsInByteOrder}
use Rattle.gob_plan.specs.declared.units.Unit.{Unit as WorkUnit}
use Rattle.gob_plan.specs.declared.plan.CommitPolicy.{CommitPolicy}
use Rattle.gob_meaning.specs.Results.{Verdict}
use Rattle.gob_ledger.specs.Marks.{Marks}
use Rattle.gob_ledger.specs.State.{State, marks_at}
use Rattle.gob_ledger.specs.Units.{span_of}
use Rattle.gob_ledger.specs.Next.{Judged, no_marks, with_owed, with_done, change_part, add_unit, finish_unit}
use Rattle.gob_ledger.specs.Next.{fold_units, with_pipeline, pipeline_index, state_with_commit_or, allowed_units}
use Rattle.gob_ledger.specs.Next.{next_state}
use Rattle.gob_ledger.proofs.Members.{none_in, in_cases}

-- the marks of a partition, which has none at first
abbrev pub marks_or : State → List ℕ → Marks
marks_or s part = unwrap_or (marks_at s part) no_marks

pub marks_or-at : (s : State) (part : List ℕ) (m : Marks) → marks_at s part ≡ Some m → marks_or s part ≡ m
marks_or-at s part m e = ap (λ o. unwrap_or o no_marks) e

pub at_changed : (f : Marks → Marks) (part : List ℕ) (s : State) (q : List ℕ)
    → marks_at (change_part f part s) q ≡ cond (bytes_eq q part) (Some (f (marks_or s part))) (marks_at s q)
at_changed f part s q = at-with_name s.parts part (f (marks_or s part)) q

pub chosen : {A : Type 0} (b : Bool) (x m : A) (y : Option A) → cond b (Some x) y ≡ Some m → ((b ≡ true) × (x ≡ m))
    ⊎ ((b ≡ false) × (y ≡ Some m))
chosen true x m y e = inl (refl, cc)
chosen false x m y e = inr (refl, e)

-- a partition of a changed state: the one that was changed, or another as it was
pub changed_cases : (f : Marks → Marks) (part : List ℕ) (s : State) (q : List ℕ) (m : Marks)
    → marks_at (change_part f part s) q ≡ Some m
    → ((q ≡ part) × (f (marks_or s part) ≡ m)) ⊎ ((bytes_eq q part ≡ false) × (marks_at s q ≡ Some m))
changed_cases f part s q m e = ⊎_elim (λ p. inl (same_name q part p.0, p.1)) (λ p. inr p)
    (chosen (bytes_eq q part) (f (marks_or s part)) m (marks_at s q) (sym (at_changed f part s q) ∙ e))

pub at_itself : (f : Marks → Marks) (part : List ℕ) (s : State)
    → marks_at (change_part f part s) part ≡ Some (f (marks_or s part))
at_itself f part s = at_changed f part s part ∙ ap (λ b. cond b (Some (f (marks_or s part))) (marks_at s part))
    (name_itself part)

pub at_other : (f : Marks → Marks) (part : List ℕ) (s : State) (q : List ℕ) → bytes_eq q part ≡ false
    → marks_at (change_part f part s) q ≡ marks_at s q
at_other f part s q e = at_changed f part s q ∙ ap (λ b. cond b (Some (f (marks_or s part))) (marks_at s q)) e

pub all_member : {X : Type 0} (P : X → Type 0) (xs : List X) (x : X) → AllByRecursion P xs → Contains xs x → P x
all_member P [] x all h = none_in x h
all_member P (y ∷ ys) x all h = ⊎_elim (λ e. subst P e all.0) (λ k. all_member P ys x all.1 k) (in_cases y ys x h)

abbrev pub units_in : List Judged → List WorkUnit
units_in js = map (λ j. j.0) js

pub units_of_zip : (units : List WorkUnit) (verdicts : List Verdict) → length verdicts ≡ length units
    → units_in (zip units verdicts) ≡ units
units_of_zip [] vs e = refl
units_of_zip (u ∷ us) [] e = absurd (omega (arith, e))
units_of_zip (u ∷ us) (v ∷ vs) e = ap (λ (ws : List WorkUnit). u ∷ ws) (units_of_zip us vs (omega (arith, e)))

-- changes of partitions leave the pipelines
pub add-pipelines : (s : State) (j : Judged) → (add_unit s j).pipelines ≡ s.pipelines
add-pipelines s j = elim j.0.fresh as (λ b. (cond b (change_part (with_owed (span_of j.0)) j.0.part s) s).pipelines ≡
    s.pipelines) [ true ↦ refl | false ↦ refl ]

pub adds-pipelines : (js : List Judged) (s : State) → (fold_units add_unit s js).pipelines ≡ s.pipelines
adds-pipelines [] s = refl
adds-pipelines (j ∷ js) s = adds-pipelines js (add_unit s j) ∙ add-pipelines s j

pub finishes-pipelines : (p : ℕ) (js : List Judged) (s : State)
    → (fold_units (finish_unit p) s js).pipelines ≡ s.pipelines
finishes-pipelines p [] s = refl
finishes-pipelines p (j ∷ js) s = finishes-pipelines p js (finish_unit p s j)

abbrev with_text : List ℕ → List (List ℕ) → List (List ℕ)
with_text p ps = cond (list_any (bytes_eq p) ps) ps (ps ++ p ∷ [])

pub with-pipelines : (p : List ℕ) (s : State) → (with_pipeline p s).pipelines ≡ with_text p s.pipelines
with-pipelines p s = elim (list_any (bytes_eq p) s.pipelines) as
    (λ b. (cond b s (record s { pipelines = s.pipelines ++ p ∷ [] })).pipelines ≡ cond b s.pipelines
    (s.pipelines ++ p ∷ [])) [ true ↦ refl | false ↦ refl ]

pub with-parts : (p : List ℕ) (s : State) → (with_pipeline p s).parts ≡ s.parts
with-parts p s = elim (list_any (bytes_eq p) s.pipelines) as (λ b.
    (cond b s (record s { pipelines = s.pipelines ++ p ∷ [] })).parts ≡ s.parts) [ true ↦ refl | false ↦ refl ]

cons_under : (b : Bool) (x : List ℕ) (xs ys : List (List ℕ)) → cond b (x ∷ xs) (x ∷ ys) ≡ x ∷ cond b xs ys
cons_under true x xs ys = refl
cons_under false x xs ys = refl

next_place : (k : ℕ) → 1 + k ≡ suc k
next_place k = omega arith

text_at : (p : List ℕ) (ps : List (List ℕ)) → slice_get (with_text p ps) (position_or_len (bytes_eq p) ps) ≡ Some p
text_at p [] = refl
text_at p (x ∷ xs) = cases (bytes_eq p x) refl (text_at p xs)
  where
    cases : (b : Bool) → bytes_eq p x ≡ b → slice_get (with_text p xs) (position_or_len (bytes_eq p) xs) ≡ Some p
        → slice_get (with_text p (x ∷ xs)) (position_or_len (bytes_eq p) (x ∷ xs)) ≡ Some p
    cases true is later = rw is (ap (λ y. Some y) (sym (same_name p x is)))
    cases false is later = rw is (ap (λ ys. slice_get ys (1 + position_or_len (bytes_eq p) xs))
        (cons_under (list_any (bytes_eq p) xs) x xs (xs ++ p ∷ []))
        ∙ ap (slice_get (x ∷ with_text p xs)) (next_place (position_or_len (bytes_eq p) xs)) ∙ later)

-- the pipeline stands at its index
pub pipeline_there : (p : List ℕ) (s : State) → slice_get (with_pipeline p s).pipelines (pipeline_index p s) ≡ Some p
pipeline_there p s = ap (λ ps. slice_get ps (pipeline_index p s)) (with-pipelines p s) ∙ text_at p s.pipelines

get_front : (xs ys : List (List ℕ)) (k : ℕ) → k < length xs → slice_get (xs ++ ys) k ≡ slice_get xs k
get_front [] ys k below = absurd (omega (arith, below))
get_front (x ∷ xs) ys zero below = refl
get_front (x ∷ xs) ys (suc k) below = get_front xs ys k (omega (arith, below))

get_kept : {A : Type 0} (xs ys : List A) (k : ℕ) (x : A) → slice_get xs k ≡ Some x → slice_get (xs ++ ys) k ≡ Some x
get_kept [] ys k x e = absurd (let no : None ≡ Some x = e in cc)
get_kept (z ∷ xs) ys zero x e = e
get_kept (z ∷ xs) ys (suc k) x e = get_kept xs ys k x e

-- a pipeline that has a place keeps it
pub pipeline_kept : (p : List ℕ) (s : State) (k : ℕ) (q : List ℕ) → slice_get s.pipelines k ≡ Some q
    → slice_get (with_pipeline p s).pipelines k ≡ Some q
pipeline_kept p s k q e = ap (λ ps. slice_get ps k) (with-pipelines p s)
    ∙ elim (list_any (bytes_eq p) s.pipelines) as (λ b. slice_get (cond b s.pipelines (s.pipelines ++ p ∷ [])) k ≡ Some
    q) [
      | true ↦ e
      | false ↦ get_kept s.pipelines (p ∷ []) k q e
    ]

-- the pipelines that were there keep their places
pub pipeline_stays : (p : List ℕ) (s : State) (k : ℕ) → k < length s.pipelines
    → slice_get (with_pipeline p s).pipelines k ≡ slice_get s.pipelines k
pipeline_stays p s k below = ap (λ ps. slice_get ps k) (with-pipelines p s)
    ∙ elim (list_any (bytes_eq p) s.pipelines) as (λ b. slice_get (cond b s.pipelines (s.pipelines ++ p ∷ [])) k ≡
    slice_get s.pipelines k) [
      | true ↦ refl
      | false ↦ get_front s.pipelines (p ∷ []) k below
    ]

-- the names of partitions stay in order
changed_rising : (f : Marks → Marks) (part : List ℕ) (s : State) → IsInByteOrder (names_of s.parts)
    → IsInByteOrder (names_of (change_part f part s).parts)
changed_rising f part s r = rising-with_name s.parts part (f (marks_or s part)) r

add_rising : (s : State) (j : Judged) → IsInByteOrder (names_of s.parts) → IsInByteOrder (names_of (add_unit s j).parts)
add_rising s j r = elim j.0.fresh as (λ b. IsInByteOrder (names_of
    (cond b (change_part (with_owed (span_of j.0)) j.0.part s) s).parts)) [
      | true ↦ changed_rising (with_owed (span_of j.0)) j.0.part s r
      | false ↦ r
    ]

adds_rising : (js : List Judged) (s : State) → IsInByteOrder (names_of s.parts)
    → IsInByteOrder (names_of (fold_units add_unit s js).parts)
adds_rising [] s r = r
adds_rising (j ∷ js) s r = adds_rising js (add_unit s j) (add_rising s j r)

finishes_rising : (p : ℕ) (js : List Judged) (s : State) → IsInByteOrder (names_of s.parts)
    → IsInByteOrder (names_of (fold_units (finish_unit p) s js).parts)
finishes_rising p [] s r = r
finishes_rising p (j ∷ js) s r = finishes_rising p js (finish_unit p s j)
    (changed_rising (with_done p (span_of j.0)) j.0.part s r)

committed_rising : (s : State) (pipeline : List ℕ) (all done : List Judged) → IsInByteOrder (names_of s.parts)
    → IsInByteOrder (names_of (state_with_commit_or s pipeline all done).parts)
committed_rising s pipeline all [] r = r
committed_rising s pipeline all (d ∷ ds) r =
    finishes_rising (pipeline_index pipeline s) (d ∷ ds) (fold_units add_unit (with_pipeline pipeline s) all)
    (adds_rising all (with_pipeline pipeline s) (subst (λ t. IsInByteOrder (names_of t)) (sym (with-parts pipeline s))
    r))

pub next_rising : (s : State) (pipeline : List ℕ) (units : List WorkUnit) (verdicts : List Verdict)
    (policy : CommitPolicy) → IsInByteOrder (names_of s.parts)
    → IsInByteOrder (names_of (next_state s pipeline units verdicts policy).parts)
unfolding next_state
next_rising s pipeline units verdicts policy r = committed_rising s pipeline (zip units verdicts)
    (allowed_units policy (zip units verdicts)) r
