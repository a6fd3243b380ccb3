-- What a run adds to what is expected.
use Rattle.std.proofs.Common.{◌≡◌, ◌⊎◌, ◌↔◌, inl, inr, ⊎_elim, ℕ, Bool, true, false, cond, List, [], ◌∷◌, refl, sym, ap}
use Rattle.std.proofs.Common.{subst, ◌∙◌, Some, None, unwrap_or}
use Rattle.std.specs.declared.option.Option.{Option}
use Rattle.std.specs.List.{Contains, zip, slice_get}
use Rattle.std.specs.Str.{bytes_eq}
use Rattle.gob_bytes.proofs.Tables.{same_name}
use Rattle.gob_bytes.specs.Paths.{under}
use Rattle.gob_bytes.specs.Tables.{at_name}
use Rattle.gob_device.specs.Supply.{Held}
use Rattle.gob_plan.specs.declared.plan.CommitPolicy.{CommitPolicy}
use Rattle.gob_plan.specs.declared.plan.Plan.{Plan}
use Rattle.gob_plan.specs.declared.units.Unit.{Unit as WorkUnit}
use Rattle.gob_meaning.specs.Results.{Verdict}
use Rattle.gob_ledger.specs.Marks.{Marks, Span, Done}
use Rattle.gob_ledger.specs.State.{State, marks_at, TiledState}
use Rattle.gob_ledger.specs.Units.{span_of}
use Rattle.gob_ledger.specs.Next.{Judged, no_marks, with_owed, with_done, change_part, add_unit, finish_unit}
use Rattle.gob_ledger.specs.Next.{fold_units, with_pipeline, pipeline_index, state_with_commit_or, allowed_units}
use Rattle.gob_ledger.specs.Next.{next_state}
use Rattle.gob_ledger.specs.Expected.{IsMade, IsExpected, IsPublished, bytes_of_range}
use Rattle.gob_ledger.specs.Laws.{NextExpects}
use Rattle.gob_ledger.proofs.Members.{none_in, first_in, later_in, in_cases}
use Rattle.gob_ledger.proofs.Changes.{marks_or, marks_or-at, changed_cases, at_itself, at_other, adds-pipelines}
use Rattle.gob_ledger.proofs.Changes.{finishes-pipelines, with-parts, pipeline_there, pipeline_stays, pipeline_kept}
use Rattle.gob_ledger.proofs.Tiling.{in_insert, insert_in}
use Rattle.gob_jobs.specs.Plans.{plan_of}

-- a partition has this done range
abbrev pub HasDone : State → List ℕ → Done → Type 0
HasDone s part d = (m : Marks) × (marks_at s part ≡ Some m) × Contains m.finished d

abbrev pub done_by : ℕ → Judged → Done
done_by p j = record { span = span_of j.0; pipeline = p }

-- a done range of a changed partition was there, or came by the change
has_or : (s : State) (part : List ℕ) (d : Done) → Contains (marks_or s part).finished d → HasDone s part d
has_or s part d h = cases (marks_at s part) refl h
  where
    cases : (o : Option Marks) → marks_at s part ≡ o → Contains (unwrap_or o no_marks).finished d → HasDone s part d
    cases None e h = none_in d h
    cases (Some m) e h = (m, e, h)

owing_has : (sp : Span) (part : List ℕ) (s : State) (q : List ℕ) (d : Done)
    → HasDone (change_part (with_owed sp) part s) q d → HasDone s q d
owing_has sp part s q d h = ⊎_elim
    (λ p. let k = has_or s part d (subst (λ (m : Marks). Contains m.finished d) (sym p.1) h.2) in
    (k.0, ap (marks_at s) p.0 ∙ k.1, k.2))
    (λ p. (h.0, p.1, h.2))
    (changed_cases (with_owed sp) part s q h.0 h.1)

has_owing : (sp : Span) (part : List ℕ) (s : State) (q : List ℕ) (d : Done) → HasDone s q d
    → HasDone (change_part (with_owed sp) part s) q d
has_owing sp part s q d h = cases (bytes_eq q part) refl
  where
    cases : (b : Bool) → bytes_eq q part ≡ b → HasDone (change_part (with_owed sp) part s) q d
    cases true is =
        let same = same_name q part is in
        let m : marks_or s part ≡ h.0 = marks_or-at s part h.0 (ap (marks_at s) (sym same) ∙ h.1) in (
          with_owed sp (marks_or s part),
          ap (marks_at (change_part (with_owed sp) part s)) same
              ∙ at_itself (with_owed sp) part s,
          subst (λ (n : Marks). Contains n.finished d) (sym m) h.2,
        )
    cases false is = (h.0, at_other (with_owed sp) part s q is ∙ h.1, h.2)

adds_has : (js : List Judged) (s : State) (q : List ℕ) (d : Done) → HasDone (fold_units add_unit s js) q d
    → HasDone s q d
adds_has [] s q d h = h
adds_has (j ∷ js) s q d h = elim j.0.fresh as (λ b. HasDone (cond b (change_part (with_owed (span_of j.0)) j.0.part s)
    s) q d → HasDone s q d) [
      | true ↦ λ k. owing_has (span_of j.0) j.0.part s q d k
      | false ↦ λ k. k
    ] (adds_has js (add_unit s j) q d h)

has_adds : (js : List Judged) (s : State) (q : List ℕ) (d : Done) → HasDone s q d
    → HasDone (fold_units add_unit s js) q d
has_adds [] s q d h = h
has_adds (j ∷ js) s q d h = has_adds js (add_unit s j) q d (elim j.0.fresh as
    (λ b. HasDone (cond b (change_part (with_owed (span_of j.0)) j.0.part s) s) q d) [
      | true ↦ has_owing (span_of j.0) j.0.part s q d h
      | false ↦ h
    ])

-- the range that this unit was
abbrev pub ByUnit : ℕ → Judged → List ℕ → Done → Type 0
ByUnit p j q d = (q ≡ j.0.part) × (done_by p j ≡ d)

finish_has : (p : ℕ) (s : State) (j : Judged) (q : List ℕ) (d : Done) → HasDone (finish_unit p s j) q d → HasDone s q d
    ⊎ ByUnit p j q d
finish_has p s j q d h = ⊎_elim
    (λ e. ⊎_elim
    (λ same. inr (e.0, same))
    (λ k. let l = has_or s j.0.part d k in inl (l.0, ap (marks_at s) e.0 ∙ l.1, l.2))
    (in_insert (done_by p j) (marks_or s j.0.part).finished d
    (subst (λ (m : Marks). Contains m.finished d) (sym e.1) h.2)))
    (λ e. inl (h.0, e.1, h.2))
    (changed_cases (with_done p (span_of j.0)) j.0.part s q h.0 h.1)

has_finish : (p : ℕ) (s : State) (j : Judged) (q : List ℕ) (d : Done) → HasDone s q d → HasDone (finish_unit p s j) q d
has_finish p s j q d h = cases (bytes_eq q j.0.part) refl
  where
    cases : (b : Bool) → bytes_eq q j.0.part ≡ b → HasDone (finish_unit p s j) q d
    cases true is =
        let same = same_name q j.0.part is in
        let m : marks_or s j.0.part ≡ h.0 = marks_or-at s j.0.part h.0 (ap (marks_at s) (sym same) ∙ h.1) in (
          with_done p (span_of j.0) (marks_or s j.0.part),
          ap (marks_at (finish_unit p s j)) same ∙ at_itself (with_done p (span_of j.0)) j.0.part s,
          insert_in (done_by p j) (marks_or s j.0.part).finished d
              (inr (subst (λ (n : Marks). Contains n.finished d) (sym m) h.2)),
        )
    cases false is = (h.0, at_other (with_done p (span_of j.0)) j.0.part s q is ∙ h.1, h.2)

unit_has : (p : ℕ) (s : State) (j : Judged) → HasDone (finish_unit p s j) j.0.part (done_by p j)
unit_has p s j = (
  with_done p (span_of j.0) (marks_or s j.0.part),
  at_itself (with_done p (span_of j.0)) j.0.part s,
  insert_in (done_by p j) (marks_or s j.0.part).finished (done_by p j) (inl refl),
)

finishes_has : (p : ℕ) (js : List Judged) (s : State) (q : List ℕ) (d : Done)
    → HasDone (fold_units (finish_unit p) s js) q d → HasDone s q d ⊎ ((j : Judged) × Contains js j × ByUnit p j q d)
finishes_has p [] s q d h = inl h
finishes_has p (j ∷ js) s q d h = ⊎_elim
    (λ k. ⊎_elim (λ l. inl l) (λ l. inr (j, first_in j js j refl, l)) (finish_has p s j q d k))
    (λ k. inr (k.0, later_in j js k.0 k.1, k.2))
    (finishes_has p js (finish_unit p s j) q d h)

has_finishes : (p : ℕ) (js : List Judged) (s : State) (q : List ℕ) (d : Done) → HasDone s q d
    → HasDone (fold_units (finish_unit p) s js) q d
has_finishes p [] s q d h = h
has_finishes p (j ∷ js) s q d h = has_finishes p js (finish_unit p s j) q d (has_finish p s j q d h)

unit_finishes : (p : ℕ) (js : List Judged) (s : State) (j : Judged) → Contains js j
    → HasDone (fold_units (finish_unit p) s js) j.0.part (done_by p j)
unit_finishes p [] s j h = none_in j h
unit_finishes p (k ∷ js) s j h = ⊎_elim
    (λ same. has_finishes p js (finish_unit p s k) j.0.part (done_by p j)
    (subst (λ (x : Judged). HasDone (finish_unit p s k) x.0.part (done_by p x)) same (unit_has p s k)))
    (λ l. unit_finishes p js (finish_unit p s k) j l)
    (in_cases k js j h)

-- the parts of an expectation, apart from where the range stands
from_done : (job : List ℕ) (s : State) (archive : Held) (name content part : List ℕ) (d : Done) (pipeline : List ℕ)
    (plan : Plan) (path : List ℕ)
    → HasDone s part d → slice_get s.pipelines d.pipeline ≡ Some pipeline → plan_of pipeline ≡ Some plan
    → IsMade plan part d.span (bytes_of_range archive part d.span) path content → name ≡ under job path
    → IsExpected job s archive name content
from_done job s archive name content part d pipeline plan path h at is made called = record {
  part = part;
  marks = h.0;
  of_part = h.1;
  done = d;
  of_marks = h.2;
  pipeline = pipeline;
  of_state = at;
  plan = plan;
  of_pipeline = is;
  path = path;
  made = made;
  called = called;
}

committed_expects : (job : List ℕ) (s : State) (pipeline : List ℕ) (plan : Plan) (archive : Held)
    (name content : List ℕ) (all done : List Judged) → TiledState s → plan_of pipeline ≡ Some plan
    → IsExpected job (state_with_commit_or s pipeline all done) archive name content ↔
    (IsExpected job s archive name content ⊎ IsPublished job plan archive done name content)
committed_expects job s pipeline plan archive name content all [] tiled is =
    (λ e. inl e, λ e. ⊎_elim (λ x. x) (λ x. none_in x.unit x.of_units) e)
committed_expects job s pipeline plan archive name content all (d ∷ ds) tiled is = (there, back)
  where
    t : State
    t = fold_units (finish_unit (pipeline_index pipeline s)) (fold_units add_unit (with_pipeline pipeline s) all)
        (d ∷ ds)

    pipes : t.pipelines ≡ (with_pipeline pipeline s).pipelines
    pipes = finishes-pipelines (pipeline_index pipeline s) (d ∷ ds) (fold_units add_unit (with_pipeline pipeline s) all)
        ∙ adds-pipelines all (with_pipeline pipeline s)

    there : IsExpected job (state_with_commit_or s pipeline all (d ∷ ds)) archive name content
        → IsExpected job s archive name content ⊎ IsPublished job plan archive (d ∷ ds) name content
    there e = ⊎_elim
        (λ h.
        let old = adds_has all (with_pipeline pipeline s) e.part e.done h in
        let at : marks_at s e.part ≡ Some old.0 = ap (λ ps. at_name ps e.part) (sym (with-parts pipeline s)) ∙ old.1 in
        inl (from_done job s archive name content e.part e.done e.pipeline e.plan e.path (old.0, at, old.2)
        (sym (pipeline_stays pipeline s e.done.pipeline (tiled.indexed e.part old.0 e.done at old.2))
        ∙ (ap (λ ps. slice_get ps e.done.pipeline) (sym pipes) ∙ e.of_state)) e.of_pipeline e.made e.called))
        (λ u.
        let same : done_by (pipeline_index pipeline s) u.0 ≡ e.done = u.2.1 in
        let stands : slice_get t.pipelines (pipeline_index pipeline s) ≡ Some pipeline =
        ap (λ ps. slice_get ps (pipeline_index pipeline s)) pipes ∙ pipeline_there pipeline s in
        let its : slice_get t.pipelines (pipeline_index pipeline s) ≡ Some e.pipeline =
        ap (λ (x : Done). slice_get t.pipelines x.pipeline) same ∙ e.of_state in
        let pipe : e.pipeline ≡ pipeline = cc in
        let plans : e.plan ≡ plan = let h : Some e.plan ≡ Some plan = sym e.of_pipeline ∙ (ap plan_of pipe ∙ is) in
        cc in
        let made : IsMade plan u.0.0.part (span_of u.0.0)
        (bytes_of_range archive u.0.0.part (span_of u.0.0)) e.path content =
        subst (λ p. IsMade p u.0.0.part (span_of u.0.0)
        (bytes_of_range archive u.0.0.part (span_of u.0.0)) e.path content)
        plans
        (subst (λ (sp : Span). IsMade e.plan u.0.0.part sp (bytes_of_range archive u.0.0.part sp) e.path content)
        (sym (ap (λ (x : Done). x.span) same))
        (subst (λ part. IsMade e.plan part e.done.span (bytes_of_range archive part e.done.span) e.path content) u.2.0
        e.made)) in
        inr (record { unit = u.0; of_units = u.1; path = e.path; made = made; called = e.called }))
        (finishes_has (pipeline_index pipeline s) (d ∷ ds) (fold_units add_unit (with_pipeline pipeline s) all) e.part
        e.done (e.marks, e.of_part, e.of_marks))

    back : IsExpected job s archive name content ⊎ IsPublished job plan archive (d ∷ ds) name content
        → IsExpected job (state_with_commit_or s pipeline all (d ∷ ds)) archive name content
    back (inl e) =
        let h = has_finishes (pipeline_index pipeline s) (d ∷ ds) (fold_units add_unit (with_pipeline pipeline s) all)
        e.part e.done
        (has_adds all (with_pipeline pipeline s) e.part e.done
        (e.marks, ap (λ ps. at_name ps e.part) (with-parts pipeline s) ∙ e.of_part, e.of_marks)) in
        record {
          part = e.part;
          marks = h.0;
          of_part = h.1;
          done = e.done;
          of_marks = h.2;
          pipeline = e.pipeline;
          of_state = ap (λ ps. slice_get ps e.done.pipeline) pipes
              ∙ (pipeline_stays pipeline s e.done.pipeline (tiled.indexed e.part e.marks e.done e.of_part e.of_marks)
              ∙ e.of_state);
          plan = e.plan;
          of_pipeline = e.of_pipeline;
          path = e.path;
          made = e.made;
          called = e.called;
        }
    back (inr u) =
        let h = unit_finishes (pipeline_index pipeline s) (d ∷ ds) (fold_units add_unit (with_pipeline pipeline s) all)
        u.unit u.of_units in
        record {
          part = u.unit.0.part;
          marks = h.0;
          of_part = h.1;
          done = done_by (pipeline_index pipeline s) u.unit;
          of_marks = h.2;
          pipeline = pipeline;
          of_state = ap (λ ps. slice_get ps (pipeline_index pipeline s)) pipes ∙ pipeline_there pipeline s;
          plan = plan;
          of_pipeline = is;
          path = u.path;
          made = u.made;
          called = u.called;
        }

pub expects : NextExpects
unfolding next_state
expects job s pipeline plan units verdicts policy archive name content tiled is =
    committed_expects job s pipeline plan archive name content (zip units verdicts)
    (allowed_units policy (zip units verdicts)) tiled is

committed_has : (s : State) (pipeline : List ℕ) (all done : List Judged) (j : Judged) → Contains done j
    → HasDone (state_with_commit_or s pipeline all done) j.0.part (done_by (pipeline_index pipeline s) j)
committed_has s pipeline all [] j h = none_in j h
committed_has s pipeline all (d ∷ ds) j h = unit_finishes (pipeline_index pipeline s) (d ∷ ds)
    (fold_units add_unit (with_pipeline pipeline s) all) j h

-- the range of a committed unit is done
pub done_has : (s : State) (pipeline : List ℕ) (units : List WorkUnit) (verdicts : List Verdict) (policy : CommitPolicy)
    (j : Judged) → Contains (allowed_units policy (zip units verdicts)) j
    → HasDone (next_state s pipeline units verdicts policy) j.0.part (done_by (pipeline_index pipeline s) j)
unfolding next_state
done_has s pipeline units verdicts policy j h = committed_has s pipeline (zip units verdicts)
    (allowed_units policy (zip units verdicts)) j h

committed_keeps : (job : List ℕ) (s : State) (pipeline : List ℕ) (archive : Held) (name content : List ℕ)
    (all done : List Judged) → IsExpected job s archive name content
    → IsExpected job (state_with_commit_or s pipeline all done) archive name content
committed_keeps job s pipeline archive name content all [] e = e
committed_keeps job s pipeline archive name content all (d ∷ ds) e =
    let p = pipeline_index pipeline s in
    let start = with_pipeline pipeline s in
    let h = has_finishes p (d ∷ ds) (fold_units add_unit start all) e.part e.done
    (has_adds all start e.part e.done (
      e.marks,
      ap (λ ps. at_name ps e.part) (with-parts pipeline s) ∙ e.of_part,
      e.of_marks,
    )) in
    let pipes = finishes-pipelines p (d ∷ ds) (fold_units add_unit start all) ∙ adds-pipelines all start in
    record {
      part = e.part;
      marks = h.0;
      of_part = h.1;
      done = e.done;
      of_marks = h.2;
      pipeline = e.pipeline;
      of_state = ap (λ ps. slice_get ps e.done.pipeline) pipes
          ∙ pipeline_kept pipeline s e.done.pipeline e.pipeline e.of_state;
      plan = e.plan;
      of_pipeline = e.of_pipeline;
      path = e.path;
      made = e.made;
      called = e.called;
    }

committed_done : (s : State) (pipeline : List ℕ) (all done : List Judged) (part : List ℕ) (d : Done) → HasDone s part d
    → HasDone (state_with_commit_or s pipeline all done) part d
committed_done s pipeline all [] part d h = h
committed_done s pipeline all (j ∷ js) part d h =
    has_finishes (pipeline_index pipeline s) (j ∷ js) (fold_units add_unit (with_pipeline pipeline s) all) part d
    (has_adds all (with_pipeline pipeline s) part d (
      h.0,
      ap (λ ps. at_name ps part) (with-parts pipeline s) ∙ h.1,
      h.2,
    ))

-- what was expected still is after a run
pub next_keeps : (job : List ℕ) (s : State) (pipeline : List ℕ) (units : List WorkUnit) (verdicts : List Verdict)
    (policy : CommitPolicy) (archive : Held) (name content : List ℕ)
    → IsExpected job s archive name content → IsExpected job (next_state s pipeline units verdicts policy) archive name
    content
unfolding next_state
next_keeps job s pipeline units verdicts policy archive name content e =
    committed_keeps job s pipeline archive name content (zip units verdicts) (allowed_units policy (zip units verdicts))
    e

-- what was done still is
pub next_done : (s : State) (pipeline : List ℕ) (units : List WorkUnit) (verdicts : List Verdict)
    (policy : CommitPolicy) (part : List ℕ) (d : Done) → HasDone s part d
    → HasDone (next_state s pipeline units verdicts policy) part d
unfolding next_state
next_done s pipeline units verdicts policy part d h = committed_done s pipeline (zip units verdicts)
    (allowed_units policy (zip units verdicts)) part d h
