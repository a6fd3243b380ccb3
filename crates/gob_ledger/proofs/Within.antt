-- Ranges that lie in an archive do so after a run.
use Rattle.std.proofs.Common.{◌≡◌, ⊎_elim, ℕ, ◌≤◌, Bool, true, false, cond, not, List, [], ◌∷◌, ◌++◌, length, refl, sym}
use Rattle.std.proofs.Common.{ap, subst, ◌∙◌, Some, None, unwrap_or, arith}
use Rattle.std.specs.declared.option.Option.{Option}
use Rattle.std.specs.List.{Contains, All, filter, zip}
use Rattle.std.proofs.lemmas.List.Elements.{All-nil, All-cons, All-contains, Contains-append_left}
use Rattle.std.proofs.lemmas.List.Elements.{Contains-append_right, Contains-append_cases}
use Rattle.gob_bytes.specs.Lines.{line_ends}
use Rattle.gob_bytes.specs.Tables.{at_name}
use Rattle.gob_bytes.proofs.Cuts.{lines_fill}
use Rattle.gob_device.specs.Supply.{Held}
use Rattle.gob_plan.specs.declared.units.Unit.{Unit as WorkUnit}
use Rattle.gob_ledger.specs.Marks.{Marks, Span, Done, done_spans, spans_of}
use Rattle.gob_ledger.specs.State.{State, marks_at}
use Rattle.gob_ledger.specs.Units.{span_of, same_span}
use Rattle.gob_ledger.specs.Next.{Judged, no_marks, insert_done, with_owed, with_done, change_part, add_unit}
use Rattle.gob_ledger.specs.Next.{finish_unit, fold_units, with_pipeline, pipeline_index, state_with_commit_or}
use Rattle.gob_ledger.specs.Next.{allowed_units, next_state}
use Rattle.gob_ledger.specs.Archive.{LiesOnLines, LiesIn, IsWithin}
use Rattle.gob_ledger.specs.Laws.{Lies, NextWithin}
use Rattle.gob_ledger.proofs.Members.{none_in, first_in, later_in, in_cases, in_filter, in_map, map_in}
use Rattle.gob_ledger.proofs.Changes.{marks_or, changed_cases, units_in, units_of_zip, with-parts}
use Rattle.gob_ledger.proofs.Tiling.{in_insert, filter_units}

all_from : {X : Type 0} (P : X → Type 0) (xs : List X) → ((x : X) → Contains xs x → P x) → All P xs
all_from P [] f = All-nil P
all_from P (x ∷ xs) f = All-cons P x xs (f x (first_in x xs x refl)) (all_from P xs (λ y h. f y (later_in x xs y h)))

-- the marks of a partition lie in the bytes that the archive has of it
lies_or : (archive : Held) (s : State) (part bytes : List ℕ) → IsWithin archive s → at_name archive part ≡ Some bytes
    → LiesIn bytes (marks_or s part)
lies_or archive s part bytes within at = cases (marks_at s part) refl
  where
    cases : (o : Option Marks) → marks_at s part ≡ o → LiesIn bytes (unwrap_or o no_marks)
    cases None e = record { reached = omega arith; lines = All-nil (LiesOnLines bytes) }
    cases (Some m) e =
        let w = within part m e in
        let same : w.0 ≡ bytes = let h : Some w.0 ≡ Some bytes = sym w.1 ∙ at in cc in
        subst (λ b. LiesIn b m) same w.2

changed_within : (archive : Held) (f : Marks → Marks) (part bytes : List ℕ) (s : State) → IsWithin archive s
    → at_name archive part ≡ Some bytes → LiesIn bytes (f (marks_or s part)) → IsWithin archive (change_part f part s)
changed_within archive f part bytes s within at lies = λ q m e. ⊎_elim
    (λ p. (bytes, ap (at_name archive) p.0 ∙ at, subst (LiesIn bytes) p.1 lies))
    (λ p. within q m p.1)
    (changed_cases f part s q m e)

owed_lies : (bytes : List ℕ) (m : Marks) (sp : Span) → LiesIn bytes m → LiesOnLines bytes sp
    → LiesIn bytes (with_owed sp m)
owed_lies bytes m sp lies line = record {
  reached = All-contains (λ e. e ≤ length bytes) (line_ends bytes) sp.hi (lines_fill bytes).within line.hi;
  lines = all_from (LiesOnLines bytes) (spans_of (with_owed sp m)) (λ x h. ⊎_elim
      (λ k. old x (Contains-append_left (done_spans m) m.owed x k))
      (λ k. ⊎_elim
      (λ l. old x (Contains-append_right (done_spans m) m.owed x l))
      (λ l. ⊎_elim (λ same. subst (LiesOnLines bytes) same line) (λ n. none_in x n) (in_cases sp [] x l))
      (Contains-append_cases m.owed (sp ∷ []) x k))
      (Contains-append_cases (done_spans m) (m.owed ++ sp ∷ []) x h));
}
  where
    old : (x : Span) → Contains (spans_of m) x → LiesOnLines bytes x
    old x h = All-contains (LiesOnLines bytes) (spans_of m) x lies.lines h

done_lies : (bytes : List ℕ) (m : Marks) (p : ℕ) (sp : Span) → LiesIn bytes m → LiesOnLines bytes sp
    → LiesIn bytes (with_done p sp m)
done_lies bytes m p sp lies line = record {
  reached = lies.reached;
  lines = all_from (LiesOnLines bytes) (spans_of (with_done p sp m)) (λ x h. ⊎_elim
      (λ k.
      let d = in_map (λ (y : Done). y.span) (insert_done (record { span = sp; pipeline = p }) m.finished) x k in
      ⊎_elim
      (λ same. subst (LiesOnLines bytes) (ap (λ (y : Done). y.span) same ∙ d.2) line)
      (λ l. old x (Contains-append_left (done_spans m) m.owed x
      (subst (Contains (done_spans m)) d.2 (map_in (λ (y : Done). y.span) m.finished d.0 l))))
      (in_insert (record { span = sp; pipeline = p }) m.finished d.0 d.1))
      (λ k. old x (Contains-append_right (done_spans m) m.owed x (in_filter (λ o. not (same_span o sp)) m.owed x k).0))
      (Contains-append_cases (done_spans (with_done p sp m)) (filter (λ o. not (same_span o sp)) m.owed) x h));
}
  where
    old : (x : Span) → Contains (spans_of m) x → LiesOnLines bytes x
    old x h = All-contains (LiesOnLines bytes) (spans_of m) x lies.lines h

adds_within : (archive : Held) (js : List Judged) (s : State) → IsWithin archive s
    → ((u : WorkUnit) → Contains (units_in js) u → Lies archive u) → IsWithin archive (fold_units add_unit s js)
adds_within archive [] s within lies = within
adds_within archive (j ∷ js) s within lies = adds_within archive js (add_unit s j)
    (elim j.0.fresh as (λ b. IsWithin archive (cond b (change_part (with_owed (span_of j.0)) j.0.part s) s)) [
      | true ↦ (let l = lies j.0 (first_in j.0 (units_in js) j.0 refl) in
          changed_within archive (with_owed (span_of j.0)) j.0.part l.0 s within l.1
          (owed_lies l.0 (marks_or s j.0.part) (span_of j.0) (lies_or archive s j.0.part l.0 within l.1) l.2))
      | false ↦ within
    ])
    (λ u h. lies u (later_in j.0 (units_in js) u h))

finishes_within : (archive : Held) (p : ℕ) (js : List Judged) (s : State) → IsWithin archive s
    → ((u : WorkUnit) → Contains (units_in js) u → Lies archive u) → IsWithin archive (fold_units (finish_unit p) s js)
finishes_within archive p [] s within lies = within
finishes_within archive p (j ∷ js) s within lies =
    let l = lies j.0 (first_in j.0 (units_in js) j.0 refl) in
    finishes_within archive p js (finish_unit p s j)
    (changed_within archive (with_done p (span_of j.0)) j.0.part l.0 s within l.1
    (done_lies l.0 (marks_or s j.0.part) p (span_of j.0) (lies_or archive s j.0.part l.0 within l.1) l.2))
    (λ u h. lies u (later_in j.0 (units_in js) u h))

committed_within : (archive : Held) (s : State) (pipeline : List ℕ) (all : List Judged) (keep : Judged → Bool)
    (done : List Judged) → done ≡ filter keep all → IsWithin archive s
    → ((u : WorkUnit) → Contains (units_in all) u → Lies archive u)
    → IsWithin archive (state_with_commit_or s pipeline all done)
committed_within archive s pipeline all keep [] is within lies = within
committed_within archive s pipeline all keep (d ∷ ds) is within lies =
    finishes_within archive (pipeline_index pipeline s) (d ∷ ds) (fold_units add_unit (with_pipeline pipeline s) all)
    (adds_within archive all (with_pipeline pipeline s) (λ q m e.
    within q m (ap (λ t. at_name t q) (sym (with-parts pipeline s)) ∙ e)) lies)
    (λ u h. lies u (filter_units keep all u (subst (λ js. Contains (units_in js) u) is h)))

pub stays_within : NextWithin
unfolding next_state
stays_within s pipeline units verdicts policy archive same fit within fresh =
    committed_within archive s pipeline (zip units verdicts) _ (allowed_units policy (zip units verdicts)) refl within
    (λ u h. each u (subst (λ us. Contains us u) (units_of_zip units verdicts same) h))
  where
    each : (u : WorkUnit) → Contains units u → Lies archive u
    each u h = elim u.fresh as (λ b. u.fresh ≡ b → Lies archive u) [
      | true ↦ λ e. fresh u h e
      | false ↦ λ e.
          let o = fit.owed u h e in
          let w = within u.part o.0 o.1 in (
            w.0,
            w.1,
            All-contains (LiesOnLines w.0) (spans_of o.0) (span_of u) w.2.lines
                (Contains-append_right (done_spans o.0) o.0.owed (span_of u) o.2),
          )
    ] refl
