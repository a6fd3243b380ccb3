use Rattle.std.proofs.Common.{◌≡◌, ◌∙◌, ◌++◌, ◌-◌, List, ℕ, take, drop, length, ap, sym, subst, arith, length-drop}
use Rattle.std.proofs.lemmas.List.{take_all}
use Rattle.gob_bytes.specs.Tables.{Table}
use Rattle.gob_ledger.specs.Marks.{Marks}
use Rattle.gob_ledger.specs.State.{State}
use Rattle.gob_ledger.specs.Delta.{MarksFollow, delta_spelling}
use Rattle.gob_ledger.specs.Spelling.{pipelines_text, version_2}
use Rattle.gob_marks.specs.Changed.{marks_in}
use Rattle.gob_segments.proofs.Kept.{delta_written}
use Rattle.gob_segments.proofs.delta.write_delta.Goals as goal

pub push_changes-requires : goal.push_changes-requires
push_changes-requires c = λ part.
    let first = ap (λ (x : State). x.parts) c.before-2.view_is in
    let second = ap (λ (x : State). x.parts) c.after.view_is in
    subst (λ (t : Table Marks). MarksFollow (marks_in c.before-2.inside.marks part) (marks_in t part)) (sym second)
    (subst (λ (t : Table Marks). MarksFollow (marks_in t part) (marks_in c.args.after.now.parts part)) (sym first)
    (c.requires.follows.marks part))

rest_is : (k : ℕ) (ps : List (List ℕ)) → take (length ps - k) (drop k ps) ≡ drop k ps
rest_is k ps = take_all (length ps - k) (drop k ps) (omega (arith, length-drop k ps))

pub returns : goal.returns
returns c =
    let s : State = record {
      run = c.before-2.inside.run;
      pipelines = c.before-2.inside.pipelines;
      totals = c.before-2.inside.totals;
      parts = c.before-2.inside.marks;
    } in
    let t : State = record {
      run = c.after.inside.run;
      pipelines = c.after.inside.pipelines;
      totals = c.after.inside.totals;
      parts = c.after.inside.marks;
    } in
    let rest = rest_is c.len-known.result c.as_slice.result.now ∙ ap (drop c.len-known.result) c.as_slice.ensures
    ∙ ap (λ n. drop n c.after.inside.pipelines) c.len-known.ensures in
    subst (λ (x : State). c.from_vec.result ≡ delta_spelling version_2 c.args.before.now x) c.after.view_is
    (subst (λ (x : State). c.from_vec.result ≡ delta_spelling version_2 x t) c.before-2.view_is
    (c.from_vec.ensures
    ∙ delta_written s t c.new-text.result.items _ _ _ _ _ _ c.new-text.ensures.items c.in_ok-push_numbered.ensures
    c.in_ok-push_numbered-2.ensures
    (c.in_ok-push_pipelines.ensures ∙ ap (λ ps. c.push_numbered-2.new.into.items ++ pipelines_text version_2 ps) rest)
    c.in_ok-push_totals.ensures c.in_ok-push_changes.ensures c.in_ok-extend_from_slice.ensures.items))
