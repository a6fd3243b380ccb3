use Rattle.std.proofs.Common.{◌≡◌, length, sym, subst, None, Some, Option, List, ℕ}
use Rattle.gob_bytes.specs.Tables.{Table}
use Rattle.gob_plan.specs.declared.units.Counts.{Counts}
use Rattle.gob_ledger.specs.Marks.{Marks}
use Rattle.gob_ledger.specs.Spelling.{Proper}
use Rattle.gob_ledger.specs.State.{State}
use Rattle.gob_state.specs.Parts.{NoPart}
use Rattle.gob_state.specs.Reads.{ReadsSpelling}
use Rattle.gob_state.specs.Versions.{version_of}
use Rattle.gob_segments.specs.Applied.{AreParted, RestAfter, rest_text_over}
use Rattle.gob_segments.proofs.Stated.{apart_of, counted_missing, later_is_after, later_missing, parted_after}
use Rattle.gob_segments.proofs.Stated.{rest_there}
use Rattle.gob_segments.proofs.apply.take_rest.Goals as goal

pub take_later-requires : goal.take_later-requires
take_later-requires c = apart_of
    (record {
      run = c.state.inside.run;
      pipelines = c.state.inside.pipelines;
      totals = c.state.inside.totals;
      parts =
          c.state.inside.marks;
    })
    (subst Proper (sym c.state.view_is) c.requires)

pub take_counted-requires-clause-parted : goal.take_counted-requires-clause-parted
take_counted-requires-clause-parted c =
    let s : State = record {
      run = c.state.inside.run;
      pipelines = c.state.inside.pipelines;
      totals = c.state.inside.totals;
      parts = c.state.inside.marks;
    } in
    subst (λ n. AreParted (version_of c.args.version) n s.parts) (sym c.len-count.ensures)
    (parted_after (version_of c.args.version) s c.in-Some.pipelines (subst Proper (sym c.state.view_is) c.requires)
    (later_is_after (version_of c.args.version) s _ _ c.in_ok-pipelines.field-0 c.in-Some.pipelines
    c.in_ok-pipelines.ensures
    c.in-Some.is))

pub returns-in_default-2 : goal.returns-in_default-2
returns-in_default-2 c =
    let s : State = record {
      run = c.state.inside.run;
      pipelines = c.state.inside.pipelines;
      totals = c.state.inside.totals;
      parts = c.state.inside.marks;
    } in
    subst (λ (x : State). ReadsSpelling (rest_text_over (version_of c.args.version) x)
    (RestAfter (version_of c.args.version) x)
    NoPart
    c.args.text.now c.take_counted.new.text None) c.state.view_is
    (counted_missing (version_of c.args.version) s _ _ _ c.in_ok-pipelines.field-0 c.in-Some.pipelines
    c.len-count.result
    c.len-least.result c.in_ok-counted.field-0 c.in_ok-pipelines.ensures c.in-Some.is c.len-count.ensures
    c.len-count.type_inv c.len-least.ensures c.in_ok-counted.ensures c.in_default-2.is)

pub returns : goal.returns
returns c =
    let s : State = record {
      run = c.state.inside.run;
      pipelines = c.state.inside.pipelines;
      totals = c.state.inside.totals;
      parts = c.state.inside.marks;
    } in
    subst (λ (x : State). ReadsSpelling (rest_text_over (version_of c.args.version) x)
    (RestAfter (version_of c.args.version) x)
    NoPart
    c.args.text.now c.take_counted.new.text (Some (c.in-Some.pipelines, c.in-Some-2.counted))) c.state.view_is
    (rest_there (version_of c.args.version) s _ _ _ c.in_ok-pipelines.field-0 c.in-Some.pipelines c.len-count.result
    c.len-least.result c.in_ok-counted.field-0 c.in-Some-2.counted c.in_ok-pipelines.ensures c.in-Some.is
    c.len-count.ensures
    c.len-count.type_inv c.len-least.ensures c.in_ok-counted.ensures c.in-Some-2.is)
