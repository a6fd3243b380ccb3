use Rattle.std.proofs.Common.{◌≡◌, ap, sym, subst, ◌∙◌, map}
use Rattle.gob_bytes.specs.Tables.{IsInByteOrder}
use Rattle.gob_stage.specs.Stages.{HoldsAll, after_sync_calls}
use Rattle.gob_stage.proofs.Held.{both_told, holds_all}
use Rattle.gob_stage.proofs.Opened.{Opened, files_rising, lent_below, lent_named, lent_staged, lent_synced, lent_there}
use Rattle.gob_stage.proofs.attempt.Attempt.finish.Goals as goal

pub sync_files-requires-clause-named : goal.sync_files-requires-clause-named
sync_files-requires-clause-named g c =
    let o : Opened c.args.self c.self.inside.folder c.self.inside.files.items = record {
      folder_is = ap (λ v. v.folder) c.self.view_is;
      begun_is = ap (λ v. v.begun) c.self.view_is;
      kept = c.self.invariant;
    } in
    lent_named _ _ c.self.inside.files.items c.as_slice.result.now o c.as_slice.ensures.value

pub sync_files-requires-clause-there : goal.sync_files-requires-clause-there
sync_files-requires-clause-there g c =
    let o : Opened c.args.self c.self.inside.folder c.self.inside.files.items = record {
      folder_is = ap (λ v. v.folder) c.self.view_is;
      begun_is = ap (λ v. v.begun) c.self.view_is;
      kept = c.self.invariant;
    } in
    lent_there _ _ c.self.inside.files.items c.as_slice.result.now _ o c.as_slice.ensures.value c.requires

pub returns-in_err-sync_files-clause-below : goal.returns-in_err-sync_files-clause-below
returns-in_err-sync_files-clause-below g c =
    let o : Opened c.args.self c.self.inside.folder c.self.inside.files.items = record {
      folder_is = ap (λ v. v.folder) c.self.view_is;
      begun_is = ap (λ v. v.begun) c.self.view_is;
      kept = c.self.invariant;
    } in
    lent_below _ _ c.self.inside.files.items c.as_slice.result.now o c.as_slice.ensures.value c.sync_files.ensures.only

pub returns-in_err-files-clause-below : goal.returns-in_err-files-clause-below
returns-in_err-files-clause-below g c =
    let o : Opened c.args.self c.self.inside.folder c.self.inside.files.items = record {
      folder_is = ap (λ v. v.folder) c.self.view_is;
      begun_is = ap (λ v. v.begun) c.self.view_is;
      kept = c.self.invariant;
    } in
    lent_below _ _ c.self.inside.files.items c.as_slice.result.now o c.as_slice.ensures.value c.sync_files.ensures.only

pub returns-clause-below : goal.returns-clause-below
returns-clause-below g c =
    let o : Opened c.args.self c.self.inside.folder c.self.inside.files.items = record {
      folder_is = ap (λ v. v.folder) c.self.view_is;
      begun_is = ap (λ v. v.begun) c.self.view_is;
      kept = c.self.invariant;
    } in
    lent_below _ _ c.self.inside.files.items c.as_slice.result.now o c.as_slice.ensures.value c.sync_files.ensures.only

pub returns-clause-disk : goal.returns-clause-disk
returns-clause-disk g c =
    let o : Opened c.args.self c.self.inside.folder c.self.inside.files.items = record {
      folder_is = ap (λ v. v.folder) c.self.view_is;
      begun_is = ap (λ v. v.begun) c.self.view_is;
      kept = c.self.invariant;
    } in
    c.in_ok-sync_files.ensures.disk ∙ lent_synced c.args.self _ c.self.inside.files.items c.as_slice.result.now _ o
    c.as_slice.ensures.value

pub returns-clause-holds : goal.returns-clause-holds
returns-clause-holds g c = both_told (HoldsAll c.args.self) (after_sync_calls c.args.self) (holds_all c.args.self) _ _
    (returns-clause-disk g c)

pub returns-clause-files : goal.returns-clause-files
returns-clause-files g c =
    let o : Opened c.args.self c.self.inside.folder c.self.inside.files.items = record {
      folder_is = ap (λ v. v.folder) c.self.view_is;
      begun_is = ap (λ v. v.begun) c.self.view_is;
      kept = c.self.invariant;
    } in
    c.in_ok-files.ensures ∙ lent_staged c.args.self c.as_str.result.now _ c.self.inside.files.items
    c.as_slice-2.result.now o c.as_slice-2.ensures.value (c.as_str.ensures ∙ ap (λ v. v.job) c.self.view_is)

pub returns-clause-order : goal.returns-clause-order
returns-clause-order g c =
    let o : Opened c.args.self c.self.inside.folder c.self.inside.files.items = record {
      folder_is = ap (λ v. v.folder) c.self.view_is;
      begun_is = ap (λ v. v.begun) c.self.view_is;
      kept = c.self.invariant;
    } in
    subst (λ fs. IsInByteOrder (map (λ f. f.to) fs)) (sym (returns-clause-files g c))
    (files_rising _ _ c.self.inside.files.items o)
