use Rattle.std.proofs.Common.{◌≡◌, List, ℕ, Some, None, ap, sym, subst, ◌∙◌, IfSome, IsSome, OnOk}
use Rattle.std.specs.declared.option.Option.{Option}
use Rattle.gob_bytes.specs.Paths.{begins_with}
use Rattle.gob_bytes.specs.Tables.{at_name}
use Rattle.gob_bytes.proofs.Paths.{front_more}
use Rattle.gob_device.specs.Disk.{Along, Disk, OnlyAt}
use Rattle.gob_device.specs.Names.{IsPathname}
use Rattle.gob_stage.specs.Attempt.{AreThere, is_begun, staged_name}
use Rattle.gob_stage.specs.Stages.{HoldsMore, after_staging}
use Rattle.gob_stage.proofs.Held.{both_told, holds_more, there_told}
use Rattle.gob_stage.proofs.Maps.{appended_only, below_at, ok_both, ok_then, told_map}
use Rattle.gob_stage.proofs.Opened.{Opened, begun_again, found_begun, found_name, found_path, not_begun, staged_begun}
use Rattle.gob_stage.proofs.attempt.Attempt.append.Goals as goal

pub append-requires-clause-named : goal.append-requires-clause-named
append-requires-clause-named g c =
    let o : Opened c.args.self.now c.self.inside.folder c.self.inside.files.items = record {
      folder_is = ap (λ v. v.folder) c.self.view_is;
      begun_is = ap (λ v. v.begun) c.self.view_is;
      kept = c.self.invariant;
    } in
    let found : Some c.in-Some.name.now ≡ at_name c.self.inside.files.items c.args.target.now =
    rw c.as_slice.ensures.value at c.in-Some.ensures in
    subst IsPathname (sym c.as_str.ensures) (found_path _ _ _ c.args.target.now _ o found)

pub append-requires-clause-there : goal.append-requires-clause-there
append-requires-clause-there g c =
    let a = c.args.self.now in
    let target = c.args.target.now in
    let o : Opened a c.self.inside.folder c.self.inside.files.items = record {
      folder_is = ap (λ v. v.folder) c.self.view_is;
      begun_is = ap (λ v. v.begun) c.self.view_is;
      kept = c.self.invariant;
    } in
    let found : Some c.in-Some.name.now ≡ at_name c.self.inside.files.items target =
    rw c.as_slice.ensures.value at c.in-Some.ensures in
    let name : c.as_str.result.now ≡ staged_name a target = c.as_str.ensures ∙ found_name _ _ _ target _ o found in
    told_map (λ d. AreThere a d.files) (λ d. IsSome (d.files c.as_str.result.now))
    (λ d there. subst (λ n. IsSome (d.files n)) (sym name) (there target (found_begun _ _ _ target _ o found))) _
    c.requires.there

pub returns-in_err-append-in-Some-clause-only : goal.returns-in_err-append-in-Some-clause-only
returns-in_err-append-in-Some-clause-only g c =
    let a = c.args.self.now in
    let target = c.args.target.now in
    let o : Opened a c.self.inside.folder c.self.inside.files.items = record {
      folder_is = ap (λ v. v.folder) c.self.view_is;
      begun_is = ap (λ v. v.begun) c.self.view_is;
      kept = c.self.invariant;
    } in
    let found : Some c.in-Some.name.now ≡ at_name c.self.inside.files.items target =
    rw c.as_slice.ensures.value at c.in-Some.ensures in
    let name : c.as_str.result.now ≡ staged_name a target = c.as_str.ensures ∙ found_name _ _ _ target _ o found in
    subst (λ n. Along (OnlyAt n) (g.V.Volume.disk c.args.volume.now) (g.V.Volume.disk c.append.new.self)) name
    (appended_only c.as_str.result.now c.args.bytes.now c.append.ensures.change)

pub returns-in_err-append-in-Some-clause-below : goal.returns-in_err-append-in-Some-clause-below
returns-in_err-append-in-Some-clause-below g c =
    below_at c.args.self.now.folder (staged_name c.args.self.now c.args.target.now)
    (front_more c.args.self.now.folder c.args.target.now) (returns-in_err-append-in-Some-clause-only g c)

pub returns-in_ok-append-in-Some-clause-only : goal.returns-in_ok-append-in-Some-clause-only
returns-in_ok-append-in-Some-clause-only g c =
    let a = c.args.self.now in
    let target = c.args.target.now in
    let o : Opened a c.self.inside.folder c.self.inside.files.items = record {
      folder_is = ap (λ v. v.folder) c.self.view_is;
      begun_is = ap (λ v. v.begun) c.self.view_is;
      kept = c.self.invariant;
    } in
    let found : Some c.in-Some.name.now ≡ at_name c.self.inside.files.items target =
    rw c.as_slice.ensures.value at c.in-Some.ensures in
    let name : c.as_str.result.now ≡ staged_name a target = c.as_str.ensures ∙ found_name _ _ _ target _ o found in
    subst (λ n. Along (OnlyAt n) (g.V.Volume.disk c.args.volume.now) (g.V.Volume.disk c.append.new.self)) name
    (appended_only c.as_str.result.now c.args.bytes.now c.append.ensures.change)

pub returns-in_ok-append-in-Some-clause-below : goal.returns-in_ok-append-in-Some-clause-below
returns-in_ok-append-in-Some-clause-below g c =
    below_at c.args.self.now.folder (staged_name c.args.self.now c.args.target.now)
    (front_more c.args.self.now.folder c.args.target.now) (returns-in_ok-append-in-Some-clause-only g c)

pub returns-in_ok-append-in-Some-clause-begun : goal.returns-in_ok-append-in-Some-clause-begun
returns-in_ok-append-in-Some-clause-begun g c =
    let o : Opened c.args.self.now c.self.inside.folder c.self.inside.files.items = record {
      folder_is = ap (λ v. v.folder) c.self.view_is;
      begun_is = ap (λ v. v.begun) c.self.view_is;
      kept = c.self.invariant;
    } in
    let found : Some c.in-Some.name.now ≡ at_name c.self.inside.files.items c.args.target.now =
    rw c.as_slice.ensures.value at c.in-Some.ensures in
    begun_again _ _ _ c.args.target.now o (found_begun _ _ _ c.args.target.now _ o found)

pub returns-in_ok-append-in-Some-clause-disk : goal.returns-in_ok-append-in-Some-clause-disk
returns-in_ok-append-in-Some-clause-disk g c =
    let a = c.args.self.now in
    let target = c.args.target.now in
    let o : Opened a c.self.inside.folder c.self.inside.files.items = record {
      folder_is = ap (λ v. v.folder) c.self.view_is;
      begun_is = ap (λ v. v.begun) c.self.view_is;
      kept = c.self.invariant;
    } in
    let found : Some c.in-Some.name.now ≡ at_name c.self.inside.files.items target =
    rw c.as_slice.ensures.value at c.in-Some.ensures in
    let name : c.as_str.result.now ≡ staged_name a target = c.as_str.ensures ∙ found_name _ _ _ target _ o found in
    c.in_ok-append-in-Some.ensures.change.ok ∙ staged_begun a target c.as_str.result.now c.args.bytes.now _
    (found_begun _ _ _ target _ o found) name

pub returns-in_ok-append-in-Some-clause-holds : goal.returns-in_ok-append-in-Some-clause-holds
returns-in_ok-append-in-Some-clause-holds g c =
    let a = c.args.self.now in
    both_told (HoldsMore a c.args.target.now c.args.bytes.now) (after_staging a c.args.target.now c.args.bytes.now)
    (holds_more a c.args.target.now c.args.bytes.now) _ _
    (returns-in_ok-append-in-Some-clause-disk g c)

pub begin-requires-clause-new : goal.begin-requires-clause-new
begin-requires-clause-new g c =
    let o : Opened c.args.self.now c.self.inside.folder c.self.inside.files.items = record {
      folder_is = ap (λ v. v.folder) c.self.view_is;
      begun_is = ap (λ v. v.begun) c.self.view_is;
      kept = c.self.invariant;
    } in
    let found : None ≡ at_name c.self.inside.files.items c.args.target.now =
    rw c.as_slice.ensures.value at c.in-None.ensures in
    not_begun _ _ _ c.args.target.now o found

pub returns-in-None-clause-holds : goal.returns-in-None-clause-holds
returns-in-None-clause-holds g c =
    let a = c.args.self.now in
    ok_then c.begin.result _ _
    (both_told (HoldsMore a c.args.target.now c.args.bytes.now) (after_staging a c.args.target.now c.args.bytes.now)
    (holds_more a c.args.target.now c.args.bytes.now) _ _)
    c.begin.ensures.disk

pub returns-in-None-clause-below : goal.returns-in-None-clause-below
returns-in-None-clause-below g c =
    below_at c.args.self.now.folder (staged_name c.args.self.now c.args.target.now)
    (front_more c.args.self.now.folder c.args.target.now) c.begin.ensures.only

pub returns-in_ok-append-in-Some-clause-there : goal.returns-in_ok-append-in-Some-clause-there
returns-in_ok-append-in-Some-clause-there g c =
    there_told c.args.self.now c.args.self.now c.args.target.now c.args.bytes.now _ _
    (returns-in_ok-append-in-Some-clause-begun g c) (returns-in_ok-append-in-Some-clause-disk g c) c.requires.there

pub returns-in-None-clause-there : goal.returns-in-None-clause-there
returns-in-None-clause-there g c =
    ok_both c.begin.result _ _ _
    (λ begun changed. there_told c.args.self.now c.begin.new.self c.args.target.now c.args.bytes.now _ _ begun changed
    c.requires.there)
    c.begin.ensures.begun c.begin.ensures.disk
