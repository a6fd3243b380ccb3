use Rattle.std.proofs.Common.{◌≡◌, ◌∙◌, ◌<◌, All, List, sym, subst, IfSome}
use Rattle.gob_device.specs.Disk.{AddsMaps}
use Rattle.gob_plan.specs.declared.units.UnitResult.{UnitResult}
use Rattle.gob_commit.specs.Going.{GroupEnds, GroupRises, LeadsToNext, LeavesStaging}
use Rattle.gob_commit.specs.Groups.{picked_items}
use Rattle.gob_commit.specs.Staged.{AreReadyToMove, CanCommit, all_pairs}
use Rattle.gob_commit.proofs.Committing.{idle_rises}
use Rattle.gob_commit.proofs.Looping.{both_moved}
use Rattle.gob_commit.proofs.commits.commit_places.Goals as goal

pub results_at-requires : goal.results_at-requires
results_at-requires g c =
    subst (λ n. All (λ p. p < n) c.args.places.now) (sym c.requires.counted) c.requires.within

pub returns-in_err-group-clause-rises : goal.returns-in_err-group-clause-rises
returns-in_err-group-clause-rises g c =
    idle_rises c.args.rules.now c.args.loaded (picked_items c.args.units.now c.args.places.now)
    (picked_items c.args.results.now c.args.places.now) _

pub returns-in_err-made-clause-rises : goal.returns-in_err-made-clause-rises
returns-in_err-made-clause-rises g c =
    idle_rises c.args.rules.now c.args.loaded (picked_items c.args.units.now c.args.places.now)
    (picked_items c.args.results.now c.args.places.now) _

pub commit_group-requires-clause-can : goal.commit_group-requires-clause-can
commit_group-requires-clause-can g c =
    let us = picked_items c.args.units.now c.args.places.now in
    let rs = picked_items c.args.results.now c.args.places.now in
    let eu : c.as_slice.result.now ≡ us = c.as_slice.ensures ∙ c.in_ok-group.ensures in
    let er : c.as_slice-2.result.now ≡ rs = c.as_slice-2.ensures ∙ c.in_ok-made.ensures in
    let rules = c.args.rules.now in
    let l = c.args.loaded in
    both_moved (λ x y. CanCommit rules l x y) us _ rs _ (sym eu) (sym er) c.requires.can

pub commit_group-requires-clause-there : goal.commit_group-requires-clause-there
commit_group-requires-clause-there g c =
    let us = picked_items c.args.units.now c.args.places.now in
    let rs = picked_items c.args.results.now c.args.places.now in
    let eu : c.as_slice.result.now ≡ us = c.as_slice.ensures ∙ c.in_ok-group.ensures in
    let er : c.as_slice-2.result.now ≡ rs = c.as_slice-2.ensures ∙ c.in_ok-made.ensures in
    let rules = c.args.rules.now in
    let l = c.args.loaded in
    subst (λ (y : List UnitResult). IfSome (g.V.Volume.disk c.args.volume.now)
    (λ d. AreReadyToMove rules.job.now (all_pairs
    y) d.files))
    (sym er) c.requires.there

pub returns-in_err-after-clause-rises : goal.returns-in_err-after-clause-rises
returns-in_err-after-clause-rises g c =
    let us = picked_items c.args.units.now c.args.places.now in
    let rs = picked_items c.args.results.now c.args.places.now in
    let eu : c.as_slice.result.now ≡ us = c.as_slice.ensures ∙ c.in_ok-group.ensures in
    let er : c.as_slice-2.result.now ≡ rs = c.as_slice-2.ensures ∙ c.in_ok-made.ensures in
    let rules = c.args.rules.now in
    let l = c.args.loaded in
    both_moved (λ x y. AddsMaps (GroupRises rules l x y) (g.V.Volume.disk c.args.volume.now)
    (g.V.Volume.disk c.commit_group.new.volume)) _ us _ rs eu er c.commit_group.ensures.rises

pub returns-clause-rises : goal.returns-clause-rises
returns-clause-rises g c =
    let us = picked_items c.args.units.now c.args.places.now in
    let rs = picked_items c.args.results.now c.args.places.now in
    let eu : c.as_slice.result.now ≡ us = c.as_slice.ensures ∙ c.in_ok-group.ensures in
    let er : c.as_slice-2.result.now ≡ rs = c.as_slice-2.ensures ∙ c.in_ok-made.ensures in
    let rules = c.args.rules.now in
    let l = c.args.loaded in
    both_moved (λ x y. AddsMaps (GroupRises rules l x y) (g.V.Volume.disk c.args.volume.now)
    (g.V.Volume.disk c.commit_group.new.volume)) _ us _ rs eu er c.commit_group.ensures.rises

pub returns-clause-value : goal.returns-clause-value
returns-clause-value g c =
    let us = picked_items c.args.units.now c.args.places.now in
    let rs = picked_items c.args.results.now c.args.places.now in
    let eu : c.as_slice.result.now ≡ us = c.as_slice.ensures ∙ c.in_ok-group.ensures in
    let er : c.as_slice-2.result.now ≡ rs = c.as_slice-2.ensures ∙ c.in_ok-made.ensures in
    let rules = c.args.rules.now in
    let l = c.args.loaded in
    both_moved (λ x y. LeadsToNext rules l x y c.in_ok-after.after) _ us _ rs eu er c.in_ok-after.ensures.value

pub returns-clause-ok : goal.returns-clause-ok
returns-clause-ok g c =
    let us = picked_items c.args.units.now c.args.places.now in
    let rs = picked_items c.args.results.now c.args.places.now in
    let eu : c.as_slice.result.now ≡ us = c.as_slice.ensures ∙ c.in_ok-group.ensures in
    let er : c.as_slice-2.result.now ≡ rs = c.as_slice-2.ensures ∙ c.in_ok-made.ensures in
    let rules = c.args.rules.now in
    let l = c.args.loaded in
    both_moved (λ x y. AddsMaps (GroupEnds rules l x y c.in_ok-after.after) (g.V.Volume.disk c.args.volume.now)
    (g.V.Volume.disk c.commit_group.new.volume)) _ us _ rs eu er c.in_ok-after.ensures.ok

pub returns-clause-rest : goal.returns-clause-rest
returns-clause-rest g c =
    let us = picked_items c.args.units.now c.args.places.now in
    let rs = picked_items c.args.results.now c.args.places.now in
    let eu : c.as_slice.result.now ≡ us = c.as_slice.ensures ∙ c.in_ok-group.ensures in
    let er : c.as_slice-2.result.now ≡ rs = c.as_slice-2.ensures ∙ c.in_ok-made.ensures in
    let rules = c.args.rules.now in
    let l = c.args.loaded in
    subst (λ (y : List UnitResult). AddsMaps (LeavesStaging rules.job.now (all_pairs y)) (g.V.Volume.disk
    c.args.volume.now)
    (g.V.Volume.disk c.commit_group.new.volume)) er c.in_ok-after.ensures.rest
