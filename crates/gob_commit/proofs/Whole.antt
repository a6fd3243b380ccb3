-- A run whose units are one group.
use Rattle.std.proofs.Common.{◌≡◌, List, [], ◌∷◌, sym, subst, IfSome}
use Rattle.std.specs.declared.option.Option.{Option}
use Rattle.std.specs.List.{zip}
use Rattle.gob_device.specs.Disk.{AddsMaps, Disk}
use Rattle.gob_plan.specs.declared.plan.CommitScope.TheVariants as scope
use Rattle.gob_plan.specs.declared.units.Unit.{Unit as WorkUnit}
use Rattle.gob_plan.specs.declared.units.UnitResult.{UnitResult}
use Rattle.gob_segments.specs.declared.change.Loaded.{Loaded}
use Rattle.gob_commit.specs.declared.rules.CommitRules.{CommitRules}
use Rattle.gob_commit.specs.Going.{CommitsAlong, GroupEnds, GroupRises, LeadsToNext, LeavesStaging}
use Rattle.gob_commit.specs.Staged.{AreReadyToMove, CanCommit, all_pairs}
use Rattle.gob_commit.proofs.Joining.{zip_firsts, zip_seconds}
use Rattle.gob_commit.proofs.Looping.{LoopDone, both_moved, split_done}
use Rattle.gob_commit.proofs.Progress.{came_first, come_broken, come_more, so_far_first, so_far_more}
use Rattle.gob_commit.proofs.Splitting.{results_in, split_job, units_in}

pub job_broken : (rules : CommitRules) (l : Loaded) (units : List WorkUnit) (results : List UnitResult)
    {old : Option Disk} (new : Option Disk) → rules.scope ≡ scope.Job → CanCommit rules l units results
    → IfSome old (λ d. AreReadyToMove rules.job.now (all_pairs results) d.files)
    → AddsMaps (GroupRises rules l units results) old new → AddsMaps (CommitsAlong rules l units results) old new
job_broken rules l units results {old} new is can there rises =
    let g = zip units results in
    let split = split_job rules units results is in
    come_broken rules l l units results [] [] g can split
    (came_first rules l units results (g ∷ []) old there)
    (both_moved (λ us rs. AddsMaps (GroupRises rules l us rs) old new) units (units_in g) results (results_in g)
    (sym (zip_firsts units results can.can.counted)) (sym (zip_seconds units results can.can.counted)) rises)

pub job_done : (rules : CommitRules) (l : Loaded) (units : List WorkUnit) (results : List UnitResult) (after : Loaded)
    {old : Option Disk} (new : Option Disk) → rules.scope ≡ scope.Job → CanCommit rules l units results
    → IfSome old (λ d. AreReadyToMove rules.job.now (all_pairs results) d.files)
    → LeadsToNext rules l units results after → AddsMaps (GroupEnds rules l units results after) old new
    → AddsMaps (LeavesStaging rules.job.now (all_pairs results)) old new → LoopDone rules l units results after old new
job_done rules l units results after {old} new is can there leads ends leaves =
    let g = zip units results in
    let split = split_job rules units results is in
    let us = sym (zip_firsts units results can.can.counted) in
    let rs = sym (zip_seconds units results can.can.counted) in
    split_done rules l after units results (g ∷ []) old new split
    (so_far_more rules l l after units results [] [] g split
    (so_far_first rules l units results (g ∷ []) can split)
    (both_moved (λ x y. LeadsToNext rules l x y after) units (units_in g) results (results_in g) us rs leads))
    (come_more rules l l after units results [] [] g can split
    (came_first rules l units results (g ∷ []) old there)
    (both_moved (λ x y. AddsMaps (GroupEnds rules l x y after) old new) units (units_in g) results (results_in g) us
    rs ends)
    (subst (λ (y : List UnitResult). AddsMaps (LeavesStaging rules.job.now (all_pairs y)) old new) rs leaves))
