use Rattle.std.proofs.Common.{◌<◌, ◌+◌, ℕ, [], List, length, map, take, drop, sym, subst, IfSome}
use Rattle.std.proofs.Common.{arith}
use Rattle.std.proofs.lemmas.List.Elements.{All-same}
use Rattle.gob_bytes.specs.Paths.{under}
use Rattle.gob_device.specs.Disk.{AddsMaps}
use Rattle.gob_device.proofs.Trail.{along_nothing, along_then}
use Rattle.gob_recovery.specs.Commits.{OnlyBelow}
use Rattle.gob_recovery.proofs.Commits.{below_then}
use Rattle.gob_commit.specs.Going.{GroupEnds, GroupRises, LeadsToNext, LeavesStaging}
use Rattle.gob_commit.specs.Groups.{ArePlaces, picked_items}
use Rattle.gob_commit.specs.Staged.{AreReadyToMove, CanCommit, all_pairs}
use Rattle.gob_commit.proofs.Beginning.{nothing_along}
use Rattle.gob_commit.proofs.Looping.{LoopOver, groups_at, loop_at, loop_broken, loop_can, loop_end}
use Rattle.gob_commit.proofs.Looping.{loop_first}
use Rattle.gob_commit.proofs.Looping.{loop_more, loop_there, loop_within, split_places}
use Rattle.gob_commit.proofs.Placing.{Places}
use Rattle.gob_commit.proofs.commits.commit_datasets.Goals as goal

pub returns-in_err-groups-clause-along : goal.returns-in_err-groups-clause-along
returns-in_err-groups-clause-along g c =
    nothing_along c.args.rules.now c.args.loaded c.args.units.now c.args.results.now _

pub loop-places-init : goal.loop-places-init
loop-places-init g c =
    let rules = c.args.rules.now in
    let l0 = c.args.loaded in
    let units = c.args.units.now in
    let results = c.args.results.now in
    let vs = c.as_slice-places-items.result.now in
    let are : ArePlaces units (map (λ (v : Places). v.items) vs) =
    subst (λ (x : List Places). ArePlaces units (map (λ (v : Places). v.items) x))
    (sym c.as_slice-places-items.ensures.value) c.in_ok-groups.ensures in
    let over : LoopOver rules l0 units results vs = record {
      can = c.requires.can;
      split = split_places rules units results vs c.requires.scope c.requires.can.can.counted are;
    } in
    record {
      so = loop_first rules l0 units results vs _ over c.requires.there;
      below = along_nothing (OnlyBelow (under rules.job.now [])) _;
      goes_on = omega arith;
    }

pub commit_places-requires-clause-within : goal.commit_places-requires-clause-within
commit_places-requires-clause-within g c =
    let rules = c.args.rules.now in
    let l0 = c.args.loaded in
    let units = c.args.units.now in
    let results = c.args.results.now in
    let vs = c.as_slice-places-items.result.now in
    let are : ArePlaces units (map (λ (v : Places). v.items) vs) =
    subst (λ (x : List Places). ArePlaces units (map (λ (v : Places). v.items) x))
    (sym c.as_slice-places-items.ensures.value) c.in_ok-groups.ensures in
    let over : LoopOver rules l0 units results vs = record {
      can = c.requires.can;
      split = split_places rules units results vs c.requires.scope c.requires.can.can.counted are;
    } in
    let i = c.loop-places.places-index in
    let v = c.places-item.result in
    let at = loop_at rules l0 units results vs i v c.loop-places.last _ _ (omega arith) c.places-item.is over
    c.loop-places.invariant.so in
    let before = groups_at units results (take i vs) in
    let rest = groups_at units results (drop (i + 1) vs) in
    All-same (λ p. p < length units) c.as_slice.result.now v.items c.as_slice.ensures.value
    (loop_within units vs i v (omega arith) c.places-item.is are)

pub commit_places-requires-clause-can : goal.commit_places-requires-clause-can
commit_places-requires-clause-can g c =
    let rules = c.args.rules.now in
    let l0 = c.args.loaded in
    let units = c.args.units.now in
    let results = c.args.results.now in
    let vs = c.as_slice-places-items.result.now in
    let are : ArePlaces units (map (λ (v : Places). v.items) vs) =
    subst (λ (x : List Places). ArePlaces units (map (λ (v : Places). v.items) x))
    (sym c.as_slice-places-items.ensures.value) c.in_ok-groups.ensures in
    let over : LoopOver rules l0 units results vs = record {
      can = c.requires.can;
      split = split_places rules units results vs c.requires.scope c.requires.can.can.counted are;
    } in
    let i = c.loop-places.places-index in
    let v = c.places-item.result in
    let at = loop_at rules l0 units results vs i v c.loop-places.last _ _ (omega arith) c.places-item.is over
    c.loop-places.invariant.so in
    let before = groups_at units results (take i vs) in
    let rest = groups_at units results (drop (i + 1) vs) in
    subst (λ (ps : List ℕ). CanCommit rules c.loop-places.last (picked_items units ps) (picked_items results ps))
    (sym c.as_slice.ensures.value)
    (loop_can rules l0 units results before rest v c.loop-places.last _ _ c.requires.can at)

pub commit_places-requires-clause-there : goal.commit_places-requires-clause-there
commit_places-requires-clause-there g c =
    let rules = c.args.rules.now in
    let l0 = c.args.loaded in
    let units = c.args.units.now in
    let results = c.args.results.now in
    let vs = c.as_slice-places-items.result.now in
    let are : ArePlaces units (map (λ (v : Places). v.items) vs) =
    subst (λ (x : List Places). ArePlaces units (map (λ (v : Places). v.items) x))
    (sym c.as_slice-places-items.ensures.value) c.in_ok-groups.ensures in
    let over : LoopOver rules l0 units results vs = record {
      can = c.requires.can;
      split = split_places rules units results vs c.requires.scope c.requires.can.can.counted are;
    } in
    let i = c.loop-places.places-index in
    let v = c.places-item.result in
    let at = loop_at rules l0 units results vs i v c.loop-places.last _ _ (omega arith) c.places-item.is over
    c.loop-places.invariant.so in
    let before = groups_at units results (take i vs) in
    let rest = groups_at units results (drop (i + 1) vs) in
    subst (λ (ps : List ℕ). IfSome (g.V.Volume.disk c.loop-places.volume)
    (λ d. AreReadyToMove rules.job.now (all_pairs (picked_items results ps)) d.files)) (sym c.as_slice.ensures.value)
    (loop_there rules l0 units results before rest v c.loop-places.last _ _ c.requires.can at)

pub returns-in_err-last-clause-along : goal.returns-in_err-last-clause-along
returns-in_err-last-clause-along g c =
    let rules = c.args.rules.now in
    let l0 = c.args.loaded in
    let units = c.args.units.now in
    let results = c.args.results.now in
    let vs = c.as_slice-places-items.result.now in
    let are : ArePlaces units (map (λ (v : Places). v.items) vs) =
    subst (λ (x : List Places). ArePlaces units (map (λ (v : Places). v.items) x))
    (sym c.as_slice-places-items.ensures.value) c.in_ok-groups.ensures in
    let over : LoopOver rules l0 units results vs = record {
      can = c.requires.can;
      split = split_places rules units results vs c.requires.scope c.requires.can.can.counted are;
    } in
    let i = c.loop-places.places-index in
    let v = c.places-item.result in
    let at = loop_at rules l0 units results vs i v c.loop-places.last _ _ (omega arith) c.places-item.is over
    c.loop-places.invariant.so in
    let before = groups_at units results (take i vs) in
    let rest = groups_at units results (drop (i + 1) vs) in
    let rises = subst (λ (ps : List ℕ). AddsMaps (GroupRises rules c.loop-places.last (picked_items units ps)
    (picked_items results ps)) (g.V.Volume.disk c.loop-places.volume) (g.V.Volume.disk c.commit_places.new.volume))
    c.as_slice.ensures.value c.commit_places.ensures.rises in
    loop_broken rules l0 units results before rest v c.loop-places.last c.requires.can at rises

pub loop-places-preserved : goal.loop-places-preserved
loop-places-preserved g c =
    let rules = c.args.rules.now in
    let l0 = c.args.loaded in
    let units = c.args.units.now in
    let results = c.args.results.now in
    let vs = c.as_slice-places-items.result.now in
    let are : ArePlaces units (map (λ (v : Places). v.items) vs) =
    subst (λ (x : List Places). ArePlaces units (map (λ (v : Places). v.items) x))
    (sym c.as_slice-places-items.ensures.value) c.in_ok-groups.ensures in
    let over : LoopOver rules l0 units results vs = record {
      can = c.requires.can;
      split = split_places rules units results vs c.requires.scope c.requires.can.can.counted are;
    } in
    let i = c.loop-places.places-index in
    let v = c.places-item.result in
    let at = loop_at rules l0 units results vs i v c.loop-places.last _ _ (omega arith) c.places-item.is over
    c.loop-places.invariant.so in
    let before = groups_at units results (take i vs) in
    let rest = groups_at units results (drop (i + 1) vs) in
    let after = c.in_ok-last.last in
    let now = g.V.Volume.disk c.loop-places.volume in
    let new = g.V.Volume.disk c.commit_places.new.volume in
    record {
      so = loop_more rules l0 units results vs i v c.loop-places.last after (omega arith) c.places-item.is
          c.requires.can at
          (subst (λ (ps : List ℕ). LeadsToNext rules c.loop-places.last (picked_items units ps)
          (picked_items results ps) after)
          c.as_slice.ensures.value c.in_ok-last.ensures.value)
          (subst (λ (ps : List ℕ). AddsMaps (GroupEnds rules c.loop-places.last (picked_items units ps)
          (picked_items results ps)
          after) now new) c.as_slice.ensures.value c.in_ok-last.ensures.ok)
          (subst (λ (ps : List ℕ). AddsMaps (LeavesStaging rules.job.now (all_pairs (picked_items results ps))) now new)
          c.as_slice.ensures.value c.in_ok-last.ensures.rest);
      below = along_then (OnlyBelow (under rules.job.now [])) (below_then (under rules.job.now []))
          c.loop-places.invariant.below c.commit_places.ensures.below;
      goes_on = omega (arith, c.loop-places.invariant.goes_on, c.commit_places.ensures.goes_on);
    }

pub returns-clause-value : goal.returns-clause-value
returns-clause-value g c =
    let rules = c.args.rules.now in
    let l0 = c.args.loaded in
    let units = c.args.units.now in
    let results = c.args.results.now in
    let vs = c.as_slice-places-items.result.now in
    let are : ArePlaces units (map (λ (v : Places). v.items) vs) =
    subst (λ (x : List Places). ArePlaces units (map (λ (v : Places). v.items) x))
    (sym c.as_slice-places-items.ensures.value) c.in_ok-groups.ensures in
    let over : LoopOver rules l0 units results vs = record {
      can = c.requires.can;
      split = split_places rules units results vs c.requires.scope c.requires.can.can.counted are;
    } in
    (loop_end rules l0 units results vs c.loop-places.places-index c.loop-places.last _ _ (omega arith) over
    c.loop-places.invariant.so).leads

pub returns-clause-along : goal.returns-clause-along
returns-clause-along g c =
    let rules = c.args.rules.now in
    let l0 = c.args.loaded in
    let units = c.args.units.now in
    let results = c.args.results.now in
    let vs = c.as_slice-places-items.result.now in
    let are : ArePlaces units (map (λ (v : Places). v.items) vs) =
    subst (λ (x : List Places). ArePlaces units (map (λ (v : Places). v.items) x))
    (sym c.as_slice-places-items.ensures.value) c.in_ok-groups.ensures in
    let over : LoopOver rules l0 units results vs = record {
      can = c.requires.can;
      split = split_places rules units results vs c.requires.scope c.requires.can.can.counted are;
    } in
    (loop_end rules l0 units results vs c.loop-places.places-index c.loop-places.last _ _ (omega arith) over
    c.loop-places.invariant.so).along

pub returns-clause-ok : goal.returns-clause-ok
returns-clause-ok g c =
    let rules = c.args.rules.now in
    let l0 = c.args.loaded in
    let units = c.args.units.now in
    let results = c.args.results.now in
    let vs = c.as_slice-places-items.result.now in
    let are : ArePlaces units (map (λ (v : Places). v.items) vs) =
    subst (λ (x : List Places). ArePlaces units (map (λ (v : Places). v.items) x))
    (sym c.as_slice-places-items.ensures.value) c.in_ok-groups.ensures in
    let over : LoopOver rules l0 units results vs = record {
      can = c.requires.can;
      split = split_places rules units results vs c.requires.scope c.requires.can.can.counted are;
    } in
    (loop_end rules l0 units results vs c.loop-places.places-index c.loop-places.last _ _ (omega arith) over
    c.loop-places.invariant.so).over

pub returns-in_err-last-clause-below : goal.returns-in_err-last-clause-below
returns-in_err-last-clause-below g c =
    let job = c.args.rules.now.job.now in
    along_then (OnlyBelow (under job [])) (below_then (under job [])) c.loop-places.invariant.below
    c.commit_places.ensures.below
