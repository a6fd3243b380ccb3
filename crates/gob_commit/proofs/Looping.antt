-- The loop over a run's groups, and the staging that is cleaned behind it.
use Rattle.std.proofs.Common.{◌≡◌, ⊎_elim, ℕ, suc, ◌+◌, ◌<◌, ◌≤◌, Bool, true, false, cond, List, [], ◌∷◌, ◌++◌, map}
use Rattle.std.proofs.Common.{length, take, drop}
use Rattle.std.proofs.Common.{get_or, refl, sym, ap, subst, ◌∙◌, arith, Some, None, IfSome, append-nil}
use Rattle.std.specs.declared.option.Option.{Option}
use Rattle.std.specs.List.{All, Contains, zip}
use Rattle.std.specs.Str.{bytes_eq}
use Rattle.std.proofs.lemmas.List.Elements.{All-from_recursion}
use Rattle.std.proofs.lemmas.List.{map-append, take-append-drop, take_all, take_more}
use Rattle.gob_bytes.specs.Paths.{staging}
use Rattle.gob_device.specs.Disk.{AddsMaps, Along, Both, Disk, EachOf, Files, Went, last_map}
use Rattle.gob_device.proofs.Trail.{each-map, last-append, maps_then}
use Rattle.gob_plan.specs.declared.plan.CommitScope.TheVariants as scope
use Rattle.gob_plan.specs.declared.units.Unit.{Unit as WorkUnit}
use Rattle.gob_plan.specs.declared.units.UnitResult.{UnitResult}
use Rattle.gob_meaning.specs.Job.{Job}
use Rattle.gob_ledger.specs.Groups.{dataset_of, groups_of, is_committed}
use Rattle.gob_ledger.specs.State.{State}
use Rattle.gob_ledger.proofs.Members.{first_in, in_cases, map_in, none_in}
use Rattle.gob_recovery.specs.Commits.{OnlyBelow}
use Rattle.gob_recovery.specs.Settle.{IsSettled, SettlesAs, without_staging}
use Rattle.gob_recovery.proofs.Settled.{staged_free}
use Rattle.gob_history.specs.Laws.{StagedOver}
use Rattle.gob_history.specs.Runs.{state_or_empty}
use Rattle.gob_segments.specs.declared.change.Loaded.{Loaded}
use Rattle.gob_seq.specs.Maps.{EndsAs}
use Rattle.gob_seq.proofs.Trails.{maps_both}
use Rattle.gob_state.specs.Committed.{judged_by}
use Rattle.gob_commit.specs.declared.rules.CommitRules.{CommitRules}
use Rattle.gob_commit.specs.Done.{GroupsDone}
use Rattle.gob_commit.specs.Going.{CommitsAre, CommitsAlong, GoesOverAll, GoesToEnd}
use Rattle.gob_commit.specs.Going.{GroupEnds, GroupRises, LeadsToLast, LeadsToNext, LeavesStaging}
use Rattle.gob_commit.specs.Groups.{ArePlaces, picked_items, places_from}
use Rattle.gob_commit.specs.Staged.{AreReadyToMove, CanCommit, PulledUnit, all_pairs, state_or}
use Rattle.gob_commit.proofs.Committing.{settled_same}
use Rattle.gob_commit.proofs.Differing.{each_all}
use Rattle.gob_commit.proofs.Nexting.{empties}
use Rattle.gob_commit.proofs.Placing.{Places}
use Rattle.gob_commit.proofs.Progress.{Came, SoFar, came_first, come_broken, come_more, come_stopped, come_to_end}
use Rattle.gob_commit.proofs.Progress.{group_there, in_row, rise_still, so_far_first, so_far_last, so_far_more}
use Rattle.gob_commit.proofs.Pushing.{drop_here, drop_none}
use Rattle.gob_commit.proofs.Reading.{reads_cleaned, reads_still}
use Rattle.gob_commit.proofs.Splitting.{Split, group_can, group_pairs, picked_results, picked_units, results_in}
use Rattle.gob_commit.proofs.Splitting.{split_datasets, units_in}

abbrev pub group_at : List WorkUnit → List UnitResult → Places → List PulledUnit
group_at units results v = picked_items (zip units results) v.items

abbrev pub groups_at : List WorkUnit → List UnitResult → List Places → List (List PulledUnit)
groups_at units results vs = map (group_at units results) vs

at_places : (units : List WorkUnit) (results : List UnitResult) (vs : List Places)
    → map (picked_items (zip units results)) (map (λ (v : Places). v.items) vs) ≡ groups_at units results vs
at_places units results [] = refl
at_places units results (v ∷ vs) = ap (λ (gs : List (List PulledUnit)). group_at units results v ∷ gs) (at_places units
    results vs)

pub split_places : (rules : CommitRules) (units : List WorkUnit) (results : List UnitResult) (vs : List Places)
    → rules.scope ≡ scope.Dataset → length results ≡ length units
    → ArePlaces units (map (λ (v : Places). v.items) vs) → Split rules units results (groups_at units results vs)
split_places rules units results vs is counted are =
    subst (Split rules units results) (at_places units results vs)
    (split_datasets rules units results (map (λ (v : Places). v.items) vs) is counted are)

-- so many groups are committed
pub record LoopSo (rules : CommitRules) (l0 : Loaded) (units : List WorkUnit) (results : List UnitResult)
    (vs : List Places) (i : ℕ) (l : Loaded) (old now : Option Disk) : Type 0 where
  pub so_far : SoFar rules l0 (groups_at units results (take i vs)) (groups_at units results (drop i vs)) l
  pub maps : AddsMaps (Came rules l0 units results (groups_at units results (take i vs))
      (groups_at units results (drop i vs)) l) old now

-- what the loop is over
pub record LoopOver (rules : CommitRules) (l0 : Loaded) (units : List WorkUnit) (results : List UnitResult)
    (vs : List Places) : Type 0 where
  pub can : CanCommit rules l0 units results
  pub split : Split rules units results (groups_at units results vs)

pub loop_first : (rules : CommitRules) (l0 : Loaded) (units : List WorkUnit) (results : List UnitResult)
    (vs : List Places) (o : Option Disk) → LoopOver rules l0 units results vs
    → IfSome o (λ d. AreReadyToMove rules.job.now (all_pairs results) d.files)
    → LoopSo rules l0 units results vs 0 l0 o o
loop_first rules l0 units results vs o over there = record {
  so_far = so_far_first rules l0 units results (groups_at units results vs) over.can over.split;
  maps = came_first rules l0 units results (groups_at units results vs) o there;
}

rest_is : (units : List WorkUnit) (results : List UnitResult) (vs : List Places) (i : ℕ) (v : Places)
    → i < length vs → v ≡ get_or vs i v
    → groups_at units results (drop i vs) ≡ group_at units results v ∷ groups_at units results (drop (i + 1) vs)
rest_is units results vs i v below is = ap (groups_at units results) (drop_here vs i v below is)

before_is : (units : List WorkUnit) (results : List UnitResult) (vs : List Places) (i : ℕ) (v : Places)
    → i < length vs → v ≡ get_or vs i v
    → groups_at units results (take (i + 1) vs)
    ≡ groups_at units results (take i vs) ++ group_at units results v ∷ []
before_is units results vs i v below is =
    ap (groups_at units results) (take_more vs i v below ∙ ap (λ (w : Places). take i vs ++ w ∷ []) (sym is))
    ∙ map-append (group_at units results) (take i vs) (v ∷ [])

whole_is : (units : List WorkUnit) (results : List UnitResult) (vs : List Places) (i : ℕ)
    → groups_at units results vs ≡ groups_at units results (take i vs) ++ groups_at units results (drop i vs)
whole_is units results vs i =
    ap (groups_at units results) (sym (take-append-drop i vs))
    ∙ map-append (group_at units results) (take i vs) (drop i vs)

-- the same at the next group
pub record LoopAt (rules : CommitRules) (l0 : Loaded) (units : List WorkUnit) (results : List UnitResult)
    (before rest : List (List PulledUnit)) (v : Places) (l : Loaded) (old now : Option Disk) : Type 0 where
  pub split : Split rules units results (before ++ group_at units results v ∷ rest)
  pub so_far : SoFar rules l0 before (group_at units results v ∷ rest) l
  pub maps : AddsMaps (Came rules l0 units results before (group_at units results v ∷ rest) l) old now

pub loop_at : (rules : CommitRules) (l0 : Loaded) (units : List WorkUnit) (results : List UnitResult)
    (vs : List Places) (i : ℕ) (v : Places) (l : Loaded) (old now : Option Disk) → i < length vs → v ≡ get_or vs i v
    → LoopOver rules l0 units results vs → LoopSo rules l0 units results vs i l old now
    → LoopAt rules l0 units results (groups_at units results (take i vs)) (groups_at units results (drop (i + 1) vs)) v
    l old now
loop_at rules l0 units results vs i v l old now below is over so =
    let rest = rest_is units results vs i v below is in
    let before = groups_at units results (take i vs) in
    record {
      split = subst (Split rules units results)
          (whole_is units results vs i ∙ ap (λ (gs : List (List PulledUnit)). before ++ gs) rest) over.split;
      so_far = subst (λ (gs : List (List PulledUnit)). SoFar rules l0 before gs l) rest so.so_far;
      maps = subst (λ (gs : List (List PulledUnit)). AddsMaps (Came rules l0 units results before gs l) old now) rest
          so.maps;
    }

pub loop_can : (rules : CommitRules) (l0 : Loaded) (units : List WorkUnit) (results : List UnitResult)
    (before rest : List (List PulledUnit)) (v : Places) (l : Loaded) (old now : Option Disk)
    → CanCommit rules l0 units results → LoopAt rules l0 units results before rest v l old now
    → CanCommit rules l (picked_items units v.items) (picked_items results v.items)
loop_can rules l0 units results before rest v l old now can at =
    let g = group_at units results v in
    let own = group_can rules l0 l units results (before ++ g ∷ rest) g can at.split (in_row before rest g)
    at.so_far.fits
    (at.so_far.units g (first_in g rest g refl)) in
    subst (λ (us : List WorkUnit). CanCommit rules l us (picked_items results v.items))
    (picked_units units results v.items can.can.counted)
    (subst (λ (rs : List UnitResult). CanCommit rules l (units_in g) rs)
    (picked_results units results v.items can.can.counted) own)

pub loop_there : (rules : CommitRules) (l0 : Loaded) (units : List WorkUnit) (results : List UnitResult)
    (before rest : List (List PulledUnit)) (v : Places) (l : Loaded) (old now : Option Disk)
    → CanCommit rules l0 units results → LoopAt rules l0 units results before rest v l old now
    → IfSome now (λ d. AreReadyToMove rules.job.now (all_pairs (picked_items results v.items)) d.files)
loop_there rules l0 units results before rest v l old now can at = told old now at.maps.told
  where
    g : List PulledUnit
    g = group_at units results v

    told : (o n : Option Disk) → Both (Went (Came rules l0 units results before (g ∷ rest) l)) o n
        → IfSome n (λ d. AreReadyToMove rules.job.now (all_pairs (picked_items results v.items)) d.files)
    told None None w = tt
    told (Some d) None w = tt
    told None (Some e) w = absurd w
    told (Some d) (Some e) w =
        subst (λ (rs : List UnitResult). AreReadyToMove rules.job.now (all_pairs rs) e.files)
        (picked_results units results v.items can.can.counted)
        (subst (AreReadyToMove rules.job.now (group_pairs g)) (sym w.stands)
        (group_there rules l0 l units results before rest g d.files w.added can.can.counted at.split w.holds))

pub loop_more : (rules : CommitRules) (l0 : Loaded) (units : List WorkUnit) (results : List UnitResult)
    (vs : List Places) (i : ℕ) (v : Places) (l after : Loaded) {old now new : Option Disk} → i < length vs
    → v ≡ get_or vs i v → CanCommit rules l0 units results
    → LoopAt rules l0 units results (groups_at units results (take i vs)) (groups_at units results (drop (i + 1) vs)) v
    l old now
    → LeadsToNext rules l (picked_items units v.items) (picked_items results v.items) after
    → AddsMaps (GroupEnds rules l (picked_items units v.items) (picked_items results v.items) after) now new
    → AddsMaps (LeavesStaging rules.job.now (all_pairs (picked_items results v.items))) now new
    → LoopSo rules l0 units results vs (i + 1) after old new
loop_more rules l0 units results vs i v l after {old} {now} {new} below is can at leads ends leaves =
    let g = group_at units results v in
    let before = groups_at units results (take i vs) in
    let rest = groups_at units results (drop (i + 1) vs) in
    let us = sym (picked_units units results v.items can.can.counted) in
    let rs = sym (picked_results units results v.items can.can.counted) in
    let front = sym (before_is units results vs i v below is) in
    let led : LeadsToNext rules l (units_in g) (results_in g) after =
    subst (λ (x : List UnitResult). LeadsToNext rules l (units_in g) x after) rs
    (subst (λ (x : List WorkUnit). LeadsToNext rules l x (picked_items results v.items) after) us leads) in
    let ended : AddsMaps (GroupEnds rules l (units_in g) (results_in g) after) now new =
    subst (λ (x : List UnitResult). AddsMaps (GroupEnds rules l (units_in g) x after) now new) rs
    (subst (λ (x : List WorkUnit). AddsMaps (GroupEnds rules l x (picked_items results v.items) after) now new) us
    ends) in
    let left : AddsMaps (LeavesStaging rules.job.now (group_pairs g)) now new =
    subst (λ (x : List UnitResult). AddsMaps (LeavesStaging rules.job.now (all_pairs x)) now new) rs leaves in
    record {
      so_far = subst (λ (x : List (List PulledUnit)). SoFar rules l0 x rest after) front
          (so_far_more rules l0 l after units results before rest g at.split at.so_far led);
      maps = subst (λ (x : List (List PulledUnit)). AddsMaps (Came rules l0 units results x rest after) old new) front
          (come_more rules l0 l after units results before rest g can at.split at.maps ended left);
    }

pub loop_broken : (rules : CommitRules) (l0 : Loaded) (units : List WorkUnit) (results : List UnitResult)
    (before rest : List (List PulledUnit)) (v : Places) (l : Loaded) {old now new : Option Disk}
    → CanCommit rules l0 units results → LoopAt rules l0 units results before rest v l old now
    → AddsMaps (GroupRises rules l (picked_items units v.items) (picked_items results v.items)) now new
    → AddsMaps (CommitsAlong rules l0 units results) old new
loop_broken rules l0 units results before rest v l {old} {now} {new} can at rises =
    let g = group_at units results v in
    come_broken rules l0 l units results before rest g can at.split at.maps
    (subst (λ (x : List UnitResult). AddsMaps (GroupRises rules l (units_in g) x) now new)
    (sym (picked_results units results v.items can.can.counted))
    (subst (λ (x : List WorkUnit). AddsMaps (GroupRises rules l x (picked_items results v.items)) now new)
    (sym (picked_units units results v.items can.can.counted)) rises))

pub record LoopDone (rules : CommitRules) (l0 : Loaded) (units : List WorkUnit) (results : List UnitResult)
    (l : Loaded) (old now : Option Disk) : Type 0 where
  pub leads : LeadsToLast rules l0 units results l
  pub along : AddsMaps (CommitsAlong rules l0 units results) old now
  pub over : AddsMaps (GoesOverAll rules l0 units results) old now

pub split_done : (rules : CommitRules) (l0 l : Loaded) (units : List WorkUnit) (results : List UnitResult)
    (gs : List (List PulledUnit)) (old now : Option Disk) → Split rules units results gs → SoFar rules l0 gs [] l
    → AddsMaps (Came rules l0 units results gs [] l) old now → LoopDone rules l0 units results l old now
split_done rules l0 l units results gs old now split so maps = record {
  leads = so_far_last rules l0 l units results gs split so;
  along = come_stopped rules l0 l units results gs []
      (subst (Split rules units results) (sym (append-nil gs)) split) maps;
  over = come_to_end rules l0 l units results gs split maps;
}

pub loop_end : (rules : CommitRules) (l0 : Loaded) (units : List WorkUnit) (results : List UnitResult)
    (vs : List Places) (i : ℕ) (l : Loaded) (old now : Option Disk) → length vs ≤ i
    → LoopOver rules l0 units results vs → LoopSo rules l0 units results vs i l old now
    → LoopDone rules l0 units results l old now
loop_end rules l0 units results vs i l old now ended over so =
    let gs = groups_at units results vs in
    let front : take i vs ≡ vs = take_all i vs ended in
    let back : drop i vs ≡ [] = drop_none vs i ended in
    split_done rules l0 l units results gs old now over.split
    (subst (λ (x : List Places). SoFar rules l0 (groups_at units results x) [] l) front
    (subst (λ (x : List Places). SoFar rules l0 (groups_at units results (take i vs)) (groups_at units results x) l)
    back
    so.so_far))
    (subst (λ (x : List Places). AddsMaps (Came rules l0 units results (groups_at units results x) [] l) old now) front
    (subst (λ (x : List Places). AddsMaps (Came rules l0 units results (groups_at units results (take i vs))
    (groups_at units results x) l) old now) back so.maps))

-- each place is that of a unit
places_below : (q : List ℕ) (n : ℕ) (units : List WorkUnit) (p : ℕ) → Contains (places_from n q units) p
    → p < n + length units
places_below q n [] p h = none_in p h
places_below q n (u ∷ us) p h = cases (bytes_eq q (dataset_of u.part)) h (λ k. places_below q (n + 1) us p k)
  where
    cases : (b : Bool) → Contains (cond b (n ∷ places_from (n + 1) q us) (places_from (n + 1) q us)) p
        → (Contains (places_from (n + 1) q us) p → p < (n + 1) + length us) → p < n + suc (length us)
    cases true k later = ⊎_elim
        (λ e. omega (arith, e))
        (λ l. let below = later l in omega arith)
        (in_cases n (places_from (n + 1) q us) p k)
    cases false k later = let below = later k in omega arith

pub loop_below : (units : List WorkUnit) (vs : List Places) (v : Places)
    → ArePlaces units (map (λ (w : Places). w.items) vs)
    → Contains vs v → (p : ℕ) → Contains v.items p → p < length units
loop_below units vs v are h p k =
    let d = are.each v.items (map_in (λ (w : Places). w.items) vs v h) in
    let below : p < 0 + length units =
    places_below d.0 0 units p (subst (λ (ps : List ℕ). Contains ps p) d.1 k) in
    omega arith

-- ---- the staging is cleaned

cleaned_each : (j : Job) (last now : Files) (ys : List Files) → IsSettled j.name last → StagedOver j.name last now
    → EachOf (OnlyBelow (staging j.name) now) ys → EachOf (SettlesAs j.name last) ys
cleaned_each j last now ys closed over each =
    each-map (OnlyBelow (staging j.name) now) (SettlesAs j.name last) ys
    (λ y below. (staged_free j.name last y closed (λ name away. below name away ∙ over name away)).1) each

pub clean_along : (rules : CommitRules) (l : Loaded) (units : List WorkUnit) (results : List UnitResult)
    {old now new : Option Disk} → AddsMaps (GoesOverAll rules l units results) old now
    → Along (OnlyBelow (staging rules.job.now)) now new → AddsMaps (CommitsAlong rules l units results) old new
clean_along rules l units results a clean = maps_then
    (λ m xs ys gone each j held settled has s.
    let g = gone j held settled has s in
    let below : EachOf (OnlyBelow (staging j.name) (last_map m xs)) ys =
    subst (λ n. EachOf (OnlyBelow (staging n) (last_map m xs)) ys) (sym has.name) each in
    record {
      before = groups_of j.scope (judged_by units results);
      rest = [];
      whole = sym (append-nil (groups_of j.scope (judged_by units results)));
      last = g.last;
      maps = g.gone.maps;
      done = g.gone.done;
      rises = rise_still j.name g.last g.gone.maps xs ys g.gone.done.ends g.gone.rises
          (cleaned_each j g.last (last_map m xs) ys g.gone.done.closed g.over below);
      reads = reads_still j.name g.last g.gone.maps xs ys g.gone.done.ends g.reads
          (reads_cleaned j.name g.last (last_map m xs) ys g.over below);
    })
    a clean

pub clean_ends : (rules : CommitRules) (l : Loaded) (units : List WorkUnit) (results : List UnitResult)
    {old now new : Option Disk} → AddsMaps (GoesOverAll rules l units results) old now
    → Along (OnlyBelow (staging rules.job.now)) now new → AddsMaps (EndsAs (without_staging rules.job.now)) now new
    → AddsMaps (GoesToEnd rules l units results) old new
clean_ends rules l units results a clean ends = maps_then
    (λ m xs ys gone both j held settled has s.
    let g = gone j held settled has s in
    let gs = groups_of j.scope (judged_by units results) in
    let below : EachOf (OnlyBelow (staging j.name) (last_map m xs)) ys =
    subst (λ n. EachOf (OnlyBelow (staging n) (last_map m xs)) ys) (sym has.name) both.0 in
    let same : g.last ≡ last_map m (xs ++ ys) =
    sym (last-append m xs ys ∙ both.1 ∙ ap (λ n. without_staging n (last_map m xs)) (sym has.name)
    ∙ settled_same j.name g.last (last_map m xs) g.gone.done.closed g.over) in
    record {
      maps = g.gone.maps;
      done = subst (λ (n : Files). GroupsDone j held l.state settled gs n g.gone.maps) same g.gone.done;
      rises = rise_still j.name g.last g.gone.maps xs ys g.gone.done.ends g.gone.rises
          (cleaned_each j g.last (last_map m xs) ys g.gone.done.closed g.over below);
    })
    a (maps_both clean ends)

-- ---- what it came to

pub commits_are : (rules : CommitRules) (l last : Loaded) (units : List WorkUnit) (results : List UnitResult)
    (after : State) (flags : List Bool) → LeadsToLast rules l units results last
    → after ≡ state_or rules.branches last.state
    → flags ≡ map (is_committed rules.scope rules.policy (judged_by units results)) (judged_by units results)
    → CommitsAre rules l units results (record { after = after; committed = flags })
commits_are rules l last units results after flags leads is are = record {
  after = λ j has. is ∙ sym (empties j rules.branches last.state has.branches)
      ∙ ap (state_or_empty j) (leads.state j has);
  committed = are;
}

-- what holds of some units and results holds of the same ones
pub both_moved : (P : List WorkUnit → List UnitResult → Type 0) (us vs : List WorkUnit) (rs ss : List UnitResult)
    → us ≡ vs → rs ≡ ss → P us rs → P vs ss
both_moved P us vs rs ss a b h = subst (P vs) b (subst (λ (x : List WorkUnit). P x rs) a h)

pub loop_within : (units : List WorkUnit) (vs : List Places) (i : ℕ) (v : Places) → i < length vs → v ≡ get_or vs i v
    → ArePlaces units (map (λ (w : Places). w.items) vs) → All (λ p. p < length units) v.items
loop_within units vs i v below is are =
    All-from_recursion (λ p. p < length units) v.items
    (each_all (λ p. p < length units) v.items (λ p h. loop_below units vs v are (i, below, sym is) p h))
