-- The commits of a run's groups, one after the other.
use Rattle.std.proofs.Common.{◌≡◌, ◌≢◌, ⊎_elim, inl, inr, ℕ, suc, ◌^◌, ◌≤◌, true, false, not, List, []}
use Rattle.std.proofs.Common.{◌∷◌, ◌++◌}
use Rattle.std.proofs.Common.{map, length, refl, sym, ap, subst, ◌∙◌, arith, None, IfSome, IsSome, option_map}
use Rattle.std.proofs.Common.{is_some}
use Rattle.std.proofs.Common.{append_assoc, append-nil}
use Rattle.std.specs.declared.option.Option.{Option}
use Rattle.std.specs.List.{Contains}
use Rattle.std.specs.Str.{bytes_eq}
use Rattle.std.proofs.lemmas.Bool.{and_parts}
use Rattle.gob_bytes.proofs.Tables.{name_itself}
use Rattle.gob_bytes.proofs.Options.{if_both}
use Rattle.gob_bytes.specs.Paths.{begins_with, sequence_name, staging}
use Rattle.gob_device.specs.Disk.{AddsMaps, Disk, EachOf, Files, Rises, last_map}
use Rattle.gob_device.specs.Supply.{Held}
use Rattle.gob_device.proofs.Trail.{last-append, maps_map, maps_then, rises_on}
use Rattle.gob_plan.specs.declared.units.Unit.{Unit as WorkUnit}
use Rattle.gob_plan.specs.declared.units.UnitResult.{UnitResult}
use Rattle.gob_meaning.specs.Job.{Job}
use Rattle.gob_ledger.specs.Delta.{Kept, KeepsAs, state_of}
use Rattle.gob_ledger.specs.Groups.{groups_of}
use Rattle.gob_ledger.specs.Laws.{EachApart}
use Rattle.gob_ledger.specs.Next.{Judged, allowed_units, next_state}
use Rattle.gob_ledger.specs.State.{State}
use Rattle.gob_ledger.specs.Units.{UnitsFit}
use Rattle.gob_ledger.proofs.Grouping.{others_fit}
use Rattle.gob_ledger.proofs.Members.{first_in, flat_map_in, in_cases, in_map, later_in, map_in, none_in}
use Rattle.gob_recovery.specs.Commits.{staged_sequence}
use Rattle.gob_recovery.specs.Settle.{SettlesAs}
use Rattle.gob_history.specs.Laws.{StagedFor, StagedOver}
use Rattle.gob_history.specs.Runs.{after_group, after_groups, kept_after, kept_after_group, stored_where}
use Rattle.gob_segments.specs.declared.change.Loaded.{Loaded}
use Rattle.gob_seq.proofs.Trails.{maps_both, maps_still}
use Rattle.gob_state.specs.Committed.{judged_by, verdict_in, verdicts_in}
use Rattle.gob_commit.specs.declared.rules.CommitRules.{CommitRules}
use Rattle.gob_commit.specs.Done.{EndsWith, GroupsDone, PublishApart, PublishedFrom}
use Rattle.gob_commit.specs.Going.{CommitsAlong, GoesOverAll, GoneAlong, GroupEnds, GroupRises}
use Rattle.gob_commit.specs.Going.{GroupRose, LeadsToLast, LeadsToNext, LeavesStaging, LeftByGroup}
use Rattle.gob_commit.specs.Laws.{HasRange}
use Rattle.gob_segments.specs.Loading.{IsLoaded, LoadedFits}
use Rattle.gob_commit.specs.Staged.{AreReadyToMove, CanCommit, HasRules, HasStaged, PulledUnit, NamesFit, Pair}
use Rattle.gob_commit.specs.Staged.{RunHasStaged}
use Rattle.gob_commit.specs.Staged.{all_pairs, judged_of, pairs_in, state_or}
use Rattle.gob_commit.proofs.Beginning.{none_done}
use Rattle.gob_commit.proofs.Doing.{kept_more, one_more, uncommitted}
use Rattle.gob_commit.proofs.Fitting.{source_below, source_staged}
use Rattle.gob_commit.proofs.Names.{apart_units}
use Rattle.gob_commit.proofs.Nexting.{next_is}
use Rattle.gob_commit.proofs.Reading.{reads_on, reads_still}
use Rattle.gob_commit.proofs.Splitting.{Split, group_apart, group_fit, group_is, group_made, group_pairs}
use Rattle.gob_commit.proofs.Splitting.{group_units_fit, judged_in_groups, made_in, pair_in, rest_apart, results_in}
use Rattle.gob_commit.proofs.Splitting.{sources_apart, split_apart, unit_in, units_in, units_judged}

-- ---- what is known, told or not

-- these groups are committed, and those can still be
pub record SoFar (rules : CommitRules) (l0 : Loaded) (before rest : List (List PulledUnit)) (l : Loaded) : Type 0 where
  pub fits : LoadedFits l
  pub state : (j : Job) → HasRules j rules → l.state ≡ after_groups j l0.state (judged_in_groups before)
  pub units : (g : List PulledUnit) → Contains rest g → UnitsFit (state_or rules.branches l.state).parts (units_in g)

pub so_far_first : (rules : CommitRules) (l : Loaded) (units : List WorkUnit) (results : List UnitResult)
    (gs : List (List PulledUnit)) → CanCommit rules l units results → Split rules units results gs
    → SoFar rules l [] gs l
so_far_first rules l units results gs can s = record {
  fits = can.loaded;
  state = λ j has. refl;
  units = λ g h. let found = s.each g h in
      group_units_fit (state_or rules.branches l.state).parts units results found.0 g can.can.counted found.1
      can.can.fits;
}

after_more : (j : Job) (o : Option State) (before : List (List Judged)) (g : List Judged)
    → after_groups j o (before ++ g ∷ []) ≡ after_group j (after_groups j o before) g
after_more j o [] g = refl
after_more j o (h ∷ hs) g = after_more j (after_group j o h) hs g

judged_more : (before : List (List PulledUnit)) (g : List PulledUnit)
    → judged_in_groups (before ++ g ∷ []) ≡ judged_in_groups before ++ map judged_of g ∷ []
judged_more [] g = refl
judged_more (b ∷ bs) g = ap (λ (xs : List (List Judged)). map judged_of b ∷ xs) (judged_more bs g)

judged_whole : (before rest : List (List PulledUnit)) (g : List PulledUnit)
    → judged_in_groups (before ++ g ∷ rest) ≡ judged_in_groups before ++ map judged_of g ∷ judged_in_groups rest
judged_whole [] rest g = refl
judged_whole (b ∷ bs) rest g = ap (λ (xs : List (List Judged)). map judged_of b ∷ xs) (judged_whole bs rest g)

same_counts : (g : List PulledUnit) → length (results_in g) ≡ length (units_in g)
same_counts [] = refl
same_counts (w ∷ ws) = ap suc (same_counts ws)

-- what a group leads to, as the definitions have it
leads_as : (j : Job) (rules : CommitRules) (l : Loaded) (g : List PulledUnit) (after : Loaded) → HasRules j rules
    → LeadsToNext rules l (units_in g) (results_in g) after → after.state ≡ after_group j l.state (map judged_of g)
leads_as j rules l g after has leads =
    leads.state
    ∙ (λ i. stored_where l.state
    ((sym (next_is j rules l.state (units_in g) (results_in g) has (same_counts g))) i)
    (allowed_units (sym has.policy i) (judged_by (units_in g) (results_in g))))
    ∙ ap (after_group j l.state) (group_is g)

verdicts_judged : (g : List PulledUnit) → map (λ (j : Judged). j.1) (map judged_of g) ≡ verdicts_in (results_in g)
verdicts_judged [] = refl
verdicts_judged (w ∷ ws) = λ i. verdict_in w.1 ∷ verdicts_judged ws i

fit_stored : (branches : ℕ) (o : Option State) (next : State) (js : List Judged) (units : List WorkUnit)
    → UnitsFit (state_or branches o).parts units → UnitsFit next.parts units
    → UnitsFit (state_or branches (stored_where o next js)).parts units
fit_stored branches o next [] units a b = a
fit_stored branches o next (d ∷ ds) units a b = b

pub so_far_more : (rules : CommitRules) (l0 l after : Loaded) (units : List WorkUnit) (results : List UnitResult)
    (before rest : List (List PulledUnit)) (g : List PulledUnit) → Split rules units results (before ++ g ∷ rest)
    → SoFar rules l0 before (g ∷ rest) l → LeadsToNext rules l (units_in g) (results_in g) after
    → SoFar rules l0 (before ++ g ∷ []) rest after
so_far_more rules l0 l after units results before rest g s so leads =
    let apart = subst EachApart (judged_whole before rest g) (split_apart rules units results (before ++ g ∷ rest) s) in
    record {
      fits = leads.fits;
      state = λ j has.
          leads_as j rules l g after has leads
          ∙ ap (λ o. after_group j o (map judged_of g)) (so.state j has)
          ∙ sym (after_more j l0.state (judged_in_groups before) (map judged_of g))
          ∙ ap (after_groups j l0.state) (sym (judged_more before g));
      units = λ h k.
          let fit = so.units h (later_in g rest h k) in
          let other : UnitsFit (next_state (state_or rules.branches l.state) rules.pipeline.now (units_in g)
          (verdicts_in (results_in g)) rules.policy).parts (units_in h) =
          subst (λ (us : List WorkUnit). UnitsFit (next_state (state_or rules.branches l.state) rules.pipeline.now
          (units_in g) (verdicts_in (results_in g)) rules.policy).parts us) (units_judged h)
          (subst (λ (t : State). UnitsFit t.parts (map (λ (i : Judged). i.0) (map judged_of h)))
          (λ i. next_state (state_or rules.branches l.state) rules.pipeline.now (units_judged g i) (verdicts_judged g i)
          rules.policy)
          (others_fit (state_or rules.branches l.state) rules.pipeline.now (map judged_of g)
          (map judged_of h) rules.policy
          (rest_apart (judged_in_groups before) (judged_in_groups rest) (map judged_of g) apart (map judged_of h)
          (map_in (map judged_of) rest h k))
          (subst (UnitsFit (state_or rules.branches l.state).parts) (sym (units_judged h)) fit))) in
          subst (λ o. UnitsFit (state_or rules.branches o).parts (units_in h)) (sym leads.state)
          (fit_stored rules.branches l.state _ (allowed_units rules.policy (judged_by (units_in g) (results_in g)))
          (units_in h) fit other);
    }

pub so_far_last : (rules : CommitRules) (l0 l : Loaded) (units : List WorkUnit) (results : List UnitResult)
    (gs : List (List PulledUnit)) → Split rules units results gs → SoFar rules l0 gs [] l
    → LeadsToLast rules l0 units results l
so_far_last rules l0 l units results gs s so = record {
  fits = so.fits;
  state = λ j has. so.state j has
      ∙ ap (after_groups j l0.state) (s.are ∙ ap (λ c. groups_of c (judged_by units results)) (sym has.scope));
}

-- ---- what a volume tells

-- over the last commit's map
pub record CameOver (j : Job) (held : Held) (o : Option State) (k : Option Kept) (before : List (List Judged))
    (settled : Files) (l : Loaded) (added : List Files) (now : Files) : Type 0 where
  pub last : Files
  pub maps : List Files
  pub done : GroupsDone j held o settled before last maps
  pub rises : Rises (SettlesAs j.name) maps added
  pub reads : EachOf (PublishedFrom j.name maps) added
  pub over : StagedOver j.name last now
  pub loaded : IsLoaded (kept_after j k before) l

pub record Came (rules : CommitRules) (l0 : Loaded) (units : List WorkUnit) (results : List UnitResult)
    (before rest : List (List PulledUnit)) (l : Loaded) (m : Files) (added : List Files) : Type 0 where
  pub closed : last_map m added (sequence_name rules.job.now) ≡ None
  pub there : (p : Pair) → Contains (all_pairs results) p → IsSome (m p.0)
  pub same : (g : List PulledUnit) → Contains rest g → (p : Pair) → Contains (group_pairs g) p → last_map m added p.0
      ≡ m p.0
  pub along : (j : Job) (held : Held) (settled : Files) → HasRules j rules
      → (s : RunHasStaged j held l0 units results settled m)
      → CameOver j held l0.state s.has.kept (judged_in_groups before) settled l added (last_map m added)

came_here : (rules : CommitRules) (l : Loaded) (units : List WorkUnit) (results : List UnitResult)
    (gs : List (List PulledUnit)) (m : Files) → AreReadyToMove rules.job.now (all_pairs results) m
    → Came rules l units results [] gs l m []
unfolding Rises
came_here rules l units results gs m there = record {
  closed = there.closed;
  there = there.there;
  same = λ g h p k. refl;
  along = λ j held settled has s. record {
    last = settled;
    maps = settled ∷ [];
    done = none_done j held l units results settled m s.has;
    rises = ([], [], refl, tt, refl);
    reads = tt;
    over = s.has.over;
    loaded = s.has.loaded;
  };
}

pub came_first : (rules : CommitRules) (l : Loaded) (units : List WorkUnit) (results : List UnitResult)
    (gs : List (List PulledUnit)) (o : Option Disk) → IfSome o
    (λ d. AreReadyToMove rules.job.now (all_pairs results) d.files)
    → AddsMaps (Came rules l units results [] gs l) o o
came_first rules l units results gs o there =
    maps_still (Came rules l units results [] gs l) o
    (if_both o (λ d t. came_here rules l units results gs d.files t) there)

pub in_row : {X : Type 0} (bs rest : List X) (g : X) → Contains (bs ++ g ∷ rest) g
in_row [] rest g = first_in g rest g refl
in_row (b ∷ bs) rest g = later_in b (bs ++ g ∷ rest) g (in_row bs rest g)

-- the group's staged files are still there
pub group_there : (rules : CommitRules) (l0 l : Loaded) (units : List WorkUnit) (results : List UnitResult)
    (before rest : List (List PulledUnit)) (g : List PulledUnit) (m : Files) (added : List Files)
    → length results ≡ length units → Split rules units results (before ++ g ∷ rest)
    → Came rules l0 units results before (g ∷ rest) l m added
    → AreReadyToMove rules.job.now (group_pairs g) (last_map m added)
group_there rules l0 l units results before rest g m added counted s c = record {
  closed = c.closed;
  there = λ p h.
      ap is_some (c.same g (first_in g rest g refl) p h)
      ∙ c.there p (pair_in units results g p counted
      (λ w k. made_in rules units results (before ++ g ∷ rest) g w s (in_row before rest g) k) h);
}

-- ---- one group more

-- the last map of some, behind the others
ends_split : (last : Files) (maps : List Files) → EndsWith last maps
    → (front : List Files) × (maps ≡ front ++ last ∷ [])
ends_split last [] e = absurd e
ends_split last (m ∷ []) e = ([], ap (λ (n : Files). n ∷ []) (sym e))
ends_split last (m ∷ n ∷ ns) e =
    let later = ends_split last (n ∷ ns) e in (m ∷ later.0, ap (λ (ms : List Files). m ∷ ms) later.1)

-- maps that rise up to the last one, and then on
rise_on : (job : List ℕ) (last next : Files) (maps xs ys : List Files) → EndsWith last maps
    → Rises (SettlesAs job) maps xs → Rises (SettlesAs job) (last ∷ next ∷ []) ys
    → Rises (SettlesAs job) (maps ++ next ∷ []) (xs ++ ys)
rise_on job last next maps xs ys ends a b =
    let split = ends_split last maps ends in
    subst (λ (ms : List Files). Rises (SettlesAs job) ms (xs ++ ys))
    (sym (ap (λ (ms : List Files). ms ++ next ∷ []) split.1 ∙ append_assoc split.0 (last ∷ []) (next ∷ [])))
    (rises_on (SettlesAs job) split.0 last (next ∷ []) xs ys
    (subst (λ (ms : List Files). Rises (SettlesAs job) ms xs) split.1 a) b)

one_rises : (job : List ℕ) (last : Files) (ys : List Files) → EachOf (SettlesAs job last) ys
    → Rises (SettlesAs job) (last ∷ []) ys
unfolding Rises
one_rises job last ys each = (ys, [], sym (append-nil ys), each, refl)

-- maps that rise up to the last one, and then settle as it does
pub rise_still : (job : List ℕ) (last : Files) (maps xs ys : List Files) → EndsWith last maps
    → Rises (SettlesAs job) maps xs → EachOf (SettlesAs job last) ys → Rises (SettlesAs job) maps (xs ++ ys)
rise_still job last maps xs ys ends a each =
    let split = ends_split last maps ends in
    subst (λ (ms : List Files). Rises (SettlesAs job) ms (xs ++ ys)) (sym split.1)
    (rises_on (SettlesAs job) split.0 last [] xs ys
    (subst (λ (ms : List Files). Rises (SettlesAs job) ms xs) split.1 a) (one_rises job last ys each))

staged_there : (j : Job) (held : Held) (js : List Judged) (m now : Files) (pairs : List Pair)
    → ((p : Pair) → Contains pairs p → now p.0 ≡ m p.0) → StagedFor j held js m pairs → StagedFor j held js now pairs
staged_there j held js m now pairs same files = record {
  made = λ p h. let own = files.made p h in (own.0, same p h ∙ own.1, own.2);
  all = λ name content made. let own = files.all name content made in
      (own.0, own.1, own.2, same own.0 own.1 ∙ own.3);
}

own_pairs : (g : List PulledUnit) (w : PulledUnit) (p : Pair) → Contains g w → Contains (pairs_in w.1) p
    → Contains (group_pairs g) p
own_pairs g w p h k = flat_map_in pairs_in (results_in g) w.1 p (map_in (λ (v : PulledUnit). v.1) g w h) k

in_before : {X : Type 0} (bs rest : List X) (g h : X) → Contains bs h → Contains (bs ++ g ∷ rest) h
in_before [] rest g h k = none_in h k
in_before (b ∷ bs) rest g h k = ⊎_elim
    (λ e. first_in b (bs ++ g ∷ rest) h e)
    (λ l. later_in b (bs ++ g ∷ rest) h (in_before bs rest g h l))
    (in_cases b bs h k)

in_behind : {X : Type 0} (bs rest : List X) (g h : X) → Contains rest h → Contains (bs ++ g ∷ rest) h
in_behind [] rest g h k = later_in g rest h k
in_behind (b ∷ bs) rest g h k = later_in b (bs ++ g ∷ rest) h (in_behind bs rest g h k)

-- what the group finds
group_has : (rules : CommitRules) (l0 l : Loaded) (units : List WorkUnit) (results : List UnitResult)
    (before rest : List (List PulledUnit)) (g : List PulledUnit) (m : Files) (added : List Files)
    → Split rules units results (before ++ g ∷ rest) → Came rules l0 units results before (g ∷ rest) l m added
    → (j : Job) (held : Held) (settled : Files) → (s : RunHasStaged j held l0 units results settled m)
    → (c : CameOver j held l0.state s.has.kept (judged_in_groups before) settled l added (last_map m added))
    → HasStaged j held l (units_in g) (results_in g) c.last (last_map m added)
group_has rules l0 l units results before rest g m added split came j held settled s c = record {
  closed = c.done.closed;
  kept = kept_after j s.has.kept (judged_in_groups before);
  keeps = c.done.keeps s.has.kept s.has.keeps;
  loaded = c.loaded;
  over = c.over;
  staged = λ w h good.
      let here : Contains g w = subst (λ (x : List PulledUnit). Contains x w) (group_made g) h in
      staged_there j held (judged_of w ∷ []) m (last_map m added) (pairs_in w.1)
      (λ p k. came.same g (first_in g rest g refl) p (own_pairs g w p here k))
      (s.has.staged w (made_in rules units results (before ++ g ∷ rest) g w split (in_row before rest g) here) good);
}

publish_apart : (rules : CommitRules) (l0 : Loaded) (units : List WorkUnit) (results : List UnitResult)
    (before rest : List (List PulledUnit)) (g : List PulledUnit) (m : Files) → CanCommit rules l0 units results
    → Split rules units results (before ++ g ∷ rest)
    → (j : Job) (held : Held) (settled : Files) → HasRules j rules → RunHasStaged j held l0 units results settled m
    → PublishApart j held (judged_in_groups before) (map judged_of g)
publish_apart rules l0 units results before rest g m can split j held settled has s =
    let apart = subst EachApart (judged_whole before rest g) (split_apart rules units results (before ++ g ∷ rest)
    split) in
    let ranged : (h : List PulledUnit) (i : Judged) → Contains (before ++ g ∷ rest) h → Contains (map judged_of h) i
    → HasRange i =
    λ h i k z. let w = in_map judged_of h i z in
    subst HasRange w.2 (s.ranges w.0.0 (unit_in units results w.0 can.can.counted
    (made_in rules units results (before ++ g ∷ rest) h w.0 split k w.1))) in
    apart_units j held (judged_in_groups before) (map judged_of g)
    (few (length j.plan.branches) rules.branches has.branches can.branches.1)
    (λ gj i k z. let h = in_map (map judged_of) before gj k in
    ranged h.0 i (in_before before rest g h.0 h.1) (subst (λ (x : List Judged). Contains x i) (sym h.2) z))
    (λ i z. ranged g i (in_row before rest g) z)
    (λ gj k. group_apart (judged_in_groups before) (judged_in_groups rest) (map judged_of g) apart gj k)
  where
    few : (n b : ℕ) → n ≡ b → b ≤ 8 → n ≤ 2 ^ 64
    few n b e le = omega arith

-- the groups with one more
done_more : (j : Job) (held : Held) (o : Option State) (settled last next : Files) (k : Option Kept)
    (before : List (List Judged)) (g : List Judged) (maps : List Files) → KeepsAs j.name settled k
    → option_map state_of k ≡ o → GroupsDone j held o settled before last maps → PublishApart j held before g
    → LeftByGroup j held last (kept_after j k before) g next
    → GroupsDone j held o settled (before ++ g ∷ []) next (maps ++ next ∷ [])
done_more j held o settled last next k before g maps keeps stored done apart (inl idle) =
    subst (λ (n : Files). GroupsDone j held o settled (before ++ g ∷ []) n (maps ++ n ∷ [])) (sym idle.1)
    (uncommitted j held o settled last before g maps idle.0 done)
done_more j held o settled last next k before g maps keeps stored done apart (inr left) =
    one_more j held o settled last next k before g maps keeps stored done apart left

over_more : (rules : CommitRules) (l0 l after : Loaded) (units : List WorkUnit) (results : List UnitResult)
    (before rest : List (List PulledUnit)) (g : List PulledUnit) (m : Files) (xs ys : List Files)
    → CanCommit rules l0 units results → Split rules units results (before ++ g ∷ rest)
    → Came rules l0 units results before (g ∷ rest) l m xs
    → GroupEnds rules l (units_in g) (results_in g) after (last_map m xs) ys
    → (j : Job) (held : Held) (settled : Files) → HasRules j rules → (s : RunHasStaged j held l0 units results settled
    m)
    → CameOver j held l0.state s.has.kept (judged_in_groups (before ++ g ∷ [])) settled after (xs ++ ys)
    (last_map (last_map m xs) ys)
unfolding group_has
over_more rules l0 l after units results before rest g m xs ys can split came ends j held settled has s =
    let c = came.along j held settled has s in
    let b = judged_in_groups before in
    let e = ends j held c.last has (group_has rules l0 l units results before rest g m xs split came j held settled s
    c) in
    let left : LeftByGroup j held c.last (kept_after j s.has.kept b) (map judged_of g) e.next =
    subst (λ (x : List Judged). LeftByGroup j held c.last (kept_after j s.has.kept b) x e.next) (group_is g) e.left in
    let done = done_more j held l0.state settled c.last e.next s.has.kept b (map judged_of g) c.maps s.has.keeps
    (sym s.has.loaded.state) c.done
    (publish_apart rules l0 units results before rest g m can split j held settled has s) left in
    record {
      last = e.next;
      maps = c.maps ++ e.next ∷ [];
      done = subst (λ (x : List (List Judged)). GroupsDone j held l0.state settled x e.next (c.maps ++ e.next ∷ []))
          (sym (judged_more before g)) done;
      rises = rise_on j.name c.last e.next c.maps xs ys c.done.ends c.rises e.rises;
      reads = reads_on j.name c.last e.next c.maps xs ys c.done.ends c.reads e.reads;
      over = e.over;
      loaded = subst (λ (k : Option Kept). IsLoaded k after)
          (ap (kept_after_group j (kept_after j s.has.kept b)) (group_is g)
          ∙ sym (kept_more j b (map judged_of g) s.has.kept)
          ∙ ap (kept_after j s.has.kept) (sym (judged_more before g))) e.loaded;
    }

source_not_sequence : (job : List ℕ) (pairs : List Pair) (p : Pair) → NamesFit job pairs → Contains pairs p
    → p.0 ≢ staged_sequence job
source_not_sequence job pairs p fit h e =
    let isnt : not (bytes_eq p.0 (staged_sequence job)) ≡ true =
    (and_parts (begins_with (staging job) p.0) (not (bytes_eq p.0 (staged_sequence job))) (source_staged job pairs p
    fit h)).1 in
    let is : bytes_eq p.0 (staged_sequence job) ≡ true =
    subst (λ x. bytes_eq p.0 x ≡ true) e (name_itself p.0) in
    let no : false ≡ true = ap not (sym is) ∙ isnt in cc

came_more : (rules : CommitRules) (l0 l after : Loaded) (units : List WorkUnit) (results : List UnitResult)
    (before rest : List (List PulledUnit)) (g : List PulledUnit) (m : Files) (xs ys : List Files)
    → CanCommit rules l0 units results → Split rules units results (before ++ g ∷ rest)
    → Came rules l0 units results before (g ∷ rest) l m xs
    → GroupEnds rules l (units_in g) (results_in g) after (last_map m xs) ys
    → LeavesStaging rules.job.now (group_pairs g) (last_map m xs) ys
    → Came rules l0 units results (before ++ g ∷ []) rest after m (xs ++ ys)
came_more rules l0 l after units results before rest g m xs ys can split came ends leaves =
    let job = rules.job.now in
    let apart = subst EachApart (judged_whole before rest g) (split_apart rules units results (before ++ g ∷ rest)
    split) in
    record {
      closed = ap (λ (n : Files). n (sequence_name job)) (last-append m xs ys) ∙ leaves.closed came.closed;
      there = came.there;
      same = λ h k p z.
          let whole : Contains (before ++ g ∷ rest) h = in_behind before rest g h k in
          let found = split.each h whole in
          let fit = group_fit job units results found.0 h can.can.counted found.1 can.names in
          ap (λ (n : Files). n p.0) (last-append m xs ys)
          ∙ leaves.rest p.0 (source_below job (group_pairs h) p fit z) (source_not_sequence job (group_pairs h) p fit z)
          (fit.apart p z)
          (λ q y. sources_apart units results g h q p job can.can.counted can.names
          (rest_apart (judged_in_groups before) (judged_in_groups rest) (map judged_of g) apart (map judged_of h)
          (map_in (map judged_of) rest h k))
          (λ w x. made_in rules units results (before ++ g ∷ rest) g w split (in_row before rest g) x)
          (λ w x. made_in rules units results (before ++ g ∷ rest) h w split whole x) y z)
          ∙ came.same h (later_in g rest h k) p z;
      along = λ j held settled has s.
          subst (λ (n : Files). CameOver j held l0.state s.has.kept (judged_in_groups (before ++ g ∷ [])) settled after
          (xs ++ ys) n) (sym (last-append m xs ys))
          (over_more rules l0 l after units results before rest g m xs ys can split came ends j held settled has s);
    }

groups_are : (rules : CommitRules) (units : List WorkUnit) (results : List UnitResult) (gs : List (List PulledUnit))
    (j : Job) → HasRules j rules → Split rules units results gs
    → groups_of j.scope (judged_by units results) ≡ judged_in_groups gs
groups_are rules units results gs j has split =
    ap (λ c. groups_of c (judged_by units results)) has.scope ∙ sym split.are

judged_both : (before rest : List (List PulledUnit))
    → judged_in_groups (before ++ rest) ≡ judged_in_groups before ++ judged_in_groups rest
judged_both [] rest = refl
judged_both (b ∷ bs) rest = ap (λ (xs : List (List Judged)). map judged_of b ∷ xs) (judged_both bs rest)

broken : (rules : CommitRules) (l0 l : Loaded) (units : List WorkUnit) (results : List UnitResult)
    (before rest : List (List PulledUnit)) (g : List PulledUnit) (m : Files) (xs ys : List Files)
    → CanCommit rules l0 units results → Split rules units results (before ++ g ∷ rest)
    → Came rules l0 units results before (g ∷ rest) l m xs
    → GroupRises rules l (units_in g) (results_in g) (last_map m xs) ys
    → (j : Job) (held : Held) (settled : Files) → HasRules j rules → (s : RunHasStaged j held l0 units results settled
    m)
    → GoneAlong j held l0.state (groups_of j.scope (judged_by units results)) settled (xs ++ ys)
unfolding group_has
broken rules l0 l units results before rest g m xs ys can split came rise j held settled has s =
    cases (rise j held c.last has here)
  where
    c : CameOver j held l0.state s.has.kept (judged_in_groups before) settled l xs (last_map m xs)
    c = came.along j held settled has s

    here : HasStaged j held l (units_in g) (results_in g) c.last (last_map m xs)
    here = group_has rules l0 l units results before rest g m xs split came j held settled s c

    whole : groups_of j.scope (judged_by units results)
        ≡ judged_in_groups before ++ map judged_of g ∷ judged_in_groups rest
    whole = groups_are rules units results (before ++ g ∷ rest) j has split ∙ judged_whole before rest g

    cases : GroupRose j held c.last here.kept (judged_by (units_in g) (results_in g)) ys
        → GoneAlong j held l0.state (groups_of j.scope (judged_by units results)) settled (xs ++ ys)
    cases (inl stayed) = record {
      before = judged_in_groups before;
      rest = map judged_of g ∷ judged_in_groups rest;
      whole = whole;
      last = c.last;
      maps = c.maps;
      done = c.done;
      rises = rise_still j.name c.last c.maps xs ys c.done.ends c.rises stayed.still;
      reads = reads_still j.name c.last c.maps xs ys c.done.ends c.reads stayed.reads;
    }
    cases (inr went) = record {
      before = judged_in_groups before ++ map judged_of g ∷ [];
      rest = judged_in_groups rest;
      whole = whole ∙ sym (append_assoc (judged_in_groups before) (map judged_of g ∷ []) (judged_in_groups rest));
      last = went.next;
      maps = c.maps ++ went.next ∷ [];
      done = done_more j held l0.state settled c.last went.next s.has.kept (judged_in_groups before) (map judged_of g)
          c.maps s.has.keeps (sym s.has.loaded.state) c.done
          (publish_apart rules l0 units results before rest g m can split j held settled has s)
          (subst (λ (x : List Judged). LeftByGroup j held c.last here.kept x went.next) (group_is g) went.left);
      rises = rise_on j.name c.last went.next c.maps xs ys c.done.ends c.rises went.rises;
      reads = reads_on j.name c.last went.next c.maps xs ys c.done.ends c.reads went.reads;
    }

-- ---- the maps of the calls

pub come_more : (rules : CommitRules) (l0 l after : Loaded) (units : List WorkUnit) (results : List UnitResult)
    (before rest : List (List PulledUnit)) (g : List PulledUnit) {old between new : Option Disk}
    → CanCommit rules l0 units results → Split rules units results (before ++ g ∷ rest)
    → AddsMaps (Came rules l0 units results before (g ∷ rest) l) old between
    → AddsMaps (GroupEnds rules l (units_in g) (results_in g) after) between new
    → AddsMaps (LeavesStaging rules.job.now (group_pairs g)) between new
    → AddsMaps (Came rules l0 units results (before ++ g ∷ []) rest after) old new
come_more rules l0 l after units results before rest g can split a ends leaves = maps_then
    (λ m xs ys p q. came_more rules l0 l after units results before rest g m xs ys can split p q.0 q.1)
    a (maps_both ends leaves)

-- stopped before the next group
pub come_stopped : (rules : CommitRules) (l0 l : Loaded) (units : List WorkUnit) (results : List UnitResult)
    (before rest : List (List PulledUnit)) {old new : Option Disk} → Split rules units results (before ++ rest)
    → AddsMaps (Came rules l0 units results before rest l) old new
    → AddsMaps (CommitsAlong rules l0 units results) old new
come_stopped rules l0 l units results before rest split a = maps_map
    (λ m added came j held settled has s.
    let c = came.along j held settled has s in
    record {
      before = judged_in_groups before;
      rest = judged_in_groups rest;
      whole = groups_are rules units results (before ++ rest) j has split ∙ judged_both before rest;
      last = c.last;
      maps = c.maps;
      done = c.done;
      rises = c.rises;
      reads = c.reads;
    }) a

-- stopped within the next group
pub come_broken : (rules : CommitRules) (l0 l : Loaded) (units : List WorkUnit) (results : List UnitResult)
    (before rest : List (List PulledUnit)) (g : List PulledUnit) {old between new : Option Disk}
    → CanCommit rules l0 units results → Split rules units results (before ++ g ∷ rest)
    → AddsMaps (Came rules l0 units results before (g ∷ rest) l) old between
    → AddsMaps (GroupRises rules l (units_in g) (results_in g)) between new
    → AddsMaps (CommitsAlong rules l0 units results) old new
come_broken rules l0 l units results before rest g can split a rises = maps_then
    (λ m xs ys came rise j held settled has s.
    broken rules l0 l units results before rest g m xs ys can split came rise j held settled has s)
    a rises

-- all groups
pub come_to_end : (rules : CommitRules) (l0 l : Loaded) (units : List WorkUnit) (results : List UnitResult)
    (gs : List (List PulledUnit)) {old new : Option Disk} → Split rules units results gs
    → AddsMaps (Came rules l0 units results gs [] l) old new → AddsMaps (GoesOverAll rules l0 units results) old new
come_to_end rules l0 l units results gs split a = maps_map
    (λ m added came j held settled has s.
    let c = came.along j held settled has s in
    record {
      last = c.last;
      gone = record {
        maps = c.maps;
        done = subst (λ (x : List (List Judged)). GroupsDone j held l0.state settled x c.last c.maps)
            (sym (groups_are rules units results gs j has split)) c.done;
        rises = c.rises;
      };
      over = c.over;
      reads = c.reads;
    }) a
