-- What the commit of one group leaves.
use Rattle.std.proofs.Common.{◌≡◌, ◌≢◌, ⊎_elim, inl, inr, ℕ, true, false, cond, List, [], ◌∷◌}
use Rattle.std.proofs.Common.{refl, sym, ap, subst, ◌∙◌, Some, None, option_map}
use Rattle.std.specs.declared.option.Option.{Option}
use Rattle.std.specs.List.{Contains}
use Rattle.std.proofs.lemmas.List.Elements.{Contains-append_cases}
use Rattle.gob_bytes.specs.Paths.{begins_with, sequence_name, staging}
use Rattle.gob_device.specs.Disk.{AddsMaps, Disk, EachOf, Files, Rises, after_remove, last_map}
use Rattle.gob_device.specs.Supply.{Held}
use Rattle.gob_device.proofs.Trail.{maps_map, maps_nothing}
use Rattle.gob_plan.specs.declared.units.Unit.{Unit as WorkUnit}
use Rattle.gob_plan.specs.declared.units.UnitResult.{UnitResult}
use Rattle.gob_meaning.specs.Job.{Job}
use Rattle.gob_ledger.specs.Delta.{Change, Kept, change_of, kept_next, state_of, StateFollows}
use Rattle.gob_ledger.specs.Next.{Judged, allowed_units}
use Rattle.gob_ledger.specs.Spelling.{Proper}
use Rattle.gob_ledger.specs.State.{State}
use Rattle.gob_ledger.proofs.Members.{in_cases, in_map}
use Rattle.gob_recovery.specs.Sequence.{move, remove}
use Rattle.gob_recovery.specs.Settle.{IsSettled, SettlesAs, do_steps, without_staging}
use Rattle.gob_recovery.proofs.Again.{not_staged, steps_apart}
use Rattle.gob_recovery.proofs.Commits.{sequences_apart}
use Rattle.gob_recovery.proofs.Opened.{steps_still}
use Rattle.gob_recovery.proofs.Settled.{cleaned_other, cleaned_staged}
use Rattle.gob_history.specs.Laws.{CommittedGroup, StagedFor, StagedOver, change_over, group_steps, moves_of}
use Rattle.gob_history.specs.Laws.{removes_of}
use Rattle.gob_history.specs.Laws.{staged_state}
use Rattle.gob_history.specs.Runs.{done_in, kept_where, next_of_group}
use Rattle.gob_history.proofs.Keeps.{committing, kept_is}
use Rattle.gob_segments.specs.declared.change.Loaded.{Loaded}
use Rattle.gob_state.specs.Committed.{judged_by}
use Rattle.gob_commit.specs.declared.rules.CommitRules.{CommitRules}
use Rattle.gob_commit.specs.Done.{PublishedFrom}
use Rattle.gob_commit.specs.Going.{GroupEnded, GroupEnds, GroupRises, GroupRose, SortsPairs, LeavesStaging}
use Rattle.gob_commit.specs.Going.{StagingLeft, StepsEnd, StepsRise, settled_by, with_state}
use Rattle.gob_segments.specs.Loading.{IsLoaded}
use Rattle.gob_commit.specs.Staged.{HasRules, HasStaged, Pair, all_pairs}
use Rattle.gob_commit.proofs.Fitting.{state_is_staged}
use Rattle.gob_commit.proofs.Joining.{joined}
use Rattle.gob_commit.proofs.Nexting.{NextOver, follows_if, next_is, now_loaded, some_allowed}
use Rattle.gob_commit.proofs.Parts.{parts_keep}
use Rattle.gob_commit.proofs.Stepping.{others_there, state_below, state_there}

-- a settled map is what is left without the staging
pub settled_same : (job : List ℕ) (settled m : Files) → IsSettled job settled → StagedOver job settled m
    → without_staging job m ≡ settled
settled_same job settled m closed over = λ i name. each name i
  where
    each : (name : List ℕ) → without_staging job m name ≡ settled name
    each name = elim (begins_with (staging job) name) as
        (λ b. begins_with (staging job) name ≡ b → without_staging job m name ≡ settled name) [
          | true ↦ λ e. cleaned_staged job m name e ∙ sym (closed.unstaged name e)
          | false ↦ λ e. cleaned_other job m name e ∙ over name e
        ] refl

abbrev pub group_change : List ℕ → Loaded → State → Change
group_change job l t = change_of job l.state l.deltas l.version t

abbrev pub Next : CommitRules → Loaded → List WorkUnit → List UnitResult → State → Type 0
Next rules l units results t =
    NextOver rules.branches rules.pipeline.now rules.policy l.state units results t

next_same : (j : Job) (held : Held) (rules : CommitRules) (l : Loaded) (units : List WorkUnit)
    (results : List UnitResult) (t : State) (settled m : Files) → HasRules j rules → Next rules l units results t
    → (s : HasStaged j held l units results settled m)
    → t ≡ next_of_group j (option_map state_of s.kept) (judged_by units results)
next_same j held rules l units results t settled m has n s =
    n.are ∙ sym (next_is j rules l.state units results has n.counted)
    ∙ ap (λ o. next_of_group j o (judged_by units results)) s.loaded.state

change_same : (j : Job) (held : Held) (rules : CommitRules) (l : Loaded) (units : List WorkUnit)
    (results : List UnitResult) (t : State) (settled m : Files) → HasRules j rules → Next rules l units results t
    → (s : HasStaged j held l units results settled m)
    → group_change rules.job.now l t
    ≡ change_over j.name s.kept (next_of_group j (option_map state_of s.kept) (judged_by units results))
change_same j held rules l units results t settled m has n s = λ i.
    change_of (sym has.name i) (s.loaded.state i) (s.loaded.deltas i) (s.loaded.version i)
    (next_same j held rules l units results t settled m has n s i)

some_done : (j : Job) (rules : CommitRules) (l : Loaded) (units : List WorkUnit) (results : List UnitResult)
    (t : State) → HasRules j rules → Next rules l units results t → done_in j (judged_by units results) ≢ []
some_done j rules l units results t has n = λ none.
    some_allowed rules.policy units results n.counted n.any
    (ap (λ p. allowed_units p (judged_by units results)) (sym has.policy) ∙ none)

sorted_staged : (j : Job) (held : Held) (done : List Judged) (m : Files) (c : Change) (pairs sorted : List Pair)
    → SortsPairs j.name c pairs sorted → ((p : Pair) → Contains pairs p → p.0 ≢ staged_state j.name)
    → StagedFor j held done m pairs → StagedFor j held done (with_state j.name c m) sorted
sorted_staged j held done m c pairs sorted order apart files = record {
  made = λ p h.
      let own = files.made p (order.back p h) in
      (own.0, others_there j.name c m p.0 (apart p (order.back p h)) ∙ own.1, own.2);
  all = λ name content made.
      let own = files.all name content made in
      (own.0, order.from own.0 own.1, own.2, others_there j.name c m own.0.0 (apart own.0 own.1) ∙ own.3);
}

committed_by : (j : Job) (held : Held) (rules : CommitRules) (l : Loaded) (units : List WorkUnit)
    (results : List UnitResult) (t : State) (settled m : Files) (sorted : List Pair) → HasRules j rules
    → Next rules l units results t → ((p : Pair) → Contains (all_pairs results) p → p.0 ≢ staged_state j.name)
    → (s : HasStaged j held l units results settled m)
    → let c = change_over j.name s.kept (next_of_group j (option_map state_of s.kept) (judged_by units results)) in
    SortsPairs j.name c (all_pairs results) sorted
    → CommittedGroup j held settled s.kept (judged_by units results) (settled_by j.name c sorted m)
committed_by j held rules l units results t settled m sorted has n apart s order =
    let g = judged_by units results in
    let next = next_of_group j (option_map state_of s.kept) g in
    let c = change_over j.name s.kept next in
    let same = next_same j held rules l units results t settled m has n s in
    let some = some_done j rules l units results t has n in
    committing j held settled (with_state j.name c m) s.kept g sorted s.closed s.keeps
    (λ name away. state_below j.name c m name away ∙ s.over name away)
    some (subst (λ (u : State). Proper u) same n.proper)
    (λ u e far. subst (StateFollows u) same
    (follows_if rules.branches rules.pipeline.now rules.policy l.state units results t u n (s.loaded.state ∙ e)
    (λ last. far (ap (λ (v : State). v.run) (sym same) ∙ last))))
    (sorted_staged j held (done_in j g) m c (all_pairs results) sorted order apart
    (joined j held m units results n.counted some s.staged))
    (state_there j.name c m) order.fits

-- ---- the clauses of the group's commit

apart_in : (j : Job) (rules : CommitRules) (results : List UnitResult) → HasRules j rules
    → ((p : Pair) → Contains (all_pairs results) p → p.0 ≢ staged_state rules.job.now)
    → (p : Pair) → Contains (all_pairs results) p → p.0 ≢ staged_state j.name
apart_in j rules results has apart = λ p h e. apart p h (e ∙ ap staged_state has.name)

rose_by : (j : Job) (held : Held) (rules : CommitRules) (l : Loaded) (units : List WorkUnit)
    (results : List UnitResult) (t : State) (settled m : Files) (added : List Files) → HasRules j rules
    → Next rules l units results t
    → ((p : Pair) → Contains (all_pairs results) p → p.0 ≢ staged_state rules.job.now)
    → StepsRise rules.job.now (group_change rules.job.now l t) (all_pairs results) m added
    → (s : HasStaged j held l units results settled m)
    → GroupRose j held settled s.kept (judged_by units results) added
rose_by j held rules l units results t settled m added has n apart rise s =
    let c = change_over j.name s.kept (next_of_group j (option_map state_of s.kept) (judged_by units results)) in
    let r : StepsRise j.name c (all_pairs results) m added =
    subst (λ (d : Change). StepsRise j.name d (all_pairs results) m added)
    (change_same j held rules l units results t settled m has n s)
    (subst (λ job. StepsRise job (group_change rules.job.now l t) (all_pairs results) m added) (sym has.name) rise) in
    inr (record {
      next = settled_by j.name c r.sorted m;
      left = inr (committed_by j held rules l units results t settled m r.sorted has n
          (apart_in j rules results has apart) s r.order);
      rises = subst (λ (k : Files). Rises (SettlesAs j.name) (k ∷ settled_by j.name c r.sorted m ∷ []) added)
          (settled_same j.name settled m s.closed s.over) r.rises;
      reads = subst (λ (k : Files). EachOf (PublishedFrom j.name (k ∷ settled_by j.name c r.sorted m ∷ [])) added)
          (settled_same j.name settled m s.closed s.over) r.reads;
    })

pub group_rises : (rules : CommitRules) (l : Loaded) (units : List WorkUnit) (results : List UnitResult) (t : State)
    {old new : Option Disk} → Next rules l units results t
    → ((p : Pair) → Contains (all_pairs results) p → p.0 ≢ staged_state rules.job.now)
    → AddsMaps (StepsRise rules.job.now (group_change rules.job.now l t) (all_pairs results)) old new
    → AddsMaps (GroupRises rules l units results) old new
group_rises rules l units results t n apart a =
    maps_map (λ m added rise j held settled has s.
    rose_by j held rules l units results t settled m added has n apart rise s) a

ended_by : (j : Job) (held : Held) (rules : CommitRules) (l : Loaded) (units : List WorkUnit)
    (results : List UnitResult) (t : State) (changes : ℕ) (settled m : Files) (added : List Files) → HasRules j rules
    → Next rules l units results t
    → ((p : Pair) → Contains (all_pairs results) p → p.0 ≢ staged_state rules.job.now)
    → changes ≡ (group_change rules.job.now l t).changes
    → StepsEnd rules.job.now (group_change rules.job.now l t) (all_pairs results) m added
    → (s : HasStaged j held l units results settled m)
    → GroupEnded j held settled s.kept (judged_by units results)
    (record { state = Some t; deltas = changes; version = 2 }) added (last_map m added)
ended_by j held rules l units results t changes settled m added has n apart counted end s =
    let g = judged_by units results in
    let next = next_of_group j (option_map state_of s.kept) g in
    let c = change_over j.name s.kept next in
    let same = change_same j held rules l units results t settled m has n s in
    let r : StepsEnd j.name c (all_pairs results) m added =
    subst (λ (d : Change). StepsEnd j.name d (all_pairs results) m added) same
    (subst (λ job. StepsEnd job (group_change rules.job.now l t) (all_pairs results) m added) (sym has.name) end) in
    let steps = group_steps j.name c r.sorted in
    record {
      next = settled_by j.name c r.sorted m;
      left = inr (committed_by j held rules l units results t settled m r.sorted has n
          (apart_in j rules results has apart) s r.order);
      rises = subst (λ (k : Files). Rises (SettlesAs j.name) (k ∷ settled_by j.name c r.sorted m ∷ []) added)
          (settled_same j.name settled m s.closed s.over) r.rises;
      reads = subst (λ (k : Files). EachOf (PublishedFrom j.name (k ∷ settled_by j.name c r.sorted m ∷ [])) added)
          (settled_same j.name settled m s.closed s.over) r.reads;
      over = λ name away. ap (λ (k : Files). k name) r.ends
          ∙ (parts_keep j.name steps (with_state j.name c m) r.order.fits).staged name away;
      loaded = subst (λ (k : Option Kept). IsLoaded k (record { state = Some t; deltas = changes; version = 2 }))
          (sym (kept_is s.kept (kept_next s.kept next) (done_in j g) (some_done j rules l units results t has n)))
          (subst (λ (u : State). IsLoaded (Some (kept_next s.kept next)) (record {
            state = Some u;
            deltas = changes;
            version = 2;
          }))
          (sym (next_same j held rules l units results t settled m has n s))
          (now_loaded j.name s.kept next changes (counted ∙ ap (λ (d : Change). d.changes) same)));
    }

pub group_ends : (rules : CommitRules) (l : Loaded) (units : List WorkUnit) (results : List UnitResult) (t : State)
    (changes : ℕ) {old new : Option Disk} → Next rules l units results t
    → ((p : Pair) → Contains (all_pairs results) p → p.0 ≢ staged_state rules.job.now)
    → changes ≡ (group_change rules.job.now l t).changes
    → AddsMaps (StepsEnd rules.job.now (group_change rules.job.now l t) (all_pairs results)) old new
    → AddsMaps (GroupEnds rules l units results (record { state = Some t; deltas = changes; version = 2 })) old new
group_ends rules l units results t changes n apart counted a =
    maps_map (λ m added end j held settled has s.
    ended_by j held rules l units results t changes settled m added has n apart counted end s) a

-- ---- what else is staged

unmoved : (job : List ℕ) (c : Change) (pairs sorted : List Pair) (name target : List ℕ) → SortsPairs job c pairs sorted
    → name ≢ staged_state job → ((p : Pair) → Contains pairs p → p.0 ≢ name)
    → Contains (group_steps job c sorted) (move name target) → ⊥
unmoved job c pairs sorted name target order other apart h = ⊎_elim
    (λ k. let found = in_map (λ (p : Pair). move p.0 p.1) sorted (move name target) k in
    let same : move found.0.0 found.0.1 ≡ move name target = found.2 in
    apart found.0 (order.back found.0 found.1) (let is : found.0.0 ≡ name = cc in is))
    (λ k. ⊎_elim
    (λ e. other (let is : name ≡ staged_state job = let same : move (staged_state job) c.target
    ≡ move name target = e in cc in is))
    (λ l. let found = in_map (λ (n : List ℕ). remove n) c.removes (move name target) l in
    let no : remove found.0 ≡ move name target = found.2 in cc)
    (in_cases (move (staged_state job) c.target) (removes_of c.removes) (move name target) k))
    (Contains-append_cases (moves_of sorted) (move (staged_state job) c.target ∷ removes_of c.removes) (move name
    target) h)

sequence_not_state : (job : List ℕ) → sequence_name job ≢ staged_state job
sequence_not_state job e =
    let no : true ≡ false = sym (state_is_staged job) ∙ (ap (begins_with (staging job)) (sym e) ∙ not_staged job) in cc

left_by : (job : List ℕ) (c : Change) (pairs : List Pair) (m : Files) (added : List Files)
    → StepsEnd job c pairs m added → StagingLeft job pairs m (last_map m added)
unfolding after_remove
left_by job c pairs m added e =
    let steps = group_steps job c e.sorted in
    let k : Files = with_state job c m in
    record {
      closed = λ none. ap (λ (n : Files). n (sequence_name job)) e.ends
          ∙ ap (λ b. cond b None (do_steps steps k (sequence_name job))) (sequences_apart job)
          ∙ steps_still steps k (sequence_name job) (steps_apart job steps e.order.fits.each)
          ∙ others_there job c m (sequence_name job) (sequence_not_state job)
          ∙ none;
      rest = λ name staged other unstate apart. ap (λ (n : Files). n name) e.ends
          ∙ (parts_keep job steps k e.order.fits).rest name staged other
          (λ target h. unmoved job c pairs e.sorted name target e.order unstate apart h)
          ∙ others_there job c m name unstate;
    }

pub group_leaves : (job : List ℕ) (c : Change) (pairs : List Pair) {old new : Option Disk}
    → AddsMaps (StepsEnd job c pairs) old new → AddsMaps (LeavesStaging job pairs) old new
group_leaves job c pairs a = maps_map (λ m added e. left_by job c pairs m added e) a

-- ---- a group of which nothing is committed

pub idle_rises : (rules : CommitRules) (l : Loaded) (units : List WorkUnit) (results : List UnitResult)
    (o : Option Disk) → AddsMaps (GroupRises rules l units results) o o
idle_rises rules l units results o = maps_nothing (GroupRises rules l units results)
    (λ m j held settled has s. inl (record { still = tt; reads = tt })) o

kept_still : (k : Option Kept) (next : Kept) (js : List Judged) → js ≡ [] → kept_where k next js ≡ k
kept_still k next js none = ap (kept_where k next) none

pub idle_ends : (rules : CommitRules) (l : Loaded) (units : List WorkUnit) (results : List UnitResult)
    (o : Option Disk) → allowed_units rules.policy (judged_by units results) ≡ []
    → AddsMaps (GroupEnds rules l units results l) o o
unfolding Rises
idle_ends rules l units results o none = maps_nothing (GroupEnds rules l units results l)
    (λ m j held settled has s.
    let nothing : done_in j (judged_by units results) ≡ [] =
    ap (λ p. allowed_units p (judged_by units results)) has.policy ∙ none in
    record {
      next = settled;
      left = inl (nothing, refl);
      rises = ([], [], refl, tt, ([], [], refl, tt, refl));
      reads = tt;
      over = s.over;
      loaded = subst (λ (k : Option Kept). IsLoaded k l)
          (sym (kept_still s.kept (kept_next s.kept (next_of_group j (option_map state_of s.kept) (judged_by units
          results)))
          (done_in j (judged_by units results)) nothing)) s.loaded;
    }) o

pub idle_leaves : (job : List ℕ) (pairs : List Pair) (o : Option Disk) → AddsMaps (LeavesStaging job pairs) o o
idle_leaves job pairs o = maps_nothing (LeavesStaging job pairs)
    (λ m. record { closed = λ none. none; rest = λ name staged other unstate apart. refl }) o
