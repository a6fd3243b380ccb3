-- What a group's commit leaves of the files that tell the state, and all in all.
use Rattle.std.proofs.Common.{◌≡◌, ◌≢◌, ◌⊎◌, inl, inr, ⊎_elim, ℕ, Bool, true, false, cond, List, [], ◌∷◌, ◌++◌, map}
use Rattle.std.proofs.Common.{length, refl, sym, ap, subst, ◌∙◌, Some, None, option_map}
use Rattle.std.specs.declared.option.Option.{Option}
use Rattle.std.specs.List.{Contains}
use Rattle.gob_bytes.specs.Paths.{begins_with, delta_folder, delta_name, keeps_state}
use Rattle.gob_bytes.proofs.Paths.{is_state_file}
use Rattle.gob_device.specs.Disk.{Files, clean, contents_of, contents_at}
use Rattle.gob_device.specs.Supply.{Held}
use Rattle.gob_meaning.specs.Job.{Job}
use Rattle.gob_ledger.specs.State.{State}
use Rattle.gob_ledger.specs.Next.{Judged}
use Rattle.gob_ledger.specs.Spelling.{version_number, Proper}
use Rattle.gob_ledger.specs.Delta.{Change, Kept, KeepsAs, ProperKept, StateFollows, change_of, earlier_changes}
use Rattle.gob_ledger.specs.Delta.{kept_next, last_run, small_change, state_of, wants_whole, whole_change}
use Rattle.gob_ledger.proofs.Changed.{change_keeps}
use Rattle.gob_ledger.proofs.DeltaNames.{change_below}
use Rattle.gob_ledger.proofs.Keeping.{kept_proper, changes_numbered}
use Rattle.gob_ledger.proofs.Members.{none_in, in_map}
use Rattle.gob_recovery.specs.Settle.{do_steps, without_staging}
use Rattle.gob_recovery.proofs.Again.{apart_from}
use Rattle.gob_history.specs.Runs.{PutsIn, done_in, kept_where, next_of_group, stored_where}
use Rattle.gob_history.specs.Laws.{CommittingAGroup, change_over, staged_state}
use Rattle.gob_history.proofs.Committing.{Pair, all_steps, Begun, left_at, after_at, state_in, map_left, remove_in}
use Rattle.gob_history.proofs.Fronts.{kept_unstaged, published_not_kept, makes_published}
use Rattle.gob_history.proofs.Kept.{is_change}
use Rattle.gob_history.proofs.Steps.{moves_there, removes_there}

-- ---- the files that tell the state, after the steps

abbrev After : Job → Files → List Pair → List ℕ → List ℕ → List (List ℕ) → Files
After job m pairs a b rs = without_staging job.name (do_steps (all_steps pairs a b rs) m)

kept_at : (job : Job) (held : Held) (done : List Judged) (before m : Files) (pairs : List Pair) (a b text : List ℕ)
    (rs : List (List ℕ)) → Begun job held done before m pairs a b text rs
    → (name : List ℕ) → keeps_state job.name name ≡ true
    → (name ≡ b) ⊎ Contains rs name ⊎ (After job m pairs a b rs name ≡ before name)
kept_at job held done before m pairs a b text rs g name k = ⊎_elim
    (λ x. let made = g.files.made x.0 x.1 in
    absurd (published_not_kept job.name x.0.1 (makes_published job.name job.plan held done x.0.1 made.0 made.2)
    (subst (λ q. keeps_state job.name q ≡ true) x.2 k)))
    (λ y. ⊎_elim (λ x. inl x.0) (λ z. ⊎_elim (λ x. inr (inl x.0)) (λ x. inr (inr x.0)) z) y)
    (left_at job held done before m pairs a b text rs g name (kept_unstaged job.name name k))

state_there : (job : Job) (held : Held) (done : List Judged) (before m : Files) (pairs : List Pair) (a b text : List ℕ)
    (rs : List (List ℕ)) → Begun job held done before m pairs a b text rs
    → contents_at (After job m pairs a b rs) b ≡ Some text
state_there job held done before m pairs a b text rs g =
    let ss = all_steps pairs a b rs in
    ap (option_map contents_of)
    (after_at job.name ss m b (kept_unstaged job.name b g.kept)
    ∙ moves_there ss m a b (clean text) (apart_from ss g.fits.differ) (state_in pairs a b rs) g.state)

gone_there : (job : Job) (held : Held) (done : List Judged) (before m : Files) (pairs : List Pair) (a b text : List ℕ)
    (rs : List (List ℕ)) → Begun job held done before m pairs a b text rs → (r : List ℕ) → Contains rs r
    → contents_at (After job m pairs a b rs) r ≡ None
gone_there job held done before m pairs a b text rs g r h =
    let ss = all_steps pairs a b rs in
    ap (option_map contents_of)
    (after_at job.name ss m r (kept_unstaged job.name r (g.removed r h))
    ∙ removes_there ss m r (apart_from ss g.fits.differ) (remove_in pairs a b rs r h))

-- ---- the change

names_kept : (job : List ℕ) (ts : List State) (r : List ℕ) → Contains (map (λ (t : State). delta_name job t.run) ts) r
    → keeps_state job r ≡ true
names_kept job ts r h = let x =
    in_map (λ (t : State). delta_name job t.run) ts r h in
    is_change job r (ap (begins_with (delta_folder job)) (sym x.2) ∙ change_below job x.0.run)

-- what the change stores and takes away tells the state
record ChangeFits (job : List ℕ) (c : Change) : Type 0 where
  target : keeps_state job c.target ≡ true
  removes : (r : List ℕ) → Contains c.removes r → keeps_state job r ≡ true

whole_fits : (job : List ℕ) (t : State) (rs : List (List ℕ)) → ((r : List ℕ) → Contains rs r → keeps_state job r ≡ true)
    → ChangeFits job (whole_change job rs t)
whole_fits job t rs each = record { target = is_state_file job; removes = each }

small_fits : (job : List ℕ) (s t : State) (n : ℕ) → ChangeFits job (small_change job s n t)
small_fits job s t n =
    record { target = is_change job (delta_name job t.run) (change_below job t.run); removes = λ r h. none_in r h }

earlier_kept : (job : List ℕ) (k : Kept) → ProperKept k → (r : List ℕ)
    → Contains (earlier_changes job (state_of k).run (length k.later)) r → keeps_state job r ≡ true
earlier_kept job k proper r h =
    names_kept job k.later r (subst (λ (rs : List (List ℕ)). Contains rs r) (sym (changes_numbered job k proper).1) h)

-- what is known of a commit: what it begins with where the change is this one
abbrev BegunWith : Job → Held → List Judged → Files → Files → List Pair → Change → Type 0
BegunWith job held done before m pairs c =
    Begun job held done before m pairs (staged_state job.name) c.target c.text c.removes

change_is : (job : List ℕ) (k : Kept) (t : State) → change_over job (Some k) t
    ≡ cond (wants_whole (version_number k.version) (length k.later) t)
    (whole_change job (earlier_changes job (state_of k).run (length k.later)) t)
    (small_change job (state_of k) (length k.later) t)
unfolding change_of
change_is job k t = refl

change_first : (job : List ℕ) (t : State) → change_over job None t ≡ whole_change job [] t
unfolding change_of
change_first job t = refl

either_fits : (job : List ℕ) (b : Bool) (c d : Change) → ChangeFits job c → ChangeFits job d
    → ChangeFits job (cond b c d)
either_fits job true c d x y = x
either_fits job false c d x y = y

change_fits : (job : List ℕ) (m : Files) (k : Option Kept) (t : State) → KeepsAs job m k
    → ChangeFits job (change_over job k t)
change_fits job m None t h =
    subst (ChangeFits job) (sym (change_first job t)) (whole_fits job t [] (λ r x. none_in r x))
change_fits job m (Some k) t h = subst (ChangeFits job) (sym (change_is job k t))
    (either_fits job (wants_whole (version_number k.version) (length k.later) t) _ _
    (whole_fits job t _ (earlier_kept job k h.1)) (small_fits job (state_of k) t (length k.later)))

keeps_next : (job : Job) (held : Held) (done : List Judged) (before m : Files) (pairs : List Pair) (k : Option Kept)
    (t : State) → KeepsAs job.name before k → Proper t
    → ((s : State) → option_map state_of k ≡ Some s → t.run ≢ last_run → StateFollows s t)
    → BegunWith job held done before m pairs (change_over job.name k t)
    → KeepsAs job.name (After job m pairs (staged_state job.name) (change_over job.name k t).target
    (change_over job.name k t).removes) (Some (kept_next k t))
keeps_next job held done before m pairs k t keeps own follows g =
    let c = change_over job.name k t in
    let a = staged_state job.name in
    change_keeps job.name before (After job m pairs a c.target c.removes) k t keeps own follows (record {
      target = state_there job held done before m pairs a c.target c.text c.removes g;
      removed = gone_there job held done before m pairs a c.target c.text c.removes g;
      others = λ name kept apart out. ⊎_elim
          (λ e. absurd (apart e))
          (λ x. ⊎_elim (λ h. absurd (out h)) (λ same. ap (option_map contents_of) same) x)
          (kept_at job held done before m pairs a c.target c.text c.removes g name kept);
    })

pub kept_is : (k : Option Kept) (next : Kept) (js : List Judged) → js ≢ [] → kept_where k next js ≡ Some next
kept_is k next [] some = absurd (some refl)
kept_is k next (d ∷ ds) some = refl

pub stored_some : (o : Option State) (next : State) (js : List Judged) → js ≢ [] → stored_where o next js ≡ Some next
stored_some o next [] some = absurd (some refl)
stored_some o next (d ∷ ds) some = refl

nothing_more : (xs : List Judged) → xs ++ [] ≡ xs
nothing_more [] = refl
nothing_more (x ∷ xs) = ap (λ (ys : List Judged). x ∷ ys) (nothing_more xs)

pub committing : CommittingAGroup
committing job held before m k group pairs is_settled keeps over some own follows files state fits =
    let next = next_of_group job (option_map state_of k) group in
    let change = change_over job.name k next in
    let change_of_it = change_fits job.name before k next keeps in
    let g : BegunWith job held (done_in job group) before m pairs change =
    record {
      settled = is_settled;
      over = over;
      files = files;
      state = state;
      kept = change_of_it.target;
      removed =
          change_of_it.removes;
      fits = fits;
    } in
    let left = map_left job held (done_in job group) before m pairs
    (staged_state job.name) change.target change.text change.removes g in
    let proper =
    kept_proper k next
    (λ l e. (by_kept l e keeps, λ far. follows (state_of l) (ap (option_map state_of) e) far)) own in
    let n = After job m pairs (staged_state job.name) change.target change.removes in
    let now : KeepsAs job.name n (Some (kept_next k next)) =
    keeps_next job held (done_in job group) before m pairs k next keeps own follows g in
    record {
      settled = left.settled;
      keeps = subst (KeepsAs job.name n) (sym (kept_is k (kept_next k next) (done_in job group) some)) now;
      left = record {
        stored = (
          Some (kept_next k next),
          now,
          ap (λ x. Some x) proper.1
              ∙ sym (stored_some (option_map state_of k) next (done_in job group) some),
        );
        published = subst (λ (js : List Judged). PutsIn job held js before n)
            (sym (nothing_more (done_in job group))) left.published;
        others = left.others;
      };
      lasting = left.lasting;
    }
  where
    by_kept : (l : Kept) → k ≡ Some l → KeepsAs job.name before k → ProperKept l
    by_kept l e h = (subst (KeepsAs job.name before) e h).1
