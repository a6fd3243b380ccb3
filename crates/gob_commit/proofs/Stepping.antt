-- The maps of one commit: the state is staged, and then the sequence is done.
use Rattle.std.proofs.Common.{◌≡◌, ◌≢◌, ⊎_elim, ℕ, true, false, cond, ◌||◌, List, [], ◌∷◌, ◌++◌, refl, sym, ap}
use Rattle.std.proofs.Common.{subst, ◌∙◌, Some, None, IfSome, is_some, option_map}
use Rattle.std.specs.declared.option.Option.{Option}
use Rattle.std.specs.List.{Contains}
use Rattle.std.proofs.lemmas.List.{append-nil}
use Rattle.std.proofs.lemmas.List.Elements.{Contains-append_cases}
use Rattle.std.proofs.lemmas.List.Sorted.{IsPermutation-refl}
use Rattle.gob_bytes.proofs.Tables.{two_names}
use Rattle.gob_bytes.proofs.Options.{if_both}
use Rattle.gob_bytes.specs.Paths.{begins_with, sequence_name, staging, under}
use Rattle.gob_device.specs.Disk.{AddsMaps, Along, Both, Disk, EachOf, Files, OnlyAt, Rises, Went}
use Rattle.gob_device.specs.Disk.{after_append, after_create}
use Rattle.gob_device.specs.Disk.{after_sync, clean, last_map, synced_file, with_more}
use Rattle.gob_device.proofs.Trail.{along_map, each-map, last-append, maps_map, maps_nothing, maps_then, rises_on}
use Rattle.gob_ledger.specs.Delta.{Change}
use Rattle.gob_ledger.proofs.Members.{in_cases, in_map}
use Rattle.gob_recovery.specs.Commits.{OnlyBelow, part_done}
use Rattle.gob_recovery.specs.Sequence.{CommitStep, is_file_name, move, remove}
use Rattle.gob_recovery.specs.Settle.{SettlesAs, can_do, without_staging}
use Rattle.gob_recovery.proofs.Again.{not_staged}
use Rattle.gob_recovery.proofs.Commits.{staged_settles, without_alike, written}
use Rattle.gob_history.specs.Laws.{group_steps, moves_of, removes_of, staged_state}
use Rattle.gob_seq.specs.Maps.{CommitsByName, EndsAs, GoesOver, IsReady, SettlesWell, after_write}
use Rattle.gob_seq.proofs.Named.{below_job}
use Rattle.gob_seq.proofs.Trails.{maps_both, maps_known, rises_map}
use Rattle.gob_commit.specs.Going.{ChangeNamed, SortsPairs, StepsEnd, StepsRise, settled_by, with_state}
use Rattle.gob_commit.specs.Staged.{AreReadyToMove, NamesFit, Pair}
use Rattle.gob_commit.proofs.Differing.{list_all_of}
use Rattle.gob_commit.proofs.Fitting.{in_order, state_is_staged}
use Rattle.gob_commit.proofs.Reading.{reads_before, reads_then}

-- ---- the map with the state staged

pub state_there : (job : List ℕ) (c : Change) (m : Files) → with_state job c m (staged_state job) ≡ Some (clean c.text)
state_there job c m = written (staged_state job) c.text m

pub others_there : (job : List ℕ) (c : Change) (m : Files) (name : List ℕ) → name ≢ staged_state job
    → with_state job c m name ≡ m name
unfolding after_sync after_append after_create
others_there job c m name apart =
    let e = two_names name (staged_state job) apart in
    let made : Files = after_create (staged_state job) m in
    let more : Files = after_append (staged_state job) c.text made in
    ap (λ b. cond b (option_map synced_file (more (staged_state job))) (more name)) e
    ∙ (ap (λ b. cond b (option_map (with_more c.text) (made (staged_state job))) (made name)) e
    ∙ ap (λ b. cond b (Some (clean [])) (m name)) e)

not_the_state : (job name : List ℕ) → begins_with (staging job) name ≡ false → name ≢ staged_state job
not_the_state job name away e =
    let no : true ≡ false = sym (state_is_staged job) ∙ (ap (begins_with (staging job)) (sym e) ∙ away) in cc

pub state_below : (job : List ℕ) (c : Change) (m : Files) → OnlyBelow (staging job) m (with_state job c m)
state_below job c m = λ name away. others_there job c m name (not_the_state job name away)

only_below : (job : List ℕ) (m n : Files) → OnlyAt (staged_state job) m n → OnlyBelow (staging job) m n
only_below job m n only = λ name away. only name (not_the_state job name away)

-- the same without the staging
pub state_cleaned : (job : List ℕ) (c : Change) (m : Files)
    → without_staging job (with_state job c m) ≡ without_staging job m
state_cleaned job c m = without_alike job (with_state job c m) m (state_below job c m)

-- ---- the sequence can be done

moved_can : (job : List ℕ) (c : Change) (pairs : List Pair) (m : Files) (p : Pair) → AreReadyToMove job pairs m
    → NamesFit job pairs → Contains pairs p → can_do (with_state job c m) (move p.0 p.1) ≡ true
moved_can job c pairs m p there fit h =
    let here : is_some (with_state job c m p.0) ≡ true =
    ap is_some (others_there job c m p.0 (fit.apart p h)) ∙ there.there p h in
    ap (λ b. b || is_some (with_state job c m p.1)) here

each_can : (job : List ℕ) (c : Change) (pairs sorted : List Pair) (m : Files) (s : CommitStep)
    → AreReadyToMove job pairs m
    → NamesFit job pairs → SortsPairs job c pairs sorted → Contains (group_steps job c sorted) s
    → can_do (with_state job c m) s ≡ true
each_can job c pairs sorted m s there fit order h = ⊎_elim
    (λ k. let found = in_map (λ (p : Pair). move p.0 p.1) sorted s k in
    sym (ap (can_do (with_state job c m)) found.2) ∙ moved_can job c pairs m found.0 there fit (order.back found.0
    found.1))
    (λ k. ⊎_elim
    (λ e. sym (ap (can_do (with_state job c m)) e)
    ∙ ap (λ o. is_some o || is_some (with_state job c m c.target)) (state_there job c m))
    (λ l. let found = in_map (λ (n : List ℕ). remove n) c.removes s l in
    sym (ap (can_do (with_state job c m)) found.2))
    (in_cases (move (staged_state job) c.target) (removes_of c.removes) s k))
    (Contains-append_cases (moves_of sorted) (move (staged_state job) c.target ∷ removes_of c.removes) s h)

pub steps_ready : (job : List ℕ) (c : Change) (pairs sorted : List Pair) (m : Files) → AreReadyToMove job pairs m
    → NamesFit job pairs → SortsPairs job c pairs sorted → IsReady job (group_steps job c sorted) (with_state job c m)
steps_ready job c pairs sorted m there fit order = record {
  closed = others_there job c m (sequence_name job) (not_the_state job (sequence_name job) (not_staged job))
      ∙ there.closed;
  can = list_all_of (can_do (with_state job c m)) (group_steps job c sorted)
      (λ s h. each_can job c pairs sorted m s there fit order h);
}

-- ---- the maps in a row

-- where the pairs are there
abbrev pub WhereThere : List ℕ → List Pair → (Files → List Files → Type 0) → Files → List Files → Type 0
WhereThere job pairs P m xs = AreReadyToMove job pairs m → P m xs

pub where_there : (job : List ℕ) (pairs : List Pair) {P : Files → List Files → Type 0} {old new : Option Disk}
    → IfSome old (λ d. AreReadyToMove job pairs d.files) → AddsMaps (WhereThere job pairs P) old new
    → AddsMaps P old new
where_there job pairs {P} {old} there a = maps_known (if_both old (λ d t xs p. p t) there) a

as_before : (job : List ℕ) (m : Files) (xs : List Files) → m (sequence_name job) ≡ None
    → EachOf (OnlyAt (staged_state job) m) xs → EachOf (SettlesAs job (without_staging job m)) xs
as_before job m xs closed each =
    each-map (OnlyAt (staged_state job) m) (SettlesAs job (without_staging job m)) xs
    (λ n only. (staged_settles job m n closed (only_below job m n only)).1) each

all_below : (job : List ℕ) (m : Files) (xs : List Files) → EachOf (OnlyAt (staged_state job) m) xs
    → EachOf (OnlyBelow (staging job) m) xs
all_below job m xs each =
    each-map (OnlyAt (staged_state job) m) (OnlyBelow (staging job) m) xs (λ n only. only_below job m n only) each

before_rises : (job : List ℕ) (m n : Files) (xs : List Files) → EachOf (SettlesAs job (without_staging job m)) xs
    → Rises (SettlesAs job) (without_staging job m ∷ n ∷ []) xs
unfolding Rises
before_rises job m n xs each = (xs, [], sym (append-nil xs), each, ([], [], refl, tt, refl))

one_rises : (job : List ℕ) (m : Files) (xs : List Files) → EachOf (SettlesAs job (without_staging job m)) xs
    → Rises (SettlesAs job) (without_staging job m ∷ []) xs
unfolding Rises
one_rises job m xs each = (xs, [], sym (append-nil xs), each, refl)

then_rises : (job : List ℕ) (c : Change) (sorted : List Pair) (m last : Files) (xs ys : List Files)
    → EachOf (SettlesAs job (without_staging job m)) xs → last ≡ with_state job c m
    → GoesOver job (group_steps job c sorted) last ys
    → Rises (SettlesAs job) (without_staging job m ∷ settled_by job c sorted m ∷ []) (xs ++ ys)
then_rises job c sorted m last xs ys each is over =
    let here : GoesOver job (group_steps job c sorted) (with_state job c m) ys =
    subst (λ (n : Files). GoesOver job (group_steps job c sorted) n ys) is over in
    let weak : Rises (SettlesAs job) (without_staging job (with_state job c m) ∷ settled_by job c sorted m ∷ []) ys =
    rises_map (SettlesWell job) (SettlesAs job)
    (without_staging job (with_state job c m) ∷ settled_by job c sorted m ∷ []) ys (λ x n w. w.images) here in
    rises_on (SettlesAs job) [] (without_staging job m) (settled_by job c sorted m ∷ []) xs ys
    (one_rises job m xs each)
    (subst (λ (n : Files). Rises (SettlesAs job) (n ∷ settled_by job c sorted m ∷ []) ys) (state_cleaned job c m) weak)

-- ---- the maps of the calls

pub nothing_rises : (job : List ℕ) (c : Change) (pairs : List Pair) (o : Option Disk) → SortsPairs job c pairs pairs
    → AddsMaps (StepsRise job c pairs) o o
unfolding Rises
nothing_rises job c pairs o order = maps_nothing (StepsRise job c pairs)
    (λ m. record { sorted = pairs; order = order; rises = ([], [], refl, tt, ([], [], refl, tt, refl)); reads = tt }) o

pub as_it_is : (job : List ℕ) (c : Change) (pairs : List Pair) → is_file_name job ≡ true → NamesFit job pairs
    → ChangeNamed job c → SortsPairs job c pairs pairs
as_it_is job c pairs named fit change = in_order job c pairs pairs named (IsPermutation-refl pairs) fit change

pub written_rises : (job name : List ℕ) (c : Change) (pairs sorted : List Pair) {old new : Option Disk}
    → name ≡ staged_state job → SortsPairs job c pairs sorted → Along (OnlyAt name) old new
    → AddsMaps (WhereThere job pairs (StepsRise job c pairs)) old new
written_rises job name c pairs sorted {old} {new} is order a = maps_map
    (λ m xs each there. record {
      sorted = sorted;
      order = order;
      rises = before_rises job m (settled_by job c sorted m) xs (as_before job m xs there.closed each);
      reads = reads_before job m (settled_by job c sorted m) xs (all_below job m xs each);
    })
    (subst (λ n. Along (OnlyAt n) old new) is a)

-- the state was written
pub state_ends : (job name bytes : List ℕ) (c : Change) {old new : Option Disk} → name ≡ staged_state job
    → bytes ≡ c.text → AddsMaps (EndsAs (after_write name bytes)) old new → AddsMaps (EndsAs (with_state job c)) old new
state_ends job name bytes c {old} {new} named text a =
    subst (λ n. AddsMaps (EndsAs (after_write n c.text)) old new) named
    (subst (λ b. AddsMaps (EndsAs (after_write name b)) old new) text a)

pub ready_then : (job : List ℕ) (c : Change) (pairs sorted : List Pair) {old new : Option Disk} → NamesFit job pairs
    → SortsPairs job c pairs sorted → IfSome old (λ d. AreReadyToMove job pairs d.files)
    → AddsMaps (EndsAs (with_state job c)) old new
    → IfSome new (λ d. IsReady job (group_steps job c sorted) d.files)
ready_then job c pairs sorted {old} {new} fit order there a = told old new there a.told
  where
    told : (o n : Option Disk) → IfSome o (λ d. AreReadyToMove job pairs d.files)
        → Both (Went (EndsAs (with_state job c))) o n → IfSome n (λ d. IsReady job (group_steps job c sorted) d.files)
    told None None t w = tt
    told (Some d) None t w = tt
    told None (Some e) t w = absurd w
    told (Some d) (Some e) t w =
        subst (IsReady job (group_steps job c sorted)) (sym (w.stands ∙ w.holds))
        (steps_ready job c pairs sorted d.files t fit order)

pub done_rises : (job name : List ℕ) (c : Change) (pairs sorted : List Pair) {old between new : Option Disk}
    → name ≡ staged_state job → SortsPairs job c pairs sorted → Along (OnlyAt name) old between
    → AddsMaps (EndsAs (with_state job c)) old between
    → AddsMaps (GoesOver job (group_steps job c sorted)) between new
    → Along (CommitsByName job (group_steps job c sorted)) between new
    → AddsMaps (WhereThere job pairs (StepsRise job c pairs)) old new
done_rises job name c pairs sorted {old} {between} is order a ends b reads = maps_then
    (λ m xs ys p q there. record {
      sorted = sorted;
      order = order;
      rises = then_rises job c sorted m (last_map m xs) xs ys (as_before job m xs there.closed p.0) p.1 q.0;
      reads = reads_then job c sorted m (last_map m xs) xs ys (state_below job c m) (all_below job m xs p.0) p.1 q.1;
    })
    (maps_both (subst (λ n. Along (OnlyAt n) old between) is a) ends) (maps_both b reads)

pub done_ends : (job name : List ℕ) (c : Change) (pairs sorted : List Pair) {old between new : Option Disk}
    → name ≡ staged_state job → SortsPairs job c pairs sorted → Along (OnlyAt name) old between
    → AddsMaps (EndsAs (with_state job c)) old between
    → AddsMaps (GoesOver job (group_steps job c sorted)) between new
    → Along (CommitsByName job (group_steps job c sorted)) between new
    → AddsMaps (EndsAs (part_done job (group_steps job c sorted))) between new
    → AddsMaps (WhereThere job pairs (StepsEnd job c pairs)) old new
done_ends job name c pairs sorted {old} {between} {new} is order a ends b reads over = maps_then
    (λ m xs ys p q there. record {
      sorted = sorted;
      order = order;
      rises = then_rises job c sorted m (last_map m xs) xs ys (as_before job m xs there.closed p.0) p.1 q.0.0;
      reads = reads_then job c sorted m (last_map m xs) xs ys (state_below job c m) (all_below job m xs p.0) p.1 q.0.1;
      ends = last-append m xs ys ∙ (q.1 ∙ ap (part_done job (group_steps job c sorted)) p.1);
    })
    (maps_both (subst (λ n. Along (OnlyAt n) old between) is a) ends) (maps_both (maps_both b reads) over)

-- names of the job's folder alone
pub written_below : (job name : List ℕ) {old new : Option Disk} → name ≡ staged_state job
    → Along (OnlyAt name) old new → Along (OnlyBelow (under job [])) old new
written_below job name {old} {new} is a =
    along_map (OnlyAt (staged_state job)) (OnlyBelow (under job []))
    (λ m n only. below_job job m n (only_below job m n only))
    (subst (λ n. Along (OnlyAt n) old new) is a)
