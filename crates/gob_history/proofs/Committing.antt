-- What the steps of a group's commit leave, name by name.
use Rattle.std.proofs.Common.{◌≡◌, ◌⊎◌, inl, inr, ⊎_elim, ℕ, Bool, true, false, cond, ◌&&◌, List, [], ◌∷◌, ◌++◌, refl}
use Rattle.std.proofs.Common.{sym, ap, subst, ◌∙◌, Some, None, option_map}
use Rattle.std.specs.List.{AllByRecursion, Contains, list_all}
use Rattle.std.specs.Str.{bytes_eq}
use Rattle.std.proofs.lemmas.Bool.{and_parts}
use Rattle.gob_bytes.proofs.Tables.{name_itself, same_name}
use Rattle.gob_bytes.specs.Paths.{begins_with, staging, sequence_name, keeps_state, is_published}
use Rattle.gob_device.specs.Disk.{Files, clean, contents_of, contents_at}
use Rattle.gob_device.specs.Supply.{Held}
use Rattle.gob_meaning.specs.Job.{Job}
use Rattle.gob_ledger.specs.Next.{Judged}
use Rattle.gob_ledger.specs.Expected.{IsPublished}
use Rattle.gob_ledger.proofs.Changes.{all_member}
use Rattle.gob_ledger.proofs.Members.{none_in, first_in, later_in, in_cases}
use Rattle.gob_recovery.specs.Sequence.{CommitStep, move, remove, step_fits, is_staged, is_lasting, is_file_name}
use Rattle.gob_recovery.specs.Sequence.{WellFormed}
use Rattle.gob_recovery.specs.Settle.{do_steps, without_staging, IsSettled}
use Rattle.gob_recovery.proofs.Again.{Off, apart_from, source_of, steps_apart, not_staged}
use Rattle.gob_recovery.proofs.Opened.{steps_still}
use Rattle.gob_history.specs.Runs.{PutsIn, OthersStay}
use Rattle.gob_history.specs.Laws.{Lasting, StagedFor, StagedOver, moves_of, removes_of}
use Rattle.gob_history.proofs.Steps.{moves_there, removes_there}
use Rattle.gob_history.proofs.Fronts.{makes_published, published_unstaged, published_not_kept}

step_staged : (job source target : List ℕ) → step_fits job (move source target) ≡ true
    → begins_with (staging job) source ≡ true
step_staged job source target e =
    let outer = and_parts (is_staged job source && is_lasting job target && is_file_name source) _ e in
    let inner = and_parts (is_staged job source && is_lasting job target) _ outer.0 in
    (and_parts (begins_with (staging job) source) _ (and_parts (is_staged job source) (is_lasting job target)
    inner.0).0).0

not_source : (job name source : List ℕ) → begins_with (staging job) name ≡ false
    → begins_with (staging job) source ≡ true → (b : Bool) → bytes_eq name source ≡ b → bytes_eq name source ≡ false
not_source job name source un is false e = e
not_source job name source un is true e = absurd (let no : true ≡ false = sym is
    ∙ (ap (begins_with (staging job)) (sym (same_name name source e)) ∙ un) in cc)

-- a name that isn't staged: a move's target, a removed one, or none of the steps'
where_or : (P : Type 0) (job name : List ℕ) (ss : List CommitStep) → begins_with (staging job) name ≡ false
    → list_all (step_fits job) ss ≡ true
    → ((source target : List ℕ) → Contains ss (move source target) → name ≡ target → P)
    → ((other : List ℕ) → Contains ss (remove other) → name ≡ other → P) → (AllByRecursion (λ t. Off t name) ss → P)
    → P
where_or P job name [] un fits moved gone off = off tt
where_or P job name (s ∷ ss) un fits moved gone off =
    let f = and_parts (step_fits job s) (list_all (step_fits job) ss) fits in
    cases s refl f.0 (λ g. where_or P job name ss un f.1 (λ a b h e. moved a b (later_in s ss (move a b) h) e)
    (λ o h e. gone o (later_in s ss (remove o) h) e) g)
  where
    by_target : (source target : List ℕ) → s ≡ move source target → step_fits job s ≡ true → (b : Bool)
        → bytes_eq name target ≡ b → ((AllByRecursion (λ t. Off t name) ss → P) → P) → P
    by_target source target is fit true e rest = moved source target (first_in s ss (move source target) is)
        (same_name name target e)
    by_target source target is fit false e rest = rest (λ o. off (
      subst (λ t. Off t name) (sym is) (
        not_source job name source un (step_staged job source target (subst (λ t. step_fits job t ≡ true) is fit))
            (bytes_eq name source) refl,
        (e, tt),
      ),
      o,
    ))

    by_name : (other : List ℕ) → s ≡ remove other → (b : Bool) → bytes_eq name other ≡ b
        → ((AllByRecursion (λ t. Off t name) ss → P) → P) → P
    by_name other is true e rest = gone other (first_in s ss (remove other) is) (same_name name other e)
    by_name other is false e rest = rest (λ o. off (subst (λ t. Off t name) (sym is) (e, tt), o))

    cases : (t : CommitStep) → s ≡ t → step_fits job s ≡ true → ((AllByRecursion (λ t. Off t name) ss → P) → P) → P
    cases (move source target) is fit rest = by_target source target is fit (bytes_eq name target) refl rest
    cases (remove other) is fit rest = by_name other is (bytes_eq name other) refl rest

abbrev target_of : CommitStep → List ℕ
target_of (move source target) = target
target_of (remove name) = name

abbrev pub Pair : Type 0
Pair = List ℕ × List ℕ

abbrev pub all_steps : List Pair → List ℕ → List ℕ → List (List ℕ) → List CommitStep
all_steps pairs a b rs = moves_of pairs ++ move a b ∷ removes_of rs

no_move : (P : Type 0) (rs : List (List ℕ)) (s t : List ℕ) → Contains (removes_of rs) (move s t) → P
no_move P [] s t h = none_in (move s t) h
no_move P (r ∷ rs) s t h = ⊎_elim (λ e. absurd (let no : remove r ≡ move s t = e in cc)) (λ k. no_move P rs s t k)
    (in_cases (remove r) (removes_of rs) (move s t) h)

in_moves : (pairs : List Pair) (a b : List ℕ) (rs : List (List ℕ)) (s t : List ℕ)
    → Contains (all_steps pairs a b rs) (move s t) → ((p : Pair) × Contains pairs p × (p.0 ≡ s) × (p.1 ≡ t))
    ⊎ ((a ≡ s) × (b ≡ t))
in_moves [] a b rs s t h = ⊎_elim (λ e. inr (ap source_of e, ap target_of e)) (λ k. no_move _ rs s t k)
    (in_cases (move a b) (removes_of rs) (move s t) h)
in_moves (p ∷ ps) a b rs s t h = ⊎_elim
    (λ e. inl (p, first_in p ps p refl, ap source_of e, ap target_of e))
    (λ k. ⊎_elim (λ x. inl (x.0, later_in p ps x.0 x.1, x.2, x.3)) (λ x. inr x) (in_moves ps a b rs s t k))
    (in_cases (move p.0 p.1) (all_steps ps a b rs) (move s t) h)

in_rest : (rs : List (List ℕ)) (r : List ℕ) → Contains (removes_of rs) (remove r) → Contains rs r
in_rest [] r h = none_in (remove r) h
in_rest (x ∷ xs) r h = ⊎_elim (λ e. first_in x xs r (ap source_of e)) (λ k. later_in x xs r (in_rest xs r k))
    (in_cases (remove x) (removes_of xs) (remove r) h)

in_removes : (pairs : List Pair) (a b : List ℕ) (rs : List (List ℕ)) (r : List ℕ)
    → Contains (all_steps pairs a b rs) (remove r) → Contains rs r
in_removes [] a b rs r h = ⊎_elim (λ e. absurd (let no : move a b ≡ remove r = e in cc)) (λ k. in_rest rs r k)
    (in_cases (move a b) (removes_of rs) (remove r) h)
in_removes (p ∷ ps) a b rs r h = ⊎_elim (λ e. absurd (let no : move p.0 p.1 ≡ remove r = e in cc))
    (λ k. in_removes ps a b rs r k) (in_cases (move p.0 p.1) (all_steps ps a b rs) (remove r) h)

pair_in : (pairs : List Pair) (a b : List ℕ) (rs : List (List ℕ)) (p : Pair) → Contains pairs p
    → Contains (all_steps pairs a b rs) (move p.0 p.1)
pair_in [] a b rs p h = none_in p h
pair_in (q ∷ qs) a b rs p h = ⊎_elim
    (λ e. first_in (move q.0 q.1) (all_steps qs a b rs) (move p.0 p.1) (ap (λ (x : Pair). move x.0 x.1) e))
    (λ k. later_in (move q.0 q.1) (all_steps qs a b rs) (move p.0 p.1) (pair_in qs a b rs p k))
    (in_cases q qs p h)

pub state_in : (pairs : List Pair) (a b : List ℕ) (rs : List (List ℕ)) → Contains (all_steps pairs a b rs) (move a b)
state_in [] a b rs = first_in (move a b) (removes_of rs) (move a b) refl
state_in (q ∷ qs) a b rs = later_in (move q.0 q.1) (all_steps qs a b rs) (move a b) (state_in qs a b rs)

rest_in : (rs : List (List ℕ)) (r : List ℕ) → Contains rs r → Contains (removes_of rs) (remove r)
rest_in [] r h = none_in r h
rest_in (x ∷ xs) r h = ⊎_elim (λ e. first_in (remove x) (removes_of xs) (remove r) (ap (λ y. remove y) e))
    (λ k. later_in (remove x) (removes_of xs) (remove r) (rest_in xs r k)) (in_cases x xs r h)

pub remove_in : (pairs : List Pair) (a b : List ℕ) (rs : List (List ℕ)) (r : List ℕ) → Contains rs r
    → Contains (all_steps pairs a b rs) (remove r)
remove_in [] a b rs r h = later_in (move a b) (removes_of rs) (remove r) (rest_in rs r h)
remove_in (q ∷ qs) a b rs r h = later_in (move q.0 q.1) (all_steps qs a b rs) (remove r) (remove_in qs a b rs r h)

pub after_at : (job : List ℕ) (ss : List CommitStep) (m : Files) (name : List ℕ)
    → begins_with (staging job) name ≡ false → without_staging job (do_steps ss m) name ≡ do_steps ss m name
unfolding without_staging
after_at job ss m name e = ap (λ b. cond b None (do_steps ss m name)) e

after_none : (job : List ℕ) (ss : List CommitStep) (m : Files) (name : List ℕ) → begins_with (staging job) name ≡ true
    → without_staging job (do_steps ss m) name ≡ None
unfolding without_staging
after_none job ss m name e = ap (λ b. cond b None (do_steps ss m name)) e

-- what a commit begins with, over the settled map
pub record Begun (job : Job) (held : Held) (done : List Judged) (before m : Files) (pairs : List Pair)
    (a b text : List ℕ) (rs : List (List ℕ)) : Type 0 where
  pub settled : IsSettled job.name before
  pub over : StagedOver job.name before m
  pub files : StagedFor job held done m pairs
  pub state : m a ≡ Some (clean text)
  pub kept : keeps_state job.name b ≡ true
  pub removed : (r : List ℕ) → Contains rs r → keeps_state job.name r ≡ true
  pub fits : WellFormed job.name (all_steps pairs a b rs)

-- what it leaves at a name that isn't staged
abbrev pub Left : Job → List Pair → List ℕ → List ℕ → List (List ℕ) → Files → Files → List ℕ → Type 0
Left job pairs b text rs settled n name =
    ((p : Pair) × Contains pairs p × (name ≡ p.1)) ⊎ ((name ≡ b) × (n name ≡ Some (clean text)))
    ⊎ (Contains rs name × (n name ≡ None)) ⊎ ((n name ≡ settled name)
    × ((p : Pair) → Contains pairs p → bytes_eq name p.1 ≡ false))

pub left_at : (job : Job) (held : Held) (done : List Judged) (before m : Files) (pairs : List Pair) (a b text : List ℕ)
    (rs : List (List ℕ)) → Begun job held done before m pairs a b text rs
    → (name : List ℕ) → begins_with (staging job.name) name ≡ false
    → Left job pairs b text rs before (without_staging job.name (do_steps (all_steps pairs a b rs) m)) name
left_at job held done before m pairs a b text rs g name un =
    let ss = all_steps pairs a b rs in
    let apart = apart_from ss g.fits.differ in
    where_or (Left job pairs b text rs before (without_staging job.name (do_steps ss m)) name) job.name name ss un
    g.fits.each
    (λ s t h e. ⊎_elim
    (λ x. inl (x.0, x.1, e ∙ sym x.3))
    (λ x. inr (inl (
      e ∙ sym x.1,
      after_at job.name ss m name un
          ∙ (ap (do_steps ss m) (e ∙ sym x.1) ∙ moves_there ss m a b (clean text) apart (state_in pairs a b rs)
          g.state),
    )))
    (in_moves pairs a b rs s t h))
    (λ r h e. inr (inr (inl (
      subst (Contains rs) (sym e) (in_removes pairs a b rs r h),
      after_at job.name ss m name un
          ∙ (ap (do_steps ss m) e ∙ removes_there ss m r apart h),
    ))))
    (λ off. inr (inr (inr (
      after_at job.name ss m name un ∙ (steps_still ss m name off ∙ g.over name un),
      λ p h. (all_member (λ t. Off t name) ss (move p.0 p.1) off (pair_in pairs a b rs p h)).1.0,
    ))))

pair_left : (job : Job) (held : Held) (done : List Judged) (before m : Files) (pairs : List Pair) (a b text : List ℕ)
    (rs : List (List ℕ)) → Begun job held done before m pairs a b text rs
    → (p : Pair) → Contains pairs p → (c : List ℕ) → m p.0 ≡ Some (clean c) → begins_with (staging job.name) p.1 ≡ false
    → without_staging job.name (do_steps (all_steps pairs a b rs) m) p.1 ≡ Some (clean c)
pair_left job held done before m pairs a b text rs g p h c here un =
    let ss = all_steps pairs a b rs in after_at job.name ss m p.1 un
    ∙ moves_there ss m p.0 p.1 (clean c) (apart_from ss g.fits.differ) (pair_in pairs a b rs p h) here

-- published files, all others, and that nothing can be lost in part
pub record MapLeft (job : Job) (held : Held) (done : List Judged) (before n : Files) : Type 0 where
  pub settled : IsSettled job.name n
  pub published : PutsIn job held done before n
  pub others : OthersStay job.name before n
  pub lasting : Lasting before n

some_text : (x y : List ℕ) → Some x ≡ Some y → x ≡ y
some_text x y e = cc

pub map_left : (job : Job) (held : Held) (done : List Judged) (before m : Files) (pairs : List Pair) (a b text : List ℕ)
    (rs : List (List ℕ)) → Begun job held done before m pairs a b text rs
    → MapLeft job held done before (without_staging job.name (do_steps (all_steps pairs a b rs) m))
map_left job held done before m pairs a b text rs g = record {
  settled = record {
    closed = after_at job.name ss m (sequence_name job.name) (not_staged job.name)
        ∙ (steps_still ss m (sequence_name job.name) (steps_apart job.name ss g.fits.each)
        ∙ (g.over (sequence_name job.name) (not_staged job.name) ∙ g.settled.closed));
    unstaged = λ name e. after_none job.name ss m name e;
  };
  published = λ name content p.
      let un = published_unstaged job.name name p in (
        λ here. ⊎_elim
            (λ x. let made = g.files.made x.0 x.1 in
            let there = pair_left job held done before m pairs a b text rs g x.0 x.1 made.0 made.1
            (subst (λ q. begins_with (staging job.name) q ≡ false) x.2 un) in
            let same : made.0 ≡ content = some_text made.0 content
            (sym (ap (λ q. contents_at n q) x.2 ∙ ap (option_map contents_of) there) ∙ here) in
            inl (subst (λ q. IsPublished job.name job.plan held done q content) (sym x.2)
            (subst (IsPublished job.name job.plan held done x.0.1) same made.2)))
            (λ y. ⊎_elim
            (λ x. absurd (published_not_kept job.name name p (subst (λ q. keeps_state job.name q ≡ true) (sym x.0)
            g.kept)))
            (λ z. ⊎_elim
            (λ x. absurd (published_not_kept job.name name p (g.removed name x.0)))
            (λ x. inr (
              ap (option_map contents_of) (sym x.0) ∙ here,
              λ other u. let t = g.files.all name other u in
                  let no : true ≡ false = sym (name_itself name) ∙ (ap (bytes_eq name) (sym t.2) ∙ x.1 t.0 t.1) in cc,
            ))
            z)
            y)
            (left_at job held done before m pairs a b text rs g name un),
        λ either. ⊎_elim
            (λ u. let t = g.files.all name content u in
            ap (λ q. contents_at n q) (sym t.2) ∙ ap (option_map contents_of)
            (pair_left job held done before m pairs a b text rs g t.0 t.1 content t.3
            (subst (λ q. begins_with (staging job.name) q ≡ false) (sym t.2) un)))
            (λ v. ⊎_elim
            (λ x. let made = g.files.made x.0 x.1 in absurd (v.1 made.0
            (subst (λ q. IsPublished job.name job.plan held done q made.0) (sym x.2) made.2)))
            (λ y. ⊎_elim
            (λ x. absurd (published_not_kept job.name name p (subst (λ q. keeps_state job.name q ≡ true) (sym x.0)
            g.kept)))
            (λ z. ⊎_elim (λ x. absurd (published_not_kept job.name name p (g.removed name x.0)))
            (λ x. ap (option_map contents_of) x.0 ∙ v.0) z)
            y)
            (left_at job held done before m pairs a b text rs g name un))
            either,
      );
  others = λ name p k. staged_or name
      (λ e. after_none job.name ss m name e ∙ sym (g.settled.unstaged name e))
      (λ un. ⊎_elim
      (λ x. let made = g.files.made x.0 x.1 in
      absurd (let no : true ≡ false = sym (makes_published job.name job.plan held done x.0.1 made.0 made.2)
      ∙ (ap (is_published job.name) (sym x.2) ∙ p) in cc))
      (λ y. ⊎_elim
      (λ x. absurd (let no : true ≡ false = sym g.kept ∙ (ap (keeps_state job.name) (sym x.0) ∙ k) in cc))
      (λ z. ⊎_elim (λ x. absurd (let no : true ≡ false = sym (g.removed name x.0) ∙ k in cc)) (λ x. x.0) z)
      y)
      (left_at job held done before m pairs a b text rs g name un));
  lasting = λ name. staged_or name
      (λ e. inr (inl (after_none job.name ss m name e)))
      (λ un. ⊎_elim
      (λ x. let made = g.files.made x.0 x.1 in inr (inr (
        made.0,
        ap n x.2
            ∙ pair_left job held done before m pairs a b text rs g x.0 x.1 made.0 made.1
            (subst (λ q. begins_with (staging job.name) q ≡ false) x.2 un),
      )))
      (λ y. ⊎_elim (λ x. inr (inr (text, x.1))) (λ z. ⊎_elim (λ x. inr (inl x.1)) (λ x. inl x.0) z) y)
      (left_at job held done before m pairs a b text rs g name un));
}
  where
    ss : List CommitStep
    ss = all_steps pairs a b rs

    n : Files
    n = without_staging job.name (do_steps ss m)

    staged_or : {P : Type 0} (name : List ℕ) → (begins_with (staging job.name) name ≡ true → P)
        → (begins_with (staging job.name) name ≡ false → P) → P
    staged_or {P} name there apart = elim (begins_with (staging job.name) name) as
        (λ v. begins_with (staging job.name) name ≡ v → P) [ true ↦ λ e. there e | false ↦ λ e. apart e ] refl
