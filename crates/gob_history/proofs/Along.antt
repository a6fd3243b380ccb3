-- Every map of a history stands for a state.
use Rattle.std.proofs.Common.{◌≡◌, ◌⊎◌, inl, inr, ⊎_elim, ℕ, Bool, true, false, cond, ◌&&◌, ◌||◌, nat_eq, List, [], ◌∷◌}
use Rattle.std.proofs.Common.{◌++◌, option_map, is_some, refl, sym, ap, subst, ◌∙◌, Some, None, codes, not}
use Rattle.std.specs.declared.option.Option.{Option}
use Rattle.std.specs.List.{Any, Contains, list_all}
use Rattle.std.specs.Str.{bytes_eq}
use Rattle.std.proofs.lemmas.Bool.{and_parts, and_from, eq-eqb}
use Rattle.gob_bytes.proofs.Tables.{same_name}
use Rattle.gob_bytes.specs.Paths.{begins_with, under, staging, sequence_name, state_name, delta_folder, keeps_state}
use Rattle.gob_bytes.specs.Paths.{is_published}
use Rattle.gob_bytes.specs.Tables.{names_of, IsInByteOrder}
use Rattle.gob_device.specs.Disk.{Files, File, clean, dirty, contents_of, contents_at, no_files, after_rename}
use Rattle.gob_device.specs.Disk.{after_remove, Image, FileImage, EachOf, Rises}
use Rattle.gob_device.specs.Supply.{Held}
use Rattle.gob_meaning.specs.Job.{Job}
use Rattle.gob_ledger.specs.State.{State, TiledState}
use Rattle.gob_ledger.specs.Archive.{Agrees, Grows, IsWithin}
use Rattle.gob_ledger.specs.Expected.{IsExpected}
use Rattle.gob_ledger.specs.Totals.{SameCounts}
use Rattle.gob_ledger.proofs.Grown.{grown}
use Rattle.gob_ledger.proofs.Expecting.{next_keeps, next_done}
use Rattle.gob_ledger.proofs.Members.{none_in, in_cases, first_in, later_in}
use Rattle.gob_recovery.specs.Sequence.{CommitStep, move, remove, step_fits, is_lasting, is_staged, is_file_name}
use Rattle.gob_recovery.specs.Settle.{moved_where, do_step, do_steps, without_staging, can_do, after_finish, Settles}
use Rattle.gob_recovery.proofs.Again.{Off, step_off}
use Rattle.gob_ledger.specs.Next.{Judged}
use Rattle.gob_history.proofs.Kept.{stored_proper}
use Rattle.gob_history.proofs.Stands.{standing, settles_itself, stores_alike, sound_alike}
use Rattle.gob_history.proofs.Steadied.{over, as_read, image_read}
use Rattle.gob_history.specs.Sound.{Stores, SoundIn, AllRecoverTo}
use Rattle.gob_history.specs.Runs.{run_groups, done_in, stored_where, group_units, group_verdicts, next_of_group}
use Rattle.gob_history.specs.Runs.{after_group, chain_from, states_of_run}
use Rattle.gob_history.specs.Rounds.{Round, settling, running, IsOfJob, SameOfJob, last_of, ComesAfter, History, begins}
use Rattle.gob_history.specs.Rounds.{goes_on}
use Rattle.gob_history.specs.Laws.{HasDone, Becomes, RecoverAlong, HistoryRecovers}
use Rattle.gob_jobs.specs.Plans.{TellsPlan}

-- ---- archives that grow

grown_sound : (job : List ℕ) (archive later : Held) (o : Option State) (m k : Files) → Grows archive later
    → Stores job k o → SoundIn job archive o m → SoundIn job later o m
grown_sound job archive later None m k grows stores sound = sound
grown_sound job archive later (Some s) m k grows stores sound =
    let g = grown archive later s grows sound.within sound.tiled (stored_proper job k s stores).names in
    record {
      tiled = sound.tiled;
      plans = sound.plans;
      within = g.within;
      totals = subst (SameCounts s.totals) (sym g.counted) sound.totals;
      files = λ name content p. let f = sound.files name content p in let e = g.expected job name content in
          (λ c. e.0 (f.0 c), λ x. f.1 (e.1 x));
    }

grown_stands : (job : List ℕ) (archive later : Held) (o : Option State) (m : Files) → Grows archive later
    → AllRecoverTo job archive o m → AllRecoverTo job later o m
unfolding AllRecoverTo
grown_stands job archive later o m grows all = λ i image. let x = all i image in
    (x.0, x.1, x.2, grown_sound job archive later o x.0 x.0 grows x.2 x.3)

-- ---- images

image_through : (x y z : Option File) → FileImage x y → FileImage y z → FileImage x z
image_through None None z e f = f
image_through None (Some g) z e f = absurd e
image_through (Some (clean a)) None z e f = absurd e
image_through (Some (dirty a b)) None z e f = absurd e
image_through (Some (clean a)) (Some (clean b)) None e f = absurd f
image_through (Some (clean a)) (Some (clean b)) (Some (clean c)) e f = f ∙ e
image_through (Some (clean a)) (Some (clean b)) (Some (dirty c d)) e f = absurd f
image_through (Some (clean a)) (Some (dirty b c)) z e f = absurd e
image_through (Some (dirty a b)) (Some (clean c)) None e f = absurd f
image_through (Some (dirty a b)) (Some (clean c)) (Some (clean d)) e f = (e.0, f ∙ e.1)
image_through (Some (dirty a b)) (Some (clean c)) (Some (dirty d g)) e f = absurd f
image_through (Some (dirty a b)) (Some (dirty c d)) z e f = absurd e

stands_image : (job : List ℕ) (archive : Held) (o : Option State) (k left : Files) → AllRecoverTo job archive o k
    → Image k left → AllRecoverTo job archive o left
unfolding AllRecoverTo Image
stands_image job archive o k left all image = λ i further. all i
    (λ name. image_through (k name) (left name) (i name) (image name) (further name))

-- ---- stretches of maps

each_member : (P : Files → Type 0) (ms : List Files) (k : Files) → EachOf P ms → Contains ms k → P k
each_member P [] k each h = none_in k h
each_member P (m ∷ ms) k each h = ⊎_elim (λ e. subst P e each.0) (λ l. each_member P ms k each.1 l) (in_cases m ms k h)

each_to : (P Q : Files → Type 0) → ((k : Files) → P k → Q k) → (ms : List Files) → EachOf P ms → EachOf Q ms
each_to P Q f [] each = tt
each_to P Q f (m ∷ ms) each = (f m each.0, each_to P Q f ms each.1)

pub each_append : (P : Files → Type 0) (ms ns : List Files) → EachOf P ms → EachOf P ns → EachOf P (ms ++ ns)
each_append P [] ns a b = b
each_append P (m ∷ ms) ns a b = (a.0, each_append P ms ns a.1 b)

-- each map stands for one of the states
rises_member : (P : Option State → Files → Type 0) (os : List (Option State)) (ms : List Files) → Rises P os ms
    → EachOf (λ k. (p : Option State) × Contains os p × P p k) ms
unfolding Rises
rises_member P [] ms r = subst (EachOf (λ k. (p : Option State) × Contains [] p × P p k)) (sym r) tt
rises_member P (o ∷ os) ms r = subst (EachOf (λ k. (p : Option State) × Contains (o ∷ os) p × P p k)) (sym r.2)
    (each_append (λ k. (p : Option State) × Contains (o ∷ os) p × P p k) r.0 r.1
    (each_to (P o) (λ k. (p : Option State) × Contains (o ∷ os) p × P p k) (λ k s. (o, first_in o os o refl, s)) r.0
    r.3)
    (each_to (λ k. (p : Option State) × Contains os p × P p k) (λ k. (p : Option State) × Contains (o ∷ os) p × P p k)
    (λ k s. (s.0, later_in o os s.0 s.1, s.2)) r.1 (rises_member P os r.1 r.4)))

rises_one : (P : Option State → Files → Type 0) (o : Option State) (ms : List Files) → Rises P (o ∷ []) ms
    → EachOf (P o) ms
unfolding Rises
rises_one P o ms r = subst (EachOf (P o)) (sym r.2) (each_append (P o) r.0 r.1 r.3 (subst (EachOf (P o)) (sym r.4) tt))

last_is : (P : Files → Type 0) (m : Files) (ms : List Files) → P m → EachOf P ms → P (last_of m ms)
last_is P m [] p each = p
last_is P m (n ∷ ns) p each = last_is P n ns each.0 each.1

-- ---- names of others

of_job : (job rest : List ℕ) → IsOfJob job (under job rest)
of_job [] rest = refl
of_job (b ∷ job) rest = and_from _ _ (eq-eqb b b refl) (of_job job rest)

front_less : (job path name : List ℕ) → begins_with (under job path) name ≡ true → IsOfJob job name
front_less [] path [] e = absurd (let no : false ≡ true = e in cc)
front_less [] path (c ∷ cs) e = and_from _ _ (and_parts (nat_eq 47 c) _ e).0 refl
front_less (b ∷ job) path [] e = absurd (let no : false ≡ true = e in cc)
front_less (b ∷ job) path (c ∷ cs) e = let p = and_parts (nat_eq b c) _ e in
    and_from _ _ p.0 (front_less job path cs p.1)

published_of_job : (job name : List ℕ) → is_published job name ≡ true → IsOfJob job name
published_of_job job name e = cases (begins_with (under job (codes "out/")) name) refl e
  where
    cases : (b : Bool) → begins_with (under job (codes "out/")) name ≡ b
        → cond b true (begins_with (under job (codes "err/")) name) ≡ true → IsOfJob job name
    cases true is e = front_less job (codes "out/") name is
    cases false is e = front_less job (codes "err/") name e

state_of_job : (job name : List ℕ) → keeps_state job name ≡ true → IsOfJob job name
state_of_job job name e = cases (bytes_eq name (state_name job)) refl e
  where
    cases : (b : Bool) → bytes_eq name (state_name job) ≡ b → (b || begins_with (delta_folder job) name) ≡ true
        → IsOfJob job name
    cases true is e = subst (IsOfJob job) (sym (same_name name (state_name job) is)) (of_job job (codes "state"))
    cases false is e = front_less job (codes "delta/") name e

untrue : (job name : List ℕ) → (IsOfJob job name → ⊥) → (b : Bool) → (b ≡ true → IsOfJob job name) → b ≡ false
untrue job name out true gives = absurd (out (gives refl))
untrue job name out false gives = refl

-- the names of a step are the job's
abbrev NamesOfJob : List ℕ → CommitStep → Type 0
NamesOfJob job (move source target) = IsOfJob job source × IsOfJob job target
NamesOfJob job (remove name) = IsOfJob job name

lasting_of_job : (job name : List ℕ) → is_lasting job name ≡ true → IsOfJob job name
lasting_of_job job name e = (and_parts (begins_with (under job []) name) _
    (and_parts (begins_with (under job []) name && not (begins_with (staging job) name)) _ e).0).0

step_of_job : (job : List ℕ) (s : CommitStep) → step_fits job s ≡ true → NamesOfJob job s
step_of_job job (move source target) e =
    let outer = and_parts (is_staged job source && is_lasting job target && is_file_name source) _ e in
    let inner = and_parts (is_staged job source && is_lasting job target) _ outer.0 in
    let both = and_parts (is_staged job source) (is_lasting job target) inner.0 in (
      front_less job (codes "stage/") source (and_parts (begins_with (staging job) source) _ both.0).0,
      lasting_of_job job target both.1,
    )
step_of_job job (remove name) e = lasting_of_job job name (and_parts (is_lasting job name) _ e).0

-- the job's names stand for the same files
abbrev Agree : List ℕ → Files → Files → Type 0
Agree job a b = (name : List ℕ) → IsOfJob job name → a name ≡ b name

moved_agree : (v : Bool) (job source target : List ℕ) (a b : Files) → Agree job a b → IsOfJob job source
    → (name : List ℕ) → IsOfJob job name → moved_where source target v a name ≡ moved_where source target v b name
unfolding after_rename
moved_agree true job source target a b agree s name p = λ i. cond (bytes_eq name target) (agree source s i)
    (cond (bytes_eq name source) None (agree name p i))
moved_agree false job source target a b agree s name p = agree name p

step_agree : (job : List ℕ) (s : CommitStep) (a b : Files) → NamesOfJob job s → Agree job a b
    → Agree job (do_step s a) (do_step s b)
unfolding after_remove
step_agree job (move source target) a b names agree = λ name p.
    moved_agree (is_some (a source)) job source target a b agree names.0 name p
    ∙ ap (λ o. moved_where source target (is_some o) b name) (agree source names.0)
step_agree job (remove other) a b names agree = λ name p. λ i. cond (bytes_eq name other) None (agree name p i)

steps_agree : (job : List ℕ) (ss : List CommitStep) (a b : Files) → list_all (step_fits job) ss ≡ true → Agree job a b
    → Agree job (do_steps ss a) (do_steps ss b)
unfolding do_steps
steps_agree job [] a b fits agree = agree
steps_agree job (s ∷ ss) a b fits agree =
    let p = and_parts (step_fits job s) (list_all (step_fits job) ss) fits in
    steps_agree job ss (do_step s a) (do_step s b) p.1 (step_agree job s a b (step_of_job job s p.0) agree)

can_agree : (job : List ℕ) (s : CommitStep) (a b : Files) → NamesOfJob job s → Agree job a b → can_do a s ≡ can_do b s
can_agree job (move source target) a b names agree = λ i. is_some (agree source names.0 i) || is_some
    (agree target names.1 i)
can_agree job (remove name) a b names agree = refl

all_can_agree : (job : List ℕ) (ss : List CommitStep) (a b : Files) → list_all (step_fits job) ss ≡ true → Agree job a b
    → list_all (can_do a) ss ≡ list_all (can_do b) ss
all_can_agree job [] a b fits agree = refl
all_can_agree job (s ∷ ss) a b fits agree =
    let p = and_parts (step_fits job s) (list_all (step_fits job) ss) fits in
    λ i. can_agree job s a b (step_of_job job s p.0) agree i && all_can_agree job ss a b p.1 agree i

apart_from : (job name x : List ℕ) → (IsOfJob job name → ⊥) → IsOfJob job x → bytes_eq name x ≡ false
apart_from job name x out is = untrue job name out (bytes_eq name x)
    (λ e. subst (IsOfJob job) (sym (same_name name x e)) is)

off_step : (job name : List ℕ) (s : CommitStep) → (IsOfJob job name → ⊥) → NamesOfJob job s → Off s name
off_step job name (move source target) out names = (
  apart_from job name source out names.0,
  (apart_from job name target out names.1, tt),
)
off_step job name (remove other) out names = (apart_from job name other out names, tt)

others_stay : (job name : List ℕ) (ss : List CommitStep) (m : Files) → (IsOfJob job name → ⊥)
    → list_all (step_fits job) ss ≡ true → do_steps ss m name ≡ m name
unfolding do_steps
others_stay job name [] m out fits = refl
others_stay job name (s ∷ ss) m out fits =
    let p = and_parts (step_fits job s) (list_all (step_fits job) ss) fits in
    others_stay job name ss (do_step s m) out p.1 ∙ step_off s m name (off_step job name s out (step_of_job job s p.0))

-- the job's files of one map, and the others of another
abbrev pub mixed : List ℕ → Files → Files → Files
mixed job a b = λ name. cond (begins_with (under job []) name) (a name) (b name)

mixed_on : (job : List ℕ) (a b : Files) (name : List ℕ) → IsOfJob job name → mixed job a b name ≡ a name
mixed_on job a b name p = ap (λ v. cond v (a name) (b name)) p

by_job : (job : List ℕ) (P : List ℕ → Type 0) (name : List ℕ) → (IsOfJob job name → P name)
    → ((IsOfJob job name → ⊥) → begins_with (under job []) name ≡ false → P name) → P name
by_job job P name on off = elim (begins_with (under job []) name) as
    (λ b. begins_with (under job []) name ≡ b → P name) [
      | true ↦ λ e. on e
      | false ↦ λ e. off (λ t. let no : true ≡ false = sym t ∙ e in cc) e
    ] refl

mixed_off : (job : List ℕ) (a b : Files) (name : List ℕ) → begins_with (under job []) name ≡ false
    → mixed job a b name ≡ b name
mixed_off job a b name e = ap (λ v. cond v (a name) (b name)) e

unstaged_name : (job name : List ℕ) → (IsOfJob job name → ⊥) → begins_with (staging job) name ≡ false
unstaged_name job name out = untrue job name out (begins_with (staging job) name)
    (λ e. front_less job (codes "stage/") name e)

cleaned_mixed : (job : List ℕ) (i j settled : Files) → Agree job j i → settled ≡ without_staging job j
    → mixed job settled i ≡ without_staging job i
unfolding without_staging
cleaned_mixed job i j settled agree is = λ k name. each name k
  where
    each : (name : List ℕ) → mixed job settled i name ≡ cond (begins_with (staging job) name) None (i name)
    each name = by_job job (λ q. mixed job settled i q ≡ cond (begins_with (staging job) q) None (i q)) name
        (λ p. mixed_on job settled i name p ∙ (ap (λ (m : Files). m name) is
        ∙ ap (λ o. cond (begins_with (staging job) name) None o) (agree name p)))
        (λ out e. mixed_off job settled i name e ∙ sym (ap (λ b. cond b None (i name)) (unstaged_name job name out)))

removed_agree : (job other : List ℕ) (a b : Files) → Agree job a b
    → Agree job (after_remove other a) (after_remove other b)
unfolding after_remove
removed_agree job other a b agree = λ name p. λ i. cond (bytes_eq name other) None (agree name p i)

removed_other : (m : Files) (name other : List ℕ) → bytes_eq name other ≡ false → after_remove other m name ≡ m name
unfolding after_remove
removed_other m name other e = ap (λ b. cond b None (m name)) e

finished_mixed : (job : List ℕ) (steps : List CommitStep) (i j settled : Files) → list_all (step_fits job) steps ≡ true
    → Agree job j i → settled ≡ after_finish job steps j → mixed job settled i ≡ after_finish job steps i
unfolding without_staging
finished_mixed job steps i j settled fits agree is = λ k name. each name k
  where
    each : (name : List ℕ) → mixed job settled i name ≡ cond (begins_with (staging job) name) None
        (after_remove (sequence_name job) (do_steps steps i) name)
    each name = by_job job (λ q. mixed job settled i q ≡ cond (begins_with (staging job) q) None
        (after_remove (sequence_name job) (do_steps steps i) q)) name
        (λ p. mixed_on job settled i name p ∙ (ap (λ (m : Files). m name) is
        ∙ ap (λ o. cond (begins_with (staging job) name) None o)
        (removed_agree job (sequence_name job) (do_steps steps j) (do_steps steps i)
        (steps_agree job steps j i fits agree) name p)))
        (λ out e. mixed_off job settled i name e
        ∙ (sym (others_stay job name steps i out fits)
        ∙ (sym (removed_other (do_steps steps i) name (sequence_name job)
        (apart_from job name (sequence_name job) out (of_job job (codes "seq"))))
        ∙ sym (ap (λ b. cond b None (after_remove (sequence_name job) (do_steps steps i) name))
        (unstaged_name job name out)))))

settles_mixed : (job : List ℕ) (i j settled : Files) → Agree job j i → Settles job j settled
    → Settles job i (mixed job settled i)
settles_mixed job i j settled agree (inl x) = inl (
  sym (agree (sequence_name job) (of_job job (codes "seq"))) ∙ x.0,
  cleaned_mixed job i j settled agree x.1,
)
settles_mixed job i j settled agree (inr x) = inr (
  x.0,
  record {
    file = x.1.file;
    here = sym (agree (sequence_name job) (of_job job (codes "seq"))) ∙ x.1.here;
    reads =
        x.1.reads;
  },
  sym (all_can_agree job x.0 j i x.1.reads.fits.each agree) ∙ x.2,
  finished_mixed job x.0 i j settled x.1.reads.fits.each agree x.3,
)

stands_others : (job : List ℕ) (archive : Held) (o : Option State) (left n : Files) → SameOfJob job left n
    → AllRecoverTo job archive o left → AllRecoverTo job archive o n
unfolding AllRecoverTo Image
stands_others job archive o left n same all = λ i image.
    let j = mixed job i (over as_read left) in
    let there : (name : List ℕ) → FileImage (left name) (j name) = λ name.
    by_job job (λ q. FileImage (left q) (j q)) name
    (λ p. subst (FileImage (left name)) (sym (mixed_on job i (over as_read left) name p))
    (subst (λ f. FileImage f (i name)) (same name p) (image name)))
    (λ out e. subst (FileImage (left name)) (sym (mixed_off job i (over as_read left) name e)) (image_read left name))
    in
    let x = all j there in
    let agree : Agree job j i = λ name p. mixed_on job i (over as_read left) name p in
    let kept : (name : List ℕ) → IsOfJob job name → contents_at (mixed job x.0 i) name ≡ contents_at x.0 name =
    λ name p. ap (λ f. option_map contents_of f) (mixed_on job x.0 i name p) in (
      mixed job x.0 i,
      settles_mixed job i j x.0 agree x.1,
      stores_alike job o x.0 (mixed job x.0 i) (λ name p. kept name (state_of_job job name p)) x.2,
      sound_alike job archive o x.0 (mixed job x.0 i) (λ name p. kept name (published_of_job job name p)) x.3,
    )

-- ---- one step of a history

-- what is known of a state that a map stands for
record Known (archive : Held) (s : State) : Type 0 where
  rising : IsInByteOrder (names_of s.parts)
  tiled : TiledState s
  within : IsWithin archive s

known : (job : List ℕ) (archive : Held) (s : State) (m : Files) → AllRecoverTo job archive (Some s) m → Known archive s
unfolding AllRecoverTo
known job archive s m all =
    let x = all (over as_read m) (image_read m) in
    record { rising = (stored_proper job x.0 s x.2).names; tiled = x.3.tiled; within = x.3.within }

expects_later : (job : List ℕ) (archive later : Held) (s : State) (name content : List ℕ) → Grows archive later
    → Known archive s → IsExpected job s archive name content → IsExpected job s later name content
expects_later job archive later s name content grows k e = ((grown archive later s grows k.within k.tiled
    k.rising).expected job name content).0 e

-- what a group's commit keeps of a state is so in each state of the chain
where_kept : (P : State → Type 0) (s next : State) (js : List Judged) → P s → P next → (t : State)
    × (stored_where (Some s) next js ≡ Some t) × P t
where_kept P s next [] p q = (s, refl, p)
where_kept P s next (x ∷ xs) p q = (next, refl, q)

group_kept : (P : State → Type 0) (j : Job) → ((s : State) (g : List Judged) → P s → P (next_of_group j (Some s) g))
    → (o : Option State) (g : List Judged) (s : State) → o ≡ Some s → P s → (t : State) × (after_group j o g ≡ Some t)
    × P t
group_kept P j keeps o g s e p =
    let r = where_kept P s (next_of_group j (Some s) g) (done_in j g) p (keeps s g p) in
    (r.0, ap (λ x. after_group j x g) e ∙ r.1, r.2)

chain_kept : (P : State → Type 0) (j : Job) → ((s : State) (g : List Judged) → P s → P (next_of_group j (Some s) g))
    → (gs : List (List Judged)) (o : Option State) (s : State) → o ≡ Some s → P s
    → (q : Option State) → Contains (chain_from j o gs) q → (t : State) × (q ≡ Some t) × P t
chain_kept P j keeps [] o s e p q h = ⊎_elim (λ is. (s, sym is ∙ e, p)) (λ k. none_in q k) (in_cases o [] q h)
chain_kept P j keeps (g ∷ gs) o s e p q h = ⊎_elim
    (λ is. (s, sym is ∙ e, p))
    (λ k. let r = group_kept P j keeps o g s e p in chain_kept P j keeps gs (after_group j o g) r.0 r.1 r.2 q k)
    (in_cases o (chain_from j (after_group j o g) gs) q h)

chain_first : (j : Job) (o : Option State) (gs : List (List Judged)) → Contains (chain_from j o gs) o
chain_first j o [] = first_in o [] o refl
chain_first j o (g ∷ gs) = first_in o (chain_from j (after_group j o g) gs) o refl

stay_becomes : (job : List ℕ) (archive later : Held) (o : Option State) (m : Files) → Grows archive later
    → AllRecoverTo job archive o m → Becomes job archive later o o
stay_becomes job archive later None m grows all = record {
  how = inl refl;
  done = λ s part d e h.
      absurd (let no : None ≡ Some s = e in cc);
  files = λ s name content e h. absurd (let no : None ≡ Some s = e in cc);
}
stay_becomes job archive later (Some s) m grows all =
    let k = known job archive s m all in
    record {
      how = inl refl;
      done = λ t part d e h. (t, e, h);
      files = λ t name content e h. (
        t,
        e,
        let same : s ≡ t = cc in
            subst (λ u. IsExpected job u later name content) same
            (expects_later job archive later s name content grows k
            (subst (λ u. IsExpected job u archive name content) (sym same) h)),
      );
    }

run_becomes : (job : List ℕ) (archive later : Held) (o p : Option State) (m : Files) (j : Job) (held : Held)
    (failing : List ℕ) → j.name ≡ job → TellsPlan j → Agrees later held → Grows archive later
    → AllRecoverTo job archive o m
    → Contains (states_of_run j held failing o) p → Becomes job archive later o p
run_becomes job archive later None p m j held failing name tells agrees grows all member = record {
  how = inr (j, name, tells, held, agrees, failing, member);
  done = λ s part d e h. absurd (let no : None ≡ Some s = e in cc);
  files = λ s name content e h. absurd (let no : None ≡ Some s = e in cc);
}
run_becomes job archive later (Some s) p m j held failing name tells agrees grows all member =
    let k = known job archive s m all in
    let groups = run_groups j held failing (Some s) in
    record {
      how = inr (j, name, tells, held, agrees, failing, member);
      done = λ t part d e h. let same : s ≡ t = cc in
          chain_kept (λ u. HasDone u part d) j (λ u g i. next_done u j.pipeline (group_units g) (group_verdicts g)
          j.policy part d i) groups (Some s) s refl (subst (λ u. HasDone u part d) (sym same) h) p member;
      files = λ t name content e h. let same : s ≡ t = cc in
          chain_kept (λ u. IsExpected job u later name content) j
          (λ u g i. next_keeps job u j.pipeline (group_units g) (group_verdicts g) j.policy later name content i)
          groups (Some s) s refl
          (expects_later job archive later s name content grows k
          (subst (λ u. IsExpected job u archive name content) (sym same) h)) p member;
    }

-- what a stopped round leaves is one of its maps, or an image of one
left_of : (P : Files → Type 0) → ((k left : Files) → P k → Image k left → P left)
    → (m left : Files) (added : List Files) → P m → EachOf P added → Any (λ k. Image k left) (m ∷ added)
    ⊎ (left ≡ last_of m added) → P left
left_of P images m left added here each (inl any) = images any.1 left
    (each_member P (m ∷ added) any.1 (here, each) (any.0, any.2, any.3)) any.4
left_of P images m left added here each (inr is) = subst P (sym is) (last_is P m added here each)

-- one step: the next map stands for the state, or for the one that the run leaves
step_stands : (job : List ℕ) (archive later : Held) (o : Option State) (m n : Files) → Grows archive later
    → AllRecoverTo job archive o m → ComesAfter (Round job) job later m n → (p : Option State)
    × AllRecoverTo job later p n × Becomes job archive later o p
step_stands job archive later o m n grows all f = cases f.round
  where
    cases : Round job later m f.added → (p : Option State) × AllRecoverTo job later p n × Becomes job archive later o p
    cases (settling trail) =
        let left = left_of (AllRecoverTo job later o) (λ k l s i. stands_image job later o k l s i) m f.left f.added
        (grown_stands job archive later o m grows all)
        (rises_one (AllRecoverTo job later) o f.added (trail later o (grown_stands job archive later o m grows all)))
        f.how in
        (o, stands_others job later o f.left n f.same left, stay_becomes job archive later o m grows all)
    cases (running j name tells held agrees failing trail) =
        let states = states_of_run j held failing o in
        let rises = subst (λ q. Rises (AllRecoverTo q later) states f.added) name
        (trail later o agrees (subst (λ q. AllRecoverTo q later o m) (sym name)
        (grown_stands job archive later o m grows all))) in
        let some = left_of (λ k. (p : Option State) × Contains states p × AllRecoverTo job later p k)
        (λ k l s i. (s.0, s.1, stands_image job later s.0 k l s.2 i))
        m f.left f.added (
          o,
          chain_first j o (run_groups j held failing o),
          grown_stands job archive later o m grows all,
        ) (rises_member (AllRecoverTo job later) states f.added rises)
        f.how in (
          some.0,
          stands_others job later some.0 f.left n f.same some.2,
          run_becomes job archive later o some.0 m j held failing name tells agrees grows all some.1,
        )

nothing_stands : (job : List ℕ) (archive : Held) → AllRecoverTo job archive None no_files
nothing_stands job archive = standing job archive None no_files no_files
    (record {
      stores = (None, record { base = refl; deltas = λ name p. refl }, refl);
      sound = λ name p. refl;
      clean =
          record {
            state = λ name f p e. absurd (let no : None ≡ Some f = e in cc);
            published = λ name f p e.
                absurd (let no : None ≡ Some f = e in cc);
          };
    })
    (settles_itself job no_files refl (λ name e. refl))

head_stands : (job : List ℕ) (e : Held × Files) (es : List (Held × Files)) (o : Option State) (os : List (Option State))
    → RecoverAlong job (e ∷ es) (o ∷ os) → AllRecoverTo job e.0 o e.1
head_stands job e [] o [] s = s
head_stands job e [] o (p ∷ os) s = absurd s
head_stands job e (d ∷ es) o [] s = absurd s
head_stands job e (d ∷ es) o (p ∷ os) s = s.0

along : (job : List ℕ) (h : List (Held × Files)) → History (Round job) job h → (o : Option State)
    × (os : List (Option State)) × RecoverAlong job h (o ∷ os)
along job _ (begins archive m empty) = (
  None,
  [],
  stands_others job archive None no_files m empty
      (nothing_stands job archive),
)
along job _ (goes_on archive later m n before history grows follows) =
    let r = along job ((archive, m) ∷ before) history in
    let s = step_stands job archive later r.0 m n grows (head_stands job (archive, m) before r.0 r.1 r.2) follows in
    (s.0, r.0 ∷ r.1, (s.1, s.2, r.2))

pub stands_along : HistoryRecovers
stands_along job h history = let r = along job h history in (r.0 ∷ r.1, r.2)
