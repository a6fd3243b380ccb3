-- What the maps of a commit settle to, call by call.
use Rattle.std.proofs.Common.{◌≡◌, inl, inr, ℕ, suc, true, false, cond, ◌||◌, List, [], ◌∷◌}
use Rattle.std.proofs.Common.{refl, sym, ap, subst, ◌∙◌, is_some, take, Some, None, codes, Contains}
use Rattle.std.proofs.Common.{arith, option_map}
use Rattle.std.specs.declared.option.Option.{Option}
use Rattle.std.specs.List.{AllByRecursion, list_all}
use Rattle.std.specs.Str.{bytes_eq}
use Rattle.std.proofs.lemmas.Bool.{and_parts, and_from, true≢false, not-true}
use Rattle.std.proofs.lemmas.Slice.Eq.{bytes_eq-Decides}
use Rattle.gob_bytes.specs.Paths.{begins_with, staging, sequence_name}
use Rattle.gob_bytes.proofs.Paths.{front_more}
use Rattle.gob_bytes.proofs.Tables.{name_itself}
use Rattle.gob_device.specs.Disk.{Files, File, clean, with_more, synced_file, put, after_create}
use Rattle.gob_device.specs.Disk.{after_append, after_sync, after_rename, after_remove}
use Rattle.gob_recovery.specs.Sequence.{CommitStep, move, remove, step_fits, sequence_text}
use Rattle.gob_recovery.specs.Sequence.{WellFormed}
use Rattle.gob_recovery.specs.Settle.{do_steps, without_staging, can_do, Open, after_finish, Settles}
use Rattle.gob_recovery.specs.Settle.{SettlesAs}
use Rattle.gob_recovery.specs.Commits.{OnlyBelow, staged_sequence, AreClean, part_done}
use Rattle.gob_recovery.proofs.Again.{Off, steps_apart, steps_off, not_staged, settling_repeats, turned}
use Rattle.gob_recovery.proofs.Images.{images_alike}
use Rattle.gob_recovery.proofs.Opened.{Beside, steps_beside, all_beside, steps_still, opened}
use Rattle.gob_recovery.proofs.Settled.{cleaned_other, settled_is, staged_free}
use Rattle.gob_recovery.proofs.Spelled.{to_one}

-- ---- names below a folder

-- a name below a folder isn't one that is not
pub apart_below : (folder name other : List ℕ) → begins_with folder name ≡ true → begins_with folder other ≡ false
    → bytes_eq other name ≡ false
apart_below folder name other inside outside = elim (bytes_eq other name) as
    (λ b. bytes_eq other name ≡ b → b ≡ false) [
      | true ↦ λ e. absurd (true≢false (sym inside ∙ (ap (begins_with folder) (sym ((bytes_eq-Decides other name).0 e))
          ∙ outside)))
      | false ↦ λ e. refl
    ] refl

pub below_same : (folder : List ℕ) (m : Files) → OnlyBelow folder m m
below_same folder m = λ name e. refl

pub below_then : (folder : List ℕ) (m n k : Files) → OnlyBelow folder m n → OnlyBelow folder n k → OnlyBelow folder m k
below_then folder m n k a b = λ name e. b name e ∙ a name e

pub below_put : (folder name : List ℕ) (m : Files) (file : Option File) → begins_with folder name ≡ true
    → OnlyBelow folder m (put m name file)
below_put folder name m file inside = λ other e. ap (λ b. cond b file (m other))
    (apart_below folder name other inside e)

pub below_renamed : (folder source target : List ℕ) (m : Files) → begins_with folder source ≡ true
    → begins_with folder target ≡ true → OnlyBelow folder m (after_rename source target m)
unfolding after_rename
below_renamed folder source target m a b = below_then folder m (put m source None)
    (put (put m source None) target (m source)) (below_put folder source m None a)
    (below_put folder target (put m source None) (m source) b)

pub below_removed : (folder name : List ℕ) (m : Files) → begins_with folder name ≡ true
    → OnlyBelow folder m (after_remove name m)
unfolding after_remove
below_removed folder name m inside = below_put folder name m None inside

pub below_created : (folder name : List ℕ) (m : Files) → begins_with folder name ≡ true
    → OnlyBelow folder m (after_create name m)
unfolding after_create
below_created folder name m inside = below_put folder name m _ inside

pub below_appended : (folder name bytes : List ℕ) (m : Files) → begins_with folder name ≡ true
    → OnlyBelow folder m (after_append name bytes m)
unfolding after_append
below_appended folder name bytes m inside = below_put folder name m _ inside

pub below_synced : (folder name : List ℕ) (m : Files) → begins_with folder name ≡ true
    → OnlyBelow folder m (after_sync name m)
unfolding after_sync
below_synced folder name m inside = below_put folder name m _ inside

-- ---- the staged sequence

pub sequence_staged : (job : List ℕ) → begins_with (staging job) (staged_sequence job) ≡ true
sequence_staged job = front_more (staging job) (codes "seq")

-- the open sequence isn't the staged one
pub sequences_apart : (job : List ℕ) → bytes_eq (sequence_name job) (staged_sequence job) ≡ false
sequences_apart job = apart_below (staging job) (staged_sequence job) (sequence_name job) (sequence_staged job)
    (not_staged job)

step_avoids : (job : List ℕ) (s : CommitStep) → step_fits job s ≡ true → Off s (staged_sequence job)
step_avoids job (move source target) e =
    let outer = and_parts _ _ e in
    let inner = and_parts _ _ outer.0 in
    let both = and_parts _ _ inner.0 in
    let source_not = not-true _ (and_parts _ _ both.0).1 in
    let target_not = not-true _ (and_parts _ _ (and_parts _ _ both.1).0).1 in (
      turned source (staged_sequence job) source_not,
      (
        turned target (staged_sequence job)
            (apart_below (staging job) (staged_sequence job) target (sequence_staged job) target_not),
        tt,
      ),
    )
step_avoids job (remove name) e =
    let lasting = (and_parts _ _ e).0 in
    let not' = not-true _ (and_parts _ _ (and_parts _ _ lasting).0).1 in (
      turned name (staged_sequence job) (apart_below (staging job) (staged_sequence job) name (sequence_staged job)
          not'),
      tt,
    )

-- no step has the staged sequence
pub steps_avoid : (job : List ℕ) (ss : List CommitStep) → list_all (step_fits job) ss ≡ true
    → AllByRecursion (λ t. Off t (staged_sequence job)) ss
steps_avoid job [] e = tt
steps_avoid job (s ∷ ss) e = let p = and_parts (step_fits job s) (list_all (step_fits job) ss) e in
    (step_avoids job s p.0, steps_avoid job ss p.1)

-- ---- what can be done

can_each : (steps all : List CommitStep) (m : Files) → ((s : CommitStep) → Contains steps s → Contains all s)
    → AreClean all m → list_all (can_do m) steps ≡ true
can_each [] all m inside sources = refl
can_each (move source target ∷ ss) all m inside sources =
    let found = sources source target (inside (move source target) (0, omega arith, refl)) in
    and_from _ _ (ap (λ (o : Option File). is_some o || is_some (m target)) found.1)
    (can_each ss all m (λ s h. inside s (suc h.0, omega (arith, h.1), h.2)) sources)
can_each (remove name ∷ ss) all m inside sources = can_each ss all m
    (λ s h. inside s (suc h.0, omega (arith, h.1), h.2)) sources

pub clean_can : (steps : List CommitStep) (m : Files) → AreClean steps m → list_all (can_do m) steps ≡ true
clean_can steps m sources = can_each steps steps m (λ s h. h) sources

-- ---- maps without the staging

pub without_alike : (job : List ℕ) (a b : Files) → ((name : List ℕ) → begins_with (staging job) name ≡ false
    → a name ≡ b name) → without_staging job a ≡ without_staging job b
unfolding without_staging
without_alike job a b agree = λ i name. each name i
  where
    each : (name : List ℕ) → cond (begins_with (staging job) name) None (a name) ≡ cond (begins_with (staging job) name)
        None (b name)
    each name = elim (begins_with (staging job) name) as (λ v. begins_with (staging job) name ≡ v
        → cond v None (a name) ≡ cond v None (b name)) [
          | true ↦ λ e. refl
          | false ↦ λ e. agree name e
        ] refl

-- what differs in staged files alone from a map without a sequence settles as that map, and so do its images
pub staged_settles : (job : List ℕ) (m n : Files) → m (sequence_name job) ≡ None → OnlyBelow (staging job) m n
    → Settles job n (without_staging job m) × SettlesAs job (without_staging job m) n
staged_settles job m n closed below =
    staged_free job (without_staging job m) n (settled_is job m (without_staging job m) (inl (closed, refl)))
    (λ name e. below name e ∙ sym (cleaned_other job m name e))

-- ---- the map in which the sequence was opened

-- but for the two names of the sequence it is the map before the commit
pub record Opens (job : List ℕ) (steps : List CommitStep) (m n : Files) : Type 0 where
  pub here : n (sequence_name job) ≡ Some (clean (sequence_text steps))
  pub gone : n (staged_sequence job) ≡ None
  pub others : (name : List ℕ) → bytes_eq name (sequence_name job) ≡ false → bytes_eq name (staged_sequence job) ≡ false
      → n name ≡ m name

-- the steps of a commit fit it and can be done
pub record CanCommit (job : List ℕ) (steps : List CommitStep) (m : Files) : Type 0 where
  pub fits : WellFormed job steps
  pub closed : m (sequence_name job) ≡ None
  pub can : list_all (can_do m) steps ≡ true

-- the map before, without the staged sequence
abbrev unstaged : List ℕ → Files → Files
unstaged job m = put m (staged_sequence job) None

unstaged_beside : (job : List ℕ) (m : Files) → Beside (staged_sequence job) (unstaged job m) m
unstaged_beside job m = λ name e. ap (λ b. cond b None (m name)) e

unstaged_closed : (job : List ℕ) (m : Files) → m (sequence_name job) ≡ None → unstaged job m (sequence_name job) ≡ None
unstaged_closed job m closed = unstaged_beside job m (sequence_name job) (sequences_apart job) ∙ closed

opens_is : (job : List ℕ) (steps : List CommitStep) (m n : Files) → Opens job steps m n
    → n ≡ put (unstaged job m) (sequence_name job) (Some (clean (sequence_text steps)))
opens_is job steps m n o = λ i name. each name i
  where
    text : Option File
    text = Some (clean (sequence_text steps))

    each : (name : List ℕ) → n name ≡ put (unstaged job m) (sequence_name job) text name
    each name = elim (bytes_eq name (sequence_name job)) as (λ b. bytes_eq name (sequence_name job) ≡ b
        → n name ≡ cond b text (unstaged job m name)) [
          | true ↦ λ e. ap n ((bytes_eq-Decides name (sequence_name job)).0 e) ∙ o.here
          | false ↦ λ e. elim (bytes_eq name (staged_sequence job)) as
              (λ b. bytes_eq name (staged_sequence job) ≡ b → n name ≡ cond b None (m name)) [
                | true ↦ λ f. ap n ((bytes_eq-Decides name (staged_sequence job)).0 f) ∙ o.gone
                | false ↦ λ f. o.others name e f
              ] refl
        ] refl

-- without the staging, the steps leave the same
unstaged_steps : (job : List ℕ) (steps : List CommitStep) (m : Files) → WellFormed job steps
    → without_staging job (do_steps steps (unstaged job m)) ≡ without_staging job (do_steps steps m)
unstaged_steps job steps m fits =
    without_alike job (do_steps steps (unstaged job m)) (do_steps steps m)
    (λ name e. steps_beside (staged_sequence job) steps (unstaged job m) m (steps_avoid job steps fits.each)
    (unstaged_beside job m) name (apart_below (staging job) (staged_sequence job) name (sequence_staged job) e))

pub opens_settles : (job : List ℕ) (steps : List CommitStep) (m n : Files) → CanCommit job steps m → Opens job steps m n
    → Settles job n (without_staging job (do_steps steps m))
opens_settles job steps m n c o =
    let can = all_beside (staged_sequence job) steps (unstaged job m) m (steps_avoid job steps c.fits.each)
    (unstaged_beside job m) ∙ c.can in
    let settles = opened job steps (unstaged job m) c.fits (unstaged_closed job m c.closed) can in
    subst (λ k. Settles job k (without_staging job (do_steps steps m))) (sym (opens_is job steps m n o))
    (subst (Settles job (put (unstaged job m) (sequence_name job) (Some (clean (sequence_text steps)))))
    (unstaged_steps job steps m c.fits) settles)

pub opens_open : (job : List ℕ) (steps : List CommitStep) (m n : Files) → WellFormed job steps → Opens job steps m n
    → Open job n steps
opens_open job steps m n fits o = record {
  file = clean (sequence_text steps);
  here = o.here;
  reads =
      record { spelled = refl; fits = fits };
}

-- with the sequence open the steps can be done all the same
opens_can : (job : List ℕ) (steps : List CommitStep) (m n : Files) → CanCommit job steps m → Opens job steps m n
    → list_all (can_do n) steps ≡ true
opens_can job steps m n c o =
    let off = steps_apart job steps c.fits.each in
    let avoid = steps_avoid job steps c.fits.each in
    let text : Option File = Some (clean (sequence_text steps)) in
    let first = all_beside (staged_sequence job) steps (unstaged job m) m avoid (unstaged_beside job m) in
    let second = all_beside (sequence_name job) steps (put (unstaged job m) (sequence_name job) text) (unstaged job m)
    off (λ name e. ap (λ b. cond b text (unstaged job m name)) e) in
    subst (λ k. list_all (can_do k) steps ≡ true) (sym (opens_is job steps m n o)) (second ∙ (first ∙ c.can))

-- what the commit leaves, from the map in which the sequence is open
pub finish_is : (job : List ℕ) (steps : List CommitStep) (m n : Files) → CanCommit job steps m → Opens job steps m n
    → after_finish job steps n ≡ without_staging job (do_steps steps m)
finish_is job steps m n c o =
    to_one job n (after_finish job steps n) (without_staging job (do_steps steps m))
    (inr (steps, opens_open job steps m n c.fits o, opens_can job steps m n c o, refl))
    (opens_settles job steps m n c o)

-- after any front of the steps the map settles to what all of them leave, and so do its images
pub record StepsGo (job : List ℕ) (steps : List CommitStep) (m n : Files) (k : ℕ) : Type 0 where
  pub settles : Settles job (do_steps (take k steps) n) (without_staging job (do_steps steps m))
  pub images : SettlesAs job (without_staging job (do_steps steps m)) (do_steps (take k steps) n)

pub steps_go : (job : List ℕ) (steps : List CommitStep) (m n : Files) (k : ℕ) → CanCommit job steps m
    → Opens job steps m n → StepsGo job steps m n k
steps_go job steps m n k c o =
    let settles : Settles job (do_steps (take k steps) n) (without_staging job (do_steps steps m)) =
    subst (Settles job (do_steps (take k steps) n)) (finish_is job steps m n c o)
    (settling_repeats job n steps k (opens_open job steps m n c.fits o) (opens_can job steps m n c o)) in
    let there = steps_off steps k n (sequence_name job) (steps_apart job steps c.fits.each) ∙ o.here in
    record {
      settles = settles;
      images = images_alike job (do_steps (take k steps) n) (without_staging job (do_steps steps m))
          (λ f e. (sequence_text steps, let both : Some f ≡ Some (clean (sequence_text steps)) = sym e ∙ there in cc))
          settles;
    }

-- ---- the map from which the sequence is gone

pub closes_is : (job : List ℕ) (steps : List CommitStep) (m n : Files) → CanCommit job steps m → Opens job steps m n
    → after_remove (sequence_name job) (do_steps steps n) ≡ part_done job steps m
unfolding after_remove
closes_is job steps m n c o = λ i name. each name i
  where
    closed : do_steps steps m (sequence_name job) ≡ None
    closed = steps_still steps m (sequence_name job) (steps_apart job steps c.fits.each) ∙ c.closed

    gone : do_steps steps n (staged_sequence job) ≡ None
    gone = steps_still steps n (staged_sequence job) (steps_avoid job steps c.fits.each) ∙ o.gone

    text : Option File
    text = Some (clean (sequence_text steps))

    same_steps : (name : List ℕ) → bytes_eq name (sequence_name job) ≡ false
        → bytes_eq name (staged_sequence job) ≡ false → do_steps steps n name ≡ do_steps steps m name
    same_steps name e f =
        ap (λ (k : Files). do_steps steps k name) (opens_is job steps m n o)
        ∙ (steps_beside (sequence_name job) steps (put (unstaged job m) (sequence_name job) text) (unstaged job m)
        (steps_apart job steps c.fits.each) (λ x g. ap (λ b. cond b text (unstaged job m x)) g) name e
        ∙ steps_beside (staged_sequence job) steps (unstaged job m) m (steps_avoid job steps c.fits.each)
        (unstaged_beside job m) name f)

    each : (name : List ℕ) → put (do_steps steps n) (sequence_name job) None name ≡ put (do_steps steps m)
        (staged_sequence job) None name
    each name = elim (bytes_eq name (sequence_name job)) as (λ b. bytes_eq name (sequence_name job) ≡ b
        → cond b None (do_steps steps n name) ≡ put (do_steps steps m) (staged_sequence job) None name) [
          | true ↦ λ e.
              let is : name ≡ sequence_name job = (bytes_eq-Decides name (sequence_name job)).0 e in
              sym (ap (put (do_steps steps m) (staged_sequence job) None) is
              ∙ (ap (λ b. cond b None (do_steps steps m (sequence_name job))) (sequences_apart job) ∙ closed))
          | false ↦ λ e. elim (bytes_eq name (staged_sequence job)) as
              (λ b. bytes_eq name (staged_sequence job) ≡ b → do_steps steps n name ≡ cond b None
              (do_steps steps m name)) [
                | true ↦ λ f. ap (do_steps steps n) ((bytes_eq-Decides name (staged_sequence job)).0 f) ∙ gone
                | false ↦ λ f. same_steps name e f
              ] refl
        ] refl

-- a map that differs from that one in staged files alone settles to what the commit leaves, and so do its images
pub closed_settles : (job : List ℕ) (steps : List CommitStep) (m n : Files) → CanCommit job steps m
    → OnlyBelow (staging job) (part_done job steps m) n
    → Settles job n (without_staging job (do_steps steps m)) × SettlesAs job (without_staging job (do_steps steps m)) n
unfolding after_remove
closed_settles job steps m n c below =
    let part : Files = part_done job steps m in
    let closed : part (sequence_name job) ≡ None =
    ap (λ b. cond b None (do_steps steps m (sequence_name job))) (sequences_apart job)
    ∙ (steps_still steps m (sequence_name job) (steps_apart job steps c.fits.each) ∙ c.closed) in
    let alike : without_staging job part ≡ without_staging job (do_steps steps m) =
    without_alike job part (do_steps steps m) (λ name e. ap (λ b. cond b None (do_steps steps m name))
    (apart_below (staging job) (staged_sequence job) name (sequence_staged job) e)) in
    subst (λ (s : Files). Settles job n s × SettlesAs job s n) alike (staged_settles job part n closed below)

-- ---- how the sequence is opened

synced_more : (bytes : List ℕ) → synced_file (with_more bytes (clean [])) ≡ clean bytes
synced_more [] = refl
synced_more (b ∷ bytes) = refl

-- the staged sequence, written and synced
pub written : (name bytes : List ℕ) (m : Files) → after_sync name (after_append name bytes (after_create name m)) name ≡
    Some (clean bytes)
unfolding after_sync after_append after_create
written name bytes m =
    let here = name_itself name in
    let made : after_create name m name ≡ Some (clean []) = ap (λ b. cond b (Some (clean [])) (m name)) here in
    let more : after_append name bytes (after_create name m) name ≡ Some (with_more bytes (clean [])) =
    ap (λ b. cond b (option_map (with_more bytes) (after_create name m name)) (after_create name m name)) here
    ∙ ap (λ (o : Option File). option_map (with_more bytes) o) made in
    ap (λ b. cond b (option_map synced_file (after_append name bytes (after_create name m) name))
    (after_append name bytes (after_create name m) name)) here
    ∙ (ap (λ (o : Option File). option_map synced_file o) more ∙ ap (λ (f : File). Some f) (synced_more bytes))

-- and moved to its place
pub renamed_opens : (job : List ℕ) (steps : List CommitStep) (m n : Files)
    → n (staged_sequence job) ≡ Some (clean (sequence_text steps))
    → ((name : List ℕ) → bytes_eq name (staged_sequence job) ≡ false → n name ≡ m name)
    → Opens job steps m (after_rename (staged_sequence job) (sequence_name job) n)
unfolding after_rename
renamed_opens job steps m n there others = record {
  here = ap (λ b. cond b (n (staged_sequence job)) (put n (staged_sequence job) None (sequence_name job)))
      (name_itself (sequence_name job)) ∙ there;
  gone = ap (λ b. cond b (n (staged_sequence job)) (put n (staged_sequence job) None (staged_sequence job)))
      (turned (sequence_name job) (staged_sequence job) (sequences_apart job))
      ∙ ap (λ b. cond b None (n (staged_sequence job))) (name_itself (staged_sequence job));
  others = λ name e f. ap (λ b. cond b (n (staged_sequence job)) (put n (staged_sequence job) None name)) e
      ∙ (ap (λ b. cond b None (n name)) f ∙ others name f);
}
