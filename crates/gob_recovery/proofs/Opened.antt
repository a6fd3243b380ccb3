-- A sequence that was just opened, and what its steps do on the way.
use Rattle.std.proofs.Common.{◌≡◌, ◌⊎◌, ⊎_elim, inl, inr, ℕ, zero, suc, Bool, true, false, cond, ◌&&◌, ◌||◌, List, []}
use Rattle.std.proofs.Common.{◌∷◌, refl, sym, ap, subst, ◌∙◌, is_some, take, Some, None}
use Rattle.std.specs.List.{AllByRecursion, list_all}
use Rattle.std.specs.Str.{bytes_eq}
use Rattle.std.proofs.lemmas.Slice.Eq.{bytes_eq-Decides}
use Rattle.gob_bytes.specs.Paths.{sequence_name}
use Rattle.gob_bytes.proofs.Tables.{name_itself}
use Rattle.gob_device.specs.Disk.{Files, File, clean, put, after_rename, after_remove}
use Rattle.gob_recovery.specs.Sequence.{CommitStep, move, remove, sequence_text}
use Rattle.gob_recovery.specs.Settle.{do_step, do_steps, moved_where, without_staging, can_do}
use Rattle.gob_recovery.specs.Laws.{OpenedSettles, StepsChangeOnce}
use Rattle.gob_recovery.proofs.Again.{Off, Differ, Apart, apart_from, step_off, steps_apart, turned}

-- the maps agree but at one name
abbrev pub Beside : List ℕ → Files → Files → Type 0
Beside seq a b = (name : List ℕ) → bytes_eq name seq ≡ false → a name ≡ b name

moved_beside : (v : Bool) (seq source target : List ℕ) (a b : Files) → Beside seq a b → bytes_eq source seq ≡ false
    → Beside seq (moved_where source target v a) (moved_where source target v b)
unfolding after_rename
moved_beside true seq source target a b agree s = λ name p. λ i.
    cond (bytes_eq name target) (agree source s i) (cond (bytes_eq name source) None (agree name p i))
moved_beside false seq source target a b agree s = agree

pub step_beside : (seq : List ℕ) (s : CommitStep) (a b : Files) → Off s seq → Beside seq a b
    → Beside seq (do_step s a) (do_step s b)
unfolding after_remove
step_beside seq (move source target) a b (p, (q, u)) agree = λ name e.
    moved_beside (is_some (a source)) seq source target a b agree (turned seq source p) name e
    ∙ ap (λ o. moved_where source target (is_some o) b name) (agree source (turned seq source p))
step_beside seq (remove other) a b (p, u) agree = λ name e. λ i. cond (bytes_eq name other) None (agree name e i)

pub steps_beside : (seq : List ℕ) (ss : List CommitStep) (a b : Files) → AllByRecursion (λ t. Off t seq) ss
    → Beside seq a b → Beside seq (do_steps ss a) (do_steps ss b)
unfolding do_steps
steps_beside seq [] a b off agree = agree
steps_beside seq (s ∷ ss) a b off agree = steps_beside seq ss (do_step s a) (do_step s b) off.1
    (step_beside seq s a b off.0 agree)

can_beside : (seq : List ℕ) (s : CommitStep) (a b : Files) → Off s seq → Beside seq a b → can_do a s ≡ can_do b s
can_beside seq (move source target) a b (p, (q, u)) agree = λ i.
    is_some (agree source (turned seq source p) i) || is_some (agree target (turned seq target q) i)
can_beside seq (remove name) a b off agree = refl

pub all_beside : (seq : List ℕ) (ss : List CommitStep) (a b : Files) → AllByRecursion (λ t. Off t seq) ss
    → Beside seq a b → list_all (can_do a) ss ≡ list_all (can_do b) ss
all_beside seq [] a b off agree = refl
all_beside seq (s ∷ ss) a b off agree = λ i. can_beside seq s a b off.0 agree i && all_beside seq ss a b off.1 agree i

pub steps_still : (ss : List CommitStep) (m : Files) (name : List ℕ) → AllByRecursion (λ t. Off t name) ss
    → do_steps ss m name ≡ m name
unfolding do_steps
steps_still [] m name off = refl
steps_still (s ∷ ss) m name off = steps_still ss (do_step s m) name off.1 ∙ step_off s m name off.0

opened_each : (seq : List ℕ) (steps : List CommitStep) (m n : Files) → AllByRecursion (λ t. Off t seq) steps
    → m seq ≡ None → Beside seq n m → (name : List ℕ) → do_steps steps m name ≡ after_remove seq (do_steps steps n) name
unfolding after_remove
opened_each seq steps m n off closed agree name = elim (bytes_eq name seq) as
    (λ b. bytes_eq name seq ≡ b → do_steps steps m name ≡ cond b None (do_steps steps n name)) [
      | true ↦ λ e. ap (do_steps steps m) ((bytes_eq-Decides name seq).0 e) ∙ (steps_still steps m seq off ∙ closed)
      | false ↦ λ e. sym (steps_beside seq steps n m off agree name e)
    ] refl

pub opened : OpenedSettles
opened job steps m fits closed can =
    let text : File = clean (sequence_text steps) in
    let off = steps_apart job steps fits.each in
    let agree : Beside (sequence_name job) (put m (sequence_name job) (Some text)) m = λ name p.
    ap (λ b. cond b (Some text) (m name)) p in
    inr (
      steps,
      record {
        file = text;
        here = ap (λ b. cond b (Some text) (m (sequence_name job))) (name_itself (sequence_name job));
        reads = record { spelled = refl; fits = fits };
      },
      all_beside (sequence_name job) steps (put m (sequence_name job) (Some text)) m off agree ∙ can,
      ap (without_staging job) (λ i name. opened_each (sequence_name job) steps m
          (put m (sequence_name job) (Some text)) off closed agree name i),
    )

-- a step leaves the name alone, or no later one has it
touched : (s : CommitStep) (name : List ℕ) → Off s name ⊎ ((t : CommitStep) → Differ s t → Off t name)
touched (move a b) name = elim (bytes_eq name a) as (λ v. bytes_eq name a ≡ v → Off (move a b) name
    ⊎ ((t : CommitStep) → Differ (move a b) t → Off t name)) [
      | true ↦ λ e. inr (λ t d. subst (Off t) (sym ((bytes_eq-Decides name a).0 e)) d.0)
      | false ↦ λ e. elim (bytes_eq name b) as (λ w. bytes_eq name b ≡ w → Off (move a b) name
          ⊎ ((t : CommitStep) → Differ (move a b) t → Off t name)) [
            | true ↦ λ f. inr (λ t d. subst (Off t) (sym ((bytes_eq-Decides name b).0 f)) d.1)
            | false ↦ λ f. inl (e, (f, tt))
          ] refl
    ] refl
touched (remove a) name = elim (bytes_eq name a) as (λ v. bytes_eq name a ≡ v → Off (remove a) name
    ⊎ ((t : CommitStep) → Differ (remove a) t → Off t name)) [
      | true ↦ λ e. inr (λ t d. subst (Off t) (sym ((bytes_eq-Decides name a).0 e)) d)
      | false ↦ λ e. inl (e, tt)
    ] refl

later_off : (s : CommitStep) (ss : List CommitStep) (name : List ℕ) → ((t : CommitStep) → Differ s t → Off t name)
    → AllByRecursion (Differ s) ss → AllByRecursion (λ t. Off t name) ss
later_off s [] name f d = tt
later_off s (t ∷ ts) name f d = (f t d.0, later_off s ts name f d.1)

once : (steps : List CommitStep) (m : Files) (k : ℕ) (name : List ℕ) → Apart steps
    → (do_steps (take k steps) m name ≡ m name) ⊎ (do_steps (take k steps) m name ≡ do_steps steps m name)
unfolding do_steps
once [] m zero name apart = inl refl
once [] m (suc k) name apart = inl refl
once (s ∷ ss) m zero name apart = inl refl
once (s ∷ ss) m (suc k) name apart = ⊎_elim
    (λ e. ⊎_elim (λ off. inl (e ∙ step_off s m name off)) (λ f.
    inr (e ∙ sym (steps_still ss (do_step s m) name (later_off s ss name f apart.1)))) (touched s name))
    (λ e. inr e)
    (once ss (do_step s m) k name apart.2)

pub change_once : StepsChangeOnce
change_once job steps m k name fits = once steps m k name (apart_from steps fits.differ)
