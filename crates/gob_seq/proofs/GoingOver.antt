-- What the maps of a commit settle to.
use Rattle.std.proofs.Common.{◌≡◌, inl, inr, ⊎_elim, ℕ, false, cond, List, [], ◌∷◌, ◌++◌, refl, sym}
use Rattle.std.proofs.Common.{ap, subst, ◌∙◌, Some, None, take, option_map, IfSome, IsSome, is_some}
use Rattle.std.specs.declared.option.Option.{Option}
use Rattle.std.specs.Str.{bytes_eq}
use Rattle.std.proofs.lemmas.List.{append-nil}
use Rattle.std.proofs.lemmas.Bool.{true≢false}
use Rattle.std.proofs.lemmas.Slice.Eq.{bytes_eq-Decides}
use Rattle.gob_bytes.specs.Paths.{staging, sequence_name}
use Rattle.gob_bytes.proofs.Options.{if_both}
use Rattle.gob_device.specs.Disk.{Files, Disk, AddsMaps, AddsOne, Along, Both, EachOf, Rises, Went, Whole}
use Rattle.gob_device.specs.Disk.{after_append, after_create, after_remove, after_rename, after_sync, clean, last_map}
use Rattle.gob_device.specs.Disk.{synced_file, with_more}
use Rattle.gob_device.proofs.Trail.{each-append, each-last, each-map, last-append, maps_map, maps_nothing, maps_then}
use Rattle.gob_device.proofs.Trail.{rises_on}
use Rattle.gob_recovery.specs.Commits.{OnlyBelow, part_done, staged_sequence}
use Rattle.gob_recovery.specs.Sequence.{CommitStep, WellFormed, sequence_text}
use Rattle.gob_recovery.specs.Settle.{do_steps, without_staging}
use Rattle.gob_recovery.proofs.Commits.{CanCommit, Opens, apart_below, below_same, closed_settles, closes_is}
use Rattle.gob_recovery.proofs.Commits.{renamed_opens, sequence_staged, sequences_apart, staged_settles, steps_go}
use Rattle.gob_recovery.proofs.Commits.{without_alike, written}
use Rattle.gob_seq.specs.Maps.{EndsAs, Finishes, GoesOver, IsReady, SettlesWell, after_write, finished_files}
use Rattle.gob_seq.proofs.Trails.{maps_both, maps_known}

pub can_commit : (job : List ℕ) (steps : List CommitStep) (m : Files) → WellFormed job steps → IsReady job steps m
    → CanCommit job steps m
can_commit job steps m fits ready = record { fits = fits; closed = ready.closed; can = ready.can }

-- the map in which the sequence was opened
abbrev pub opened_map : List ℕ → List CommitStep → Files → Files
opened_map job steps m =
    after_rename (staged_sequence job) (sequence_name job) (after_write (staged_sequence job) (sequence_text steps) m)

write_others : (name bytes other : List ℕ) (m : Files) → bytes_eq other name ≡ false
    → after_write name bytes m other ≡ m other
unfolding after_sync after_append after_create
write_others name bytes other m e =
    let made : Files = after_create name m in
    let more : Files = after_append name bytes made in
    ap (λ b. cond b (option_map synced_file (more name)) (more other)) e
    ∙ (ap (λ b. cond b (option_map (with_more bytes) (made name)) (made other)) e
    ∙ ap (λ b. cond b (Some (clean [])) (m other)) e)

pub opens : (job : List ℕ) (steps : List CommitStep) (m : Files) → Opens job steps m (opened_map job steps m)
opens job steps m =
    renamed_opens job steps m (after_write (staged_sequence job) (sequence_text steps) m)
    (written (staged_sequence job) (sequence_text steps) m)
    (λ name e. write_others (staged_sequence job) (sequence_text steps) name m e)

-- ---- single maps

before_well : (job : List ℕ) (m n : Files) → m (sequence_name job) ≡ None → OnlyBelow (staging job) m n
    → SettlesWell job (without_staging job m) n
before_well job m n closed below =
    let both = staged_settles job m n closed below in record { settles = both.0; images = both.1 }

front_well : (job : List ℕ) (steps : List CommitStep) (m n : Files) (k : ℕ) → CanCommit job steps m
    → n ≡ do_steps (take k steps) (opened_map job steps m) → SettlesWell job (without_staging job (do_steps steps m)) n
front_well job steps m n k can is =
    let go = steps_go job steps m (opened_map job steps m) k can (opens job steps m) in
    subst (SettlesWell job (without_staging job (do_steps steps m))) (sym is)
    (record { settles = go.settles; images = go.images })

opened_well : (job : List ℕ) (steps : List CommitStep) (m n : Files) → CanCommit job steps m
    → n ≡ opened_map job steps m → SettlesWell job (without_staging job (do_steps steps m)) n
unfolding do_steps
opened_well job steps m n can is = front_well job steps m n 0 can is

after_well : (job : List ℕ) (steps : List CommitStep) (m n : Files) → CanCommit job steps m
    → OnlyBelow (staging job) (part_done job steps m) n → SettlesWell job (without_staging job (do_steps steps m)) n
after_well job steps m n can below =
    let both = closed_settles job steps m n can below in record { settles = both.0; images = both.1 }

pub finish_part : (job : List ℕ) (steps : List CommitStep) (m last : Files) → CanCommit job steps m
    → last ≡ opened_map job steps m → finished_files (sequence_name job) steps last ≡ part_done job steps m
finish_part job steps m last can is =
    ap (finished_files (sequence_name job) steps) is ∙ closes_is job steps m (opened_map job steps m) can
    (opens job steps m)

finish_well : (job : List ℕ) (steps : List CommitStep) (m last n : Files) → CanCommit job steps m
    → last ≡ opened_map job steps m → Finishes (sequence_name job) steps last n
    → SettlesWell job (without_staging job (do_steps steps m)) n
finish_well job steps m last n can is (inl front) =
    front_well job steps m n front.0 can (front.1 ∙ ap (do_steps (take front.0 steps)) is)
finish_well job steps m last n can is (inr done) =
    let same : n ≡ part_done job steps m = done ∙ finish_part job steps m last can is in
    after_well job steps m n can (λ name e. ap (λ (x : Files). x name) same)

-- ---- the maps in a row

-- none of the second stretch
over_before : (job : List ℕ) (steps : List CommitStep) (m : Files) (xs : List Files) → CanCommit job steps m
    → EachOf (OnlyBelow (staging job) m) xs → GoesOver job steps m xs
unfolding Rises
over_before job steps m xs can each = (
  xs,
  [],
  sym (append-nil xs),
  each-map (OnlyBelow (staging job) m) (SettlesWell job (without_staging job m)) xs
      (λ n b. before_well job m n can.closed b) each,
  ([], [], refl, tt, refl),
)

-- all of the second stretch
over_after : (job : List ℕ) (steps : List CommitStep) (m : Files) (ys : List Files)
    → EachOf (SettlesWell job (without_staging job (do_steps steps m))) ys
    → Rises (SettlesWell job) (without_staging job (do_steps steps m) ∷ []) ys
unfolding Rises
over_after job steps m ys each = (ys, [], sym (append-nil ys), each, refl)

over_then : (job : List ℕ) (steps : List CommitStep) (m : Files) (xs ys : List Files) → GoesOver job steps m xs
    → EachOf (SettlesWell job (without_staging job (do_steps steps m))) ys → GoesOver job steps m (xs ++ ys)
over_then job steps m xs ys over each =
    rises_on (SettlesWell job) (without_staging job m ∷ []) (without_staging job (do_steps steps m)) [] xs ys over
    (over_after job steps m ys each)

-- the sequence is written and then opened
over_opened : (job : List ℕ) (steps : List CommitStep) (m last : Files) (xs ys : List Files) → CanCommit job steps m
    → EachOf (OnlyBelow (staging job) m) xs → OnlyBelow (staging job) m last
    → last ≡ after_write (staged_sequence job) (sequence_text steps) m
    → AddsOne (after_rename (staged_sequence job) (sequence_name job))
    (Whole (after_rename (staged_sequence job) (sequence_name job))) last ys
    → GoesOver job steps m (xs ++ ys)
over_opened job steps m last xs ys can each below is one = ⊎_elim
    (λ none. subst (λ t. GoesOver job steps m (xs ++ t)) (sym none)
    (subst (GoesOver job steps m) (sym (append-nil xs)) (over_before job steps m xs can each)))
    (λ some. subst (λ t. GoesOver job steps m (xs ++ t)) (sym some.1)
    (⊎_elim (λ e. after some.0 e) (λ w. ⊎_elim (λ e. before some.0 e) (λ e. after some.0 e) w) some.2))
    one
  where
    after : (n : Files) → n ≡ after_rename (staged_sequence job) (sequence_name job) last
        → GoesOver job steps m (xs ++ n ∷ [])
    after n e = over_then job steps m xs (n ∷ []) (over_before job steps m xs can each)
        (opened_well job steps m n can (e ∙ ap (after_rename (staged_sequence job) (sequence_name job)) is), tt)

    before : (n : Files) → n ≡ last → GoesOver job steps m (xs ++ n ∷ [])
    before n e = over_before job steps m (xs ++ n ∷ []) can
        (each-append (OnlyBelow (staging job) m) xs (n ∷ []) each
        (subst (OnlyBelow (staging job) m) (sym e) below, tt))

-- ---- the maps of the calls

-- where the steps can be committed
abbrev pub WhereReady : List ℕ → List CommitStep → (Files → List Files → Type 0) → Files → List Files → Type 0
WhereReady job steps P m xs = CanCommit job steps m → P m xs

pub where_ready : (job : List ℕ) (steps : List CommitStep) {P : Files → List Files → Type 0} {old new : Option Disk}
    → WellFormed job steps → IfSome old (λ d. IsReady job steps d.files) → AddsMaps (WhereReady job steps P) old new
    → AddsMaps P old new
where_ready job steps {P} {old} fits ready a =
    maps_known (if_both old (λ d r xs p. p (can_commit job steps d.files fits r)) ready) a

pub over_nothing : (job : List ℕ) (steps : List CommitStep) (o : Option Disk) → AddsMaps (GoesOver job steps) o o
unfolding Rises
over_nothing job steps o = maps_nothing (GoesOver job steps) (λ m. ([], [], refl, tt, ([], [], refl, tt, refl))) o

-- the staged sequence is there
pub staged_there : (job bytes : List ℕ) {old new : Option Disk}
    → AddsMaps (EndsAs (after_write (staged_sequence job) bytes)) old new
    → IfSome new (λ d. IsSome (d.files (staged_sequence job)))
staged_there job bytes {old} {new} a = told old new a.told
  where
    told : (o n : Option Disk) → Both (Went (EndsAs (after_write (staged_sequence job) bytes))) o n
        → IfSome n (λ d. IsSome (d.files (staged_sequence job)))
    told o None w = tt
    told None (Some e) w = absurd w
    told (Some d) (Some e) w =
        ap (λ (x : Files). is_some (x (staged_sequence job))) (w.stands ∙ w.holds)
        ∙ ap (λ o. is_some o) (written (staged_sequence job) bytes d.files)

pub staged_apart : (job : List ℕ) → staged_sequence job ≡ sequence_name job → ⊥
staged_apart job e =
    true≢false (sym ((bytes_eq-Decides (sequence_name job) (staged_sequence job)).1 (sym e)) ∙ sequences_apart job)

pub over_written : (job : List ℕ) (steps : List CommitStep) {old new : Option Disk}
    → Along (OnlyBelow (staging job)) old new
    → AddsMaps (WhereReady job steps (GoesOver job steps)) old new
over_written job steps a = maps_map (λ m xs each can. over_before job steps m xs can each) a

pub over_renamed : (job : List ℕ) (steps : List CommitStep) {old between new : Option Disk}
    → Along (OnlyBelow (staging job)) old between
    → AddsMaps (EndsAs (after_write (staged_sequence job) (sequence_text steps))) old between
    → AddsMaps (AddsOne (after_rename (staged_sequence job) (sequence_name job))
    (Whole (after_rename (staged_sequence job) (sequence_name job)))) between new
    → AddsMaps (WhereReady job steps (GoesOver job steps)) old new
over_renamed job steps a ends b = maps_then
    (λ m xs ys p q can. over_opened job steps m (last_map m xs) xs ys can p.0
    (each-last (OnlyBelow (staging job) m) m xs (below_same (staging job) m) p.0) p.1 q)
    (maps_both a ends) b

pub over_finished : (job : List ℕ) (steps : List CommitStep) {old between new : Option Disk}
    → AddsMaps (WhereReady job steps (GoesOver job steps)) old between
    → AddsMaps (EndsAs (opened_map job steps)) old between
    → Along (Finishes (sequence_name job) steps) between new → AddsMaps (WhereReady job steps (GoesOver job steps)) old
    new
over_finished job steps a ends b = maps_then
    (λ m xs ys p q can. over_then job steps m xs ys (p.0 can)
    (each-map (Finishes (sequence_name job) steps (last_map m xs))
    (SettlesWell job (without_staging job (do_steps steps m))) ys
    (λ n f. finish_well job steps m (last_map m xs) n can p.1 f) q))
    (maps_both a ends) b

pub ends_part : (job : List ℕ) (steps : List CommitStep) {old between new : Option Disk}
    → AddsMaps (EndsAs (opened_map job steps)) old between
    → AddsMaps (EndsAs (finished_files (sequence_name job) steps)) between new
    → AddsMaps (WhereReady job steps (EndsAs (part_done job steps))) old new
ends_part job steps a b = maps_then
    (λ m xs ys p q can. last-append m xs ys ∙ (q ∙ finish_part job steps m (last_map m xs) can p))
    a b

pub over_cleaned : (job : List ℕ) (steps : List CommitStep) {old between new : Option Disk}
    → AddsMaps (GoesOver job steps) old between → AddsMaps (EndsAs (part_done job steps)) old between
    → Along (OnlyBelow (staging job)) between new → AddsMaps (WhereReady job steps (GoesOver job steps)) old new
over_cleaned job steps a ends b = maps_then
    (λ m xs ys p q can. over_then job steps m xs ys p.0
    (each-map (OnlyBelow (staging job) (last_map m xs)) (SettlesWell job (without_staging job (do_steps steps m))) ys
    (λ n below. after_well job steps m n can (subst (λ (x : Files). OnlyBelow (staging job) x n) p.1 below)) q))
    (maps_both a ends) b

part_cleaned : (job : List ℕ) (steps : List CommitStep) (m : Files)
    → without_staging job (part_done job steps m) ≡ without_staging job (do_steps steps m)
unfolding after_remove
part_cleaned job steps m = without_alike job (part_done job steps m) (do_steps steps m)
    (λ name e. ap (λ b. cond b None (do_steps steps m name))
    (apart_below (staging job) (staged_sequence job) name (sequence_staged job) e))

pub ends_cleaned : (job : List ℕ) (steps : List CommitStep) {old between new : Option Disk}
    → AddsMaps (EndsAs (part_done job steps)) old between → AddsMaps (EndsAs (without_staging job)) between new
    → AddsMaps (EndsAs (λ m. without_staging job (do_steps steps m))) old new
ends_cleaned job steps a b = maps_then
    (λ m xs ys p q. last-append m xs ys ∙ (q ∙ (ap (without_staging job) p ∙ part_cleaned job steps m)))
    a b
