-- What a reader meets while a sequence is done and the staging is cleaned.
use Rattle.std.proofs.Common.{◌≡◌, ◌≢◌, inl, inr, ⊎_elim, ◌⊎◌, ℕ, false, cond, List, refl, sym, ap, subst, ◌∙◌}
use Rattle.std.proofs.Common.{None, IfSome}
use Rattle.std.specs.declared.option.Option.{Option}
use Rattle.gob_bytes.specs.Paths.{begins_with, sequence_name, staging}
use Rattle.gob_bytes.proofs.Tables.{two_names}
use Rattle.gob_bytes.proofs.Options.{if_both}
use Rattle.gob_device.specs.Disk.{AddsMaps, AddsOne, Along, Disk, EachFrom, EachOf, Files, Whole, after_remove}
use Rattle.gob_device.specs.Disk.{after_rename, last_map, put}
use Rattle.gob_device.proofs.Trail.{along_map, each-append, each-last, each-map, maps_then}
use Rattle.gob_recovery.specs.Commits.{OnlyBelow, part_done, staged_sequence}
use Rattle.gob_recovery.specs.Sequence.{CommitStep, WellFormed}
use Rattle.gob_recovery.specs.Settle.{do_steps}
use Rattle.gob_recovery.proofs.Commits.{CanCommit, apart_below, sequence_staged}
use Rattle.gob_recovery.proofs.Opened.{change_once}
use Rattle.gob_recovery.proofs.Settled.{cleaned_other}
use Rattle.gob_seq.specs.Maps.{CanFinish, CommitsByName, EndsAs, Finishes, HoldsOneOf, SettlesByName, finished_files}
use Rattle.gob_seq.proofs.ByNames.{finish_maps}
use Rattle.gob_seq.proofs.GoingOver.{WhereReady, finish_part, opened_map, opens}
use Rattle.gob_seq.proofs.Resettled.{to_after}
use Rattle.gob_seq.proofs.Trails.{along_known, maps_both}

-- ---- steps that are done

finished_at : (job : List ℕ) (steps : List CommitStep) (m : Files) (name : List ℕ) → name ≢ sequence_name job
    → finished_files (sequence_name job) steps m name ≡ do_steps steps m name
unfolding after_remove
finished_at job steps m name apart =
    ap (λ b. cond b None (do_steps steps m name)) (two_names name (sequence_name job) apart)

finish_once : (job : List ℕ) (steps : List CommitStep) (m n : Files) (name : List ℕ) → WellFormed job steps
    → name ≢ sequence_name job → Finishes (sequence_name job) steps m n
    → (n name ≡ m name) ⊎ (n name ≡ do_steps steps m name)
finish_once job steps m n name fits apart (inl front) =
    let here : n name ≡ do_steps _ m name = ap (λ (x : Files). x name) front.1 in
    ⊎_elim (λ e. inl (here ∙ e)) (λ e. inr (here ∙ e)) (change_once job steps m front.0 name fits)
finish_once job steps m n name fits apart (inr done) =
    inr (ap (λ (x : Files). x name) done ∙ finished_at job steps m name apart)

-- ---- an open sequence is done

finish_read : (job : List ℕ) (m n : Files) (steps : List CommitStep) → CanFinish job m steps
    → Finishes (sequence_name job) steps m n → SettlesByName job m n
finish_read job m n steps can f = λ settled s name out apart.
    let after : do_steps steps m name ≡ settled name =
    sym (finished_at job steps m name apart)
    ∙ (sym (cleaned_other job (finished_files (sequence_name job) steps m) name out)
    ∙ ap (λ (x : Files). x name) (to_after job m steps can settled s)) in
    ⊎_elim (λ e. inl e) (λ e. inr (e ∙ after)) (finish_once job steps m n name can.opened.reads.fits apart f)

pub done_read : (job name : List ℕ) (steps ss : List CommitStep) {old between new : Option Disk}
    → name ≡ sequence_name job
    → ss ≡ steps → between ≡ old → IfSome old (λ d. CanFinish job d.files steps) → Along (Finishes name ss) between new
    → Along (SettlesByName job) old new
done_read job name steps ss {old} {between} {new} is same still can a =
    along_known (Finishes (sequence_name job) steps) (SettlesByName job)
    (if_both old (λ d k n f. finish_read job d.files n steps k f) can)
    (subst (λ o. Along (Finishes (sequence_name job) steps) o new) still (finish_maps job name steps ss is same a))

-- ---- a sequence is opened and done

-- but for the staging and the sequence nothing differs
abbrev pub KeepsNames : List ℕ → Files → Files → Type 0
KeepsNames job m n = (name : List ℕ) → begins_with (staging job) name ≡ false → name ≢ sequence_name job
    → n name ≡ m name

keeps_below : (job : List ℕ) (m n : Files) → OnlyBelow (staging job) m n → KeepsNames job m n
keeps_below job m n below = λ name out apart. below name out

keeps_renamed : (job : List ℕ) (m : Files)
    → KeepsNames job m (after_rename (staged_sequence job) (sequence_name job) m)
unfolding after_rename
keeps_renamed job m = λ name out apart.
    ap (λ b. cond b (m (staged_sequence job)) (put m (staged_sequence job) None name))
    (two_names name (sequence_name job) apart)
    ∙ ap (λ b. cond b None (m name))
    (apart_below (staging job) (staged_sequence job) name (sequence_staged job) out)

pub keeps_read : (job : List ℕ) (steps : List CommitStep) {old new : Option Disk} → Along (KeepsNames job) old new
    → Along (CommitsByName job steps) old new
keeps_read job steps a =
    along_map (KeepsNames job) (CommitsByName job steps) (λ m n keeps name out apart. inl (keeps name out apart)) a

pub written_keeps : (job : List ℕ) {old new : Option Disk} → Along (OnlyBelow (staging job)) old new
    → Along (KeepsNames job) old new
written_keeps job a = along_map (OnlyBelow (staging job)) (KeepsNames job) (keeps_below job) a

pub renamed_keeps : (job : List ℕ) {old between new : Option Disk} → Along (KeepsNames job) old between
    → AddsMaps (AddsOne (after_rename (staged_sequence job) (sequence_name job))
    (Whole (after_rename (staged_sequence job) (sequence_name job)))) between new
    → Along (KeepsNames job) old new
renamed_keeps job a b = maps_then
    (λ m xs ys p q. each-append (KeepsNames job m) xs ys p
    (one m (last_map m xs) ys (each-last (KeepsNames job m) m xs (λ name out apart. refl) p) q))
    a b
  where
    step : Files → Files
    step = after_rename (staged_sequence job) (sequence_name job)

    same_map : (m last n : Files) → KeepsNames job m last → n ≡ last → KeepsNames job m n
    same_map m last n keeps e = λ name out apart. ap (λ (x : Files). x name) e ∙ keeps name out apart

    stepped : (m last n : Files) → KeepsNames job m last → n ≡ step last → KeepsNames job m n
    stepped m last n keeps e = λ name out apart.
        ap (λ (x : Files). x name) e ∙ (keeps_renamed job last name out apart ∙ keeps name out apart)

    one : (m last : Files) (ys : List Files) → KeepsNames job m last → AddsOne step (Whole step) last ys
        → EachOf (KeepsNames job m) ys
    one m last ys keeps is = ⊎_elim
        (λ none. subst (EachOf (KeepsNames job m)) (sym none) tt)
        (λ some. subst (EachOf (KeepsNames job m)) (sym some.1) (
          ⊎_elim (λ e. stepped m last some.0 keeps e)
              (λ w. ⊎_elim (λ e. same_map m last some.0 keeps e) (λ e. stepped m last some.0 keeps e) w) some.2,
          tt,
        ))
        is

part_at : (job : List ℕ) (steps : List CommitStep) (m : Files) (name : List ℕ)
    → begins_with (staging job) name ≡ false → part_done job steps m name ≡ do_steps steps m name
unfolding after_remove
part_at job steps m name out = ap (λ b. cond b None (do_steps steps m name))
    (apart_below (staging job) (staged_sequence job) name (sequence_staged job) out)

commit_read : (job : List ℕ) (steps : List CommitStep) (m last n : Files) → CanCommit job steps m
    → last ≡ opened_map job steps m → Finishes (sequence_name job) steps last n → CommitsByName job steps m n
commit_read job steps m last n can is f = λ name out apart.
    let here : last name ≡ m name =
    ap (λ (x : Files). x name) is
    ∙ (opens job steps m).others name (two_names name (sequence_name job) apart)
    (apart_below (staging job) (staged_sequence job) name (sequence_staged job) out) in
    let all : do_steps steps last name ≡ do_steps steps m name =
    sym (finished_at job steps last name apart)
    ∙ (ap (λ (x : Files). x name) (finish_part job steps m last can is) ∙ part_at job steps m name out) in
    ⊎_elim (λ e. inl (e ∙ here)) (λ e. inr (e ∙ all)) (finish_once job steps last n name can.fits apart f)

pub commits_read : (job : List ℕ) (steps : List CommitStep) {old between new : Option Disk}
    → Along (KeepsNames job) old between → AddsMaps (EndsAs (opened_map job steps)) old between
    → Along (Finishes (sequence_name job) steps) between new
    → AddsMaps (WhereReady job steps (EachFrom (CommitsByName job steps))) old new
commits_read job steps a ends b = maps_then
    (λ m xs ys p q can. each-append (CommitsByName job steps m) xs ys
    (each-map (KeepsNames job m) (CommitsByName job steps m) xs
    (λ n keeps name out apart. inl (keeps name out apart)) p.0)
    (each-map (Finishes (sequence_name job) steps (last_map m xs)) (CommitsByName job steps m) ys
    (λ n f. commit_read job steps m (last_map m xs) n can p.1 f) q))
    (maps_both a ends) b

-- ---- what is staged is taken away

read_below : (job : List ℕ) (m settled n k : Files) → HoldsOneOf job m settled n → OnlyBelow (staging job) n k
    → HoldsOneOf job m settled k
read_below job m settled n k held below = λ name out apart.
    ⊎_elim (λ e. inl (below name out ∙ e)) (λ e. inr (below name out ∙ e)) (held name out apart)

-- what staged files don't touch holds on
along_cleaned : (job : List ℕ) (R : Files → Files → Type 0) {old between new : Option Disk} → ((m : Files) → R m m)
    → ((m n k : Files) → R m n → OnlyBelow (staging job) n k → R m k) → Along R old between
    → Along (OnlyBelow (staging job)) between new → Along R old new
along_cleaned job R same joins a b = maps_then
    (λ m xs ys p q. each-append (R m) xs ys p
    (each-map (OnlyBelow (staging job) (last_map m xs)) (R m) ys
    (λ k below. joins m (last_map m xs) k (each-last (R m) m xs (same m) p) below) q))
    a b

pub settles_read_cleaned : (job : List ℕ) {old between new : Option Disk} → Along (SettlesByName job) old between
    → Along (OnlyBelow (staging job)) between new → Along (SettlesByName job) old new
settles_read_cleaned job a b = along_cleaned job (SettlesByName job) (λ m settled s name out apart. inl refl)
    (λ m n k held below settled s. read_below job m settled n k (held settled s) below) a b

pub commits_read_cleaned : (job : List ℕ) (steps : List CommitStep) {old between new : Option Disk}
    → Along (CommitsByName job steps) old between → Along (OnlyBelow (staging job)) between new
    → Along (CommitsByName job steps) old new
commits_read_cleaned job steps a b = along_cleaned job (CommitsByName job steps) (λ m name out apart. inl refl)
    (λ m n k held below. read_below job m (do_steps steps m) n k held below) a b
