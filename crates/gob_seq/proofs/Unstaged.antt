-- Settling stages nothing: each staged name keeps what it held, or loses it.
use Rattle.std.proofs.Common.{◌≡◌, ◌⊎◌, inl, inr, ⊎_elim, ℕ, zero, suc, Bool, true, false, cond, not, ◌&&◌, List, []}
use Rattle.std.proofs.Common.{◌∷◌, map, take, refl, sym, ap, subst, ◌∙◌, Some, None, is_some}
use Rattle.std.specs.declared.option.Option.{Option}
use Rattle.std.specs.List.{list_all}
use Rattle.std.specs.Str.{bytes_eq}
use Rattle.std.proofs.lemmas.Bool.{and_parts, not-true, true≢false}
use Rattle.gob_bytes.specs.Paths.{begins_with, sequence_name, staging, under}
use Rattle.gob_bytes.proofs.Tables.{two_names}
use Rattle.gob_device.specs.Disk.{Along, Disk, File, Files, after_remove, after_rename, put}
use Rattle.gob_device.proofs.Trail.{along_map}
use Rattle.gob_recovery.specs.Sequence.{CommitStep, WellFormed, is_file_name, is_lasting, is_staged, move, remove}
use Rattle.gob_recovery.specs.Sequence.{step_fits}
use Rattle.gob_recovery.specs.Settle.{do_step, do_steps, moved_where}
use Rattle.gob_seq.specs.Maps.{Finishes, FrontIsDone, OnlyUnstages, finished_files}
use Rattle.gob_seq.proofs.ByNames.{finish_maps}

unstages_itself : (job : List ℕ) (m : Files) → OnlyUnstages job m m
unstages_itself job m = λ name staged. inl refl

pub unstages_then : (job : List ℕ) (m n k : Files) → OnlyUnstages job m n → OnlyUnstages job n k → OnlyUnstages job m k
unstages_then job m n k first next = λ name staged.
    ⊎_elim (λ e. ⊎_elim (λ f. inl (e ∙ f)) (λ f. inr (e ∙ f)) (first name staged)) (λ e. inr e) (next name staged)

-- ---- one step

one_or_none : (b : Bool) (file : Option File) → (cond b None file ≡ file) ⊎ (cond b None file ≡ None)
one_or_none true file = inr refl
one_or_none false file = inl refl

unstages_removed : (job gone : List ℕ) (m : Files) → OnlyUnstages job m (after_remove gone m)
unfolding after_remove
unstages_removed job gone m = λ name staged. one_or_none (bytes_eq name gone) (m name)

unstages_moved : (job source target : List ℕ) (m : Files) → begins_with (staging job) target ≡ false
    → OnlyUnstages job m (after_rename source target m)
unfolding after_rename
unstages_moved job source target m out = λ name staged.
    let other = ap (λ b. cond b (m source) (put m source None name))
    (two_names name target (λ e. true≢false (sym staged ∙ (ap (begins_with (staging job)) e ∙ out)))) in
    ⊎_elim (λ e. inl (other ∙ e)) (λ e. inr (other ∙ e)) (one_or_none (bytes_eq name source) (m name))

moved_or_not : (there : Bool) (job source target : List ℕ) (m : Files) → begins_with (staging job) target ≡ false
    → OnlyUnstages job m (moved_where source target there m)
moved_or_not true job source target m out = unstages_moved job source target m out
moved_or_not false job source target m out = unstages_itself job m

lasting_unstaged : (job name : List ℕ) → is_lasting job name ≡ true → begins_with (staging job) name ≡ false
lasting_unstaged job name e =
    let p = and_parts (begins_with (under job []) name && not (begins_with (staging job) name))
    (not (bytes_eq name (sequence_name job))) e in
    not-true (begins_with (staging job) name) (and_parts (begins_with (under job []) name) _ p.0).1

unstages_step : (job : List ℕ) (s : CommitStep) (m : Files) → step_fits job s ≡ true
    → OnlyUnstages job m (do_step s m)
unstages_step job (move source target) m fits =
    let p = and_parts (is_staged job source && is_lasting job target && is_file_name source) (is_file_name target) fits
    in
    let q = and_parts (is_staged job source && is_lasting job target) (is_file_name source) p.0 in
    moved_or_not (is_some (m source)) job source target m
    (lasting_unstaged job target (and_parts (is_staged job source) (is_lasting job target) q.0).1)
unstages_step job (remove gone) m fits = unstages_removed job gone m

-- ---- steps that are done

unstages_front : (job : List ℕ) (steps : List CommitStep) (k : ℕ) (m : Files)
    → list_all (step_fits job) steps ≡ true → OnlyUnstages job m (do_steps (take k steps) m)
unfolding do_steps
unstages_front job steps zero m fits = unstages_itself job m
unstages_front job [] (suc k) m fits = unstages_itself job m
unstages_front job (s ∷ ss) (suc k) m fits =
    let p = and_parts (step_fits job s) (list_all (step_fits job) ss) fits in
    unstages_then job m (do_step s m) (do_steps (take k ss) (do_step s m)) (unstages_step job s m p.0)
    (unstages_front job ss k (do_step s m) p.1)

unstages_all : (job : List ℕ) (steps : List CommitStep) (m : Files) → list_all (step_fits job) steps ≡ true
    → OnlyUnstages job m (do_steps steps m)
unfolding do_steps
unstages_all job [] m fits = unstages_itself job m
unstages_all job (s ∷ ss) m fits =
    let p = and_parts (step_fits job s) (list_all (step_fits job) ss) fits in
    unstages_then job m (do_step s m) (do_steps ss (do_step s m)) (unstages_step job s m p.0)
    (unstages_all job ss (do_step s m) p.1)

finish_unstages : (job : List ℕ) (steps : List CommitStep) (m n : Files) → list_all (step_fits job) steps ≡ true
    → Finishes (sequence_name job) steps m n → OnlyUnstages job m n
finish_unstages job steps m n fits (inl front) =
    subst (OnlyUnstages job m) (sym front.1) (unstages_front job steps front.0 m fits)
finish_unstages job steps m n fits (inr done) =
    subst (OnlyUnstages job m) (sym done) (unstages_then job m (do_steps steps m)
    (after_remove (sequence_name job) (do_steps steps m)) (unstages_all job steps m fits)
    (unstages_removed job (sequence_name job) (do_steps steps m)))

-- an open sequence is done
pub done_unstages : (job name : List ℕ) (steps ss : List CommitStep) {old between new : Option Disk}
    → name ≡ sequence_name job
    → ss ≡ steps → between ≡ old → WellFormed job steps → Along (Finishes name ss) between new
    → Along (OnlyUnstages job) old new
done_unstages job name steps ss {old} {between} {new} is same still fits a =
    along_map (Finishes (sequence_name job) steps) (OnlyUnstages job)
    (λ m n f. finish_unstages job steps m n fits.each f)
    (subst (λ o. Along (Finishes (sequence_name job) steps) o new) still (finish_maps job name steps ss is same a))

-- ---- names that are taken away

unstages_names : (job : List ℕ) (names : List (List ℕ)) (k : ℕ) (m : Files)
    → OnlyUnstages job m (do_steps (take k (map remove names)) m)
unfolding do_steps
unstages_names job names zero m = unstages_itself job m
unstages_names job [] (suc k) m = unstages_itself job m
unstages_names job (name ∷ names) (suc k) m =
    unstages_then job m (after_remove name m) (do_steps (take k (map remove names)) (after_remove name m))
    (unstages_removed job name m) (unstages_names job names k (after_remove name m))

pub removed_unstages : (job : List ℕ) (ns : List (List ℕ)) {old between new : Option Disk} → between ≡ old
    → Along (FrontIsDone (map remove ns)) between new → Along (OnlyUnstages job) old new
removed_unstages job ns {old} {between} {new} still a =
    subst (λ o. Along (OnlyUnstages job) o new) still
    (along_map (FrontIsDone (map remove ns)) (OnlyUnstages job)
    (λ m n front. subst (OnlyUnstages job m) (sym front.1) (unstages_names job ns front.0 m)) a)
