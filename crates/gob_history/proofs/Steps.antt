-- What stands at a name once all steps of a sequence are done.
use Rattle.std.proofs.Common.{◌≡◌, ⊎_elim, ℕ, cond, List, [], ◌∷◌, ap, subst, ◌∙◌, is_some, Some, None}
use Rattle.std.specs.List.{AllByRecursion, Contains}
use Rattle.std.specs.Str.{bytes_eq}
use Rattle.gob_bytes.proofs.Tables.{name_itself}
use Rattle.gob_device.specs.Disk.{Files, File, after_rename, after_remove}
use Rattle.gob_recovery.specs.Sequence.{CommitStep, move, remove}
use Rattle.gob_recovery.specs.Settle.{do_step, do_steps, moved_where}
use Rattle.gob_recovery.proofs.Again.{Off, Differ, Apart, differ_turned, step_off}
use Rattle.gob_recovery.proofs.Opened.{steps_still}
use Rattle.gob_ledger.proofs.Changes.{all_member}
use Rattle.gob_ledger.proofs.Members.{none_in, in_cases}

each_off : (P Q : CommitStep → Type 0) → ((t : CommitStep) → P t → Q t) → (ss : List CommitStep) → AllByRecursion P ss
    → AllByRecursion Q ss
each_off P Q f [] all = tt
each_off P Q f (s ∷ ss) all = (f s all.0, each_off P Q f ss all.1)

moved_there : (source target : List ℕ) (m : Files) (f : File) → m source ≡ Some f
    → do_step (move source target) m target ≡ Some f
unfolding after_rename
moved_there source target m f here =
    ap (λ b. moved_where source target b m target) (ap is_some here)
    ∙ (ap (λ b. cond b (m source) (cond (bytes_eq target source) None (m target))) (name_itself target) ∙ here)

removed_gone : (name : List ℕ) (m : Files) → do_step (remove name) m name ≡ None
unfolding after_remove
removed_gone name m = ap (λ b. cond b None (m name)) (name_itself name)

-- the target of a move has the source's file
pub moves_there : (ss : List CommitStep) (m : Files) (source target : List ℕ) (f : File) → Apart ss
    → Contains ss (move source target) → m source ≡ Some f → do_steps ss m target ≡ Some f
unfolding do_steps
moves_there [] m source target f apart h here = none_in (move source target) h
moves_there (s ∷ ss) m source target f apart h here = ⊎_elim
    (λ e. steps_still ss (do_step s m) target (each_off (Differ (move source target)) (λ t. Off t target)
    (λ t d. d.1) ss (subst (λ x. AllByRecursion (Differ x) ss) e apart.1))
    ∙ (ap (λ x. do_step x m target) e ∙ moved_there source target m f here))
    (λ k. let d = differ_turned s (move source target) (all_member (Differ s) ss (move source target) apart.1 k) in
    moves_there ss (do_step s m) source target f apart.2 k (step_off s m source d.0 ∙ here))
    (in_cases s ss (move source target) h)

-- a removed name has none
pub removes_there : (ss : List CommitStep) (m : Files) (name : List ℕ) → Apart ss → Contains ss (remove name)
    → do_steps ss m name ≡ None
unfolding do_steps
removes_there [] m name apart h = none_in (remove name) h
removes_there (s ∷ ss) m name apart h = ⊎_elim
    (λ e. steps_still ss (do_step s m) name (subst (λ x. AllByRecursion (Differ x) ss) e apart.1)
    ∙ (ap (λ x. do_step x m name) e ∙ removed_gone name m))
    (λ k. removes_there ss (do_step s m) name apart.2 k)
    (in_cases s ss (remove name) h)
