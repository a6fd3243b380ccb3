-- Settled maps, and what differs from them in staged files alone.
use Rattle.std.proofs.Common.{◌≡◌, inl, inr, ℕ, true, false, cond, List, refl, sym, ap, ◌∙◌, Some, None}
use Rattle.std.proofs.lemmas.Slice.Eq.{bytes_eq-Decides}
use Rattle.gob_bytes.specs.Paths.{begins_with, staging, sequence_name}
use Rattle.gob_device.specs.Disk.{Files, after_remove}
use Rattle.gob_recovery.specs.Settle.{do_steps, without_staging, Settles, IsSettled}
use Rattle.gob_recovery.specs.Laws.{SettlesToSettled, StagingIsFree}
use Rattle.gob_recovery.proofs.Again.{not_staged}
use Rattle.gob_recovery.proofs.Images.{images_alike}

pub cleaned_staged : (job : List ℕ) (m : Files) (name : List ℕ) → begins_with (staging job) name ≡ true
    → without_staging job m name ≡ None
unfolding without_staging
cleaned_staged job m name e = ap (λ b. cond b None (m name)) e

pub cleaned_other : (job : List ℕ) (m : Files) (name : List ℕ) → begins_with (staging job) name ≡ false
    → without_staging job m name ≡ m name
unfolding without_staging
cleaned_other job m name e = ap (λ b. cond b None (m name)) e

pub removed_itself : (m : Files) (name : List ℕ) → after_remove name m name ≡ None
unfolding after_remove
removed_itself m name = ap (λ b. cond b None (m name)) ((bytes_eq-Decides name name).1 refl)

pub settled_is : SettlesToSettled
settled_is job m settled settles = cases settles
  where
    cases : Settles job m settled → IsSettled job settled
    cases (inl x) = record {
      closed = ap (λ (n : Files). n (sequence_name job)) x.1 ∙
          (cleaned_other job m (sequence_name job) (not_staged job) ∙ x.0);
      unstaged = λ name e. ap (λ (n : Files). n name) x.1 ∙ cleaned_staged job m name e;
    }
    cases (inr x) = record {
      closed = ap (λ (n : Files). n (sequence_name job)) x.3 ∙
          (cleaned_other job (after_remove (sequence_name job) (do_steps x.0 m)) (sequence_name job) (not_staged job)
          ∙ removed_itself (do_steps x.0 m) (sequence_name job));
      unstaged = λ name e. ap (λ (n : Files). n name) x.3 ∙ cleaned_staged job
          (after_remove (sequence_name job) (do_steps x.0 m)) name e;
    }

pub staged_free : StagingIsFree
staged_free job settled m is same =
    let closed : m (sequence_name job) ≡ None = same (sequence_name job) (not_staged job) ∙ is.closed in
    let each : (name : List ℕ) → settled name ≡ without_staging job m name = λ name.
    elim (begins_with (staging job) name) as (λ b. begins_with (staging job) name ≡ b
    → settled name ≡ without_staging job m name) [
      | true ↦ λ e. is.unstaged name e ∙ sym (cleaned_staged job m name e)
      | false ↦ λ e. sym (same name e) ∙ sym (cleaned_other job m name e)
    ] refl in
    let settles : Settles job m settled = inl (closed, λ i name. each name i) in
    (settles, images_alike job m settled (λ f e. absurd (let no : None ≡ Some f = sym closed ∙ e in cc)) settles)
