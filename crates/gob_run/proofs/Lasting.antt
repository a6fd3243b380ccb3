-- What the commits of a run leave, from the first map to the last: no change can be lost in part.
use Rattle.std.proofs.Common.{◌≡◌, ◌⊎◌, inl, inr, ℕ, List, [], ◌∷◌, refl, sym, ap, subst, ◌∙◌, Some, None}
use Rattle.std.specs.declared.option.Option.{Option}
use Rattle.gob_device.specs.Disk.{Files, clean}
use Rattle.gob_device.specs.Supply.{Held}
use Rattle.gob_meaning.specs.Job.{Job}
use Rattle.gob_ledger.specs.Next.{Judged}
use Rattle.gob_ledger.specs.State.{State}
use Rattle.gob_commit.specs.Done.{EndsWith}
use Rattle.gob_history.specs.Laws.{BeginsWith, Lasting, LeftAlong}
use Rattle.gob_history.specs.Runs.{after_group}

lasting_then : (m n k : Files) → Lasting m n → Lasting n k → Lasting m k
lasting_then m n k first second = λ name. either name (first name) (second name)
  where
    either : (name : List ℕ)
        → (n name ≡ m name) ⊎ (n name ≡ None) ⊎ ((bytes : List ℕ) × (n name ≡ Some (clean bytes)))
        → (k name ≡ n name) ⊎ (k name ≡ None) ⊎ ((bytes : List ℕ) × (k name ≡ Some (clean bytes)))
        → (k name ≡ m name) ⊎ (k name ≡ None) ⊎ ((bytes : List ℕ) × (k name ≡ Some (clean bytes)))
    either name before (inr here) = inr here
    either name (inl was) (inl same) = inl (same ∙ was)
    either name (inr (inl gone)) (inl same) = inr (inl (same ∙ gone))
    either name (inr (inr is)) (inl same) = inr (inr (is.0, same ∙ is.1))

pub lasting_along : (job : Job) (held : Held) (o : Option State) (groups : List (List Judged)) (maps : List Files)
    (first last : Files) → LeftAlong job held o groups maps → BeginsWith first maps → EndsWith last maps
    → Lasting first last
lasting_along job held o [] [] first last along begins ends = absurd along
lasting_along job held o [] (m ∷ []) first last along begins ends = λ name. inl (ap (λ n. n name) (ends ∙ sym begins))
lasting_along job held o [] (m ∷ n ∷ ms) first last along begins ends = absurd along
lasting_along job held o (g ∷ gs) [] first last along begins ends = absurd along
lasting_along job held o (g ∷ gs) (m ∷ []) first last along begins ends = absurd along
lasting_along job held o (g ∷ gs) (m ∷ n ∷ ms) first last along begins ends =
    lasting_then first n last (subst (λ f. Lasting f n) (sym begins) along.1)
    (lasting_along job held (after_group job o g) gs (n ∷ ms) n last along.2 refl ends)
