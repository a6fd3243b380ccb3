-- Where published files come from.
use Rattle.std.proofs.Common.{◌≡◌, ◌≢◌, ⊎_elim, inl, inr, ℕ, true, false, List, [], ◌∷◌, ◌++◌, refl, sym, ap}
use Rattle.std.proofs.Common.{subst, ◌∙◌, ◌⊎◌}
use Rattle.std.specs.List.{Contains}
use Rattle.std.proofs.lemmas.List.Elements.{Contains-append_left, Contains-append_right}
use Rattle.gob_bytes.specs.Paths.{is_published, sequence_name, staging}
use Rattle.gob_bytes.proofs.Paths.{sequence_unpublished}
use Rattle.gob_device.specs.Disk.{EachOf, Files}
use Rattle.gob_device.proofs.Trail.{each-append, each-map}
use Rattle.gob_ledger.specs.Delta.{Change}
use Rattle.gob_ledger.proofs.Members.{first_in, in_cases, later_in, none_in}
use Rattle.gob_recovery.specs.Commits.{OnlyBelow}
use Rattle.gob_recovery.specs.Settle.{do_steps, without_staging}
use Rattle.gob_recovery.proofs.Settled.{cleaned_other}
use Rattle.gob_history.specs.Laws.{StagedOver, group_steps}
use Rattle.gob_history.proofs.Fronts.{published_unstaged}
use Rattle.gob_seq.specs.Maps.{CommitsByName}
use Rattle.gob_commit.specs.Done.{EndsWith, PublishedFrom}
use Rattle.gob_commit.specs.Going.{settled_by, with_state}
use Rattle.gob_commit.specs.Staged.{Pair}

-- ---- published names

published_apart : (job name : List ℕ) → is_published job name ≡ true → name ≢ sequence_name job
published_apart job name p e =
    let no : true ≡ false = sym p ∙ (ap (is_published job) e ∙ sequence_unpublished job) in cc

-- ---- single maps

-- its published files are those of this one
abbrev pub PublishesAs : List ℕ → Files → Files → Type 0
PublishesAs job k n = (name : List ℕ) → is_published job name ≡ true → n name ≡ k name

pub from_one : (job : List ℕ) (maps : List Files) (k n : Files) → Contains maps k → PublishesAs job k n
    → PublishedFrom job maps n
from_one job maps k n h same = λ name f p e. (k, h, sym (same name p) ∙ e)

from_two : (job : List ℕ) (a b n : Files)
    → ((name : List ℕ) → is_published job name ≡ true → (n name ≡ a name) ⊎ (n name ≡ b name))
    → PublishedFrom job (a ∷ b ∷ []) n
from_two job a b n either = λ name f p e. ⊎_elim
    (λ s. (a, first_in a (b ∷ []) a refl, sym s ∙ e))
    (λ s. (b, later_in a (b ∷ []) b (first_in b [] b refl), sym s ∙ e))
    (either name p)

from_more : (job : List ℕ) (maps more : List Files) (n : Files)
    → ((k : Files) → Contains maps k → Contains more k) → PublishedFrom job maps n → PublishedFrom job more n
from_more job maps more n inside from = λ name f p e.
    let k = from name f p e in (k.0, inside k.0 k.1, k.2)

below_publishes : (job : List ℕ) (m n : Files) → OnlyBelow (staging job) m n → PublishesAs job m n
below_publishes job m n below = λ name p. below name (published_unstaged job name p)

cleaned_publishes : (job : List ℕ) (m n : Files) → OnlyBelow (staging job) m n
    → PublishesAs job (without_staging job m) n
cleaned_publishes job m n below = λ name p.
    below name (published_unstaged job name p) ∙ sym (cleaned_other job m name (published_unstaged job name p))

-- ---- maps in a row

-- more maps from which files may come
pub reads_more : (job : List ℕ) (maps more : List Files) (xs : List Files)
    → ((k : Files) → Contains maps k → Contains more k) → EachOf (PublishedFrom job maps) xs
    → EachOf (PublishedFrom job more) xs
reads_more job maps more xs inside each =
    each-map (PublishedFrom job maps) (PublishedFrom job more) xs (λ n from. from_more job maps more n inside from) each

ends_in : (last : Files) (maps : List Files) → EndsWith last maps → Contains maps last
ends_in last [] e = absurd e
ends_in last (m ∷ []) e = first_in m [] last (sym e)
ends_in last (m ∷ n ∷ ns) e = later_in m (n ∷ ns) last (ends_in last (n ∷ ns) e)

-- files of the last map or of the next one
pub reads_on : (job : List ℕ) (last next : Files) (maps xs ys : List Files) → EndsWith last maps
    → EachOf (PublishedFrom job maps) xs → EachOf (PublishedFrom job (last ∷ next ∷ [])) ys
    → EachOf (PublishedFrom job (maps ++ next ∷ [])) (xs ++ ys)
reads_on job last next maps xs ys ends a b = each-append (PublishedFrom job (maps ++ next ∷ [])) xs ys
    (reads_more job maps (maps ++ next ∷ []) xs (λ k h. Contains-append_left maps (next ∷ []) k h) a)
    (reads_more job (last ∷ next ∷ []) (maps ++ next ∷ []) ys inside b)
  where
    inside : (k : Files) → Contains (last ∷ next ∷ []) k → Contains (maps ++ next ∷ []) k
    inside k h = ⊎_elim
        (λ e. subst (Contains (maps ++ next ∷ [])) e
        (Contains-append_left maps (next ∷ []) last (ends_in last maps ends)))
        (λ l. Contains-append_right maps (next ∷ []) k l)
        (in_cases last (next ∷ []) k h)

-- files of the last map alone
pub reads_still : (job : List ℕ) (last : Files) (maps xs ys : List Files) → EndsWith last maps
    → EachOf (PublishedFrom job maps) xs → EachOf (PublishedFrom job (last ∷ [])) ys
    → EachOf (PublishedFrom job maps) (xs ++ ys)
reads_still job last maps xs ys ends a b = each-append (PublishedFrom job maps) xs ys a
    (reads_more job (last ∷ []) maps ys
    (λ k h. ⊎_elim (λ e. subst (Contains maps) e (ends_in last maps ends)) (λ l. none_in k l) (in_cases last [] k h)) b)

-- the staging is cleaned
pub reads_cleaned : (job : List ℕ) (last now : Files) (ys : List Files) → StagedOver job last now
    → EachOf (OnlyBelow (staging job) now) ys → EachOf (PublishedFrom job (last ∷ [])) ys
reads_cleaned job last now ys over each = each-map (OnlyBelow (staging job) now) (PublishedFrom job (last ∷ [])) ys
    (λ y below. from_one job (last ∷ []) last y (first_in last [] last refl)
    (λ name p. below name (published_unstaged job name p) ∙ over name (published_unstaged job name p)))
    each

-- ---- one commit

-- the state is staged
pub reads_before : (job : List ℕ) (m next : Files) (xs : List Files) → EachOf (OnlyBelow (staging job) m) xs
    → EachOf (PublishedFrom job (without_staging job m ∷ next ∷ [])) xs
reads_before job m next xs each =
    each-map (OnlyBelow (staging job) m) (PublishedFrom job (without_staging job m ∷ next ∷ [])) xs
    (λ n below. from_one job (without_staging job m ∷ next ∷ []) (without_staging job m) n
    (first_in (without_staging job m) (next ∷ []) (without_staging job m) refl) (cleaned_publishes job m n below))
    each

step_reads : (job : List ℕ) (c : Change) (sorted : List Pair) (m last n : Files)
    → OnlyBelow (staging job) m (with_state job c m) → last ≡ with_state job c m
    → CommitsByName job (group_steps job c sorted) last n
    → PublishedFrom job (without_staging job m ∷ settled_by job c sorted m ∷ []) n
step_reads job c sorted m last n staged is by =
    from_two job (without_staging job m) (settled_by job c sorted m) n (λ name p.
    let out = published_unstaged job name p in
    let here : last name ≡ without_staging job m name =
    ap (λ (k : Files). k name) is ∙ cleaned_publishes job m (with_state job c m) staged name p in
    let done : do_steps (group_steps job c sorted) last name ≡ settled_by job c sorted m name =
    ap (λ (k : Files). do_steps (group_steps job c sorted) k name) is
    ∙ sym (cleaned_other job (do_steps (group_steps job c sorted) (with_state job c m)) name out) in
    ⊎_elim (λ e. inl (e ∙ here)) (λ e. inr (e ∙ done)) (by name out (published_apart job name p)))

-- and the sequence is done
pub reads_then : (job : List ℕ) (c : Change) (sorted : List Pair) (m last : Files) (xs ys : List Files)
    → OnlyBelow (staging job) m (with_state job c m) → EachOf (OnlyBelow (staging job) m) xs
    → last ≡ with_state job c m → EachOf (CommitsByName job (group_steps job c sorted) last) ys
    → EachOf (PublishedFrom job (without_staging job m ∷ settled_by job c sorted m ∷ [])) (xs ++ ys)
reads_then job c sorted m last xs ys staged before is after =
    each-append (PublishedFrom job (without_staging job m ∷ settled_by job c sorted m ∷ [])) xs ys
    (reads_before job m (settled_by job c sorted m) xs before)
    (each-map (CommitsByName job (group_steps job c sorted) last)
    (PublishedFrom job (without_staging job m ∷ settled_by job c sorted m ∷ [])) ys
    (λ n by. step_reads job c sorted m last n staged is by) after)
