-- A damaged map doesn't settle, and has one name to blame.
use Rattle.std.proofs.Common.{◌≡◌, inl, inr, ℕ, true, false, List, [], ◌∷◌, ◌++◌, refl, sym, ap, subst, ◌∙◌, Some, None}
use Rattle.std.specs.List.{list_all}
use Rattle.std.proofs.lemmas.Bool.{and_parts}
use Rattle.gob_bytes.specs.Paths.{sequence_name}
use Rattle.gob_device.specs.Disk.{Files, File, contents_of}
use Rattle.gob_recovery.specs.Sequence.{CommitStep, move, Reads}
use Rattle.gob_recovery.specs.Settle.{can_do, Open, Settles, IsDamaged, sequence, lost}
use Rattle.gob_recovery.specs.Laws.{DamageIsOne}
use Rattle.gob_recovery.proofs.Spelled.{spelling}

same_file : (job : List ℕ) (m : Files) (f g : File) → m (sequence_name job) ≡ Some f → m (sequence_name job) ≡ Some g
    → f ≡ g
same_file job m f g a b = let both : Some f ≡ Some g = sym a ∙ b in cc

-- one sequence is open
one_open : (job : List ℕ) (m : Files) (s t : List CommitStep) → Open job m s → Open job m t → s ≡ t
one_open job m s t a b =
    let file = same_file job m a.file b.file a.here b.here in
    spelling job s t a.reads.fits b.reads.fits (sym a.reads.spelled ∙ (ap contents_of file ∙ b.reads.spelled))

stops_at : (m : Files) (before after : List CommitStep) (s : CommitStep) → can_do m s ≡ false
    → list_all (can_do m) (before ++ s ∷ after) ≡ true → ⊥
stops_at m [] after s cannot all = let yes : can_do m s ≡ true =
    (and_parts (can_do m s) (list_all (can_do m) after) all).0 in let bad : true ≡ false = sym yes ∙ cannot in cc
stops_at m (b ∷ before) after s cannot all = stops_at m before after s cannot
    (and_parts (can_do m b) (list_all (can_do m) (before ++ s ∷ after)) all).1

-- the first step that can't be done is one
first_one : (m : Files) (before other : List CommitStep) (s t : CommitStep) (after rest : List CommitStep) → before
    ++ s ∷ after ≡ other ++ t ∷ rest → list_all (can_do m) before ≡ true → list_all (can_do m) other ≡ true
    → can_do m s ≡ false → can_do m t ≡ false → s ≡ t
first_one m [] [] s t after rest e a b x y = cc
first_one m [] (o ∷ other) s t after rest e a b x y =
    let same : s ≡ o = cc in
    let yes : can_do m o ≡ true = (and_parts (can_do m o) (list_all (can_do m) other) b).0 in
    absurd (let bad : true ≡ false = sym yes ∙ (ap (can_do m) (sym same) ∙ x) in cc)
first_one m (p ∷ before) [] s t after rest e a b x y =
    let same : p ≡ t = cc in
    let yes : can_do m p ≡ true = (and_parts (can_do m p) (list_all (can_do m) before) a).0 in
    absurd (let bad : true ≡ false = sym yes ∙ (ap (can_do m) same ∙ y) in cc)
first_one m (p ∷ before) (o ∷ other) s t after rest e a b x y =
    first_one m before other s t after rest (let tail : before ++ s ∷ after ≡ other ++ t ∷ rest = cc in tail)
    (and_parts (can_do m p) (list_all (can_do m) before) a).1 (and_parts (can_do m o) (list_all (can_do m) other) b).1 x
    y

never_settles : (job : List ℕ) (m settled : Files) (name : List ℕ) → IsDamaged job m name → Settles job m settled → ⊥
never_settles job m settled _ (sequence file here none) (inl x) = let no : None ≡ Some file = sym x.0 ∙ here in cc
never_settles job m settled _ (sequence file here none) (inr x) =
    none x.0 (subst (λ f. Reads job (contents_of f) x.0) (same_file job m x.1.file file x.1.here here) x.1.reads)
never_settles job m settled _ (lost before source target after open_ can cannot) (inl x) =
    let no : None ≡ Some open_.file = sym x.0 ∙ open_.here in cc
never_settles job m settled _ (lost before source target after open_ can cannot) (inr x) =
    stops_at m before after (move source target) cannot
    (subst (λ ss. list_all (can_do m) ss ≡ true) (one_open job m x.0 (before ++ move source target ∷ after) x.1 open_)
    x.2)

source_is : (a b c d : List ℕ) → move a b ≡ move c d → a ≡ c
source_is a b c d e = cc

blame : (job : List ℕ) (m : Files) (name other : List ℕ) → IsDamaged job m name → IsDamaged job m other → other ≡ name
blame job m _ _ (sequence file here none) (sequence file' here' none') = refl
blame job m _ _ (sequence file here none) (lost before source target after open_ can cannot) =
    absurd (none (before ++ move source target ∷ after) (subst
    (λ f. Reads job (contents_of f) (before ++ move source target ∷ after))
    (same_file job m open_.file file open_.here here) open_.reads))
blame job m _ _ (lost before source target after open_ can cannot) (sequence file here none) =
    absurd (none (before ++ move source target ∷ after) (subst
    (λ f. Reads job (contents_of f) (before ++ move source target ∷ after))
    (same_file job m open_.file file open_.here here) open_.reads))
blame job m _ _ (lost before source target after open_ can cannot)
    (lost before' source' target' after' open' can' cannot') =
    source_is source' target' source target
    (first_one m before' before (move source' target') (move source target) after' after
    (one_open job m (before' ++ move source' target' ∷ after') (before ++ move source target ∷ after) open' open_)
    can' can cannot' cannot)

pub one_damage : DamageIsOne
one_damage job m name d = record {
  unsettled = λ settled s. never_settles job m settled name d s;
  blamed = λ other e.
      blame job m name other d e;
}
