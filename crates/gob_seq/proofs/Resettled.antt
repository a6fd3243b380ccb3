-- What the maps of settling settle to.
use Rattle.std.proofs.Common.{◌≡◌, inl, inr, ℕ, true, false, List, refl, sym, ap, subst}
use Rattle.std.proofs.Common.{◌∙◌, Some, None, IfSome, IfErr, is_some, ◌≤◌}
use Rattle.std.specs.declared.option.Option.{Option}
use Rattle.std.specs.declared.result.Result.{Result}
use Rattle.std.specs.declared.result.Result.TheVariants.{Err}
use Rattle.gob_bytes.specs.Paths.{staging, sequence_name}
use Rattle.gob_bytes.proofs.Options.{if_both, always}
use Rattle.gob_device.specs.Disk.{Files, File, Disk, AddsMaps, Along, last_map}
use Rattle.gob_device.proofs.Causes.{rose_after}
use Rattle.gob_device.proofs.Trail.{each-append, each-last, each-map, last-append, maps_then}
use Rattle.gob_recovery.specs.Commits.{OnlyBelow}
use Rattle.gob_recovery.specs.Laws.{NoTornSequence}
use Rattle.gob_recovery.specs.Sequence.{CommitStep}
use Rattle.gob_recovery.specs.Settle.{do_steps, without_staging, after_finish, Settles, IsDamaged}
use Rattle.gob_recovery.proofs.Again.{steps_apart, steps_off, settling_repeats, not_staged}
use Rattle.gob_recovery.proofs.Commits.{staged_settles}
use Rattle.gob_recovery.proofs.Damaged.{one_damage}
use Rattle.gob_recovery.proofs.Images.{images_alike}
use Rattle.gob_recovery.proofs.Settled.{cleaned_other, removed_itself, settled_is}
use Rattle.gob_recovery.proofs.Spelled.{to_one}
use Rattle.gob_volume.specs.declared.volume.ReadFault.{ReadFault}
use Rattle.gob_volume.specs.declared.volume.ReadFault.TheVariants as read_fault
use Rattle.gob_seq.specs.declared.faults.CommitFault.{CommitFault}
use Rattle.gob_seq.specs.declared.faults.CommitFault.TheVariants as commit_fault
use Rattle.gob_seq.specs.declared.faults.SettleFault.{SettleFault}
use Rattle.gob_seq.specs.declared.faults.SettleFault.TheVariants as settle_fault
use Rattle.gob_seq.specs.Faults.{DamageDue, Damages, RoseIfFailed, RoseIfSettleFailed, settle_of_commit, settle_of_read}
use Rattle.gob_seq.specs.Maps.{EndsBy, CanFinish, EndsAs, Finishes, SettlingGoesOn, ImagesSettleTheSame}
use Rattle.gob_seq.specs.Maps.{SettlesUnstaged, finished_files}
use Rattle.gob_seq.proofs.Trails.{along_known, at_told, maps_both, maps_known, maps_still}

pub goes_same : (job : List ℕ) (m : Files) → SettlingGoesOn job m m
goes_same job m = record { same = λ settled s. s; untorn = λ quiet. quiet }

pub goes_then : (job : List ℕ) (m n k : Files) → SettlingGoesOn job m n → SettlingGoesOn job n k
    → SettlingGoesOn job m k
goes_then job m n k a b = record {
  same = λ settled s. b.same settled (a.same settled s);
  untorn = λ quiet. b.untorn (a.untorn quiet);
}

-- where settling goes on as it began, it does so in each image
pub goes_images : (job : List ℕ) (m n : Files) → SettlingGoesOn job m n → ImagesSettleTheSame job m n
goes_images job m n g = λ settled quiet s. images_alike job n settled (g.untorn quiet) (g.same settled s)

-- ---- an open sequence is done

pub to_after : (job : List ℕ) (m : Files) (steps : List CommitStep) → CanFinish job m steps → (settled : Files)
    → Settles job m settled → after_finish job steps m ≡ settled
to_after job m steps can settled s = to_one job m (after_finish job steps m) settled
    (inr (steps, can.opened, can.can, refl)) s

finish_same : (job : List ℕ) (m n : Files) (steps : List CommitStep) → CanFinish job m steps
    → Finishes (sequence_name job) steps m n → Settles job n (after_finish job steps m)
finish_same job m n steps can (inl front) =
    subst (λ (x : Files). Settles job x (after_finish job steps m)) (sym front.1)
    (settling_repeats job m steps front.0 can.opened can.can)
finish_same job m n steps can (inr done) = inl (
  ap (λ (x : Files). x (sequence_name job)) done ∙ removed_itself (do_steps steps m) (sequence_name job),
  ap (without_staging job) (sym done),
)

finish_untorn : (job : List ℕ) (m n : Files) (steps : List CommitStep) → CanFinish job m steps
    → Finishes (sequence_name job) steps m n → NoTornSequence job m → NoTornSequence job n
finish_untorn job m n steps can (inl front) quiet = λ f e.
    let there = ap (λ (x : Files). x (sequence_name job)) front.1
    ∙ steps_off steps front.0 m (sequence_name job) (steps_apart job steps can.opened.reads.fits.each) in
    quiet f (sym there ∙ e)
finish_untorn job m n steps can (inr done) quiet = λ f e.
    let gone = ap (λ (x : Files). x (sequence_name job)) done ∙ removed_itself (do_steps steps m) (sequence_name job) in
    absurd (let no : None ≡ Some f = sym gone ∙ e in cc)

pub finish_goes : (job : List ℕ) (m n : Files) (steps : List CommitStep) → CanFinish job m steps
    → Finishes (sequence_name job) steps m n → SettlingGoesOn job m n
finish_goes job m n steps can f = record {
  same = λ settled s. subst (Settles job n) (to_after job m steps can settled s) (finish_same job m n steps can f);
  untorn = finish_untorn job m n steps can f;
}

-- the sequence was done
pub finish_unstaged : (job : List ℕ) (m n : Files) (steps : List CommitStep) → CanFinish job m steps
    → n ≡ finished_files (sequence_name job) steps m → SettlesUnstaged job m n
finish_unstaged job m n steps can is = inr (steps, can.opened, can.can, ap (without_staging job) is)

-- none was open
pub closed_unstaged : (job : List ℕ) (m : Files) → m (sequence_name job) ≡ None → SettlesUnstaged job m m
closed_unstaged job m closed = inl (closed, refl)

-- ---- what is staged is taken away

closed_then : (job : List ℕ) (m n : Files) → SettlesUnstaged job m n → n (sequence_name job) ≡ None
closed_then job m n s =
    sym (cleaned_other job n (sequence_name job) (not_staged job)) ∙ (settled_is job m (without_staging job n) s).closed

clean_goes : (job : List ℕ) (m n k : Files) → SettlesUnstaged job m n → OnlyBelow (staging job) n k
    → SettlingGoesOn job n k
clean_goes job m n k unstaged below =
    let closed = closed_then job m n unstaged in
    record {
      same = λ settled s. subst (Settles job k) (to_one job n (without_staging job n) settled (inl (closed, refl)) s)
          (staged_settles job n k closed below).0;
      untorn = λ quiet f e. absurd (let no : None ≡ Some f = sym (below (sequence_name job) (not_staged job) ∙ closed) ∙
          e in cc);
    }

-- an open sequence was done, and then the staging was cleaned
pub goes_cleaned : (job : List ℕ) {old between new : Option Disk} → Along (SettlingGoesOn job) old between
    → AddsMaps (EndsBy (SettlesUnstaged job)) old between → Along (OnlyBelow (staging job)) between new
    → Along (SettlingGoesOn job) old new
goes_cleaned job a unstaged b = maps_then
    (λ m xs ys p q. each-append (SettlingGoesOn job m) xs ys p.0
    (each-map (OnlyBelow (staging job) (last_map m xs)) (SettlingGoesOn job m) ys
    (λ n below. goes_then job m (last_map m xs) n (each-last (SettlingGoesOn job m) m xs (goes_same job m) p.0)
    (clean_goes job m (last_map m xs) n p.1 below)) q))
    (maps_both a unstaged) b

pub settles_cleaned : (job : List ℕ) {old between new : Option Disk}
    → AddsMaps (EndsBy (SettlesUnstaged job)) old between
    → AddsMaps (EndsAs (without_staging job)) between new → AddsMaps (EndsBy (Settles job)) old new
settles_cleaned job a b = maps_then
    (λ m xs ys p q. subst (Settles job m) (sym (last-append m xs ys ∙ q)) p)
    a b

-- ---- the calls that do it

pub finish_along : (job : List ℕ) (steps : List CommitStep) {old new : Option Disk}
    → IfSome old (λ d. CanFinish job d.files steps)
    → Along (Finishes (sequence_name job) steps) old new → Along (SettlingGoesOn job) old new
finish_along job steps {old} can a = along_known (Finishes (sequence_name job) steps) (SettlingGoesOn job)
    (if_both old (λ d k n f. finish_goes job d.files n steps k f) can) a

pub finish_becomes : (job : List ℕ) (steps : List CommitStep) {old new : Option Disk}
    → IfSome old (λ d. CanFinish job d.files steps)
    → AddsMaps (EndsAs (finished_files (sequence_name job) steps)) old new → AddsMaps
    (EndsBy (SettlesUnstaged job)) old new
finish_becomes job steps {old} can a = maps_known (if_both old (λ d k xs e. finish_unstaged job d.files _ steps k e)
    can) a

pub closed_becomes : (job name : List ℕ) (o : Option Disk) → name ≡ sequence_name job
    → IfSome o (λ d. d.files name ≡ None)
    → AddsMaps (EndsBy (SettlesUnstaged job)) o o
closed_becomes job name o is closed = maps_still (EndsBy (SettlesUnstaged job)) o
    (if_both o (λ d e. closed_unstaged job d.files (sym (ap d.files is) ∙ e)) closed)

pub open_was : (job : List ℕ) (steps : List CommitStep) (o : Option Disk) → IfSome o (λ d. CanFinish job d.files steps)
    → IfSome o (λ d. true ≡ is_some (d.files (sequence_name job)))
open_was job steps o can = if_both o (λ d k. sym (ap (λ (f : Option File). is_some f) k.opened.here)) can

pub closed_was : (job name : List ℕ) (o : Option Disk) → name ≡ sequence_name job → IfSome o (λ d. d.files name ≡ None)
    → IfSome o (λ d. false ≡ is_some (d.files (sequence_name job)))
closed_was job name o is closed =
    if_both o (λ d e. sym (ap (λ (f : Option File). is_some f) (sym (ap d.files is) ∙ e))) closed

-- ---- damage

-- no map that settles is damaged
abbrev pub NoDamage : List ℕ → Option Disk → Type 0
NoDamage job o = IfSome o (λ d. (name : List ℕ) → IsDamaged job d.files name → ⊥)

pub can_undamaged : (job : List ℕ) (steps : List CommitStep) (o : Option Disk)
    → IfSome o (λ d. CanFinish job d.files steps) → NoDamage job o
can_undamaged job steps o can = if_both o (λ d k name damaged.
    (one_damage job d.files name damaged).unsettled (after_finish job steps d.files)
    (inr (steps, k.opened, k.can, refl))) can

pub becomes_undamaged : (job : List ℕ) (old new : Option Disk) → AddsMaps (EndsBy (SettlesUnstaged job)) old new
    → NoDamage job old
becomes_undamaged job old new a = if_both old (λ d t name damaged.
    (one_damage job d.files name damaged).unsettled (without_staging job (last_map d.files t.0)) t.1)
    (at_told (EndsBy (SettlesUnstaged job)) old new a)

pub undamaged_due : {T : Type 0} (job : List ℕ) (r : Result T SettleFault) (o : Option Disk) (P : Type 0)
    → NoDamage job o
    → IfSome o (λ d. (name : List ℕ) → IsDamaged job d.files name → DamageDue name r × P)
undamaged_due job r o P none = if_both o (λ d n name damaged. absurd (n name damaged)) none

pub err_due : {T : Type 0} (job : List ℕ) (r : Result T SettleFault) (e : SettleFault) (old new : Option Disk)
    → r ≡ Err e
    → Damages job old new e → new ≡ old
    → IfSome old (λ d. (name : List ℕ) → IsDamaged job d.files name → DamageDue name r × (new ≡ old))
err_due job r settle_fault.Failed old new is d same = always old (λ x name damaged. (inr (inl is), same))
err_due job r settle_fault.Memory old new is d same = always old (λ x name damaged. (inr (inr is), same))
err_due {T} job r (settle_fault.Damaged n) old new is d same = if_both old (λ x told name damaged.
    let blamed : name ≡ n = (one_damage job x.files n told).blamed name damaged in
    (inl (is ∙ ap {B = Result T SettleFault} (λ z. Err (settle_fault.Damaged z)) (sym blamed)), same)) d.0

pub err_damages : {T : Type 0} (job : List ℕ) (r : Result T SettleFault) (e : SettleFault) (old new : Option Disk)
    → r ≡ Err e
    → Damages job old new e → IfErr r (Damages job old new)
err_damages job r e old new is d = subst (λ x. IfErr x (Damages job old new)) (sym is) d

pub commit_damages : (job : List ℕ) (old new : Option Disk) (e : CommitFault) → Damages job old new (settle_of_commit e)
commit_damages job old new commit_fault.Failed = tt
commit_damages job old new commit_fault.Memory = tt

pub read_damages : (job : List ℕ) (old new : Option Disk) (e : ReadFault) → Damages job old new (settle_of_read e)
read_damages job old new read_fault.Failed = tt
read_damages job old new read_fault.Memory = tt

pub commit_rose : (a b c : ℕ) (e : CommitFault) → a ≤ b → RoseIfFailed b c e
    → RoseIfSettleFailed a c (settle_of_commit e)
commit_rose a b c commit_fault.Failed later rose = rose_after a b c later rose
commit_rose a b c commit_fault.Memory later rose = tt

-- an answer that is handed on
pub due_again : (S : Type 0) {T : Type 0} (job : List ℕ) (r : Result T SettleFault) (e x : SettleFault)
    (o : Option Disk) (P : Type 0) → r ≡ Err x → x ≡ e
    → IfSome o (λ d. (name : List ℕ) → IsDamaged job d.files name → DamageDue {T = S} name (Err e) × P)
    → IfSome o (λ d. (name : List ℕ) → IsDamaged job d.files name → DamageDue name r × P)
due_again S {T} job r e x o P is same due = if_both o
    (λ d told name damaged. let t = told name damaged in (handed name t.0, t.1)) due
  where
    fault : (y : SettleFault) → ◌≡◌ {A = Result S SettleFault} (Err e) (Err y) → r ≡ Err y
    fault y f = is ∙ ap {B = Result T SettleFault} (λ z. Err z) (same ∙ (let h : e ≡ y = cc in h))

    handed : (name : List ℕ) → DamageDue {T = S} name (Err e) → DamageDue name r
    handed name (inl f) = inl (fault (settle_fault.Damaged name) f)
    handed name (inr (inl f)) = inr (inl (fault settle_fault.Failed f))
    handed name (inr (inr f)) = inr (inr (fault settle_fault.Memory f))

pub rose_again : {T : Type 0} (r : Result T SettleFault) (e x : SettleFault) (a b : ℕ) → r ≡ Err x → x ≡ e
    → RoseIfSettleFailed a b e
    → IfErr r (RoseIfSettleFailed a b)
rose_again r e x a b is same rose =
    subst (λ z. IfErr z (RoseIfSettleFailed a b)) (sym is) (subst (RoseIfSettleFailed a b) (sym same) rose)
