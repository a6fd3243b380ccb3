-- What a run finds once what a stopped run left is settled, and what it leaves where nothing is loaded.
use Rattle.std.proofs.Common.{◌≡◌, inl, inr, ℕ, ◌≤◌, List, refl, sym, ap, subst, ◌∙◌, Some, None, IfSome, IfErr}
use Rattle.std.specs.declared.option.Option.{Option}
use Rattle.std.specs.declared.result.Result.{Result}
use Rattle.std.specs.declared.result.Result.TheVariants.{Err}
use Rattle.gob_bytes.proofs.Options.{if_both, always}
use Rattle.gob_device.specs.Disk.{AddsMaps, Along, Both, Disk, EachFrom, EachOf, Files, Went, last_map}
use Rattle.gob_device.proofs.Causes.{rose_after}
use Rattle.gob_device.proofs.Trail.{each-map}
use Rattle.gob_ledger.specs.Delta.{StateDamaged}
use Rattle.gob_ledger.proofs.OneDamage.{damage_is_one}
use Rattle.std.proofs.lemmas.Option.{same_Some}
use Rattle.gob_recovery.specs.Settle.{IsDamaged, Settles, SettlesAs}
use Rattle.gob_recovery.proofs.Damaged.{one_damage}
use Rattle.gob_recovery.proofs.Spelled.{to_one}
use Rattle.gob_seq.specs.Faults.{DamageDue, Damages, RoseIfSettleFailed}
use Rattle.gob_seq.specs.Maps.{EndsBy, ImagesSettleTheSame, OnlyUnstages, SettlesByName}
use Rattle.gob_seq.specs.declared.faults.SettleFault.{SettleFault}
use Rattle.gob_seq.specs.declared.faults.SettleFault.TheVariants as settle_fault
use Rattle.gob_seq.proofs.Trails.{maps_both}
use Rattle.gob_segments.specs.Loading.{BlamesDamage, IsKept, RoseIfLoadFailed}
use Rattle.gob_segments.specs.declared.change.Loaded.{Loaded}
use Rattle.gob_segments.specs.declared.faults.LoadFault.{LoadFault}
use Rattle.gob_segments.specs.declared.faults.LoadFault.TheVariants as load_fault
use Rattle.gob_run.specs.Answers.{ToldFirst}
use Rattle.gob_run.specs.Entry.{IsBroken, LeftBroken, OnlySettled, SettleAlike, SettledTo, StaysDamaged, sequence}
use Rattle.gob_run.specs.Entry.{state}
use Rattle.gob_run.specs.Faults.{BeginsNot, Finds, run_of_load, run_of_settle}
use Rattle.gob_run.specs.declared.fault.RunFault.{RunFault}
use Rattle.gob_run.specs.declared.fault.RunFault.TheVariants.{Damaged}

-- ---- what settling leaves

-- maps that settle, in each image, as the first one does
pub settle_alike : (job : List ℕ) (m : Files) (added : List Files) → EachOf (ImagesSettleTheSame job m) added
    → SettleAlike job m added
settle_alike job m added each = λ settled quiet s.
    each-map (ImagesSettleTheSame job m) (SettlesAs job settled) added (λ n same. same settled quiet s) each

-- nothing is changed on the way but what settling changes
abbrev pub OnlySettle : List ℕ → Files → List Files → Type 0
OnlySettle job m added = EachFrom (ImagesSettleTheSame job) m added
    × (EachFrom (SettlesByName job) m added × EachFrom (OnlyUnstages job) m added)

only_settled : (job : List ℕ) (d e : Disk) → Went (OnlySettle job) d e → StaysDamaged job d e → OnlySettled job d e
only_settled job d e w stays = record {
  added = w.added;
  trail = w.trail;
  stands = w.stands;
  alike = settle_alike job d.files w.added w.holds.0;
  names = w.holds.1.0;
  staged = w.holds.1.1;
  damaged = stays;
}

-- the same of calls that may tell nothing
pub both_settled : (job : List ℕ) (old new : Option Disk) → AddsMaps (OnlySettle job) old new
    → Both (StaysDamaged job) old new → Both (OnlySettled job) old new
both_settled job old new only stays = both old new only.told stays
  where
    both : (o n : Option Disk) → Both (Went (OnlySettle job)) o n → Both (StaysDamaged job) o n
        → Both (OnlySettled job) o n
    both None None w s = tt
    both None (Some e) w s = w
    both (Some d) None w s = w
    both (Some d) (Some e) w s = only_settled job d e w s

-- a call behind which the volume tells, and which left it as it was where the sequence is damaged
pub stays_damaged : {T : Type 0} (job : List ℕ) (r : Result T SettleFault) {old between new : Option Disk}
    → Along (SettlesByName job) old between
    → IfSome old (λ d. (name : List ℕ) → IsDamaged job d.files name → DamageDue name r × (between ≡ old))
    → new ≡ between → Both (StaysDamaged job) old new
stays_damaged job r {old} {between} {new} names due same =
    subst (Both (StaysDamaged job) old) (sym same) (both old between names.told due)
  where
    both : (o n : Option Disk) → Both (Went (EachFrom (SettlesByName job))) o n
        → IfSome o (λ d. (name : List ℕ) → IsDamaged job d.files name → DamageDue name r × (n ≡ o))
        → Both (StaysDamaged job) o n
    both None None w due = tt
    both None (Some e) w due = w
    both (Some d) None w due = w
    both (Some d) (Some e) w due = λ name is. same_Some e d (due name is).1

-- files that can be settled aren't damaged
pub undamaged : (job : List ℕ) (d e : Disk) (settled : Files) → Settles job d.files settled → StaysDamaged job d e
undamaged job d e settled settles name is = absurd ((one_damage job d.files name is).unsettled settled settles)

-- the maps lead to the one to which the first one settles
abbrev pub AllSettle : List ℕ → Files → List Files → Type 0
AllSettle job m added = EndsBy (Settles job) m added × OnlySettle job m added

pub settled_to : (job : List ℕ) (d e : Disk) → Went (AllSettle job) d e → SettledTo job d e
settled_to job d e w = record {
  only = only_settled job d e
      (record { added = w.added; trail = w.trail; stands = w.stands; holds = w.holds.1 })
      (undamaged job d e (last_map d.files w.added) w.holds.0);
  settles = subst (Settles job d.files) (sym w.stands) w.holds.0;
}

-- what is kept of the map that stands is found behind the first one
pub finds : (job : List ℕ) (l : Loaded) {old between new : Option Disk} → AddsMaps (EndsBy (Settles job)) old between
    → new ≡ between → IfSome between (λ d. IsKept job d.files l) → AddsMaps (Finds job l) old new
finds job l {old} {between} {new} a same kept =
    subst (AddsMaps (Finds job l) old) (sym same) (record { told = told old between a.told kept })
  where
    told : (o n : Option Disk) → Both (Went (EndsBy (Settles job))) o n → IfSome n (λ d. IsKept job d.files l)
        → Both (Went (Finds job l)) o n
    told None None w k = tt
    told None (Some e) w k = w
    told (Some d) None w k = w
    told (Some d) (Some e) w k = record {
      added = w.added;
      trail = w.trail;
      stands = w.stands;
      holds = (w.holds, subst (λ (m : Files). IsKept job m l) w.stands k);
    }

-- ---- what is left where it stops

pub settle_stops : (job : List ℕ) (old new : Option Disk) (before now : ℕ) (f : SettleFault) → Damages job old new f
    → RoseIfSettleFailed before now f → BeginsNot job old new before now (run_of_settle f)
settle_stops job old new before now settle_fault.Failed damages rose = rose
settle_stops job old new before now settle_fault.Memory damages rose = tt
settle_stops job old new before now (settle_fault.Damaged name) damages rose =
    subst (Both (LeftBroken job name) old) (sym damages.1) (unchanged old damages.0)
  where
    unchanged : (o : Option Disk) → IfSome o (λ d. IsDamaged job d.files name) → Both (LeftBroken job name) o o
    unchanged None damaged = tt
    unchanged (Some d) damaged = sequence damaged refl

pub load_stops : (job : List ℕ) {old between new : Option Disk} (before middle now : ℕ) (f : LoadFault)
    → AddsMaps (EndsBy (Settles job)) old between → AddsMaps (OnlySettle job) old between → new ≡ between
    → BlamesDamage job between f → before ≤ middle → RoseIfLoadFailed middle now f
    → BeginsNot job old new before now (run_of_load f)
load_stops job before middle now load_fault.Failed settles only same blames later rose =
    rose_after before middle now later rose
load_stops job before middle now load_fault.Memory settles only same blames later rose = tt
load_stops job {old} {between} {new} before middle now (load_fault.Damaged name) settles only same blames later rose =
    subst (Both (LeftBroken job name) old) (sym same) (both old between (maps_both settles only).told blames)
  where
    both : (o n : Option Disk) → Both (Went (AllSettle job)) o n → IfSome n (λ d. StateDamaged job d.files name)
        → Both (LeftBroken job name) o n
    both None None w damaged = tt
    both None (Some e) w damaged = w
    both (Some d) None w damaged = w
    both (Some d) (Some e) w damaged = state (settled_to job d e w) damaged

-- an answer that is handed on
pub stops_with : {T : Type 0} (P : RunFault → Type 0) (r : Result T RunFault) (f x : RunFault) → r ≡ Err x → x ≡ f
    → P f → IfErr r P
stops_with P r f x is same p = subst (λ z. IfErr z P) (sym is) (subst P (sym same) p)

-- ---- damage that is due

-- where a damaged sequence is to blame, nothing else is
pub broken_one : (job name blamed : List ℕ) (m : Files) → IsDamaged job m blamed → IsBroken job m name → name ≡ blamed
broken_one job _ blamed m told (sequence name damaged) = (one_damage job m blamed told).blamed name damaged
broken_one job _ blamed m told (state settled name settles damaged) =
    absurd ((one_damage job m blamed told).unsettled settled settles)

-- where the map settles, a file that tells the state is
pub broken_settled : (job name : List ℕ) (m settled : Files) → Settles job m settled → IsBroken job m name
    → StateDamaged job settled name
broken_settled job _ m settled settles (sequence name damaged) =
    absurd ((one_damage job m name damaged).unsettled settled settles)
broken_settled job _ m settled settles (state other name to_other damaged) =
    subst (λ (n : Files). StateDamaged job n name) (to_one job m other settled to_other settles) damaged

-- what is broken is told
abbrev pub TellsBroken : {T : Type 0} → List ℕ → Result T RunFault → Option Disk → Type 0
TellsBroken job r old = IfSome old (λ d. (name : List ℕ) → IsBroken job d.files name → ToldFirst r (Damaged name))

pub settle_tells : {T : Type 0} (job : List ℕ) (r : Result T RunFault) (f : SettleFault) (old new : Option Disk)
    → r ≡ Err (run_of_settle f) → Damages job old new f → TellsBroken job r old
settle_tells job r settle_fault.Failed old new is damages = always old (λ d name broken. inr (inl is))
settle_tells job r settle_fault.Memory old new is damages = always old (λ d name broken. inr (inr is))
settle_tells {T} job r (settle_fault.Damaged blamed) old new is damages = if_both old (λ d told name broken.
    inl (is ∙ ap {B = Result T RunFault} (λ n. Err (Damaged n)) (sym (broken_one job name blamed d.files told broken))))
    damages.0

-- the map that stands once all is settled
settled_there : (job : List ℕ) (P : Files → Type 0) (old between : Option Disk)
    → AddsMaps (EndsBy (Settles job)) old between → IfSome between (λ d. P d.files)
    → IfSome old (λ d. (settled : Files) × Settles job d.files settled × P settled)
settled_there job P None between a p = tt
settled_there job P (Some d) None a p = absurd a.told
settled_there job P (Some d) (Some e) a p = (e.files, subst (Settles job d.files) (sym a.told.stands) a.told.holds, p)

pub load_tells : {T : Type 0} (job : List ℕ) (r : Result T RunFault) (f : LoadFault) (old between : Option Disk)
    → r ≡ Err (run_of_load f) → AddsMaps (EndsBy (Settles job)) old between → BlamesDamage job between f
    → TellsBroken job r old
load_tells job r load_fault.Failed old between is settles blames = always old (λ d name broken. inr (inl is))
load_tells job r load_fault.Memory old between is settles blames = always old (λ d name broken. inr (inr is))
load_tells {T} job r (load_fault.Damaged blamed) old between is settles blames = if_both old (λ d there name broken.
    let one = (damage_is_one job there.0 blamed there.2).blamed name
    (broken_settled job name d.files there.0 there.1 broken) in
    inl (is ∙ ap {B = Result T RunFault} (λ n. Err (Damaged n)) (sym one)))
    (settled_there job (λ m. StateDamaged job m blamed) old between settles blames)

pub found_unbroken : {T : Type 0} (job : List ℕ) (r : Result T RunFault) (l : Loaded) (old between : Option Disk)
    → AddsMaps (EndsBy (Settles job)) old between → IfSome between (λ d. IsKept job d.files l) → TellsBroken job r old
found_unbroken job r l old between settles kept = if_both old (λ d there name broken.
    absurd ((damage_is_one job there.0 name (broken_settled job name d.files there.0 there.1 broken)).nothing there.2.0
    there.2.1))
    (settled_there job (λ m. IsKept job m l) old between settles kept)
