-- What `recover` and `report` tell and leave.
use Rattle.std.proofs.Common.{◌≡◌, inl, inr, ℕ, ◌≤◌, List, [], refl, sym, subst, ap, ◌∙◌, arith, Some, None}
use Rattle.std.proofs.Common.{IfSome, is_some}
use Rattle.std.specs.declared.option.Option.{Option}
use Rattle.std.specs.declared.result.Result.{Result}
use Rattle.std.specs.declared.result.Result.TheVariants.{Ok, Err}
use Rattle.gob_bytes.specs.Paths.{sequence_name, under}
use Rattle.gob_device.specs.Disk.{AddsMaps, Along, Both, Disk, EachFrom, Files, Went, last_map}
use Rattle.gob_device.proofs.Trail.{both_map, maps_map}
use Rattle.gob_recovery.specs.Commits.{OnlyBelow}
use Rattle.gob_recovery.specs.Settle.{IsDamaged, Settles}
use Rattle.gob_seq.specs.Faults.{DamageDue, Damages, RoseIfSettleFailed}
use Rattle.gob_seq.specs.Maps.{EndsBy, ImagesSettleTheSame, OnlyUnstages, SettlesByName}
use Rattle.gob_seq.specs.declared.faults.SettleFault.{SettleFault}
use Rattle.gob_seq.specs.declared.faults.SettleFault.TheVariants as settle
use Rattle.gob_seq.specs.declared.settling.Settled.{Settled}
use Rattle.gob_seq.proofs.Trails.{maps_both}
use Rattle.gob_segments.specs.declared.change.Loaded.{Loaded}
use Rattle.gob_texts.specs.Commands.{recovery_report, state_report}
use Rattle.gob_texts.specs.Refusals as texts
use Rattle.gob_run.specs.Answers as run
use Rattle.gob_run.specs.Entry.{SettledEntry, IsBroken, LeftBroken, OnlySettled, SettledTo, StaysDamaged}
use Rattle.gob_run.specs.Faults.{BeginsNot, Finds}
use Rattle.gob_run.specs.World.{WhereFiled, World}
use Rattle.gob_run.specs.declared.fault.RunFault.{RunFault}
use Rattle.gob_run.specs.declared.fault.RunFault.TheVariants as fault
use Rattle.gob_run.proofs.Entering.{settling_trail}
use Rattle.gob_run.proofs.Readers.{readers_of_settling}
use Rattle.gob_run.proofs.Settled.{OnlySettle, both_settled, settle_alike, settled_to}
use Rattle.gob_run.proofs.World.{with_volume}
use Rattle.gob_top.specs.Answers.{Told, refusal_told}
use Rattle.gob_top.specs.Faults.{settle_refusal}
use Rattle.gob_top.specs.Runs.{run_refusal}
use Rattle.gob_top.specs.Settlings.{IsRecovered, IsReported, OnlySettles, RecoverAnswered, ReportAnswered}
use Rattle.gob_top.specs.Settlings.{SettlingTrail, TellsFirst, damaged, failure, recovered, reported, starved}

-- ---- the maps on the way

-- where the volume tells, this holds of what it tells
where_both : (P : Disk → Disk → Type 0) (w : World) (old new : Option Disk) (before now : ℕ) → Both P old new
    → WhereFiled P (with_volume w old before) (with_volume w new now)
where_both P w old new before now b = λ d here. told old new b d here
  where
    told : (o n : Option Disk) → Both P o n → (d : Disk) → o ≡ Some d → (e : Disk) × (n ≡ Some e) × P d e
    told None n b d here = absurd (let no : None ≡ Some d = here in cc)
    told (Some c) None b d here = absurd b
    told (Some c) (Some e) b d here = let same : c ≡ d = cc in (e, refl, subst (λ x. P x e) same b)

-- the same of its maps
where_filed : {Q : Files → List Files → Type 0} (P : Disk → Disk → Type 0) (w : World) (old new : Option Disk)
    (before now : ℕ) → ((d e : Disk) → Went Q d e → P d e) → AddsMaps Q old new
    → WhereFiled P (with_volume w old before) (with_volume w new now)
where_filed {Q} P w old new before now weaker a =
    where_both P w old new before now (both_map (Went Q) P weaker old new a.told)

-- each map settles as the first one does, and holds by name what that one or the settled one does
abbrev SettleBoth : List ℕ → Files → List Files → Type 0
SettleBoth job m added = EachFrom (ImagesSettleTheSame job) m added × EachFrom (SettlesByName job) m added

trail_settles : (job : List ℕ) (d e : Disk) → Went (SettleBoth job) d e → SettlingTrail job d e
trail_settles job d e w = record {
  added = w.added;
  trail = w.trail;
  stands = w.stands;
  goes = settling_trail job d.files w.added (settle_alike job d.files w.added w.holds.0);
  reads = readers_of_settling job d.files w.added w.holds.1;
}

-- ---- what both leave, whatever they tell

-- a call that settled, or was stopped on its way
pub record OnItsWay (job : List ℕ) (old new : Option Disk) (before now : ℕ) : Type 0 where
  pub images : Along (ImagesSettleTheSame job) old new
  pub names : Along (SettlesByName job) old new
  pub staged : Along (OnlyUnstages job) old new
  pub damaged : Both (StaysDamaged job) old new
  pub below : Along (OnlyBelow (under job [])) old new
  pub later : before ≤ now

on_its_way : {job : List ℕ} {old new : Option Disk} {before now : ℕ} → OnItsWay job old new before now
    → AddsMaps (OnlySettle job) old new
on_its_way way = maps_both way.images (maps_both way.names way.staged)

only_settles : (job : List ℕ) (w : World) (old new : Option Disk) (before now : ℕ) → OnItsWay job old new before now
    → OnlySettles job (with_volume w old before) (with_volume w new now)
only_settles job w old new before now way = record {
  trail = where_filed (SettlingTrail job) w old new before now (trail_settles job) (maps_both way.images way.names);
  only = where_both (OnlySettled job) w old new before now (both_settled job old new (on_its_way way) way.damaged);
  below = way.below;
  source = record { supply = refl; faults = refl; planned = refl };
  goes_on = record { source = omega arith; planned = omega arith; volume = way.later };
}

-- ---- recover

-- as the damage that is due is told
abbrev DamageTold : List ℕ → Option Disk → Told → Type 0
DamageTold job old t = IfSome old (λ d. (name : List ℕ) → IsDamaged job d.files name → TellsFirst
    (texts.damaged name) t)

-- the clause on damage of what settles
abbrev pub SettlesDue : List ℕ → Option Disk → Option Disk → Result Settled SettleFault → Type 0
SettlesDue job old new r =
    IfSome old (λ d. (name : List ℕ) → IsDamaged job d.files name → DamageDue name r × (new ≡ old))

fault_due : (job : List ℕ) (old new : Option Disk) (f : SettleFault) (t : Told)
    → SettlesDue job old new (Err f) → t ≡ refusal_told (settle_refusal f) → DamageTold job old t
fault_due job None new f t due tells = tt
fault_due job (Some d) new f t due tells = λ name is. told name (due name is).0
  where
    as_is : (g : SettleFault) → f ≡ g → t ≡ refusal_told (settle_refusal g)
    as_is g same = tells ∙ ap (λ h. refusal_told (settle_refusal h)) same

    told : (name : List ℕ) → DamageDue {T = Settled} name (Err f) → TellsFirst (texts.damaged name) t
    told name (inl same) = inl (as_is (settle.Damaged name) (cc))
    told name (inr (inl same)) = inr (inl (as_is settle.Failed (cc)))
    told name (inr (inr same)) = inr (inr (as_is settle.Memory (cc)))

settled_due : (job : List ℕ) (old new : Option Disk) (s : Settled) (t : Told)
    → SettlesDue job old new (Ok s) → DamageTold job old t
settled_due job None new s t due = tt
settled_due job (Some d) new s t due = λ name is. never name (due name is).0
  where
    never : (name : List ℕ) → DamageDue name (Ok s) → TellsFirst (texts.damaged name) t
    never name (inl same) = absurd (cc)
    never name (inr (inl same)) = absurd (cc)
    never name (inr (inr same)) = absurd (cc)

fault_recovered : (job : List ℕ) (w : World) (old new : Option Disk) (before now : ℕ) (f : SettleFault) (t : Told)
    → Damages job old new f → RoseIfSettleFailed before now f → t ≡ refusal_told (settle_refusal f)
    → IsRecovered job (with_volume w old before) (with_volume w new now) t
fault_recovered job w old new before now settle.Failed t damages rose tells = failure (inl tells) rose
fault_recovered job w old new before now settle.Memory t damages rose tells = starved tells
fault_recovered job w old new before now (settle.Damaged name) t damages rose tells =
    damaged name damages.0 damages.1 (inl tells)

pub not_recovered : (job : List ℕ) (w : World) (old new : Option Disk) (before now : ℕ) (f : SettleFault)
    (t : Told) → OnItsWay job old new before now → Damages job old new f → RoseIfSettleFailed before now f
    → SettlesDue job old new (Err f) → t ≡ refusal_told (settle_refusal f)
    → RecoverAnswered job (with_volume w old before) (with_volume w new now) t
not_recovered job w old new before now f t way damages rose due tells = record {
  caused = fault_recovered job w old new before now f t damages rose tells;
  due = fault_due job old new f t due tells;
  settles = only_settles job w old new before now way;
}

pub recover_starved : (job : List ℕ) (w : World) (old new : Option Disk) (before now : ℕ) (s : Settled) (t : Told)
    → OnItsWay job old new before now → SettlesDue job old new (Ok s) → t ≡ refusal_told texts.memory
    → RecoverAnswered job (with_volume w old before) (with_volume w new now) t
recover_starved job w old new before now s t way due tells = record {
  caused = starved tells;
  due = settled_due job old new s t due;
  settles = only_settles job w old new before now way;
}

pub all_recovered : (job : List ℕ) (w : World) (old new : Option Disk) (before now : ℕ) (s : Settled) (t : Told)
    → OnItsWay job old new before now → SettlesDue job old new (Ok s) → AddsMaps (EndsBy (Settles job)) old new
    → IfSome old (λ d. s.was_open ≡ is_some (d.files (sequence_name job))) → t ≡ (0, recovery_report job s.was_open)
    → RecoverAnswered job (with_volume w old before) (with_volume w new now) t
all_recovered job w old new before now s t way due settles was tells = record {
  caused = recovered s.was_open was
      (where_filed (SettledTo job) w old new before now (settled_to job) (maps_both settles (on_its_way way)))
      (inl tells);
  due = settled_due job old new s t due;
  settles = only_settles job w old new before now way;
}

-- ---- report

-- as what is broken is told
abbrev BreakTold : List ℕ → Option Disk → Told → Type 0
BreakTold job old t = IfSome old (λ d. (name : List ℕ) → IsBroken job d.files name → TellsFirst (texts.damaged name) t)

-- the clause on damage of what settles and loads
abbrev pub LoadsDue : List ℕ → Option Disk → Result Loaded RunFault → Type 0
LoadsDue job old r =
    IfSome old (λ d. (name : List ℕ) → IsBroken job d.files name → run.ToldFirst r (fault.Damaged name))

break_due : (job : List ℕ) (old : Option Disk) (f : RunFault) (t : Told) → LoadsDue job old (Err f)
    → t ≡ refusal_told (run_refusal f) → BreakTold job old t
break_due job None f t due tells = tt
break_due job (Some d) f t due tells = λ name is. told name (due name is)
  where
    as_is : (g : RunFault) → f ≡ g → t ≡ refusal_told (run_refusal g)
    as_is g same = tells ∙ ap (λ h. refusal_told (run_refusal h)) same

    told : (name : List ℕ) → run.ToldFirst {T = Loaded} (Err f) (fault.Damaged name) → TellsFirst (texts.damaged name) t
    told name (inl same) = inl (as_is (fault.Damaged name) (cc))
    told name (inr (inl same)) = inr (inl (as_is fault.VolumeFault (cc)))
    told name (inr (inr same)) = inr (inr (as_is fault.Memory (cc)))

loaded_due : (job : List ℕ) (old : Option Disk) (l : Loaded) (t : Told) → LoadsDue job old (Ok l) → BreakTold job old t
loaded_due job None l t due = tt
loaded_due job (Some d) l t due = λ name is. never name (due name is)
  where
    never : (name : List ℕ) → run.ToldFirst (Ok l) (fault.Damaged name) → TellsFirst (texts.damaged name) t
    never name (inl same) = absurd (cc)
    never name (inr (inl same)) = absurd (cc)
    never name (inr (inr same)) = absurd (cc)

fault_reported : (job : List ℕ) (w : World) (old new : Option Disk) (before now : ℕ) (f : RunFault) (t : Told)
    → BeginsNot job old new before now f → t ≡ refusal_told (run_refusal f)
    → IsReported job (with_volume w old before) (with_volume w new now) t
fault_reported job w old new before now (fault.Damaged name) t stops tells =
    damaged name (where_both (LeftBroken job name) w old new before now stops) (inl tells)
fault_reported job w old new before now (fault.Shrunk part next size) t stops tells = absurd stops
fault_reported job w old new before now (fault.Full ranges units) t stops tells = absurd stops
fault_reported job w old new before now fault.SourceFault t stops tells = absurd stops
fault_reported job w old new before now fault.VolumeFault t stops tells = failure (inl tells) stops
fault_reported job w old new before now fault.Memory t stops tells = starved tells

pub not_reported : (job : List ℕ) (w : World) (old new : Option Disk) (before now : ℕ) (f : RunFault)
    (t : Told) → OnItsWay job old new before now → BeginsNot job old new before now f → LoadsDue job old (Err f)
    → t ≡ refusal_told (run_refusal f) → ReportAnswered job (with_volume w old before) (with_volume w new now) t
not_reported job w old new before now f t way stops due tells = record {
  caused = fault_reported job w old new before now f t stops tells;
  due = break_due job old f t due tells;
  settles = only_settles job w old new before now way;
}

pub report_starved : (job : List ℕ) (w : World) (old new : Option Disk) (before now : ℕ) (l : Loaded) (t : Told)
    → OnItsWay job old new before now → LoadsDue job old (Ok l) → t ≡ refusal_told texts.memory
    → ReportAnswered job (with_volume w old before) (with_volume w new now) t
report_starved job w old new before now l t way due tells = record {
  caused = starved tells;
  due = loaded_due job old l t due;
  settles = only_settles job w old new before now way;
}

-- what was loaded is what is found there
entry_is : (job : List ℕ) (l : Loaded) (old new : Option Disk) → AddsMaps (Finds job l) old new
    → IfSome old (λ d. SettledEntry job d.files l.state)
entry_is job l None new a = tt
entry_is job l (Some d) None a = absurd a.told
entry_is job l (Some d) (Some e) a =
    let found = a.told.holds in record {
      settled = last_map d.files a.told.added;
      settles = found.0;
      kept = found.1.0;
      keeps = found.1.1;
      state = sym found.1.2.state;
    }

pub all_reported : (job : List ℕ) (w : World) (old new : Option Disk) (before now : ℕ) (l : Loaded) (t : Told)
    → OnItsWay job old new before now → LoadsDue job old (Ok l) → AddsMaps (Finds job l) old new
    → t ≡ (0, state_report job l.state) → ReportAnswered job (with_volume w old before) (with_volume w new now) t
all_reported job w old new before now l t way due finds tells = record {
  caused = reported l.state (entry_is job l old new finds)
      (where_filed (SettledTo job) w old new before now (settled_to job) (maps_both settles (on_its_way way)))
      (inl tells);
  due = loaded_due job old l t due;
  settles = only_settles job w old new before now way;
}
  where
    settles : AddsMaps (EndsBy (Settles job)) old new
    settles = maps_map (λ m added f. f.0) finds
