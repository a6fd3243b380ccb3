-- How a run stands behind settling and loading, over a volume that tells: one state is found, and nothing is damaged.
use Rattle.std.proofs.Common.{◌≡◌, ℕ, List, ◌++◌, refl, sym, ap, subst, ◌∙◌}
use Rattle.std.proofs.Common.{Some, None}
use Rattle.std.proofs.Common.{option_map, IfSome}
use Rattle.std.specs.declared.option.Option.{Option}
use Rattle.gob_bytes.specs.Paths.{sequence_name}
use Rattle.gob_device.specs.Disk.{AddsMaps, Along, Both, Disk, EachFrom, EachOf, Files, Went, last_map}
use Rattle.gob_device.proofs.Trail.{each-map}
use Rattle.gob_meaning.specs.Job.{Job}
use Rattle.gob_ledger.specs.Delta.{Kept, KeepsAs, state_of}
use Rattle.gob_ledger.specs.State.{State}
use Rattle.gob_ledger.proofs.OneDamage.{damage_is_one}
use Rattle.gob_ledger.proofs.OneState.{keeps_one}
use Rattle.gob_recovery.specs.Settle.{Settles, SettlesAs}
use Rattle.gob_recovery.proofs.Damaged.{one_damage}
use Rattle.gob_recovery.proofs.Settled.{settled_is}
use Rattle.gob_recovery.proofs.Spelled.{to_one}
use Rattle.gob_history.specs.Runs.{state_or_empty}
use Rattle.gob_segments.specs.Loading.{IsKept, IsLoaded}
use Rattle.gob_segments.specs.declared.change.Loaded.{Loaded}
use Rattle.gob_seq.specs.Maps.{ImagesSettleTheSame, OnlyUnstages, SettlesByName}
use Rattle.gob_run.specs.Cutting.{parts_of}
use Rattle.gob_run.specs.Entry.{SettledEntry, IsBroken, OnlySettled, SettleAlike, SettledTo, sequence, state}
use Rattle.gob_run.specs.Faults.{Finds}
use Rattle.gob_run.proofs.Settled.{OnlySettle, settle_alike, undamaged}
use Rattle.gob_run.proofs.Wents.{adds_both, went_of}

-- the volume is settled, and this was loaded
pub record Began (job : List ℕ) (l : Loaded) (d c : Disk) : Type 0 where
  pub first : List Files
  pub trail : c.trail ≡ d.trail ++ first
  pub stands : c.files ≡ last_map d.files first
  pub settles : Settles job d.files c.files
  pub kept : Option Kept
  pub keeps : KeepsAs job c.files kept
  pub loaded : IsLoaded kept l
  pub alike : SettleAlike job d.files first
  pub names : EachOf (SettlesByName job d.files) first
  pub staged : EachOf (OnlyUnstages job d.files) first

pub began_of : (job : List ℕ) (l : Loaded) (old mid : Option Disk) (d : Disk) → AddsMaps (Finds job l) old mid
    → AddsMaps (OnlySettle job) old mid → old ≡ Some d → (c : Disk) × (mid ≡ Some c) × Began job l d c
began_of job l old mid d found only is =
    let all = adds_both (Finds job l) (OnlySettle job) old mid found only in
    let w = went_of (λ m a. Finds job l m a × OnlySettle job m a) old mid d all is in
    (w.0, w.1, begun w.0 w.2)
  where
    begun : (c : Disk) → Went (λ m a. Finds job l m a × OnlySettle job m a) d c → Began job l d c
    begun c w =
        let kept = subst (λ n. IsKept job n l) (sym w.stands) w.holds.0.1 in
        record {
          first = w.added;
          trail = w.trail;
          stands = w.stands;
          settles = subst (λ n. Settles job d.files n) (sym w.stands) w.holds.0.0;
          kept = kept.0;
          keeps = kept.1;
          loaded = kept.2;
          alike = settle_alike job d.files w.added w.holds.1.0;
          names = w.holds.1.1.0;
          staged = w.holds.1.1.1;
        }

-- ---- what is found

unfoldable pub entry_of : (job : List ℕ) (l : Loaded) (d c : Disk) → Began job l d c → SettledEntry job d.files l.state
entry_of job l d c b = record {
  settled = c.files;
  settles = b.settles;
  kept = b.kept;
  keeps = b.keeps;
  state = sym b.loaded.state;
}

pub only_settled : (job : List ℕ) (l : Loaded) (d c : Disk) → Began job l d c → OnlySettled job d c
only_settled job l d c b = record {
  added = b.first;
  trail = b.trail;
  stands = b.stands;
  alike = b.alike;
  names = b.names;
  staged = b.staged;
  damaged = undamaged job d c c.files b.settles;
}

pub settled_to : (job : List ℕ) (l : Loaded) (d c : Disk) → Began job l d c → SettledTo job d c
settled_to job l d c b = record { only = only_settled job l d c b; settles = b.settles }

-- no other state is found
pub found_is_one : (job : List ℕ) (l : Loaded) (d c : Disk) (o : Option State) → Began job l d c
    → SettledEntry job d.files o → o ≡ l.state
found_is_one job l d c o b e =
    let same = to_one job d.files c.files e.settled b.settles e.settles in
    let kept = keeps_one job e.settled b.kept e.kept (subst (λ n. KeepsAs job n b.kept) same b.keeps) e.keeps in
    sym e.state ∙ ap (option_map state_of) (sym kept) ∙ sym b.loaded.state

-- nothing is damaged
pub not_broken : (job : List ℕ) (l : Loaded) (d c : Disk) (name : List ℕ) → Began job l d c
    → IsBroken job d.files name → ⊥
not_broken job l d c name b (sequence _ damaged) = (one_damage job d.files name damaged).unsettled c.files b.settles
not_broken job l d c name b (state other _ settles damaged) =
    (damage_is_one job other name damaged).nothing b.kept
    (subst (λ n. KeepsAs job n b.kept) (to_one job d.files c.files other b.settles settles) b.keeps)

pub parts_same : (job : Job) (o : Option State) → (state_or_empty job o).parts ≡ parts_of o
parts_same job None = refl
parts_same job (Some s) = refl

-- no sequence is open
pub closed_of : (job : List ℕ) (l : Loaded) (old mid : Option Disk) → AddsMaps (Finds job l) old mid
    → IfSome mid (λ d. d.files (sequence_name job) ≡ None)
closed_of job l old mid found = closed old mid found.told
  where
    closed : (o n : Option Disk) → Both (Went (Finds job l)) o n → IfSome n (λ d. d.files (sequence_name job) ≡ None)
    closed None None both = tt
    closed (Some d) None both = tt
    closed None (Some e) both = absurd both
    closed (Some d) (Some e) both = subst (λ m. m (sequence_name job) ≡ None) (sym both.stands)
        (settled_is job d.files (last_map d.files both.added) both.holds.0).closed
