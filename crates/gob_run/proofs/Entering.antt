-- How a run begins: whatever it answers then, its maps go along its states.
use Rattle.std.proofs.Common.{◌≡◌, ⊎_elim, ℕ, List, [], ◌∷◌, ◌++◌, Option, Some, None, refl, sym, ap, ◌∙◌, subst}
use Rattle.std.proofs.Common.{option_map, is_some, ◌||◌, ap₂, append-nil}
use Rattle.gob_bytes.specs.Tables.{IsInByteOrder, names_of}
use Rattle.gob_device.specs.Disk.{File, Files, FileImage, Image, EachOf, Rises, clean, contents_of, dirty}
use Rattle.gob_device.specs.Supply.{Held}
use Rattle.gob_device.proofs.Trail.{rises_more}
use Rattle.gob_meaning.specs.Job.{Job}
use Rattle.gob_ledger.specs.Next.{Judged}
use Rattle.gob_ledger.specs.State.{State}
use Rattle.gob_recovery.specs.Sequence.{CommitStep, move, remove}
use Rattle.gob_recovery.specs.Settle.{IsDamaged, Settles, SettlesAs, can_do, sequence, lost}
use Rattle.gob_recovery.proofs.Damaged.{one_damage}
use Rattle.gob_recovery.proofs.Decided.{settles_or_damaged}
use Rattle.gob_recovery.proofs.Images.{alike, all_alike, image_at}
use Rattle.gob_recovery.proofs.Settled.{settled_is}
use Rattle.gob_jobs.specs.Plans.{TellsPlan}
use Rattle.gob_commit.specs.Done.{GroupsDone}
use Rattle.gob_commit.proofs.Doing.{goes_along, staged_alike}
use Rattle.gob_history.specs.Sound.{AllRecoverTo, IsDurable}
use Rattle.gob_history.specs.Runs.{TrailOfRun, TrailOfSettling, after_group, chain_from, run_groups}
use Rattle.gob_history.specs.Laws.{BeginsWith, StagedOver}
use Rattle.gob_history.specs.Sound.{Stores}
use Rattle.gob_history.proofs.Goes.{goes}
use Rattle.gob_history.proofs.Rising.{rises_on}
use Rattle.gob_history.proofs.Stands.{standing}
use Rattle.gob_history.proofs.Steadied.{quiet_sequence, steadied}
use Rattle.gob_history.proofs.Along.{each_append}
use Rattle.gob_run.specs.Entry.{SettleAlike}

-- ---- a map that recovers settles

-- what is read of a map
abbrev read : Files → Files
read m name = option_map (λ f. clean (contents_of f)) (m name)

read_image : (m : Files) → Image m (read m)
unfolding Image
read_image m = λ name. one (m name)
  where
    one : (o : Option File) → FileImage o (option_map (λ f. clean (contents_of f)) o)
    one None = tt
    one (Some (clean bytes)) = refl
    one (Some (dirty kept loose)) = (loose, refl)

-- a damaged map reads as one
damaged_read : (job : List ℕ) (m : Files) (name : List ℕ) → IsDamaged job m name → IsDamaged job (read m) name
damaged_read job m _ (sequence file here nothing) =
    sequence (clean (contents_of file)) (ap (option_map (λ f. clean (contents_of f))) here) nothing
damaged_read job m _ (lost before source target after opened can cannot) =
    lost before source target after
    (record {
      file = clean (contents_of opened.file);
      here = ap (option_map (λ f. clean (contents_of f))) opened.here;
      reads = opened.reads;
    })
    (sym (all_alike m (read m) (read_image m) before) ∙ can)
    (sym (one_alike (move source target)) ∙ cannot)
  where
    there : (q : List ℕ) → is_some (m q) ≡ is_some (read m q)
    there q = alike (m q) (read m q) (image_at m (read m) (read_image m) q)

    one_alike : (s : CommitStep) → can_do m s ≡ can_do (read m) s
    one_alike (move source target) = ap₂ (λ a b. a || b) (there source) (there target)
    one_alike (remove name) = refl

pub settled_of : (job : List ℕ) (archive : Held) (o : Option State) (m : Files) → AllRecoverTo job archive o m
    → (settled : Files) × Settles job m settled
unfolding AllRecoverTo
settled_of job archive o m all =
    ⊎_elim (λ s. s)
    (λ d. let r = all (read m) (read_image m) in
    absurd ((one_damage job (read m) d.0 (damaged_read job m d.0 d.1)).unsettled r.0 r.1))
    (settles_or_damaged job m)

-- ---- maps that settle as the first one does

each_stands : (job : List ℕ) (archive : Held) (o : Option State) (m : Files) (added : List Files)
    → AllRecoverTo job archive o m → SettleAlike job m added → EachOf (AllRecoverTo job archive o) added
each_stands job archive o m added all each =
    let s = settled_of job archive o m all in
    let durable = (steadied job archive o s.0 m all s.1).0 in
    stand s.0 durable added (each s.0 (quiet_sequence job archive o m all) s.1)
  where
    stand : (settled : Files) → IsDurable job archive o settled → (ms : List Files)
        → EachOf (SettlesAs job settled) ms → EachOf (AllRecoverTo job archive o) ms
    stand settled durable [] h = tt
    stand settled durable (n ∷ ns) h =
        (standing job archive o settled n durable h.0, stand settled durable ns h.1)

one_stretch : {X : Type 0} (P : X → Files → Type 0) (x : X) (ms : List Files) → EachOf (P x) ms → Rises P (x ∷ []) ms
unfolding Rises
one_stretch P x ms each = (ms, [], sym (append-nil ms), each, refl)

-- a call that only settles
pub settling_trail : (job : List ℕ) (m : Files) (added : List Files) → SettleAlike job m added
    → TrailOfSettling job m added
settling_trail job m added each = λ archive o all.
    one_stretch (AllRecoverTo job archive) o added (each_stands job archive o m added all each)

-- a run that has committed nothing yet
pub entering_trail : (job : Job) (held : Held) (failing : List ℕ) (m : Files) (added : List Files)
    → SettleAlike job.name m added → TrailOfRun job held failing m added
entering_trail job held failing m added each = λ archive o agrees all.
    let h = one_stretch (AllRecoverTo job.name archive) o added (each_stands job.name archive o m added all each) in
    first archive o (run_groups job held failing o) h
  where
    first : (archive : Held) (o : Option State) (groups : List (List Judged))
        → Rises (AllRecoverTo job.name archive) (o ∷ []) added
        → Rises (AllRecoverTo job.name archive) (chain_from job o groups) added
    first archive o [] h = h
    first archive o (g ∷ gs) h =
        rises_more (AllRecoverTo job.name archive) (o ∷ []) (chain_from job (after_group job o g) gs) added h

-- maps that settle as the first of some, and then others that rise from it
pub rises_behind : (job : List ℕ) (first : Files) (maps here added : List Files) → BeginsWith first maps
    → EachOf (SettlesAs job first) here → Rises (SettlesAs job) maps added → Rises (SettlesAs job) maps (here ++ added)
rises_behind job first [] here added begins each rises = absurd begins
rises_behind job first (n ∷ ns) here added begins each rises =
    rises_on (SettlesAs job) [] n ns here added
    (one_stretch (SettlesAs job) n here (subst (λ f. EachOf (SettlesAs job f) here) begins each)) rises

-- ---- a run in its three parts

-- the maps of a run that was stopped between its commits, or within one: those of settling, those of its turns, which
-- differ from the settled one in staged files alone, and those of its commits
pub run_trail : (job : Job) (held : Held) (failing : List ℕ) (m settled last : Files) (o : Option State)
    (before rest : List (List Judged)) (maps first turns commits : List Files)
    → TellsPlan job → IsInByteOrder (names_of held) → Settles job.name m settled → Stores job.name settled o
    → GroupsDone job held o settled before last maps → run_groups job held failing o ≡ before ++ rest
    → SettleAlike job.name m first → EachOf (StagedOver job.name settled) turns
    → Rises (SettlesAs job.name) maps commits → TrailOfRun job held failing m ((first ++ turns) ++ commits)
run_trail job held failing m settled last o before rest maps first turns commits tells order settles stores done whole
    alike over rises =
    let staged = staged_alike job.name settled turns (settled_is job.name m settled settles) over in
    goes job held failing m settled ((first ++ turns) ++ commits) tells order
    (goes_along job held failing m settled last o before rest maps ((first ++ turns) ++ commits) settles stores done
    whole
    (λ quiet. rises_behind job.name settled maps (first ++ turns) commits done.begins
    (each_append (SettlesAs job.name settled) first turns (alike settled quiet settles) staged) rises))
