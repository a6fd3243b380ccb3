-- A run that is refused, or stopped, before its first pull: what it answers, and what it leaves.
use Rattle.std.proofs.Common.{◌≡◌, ◌⊎◌, ⊎_elim, inl, inr, ℕ, List, [], ◌++◌, refl, sym, ap, subst, ◌∙◌, Some, None}
use Rattle.std.proofs.Common.{IfSome}
use Rattle.std.proofs.Common.{option_map, arith, ◌≤◌}
use Rattle.std.proofs.lemmas.Option.{same_Some}
use Rattle.std.specs.List.{IsDistinct, flat_map}
use Rattle.std.specs.declared.option.Option.{Option}
use Rattle.std.specs.declared.result.Result.TheVariants.{Err}
use Rattle.gob_bytes.specs.Paths.{under}
use Rattle.gob_bytes.specs.Tables.{Table}
use Rattle.gob_device.specs.Disk.{AddsMaps, Along, Both, Disk, EachOf, Files, Went, last_map}
use Rattle.gob_device.specs.Causes.{Rose}
use Rattle.gob_device.specs.Supply.{Held, Supply}
use Rattle.gob_device.proofs.Trail.{both_map, each-map, maps_map}
use Rattle.gob_device.proofs.Supply.{with_none}
use Rattle.gob_meaning.specs.Job.{Job}
use Rattle.gob_ledger.specs.Delta.{KeepsAs, state_of}
use Rattle.gob_ledger.specs.Marks.{Marks}
use Rattle.gob_ledger.specs.State.{State}
use Rattle.gob_ledger.specs.Turns.{pulls_in, turns_of}
use Rattle.gob_ledger.specs.Units.{UnitsFit, next_of}
use Rattle.gob_ledger.proofs.Members.{none_in}
use Rattle.gob_ledger.proofs.OneDamage.{damage_is_one}
use Rattle.gob_ledger.proofs.OneState.{keeps_one}
use Rattle.gob_recovery.specs.Commits.{OnlyBelow}
use Rattle.gob_recovery.proofs.Damaged.{one_damage}
use Rattle.gob_recovery.proofs.Spelled.{to_one}
use Rattle.gob_history.specs.Runs.{done_in, run_units, state_or_empty}
use Rattle.gob_history.proofs.Fronts.{published_unstaged}
use Rattle.gob_seq.specs.Maps.{ImagesSettleTheSame, OnlyUnstages, SettlesByName}
use Rattle.gob_seq.proofs.Trails.{maps_both}
use Rattle.gob_segments.specs.declared.change.Loaded.{Loaded}
use Rattle.gob_state.specs.declared.next.Outcome.{Outcome}
use Rattle.gob_turns.specs.Taken.{FailuresRose, HasPulled}
use Rattle.gob_turns.proofs.Pulled.{pulled_nothing}
use Rattle.gob_run.specs.Answers.{Answer, Completes, Due, FaultCaused, NoPull, PublishesGiven, PublishesOnly, PullsAre}
use Rattle.gob_run.specs.Answers.{PullsAreOf, RunAnswered, StaysIdle, ToldFirst, TrailIs, groups_by}
use Rattle.gob_run.specs.Cutting.{CutNot, NoRoom, ShrunkAt, parts_of}
use Rattle.gob_run.specs.Entry.{SettledEntry, IsBroken, IsFull, IsFirstShrunk, LeftBroken, OnlySettled, Refused}
use Rattle.gob_run.specs.Entry.{SettledTo, StaysDamaged, broken, full, sequence, shrunk, state}
use Rattle.gob_run.specs.Faults.{BeginsNot, Finds}
use Rattle.gob_run.specs.World.{WorldGoesOn, WhereFiled, WhereSupplied, WhereTold, World}
use Rattle.gob_run.specs.declared.fault.RunFault.{RunFault}
use Rattle.gob_run.specs.declared.fault.RunFault.TheVariants.{Damaged, Shrunk, Full, SourceFault, VolumeFault, Memory}
use Rattle.gob_run.proofs.Counting.{new_count_told}
use Rattle.gob_run.proofs.Entering.{entering_trail}
use Rattle.gob_run.proofs.Readers.{published_apart, readers_of_settling}
use Rattle.gob_run.proofs.Reading.{readers_of_entering}
use Rattle.gob_run.proofs.Settled.{AllSettle, OnlySettle, both_settled, broken_one, broken_settled, settle_alike}
use Rattle.gob_run.proofs.Settled.{settled_to}
use Rattle.gob_run.proofs.Wents.{adds_both, went_of}

-- ---- what devices tell

-- what is said where the volume tells may use that it does
if_known : {A : Type 0} {P : A → Type 0} (o : Option A) → ((a : A) → o ≡ Some a → P a) → IfSome o P
if_known None f = tt
if_known (Some a) f = f a refl

known : {A : Type 0} (P : A → Type 0) (o : Option A) (a : A) → o ≡ Some a → IfSome o P → P a
known {A} P o a is p = let at : IfSome (Some a) P = subst (λ (x : Option A). IfSome x P) is p in at

both_there : {A : Type 0} (R : A → A → Type 0) (old new : Option A) (a : A) → old ≡ Some a → Both R old new
    → (b : A) × (new ≡ Some b) × R a b
both_there {A} R old None a is both = absurd (subst (λ (o : Option A). Both R o None) is both)
both_there {A} R old (Some b) a is both = (b, refl, subst (λ (o : Option A). Both R o (Some b)) is both)

pub filed : (R : Disk → Disk → Type 0) (old new : World) → Both R old.disk new.disk → WhereFiled R old new
filed R old new both d is = both_there R old.disk new.disk d is both

-- ---- a run that stops before its first pull

-- whatever stopped it
pub record StopsEarly (job : Job) (old new : World) : Type 0 where
  pub alike : Along (ImagesSettleTheSame job.name) old.disk new.disk
  pub names : Along (SettlesByName job.name) old.disk new.disk
  pub staged : Along (OnlyUnstages job.name) old.disk new.disk
  pub damaged : Both (StaysDamaged job.name) old.disk new.disk
  pub below : Along (OnlyBelow (under job.name [])) old.disk new.disk
  pub unpulled : NoPull old new
  pub goes_on : WorldGoesOn old new

-- the maps that it added, each of which settles as the first one does
early_maps : (job : Job) (old new : World) (d : Disk) → StopsEarly job old new → old.disk ≡ Some d
    → (e : Disk) × (new.disk ≡ Some e) × Went (OnlySettle job.name) d e
early_maps job old new d early in_old = went_of (OnlySettle job.name) old.disk new.disk d
    (maps_both early.alike (maps_both early.names early.staged)) in_old

early_trail : (job : Job) (old new : World) → StopsEarly job old new → WhereTold (TrailIs job []) old new
early_trail job old new early d s in_old in_supply =
    let t = early_maps job old new d early in_old in (
      t.0,
      s,
      t.1,
      early.unpulled ∙ in_supply,
      record {
        added = t.2.added;
        trail = t.2.trail;
        stands = t.2.stands;
        goes = entering_trail job s.held [] d.files t.2.added
            (settle_alike job.name d.files t.2.added t.2.holds.0);
        reads = readers_of_entering job s.held [] d.files t.2.added
            (readers_of_settling job.name d.files t.2.added t.2.holds.1.0);
      },
    )

no_units_fit : (parts : Table Marks) → UnitsFit parts []
unfolding IsDistinct
no_units_fit parts = record {
  once = tt;
  owed = λ u there fresh. none_in u there;
  fresh = λ part. tt;
}

-- no unit was given anything, and nothing was published but what was found
early_published : (job : Job) (old new : World) → StopsEarly job old new → WhereFiled (PublishesGiven job) old new
early_published job old new early d in_old =
    let t = early_maps job old new d early in_old in
    let done = flat_map (done_in job) (groups_by job [] []) in (
      t.0,
      t.1,
      record {
        added = t.2.added;
        trail = t.2.trail;
        stands = t.2.stands;
        units = [];
        results = [];
        fit = λ o entry. no_units_fit (state_or_empty job o).parts;
        given = [];
        judged = λ j there good. none_in j there;
        publishes = λ settled settles. each-map (SettlesByName job.name d.files)
            (PublishesOnly job [] done d.files settled) t.2.added
            (λ n by name f published here. ⊎_elim
            (λ same. inl (sym same ∙ here))
            (λ same. inr (inl (sym same ∙ here)))
            (by settled settles name (published_unstaged job.name name published)
            (published_apart job.name name published))) t.2.holds.1.0;
      },
    )

early_pulls : (job : Job) (old new : World) → NoPull old new → WhereSupplied (PullsAre job []) old new
early_pulls job old new none s in_supply = (
  s,
  none ∙ in_supply,
  record {
    found = None;
    pulls = [];
    made = with_none s;
    rest = pulls_in (turns_of job s.held (run_units job s.held None) []);
    turns = refl;
  },
)

early_own : (job : Job) (old new : World) → StopsEarly job old new → WhereTold (PullsAreOf job []) old new
early_own job old new early d s in_old in_supply =
    let t = filed (Went _) old new early.alike.told d in_old in (
      t.0,
      s,
      t.1,
      early.unpulled ∙ in_supply,
      record {
        pulls = [];
        made = with_none s;
        front = λ o entry. (pulls_in (turns_of job s.held (run_units job s.held o) []), refl);
      },
    )

early_idle : (job : Job) (old new : World) → StopsEarly job old new → WhereTold (StaysIdle job) old new
early_idle job old new early d s in_old in_supply =
    let only = maps_both early.alike (maps_both early.names early.staged) in
    let t = filed (OnlySettled job.name) old new (both_settled job.name old.disk new.disk only early.damaged) d in_old
    in (t.0, s, t.1, early.unpulled ∙ in_supply, λ owes. t.2)

none_failed : (before now : ℕ) → before ≤ now → FailuresRose [] before now
none_failed before now later = record { rising = (0, refl); counted = omega (arith, later) }

-- all that is said of it
pub early_answer : (job : Job) (f : RunFault) (old new : World) → StopsEarly job old new
    → FaultCaused job old new f → Due job old (Err f) → Completes job old new (Err f)
    → RunAnswered job [] (Err f) old new
early_answer job f old new early caused due completes = record {
  done = tt;
  trail = early_trail job old new early;
  published = early_published job old new early;
  pulls = early_pulls job old new early.unpulled;
  own_pulls = early_own job old new early;
  idle = early_idle job old new early;
  damaged = filed (StaysDamaged job.name) old new early.damaged;
  pulled = subst (HasPulled old.supply) (sym early.unpulled) (pulled_nothing old.supply);
  failed = none_failed old.source_faults new.source_faults early.goes_on.source;
  caused = caused;
  due = due;
  completes = completes;
  below = early.below;
  goes_on = early.goes_on;
}

-- one fault is another
told_as : (f r : RunFault) → f ≡ r → ToldFirst {T = Outcome} (Err f) r
told_as f r same = inl (ap {B = Answer} (λ x. Err x) same)

-- ---- nothing was loaded

-- one name is to blame
left_one : (job blamed name : List ℕ) (d e : Disk) → LeftBroken job blamed d e → IsBroken job d.files name
    → blamed ≡ name
left_one job blamed name d e (sequence damaged same) is = sym (broken_one job name blamed d.files damaged is)
left_one job blamed name d e (state settled damaged) is =
    sym ((damage_is_one job e.files blamed damaged).blamed name
    (broken_settled job name d.files e.files settled.settles is))

left_broken : (job blamed : List ℕ) (d e : Disk) → LeftBroken job blamed d e → IsBroken job d.files blamed
left_broken job blamed d e (sequence damaged same) = sequence blamed damaged
left_broken job blamed d e (state settled damaged) = state e.files blamed settled.settles damaged

-- and no state is found
no_entry : (job blamed : List ℕ) (d e : Disk) (o : Option State) → LeftBroken job blamed d e
    → SettledEntry job d.files o → ⊥
no_entry job blamed d e o (sequence damaged same) found =
    (one_damage job d.files blamed damaged).unsettled found.settled found.settles
no_entry job blamed d e o (state settled damaged) found =
    (damage_is_one job e.files blamed damaged).nothing found.kept
    (subst (λ (m : Files). KeepsAs job m found.kept)
    (to_one job d.files found.settled e.files found.settles settled.settles) found.keeps)

left_told : (job : Job) (blamed : List ℕ) (d e : Disk) (s : Supply) (r : RunFault) → LeftBroken job.name blamed d e
    → Refused job d s r → Damaged blamed ≡ r
left_told job blamed d e s _ left (broken name is) = ap (λ n. Damaged n) (left_one job.name blamed name d e left is)
left_told job blamed d e s _ left (shrunk o part next size found is) =
    absurd (no_entry job.name blamed d e o left found)
left_told job blamed d e s _ left (full o ranges units found is) =
    absurd (no_entry job.name blamed d e o left found)

abbrev NothingLoaded : Job → World → World → RunFault → Type 0
NothingLoaded job old new f = BeginsNot job.name old.disk new.disk old.volume_faults new.volume_faults f

entry_caused : (job : Job) (f : RunFault) (old new : World) → NothingLoaded job old new f → NoPull old new
    → FaultCaused job old new f
entry_caused job (Damaged name) old new begins none = (filed (LeftBroken job.name name) old new begins, none)
entry_caused job (Shrunk part next size) old new begins none = absurd begins
entry_caused job (Full ranges units) old new begins none = absurd begins
entry_caused job SourceFault old new begins none = absurd begins
entry_caused job VolumeFault old new begins none = begins
entry_caused job Memory old new begins none = tt

entry_due : (job : Job) (f : RunFault) (old new : World) → NothingLoaded job old new f → Due job old (Err f)
entry_due job (Damaged blamed) old new begins =
    let left = filed (LeftBroken job.name blamed) old new begins in
    record {
      broken = if_known old.disk (λ d in_old name is. let there = left d in_old in
          told_as (Damaged blamed) (Damaged name)
          (ap (λ n. Damaged n) (left_one job.name blamed name d there.0 there.2 is)));
      refused = λ d s r in_old in_supply is. let there = left d in_old in
          inl (told_as (Damaged blamed) r (left_told job blamed d there.0 s r there.2 is));
    }
entry_due job (Shrunk part next size) old new begins = absurd begins
entry_due job (Full ranges units) old new begins = absurd begins
entry_due job SourceFault old new begins = absurd begins
entry_due job VolumeFault old new begins = record {
  broken = if_known old.disk (λ d in_old name is. inr (inl refl));
  refused = λ d s r in_old in_supply is. inl (inr (inl refl));
}
entry_due job Memory old new begins = record {
  broken = if_known old.disk (λ d in_old name is. inr (inr refl));
  refused = λ d s r in_old in_supply is. inl (inr (inr refl));
}

entry_completes : (job : Job) (f : RunFault) (old new : World) → NothingLoaded job old new f
    → Completes job old new (Err f)
entry_completes job (Damaged name) old new begins d s in_old in_supply none planned failed =
    let there = filed (LeftBroken job.name name) old new begins d in_old in
    absurd (none (Damaged name) (broken name (left_broken job.name name d there.0 there.2)))
entry_completes job (Shrunk part next size) old new begins d s in_old in_supply none planned failed = absurd begins
entry_completes job (Full ranges units) old new begins d s in_old in_supply none planned failed = absurd begins
entry_completes job SourceFault old new begins d s in_old in_supply none planned failed = absurd begins
entry_completes job VolumeFault old new begins d s in_old in_supply none planned failed = absurd (failed begins)
entry_completes job Memory old new begins d s in_old in_supply none planned failed = inr refl

-- settling failed, or nothing could be loaded then
pub refused_at_entry : (job : Job) (f : RunFault) (old new : World) → StopsEarly job old new
    → BeginsNot job.name old.disk new.disk old.volume_faults new.volume_faults f
    → RunAnswered job [] (Err f) old new
refused_at_entry job f old new early begins =
    early_answer job f old new early (entry_caused job f old new begins early.unpulled)
    (entry_due job f old new begins) (entry_completes job f old new begins)

-- ---- nothing was cut over what was loaded

pub parts_are : (job : Job) (o : Option State) → parts_of o ≡ (state_or_empty job o).parts
parts_are job None = refl
parts_are job (Some s) = refl

-- one state is found
pub entry_one : (job : List ℕ) (m : Files) (o p : Option State) → SettledEntry job m o → SettledEntry job m p → o ≡ p
entry_one job m o p a b =
    let settled : a.settled ≡ b.settled = to_one job m a.settled b.settled a.settles b.settles in
    let kept : a.kept ≡ b.kept = keeps_one job b.settled a.kept b.kept
    (subst (λ (n : Files). KeepsAs job n a.kept) settled a.keeps) b.keeps in
    sym a.state ∙ ap (option_map state_of) kept ∙ b.state

-- what was loaded is found
pub found_entry : (job : List ℕ) (l : Loaded) (d e : Disk) → Went (Finds job l) d e → SettledEntry job d.files l.state
found_entry job l d e w = record {
  settled = last_map d.files w.added;
  settles = w.holds.0;
  kept = w.holds.1.0;
  keeps = w.holds.1.1;
  state = sym w.holds.1.2.state;
}

-- nothing is broken then
pub entry_unbroken : (job name : List ℕ) (m : Files) (o : Option State) → SettledEntry job m o → IsBroken job m name → ⊥
entry_unbroken job name m o found is =
    (damage_is_one job found.settled name (broken_settled job name m found.settled found.settles is)).nothing found.kept
    found.keeps

pub found_settled : (job : List ℕ) (l : Loaded) (old new : World) → AddsMaps (Finds job l) old.disk new.disk
    → AddsMaps (OnlySettle job) old.disk new.disk → WhereFiled (SettledTo job) old new
found_settled job l old new found only =
    let all : AddsMaps (AllSettle job) old.disk new.disk =
    maps_map (λ m added h. (h.0.0, h.1)) (maps_both found only) in
    filed (SettledTo job) old new
    (both_map (Went (AllSettle job)) (SettledTo job) (settled_to job) old.disk new.disk all.told)

-- over the parts of the state, or of the empty one
abbrev NothingCut : Job → Option State → Option Supply → World → World → RunFault → Type 0
NothingCut job o supply old new f =
    CutNot (state_or_empty job o).parts job.limits supply old.plan_faults new.plan_faults f

shrunk_is : (job : Job) (o : Option State) (s : Supply) (part : List ℕ) (next size : ℕ)
    → ShrunkAt (state_or_empty job o).parts part next size s → IsFirstShrunk job s o part next size
shrunk_is job o s part next size a = record { first = a.first; taken = a.taken }

full_is : (job : Job) (o : Option State) (s : Supply) (ranges units : ℕ)
    → NoRoom (state_or_empty job o).parts job.limits ranges units (Some s) → IsFull job s o ranges units
full_is job o s ranges units a = record {
  unshrunk = a.told.0;
  fresh = a.told.1 ∙ new_count_told (state_or_empty job o).parts s.held job.limits;
  many = record { stored = a.stored; many = a.many };
}

cut_caused : (job : Job) (o : Option State) (f : RunFault) (old new : World)
    → IfSome old.disk (λ d. SettledEntry job.name d.files o) → WhereFiled (SettledTo job.name) old new → NoPull old new
    → NothingCut job o old.supply old new f → FaultCaused job old new f
cut_caused job o (Damaged name) old new entry settled none cut = absurd cut
cut_caused job o (Shrunk part next size) old new entry settled none cut = record {
  found = o;
  entry = entry;
  told = if_known old.supply (λ s in_supply. shrunk_is job o s part next size
      (known (ShrunkAt (state_or_empty job o).parts part next size) old.supply s in_supply cut));
  untold = tt;
  files = settled;
  unpulled = none;
}
cut_caused job o (Full ranges units) old new entry settled none cut = record {
  found = o;
  entry = entry;
  told = if_known old.supply (λ s in_supply. full_is job o s ranges units
      (subst (λ (x : Option Supply). NoRoom (state_or_empty job o).parts job.limits ranges units x) in_supply cut));
  untold = record { stored = cut.stored; many = cut.many };
  files = settled;
  unpulled = none;
}
cut_caused job o SourceFault old new entry settled none cut = (cut, settled, none)
cut_caused job o VolumeFault old new entry settled none cut = absurd cut
cut_caused job o Memory old new entry settled none cut = tt

-- the first partition that shrank is one
shrunk_one : (job : Job) (o : Option State) (s : Supply) (part name : List ℕ) (next size at long : ℕ)
    → IsFirstShrunk job s o part next size → IsFirstShrunk job s o name at long → Shrunk part next size
    ≡ Shrunk name at long
shrunk_one job o s part name next size at long a b =
    let parts : Table Marks = (state_or_empty job o).parts in
    let same : (part, size) ≡ (name, long) = same_Some (part, size) (name, long) (sym a.first ∙ b.first) in
    let named : part ≡ name = ap (λ (e : List ℕ × ℕ). e.0) same in
    let sized : size ≡ long = ap (λ (e : List ℕ × ℕ). e.1) same in
    let taken : next ≡ at = a.taken ∙ ap (next_of parts) named ∙ sym b.taken in
    λ i. Shrunk (named i) (taken i) (sized i)

-- no partition shrank where the state is full
shrunk_or_full : (job : Job) (o : Option State) (s : Supply) (part : List ℕ) (next size ranges units : ℕ)
    → IsFirstShrunk job s o part next size → IsFull job s o ranges units → ⊥
shrunk_or_full job o s part next size ranges units a b =
    let no : ◌≡◌ {A = Option (List ℕ × ℕ)} None (Some (part, size)) = sym b.unshrunk ∙ a.first in cc

full_one : (job : Job) (o : Option State) (s : Supply) (ranges units stored fresh : ℕ)
    → IsFull job s o ranges units → IsFull job s o stored fresh → Full ranges units ≡ Full stored fresh
full_one job o s ranges units stored fresh a b =
    let counted : ranges ≡ stored = a.many.stored ∙ sym b.many.stored in
    let new : units ≡ fresh = a.fresh ∙ sym b.fresh in
    λ i. Full (counted i) (new i)

-- what is refused over the state that is found
refused_shrunk : (job : Job) (o : Option State) (d : Disk) (s : Supply) (part : List ℕ) (next size : ℕ) (r : RunFault)
    → SettledEntry job.name d.files o → IsFirstShrunk job s o part next size → Refused job d s r
    → Shrunk part next size ≡ r
refused_shrunk job o d s part next size _ entry is (broken name damaged) =
    absurd (entry_unbroken job.name name d.files o entry damaged)
refused_shrunk job o d s part next size _ entry is (shrunk p name at long other due) =
    shrunk_one job o s part name next size at long is
    (subst (λ x. IsFirstShrunk job s x name at long) (entry_one job.name d.files p o other entry) due)
refused_shrunk job o d s part next size _ entry is (full p ranges units other due) =
    absurd (shrunk_or_full job o s part next size ranges units is
    (subst (λ x. IsFull job s x ranges units) (entry_one job.name d.files p o other entry) due))

refused_full : (job : Job) (o : Option State) (d : Disk) (s : Supply) (ranges units : ℕ) (r : RunFault)
    → SettledEntry job.name d.files o → IsFull job s o ranges units → Refused job d s r → Full ranges units ≡ r
refused_full job o d s ranges units _ entry is (broken name damaged) =
    absurd (entry_unbroken job.name name d.files o entry damaged)
refused_full job o d s ranges units _ entry is (shrunk p name at long other due) =
    absurd (shrunk_or_full job o s name at long ranges units
    (subst (λ x. IsFirstShrunk job s x name at long) (entry_one job.name d.files p o other entry) due) is)
refused_full job o d s ranges units _ entry is (full p stored fresh other due) =
    full_one job o s ranges units stored fresh is
    (subst (λ x. IsFull job s x stored fresh) (entry_one job.name d.files p o other entry) due)

cut_tells : (job : Job) (o : Option State) (f r : RunFault) (d : Disk) (s : Supply) (old new : World)
    → SettledEntry job.name d.files o → NothingCut job o (Some s) old new f → Refused job d s r
    → ToldFirst {T = Outcome} (Err f) r ⊎ (◌≡◌ {A = Answer} (Err f) (Err SourceFault))
cut_tells job o (Damaged name) r d s old new entry cut is = absurd cut
cut_tells job o (Shrunk part next size) r d s old new entry cut is =
    inl (told_as (Shrunk part next size) r
    (refused_shrunk job o d s part next size r entry (shrunk_is job o s part next size cut) is))
cut_tells job o (Full ranges units) r d s old new entry cut is =
    inl (told_as (Full ranges units) r
    (refused_full job o d s ranges units r entry (full_is job o s ranges units cut) is))
cut_tells job o SourceFault r d s old new entry cut is = inr refl
cut_tells job o VolumeFault r d s old new entry cut is = absurd cut
cut_tells job o Memory r d s old new entry cut is = inl (inr (inr refl))

-- where nothing is refused and no device failed, no memory was left
cut_completes : (job : Job) (o : Option State) (f : RunFault) (d : Disk) (s : Supply) (old new : World)
    → SettledEntry job.name d.files o → NothingCut job o (Some s) old new f → ((r : RunFault) → Refused job d s r → ⊥)
    → (Rose old.plan_faults new.plan_faults → ⊥) → ◌≡◌ {A = Answer} (Err f) (Err Memory)
cut_completes job o (Damaged name) d s old new entry cut none planned = absurd cut
cut_completes job o (Shrunk part next size) d s old new entry cut none planned =
    absurd (none (Shrunk part next size)
    (shrunk o part next size entry (shrunk_is job o s part next size cut)))
cut_completes job o (Full ranges units) d s old new entry cut none planned =
    absurd (none (Full ranges units) (full o ranges units entry (full_is job o s ranges units cut)))
cut_completes job o SourceFault d s old new entry cut none planned = absurd (planned cut)
cut_completes job o VolumeFault d s old new entry cut none planned = absurd cut
cut_completes job o Memory d s old new entry cut none planned = refl

-- the files were settled and their state was loaded, and then no units could be cut
pub refused_at_cut : (job : Job) (l : Loaded) (f : RunFault) (old new : World) → StopsEarly job old new
    → AddsMaps (Finds job.name l) old.disk new.disk
    → CutNot (parts_of l.state) job.limits old.supply old.plan_faults new.plan_faults f
    → RunAnswered job [] (Err f) old new
refused_at_cut job l f old new early found stopped =
    let o : Option State = l.state in
    let cut : NothingCut job o old.supply old new f =
    subst (λ (parts : Table Marks). CutNot parts job.limits old.supply old.plan_faults new.plan_faults f)
    (parts_are job o) stopped in
    let told : (s : Supply) → old.supply ≡ Some s → NothingCut job o (Some s) old new f =
    λ s in_supply. subst (λ (x : Option Supply). NothingCut job o x old new f) in_supply cut in
    let entry : (d : Disk) → old.disk ≡ Some d → SettledEntry job.name d.files o =
    λ d in_old. let t = filed (Went (Finds job.name l)) old new found.told d in_old in
    found_entry job.name l d t.0 t.2 in
    early_answer job f old new early
    (cut_caused job o f old new (if_known old.disk entry) (found_settled job.name l old new found
    (maps_both early.alike (maps_both early.names early.staged)))
    early.unpulled cut)
    (record {
      broken = if_known old.disk (λ d in_old name is.
          absurd (entry_unbroken job.name name d.files o (entry d in_old) is));
      refused = λ d s r in_old in_supply is.
          cut_tells job o f r d s old new (entry d in_old) (told s in_supply) is;
    })
    (λ d s in_old in_supply none planned failed.
    inr (cut_completes job o f d s old new (entry d in_old) (told s in_supply) none planned))
