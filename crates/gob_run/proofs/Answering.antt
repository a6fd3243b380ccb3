-- A run behind its work: all that it answers follows of how it began, what was cut, and what its turns and commits did.
use Rattle.std.proofs.Common.{◌≡◌, ◌⊎◌, inl, inr, ℕ, ◌+◌, ◌*◌, ◌≤◌, List, [], refl, sym, ap, subst, ◌∙◌}
use Rattle.std.proofs.Common.{Some, None}
use Rattle.std.proofs.Common.{arith, IfOk, IfErr, IfSome, length}
use Rattle.std.proofs.lemmas.Option.{same_Some}
use Rattle.std.specs.declared.option.Option.{Option}
use Rattle.std.specs.declared.result.Result.TheVariants.{Ok, Err}
use Rattle.gob_bytes.specs.Paths.{under}
use Rattle.gob_device.specs.Causes.{Rose, RoseBy}
use Rattle.gob_device.specs.Disk.{Disk}
use Rattle.gob_device.specs.Supply.{Supply, listing_of, with_pulls}
use Rattle.gob_device.proofs.Causes.{rose_after}
use Rattle.gob_device.proofs.Trail.{along_then}
use Rattle.gob_meaning.specs.Job.{Job}
use Rattle.gob_ledger.specs.Turns.{pulls_in, turns_of, verdicts_of}
use Rattle.gob_ledger.specs.Units.{first_shrunk, new_units, range_count}
use Rattle.gob_ledger.specs.UnitLaws.{new_count}
use Rattle.gob_recovery.specs.Commits.{OnlyBelow}
use Rattle.gob_recovery.proofs.Settled.{settled_is}
use Rattle.gob_history.specs.Runs.{run_units, state_or_empty}
use Rattle.gob_cut.specs.declared.run_units.Cut.{Cut}
use Rattle.gob_seq.proofs.Trails.{maps_both}
use Rattle.gob_segments.specs.declared.change.Loaded.{Loaded}
use Rattle.gob_state.specs.declared.next.Outcome.{Outcome}
use Rattle.gob_turns.specs.Taken.{FailuresRose, HasPulled, given_up_in}
use Rattle.gob_run.specs.Answers.{Answer, FaultCaused, RunAnswered, RunIsDone}
use Rattle.gob_run.specs.Answers.{ToldFirst}
use Rattle.gob_run.specs.Cutting.{CutFits, parts_of}
use Rattle.gob_run.specs.Entry.{SettledEntry, IsBroken, OnlySettled, Refused, broken, full, shrunk}
use Rattle.gob_run.specs.Working.{WorkIsDone, WorkStops, Worked}
use Rattle.gob_run.specs.World.{WorldGoesOn, World}
use Rattle.gob_run.specs.declared.fault.RunFault.{RunFault}
use Rattle.gob_run.specs.declared.fault.RunFault.TheVariants.{Damaged, Shrunk, Full, SourceFault, VolumeFault, Memory}
use Rattle.gob_run.proofs.Began.{Began, began_of, entry_of, found_is_one, not_broken, only_settled, parts_same}
use Rattle.gob_run.proofs.Began.{settled_to}
use Rattle.gob_run.proofs.Counting.{new_count_told}
use Rattle.gob_run.proofs.Settled.{undamaged}
use Rattle.gob_run.proofs.Trailing.{IsUnderway, TellsCut, cut_told, filed_of, left_of, published_of, trail_of}
use Rattle.gob_run.proofs.Trailing.{units_are}

-- what holds of each value that may be there
pub where_some : {X : Type 0} (o : Option X) (P : X → Type 0) → ((x : X) → o ≡ Some x → P x) → IfSome o P
where_some None P each = tt
where_some (Some x) P each = each x refl

-- ---- counts

pub rose_by_after : (n before between now : ℕ) → before ≤ between → RoseBy n between now → RoseBy n before now
rose_by_after n before between now later rose = omega (arith, later, rose)

pub goes_then : (a b c : World) → WorldGoesOn a b → WorldGoesOn b c → WorldGoesOn a c
goes_then a b c f g = record {
  source = omega (arith, f.source, g.source);
  planned = omega (arith, f.planned, g.planned);
  volume = omega (arith, f.volume, g.volume);
}

pub failures_after : (failing : List ℕ) (before between now : ℕ) → before ≤ between
    → FailuresRose failing between now → FailuresRose failing before now
failures_after failing before between now later f =
    record { rising = f.rising; counted = rose_by_after (length failing) before between now later f.counted }

-- ---- where devices tell

begun : (job : Job) (l : Loaded) (cut : Cut) (old mid : World) (d : Disk) → IsUnderway job l cut old mid
    → old.disk ≡ Some d → (c : Disk) × (mid.disk ≡ Some c) × Began job.name l d c
begun job l cut old mid d u is = began_of job.name l old.disk mid.disk d u.found
    (maps_both u.alike (maps_both u.names u.staged)) is

is_done : (job : Job) (failing : List ℕ) (l : Loaded) (cut : Cut) (out : Outcome) (old mid new : World)
    → IsUnderway job l cut old mid → WorkIsDone job failing l cut out mid new
    → (cut.units ≡ [] → new.disk ≡ mid.disk) → RunIsDone job failing out old new
is_done job failing l cut out old mid new u w still = record {
  found = l.state;
  entry = where_some old.disk (λ d. SettledEntry job.name d.files l.state)
      (λ d is. let b = begun job l cut old mid d u is in entry_of job.name l d b.0 b.2);
  fits = w.fits;
  told = λ s is.
      let told = w.told s (u.supply ∙ is) in
      let tells = cut_told job l cut old mid s u is in
      let same = ap (λ us. with_pulls (pulls_in (turns_of job s.held us failing)) s) (sym w.units) in (
        with_pulls (pulls_in (turns_of job s.held cut.units failing)) s,
        told.pulls,
        record {
          units = w.units ∙ units_are job l cut s tells;
          verdicts = told.verdicts ∙ ap (λ us. verdicts_of job s.held us failing) (units_are job l cut s tells);
          too_long = w.too_long ∙ tells.too_long;
          pulls = same;
        },
      );
  left = λ d s is_d is_s.
      let b = begun job l cut old mid d u is_d in
      let told = w.told s (u.supply ∙ is_s) in
      let went = w.left s (u.supply ∙ is_s) b.0 b.1 (settled_is job.name d.files b.0.files b.2.settles) b.2.kept
      b.2.keeps b.2.loaded in
      let t = with_pulls (pulls_in (turns_of job s.held cut.units failing)) s in (
        went.0,
        t,
        went.1,
        told.pulls,
        left_of job failing l cut out d b.0 went.0 s t (cut_told job l cut old mid s u is_s) b.2 w.units told.verdicts
            went.2,
      );
  filed = λ d is.
      let b = begun job l cut old mid d u is in
      let went = w.filed b.0 b.1 (settled_is job.name d.files b.0.files b.2.settles) b.2.kept b.2.keeps b.2.loaded in
      (went.0, went.1, filed_of job l out d b.0 went.0 b.2 went.2);
  gave_up = rose_by_after (given_up_in out.results * (job.max_retries + 1)) old.source_faults mid.source_faults
      new.source_faults u.goes_on.source w.gave_up;
  idle = λ none d is.
      let b = begun job l cut old mid d u is in
      (b.0, still (sym w.units ∙ none) ∙ b.1, settled_to job.name l d b.0 b.2);
}

-- ---- what was not to be refused

no_refusal : (job : Job) (l : Loaded) (cut : Cut) (supply : Option Supply) (d c : Disk) (s : Supply) (r : RunFault)
    → CutFits (parts_of l.state) job.limits supply cut → TellsCut job l cut s → Began job.name l d c
    → Refused job d s r → ⊥
no_refusal job l cut supply d c s (Damaged name) fits told b (broken _ is) = not_broken job.name l d c name b is
no_refusal job l cut supply d c s (Shrunk part next size) fits told b (shrunk o _ _ _ entry is) =
    let parts = ap (λ q. (state_or_empty job q).parts) (found_is_one job.name l d c o b entry)
    ∙ parts_same job l.state in
    let here : first_shrunk (parts_of l.state) (listing_of s.held) ≡ Some (part, size) =
    ap (λ p. first_shrunk p (listing_of s.held)) (sym parts) ∙ is.first in
    let none : None ≡ Some (part, size) = sym told.unshrunk ∙ here in cc
no_refusal job l cut supply d c s (Full ranges units) fits told b (full o _ _ entry is) =
    let parts = ap (λ q. (state_or_empty job q).parts) (found_is_one job.name l d c o b entry)
    ∙ parts_same job l.state in
    let stored : ranges ≡ range_count (parts_of l.state) = is.many.stored ∙ ap range_count parts in
    let fresh : units ≡ new_count cut.units =
    is.fresh ∙ ap (λ p. length (new_units p s.held job.limits)) parts
    ∙ sym (new_count_told (parts_of l.state) s.held job.limits) ∙ ap new_count (sym told.units) in
    omega (arith, stored, fresh, is.many.many, fits.room)
no_refusal job l cut supply d c s SourceFault fits told b is = elim is [ ]
no_refusal job l cut supply d c s VolumeFault fits told b is = elim is [ ]
no_refusal job l cut supply d c s Memory fits told b is = elim is [ ]

-- ---- the answer

caused : (job : Job) (f : RunFault) (old mid new : World) → WorldGoesOn old mid → WorkStops mid new f
    → FaultCaused job old new f
caused job (Damaged name) old mid new on stops = absurd stops
caused job (Shrunk part next size) old mid new on stops = absurd stops
caused job (Full ranges units) old mid new on stops = absurd stops
caused job SourceFault old mid new on stops = absurd stops
caused job VolumeFault old mid new on stops =
    rose_after old.volume_faults mid.volume_faults new.volume_faults on.volume stops
caused job Memory old mid new on stops = tt

caused_where : (job : Job) (a : Answer) (old mid new : World) → WorldGoesOn old mid → IfErr a (WorkStops mid new)
    → IfErr a (FaultCaused job old new)
caused_where job (Ok out) old mid new on stops = tt
caused_where job (Err f) old mid new on stops = caused job f old mid new on stops

done_where : (job : Job) (failing : List ℕ) (l : Loaded) (cut : Cut) (a : Answer) (old mid new : World)
    → IsUnderway job l cut old mid → IfOk a (λ out. WorkIsDone job failing l cut out mid new)
    → (cut.units ≡ [] → new.disk ≡ mid.disk) → IfOk a (λ out. RunIsDone job failing out old new)
done_where job failing l cut (Ok out) old mid new u w still = is_done job failing l cut out old mid new u w still
done_where job failing l cut (Err f) old mid new u w still = tt

-- only a volume that failed, or want of memory, stops the work
ends : (a : Answer) (old mid new : World) → WorldGoesOn old mid → IfErr a (WorkStops mid new)
    → (Rose old.volume_faults new.volume_faults → ⊥) → ((out : Outcome) × (a ≡ Ok out)) ⊎ (a ≡ Err Memory)
ends (Ok out) old mid new on stops still = inl (out, refl)
ends (Err (Damaged name)) old mid new on stops still = absurd stops
ends (Err (Shrunk part next size)) old mid new on stops still = absurd stops
ends (Err (Full ranges units)) old mid new on stops still = absurd stops
ends (Err SourceFault) old mid new on stops still = absurd stops
ends (Err VolumeFault) old mid new on stops still =
    absurd (still (rose_after old.volume_faults mid.volume_faults new.volume_faults on.volume stops))
ends (Err Memory) old mid new on stops still = inr refl

pub answered_behind_work : (job : Job) (failing : List ℕ) (l : Loaded) (cut : Cut) (a : Answer) (old mid new : World)
    → IsUnderway job l cut old mid → Worked job failing l cut a mid new
    → (cut.units ≡ [] → new.disk ≡ mid.disk) → RunAnswered job failing a old new
answered_behind_work job failing l cut a old mid new u w still = record {
  done = done_where job failing l cut a old mid new u w.done still;
  trail = λ d s is_d is_s.
      let b = begun job l cut old mid d u is_d in
      let p = w.pulls s (u.supply ∙ is_s) in
      let went = w.along s (u.supply ∙ is_s) b.0 b.1 (settled_is job.name d.files b.0.files b.2.settles) b.2.kept
      b.2.keeps b.2.loaded in (
        went.0,
        with_pulls p.pulls s,
        went.1,
        p.supply,
        trail_of job failing l cut d b.0 went.0 s (with_pulls p.pulls s) u.right (cut_told job l cut old mid s u is_s)
            b.2 went.2,
      );
  published = λ d is.
      let b = begun job l cut old mid d u is in
      let went = w.filed b.0 b.1 (settled_is job.name d.files b.0.files b.2.settles) b.2.kept b.2.keeps b.2.loaded in
      (went.0, went.1, published_of job l cut old.supply d b.0 went.0 u.fits b.2 went.2);
  pulls = λ s is.
      let p = w.pulls s (u.supply ∙ is) in
      let units = units_are job l cut s (cut_told job l cut old mid s u is) in (
        with_pulls p.pulls s,
        p.supply,
        record {
          found = l.state;
          pulls = p.pulls;
          made = refl;
          rest = p.rest;
          turns = ap (λ us. pulls_in (turns_of job s.held us failing)) (sym units) ∙ p.turns;
        },
      );
  own_pulls = λ d s is_d is_s.
      let b = begun job l cut old mid d u is_d in
      let p = w.pulls s (u.supply ∙ is_s) in
      let units = units_are job l cut s (cut_told job l cut old mid s u is_s) in
      let went = w.along s (u.supply ∙ is_s) b.0 b.1 (settled_is job.name d.files b.0.files b.2.settles) b.2.kept
      b.2.keeps b.2.loaded in (
        went.0,
        with_pulls p.pulls s,
        went.1,
        p.supply,
        record {
          pulls = p.pulls;
          made = refl;
          front = λ o entry. (
            p.rest,
            ap (λ q. pulls_in (turns_of job s.held (run_units job s.held q) failing))
                (found_is_one job.name l d b.0 o b.2 entry)
                ∙ ap (λ us. pulls_in (turns_of job s.held us failing)) (sym units) ∙ p.turns,
          );
        },
      );
  idle = λ d s is_d is_s.
      let b = begun job l cut old mid d u is_d in
      let p = w.pulls s (u.supply ∙ is_s) in
      let went = w.along s (u.supply ∙ is_s) b.0 b.1 (settled_is job.name d.files b.0.files b.2.settles) b.2.kept
      b.2.keeps b.2.loaded in (
        went.0,
        with_pulls p.pulls s,
        went.1,
        p.supply,
        λ owes.
            let none : cut.units ≡ [] =
            units_are job l cut s (cut_told job l cut old mid s u is_s)
            ∙ owes l.state (entry_of job.name l d b.0 b.2) in
            let same : went.0 ≡ b.0 = same_Some went.0 b.0 (sym went.1 ∙ still none ∙ b.1) in
            subst (OnlySettled job.name d) (sym same) (only_settled job.name l d b.0 b.2),
      );
  damaged = λ d is.
      let b = begun job l cut old mid d u is in
      let went = w.filed b.0 b.1 (settled_is job.name d.files b.0.files b.2.settles) b.2.kept b.2.keeps b.2.loaded in
      (went.0, went.1, undamaged job.name d went.0 b.0.files b.2.settles);
  pulled = subst (λ o. HasPulled o new.supply) u.supply w.pulled;
  failed = failures_after failing old.source_faults mid.source_faults new.source_faults u.goes_on.source w.failed;
  caused = caused_where job a old mid new u.goes_on w.stopped;
  due = record {
    broken = where_some old.disk (λ d. (name : List ℕ) → IsBroken job.name d.files name → ToldFirst a (Damaged name))
        (λ d is name broken.
        let b = begun job l cut old mid d u is in absurd (not_broken job.name l d b.0 name b.2 broken));
    refused = λ d s r is_d is_s refused.
        let b = begun job l cut old mid d u is_d in
        absurd (no_refusal job l cut old.supply d b.0 s r u.fits (cut_told job l cut old mid s u is_s) b.2 refused);
  };
  completes = λ d s is_d is_s none no_plan no_volume. ends a old mid new u.goes_on w.stopped no_volume;
  below = along_then (OnlyBelow (under job.name [])) (λ m n k f g name out. g name out ∙ f name out) u.below w.below;
  goes_on = goes_then old mid new u.goes_on w.goes_on;
}
