-- A turn of one unit leaves all others as they stand.
use Rattle.std.proofs.Common.{◌≡◌, ◌≢◌, ⊎_elim, ℕ, ◌^◌, ◌<◌, ◌-◌, true, List, refl, sym, ap, subst, ◌∙◌, Some, None}
use Rattle.std.proofs.Common.{IfSome, option_map, Bool, false, length}
use Rattle.std.specs.declared.option.Option.{Option}
use Rattle.gob_bytes.specs.Paths.{attempt_folder, begins_with, staging}
use Rattle.gob_bytes.proofs.Paths.{front_more}
use Rattle.gob_device.specs.Disk.{Along, Disk, Files}
use Rattle.gob_device.specs.Supply.{Held, Pull, Supply, bytes_from, with_pull}
use Rattle.gob_device.proofs.Trail.{along_last, along_map}
use Rattle.gob_meaning.specs.Fold.{Delivery}
use Rattle.gob_plan.specs.declared.plan.Plan.{Plan}
use Rattle.gob_plan.specs.declared.units.StagedFile.{StagedFile}
use Rattle.gob_plan.specs.declared.units.Unit.{Unit as WorkUnit}
use Rattle.gob_plan.specs.declared.units.UnitResult.TheVariants as unit_result
use Rattle.gob_recovery.specs.Commits.{OnlyBelow}
use Rattle.gob_stage.specs.Laws.{SameBelow}
use Rattle.gob_stage.proofs.Folders.{attempts_apart, attempts_staged}
use Rattle.gob_stage.proofs.Held.{staged_same}
use Rattle.gob_task.specs.Finish.{AreStagedFor, HoldCleanly}
use Rattle.gob_task.specs.Task.{HoldsSent, TaskValue, unit_sends}
use Rattle.gob_task.specs.Turn.{Devices, TurnRulesValue}
use Rattle.gob_turns.specs.declared.progress.Progress.{Progress}
use Rattle.gob_turns.specs.declared.progress.Progress.TheVariants.{Waits, Runs, Ended}
use Rattle.gob_turns.specs.Standing.{StandsAs, is_open}
use Rattle.gob_turns.specs.Underway.{AtMostOnePull, KeepsOthers}

-- ---- the devices

pub supply_stays : (P : Held → Type 0) (old new : Option Supply) → AtMostOnePull old new → IfSome old (λ s. P s.held)
    → IfSome new (λ s. P s.held)
supply_stays P old new same told = ⊎_elim
    (λ e. subst (λ o. IfSome o (λ s. P s.held)) (sym e) told)
    (λ e. subst (λ o. IfSome o (λ s. P s.held)) (sym e.1) (pulled e.0 old told))
    same
  where
    pulled : (p : Pull) (o : Option Supply) → IfSome o (λ s. P s.held)
        → IfSome (option_map (with_pull p) o) (λ s. P s.held)
    pulled p None told = tt
    pulled p (Some s) told = told

pub disk_stays : (folder : List ℕ) (P : Files → Type 0) (old new : Option Disk) → Along (OnlyBelow folder) old new
    → ((m n : Files) → OnlyBelow folder m n → P m → P n) → IfSome old (λ d. P d.files) → IfSome new (λ d. P d.files)
disk_stays folder P old None along keeps told = tt
disk_stays folder P None (Some e) along keeps told = absurd along.told
disk_stays folder P (Some d) (Some e) along keeps told =
    keeps d.files e.files (along_last (OnlyBelow folder) (λ m name off. refl) d e along) told

-- what an attempt changes is staged
pub attempt_is_staged : (job : List ℕ) (unit attempt : ℕ) {old new : Option Disk}
    → Along (OnlyBelow (attempt_folder job unit attempt)) old new → Along (OnlyBelow (staging job)) old new
attempt_is_staged job unit attempt = along_map (OnlyBelow (attempt_folder job unit attempt)) (OnlyBelow (staging job))
    (λ m n only name off. only name (outside name off))
  where
    outside : (name : List ℕ) → begins_with (staging job) name ≡ false
        → begins_with (attempt_folder job unit attempt) name ≡ false
    outside name off = cases (begins_with (attempt_folder job unit attempt) name) refl
      where
        cases : (b : Bool) → begins_with (attempt_folder job unit attempt) name ≡ b → b ≡ false
        cases false is = refl
        cases true is = let no : true ≡ false = sym (attempts_staged job unit attempt name is) ∙ off in cc

-- ---- one unit

sent_stays : (plan : Plan) (t : TaskValue) (fed : List ℕ) (m n : Files) → SameBelow t.staged.folder m n
    → HoldsSent plan t fed m → HoldsSent plan t fed n
sent_stays plan t fed m n same h = record {
  contents = h.contents;
  sent = h.sent;
  holds = staged_same t.staged h.contents m n same h.holds;
}

clean_stays : (job : List ℕ) (plan : Plan) (u : WorkUnit) (folder : List ℕ) (given : List Delivery)
    (files : List StagedFile) (m n : Files) → AreStagedFor job plan u folder given files → SameBelow folder m n
    → HoldCleanly plan u job given files m → HoldCleanly plan u job given files n
clean_stays job plan u folder given files m n staged same holds f t here sends called =
    let its = staged.each f here in
    let below : begins_with folder f.from ≡ true =
    subst (λ name. begins_with folder name ≡ true) (sym its.staged) (front_more folder _) in
    same f.from below ∙ holds f t here sends called

pub stands_still : (rules : TurnRulesValue) (u : WorkUnit) (i j : ℕ) (p : Progress) (old new : Devices)
    → i < 2 ^ 32 → j < 2 ^ 32 → j ≢ i → KeepsOthers rules j old new
    → StandsAs rules u i old.supply old.disk p → StandsAs rules u i new.supply new.disk p
stands_still rules u i j Waits old new small other apart keeps stands = stands
stands_still rules u i j (Runs b) old new small other apart keeps stands =
    let t : TaskValue = b.value in
    let folder : t.staged.folder ≡ attempt_folder rules.job i t.failures =
    stands.stands.was.folder ∙ ap (λ k. attempt_folder rules.job k t.failures) stands.index in
    let away = attempts_apart rules.job j keeps.failures i t.failures other keeps.small small
    stands.stands.was.small.1 (λ e. absurd (apart e)) in
    record {
      fed = stands.fed;
      unit = stands.unit;
      index = stands.index;
      few = stands.few;
      stands = stands.stands;
      bytes = supply_stays (λ held. stands.fed ≡ bytes_from held u.part u.lo (length stands.fed))
          old.supply new.supply keeps.pulls stands.bytes;
      holds = disk_stays (attempt_folder rules.job j keeps.failures) (HoldsSent rules.plan t stands.fed) old.disk
          new.disk keeps.below
          (λ m n only h. sent_stays rules.plan t stands.fed m n
          (subst (λ f. SameBelow f m n) (sym folder) (away.maps m n only)) h)
          stands.holds;
    }
stands_still rules u i j (Ended (unit_result.Failed cause)) old new small other apart keeps stands = tt
stands_still rules u i j (Ended (unit_result.Good counts warnings files)) old new small other apart keeps stands =
    let folder : List ℕ = attempt_folder rules.job i stands.failures in
    let away = attempts_apart rules.job j keeps.failures i stands.failures other keeps.small small stands.small
    (λ e. absurd (apart e)) in
    record {
      bytes = stands.bytes;
      failures = stands.failures;
      small = stands.small;
      whole = stands.whole;
      verdict = stands.verdict;
      told = supply_stays (λ held. stands.bytes ≡ bytes_from held u.part u.lo (u.hi - u.lo))
          old.supply new.supply keeps.pulls stands.told;
      files = stands.files;
      hold = disk_stays (attempt_folder rules.job j keeps.failures)
          (HoldCleanly rules.plan u rules.job (unit_sends rules.plan u stands.bytes) files) old.disk new.disk
          keeps.below
          (λ m n only h. clean_stays rules.job rules.plan u folder (unit_sends rules.plan u stands.bytes) files m n
          stands.files (away.maps m n only) h)
          stands.hold;
    }

-- a unit that may have a turn is listed
pub open_listed : (rules : TurnRulesValue) (u : WorkUnit) (i : ℕ) (p : Progress) (at : Devices) → is_open p ≡ true
    → StandsAs rules u i at.supply at.disk p → u.listed ≡ true
open_listed rules u i Waits at goes stands = stands
open_listed rules u i (Runs t) at goes stands =
    subst (λ (v : WorkUnit). v.listed ≡ true) stands.unit stands.stands.was.pullable.listed
open_listed rules u i (Ended r) at goes stands = absurd (let no : false ≡ true = goes in cc)
