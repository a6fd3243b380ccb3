-- What is staged of a good unit is what it makes.
use Rattle.std.proofs.Common.{◌≡◌, ◌≢◌, ⊎_elim, ℕ, ◌-◌, true, false, List, [], ◌∷◌, refl, sym, ap, subst, ◌∙◌}
use Rattle.std.proofs.Common.{Some, None, Option, IfSome}
use Rattle.std.specs.List.{Contains}
use Rattle.gob_bytes.specs.Paths.{under}
use Rattle.gob_device.specs.Disk.{Disk, Files, clean}
use Rattle.gob_device.specs.Supply.{Held, Pull, Supply, bytes_from, with_pulls}
use Rattle.gob_plan.specs.declared.plan.TurnRules.{TurnRules}
use Rattle.gob_plan.specs.declared.units.StagedFile.{StagedFile}
use Rattle.gob_plan.specs.declared.units.Unit.{Unit as WorkUnit}
use Rattle.gob_plan.specs.declared.units.UnitResult.{UnitResult}
use Rattle.gob_plan.specs.declared.units.UnitResult.TheVariants as unit_result
use Rattle.gob_meaning.specs.Fold.{deliveries_of, sent_to, unit_fold}
use Rattle.gob_meaning.specs.Items.{Target}
use Rattle.gob_meaning.specs.Job.{Job}
use Rattle.gob_meaning.specs.Results.{verdict_of}
use Rattle.gob_ledger.specs.Expected.{IsPublished, bytes_of_range}
use Rattle.gob_ledger.specs.Next.{Judged, is_good}
use Rattle.gob_ledger.specs.Turns.{pulls_in, turns_of}
use Rattle.gob_ledger.specs.Units.{span_of}
use Rattle.gob_ledger.proofs.Members.{first_in, in_cases, in_map, map_in, none_in}
use Rattle.gob_history.specs.Laws.{StagedFor}
use Rattle.gob_state.specs.Committed.{verdict_in}
use Rattle.gob_sched.specs.CoreValue.{CoreValue}
use Rattle.gob_task.specs.Finish.{HoldCleanly, staged_in}
use Rattle.gob_task.specs.Task.{name_in, unit_sends}
use Rattle.gob_task.specs.Turn.{Devices, TurnRulesValue}
use Rattle.gob_turns.specs.declared.progress.Progress.{Progress}
use Rattle.gob_turns.specs.Asked.{AreHeld, IsWorkedBy}
use Rattle.gob_turns.specs.Standing.{HasResult, IsGoodUnit, results_in}
use Rattle.gob_turns.specs.Taken.{AllGiven, AllStaged, AreResults, moves_in}
use Rattle.gob_turns.specs.Underway.{AreUnderway}
use Rattle.gob_turns.proofs.Ending.{AllTold, HaveEnded, all_told}

abbrev pub pair_of : StagedFile → List ℕ × List ℕ
pair_of f = (f.from, f.to)

-- a result with files is good
pub good_result : (rules : TurnRulesValue) (u : WorkUnit) (i : ℕ) (supply : Option Supply) (disk : Option Disk)
    (r : UnitResult) → HasResult rules u i supply disk r → is_good (verdict_in r) ≡ true
    → IsGoodUnit rules u i r supply disk
good_result rules u i supply disk (unit_result.Good n ws files) is good = is
good_result rules u i supply disk (unit_result.Failed c) is good = absurd (let no : false ≡ true = good in cc)

-- where a unit has the bytes that it was given, its files are staged for what it makes
stages : (rules : TurnRulesValue) (job : Job) (held : Held) (u : WorkUnit) (i : ℕ) (r : UnitResult)
    (supply : Option Supply) (disk : Option Disk) (m : Files) → job.name ≡ rules.job → job.plan ≡ rules.plan
    → (unit : IsGoodUnit rules u i r supply disk) → unit.bytes ≡ bytes_of_range held u.part (span_of u)
    → HoldCleanly rules.plan u rules.job (unit_sends rules.plan u unit.bytes) (staged_in r) m
    → StagedFor job held ((u, verdict_in r) ∷ []) m (moves_in r)
stages rules job held u i r supply disk m name plan unit same holds = record { made = made; all = all }
  where
    j : Judged
    j = (u, verdict_in r)

    bytes : List ℕ
    bytes = unit.bytes

    Published : List ℕ → List ℕ → Type 0
    Published = IsPublished job.name job.plan held (j ∷ [])

    made : (p : List ℕ × List ℕ) → Contains (moves_in r) p
        → (content : List ℕ) × (m p.0 ≡ Some (clean content)) × Published p.1 content
    made p there =
        let found = in_map pair_of (staged_in r) p there in
        let f : StagedFile = found.0 in
        let its = unit.files.each f found.1 in
        let content : List ℕ = sent_to its.target (unit_sends rules.plan u bytes) in
        let back = sym plan in
        let from : m p.0 ≡ Some (clean content) =
        ap (λ (q : List ℕ × List ℕ). m q.0) (sym found.2)
        ∙ holds f its.target found.1 its.some its.published in
        let published : Published p.1 content = record {
          unit = j;
          of_units = first_in j [] j refl;
          path = name_in job.plan u its.target;
          made = record {
            target = its.target;
            sends = (λ k. sent_to its.target (deliveries_of (unit_fold (plan k) u.lo (sym same k))));
            some = its.some;
            called = refl;
          };
          called = ap (λ (q : List ℕ × List ℕ). q.1) (sym found.2)
              ∙ (its.published ∙ (λ k. under (sym name k) (name_in (back k) u its.target)));
        } in
        (content, from, published)

    all : (n content : List ℕ) → Published n content
        → (p : List ℕ × List ℕ) × Contains (moves_in r) p × (p.1 ≡ n) × (m p.0 ≡ Some (clean content))
    all n content published =
        let its : j ≡ published.unit =
        ⊎_elim (λ e. e) (λ none. none_in published.unit none) (in_cases j [] published.unit published.of_units) in
        let t : Target = published.made.target in
        let sends : sent_to t (unit_sends rules.plan u bytes) ≡ content =
        (λ k. sent_to t (deliveries_of (unit_fold (sym plan k) ((its k).0.lo)
        (bytes_here published.unit its k))))
        ∙ published.made.sends in
        let some : sent_to t (unit_sends rules.plan u bytes) ≢ [] = λ e. published.made.some (sym sends ∙ e) in
        let file = unit.files.all t some in
        let f : StagedFile = file.0 in
        let called : f.to ≡ n =
        file.2 ∙ ((λ k. under (sym name k) (name_in (sym plan k) ((its k).0) t))
        ∙ (ap (under job.name) published.made.called ∙ sym published.called)) in (
          pair_of f,
          map_in pair_of (staged_in r) f file.1,
          called,
          holds f t file.1 some file.2 ∙ ap (λ c. Some (clean c)) sends,
        )
      where
        bytes_here : (k : Judged) → j ≡ k → bytes ≡ bytes_of_range held k.0.part (span_of k.0)
        bytes_here k e = same ∙ ap (λ (x : Judged). bytes_of_range held x.0.part (span_of x.0)) e

-- ---- all good units

pub all_staged : (rules : TurnRulesValue) (turns : TurnRules) (units : List WorkUnit) (states : List Progress)
    (losses : List ℕ) (first now : Devices) (job : Job) (s : Supply) (pulls : List Pull)
    → job.name ≡ rules.job → job.plan ≡ rules.plan → HaveEnded rules turns units states losses first now
    → now.supply ≡ Some (with_pulls pulls s)
    → IfSome now.disk (λ d. AllStaged job s.held units (results_in states) d.files)
all_staged rules turns units states losses first now job s pulls name plan ended supply = told now.disk refl
  where
    staged_in_map : (d : Disk) → now.disk ≡ Some d → AllStaged job s.held units (results_in states) d.files
    staged_in_map d disk i u r of_unit of_result good =
        let unit = good_result rules u i now.supply now.disk r (ended.stand i u r of_unit of_result) good in
        let same : unit.bytes ≡ bytes_from s.held u.part u.lo (u.hi - u.lo) =
        subst (λ o. IfSome o (λ t. unit.bytes ≡ bytes_from t.held u.part u.lo (u.hi - u.lo))) supply unit.told in
        stages rules job s.held u i r now.supply now.disk d.files name plan unit same
        (subst (λ o. IfSome o (λ e. HoldCleanly rules.plan u rules.job (unit_sends rules.plan u unit.bytes)
        (staged_in r) e.files)) disk unit.hold)

    told : (o : Option Disk) → now.disk ≡ o → IfSome o (λ d. AllStaged job s.held units (results_in states) d.files)
    told None is = tt
    told (Some d) is = staged_in_map d is

pub all_given : (rules : TurnRulesValue) (turns : TurnRules) (units : List WorkUnit) (states : List Progress)
    (losses : List ℕ) (first now : Devices) (job : Job) → job.name ≡ rules.job → job.plan ≡ rules.plan
    → HaveEnded rules turns units states losses first now → AllGiven job units (results_in states) now.disk
all_given rules turns units states losses first now job name plan ended i u r of_unit of_result good =
    let unit = good_result rules u i now.supply now.disk r (ended.stand i u r of_unit of_result) good in
    record {
      bytes = unit.bytes;
      whole = unit.whole;
      verdict = unit.verdict ∙ ap (λ p. verdict_of p u unit.bytes) (sym plan);
      staged = held_there unit now.disk unit.hold;
    }
  where
    held_there : (unit : IsGoodUnit rules u i r now.supply now.disk) (o : Option Disk)
        → IfSome o (λ d. HoldCleanly rules.plan u rules.job (unit_sends rules.plan u unit.bytes) (staged_in r) d.files)
        → IfSome o (λ d. (held : Held) → bytes_of_range held u.part (span_of u) ≡ unit.bytes
        → StagedFor job held ((u, verdict_in r) ∷ []) d.files (moves_in r))
    held_there unit None holds = tt
    held_there unit (Some d) holds = λ held same.
        stages rules job held u i r now.supply now.disk d.files name plan unit (sym same) holds

pub are_results : (rules : TurnRulesValue) (turns : TurnRules) (units : List WorkUnit) (listed : List ℕ)
    (states : List Progress) (core : CoreValue) (k : ℕ) (losses : List ℕ) (first now : Devices)
    (results : List UnitResult) (job : Job) (s : Supply)
    → AreUnderway rules turns units listed states core k losses first now
    → HaveEnded rules turns units states losses first now → results ≡ results_in states
    → IsWorkedBy rules turns job → first.supply ≡ Some s → AreHeld s.held units
    → AreResults job s units losses results now.supply now.disk
are_results rules turns units listed states core k losses first now results job s under ended same works told held =
    let t = under.told job s works told held in
    let all : AllTold job s units losses (results_in states) now.supply =
    all_told rules turns units states k losses first now job s ended t in
    subst (λ rs. AreResults job s units losses rs now.supply now.disk) (sym same)
    (record {
      pulls = all.pulls;
      verdicts = all.verdicts;
      staged = all_staged rules turns units states losses first now job s (pulls_in (turns_of job s.held units losses))
          works.name works.plan ended all.pulls;
    })
