-- What the turns and the commits of a run ask for, of what was loaded and cut.
use Rattle.std.proofs.Common.{◌≡◌, ℕ, ◌+◌, ◌<◌, ◌≤◌, ◌^◌, true, not, nat_le, List, [], ◌∷◌, ◌++◌}
use Rattle.std.proofs.Common.{length, map, flat_map, Option, Some, None, IfSome, IsSome, refl, sym, ap, ap₂}
use Rattle.std.proofs.Common.{subst, ◌∙◌, length-append, arith}
use Rattle.std.specs.List.{Contains}
use Rattle.std.proofs.lemmas.Bool.{and_parts, leb-true}
use Rattle.std.proofs.lemmas.List.{length-map}
use Rattle.std.proofs.lemmas.List.Filters.{length-filter_both}
use Rattle.std.proofs.lemmas.List.Sums.{length-filter, sum_by-cons}
use Rattle.gob_bytes.specs.Escapes.{escape_of}
use Rattle.gob_bytes.specs.Paths.{sequence_name, staging}
use Rattle.gob_bytes.specs.Tables.{Table}
use Rattle.gob_device.specs.Disk.{Along, Disk}
use Rattle.gob_device.specs.Supply.{Supply}
use Rattle.gob_device.proofs.Trail.{along_last}
use Rattle.gob_plan.specs.declared.plan.Limits.{Limits}
use Rattle.gob_plan.specs.declared.plan.Plan.{Plan}
use Rattle.gob_plan.specs.declared.units.Unit.{Unit as WorkUnit}
use Rattle.gob_plan.specs.declared.units.UnitResult.{UnitResult}
use Rattle.gob_plan.specs.declared.units.UnitResult.TheVariants as unit_result
use Rattle.gob_meaning.specs.Job.{Job}
use Rattle.gob_meaning.specs.Plans.{IsFitting, max_branches}
use Rattle.gob_jobs.specs.Laws.{IsJob}
use Rattle.gob_jobs.specs.Pipelines.{IsPipeline, Setting, setting_line}
use Rattle.gob_ledger.specs.Marks.{Marks}
use Rattle.gob_ledger.specs.Spelling.{IsKeptPipeline, Proper}
use Rattle.gob_ledger.specs.State.{State, empty_state}
use Rattle.gob_ledger.specs.UnitLaws.{new_count}
use Rattle.gob_ledger.specs.Units.{UnitsFit, range_count}
use Rattle.gob_ledger.proofs.Losing.{empty_proper, listed_held}
use Rattle.gob_recovery.specs.Commits.{OnlyBelow}
use Rattle.gob_recovery.specs.Sequence.{is_file_name}
use Rattle.gob_recovery.proofs.Again.{not_staged}
use Rattle.gob_recovery.proofs.Commits.{below_same}
use Rattle.gob_cut.specs.Rounds.{owed_unit_of, owed_units_of}
use Rattle.gob_cut.specs.Units.{AreProper, UnitsAre, kept_of}
use Rattle.gob_cut.specs.declared.run_units.Cut.{Cut}
use Rattle.gob_segments.specs.Loading.{LoadedFits}
use Rattle.gob_segments.specs.declared.change.Loaded.{Loaded}
use Rattle.gob_task.specs.Turn.{TurnRulesValue}
use Rattle.gob_turns.specs.Asked.{AreHeld, IsWorkedBy, MayHaveTurns}
use Rattle.gob_turns.specs.Taken as turns
use Rattle.gob_turns.specs.Taken.{AreCommittable}
use Rattle.gob_commit.specs.Staged as commits
use Rattle.gob_commit.specs.Staged.{AreReadyToMove, CanCommit, HasRules, NamesFit, Pair, state_or}
use Rattle.gob_commit.specs.declared.rules.CommitRules.{CommitRules}
use Rattle.gob_run.specs.Cutting.{CutFits, CutIsTold, parts_of}
use Rattle.gob_run.specs.Entry.{most_ranges}

-- ---- what was loaded

-- the marks of what was loaded can be kept
pub proper_parts : (o : Option State) → IfSome o Proper → AreProper (parts_of o)
proper_parts None proper = λ part m at. absurd (let no : None ≡ Some m = at in cc)
proper_parts (Some s) proper = proper.parts

-- no state has the partitions of the empty one
parts_same : (branches : ℕ) (o : Option State) → parts_of o ≡ (state_or branches o).parts
parts_same branches None = refl
parts_same branches (Some s) = refl

-- ---- how many units there are

owed_few : (kept : Table ℕ) (parts : Table Marks) → length (owed_units_of kept parts) ≤ range_count parts
owed_few kept [] = omega arith
owed_few kept (e ∷ es) =
    let later = owed_few kept es in
    let both = length-append (map (owed_unit_of kept e.0) e.1.owed) (owed_units_of kept es) in
    let here = length-map e.1.owed (owed_unit_of kept e.0) in
    let sum = sum_by-cons (λ (d : List ℕ × Marks). length d.1.finished + length d.1.owed) e es in
    omega (arith, later, both, here, sum)

few_units : (parts : Table Marks) (limits : Limits) (cut : Cut) → UnitsAre parts limits cut
    → range_count parts + new_count cut.units ≤ most_ranges → length cut.units < 2 ^ 32
few_units parts limits cut are room =
    let owed = owed_few (kept_of limits are.listing) parts in
    let whole = length-filter_both (λ (u : WorkUnit). u.fresh) (λ (u : WorkUnit). not u.fresh) (λ u. refl) cut.units in
    let fresh = length-filter (λ (u : WorkUnit). u.fresh) cut.units in
    omega (arith, owed, whole, fresh, ap length are.owed, room)

-- ---- the turns

-- by what the tasks of a job work
abbrev pub rules_of : Job → TurnRulesValue
rules_of job = record { job = job.name; plan = job.plan; piece = job.turns.piece; max_retries = job.max_retries }

-- how many branches a plan has
pub branches_within : (plan : Plan) → IsFitting plan → (1 ≤ length plan.branches) × (length plan.branches ≤ 8)
branches_within plan fits =
    let both = and_parts (nat_le 1 plan.fork.branches) (nat_le plan.fork.branches max_branches) fits.some_branches in
    let some : 1 ≤ plan.fork.branches = leb-true 1 plan.fork.branches both.0 in
    let few : plan.fork.branches ≤ 8 = leb-true plan.fork.branches 8 both.1 in
    (omega (arith, some, fits.as_many_branches), omega (arith, few, fits.as_many_branches))

pub may_have_turns : (job : Job) (parts : Table Marks) (old : Option Supply) (cut : Cut) → IsJob job.name job
    → is_file_name job.name ≡ true → AreProper parts → CutFits parts job.limits old cut
    → MayHaveTurns (rules_of job) job.turns cut.units
may_have_turns job parts old cut right named proper fits = record {
  named = named;
  retries = let most = right.ranges.max_retries in omega (arith, most);
  branches = (branches_within job.plan right.fitting).1;
  slots = let some = right.ranges.slots.0 in omega (arith, some);
  schedule = let some = right.ranges.turns.0 in omega (arith, some);
  some = let some = right.ranges.piece.0 in omega (arith, some);
  piece = refl;
  few = few_units parts job.limits cut fits.are fits.room;
  once = fits.are.fit.once;
  proper = fits.are.proper proper;
  pullable = λ u there listed. let p = fits.are.proper proper u there in record {
    listed = listed;
    named = p.named;
    bytes = fits.are.some u there;
    end = p.small;
  };
}

pub is_worked : (job : Job) → IsWorkedBy (rules_of job) job.turns job
is_worked job = record { name = refl; plan = refl; by_turns = refl; retries = refl }

-- over a source that tells, it holds all bytes of the units
pub are_held : (o : Option State) (limits : Limits) (cut : Cut) (s : Supply) → IfSome o Proper
    → CutIsTold (parts_of o) limits cut s → AreHeld s.held cut.units
are_held None limits cut s proper told = λ u there listed.
    let first = empty_proper 1 (omega arith) (omega arith) in
    listed_held (empty_state 1) s.held limits u first.tiled first.names told.rising told.unshrunk
    (subst (λ (us : List WorkUnit). Contains us u) told.units there) listed
are_held (Some t) limits cut s proper told = λ u there listed.
    listed_held t s.held limits u proper.tiled proper.names told.rising told.unshrunk
    (subst (λ (us : List WorkUnit). Contains us u) told.units there) listed

-- ---- the commits

longer : (front : List ℕ) (x : ℕ) (back : List ℕ) → 1 ≤ length (front ++ x ∷ back)
longer front x back = let both = length-append front (x ∷ back) in omega (arith, both)

lines_enough : (settings : List Setting) → length settings ≤ length (flat_map setting_line settings)
lines_enough [] = omega arith
lines_enough (s ∷ ss) =
    let later = lines_enough ss in
    let both : length (flat_map setting_line (s ∷ ss)) ≡ length (setting_line s) + length (flat_map setting_line ss) =
    length-append (setting_line s) (flat_map setting_line ss) in
    let line : 1 ≤ length (setting_line s) = longer (s.0 ++ 61 ∷ escape_of s.1) 10 [] in
    omega (arith, later, both, line)

-- a pipeline text whose length fits can be kept
pub kept_pipeline : (text : List ℕ) → length text < 2 ^ 64 → IsPipeline text → IsKeptPipeline text
kept_pipeline text small told =
    let enough = lines_enough told.0 in
    (told.0, told.1, told.2, omega (arith, small, enough, ap length told.2))

-- the pairs of a unit are told in two ways
pub one_pairs : (r : UnitResult) → turns.moves_in r ≡ commits.pairs_in r
one_pairs (unit_result.Good counts warnings staged) = refl
one_pairs (unit_result.Failed cause) = refl

pub same_pairs : (results : List UnitResult) → turns.all_moves results ≡ commits.all_pairs results
same_pairs [] = refl
same_pairs (r ∷ rs) = ap₂ (λ (xs ys : List Pair). xs ++ ys) (one_pairs r) (same_pairs rs)

names_fit : (job : List ℕ) (units : List WorkUnit) (results : List UnitResult) (disk : Option Disk)
    → AreCommittable job units results disk → NamesFit job (commits.all_pairs results)
names_fit job units results disk can =
    subst (NamesFit job) (same_pairs results) (record {
      fits = can.moves;
      apart = λ p there. (can.names p there).other;
      published = λ p there. (can.names p there).published;
    })

pub can_commit : (job : Job) (rules : CommitRules) (l : Loaded) (old : Option Supply) (cut : Cut)
    (results : List UnitResult) (disk : Option Disk) → HasRules job rules → IsKeptPipeline rules.pipeline.now
    → IsJob job.name job → is_file_name job.name ≡ true → LoadedFits l → CutFits (parts_of l.state) job.limits old cut
    → AreCommittable job.name cut.units results disk → CanCommit rules l cut.units results
can_commit job rules l old cut results disk has kept right named loaded fits can =
    let within = branches_within job.plan right.fitting in
    record {
      job = sym (ap is_file_name has.name) ∙ named;
      branches = subst (λ n. (1 ≤ n) × (n ≤ 8)) has.branches within;
      loaded = loaded;
      can = record {
        pipeline = kept;
        counted = can.number;
        fits = subst (λ (parts : Table Marks). UnitsFit parts cut.units) (parts_same rules.branches l.state)
            fits.are.fit;
        kept = record { proper = fits.are.proper (proper_parts l.state loaded.proper); counted = can.counted };
      };
      names = subst (λ (name : List ℕ). NamesFit name (commits.all_pairs results)) has.name
          (names_fit job.name cut.units results disk can);
    }

-- behind the turns no sequence is open, and what is to be moved is there
pub are_there : (job : List ℕ) (results : List UnitResult) (old now : Option Disk)
    → IfSome old (λ d. d.files (sequence_name job) ≡ None) → Along (OnlyBelow (staging job)) old now
    → IfSome now (λ d. (p : Pair) → Contains (turns.all_moves results) p → IsSome (d.files p.0))
    → IfSome now (λ d. AreReadyToMove job (commits.all_pairs results) d.files)
are_there job results None None closed along there = tt
are_there job results None (Some e) closed along there = absurd along.told
are_there job results (Some d) None closed along there = tt
are_there job results (Some d) (Some e) closed along there =
    let below = along_last (OnlyBelow (staging job)) (below_same (staging job)) d e along in
    subst (λ (ps : List Pair). AreReadyToMove job ps e.files) (same_pairs results)
    (record { closed = below (sequence_name job) (not_staged job) ∙ closed; there = there })
