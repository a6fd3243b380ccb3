-- A run from a sound map leaves a sound one.
use Rattle.std.proofs.Common.{◌≡◌, ◌≢◌, ◌⊎◌, ◌↔◌, inl, inr, ⊎_elim, ℕ, zero, suc, ◌-◌, ◌≤◌, true, false, cond, ◌&&◌}
use Rattle.std.proofs.Common.{List, [], ◌∷◌, ◌++◌, map, length, take, drop, option_map, unwrap_or, refl, sym, ap, subst}
use Rattle.std.proofs.Common.{◌∙◌, Some, None, arith}
use Rattle.std.specs.declared.option.Option.{Option}
use Rattle.std.specs.List.{Contains, AllByRecursion, list_any, range_with_len, slice_get, zip, flat_map}
use Rattle.std.specs.Str.{bytes_eq}
use Rattle.std.proofs.lemmas.Bool.{and_from}
use Rattle.gob_bytes.specs.Tables.{at_name, names_of, IsInByteOrder}
use Rattle.gob_bytes.proofs.Tables.{name_itself}
use Rattle.gob_bytes.proofs.Paths.{cancel_under}
use Rattle.gob_device.specs.Disk.{Files, File, clean, contents_at}
use Rattle.gob_device.specs.Supply.{Held, bytes_from}
use Rattle.gob_plan.specs.declared.units.Unit.{Unit as WorkUnit}
use Rattle.gob_plan.specs.declared.plan.CommitPolicy.{CommitPolicy}
use Rattle.gob_meaning.specs.Fold.{unit_fold, counts_of}
use Rattle.gob_meaning.specs.Job.{Job}
use Rattle.gob_meaning.specs.Laws.{IsRange}
use Rattle.gob_meaning.specs.Results.{Verdict}
use Rattle.gob_meaning.proofs.Apart.{names_apart}
use Rattle.gob_meaning.proofs.Placed.{sent_is_placed}
use Rattle.gob_meaning.proofs.Fits.{bare_fold, bare_counts}
use Rattle.gob_ledger.specs.Marks.{Marks, Span, Done, done_spans}
use Rattle.gob_ledger.specs.State.{State, marks_at, no_branch_counts, TiledState}
use Rattle.gob_ledger.specs.Units.{span_of, next_of, fresh_in, UnitsFit}
use Rattle.gob_ledger.specs.Next.{Judged, add_unit, fold_units, with_pipeline, pipeline_index, state_with_commit_or}
use Rattle.gob_ledger.specs.Next.{allowed_units, counts_in, next_state}
use Rattle.gob_ledger.specs.Archive.{Agrees, IsWithin}
use Rattle.gob_ledger.specs.Expected.{IsMade, IsExpected, IsPublished, bytes_of_range}
use Rattle.gob_ledger.specs.Spelling.{Proper, ProperPart}
use Rattle.gob_ledger.specs.Totals.{SameCounts, counted_in, span_counts}
use Rattle.gob_ledger.specs.Laws.{Lies, EachApart}
use Rattle.gob_ledger.proofs.Datasets.{grouped}
use Rattle.gob_ledger.proofs.Grouping.{zip_parts, verdicts_in, others_fit, group_fits}
use Rattle.gob_ledger.proofs.Members.{none_in, first_in, later_in, in_cases, in_filter, in_map, map_in, filter_in}
use Rattle.gob_ledger.proofs.Ranges.{done_below, owed_free, order_members, times, times_some, inside}
use Rattle.gob_ledger.proofs.Changes.{units_in, units_of_zip, adds-pipelines, finishes-pipelines, with-pipelines}
use Rattle.gob_ledger.proofs.Changes.{next_rising}
use Rattle.gob_ledger.proofs.Tiling.{tiles}
use Rattle.gob_ledger.proofs.Expecting.{HasDone, done_by, done_has, next_done, expects}
use Rattle.gob_ledger.proofs.Cutting.{units_fit, units_lie, fresh_listed, follow_above, next_at}
use Rattle.gob_ledger.proofs.Within.{stays_within}
use Rattle.gob_ledger.proofs.Sums.{totals_stay}
use Rattle.gob_history.specs.Sound.{Stores, PublishesExactly, SoundIn, IsDurable}
use Rattle.gob_history.specs.Runs.{GroupsLeft, state_or_empty, run_units, run_verdicts, run_groups, done_in}
use Rattle.gob_history.specs.Runs.{stored_where, next_of_group, after_group, after_groups, chain_from}
use Rattle.gob_history.specs.Laws.{RunLeavesSound, AllDurable, BeginsWith, LeftAlong, GroupsStayDurable}
use Rattle.gob_history.proofs.Bytes.{text_bytes}
use Rattle.gob_history.proofs.Good.{verdicts_length, allowed_is_good, good_counts_are}
use Rattle.gob_history.proofs.Rules.{made_with, made_without, few_branches}
use Rattle.gob_history.proofs.Kept.{stored_proper}
use Rattle.gob_history.proofs.Kept.{stored_proper}
use Rattle.gob_history.proofs.Composes.{in_either, in_front, in_back}
use Rattle.gob_history.proofs.Stands.{sound_alike}
use Rattle.gob_jobs.specs.Plans.{plan_of, TellsPlan}
use Rattle.gob_meaning.specs.Plans.{without_rules}

-- what is known of the state that a run begins with
record Base (job : List ℕ) (archive : Held) (s : State) (settled : Files) : Type 0 where
  tiled : TiledState s
  rising : IsInByteOrder (names_of s.parts)
  plans : AllByRecursion (λ p. plan_of p ≢ None) s.pipelines
  within : IsWithin archive s
  totals : SameCounts s.totals (counted_in s archive)
  files : PublishesExactly job archive s settled
  parts : (part : List ℕ) (m : Marks) → marks_at s part ≡ Some m → ProperPart part m

nothing_at : (ks : List ℕ) (i : ℕ) → unwrap_or (slice_get (map (λ _. no_branch_counts) ks) i) no_branch_counts
    ≡ no_branch_counts
nothing_at [] i = refl
nothing_at (k ∷ ks) zero = refl
nothing_at (k ∷ ks) (suc i) = nothing_at ks i

tells_some : (job : Job) → TellsPlan job → plan_of job.pipeline ≢ None
tells_some job tells none = let no : None ≡ Some (without_rules job.plan) = sym none ∙ tells in cc

base_of : (job : Job) (archive : Held) (settled : Files) (o : Option State) → TellsPlan job → Stores job.name settled o
    → SoundIn job.name archive o settled → Base job.name archive (state_or_empty job o) settled
unfolding counted_in
base_of job archive settled None tells stores sound = record {
  tiled = record {
    tiled = λ part m e. absurd (let no : None ≡ Some m = e in cc);
    indexed = λ part m d e h.
        absurd (let no : None ≡ Some m = e in cc);
  };
  rising = tt;
  plans = tt;
  within = λ part m e. absurd (let no : None ≡ Some m = e in cc);
  totals = record {
    records = refl;
    bad = refl;
    rows = refl;
    unrouted = refl;
    branches = λ i.
        nothing_at (range_with_len 0 (length job.plan.branches)) i;
  };
  files = λ name content p. (
    λ e. absurd (let no : None ≡ Some content = sym (sound name p) ∙ e in cc),
    λ e.
        absurd (let no : None ≡ Some e.marks = e.of_part in cc),
  );
  parts = λ part m e. absurd (let no : None ≡ Some m = e in cc);
}
base_of job archive settled (Some s) tells stores sound = record {
  tiled = sound.tiled;
  rising = (stored_proper job.name settled s stores).names;
  plans = sound.plans;
  within = sound.within;
  totals = sound.totals;
  files = sound.files;
  parts = (stored_proper job.name settled s stores).parts;
}

-- ---- names

-- a done range of a tiled state with proper partitions has a name
done_range : (s : State) → TiledState s → ((part : List ℕ) (m : Marks) → marks_at s part ≡ Some m → ProperPart part m)
    → (part : List ℕ) (d : Done) → HasDone s part d → IsRange part d.span.lo d.span.hi
done_range s tiled parts part d h =
    let p = parts part h.0 h.1 in
    let b = done_below h.0 (tiled.tiled part h.0 h.1) d.span (map_in (λ (x : Done). x.span) h.0.finished d h.2) in
    let small = p.small in
    (text_bytes part p.text, omega (arith, b, small), omega (arith, b, small))

-- a unit's range isn't done yet
not_done : (s : State) (units : List WorkUnit) → TiledState s → UnitsFit s.parts units → (u : WorkUnit)
    → Contains units u → (d : Done) → HasDone s u.part d → d.span.lo ≡ u.lo → d.span.hi ≡ u.hi → ⊥
not_done s units tiled fit u h d done lo hi = elim u.fresh as (λ b. u.fresh ≡ b → ⊥) [
  | true ↦ λ e.
      let in_it : Contains (fresh_in u.part units) u = filter_in (λ v. v.fresh && bytes_eq v.part u.part) units u h
      (and_from _ _ e (name_itself u.part)) in
      let above = follow_above (next_of s.parts u.part) (fresh_in u.part units) u (fit.fresh u.part) in_it in
      let below = done_below done.0 (tiled.tiled u.part done.0 done.1) d.span
      (map_in (λ (x : Done). x.span) done.0.finished d done.2) in
      let next = next_at s u.part done.0 done.1 in
      omega (arith, above, below, next, lo, hi)
  | false ↦ λ e.
      let o = fit.owed u h e in
      let m : o.0 ≡ done.0 = let both : Some o.0 ≡ Some done.0 = sym o.1 ∙ done.1 in cc in
      let t = tiled.tiled u.part o.0 o.1 in
      let some = (order_members 0 o.0.owed (span_of u) t.owed o.2).1 in
      let free : times u.lo (done_spans o.0) ≡ 0 = owed_free o.0 t (span_of u) o.2 u.lo
      (inside u.lo (span_of u) (omega arith) some) in
      let there : Contains (done_spans o.0) d.span = subst (λ (n : Marks). Contains (done_spans n) d.span) (sym m)
      (map_in (λ (x : Done). x.span) done.0.finished d done.2) in
      let one : 1 ≤ times u.lo (done_spans o.0) = times_some u.lo (done_spans o.0) d.span there
      (inside u.lo d.span (omega (arith, lo)) (omega (arith, lo, hi, some))) in
      omega (arith, free, one)
] refl

-- ---- the run

given_agrees : (archive held : Held) (part bytes : List ℕ) (s : Span) → at_name held part ≡ Some bytes
    → at_name archive part ≡ Some bytes → bytes_of_range held part s ≡ bytes_of_range archive part s
unfolding bytes_from
given_agrees archive held part bytes s a b = ap (λ o. take (s.hi - s.lo) (drop s.lo (unwrap_or o []))) (a ∙ sym b)

committed_pipelines : (P : List ℕ → Type 0) (s : State) (pipeline : List ℕ) (all done : List Judged)
    → AllByRecursion P s.pipelines → P pipeline → AllByRecursion P (state_with_commit_or s pipeline all done).pipelines
committed_pipelines P s pipeline all [] a p = a
committed_pipelines P s pipeline all (d ∷ ds) a p =
    subst (AllByRecursion P) (sym (finishes-pipelines (pipeline_index pipeline s) (d ∷ ds)
    (fold_units add_unit (with_pipeline pipeline s) all) ∙
    (adds-pipelines all (with_pipeline pipeline s) ∙ with-pipelines pipeline s)))
    (elim (list_any (bytes_eq pipeline) s.pipelines) as (λ b.
    AllByRecursion P (cond b s.pipelines (s.pipelines ++ pipeline ∷ []))) [ true ↦ a | false ↦ push s.pipelines a ])
  where
    push : (ps : List (List ℕ)) → AllByRecursion P ps → AllByRecursion P (ps ++ pipeline ∷ [])
    push [] a = (p, tt)
    push (q ∷ qs) a = (a.0, push qs a.1)

next_pipelines : (P : List ℕ → Type 0) (s : State) (pipeline : List ℕ) (units : List WorkUnit) (verdicts : List Verdict)
    (policy : CommitPolicy) → AllByRecursion P s.pipelines → P pipeline
    → AllByRecursion P (next_state s pipeline units verdicts policy).pipelines
unfolding next_state
next_pipelines P s pipeline units verdicts policy a p = committed_pipelines P s pipeline (zip units verdicts)
    (allowed_units policy (zip units verdicts)) a p

-- the state after groups, one after the other
abbrev pub next_by : Job → State → List Judged → State
next_by job s g = next_state s job.pipeline (units_in g) (verdicts_in g) job.policy

abbrev pub run_on : Job → State → List (List Judged) → State
run_on job s [] = s
run_on job s (g ∷ gs) = run_on job (next_by job s g) gs

-- what is known of a state over an archive, apart from files
record Grounds (archive : Held) (s : State) : Type 0 where
  tiled : TiledState s
  rising : IsInByteOrder (names_of s.parts)
  plans : AllByRecursion (λ p. plan_of p ≢ None) s.pipelines
  within : IsWithin archive s
  totals : SameCounts s.totals (counted_in s archive)

-- a committed unit: its bytes are the archive's, and it counted what they make
record DoneUnit (job : Job) (archive held : Held) (j : Judged) : Type 0 where
  bytes : bytes_of_range held j.0.part (span_of j.0) ≡ bytes_of_range archive j.0.part (span_of j.0)
  counts : counts_in j.1 ≡ Some (span_counts (without_rules job.plan) archive j.0.part (span_of j.0))

-- groups that a state can take in
record Groupable (job : Job) (archive held : Held) (s : State) (groups : List (List Judged)) : Type 0 where
  fit : (g : List Judged) → Contains groups g → UnitsFit s.parts (units_in g)
  apart : EachApart groups
  lies : (g : List Judged) → Contains groups g → (u : WorkUnit) → Contains (units_in g) u → u.fresh ≡ true
      → Lies archive u
  done : (g : List Judged) → Contains groups g → (j : Judged) → Contains (done_in job g) j → DoneUnit job archive held j

same_length : (g : List Judged) → length (verdicts_in g) ≡ length (units_in g)
same_length [] = refl
same_length (j ∷ js) = let e = same_length js in omega (arith, e)

-- what the commit of the zipped lists allows is what that of the group does
allowed_same : (job : Job) (g : List Judged) → allowed_units job.policy (zip (units_in g) (verdicts_in g)) ≡ done_in job
    g
allowed_same job g = ap (allowed_units job.policy) (zip_parts g)

advance : (job : Job) (archive held : Held) (s : State) (g : List Judged) (gs : List (List Judged)) → TellsPlan job
    → Grounds archive s → Groupable job archive held s (g ∷ gs) → Grounds archive (next_by job s g)
advance job archive held s g gs tells base groups =
    let units = units_in g in
    let verdicts = verdicts_in g in
    let here = first_in g gs g refl in
    let len = same_length g in
    let fit = groups.fit g here in
    record {
      tiled = tiles s job.pipeline units verdicts job.policy len base.tiled fit;
      rising = next_rising s job.pipeline units verdicts job.policy base.rising;
      plans = next_pipelines (λ p. plan_of p ≢ None) s job.pipeline units verdicts job.policy base.plans
          (tells_some job tells);
      within = stays_within s job.pipeline units verdicts job.policy archive len fit base.within (groups.lies g here);
      totals = totals_stay s job.pipeline (without_rules job.plan) units verdicts job.policy archive base.tiled
          base.rising tells
          (λ j h. (groups.done g here j (subst (λ (js : List Judged). Contains js j) (allowed_same job g) h)).counts)
          base.totals;
    }

advance_groups : (job : Job) (archive held : Held) (s : State) (g : List Judged) (gs : List (List Judged))
    → Groupable job archive held s (g ∷ gs) → Groupable job archive held (next_by job s g) gs
advance_groups job archive held s g gs groups = record {
  fit = λ h m. others_fit s job.pipeline g h job.policy (groups.apart.0 h m) (groups.fit h (later_in g gs h m));
  apart = groups.apart.1;
  lies = λ h m. groups.lies h (later_in g gs h m);
  done = λ h m. groups.done h (later_in g gs h m);
}

grounds_on : (job : Job) (archive held : Held) (s : State) (gs : List (List Judged)) → TellsPlan job → Grounds archive s
    → Groupable job archive held s gs → Grounds archive (run_on job s gs)
grounds_on job archive held s [] tells base groups = base
grounds_on job archive held s (g ∷ gs) tells base groups = grounds_on job archive held (next_by job s g) gs tells
    (advance job archive held s g gs tells base groups) (advance_groups job archive held s g gs groups)

abbrev Makes : Job → Held → List Judged → List ℕ → List ℕ → Type 0
Makes job archive done name content = IsPublished job.name (without_rules job.plan) archive done name content

makes_in : (job : Job) (archive : Held) (some more : List Judged) (name content : List ℕ)
    → ((j : Judged) → Contains some j → Contains more j) → Makes job archive some name content
    → Makes job archive more name content
makes_in job archive some more name content into u = record {
  unit = u.unit;
  of_units = into u.unit u.of_units;
  path =
      u.path;
  made = u.made;
  called = u.called;
}

makes_either : (job : Job) (archive : Held) (xs ys : List Judged) (name content : List ℕ)
    → Makes job archive (xs ++ ys) name content → Makes job archive xs name content ⊎ Makes job archive ys name content
makes_either job archive xs ys name content u = ⊎_elim
    (λ h. inl (record { unit = u.unit; of_units = h; path = u.path; made = u.made; called = u.called }))
    (λ h. inr (record { unit = u.unit; of_units = h; path = u.path; made = u.made; called = u.called }))
    (in_either xs ys u.unit u.of_units)

-- what is expected after the groups
expects_on : (job : Job) (archive held : Held) (s : State) (gs : List (List Judged)) (name content : List ℕ)
    → TellsPlan job → Grounds archive s → Groupable job archive held s gs
    → IsExpected job.name (run_on job s gs) archive name content ↔
    (IsExpected job.name s archive name content ⊎ Makes job archive (flat_map (done_in job) gs) name content)
expects_on job archive held s [] name content tells base groups =
    (λ e. inl e, λ e. ⊎_elim (λ x. x) (λ u. none_in u.unit u.of_units) e)
expects_on job archive held s (g ∷ gs) name content tells base groups =
    let later = expects_on job archive held (next_by job s g) gs name content tells
    (advance job archive held s g gs tells base groups) (advance_groups job archive held s g gs groups) in
    let one = expects job.name s job.pipeline (without_rules job.plan) (units_in g) (verdicts_in g) job.policy archive
    name content base.tiled tells in
    let front = done_in job g in
    let back = flat_map (done_in job) gs in (
      λ e. ⊎_elim
          (λ x. ⊎_elim
          (λ y. inl y)
          (λ u. inr (makes_in job archive front (front ++ back) name content (in_front front back)
          (subst (λ (js : List Judged). Makes job archive js name content) (allowed_same job g) u)))
          (one.0 x))
          (λ u. inr (makes_in job archive back (front ++ back) name content (in_back front back) u))
          (later.0 e),
      λ e. later.1 (⊎_elim
          (λ x. inl (one.1 (inl x)))
          (λ u. ⊎_elim
          (λ v. inl (one.1 (inr (subst (λ (js : List Judged). Makes job archive js name content)
          (sym (allowed_same job g)) v))))
          (λ v. inr v)
          (makes_either job archive front back name content u))
          e),
    )

-- a committed unit's range is done after the groups
done_stays : (job : Job) (gs : List (List Judged)) (s : State) (part : List ℕ) (d : Done) → HasDone s part d
    → HasDone (run_on job s gs) part d
done_stays job [] s part d h = h
done_stays job (g ∷ gs) s part d h = done_stays job gs (next_by job s g) part d
    (next_done s job.pipeline (units_in g) (verdicts_in g) job.policy part d h)

-- a committed unit of the groups, its group, and its range in the end
record FoundIn (job : Job) (s : State) (gs : List (List Judged)) (j : Judged) : Type 0 where
  group : List Judged
  of_groups : Contains gs group
  of_group : Contains (done_in job group) j
  pipeline : ℕ
  has : HasDone (run_on job s gs) j.0.part (done_by pipeline j)

found_in : (job : Job) (gs : List (List Judged)) (s : State) (j : Judged) → Contains (flat_map (done_in job) gs) j
    → FoundIn job s gs j
found_in job [] s j h = none_in j h
found_in job (g ∷ gs) s j h = ⊎_elim
    (λ k. record {
      group = g;
      of_groups = first_in g gs g refl;
      of_group = k;
      pipeline = pipeline_index job.pipeline s;
      has = done_stays job gs (next_by job s g) j.0.part (done_by (pipeline_index job.pipeline s) j)
          (done_has s job.pipeline (units_in g) (verdicts_in g) job.policy j
          (subst (λ (js : List Judged). Contains js j) (sym (allowed_same job g)) k));
    })
    (λ k. let f = found_in job gs (next_by job s g) j k in record {
      group = f.group;
      of_groups = later_in g gs f.group f.of_groups;
      of_group = f.of_group;
      pipeline =
          f.pipeline;
      has = f.has;
    })
    (in_either (done_in job g) (flat_map (done_in job) gs) j h)

in_group : (job : Job) (g : List Judged) (j : Judged) → Contains (done_in job g) j → Contains g j
in_group job g j h = (allowed_is_good job.policy g j h).0

publishes_to : (job : Job) (archive held : Held) (done : List Judged) (name content : List ℕ)
    → ((j : Judged) → Contains done j → DoneUnit job archive held j)
    → IsPublished job.name job.plan held done name content → IsPublished job.name (without_rules job.plan) archive done
    name content
publishes_to job archive held done name content each u = record {
  unit = u.unit;
  of_units = u.of_units;
  path = u.path;
  made = subst (λ b. IsMade (without_rules job.plan) u.unit.0.part (span_of u.unit.0) b u.path content)
      (each u.unit u.of_units).bytes (made_with job.plan u.unit.0.part (span_of u.unit.0) _ u.path content u.made);
  called = u.called;
}

publishes_from : (job : Job) (archive held : Held) (done : List Judged) (name content : List ℕ)
    → ((j : Judged) → Contains done j → DoneUnit job archive held j)
    → IsPublished job.name (without_rules job.plan) archive done name content
    → IsPublished job.name job.plan held done name content
publishes_from job archive held done name content each u = record {
  unit = u.unit;
  of_units = u.of_units;
  path = u.path;
  made = subst (λ b. IsMade job.plan u.unit.0.part (span_of u.unit.0) b u.path content)
      (sym (each u.unit u.of_units).bytes) (made_without job.plan u.unit.0.part (span_of u.unit.0) _ u.path content
      u.made);
  called = u.called;
}

-- an expected file's name isn't that of a file which the groups publish
names_differ : (job : Job) (archive held : Held) (s : State) (settled : Files) (gs : List (List Judged))
    (name content other : List ℕ) → TellsPlan job → Base job.name archive s settled → Groupable job archive held s gs
    → TiledState (run_on job s gs) → Proper (run_on job s gs)
    → IsExpected job.name s archive name content → IsPublished job.name job.plan held (flat_map (done_in job) gs) name
    other → ⊥
names_differ job archive held s settled gs name content other tells base groups tiled proper e u =
    let found = found_in job gs s u.unit u.of_units in
    let paths : e.path ≡ u.path = cancel_under job.name e.path u.path (sym e.called ∙ u.called) in
    let old = done_range s base.tiled base.parts e.part e.done (e.marks, e.of_part, e.of_marks) in
    let new = done_range (run_on job s gs) tiled proper.parts u.unit.0.part (done_by found.pipeline u.unit) found.has in
    let apart = names_apart e.plan job.plan e.part u.unit.0.part e.done.span.lo u.unit.0.lo e.done.span.hi u.unit.0.hi
    e.made.target u.made.target old new
    (sent_is_placed e.plan e.done.span.lo (bytes_of_range archive e.part e.done.span) e.made.target
    (few_branches e.pipeline e.plan e.of_pipeline) (λ z. e.made.some (sym e.made.sends ∙ z)))
    (sent_is_placed job.plan u.unit.0.lo (bytes_of_range held u.unit.0.part (span_of u.unit.0)) u.made.target
    (few_branches job.pipeline (without_rules job.plan) tells) (λ z. u.made.some (sym u.made.sends ∙ z)))
    (e.made.called ∙ (paths ∙ sym u.made.called)) in
    not_done s (units_in found.group) base.tiled (groups.fit found.group found.of_groups) u.unit.0
    (map_in (λ (x : Judged). x.0) found.group u.unit (in_group job found.group u.unit found.of_group)) e.done
    (e.marks, subst (λ p. marks_at s p ≡ Some e.marks) apart.0 e.of_part, e.of_marks) apart.1 apart.2

none_published : (job : Job) (held : Held) (settled n : Files) (name : List ℕ)
    → ((content : List ℕ) → (contents_at n name ≡ Some content) ↔
    (IsPublished job.name job.plan held [] name content ⊎
    ((contents_at settled name ≡ Some content) × ((other : List ℕ)
    → IsPublished job.name job.plan held [] name other → ⊥))))
    → contents_at n name ≡ contents_at settled name
none_published job held settled n name published = cases (contents_at settled name) refl (contents_at n name) refl
  where
    cases : (a : Option (List ℕ)) → contents_at settled name ≡ a → (b : Option (List ℕ)) → contents_at n name ≡ b
        → contents_at n name ≡ contents_at settled name
    cases (Some c) e b f = (published c).1 (inr (e, λ other u. none_in u.unit u.of_units)) ∙ sym e
    cases None e None f = f ∙ sym e
    cases None e (Some c) f = ⊎_elim (λ u. none_in u.unit u.of_units)
        (λ x. absurd (let no : None ≡ Some c = sym e ∙ x.0 in cc)) ((published c).0 f)

-- ---- the option of a state

after_is : (job : Job) (o : Option State) (g : List Judged) → state_or_empty job (after_group job o g) ≡ next_by job
    (state_or_empty job o) g
unfolding next_state
after_is job o g = cases (done_in job g) refl
  where
    s : State
    s = state_or_empty job o

    cases : (done : List Judged) → done_in job g ≡ done → state_or_empty job
        (stored_where o (next_of_group job o g) (done_in job g)) ≡ state_with_commit_or s job.pipeline
        (zip (units_in g) (verdicts_in g)) (allowed_units job.policy (zip (units_in g) (verdicts_in g)))
    cases [] is = ap (λ js. state_or_empty job (stored_where o (next_of_group job o g) js)) is
        ∙ sym (ap (state_with_commit_or s job.pipeline (zip (units_in g) (verdicts_in g))) (allowed_same job g ∙ is))
    cases (d ∷ ds) is = ap (λ js. state_or_empty job (stored_where o (next_of_group job o g) js)) is

after_on : (job : Job) (gs : List (List Judged)) (o : Option State)
    → state_or_empty job (after_groups job o gs) ≡ run_on job (state_or_empty job o) gs
after_on job [] o = refl
after_on job (g ∷ gs) o = after_on job gs (after_group job o g) ∙ ap (λ s. run_on job s gs) (after_is job o g)

stored_none : (o : Option State) (next : State) (js : List Judged) → stored_where o next js ≡ None → (o ≡ None)
    × (js ≡ [])
stored_none o next [] e = (e, refl)
stored_none o next (d ∷ ds) e = absurd (let no : Some next ≡ None = e in cc)

after_none : (job : Job) (gs : List (List Judged)) (o : Option State) → after_groups job o gs ≡ None → (o ≡ None)
    × (flat_map (done_in job) gs ≡ [])
after_none job [] o e = (e, refl)
after_none job (g ∷ gs) o e =
    let later = after_none job gs (after_group job o g) e in
    let here = stored_none o (next_of_group job o g) (done_in job g) later.0 in
    (here.0, ap (λ js. js ++ flat_map (done_in job) gs) here.1 ∙ later.1)

-- groups that a sound map can take in leave a sound one
groups_sound : (job : Job) (archive held : Held) (settled n : Files) (o : Option State) (gs : List (List Judged))
    → TellsPlan job → Stores job.name settled o → SoundIn job.name archive o settled
    → Groupable job archive held (state_or_empty job o) gs → GroupsLeft job held settled o gs n
    → SoundIn job.name archive (after_groups job o gs) n
groups_sound job archive held settled n o gs tells stores sound groups left = cases (after_groups job o gs) refl
  where
    s : State
    s = state_or_empty job o

    base : Base job.name archive s settled
    base = base_of job archive settled o tells stores sound

    cases : (p : Option State) → after_groups job o gs ≡ p → SoundIn job.name archive p n
    cases None is =
        let nothing = after_none job gs o is in
        sound_alike job.name archive None settled n
        (λ name p. none_published job held settled n name
        (λ content. subst (λ (js : List Judged). (contents_at n name ≡ Some content) ↔
        (IsPublished job.name job.plan held js name content
        ⊎ ((contents_at settled name ≡ Some content) ×
        ((other : List ℕ) → IsPublished job.name job.plan held js name other → ⊥)))) nothing.1
        (left.published name content p)))
        (subst (λ q. SoundIn job.name archive q settled) nothing.0 sound)
    cases (Some t) is =
        let same : t ≡ run_on job s gs = ap (state_or_empty job) (sym is) ∙ after_on job gs o in
        let grounds : Grounds archive s = record {
          tiled = base.tiled;
          rising = base.rising;
          plans =
              base.plans;
          within = base.within;
          totals = base.totals;
        } in
        let end = grounds_on job archive held s gs tells grounds groups in
        let proper = subst Proper same (stored_proper job.name n t (subst (Stores job.name n) is left.stored)) in
        let done = flat_map (done_in job) gs in
        let each : (j : Judged) → Contains done j → DoneUnit job archive held j = λ j h. let f =
        found_in job gs s j h in groups.done f.group f.of_groups j f.of_group in
        subst (λ q. SoundIn job.name archive (Some q) n) (sym same) (record {
          tiled = end.tiled;
          plans = end.plans;
          within = end.within;
          totals = end.totals;
          files = λ name content p.
              let grows = expects_on job archive held s gs name content tells grounds groups in (
                λ e. grows.1 (⊎_elim
                    (λ u. inr (publishes_to job archive held done name content each u))
                    (λ x. inl ((base.files name content p).0 x.0))
                    ((left.published name content p).0 e)),
                λ e. (left.published name content p).1 (⊎_elim
                    (λ x. inr (
                      (base.files name content p).1 x,
                      λ other u.
                          names_differ job archive held s settled gs name content other tells base groups end.tiled
                          proper
                          x u,
                    ))
                    (λ u. inl (publishes_from job archive held done name content each u))
                    (grows.0 e)),
              );
        })

-- ---- the groups of a run

run_groupable : (job : Job) (archive held : Held) (settled : Files) (o : Option State) (failing : List ℕ)
    → TellsPlan job → Agrees archive held → IsInByteOrder (names_of held)
    → Stores job.name settled o → SoundIn job.name archive o settled
    → Groupable job archive held (state_or_empty job o) (run_groups job held failing o)
run_groupable job archive held settled o failing tells agrees order stores sound =
    let base = base_of job archive settled o tells stores sound in
    let state = state_or_empty job o in
    let units = run_units job held o in
    let verdicts = run_verdicts job held failing o in
    let all = zip units verdicts in
    let is = grouped job.scope all in
    let len = verdicts_length job held units failing in
    let whole : units_in all ≡ units = units_of_zip units verdicts len in
    let fit : UnitsFit state.parts (units_in all) = subst (UnitsFit state.parts) (sym whole)
    (units_fit state held job.limits base.tiled base.rising order) in
    let lie : (u : WorkUnit) → Contains units u → u.listed ≡ true → Lies held u = λ u h l.
    units_lie archive held state job.limits u agrees base.within base.tiled base.rising order h l in
    let of_units : (g : List Judged) → Contains (run_groups job held failing o) g → (j : Judged) → Contains g j
    → Contains all j = λ g h j k.
    let f = is.each g h in (in_filter (λ (x : Judged). f.0 x.0.part) all j
    (subst (λ (js : List Judged). Contains js j) f.1 k)).0 in
    record {
      fit = λ g h. let f = is.each g h in subst (λ (js : List Judged). UnitsFit state.parts (units_in js)) (sym f.1)
          (group_fits state.parts f.0 all fit);
      apart = is.apart;
      lies = λ g h u m f.
          let j = in_map (λ (x : Judged). x.0) g u m in
          let there : Contains units u = subst (λ us. Contains us u) whole
          (subst (λ v. Contains (units_in all) v) j.2 (map_in (λ (x : Judged). x.0) all j.0 (of_units g h j.0 j.1)))
          in
          let l = lie u there (fresh_listed state held job.limits u there f) in (l.0, agrees u.part l.0 l.1, l.2);
      done = λ g h j m.
          let good = allowed_is_good job.policy g j m in
          let there = of_units g h j good.0 in
          let c = good_counts_are job held units failing j there good.1 in
          let unit : Contains units j.0 = subst (λ us. Contains us j.0) whole (map_in (λ (x : Judged). x.0) all j there)
          in
          let l = lie j.0 unit c.0 in
          let same = given_agrees archive held j.0.part l.0 (span_of j.0) l.1 (agrees j.0.part l.0 l.1) in
          record {
            bytes = same;
            counts = c.1 ∙ ap (λ x. Some x)
                (sym (bare_counts job.plan (unit_fold job.plan j.0.lo (bytes_of_range held j.0.part (span_of j.0))))
                ∙ (ap (counts_of (without_rules job.plan)) (sym
                (bare_fold job.plan j.0.lo (bytes_of_range held j.0.part (span_of j.0))))
                ∙ ap (λ b. counts_of (without_rules job.plan) (unit_fold (without_rules job.plan) j.0.lo b)) same));
          };
    }

pub left_sound : RunLeavesSound
left_sound job archive held settled n o failing tells agrees order stores sound left =
    groups_sound job archive held settled n o (run_groups job held failing o) tells stores sound
    (run_groupable job archive held settled o failing tells agrees order stores sound) left

-- ---- one group after the other

only_first : (job : Job) (archive held : Held) (s : State) (g : List Judged) (gs : List (List Judged))
    → Groupable job archive held s (g ∷ gs) → Groupable job archive held s (g ∷ [])
only_first job archive held s g gs groups = record {
  fit = λ h m. groups.fit h (up h m);
  apart = (λ h m. none_in h m, tt);
  lies = λ h m. groups.lies h (up h m);
  done = λ h m. groups.done h (up h m);
}
  where
    up : (h : List Judged) → Contains (g ∷ []) h → Contains (g ∷ gs) h
    up h m = ⊎_elim (λ e. first_in g gs h e) (λ k. none_in h k) (in_cases g [] h m)

lasting_quiet : (m n : Files) (name : List ℕ) → ((f : File) → m name ≡ Some f → (bytes : List ℕ) × (f ≡ clean bytes))
    → (n name ≡ m name) ⊎ (n name ≡ None) ⊎ ((bytes : List ℕ) × (n name ≡ Some (clean bytes))) → (f : File)
    → n name ≡ Some f → (bytes : List ℕ) × (f ≡ clean bytes)
lasting_quiet m n name quiet (inl same) f e = quiet f (sym same ∙ e)
lasting_quiet m n name quiet (inr (inl gone)) f e = absurd (let no : None ≡ Some f = sym gone ∙ e in cc)
lasting_quiet m n name quiet (inr (inr x)) f e = (
  x.0,
  let h : Some (clean x.0) ≡ Some f = sym x.1 ∙ e in
      some_file (clean x.0) f h,
)
  where
    some_file : (a b : File) → Some a ≡ Some b → b ≡ a
    some_file a b h = let k : a ≡ b = cc in sym k

steady_along : (job : Job) (archive held : Held) (o : Option State) (before rest : List (List Judged))
    (firsts : List Files) (settled : Files) → TellsPlan job → IsDurable job.name archive o settled
    → Groupable job archive held (state_or_empty job o) (before ++ rest) → BeginsWith settled firsts
    → LeftAlong job held o before firsts → AllDurable job.name archive (chain_from job o before) firsts
steady_along job archive held o [] rest [] settled tells steady groups begins along = absurd along
steady_along job archive held o [] rest (m ∷ []) settled tells steady groups begins along =
    (subst (IsDurable job.name archive o) begins steady, tt)
steady_along job archive held o [] rest (m ∷ n ∷ ms) settled tells steady groups begins along = absurd along
steady_along job archive held o (g ∷ gs) rest [] settled tells steady groups begins along = absurd along
steady_along job archive held o (g ∷ gs) rest (m ∷ []) settled tells steady groups begins along = absurd along
steady_along job archive held o (g ∷ gs) rest (m ∷ n ∷ ms) settled tells steady groups begins along =
    let here : IsDurable job.name archive o m = subst (IsDurable job.name archive o) begins steady in
    let left = along.0 in
    let next : IsDurable job.name archive (after_group job o g) n = record {
      stores = left.stored;
      sound = groups_sound job archive held m n o (g ∷ []) tells here.stores here.sound
          (only_first job archive held (state_or_empty job o) g (gs ++ rest) groups) left;
      clean = record {
        state = λ name f p e. lasting_quiet m n name (λ x y. here.clean.state name x p y) (along.1 name) f e;
        published = λ name f p e. lasting_quiet m n name (λ x y. here.clean.published name x p y) (along.1 name) f e;
      };
    } in (
      here,
      steady_along job archive held (after_group job o g) gs rest (n ∷ ms) n tells next
          (subst (λ s. Groupable job archive held s (gs ++ rest)) (sym (after_is job o g))
          (advance_groups job archive held (state_or_empty job o) g (gs ++ rest) groups)) refl along.2,
    )

pub groups_steady : GroupsStayDurable
groups_steady job archive held settled o failing before rest firsts tells agrees order steady is begins along =
    steady_along job archive held o before rest firsts settled tells steady
    (subst (Groupable job archive held (state_or_empty job o)) is
    (run_groupable job archive held settled o failing tells agrees order steady.stores steady.sound)) begins along
