-- A run's units in groups, each with its results.
use Rattle.std.proofs.Common.{◌≡◌, ◌≢◌, ⊎_elim, ℕ, zero, suc, Bool, true, false, cond, ◌||◌, List, [], ◌∷◌, ◌++◌, map}
use Rattle.std.proofs.Common.{length, refl}
use Rattle.std.proofs.Common.{sym, ap, subst, ◌∙◌, arith, Some, None, slice_get, option_map}
use Rattle.std.specs.declared.option.Option.{Option}
use Rattle.std.specs.List.{Contains, filter, flat_map, zip}
use Rattle.std.specs.Option.{option_to_list}
use Rattle.std.specs.Str.{bytes_eq}
use Rattle.std.proofs.lemmas.List.{length-map}
use Rattle.std.proofs.lemmas.List.Folds.{flat_map-map}
use Rattle.gob_bytes.proofs.Tables.{name_itself}
use Rattle.gob_bytes.specs.Tables.{Table}
use Rattle.gob_plan.specs.declared.plan.CommitScope.TheVariants as scope
use Rattle.gob_plan.specs.declared.units.Unit.{Unit as WorkUnit}
use Rattle.gob_plan.specs.declared.units.UnitResult.{UnitResult}
use Rattle.gob_ledger.specs.Groups.{dataset_of, groups_of}
use Rattle.gob_ledger.specs.Laws.{EachApart, NoneShared}
use Rattle.gob_ledger.specs.Marks.{Marks}
use Rattle.gob_ledger.specs.Next.{Judged}
use Rattle.gob_ledger.specs.Units.{UnitsFit}
use Rattle.gob_ledger.proofs.Datasets.{grouped}
use Rattle.gob_ledger.proofs.Grouping.{group_fits}
use Rattle.gob_ledger.proofs.Members.{first_in, flat_map_in, in_cases, in_filter, in_flat_map, in_map}
use Rattle.gob_ledger.proofs.Members.{later_in, map_in, none_in}
use Rattle.gob_recovery.specs.Sequence.{move, step_fits}
use Rattle.gob_history.specs.Laws.{moves_of}
use Rattle.gob_segments.specs.declared.change.Loaded.{Loaded}
use Rattle.gob_state.specs.Committed.{AreKept, judged_by}
use Rattle.gob_commit.specs.declared.rules.CommitRules.{CommitRules}
use Rattle.gob_commit.specs.Groups.{ArePlaces, picked_items}
use Rattle.gob_segments.specs.Loading.{LoadedFits}
use Rattle.gob_commit.specs.Staged.{CanCommit, PulledUnit, NamesFit, Pair, all_pairs, judged_of, pairs_in, state_or}
use Rattle.gob_commit.proofs.Differing.{clash, clash_turned, distinct_some, each_all, given_apart}
use Rattle.gob_commit.proofs.Differing.{list_all_at}
use Rattle.gob_commit.proofs.Differing.{list_all_of, names_differ, pairs_differ, some_given}
use Rattle.gob_commit.proofs.Joining.{judged_all, zip_firsts, zip_seconds, result_of}
use Rattle.gob_commit.proofs.Placing.{picked_are}
use Rattle.gob_ledger.proofs.Changes.{all_member}

abbrev pub units_in : List PulledUnit → List WorkUnit
units_in g = map (λ w. w.0) g

abbrev pub results_in : List PulledUnit → List UnitResult
results_in g = map (λ w. w.1) g

abbrev pub group_pairs : List PulledUnit → List Pair
group_pairs g = all_pairs (results_in g)

abbrev pub judged_in_groups : List (List PulledUnit) → List (List Judged)
judged_in_groups gs = map (map judged_of) gs

-- the units of some partitions
abbrev pub some_parts : (List ℕ → Bool) → List PulledUnit → List PulledUnit
some_parts keep made = filter (λ w. keep w.0.part) made

-- the groups of a run's units
pub record Split (rules : CommitRules) (units : List WorkUnit) (results : List UnitResult)
    (gs : List (List PulledUnit)) : Type 0 where
  pub are : judged_in_groups gs ≡ groups_of rules.scope (judged_by units results)
  pub each : (g : List PulledUnit) → Contains gs g → (keep : List ℕ → Bool) × (g ≡ some_parts keep (zip units results))

zip_both : (g : List PulledUnit) → zip (units_in g) (results_in g) ≡ g
zip_both [] = refl
zip_both (w ∷ ws) = ap (λ (vs : List PulledUnit). w ∷ vs) (zip_both ws)

pub group_made : (g : List PulledUnit) → zip (units_in g) (results_in g) ≡ g
group_made g = zip_both g

pub group_is : (g : List PulledUnit) → judged_by (units_in g) (results_in g) ≡ map judged_of g
group_is g = sym (judged_all (units_in g) (results_in g)) ∙ ap (map judged_of) (zip_both g)

-- ---- a whole run, or a dataset

all_kept : (made : List PulledUnit) → some_parts (λ part. true) made ≡ made
all_kept [] = refl
all_kept (w ∷ ws) = ap (λ (vs : List PulledUnit). w ∷ vs) (all_kept ws)

pub split_job : (rules : CommitRules) (units : List WorkUnit) (results : List UnitResult) → rules.scope ≡ scope.Job
    → Split rules units results (zip units results ∷ [])
unfolding groups_of
split_job rules units results is = record {
  are = ap (λ (js : List Judged). js ∷ []) (judged_all units results)
      ∙ ap (λ s. groups_of s (judged_by units results)) (sym is);
  each = λ g h. ⊎_elim
      (λ e. (λ part. true, sym e ∙ sym (all_kept (zip units results))))
      (λ k. none_in g k)
      (in_cases (zip units results) [] g h);
}

picked_map : {X Y : Type 0} (f : X → Y) (xs : List X) (ps : List ℕ) → map f (picked_items xs ps) ≡ picked_items
    (map f xs) ps
picked_map f xs [] = refl
picked_map {X} {Y} f xs (p ∷ ps) = one (slice_get xs p) (slice_get (map f xs) p) (got xs p) (picked_map f xs ps)
  where
    got : (ys : List X) (i : ℕ) → slice_get (map f ys) i ≡ option_map f (slice_get ys i)
    got [] i = refl
    got (y ∷ ys) zero = refl
    got (y ∷ ys) (suc i) = got ys i

    one : (o : Option X) (q : Option Y) → q ≡ option_map f o → map f (picked_items xs ps) ≡ picked_items (map f xs) ps
        → map f (option_to_list o ++ picked_items xs ps) ≡ option_to_list q ++ picked_items (map f xs) ps
    one None q is later = later ∙ ap (λ r. option_to_list r ++ picked_items (map f xs) ps) (sym is)
    one (Some x) q is later =
        ap (λ ys. f x ∷ ys) later ∙ ap (λ r. option_to_list r ++ picked_items (map f xs) ps) (sym is)

pub picked_units : (units : List WorkUnit) (results : List UnitResult) (ps : List ℕ) → length results ≡ length units
    → units_in (picked_items (zip units results) ps) ≡ picked_items units ps
picked_units units results ps counted =
    picked_map (λ (w : PulledUnit). w.0) (zip units results) ps ∙ ap (λ us. picked_items us ps)
    (zip_firsts units results counted)

pub picked_results : (units : List WorkUnit) (results : List UnitResult) (ps : List ℕ) → length results ≡ length units
    → results_in (picked_items (zip units results) ps) ≡ picked_items results ps
picked_results units results ps counted =
    picked_map (λ (w : PulledUnit). w.1) (zip units results) ps ∙ ap (λ rs. picked_items rs ps)
    (zip_seconds units results counted)

judged_groups : (made : List PulledUnit) (places : List (List ℕ))
    → judged_in_groups (map (picked_items made) places) ≡ map (picked_items (map judged_of made)) places
judged_groups made [] = refl
judged_groups made (p ∷ ps) = λ i. picked_map judged_of made p i ∷ judged_groups made ps i

parts_of : (units : List WorkUnit) (results : List UnitResult) → length results ≡ length units
    → map (λ (u : WorkUnit). u.part) units ≡ map (λ (w : PulledUnit). w.0.part) (zip units results)
parts_of [] results counted = refl
parts_of (u ∷ us) [] counted = absurd (omega (arith, counted))
parts_of (u ∷ us) (r ∷ rs) counted = ap (λ (ps : List (List ℕ)). u.part ∷ ps) (parts_of us rs (omega (arith, counted)))

units_of_judged : (units : List WorkUnit) (results : List UnitResult) → length results ≡ length units
    → map (λ (j : Judged). j.0) (judged_by units results) ≡ units
units_of_judged [] results counted = refl
units_of_judged (u ∷ us) [] counted = absurd (omega (arith, counted))
units_of_judged (u ∷ us) (r ∷ rs) counted =
    ap (λ (ps : List WorkUnit). u ∷ ps) (units_of_judged us rs (omega (arith, counted)))

pub split_datasets : (rules : CommitRules) (units : List WorkUnit) (results : List UnitResult)
    (places : List (List ℕ)) → rules.scope ≡ scope.Dataset → length results ≡ length units → ArePlaces units places
    → Split rules units results (map (picked_items (zip units results)) places)
split_datasets rules units results places is counted are = record {
  are = judged_groups (zip units results) places
      ∙ ap (λ js. map (picked_items js) places) (judged_all units results)
      ∙ are.all (judged_by units results) (units_of_judged units results counted)
      ∙ ap (λ s. groups_of s (judged_by units results)) (sym is);
  each = λ g h.
      let found = in_map (picked_items (zip units results)) places g h in
      let d = are.each found.0 found.1 in (
        λ part. bytes_eq d.0 (dataset_of part),
        sym found.2 ∙ ap (picked_items (zip units results)) d.1
            ∙ picked_are (λ (w : PulledUnit). w.0.part) d.0 (zip units results) [] (zip units results) units 0 refl refl
            (parts_of units results counted),
      );
}

-- ---- groups share no partition

pub group_apart : (before rest : List (List Judged)) (g : List Judged) → EachApart (before ++ g ∷ rest)
    → (h : List Judged) → Contains before h → NoneShared h g
group_apart [] rest g apart h k = none_in h k
group_apart (b ∷ bs) rest g apart h k = ⊎_elim
    (λ e. subst (λ (x : List Judged). NoneShared x g) e (apart.0 g (within bs)))
    (λ l. group_apart bs rest g apart.1 h l)
    (in_cases b bs h k)
  where
    within : (bs : List (List Judged)) → Contains (bs ++ g ∷ rest) g
    within [] = first_in g rest g refl
    within (x ∷ xs) = later_in x (xs ++ g ∷ rest) g (within xs)

pub rest_apart : (before rest : List (List Judged)) (g : List Judged) → EachApart (before ++ g ∷ rest)
    → (h : List Judged) → Contains rest h → NoneShared g h
rest_apart [] rest g apart h k = apart.0 h k
rest_apart (b ∷ bs) rest g apart h k = rest_apart bs rest g apart.1 h k

pub split_apart : (rules : CommitRules) (units : List WorkUnit) (results : List UnitResult)
    (gs : List (List PulledUnit))
    → Split rules units results gs → EachApart (judged_in_groups gs)
split_apart rules units results gs s = subst EachApart (sym s.are) (grouped rules.scope (judged_by units results)).apart

-- ---- what holds of a run's units holds of a group's

in_whole : (keep : List ℕ → Bool) (made g : List PulledUnit) (w : PulledUnit) → g ≡ some_parts keep made → Contains g w
    → Contains made w
in_whole keep made g w is h =
    (in_filter (λ (v : PulledUnit). keep v.0.part) made w (subst (λ (x : List PulledUnit). Contains x w) is h)).0

pub made_in : (rules : CommitRules) (units : List WorkUnit) (results : List UnitResult) (gs : List (List PulledUnit))
    (g : List PulledUnit) (w : PulledUnit) → Split rules units results gs → Contains gs g → Contains g w
    → Contains (zip units results) w
made_in rules units results gs g w s h k =
    let found = s.each g h in in_whole found.0 (zip units results) g w found.1 k

pub unit_in : (units : List WorkUnit) (results : List UnitResult) (w : PulledUnit) → length results ≡ length units
    → Contains (zip units results) w → Contains units w.0
unit_in units results w counted h =
    subst (λ (us : List WorkUnit). Contains us w.0) (zip_firsts units results counted)
    (map_in (λ (v : PulledUnit). v.0) (zip units results) w h)

abbrev made_pairs : PulledUnit → List Pair
made_pairs w = pairs_in w.1

pairs_of_made : (g : List PulledUnit) → group_pairs g ≡ flat_map made_pairs g
pairs_of_made g = flat_map-map pairs_in (λ (w : PulledUnit). w.1) g

pairs_of_all : (units : List WorkUnit) (results : List UnitResult) → length results ≡ length units
    → all_pairs results ≡ flat_map made_pairs (zip units results)
pairs_of_all units results counted =
    ap all_pairs (sym (zip_seconds units results counted)) ∙ pairs_of_made (zip units results)

fit_some : (job : List ℕ) (keep : PulledUnit → Bool) (made : List PulledUnit) → NamesFit job (flat_map made_pairs made)
    → NamesFit job (flat_map made_pairs (filter keep made))
fit_some job keep made fit =
    let all = flat_map made_pairs made in
    let some = flat_map made_pairs (filter keep made) in
    let differ = pairs_differ all fit.fits.differ in
    let back : (p : Pair) → Contains some p → Contains all p = λ p h. some_given made_pairs keep made p h in
    record {
      fits = record {
        each = list_all_of (step_fits job) (moves_of some) (λ s h.
            let found = in_map (λ (q : Pair). move q.0 q.1) some s h in
            sym (ap (step_fits job) found.2)
            ∙ list_all_at (step_fits job) (moves_of all) (move found.0.0 found.0.1) fit.fits.each
            (map_in (λ (q : Pair). move q.0 q.1) all found.0 (back found.0 found.1)));
        differ = names_differ some (record {
          apart = distinct_some clash made_pairs keep made differ.apart;
          own = each_all (λ p. bytes_eq p.0 p.1 ≡ false) some
              (λ p h. all_member (λ q. bytes_eq q.0 q.1 ≡ false) all p differ.own (back p h));
        });
      };
      apart = λ p h. fit.apart p (back p h);
      published = λ p h. fit.published p (back p h);
    }

pub group_fit : (job : List ℕ) (units : List WorkUnit) (results : List UnitResult) (keep : List ℕ → Bool)
    (g : List PulledUnit) → length results ≡ length units → g ≡ some_parts keep (zip units results)
    → NamesFit job (all_pairs results) → NamesFit job (group_pairs g)
group_fit job units results keep g counted is fit =
    subst (NamesFit job) (sym (pairs_of_made g))
    (subst (λ (x : List PulledUnit). NamesFit job (flat_map made_pairs x)) (sym is)
    (fit_some job (λ w. keep w.0.part) (zip units results)
    (subst (NamesFit job) (pairs_of_all units results counted) fit)))

pub pair_in : (units : List WorkUnit) (results : List UnitResult) (g : List PulledUnit) (p : Pair)
    → length results ≡ length units → ((w : PulledUnit) → Contains g w → Contains (zip units results) w)
    → Contains (group_pairs g) p → Contains (all_pairs results) p
pair_in units results g p counted within h =
    let found = in_flat_map made_pairs g p (subst (λ (x : List Pair). Contains x p) (pairs_of_made g) h) in
    flat_map_in pairs_in results found.0.1 p (result_of units results found.0 counted (within found.0 found.1)) found.2

-- files of different groups have different names
pub sources_apart : (units : List WorkUnit) (results : List UnitResult) (g h : List PulledUnit) (p q : Pair)
    (job : List ℕ)
    → length results ≡ length units → NamesFit job (all_pairs results) → NoneShared (map judged_of g) (map judged_of h)
    → ((w : PulledUnit) → Contains g w → Contains (zip units results) w)
    → ((w : PulledUnit) → Contains h w → Contains (zip units results) w)
    → Contains (group_pairs g) p → Contains (group_pairs h) q → p.0 ≢ q.0
sources_apart units results g h p q job counted fit none ing inh kp kq same =
    let fp = in_flat_map made_pairs g p (subst (λ (x : List Pair). Contains x p) (pairs_of_made g) kp) in
    let fq = in_flat_map made_pairs h q (subst (λ (x : List Pair). Contains x q) (pairs_of_made h) kq) in
    let differ = pairs_differ (flat_map made_pairs (zip units results))
    (subst (NamesFit job) (pairs_of_all units results counted) fit).fits.differ in
    let apart : clash p q ≡ false =
    given_apart clash clash_turned made_pairs (zip units results) fp.0 fq.0 p q differ.apart (ing fp.0 fp.1)
    (inh fq.0 fq.1)
    (λ e. none (judged_of fp.0) (judged_of fq.0) (map_in judged_of g fp.0 fp.1) (map_in judged_of h fq.0 fq.1)
    (ap (λ (w : PulledUnit). w.0.part) e)) fp.2 fq.2 in
    let level : bytes_eq p.0 q.0 ≡ true = subst (λ x. bytes_eq p.0 x ≡ true) same (name_itself p.0) in
    let no : false ≡ true = sym apart ∙ ap (λ b. b || bytes_eq p.0 q.1 || bytes_eq p.1 q.0 || bytes_eq p.1 q.1) level
    ∙ ors (bytes_eq p.0 q.1) (bytes_eq p.1 q.0) (bytes_eq p.1 q.1) in cc
  where
    ors : (a b c : Bool) → (true || a || b || c) ≡ true
    ors a b c = refl

filter_judged : (keep : List ℕ → Bool) (made : List PulledUnit)
    → map judged_of (some_parts keep made) ≡ filter (λ (j : Judged). keep j.0.part) (map judged_of made)
filter_judged keep [] = refl
filter_judged keep (w ∷ ws) = cases (keep w.0.part) (filter_judged keep ws)
  where
    cases : (b : Bool) → map judged_of (some_parts keep ws) ≡ filter (λ (j : Judged). keep j.0.part) (map judged_of ws)
        → map judged_of (cond b (w ∷ some_parts keep ws) (some_parts keep ws))
        ≡ cond b (judged_of w ∷ filter (λ (j : Judged). keep j.0.part) (map judged_of ws))
        (filter (λ (j : Judged). keep j.0.part) (map judged_of ws))
    cases true later = ap (λ (js : List Judged). judged_of w ∷ js) later
    cases false later = later

pub units_judged : (g : List PulledUnit) → map (λ (j : Judged). j.0) (map judged_of g) ≡ units_in g
units_judged [] = refl
units_judged (w ∷ ws) = ap (λ (us : List WorkUnit). w.0 ∷ us) (units_judged ws)

pub group_units_fit : (parts : Table Marks) (units : List WorkUnit) (results : List UnitResult)
    (keep : List ℕ → Bool) (g : List PulledUnit) → length results ≡ length units
    → g ≡ some_parts keep (zip units results) → UnitsFit parts units → UnitsFit parts (units_in g)
group_units_fit parts units results keep g counted is fit =
    let all = map judged_of (zip units results) in
    let whole : UnitsFit parts (map (λ (j : Judged). j.0) all) =
    subst (UnitsFit parts) (sym (units_judged (zip units results) ∙ zip_firsts units results counted)) fit in
    subst (UnitsFit parts)
    (ap (map (λ (j : Judged). j.0)) (sym (filter_judged keep (zip units results)))
    ∙ units_judged (some_parts keep (zip units results)) ∙ ap units_in (sym is))
    (group_fits parts keep all whole)

group_kept : (units : List WorkUnit) (results : List UnitResult) (g : List PulledUnit) → length results ≡ length units
    → ((w : PulledUnit) → Contains g w → Contains (zip units results) w) → AreKept units results
    → AreKept (units_in g) (results_in g)
group_kept units results g counted within kept = record {
  proper = λ u h. let found = in_map (λ (w : PulledUnit). w.0) g u h in
      kept.proper u (subst (Contains units) found.2 (unit_in units results found.0 counted (within found.0 found.1)));
  counted = λ r c h e. let found = in_map (λ (w : PulledUnit). w.1) g r h in
      kept.counted r c (subst (Contains results) found.2 (result_of units results found.0 counted (within found.0
      found.1))) e;
}

pub group_can : (rules : CommitRules) (l0 l : Loaded) (units : List WorkUnit) (results : List UnitResult)
    (gs : List (List PulledUnit)) (g : List PulledUnit) → CanCommit rules l0 units results
    → Split rules units results gs
    → Contains gs g → LoadedFits l → UnitsFit (state_or rules.branches l.state).parts (units_in g)
    → CanCommit rules l (units_in g) (results_in g)
group_can rules l0 l units results gs g can s h fits fit =
    let found = s.each g h in
    record {
      job = can.job;
      branches = can.branches;
      loaded = fits;
      can = record {
        pipeline = can.can.pipeline;
        counted = length-map g (λ (w : PulledUnit). w.1) ∙ sym (length-map g (λ (w : PulledUnit). w.0));
        fits = fit;
        kept = group_kept units results g can.can.counted (λ w k. made_in rules units results gs g w s h k)
            can.can.kept;
      };
      names = group_fit rules.job.now units results found.0 g can.can.counted found.1 can.names;
    }
