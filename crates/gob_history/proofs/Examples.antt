-- The worked example: one plain run, from an empty volume.
use Rattle.std.proofs.Common.{⊎_elim, ◌||◌, ◌≡◌, ◌≢◌, inl, inr, ℕ, zero, suc, ◌<◌, Bool, true, false, cond, ◌&&◌}
use Rattle.std.proofs.Common.{nat_eq, nat_lt, List, [], ◌∷◌, ◌++◌, take, drop, option_map, unwrap_or, refl, sym, ap}
use Rattle.std.proofs.Common.{subst, ◌∙◌, Some, None, arith, lit<, codes, append-nil}
use Rattle.std.specs.declared.option.Option.{Option}
use Rattle.std.specs.Fmt.{digits}
use Rattle.std.specs.List.{Contains, All, IsDistinct, list_all, slice_get}
use Rattle.std.specs.Str.{is_utf8, chars, bytes_eq}
use Rattle.std.proofs.lemmas.Bool.{and_parts, eqb-true, ltb-true}
use Rattle.std.proofs.lemmas.Bool.Decides.{nat_tests}
use Rattle.std.proofs.lemmas.List.Elements.{All-nil, All-cons}
use Rattle.std.proofs.lemmas.Str.{IsUtf8-from_is_utf8}
use Rattle.gob_bytes.specs.Digits.{offset, padded_digits}
use Rattle.gob_bytes.specs.Escapes.{escape_of}
use Rattle.gob_bytes.specs.Lines.{lines_from}
use Rattle.gob_bytes.specs.Paths.{is_published, keeps_state, delta_folder, begins_with, staging, under}
use Rattle.gob_bytes.specs.Tables.{at_name}
use Rattle.gob_bytes.proofs.Tables.{same_name}
use Rattle.gob_device.specs.Disk.{File, clean, contents_of, contents_at, no_files, put, Image, Rises}
use Rattle.gob_device.specs.Supply.{Held, bytes_from}
use Rattle.gob_plan.specs.Tests.{test_holds}
use Rattle.gob_plan.specs.declared.units.Counts.{Counts}
use Rattle.gob_meaning.specs.Fold.{unit_fold, deliveries_of, sent_to, counts_of, stop_of}
use Rattle.gob_meaning.specs.Fork.{picks, place_of}
use Rattle.gob_meaning.specs.Formats.{line_rows, record_of}
use Rattle.gob_meaning.specs.Items.{Target, out, err, bad, made_in_branch, line_made}
use Rattle.gob_meaning.specs.Job.{plain_plan, plain_pipeline}
use Rattle.gob_meaning.specs.Names.{target_name}
use Rattle.gob_meaning.specs.Policies.{ruling}
use Rattle.gob_meaning.specs.Results.{good, warnings_of, verdict_of}
use Rattle.gob_ledger.specs.Marks.{Marks, Done, Tiled, times_covered}
use Rattle.gob_meaning.specs.Sums.{sum_of}
use Rattle.gob_ledger.specs.State.{State, marks_at, no_counts, TiledState}
use Rattle.gob_ledger.specs.Archive.{LiesOnLines, LiesIn}
use Rattle.gob_ledger.specs.Totals.{counted_in, counts_where, SameCounts}
use Rattle.gob_ledger.specs.Units.{span_of, units_of_parts}
use Rattle.gob_ledger.specs.Next.{Judged, next_state}
use Rattle.gob_ledger.specs.Expected.{IsMade, IsExpected, IsPublished, bytes_of_range}
use Rattle.gob_ledger.specs.Spelling.{version_2, state_spelling, Proper, ProperPart, SmallBranch, IsKeptPipeline}
use Rattle.gob_jobs.specs.Pipelines.{IsSetting, is_key}
use Rattle.gob_ledger.specs.Delta.{base_alone}
use Rattle.gob_ledger.specs.Groups.{groups_of}
use Rattle.gob_ledger.specs.Turns.{own_pulls, turns_of, verdicts_of}
use Rattle.gob_ledger.specs.Examples.{plain_state, two_lines, job, range_done, fresh, lines_written}
use Rattle.gob_recovery.specs.Settle.{without_staging}
use Rattle.gob_history.specs.Sound.{Stores, Sound, AllRecoverTo}
use Rattle.gob_history.specs.Runs.{done_units, state_after, states_of_run, RunLeft, TrailOfRun}
use Rattle.gob_history.specs.Rounds.{begins, goes_on, running}
use Rattle.gob_recovery.proofs.Spelled.{to_one}
use Rattle.gob_history.specs.Examples.{after_plain, HasTwoLines, PlainHistory}
use Rattle.gob_jobs.proofs.PlanTables.{plain_text_are}
use Rattle.gob_meaning.specs.Plans.{without_rules}
use Rattle.gob_history.proofs.Rules.{made_with, made_without}
use Rattle.gob_history.proofs.Stands.{standing, kept_all, settles_itself}
use Rattle.gob_jobs.specs.Plans.{plan_of, TellsPlan}

abbrev the_marks : Marks
the_marks = record { next = 4; finished = range_done 0 4 ∷ []; owed = [] }

abbrev the_file : List ℕ
the_file = codes "j1/out/0/a.log@00000000000000000000-00000000000000000004.txt"

pub cond_some : {A : Type 0} (b : Bool) (x m : A) → cond b (Some x) None ≡ Some m → (b ≡ true) × (x ≡ m)
cond_some true x m e = (refl, cc)
cond_some false x m e = absurd (let no : None ≡ Some m = e in cc)

-- the one partition
the_part : (part : List ℕ) (m : Marks) → marks_at plain_state part ≡ Some m → (part ≡ codes "a.log") × (the_marks ≡ m)
the_part part m e = let r = cond_some (bytes_eq part (codes "a.log")) the_marks m e in
    (same_name part (codes "a.log") r.0, r.1)

tiled_marks : Tiled the_marks
tiled_marks = record { finished = (omega arith, omega arith, tt); owed = tt; once = once }
  where
    once : (at : ℕ) → times_covered at the_marks ≡ cond (nat_lt at 4) 1 0
    once at = grind (arith, nat_tests)

tiled_state : TiledState plain_state
tiled_state = record {
  tiled = λ part m e. subst Tiled (the_part part m e).1 tiled_marks;
  indexed = λ part m d e h. indexed d (subst (λ (n : Marks). Contains n.finished d) (sym (the_part part m e).1) h);
}
  where
    indexed : (d : Done) → Contains (range_done 0 4 ∷ []) d → d.pipeline < 1
    indexed d (zero, below, is) = subst (λ (x : Done). x.pipeline < 1) is (lit< tt)
    indexed d (suc k, below, is) = absurd (omega (arith, below))

settings : List (List ℕ × List ℕ)
settings = (codes "source.format", codes "lines") ∷ (codes "source.columns", []) ∷
    (codes "source.skip.header", codes "false") ∷ (codes "converter.classes", [])
    ∷ (codes "fork.operator.class", codes "all") ∷ (codes "fork.branches", codes "1") ∷ (codes "fork.test.0", []) ∷
    (codes "converter.classes.0", [])
    ∷ (codes "qualitychecker.row.policies.0", []) ∷ (codes "qualitychecker.row.policy.types.0", []) ∷
    (codes "writer.format.0", codes "lines") ∷ (codes "writer.placer.0", codes "plain") ∷ []

bytes_small : (v : List ℕ) → list_all (λ b. nat_lt b 256) v ≡ true → All (λ b. b < 256) v
bytes_small [] e = All-nil (λ b. b < 256)
bytes_small (b ∷ bs) e = let p = and_parts (nat_lt b 256) (list_all (λ c. nat_lt c 256) bs) e in
    All-cons (λ c. c < 256) b bs (ltb-true b 256 p.0) (bytes_small bs p.1)

settings_fit : (ss : List (List ℕ × List ℕ)) → list_all (λ s. is_key s.0 && list_all (λ b. nat_lt b 256) s.1) ss ≡ true
    → All (λ s. IsSetting s.0 s.1) ss
settings_fit [] e = All-nil (λ s. IsSetting s.0 s.1)
settings_fit (s ∷ ss) e =
    let p = and_parts (is_key s.0 && list_all (λ b. nat_lt b 256) s.1)
    (list_all (λ t. is_key t.0 && list_all (λ b. nat_lt b 256) t.1) ss) e in
    let q = and_parts (is_key s.0) (list_all (λ b. nat_lt b 256) s.1) p.0 in
    All-cons (λ t. IsSetting t.0 t.1) s ss (record { keyed = q.0; bytes = bytes_small s.1 q.1 }) (settings_fit ss p.1)

proper : Proper plain_state
unfolding IsDistinct settings escape_of is_utf8 chars lib.Utf8.encode
proper = record {
  run = lit< tt;
  pipelines = All-cons IsKeptPipeline plain_pipeline [] (settings, settings_fit settings refl, refl, lit< tt)
      (All-nil IsKeptPipeline);
  few = lit< tt;
  differ = (tt, tt);
  totals = record {
    records = lit< tt;
    bad = lit< tt;
    rows = lit< tt;
    unrouted = lit< tt;
    branches = All-cons SmallBranch (record { written = 2; errors = 0; optional = 0 }) []
        (record { written = lit< tt; errors = lit< tt; optional = lit< tt }) (All-nil SmallBranch);
  };
  branches = (omega arith, omega arith);
  names = tt;
  parts = λ part m e.
      let r = the_part part m e in
      subst (ProperPart part) r.1 (subst (λ n. ProperPart n the_marks) (sym r.0)
      (record { named = λ no. cc; text = IsUtf8-from_is_utf8 (codes "a.log") refl; begun = lit< tt; small = lit< tt }));
  tiled = tiled_state;
}

-- what the two lines make, and nothing else
only_made : (target : Target) (content : List ℕ) → sent_to target
    (deliveries_of (unit_fold plain_plan 0 (codes "x\ny\n"))) ≡ content → content ≢ [] → (target ≡ out 0 [])
    × (content ≡ codes "x\ny\n")
unfolding sent_to unit_fold lines_from line_rows record_of made_in_branch line_made ruling picks place_of is_utf8 chars
    lib.Utf8.encode
only_made (out b p) content e some = cases (nat_eq b 0 && bytes_eq p []) refl e
  where
    cases : (v : Bool) → (nat_eq b 0 && bytes_eq p []) ≡ v → cond v (codes "x\n") []
        ++ (cond v (codes "y\n") [] ++ []) ≡ content → (out b p ≡ out 0 []) × (content ≡ codes "x\ny\n")
    cases true is e =
        let q = and_parts (nat_eq b 0) (bytes_eq p []) is in
        let zeroth : b ≡ 0 = eqb-true b 0 q.0 in
        let none : p ≡ [] = same_name p [] q.1 in
        (λ i. out (zeroth i) (none i), sym e)
    cases false is e = absurd (some (sym e))
only_made (err b p) content e some = absurd (some (sym e))
only_made bad content e some = absurd (some (sym e))

bytes_are : (archive : Held) → HasTwoLines archive → bytes_of_range archive (codes "a.log") (record { lo = 0; hi = 4 })
    ≡
    codes "x\ny\n"
unfolding bytes_from
bytes_are archive at = ap (λ o. take 4 (drop 0 (unwrap_or o []))) at

made_file : IsMade plain_plan (codes "a.log") (record { lo = 0; hi = 4 }) (codes "x\ny\n")
    (codes "out/0/a.log@00000000000000000000-00000000000000000004.txt") (codes "x\ny\n")
unfolding digits padded_digits offset escape_of target_name sent_to unit_fold lines_from line_rows record_of
    made_in_branch
    line_made ruling picks place_of is_utf8 chars lib.Utf8.encode
made_file = record { target = out 0 []; sends = refl; some = λ e. cc; called = refl }

named_file : (target : Target) (path : List ℕ) → target ≡ out 0 []
    → target_name plain_plan (codes "a.log") 0 4 target ≡ path → under (codes "j1") path ≡ the_file
unfolding digits padded_digits offset escape_of target_name
named_file target path is called = ap (under (codes "j1")) (sym called
    ∙ ap (target_name plain_plan (codes "a.log") 0 4) is)

plain_has : plan_of plain_pipeline ≡ Some (without_rules plain_plan)
plain_has = plain_text_are

-- what is expected of the example's state
expected_is : (archive : Held) (name content : List ℕ) → HasTwoLines archive
    → IsExpected (codes "j1") plain_state archive name content → (name ≡ the_file) × (content ≡ codes "x\ny\n")
expected_is archive name content at e =
    let part = the_part e.part e.marks e.of_part in
    let range = one_done e.done (subst (λ (m : Marks). Contains m.finished e.done) (sym part.1) e.of_marks) in
    let pipe : plain_pipeline ≡ e.pipeline = let h : Some plain_pipeline ≡ Some e.pipeline =
    ap (λ (d : Done). slice_get (plain_pipeline ∷ []) d.pipeline) range ∙ e.of_state in cc in
    let plan : e.plan ≡ without_rules plain_plan = let h : Some e.plan ≡ Some (without_rules plain_plan) =
    sym e.of_pipeline ∙ (ap plan_of (sym pipe) ∙ plain_has) in cc in
    let one : IsMade e.plan (codes "a.log") e.done.span
    (bytes_of_range archive (codes "a.log") e.done.span) e.path content =
    subst (λ q. IsMade e.plan q e.done.span (bytes_of_range archive q e.done.span) e.path content) part.0 e.made in
    let two : IsMade e.plan (codes "a.log") (record { lo = 0; hi = 4 })
    (bytes_of_range archive (codes "a.log") (record { lo = 0; hi = 4 })) e.path content =
    subst (λ (d : Done). IsMade e.plan (codes "a.log") d.span
    (bytes_of_range archive (codes "a.log") d.span) e.path content)
    (sym range) one in
    let made : IsMade plain_plan (codes "a.log") (record { lo = 0; hi = 4 }) (codes "x\ny\n") e.path content =
    subst (λ b. IsMade plain_plan (codes "a.log") (record { lo = 0; hi = 4 }) b e.path content) (bytes_are archive at)
    (made_without plain_plan (codes "a.log") (record { lo = 0; hi = 4 })
    (bytes_of_range archive (codes "a.log") (record { lo = 0; hi = 4 })) e.path content
    (subst (λ p. IsMade p (codes "a.log") (record { lo = 0; hi = 4 })
    (bytes_of_range archive (codes "a.log") (record { lo = 0; hi = 4 })) e.path content) plan two)) in
    let is = only_made made.target content made.sends made.some in
    (e.called ∙ named_file made.target e.path is.0 made.called, is.1)
  where
    one_done : (d : Done) → Contains (range_done 0 4 ∷ []) d → range_done 0 4 ≡ d
    one_done d (zero, below, is) = is
    one_done d (suc k, below, is) = absurd (omega (arith, below))

expects_file : (archive : Held) → HasTwoLines archive → IsExpected (codes "j1") plain_state archive the_file
    (codes "x\ny\n")
expects_file archive at = record {
  part = codes "a.log";
  marks = the_marks;
  of_part = refl;
  done = range_done 0 4;
  of_marks = (0, lit< tt, refl);
  pipeline = plain_pipeline;
  of_state = refl;
  plan = without_rules plain_plan;
  of_pipeline = plain_has;
  path = codes "out/0/a.log@00000000000000000000-00000000000000000004.txt";
  made = made_with plain_plan (codes "a.log") (record { lo = 0; hi = 4 })
      (bytes_of_range archive (codes "a.log") (record { lo = 0; hi = 4 }))
      (codes "out/0/a.log@00000000000000000000-00000000000000000004.txt") (codes "x\ny\n")
      (subst (λ b. IsMade plain_plan (codes "a.log") (record { lo = 0; hi = 4 }) b
      (codes "out/0/a.log@00000000000000000000-00000000000000000004.txt") (codes "x\ny\n"))
      (sym (bytes_are archive at)) made_file);
  called = refl;
}

-- a published name of the map after the run is the one file's
abbrev IsFile : List ℕ → File → Type 0
IsFile name f = (name ≡ the_file) × (clean (codes "x\ny\n") ≡ f)

published_is : (name : List ℕ) (f : File) → is_published (codes "j1") name ≡ true → after_plain name ≡ Some f
    → IsFile name f
published_is name f p e = cases (bytes_eq name the_file) refl e
  where
    other : (b : Bool) → bytes_eq name (codes "j1/state") ≡ b
        → cond b (Some (clean (state_spelling version_2 plain_state))) None ≡ Some f → IsFile name f
    other true is e = absurd (let no : false ≡ true = sym (ap (is_published (codes "j1"))
        (same_name name (codes "j1/state") is)) ∙ p in cc)
    other false is e = absurd (let no : None ≡ Some f = e in cc)

    cases : (b : Bool) → bytes_eq name the_file ≡ b → cond b (Some (clean (codes "x\ny\n")))
        (put no_files (codes "j1/state") (Some (clean (state_spelling version_2 plain_state))) name) ≡ Some f
        → IsFile name f
    cases true is e = (same_name name the_file is, cc)
    cases false is e = other (bytes_eq name (codes "j1/state")) refl e

file_of : (o : Option File) (content : List ℕ) → option_map contents_of o ≡ Some content → (f : File) × (o ≡ Some f)
    × (contents_of f ≡ content)
file_of None content e = absurd (let no : None ≡ Some content = e in cc)
file_of (Some f) content e = (f, refl, cc)

line_lies : LiesIn (codes "x\ny\n") the_marks
unfolding lines_from
line_lies = record {
  reached = omega arith;
  lines = All-cons (LiesOnLines (codes "x\ny\n")) (record { lo = 0; hi = 4 }) []
      (record { lo = inl refl; hi = (1, lit< tt, refl) }) (All-nil (LiesOnLines (codes "x\ny\n")));
}

abbrev counts_from : List ℕ → Counts
counts_from bytes = sum_of (counts_of (without_rules plain_plan) (unit_fold (without_rules plain_plan) 0 bytes))
    (no_counts 0)

totals_from : SameCounts plain_state.totals (counts_from (codes "x\ny\n"))
unfolding sum_of counts_of unit_fold lines_from line_rows record_of made_in_branch line_made ruling picks place_of
    is_utf8 chars lib.Utf8.encode
totals_from = record { records = refl; bad = refl; rows = refl; unrouted = refl; branches = λ i. refl }

totals_are : (archive : Held) → HasTwoLines archive → SameCounts plain_state.totals (counted_in plain_state archive)
unfolding counted_in
totals_are archive at =
    subst (λ o. SameCounts plain_state.totals (sum_of (counts_where o archive (codes "a.log")
    (record { lo = 0; hi = 4 })) (no_counts 0))) (sym plain_has)
    (subst (λ b. SameCounts plain_state.totals (counts_from b)) (sym (bytes_are archive at)) totals_from)

sound : (archive : Held) → HasTwoLines archive → Sound (codes "j1") archive plain_state after_plain
sound archive at = record {
  tiled = tiled_state;
  plans = (λ none. (let no : Some (without_rules plain_plan) ≡ None = sym plain_has ∙ none in cc), tt);
  within = λ part m e. let r = the_part part m e in (
    codes "x\ny\n",
    ap (at_name archive) r.0 ∙ at,
    subst (LiesIn (codes "x\ny\n")) r.1 line_lies,
  );
  totals = totals_are archive at;
  files = λ name content p. (
    λ e.
        let f = file_of (after_plain name) content e in
        let is = published_is name f.0 p f.1 in
        let text : codes "x\ny\n" ≡ content = ap contents_of is.1 ∙ f.2 in
        subst (λ c. IsExpected (codes "j1") plain_state archive name c) text
        (subst (λ n. IsExpected (codes "j1") plain_state archive n (codes "x\ny\n")) (sym is.0)
        (expects_file archive at)),
    λ e. let is = expected_is archive name content at e in ap (contents_at after_plain) is.0
        ∙ ap (λ c. Some c) (sym is.1),
  );
}

-- the example has no file in a folder that has neither of its names
none_below : (folder : List ℕ) → begins_with folder (codes "j1/state") ≡ false → begins_with folder the_file ≡ false
    → (name : List ℕ) → begins_with folder name ≡ true → after_plain name ≡ None
none_below folder no_state no_file name below = cases (bytes_eq name the_file) refl
  where
    other : (b : Bool) → bytes_eq name (codes "j1/state") ≡ b
        → cond b (Some (clean (state_spelling version_2 plain_state))) None ≡ None
    other true is = absurd (let no : false ≡ true = sym no_state
        ∙ (sym (ap (begins_with folder) (same_name name (codes "j1/state") is)) ∙ below) in cc)
    other false is = refl

    cases : (b : Bool) → bytes_eq name the_file ≡ b → cond b (Some (clean (codes "x\ny\n")))
        (put no_files (codes "j1/state") (Some (clean (state_spelling version_2 plain_state))) name) ≡ None
    cases true is = absurd (let no : false ≡ true = sym no_file
        ∙ (sym (ap (begins_with folder) (same_name name the_file is)) ∙ below) in cc)
    cases false is = other (bytes_eq name (codes "j1/state")) refl

unstaged : (name : List ℕ) → begins_with (staging (codes "j1")) name ≡ true → after_plain name ≡ None
unstaged = none_below (staging (codes "j1")) refl refl

no_changes : (name : List ℕ) → begins_with (delta_folder (codes "j1")) name ≡ true → after_plain name ≡ None
no_changes = none_below (delta_folder (codes "j1")) refl refl

stores_plain : Stores (codes "j1") after_plain (Some plain_state)
stores_plain = (
  Some (base_alone plain_state),
  (
    record { base = refl; deltas = λ name p. ap (option_map contents_of) (no_changes name p) },
    record { base = proper; fits = tt; later = tt },
  ),
  refl,
)

state_clean : (name : List ℕ) (f : File) → keeps_state (codes "j1") name ≡ true → after_plain name ≡ Some f
    → (bytes : List ℕ) × (f ≡ clean bytes)
state_clean name f p e = cases (bytes_eq name (codes "j1/state")) refl p
  where
    cases : (b : Bool) → bytes_eq name (codes "j1/state") ≡ b
        → (b || begins_with (delta_folder (codes "j1")) name) ≡ true → (bytes : List ℕ) × (f ≡ clean bytes)
    cases true is p = (
      state_spelling version_2 plain_state,
      let h : Some (clean (state_spelling version_2 plain_state))
          ≡ Some f = sym (ap after_plain (same_name name (codes "j1/state") is)) ∙ e in
          same_file f (clean (state_spelling version_2 plain_state)) h,
    )
      where
        same_file : (a b : File) → Some b ≡ Some a → a ≡ b
        same_file a b h = let k : b ≡ a = cc in sym k
    cases false is p = absurd (let no : None ≡ Some f = sym (no_changes name p) ∙ e in cc)

nothing : (archive : Held) → AllRecoverTo (codes "j1") archive None no_files
nothing archive = standing (codes "j1") archive None no_files no_files
    (record {
      stores = (None, record { base = refl; deltas = λ name p. refl }, refl);
      sound = λ name p. refl;
      clean =
          record {
            state = λ name f p e. absurd (let no : None ≡ Some f = e in cc);
            published = λ name f p e.
                absurd (let no : None ≡ Some f = e in cc);
          };
    })
    (settles_itself (codes "j1") no_files refl (λ name e. refl))

run : (archive : Held) → HasTwoLines archive → AllRecoverTo (codes "j1") archive (Some plain_state) after_plain
run archive at = standing (codes "j1") archive (Some plain_state) after_plain after_plain
    (record {
      stores = stores_plain;
      sound = sound archive at;
      clean = record {
        state = state_clean;
        published = λ name f p e. (codes "x\ny\n", sym (published_is name f p e).1);
      };
    })
    (settles_itself (codes "j1") after_plain refl unstaged)

pub state_left : state_after job two_lines [] None ≡ Some plain_state
unfolding groups_of digits escape_of is_utf8 chars lib.Utf8.encode lines_from bytes_from test_holds unit_fold counts_of
    stop_of picks place_of line_rows record_of made_in_branch line_made ruling warnings_of verdict_of sum_of
    units_of_parts next_state own_pulls turns_of verdicts_of
state_left = refl

states_are : states_of_run job two_lines [] None ≡ None ∷ Some plain_state ∷ []
unfolding groups_of digits escape_of is_utf8 chars lib.Utf8.encode lines_from bytes_from test_holds unit_fold counts_of
    stop_of picks place_of line_rows record_of made_in_branch line_made ruling warnings_of verdict_of sum_of
    units_of_parts next_state own_pulls turns_of verdicts_of
states_are = refl

the_unit : Judged
the_unit = (fresh (codes "a.log") 0 4, good (lines_written 2) [])

units_done : done_units job two_lines [] None ≡ the_unit ∷ []
unfolding groups_of the_unit digits escape_of is_utf8 chars lib.Utf8.encode lines_from bytes_from test_holds unit_fold
    counts_of stop_of picks place_of line_rows record_of made_in_branch line_made ruling warnings_of verdict_of sum_of
    units_of_parts own_pulls turns_of verdicts_of
units_done = refl

tells_plan : TellsPlan job
tells_plan = plain_has

publishes_file : IsPublished (codes "j1") plain_plan two_lines (done_units job two_lines [] None) the_file
    (codes "x\ny\n")
unfolding the_unit
publishes_file = record {
  unit = the_unit;
  of_units = subst (λ js. Contains js the_unit) (sym units_done) (0, lit< tt, refl);
  path = codes "out/0/a.log@00000000000000000000-00000000000000000004.txt";
  made = subst (λ b. IsMade plain_plan (codes "a.log") (record { lo = 0; hi = 4 }) b
      (codes "out/0/a.log@00000000000000000000-00000000000000000004.txt") (codes "x\ny\n"))
      (sym (bytes_are two_lines refl)) made_file;
  called = refl;
}

published_once : (name content : List ℕ) → IsPublished (codes "j1") plain_plan two_lines
    (done_units job two_lines [] None) name content → (name ≡ the_file) × (content ≡ codes "x\ny\n")
unfolding the_unit
published_once name content u =
    let one : the_unit ≡ u.unit = only (subst (λ js. Contains js u.unit) units_done u.of_units) in
    let made : IsMade plain_plan (codes "a.log") (record { lo = 0; hi = 4 })
    (bytes_of_range two_lines (codes "a.log") (record { lo = 0; hi = 4 })) u.path content =
    subst (λ (j : Judged). IsMade plain_plan j.0.part (span_of j.0)
    (bytes_of_range two_lines j.0.part (span_of j.0)) u.path
    content) (sym one) u.made in
    let read : IsMade plain_plan (codes "a.log") (record { lo = 0; hi = 4 }) (codes "x\ny\n") u.path content =
    subst (λ b. IsMade plain_plan (codes "a.log") (record { lo = 0; hi = 4 }) b u.path content)
    (bytes_are two_lines refl) made in
    let is = only_made read.target content read.sends read.some in
    (u.called ∙ named_file read.target u.path is.0 read.called, is.1)
  where
    only : {j : Judged} → Contains (the_unit ∷ []) j → the_unit ≡ j
    only (zero, below, is) = is
    only (suc k, below, is) = absurd (omega (arith, below))

others_as_before : (name : List ℕ) → is_published (codes "j1") name ≡ false → keeps_state (codes "j1") name ≡ false
    → after_plain name ≡ None
others_as_before name private state = cases (bytes_eq name the_file) refl
  where
    other : (b : Bool) → bytes_eq name (codes "j1/state") ≡ b
        → cond b (Some (clean (state_spelling version_2 plain_state))) None ≡ None
    other true is = absurd (let bad : true ≡ false = sym (ap (keeps_state (codes "j1"))
        (same_name name (codes "j1/state") is)) ∙ state in cc)
    other false is = refl

    cases : (b : Bool) → bytes_eq name the_file ≡ b → cond b (Some (clean (codes "x\ny\n")))
        (put no_files (codes "j1/state") (Some (clean (state_spelling version_2 plain_state))) name) ≡ None
    cases true is = absurd (let bad : true ≡ false = sym (ap (is_published (codes "j1")) (same_name name the_file is))
        ∙ private in cc)
    cases false is = other (bytes_eq name (codes "j1/state")) refl

run_left : RunLeft job two_lines no_files None [] after_plain
run_left = record {
  stored = subst (Stores (codes "j1") after_plain) (sym state_left) stores_plain;
  published = λ name content p. (
    λ e.
        let f = file_of (after_plain name) content e in
        let is = published_is name f.0 p f.1 in
        inl (subst (λ c. IsPublished (codes "j1") plain_plan two_lines (done_units job two_lines [] None) name c)
        (ap contents_of is.1 ∙ f.2)
        (subst (λ n. IsPublished (codes "j1") plain_plan two_lines (done_units job two_lines [] None) n
        (codes "x\ny\n")) (sym is.0) publishes_file)),
    λ e. ⊎_elim (λ u. let is = published_once name content u in ap (contents_at after_plain) is.0
        ∙ ap (λ c. Some c) (sym is.1)) (λ x. absurd (let bad : None ≡ Some content = x.0 in cc)) e,
  );
  others = others_as_before;
}

-- a map that stands for a state has a file of it
none_stored : (archive : Held) (s : State) → AllRecoverTo (codes "j1") archive (Some s) no_files → ⊥
unfolding AllRecoverTo Image without_staging
none_stored archive s all =
    let x = all no_files (λ name. tt) in
    let is : x.0 ≡ no_files = to_one (codes "j1") no_files x.0 no_files x.1
    (inl (refl, λ i name. kept_all no_files (codes "j1") name (λ e. refl) i)) in
    none (subst (λ m. Stores (codes "j1") m (Some s)) is x.2)
  where
    none : Stores (codes "j1") no_files (Some s) → ⊥
    none (None, k, e) = let no : None ≡ Some s = e in cc
    none (Some l, k, e) = let no : None ≡ Some (state_spelling l.version l.base) = k.0.base in cc

trail_is : TrailOfRun job two_lines [] no_files (after_plain ∷ [])
unfolding Rises
trail_is archive None agrees stands = subst (λ os. Rises (AllRecoverTo (codes "j1") archive) os (after_plain ∷ []))
    (sym states_are) (
      [],
      after_plain ∷ [],
      refl,
      tt,
      (after_plain ∷ [], [], refl, (run archive (agrees (codes "a.log") (codes "x\ny\n") refl), tt), refl),
    )
trail_is archive (Some s) agrees stands = absurd (none_stored archive s stands)

pub example : PlainHistory
example = record {
  nothing_stands = nothing;
  run_stands = run;
  tells = tells_plan;
  left = run_left;
  trail = trail_is;
  history = goes_on two_lines two_lines no_files after_plain [] (begins two_lines no_files (λ name e. refl))
      (λ part bytes e. ([], e ∙ ap (λ b. Some b) (sym (append-nil bytes))))
      (record {
        added = after_plain ∷ [];
        round = running job refl tells_plan two_lines (λ part bytes e. e) [] trail_is;
        left = after_plain;
        how = inr refl;
        same = λ name e. refl;
      });
}
