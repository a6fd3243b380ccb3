-- Two runs over a partition whose second line is half there at first, the second of them stopped in its commit.
use Rattle.std.proofs.Common.{◌≡◌, ◌≢◌, inr, ℕ, zero, suc, ◌<◌, ◌^◌, Bool, true, false, cond, ◌&&◌, nat_eq}
use Rattle.std.proofs.Common.{List, [], ◌∷◌, ◌++◌, take, option_map, refl, sym, ap, subst, ◌∙◌, Some, None, arith, lit<}
use Rattle.std.proofs.Common.{codes, append-nil}
use Rattle.std.specs.declared.option.Option.{Option}
use Rattle.std.specs.Fmt.{digits}
use Rattle.std.specs.List.{Contains, IsDistinct, list_all}
use Rattle.std.specs.Str.{is_utf8, chars, bytes_eq}
use Rattle.std.proofs.lemmas.Bool.{and_parts, eqb-true}
use Rattle.std.proofs.lemmas.Bool.Decides.{nat_tests}
use Rattle.std.proofs.lemmas.List.Elements.{All-nil, All-cons}
use Rattle.std.proofs.lemmas.Str.{IsUtf8-from_is_utf8}
use Rattle.gob_bytes.specs.Digits.{offset, padded_digits}
use Rattle.gob_bytes.specs.Escapes.{escape_of}
use Rattle.gob_bytes.specs.Lines.{lines_from}
use Rattle.gob_bytes.specs.Paths.{begins_with, sequence_name, staging, under}
use Rattle.gob_bytes.specs.Tables.{IsInByteOrder, names_of}
use Rattle.gob_bytes.proofs.Tables.{same_name}
use Rattle.gob_device.specs.Disk.{EachOf, File, Files, Rises, after_rename, clean, no_files, put}
use Rattle.gob_device.specs.Supply.{Held, bytes_from}
use Rattle.gob_plan.specs.Tests.{test_holds}
use Rattle.gob_meaning.specs.Fold.{unit_fold, deliveries_of, sent_to, counts_of, stop_of}
use Rattle.gob_meaning.specs.Fork.{picks, place_of}
use Rattle.gob_meaning.specs.Formats.{line_rows, record_of}
use Rattle.gob_meaning.specs.Items.{Target, out, err, bad, made_in_branch, line_made}
use Rattle.gob_meaning.specs.Job.{plain_plan, plain_pipeline}
use Rattle.gob_meaning.specs.Names.{target_name}
use Rattle.gob_meaning.specs.Policies.{ruling}
use Rattle.gob_meaning.specs.Results.{good, warnings_of, verdict_of}
use Rattle.gob_meaning.specs.Sums.{sum_of}
use Rattle.gob_ledger.specs.Marks.{Marks, Done, Tiled}
use Rattle.gob_ledger.specs.State.{State, TiledState}
use Rattle.gob_ledger.specs.Archive.{Grows}
use Rattle.gob_ledger.specs.Units.{UnitsFit, span_of, units_of, units_of_parts}
use Rattle.gob_ledger.specs.Next.{Judged, next_state}
use Rattle.gob_ledger.specs.Expected.{IsPublished, IsMade, bytes_of_range}
use Rattle.gob_ledger.specs.Spelling.{Proper, ProperPart, SmallBranch, state_spelling, version_2}
use Rattle.gob_ledger.specs.Delta.{Kept, KeepsAs, StateFollows, base_alone, change_of, delta_spelling, last_run}
use Rattle.gob_ledger.specs.Delta.{state_of}
use Rattle.gob_ledger.specs.Groups.{groups_of}
use Rattle.gob_ledger.specs.Turns.{own_pulls, turns_of, verdicts_of}
use Rattle.gob_ledger.specs.Examples.{range_done, fresh, job, lines_written, one_line, plain_state, span, two_done}
use Rattle.gob_ledger.specs.Examples.{two_lines}
use Rattle.gob_ledger.proofs.Cutting.{units_fit}
use Rattle.gob_ledger.proofs.Following.{follows_next}
use Rattle.gob_ledger.proofs.OneState.{keeps_one}
use Rattle.gob_recovery.specs.Sequence.{CommitStep, WellFormed, sequence_text}
use Rattle.gob_recovery.specs.Settle.{IsSettled, Settles, SettlesAs, after_finish, can_do, do_steps, without_staging}
use Rattle.gob_recovery.proofs.Again.{settling_repeats}
use Rattle.gob_recovery.proofs.Images.{images_alike}
use Rattle.gob_recovery.proofs.Opened.{opened}
use Rattle.gob_recovery.proofs.Settled.{settled_is, staged_free}
use Rattle.gob_recovery.proofs.Spelled.{to_one}
use Rattle.gob_history.specs.Sound.{AllRecoverTo, Stores}
use Rattle.gob_history.specs.Runs.{TrailOfRun, TrailOfSettling, kept_after_group, next_of_group, run_groups}
use Rattle.gob_history.specs.Runs.{state_after, states_of_run}
use Rattle.gob_history.specs.Rounds.{History, Round, begins, goes_on, running, settling}
use Rattle.gob_history.specs.Laws.{CommittedGroup, LeftAlong, RecoverAlong, StagedFor, StagedOver, change_over}
use Rattle.gob_history.specs.Laws.{group_steps, staged_state}
use Rattle.gob_history.specs.Examples.{after_plain}
use Rattle.gob_history.proofs.Along.{stands_along}
use Rattle.gob_history.proofs.Examples.{example, state_left, cond_some}
use Rattle.gob_history.proofs.Goes.{goes}
use Rattle.gob_history.proofs.Keeps.{committing}
use Rattle.gob_history.proofs.Kept.{stored_proper}
use Rattle.gob_history.proofs.Stands.{settles_itself, standing}
use Rattle.gob_history.proofs.Steadied.{steadied}
use Rattle.gob_history_examples.specs.HalfLine.{HalfLineHistory, LeavesHalfLine, StopsHalfWay, all_there, first_file}
use Rattle.gob_history_examples.specs.HalfLine.{first_left, first_open, first_staged, first_steps, half_there}
use Rattle.gob_history_examples.specs.HalfLine.{over_time}
use Rattle.gob_history_examples.specs.HalfLine.{second_file, files_with_staged}
use Rattle.gob_history_examples.specs.HalfLine.{second_left, second_open, second_staged, second_steps, second_stopped}

abbrev j1 : List ℕ
j1 = codes "j1"

abbrev a_log : List ℕ
a_log = codes "a.log"

-- ---- what a unit of one line publishes

abbrev line_unit : ℕ → ℕ → Judged
line_unit lo hi = (fresh a_log lo hi, good (lines_written 1) [])

abbrev sends : ℕ → List ℕ → Target → List ℕ
sends lo bytes target = sent_to target (deliveries_of (unit_fold plain_plan lo bytes))

-- the bytes go to the one file, and nothing goes elsewhere
record GoesOut (lo : ℕ) (bytes : List ℕ) : Type 0 where
  goes : (b : ℕ) (p : List ℕ) → sends lo bytes (out b p) ≡ cond (nat_eq b 0 && bytes_eq p []) bytes [] ++ []
  errors : (b : ℕ) (p : List ℕ) → sends lo bytes (err b p) ≡ []
  faults : sends lo bytes bad ≡ []

first_goes : GoesOut 0 (codes "x\n")
unfolding sent_to unit_fold lines_from line_rows record_of made_in_branch line_made ruling picks place_of is_utf8 chars
    lib.Utf8.encode
first_goes = record { goes = λ b p. refl; errors = λ b p. refl; faults = refl }

second_goes : GoesOut 2 (codes "yy\n")
unfolding sent_to unit_fold lines_from line_rows record_of made_in_branch line_made ruling picks place_of is_utf8 chars
    lib.Utf8.encode
second_goes = record { goes = λ b p. refl; errors = λ b p. refl; faults = refl }

only_out : (lo : ℕ) (bytes : List ℕ) → GoesOut lo bytes → (target : Target) (content : List ℕ)
    → sends lo bytes target ≡ content → content ≢ [] → (target ≡ out 0 []) × (content ≡ bytes)
only_out lo bytes g (out b p) content e some = cases (nat_eq b 0 && bytes_eq p []) refl (sym (g.goes b p) ∙ e)
  where
    cases : (v : Bool) → (nat_eq b 0 && bytes_eq p []) ≡ v → cond v bytes [] ++ [] ≡ content
        → (out b p ≡ out 0 []) × (content ≡ bytes)
    cases true is e =
        let q = and_parts (nat_eq b 0) (bytes_eq p []) is in
        let zeroth : b ≡ 0 = eqb-true b 0 q.0 in
        let none : p ≡ [] = same_name p [] q.1 in
        (λ i. out (zeroth i) (none i), sym e ∙ append-nil bytes)
    cases false is e = absurd (some (sym e))
only_out lo bytes g (err b p) content e some = absurd (some (sym e ∙ g.errors b p))
only_out lo bytes g bad content e some = absurd (some (sym e ∙ g.faults))

-- a range of the partition holds these bytes, which make this file
record OfLine (held : Held) (lo hi : ℕ) (bytes file : List ℕ) : Type 0 where
  goes : GoesOut lo bytes
  some : bytes ≢ []
  here : bytes_of_range held a_log (span lo hi) ≡ bytes
  called : target_name plain_plan a_log lo hi (out 0 []) ≡ file

abbrev Publishes : Held → ℕ → ℕ → List ℕ → List ℕ → Type 0
Publishes held lo hi name content = IsPublished j1 plain_plan held (line_unit lo hi ∷ []) name content

publishes : (held : Held) (lo hi : ℕ) (bytes file : List ℕ) → OfLine held lo hi bytes file
    → Publishes held lo hi (under j1 file) bytes
publishes held lo hi bytes file o = record {
  unit = line_unit lo hi;
  of_units = (0, lit< tt, refl);
  path = file;
  made = record {
    target = out 0 [];
    sends = ap (λ b. sends lo b (out 0 [])) o.here ∙ (o.goes.goes 0 [] ∙ append-nil bytes);
    some = o.some;
    called = o.called;
  };
  called = refl;
}

only_unit : (u j : Judged) → Contains (u ∷ []) j → u ≡ j
only_unit u j (zero, below, is) = is
only_unit u j (suc k, below, is) = absurd (omega (arith, below))

only_published : (held : Held) (lo hi : ℕ) (bytes file : List ℕ) → OfLine held lo hi bytes file
    → (name content : List ℕ) → Publishes held lo hi name content → (name ≡ under j1 file) × (content ≡ bytes)
only_published held lo hi bytes file o name content u =
    let one : line_unit lo hi ≡ u.unit = only_unit (line_unit lo hi) u.unit u.of_units in
    let made : IsMade plain_plan a_log (span lo hi) (bytes_of_range held a_log (span lo hi)) u.path content = subst
    (λ (j : Judged). IsMade plain_plan j.0.part (span_of j.0)
    (bytes_of_range held j.0.part (span_of j.0)) u.path content)
    (sym one) u.made in
    let is = only_out lo bytes o.goes made.target content
    (ap (λ b. sends lo b made.target) (sym o.here) ∙ made.sends) made.some in
    let path : u.path ≡ file = sym made.called ∙ (ap (target_name plain_plan a_log lo hi) is.0 ∙ o.called) in
    (u.called ∙ ap (under j1) path, is.1)

-- the staged file and its lasting name
abbrev pair : List ℕ → List ℕ × List ℕ
pair file = (codes "j1/stage/0-0/" ++ file, codes "j1/" ++ file)

only_pair : (p q : List ℕ × List ℕ) → Contains (p ∷ []) q → p ≡ q
only_pair p q (zero, below, is) = is
only_pair p q (suc k, below, is) = absurd (omega (arith, below))

staged_for : (held : Held) (lo hi : ℕ) (bytes file : List ℕ) (m : Files) → OfLine held lo hi bytes file
    → m (codes "j1/stage/0-0/" ++ file) ≡ Some (clean bytes)
    → StagedFor job held (line_unit lo hi ∷ []) m (pair file ∷ [])
staged_for held lo hi bytes file m o there = record {
  made = λ p h. subst (λ (q : List ℕ × List ℕ). (content : List ℕ) × (m q.0 ≡ Some (clean content))
      × Publishes held lo hi q.1 content)
      (only_pair (pair file) p h) (bytes, there, publishes held lo hi bytes file o);
  all = λ name content u.
      let is = only_published held lo hi bytes file o name content u in (
        pair file,
        (0, lit< tt, refl),
        sym is.0,
        there ∙ ap (λ c. Some (clean c)) (sym is.1),
      );
}

first_of : OfLine half_there 0 2 (codes "x\n") first_file
unfolding bytes_from digits padded_digits offset escape_of target_name
first_of = record { goes = first_goes; some = λ e. cc; here = refl; called = refl }

second_of : OfLine all_there 2 5 (codes "yy\n") second_file
unfolding bytes_from digits padded_digits offset escape_of target_name
second_of = record { goes = second_goes; some = λ e. cc; here = refl; called = refl }

-- ---- the states

first_states : states_of_run job half_there [] None ≡ None ∷ Some one_line ∷ []
unfolding groups_of digits escape_of is_utf8 chars lib.Utf8.encode lines_from bytes_from test_holds unit_fold counts_of
    stop_of picks place_of line_rows record_of made_in_branch line_made ruling warnings_of verdict_of sum_of
    units_of_parts next_state own_pulls turns_of verdicts_of
first_states = refl

second_states : states_of_run job all_there [] (Some one_line) ≡ Some one_line ∷ Some two_done ∷ []
unfolding groups_of digits escape_of is_utf8 chars lib.Utf8.encode lines_from bytes_from test_holds unit_fold counts_of
    stop_of picks place_of line_rows record_of made_in_branch line_made ruling warnings_of verdict_of sum_of
    units_of_parts next_state own_pulls turns_of verdicts_of
second_states = refl

first_groups : run_groups job half_there [] None ≡ (line_unit 0 2 ∷ []) ∷ []
unfolding groups_of digits escape_of is_utf8 chars lib.Utf8.encode lines_from bytes_from test_holds unit_fold counts_of
    stop_of picks place_of line_rows record_of made_in_branch line_made ruling warnings_of verdict_of sum_of
    units_of_parts own_pulls turns_of verdicts_of
first_groups = refl

second_groups : run_groups job all_there [] (Some one_line) ≡ (line_unit 2 5 ∷ []) ∷ []
unfolding groups_of digits escape_of is_utf8 chars lib.Utf8.encode lines_from bytes_from test_holds unit_fold counts_of
    stop_of picks place_of line_rows record_of made_in_branch line_made ruling warnings_of verdict_of sum_of
    units_of_parts own_pulls turns_of verdicts_of
second_groups = refl

first_next : next_of_group job None (line_unit 0 2 ∷ []) ≡ one_line
unfolding next_state sum_of
first_next = refl

second_next : next_of_group job (Some one_line) (line_unit 2 5 ∷ []) ≡ two_done
unfolding next_state sum_of
second_next = refl

plain_proper : Proper plain_state
plain_proper = stored_proper j1 after_plain plain_state (subst (Stores j1 after_plain) state_left example.left.stored)

-- a state of the one partition
abbrev state_with : ℕ → ℕ → Marks → State
state_with run lines marks = record plain_state { run = run; totals = lines_written lines; parts = (a_log, marks) ∷ [] }

record SmallMarks (marks : Marks) : Type 0 where
  begun : 0 < marks.next
  small : marks.next < 2 ^ 64
  tiled : Tiled marks
  first : (d : Done) → Contains marks.finished d → d.pipeline < 1

tiled_with : (run lines : ℕ) (marks : Marks) → SmallMarks marks → TiledState (state_with run lines marks)
tiled_with run lines marks s = record {
  tiled = λ part m e. subst Tiled (cond_some (bytes_eq part a_log) marks m e).1 s.tiled;
  indexed = λ part m d e h.
      s.first d (subst (λ (n : Marks). Contains n.finished d) (sym (cond_some (bytes_eq part a_log) marks m e).1) h);
}

proper_with : (run lines : ℕ) (marks : Marks) → run < 2 ^ 64 → lines < 2 ^ 64 → SmallMarks marks
    → Proper (state_with run lines marks)
unfolding is_utf8 chars lib.Utf8.encode
proper_with run lines marks fits few s = record {
  run = fits;
  pipelines = plain_proper.pipelines;
  few = plain_proper.few;
  differ = plain_proper.differ;
  totals = record {
    records = few;
    bad = lit< tt;
    rows = few;
    unrouted = lit< tt;
    branches = All-cons SmallBranch (record { written = lines; errors = 0; optional = 0 }) []
        (record { written = few; errors = lit< tt; optional = lit< tt }) (All-nil SmallBranch);
  };
  branches = plain_proper.branches;
  names = tt;
  parts = λ part m e.
      let r = cond_some (bytes_eq part a_log) marks m e in
      subst (ProperPart part) r.1 (subst (λ n. ProperPart n marks) (sym (same_name part a_log r.0))
      (record { named = λ no. cc; text = IsUtf8-from_is_utf8 a_log refl; begun = s.begun; small = s.small }));
  tiled = tiled_with run lines marks s;
}

first_marks : Marks
first_marks = record { next = 2; finished = range_done 0 2 ∷ []; owed = [] }

second_marks : Marks
second_marks = record { next = 5; finished = range_done 0 2 ∷ range_done 2 5 ∷ []; owed = [] }

first_small : SmallMarks first_marks
unfolding first_marks
first_small = record {
  begun = lit< tt;
  small = lit< tt;
  tiled = record { finished = (omega arith, omega arith, tt); owed = tt; once = λ at. grind (arith, nat_tests) };
  first = first;
}
  where
    first : (d : Done) → Contains (range_done 0 2 ∷ []) d → d.pipeline < 1
    first d (zero, below, is) = subst (λ (x : Done). x.pipeline < 1) is (lit< tt)
    first d (suc k, below, is) = absurd (omega (arith, below))

second_small : SmallMarks second_marks
unfolding second_marks
second_small = record {
  begun = lit< tt;
  small = lit< tt;
  tiled = record {
    finished = (omega arith, omega arith, (omega arith, omega arith, tt));
    owed = tt;
    once = λ at. grind (arith, nat_tests);
  };
  first = first;
}
  where
    first : (d : Done) → Contains (range_done 0 2 ∷ range_done 2 5 ∷ []) d → d.pipeline < 1
    first d (zero, below, is) = subst (λ (x : Done). x.pipeline < 1) is (lit< tt)
    first d (suc zero, below, is) = subst (λ (x : Done). x.pipeline < 1) is (lit< tt)
    first d (suc (suc k), below, is) = absurd (omega (arith, below))

first_proper : Proper one_line
unfolding first_marks
first_proper = proper_with 1 1 first_marks (lit< tt) (lit< tt) first_small

second_proper : Proper two_done
unfolding second_marks
second_proper = proper_with 2 2 second_marks (lit< tt) (lit< tt) second_small

second_units : units_of one_line all_there job.limits ≡ fresh a_log 2 5 ∷ []
unfolding lines_from bytes_from units_of_parts escape_of
second_units = refl

first_tiled : TiledState one_line
unfolding first_marks
first_tiled = tiled_with 1 1 first_marks first_small

second_follows : StateFollows one_line two_done
second_follows = subst (StateFollows one_line) second_next (follows_next one_line plain_pipeline (fresh a_log 2 5 ∷ [])
    (good (lines_written 1) [] ∷ []) job.policy refl first_tiled
    (subst (UnitsFit one_line.parts) second_units (units_fit one_line all_there job.limits first_tiled tt tt))
    (lit< tt) (λ e. cc))

-- ---- a commit of one unit

abbrev steps_of : Option Kept → State → List ℕ → List CommitStep
steps_of k next file = group_steps j1 (change_over j1 k next) (pair file ∷ [])

abbrev leaves : Option Kept → State → List ℕ → Files → Files
leaves k next file m = without_staging j1 (do_steps (steps_of k next file) m)

-- a settled map that keeps something, and over it what such a commit has staged
record Staged (held : Held) (before m : Files) (k : Option Kept) (next : State) (lo hi : ℕ) (file : List ℕ) :
    Type 0 where
  settled : IsSettled j1 before
  keeps : KeepsAs j1 before k
  over : StagedOver j1 before m
  proper : Proper next
  follows : (s : State) → option_map state_of k ≡ Some s → next.run ≢ last_run → StateFollows s next
  files : StagedFor job held (line_unit lo hi ∷ []) m (pair file ∷ [])
  state : m (staged_state j1) ≡ Some (clean (change_over j1 k next).text)
  fits : WellFormed j1 (steps_of k next file)

abbrev Committed : Held → Files → Option Kept → ℕ → ℕ → Files → Type 0
Committed held before k lo hi n = CommittedGroup job held before k (line_unit lo hi ∷ []) n

committed : (held : Held) (before m : Files) (k : Option Kept) (next : State) (lo hi : ℕ) (file : List ℕ)
    → next_of_group job (option_map state_of k) (line_unit lo hi ∷ []) ≡ next
    → Staged held before m k next lo hi file → Committed held before k lo hi (leaves k next file m)
committed held before m k next lo hi file is s = subst
    (λ t. Staged held before m k t lo hi file → Committed held before k lo hi (leaves k t file m)) is
    (λ g. committing job held before m k (line_unit lo hi ∷ []) (pair file ∷ []) g.settled g.keeps g.over (λ e. cc)
    g.proper g.follows g.files g.state g.fits) s

same_stored : (k l : Option Kept) (o : Option State) (m : Files) → KeepsAs j1 m k → KeepsAs j1 m l
    → option_map state_of l ≡ o → o ≡ option_map state_of k
same_stored k l o m keeps other is = sym is ∙ ap (option_map state_of) (sym (keeps_one j1 m k l keeps other))

-- the maps of a run that staged and committed one unit, up to any map that settles to what it leaves
trail_of : (held : Held) (before m n : Files) (k : Option Kept) (lo hi : ℕ) (later : List Files)
    → KeepsAs j1 before k → IsSettled j1 before → StagedOver j1 before m → Committed held before k lo hi n
    → run_groups job held [] (option_map state_of k) ≡ (line_unit lo hi ∷ []) ∷ []
    → IsInByteOrder (names_of held) → EachOf (SettlesAs j1 n) later → TrailOfRun job held [] before (m ∷ later)
unfolding Rises
trail_of held before m n k lo hi later keeps settled over c groups order each =
    goes job held [] before before (m ∷ later) example.tells order (record {
      settles = (staged_free j1 before before settled (λ name e. refl)).0;
      firsts = before ∷ n ∷ [];
      begins = refl;
      along = λ o stored. subst Goes (sym (same_stored k stored.0 o before keeps stored.1 stored.2))
          ((line_unit lo hi ∷ []) ∷ [], [], groups, (c.left, c.lasting, tt));
      rises = λ whole. (
        m ∷ [],
        later,
        refl,
        ((staged_free j1 before m settled over).1, tt),
        (later, [], sym (append-nil later), each, refl),
      );
    })
  where
    Goes : Option State → Type 0
    Goes o = (front : List (List Judged)) × (rest : List (List Judged)) × (run_groups job held [] o ≡ front ++ rest)
        × LeftAlong job held o front (before ∷ n ∷ [])

staged_over : (m : Files) (file content text : List ℕ) → StagedOver j1 m (files_with_staged m file content text)
staged_over m file content text name un = by_state (bytes_eq name (codes "j1/stage/state")) refl
  where
    by_file : (b : Bool) → bytes_eq name (codes "j1/stage/0-0/" ++ file) ≡ b
        → cond b (Some (clean content)) (m name) ≡ m name
    by_file true is = absurd (let no : true ≡ false =
        ap (begins_with (staging j1)) (sym (same_name name (codes "j1/stage/0-0/" ++ file) is)) ∙ un in cc)
    by_file false is = refl

    by_state : (b : Bool) → bytes_eq name (codes "j1/stage/state") ≡ b
        → cond b (Some (clean text)) (put m (codes "j1/stage/0-0/" ++ file) (Some (clean content)) name) ≡ m name
    by_state true is = absurd (let no : true ≡ false =
        ap (begins_with (staging j1)) (sym (same_name name (codes "j1/stage/state") is)) ∙ un in cc)
    by_state false is = by_file (bytes_eq name (codes "j1/stage/0-0/" ++ file)) refl

some_state : (s t : State) → Some s ≡ Some t → s ≡ t
some_state s t e = cc

first_committed : Committed half_there no_files None 0 2 first_left
unfolding first_left change_of IsDistinct
first_committed = committed half_there no_files first_staged None one_line 0 2 first_file first_next (record {
  settled = record { closed = refl; unstaged = λ name e. refl };
  keeps = record { base = refl; deltas = λ name p. refl };
  over = staged_over no_files first_file (codes "x\n") (state_spelling version_2 one_line);
  proper = first_proper;
  follows = λ s e. absurd (let no : None ≡ Some s = e in cc);
  files = staged_for half_there 0 2 (codes "x\n") first_file first_staged first_of refl;
  state = refl;
  fits = record {
    each = refl;
    differ = ((refl, (refl, (refl, tt))), ((refl, (refl, tt)), ((refl, tt), (tt, tt))));
  };
})

first_keeps : kept_after_group job None (line_unit 0 2 ∷ []) ≡ Some (base_alone one_line)
unfolding next_state sum_of
first_keeps = refl

first_kept : KeepsAs j1 first_left (Some (base_alone one_line))
first_kept = subst (KeepsAs j1 first_left) first_keeps first_committed.keeps

second_fits : WellFormed j1 second_steps
unfolding IsDistinct
second_fits = record {
  each = refl;
  differ = ((refl, (refl, (refl, tt))), ((refl, (refl, tt)), ((refl, tt), (tt, tt))));
}

second_committed : Committed all_there first_left (Some (base_alone one_line)) 2 5 second_left
unfolding second_left change_of digits padded_digits offset
second_committed = committed all_there first_left second_staged (Some (base_alone one_line)) two_done 2 5 second_file
    second_next (record {
      settled = first_committed.settled;
      keeps = first_kept;
      over = staged_over first_left second_file (codes "yy\n") (delta_spelling version_2 one_line two_done);
      proper = second_proper;
      follows = λ s e far. subst (λ t. StateFollows t two_done) (some_state one_line s e) second_follows;
      files = staged_for all_there 2 5 (codes "yy\n") second_file second_staged second_of refl;
      state = refl;
      fits = second_fits;
    })

-- ---- the maps on the way

-- an open sequence over staged files settles to what its steps leave
opened_as : (steps : List CommitStep) (m : Files) → WellFormed j1 steps → m (codes "j1/seq") ≡ None
    → list_all (can_do m) steps ≡ true
    → SettlesAs j1 (without_staging j1 (do_steps steps m)) (put m (codes "j1/seq") (Some (clean (sequence_text steps))))
opened_as steps m fits closed can = images_alike j1 (put m (codes "j1/seq") (Some (clean (sequence_text steps))))
    (without_staging j1 (do_steps steps m)) (λ f e. (sequence_text steps, clean_is f e))
    (opened j1 steps m fits closed can)
  where
    clean_is : (f : File) → Some (clean (sequence_text steps)) ≡ Some f → f ≡ clean (sequence_text steps)
    clean_is f e = let is : clean (sequence_text steps) ≡ f = cc in sym is

first_fits : WellFormed j1 first_steps
unfolding IsDistinct
first_fits = record {
  each = refl;
  differ = ((refl, (refl, (refl, tt))), ((refl, (refl, tt)), ((refl, tt), (tt, tt))));
}

first_trail : TrailOfRun job half_there [] no_files (first_staged ∷ first_open ∷ first_left ∷ [])
unfolding first_left
first_trail = trail_of half_there no_files first_staged first_left None 0 2 (first_open ∷ first_left ∷ [])
    (record { base = refl; deltas = λ name p. refl }) (record { closed = refl; unstaged = λ name e. refl })
    (staged_over no_files first_file (codes "x\n") (state_spelling version_2 one_line))
    first_committed first_groups tt (
      opened_as first_steps first_staged first_fits refl refl,
      (settles_itself j1 first_left first_committed.settled.closed first_committed.settled.unstaged, tt),
    )

stopped_settles : Settles j1 second_stopped second_left
unfolding second_stopped second_left first_left do_steps after_rename without_staging
stopped_settles = subst (Settles j1 second_stopped) is (repeated 1)
  where
    repeated : (k : ℕ)
        → Settles j1 (do_steps (take k second_steps) second_open) (after_finish j1 second_steps second_open)
    repeated k = settling_repeats j1 second_open second_steps k (record {
      file = clean (sequence_text second_steps);
      here = refl;
      reads = record { spelled = refl; fits = second_fits };
    }) refl

    is : after_finish j1 second_steps second_open ≡ second_left
    is = to_one j1 second_open (after_finish j1 second_steps second_open) second_left (repeated 0)
        (opened j1 second_steps second_staged second_fits refl refl)

second_opened : SettlesAs j1 second_left second_open
unfolding second_left first_left do_steps after_rename without_staging
second_opened = opened_as second_steps second_staged second_fits refl refl

still_open : second_stopped (sequence_name j1) ≡ Some (clean (sequence_text second_steps))
unfolding second_stopped do_steps after_rename first_left without_staging
still_open = refl

second_trail : TrailOfRun job all_there [] first_left (second_staged ∷ second_open ∷ second_stopped ∷ [])
second_trail = trail_of all_there first_left second_staged second_left (Some (base_alone one_line)) 2 5
    (second_open ∷ second_stopped ∷ []) first_kept first_committed.settled
    (staged_over first_left second_file (codes "yy\n") (delta_spelling version_2 one_line two_done))
    second_committed second_groups tt (
      second_opened,
      (
        images_alike j1 second_stopped second_left
            (λ f e. (sequence_text second_steps, clean_is f (sym still_open ∙ e))) stopped_settles,
        tt,
      ),
    )
  where
    clean_is : (f : File) → Some (clean (sequence_text second_steps)) ≡ Some f → f ≡ clean (sequence_text second_steps)
    clean_is f e = let is : clean (sequence_text second_steps) ≡ f = cc in sym is

-- whatever the stopped map stands for, the settled one does
settling_trail : TrailOfSettling j1 second_stopped (second_left ∷ [])
unfolding Rises
settling_trail archive o all =
    let durable = steadied j1 archive o second_left second_stopped all stopped_settles in
    let settled = settled_is j1 second_stopped second_left stopped_settles in (
      second_left ∷ [],
      [],
      refl,
      (
        standing j1 archive o second_left second_left durable.0
            (settles_itself j1 second_left settled.closed settled.unstaged),
        tt,
      ),
      refl,
    )

-- ---- the history

grown : Grows half_there all_there
grown part bytes e = cases (bytes_eq part a_log) e
  where
    text_is : (x y : List ℕ) → Some x ≡ Some y → x ≡ y
    text_is x y h = cc

    cases : (b : Bool) → cond b (Some (codes "x\nyy")) None ≡ Some bytes
        → (more : List ℕ) × (cond b (Some (codes "x\nyy\n")) None ≡ Some (bytes ++ more))
    cases true e = (codes "\n", ap (λ t. Some (t ++ codes "\n")) (text_is (codes "x\nyy") bytes e))
    cases false e = absurd (let no : None ≡ Some bytes = e in cc)

same_all : Grows all_there all_there
same_all part bytes e = ([], e ∙ ap (λ b. Some b) (sym (append-nil bytes)))

same_half : Grows half_there half_there
same_half part bytes e = ([], e ∙ ap (λ b. Some b) (sym (append-nil bytes)))

is_history : History (Round j1) j1 over_time
is_history =
    let start = begins half_there no_files (λ name e. refl) in
    let after_first = goes_on half_there half_there no_files first_left [] start same_half (record {
      added = first_staged ∷ first_open ∷ first_left ∷ [];
      round = running job refl example.tells half_there (λ part bytes e. e) [] first_trail;
      left = first_left;
      how = inr refl;
      same = λ name e. refl;
    }) in
    let after_stop = goes_on half_there all_there first_left second_stopped ((half_there, no_files) ∷ []) after_first
    grown (record {
      added = second_staged ∷ second_open ∷ second_stopped ∷ [];
      round = running job refl example.tells all_there (λ part bytes e. e) [] second_trail;
      left = second_stopped;
      how = inr refl;
      same = λ name e. refl;
    }) in
    goes_on all_there all_there second_stopped second_left ((half_there, first_left) ∷ (half_there, no_files) ∷ [])
    after_stop same_all (record {
      added = second_left ∷ [];
      round = settling settling_trail;
      left = second_left;
      how = inr refl;
      same = λ name e. refl;
    })

-- a map that recovers to a state, and settles to one that keeps this, recovers to this
state_is : (archive : Held) (m n : Files) (k : Option Kept) (o : Option State) → AllRecoverTo j1 archive o m
    → Settles j1 m n → KeepsAs j1 n k → o ≡ option_map state_of k
state_is archive m n k o all settles keeps =
    let stored = (steadied j1 archive o n m all settles).0.stores in
    same_stored k stored.0 o n keeps stored.1 stored.2

itself : (m : Files) → IsSettled j1 m → Settles j1 m m
itself m settled = (staged_free j1 m m settled (λ name e. refl)).0

second_keeps : option_map state_of (kept_after_group job (Some (base_alone one_line)) (line_unit 2 5 ∷ []))
    ≡ Some two_done
unfolding next_state sum_of
second_keeps = refl

second_kept : (k : Option Kept) × KeepsAs j1 second_left k × (option_map state_of k ≡ Some two_done)
second_kept = (
  kept_after_group job (Some (base_alone one_line)) (line_unit 2 5 ∷ []),
  second_committed.keeps,
  second_keeps,
)

recovers : (os : List (Option State)) → RecoverAlong j1 over_time os
    → RecoverAlong j1 over_time (Some two_done ∷ Some two_done ∷ Some one_line ∷ None ∷ [])
recovers [] r = absurd r
recovers (p ∷ []) r = absurd r
recovers (p ∷ q ∷ []) r = absurd r.2
recovers (p ∷ q ∷ s ∷ []) r = absurd r.2.2
recovers (p ∷ q ∷ s ∷ t ∷ u ∷ os) r = absurd r.2.2.2
recovers (p ∷ q ∷ s ∷ t ∷ []) r =
    let settled = settled_is j1 second_stopped second_left stopped_settles in
    let p_is = state_is all_there second_left second_left second_kept.0 p r.0 (itself second_left settled) second_kept.1
    ∙ second_kept.2 in
    let q_is = state_is all_there second_stopped second_left second_kept.0 q r.2.0 stopped_settles second_kept.1
    ∙ second_kept.2 in
    let s_is = state_is half_there first_left first_left (Some (base_alone one_line)) s r.2.2.0
    (itself first_left first_committed.settled) first_kept in
    let t_is = state_is half_there no_files no_files None t r.2.2.2
    (itself no_files (record { closed = refl; unstaged = λ name e. refl }))
    (record { base = refl; deltas = λ name p. refl }) in
    subst (RecoverAlong j1 over_time) (λ i. p_is i ∷ q_is i ∷ s_is i ∷ t_is i ∷ []) r

is_stopped : StopsHalfWay
unfolding second_stopped do_steps after_rename first_left without_staging
is_stopped = record { moved = refl; gone = refl; waiting = refl; unmoved = refl }

is_left : LeavesHalfLine
unfolding second_left do_steps after_rename first_left without_staging delta_spelling digits escape_of
is_left = record { first = refl; second = refl; state = refl; change = refl }

pub half_line_history : HalfLineHistory
half_line_history = record {
  first_run = first_states;
  second_run = second_states;
  stopped = is_stopped;
  left = is_left;
  settles = stopped_settles;
  history = is_history;
  recovers = let along = stands_along j1 over_time is_history in recovers along.0 along.1;
}
