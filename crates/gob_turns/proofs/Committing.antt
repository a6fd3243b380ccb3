-- What is staged of all good units can be moved by one commit, and what they counted can be kept.
use Rattle.std.proofs.Common.{inl, inr, ◌≡◌, ◌≢◌, ◌⊎◌, ⊎_elim, ℕ, zero, suc, ◌+◌, ◌^◌, ◌<◌, ◌≤◌, Bool, true, false}
use Rattle.std.proofs.Common.{cond}
use Rattle.std.proofs.Common.{not, ◌&&◌, nat_eq, List, [], ◌∷◌, ◌++◌, length, map, codes, refl, sym, ap, subst, ◌∙◌}
use Rattle.std.proofs.Common.{arith}
use Rattle.std.proofs.Common.{append_assoc, Some, None, Option, IfSome, is_some, IsSome, decimal}
use Rattle.std.specs.Char.{is_ascii_digit}
use Rattle.std.specs.List.{AllByRecursion, Contains, IsDistinct, enumerate_from, flat_map, list_all, range_with_len}
use Rattle.std.specs.List.{slice_get}
use Rattle.std.specs.Str.{all_ascii_digits, bytes_eq}
use Rattle.std.specs.Str.Parse.{digits_value}
use Rattle.std.proofs.lemmas.Bool.{and_parts, eq-eqb}
use Rattle.std.proofs.lemmas.Fmt.{digits_decimal}
use Rattle.std.proofs.lemmas.List.{append_cancel_left, map-append}
use Rattle.std.proofs.lemmas.List.Elements.{All-map, Contains-append_cases}
use Rattle.std.proofs.lemmas.List.FromFn.{length-map-range_with_len}
use Rattle.std.proofs.lemmas.Option.{none-some, same_Some, slice_get-get_or, slice_get_within}
use Rattle.std.proofs.lemmas.Str.Parse.{IsNumeralModel, numerals_by_value, tells_all_ascii_digits}
use Rattle.std.specs.declared.cmp.Ordering.TheVariants.{Less}
use Rattle.gob_bytes.specs.Paths.{attempt_folder, begins_with, is_published, sequence_name, staging, under}
use Rattle.gob_bytes.specs.Tables.{IsInByteOrder, name_cmp}
use Rattle.gob_bytes.proofs.Forms.{bytes_from_utf8, own}
use Rattle.gob_bytes.proofs.Tables.{less_apart, less_then, name_itself, rising_tail, two_names}
use Rattle.gob_bytes.proofs.Paths.{front_more, under_front, cancel_under, sequence_unpublished}
use Rattle.gob_device.specs.Disk.{Disk}
use Rattle.gob_device.specs.Supply.{Supply}
use Rattle.gob_plan.specs.declared.plan.Plan.{Plan}
use Rattle.gob_plan.specs.declared.plan.TurnRules.{TurnRules}
use Rattle.gob_plan.specs.declared.units.Counts.{Counts}
use Rattle.gob_plan.specs.declared.units.StagedFile.{StagedFile}
use Rattle.gob_plan.specs.declared.units.Unit.{Unit as WorkUnit}
use Rattle.gob_plan.specs.declared.units.UnitResult.{UnitResult}
use Rattle.gob_plan.specs.declared.units.UnitResult.TheVariants as unit_result
use Rattle.gob_bytes.specs.Lines.{ends_in_lf}
use Rattle.gob_plan.specs.declared.units.Cause.{Cause}
use Rattle.gob_plan.specs.declared.units.Cause.TheVariants.{Gone, Torn}
use Rattle.gob_meaning.specs.Fold.{Folded, branch_counts, counts_of, stop_of, unit_fold}
use Rattle.gob_meaning.specs.Results.{failed, first_failing, good, unless_stopped, verdict_by_policies, verdict_of}
use Rattle.gob_meaning.specs.Items.{Target, bad}
use Rattle.gob_meaning.specs.Names.{target_name}
use Rattle.gob_meaning.proofs.Apart.{names_apart}
use Rattle.gob_meaning.proofs.Placed.{sent_is_placed}
use Rattle.gob_ledger.specs.Laws.{ProperCounts, ProperUnit}
use Rattle.gob_ledger.specs.Next.{counts_in}
use Rattle.gob_ledger.specs.Spelling.{SmallBranch}
use Rattle.gob_ledger.specs.Units.{same_unit}
use Rattle.gob_ledger.proofs.Members.{first_in, in_cases, in_flat_map, in_map, later_in, map_in, none_in}
use Rattle.gob_recovery.specs.Sequence.{is_lasting, is_staged, move, names_in, step_fits}
use Rattle.gob_history.specs.Laws.{moves_of}
use Rattle.gob_history.proofs.Fronts.{published_unstaged, made_in}
use Rattle.gob_stage.proofs.Folders.{attempts_apart, attempts_staged, folder_parts}
use Rattle.gob_state.specs.Committed.{verdict_in}
use Rattle.gob_task.specs.Finish.{IsStagedFor}
use Rattle.gob_task.specs.Task.{name_in, unit_sends}
use Rattle.gob_task.specs.Turn.{Devices, TurnRulesValue}
use Rattle.gob_turns.specs.Asked.{MayHaveTurns}
use Rattle.gob_turns.specs.Standing.{HasResult, results_in}
use Rattle.gob_turns.specs.Taken.{AreCommittable, IsStagedPair, all_moves, moves_in}
use Rattle.gob_turns.proofs.Ending.{HaveEnded}
use Rattle.gob_turns.proofs.Picking.{contains_at}
use Rattle.gob_turns.specs.declared.progress.Progress.{Progress}
use Rattle.gob_turns.proofs.Publishing.{pair_of}

-- ---- members

got : {X : Type 0} (xs : List X) (x : X) → Contains xs x → (i : ℕ) × (slice_get xs i ≡ Some x)
got xs x (i, below, is) = (i, slice_get-get_or xs i x below ∙ ap Some is)

got_within : {X : Type 0} (xs : List X) (i : ℕ) → i < length xs → (x : X) × (slice_get xs i ≡ Some x)
got_within [] i below = absurd (omega (arith, below))
got_within (x ∷ xs) zero below = (x, refl)
got_within (x ∷ xs) (suc i) below = got_within xs i (omega (arith, below))

each_of : {X : Type 0} (P : X → Type 0) (xs : List X) → ((x : X) → Contains xs x → P x) → AllByRecursion P xs
each_of P [] all = tt
each_of P (x ∷ xs) all = (all x (first_in x xs x refl), each_of P xs (λ y at. all y (later_in x xs y at)))

of_each : {X : Type 0} (P : X → Type 0) (xs : List X) (x : X) → AllByRecursion P xs → Contains xs x → P x
of_each P [] x all at = none_in x at
of_each P (y ∷ ys) x all at = ⊎_elim (λ e. subst P e all.0) (λ k. of_each P ys x all.1 k) (in_cases y ys x at)

distinct_join : (xs ys : List (List ℕ)) → IsDistinct bytes_eq xs → IsDistinct bytes_eq ys
    → ((x y : List ℕ) → Contains xs x → Contains ys y → x ≢ y) → IsDistinct bytes_eq (xs ++ ys)
unfolding IsDistinct
distinct_join [] ys first later apart = later
distinct_join (x ∷ xs) ys first later apart = (
  each_of (λ y. bytes_eq x y ≡ false) (xs ++ ys) (λ y at. ⊎_elim
      (λ k. of_each (λ z. bytes_eq x z ≡ false) xs y first.0 k)
      (λ k. two_names x y (apart x y (first_in x xs x refl) k))
      (Contains-append_cases xs ys y at)),
  distinct_join xs ys first.1 later (λ z y at k. apart z y (later_in x xs z at) k),
)

-- ---- one file

-- a pair of names is that of a staged file of this unit
record IsFileOf (rules : TurnRulesValue) (u : WorkUnit) (i : ℕ) (p : List ℕ × List ℕ) : Type 0 where
  file : StagedFile
  is : pair_of file ≡ p
  bytes : List ℕ
  failures : ℕ
  small : failures < 2 ^ 32
  listed : u.listed ≡ true
  its : IsStagedFor rules.job rules.plan u (attempt_folder rules.job i failures) (unit_sends rules.plan u bytes) file

-- a good unit is listed
good_listed : (plan : Plan) (u : WorkUnit) (bytes : List ℕ) (n : Counts) (ws : List ℕ)
    → good n ws ≡ verdict_of plan u bytes → u.listed ≡ true
unfolding verdict_of
good_listed plan u bytes n ws is = cases u.listed refl is
  where
    cases : (b : Bool) → u.listed ≡ b
        → good n ws ≡ cond b (unless_stopped plan u.lo bytes (stop_of plan (unit_fold plan u.lo bytes))) (failed Gone)
        → b ≡ true
    cases true e is = refl
    cases false e is = absurd (let no : good n ws ≡ failed Gone = is in cc)

file_of : (rules : TurnRulesValue) (u : WorkUnit) (i : ℕ) (supply : Option Supply) (disk : Option Disk) (r : UnitResult)
    → HasResult rules u i supply disk r → (p : List ℕ × List ℕ) → Contains (moves_in r) p → IsFileOf rules u i p
file_of rules u i supply disk (unit_result.Failed c) is p at = none_in p at
file_of rules u i supply disk (unit_result.Good n ws files) is p at =
    let found = in_map pair_of files p at in
    record {
      file = found.0;
      is = found.2;
      bytes = is.bytes;
      failures = is.failures;
      small = is.small;
      listed = good_listed rules.plan u is.bytes n ws is.verdict;
      its = is.files.each found.0 found.1;
    }

same_head : (x y : ℕ) (xs ys : List ℕ) → x ∷ xs ≡ y ∷ ys → x ≡ y
same_head x y xs ys e = cc

-- a number isn't a word that begins with an s
no_word : (ds rest more : List ℕ) → all_ascii_digits ds ≡ true → ds ++ 45 ∷ rest ≡ 115 ∷ more → ⊥
no_word [] rest more digits e = let no : 45 ≡ 115 = same_head 45 115 rest more e in omega (arith, no)
no_word (d ∷ ds) rest more digits e =
    let is : d ≡ 115 = same_head d 115 (ds ++ 45 ∷ rest) more e in
    let digit : is_ascii_digit d ≡ true = (and_parts (is_ascii_digit d) (all_ascii_digits ds) digits).0 in
    let no : false ≡ true = ap is_ascii_digit (sym is) ∙ digit in cc

-- a staged file isn't in the folder of staged files itself
not_top : (job name more : List ℕ) (i failures : ℕ) → i < 2 ^ 32
    → attempt_folder job i failures ++ name ≡ staging job ++ 115 ∷ more → ⊥
not_top job name more i failures small e =
    no_word (decimal i) (decimal failures ++ 47 ∷ name) more (digits_decimal own i (omega arith))
    (append_cancel_left (staging job) (decimal i ++ 45 ∷ (decimal failures ++ 47 ∷ name)) (115 ∷ more)
    (sym (folder_parts job i failures name) ∙ e))

-- what is known of one pair
record IsFinePair (job : List ℕ) (p : List ℕ × List ℕ) : Type 0 where
  pair : IsStagedPair job p
  fits : step_fits job (move p.0 p.1) ≡ true

fine_pair : (rules : TurnRulesValue) (u : WorkUnit) (i : ℕ) (p : List ℕ × List ℕ) → i < 2 ^ 32
    → IsFileOf rules u i p → IsFinePair rules.job p
fine_pair rules u i p small f = subst (IsFinePair rules.job) f.is fine
  where
    job : List ℕ
    job = rules.job

    file : StagedFile
    file = f.file

    folder : List ℕ
    folder = attempt_folder job i f.failures

    name : List ℕ
    name = name_in rules.plan u f.its.target

    staged : begins_with (staging job) file.from ≡ true
    staged = attempts_staged job i f.failures file.from
        (subst (λ n. begins_with folder n ≡ true) (sym f.its.staged) (front_more folder name))

    other : (more : List ℕ) → file.from ≢ staging job ++ 115 ∷ more
    other more e = not_top job name more i f.failures small (sym f.its.staged ∙ e)

    published : is_published job file.to ≡ true
    published = ap (is_published job) f.its.published ∙ made_in job rules.plan u.part u.lo u.hi f.its.target

    is_staged_file : is_staged job file.from ≡ true
    is_staged_file = (λ k. staged k && not (two_names file.from (staging job ++ codes "seq") (other (codes "eq")) k))

    under_job : begins_with (under job []) file.to ≡ true
    under_job = ap (begins_with (under job [])) f.its.published
        ∙ (under_front job [] name ∙ any_front name)
      where
        any_front : (n : List ℕ) → begins_with [] n ≡ true
        any_front [] = refl
        any_front (b ∷ bs) = refl

    off_sequence : file.to ≢ sequence_name job
    off_sequence e =
        let no : false ≡ true = sym (sequence_unpublished job) ∙ (sym (ap (is_published job) e) ∙ published) in cc

    lasting : is_lasting job file.to ≡ true
    lasting = (λ k. under_job k && not (published_unstaged job file.to published k)
        && not (two_names file.to (sequence_name job) off_sequence k))

    fine : IsFinePair job (pair_of file)
    fine = record {
      pair = record { staged = staged; other = other (codes "tate"); published = published };
      fits = (λ k. is_staged_file k && lasting k && f.its.spelled.0 k && f.its.spelled.1 k);
    }

-- ---- all files

-- each of these results stands for its unit, the first of which has this number
abbrev AllStand : TurnRulesValue → Option Supply → Option Disk → ℕ → List WorkUnit → List UnitResult → Type 0
AllStand rules supply disk i us rs = (j : ℕ) (u : WorkUnit) (r : UnitResult) → slice_get us j ≡ Some u
    → slice_get rs j ≡ Some r → HasResult rules u (i + j) supply disk r

stand_later : (rules : TurnRulesValue) (supply : Option Supply) (disk : Option Disk) (i : ℕ) (u : WorkUnit)
    (us : List WorkUnit) (r : UnitResult) (rs : List UnitResult) → AllStand rules supply disk i (u ∷ us) (r ∷ rs)
    → AllStand rules supply disk (i + 1) us rs
stand_later rules supply disk i u us r rs all j v x at is =
    let next : i + suc j ≡ i + 1 + j = omega arith in
    subst (λ n. HasResult rules v n supply disk x) next (all (suc j) v x at is)

-- a file of one of these units
record IsAmongFiles (rules : TurnRulesValue) (i : ℕ) (us : List WorkUnit) (p : List ℕ × List ℕ) : Type 0 where
  at : ℕ
  unit : WorkUnit
  of_unit : slice_get us at ≡ Some unit
  file : IsFileOf rules unit (i + at) p

among_files : (rules : TurnRulesValue) (supply : Option Supply) (disk : Option Disk) (i : ℕ) (us : List WorkUnit)
    (rs : List UnitResult) → length rs ≡ length us → AllStand rules supply disk i us rs
    → (p : List ℕ × List ℕ) → Contains (all_moves rs) p → IsAmongFiles rules i us p
among_files rules supply disk i us rs long all p at =
    let found = in_flat_map moves_in rs p at in
    let r : UnitResult = found.0 in
    let here = got rs r found.1 in
    let below = slice_get_within rs here.0 r here.1 in
    let unit = got_within us here.0 (omega (arith, below, long)) in
    record {
      at = here.0;
      unit = unit.0;
      of_unit = unit.1;
      file = file_of rules unit.0 (i + here.0) supply disk r (all here.0 unit.0 r unit.1 here.1) p found.2;
    }

-- names of two files of one unit differ
own_apart : (files : List StagedFile) → IsInByteOrder (map (λ f. f.to) files)
    → IsDistinct bytes_eq (map (λ f. f.to) files)
unfolding IsDistinct
own_apart [] order = tt
own_apart (f ∷ fs) order = (
  each_of (λ y. bytes_eq f.to y ≡ false) (map (λ g. g.to) fs)
      (λ y at. two_names f.to y (less_apart f.to y (below_all f.to (map (λ g. g.to) fs) order y at))),
  own_apart fs (rising_tail f.to (map (λ g. g.to) fs) order),
)
  where
    below_all : (x : List ℕ) (xs : List (List ℕ)) → IsInByteOrder (x ∷ xs) → (y : List ℕ) → Contains xs y
        → name_cmp x y ≡ Less
    below_all x [] order y at = none_in y at
    below_all x (z ∷ zs) order y at = ⊎_elim
        (λ e. subst (λ n. name_cmp x n ≡ Less) e order.0)
        (λ k. less_then x z y order.0 (below_all z zs order.1 y k))
        (in_cases z zs y at)

-- ---- the names of one unit's files

bytes_apart : (x y : List ℕ) → bytes_eq x y ≡ false → x ≡ y → ⊥
bytes_apart x y apart e =
    let no : true ≡ false = sym (name_itself x) ∙ (ap (bytes_eq x) e ∙ apart) in cc

froms_apart : (rules : TurnRulesValue) (u : WorkUnit) (folder bytes : List ℕ) (files : List StagedFile)
    → ((f : StagedFile) → Contains files f → IsStagedFor rules.job rules.plan u folder
    (unit_sends rules.plan u bytes) f)
    → IsDistinct bytes_eq (map (λ f. f.to) files) → IsDistinct bytes_eq (map (λ f. f.from) files)
unfolding IsDistinct
froms_apart rules u folder bytes [] each tos = tt
froms_apart rules u folder bytes (f ∷ fs) each tos = (
  each_of (λ y. bytes_eq f.from y ≡ false) (map (λ g. g.from) fs)
      (λ y at. two_names f.from y (other y (in_map (λ g. g.from) fs y at))),
  froms_apart rules u folder bytes fs (λ g at. each g (later_in f fs g at)) tos.1,
)
  where
    other : (y : List ℕ) → (g : StagedFile) × Contains fs g × (g.from ≡ y) → f.from ≢ y
    other y found e =
        let g : StagedFile = found.0 in
        let here = each f (first_in f fs f refl) in
        let there = each g (later_in f fs g found.1) in
        let names : name_in rules.plan u here.target ≡ name_in rules.plan u there.target =
        append_cancel_left folder (name_in rules.plan u here.target) (name_in rules.plan u there.target)
        (sym here.staged ∙ (e ∙ (sym found.2 ∙ there.staged))) in
        bytes_apart f.to g.to
        (of_each (λ z. bytes_eq f.to z ≡ false) (map (λ h. h.to) fs) g.to tos.0
        (map_in (λ (h : StagedFile). h.to) fs g found.1))
        (here.published ∙ (ap (under rules.job) names ∙ sym there.published))

tos_are : (files : List StagedFile) → map (λ (p : List ℕ × List ℕ). p.1) (map pair_of files) ≡ map (λ f. f.to) files
tos_are [] = refl
tos_are (f ∷ fs) = ap (λ ns. f.to ∷ ns) (tos_are fs)

froms_are : (files : List StagedFile) → map (λ (p : List ℕ × List ℕ). p.0) (map pair_of files) ≡ map (λ f. f.from) files
froms_are [] = refl
froms_are (f ∷ fs) = ap (λ ns. f.from ∷ ns) (froms_are fs)

tos_of : (rules : TurnRulesValue) (u : WorkUnit) (i : ℕ) (supply : Option Supply) (disk : Option Disk) (r : UnitResult)
    → HasResult rules u i supply disk r → IsDistinct bytes_eq (map (λ p. p.1) (moves_in r))
unfolding IsDistinct
tos_of rules u i supply disk (unit_result.Failed c) is = tt
tos_of rules u i supply disk (unit_result.Good n ws files) is =
    subst (IsDistinct bytes_eq) (sym (tos_are files)) (own_apart files is.files.order)

froms_of : (rules : TurnRulesValue) (u : WorkUnit) (i : ℕ) (supply : Option Supply) (disk : Option Disk)
    (r : UnitResult) → HasResult rules u i supply disk r → IsDistinct bytes_eq (map (λ p. p.0) (moves_in r))
unfolding IsDistinct
froms_of rules u i supply disk (unit_result.Failed c) is = tt
froms_of rules u i supply disk (unit_result.Good n ws files) is =
    subst (IsDistinct bytes_eq) (sym (froms_are files))
    (froms_apart rules u (attempt_folder rules.job i is.failures) is.bytes files is.files.each
    (own_apart files is.files.order))

-- ---- the names of all files

-- units as these can have turns
record AreApart (rules : TurnRulesValue) (us : List WorkUnit) : Type 0 where
  once : IsDistinct same_unit us
  branches : length rules.plan.branches ≤ 8
  proper : (u : WorkUnit) → Contains us u → ProperUnit u
  ordered : (u : WorkUnit) → Contains us u → u.listed ≡ true → u.lo < u.hi

apart_later : (rules : TurnRulesValue) (u : WorkUnit) (us : List WorkUnit) → AreApart rules (u ∷ us) → AreApart rules us
unfolding IsDistinct
apart_later rules u us are = record {
  once = are.once.1;
  branches = are.branches;
  proper = λ v at. are.proper v (later_in u us v at);
  ordered = λ v at. are.ordered v (later_in u us v at);
}

same_units : (u v : WorkUnit) → u.part ≡ v.part → u.lo ≡ v.lo → u.hi ≡ v.hi → same_unit u v ≡ true
same_units u v part lo hi =
    (λ k. bytes_eq u.part (sym part k) && (nat_eq u.lo (sym lo k) && nat_eq u.hi (sym hi k)))
    ∙ (λ k. name_itself u.part k && (eq-eqb u.lo u.lo refl k && eq-eqb u.hi u.hi refl k))

tos_differ : (rules : TurnRulesValue) (u v : WorkUnit) (i j : ℕ) (p q : List ℕ × List ℕ)
    → length rules.plan.branches ≤ 8 → ProperUnit u → ProperUnit v → (u.listed ≡ true → u.lo < u.hi)
    → (v.listed ≡ true → v.lo < v.hi) → same_unit u v ≡ false
    → IsFileOf rules u i p → IsFileOf rules v j q → p.1 ≢ q.1
tos_differ rules u v i j p q few proper proper_v ordered ordered_v apart f g e =
    let less = ordered f.listed in
    let less_v = ordered_v g.listed in
    let small = proper.small in
    let small_v = proper_v.small in
    let paths : name_in rules.plan u f.its.target ≡ name_in rules.plan v g.its.target =
    cancel_under rules.job (name_in rules.plan u f.its.target) (name_in rules.plan v g.its.target)
    (sym f.its.published ∙ (ap (λ (x : List ℕ × List ℕ). x.1) f.is ∙ (e
    ∙ (sym (ap (λ (x : List ℕ × List ℕ). x.1) g.is) ∙ g.its.published)))) in
    let same = names_apart rules.plan rules.plan u.part v.part u.lo v.lo u.hi v.hi f.its.target g.its.target
    (bytes_from_utf8 u.part proper.text, omega arith, small) (
      bytes_from_utf8 v.part proper_v.text,
      omega arith,
      small_v,
    )
    (sent_is_placed rules.plan u.lo f.bytes f.its.target (omega arith) f.its.some)
    (sent_is_placed rules.plan v.lo g.bytes g.its.target (omega arith) g.its.some) paths in
    let no : true ≡ false = sym (same_units u v same.0 same.1 same.2) ∙ apart in
    cc

distinct_tos : (rules : TurnRulesValue) (supply : Option Supply) (disk : Option Disk) (i : ℕ) (us : List WorkUnit)
    (rs : List UnitResult) → length rs ≡ length us → AreApart rules us → AllStand rules supply disk i us rs
    → IsDistinct bytes_eq (map (λ p. p.1) (all_moves rs))
unfolding IsDistinct
distinct_tos rules supply disk i us [] long are all = tt
distinct_tos rules supply disk i [] (r ∷ rs) long are all = absurd (omega (arith, long))
distinct_tos rules supply disk i (u ∷ us) (r ∷ rs) long are all =
    let here : HasResult rules u i supply disk r =
    subst (λ n. HasResult rules u n supply disk r) (let e : i + 0 ≡ i = omega arith in e) (all 0 u r refl refl) in
    let later = stand_later rules supply disk i u us r rs all in
    subst (IsDistinct bytes_eq) (sym (map-append (λ (p : List ℕ × List ℕ). p.1) (moves_in r) (all_moves rs)))
    (distinct_join (map (λ p. p.1) (moves_in r)) (map (λ p. p.1) (all_moves rs)) (tos_of rules u i supply disk r here)
    (distinct_tos rules supply disk (i + 1) us rs (omega (arith, long)) (apart_later rules u us are) later)
    (λ x y at_x at_y e.
    let p = in_map (λ (p : List ℕ × List ℕ). p.1) (moves_in r) x at_x in
    let q = in_map (λ (p : List ℕ × List ℕ). p.1) (all_moves rs) y at_y in
    let f = file_of rules u i supply disk r here p.0 p.1 in
    let g = among_files rules supply disk (i + 1) us rs (omega (arith, long)) later q.0 q.1 in
    let among = contains_at us g.at g.unit g.of_unit in
    tos_differ rules u g.unit i (i + 1 + g.at) p.0 q.0 are.branches (are.proper u (first_in u us u refl))
    (are.proper g.unit (later_in u us g.unit among)) (are.ordered u (first_in u us u refl))
    (are.ordered g.unit (later_in u us g.unit among))
    (of_each (λ v. same_unit u v ≡ false) us g.unit are.once.0 among) f g.file (p.2 ∙ (e ∙ sym q.2))))

froms_differ : (rules : TurnRulesValue) (u v : WorkUnit) (i j : ℕ) (p q : List ℕ × List ℕ) → i < 2 ^ 32 → j < 2 ^ 32
    → i ≢ j → IsFileOf rules u i p → IsFileOf rules v j q → p.0 ≢ q.0
froms_differ rules u v i j p q small small_j apart f g e =
    let first : List ℕ = attempt_folder rules.job i f.failures in
    let second : List ℕ = attempt_folder rules.job j g.failures in
    let away = attempts_apart rules.job i f.failures j g.failures small f.small small_j g.small
    (λ same. absurd (apart same)) in
    let here : begins_with first f.file.from ≡ true =
    subst (λ n. begins_with first n ≡ true) (sym f.its.staged) (front_more first (name_in rules.plan u f.its.target)) in
    let there : begins_with second g.file.from ≡ true =
    subst (λ n. begins_with second n ≡ true) (sym g.its.staged) (front_more second
    (name_in rules.plan v g.its.target)) in
    let same : f.file.from ≡ g.file.from =
    ap (λ (x : List ℕ × List ℕ). x.0) f.is ∙ (e ∙ sym (ap (λ (x : List ℕ × List ℕ). x.0) g.is)) in
    let no : true ≡ false = sym there ∙ (sym (ap (begins_with second) same) ∙ away.names f.file.from here) in
    cc

distinct_froms : (rules : TurnRulesValue) (supply : Option Supply) (disk : Option Disk) (i : ℕ) (us : List WorkUnit)
    (rs : List UnitResult) → length rs ≡ length us → i + length us < 2 ^ 32 → AllStand rules supply disk i us rs
    → IsDistinct bytes_eq (map (λ p. p.0) (all_moves rs))
unfolding IsDistinct
distinct_froms rules supply disk i us [] long few all = tt
distinct_froms rules supply disk i [] (r ∷ rs) long few all = absurd (omega (arith, long))
distinct_froms rules supply disk i (u ∷ us) (r ∷ rs) long few all =
    let here : HasResult rules u i supply disk r =
    subst (λ n. HasResult rules u n supply disk r) (let e : i + 0 ≡ i = omega arith in e) (all 0 u r refl refl) in
    let later = stand_later rules supply disk i u us r rs all in
    subst (IsDistinct bytes_eq) (sym (map-append (λ (p : List ℕ × List ℕ). p.0) (moves_in r) (all_moves rs)))
    (distinct_join (map (λ p. p.0) (moves_in r)) (map (λ p. p.0) (all_moves rs)) (froms_of rules u i supply disk r here)
    (distinct_froms rules supply disk (i + 1) us rs (omega (arith, long)) (omega (arith, few)) later)
    (λ x y at_x at_y e.
    let p = in_map (λ (p : List ℕ × List ℕ). p.0) (moves_in r) x at_x in
    let q = in_map (λ (p : List ℕ × List ℕ). p.0) (all_moves rs) y at_y in
    let f = file_of rules u i supply disk r here p.0 p.1 in
    let g = among_files rules supply disk (i + 1) us rs (omega (arith, long)) later q.0 q.1 in
    let within = slice_get_within us g.at g.unit g.of_unit in
    froms_differ rules u g.unit i (i + 1 + g.at) p.0 q.0 (omega (arith, few)) (omega (arith, few, within))
    (λ same. omega (arith, same)) f g.file (p.2 ∙ (e ∙ sym q.2))))

-- ---- the moves

staged_apart : (job : List ℕ) (p q : List ℕ × List ℕ) → IsStagedPair job p → IsStagedPair job q → p.0 ≢ q.1
staged_apart job p q a b e =
    let no : true ≡ false =
    sym a.staged ∙ (ap (begins_with (staging job)) e ∙ published_unstaged job q.1 b.published) in
    cc

in_names : (ps : List (List ℕ × List ℕ)) (y : List ℕ) → Contains (flat_map names_in (moves_of ps)) y
    → (q : List ℕ × List ℕ) × Contains ps q × ((q.0 ≡ y) ⊎ (q.1 ≡ y))
in_names [] y at = none_in y at
in_names (p ∷ ps) y at = ⊎_elim
    (λ e. (p, first_in p ps p refl, inl e))
    (λ k. ⊎_elim (λ e. (p, first_in p ps p refl, inr e))
    (λ l. let found = in_names ps y l in (found.0, later_in p ps found.0 found.1, found.2))
    (in_cases p.1 (flat_map names_in (moves_of ps)) y k))
    (in_cases p.0 (p.1 ∷ flat_map names_in (moves_of ps)) y at)

names_distinct : (job : List ℕ) (ps : List (List ℕ × List ℕ)) → ((p : List ℕ × List ℕ) → Contains ps p
    → IsStagedPair job p)
    → IsDistinct bytes_eq (map (λ p. p.0) ps) → IsDistinct bytes_eq (map (λ p. p.1) ps)
    → IsDistinct bytes_eq (flat_map names_in (moves_of ps))
unfolding IsDistinct
names_distinct job [] each froms tos = tt
names_distinct job (p ∷ ps) each froms tos =
    let here = each p (first_in p ps p refl) in
    let later = λ (q : List ℕ × List ℕ) (at : Contains ps q). each q (later_in p ps q at) in
    let names : List (List ℕ) = flat_map names_in (moves_of ps) in (
      (
        two_names p.0 p.1 (staged_apart job p p here here),
        each_of (λ y. bytes_eq p.0 y ≡ false) names (λ y at. let found = in_names ps y at in ⊎_elim
            (λ e. subst (λ n. bytes_eq p.0 n ≡ false) e
            (of_each (λ z. bytes_eq p.0 z ≡ false) (map (λ q. q.0) ps) found.0.0 froms.0
            (map_in (λ (q : List ℕ × List ℕ). q.0) ps found.0 found.1)))
            (λ e. two_names p.0 y (λ same. staged_apart job p found.0 here (later found.0 found.1) (same ∙ sym e)))
            found.2),
      ),
      (
        each_of (λ y. bytes_eq p.1 y ≡ false) names (λ y at. let found = in_names ps y at in ⊎_elim
            (λ e. two_names p.1 y (λ same. staged_apart job found.0 p (later found.0 found.1) here (e ∙ sym same)))
            (λ e. subst (λ n. bytes_eq p.1 n ≡ false) e
            (of_each (λ z. bytes_eq p.1 z ≡ false) (map (λ q. q.1) ps) found.0.1 tos.0
            (map_in (λ (q : List ℕ × List ℕ). q.1) ps found.0 found.1)))
            found.2),
        names_distinct job ps later froms.1 tos.1,
      ),
    )

moves_fit : (job : List ℕ) (ps : List (List ℕ × List ℕ))
    → ((p : List ℕ × List ℕ) → Contains ps p → step_fits job (move p.0 p.1) ≡ true)
    → list_all (step_fits job) (moves_of ps) ≡ true
moves_fit job [] each = refl
moves_fit job (p ∷ ps) each =
    (λ k. each p (first_in p ps p refl) k && moves_fit job ps (λ q at. each q (later_in p ps q at)) k)

-- ---- what was counted

good_counts : (plan : Plan) (u : WorkUnit) (bytes : List ℕ) (n : Counts) (ws : List ℕ)
    → good n ws ≡ verdict_of plan u bytes → n ≡ counts_of plan (unit_fold plan u.lo bytes)
unfolding verdict_of
good_counts plan u bytes n ws is = listed u.listed is
  where
    all : Counts
    all = counts_of plan (unit_fold plan u.lo bytes)

    same : (m : Counts) (vs : List ℕ) → good n ws ≡ good m vs → n ≡ m
    same m vs e = cc

    ruled : (o : Option ℕ) → good n ws ≡ verdict_by_policies plan all o → n ≡ all
    ruled (Some k) e = absurd (let no : good n ws ≡ verdict_by_policies plan all (Some k) = e in cc)
    ruled None e = same all _ e

    ended : (b : Bool) → good n ws ≡ cond b (verdict_by_policies plan all
        (first_failing (enumerate_from 0 plan.task_policies) all)) (failed Torn) → n ≡ all
    ended true e = ruled (first_failing (enumerate_from 0 plan.task_policies) all) e
    ended false e = absurd (let no : good n ws ≡ failed Torn = e in cc)

    stopped : (o : Option Cause) → good n ws ≡ unless_stopped plan u.lo bytes o → n ≡ all
    stopped (Some c) e = absurd (let no : good n ws ≡ failed c = e in cc)
    stopped None e = ended (ends_in_lf bytes) e

    listed : (b : Bool) → good n ws
        ≡ cond b (unless_stopped plan u.lo bytes (stop_of plan (unit_fold plan u.lo bytes))) (failed Gone) → n ≡ all
    listed true e = stopped (stop_of plan (unit_fold plan u.lo bytes)) e
    listed false e = absurd (let no : good n ws ≡ failed Gone = e in cc)

proper_counts : (plan : Plan) (fold : List Folded) → length plan.branches ≤ 8 → ProperCounts (counts_of plan fold)
unfolding counts_of
proper_counts plan fold few =
    let many = length-map-range_with_len (branch_counts fold) 0 (length plan.branches) in
    record {
      small = record {
        records = omega arith;
        bad = omega arith;
        rows = omega arith;
        unrouted = omega arith;
        branches = All-map SmallBranch (branch_counts fold) (range_with_len 0 (length plan.branches))
            (λ k d below. record { written = omega arith; errors = omega arith; optional = omega arith });
      };
      few = omega (arith, many, few);
    }

counted_of : (rules : TurnRulesValue) (u : WorkUnit) (i : ℕ) (supply : Option Supply) (disk : Option Disk)
    (r : UnitResult) (c : Counts) → length rules.plan.branches ≤ 8 → HasResult rules u i supply disk r
    → counts_in (verdict_in r) ≡ Some c → ProperCounts c
counted_of rules u i supply disk (unit_result.Failed e) c few is counts = absurd (none-some c counts)
counted_of rules u i supply disk (unit_result.Good n ws files) c few is counts =
    subst ProperCounts
    (sym (good_counts rules.plan u is.bytes n ws is.verdict) ∙ same_Some n c counts)
    (proper_counts rules.plan (unit_fold rules.plan u.lo is.bytes) few)

there_of : (rules : TurnRulesValue) (u : WorkUnit) (i : ℕ) (supply : Option Supply) (d : Disk) (r : UnitResult)
    (p : List ℕ × List ℕ) → HasResult rules u i supply (Some d) r → Contains (moves_in r) p → IsSome (d.files p.0)
there_of rules u i supply d (unit_result.Failed c) p is at = none_in p at
there_of rules u i supply d (unit_result.Good n ws files) p is at =
    let found = in_map pair_of files p at in
    let its = is.files.each found.0 found.1 in
    ap (λ (q : List ℕ × List ℕ). is_some (d.files q.0)) (sym found.2)
    ∙ ap is_some (is.hold found.0 its.target found.1 its.some its.published)

-- ---- all of it

pub are_committable : (rules : TurnRulesValue) (turns : TurnRules) (units : List WorkUnit) (states : List Progress)
    (losses : List ℕ) (first now : Devices) (results : List UnitResult) → MayHaveTurns rules turns units
    → HaveEnded rules turns units states losses first now → results ≡ results_in states
    → AreCommittable rules.job units results now.disk
are_committable rules turns units states losses first now results may ended same =
    subst (λ rs. AreCommittable rules.job units rs now.disk) (sym same) committable
  where
    rs : List UnitResult
    rs = results_in states

    all : AllStand rules now.supply now.disk 0 units rs
    all j u r at is = subst (λ n. HasResult rules u n now.supply now.disk r)
        (let e : j ≡ 0 + j = omega arith in e) (ended.stand j u r at is)

    are : AreApart rules units
    are = record {
      once = may.once;
      branches = may.branches;
      proper = may.proper;
      ordered = λ u at listed. (may.pullable u at listed).bytes;
    }

    fine : (p : List ℕ × List ℕ) → Contains (all_moves rs) p → IsFinePair rules.job p
    fine p at =
        let f = among_files rules now.supply now.disk 0 units rs ended.number all p at in
        let within = slice_get_within units f.at f.unit f.of_unit in
        let few = may.few in
        fine_pair rules f.unit (0 + f.at) p (omega (arith, within, few)) f.file

    unit_at : (r : UnitResult) → Contains rs r
        → (j : ℕ) × (u : WorkUnit) × HasResult rules u j now.supply now.disk r
    unit_at r at =
        let here = got rs r at in
        let below = slice_get_within rs here.0 r here.1 in
        let long = ended.number in
        let unit = got_within units here.0 (omega (arith, below, long)) in
        (here.0, unit.0, ended.stand here.0 unit.0 r unit.1 here.1)

    there : (o : Option Disk) → now.disk ≡ o
        → IfSome o (λ d. (p : List ℕ × List ℕ) → Contains (all_moves rs) p → IsSome (d.files p.0))
    there None is = tt
    there (Some d) is = λ p at.
        let found = in_flat_map moves_in rs p at in
        let unit = unit_at found.0 found.1 in
        there_of rules unit.1 unit.0 now.supply d found.0 p
        (subst (λ o. HasResult rules unit.1 unit.0 now.supply o found.0) is unit.2) found.2

    committable : AreCommittable rules.job units rs now.disk
    committable = record {
      number = ended.number;
      moves = record {
        each = moves_fit rules.job (all_moves rs) (λ p at. (fine p at).fits);
        differ = names_distinct rules.job (all_moves rs) (λ p at. (fine p at).pair)
            (distinct_froms rules now.supply now.disk 0 units rs ended.number
            (let few = may.few in omega (arith, few)) all)
            (distinct_tos rules now.supply now.disk 0 units rs ended.number are all);
      };
      names = λ p at. (fine p at).pair;
      counted = λ r c at counts. let unit = unit_at r at in
          counted_of rules unit.1 unit.0 now.supply now.disk r c may.branches unit.2 counts;
      there = there now.disk refl;
    }
