-- Why a sequence can do the steps of a commit.
use Rattle.std.proofs.Common.{◌≡◌, ◌≢◌, ⊎_elim, ℕ, zero, suc, ◌+◌, ◌-◌, ◌/◌, ◌%◌, ◌^◌, ◌<◌, ◌≤◌, Bool}
use Rattle.std.proofs.Common.{true, false, cond, not, ◌&&◌, ◌||◌, nat_eq, List, [], ◌∷◌, ◌++◌, map, refl, sym}
use Rattle.std.proofs.Common.{ap}
use Rattle.std.proofs.Common.{subst, ◌∙◌, codes, arith, Some, None, IfSome}
use Rattle.std.specs.declared.option.Option.{Option}
use Rattle.std.specs.List.{Contains, IsDistinct, flat_map, list_all, range_with_len}
use Rattle.std.specs.List.Sorted.{IsPermutation}
use Rattle.std.specs.Str.{bytes_eq}
use Rattle.std.proofs.lemmas.Bool.{and_from, and_parts}
use Rattle.std.proofs.lemmas.Bool.Decides.{nat_tests}
use Rattle.std.proofs.lemmas.Grind.{flat_map-append}
use Rattle.std.proofs.lemmas.List.Sorted.{Contains-permutation, IsPermutation-sym}
use Rattle.gob_bytes.proofs.Tables.{same_name, two_names}
use Rattle.gob_bytes.proofs.Paths.{under_front, cancel_under, is_state_file, front_more}
use Rattle.gob_bytes.specs.Digits.{offset, padded_digits}
use Rattle.gob_bytes.specs.Escapes.{is_digit, is_letter}
use Rattle.gob_bytes.specs.Paths.{begins_with, delta_folder, delta_name, keeps_state, sequence_name}
use Rattle.gob_bytes.specs.Paths.{staging, state_name, under}
use Rattle.gob_ledger.specs.Delta.{Change, change_of, earlier_changes, small_change, wants_whole, whole_change}
use Rattle.gob_ledger.specs.Spelling.{Proper, Small}
use Rattle.gob_ledger.specs.State.{State}
use Rattle.gob_ledger.proofs.DeltaNames.{change_below, same_number_named}
use Rattle.gob_ledger.proofs.Members.{in_cases, in_map, map_in, none_in}
use Rattle.gob_recovery.specs.Sequence.{CommitStep, WellFormed, is_file_name, is_lasting, is_sequence_byte, is_staged}
use Rattle.gob_recovery.specs.Sequence.{move}
use Rattle.gob_recovery.specs.Sequence.{names_in, remove, step_fits}
use Rattle.gob_history.specs.Laws.{group_steps, moves_of, removes_of, staged_state}
use Rattle.gob_history.proofs.Fronts.{kept_unstaged, published_not_kept, published_unstaged}
use Rattle.gob_history.proofs.Kept.{is_change}
use Rattle.gob_segments.specs.Changes.{CountsChanges}
use Rattle.gob_commit.specs.Going.{ChangeNamed, FileOfState, SortsPairs}
use Rattle.gob_commit.specs.Staged.{NamesFit, Pair}
use Rattle.gob_commit.proofs.Differing.{differ_sorted, distinct_both, each_all, in_pairs}
use Rattle.gob_commit.proofs.Differing.{list_all_at}
use Rattle.gob_commit.proofs.Differing.{list_all_of, names_differ, names_of_pairs, pairs_differ}

-- ---- bytes of names

bytes_both : (xs ys : List ℕ) → list_all is_sequence_byte xs ≡ true → list_all is_sequence_byte ys ≡ true
    → list_all is_sequence_byte (xs ++ ys) ≡ true
bytes_both [] ys a b = b
bytes_both (x ∷ xs) ys a b =
    let both = and_parts (is_sequence_byte x) (list_all is_sequence_byte xs) a in
    and_from (is_sequence_byte x) (list_all is_sequence_byte (xs ++ ys)) both.0 (bytes_both xs ys both.1 b)

pub name_then : (name bytes : List ℕ) → is_file_name name ≡ true → list_all is_sequence_byte bytes ≡ true
    → is_file_name (name ++ bytes) ≡ true
name_then [] bytes named all = let no : false ≡ true = named in cc
name_then (b ∷ bs) bytes named all = bytes_both (b ∷ bs) bytes named all

any_of : (a c d e f g h : Bool) → (a || true || c || d || e || f || g || h) ≡ true
any_of true c d e f g h = refl
any_of false c d e f g h = refl

digit_named : (b : ℕ) → is_digit b ≡ true → is_sequence_byte b ≡ true
digit_named b digit =
    ap (λ v. is_letter b || v || nat_eq b 46 || nat_eq b 95 || nat_eq b 45 || nat_eq b 47 || nat_eq b 64 || nat_eq b 37)
    digit
    ∙ any_of (is_letter b) (nat_eq b 46) (nat_eq b 95) (nat_eq b 45) (nat_eq b 47) (nat_eq b 64) (nat_eq b 37)

is_a_digit : (d : ℕ) → d < 10 → is_digit (48 + d) ≡ true
is_a_digit d small = grind (arith, nat_tests)

padded_named : (k n : ℕ) → list_all is_sequence_byte (padded_digits k n) ≡ true
unfolding padded_digits
padded_named zero n = refl
padded_named (suc k) n =
    bytes_both (padded_digits k (n / 10)) ((48 + n % 10) ∷ []) (padded_named k (n / 10))
    (and_from (is_sequence_byte (48 + n % 10)) true (digit_named (48 + n % 10) (is_a_digit (n % 10) (omega arith)))
    refl)

offset_named : (n : ℕ) → list_all is_sequence_byte (offset n) ≡ true
unfolding offset
offset_named n = padded_named 20 n

pub staged_state_named : (job : List ℕ) → is_file_name job ≡ true → is_file_name (staged_state job) ≡ true
staged_state_named job named =
    name_then (staging job) (codes "state") (name_then job (47 ∷ codes "stage/") named refl) refl

-- ---- names of lasting files

weaker_front : (job a name : List ℕ) → begins_with (under job a) name ≡ true → begins_with (under job []) name ≡ true
weaker_front [] a [] e = e
weaker_front [] a (b ∷ bs) e = and_from (nat_eq 47 b) true (and_parts (nat_eq 47 b) _ e).0 refl
weaker_front (j ∷ job) a [] e = e
weaker_front (j ∷ job) a (b ∷ bs) e =
    let both = and_parts (nat_eq j b) (begins_with (under job a) bs) e in
    and_from (nat_eq j b) (begins_with (under job []) bs) both.0 (weaker_front job a bs both.1)

below_job : (job name : List ℕ) → keeps_state job name ≡ true → begins_with (under job []) name ≡ true
below_job job name kept = cases (bytes_eq name (state_name job)) refl kept
  where
    cases : (b : Bool) → bytes_eq name (state_name job) ≡ b → (b || begins_with (delta_folder job) name) ≡ true
        → begins_with (under job []) name ≡ true
    cases true is e =
        ap (begins_with (under job [])) (same_name name (state_name job) is) ∙ under_front job [] (codes "state")
    cases false is e = weaker_front job (codes "delta/") name e

not_sequence : (job name : List ℕ) → keeps_state job name ≡ true → name ≢ sequence_name job
not_sequence job name kept is =
    let apart : bytes_eq (sequence_name job) (state_name job) ≡ false =
    two_names (sequence_name job) (state_name job) (λ e. let no : codes "seq"
    ≡ codes "state" = cancel_under job (codes "seq") (codes "state") e in cc) in
    let no : false ≡ true =
    sym (ap (λ b. b || begins_with (delta_folder job) (sequence_name job)) apart
    ∙ under_front job (codes "delta/") (codes "seq"))
    ∙ (ap (keeps_state job) (sym is) ∙ kept) in cc

pub state_lasting : (job name : List ℕ) → keeps_state job name ≡ true → is_lasting job name ≡ true
state_lasting job name kept =
    and_from (begins_with (under job []) name && not (begins_with (staging job) name))
    (not (bytes_eq name (sequence_name job)))
    (and_from (begins_with (under job []) name) (not (begins_with (staging job) name)) (below_job job name kept)
    (ap not (kept_unstaged job name kept)))
    (ap not (two_names name (sequence_name job) (not_sequence job name kept)))

-- ---- the names of a change

state_file : (job : List ℕ) → is_file_name job ≡ true → FileOfState job (state_name job)
state_file job named = record { kept = is_state_file job; named = name_then job (47 ∷ codes "state") named refl }

change_file : (job : List ℕ) (run : ℕ) → is_file_name job ≡ true → FileOfState job (delta_name job run)
change_file job run named = record {
  kept = is_change job (delta_name job run) (change_below job run);
  named = name_then (delta_folder job) (offset run) (name_then job (47 ∷ codes "delta/") named refl) (offset_named run);
}

change_not_state : (job : List ℕ) (run : ℕ) → state_name job ≢ delta_name job run
change_not_state job run e =
    let no : false ≡ true = sym (under_front job (codes "delta/") (codes "state"))
    ∙ (ap (begins_with (delta_folder job)) e ∙ change_below job run) in cc

-- numbers of a range, from its first one on
in_range : (n k x : ℕ) → Contains (range_with_len n k) x → (n ≤ x) × (x < n + k)
in_range n zero x h = none_in x h
in_range n (suc k) x h = ⊎_elim
    (λ e. (omega arith, omega arith))
    (λ l. let later = in_range (n + 1) k x l in (omega arith, omega arith))
    (in_cases n (range_with_len (n + 1) k) x h)

ranged_once : (job : List ℕ) (n k : ℕ) → n + k ≤ 2 ^ 64
    → IsDistinct bytes_eq (map (delta_name job) (range_with_len n k))
unfolding IsDistinct
ranged_once job n zero few = tt
ranged_once job n (suc k) few = (
  each_all (λ y. bytes_eq (delta_name job n) y ≡ false) (map (delta_name job) (range_with_len (n + 1) k))
      (λ y h. let found = in_map (delta_name job) (range_with_len (n + 1) k) y h in
      let within = in_range (n + 1) k found.0 found.1 in
      two_names (delta_name job n) y (λ e.
      let level : n ≡ found.0 = same_number_named job n found.0 (omega arith) (omega arith) (e ∙ sym found.2) in
      absurd (omega arith))),
  ranged_once job (n + 1) k (omega arith),
)

whole_named : (job : List ℕ) (t : State) (run changes : ℕ) → is_file_name job ≡ true → changes ≤ run → Small run
    → ChangeNamed job (whole_change job (earlier_changes job run changes) t)
unfolding IsDistinct
whole_named job t run changes named counted small = record {
  target = state_file job named;
  removes = λ name h. let found = in_map (delta_name job) (range_with_len (run + 1 - changes) changes) name h in
      subst (FileOfState job) found.2 (change_file job found.0 named);
  once = (
    each_all (λ y. bytes_eq (state_name job) y ≡ false) (earlier_changes job run changes)
        (λ y h. let found = in_map (delta_name job) (range_with_len (run + 1 - changes) changes) y h in
        two_names (state_name job) y (λ e. change_not_state job found.0 (e ∙ sym found.2))),
    ranged_once job (run + 1 - changes) changes (omega arith),
  );
}

small_named : (job : List ℕ) (s t : State) (changes : ℕ) → is_file_name job ≡ true
    → ChangeNamed job (small_change job s changes t)
unfolding IsDistinct
small_named job s t changes named = record {
  target = change_file job t.run named;
  removes = λ name h. none_in name h;
  once = (tt, tt);
}

first_named : (job : List ℕ) (t : State) → is_file_name job ≡ true → ChangeNamed job (whole_change job [] t)
unfolding IsDistinct
first_named job t named = record {
  target = state_file job named;
  removes = λ name h. none_in name h;
  once = (tt, tt);
}

either_named : (job : List ℕ) (b : Bool) (c d : Change) → ChangeNamed job c → ChangeNamed job d
    → ChangeNamed job (cond b c d)
either_named job true c d x y = x
either_named job false c d x y = y

pub change_named : (job : List ℕ) (o : Option State) (changes version : ℕ) (t : State) → is_file_name job ≡ true
    → IfSome o Proper → CountsChanges o changes → ChangeNamed job (change_of job o changes version t)
unfolding change_of
change_named job None changes version t named proper counted = first_named job t named
change_named job (Some s) changes version t named proper counted =
    either_named job (wants_whole version changes t) _ _ (whole_named job t s.run changes named counted proper.run)
    (small_named job s t changes named)

-- ---- the steps

removed_names : (names : List (List ℕ)) → flat_map names_in (removes_of names) ≡ names
removed_names [] = refl
removed_names (n ∷ ns) = ap (λ (xs : List (List ℕ)). n ∷ xs) (removed_names ns)

step_names : (job : List ℕ) (c : Change) (pairs : List Pair)
    → flat_map names_in (group_steps job c pairs) ≡ names_of_pairs pairs ++ staged_state job ∷ c.target ∷ c.removes
step_names job c pairs =
    flat_map-append names_in (moves_of pairs) (move (staged_state job) c.target ∷ removes_of c.removes)
    ∙ ap (λ (xs : List (List ℕ)). names_of_pairs pairs ++ staged_state job ∷ c.target ∷ xs) (removed_names c.removes)

pub state_is_staged : (job : List ℕ) → begins_with (staging job) (staged_state job) ≡ true
state_is_staged job = front_more (staging job) (codes "state")

-- what is moved is staged, and goes to a lasting name
move_fits : (job : List ℕ) (pairs : List Pair) (p : Pair) → NamesFit job pairs → Contains pairs p
    → step_fits job (move p.0 p.1) ≡ true
move_fits job pairs p fit h =
    list_all_at (step_fits job) (moves_of pairs) (move p.0 p.1) fit.fits.each
    (map_in (λ (q : Pair). move q.0 q.1) pairs p h)

pub source_staged : (job : List ℕ) (pairs : List Pair) (p : Pair) → NamesFit job pairs → Contains pairs p
    → is_staged job p.0 ≡ true
source_staged job pairs p fit h =
    let a = and_parts (is_staged job p.0 && is_lasting job p.1 && is_file_name p.0) (is_file_name p.1)
    (move_fits job pairs p fit h) in
    let b = and_parts (is_staged job p.0 && is_lasting job p.1) (is_file_name p.0) a.0 in
    (and_parts (is_staged job p.0) (is_lasting job p.1) b.0).0

pub source_below : (job : List ℕ) (pairs : List Pair) (p : Pair) → NamesFit job pairs → Contains pairs p
    → begins_with (staging job) p.0 ≡ true
source_below job pairs p fit h =
    (and_parts (begins_with (staging job) p.0) _ (source_staged job pairs p fit h)).0

-- a file that tells the state is none of the pairs'
kept_apart : (job : List ℕ) (pairs : List Pair) (x y : List ℕ) → NamesFit job pairs
    → Contains (names_of_pairs pairs) x → keeps_state job y ≡ true → x ≢ y
kept_apart job pairs x y fit h kept e =
    let found = in_pairs pairs x h in
    ⊎_elim
    (λ source.
    let no : true ≡ false = sym (source_below job pairs found.0 fit found.1)
    ∙ (ap (begins_with (staging job)) (sym source ∙ e) ∙ kept_unstaged job y kept) in
    cc)
    (λ target. published_not_kept job found.0.1 (fit.published found.0 found.1)
    (ap (keeps_state job) (sym target ∙ e) ∙ kept))
    found.2

-- and so is the staged state
state_apart : (job : List ℕ) (pairs : List Pair) (x : List ℕ) → NamesFit job pairs
    → Contains (names_of_pairs pairs) x → x ≢ staged_state job
state_apart job pairs x fit h e =
    let found = in_pairs pairs x h in
    ⊎_elim
    (λ source. fit.apart found.0 found.1 (sym source ∙ e))
    (λ target.
    let no : true ≡ false = sym (state_is_staged job)
    ∙ (ap (begins_with (staging job)) (sym e ∙ target)
    ∙ published_unstaged job found.0.1 (fit.published found.0 found.1)) in
    cc)
    found.2

-- the name of the staged state tells no state
state_not_kept : (job name : List ℕ) → keeps_state job name ≡ true → staged_state job ≢ name
state_not_kept job name kept e =
    let no : true ≡ false = sym (state_is_staged job)
    ∙ (ap (begins_with (staging job)) e ∙ kept_unstaged job name kept) in cc

change_kept : (job : List ℕ) (c : Change) (name : List ℕ) → ChangeNamed job c → Contains (c.target ∷ c.removes) name
    → FileOfState job name
change_kept job c name named h = ⊎_elim
    (λ e. subst (FileOfState job) e named.target)
    (λ k. named.removes name k)
    (in_cases c.target c.removes name h)

steps_differ : (job : List ℕ) (c : Change) (pairs : List Pair) → NamesFit job pairs → ChangeNamed job c
    → IsDistinct bytes_eq (names_of_pairs pairs ++ staged_state job ∷ c.target ∷ c.removes)
unfolding IsDistinct
steps_differ job c pairs fit named =
    distinct_both bytes_eq (names_of_pairs pairs) (staged_state job ∷ c.target ∷ c.removes) (record {
      front = fit.fits.differ;
      back = (
        each_all (λ y. bytes_eq (staged_state job) y ≡ false) (c.target ∷ c.removes)
            (λ y h. two_names (staged_state job) y (state_not_kept job y (change_kept job c y named h).kept)),
        named.once,
      );
      apart = λ x y h k. two_names x y (⊎_elim
          (λ e. subst (λ z. x ≢ z) e (state_apart job pairs x fit h))
          (λ l. kept_apart job pairs x y fit h (change_kept job c y named l).kept)
          (in_cases (staged_state job) (c.target ∷ c.removes) y k));
    })

state_not_sequence : (job : List ℕ) → staged_state job ≢ staging job ++ codes "seq"
state_not_sequence job e =
    let no : codes "state" ≡ codes "seq" = cancel (staging job) (codes "state") (codes "seq") e in cc
  where
    cancel : (x y z : List ℕ) → x ++ y ≡ x ++ z → y ≡ z
    cancel [] y z same = same
    cancel (b ∷ bs) y z same = cancel bs y z (let tail : bs ++ y ≡ bs ++ z = cc in tail)

state_moves : (job : List ℕ) (c : Change) → is_file_name job ≡ true → ChangeNamed job c
    → step_fits job (move (staged_state job) c.target) ≡ true
state_moves job c job_named named =
    and_from (is_staged job (staged_state job) && is_lasting job c.target && is_file_name (staged_state job))
    (is_file_name c.target)
    (and_from (is_staged job (staged_state job) && is_lasting job c.target) (is_file_name (staged_state job))
    (and_from (is_staged job (staged_state job)) (is_lasting job c.target)
    (and_from (begins_with (staging job) (staged_state job)) _ (state_is_staged job)
    (ap not (two_names (staged_state job) (staging job ++ codes "seq") (state_not_sequence job))))
    (state_lasting job c.target named.target.kept))
    (staged_state_named job job_named))
    named.target.named

removes_fit : (job : List ℕ) (names : List (List ℕ))
    → ((name : List ℕ) → Contains names name → FileOfState job name)
    → list_all (step_fits job) (removes_of names) ≡ true
removes_fit job names each = list_all_of (step_fits job) (removes_of names) (λ s h.
    let found = in_map (λ (n : List ℕ). remove n) names s h in
    let file = each found.0 found.1 in
    sym (ap (step_fits job) found.2)
    ∙ and_from (is_lasting job found.0) (is_file_name found.0) (state_lasting job found.0 file.kept) file.named)

all_then : (p : CommitStep → Bool) (xs ys : List CommitStep) → list_all p xs ≡ true → list_all p ys ≡ true
    → list_all p (xs ++ ys) ≡ true
all_then p [] ys a b = b
all_then p (x ∷ xs) ys a b =
    let both = and_parts (p x) (list_all p xs) a in
    and_from (p x) (list_all p (xs ++ ys)) both.0 (all_then p xs ys both.1 b)

pub well_formed : (job : List ℕ) (c : Change) (pairs : List Pair) → is_file_name job ≡ true → NamesFit job pairs
    → ChangeNamed job c → WellFormed job (group_steps job c pairs)
well_formed job c pairs job_named fit named = record {
  each = all_then (step_fits job) (moves_of pairs) (move (staged_state job) c.target ∷ removes_of c.removes)
      fit.fits.each
      (and_from (step_fits job (move (staged_state job) c.target)) (list_all (step_fits job) (removes_of c.removes))
      (state_moves job c job_named named) (removes_fit job c.removes named.removes));
  differ = subst (IsDistinct bytes_eq) (sym (step_names job c pairs)) (steps_differ job c pairs fit named);
}

-- ---- in another order

pub sorted_fit : (job : List ℕ) (pairs sorted : List Pair) → IsPermutation pairs sorted → NamesFit job pairs
    → NamesFit job sorted
sorted_fit job pairs sorted moved fit =
    let back : (p : Pair) → Contains sorted p → Contains pairs p =
    λ p h. Contains-permutation sorted pairs p (IsPermutation-sym pairs sorted moved) h in
    record {
      fits = record {
        each = list_all_of (step_fits job) (moves_of sorted) (λ s h.
            let found = in_map (λ (q : Pair). move q.0 q.1) sorted s h in
            sym (ap (step_fits job) found.2) ∙ move_fits job pairs found.0 fit (back found.0 found.1));
        differ = names_differ sorted (differ_sorted pairs sorted moved (pairs_differ pairs fit.fits.differ));
      };
      apart = λ p h. fit.apart p (back p h);
      published = λ p h. fit.published p (back p h);
    }

pub in_order : (job : List ℕ) (c : Change) (pairs sorted : List Pair) → is_file_name job ≡ true
    → IsPermutation pairs sorted → NamesFit job pairs → ChangeNamed job c → SortsPairs job c pairs sorted
in_order job c pairs sorted job_named moved fit named = record {
  from = λ p h. Contains-permutation pairs sorted p moved h;
  back = λ p h. Contains-permutation sorted pairs p (IsPermutation-sym pairs sorted moved) h;
  fits = well_formed job c sorted job_named (sorted_fit job pairs sorted moved fit) named;
}
