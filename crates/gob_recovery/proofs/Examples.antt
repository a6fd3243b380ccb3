-- The worked examples of a commit.
use Rattle.std.proofs.Common.{◌≡◌, ℕ, zero, suc, ◌+◌, ◌-◌, ◌≤◌, Bool, true, false, cond, ◌||◌, List, []}
use Rattle.std.proofs.Common.{◌∷◌, ◌++◌, take, drop, length, refl, sym, append_assoc, ap, subst, ◌∙◌, Some, None, codes}
use Rattle.std.proofs.Common.{arith}
use Rattle.std.specs.Fmt.{decimal, digits}
use Rattle.std.specs.List.{AllByRecursion, IsDistinct, list_any, flat_map}
use Rattle.std.specs.Str.{bytes_eq}
use Rattle.std.proofs.lemmas.Bool.{true≢false}
use Rattle.gob_bytes.specs.Lines.{ends_in_lf}
use Rattle.gob_bytes.specs.Paths.{begins_with, staging}
use Rattle.gob_device.specs.Disk.{Files, clean, after_create, after_append, after_sync}
use Rattle.gob_device.specs.Disk.{after_rename, after_remove, Torn}
use Rattle.gob_recovery.specs.Sequence.{CommitStep, move, remove, step_line, WellFormed, sequence_text}
use Rattle.gob_recovery.specs.Settle.{do_steps, without_staging, IsSettled, Settles, sequence}
use Rattle.gob_recovery.specs.Settle.{lost, SettlesAs}
use Rattle.gob_recovery.specs.Commits.{OnlyBelow, part_done}
use Rattle.gob_recovery.specs.Examples.{steps, one_move_text, entry, calls, after_calls, stopped_files, committed_files}
use Rattle.gob_recovery.specs.Examples.{IsCommitted}
use Rattle.gob_recovery.specs.Examples.{WorkedCommit, BetweenMoves, WorkedDamage}
use Rattle.gob_recovery.proofs.Again.{Off, turned}
use Rattle.gob_recovery.proofs.Opened.{steps_still}
use Rattle.gob_recovery.proofs.Settled.{cleaned_other, staged_free}
use Rattle.gob_recovery.proofs.Commits.{apart_below, below_same, below_then, below_created, below_appended}
use Rattle.gob_recovery.proofs.Commits.{below_synced, Opens, CanCommit, steps_go, closes_is, closed_settles}
use Rattle.gob_recovery.proofs.Commits.{renamed_opens}

abbrev job : List ℕ
job = codes "j1"

-- ---- calls that change staged files alone

abbrev Staged : (Files → Files) → Type 0
Staged call = (m : Files) → OnlyBelow (staging job) m (call m)

abbrev AllStaged : List (Files → Files) → Type 0
AllStaged [] = Unit {0}
AllStaged (call ∷ cs) = Staged call × AllStaged cs

stays_below : (n : ℕ) (cs : List (Files → Files)) (k : ℕ) (m : Files) → k ≤ n → AllStaged (take n cs)
    → OnlyBelow (staging job) m (after_calls (take k cs) m)
unfolding after_calls
stays_below zero cs zero m less all = below_same (staging job) m
stays_below zero cs (suc k) m less all = absurd (omega arith)
stays_below (suc n) [] zero m less all = below_same (staging job) m
stays_below (suc n) [] (suc k) m less all = below_same (staging job) m
stays_below (suc n) (call ∷ cs) zero m less all = below_same (staging job) m
stays_below (suc n) (call ∷ cs) (suc k) m less all =
    below_then (staging job) m (call m) (after_calls (take k cs) (call m)) (all.0 m)
    (stays_below n cs k (call m) (omega arith) all.1)

nine_staged : AllStaged (take 9 calls)
nine_staged = (
  λ m. below_created (staging job) (codes "j1/stage/0-0/out/a.txt") m refl,
  (
    λ m. below_appended (staging job) (codes "j1/stage/0-0/out/a.txt") (codes "x\n") m refl,
    (
      λ m. below_synced (staging job) (codes "j1/stage/0-0/out/a.txt") m refl,
      (
        λ m. below_created (staging job) (codes "j1/stage/state") m refl,
        (
          λ m. below_appended (staging job) (codes "j1/stage/state") (codes "new\n") m refl,
          (
            λ m. below_synced (staging job) (codes "j1/stage/state") m refl,
            (
              λ m. below_created (staging job) (codes "j1/stage/seq") m refl,
              (
                λ m. below_appended (staging job) (codes "j1/stage/seq") one_move_text m refl,
                (
                  λ m. below_synced (staging job) (codes "j1/stage/seq") m refl,
                  tt,
                ),
              ),
            ),
          ),
        ),
      ),
    ),
  ),
)

stopped_below : (k : ℕ) → k ≤ 9 → OnlyBelow (staging job) entry (stopped_files k)
unfolding stopped_files
stopped_below k less = stays_below 9 calls k entry less nine_staged

entry_settled : IsSettled job entry
entry_settled = record {
  closed = refl;
  unstaged = λ name e. ap (λ b. cond b (Some (clean (codes "old\n"))) None)
      (turned (codes "j1/delta/1") name (apart_below (staging job) name (codes "j1/delta/1") e refl));
}

before_opened : (n : Files) → OnlyBelow (staging job) entry n → SettlesAs job entry n
before_opened n below = (staged_free job entry n entry_settled (λ name e. below name e)).1

torn_staged : (n : Files) → Torn (codes "j1/stage/seq") (after_append (codes "j1/stage/seq") one_move_text)
    (stopped_files 7) n
    → OnlyBelow (staging job) entry n
torn_staged n torn = λ name e.
    torn.others name (λ is. true≢false (sym (ap (begins_with (staging job)) is ∙ refl) ∙ e))
    ∙ stopped_below 7 (omega arith) name e

-- ---- the sequence

spelled_is : sequence_text steps ≡ one_move_text
unfolding sequence_text digits
spelled_is = refl

fits_is : WellFormed job steps
unfolding IsDistinct
fits_is = record {
  each = refl;
  differ = (
    (refl, (refl, (refl, (refl, tt)))),
    ((refl, (refl, (refl, tt))), ((refl, (refl, tt)), ((refl, tt), (tt, tt)))),
  );
}

can_commit : CanCommit job steps (stopped_files 6)
unfolding stopped_files after_calls after_create after_append after_sync
can_commit = record { fits = fits_is; closed = refl; can = refl }

staged_there : stopped_files 9 (codes "j1/stage/seq") ≡ Some (clean (sequence_text steps))
unfolding stopped_files after_calls after_create after_append after_sync
staged_there = ap (λ (t : List ℕ). Some (clean t)) (sym spelled_is)

staged_others : (name : List ℕ) → bytes_eq name (codes "j1/stage/seq") ≡ false → stopped_files 9 name
    ≡ stopped_files 6 name
unfolding stopped_files after_calls after_create after_append after_sync
staged_others name e =
    ap (λ b. cond b (stopped_files 9 (codes "j1/stage/seq")) (stopped_files 8 name)) e
    ∙ (ap (λ b. cond b (stopped_files 8 (codes "j1/stage/seq")) (stopped_files 7 name)) e
    ∙ ap (λ b. cond b (Some (clean [])) (stopped_files 6 name)) e)

opens : Opens job steps (stopped_files 6) (stopped_files 10)
unfolding stopped_files after_calls
opens = renamed_opens job steps (stopped_files 6) (stopped_files 9) staged_there staged_others

-- ---- from there on

none_left : (j : ℕ) → take {A = Files → Files} j [] ≡ []
none_left zero = refl
none_left (suc j) = refl

one_more : (n j : ℕ) → suc n + j ≡ suc (n + j)
one_more n j = omega arith

or_both : (x y : Bool) → (x || y) ≡ false → (x ≡ false) × (y ≡ false)
or_both true y e = absurd (true≢false e)
or_both false y e = (refl, e)

split : (n j : ℕ) (cs : List (Files → Files)) (m : Files) → after_calls (take (n + j) cs) m ≡ after_calls
    (take j (drop n cs)) (after_calls (take n cs) m)
unfolding after_calls
split zero j cs m = ap (λ k. after_calls (take k cs) m) (let e : 0 + j ≡ j = omega arith in e)
split (suc n) j [] m = ap (λ k. after_calls (take k []) m) (one_more n j)
    ∙ sym (ap (λ cs. after_calls cs m) (none_left j))
split (suc n) j (call ∷ cs) m = ap (λ k. after_calls (take k (call ∷ cs)) m) (one_more n j) ∙ split n j cs (call m)

closes : after_calls (drop 10 calls) (stopped_files 10) ≡ part_done job steps (stopped_files 6)
unfolding after_calls do_steps stopped_files after_create after_append after_sync after_rename after_remove
closes = closes_is job steps (stopped_files 6) (stopped_files 10) can_commit opens

later : (j : ℕ) → SettlesAs job committed_files (after_calls (take j (drop 10 calls)) (stopped_files 10))
unfolding after_calls stopped_files committed_files do_steps after_create after_append after_sync after_rename
    after_remove
later zero = (steps_go job steps (stopped_files 6) (stopped_files 10) 0 can_commit opens).images
later (suc zero) = (steps_go job steps (stopped_files 6) (stopped_files 10) 1 can_commit opens).images
later (suc (suc zero)) = (steps_go job steps (stopped_files 6) (stopped_files 10) 2 can_commit opens).images
later (suc (suc (suc zero))) = (steps_go job steps (stopped_files 6) (stopped_files 10) 3 can_commit opens).images
later (suc (suc (suc (suc j)))) =
    subst (λ cs. SettlesAs job committed_files (after_calls cs (after_calls (drop 10 calls) (stopped_files 10))))
    (sym (none_left j))
    (closed_settles job steps (stopped_files 6) (after_calls (drop 10 calls) (stopped_files 10)) can_commit
    (λ name e. ap (λ (m : Files). m name) closes)).1

from_ten : (k : ℕ) → 10 ≤ k → SettlesAs job committed_files (stopped_files k)
unfolding stopped_files
from_ten k more =
    let split_up : after_calls (take k calls) entry ≡ after_calls (take (k - 10) (drop 10 calls)) (stopped_files 10) =
    ap (λ n. after_calls (take n calls) entry) (let e : k ≡ 10 + (k - 10) = omega arith in e)
    ∙ split 10 (k - 10) calls entry in
    subst (SettlesAs job committed_files) (sym split_up) (later (k - 10))

others_stay : (name : List ℕ) → list_any (bytes_eq name) (codes "j1/out/a.txt" ∷ codes "j1/state" ∷ codes "j1/delta/1" ∷
    []) ≡ false
    → begins_with (staging job) name ≡ false → committed_files name ≡ entry name
unfolding committed_files
others_stay name apart outside =
    let a = or_both _ _ apart in
    let b = or_both _ _ a.1 in
    let c = or_both _ _ b.1 in
    let off : AllByRecursion (λ t. Off t name) steps = (
      (apart_below (staging job) (codes "j1/stage/0-0/out/a.txt") name refl outside, (a.0, tt)),
      (
        (apart_below (staging job) (codes "j1/stage/state") name refl outside, (b.0, tt)),
        ((c.0, tt), tt),
      ),
    ) in
    cleaned_other job (do_steps steps (stopped_files 6)) name outside
    ∙ (steps_still steps (stopped_files 6) name off ∙ stopped_below 6 (omega arith) name outside)

is_committed : IsCommitted committed_files
unfolding committed_files without_staging do_steps stopped_files after_calls after_create after_append after_sync
    after_rename
    after_remove
is_committed = record { published = refl; state = refl; gone = refl; others = others_stay }

whole_is : stopped_files 14 ≡ part_done job steps (stopped_files 6)
unfolding stopped_files
whole_is = split 10 4 calls entry ∙ closes

pub worked_commit : WorkedCommit
worked_commit = record {
  spelled = spelled_is;
  fits = fits_is;
  is = is_committed;
  before = λ k less. before_opened (stopped_files k) (stopped_below k less);
  torn = λ n torn. before_opened n (torn_staged n torn);
  after = from_ten;
  whole = whole_is;
}

eleven : stopped_files 11 ≡ do_steps (take 1 steps) (stopped_files 10)
unfolding stopped_files after_calls do_steps after_create after_append after_sync after_rename after_remove
eleven = refl

pub between_moves : BetweenMoves
unfolding committed_files stopped_files after_calls after_create after_append after_sync after_rename
between_moves = record {
  gone = refl;
  there = refl;
  waiting = refl;
  old = refl;
  settles = subst (λ m. Settles job m committed_files) (sym eleven)
      (steps_go job steps (stopped_files 6) (stopped_files 10) 1 can_commit opens).settles;
}

-- ---- damage

last_ends : (front : List ℕ) → ends_in_lf (front ++ 10 ∷ []) ≡ true
last_ends [] = refl
last_ends (b ∷ []) = refl
last_ends (b ∷ c ∷ front) = last_ends (c ∷ front)

sequence_ends : (ss : List CommitStep) → ends_in_lf (sequence_text ss) ≡ true
unfolding sequence_text
sequence_ends ss =
    let front : List ℕ = (codes "gobblin-sequence 1\n" ++ flat_map step_line ss)
    ++ (codes "end " ++ decimal (length ss)) in
    ap ends_in_lf (sym (append_assoc (codes "gobblin-sequence 1\n" ++ flat_map step_line ss)
    (codes "end " ++ decimal (length ss)) (10 ∷ []))) ∙ last_ends front

pub worked_damage : WorkedDamage
unfolding after_rename
worked_damage = record {
  cut = sequence (clean (codes "gobblin-sequence 1\nend 0")) refl
      (λ ss reads. true≢false (sym (ap ends_in_lf reads.spelled ∙ sequence_ends ss)));
  lost = lost (move (codes "j1/stage/0-0/out/a.txt") (codes "j1/out/a.txt") ∷ []) (codes "j1/stage/state")
      (codes "j1/state") (remove (codes "j1/delta/1") ∷ [])
      (record { file = clean one_move_text; here = refl; reads = record { spelled = sym spelled_is; fits = fits_is } })
      refl
      refl;
}
