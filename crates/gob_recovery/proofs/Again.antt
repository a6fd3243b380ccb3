-- Steps that were done already change nothing more, so a sequence may be stopped and done again.
use Rattle.std.proofs.Common.{◌≡◌, inr, ℕ, zero, suc, Bool, true, false, cond, ◌&&◌, ◌||◌, nat_eq, List, [], ◌∷◌}
use Rattle.std.proofs.Common.{refl, sym, ap, ◌∙◌, is_some, take, Some, None}
use Rattle.std.specs.declared.option.Option.{Option}
use Rattle.std.specs.List.{AllByRecursion, IsDistinct, list_all, flat_map}
use Rattle.std.specs.Str.{bytes_eq}
use Rattle.std.proofs.lemmas.Bool.{and_parts, and_from, not-true}
use Rattle.std.proofs.Math.Bool.{and-false}
use Rattle.std.proofs.lemmas.Slice.Eq.{bytes_eq-Decides}
use Rattle.gob_bytes.specs.Paths.{begins_with, staging, sequence_name}
use Rattle.gob_bytes.proofs.Tables.{name_itself}
use Rattle.gob_device.specs.Disk.{Files, File, put, after_rename, after_remove}
use Rattle.gob_recovery.specs.Sequence.{CommitStep, move, remove, names_in, step_fits, is_lasting}
use Rattle.gob_recovery.specs.Settle.{do_step, do_steps, moved_where, without_staging, can_do}
use Rattle.gob_recovery.specs.Laws.{SettlingCanBeRepeated}

-- names that differ do so either way round
pub turned : (x y : List ℕ) → bytes_eq x y ≡ false → bytes_eq y x ≡ false
turned x y e = elim (bytes_eq y x) as (λ b. bytes_eq y x ≡ b → b ≡ false) [
  | true ↦ λ f. let again : bytes_eq x y ≡ true = (bytes_eq-Decides x y).1 (sym ((bytes_eq-Decides y x).0 f)) in cc
  | false ↦ λ f. refl
] refl

-- what a step takes away
abbrev pub source_of : CommitStep → List ℕ
source_of (move source target) = source
source_of (remove name) = name

-- the name is none of the step's
abbrev pub Off : CommitStep → List ℕ → Type 0
Off s name = AllByRecursion (λ x. bytes_eq name x ≡ false) (names_in s)

-- each name of the first is off the second
abbrev pub Differ : CommitStep → CommitStep → Type 0
Differ (move source target) t = Off t source × Off t target
Differ (remove name) t = Off t name

abbrev pub Own : CommitStep → Type 0
Own (move source target) = bytes_eq source target ≡ false
Own (remove name) = Unit {0}

-- no name stands twice
abbrev pub Apart : List CommitStep → Type 0
Apart [] = Unit {0}
Apart (s ∷ ss) = Own s × AllByRecursion (Differ s) ss × Apart ss

source_off : (s t : CommitStep) → Differ s t → Off t (source_of s)
source_off (move source target) t d = d.0
source_off (remove name) t d = d

-- the names of a later step are off an earlier one
off_turned : (s : CommitStep) (name : List ℕ) → Off s name → AllByRecursion (λ x. bytes_eq x name ≡ false) (names_in s)
off_turned (move source target) name (a, (b, c)) = (turned name source a, (turned name target b, tt))
off_turned (remove other) name (a, c) = (turned name other a, tt)

pub differ_turned : (s t : CommitStep) → Differ s t → Differ t s
differ_turned (move a b) (move c d) ((ac, (ad, u)), (bc, (bd, v))) =
    ((turned a c ac, (turned b c bc, tt)), (turned a d ad, (turned b d bd, tt)))
differ_turned (move a b) (remove c) ((ac, u), (bc, v)) = (turned a c ac, (turned b c bc, tt))
differ_turned (remove a) (move c d) (ac, (ad, u)) = ((turned a c ac, tt), (turned a d ad, tt))
differ_turned (remove a) (remove c) (ac, u) = (turned a c ac, tt)

moved_off : (b : Bool) (source target : List ℕ) (m : Files) (name : List ℕ) → Off (move source target) name
    → moved_where source target b m name ≡ m name
unfolding after_rename
moved_off true source target m name (p, (q, u)) = ap (λ b. cond b (m source) (put m source None name)) q
    ∙ ap (λ b. cond b None (m name)) p
moved_off false source target m name off = refl

pub step_off : (s : CommitStep) (m : Files) (name : List ℕ) → Off s name → do_step s m name ≡ m name
unfolding after_remove
step_off (move source target) m name off = moved_off (is_some (m source)) source target m name off
step_off (remove other) m name (p, u) = ap (λ b. cond b None (m name)) p

pub steps_off : (ss : List CommitStep) (k : ℕ) (m : Files) (name : List ℕ) → AllByRecursion (λ t. Off t name) ss
    → do_steps (take k ss) m name ≡ m name
unfolding do_steps
steps_off [] zero m name off = refl
steps_off [] (suc k) m name off = refl
steps_off (s ∷ ss) zero m name off = refl
steps_off (s ∷ ss) (suc k) m name off = steps_off ss k (do_step s m) name off.1 ∙ step_off s m name off.0

idle_removal : (m : Files) (name other : List ℕ) → m name ≡ None → after_remove name m other ≡ m other
unfolding after_remove
idle_removal m name other gone = elim (bytes_eq other name) as
    (λ b. bytes_eq other name ≡ b → cond b None (m other) ≡ m other) [
      | true ↦ λ e. sym (ap m ((bytes_eq-Decides other name).0 e) ∙ gone)
      | false ↦ λ e. refl
    ] refl

-- a step whose source is gone changes nothing
pub spent_is_idle : (s : CommitStep) (m : Files) → m (source_of s) ≡ None → do_step s m ≡ m
spent_is_idle (move source target) m gone = ap (λ (o : Option File). moved_where source target (is_some o) m) gone
spent_is_idle (remove name) m gone = λ i other. idle_removal m name other gone i

moved_spends : (o : Option File) (source target : List ℕ) (m : Files) → m source ≡ o → bytes_eq source target ≡ false
    → moved_where source target (is_some o) m source ≡ None
unfolding after_rename
moved_spends None source target m e own = e
moved_spends (Some f) source target m e own = ap (λ b. cond b (m source) (put m source None source)) own
    ∙ ap (λ b. cond b None (m source)) (name_itself source)

pub step_spends : (s : CommitStep) (m : Files) → Own s → do_step s m (source_of s) ≡ None
unfolding after_remove
step_spends (remove name) m own = ap (λ b. cond b None (m name)) (name_itself name)
step_spends (move source target) m own = moved_spends (m source) source target m refl own

sources_off : (s : CommitStep) (ss : List CommitStep) → AllByRecursion (Differ s) ss
    → AllByRecursion (λ t. Off t (source_of s)) ss
sources_off s [] d = tt
sources_off s (t ∷ ts) d = (source_off s t d.0, sources_off s ts d.1)

-- after any front of the steps, all of them leave what they would have left
pub again : (steps : List CommitStep) (k : ℕ) (m : Files) → Apart steps
    → do_steps steps (do_steps (take k steps) m) ≡ do_steps steps m
unfolding do_steps
again [] zero m apart = refl
again [] (suc k) m apart = refl
again (s ∷ ss) zero m apart = refl
again (s ∷ ss) (suc k) m apart =
    let spent = steps_off ss k (do_step s m) (source_of s) (sources_off s ss apart.1) ∙ step_spends s m apart.0 in
    ap (do_steps ss) (spent_is_idle s (do_steps (take k ss) (do_step s m)) spent) ∙ again ss k (do_step s m) apart.2

-- a step leaves what another needs
can_off : (s t : CommitStep) (m : Files) → Differ t s → can_do (do_step s m) t ≡ can_do m t
can_off s (move a b) m d = λ j. is_some (step_off s m a d.0 j) || is_some (step_off s m b d.1 j)
can_off s (remove a) m d = refl

or_true : (b : Bool) → (b || true) ≡ true
or_true true = refl
or_true false = refl

moved_can : (o : Option File) (source target : List ℕ) (m : Files) → m source ≡ o → can_do m (move source target) ≡ true
    → can_do (moved_where source target (is_some o) m) (move source target) ≡ true
unfolding after_rename
moved_can None source target m e can = can
moved_can (Some f) source target m e can =
    ap (λ v. is_some (put (put m source None) target (m source) source) || is_some v)
    (ap (λ b. cond b (m source) (put m source None target)) (name_itself target) ∙ e)
    ∙ or_true (is_some (put (put m source None) target (m source) source))

can_own : (s : CommitStep) (m : Files) → can_do m s ≡ true → can_do (do_step s m) s ≡ true
can_own (move source target) m can = moved_can (m source) source target m refl can
can_own (remove name) m can = refl

can_through : (ss : List CommitStep) (k : ℕ) (m : Files) (s : CommitStep) → AllByRecursion (Differ s) ss
    → can_do m s ≡ true → can_do (do_steps (take k ss) m) s ≡ true
unfolding do_steps
can_through [] zero m s d can = can
can_through [] (suc k) m s d can = can
can_through (t ∷ ts) zero m s d can = can
can_through (t ∷ ts) (suc k) m s d can = can_through ts k (do_step t m) s d.1 (can_off t s m d.0 ∙ can)

can_others : (s : CommitStep) (ts : List CommitStep) (m : Files) → AllByRecursion (Differ s) ts
    → list_all (can_do m) ts ≡ true → list_all (can_do (do_step s m)) ts ≡ true
can_others s [] m d can = refl
can_others s (t ∷ ts) m d can =
    let p = and_parts (can_do m t) (list_all (can_do m) ts) can in
    and_from _ _ (can_off s t m (differ_turned s t d.0) ∙ p.0) (can_others s ts m d.1 p.1)

-- what could be done can still be, after any front of the steps
pub can_still : (ss : List CommitStep) (k : ℕ) (m : Files) → Apart ss → list_all (can_do m) ss ≡ true
    → list_all (can_do (do_steps (take k ss) m)) ss ≡ true
unfolding do_steps
can_still [] zero m apart can = refl
can_still [] (suc k) m apart can = refl
can_still (s ∷ ss) zero m apart can = can
can_still (s ∷ ss) (suc k) m apart can =
    let p = and_parts (can_do m s) (list_all (can_do m) ss) can in
    and_from _ _ (can_through ss k (do_step s m) s apart.1 (can_own s m p.0))
    (can_still ss k (do_step s m) apart.2 (can_others s ss m apart.1 p.1))

names_off : (ss : List CommitStep) (x : List ℕ) → AllByRecursion (λ y. bytes_eq x y ≡ false) (flat_map names_in ss)
    → AllByRecursion (λ t. Off t x) ss
names_off [] x d = tt
names_off (move a b ∷ ss) x (p, (q, rest)) = ((p, (q, tt)), names_off ss x rest)
names_off (remove a ∷ ss) x (p, rest) = ((p, tt), names_off ss x rest)

both_off : (ss : List CommitStep) (a b : List ℕ) → AllByRecursion (λ t. Off t a) ss → AllByRecursion (λ t. Off t b) ss
    → AllByRecursion (Differ (move a b)) ss
both_off [] a b p q = tt
both_off (s ∷ ss) a b (p, ps) (q, qs) = ((p, q), both_off ss a b ps qs)

pub apart_from : (ss : List CommitStep) → IsDistinct bytes_eq (flat_map names_in ss) → Apart ss
unfolding IsDistinct
apart_from [] d = tt
apart_from (move a b ∷ ss) ((own, p), (q, rest)) = (
  own,
  both_off ss a b (names_off ss a p) (names_off ss b q),
  apart_from ss rest,
)
apart_from (remove a ∷ ss) (p, rest) = (tt, names_off ss a p, apart_from ss rest)

-- the open sequence isn't staged
pub not_staged : (job : List ℕ) → begins_with (staging job) (sequence_name job) ≡ false
not_staged [] = refl
not_staged (b ∷ job) = ap (λ v. nat_eq b b && v) (not_staged job) ∙ and-false (nat_eq b b)

source_apart : (job source : List ℕ) → begins_with (staging job) source ≡ true
    → bytes_eq (sequence_name job) source ≡ false
source_apart job source staged = elim (bytes_eq (sequence_name job) source) as
    (λ b. bytes_eq (sequence_name job) source ≡ b → b ≡ false) [
      | true ↦ λ e. let is : begins_with (staging job) (sequence_name job) ≡ true =
          ap (begins_with (staging job)) ((bytes_eq-Decides (sequence_name job) source).0 e) ∙ staged in
          let isnt : begins_with (staging job) (sequence_name job) ≡ false = not_staged job in cc
      | false ↦ λ e. refl
    ] refl

pub lasting_apart : (job name : List ℕ) → is_lasting job name ≡ true → bytes_eq (sequence_name job) name ≡ false
lasting_apart job name e = turned name (sequence_name job) (not-true _ (and_parts _ _ e).1)

step_apart : (job : List ℕ) (s : CommitStep) → step_fits job s ≡ true → Off s (sequence_name job)
step_apart job (move source target) e =
    let outer = and_parts _ _ e in
    let inner = and_parts _ _ outer.0 in
    let both = and_parts _ _ inner.0 in
    (source_apart job source (and_parts _ _ both.0).0, (lasting_apart job target both.1, tt))
step_apart job (remove name) e = (lasting_apart job name (and_parts _ _ e).0, tt)

pub steps_apart : (job : List ℕ) (ss : List CommitStep) → list_all (step_fits job) ss ≡ true
    → AllByRecursion (λ t. Off t (sequence_name job)) ss
steps_apart job [] e = tt
steps_apart job (s ∷ ss) e = let p = and_parts (step_fits job s) (list_all (step_fits job) ss) e in
    (step_apart job s p.0, steps_apart job ss p.1)

pub settling_repeats : SettlingCanBeRepeated
settling_repeats job m steps k open_ can =
    let apart = apart_from steps open_.reads.fits.differ in
    let there = steps_off steps k m (sequence_name job) (steps_apart job steps open_.reads.fits.each) in
    inr (
      steps,
      record { file = open_.file; here = there ∙ open_.here; reads = open_.reads },
      can_still steps k m apart can,
      ap (λ n. without_staging job (after_remove (sequence_name job) n))
          (sym (again steps k m apart)),
    )
