-- Which steps can be done, by the sizes of files.
use Rattle.std.proofs.Common.{◌≡◌, ◌<◌, ◌+◌, ◌↔◌, ℕ, suc, zero, Bool, true, false, not, ◌||◌, List, [], ◌∷◌, ◌++◌}
use Rattle.std.proofs.Common.{map, length, take, drop, get_or, refl, sym, ap, subst, ◌∙◌, Some, None, IfSome}
use Rattle.std.proofs.Common.{IsTrue, is_some, option_map, arith, add-one}
use Rattle.std.specs.declared.option.Option.{Option}
use Rattle.std.specs.List.{list_all}
use Rattle.std.proofs.lemmas.Bool.{and_from, and_parts, true≢false}
use Rattle.gob_bytes.specs.Paths.{sequence_name}
use Rattle.gob_device.specs.Disk.{Disk, File, Files, contents_at, contents_of}
use Rattle.gob_recovery.specs.Sequence.{CommitStep, move}
use Rattle.gob_recovery.specs.Settle.{can_do}
use Rattle.gob_seq.specs.Maps.{FirstLost, IsReady}
use Rattle.gob_seq.specs.Steps.{commit_step_of}
use Rattle.gob_seq.specs.declared.sequence.SeqStep.{SeqStep}
use Rattle.gob_seq.specs.declared.sequence.SeqStep.TheVariants.{Move, Remove}
use Rattle.gob_seq.proofs.Fronts.{one_more}

all_more : (m : Files) (ss : List CommitStep) (s : CommitStep) → list_all (can_do m) ss ≡ true → can_do m s ≡ true
    → list_all (can_do m) (ss ++ s ∷ []) ≡ true
all_more m [] s all can = and_from (can_do m s) true can refl
all_more m (t ∷ ts) s all can =
    let p = and_parts (can_do m t) (list_all (can_do m) ts) all in
    and_from (can_do m t) (list_all (can_do m) (ts ++ s ∷ [])) p.0 (all_more m ts s p.1 can)

-- one step more can be done
pub can_more : (steps : List SeqStep) (i : ℕ) (step : SeqStep) (o : Option Disk) → i < length steps
    → step ≡ get_or steps i step
    → IfSome o (λ d. list_all (can_do d.files) (take i (map commit_step_of steps)) ≡ true)
    → IfSome o (λ d. can_do d.files (commit_step_of step) ≡ true)
    → IfSome o (λ d. list_all (can_do d.files) (take (i + 1) (map commit_step_of steps)) ≡ true)
can_more steps i step None below is all can = tt
can_more steps i step (Some d) below is all can =
    ap (λ j. list_all (can_do d.files) (take j (map commit_step_of steps))) (add-one i)
    ∙ (ap (list_all (can_do d.files)) (one_more commit_step_of steps i step below is)
    ∙ all_more d.files (take i (map commit_step_of steps)) (commit_step_of step) all can)

not_false : (b : Bool) → false ≡ not b → b ≡ true
not_false true e = refl
not_false false e = e

not_true : (b : Bool) → true ≡ not b → b ≡ false
not_true true e = e
not_true false e = refl

-- a move that isn't lost
pub not_lost : (step : SeqStep) (source target a b : List ℕ) (o p : Option Disk) → step ≡ Move source target → p ≡ o
    → a ≡ source → b ≡ target
    → IfSome p (λ d. false ≡ not (is_some (d.files a) || is_some (d.files b)))
    → IfSome o (λ d. can_do d.files (commit_step_of step) ≡ true)
not_lost step source target a b o p is same from to lost = told o
    (subst (λ q. IfSome q (λ d. false ≡ not (is_some (d.files a) || is_some (d.files b)))) same lost)
  where
    told : (q : Option Disk) → IfSome q (λ d. false ≡ not (is_some (d.files a) || is_some (d.files b)))
        → IfSome q (λ d. can_do d.files (commit_step_of step) ≡ true)
    told None h = tt
    told (Some d) h =
        ap (λ s. can_do d.files (commit_step_of s)) is
        ∙ ((λ i. is_some (d.files (sym from i)) || is_some (d.files (sym to i))) ∙ not_false _ h)

-- a step that is no move
pub other_can : (step : SeqStep) (o : Option Disk) → ((a b : List ℕ) → step ≡ Move a b → ⊥)
    → IfSome o (λ d. can_do d.files (commit_step_of step) ≡ true)
other_can step None other = tt
other_can (Move a b) (Some d) other = absurd (other a b refl)
other_can (Remove a) (Some d) other = refl

cut_at : (steps : List SeqStep) (i : ℕ) (step : SeqStep) → i < length steps → step ≡ get_or steps i step
    → map commit_step_of steps ≡ take i (map commit_step_of steps) ++ commit_step_of step ∷ drop (suc i)
    (map commit_step_of steps)
cut_at [] i step below is = absurd (omega (arith, below))
cut_at (s ∷ ss) zero step below is = ap (λ z. commit_step_of z ∷ map commit_step_of ss) (sym is)
cut_at (s ∷ ss) (suc i) step below is = ap (λ t. commit_step_of s ∷ t) (cut_at ss i step (omega (arith, below)) is)

-- the first move that is lost
pub is_first : (steps : List SeqStep) (i : ℕ) (step : SeqStep) (source target a b : List ℕ) (o p : Option Disk)
    → i < length steps
    → step ≡ get_or steps i step → step ≡ Move source target → p ≡ o → a ≡ source → b ≡ target
    → IfSome o (λ d. list_all (can_do d.files) (take i (map commit_step_of steps)) ≡ true)
    → IfSome p (λ d. true ≡ not (is_some (d.files a) || is_some (d.files b)))
    → IfSome o (λ d. FirstLost d.files (map commit_step_of steps) a)
is_first steps i step source target a b o p below at is same from to all lost = told o all
    (subst (λ q. IfSome q (λ d. true ≡ not (is_some (d.files a) || is_some (d.files b)))) same lost)
  where
    step_is : commit_step_of step ≡ move a b
    step_is = ap commit_step_of is ∙ (λ i. move (sym from i) (sym to i))

    told : (q : Option Disk) → IfSome q (λ d. list_all (can_do d.files) (take i (map commit_step_of steps)) ≡ true)
        → IfSome q (λ d. true ≡ not (is_some (d.files a) || is_some (d.files b)))
        → IfSome q (λ d. FirstLost d.files (map commit_step_of steps) a)
    told None all h = tt
    told (Some d) all h = record {
      before = take i (map commit_step_of steps);
      target = b;
      after = drop (suc i) (map commit_step_of steps);
      whole = cut_at steps i step below at ∙ ap (λ s. take i (map commit_step_of steps) ++ s ∷ drop (suc i)
          (map commit_step_of steps)) step_is;
      can = all;
      cannot = not_true _ h;
    }

-- ---- readiness

stops_at : (m : Files) (before after : List CommitStep) (s : CommitStep) → can_do m s ≡ false
    → list_all (can_do m) (before ++ s ∷ after) ≡ true → ⊥
stops_at m [] after s cannot all = true≢false (sym (and_parts (can_do m s) (list_all (can_do m) after) all).0 ∙ cannot)
stops_at m (b ∷ before) after s cannot all =
    stops_at m before after s cannot (and_parts (can_do m b) (list_all (can_do m) (before ++ s ∷ after)) all).1

-- a move that is lost can't be done
pub lost_cannot : (m : Files) (steps : List CommitStep) (source : List ℕ) → FirstLost m steps source
    → list_all (can_do m) steps ≡ true → ⊥
lost_cannot m steps source lost all =
    stops_at m lost.before lost.after (move source lost.target) lost.cannot
    (sym (ap (list_all (can_do m)) lost.whole) ∙ all)

no_size : (o : Option File) → None ≡ option_map (λ (bytes : List ℕ). length bytes) (option_map contents_of o) → o ≡ None
no_size None e = refl
no_size (Some f) e = cc

some_size : (n : ℕ) (o : Option File) → Some n ≡ option_map (λ (bytes : List ℕ). length bytes)
    (option_map contents_of o) → o ≡ None → ⊥
some_size n None e is = cc
some_size n (Some f) e is = cc

-- a sequence is open
pub open_unready : (job name : List ℕ) (steps : List CommitStep) (n : ℕ) (o : Option Disk) → name ≡ sequence_name job
    → IfSome o (λ d. Some n ≡ option_map (λ (bytes : List ℕ). length bytes) (contents_at d.files name))
    → IfSome o (λ d. IsTrue false ↔ IsReady job steps d.files)
open_unready job name steps n None is size = tt
open_unready job name steps n (Some d) is size = (
  λ e. absurd (true≢false (sym e)),
  λ r. absurd (some_size n (d.files name) size (ap d.files is ∙ r.closed)),
)

-- a move is lost
pub lost_unready : (job source : List ℕ) (steps ss : List CommitStep) (o p : Option Disk) → p ≡ o → ss ≡ steps
    → IfSome p (λ d. FirstLost d.files ss source) → IfSome o (λ d. IsTrue false ↔ IsReady job steps d.files)
lost_unready job source steps ss o p same is lost = told o
    (subst (λ q. IfSome q (λ d. FirstLost d.files ss source)) same lost)
  where
    told : (q : Option Disk) → IfSome q (λ d. FirstLost d.files ss source)
        → IfSome q (λ d. IsTrue false ↔ IsReady job steps d.files)
    told None h = tt
    told (Some d) h = (
      λ e. absurd (true≢false (sym e)),
      λ r. absurd (lost_cannot d.files ss source h (ap (list_all (can_do d.files)) is ∙ r.can)),
    )

pub all_ready : (job name : List ℕ) (steps ss : List CommitStep) (o p : Option Disk) → p ≡ o → ss ≡ steps
    → name ≡ sequence_name job
    → IfSome o (λ d. None ≡ option_map (λ (bytes : List ℕ). length bytes) (contents_at d.files name))
    → IfSome p (λ d. list_all (can_do d.files) ss ≡ true) → IfSome o (λ d. IsTrue true ↔ IsReady job steps d.files)
all_ready job name steps ss o p same is at size can = told o size
    (subst (λ q. IfSome q (λ d. list_all (can_do d.files) ss ≡ true)) same can)
  where
    told : (q : Option Disk) → IfSome q (λ d. None ≡ option_map (λ (bytes : List ℕ). length bytes)
        (contents_at d.files name))
        → IfSome q (λ d. list_all (can_do d.files) ss ≡ true) → IfSome q (λ d. IsTrue true ↔ IsReady job steps d.files)
    told None s h = tt
    told (Some d) s h = (
      λ e. record {
        closed = sym (ap d.files at) ∙ no_size (d.files name) s;
        can = sym
            (ap (list_all (can_do d.files)) is) ∙ h;
      },
      λ r. refl,
    )
