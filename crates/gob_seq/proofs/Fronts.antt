-- Fronts of the steps, done one after the other.
use Rattle.std.proofs.Common.{◌≡◌, inl, inr, ⊎_elim, ℕ, zero, suc, ◌+◌, ◌<◌, List, [], ◌∷◌, ◌++◌, map}
use Rattle.std.proofs.Common.{length, take, get_or, refl, sym, ap, subst, ◌∙◌, Some, None, IfSome, IsSome}
use Rattle.std.proofs.Common.{arith, add-one}
use Rattle.std.specs.declared.option.Option.{Option}
use Rattle.std.specs.declared.result.Result.{Result}
use Rattle.std.proofs.lemmas.List.{take_all}
use Rattle.gob_bytes.proofs.Options.{if_both}
use Rattle.gob_device.specs.Disk.{Files, Disk, AddsMaps, Along, Changes, EachOf, Whole}
use Rattle.gob_device.specs.Disk.{after_remove, after_rename, last_map}
use Rattle.gob_device.proofs.Trail.{each-append, each-map, maps_map, maps_nothing, maps_then, last-append}
use Rattle.gob_recovery.specs.Sequence.{CommitStep, move}
use Rattle.gob_recovery.specs.Settle.{do_step, do_steps, moved_where}
use Rattle.gob_seq.specs.Maps.{EndsAs, Finishes, FrontIsDone}
use Rattle.gob_seq.proofs.Trails.{along_known, along_whole, maps_both, maps_known}

-- one element more of a list of steps
pub one_more : {X : Type 0} (f : X → CommitStep) (xs : List X) (i : ℕ) (x : X) → i < length xs → x ≡ get_or xs i x
    → take (suc i) (map f xs) ≡ take i (map f xs) ++ f x ∷ []
one_more f [] i x below is = absurd (omega (arith, below))
one_more f (y ∷ ys) zero x below is = ap (λ z. f z ∷ []) (sym is)
one_more f (y ∷ ys) (suc i) x below is = ap (λ t. f y ∷ t) (one_more f ys i x (omega (arith, below)) is)

do_more : (ss : List CommitStep) (s : CommitStep) (m : Files) → do_steps (ss ++ s ∷ []) m ≡ do_step s (do_steps ss m)
unfolding do_steps
do_more [] s m = refl
do_more (t ∷ ss) s m = do_more ss s (do_step t m)

-- so many of the steps are done in the map that stands
abbrev pub DoneUpTo : List CommitStep → ℕ → Files → List Files → Type 0
DoneUpTo steps i m xs = EachOf (FrontIsDone steps m) xs × (last_map m xs ≡ do_steps (take i steps) m)

pub none_done : (steps : List CommitStep) (o : Option Disk) → AddsMaps (DoneUpTo steps 0) o o
unfolding do_steps
none_done steps o = maps_nothing (DoneUpTo steps 0) (λ m. (tt, refl)) o

step_done : (steps : List CommitStep) (i : ℕ) (s : CommitStep) (m last : Files)
    → take (suc i) steps ≡ take i steps ++ s ∷ []
    → last ≡ do_steps (take i steps) m → do_step s last ≡ do_steps (take (suc i) steps) m
step_done steps i s m last more is =
    ap (do_step s) is ∙ (sym (do_more (take i steps) s m) ∙ ap (λ t. do_steps t m) (sym more))

step_front : (steps : List CommitStep) (i : ℕ) (s : CommitStep) (m last n : Files)
    → take (suc i) steps ≡ take i steps ++ s ∷ [] → last ≡ do_steps (take i steps) m → Whole (do_step s) last n
    → FrontIsDone steps m n
step_front steps i s m last n more is whole = ⊎_elim
    (λ e. (i, e ∙ is))
    (λ e. (suc i, e ∙ step_done steps i s m last more is))
    whole

pub step_left : (steps : List CommitStep) (i : ℕ) (s : CommitStep) {old between new : Option Disk}
    → take (suc i) steps ≡ take i steps ++ s ∷ [] → AddsMaps (DoneUpTo steps i) old between
    → Along (Whole (do_step s)) between new → Along (FrontIsDone steps) old new
step_left steps i s more a b = maps_then
    (λ m xs ys p q. each-append (FrontIsDone steps m) xs ys p.0
    (each-map (Whole (do_step s) (last_map m xs)) (FrontIsDone steps m) ys
    (λ n w. step_front steps i s m (last_map m xs) n more p.1 w) q))
    a b

pub one_done : (steps : List CommitStep) (i : ℕ) (s : CommitStep) {old between new : Option Disk}
    → take (suc i) steps ≡ take i steps ++ s ∷ [] → AddsMaps (DoneUpTo steps i) old between
    → Along (Whole (do_step s)) between new → AddsMaps (EndsAs (do_step s)) between new
    → AddsMaps (DoneUpTo steps (i + 1)) old new
one_done steps i s {old} {between} {new} more a b ends =
    subst (λ j. AddsMaps (DoneUpTo steps j) old new) (sym (add-one i)) both_done
  where
    at_last : AddsMaps (λ m xs. last_map m xs ≡ do_steps (take (suc i) steps) m) old new
    at_last = maps_then
        (λ m xs ys p q. last-append m xs ys ∙ (q ∙ step_done steps i s m (last_map m xs) more p.1))
        a ends

    both_done : AddsMaps (DoneUpTo steps (suc i)) old new
    both_done = maps_both (step_left steps i s more a b) at_last

pub done_front : (steps : List CommitStep) (i : ℕ) {old new : Option Disk} → AddsMaps (DoneUpTo steps i) old new
    → Along (FrontIsDone steps) old new
done_front steps i a = maps_map (λ m xs p. p.0) a

pub done_all : (steps : List CommitStep) (i : ℕ) {old new : Option Disk} → take i steps ≡ steps
    → AddsMaps (DoneUpTo steps i) old new → AddsMaps (EndsAs (do_steps steps)) old new
done_all steps i all a = maps_map (λ m xs p. p.1 ∙ ap (λ t. do_steps t m) all) a

-- ---- one step

source_there : (source target : List ℕ) (o : Option Disk) → IfSome o (λ d. IsSome (d.files source))
    → IfSome o (λ d. (m : Files) → m ≡ after_rename source target d.files → m ≡ do_step (move source target) d.files)
source_there source target None there = tt
source_there source target (Some d) there = λ m e. e ∙ ap (λ b. moved_where source target b d.files) (sym there)

pub moved_whole : {T E : Type 0} (source target : List ℕ) {old new : Option Disk} {result : Result T E}
    → IfSome old (λ d. IsSome (d.files source))
    → Changes (after_rename source target) (Whole (after_rename source target)) old new result
    → Along (Whole (do_step (move source target))) old new
moved_whole source target {old} there c = along_known (Whole (after_rename source target))
    (Whole (do_step (move source target)))
    (if_both old (λ d same n w. ⊎_elim (λ e. inl e) (λ e. inr (same n e)) w) (source_there source target old there))
    (along_whole c)

pub moved_ends : (source target : List ℕ) {old new : Option Disk} → IfSome old (λ d. IsSome (d.files source))
    → AddsMaps (EndsAs (after_rename source target)) old new → AddsMaps (EndsAs (do_step (move source target))) old new
moved_ends source target {old} there a =
    maps_known (if_both old (λ d same xs e. same _ e) (source_there source target old there)) a

-- ---- the steps, and then the sequence

pub finish_left : (name : List ℕ) (steps : List CommitStep) {old between new : Option Disk}
    → Along (FrontIsDone steps) old between → AddsMaps (EndsAs (do_steps steps)) old between
    → Along (Whole (after_remove name)) between new → Along (Finishes name steps) old new
finish_left name steps a ends b = maps_then
    (λ m xs ys p q. each-append (Finishes name steps m) xs ys
    (each-map (FrontIsDone steps m) (Finishes name steps m) xs (λ n f. inl f) p.0)
    (each-map (Whole (after_remove name) (last_map m xs)) (Finishes name steps m) ys
    (λ n w. ⊎_elim
    (λ e. inl (length steps, e ∙ (p.1 ∙ ap (λ t. do_steps t m) (sym (take_all (length steps) steps (omega arith))))))
    (λ e. inr (e ∙ ap (after_remove name) p.1))
    w) q))
    (maps_both a ends) b
