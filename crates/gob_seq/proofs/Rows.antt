-- What steps give, one after the other.
use Rattle.std.proofs.Common.{◌≡◌, ◌<◌, ◌+◌, ◌&&◌, ℕ, zero, suc, Bool, true, false, List, [], ◌∷◌, ◌++◌, map, length}
use Rattle.std.proofs.Common.{take, get_or, refl, sym, ap, ◌∙◌, add-one, arith, append_assoc, codes, decimal}
use Rattle.std.specs.List.{flat_map, list_all}
use Rattle.std.proofs.Math.Bool.{and-false}
use Rattle.std.proofs.lemmas.Bool.{and_from, and_parts}
use Rattle.std.proofs.lemmas.List.{append-nil}
use Rattle.std.proofs.lemmas.Grind.{flat_map-append}
use Rattle.gob_recovery.specs.Sequence.{CommitStep, sequence_text, step_line}
use Rattle.gob_seq.specs.declared.sequence.SeqStep.{SeqStep}
use Rattle.gob_seq.specs.Steps.{commit_step_of}
use Rattle.gob_seq.proofs.Fronts.{one_more}

-- what one step more gives
pub flat_more : {A : Type 0} (F : CommitStep → List A) (steps : List SeqStep) (i : ℕ) (step : SeqStep)
    → i < length steps
    → step ≡ get_or steps i step
    → flat_map F (take (i + 1) (map commit_step_of steps)) ≡ flat_map F (take i (map commit_step_of steps)) ++ F
    (commit_step_of step)
flat_more F steps i step below is =
    ap (λ j. flat_map F (take j (map commit_step_of steps))) (add-one i)
    ∙ (ap (flat_map F) (one_more commit_step_of steps i step below is)
    ∙ (flat_map-append F (take i (map commit_step_of steps)) (commit_step_of step ∷ [])
    ∙ ap (λ t. flat_map F (take i (map commit_step_of steps)) ++ t) (append-nil (F (commit_step_of step)))))

-- one step more passes
pub all_more : (F : CommitStep → Bool) (steps : List SeqStep) (i : ℕ) (step : SeqStep) → i < length steps
    → step ≡ get_or steps i step
    → list_all F (take i (map commit_step_of steps)) ≡ true → F (commit_step_of step) ≡ true
    → list_all F (take (i + 1) (map commit_step_of steps)) ≡ true
all_more F steps i step below is all passes =
    ap (λ j. list_all F (take j (map commit_step_of steps))) (add-one i)
    ∙ (ap (list_all F) (one_more commit_step_of steps i step below is) ∙ appended
    (take i (map commit_step_of steps)) all)
  where
    appended : (ss : List CommitStep) → list_all F ss ≡ true → list_all F (ss ++ commit_step_of step ∷ []) ≡ true
    appended [] e = and_from (F (commit_step_of step)) true passes refl
    appended (s ∷ ss) e =
        let p = and_parts (F s) (list_all F ss) e in
        and_from (F s) (list_all F (ss ++ commit_step_of step ∷ [])) p.0 (appended ss p.1)

-- one step doesn't pass
pub one_not : (F : CommitStep → Bool) (steps : List SeqStep) (i : ℕ) (step : SeqStep) → i < length steps
    → step ≡ get_or steps i step
    → F (commit_step_of step) ≡ false → false ≡ list_all F (map commit_step_of steps)
one_not F [] i step below is fails = absurd (omega (arith, below))
one_not F (s ∷ ss) zero step below is fails =
    sym (ap (λ b. b && list_all F (map commit_step_of ss)) (sym (ap (λ z. F (commit_step_of z)) is) ∙ fails))
one_not F (s ∷ ss) (suc i) step below is fails =
    sym (ap (λ b. F (commit_step_of s) && b) (sym (one_not F ss i step (omega (arith, below)) is fails)) ∙ and-false
    (F (commit_step_of s)))

joined : (old a b c d e : List ℕ) → ((((old ++ a) ++ b) ++ c) ++ d) ++ e ≡ old ++ ((a ++ b) ++ (c ++ (d ++ e)))
joined old a b c d e = simp append_assoc

-- the parts of a sequence's text, one after the other
pub text_written : (old t1 t2 t3 t4 t5 : List ℕ) (steps : List CommitStep) (n : ℕ)
    → t1 ≡ old ++ codes "gobblin-sequence 1\n"
    → t2 ≡ t1 ++ flat_map step_line steps → t3 ≡ t2 ++ codes "end " → t4 ≡ t3 ++ decimal n → t5 ≡ t4 ++ codes "\n"
    → n ≡ length steps
    → t5 ≡ old ++ sequence_text steps
unfolding sequence_text
text_written old t1 t2 t3 t4 t5 steps n e1 e2 e3 e4 e5 count =
    e5
    ∙ (ap (λ x. x ++ codes "\n") (e4 ∙ (ap (λ x. x ++ decimal n)
    (e3 ∙ ap (λ x. x ++ codes "end ") (e2 ∙ ap (λ x. x ++ flat_map step_line steps) e1))))
    ∙ (joined old (codes "gobblin-sequence 1\n") (flat_map step_line steps) (codes "end ") (decimal n) (codes "\n")
    ∙ ap (λ k. old ++ ((codes "gobblin-sequence 1\n" ++ flat_map step_line steps) ++
    (codes "end " ++ (decimal k ++ codes "\n")))) count))
