-- Steps read one after the other, each on the columns behind those before it.
use Rattle.std.proofs.Common.{◌≡◌, ℕ, ◌+◌, ◌<◌, ◌≤◌, List, [], ◌∷◌, ◌++◌, length, drop, get_or, Result, Ok, Err, Bor}
use Rattle.std.proofs.Common.{sym, ap, ◌∙◌, append-nil}
use Rattle.std.proofs.lemmas.List.{drop_all}
use Rattle.gob_plan.specs.declared.rows.Column.{Column}
use Rattle.gob_plan.specs.declared.steps.StepSpec.{StepSpec}
use Rattle.gob_plan.specs.declared.steps.Refusal.{Refusal}
use Rattle.gob_meaning.specs.Steps.{columns_behind}
use Rattle.gob_jobs.specs.Words.{and_then, value_map}
use Rattle.gob_jobs.specs.Elements.{step_read, steps_read}
use Rattle.gob_job.specs.Cuts.{texts_of}
use Rattle.gob_job.specs.Loops.{behind_ok}
use Rattle.gob_job.proofs.ItemLoops.{item_more, behind_ok_step}

-- the step at hand, and those after it
at_hand : (columns : List Column) (es : List (Bor (List ℕ))) (i : ℕ) (d : Bor (List ℕ)) → i < length es
    → steps_read columns (texts_of (drop i es)) ≡ and_then
    (λ s. value_map (λ ss. s ∷ ss) (steps_read (columns_behind s columns) (texts_of (drop (i + 1) es))))
    (step_read columns (get_or es i d).now)
unfolding steps_read
at_hand columns es i d inside = ap (λ l. steps_read columns (texts_of l)) (item_more es i d inside)

pub steps_step : (done more : List StepSpec) (s : StepSpec) (columns next : List Column) (es : List (Bor (List ℕ)))
    (i : ℕ) (d : Bor (List ℕ)) {whole : Result (List StepSpec) Refusal} → i < length es
    → behind_ok done (steps_read columns (texts_of (drop i es))) ≡ whole → step_read columns (get_or es i d).now ≡ Ok s
    → next ≡ columns_behind s columns → more ≡ done ++ s ∷ []
    → behind_ok more (steps_read next (texts_of (drop (i + 1) es))) ≡ whole
steps_step done more s columns next es i d inside so_far read behind added =
    ap (λ m. behind_ok m (steps_read next (texts_of (drop (i + 1) es)))) added
    ∙ (ap (λ n. behind_ok (done ++ s ∷ []) (steps_read n (texts_of (drop (i + 1) es)))) behind
    ∙ (sym (behind_ok_step done s (steps_read (columns_behind s columns) (texts_of (drop (i + 1) es))))
    ∙ (sym (ap (λ o. behind_ok done (and_then (λ t. value_map (λ ss. t ∷ ss)
    (steps_read (columns_behind t columns) (texts_of (drop (i + 1) es)))) o)) read)
    ∙ (sym (ap (behind_ok done) (at_hand columns es i d inside)) ∙ so_far))))

pub steps_fault : (done : List StepSpec) (columns : List Column) (es : List (Bor (List ℕ))) (i : ℕ) (d : Bor (List ℕ))
    (r : Refusal) {whole : Result (List StepSpec) Refusal} → i < length es
    → behind_ok done (steps_read columns (texts_of (drop i es))) ≡ whole → step_read columns (get_or es i d).now ≡ Err r
    → whole ≡ Err r
steps_fault done columns es i d r inside so_far read =
    sym so_far
    ∙ (ap (behind_ok done) (at_hand columns es i d inside)
    ∙ ap (λ o. behind_ok done (and_then (λ t. value_map (λ ss. t ∷ ss)
    (steps_read (columns_behind t columns) (texts_of (drop (i + 1) es)))) o)) read)

pub steps_end : (done : List StepSpec) (columns : List Column) (es : List (Bor (List ℕ))) (i : ℕ)
    {whole : Result (List StepSpec) Refusal} → length es ≤ i
    → behind_ok done (steps_read columns (texts_of (drop i es))) ≡ whole → whole ≡ Ok done
unfolding steps_read
steps_end done columns es i past so_far =
    sym so_far ∙ (ap (λ l. behind_ok done (steps_read columns (texts_of l))) (drop_all i es past)
    ∙ ap (λ d. Ok d) (append-nil done))
