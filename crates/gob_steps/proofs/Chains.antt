-- Steps that are set up one after the other.
use Rattle.std.proofs.Common.{◌≡◌, ℕ, suc, ◌+◌, ◌-◌, ◌<◌, arith, ◌≤◌, List, [], ◌∷◌, ◌++◌, length, get_or, drop, Result}
use Rattle.std.proofs.Common.{Ok, Err, Option, Some, None, refl, ap, sym, subst, ◌∙◌}
use Rattle.std.specs.Result.{result_unwrap_or}
use Rattle.std.specs.List.{slice_get}
use Rattle.std.proofs.lemmas.List.{drop_more, drop_all}
use Rattle.std.proofs.lemmas.Option.{same_Some}
use Rattle.gob_convert.specs.Made.{Made, made_each, then_each, made_through, shape_through, FitTogether}
use Rattle.gob_convert.specs.Fitting.{FitTogether-append}
use Rattle.gob_convert.proofs.MadeLemmas.{made_each-one, made_each-same, made_through-append, then_each-then_each}
use Rattle.gob_convert.proofs.MadeLemmas.{shape_through-last}
use Rattle.gob_plan.specs.declared.rows.Column.{Column}
use Rattle.gob_plan.specs.declared.rows.Row.{Row}
use Rattle.gob_plan.specs.declared.steps.StepSpec.{StepSpec}
use Rattle.gob_plan.specs.declared.steps.Refusal.{Refusal}
use Rattle.gob_meaning.specs.Steps.{columns_after, columns_behind, columns_through, first_refused_from, step_rows}
use Rattle.gob_meaning.specs.Steps.{chain_rows}
use Rattle.gob_steps.specs.declared.step.Step.{Step}
use Rattle.gob_steps.specs.Building.{columns_of, after_of, rows_of, columns_behind_all, IsStepFor, Building, Built}

as_it_is : {A : Type 0} (m : Made A) → then_each (λ x. Some (x ∷ [])) m ≡ m
as_it_is None = refl
as_it_is (Some xs) = made_each-same xs

-- the last converter of a list gives the shape behind it
pub last_shape : {C S : Type 0} (out_shape : C → S) (shape : S) (cs : List C) (c : C)
    → Some c ≡ slice_get cs (length cs - 1) → shape_through out_shape shape cs ≡ out_shape c
last_shape out_shape shape [] c is = cc
last_shape out_shape shape (d ∷ []) c is = ap out_shape (sym (same_Some c d is))
last_shape out_shape shape (d ∷ e ∷ es) c is =
    let next : suc (suc (length es)) - 1 ≡ suc (suc (length es) - 1) = omega arith in
    last_shape out_shape (out_shape d) (e ∷ es) c (is ∙ ap (slice_get (d ∷ e ∷ es)) next)

-- no step is set up yet
pub building_from : (specs : List StepSpec) (columns : List Column) → Building specs columns [] 0
building_from specs columns = record {
  follow = tt;
  output = refl;
  rows = λ row. made_each-one (chain_rows specs columns) row;
  refused = refl;
}

-- the next spec, by its place
next_spec : (specs : List StepSpec) (i : ℕ) (spec : StepSpec) → i < length specs → spec ≡ get_or specs i spec
    → drop i specs ≡ spec ∷ drop (i + 1) specs
next_spec specs i spec below is = drop_more specs i spec below ∙ ap (λ s. s ∷ drop (i + 1) specs) (sym is)

-- one more step
pub building_next : (specs : List StepSpec) (columns : List Column) (list : List Step) (i : ℕ) (spec : StepSpec)
    (s : Step) → i < length specs → spec ≡ get_or specs i spec → IsStepFor spec (columns_behind_all columns list) s
    → Building specs columns list i → Building specs columns (list ++ s ∷ []) (i + 1)
building_next specs columns list i spec s below is step so_far =
    let here = columns_behind_all columns list in
    let rest = drop (i + 1) specs in
    let next = next_spec specs i spec below is in
    let behind : columns_behind spec here ≡ after_of s = ap (λ r. result_unwrap_or r here) step.gives in
    let last : columns_behind_all columns (list ++ s ∷ []) ≡ columns_behind spec here =
    shape_through-last after_of columns list s ∙ sym behind in
    record {
      follow = FitTogether-append columns_of after_of columns list s so_far.follow step.takes;
      output = ap (columns_through rest) last ∙ sym (ap (λ ss. columns_through ss here) next) ∙ so_far.output;
      rows = λ row.
          let made = made_through rows_of list row in
          let one : made_through rows_of (s ∷ []) ≡ step_rows spec here =
          λ j y. (as_it_is (rows_of s y) ∙ step.rows y) j in
          (λ j. then_each (chain_rows rest (last j)) (made_through-append rows_of list (s ∷ []) row j))
          ∙ (λ j. then_each (chain_rows rest (columns_behind spec here)) (then_each (one j) made))
          ∙ sym (then_each-then_each (step_rows spec here) (chain_rows rest (columns_behind spec here)) made)
          ∙ sym (λ j. then_each (chain_rows (next j) here) made)
          ∙ so_far.rows row;
      refused = ap (first_refused_from (i + 1) rest) last ∙ sym (went_on i spec rest here (after_of s) step.gives)
          ∙ sym (ap (λ ss. first_refused_from i ss here) next) ∙ so_far.refused;
    }
  where
    went_on : (i : ℕ) (spec : StepSpec) (rest : List StepSpec) (here after : List Column)
        → columns_after spec here ≡ Ok after
        → first_refused_from i (spec ∷ rest) here ≡ first_refused_from (i + 1) rest (columns_behind spec here)
    went_on i spec rest here after gives = rw gives refl

pub building_on : (specs : List StepSpec) (columns : List Column) (list list' : List Step) (i : ℕ) (spec : StepSpec)
    → i < length specs → spec ≡ get_or specs i spec
    → (s : Step) × IsStepFor spec (columns_behind_all columns list) s × (list' ≡ list ++ s ∷ [])
    → Building specs columns list i → Building specs columns list' (i + 1)
building_on specs columns list list' i spec below is more so_far =
    subst (λ ss. Building specs columns ss (i + 1)) (sym more.2)
    (building_next specs columns list i spec more.0 below is more.1 so_far)

-- a step that is refused is the first one
pub refused_here : (specs : List StepSpec) (columns : List Column) (list : List Step) (i : ℕ) (spec : StepSpec)
    (why : Refusal) → i < length specs → spec ≡ get_or specs i spec
    → columns_after spec (columns_behind_all columns list) ≡ Err why
    → Building specs columns list i → first_refused_from 0 specs columns ≡ Some (i, why)
refused_here specs columns list i spec why below is refused so_far =
    let here = columns_behind_all columns list in
    sym so_far.refused ∙ ap (λ ss. first_refused_from i ss here) (next_spec specs i spec below is)
    ∙ stopped i spec (drop (i + 1) specs) here why refused
  where
    stopped : (i : ℕ) (spec : StepSpec) (rest : List StepSpec) (here : List Column) (why : Refusal)
        → columns_after spec here ≡ Err why → first_refused_from i (spec ∷ rest) here ≡ Some (i, why)
    stopped i spec rest here why refused = rw refused refl

-- all are set up
pub all_built : (specs : List StepSpec) (columns : List Column) (list : List Step) (i : ℕ) → length specs ≤ i
    → Building specs columns list i → Built specs columns list
all_built specs columns list i past so_far =
    let here = columns_behind_all columns list in
    let none = drop_all i specs past in
    record {
      follow = so_far.follow;
      output = sym (ap (λ ss. columns_through ss here) none) ∙ so_far.output;
      rows = λ row. sym (as_it_is (made_through rows_of list row))
          ∙ sym (λ j. then_each (chain_rows (none j) here) (made_through rows_of list row)) ∙ so_far.rows row;
      refused = sym so_far.refused ∙ ap (λ ss. first_refused_from i ss here) none;
    }

-- a step that was set up for a copy of the spec
pub step_for : (spec own : StepSpec) (columns lent : List Column) (s : Step) → own ≡ spec → lent ≡ columns
    → columns_of s ≡ lent → columns_after own lent ≡ Ok (after_of s)
    → ((row : Row) → rows_of s row ≡ step_rows own lent row) → IsStepFor spec columns s
step_for spec own columns lent s same here takes gives rows =
    subst (λ x. IsStepFor x columns s) same (subst (λ cs. IsStepFor own cs s) here
    (record { takes = takes; gives = gives; rows = rows }))
