-- Why a step is refused, and what it makes of columns.
use Rattle.std.proofs.Common.{◌≡◌, ℕ, ◌<◌, ◌≤◌, arith, Bool, true, false, cond, not, ◌&&◌, ◌||◌, nat_eq, List, [], ◌∷◌}
use Rattle.std.proofs.Common.{length, Result, Ok, Err, Option, Some, None, IsErrAnd, refl, ap, sym, ◌∙◌}
use Rattle.std.proofs.lemmas.Result.{err_from_is_err_and}
use Rattle.std.proofs.lemmas.Bool.{le-leb, lt-leb, ne_eqb}
use Rattle.gob_plan.specs.declared.rows.Kind.{Kind}
use Rattle.gob_plan.specs.declared.rows.Value.{Value}
use Rattle.gob_plan.specs.declared.rows.Column.{Column}
use Rattle.gob_plan.specs.declared.steps.StepSpec.{StepSpec}
use Rattle.gob_plan.specs.declared.steps.StepSpec.TheVariants as step
use Rattle.gob_plan.specs.declared.steps.Refusal.{Refusal}
use Rattle.gob_plan.specs.declared.steps.Refusal.TheVariants.{NoColumn, BadKind, BadValue}
use Rattle.gob_plan.specs.declared.steps.StepFault.{StepFault}
use Rattle.gob_plan.specs.declared.steps.StepFault.TheVariants.{Refused, Memory}
use Rattle.gob_plan.specs.Columns.{is_there}
use Rattle.gob_plan.specs.Rows.{is_of, kind_of}
use Rattle.gob_meaning.specs.Steps.{first_missing, are_bad_names, columns_named, columns_but, with_new_kind}
use Rattle.gob_meaning.specs.Steps.{with_column, is_full, unless_missing, of_kind, columns_after}
use Rattle.gob_steps.specs.Told.{TellsColumns}

pub told_after : (s : StepSpec) (columns after : List Column) → columns_after s columns ≡ Ok after
    → TellsColumns s columns (Ok after)
told_after s columns after is = (is, tt)

pub told_refused : (s : StepSpec) (columns : List Column) (why : Refusal) (fault : StepFault)
    → columns_after s columns ≡ Err why → fault ≡ Refused why → TellsColumns s columns (Err fault)
told_refused s columns why fault is told = (tt, λ other same. let one : why ≡ other = cc in is ∙ ap Err one)

-- no memory was left
pub told_nothing : (s : StepSpec) (columns : List Column) (r : Result (List Column) StepFault)
    → IsErrAnd r (λ e. e ≡ Memory) → TellsColumns s columns r
told_nothing s columns r is =
    let exit = err_from_is_err_and r is in
    rw (exit.1, exit.2) (tt, λ why same. cc)

-- ---- steps by the names of many columns

pub names_missing : (o : Option (List ℕ)) (wrong : Bool) (after : List Column) (n : List ℕ) → o ≡ Some n
    → unless_missing o wrong after ≡ Err (NoColumn n)
names_missing o wrong after n is = ap (λ o. unless_missing o wrong after) is

pub names_bad : (o : Option (List ℕ)) (wrong : Bool) (after : List Column) → o ≡ None → wrong ≡ true
    → unless_missing o wrong after ≡ Err BadValue
names_bad o wrong after is bad = λ i. unless_missing (is i) (bad i) after

pub names_right : (o : Option (List ℕ)) (wrong : Bool) (after : List Column) → o ≡ None → wrong ≡ false
    → unless_missing o wrong after ≡ Ok after
names_right o wrong after is good = λ i. unless_missing (is i) (good i) after

-- ---- steps by the name of one column

pub kind_missing : (name : List ℕ) (right wrong : Kind → Bool) (after : Kind → List Column) (o : Option Kind)
    → o ≡ None → of_kind name right wrong after o ≡ Err (NoColumn name)
kind_missing name right wrong after o is = ap (of_kind name right wrong after) is

pub kind_other : (name : List ℕ) (right wrong : Kind → Bool) (after : Kind → List Column) (o : Option Kind) (k : Kind)
    → o ≡ Some k → right k ≡ false → of_kind name right wrong after o ≡ Err (BadKind name)
kind_other name right wrong after o k is other =
    ap (of_kind name right wrong after) is
    ∙ ap (λ b. cond b (cond (wrong k) (Err BadValue) (Ok (after k))) (Err (BadKind name))) other

pub kind_bad : (name : List ℕ) (right wrong : Kind → Bool) (after : Kind → List Column) (o : Option Kind) (k : Kind)
    → o ≡ Some k → right k ≡ true → wrong k ≡ true → of_kind name right wrong after o ≡ Err BadValue
kind_bad name right wrong after o k is fine bad =
    ap (of_kind name right wrong after) is
    ∙ (λ i. cond (fine i) (cond (bad i) (Err BadValue) (Ok (after k))) (Err (BadKind name)))

pub kind_right : (name : List ℕ) (right wrong : Kind → Bool) (after : Kind → List Column) (o : Option Kind) (k : Kind)
    → o ≡ Some k → right k ≡ true → wrong k ≡ false → of_kind name right wrong after o ≡ Ok (after k)
kind_right name right wrong after o k is fine good =
    ap (of_kind name right wrong after) is
    ∙ (λ i. cond (fine i) (cond (good i) (Err BadValue) (Ok (after k))) (Err (BadKind name)))

-- ---- a column that is set

abbrev pub set_answer : Bool → Bool → Bool → List Column → List Column → Result (List Column) Refusal
set_answer fits here room a b = cond (fits && (here || not room)) (Ok (cond here a b)) (Err BadValue)

pub set_other : (fits here room : Bool) (a b : List Column) → fits ≡ false
    → set_answer fits here room a b ≡ Err BadValue
set_other fits here room a b is = λ i. set_answer (is i) here room a b

pub set_here : (fits here room : Bool) (a b : List Column) → fits ≡ true → here ≡ true
    → set_answer fits here room a b ≡ Ok a
set_here fits here room a b is there = λ i. set_answer (is i) (there i) room a b

pub set_full : (fits here room : Bool) (a b : List Column) → fits ≡ true → here ≡ false → room ≡ true
    → set_answer fits here room a b ≡ Err BadValue
set_full fits here room a b is away full = λ i. set_answer (is i) (away i) (full i) a b

pub set_added : (fits here room : Bool) (a b : List Column) → fits ≡ true → here ≡ false → room ≡ false
    → set_answer fits here room a b ≡ Ok b
set_added fits here room a b is away free = λ i. set_answer (is i) (away i) (free i) a b

-- ---- what the code tests

pub kind_told : (lent name : List ℕ) (columns : List Column) (o p : Option Kind) → lent ≡ name
    → o ≡ kind_of lent columns → o ≡ p → kind_of name columns ≡ p
kind_told lent name columns o p same told is = sym (told ∙ ap (λ n. kind_of n columns) same) ∙ is

pub none_there : (n m : ℕ) → n ≡ 0 → n ≡ m → nat_eq m 0 ≡ true
none_there n m none same = ap (λ k. nat_eq k 0) (sym same ∙ none)

pub some_there : (n m : ℕ) → (n ≡ 0 → ⊥) → n ≡ m → nat_eq m 0 ≡ false
some_there n m some same = ne_eqb m 0 (λ is. some (same ∙ is))

pub full : (columns : List Column) (n : ℕ) → 64 ≤ n → n ≡ length columns → is_full columns ≡ true
full columns n most same = le-leb 64 (length columns) (omega arith)

pub not_full : (columns : List Column) (n : ℕ) → n < 64 → n ≡ length columns → is_full columns ≡ false
not_full columns n few same = lt-leb 64 (length columns) (omega arith)
