-- What a value tells of the steps that led to it.
use Rattle.std.proofs.Common.{◌≡◌, ℕ, Bool, true, false, cond, List, [], ◌∷◌, Some, None, Option, Ok, Err, Result, refl}
use Rattle.std.proofs.Common.{sym, ap, ◌∙◌}
use Rattle.std.specs.Option.{option_map, option_and_then, ok_or}
use Rattle.gob_jobs.specs.Words.{and_then, value_map, fault_map, both, only_if, each_read, each_or_fault}
use Rattle.gob_jobs.specs.KeyTable.{ValueFault, known_value, unless_refused}
use Rattle.gob_plan.specs.declared.steps.Refusal.{Refusal}

pub then_ok : {A B E : Type 0} (f : A → Result B E) (r : Result A E) (y : B) → and_then f r ≡ Ok y → (x : A)
    × (r ≡ Ok x) × (f x ≡ Ok y)
then_ok f (Ok x) y is = (x, refl, is)
then_ok f (Err e) y is = cc

pub map_ok : {A B E : Type 0} (f : A → B) (r : Result A E) (y : B) → value_map f r ≡ Ok y → (x : A) × (r ≡ Ok x)
    × (f x ≡ y)
map_ok f (Ok x) y is = (x, refl, cc)
map_ok f (Err e) y is = cc

pub fault_ok : {A E F : Type 0} (f : E → F) (r : Result A E) (y : A) → fault_map f r ≡ Ok y → r ≡ Ok y
fault_ok f (Ok x) y is = cc
fault_ok f (Err e) y is = cc

pub known_ok : {X : Type 0} (o : Option X) (y : X) → known_value o ≡ Ok y → o ≡ Some y
known_ok None y is = cc
known_ok (Some x) y is = cc

pub ok_or_ok : {X E : Type 0} (o : Option X) (e : E) (y : X) → ok_or o e ≡ Ok y → o ≡ Some y
ok_or_ok None e y is = cc
ok_or_ok (Some x) e y is = cc

pub unrefused : {X : Type 0} (o : Option Refusal) (x y : X) → unless_refused o x ≡ Ok y → (o ≡ None) × (x ≡ y)
unrefused None x y is = (refl, cc)
unrefused (Some why) x y is = cc

pub some_then : {A B : Type 0} (f : A → Option B) (o : Option A) (y : B) → option_and_then f o ≡ Some y → (x : A)
    × (o ≡ Some x) × (f x ≡ Some y)
some_then f None y is = cc
some_then f (Some x) y is = (x, refl, is)

pub some_map : {A B : Type 0} (f : A → B) (o : Option A) (y : B) → option_map f o ≡ Some y → (x : A) × (o ≡ Some x)
    × (f x ≡ y)
some_map f None y is = cc
some_map f (Some x) y is = (x, refl, cc)

pub some_both : {A B C : Type 0} (f : A → B → C) (o : Option A) (p : Option B) (z : C) → both f o p ≡ Some z → (x : A)
    × (y : B) × (o ≡ Some x) × (p ≡ Some y) × (f x y ≡ z)
some_both f None p z is = cc
some_both f (Some x) None z is = cc
some_both f (Some x) (Some y) z is = (x, y, refl, refl, cc)

passed : {A : Type 0} (b : Bool) (x y : A) → cond b (Some x) None ≡ Some y → (b ≡ true) × (x ≡ y)
passed true x y is = (refl, cc)
passed false x y is = cc

pub only_some : {A : Type 0} (passes : A → Bool) (x y : A) → only_if passes x ≡ Some y → (passes x ≡ true) × (x ≡ y)
only_some passes x y is = passed (passes x) x y is
