-- What a converter makes of a record: a list of records, or Bad.
use Rattle.std.specs.Prelude.{◌≡◌, Bool, true, List, [], ◌∷◌, ◌++◌, Option, None, Some}
use Rattle.std.specs.List.{list_all}

-- a list, or None for Bad
abbrev pub Made : Type 0 → Type 0
Made A = Option (List A)

-- one list after the other, and Bad if either is
abbrev pub concatenation : {A : Type 0} → Made A → Made A → Made A
concatenation None ys = None
concatenation (Some xs) None = None
concatenation (Some xs) (Some ys) = Some (xs ++ ys)

-- what is made of each record of a list, joined in order, and Bad if any part is
abbrev pub made_each : {A B : Type 0} → (A → Made B) → List A → Made B
made_each f [] = Some []
made_each f (x ∷ xs) = concatenation (f x) (made_each f xs)

-- what is made of each record that was made before, and Bad if that was
abbrev pub then_each : {A B : Type 0} → (A → Made B) → Made A → Made B
then_each f None = None
then_each f (Some xs) = made_each f xs

-- every record that was made passes the test; of Bad there is none
abbrev pub all_made : {A : Type 0} → (A → Bool) → Made A → Bool
all_made test None = true
all_made test (Some xs) = list_all test xs

-- what a list of converters makes, one after the other: none of them gives the record as it is
abbrev pub made_through : {C A : Type 0} → (C → A → Made A) → List C → A → Made A
made_through made [] x = Some (x ∷ [])
made_through made (c ∷ cs) x = then_each (made_through made cs) (made c x)

-- the shape behind a list of converters, of which the first takes this one
abbrev pub shape_through : {C S : Type 0} → (C → S) → S → List C → S
shape_through out_shape shape [] = shape
shape_through out_shape shape (c ∷ cs) = shape_through out_shape (out_shape c) cs

-- the first converter takes this shape, and each next one the shape that the one before gives
abbrev pub FitTogether : {C S : Type 0} → (C → S) → (C → S) → S → List C → Type 0
FitTogether shape_of out_shape shape [] = Unit {0}
FitTogether shape_of out_shape shape (c ∷ cs) = (shape_of c ≡ shape) × FitTogether shape_of out_shape (out_shape c) cs
