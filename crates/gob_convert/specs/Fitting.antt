-- Laws of what is made, for the laws of converters that are made of others: where each part keeps a test, so does the
-- whole.
use Rattle.std.proofs.Common.{◌≡◌, Bool, true, false, ◌&&◌, List, [], ◌∷◌, ◌++◌, None, Some, refl, sym, ◌∙◌, subst}
use Rattle.std.proofs.Common.{arith}
use Rattle.std.proofs.lemmas.Grind.{common_steps}
use Rattle.std.specs.Cmp.Derive.{both_true}
use Rattle.std.specs.List.{list_all}
use Rattle.gob_convert.specs.Made.{Made, concatenation, made_each, then_each, all_made, made_through, shape_through}
use Rattle.gob_convert.specs.Made.{FitTogether}

pub left_true : (a b : Bool) → (a && b) ≡ true → a ≡ true
left_true true b both = refl
left_true false b both = both

pub right_true : (a b : Bool) → (a && b) ≡ true → b ≡ true
right_true true b both = both
right_true false b both = cc

pub all_made-concatenation : {A : Type 0} (test : A → Bool) (a b : Made A) → all_made test a ≡ true →
    all_made test b ≡ true → all_made test (concatenation a b) ≡ true
all_made-concatenation test None b here there = refl
all_made-concatenation test (Some xs) None here there = refl
all_made-concatenation test (Some xs) (Some ys) here there = grind (arith, common_steps)

pub all_made-each : {A B : Type 0} (before : A → Bool) (after : B → Bool) (f : A → Made B) →
    ((x : A) → before x ≡ true → all_made after (f x) ≡ true) → (xs : List A) → list_all before xs ≡ true →
    all_made after (made_each f xs) ≡ true
all_made-each before after f keeps [] fit = refl
all_made-each before after f keeps (x ∷ xs) fit =
    all_made-concatenation after (f x) (made_each f xs) (keeps x (left_true (before x) (list_all before xs) fit))
    (all_made-each before after f keeps xs (right_true (before x) (list_all before xs) fit))

pub all_made-then_each : {A B : Type 0} (before : A → Bool) (after : B → Bool) (f : A → Made B) →
    ((x : A) → before x ≡ true → all_made after (f x) ≡ true) → (m : Made A) → all_made before m ≡ true →
    all_made after (then_each f m) ≡ true
all_made-then_each before after f keeps None fit = refl
all_made-then_each before after f keeps (Some xs) fit = all_made-each before after f keeps xs fit

-- each record made by a list of converters that follow one another fits the last shape
pub all_made-through : {C S A : Type 0} (fits out_fits : S → A → Bool) → ((s : S) (x : A) → fits s x ≡ out_fits s x) →
    (shape_of out_shape : C → S) (made : C → A → Made A) →
    ((c : C) (x : A) → fits (shape_of c) x ≡ true → all_made (out_fits (out_shape c)) (made c x) ≡ true) →
    (shape : S) (cs : List C) → FitTogether shape_of out_shape shape cs → (x : A) → fits shape x ≡ true →
    all_made (fits (shape_through out_shape shape cs)) (made_through made cs x) ≡ true
all_made-through fits out_fits same shape_of out_shape made keeps shape [] follow x fit = both_true fit refl
all_made-through {S = S} fits out_fits same shape_of out_shape made keeps shape (c ∷ cs) follow x fit =
    all_made-then_each (out_fits (out_shape c)) (fits (shape_through out_shape (out_shape c) cs)) (made_through made cs)
    (λ y fit_between. all_made-through fits out_fits same shape_of out_shape made keeps (out_shape c) cs follow.1 y
    (same (out_shape c) y ∙ fit_between))
    (made c x)
    (keeps c x (let P : S → Type 0 = λ s. fits s x ≡ true in subst P (sym follow.0) fit))

-- one more converter, that takes the shape behind the others
pub FitTogether-append : {C S : Type 0} (shape_of out_shape : C → S) (shape : S) (cs : List C) (c : C) →
    FitTogether shape_of out_shape shape cs → shape_of c ≡ shape_through out_shape shape cs →
    FitTogether shape_of out_shape shape (cs ++ c ∷ [])
FitTogether-append shape_of out_shape shape [] c follow takes = (takes, tt)
FitTogether-append shape_of out_shape shape (d ∷ ds) c follow takes =
    (follow.0, FitTogether-append shape_of out_shape (out_shape d) ds c follow.1 takes)
