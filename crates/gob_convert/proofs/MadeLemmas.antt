-- Laws of what is made: lists are joined in order, and Bad stays Bad.
use Rattle.std.proofs.Common.{◌≡◌, Bool, true, List, [], ◌∷◌, ◌++◌, None, Some, refl, ap, sym, ◌∙◌, append_assoc}
use Rattle.std.proofs.Common.{append-nil}
use Rattle.std.specs.Cmp.Derive.{both_true}
use Rattle.std.specs.List.{list_all}
use Rattle.gob_convert.specs.Made.{Made, concatenation, made_each, then_each, all_made, made_through, shape_through}
use Rattle.gob_convert.specs.Fitting.{left_true, right_true}

pub joined-assoc : {A : Type 0} (a b c : Made A) →
    concatenation (concatenation a b) c ≡ concatenation a (concatenation b c)
joined-assoc None b c = refl
joined-assoc (Some xs) None c = refl
joined-assoc (Some xs) (Some ys) None = refl
joined-assoc (Some xs) (Some ys) (Some zs) = ap Some (append_assoc xs ys zs)

pub joined-nothing : {A : Type 0} (a : Made A) → concatenation (Some []) a ≡ a
joined-nothing None = refl
joined-nothing (Some xs) = refl

pub joined-bad : {A : Type 0} (a : Made A) → concatenation a None ≡ None
joined-bad None = refl
joined-bad (Some xs) = refl

pub made_each-append : {A B : Type 0} (f : A → Made B) (xs ys : List A) →
    made_each f (xs ++ ys) ≡ concatenation (made_each f xs) (made_each f ys)
made_each-append f [] ys = sym (joined-nothing (made_each f ys))
made_each-append f (x ∷ xs) ys = ap (concatenation (f x)) (made_each-append f xs ys)
    ∙ sym (joined-assoc (f x) (made_each f xs) (made_each f ys))

pub then_each-joined : {A B : Type 0} (g : A → Made B) (a b : Made A) →
    then_each g (concatenation a b) ≡ concatenation (then_each g a) (then_each g b)
then_each-joined g None b = refl
then_each-joined g (Some xs) None = sym (joined-bad (made_each g xs))
then_each-joined g (Some xs) (Some ys) = made_each-append g xs ys

-- two converters over a list of records, one record at a time or one converter at a time
pub made_each-then_each : {A B C : Type 0} (f : A → Made B) (g : B → Made C) (xs : List A) →
    made_each (λ x. then_each g (f x)) xs ≡ then_each g (made_each f xs)
made_each-then_each f g [] = refl
made_each-then_each f g (x ∷ xs) = ap (concatenation (then_each g (f x))) (made_each-then_each f g xs)
    ∙ sym (then_each-joined g (f x) (made_each f xs))

-- records as they are
pub made_each-same : {A : Type 0} (xs : List A) → made_each (λ x. Some (x ∷ [])) xs ≡ Some xs
made_each-same [] = refl
made_each-same (x ∷ xs) = ap (concatenation (Some (x ∷ []))) (made_each-same xs)

-- what passes a test passes a weaker one, for each record of a list that was made
pub list_all-of_made : {A : Type 0} (before after : A → Bool) → ((x : A) → before x ≡ true → after x ≡ true) →
    (m : Made A) (xs : List A) → m ≡ Some xs → all_made before m ≡ true → list_all after xs ≡ true
list_all-of_made {A} before after weaker m xs made fit = weaker_each xs (rw made at fit)
  where
    weaker_each : (ys : List A) → list_all before ys ≡ true → list_all after ys ≡ true
    weaker_each [] all = refl
    weaker_each (y ∷ ys) all = both_true (weaker y (left_true (before y) (list_all before ys) all))
        (weaker_each ys (right_true (before y) (list_all before ys) all))

-- a list of one record
pub made_each-one : {A B : Type 0} (f : A → Made B) (x : A) → made_each f (x ∷ []) ≡ f x
made_each-one f x = joined-end (f x)
  where
    joined-end : {B : Type 0} (a : Made B) → concatenation a (Some []) ≡ a
    joined-end None = refl
    joined-end (Some xs) = ap Some (append-nil xs)

-- the last converter of a list tells the shape behind it
pub shape_through-last : {C S : Type 0} (out_shape : C → S) (shape : S) (cs : List C) (c : C) →
    shape_through out_shape shape (cs ++ c ∷ []) ≡ out_shape c
shape_through-last out_shape shape [] c = refl
shape_through-last out_shape shape (d ∷ ds) c = shape_through-last out_shape (out_shape d) ds c

-- two converters over what was made
pub then_each-then_each : {A B C : Type 0} (f : A → Made B) (g : B → Made C) (m : Made A) →
    then_each (λ x. then_each g (f x)) m ≡ then_each g (then_each f m)
then_each-then_each f g None = refl
then_each-then_each f g (Some xs) = made_each-then_each f g xs

-- a list of converters and then another
pub made_through-append : {C A : Type 0} (made : C → A → Made A) (cs ds : List C) (x : A) →
    made_through made (cs ++ ds) x ≡ then_each (made_through made ds) (made_through made cs x)
made_through-append made [] ds x = sym (made_each-one (made_through made ds) x)
made_through-append made (c ∷ cs) ds x = (λ i. then_each (λ y. made_through-append made cs ds y i) (made c x))
    ∙ then_each-then_each (made_through made cs) (made_through made ds) (made c x)
