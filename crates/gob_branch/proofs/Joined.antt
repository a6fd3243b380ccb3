-- What is made of the rows of a list, one after the other.
use Rattle.std.proofs.Common.{◌≡◌, ℕ, zero, suc, ◌+◌, ◌<◌, Bool, true, List, [], ◌∷◌, ◌++◌, length, get_or, take}
use Rattle.std.proofs.Common.{drop}
use Rattle.std.proofs.Common.{None, Some, refl, sym, ap, ◌∙◌, arith, add-one, append_assoc, append-nil}
use Rattle.std.proofs.lemmas.Bool.{and_parts}
use Rattle.std.proofs.Math.Seq.{drop-cons, take-append_seam}
use Rattle.std.specs.List.{list_all}
use Rattle.gob_convert.specs.Made.{Made, concatenation, made_each, all_made}
use Rattle.gob_convert.proofs.MadeLemmas.{joined-assoc}

-- the list that goes on at a place
pub goes_on : {A : Type 0} (xs : List A) (i : ℕ) (x : A) → i < length xs → x ≡ get_or xs i x
    → drop i xs ≡ x ∷ drop (i + 1) xs
goes_on xs i x lt is = rw add-one (drop-cons xs i x lt ∙ ap (λ y. y ∷ drop (suc i) xs) (sym is))

-- the next one is made too
pub made_on : {A B : Type 0} (f : A → Made B) (xs : List A) (i : ℕ) (x : A) (now next : List B) (whole : Made B)
    → i < length xs → x ≡ get_or xs i x → concatenation (Some now) (made_each f (drop i xs)) ≡ whole
    → concatenation (Some now) (f x) ≡ Some next → concatenation (Some next) (made_each f (drop (i + 1) xs)) ≡ whole
made_on f xs i x now next whole lt is so_far made =
    ap (λ m. concatenation m (made_each f (drop (i + 1) xs))) (sym made)
    ∙ joined-assoc (Some now) (f x) (made_each f (drop (i + 1) xs))
    ∙ ap (λ l. concatenation (Some now) (made_each f l)) (sym (goes_on xs i x lt is)) ∙ so_far

-- what is made of the next one, behind what was made of those before it
pub made_next : {A B : Type 0} (f : A → Made B) (xs : List A) (i : ℕ) (x : A) (m : Made B) → i < length xs
    → x ≡ get_or xs i x
    → concatenation (concatenation m (f x)) (made_each f (drop (i + 1) xs)) ≡ concatenation m (made_each f (drop i xs))
made_next f xs i x m lt is = joined-assoc m (f x) (made_each f (drop (i + 1) xs))
    ∙ ap (λ l. concatenation m (made_each f l)) (sym (goes_on xs i x lt is))

pub bad_of_joined : {B : Type 0} (old : List B) (m : Made B) → None ≡ concatenation (Some old) m → m ≡ None
bad_of_joined old None e = refl
bad_of_joined old (Some ys) e = absurd (cc)

-- ---- what was there before

-- the new list has the old one in front
abbrev pub HasInFront : {B : Type 0} → List B → List B → Type 0
HasInFront {B} old new = (rest : List B) × (new ≡ old ++ rest)

pub front_itself : {B : Type 0} (old : List B) → HasInFront old old
front_itself old = ([], sym (append-nil old))

pub front_on : {B : Type 0} (old now next : List B) (m : Made B) → HasInFront old now
    → concatenation (Some now) m ≡ Some next → HasInFront old next
front_on old now next None front made = absurd (cc)
front_on old now next (Some ys) front made =
    let grown : now ++ ys ≡ next = cc in
    (front.0 ++ ys, sym grown ∙ ap (λ l. l ++ ys) front.1 ∙ append_assoc old front.0 ys)

pub front_taken : {B : Type 0} (old now cut : List B) (n : ℕ) → HasInFront old now → n ≡ length old
    → cut ≡ take n now → cut ≡ old
front_taken old now cut n front many cut_is = cut_is ∙ ap (λ k. take k now) many
    ∙ ap (take (length old)) front.1 ∙ take-append_seam old front.0

-- ---- tests

pub all_at : {A : Type 0} (p : A → Bool) (xs : List A) (i : ℕ) (x : A) → list_all p xs ≡ true → i < length xs
    → x ≡ get_or xs i x → p x ≡ true
all_at p [] i x all lt is = absurd (omega arith)
all_at p (y ∷ ys) zero x all lt is = ap p is ∙ (and_parts (p y) (list_all p ys) all).0
all_at p (y ∷ ys) (suc i) x all lt is =
    all_at p ys i x (and_parts (p y) (list_all p ys) all).1 (omega arith) is

-- of what was made, where all of it passes
pub all_of_made : {A : Type 0} (p : A → Bool) (m : Made A) (xs : List A) → m ≡ Some xs → all_made p m ≡ true
    → list_all p xs ≡ true
all_of_made p None xs is all = absurd (cc)
all_of_made p (Some ys) xs is all = let same : ys ≡ xs = cc in ap (list_all p) (sym same) ∙ all
