-- The elements of a list, from the pieces of its text.
use Rattle.std.proofs.Common.{◌≡◌, ℕ, ◌||◌, Bool, true, false, cond, not, nat_eq, ◌==◌, List, [], ◌∷◌, ◌++◌, map}
use Rattle.std.proofs.Common.{length, Some, None, refl, sym, ap, ◌∙◌, arith}
use Rattle.std.specs.List.{list_any}
use Rattle.std.proofs.lemmas.Bool.{true≢false, eqb-true}
use Rattle.std.proofs.lemmas.List.Folds.{list_any-append}
use Rattle.gob_jobs.specs.Words.{is_empty, only_if, pieces, without_blanks, elements}

-- no bytes are the empty list
pub no_bytes : (c : ℕ) (value : List ℕ) (found : List (List ℕ)) → (length value == 0) ≡ true → found ≡ []
    → Some found ≡ elements c value
unfolding elements
no_bytes c [] found empty is = ap (λ x. Some x) is
no_bytes c (b ∷ bs) found empty is = let none : length (b ∷ bs) ≡ 0 = eqb-true (length (b ∷ bs)) 0 empty in
    absurd (omega arith)

-- some bytes are the elements that they are cut into
some_bytes : (c : ℕ) (value : List ℕ) → (length value == 0) ≡ false
    → elements c value ≡ only_if (λ es. not (list_any is_empty es)) (map without_blanks (pieces (nat_eq c) value))
unfolding elements
some_bytes c [] some = absurd (true≢false some)
some_bytes c (b ∷ bs) some = refl

-- where none of them is empty
pub none_empty : (c : ℕ) (value : List ℕ) (es : List (List ℕ)) → (length value == 0) ≡ false
    → map without_blanks (pieces (nat_eq c) value) ≡ es → list_any is_empty es ≡ false → Some es ≡ elements c value
none_empty c value es some cut full =
    sym (some_bytes c value some ∙ (ap (only_if (λ xs. not (list_any is_empty xs))) cut
    ∙ ap (λ v. cond (not v) (Some es) None) full))

is_none : (e : List ℕ) → (length e == 0) ≡ true → is_empty e ≡ true
is_none [] is = refl
is_none (b ∷ bs) is = let none : length (b ∷ bs) ≡ 0 = eqb-true (length (b ∷ bs)) 0 is in absurd (omega arith)

any_of : (x y : Bool) → x ≡ true → (x || y) ≡ true
any_of true y is = refl
any_of false y is = absurd (true≢false (sym is))

any_later : (x y : Bool) → y ≡ true → (x || y) ≡ true
any_later true y is = refl
any_later false y is = is

-- where one of them is
pub one_empty : (c : ℕ) (value : List ℕ) (es : List (List ℕ)) (piece : List ℕ) (later : List (List ℕ)) {e : List ℕ}
    → (length value == 0) ≡ false → (length e == 0) ≡ true
    → map without_blanks (pieces (nat_eq c) value) ≡ es ++ map without_blanks (piece ∷ later) → e ≡ without_blanks piece
    → None ≡ elements c value
one_empty c value es piece later {e} some none cut is =
    let here : is_empty (without_blanks piece) ≡ true = ap is_empty (sym is) ∙ is_none e none in
    let any : list_any is_empty (es ++ without_blanks piece ∷ map without_blanks later) ≡ true =
    list_any-append is_empty es (without_blanks piece ∷ map without_blanks later)
    ∙ any_later (list_any is_empty es) _ (any_of (is_empty (without_blanks piece)) _ here) in
    sym (some_bytes c value some ∙ (ap (only_if (λ xs. not (list_any is_empty xs))) cut
    ∙ ap (λ v. cond (not v) (Some (es ++ without_blanks piece ∷ map without_blanks later)) None) any))
