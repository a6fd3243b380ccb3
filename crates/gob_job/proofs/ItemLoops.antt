-- One more item of a list that is gone through.
use Rattle.std.proofs.Common.{◌≡◌, ℕ, suc, ◌+◌, ◌<◌, List, [], ◌∷◌, ◌++◌, length, drop, get_or, Option, Some, None}
use Rattle.std.proofs.Common.{Result, Ok, Err, Bor, refl, sym, ap, ◌∙◌, add-one, drop-cons, append_assoc}
use Rattle.gob_jobs.specs.Words.{value_map, both, each_read}
use Rattle.gob_job.specs.Cuts.{texts_of}
use Rattle.gob_job.specs.Loops.{behind, behind_ok}

-- what is left begins with the item at hand
pub one_more : {A : Type 0} (xs : List A) (i : ℕ) (x : A) → i < length xs → x ≡ get_or xs i x
    → drop i xs ≡ x ∷ drop (i + 1) xs
one_more xs i x inside is = rw add-one (drop-cons xs i x inside ∙ ap (λ y. y ∷ drop (suc i) xs) (sym is))

-- the same of the item at its place
pub item_more : {A : Type 0} (xs : List A) (i : ℕ) (d : A) → i < length xs → drop i xs ≡ get_or xs i d ∷ drop (i + 1) xs
item_more xs i d inside = rw add-one (drop-cons xs i d inside)

-- ---- items that are there or not

pub behind_step : {A : Type 0} (done : List A) (y : A) (later : Option (List A))
    → behind done (both (λ z zs. z ∷ zs) (Some y) later) ≡ behind (done ++ y ∷ []) later
behind_step done y None = refl
behind_step done y (Some zs) = ap (λ zs. Some zs) (sym (append_assoc done (y ∷ []) zs))

-- an item that is none
pub each_none : {B : Type 0} (f : List ℕ → Option B) (done : List B) (es : List (Bor (List ℕ))) (i : ℕ)
    (e : Bor (List ℕ)) → i < length es → e ≡ get_or es i e
    → behind done (each_read f (texts_of (drop i es))) ≡ each_read f (texts_of es) → f e.now ≡ None
    → None ≡ each_read f (texts_of es)
each_none f done es i e inside is so_far none =
    sym (ap (λ o. behind done (both (λ z zs. z ∷ zs) o (each_read f (texts_of (drop (i + 1) es))))) none)
    ∙ (sym (ap (λ l. behind done (each_read f (texts_of l))) (one_more es i e inside is)) ∙ so_far)

-- an item that is read
pub each_some : {B : Type 0} (f : List ℕ → Option B) (done more : List B) (y : B) (es : List (Bor (List ℕ))) (i : ℕ)
    (e : Bor (List ℕ)) → i < length es → e ≡ get_or es i e
    → behind done (each_read f (texts_of (drop i es))) ≡ each_read f (texts_of es) → f e.now ≡ Some y
    → more ≡ done ++ y ∷ []
    → behind more (each_read f (texts_of (drop (i + 1) es))) ≡ each_read f (texts_of es)
each_some f done more y es i e inside is so_far some added =
    let later = each_read f (texts_of (drop (i + 1) es)) in
    ap (λ m. behind m later) added
    ∙ (sym (behind_step done y later)
    ∙ (sym (ap (λ o. behind done (both (λ z zs. z ∷ zs) o later)) some)
    ∙ (sym (ap (λ l. behind done (each_read f (texts_of l))) (one_more es i e inside is)) ∙ so_far)))

-- ---- items of which one may have a fault

pub behind_ok_step : {A E : Type 0} (done : List A) (y : A) (later : Result (List A) E)
    → behind_ok done (value_map (λ zs. y ∷ zs) later) ≡ behind_ok (done ++ y ∷ []) later
behind_ok_step done y (Err e) = refl
behind_ok_step done y (Ok zs) = ap (λ zs. Ok zs) (sym (append_assoc done (y ∷ []) zs))
