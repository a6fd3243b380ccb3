-- Lists that are made item by item.
use Rattle.std.proofs.Common.{◌≡◌, ℕ, ◌+◌, ◌<◌, ◌≤◌, Bool, true, false, cond, not, List, [], ◌∷◌, ◌++◌, length, get_or}
use Rattle.std.proofs.Common.{take, map, filter, refl, ap, sym, ◌∙◌}
use Rattle.std.proofs.lemmas.List.{take_more, take_all, map-append, append-nil}
use Rattle.gob_plan.specs.declared.rows.Kind.{Kind}
use Rattle.gob_plan.specs.declared.rows.Column.{Column}
use Rattle.gob_meaning.specs.Steps.{columns_but, with_new_name, with_new_kind}

-- one item more of a list that goes over item by item
pub gone_on : {X Y : Type 0} (F : List X → List Y) → ((xs ys : List X) → F (xs ++ ys) ≡ F xs ++ F ys)
    → (xs : List X) (i : ℕ) (x : X) (done more : List Y) → i < length xs → x ≡ get_or xs i x → done ≡ F (take i xs)
    → more ≡ F (x ∷ []) → done ++ more ≡ F (take (i + 1) xs)
gone_on F split xs i x done more below is so_far next =
    (λ j. so_far j ++ next j) ∙ sym (split (take i xs) (x ∷ []))
    ∙ sym (ap F (take_more xs i x below ∙ ap (λ y. take i xs ++ y ∷ []) (sym is)))

-- one that adds nothing
pub gone_past : {X Y : Type 0} (F : List X → List Y) → ((xs ys : List X) → F (xs ++ ys) ≡ F xs ++ F ys)
    → (xs : List X) (i : ℕ) (x : X) (done : List Y) → i < length xs → x ≡ get_or xs i x → done ≡ F (take i xs)
    → [] ≡ F (x ∷ []) → done ≡ F (take (i + 1) xs)
gone_past F split xs i x done below is so_far next =
    sym (append-nil done) ∙ gone_on F split xs i x done [] below is so_far next

pub gone_through : {X Y : Type 0} (F : List X → List Y) (xs : List X) (i : ℕ) (done : List Y) → length xs ≤ i
    → done ≡ F (take i xs) → done ≡ F xs
gone_through F xs i done past so_far = so_far ∙ ap F (take_all i xs past)

pub renamed_split : (from to : List ℕ) (xs ys : List Column)
    → with_new_name from to (xs ++ ys) ≡ with_new_name from to xs ++ with_new_name from to ys
renamed_split from to [] ys = refl
renamed_split from to (x ∷ xs) ys = ap (λ zs. with_new_name from to (x ∷ []) ++ zs) (renamed_split from to xs ys)

pub retyped_split : (name : List ℕ) (k : Kind) (xs ys : List Column)
    → with_new_kind name k (xs ++ ys) ≡ with_new_kind name k xs ++ with_new_kind name k ys
retyped_split name k [] ys = refl
retyped_split name k (x ∷ xs) ys = ap (λ zs. with_new_kind name k (x ∷ []) ++ zs) (retyped_split name k xs ys)

pub filter_split : {X : Type 0} (p : X → Bool) (xs ys : List X) → filter p (xs ++ ys) ≡ filter p xs ++ filter p ys
filter_split p [] ys = refl
filter_split p (x ∷ xs) ys =
    elim (p x) as (λ b. cond b (x ∷ filter p (xs ++ ys)) (filter p (xs ++ ys))
    ≡ cond b (x ∷ filter p xs) (filter p xs) ++ filter p ys) [
      | true ↦ ap (λ zs. x ∷ zs) (filter_split p xs ys)
      | false ↦ filter_split p xs ys
    ]
