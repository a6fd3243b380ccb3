-- Members of lists, by cases.
use Rattle.std.proofs.Common.{◌≡◌, ◌⊎◌, inl, inr, ⊎_elim, zero, suc, Bool, true, false, cond, List, [], ◌∷◌, map, refl}
use Rattle.std.proofs.Common.{sym, ap, subst, ◌∙◌, arith}
use Rattle.std.specs.List.{Contains, filter, flat_map}
use Rattle.std.proofs.lemmas.List.Elements.{Contains-append_left, Contains-append_right, Contains-append_cases}

pub none_in : {X P : Type 0} (x : X) → Contains [] x → P
none_in x (k, below, is) = absurd (omega (arith, below))

pub first_in : {X : Type 0} (y : X) (ys : List X) (x : X) → y ≡ x → Contains (y ∷ ys) x
first_in y ys x e = (0, omega arith, e)

pub later_in : {X : Type 0} (y : X) (ys : List X) (x : X) → Contains ys x → Contains (y ∷ ys) x
later_in y ys x (k, below, is) = (suc k, omega (arith, below), is)

pub in_cases : {X : Type 0} (y : X) (ys : List X) (x : X) → Contains (y ∷ ys) x → (y ≡ x) ⊎ Contains ys x
in_cases y ys x (zero, below, is) = inl is
in_cases y ys x (suc k, below, is) = inr (k, omega (arith, below), is)

pub in_filter : {X : Type 0} (p : X → Bool) (xs : List X) (x : X) → Contains (filter p xs) x → Contains xs x
    × (p x ≡ true)
in_filter p [] x h = none_in x h
in_filter {X} p (y ∷ ys) x h = cases (p y) refl h (in_filter p ys x)
  where
    cases : (b : Bool) → p y ≡ b → Contains (cond b (y ∷ filter p ys) (filter p ys)) x
        → (Contains (filter p ys) x → Contains ys x × (p x ≡ true)) → Contains (y ∷ ys) x × (p x ≡ true)
    cases true is h later = ⊎_elim (λ e. (first_in y ys x e, sym (ap p e) ∙ is))
        (λ k. (later_in y ys x (later k).0, (later k).1)) (in_cases y (filter p ys) x h)
    cases false is h later = (later_in y ys x (later h).0, (later h).1)

pub filter_in : {X : Type 0} (p : X → Bool) (xs : List X) (x : X) → Contains xs x → p x ≡ true
    → Contains (filter p xs) x
filter_in p [] x h e = none_in x h
filter_in {X} p (y ∷ ys) x h e = cases (p y) refl (in_cases y ys x h) (λ k. filter_in p ys x k e)
  where
    cases : (b : Bool) → p y ≡ b → (y ≡ x) ⊎ Contains ys x → (Contains ys x → Contains (filter p ys) x)
        → Contains (cond b (y ∷ filter p ys) (filter p ys)) x
    cases true is (inl same) later = first_in y (filter p ys) x same
    cases true is (inr k) later = later_in y (filter p ys) x (later k)
    cases false is (inl same) later = let no : p x ≡ false = sym (ap p same) ∙ is in cc
    cases false is (inr k) later = later k

pub in_map : {X Y : Type 0} (f : X → Y) (xs : List X) (y : Y) → Contains (map f xs) y → (x : X) × Contains xs x
    × (f x ≡ y)
in_map f [] y h = none_in y h
in_map f (x ∷ xs) y h = ⊎_elim
    (λ e. (x, first_in x xs x refl, e))
    (λ k. let r = in_map f xs y k in (r.0, later_in x xs r.0 r.1, r.2))
    (in_cases (f x) (map f xs) y h)

pub map_in : {X Y : Type 0} (f : X → Y) (xs : List X) (x : X) → Contains xs x → Contains (map f xs) (f x)
map_in f [] x h = none_in x h
map_in f (y ∷ ys) x h = ⊎_elim (λ e. first_in (f y) (map f ys) (f x) (ap f e))
    (λ k. later_in (f y) (map f ys) (f x) (map_in f ys x k)) (in_cases y ys x h)

pub in_flat_map : {X Y : Type 0} (f : X → List Y) (xs : List X) (y : Y) → Contains (flat_map f xs) y → (x : X)
    × Contains xs x × Contains (f x) y
in_flat_map f [] y h = none_in y h
in_flat_map f (x ∷ xs) y h = ⊎_elim
    (λ k. (x, first_in x xs x refl, k))
    (λ k. let r = in_flat_map f xs y k in (r.0, later_in x xs r.0 r.1, r.2))
    (Contains-append_cases (f x) (flat_map f xs) y h)

pub flat_map_in : {X Y : Type 0} (f : X → List Y) (xs : List X) (x : X) (y : Y) → Contains xs x → Contains (f x) y
    → Contains (flat_map f xs) y
flat_map_in f [] x y h k = none_in x h
flat_map_in f (z ∷ zs) x y h k = ⊎_elim
    (λ e. Contains-append_left (f z) (flat_map f zs) y (subst (λ w. Contains (f w) y) (sym e) k))
    (λ l. Contains-append_right (f z) (flat_map f zs) y (flat_map_in f zs x y l k))
    (in_cases z zs x h)
