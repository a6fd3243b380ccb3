-- Facts that hold or don't: each of these can be told.
use Rattle.std.proofs.Common.{◌≡◌, ◌⊎◌, inl, inr, ⊎_elim, ℕ, zero, suc, ◌<◌, ◌≤◌, Bool, true, false, List, [], ◌∷◌}
use Rattle.std.proofs.Common.{refl, sym, subst, arith}
use Rattle.std.specs.declared.cmp.Ordering.{Ordering}
use Rattle.std.specs.declared.cmp.Ordering.TheVariants.{Less, Equal, Greater}
use Rattle.std.specs.List.{All, AllByRecursion, Contains, IsDistinct}
use Rattle.std.proofs.lemmas.Bool.{cases_eq, cases_lt, false≢true}
use Rattle.std.proofs.lemmas.List.Elements.{All-nil, All-cons, All-head, All-tail}
use Rattle.std.proofs.lemmas.Slice.Eq.{bytes_eq-Decides}
use Rattle.std.specs.Str.{bytes_eq}
use Rattle.gob_ledger.proofs.Members.{none_in, first_in, later_in, in_cases}

abbrev pub Decidable : Type 0 → Type 0
Decidable P = P ⊎ (P → ⊥)

pub like : {P Q : Type 0} → (P → Q) → (Q → P) → Decidable P → Decidable Q
like to from (inl p) = inl (to p)
like to from (inr never) = inr (λ q. never (from q))

pub both : {P Q : Type 0} → Decidable P → Decidable Q → Decidable (P × Q)
both (inl p) (inl q) = inl (p, q)
both (inl p) (inr never) = inr (λ x. never x.1)
both (inr never) d = inr (λ x. never x.0)

pub either : {P Q : Type 0} → Decidable P → Decidable Q → Decidable (P ⊎ Q)
either (inl p) d = inl (inl p)
either (inr never) (inl q) = inl (inr q)
either (inr never) (inr neither) = inr (λ x. ⊎_elim never neither x)

-- only where the first holds is the second asked
pub under : {P Q : Type 0} → Decidable P → (P → Decidable Q) → Decidable (P → Q)
under (inl p) d = like (λ q _. q) (λ f. f p) (d p)
under (inr never) d = inl (λ p. absurd (never p))

pub then : {P Q : Type 0} → Decidable P → (P → Decidable Q) → Decidable (P × Q)
then (inl p) d = like (λ q. (p, q)) (λ x. x.1) (d p)
then (inr never) d = inr (λ x. never x.0)

pub refuted : {P : Type 0} → Decidable P → Decidable (P → ⊥)
refuted (inl p) = inr (λ n. n p)
refuted (inr never) = inl never

pub always : Decidable (Unit {0})
always = inl tt

-- ---- numbers, tests and texts

pub same_number : (m n : ℕ) → Decidable (m ≡ n)
same_number m n = cases_eq m n

pub lower : (m n : ℕ) → Decidable (m < n)
lower m n = ⊎_elim (λ l. inl l) (λ g. inr (λ l. omega arith)) (cases_lt m n)

pub not_above : (m n : ℕ) → Decidable (m ≤ n)
not_above m n = ⊎_elim (λ l. inr (λ g. omega arith)) (λ g. inl g) (cases_lt n m)

pub is_true : (b : Bool) → Decidable (b ≡ true)
is_true true = inl refl
is_true false = inr false≢true

pub is_false : (b : Bool) → Decidable (b ≡ false)
is_false true = inr (λ e. false≢true (sym e))
is_false false = inl refl

pub same_text : (x y : List ℕ) → Decidable (x ≡ y)
same_text x y = like (bytes_eq-Decides x y).0 (bytes_eq-Decides x y).1 (is_true (bytes_eq x y))

pub is_less : (o : Ordering) → Decidable (o ≡ Less)
is_less Less = inl refl
is_less Equal = inr (λ e. cc)
is_less Greater = inr (λ e. cc)

-- ---- lists

pub same_list : {X : Type 0} → ((x y : X) → Decidable (x ≡ y)) → (xs ys : List X) → Decidable (xs ≡ ys)
same_list eq [] [] = inl refl
same_list eq [] (y ∷ ys) = inr (λ e. cc)
same_list eq (x ∷ xs) [] = inr (λ e. cc)
same_list eq (x ∷ xs) (y ∷ ys) =
    like (λ p i. p.0 i ∷ p.1 i) (λ e. (cc, cc)) (both (eq x y) (same_list eq xs ys))

pub every : {X : Type 0} (P : X → Type 0) → ((x : X) → Decidable (P x)) → (xs : List X) → Decidable (All P xs)
every P each [] = inl (All-nil P)
every P each (x ∷ xs) =
    like (λ p. All-cons P x xs p.0 p.1) (λ a. (All-head P x xs a, All-tail P x xs a)) (both (each x) (every P each xs))

pub every_again : {X : Type 0} (P : X → Type 0) → ((x : X) → Decidable (P x)) → (xs : List X)
    → Decidable (AllByRecursion P xs)
every_again P each [] = always
every_again P each (x ∷ xs) = both (each x) (every_again P each xs)

pub distinct : {X : Type 0} (same : X → X → Bool) (xs : List X) → Decidable (IsDistinct same xs)
unfolding IsDistinct
distinct same [] = always
distinct same (x ∷ xs) = both (every_again (λ y. same x y ≡ false) (λ y. is_false (same x y)) xs) (distinct same xs)

pub each_member : {X : Type 0} (P : X → Type 0) → ((x : X) → Decidable (P x)) → (xs : List X)
    → Decidable ((x : X) → Contains xs x → P x)
each_member P each [] = inl (λ x h. none_in x h)
each_member P each (x ∷ xs) = like
    (λ p y h. ⊎_elim (λ e. subst P e p.0) (λ k. p.1 y k) (in_cases x xs y h))
    (λ f. (f x (first_in x xs x refl), λ y h. f y (later_in x xs y h)))
    (both (each x) (each_member P each xs))

pub some_member : {X : Type 0} (P : X → Type 0) → ((x : X) → Decidable (P x)) → (xs : List X)
    → Decidable ((x : X) × Contains xs x × P x)
some_member P each [] = inr (λ s. none_in s.0 s.1)
some_member {X} P each (x ∷ xs) = like there here (either (each x) (some_member P each xs))
  where
    there : P x ⊎ ((y : X) × Contains xs y × P y) → (y : X) × Contains (x ∷ xs) y × P y
    there (inl p) = (x, first_in x xs x refl, p)
    there (inr s) = (s.0, later_in x xs s.0 s.1, s.2)

    here : (y : X) × Contains (x ∷ xs) y × P y → P x ⊎ ((y : X) × Contains xs y × P y)
    here s = ⊎_elim (λ e. inl (subst P (sym e) s.2)) (λ k. inr (s.0, k, s.2)) (in_cases x xs s.0 s.1)

pub is_member : {X : Type 0} → ((x y : X) → Decidable (x ≡ y)) → (xs : List X) (y : X) → Decidable (Contains xs y)
is_member eq [] y = inr (λ h. none_in y h)
is_member eq (x ∷ xs) y = like
    (λ s. ⊎_elim (λ e. first_in x xs y e) (λ k. later_in x xs y k) s)
    (λ h. in_cases x xs y h)
    (either (eq x y) (is_member eq xs y))

pub each_below : (P : ℕ → Type 0) → ((k : ℕ) → Decidable (P k)) → (n : ℕ) → Decidable ((k : ℕ) → k < n → P k)
each_below P each zero = inl (λ k below. absurd (omega (arith, below)))
each_below P each (suc n) = like
    (λ p k below. ⊎_elim (λ e. subst P (sym e) p.0) (λ apart. p.1 k (omega arith)) (cases_eq k n))
    (λ f. (f n (omega arith), λ k below. f k (omega arith)))
    (both (each n) (each_below P each n))
