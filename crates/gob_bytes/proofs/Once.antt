-- Texts that were seen, and whether one stands twice.
use Rattle.std.proofs.Common.{◌≡◌, ◌<◌, ◌≤◌, ◌+◌, ℕ, zero, suc, Bool, true, false, cond, ◌||◌, List, [], ◌∷◌, ◌++◌}
use Rattle.std.proofs.Common.{length, take, get_or, refl, sym, ap, subst, ◌∙◌, arith}
use Rattle.std.specs.Cmp.Lexicographic.{nat_list_eq_equiv}
use Rattle.std.specs.List.{AllByRecursion, IsDistinct, list_any}
use Rattle.std.specs.Str.{bytes_eq}
use Rattle.std.proofs.lemmas.Bool.{true≢false}
use Rattle.std.proofs.lemmas.List.{take_all, take_more}
use Rattle.std.proofs.lemmas.List.Folds.{list_any-append}
use Rattle.std.proofs.lemmas.Map.Keys.{IsDistinct-push}

pub none_twice : IsDistinct bytes_eq []
unfolding IsDistinct
none_twice = tt

one_more : (ps : List (List ℕ)) (i : ℕ) (p d : List ℕ) → i < length ps → p ≡ get_or ps i d
    → take (i + 1) ps ≡ take i ps ++ p ∷ []
one_more ps i p d below is = take_more ps i d below ∙ ap (λ x. take i ps ++ x ∷ []) (sym is)

pub apart_more : (ps : List (List ℕ)) (i : ℕ) (p d : List ℕ) → i < length ps → p ≡ get_or ps i d
    → IsDistinct bytes_eq (take i ps) → list_any (bytes_eq p) (take i ps) ≡ false
    → IsDistinct bytes_eq (take (i + 1) ps)
apart_more ps i p d below is apart new = subst (IsDistinct bytes_eq) (sym (one_more ps i p d below is))
    (IsDistinct-push nat_list_eq_equiv (take i ps) p apart new)

cond-or : (a b : Bool) → cond b true a ≡ (a || (b || false))
cond-or true true = refl
cond-or true false = refl
cond-or false true = refl
cond-or false false = refl

pub seen_more : (ps : List (List ℕ)) (i : ℕ) (p d q : List ℕ) (before now : Bool) → i < length ps → p ≡ get_or ps i d
    → before ≡ list_any (bytes_eq q) (take i ps) → now ≡ cond (bytes_eq p q) true before
    → now ≡ list_any (bytes_eq q) (take (i + 1) ps)
seen_more ps i p d q before now below here is put =
    put
    ∙ (ap (λ b. cond b true before) (nat_list_eq_equiv.symm p q)
    ∙ (cond-or before (bytes_eq q p)
    ∙ (ap (λ a. a || (bytes_eq q p || false)) is
    ∙ sym (ap (list_any (bytes_eq q)) (one_more ps i p d below here)
    ∙ list_any-append (bytes_eq q) (take i ps) (p ∷ [])))))

off_at : (ps : List (List ℕ)) (i : ℕ) (q d : List ℕ) → i < length ps → AllByRecursion (λ p. bytes_eq q p ≡ false) ps
    → bytes_eq q (get_or ps i d) ≡ false
off_at [] i q d below off = absurd (omega (arith, below))
off_at (p ∷ ps) zero q d below off = off.0
off_at (p ∷ ps) (suc i) q d below off = off_at ps i q d (omega (arith, below)) off.1

twice_or : (x y : List ℕ) (later : Bool) → bytes_eq y x ≡ false → (later ≡ true → ⊥) → (bytes_eq x y || later) ≡ true
    → ⊥
twice_or x y later off other hit =
    other (sym (ap (λ b. b || later) (nat_list_eq_equiv.symm x y ∙ off)) ∙ hit)

-- a text that was seen before stands twice
pub stands_twice : (ps : List (List ℕ)) (i : ℕ) (p d : List ℕ) → i < length ps → p ≡ get_or ps i d
    → list_any (bytes_eq p) (take i ps) ≡ true → IsDistinct bytes_eq ps → ⊥
unfolding IsDistinct
stands_twice [] i p d below is hit apart = absurd (omega (arith, below))
stands_twice (q ∷ ps) zero p d below is hit apart = true≢false (sym hit)
stands_twice (q ∷ ps) (suc i) p d below is hit apart =
    twice_or p q (list_any (bytes_eq p) (take i ps))
    (ap (bytes_eq q) is ∙ off_at ps i q d (omega (arith, below)) apart.0)
    (λ h. stands_twice ps i p d (omega (arith, below)) is h apart.1) hit

pub all_seen : (ps : List (List ℕ)) (i : ℕ) → length ps ≤ i → IsDistinct bytes_eq (take i ps) → IsDistinct bytes_eq ps
all_seen ps i all apart = subst (IsDistinct bytes_eq) (take_all i ps all) apart
