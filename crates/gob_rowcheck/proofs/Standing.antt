-- Columns that stand at places, one after the other.
use Rattle.std.proofs.Common.{◌≡◌, ℕ, zero, suc, ◌+◌, ◌<◌, ◌≤◌, Bool, true, List, [], ◌∷◌, ◌++◌}
use Rattle.std.proofs.Common.{length, map, get_or, take}
use Rattle.std.proofs.Common.{drop, refl, sym, ap, ◌∙◌, arith}
use Rattle.std.proofs.lemmas.Bool.{and_parts, and_from}
use Rattle.std.proofs.lemmas.List.{at_drop_more, take_all}
use Rattle.std.specs.List.{list_all}
use Rattle.gob_plan.specs.declared.rows.Column.{Column}
use Rattle.gob_rowcheck.specs.Places.{stand_at, stands_at}

-- there is a place for the name, and the column stands there
pub record StandsThere (name : List ℕ) (columns : List Column) (places : List ℕ) (i : ℕ) : Type 0 where
  pub there : i < length places
  pub stands : (d : ℕ) → stands_at name columns (get_or places i d) ≡ true

pub stands_there : {A : Type 0} (name : A → List ℕ) (xs : List A) (columns : List Column) (places : List ℕ) (i : ℕ)
    (x : A) → stand_at (map name xs) columns places ≡ true → i < length xs → x ≡ get_or xs i x
    → StandsThere (name x) columns places i
stands_there name [] columns places i x stand lt is = absurd (omega arith)
stands_there name (y ∷ ys) columns [] i x stand lt is = absurd (cc)
stands_there name (y ∷ ys) columns (p ∷ ps) zero x stand lt is = record {
  there = omega arith;
  stands = λ d. ap (λ z. stands_at (name z) columns p) is
      ∙ (and_parts (stands_at (name y) columns p) (stand_at (map name ys) columns ps) stand).0;
}
stands_there name (y ∷ ys) columns (p ∷ ps) (suc i) x stand lt is =
    let later = stands_there name ys columns ps i x
    (and_parts (stands_at (name y) columns p) (stand_at (map name ys) columns ps) stand).1 (omega arith) is in
    record { there = let h = later.there in omega (arith, h); stands = later.stands }

-- one more
pub one_more_stands : {A : Type 0} (name : A → List ℕ) (xs : List A) (columns : List Column) (places : List ℕ) (i : ℕ)
    (x : A) (p : ℕ) → stand_at (map name (take i xs)) columns places ≡ true → i < length xs → x ≡ get_or xs i x
    → stands_at (name x) columns p ≡ true → stand_at (map name (take (i + 1) xs)) columns (places ++ p ∷ []) ≡ true
one_more_stands {A} name xs columns places i x p stand lt is stands =
    let next : i + 1 ≡ suc i = omega arith in
    ap (λ n. stand_at (map name (take n xs)) columns (places ++ p ∷ [])) next ∙ more xs places i stand lt is
  where
    more : (ys : List A) (ps : List ℕ) (k : ℕ) → stand_at (map name (take k ys)) columns ps ≡ true → k < length ys
        → x ≡ get_or ys k x → stand_at (map name (take (suc k) ys)) columns (ps ++ p ∷ []) ≡ true
    more [] ps k stand lt is = absurd (omega arith)
    more (y ∷ ys) [] zero stand lt is =
        and_from (stands_at (name y) columns p) true (ap (λ z. stands_at (name z) columns p) (sym is) ∙ stands) refl
    more (y ∷ ys) (q ∷ ps) zero stand lt is = absurd (cc)
    more (y ∷ ys) [] (suc k) stand lt is = absurd (cc)
    more (y ∷ ys) (q ∷ ps) (suc k) stand lt is =
        let parts = and_parts (stands_at (name y) columns q) (stand_at (map name (take k ys)) columns ps) stand in
        and_from (stands_at (name y) columns q) (stand_at (map name (take (suc k) ys)) columns (ps ++ p ∷ [])) parts.0
        (more ys ps k parts.1 (omega arith) is)

-- all of them
pub all_stand : {A : Type 0} (name : A → List ℕ) (xs : List A) (columns : List Column) (places : List ℕ) (i : ℕ)
    → stand_at (map name (take i xs)) columns places ≡ true → length xs ≤ i
    → stand_at (map name xs) columns places ≡ true
all_stand name xs columns places i stand over =
    ap (λ ys. stand_at (map name ys) columns places) (sym (take_all i xs over)) ∙ stand

-- those in front, and how many there are
pub front_stands : {A : Type 0} (name : A → List ℕ) (xs : List A) (columns : List Column) (places : List ℕ) (n : ℕ)
    → stand_at (map name xs) columns places ≡ true
    → stand_at (map name (take n xs)) columns (take n places) ≡ true
front_stands name xs columns places zero stand = refl
front_stands name [] columns [] (suc n) stand = refl
front_stands name [] columns (p ∷ ps) (suc n) stand = absurd (cc)
front_stands name (y ∷ ys) columns [] (suc n) stand = absurd (cc)
front_stands name (y ∷ ys) columns (p ∷ ps) (suc n) stand =
    let parts = and_parts (stands_at (name y) columns p) (stand_at (map name ys) columns ps) stand in
    and_from (stands_at (name y) columns p) (stand_at (map name (take n ys)) columns (take n ps)) parts.0
    (front_stands name ys columns ps n parts.1)

pub as_many_places : {A : Type 0} (name : A → List ℕ) (xs : List A) (columns : List Column) (places : List ℕ)
    → stand_at (map name xs) columns places ≡ true → length places ≡ length xs
as_many_places name [] columns [] stand = refl
as_many_places name [] columns (p ∷ ps) stand = absurd (cc)
as_many_places name (y ∷ ys) columns [] stand = absurd (cc)
as_many_places name (y ∷ ys) columns (p ∷ ps) stand = ap suc (as_many_places name ys columns ps
    (and_parts (stands_at (name y) columns p) (stand_at (map name ys) columns ps) stand).1)

-- ---- tests of what is left

pub left_pass : {A : Type 0} (p : A → Bool) (xs : List A) (i : ℕ) (x : A) → i < length xs
    → list_all p (drop i xs) ≡ true → list_all p (drop (i + 1) xs) ≡ true
left_pass p xs i x lt all = (and_parts (p (get_or xs i x)) (list_all p (drop (i + 1) xs))
    (sym (at_drop_more (list_all p) xs i x lt) ∙ all)).1
