-- The rank of a name parts a table, and what changes there changes the table as its definitions say.
use Rattle.std.proofs.Common.{◌≡◌, ℕ, zero, suc, ◌<◌, ◌≤◌, Bool, true, false, cond, List, [], ◌∷◌, length, get_or, refl}
use Rattle.std.proofs.Common.{sym, ap, subst, ◌∙◌, Some, None, Option, arith}
use Rattle.std.proofs.Math.ListN.{set}
use Rattle.std.proofs.lemmas.List.{get_or_default}
use Rattle.std.specs.declared.cmp.Ordering.{Ordering}
use Rattle.std.specs.declared.cmp.Ordering.TheVariants.{Less, Equal, Greater}
use Rattle.std.specs.Ordering.{ordering_reverse, is_gt}
use Rattle.std.specs.Cmp.Lexicographic.{nat_list_cmp_total}
use Rattle.std.specs.List.{insert, remove}
use Rattle.std.specs.Str.{bytes_eq}
use Rattle.gob_bytes.specs.Tables.{Table, name_cmp, at_name, with_name, names_of, IsInByteOrder}
use Rattle.gob_bytes.proofs.Tables.{same_name, name_itself, two_names, level_names, less_apart, greater_less, less_then}
use Rattle.gob_bytes.proofs.Tables.{rising_tail, none_below, at_from_member}
use Rattle.gob_memory.specs.Places.{rank_of, without_name, StandsAt, GoesAt}

pub less_greater : (x y : List ℕ) → name_cmp x y ≡ Less → name_cmp y x ≡ Greater
less_greater x y e = nat_list_cmp_total.antisymm y x ∙ ap ordering_reverse e

pub rank-le : {X : Type 0} (t : Table X) (name : List ℕ) → rank_of t name ≤ length t
rank-le [] name = omega arith
rank-le (e ∷ es) name = elim (is_gt (name_cmp name e.0)) as
    (λ b. cond b (suc (rank_of es name)) zero ≤ suc (length es)) [
      | true ↦ omega (arith, rank-le es name)
      | false ↦ omega arith
    ]

ahead : {X : Type 0} (es : Table X) (low : List ℕ) (m : ℕ) (d : List ℕ × X) → IsInByteOrder (low ∷ names_of es)
    → m < length es → name_cmp low (get_or es m d).0 ≡ Less
ahead [] low m d rising within = absurd (omega (arith, within))
ahead (e ∷ es) low zero d rising within = rising.0
ahead (e ∷ es) low (suc m) d rising within = less_then low e.0 (get_or es m d).0 rising.0
    (ahead es e.0 m d rising.1 (omega (arith, within)))

-- a name that is passed is below the rank
pub passed : {X : Type 0} (t : Table X) (name : List ℕ) (m : ℕ) (d : List ℕ × X) → IsInByteOrder (names_of t)
    → m < length t → name_cmp name (get_or t m d).0 ≡ Greater → m < rank_of t name
passed [] name m d rising within above = absurd (omega (arith, within))
passed (e ∷ es) name zero d rising within above = rw above (omega arith)
passed (e ∷ es) name (suc m) d rising within above =
    let later : m < rank_of es name = passed es name m d (rising_tail e.0 (names_of es) rising) (omega (arith, within))
    above in
    let first : name_cmp e.0 name ≡ Less = less_then e.0 (get_or es m d).0 name
    (ahead es e.0 m d rising (omega (arith, within))) (greater_less name (get_or es m d).0 above) in
    let over : name_cmp name e.0 ≡ Greater = less_greater e.0 name first in
    rw over (omega (arith, later))

-- a name that isn't passed is at the rank or behind it
pub stopped : {X : Type 0} (t : Table X) (name : List ℕ) (m : ℕ) (d : List ℕ × X) → m < length t
    → (name_cmp name (get_or t m d).0 ≡ Greater → ⊥) → rank_of t name ≤ m
stopped [] name m d within below = absurd (omega (arith, within))
stopped (e ∷ es) name zero d within below = elim (name_cmp name e.0) as
    (λ o. name_cmp name e.0 ≡ o → cond (is_gt o) (suc (rank_of es name)) zero ≤ zero) [
      | Less ↦ λ is. omega arith
      | Equal ↦ λ is. omega arith
      | Greater ↦ λ is. absurd (below is)
    ] refl
stopped (e ∷ es) name (suc m) d within below =
    let later : rank_of es name ≤ m = stopped es name m d (omega (arith, within)) below in
    elim (is_gt (name_cmp name e.0)) as (λ b. cond b (suc (rank_of es name)) zero ≤ suc m) [
      | true ↦ omega (arith, later)
      | false ↦ omega arith
    ]

-- what stands at a place is what a look-up answers
pub at-stands : {X : Type 0} (t : Table X) (name : List ℕ) (i : ℕ) (x : X) → IsInByteOrder (names_of t) → i < length t
    → get_or t i (name, x) ≡ (name, x) → at_name t name ≡ Some x
at-stands t name i x rising within is = at_from_member t name x rising (i, within, is)

-- where the rank holds another name, the name isn't there
pub at-rank : {X : Type 0} (t : Table X) (name : List ℕ) → IsInByteOrder (names_of t)
    → ((d : List ℕ × X) → rank_of t name < length t → (get_or t (rank_of t name) d).0 ≡ name → ⊥)
    → at_name t name ≡ None
at-rank [] name rising apart = refl
at-rank {X} (e ∷ es) name rising apart = cases (name_cmp name e.0) refl
    (at-rank es name (rising_tail e.0 (names_of es) rising))
  where
    cases : (o : Ordering) → name_cmp name e.0 ≡ o → (((d : List ℕ × X) → rank_of es name < length es
        → (get_or es (rank_of es name) d).0 ≡ name → ⊥) → at_name es name ≡ None) → at_name (e ∷ es) name ≡ None
    cases Less is later = none_below (e ∷ es) name (is, rising)
    cases Equal is later =
        let zeroth : rank_of (e ∷ es) name ≡ zero = rw is refl in
        absurd (apart e (omega (arith, zeroth)) (ap (λ i. (get_or (e ∷ es) i e).0) zeroth
        ∙ sym (level_names name e.0 is)))
    cases Greater is later =
        let next : rank_of (e ∷ es) name ≡ suc (rank_of es name) = rw is refl in
        let gone : at_name es name ≡ None = later (λ d below same.
        apart d (omega (arith, next, below)) (ap (λ i. (get_or (e ∷ es) i d).0) next ∙ same)) in
        ap (λ b. cond b (Some e.1) (at_name es name)) (two_names name e.0
        (λ same. less_apart e.0 name (greater_less name e.0 is) (sym same))) ∙ gone

not_greater : (x y : List ℕ) → x ≡ y → name_cmp x y ≡ Greater → ⊥
not_greater x y same above = less_apart y x (greater_less x y above) (sym same)

apart_greater : (x y : List ℕ) → name_cmp x y ≡ Greater → bytes_eq x y ≡ false
apart_greater x y above = two_names x y (λ same. not_greater x y same above)

pub goes : {X : Type 0} (t : Table X) (name : List ℕ) (place : ℕ) → IsInByteOrder (names_of t) → place ≡ rank_of t name
    → ((d : List ℕ × X) → place < length t → (get_or t place d).0 ≡ name → ⊥) → GoesAt t name place
goes t name place rising is apart = record {
  rank = sym is;
  within = omega (arith, is, rank-le t name);
  absent = at-rank t name rising (λ d below same. apart d (omega (arith, is, below))
      (ap (λ i. (get_or t i d).0) is ∙ same));
}

pub value_there : {X : Type 0} (t : Table X) (name : List ℕ) (i : ℕ) (d : List ℕ × X) → IsInByteOrder (names_of t)
    → StandsAt t name i → at_name t name ≡ Some (get_or t i d).1
value_there t name i d rising at =
    let x = (get_or t i d).1 in
    at-stands t name i x rising at.within (get_or_default t i (name, x) d at.within ∙ ap (λ n. (n, x)) (at.named d))

-- a value in place of another
pub with-stands : {X : Type 0} (t : Table X) (name : List ℕ) (x : X) (i : ℕ) → StandsAt t name i
    → with_name t name x ≡ set t i (name, x)
with-stands t name x i at = along x t i at.rank at.within at.named
  where
    along : {X : Type 0} (x : X) (t : Table X) (i : ℕ) → rank_of t name ≡ i → i < length t
        → ((d : List ℕ × X) → (get_or t i d).0 ≡ name) → with_name t name x ≡ set t i (name, x)
    along x [] i rank within named = absurd (omega (arith, within))
    along {X} x (e ∷ es) i rank within named = cases (name_cmp name e.0) refl (along x es)
      where
        cases : (o : Ordering) → name_cmp name e.0 ≡ o → ((j : ℕ) → rank_of es name ≡ j → j < length es
            → ((d : List ℕ × X) → (get_or es j d).0 ≡ name) → with_name es name x ≡ set es j (name, x))
            → with_name (e ∷ es) name x ≡ set (e ∷ es) i (name, x)
        cases Less is later =
            let first : zero ≡ i = rw is at rank in
            absurd (less_apart name e.0 is (sym (ap (λ j. (get_or (e ∷ es) j e).0) first ∙ named e)))
        cases Equal is later =
            let first : zero ≡ i = rw is at rank in
            rw (is, ← first) refl
        cases Greater is later =
            let next : suc (rank_of es name) ≡ i = rw is at rank in
            let rest : with_name es name x ≡ set es (rank_of es name) (name, x) =
            later (rank_of es name) refl (omega (arith, within, next))
            (λ d. ap (λ j. (get_or (e ∷ es) j d).0) next ∙ named d) in
            rw (is, ← next) (ap (λ later. e ∷ later) rest)

-- the same, where the code writes the value of an entry
pub with-changed : {X : Type 0} (t : Table X) (name : List ℕ) (i : ℕ) (e : List ℕ × X) (x : X) → StandsAt t name i
    → e ≡ get_or t i e → set t i (e.0, x) ≡ with_name t name x
with-changed t name i e x at is = ap (λ (f : List ℕ × _). set t i (f.0, x)) is ∙ ap (λ n. set t i (n, x)) (at.named e)
    ∙ sym (with-stands t name x i at)

pub at-changed : {X : Type 0} (t : Table X) (name : List ℕ) (i : ℕ) (e : List ℕ × X) → IsInByteOrder (names_of t)
    → StandsAt t name i → e ≡ get_or t i e → at_name t name ≡ Some e.1
at-changed t name i e rising at is = value_there t name i e rising at ∙ ap (λ (f : List ℕ × _). Some f.1) (sym is)

-- a value at a name that wasn't there
pub with-goes : {X : Type 0} (t : Table X) (name : List ℕ) (x : X) (i : ℕ) → GoesAt t name i
    → with_name t name x ≡ insert t i (name, x)
with-goes t name x i at = along x t at.absent ∙ ap (λ j. insert t j (name, x)) at.rank
  where
    along : {X : Type 0} (x : X) (t : Table X) → at_name t name ≡ None
        → with_name t name x ≡ insert t (rank_of t name) (name, x)
    along x [] absent = refl
    along {X} x (e ∷ es) absent = cases (name_cmp name e.0) refl (along x es)
      where
        cases : (o : Ordering) → name_cmp name e.0 ≡ o → (at_name es name ≡ None
            → with_name es name x ≡ insert es (rank_of es name) (name, x))
            → with_name (e ∷ es) name x ≡ insert (e ∷ es) (rank_of (e ∷ es) name) (name, x)
        cases Less is later = rw is refl
        cases Equal is later =
            let there : bytes_eq name e.0 ≡ true = subst (λ n. bytes_eq name n ≡ true) (level_names name e.0 is)
            (name_itself name) in
            let found : at_name (e ∷ es) name ≡ Some e.1 = ap (λ b. cond b (Some e.1) (at_name es name)) there in cc
        cases Greater is later =
            let gone : at_name es name ≡ None = sym (ap (λ b. cond b (Some e.1) (at_name es name))
            (apart_greater name e.0 is)) ∙ absent in
            rw is (ap (λ later. e ∷ later) (later gone))

pub with-added : {X : Type 0} (t : Table X) (name other : List ℕ) (x : X) (i : ℕ) → GoesAt t name i → other ≡ name
    → insert t i (other, x) ≡ with_name t name x
with-added t name other x i at same = ap (λ n. insert t i (n, x)) same ∙ sym (with-goes t name x i at)

-- a name that is taken away
pub without-stands : {X : Type 0} (t : Table X) (name : List ℕ) (i : ℕ) → StandsAt t name i
    → without_name t name ≡ remove t i
without-stands t name i at = along t i at.rank at.within at.named
  where
    along : {X : Type 0} (t : Table X) (i : ℕ) → rank_of t name ≡ i → i < length t
        → ((d : List ℕ × X) → (get_or t i d).0 ≡ name) → without_name t name ≡ remove t i
    along [] i rank within named = absurd (omega (arith, within))
    along {X} (e ∷ es) i rank within named = cases (name_cmp name e.0) refl (along es)
      where
        cases : (o : Ordering) → name_cmp name e.0 ≡ o → ((j : ℕ) → rank_of es name ≡ j → j < length es
            → ((d : List ℕ × X) → (get_or es j d).0 ≡ name) → without_name es name ≡ remove es j)
            → without_name (e ∷ es) name ≡ remove (e ∷ es) i
        cases Less is later =
            let first : zero ≡ i = rw is at rank in
            absurd (less_apart name e.0 is (sym (ap (λ j. (get_or (e ∷ es) j e).0) first ∙ named e)))
        cases Equal is later =
            let first : zero ≡ i = rw is at rank in
            let there : bytes_eq name e.0 ≡ true = subst (λ n. bytes_eq name n ≡ true) (level_names name e.0 is)
            (name_itself name) in
            rw (there, ← first) refl
        cases Greater is later =
            let next : suc (rank_of es name) ≡ i = rw is at rank in
            let rest : without_name es name ≡ remove es (rank_of es name) =
            later (rank_of es name) refl (omega (arith, within, next))
            (λ d. ap (λ j. (get_or (e ∷ es) j d).0) next ∙ named d) in
            let apart = apart_greater name e.0 is in
            rw (apart, ← next) (ap (λ later. e ∷ later) rest)

pub without-absent : {X : Type 0} (t : Table X) (name : List ℕ) → at_name t name ≡ None → without_name t name ≡ t
without-absent [] name absent = refl
without-absent {X} (e ∷ es) name absent = cases (bytes_eq name e.0) refl (without-absent es name)
  where
    cases : (b : Bool) → bytes_eq name e.0 ≡ b → (at_name es name ≡ None → without_name es name ≡ es)
        → without_name (e ∷ es) name ≡ e ∷ es
    cases true is later = let found : at_name (e ∷ es) name ≡ Some e.1 =
        ap (λ b. cond b (Some e.1) (at_name es name)) is in cc
    cases false is later = rw is (ap (λ later. e ∷ later) (later
        (sym (ap (λ b. cond b (Some e.1) (at_name es name)) is) ∙ absent)))

cond_none : {A : Type 0} (b c : Bool) (x : A) (y : Option A) → (b ≡ true → c ≡ true → ⊥)
    → cond b (Some x) (cond c None y) ≡ cond c None (cond b (Some x) y)
cond_none true true x y apart = absurd (apart refl refl)
cond_none true false x y apart = refl
cond_none false true x y apart = refl
cond_none false false x y apart = refl

-- a look-up after a name was taken away
pub at-without : {X : Type 0} (t : Table X) (name q : List ℕ) → IsInByteOrder (names_of t)
    → at_name (without_name t name) q ≡ cond (bytes_eq q name) None (at_name t q)
at-without {X} [] name q rising = nothing (bytes_eq q name)
  where
    nothing : (b : Bool) → let none : Option X = None in none ≡ cond b none none
    nothing true = refl
    nothing false = refl
at-without {X} (e ∷ es) name q rising = cases (bytes_eq name e.0) refl
    (at-without es name q (rising_tail e.0 (names_of es) rising))
  where
    Later : Type 0
    Later = at_name (without_name es name) q ≡ cond (bytes_eq q name) None (at_name es q)

    here : (b : Bool) → bytes_eq q e.0 ≡ b → at_name es q ≡ cond b None (at_name (e ∷ es) q)
    here true is = ap (at_name es) (same_name q e.0 is) ∙ none_below es e.0 rising
    here false is = sym (ap (λ b. cond b (Some e.1) (at_name es q)) is)

    cases : (b : Bool) → bytes_eq name e.0 ≡ b → Later → at_name (without_name (e ∷ es) name) q ≡ cond (bytes_eq q name)
        None (at_name (e ∷ es) q)
    cases true is later = rw is (here (bytes_eq q e.0) refl ∙ ap (λ n. cond (bytes_eq q n) None (at_name (e ∷ es) q))
        (sym (same_name name e.0 is)))
    cases false is later = rw is
        (ap (λ o. cond (bytes_eq q e.0) (Some e.1) o) later
        ∙ cond_none (bytes_eq q e.0) (bytes_eq q name) e.1 (at_name es q)
        (λ a b. let both : bytes_eq name e.0 ≡ true = subst (λ n. bytes_eq n e.0 ≡ true) (same_name q name b) a in cc))

pub rising_shorter : (low x : List ℕ) (xs : List (List ℕ)) → name_cmp low x ≡ Less → IsInByteOrder (x ∷ xs)
    → IsInByteOrder (low ∷ xs)
rising_shorter low x [] below rising = tt
rising_shorter low x (y ∷ ys) below rising = (less_then low x y below rising.0, rising.1)

rising_under : {X : Type 0} (t : Table X) (low name : List ℕ) → IsInByteOrder (low ∷ names_of t)
    → IsInByteOrder (low ∷ names_of (without_name t name))
rising_under [] low name rising = tt
rising_under {X} (e ∷ es) low name rising = cases (bytes_eq name e.0) refl (rising_under es e.0 name rising.1)
  where
    cases : (b : Bool) → bytes_eq name e.0 ≡ b → IsInByteOrder (e.0 ∷ names_of (without_name es name))
        → IsInByteOrder (low ∷ names_of (without_name (e ∷ es) name))
    cases true is later = rw is (rising_shorter low e.0 (names_of es) rising.0 rising.1)
    cases false is later = rw is (rising.0, later)

-- names stay in order
pub rising-without : {X : Type 0} (t : Table X) (name : List ℕ) → IsInByteOrder (names_of t)
    → IsInByteOrder (names_of (without_name t name))
rising-without [] name rising = tt
rising-without {X} (e ∷ es) name rising = cases (bytes_eq name e.0) refl
  where
    cases : (b : Bool) → bytes_eq name e.0 ≡ b → IsInByteOrder (names_of (without_name (e ∷ es) name))
    cases true is = rw is (rising_tail e.0 (names_of es) rising)
    cases false is = rw is (rising_under es e.0 name rising)
