-- The laws of tables: what a look-up answers after a change, and that names stay in order.
use Rattle.std.proofs.Common.{◌≡◌, ◌≢◌, ℕ, zero, suc, Bool, true, false, cond, List, [], ◌∷◌, refl, sym, ap, subst, ◌∙◌}
use Rattle.std.proofs.Common.{Some, None, arith}
use Rattle.std.specs.declared.cmp.Ordering.{Ordering}
use Rattle.std.specs.declared.cmp.Ordering.TheVariants.{Less, Equal, Greater}
use Rattle.std.specs.List.{Contains}
use Rattle.std.specs.Ordering.{ordering_reverse}
use Rattle.std.specs.Cmp.Lexicographic.{nat_list_cmp_total}
use Rattle.std.specs.FinMap.{slice_cmp-IsAntisymmetric, nat_cmp-IsAntisymmetric}
use Rattle.std.specs.Str.{bytes_eq}
use Rattle.std.proofs.lemmas.Cmp.{tied_itself}
use Rattle.std.proofs.lemmas.Slice.Eq.{bytes_eq-Decides}
use Rattle.gob_bytes.specs.Tables.{Table, name_cmp, at_name, with_name, names_of, IsInByteOrder}

pub same_name : (x y : List ℕ) → bytes_eq x y ≡ true → x ≡ y
same_name x y e = (bytes_eq-Decides x y).0 e

pub name_itself : (x : List ℕ) → bytes_eq x x ≡ true
name_itself x = (bytes_eq-Decides x x).1 refl

pub two_names : (x y : List ℕ) → x ≢ y → bytes_eq x y ≡ false
two_names x y apart = elim (bytes_eq x y) as (λ b. bytes_eq x y ≡ b → b ≡ false) [
  | true ↦ λ e. absurd (apart (same_name x y e))
  | false ↦ λ e. refl
] refl

pub level_names : (x y : List ℕ) → name_cmp x y ≡ Equal → x ≡ y
level_names x y e = slice_cmp-IsAntisymmetric nat_cmp-IsAntisymmetric x y e

pub name_level : (x : List ℕ) → name_cmp x x ≡ Equal
name_level x = tied_itself nat_list_cmp_total x

pub less_apart : (x y : List ℕ) → name_cmp x y ≡ Less → x ≢ y
less_apart x y e is =
    let level : name_cmp x y ≡ Equal = subst (λ z. name_cmp x z ≡ Equal) is (name_level x) in cc

pub greater_less : (x y : List ℕ) → name_cmp x y ≡ Greater → name_cmp y x ≡ Less
greater_less x y e = nat_list_cmp_total.antisymm y x ∙ ap ordering_reverse e

pub less_then : (x y z : List ℕ) → name_cmp x y ≡ Less → name_cmp y z ≡ Less → name_cmp x z ≡ Less
less_then x y z e f = nat_list_cmp_total.trans x y z e f

pub cond_twice : {A : Type 0} (b c : Bool) (x y z : A) → (b ≡ true → c ≡ true → ⊥) →
    cond b x (cond c y z) ≡ cond c y (cond b x z)
cond_twice true true x y z apart = absurd (apart refl refl)
cond_twice true false x y z apart = refl
cond_twice false true x y z apart = refl
cond_twice false false x y z apart = refl

pub cond_shadowed : {A : Type 0} (b : Bool) (x y z : A) → cond b x z ≡ cond b x (cond b y z)
cond_shadowed true x y z = refl
cond_shadowed false x y z = refl

-- a look-up after a change
pub at-with_name : {X : Type 0} (t : Table X) (name : List ℕ) (x : X) (q : List ℕ) →
    at_name (with_name t name x) q ≡ cond (bytes_eq q name) (Some x) (at_name t q)
at-with_name [] name x q = refl
at-with_name {X} (e ∷ es) name x q = cases (name_cmp name e.0) refl (at-with_name es name x q)
  where
    cases : (o : Ordering) → name_cmp name e.0 ≡ o →
        at_name (with_name es name x) q ≡ cond (bytes_eq q name) (Some x) (at_name es q) →
        at_name (with_name (e ∷ es) name x) q ≡ cond (bytes_eq q name) (Some x) (at_name (e ∷ es) q)
    cases Less is later = rw is
    cases Equal is later =
        rw is (cond_shadowed (bytes_eq q name) (Some x) (Some e.1) (at_name es q)
        ∙ ap (λ n. cond (bytes_eq q name) (Some x) (cond (bytes_eq q n) (Some e.1) (at_name es q)))
        (level_names name e.0 is))
    cases Greater is later = rw is
        (ap (λ o. cond (bytes_eq q e.0) (Some e.1) o) later
        ∙ cond_twice (bytes_eq q e.0) (bytes_eq q name) (Some e.1) (Some x) (at_name es q)
        (λ a b. less_apart e.0 name (greater_less name e.0 is) (sym (same_name q e.0 a) ∙ same_name q name b)))

rising_under : {X : Type 0} (t : Table X) (low name : List ℕ) (x : X) → name_cmp low name ≡ Less →
    IsInByteOrder (low ∷ names_of t) → IsInByteOrder (low ∷ names_of (with_name t name x))
rising_under [] low name x above rising = (above, tt)
rising_under {X} (e ∷ es) low name x above rising =
    cases (name_cmp name e.0) refl (λ below. rising_under es e.0 name x below rising.1)
  where
    cases : (o : Ordering) → name_cmp name e.0 ≡ o →
        (name_cmp e.0 name ≡ Less → IsInByteOrder (e.0 ∷ names_of (with_name es name x))) →
        IsInByteOrder (low ∷ names_of (with_name (e ∷ es) name x))
    cases Less is later = rw is (above, (is, rising.1))
    cases Equal is later =
        rw is (above, subst (λ n. IsInByteOrder (n ∷ names_of es)) (sym (level_names name e.0 is)) rising.1)
    cases Greater is later = rw is (rising.0, later (greater_less name e.0 is))

-- names stay in order
pub rising-with_name : {X : Type 0} (t : Table X) (name : List ℕ) (x : X) → IsInByteOrder (names_of t) →
    IsInByteOrder (names_of (with_name t name x))
rising-with_name [] name x rising = tt
rising-with_name {X} (e ∷ es) name x rising = cases (name_cmp name e.0) refl
  where
    cases : (o : Ordering) → name_cmp name e.0 ≡ o → IsInByteOrder (names_of (with_name (e ∷ es) name x))
    cases Less is = rw is (is, rising)
    cases Equal is = rw is (subst (λ n. IsInByteOrder (n ∷ names_of es)) (sym (level_names name e.0 is)) rising)
    cases Greater is = rw is (rising_under es e.0 name x (greater_less name e.0 is) rising)

pub rising_tail : (x : List ℕ) (xs : List (List ℕ)) → IsInByteOrder (x ∷ xs) → IsInByteOrder xs
rising_tail x [] rising = tt
rising_tail x (y ∷ ys) rising = rising.1

-- what isn't above the first name isn't in the table
pub none_below : {X : Type 0} (t : Table X) (low : List ℕ) → IsInByteOrder (low ∷ names_of t) → at_name t low ≡ None
none_below t low rising = under t low low rising (λ y e. e)
  where
    under : {X : Type 0} (t : Table X) (low q : List ℕ) → IsInByteOrder (low ∷ names_of t) →
        ((y : List ℕ) → name_cmp low y ≡ Less → name_cmp q y ≡ Less) → at_name t q ≡ None
    under [] low q rising below = refl
    under (e ∷ es) low q rising below =
        ap (λ b. cond b (Some e.1) (at_name es q)) (two_names q e.0 (less_apart q e.0 (below e.0 rising.0)))
        ∙ under es e.0 q rising.1 (λ y f. less_then q e.0 y (below e.0 rising.0) f)

-- a member is what a look-up gives
pub at_from_member : {X : Type 0} (t : Table X) (name : List ℕ) (x : X) → IsInByteOrder (names_of t) →
    Contains t (name, x) → at_name t name ≡ Some x
at_from_member [] name x rising (k, below, is) = absurd (omega (arith, below))
at_from_member (e ∷ es) name x rising (zero, below, is) =
    ap (λ (p : List ℕ × _). cond (bytes_eq name p.0) (Some p.1) (at_name es name)) is
    ∙ ap (λ b. cond b (Some x) (at_name es name)) (name_itself name)
at_from_member {X} (e ∷ es) name x rising (suc k, below, is) =
    let later : at_name es name ≡ Some x = at_from_member es name x (rising_tail e.0 (names_of es) rising)
    (k, omega (arith, below), is) in
    let apart : name ≢ e.0 = λ same. let gone : at_name es name ≡ None =
    subst (λ n. at_name es n ≡ None) (sym same) (none_below es e.0 rising) in cc in
    ap (λ b. cond b (Some e.1) (at_name es name)) (two_names name e.0 apart) ∙ later

-- what a look-up gives is a member
pub member_from_at : {X : Type 0} (t : Table X) (name : List ℕ) (x : X) → at_name t name ≡ Some x → Contains t (name, x)
member_from_at [] name x e = cc
member_from_at {X} (e ∷ es) name x is = cases (bytes_eq name e.0) refl (member_from_at es name x)
  where
    cases : (b : Bool) → bytes_eq name e.0 ≡ b → (at_name es name ≡ Some x → Contains es (name, x)) →
        Contains (e ∷ es) (name, x)
    cases true same within =
        let n : name ≡ e.0 = same_name name e.0 same in
        let v : e.1 ≡ x = let h : Some e.1 ≡ Some x = ap (λ b. cond b (Some e.1) (at_name es name)) (sym same)
        ∙ is in cc in
        (0, omega arith, λ j. (sym n j, v j))
    cases false apart within =
        let later = within (ap (λ b. cond b (Some e.1) (at_name es name)) (sym apart) ∙ is) in
        (suc later.0, omega (arith, later.1), later.2)

pub at_head : {X : Type 0} (e : List ℕ × X) (es : Table X) → at_name (e ∷ es) e.0 ≡ Some e.1
at_head e es = ap (λ b. cond b (Some e.1) (at_name es e.0)) (name_itself e.0)

pub at_tail : {X : Type 0} (e : List ℕ × X) (es : Table X) (q : List ℕ) → bytes_eq q e.0 ≡ false →
    at_name (e ∷ es) q ≡ at_name es q
at_tail e es q apart = ap (λ b. cond b (Some e.1) (at_name es q)) apart

heads_level : {X : Type 0} (d e : List ℕ × X) (ds es : Table X) → IsInByteOrder (names_of (d ∷ ds)) →
    IsInByteOrder (names_of (e ∷ es)) → ((q : List ℕ) → at_name (d ∷ ds) q ≡ at_name (e ∷ es) q) → d.0 ≡ e.0
heads_level {X} d e ds es r s alike = cases (name_cmp d.0 e.0) refl
  where
    cases : (o : Ordering) → name_cmp d.0 e.0 ≡ o → d.0 ≡ e.0
    cases Less is =
        let gone : at_name (e ∷ es) d.0 ≡ None = none_below (e ∷ es) d.0 (is, s) in
        let both : Some d.1 ≡ None = sym (at_head d ds) ∙ alike d.0 ∙ gone in cc
    cases Equal is = level_names d.0 e.0 is
    cases Greater is =
        let gone : at_name (d ∷ ds) e.0 ≡ None = none_below (d ∷ ds) e.0 (greater_less d.0 e.0 is, r) in
        let both : Some e.1 ≡ None = sym (at_head e es) ∙ sym (alike e.0) ∙ gone in cc

tails_alike : {X : Type 0} (d e : List ℕ × X) (ds es : Table X) → IsInByteOrder (names_of (d ∷ ds)) →
    IsInByteOrder (names_of (e ∷ es)) → d.0 ≡ e.0 → ((q : List ℕ) → at_name (d ∷ ds) q ≡ at_name (e ∷ es) q) →
    (q : List ℕ) → at_name ds q ≡ at_name es q
tails_alike {X} d e ds es r s level alike q = cases (bytes_eq q d.0) refl
  where
    cases : (b : Bool) → bytes_eq q d.0 ≡ b → at_name ds q ≡ at_name es q
    cases true is =
        let n : q ≡ d.0 = same_name q d.0 is in
        ap (at_name ds) n ∙ none_below ds d.0 r ∙ sym (ap (at_name es) (n ∙ level) ∙ none_below es e.0 s)
    cases false is = sym (at_tail d ds q is) ∙ alike q ∙ at_tail e es q (ap (bytes_eq q) (sym level) ∙ is)

-- two tables in order that answer alike are one
pub same_tables : {X : Type 0} (t u : Table X) → IsInByteOrder (names_of t) → IsInByteOrder (names_of u) →
    ((q : List ℕ) → at_name t q ≡ at_name u q) → t ≡ u
same_tables [] [] r s alike = refl
same_tables [] (e ∷ es) r s alike = let both : Some e.1 ≡ None = sym (at_head e es) ∙ sym (alike e.0) in cc
same_tables (d ∷ ds) [] r s alike = let both : Some d.1 ≡ None = sym (at_head d ds) ∙ alike d.0 in cc
same_tables (d ∷ ds) (e ∷ es) r s alike =
    let level = heads_level d e ds es r s alike in
    let value : d.1 ≡ e.1 = let h : Some d.1 ≡ Some e.1 = sym (at_head d ds) ∙ alike d.0 ∙ ap (at_name (e ∷ es)) level
    ∙ at_head e es in cc in
    let rest = same_tables ds es (rising_tail d.0 (names_of ds) r) (rising_tail e.0 (names_of es) s)
    (tails_alike d e ds es r s level alike) in
    λ j. (level j, value j) ∷ rest j
