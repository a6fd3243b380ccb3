-- How the maps of one call and of the next are the maps of both.
use Rattle.std.proofs.Common.{◌≡◌, inl, inr, ⊎_elim, List, [], ◌∷◌, ◌++◌, refl, sym, ap, subst, ◌∙◌, Some, None}
use Rattle.std.specs.declared.option.Option.{Option}
use Rattle.std.specs.declared.result.Result.{Result}
use Rattle.std.specs.declared.result.Result.TheVariants.{Ok, Err}
use Rattle.std.proofs.lemmas.List.{append-nil, append_assoc}
use Rattle.gob_device.specs.Disk.{Files, Disk, after_change, FailedChange, Both, Changes, EachOf, EachFrom, Rises}
use Rattle.gob_device.specs.Disk.{last_map, Went, AddsMaps, AddsOne, Along}

-- ---- what devices tell, or don't

pub both_same : {A : Type 0} (R : A → A → Type 0) → ((a : A) → R a a) → (o : Option A) → Both R o o
both_same R same None = tt
both_same R same (Some a) = same a

pub both_map : {A : Type 0} (R S : A → A → Type 0) → ((a b : A) → R a b → S a b)
    → (o p : Option A) → Both R o p → Both S o p
both_map R S weaker None None r = tt
both_map R S weaker None (Some b) r = r
both_map R S weaker (Some a) None r = r
both_map R S weaker (Some a) (Some b) r = weaker a b r

pub both_then : {A : Type 0} (R S T : A → A → Type 0) → ((a b c : A) → R a b → S b c → T a c)
    → (o p q : Option A) → Both R o p → Both S p q → Both T o q
both_then R S T joins None None None r s = tt
both_then R S T joins None None (Some c) r s = s
both_then R S T joins None (Some b) q r s = absurd r
both_then R S T joins (Some a) None q r s = absurd r
both_then R S T joins (Some a) (Some b) None r s = s
both_then R S T joins (Some a) (Some b) (Some c) r s = joins a b c r s

-- ---- maps in a row

pub each-append : (P : Files → Type 0) (xs ys : List Files) → EachOf P xs → EachOf P ys → EachOf P (xs ++ ys)
each-append P [] ys a b = b
each-append P (x ∷ xs) ys a b = (a.0, each-append P xs ys a.1 b)

pub each-map : (P Q : Files → Type 0) (xs : List Files) → ((m : Files) → P m → Q m) → EachOf P xs → EachOf Q xs
each-map P Q [] f a = tt
each-map P Q (x ∷ xs) f a = (f x a.0, each-map P Q xs f a.1)

-- what holds of the first map and of each that was added holds of the one that stands
pub each-last : (P : Files → Type 0) (m : Files) (xs : List Files) → P m → EachOf P xs → P (last_map m xs)
each-last P m [] here a = here
each-last P m (x ∷ xs) here a = each-last P x xs a.0 a.1

pub last-append : (m : Files) (xs ys : List Files) → last_map m (xs ++ ys) ≡ last_map (last_map m xs) ys
last-append m [] ys = refl
last-append m (x ∷ xs) ys = last-append x xs ys

-- ---- calls that add maps

-- no call
pub maps_nothing : (Q : Files → List Files → Type 0) → ((m : Files) → Q m []) → (o : Option Disk) → AddsMaps Q o o
maps_nothing Q none o = record { told = both_same (Went Q) still o }
  where
    still : (d : Disk) → Went Q d d
    still d = record { added = []; trail = sym (append-nil d.trail); stands = refl; holds = none d.files }

-- what is said of the maps may be weaker
pub maps_map : {P Q : Files → List Files → Type 0} {old new : Option Disk}
    → ((m : Files) (xs : List Files) → P m xs → Q m xs) → AddsMaps P old new → AddsMaps Q old new
maps_map {P} {Q} {old} {new} weaker a = record { told = both_map (Went P) (Went Q) told old new a.told }
  where
    told : (d e : Disk) → Went P d e → Went Q d e
    told d e w = record {
      added = w.added;
      trail = w.trail;
      stands = w.stands;
      holds = weaker d.files w.added w.holds;
    }

-- what holds of the maps of some calls, and then of those of further ones, gives what holds of them all
abbrev pub Join : (P Q S : Files → List Files → Type 0) → Type 0
Join P Q S = (m : Files) (xs ys : List Files) → P m xs → Q (last_map m xs) ys → S m (xs ++ ys)

-- some calls and then further ones
pub maps_then : {P Q S : Files → List Files → Type 0} {old between new : Option Disk}
    → Join P Q S → AddsMaps P old between → AddsMaps Q between new → AddsMaps S old new
maps_then {P} {Q} {S} {old} {between} {new} join a b =
    record { told = both_then (Went P) (Went Q) (Went S) told old between new a.told b.told }
  where
    told : (d e f : Disk) → Went P d e → Went Q e f → Went S d f
    told d e f v w = record {
      added = v.added ++ w.added;
      trail = w.trail ∙ (ap (λ t. t ++ w.added) v.trail ∙ append_assoc d.trail v.added w.added);
      stands = w.stands ∙ (ap (λ m. last_map m w.added) v.stands ∙ sym (last-append d.files v.added w.added));
      holds = join d.files v.added w.added v.holds (subst (λ m. Q m w.added) v.stands w.holds);
    }

changed : (step : Files → Files) (failed : Files → Files → Type 0) (d : Disk)
    → Went (AddsOne step failed) d (after_change step d)
changed step failed d = record {
  added = step d.files ∷ [];
  trail = refl;
  stands = refl;
  holds = inr (step d.files, refl, inl refl);
}

left : (step : Files → Files) (failed : Files → Files → Type 0) (d e : Disk)
    → FailedChange failed d e → Went (AddsOne step failed) d e
left step failed d e f = ⊎_elim
    (λ p. record { added = e.files ∷ []; trail = p; stands = refl; holds = inr (e.files, refl, inr f.files) })
    (λ p. record { added = []; trail = p.0 ∙ sym (append-nil d.trail); stands = p.1; holds = inl refl })
    f.trail

-- one changing call, whatever it answers
pub maps_change : {T E : Type 0} {step : Files → Files} {failed : Files → Files → Type 0} {old new : Option Disk}
    → {result : Result T E} → Changes step failed old new result → AddsMaps (AddsOne step failed) old new
maps_change {T} {E} {step} {failed} {old} {new} {result} c = record { told = told old result c }
  where
    told : (o : Option Disk) (r : Result T E) → Changes step failed o new r → Both (Went (AddsOne step failed)) o new
    told None (Ok x) c = subst (λ n. Both (Went (AddsOne step failed)) None n) (sym c.ok) tt
    told (Some d) (Ok x) c =
        subst (λ n. Both (Went (AddsOne step failed)) (Some d) n) (sym c.ok) (changed step failed d)
    told o (Err x) c = both_map (FailedChange failed) (Went (AddsOne step failed)) (left step failed) o new c.err

-- ---- maps to which the first has R

pub along_nothing : (R : Files → Files → Type 0) (o : Option Disk) → Along R o o
along_nothing R o = maps_nothing (EachFrom R) (λ m. tt) o

pub along_map : (R S : Files → Files → Type 0) {old new : Option Disk}
    → ((m n : Files) → R m n → S m n) → Along R old new → Along S old new
along_map R S weaker a = maps_map (λ m xs each. each-map (R m) (S m) xs (weaker m) each) a

each_then : (R : Files → Files → Type 0) → ((m n k : Files) → R m n → R n k → R m k)
    → Join (EachFrom R) (EachFrom R) (EachFrom R)
each_then R joins m [] ys a b = b
each_then R joins m (x ∷ xs) ys a b =
    let here : R m (last_map x xs) = each-last (R m) x xs a.0 a.1 in
    let later = each-map (R (last_map x xs)) (R m) ys (λ k r. joins m (last_map x xs) k here r) b in
    each-append (R m) (x ∷ xs) ys a later

pub along_then : (R : Files → Files → Type 0) {old between new : Option Disk}
    → ((m n k : Files) → R m n → R n k → R m k) → Along R old between → Along R between new → Along R old new
along_then R joins a b = maps_then (each_then R joins) a b

-- one changing call, where the first map has R to what each answer may leave
pub along_change : {T E : Type 0} (R : Files → Files → Type 0) {step : Files → Files} {failed : Files → Files → Type 0}
    → {old new : Option Disk} {result : Result T E}
    → ((m : Files) → R m (step m)) → ((m n : Files) → failed m n → R m n) → Changes step failed old new result
    → Along R old new
along_change R {step} {failed} steps fails c = maps_map one (maps_change c)
  where
    one : (m : Files) (added : List Files) → AddsOne step failed m added → EachOf (R m) added
    one m added is = ⊎_elim
        (λ none. subst (EachOf (R m)) (sym none) tt)
        (λ some. subst (EachOf (R m)) (sym some.1)
        (⊎_elim (λ same. subst (R m) (sym same) (steps m)) (fails m some.0) some.2, tt))
        is

-- the map that stands, where each map has R to itself
pub along_last : (R : Files → Files → Type 0) → ((m : Files) → R m m)
    → (d e : Disk) → Along R (Some d) (Some e) → R d.files e.files
along_last R same d e w =
    subst (R d.files) (sym w.told.stands) (each-last (R d.files) d.files w.told.added (same d.files) w.told.holds)

-- ---- stretches of maps

-- no map of the further stretches
pub rises_more : {X : Type 0} (P : X → Files → Type 0) (xs ys : List X) (ms : List Files)
    → Rises P xs ms → Rises P (xs ++ ys) ms
unfolding Rises
rises_more P [] [] ms r = r
rises_more P [] (y ∷ ys) ms r = ([], ms, refl, tt, rises_more P [] ys ms r)
rises_more P (x ∷ xs) ys ms r = (r.0, r.1, r.2, r.3, rises_more P xs ys r.1 r.4)

-- maps that rise up to a member, and then others that rise from it, rise along both
pub rises_on : {X : Type 0} (P : X → Files → Type 0) (xs : List X) (x : X) (ys : List X) (ms ns : List Files)
    → Rises P (xs ++ x ∷ []) ms → Rises P (x ∷ ys) ns → Rises P (xs ++ x ∷ ys) (ms ++ ns)
unfolding Rises
rises_on P [] x ys ms ns a b =
    let whole : ms ≡ a.0 = a.2 ∙ (ap (λ z. a.0 ++ z) a.4 ∙ append-nil a.0) in
    let parts : ms ++ ns ≡ (a.0 ++ b.0) ++ b.1 =
    ap (λ z. z ++ ns) whole ∙ (ap (λ z. a.0 ++ z) b.2 ∙ sym (append_assoc a.0 b.0 b.1)) in
    (a.0 ++ b.0, b.1, parts, each-append (P x) a.0 b.0 a.3 b.3, b.4)
rises_on P (z ∷ xs) x ys ms ns a b =
    let parts : ms ++ ns ≡ a.0 ++ (a.1 ++ ns) = ap (λ t. t ++ ns) a.2 ∙ append_assoc a.0 a.1 ns in
    (a.0, a.1 ++ ns, parts, a.3, rises_on P xs x ys a.1 ns a.4 b)
