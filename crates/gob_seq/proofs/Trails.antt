-- How facts on the maps of several calls are put together.
use Rattle.std.proofs.Common.{◌≡◌, inr, List, [], ◌∷◌, refl, sym, ap, subst, ◌∙◌, Some, None, IfSome}
use Rattle.std.proofs.Common.{option_map}
use Rattle.std.specs.declared.option.Option.{Option}
use Rattle.std.specs.declared.result.Result.{Result}
use Rattle.std.proofs.lemmas.List.{append-nil, append_cancel_left}
use Rattle.gob_device.specs.Disk.{Files, Disk, AddsMaps, Along, Both, Changes, EachOf, Rises, Went, Whole}
use Rattle.gob_device.specs.Disk.{after_change}
use Rattle.gob_device.proofs.Trail.{along_change, each-map}
use Rattle.gob_device.proofs.Trail.{maps_then, last-append}
use Rattle.gob_seq.specs.Maps.{EndsAs}

-- no call
pub maps_still : (Q : Files → List Files → Type 0) (o : Option Disk) → IfSome o (λ d. Q d.files []) → AddsMaps Q o o
maps_still Q None is = record { told = tt }
maps_still Q (Some d) is = record {
  told = record {
    added = [];
    trail = sym (append-nil d.trail);
    stands = refl;
    holds =
        is;
  };
}

-- what is known of the first map
pub maps_known : {P Q : Files → List Files → Type 0} {old new : Option Disk}
    → IfSome old (λ d. (xs : List Files) → P d.files xs → Q d.files xs) → AddsMaps P old new → AddsMaps Q old new
maps_known {P} {Q} {old} {new} weaker a = record { told = told old new weaker a.told }
  where
    told : (o n : Option Disk) → IfSome o (λ d. (xs : List Files) → P d.files xs → Q d.files xs)
        → Both (Went P) o n → Both (Went Q) o n
    told None None w t = t
    told None (Some e) w t = t
    told (Some d) None w t = t
    told (Some d) (Some e) w t = record {
      added = t.added;
      trail = t.trail;
      stands = t.stands;
      holds = w t.added t.holds;
    }

-- the maps that were added are those of the one fact and of the other
pub maps_both : {P Q : Files → List Files → Type 0} {old new : Option Disk}
    → AddsMaps P old new → AddsMaps Q old new → AddsMaps (λ m xs. P m xs × Q m xs) old new
maps_both {P} {Q} {old} {new} a b = record { told = told old new a.told b.told }
  where
    told : (o n : Option Disk) → Both (Went P) o n → Both (Went Q) o n → Both (Went (λ m xs. P m xs × Q m xs)) o n
    told None None v w = v
    told None (Some e) v w = v
    told (Some d) None v w = v
    told (Some d) (Some e) v w =
        let same : w.added ≡ v.added = append_cancel_left d.trail w.added v.added (sym w.trail ∙ v.trail) in
        record {
          added = v.added;
          trail = v.trail;
          stands = v.stands;
          holds = (v.holds, subst (Q d.files) same w.holds);
        }

-- what is known of the map that stood, of each map that was added
pub along_known : (R S : Files → Files → Type 0) {old new : Option Disk}
    → IfSome old (λ d. (n : Files) → R d.files n → S d.files n) → Along R old new → Along S old new
along_known R S {old} {new} weaker a = maps_known (each old weaker) a
  where
    each : (o : Option Disk) → IfSome o (λ d. (n : Files) → R d.files n → S d.files n)
        → IfSome o (λ d. (xs : List Files) → EachOf (R d.files) xs → EachOf (S d.files) xs)
    each None w = tt
    each (Some d) w = λ xs e. each-map (R d.files) (S d.files) xs w e

-- the map that stands after a call that was answered
pub changed_ends : (step : Files → Files) (old new : Option Disk) → new ≡ option_map (after_change step) old
    → AddsMaps (EndsAs step) old new
changed_ends step old new is = subst (AddsMaps (EndsAs step) old) (sym is) (told old)
  where
    told : (o : Option Disk) → AddsMaps (EndsAs step) o (option_map (after_change step) o)
    told None = record { told = tt }
    told (Some d) = record { told = record { added = step d.files ∷ []; trail = refl; stands = refl; holds = refl } }

-- one map after another
pub ends_then : (f g : Files → Files) {old between new : Option Disk} → AddsMaps (EndsAs f) old between
    → AddsMaps (EndsAs g) between new → AddsMaps (EndsAs (λ m. g (f m))) old new
ends_then f g a b = maps_then (λ m xs ys p q. last-append m xs ys ∙ (q ∙ ap g p)) a b

pub along_whole : {T E : Type 0} {step : Files → Files} {old new : Option Disk} {result : Result T E}
    → Changes step (Whole step) old new result → Along (Whole step) old new
along_whole {T} {E} {step} c = along_change (Whole step) (λ m. inr refl) (λ m n w. w) c

-- what becomes of the first map, where both devices tell
pub at_told : (P : Files → List Files → Type 0) (old new : Option Disk) → AddsMaps P old new
    → IfSome old (λ d. (xs : List Files) × P d.files xs)
at_told P None new a = tt
at_told P (Some d) None a = absurd a.told
at_told P (Some d) (Some e) a = (a.told.added, a.told.holds)

-- stretches of which less is said
pub rises_map : {X : Type 0} (P Q : X → Files → Type 0) (xs : List X) (ms : List Files)
    → ((x : X) (m : Files) → P x m → Q x m) → Rises P xs ms → Rises Q xs ms
unfolding Rises
rises_map P Q [] ms weaker r = r
rises_map P Q (x ∷ xs) ms weaker r =
    (r.0, r.1, r.2, each-map (P x) (Q x) r.0 (weaker x) r.3, rises_map P Q xs r.1 weaker r.4)
