-- A table after a change, as a map.
use Rattle.std.proofs.Common.{◌≡◌, ◌≢◌, ℕ, Bool, true, false, cond, List, [], ◌∷◌, map, get_or, refl, sym, ap, subst}
use Rattle.std.proofs.Common.{◌∙◌, Some, None, IsSome, option_map}
use Rattle.std.proofs.Math.ListN.{set}
use Rattle.std.specs.declared.option.Option.{Option}
use Rattle.std.specs.Str.{bytes_eq}
use Rattle.gob_bytes.specs.Tables.{Table, IsInByteOrder, at_name, names_of, with_name}
use Rattle.gob_bytes.proofs.Tables.{at-with_name, name_itself, rising-with_name, two_names}
use Rattle.gob_device.specs.Disk.{File, Files, after_rename, put}
use Rattle.gob_memory.specs.Places.{StandsAt, without_name}
use Rattle.gob_memory.proofs.Places.{at-changed, at-without, with-changed}
use Rattle.gob_volume.specs.Crashes.{after_crash, image_of}

pub map-with : (t : Table File) (name : List ℕ) (file : File)
    → at_name (with_name t name file) ≡ put (at_name t) name (Some file)
map-with t name file = λ i q. at-with_name t name file q i

pub map-without : (t : Table File) (name : List ℕ) → IsInByteOrder (names_of t)
    → at_name (without_name t name) ≡ put (at_name t) name None
map-without t name rising = λ i q. at-without t name q rising i

-- a file that was changed in its place
pub map-changed : (change : File → File) {t : Table File} {name : List ℕ} {place : ℕ} {before : List ℕ × File}
    {left : File} → IsInByteOrder (names_of t) → StandsAt t name place → before ≡ get_or t place before
    → left ≡ change before.1
    → at_name (set t place (before.0, left)) ≡ put (at_name t) name (option_map change (at_name t name))
map-changed change {t} {name} {place} {before} {left} rising stands read is =
    let there : at_name t name ≡ Some before.1 = at-changed t name place before rising stands read in
    ap at_name (with-changed t name place before left stands read)
    ∙ map-with t name left
    ∙ ap (put (at_name t) name) (ap Some is ∙ sym (ap (option_map change) there))

pub rising-changed : (left : File) {t : Table File} {name : List ℕ} {place : ℕ} {before : List ℕ × File}
    → IsInByteOrder (names_of t) → StandsAt t name place → before ≡ get_or t place before
    → IsInByteOrder (names_of (set t place (before.0, left)))
rising-changed left {t} {name} {place} {before} rising stands read = subst (λ u. IsInByteOrder (names_of u))
    (sym (with-changed t name place before left stands read)) (rising-with_name t name left rising)

-- ---- a file that gets another name

pub put_there : (m : Files) (name : List ℕ) (file : Option File) → put m name file name ≡ file
put_there m name file = ap (λ b. cond b file (m name)) (name_itself name)

pub put_elsewhere : (m : Files) (name other : List ℕ) (file : Option File) → other ≢ name
    → put m name file other ≡ m other
put_elsewhere m name other file apart = ap (λ b. cond b file (m other)) (two_names other name apart)

cond_shadowed : {A : Type 0} (b c : Bool) (x y z w : A) → cond b x (cond c y (cond b z w)) ≡ cond b x (cond c y w)
cond_shadowed true c x y z w = refl
cond_shadowed false c x y z w = refl

pub renamed : (m : Files) (source target : List ℕ) (some file : Option File) → m source ≡ file
    → put (put (put m target some) source None) target file ≡ after_rename source target m
unfolding after_rename
renamed m source target some file is = λ i q. (
    cond_shadowed (bytes_eq q target) (bytes_eq q source) file None some (m q)
    ∙ ap (λ f. cond (bytes_eq q target) f (cond (bytes_eq q source) None (m q))) (sym is)) i

-- ---- every file changed alike

at-map : (change : File → File) (t : Table File) (q : List ℕ)
    → at_name (map (λ e. (e.0, change e.1)) t) q ≡ option_map change (at_name t q)
at-map change [] q = refl
at-map change (e ∷ es) q = cases (bytes_eq q e.0) (at-map change es q)
  where
    cases : (b : Bool) → at_name (map (λ f. (f.0, change f.1)) es) q ≡ option_map change (at_name es q)
        → cond b (Some (change e.1)) (at_name (map (λ f. (f.0, change f.1)) es) q) ≡ option_map change
        (cond b (Some e.1) (at_name es q))
    cases true later = refl
    cases false later = later

pub names-map : (change : File → File) (t : Table File) → names_of (map (λ e. (e.0, change e.1)) t) ≡ names_of t
names-map change [] = refl
names-map change (e ∷ es) = ap (λ names. e.0 ∷ names) (names-map change es)

pub map-crash : (tail : List ℕ) (t : Table File) → at_name (map (λ e. (e.0, image_of tail e.1)) t) ≡ after_crash tail
    (at_name t)
unfolding after_crash
map-crash tail t = λ i q. at-map (image_of tail) t q i
