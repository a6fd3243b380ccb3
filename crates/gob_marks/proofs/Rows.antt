-- What holds of every table stays so.
use Rattle.std.proofs.Common.{◌≡◌, ⊎_elim, ℕ, zero, suc, ◌-◌, ◌<◌, List, [], ◌∷◌, ◌++◌, length, get_or, refl, sym, ap}
use Rattle.std.proofs.Common.{subst, ◌∙◌, Some, None, unwrap_or, arith}
use Rattle.std.specs.declared.option.Option.{Option}
use Rattle.std.specs.List.{Contains, insert}
use Rattle.std.proofs.Math.ListN.{set}
use Rattle.std.specs.Str.{bytes_eq}
use Rattle.std.specs.declared.cmp.Ordering.TheVariants.{Less, Greater}
use Rattle.std.specs.Ordering.{ordering_reverse}
use Rattle.std.specs.Cmp.Lexicographic.{nat_list_cmp_total}
use Rattle.gob_bytes.specs.Tables.{Table, name_cmp, at_name, with_name, names_of, IsInByteOrder}
use Rattle.gob_bytes.proofs.Tables.{at-with_name, rising-with_name, at_from_member, less_then, rising_tail}
use Rattle.gob_ledger.specs.Marks.{Marks, Tiled}
use Rattle.gob_ledger.specs.Next.{no_marks}
use Rattle.gob_ledger.proofs.Changes.{chosen}
use Rattle.gob_ledger.proofs.Ranges.{tiled_none}
use Rattle.gob_ledger.specs.Next.{with_owed}
use Rattle.gob_ledger.proofs.Ranges.{tiled_owed}
use Rattle.gob_memory.specs.Places.{StandsAt, GoesAt}
use Rattle.gob_memory.proofs.Places.{at-changed, with-changed, with-added, less_greater}
use Rattle.gob_marks.specs.Changed.{marks_in, change_marks, next_span, with_new_done}
use Rattle.gob_marks.specs.Tables.{TiledTable}
use Rattle.gob_marks.proofs.Tiles.{tiled_new_done}

pub tiled_nothing : TiledTable []
tiled_nothing = record { names = tt; tiled = λ part m is. cc }

-- one partition's marks put in
pub tiled_with : (t : Table Marks) (part : List ℕ) (m : Marks) → TiledTable t → Tiled m
    → TiledTable (with_name t part m)
tiled_with t part m table tiled = record {
  names = rising-with_name t part m table.names;
  tiled = λ q n is. ⊎_elim (λ p. subst Tiled p.1 tiled) (λ p. table.tiled q n p.1)
      (chosen (bytes_eq q part) m n (at_name t q) (sym (at-with_name t part m q) ∙ is));
}

pub tiled_in : (t : Table Marks) (part : List ℕ) → TiledTable t → Tiled (marks_in t part)
tiled_in t part table = cases (at_name t part) refl
  where
    cases : (o : Option Marks) → at_name t part ≡ o → Tiled (unwrap_or o no_marks)
    cases None is = tiled_none
    cases (Some m) is = table.tiled part m is

pub marks_in-at : (t : Table Marks) (part : List ℕ) (m : Marks) → at_name t part ≡ Some m → marks_in t part ≡ m
marks_in-at t part m is = ap (λ o. unwrap_or o no_marks) is

pub marks_in-none : (t : Table Marks) (part : List ℕ) → at_name t part ≡ None → marks_in t part ≡ no_marks
marks_in-none t part is = ap (λ o. unwrap_or o no_marks) is

-- every entry's marks are tiled
pub tiled_entry : (t : Table Marks) (e : List ℕ × Marks) → TiledTable t → Contains t e → Tiled e.1
tiled_entry t e table there = table.tiled e.0 e.1 (at_from_member t e.0 e.1 table.names there)

-- ---- a name behind all others

first_below : (low : List ℕ) (names : List (List ℕ)) (name : List ℕ) → IsInByteOrder (low ∷ (names ++ name ∷ []))
    → name_cmp low name ≡ Less
first_below low [] name rising = rising.0
first_below low (x ∷ xs) name rising = less_then low x name rising.0 (first_below x xs name rising.1)

pub with-last : {X : Type 0} (t : Table X) (name : List ℕ) (x : X) → IsInByteOrder (names_of t ++ name ∷ [])
    → with_name t name x ≡ t ++ (name, x) ∷ []
with-last [] name x rising = refl
with-last {X} (e ∷ es) name x rising =
    let over : name_cmp name e.0 ≡ Greater = less_greater e.0 name (first_below e.0 (names_of es) name rising) in
    rw over (ap (λ (fs : Table X). e ∷ fs) (with-last es name x (rising_tail e.0 (names_of es ++ name ∷ []) rising)))

above_last : (x : List ℕ) (xs : List (List ℕ)) (d name : List ℕ) → IsInByteOrder (x ∷ xs)
    → name_cmp (get_or (x ∷ xs) (length xs) d) name ≡ Less → IsInByteOrder (x ∷ (xs ++ name ∷ []))
above_last x [] d name rising above = (above, tt)
above_last x (y ∷ ys) d name rising above = (rising.0, above_last y ys d name rising.1 above)

last_below : (x : List ℕ) (xs : List (List ℕ)) (d name : List ℕ) → IsInByteOrder (x ∷ (xs ++ name ∷ []))
    → name_cmp (get_or (x ∷ xs) (length xs) d) name ≡ Less
last_below x [] d name rising = rising.0
last_below x (y ∷ ys) d name rising = last_below y ys d name rising.1

names-get : {X : Type 0} (t : Table X) (k : ℕ) (e : List ℕ × X) → get_or (names_of t) k e.0 ≡ (get_or t k e).0
names-get [] k e = refl
names-get (f ∷ fs) zero e = refl
names-get (f ∷ fs) (suc k) e = names-get fs k e

names-length : {X : Type 0} (t : Table X) → length (names_of t) ≡ length t
names-length [] = refl
names-length (e ∷ es) = ap suc (names-length es)

-- a name is above all where it is above the last one
pub last_decides : {X : Type 0} (t : Table X) (k : ℕ) (e : List ℕ × X) (name : List ℕ) → IsInByteOrder (names_of t)
    → length t ≡ suc k → e ≡ get_or t k e
    → (name_cmp e.0 name ≡ Less → IsInByteOrder (names_of t ++ name ∷ [])) ×
    (IsInByteOrder (names_of t ++ name ∷ []) → name_cmp e.0 name ≡ Less)
last_decides [] k e name rising count is = absurd (omega (arith, count))
last_decides {X} (f ∷ fs) k e name rising count is =
    let place : length (names_of fs) ≡ k = omega (arith, count, names-length fs) in
    let named : get_or (f.0 ∷ names_of fs) (length (names_of fs)) e.0 ≡ e.0 =
    ap (λ n. get_or (f.0 ∷ names_of fs) n e.0) place ∙ names-get (f ∷ fs) k e
    ∙ sym (ap (λ (g : List ℕ × X). g.0) is) in (
      λ less. above_last f.0 (names_of fs) e.0 name rising (subst (λ n. name_cmp n name ≡ Less) (sym named) less),
      λ all. subst (λ n. name_cmp n name ≡ Less) named (last_below f.0 (names_of fs) e.0 name all),
    )

-- ---- an entry that is found by its name, and changed

pub record Found (t : Table Marks) (part : List ℕ) (i : ℕ) (e : List ℕ × Marks) : Type 0 where
  pub table : TiledTable t
  pub stands : StandsAt t part i
  pub read : e ≡ get_or t i e

pub found-marks : (t : Table Marks) (part : List ℕ) (i : ℕ) (e : List ℕ × Marks) → Found t part i e
    → marks_in t part ≡ e.1
found-marks t part i e f = marks_in-at t part e.1 (at-changed t part i e f.table.names f.stands f.read)

pub found-at : (t : Table Marks) (part : List ℕ) (i : ℕ) (e : List ℕ × Marks) → Found t part i e
    → at_name t part ≡ Some e.1
found-at t part i e f = at-changed t part i e f.table.names f.stands f.read

pub found-tiled : (t : Table Marks) (part : List ℕ) (i : ℕ) (e : List ℕ × Marks) → Found t part i e → Tiled e.1
found-tiled t part i e f = f.table.tiled part e.1 (found-at t part i e f)

pub found-set : (t : Table Marks) (part : List ℕ) (i : ℕ) (e : List ℕ × Marks) (x : Marks) → Found t part i e
    → set t i (e.0, x) ≡ with_name t part x
found-set t part i e x f = with-changed t part i e x f.stands f.read

pub set_tiled : (t : Table Marks) (part : List ℕ) (i : ℕ) (e : List ℕ × Marks) (x : Marks) → Found t part i e
    → Tiled x → TiledTable (set t i (e.0, x))
set_tiled t part i e x f tiled = subst TiledTable (sym (found-set t part i e x f)) (tiled_with t part x f.table tiled)

pub set-changed : (g : Marks → Marks) (t : Table Marks) (part : List ℕ) (i : ℕ) (e : List ℕ × Marks) (x : Marks)
    → Found t part i e → x ≡ g e.1 → set t i (e.0, x) ≡ change_marks g part t
set-changed g t part i e x f is =
    found-set t part i e x f ∙ ap (with_name t part) (is ∙ ap g (sym (found-marks t part i e f)))

pub set_open : (t : Table Marks) (part : List ℕ) (i : ℕ) (e : List ℕ × Marks) (x : Marks) (hi : ℕ) → Found t part i e
    → e.1.next < hi → x ≡ with_owed (next_span e.1 hi) e.1 → TiledTable (set t i (e.0, x))
set_open t part i e x hi f some is =
    set_tiled t part i e x f (subst Tiled (sym is)
    (tiled_owed e.1 (next_span e.1 hi) (found-tiled t part i e f) refl some))

pub set_new_done : (t : Table Marks) (part : List ℕ) (i : ℕ) (e : List ℕ × Marks) (x : Marks) (pipeline hi : ℕ)
    → Found t part i e → e.1.next < hi → x ≡ with_new_done pipeline (next_span e.1 hi) e.1
    → TiledTable (set t i (e.0, x))
set_new_done t part i e x pipeline hi f some is =
    set_tiled t part i e x f (subst Tiled (sym is) (tiled_new_done e.1 pipeline hi (found-tiled t part i e f) some))

-- ---- or that isn't there, and put in

pub record Missing (t : Table Marks) (part : List ℕ) (i : ℕ) : Type 0 where
  pub table : TiledTable t
  pub goes : GoesAt t part i

pub missing-marks : (t : Table Marks) (part : List ℕ) (i : ℕ) → Missing t part i → marks_in t part ≡ no_marks
missing-marks t part i m = marks_in-none t part m.goes.absent

pub missing-insert : (t : Table Marks) (part other : List ℕ) (i : ℕ) (x : Marks) → Missing t part i → other ≡ part
    → insert t i (other, x) ≡ with_name t part x
missing-insert t part other i x m same = with-added t part other x i m.goes same

pub insert_tiled : (t : Table Marks) (part other : List ℕ) (i : ℕ) (x : Marks) → Missing t part i → other ≡ part
    → Tiled x → TiledTable (insert t i (other, x))
insert_tiled t part other i x m same tiled =
    subst TiledTable (sym (missing-insert t part other i x m same)) (tiled_with t part x m.table tiled)

pub insert-changed : (g : Marks → Marks) (t : Table Marks) (part other : List ℕ) (i : ℕ) (x : Marks)
    → Missing t part i → other ≡ part → x ≡ g no_marks → insert t i (other, x) ≡ change_marks g part t
insert-changed g t part other i x m same is =
    missing-insert t part other i x m same ∙ ap (with_name t part) (is ∙ ap g (sym (missing-marks t part i m)))

-- a partition that is new has one range
pub first_open : (x m : Marks) (hi : ℕ) → m ≡ no_marks → 0 < hi → x ≡ with_owed (next_span m hi) m → Tiled x
first_open x m hi none some is =
    subst Tiled (sym (is ∙ ap (λ n. with_owed (next_span n hi) n) none))
    (tiled_owed no_marks (next_span no_marks hi) tiled_none refl some)

pub first_done : (x m : Marks) (pipeline hi : ℕ) → m ≡ no_marks → 0 < hi
    → x ≡ with_new_done pipeline (next_span m hi) m → Tiled x
first_done x m pipeline hi none some is =
    subst Tiled (sym (is ∙ ap (λ n. with_new_done pipeline (next_span n hi) n) none))
    (tiled_new_done no_marks pipeline hi tiled_none some)

-- a name behind all others
pub push_tiled : (t : Table Marks) (part : List ℕ) (x : Marks) → TiledTable t
    → IsInByteOrder (names_of t ++ part ∷ []) → Tiled x → TiledTable (t ++ (part, x) ∷ [])
push_tiled t part x table rising tiled = subst TiledTable (with-last t part x rising) (tiled_with t part x table tiled)

pub some_row : {X : Type 0} (t : Table X) → (t ≡ [] → ⊥) → length t ≡ suc (length t - 1)
some_row [] some = absurd (some refl)
some_row (e ∷ es) some = omega arith
