-- Values by name, in byte order of names: what a source holds, and what is known of each partition.
use Rattle.std.specs.Prelude.{◌≡◌, ℕ, cond, List, [], ◌∷◌, map}
use Rattle.std.specs.declared.option.Option.{Option}
use Rattle.std.specs.declared.option.Option.TheVariants.{None, Some}
use Rattle.std.specs.declared.cmp.Ordering.{Ordering}
use Rattle.std.specs.declared.cmp.Ordering.TheVariants.{Less, Equal, Greater}
use Rattle.std.specs.Ordering.{nat_cmp}
use Rattle.std.specs.Cmp.Lexicographic.{slice_cmp}
use Rattle.std.specs.Str.{bytes_eq}

abbrev pub Table : Type 0 → Type 0
Table X = List (List ℕ × X)

-- texts in byte order
abbrev pub name_cmp : List ℕ → List ℕ → Ordering
name_cmp x y = slice_cmp nat_cmp x y

-- the value at a name
abbrev pub at_name : {X : Type 0} → Table X → List ℕ → Option X
at_name [] name = None
at_name (e ∷ es) name = cond (bytes_eq name e.0) (Some e.1) (at_name es name)

-- the table with this value at the name, in place of what was there
abbrev pub with_name : {X : Type 0} → Table X → List ℕ → X → Table X
with_name {X} [] name x = (name, x) ∷ []
with_name {X} (e ∷ es) name x = placed (name_cmp name e.0) (with_name es name x)
  where
    placed : Ordering → Table X → Table X
    placed Less later = (name, x) ∷ e ∷ es
    placed Equal later = (name, x) ∷ es
    placed Greater later = e ∷ later

abbrev pub names_of : {X : Type 0} → Table X → List (List ℕ)
names_of es = map (λ e. e.0) es

-- names in byte order, each once
abbrev pub IsInByteOrder : List (List ℕ) → Type 0
IsInByteOrder [] = Unit {0}
IsInByteOrder (x ∷ []) = Unit {0}
IsInByteOrder (x ∷ y ∷ ys) = (name_cmp x y ≡ Less) × IsInByteOrder (y ∷ ys)
