-- Names below a folder, and the paths that they stand for.
use Rattle.std.specs.Prelude.{◌≡◌, ◌≢◌, ◌⊎◌, ◌<◌, ℕ, Bool, true, false, ◌&&◌, not, nat_eq, nat_le, List, [], ◌∷◌, ◌++◌}
use Rattle.std.specs.Prelude.{length, codes, slice_index}
use Rattle.std.specs.List.{list_all, slice_split}
use Rattle.std.specs.Str.{bytes_eq}

abbrev pub has_no_nul : List ℕ → Bool
has_no_nul bytes = list_all (λ b. not (nat_eq b 0)) bytes

-- what may stand between two slashes: 1 to 255 bytes, none of them NUL, but not the folder itself or the one above it
unfoldable pub is_component : List ℕ → Bool
is_component part = nat_le 1 (length part) && not (bytes_eq part (codes ".")) && not (bytes_eq part (codes "..")) &&
    nat_le (length part) 255 && has_no_nul part

-- components with a slash between each two
unfoldable pub is_name : List ℕ → Bool
is_name name = list_all is_component (slice_split (λ b. nat_eq b 47) name)

abbrev pub HasNoSlash : List ℕ → Type 0
HasNoSlash text = (i : ℕ) → i < length text → slice_index text i ≢ 47

-- two texts with the last slash between them
abbrev pub IsSplitAt : List ℕ → List ℕ → List ℕ → Type 0
IsSplitAt text before behind = (text ≡ before ++ 47 ∷ behind) × HasNoSlash behind

-- the folder that a name lies in: what stands before its last slash, or the root, which has no name
abbrev pub IsFolderOf : List ℕ → List ℕ → Type 0
IsFolderOf name folder = ((rest : List ℕ) × IsSplitAt name folder rest) ⊎ (HasNoSlash name × (folder ≡ []))

-- names may begin so: there is no slash, or before the last one stands the name of a folder
abbrev pub IsFront : List ℕ → Type 0
IsFront front = HasNoSlash front ⊎ ((folder rest : List ℕ) × IsSplitAt front folder rest × (is_name folder ≡ true))

-- no name begins so: before the last slash stands what no folder is named
abbrev pub IsNoFront : List ℕ → Type 0
IsNoFront front = (folder rest : List ℕ) × IsSplitAt front folder rest × (is_name folder ≡ false)

-- a folder, or another text where it has no name
abbrev pub named_or : List ℕ → List ℕ → List ℕ
named_or other [] = other
named_or other (b ∷ bs) = b ∷ bs

-- the folder that a path lies in: that of the process where there is no slash, and the topmost where it stands first
abbrev pub IsParentOf : List ℕ → List ℕ → Type 0
IsParentOf path parent = ((folder rest : List ℕ) × IsSplitAt path folder rest × (parent ≡ named_or (codes "/") folder))
    ⊎ (HasNoSlash path × (parent ≡ codes "."))

-- a name in a folder; a folder without a name is the one that names begin at
abbrev pub below : List ℕ → List ℕ → List ℕ
below [] name = name
below (b ∷ bs) [] = b ∷ bs
below (b ∷ bs) (c ∷ cs) = (b ∷ bs) ++ 47 ∷ c ∷ cs
