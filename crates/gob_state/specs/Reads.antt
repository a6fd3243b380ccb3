-- What a reader takes off the front of a text.
use Rattle.std.specs.Prelude.{◌≡◌, ℕ, ◌<◌, ◌^◌, List, [], ◌∷◌, ◌++◌, IfSome}
use Rattle.std.specs.declared.option.Option.{Option}
use Rattle.std.specs.declared.option.Option.TheVariants.{Some}
use Rattle.std.specs.Fmt.{decimal}

-- What was taken fits and stood at the front of the text, spelled so.
-- What fits and is spelled so, where the text goes on as it may, is taken.
pub record ReadsSpelling {X : Type 0} (spelling : X → List ℕ) (Fits : X → Type 0) (GoesOn : List ℕ → Type 0)
    (old new : List ℕ) (taken : Option X) : Type 0 where
  pub spelled : IfSome taken (λ x. Fits x × (old ≡ spelling x ++ new))
  pub read : (x : X) (after : List ℕ) → Fits x → GoesOn after → old ≡ spelling x ++ after
      → (taken ≡ Some x) × (new ≡ after)

-- a number behind a space
abbrev pub spaced_number : ℕ → List ℕ
spaced_number n = 32 ∷ decimal n

-- the last number of a line
abbrev pub spaced_last : ℕ → List ℕ
spaced_last n = spaced_number n ++ 10 ∷ []

-- the last two numbers of a line
abbrev pub spaced_pair : ℕ × ℕ → List ℕ
spaced_pair p = spaced_number p.0 ++ spaced_last p.1

abbrev pub SmallPair : ℕ × ℕ → Type 0
SmallPair p = (p.0 < 2 ^ 64) × (p.1 < 2 ^ 64)

abbrev pub spaced_triple : ℕ × ℕ × ℕ → List ℕ
spaced_triple t = spaced_number t.0 ++ spaced_pair (t.1, t.2)

abbrev pub SmallTriple : ℕ × ℕ × ℕ → Type 0
SmallTriple t = (t.0 < 2 ^ 64) × SmallPair (t.1, t.2)

abbrev pub spaced_four : ℕ × ℕ × ℕ × ℕ → List ℕ
spaced_four t = spaced_number t.0 ++ spaced_triple (t.1, t.2, t.3)

abbrev pub SmallFour : ℕ × ℕ × ℕ × ℕ → Type 0
SmallFour t = (t.0 < 2 ^ 64) × SmallTriple (t.1, t.2, t.3)
