-- What is taken off the front of a text, word by word.
use Rattle.std.specs.Prelude.{◌≡◌, ℕ, ◌<◌, Bool, true, false, ◌||◌, not, nat_eq, List, [], ◌∷◌, ◌++◌, length, IfSome}
use Rattle.std.specs.Prelude.{IfNone, IsUtf8}
use Rattle.std.specs.declared.option.Option.{Option}
use Rattle.std.specs.declared.option.Option.TheVariants.{Some}
use Rattle.std.specs.List.{list_all}

-- a space or a line feed
abbrev pub is_break : ℕ → Bool
is_break b = nat_eq b 32 || nat_eq b 10

-- nothing follows, or a space or a line feed
abbrev pub ends_word : List ℕ → Bool
ends_word [] = true
ends_word (b ∷ bs) = is_break b

-- a word ends where this text follows it
abbrev pub EndsWord : List ℕ → Type 0
EndsWord rest = ends_word rest ≡ true

-- no space and no line feed
abbrev pub HasNoBreak : List ℕ → Type 0
HasNoBreak bytes = list_all (λ b. not (is_break b)) bytes ≡ true

-- one or more bytes, none of which is a space or a line feed
abbrev pub IsWord : List ℕ → Type 0
IsWord word = (0 < length word) × HasNoBreak word

-- no line feed
abbrev pub IsLine : List ℕ → Type 0
IsLine line = list_all (λ b. not (nat_eq b 10)) line ≡ true

-- a name that stands in a text: it has bytes, and they are UTF-8
abbrev pub IsName : List ℕ → Type 0
IsName name = (0 < length name) × IsUtf8 name

-- a line may go on with anything
abbrev pub GoesOnAtAll : List ℕ → Type 0
GoesOnAtAll rest = Unit {0}

-- Whatever was taken off the front fits and was spelled so, and the text goes on as it may.
-- Whatever fits and is spelled so, where the text goes on as it may, is taken.
-- Where nothing is taken nothing changes.
pub record Takes {X : Type 0} (spelling : X → List ℕ) (Fits : X → Type 0) (GoesOn : List ℕ → Type 0) (old new : List ℕ)
    (taken : Option X) : Type 0 where
  pub spelled : IfSome taken (λ x. Fits x × GoesOn new × (old ≡ spelling x ++ new))
  pub read : (x : X) (after : List ℕ) → Fits x → GoesOn after → old ≡ spelling x ++ after →
      (taken ≡ Some x) × (new ≡ after)
  pub unchanged : IfNone taken (new ≡ old)

-- The text was taken off the front, exactly where it stood there; else nothing changes.
pub record TakesText (text old new : List ℕ) (taken : Bool) : Type 0 where
  pub spelled : taken ≡ true → old ≡ text ++ new
  pub read : (after : List ℕ) → old ≡ text ++ after → (taken ≡ true) × (new ≡ after)
  pub unchanged : taken ≡ false → new ≡ old
