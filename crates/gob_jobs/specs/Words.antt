-- How a value of a job file is cut: what is taken off its ends, the elements of a list, the words of an element.
use Rattle.std.specs.Prelude.{ℕ, ◌^◌, Bool, true, false, ◌&&◌, ◌||◌, not, nat_eq, nat_le, if◌then◌else◌, List, [], ◌∷◌}
use Rattle.std.specs.Prelude.{length, map, filter, codes}
use Rattle.std.specs.declared.option.Option.{Option}
use Rattle.std.specs.declared.option.Option.TheVariants.{None, Some}
use Rattle.std.specs.declared.result.Result.{Result}
use Rattle.std.specs.declared.result.Result.TheVariants.{Ok, Err}
use Rattle.std.specs.Option.{option_and_then}
use Rattle.std.specs.List.{list_any}
use Rattle.std.specs.Str.{bytes_eq, is_utf8}
use Rattle.percent_encoding.specs.Percent.{percent_decode}
use Rattle.gob_bytes.specs.Numbers.{number_read}
use Rattle.gob_meaning.specs.Steps.{piece_byte}

-- ---- one after the other

-- what follows a value; a fault stays
abbrev pub and_then : {A B E : Type 0} → (A → Result B E) → Result A E → Result B E
and_then f (Ok x) = f x
and_then f (Err e) = Err e

-- the value changed; a fault stays
abbrev pub value_map : {A B E : Type 0} → (A → B) → Result A E → Result B E
value_map f (Ok x) = Ok (f x)
value_map f (Err e) = Err e

-- the fault changed; a value stays
abbrev pub fault_map : {A E F : Type 0} → (E → F) → Result A E → Result A F
fault_map f (Ok x) = Ok x
fault_map f (Err e) = Err (f e)

-- what two values make, where both are there
abbrev pub both : {A B C : Type 0} → (A → B → C) → Option A → Option B → Option C
both f None y = None
both f (Some x) None = None
both f (Some x) (Some y) = Some (f x y)

-- the value, if it passes
abbrev pub only_if : {A : Type 0} → (A → Bool) → A → Option A
only_if passes x = if passes x then Some x else None

-- what each of them reads as, where each does
abbrev pub each_read : {A B : Type 0} → (A → Option B) → List A → Option (List B)
each_read f [] = Some []
each_read f (x ∷ xs) = both (λ y ys. y ∷ ys) (f x) (each_read f xs)

-- what each of them reads as, or the first fault
abbrev pub each_or_fault : {A B E : Type 0} → (A → Result B E) → List A → Result (List B) E
each_or_fault f [] = Ok []
each_or_fault f (x ∷ xs) = and_then (λ y. value_map (λ ys. y ∷ ys) (each_or_fault f xs)) (f x)

-- ---- blanks

-- a space or a tab
abbrev pub is_blank : ℕ → Bool
is_blank b = nat_eq b 32 || nat_eq b 9

-- a text without blanks in front
abbrev pub without_front : List ℕ → List ℕ
without_front [] = []
without_front (b ∷ bs) = if is_blank b then without_front bs else b ∷ bs

-- a byte before a text; a blank before nothing is nothing
abbrev pub before_text : ℕ → List ℕ → List ℕ
before_text b [] = if is_blank b then [] else b ∷ []
before_text b (c ∷ cs) = b ∷ c ∷ cs

-- a text without blanks at its end
abbrev pub without_end : List ℕ → List ℕ
without_end [] = []
without_end (b ∷ bs) = before_text b (without_end bs)

-- a text without blanks at either end
unfoldable pub without_blanks : List ℕ → List ℕ
without_blanks text = without_end (without_front text)

-- ---- elements and words

-- the pieces of a text between bytes that separate
unfoldable pub pieces : (ℕ → Bool) → List ℕ → List (List ℕ)
pieces separates [] = [] ∷ []
pieces separates (b ∷ bs) = piece_byte (separates b) b (pieces separates bs)

abbrev pub is_empty : {A : Type 0} → List A → Bool
is_empty [] = true
is_empty (x ∷ xs) = false

-- the elements of a list with this separator: an empty value has none, and no element may be empty
unfoldable pub elements : ℕ → List ℕ → Option (List (List ℕ))
elements separator [] = Some []
elements separator (b ∷ bs) = only_if (λ es. not (list_any is_empty es))
    (map without_blanks (pieces (nat_eq separator) (b ∷ bs)))

-- the elements, where they are at most so many
abbrev pub few_elements : ℕ → ℕ → List ℕ → Option (List (List ℕ))
few_elements most separator value = option_and_then (only_if (λ es. nat_le (length es) most)) (elements separator value)

-- the words of an element
unfoldable pub words_of : List ℕ → List (List ℕ)
words_of element = filter (λ word. not (is_empty word)) (pieces is_blank element)

-- ---- words

-- `""`, the word for the empty text
abbrev pub empty_word : List ℕ
empty_word = 34 ∷ 34 ∷ []

-- the text that a value word stands for; every word but `""` is decoded
unfoldable pub value_word : List ℕ → Option (List ℕ)
value_word word = if bytes_eq word empty_word then Some [] else only_if is_utf8 (percent_decode word)

-- a number from low to high
unfoldable pub number_within : ℕ → ℕ → List ℕ → Option ℕ
number_within low high text = option_and_then (only_if (λ n. nat_le low n && nat_le n high)) (number_read text)
