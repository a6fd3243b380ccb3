-- A pattern held against a text, character by character, up to its first star.
use Rattle.std.proofs.Common.{◌≡◌, ℕ, Bool, true, false, cond, ◌||◌, ◌&&◌, nat_eq, List, [], ◌∷◌, ◌++◌, refl, sym, ◌∙◌}
use Rattle.std.proofs.Common.{ap, append_assoc, length, ◌<◌, not, Some, None}
use Rattle.std.specs.declared.option.Option.{Option}
use Rattle.std.specs.Borrow.{Bor}
use Rattle.std.specs.Option.{MatchOption, is_some}
use Rattle.std.specs.List.{list_any}
use Rattle.std.specs.Str.{chars}
use Rattle.std.proofs.lemmas.Str.{chars-nil}
use Rattle.gob_plan.specs.Tests.{matches, endings, one_then}

-- a place after a star, or the answer
pub data Place : Type 0 where
  star : List ℕ → List ℕ → Place
  ended : Bool → Place

-- where the two are once the pattern has no character left before its star
abbrev pub along : List ℕ → List ℕ → Place
along [] [] = ended true
along [] (c ∷ cs) = ended false
along (p ∷ ps) [] = cond (nat_eq p 42) (star ps []) (ended false)
along (p ∷ ps) (c ∷ cs) = cond (nat_eq p 42) (star ps (c ∷ cs))
    (cond (nat_eq p 63 || nat_eq p c) (along ps cs) (ended false))

-- what the place says of the whole
abbrev pub answer : Place → Bool
answer (star ps cs) = matches (42 ∷ ps) cs
answer (ended b) = b

pub matches_along : (ps cs : List ℕ) → matches ps cs ≡ answer (along ps cs)
matches_along [] [] = refl
matches_along [] (c ∷ cs) = refl
matches_along (p ∷ ps) [] = elim (nat_eq p 42) as
    (λ b. cond b (list_any (λ left. matches ps left) (endings [])) false ≡
    answer (cond b (star ps []) (ended false))) [ true ↦ refl | false ↦ refl ]
matches_along (p ∷ ps) (c ∷ cs) =
    elim (nat_eq p 42) as
    (λ b. cond b (list_any (λ left. matches ps left) (endings (c ∷ cs)))
    ((nat_eq p 63 || nat_eq p c) && matches ps cs) ≡
    answer (cond b (star ps (c ∷ cs)) (cond (nat_eq p 63 || nat_eq p c) (along ps cs) (ended false)))) [
      | true ↦ refl
      | false ↦ elim (nat_eq p 63 || nat_eq p c) as
          (λ b. (b && matches ps cs) ≡
          answer (cond b (along ps cs) (ended false))) [ true ↦ matches_along ps cs | false ↦ refl ]
    ]

-- ---- from a star on

some_longer : (f : List ℕ → Bool) (front us : List ℕ) → list_any f (endings us) ≡ true →
    list_any f (endings (front ++ us)) ≡ true
some_longer f [] us is = is
some_longer f (c ∷ front) us is = or_right (f (c ∷ front ++ us)) _ (some_longer f front us is)
  where
    or_right : (a b : Bool) → b ≡ true → (a || b) ≡ true
    or_right true b is = refl
    or_right false b is = is

-- an ending for which it is so
some_ending : (f : List ℕ → Bool) (cs : List ℕ) → list_any f (endings cs) ≡ true →
    (us : List ℕ) × (front : List ℕ) × (cs ≡ front ++ us) × (f us ≡ true)
some_ending f [] is = ([], [], refl, one (f []) is)
  where
    one : (a : Bool) → (a || false) ≡ true → a ≡ true
    one true is = refl
    one false is = is
some_ending f (c ∷ cs) is = either (f (c ∷ cs)) refl (some_ending f cs) is
  where
    either : (a : Bool) → f (c ∷ cs) ≡ a →
        (list_any f (endings cs) ≡ true → (us : List ℕ) × (front : List ℕ) × (cs ≡ front ++ us) × (f us ≡ true)) →
        (a || list_any f (endings cs)) ≡ true → (us : List ℕ) × (front : List ℕ) × (c ∷ cs ≡ front ++ us)
        × (f us ≡ true)
    either true here more is = (c ∷ cs, [], refl, here)
    either false here more is = let later = more is in (later.0, c ∷ later.1, ap (λ l. c ∷ l) later.2, later.3)

first_ending : (f : List ℕ → Bool) (cs : List ℕ) → f cs ≡ true → list_any f (endings cs) ≡ true
first_ending f [] is = ap (λ b. b || false) is
first_ending f (c ∷ cs) is = ap (λ b. b || list_any f (endings cs)) is

at_star : (p : ℕ) (ps cs : List ℕ) → nat_eq p 42 ≡ true → along (p ∷ ps) cs ≡ star ps cs
at_star p ps [] is = ap (λ b. cond b (star ps []) (ended false)) is
at_star p ps (c ∷ cs) is =
    ap (λ b. cond b (star ps (c ∷ cs)) (cond (nat_eq p 63 || nat_eq p c) (along ps cs) (ended false))) is

-- a character that is no star goes past one character of the text
along_past : (p : ℕ) (ps cs qs ds : List ℕ) → nat_eq p 42 ≡ false → along (p ∷ ps) cs ≡ star qs ds →
    (c : ℕ) × (rest : List ℕ) × (cs ≡ c ∷ rest) × (along ps rest ≡ star qs ds)
along_past p ps [] qs ds apart is =
    let none : ended false ≡ star qs ds = sym (ap (λ b. cond b (star ps []) (ended false)) apart) ∙ is in cc
along_past p ps (c ∷ cs) qs ds apart is =
    either (nat_eq p 63 || nat_eq p c)
    (sym (ap (λ b. cond b (star ps (c ∷ cs)) (cond (nat_eq p 63 || nat_eq p c) (along ps cs) (ended false))) apart)
    ∙ is)
  where
    either : (b : Bool) → cond b (along ps cs) (ended false) ≡ star qs ds →
        (d : ℕ) × (rest : List ℕ) × (c ∷ cs ≡ d ∷ rest) × (along ps rest ≡ star qs ds)
    either true goes = (c, cs, refl, goes)
    either false goes = cc

matches_past : (p : ℕ) (ps us : List ℕ) → nat_eq p 42 ≡ false → matches (p ∷ ps) us ≡ true →
    (d : ℕ) × (left : List ℕ) × (us ≡ d ∷ left) × (matches ps left ≡ true)
matches_past p ps us apart is =
    past us (sym
    (ap (λ b. cond b (list_any (matches ps) (endings us))
    (one_then (λ c. nat_eq p 63 || nat_eq p c) (matches ps) us)) apart) ∙ is)
  where
    both : (a b : Bool) → (a && b) ≡ true → b ≡ true
    both true b is = is
    both false b is = cc

    past : (us : List ℕ) → one_then (λ c. nat_eq p 63 || nat_eq p c) (matches ps) us ≡ true →
        (d : ℕ) × (left : List ℕ) × (us ≡ d ∷ left) × (matches ps left ≡ true)
    past [] is = cc
    past (d ∷ left) is = (d, left, refl, both (nat_eq p 63 || nat_eq p d) (matches ps left) is)

-- an ending's rest is an ending of the rest
rests : (c : ℕ) (rest front : List ℕ) (d : ℕ) (left : List ℕ) → c ∷ rest ≡ front ++ d ∷ left →
    (f : List ℕ) × (rest ≡ f ++ left)
rests c rest [] d left fits = ([], cc)
rests c rest (x ∷ front) d left fits =
    (front ++ d ∷ [], (let e : rest ≡ front ++ d ∷ left = cc in e ∙ sym (append_assoc front (d ∷ []) left)))

-- where the pattern comes to a star at one place, the star reaches what it would reach from any later place
star_reaches : (ps cs front us qs ds : List ℕ) → cs ≡ front ++ us → along ps cs ≡ star qs ds → matches ps us ≡ true →
    matches (42 ∷ qs) ds ≡ true
star_reaches [] [] front us qs ds fits stars is = cc
star_reaches [] (c ∷ cs) front us qs ds fits stars is = cc
star_reaches (p ∷ ps) cs front us qs ds fits stars is =
    either (nat_eq p 42) refl (λ rest f u. star_reaches ps rest f u qs ds)
  where
    either : (b : Bool) → nat_eq p 42 ≡ b →
        ((rest f u : List ℕ) → rest ≡ f ++ u → along ps rest ≡ star qs ds → matches ps u ≡ true →
        matches (42 ∷ qs) ds ≡ true) → matches (42 ∷ qs) ds ≡ true
    either true e more =
        let here : list_any (matches ps) (endings us) ≡ true =
        sym (ap (λ b. cond b (list_any (matches ps) (endings us))
        (one_then (λ c. nat_eq p 63 || nat_eq p c) (matches ps) us)) e) ∙ is in
        let all : list_any (matches ps) (endings cs) ≡ true = ap (λ l. list_any (matches ps) (endings l)) fits
        ∙ some_longer (matches ps) front us here in
        let same : star ps cs ≡ star qs ds = sym (at_star p ps cs e) ∙ stars in
        ap answer (sym same) ∙ all
    either false e more =
        let past = along_past p ps cs qs ds e stars in
        let other = matches_past p ps us e is in
        let rest = rests past.0 past.1 front other.0 other.1 (sym past.2 ∙ fits ∙ ap (λ l. front ++ l) other.2) in
        more past.1 rest.0 other.1 rest.1 past.3 other.3

both_ways : (a b : Bool) → (a ≡ true → b ≡ true) → (b ≡ true → a ≡ true) → a ≡ b
both_ways true b there back = sym (there refl)
both_ways false true there back = back refl
both_ways false false there back = refl

-- ---- what the code needs

pub star_decides : (ps cs qs ds : List ℕ) → along ps cs ≡ star qs ds →
    (matches ps cs ≡ matches (42 ∷ qs) ds) × (matches (42 ∷ ps) cs ≡ matches (42 ∷ qs) ds)
star_decides ps cs qs ds stars =
    let whole : matches ps cs ≡ matches (42 ∷ qs) ds = matches_along ps cs ∙ ap answer stars in (
      whole,
      both_ways _ _
          (λ is. let some =
          some_ending (matches ps) cs is in star_reaches ps cs some.1 some.0 qs ds some.2 stars some.3)
          (λ is. first_ending (matches ps) cs (whole ∙ is)),
    )

pub end_decides : (ps cs : List ℕ) (b : Bool) → along ps cs ≡ ended b → matches ps cs ≡ b
end_decides ps cs b ends = matches_along ps cs ∙ ap answer ends

pub along_star : (P T : List ℕ) (p : ℕ) (ps : List ℕ) → P ≡ p ∷ ps → p ≡ 42 → along P T ≡ star ps T
along_star P T p ps is star_is = ap (λ l. along l T) is ∙ at_star p ps T (ap (λ n. nat_eq n 42) star_is)

pub along_stops : (P T : List ℕ) (p : ℕ) (ps : List ℕ) (c : ℕ) (cs : List ℕ) → P ≡ p ∷ ps → T ≡ c ∷ cs →
    nat_eq p 42 ≡ false → (nat_eq p 63 || nat_eq p c) ≡ false → along P T ≡ ended false
along_stops P T p ps c cs is js apart goes = ap (λ l. along l T) is ∙ ap (along (p ∷ ps)) js ∙ (rw apart (rw goes))

pub along_short : (P T : List ℕ) (p : ℕ) (ps : List ℕ) → P ≡ p ∷ ps → T ≡ [] → nat_eq p 42 ≡ false →
    along P T ≡ ended false
along_short P T p ps is js apart = ap (λ l. along l T) is ∙ ap (along (p ∷ ps)) js ∙ (rw apart)

-- an ending that isn't the whole is one of the rest
pub next_ending : (ps T : List ℕ) (c : ℕ) (cs : List ℕ) → T ≡ c ∷ cs → matches ps T ≡ false →
    matches (42 ∷ ps) T ≡ matches (42 ∷ ps) cs
next_ending ps T c cs is none = ap (matches (42 ∷ ps)) is
    ∙ ap (λ b. b || list_any (matches ps) (endings cs)) (sym (ap (matches ps) is) ∙ none)

pub no_ending : (ps T : List ℕ) → T ≡ [] → matches ps T ≡ false → matches (42 ∷ ps) T ≡ false
no_ending ps T is none = ap (matches (42 ∷ ps)) is ∙ ap (λ b. b || false) (sym (ap (matches ps) is) ∙ none)

pub whole_ending : (ps T : List ℕ) → matches ps T ≡ true → matches (42 ∷ ps) T ≡ true
whole_ending ps T is = first_ending (matches ps) T is

-- a text is over exactly where it has no first character
pub along_end : (P T : List ℕ) (next : Option (ℕ × Bor (List ℕ))) → P ≡ [] →
    MatchOption next (T ≡ []) (λ p. T ≡ p.0 ∷ chars p.1.now) → along P T ≡ ended (not (is_some next))
along_end P T None is js = ap (λ l. along l T) is ∙ ap (along []) js
along_end P T (Some p) is js = ap (λ l. along l T) is ∙ ap (along []) js

pub chars_left : (text : List ℕ) (next : Option (ℕ × Bor (List ℕ))) →
    MatchOption next (text ≡ []) (λ p. (chars text ≡ p.0 ∷ chars p.1.now) × (length p.1.now < length text)) →
    MatchOption next (chars text ≡ []) (λ p. chars text ≡ p.0 ∷ chars p.1.now)
chars_left text None is = ap chars is ∙ chars-nil
chars_left text (Some p) is = is.0

pub none_is : (some none : Bool) → some ≡ not none → not some ≡ none
none_is some true e = ap not e
none_is some false e = ap not e
