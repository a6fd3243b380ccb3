-- A text that begins with a front, and the exit of a `?`.
use Rattle.std.proofs.Common.{◌≡◌, ◌≢◌, ℕ, true, false, List, [], ◌∷◌, ◌++◌, length, take, drop, Result, Ok, Err, OnErr}
use Rattle.std.proofs.Common.{sym, ap, ◌∙◌, take-append-drop, Option, Some, None, MatchOption, Bor, ◌+◌, refl, arith}
use Rattle.std.specs.Str.{bytes_eq}
use Rattle.std.specs.Cmp.Lexicographic.{bytes_decides}
use Rattle.std.proofs.Math.Seq.{take-append_seam}
use Rattle.std.proofs.lemmas.Bool.{both_ways}

pub on_err : {T E : Type 0} (r : Result T E) (P : Type 0) → P → OnErr r P
on_err (Ok x) P p = tt
on_err (Err e) P p = p

pub begins : (text front : List ℕ) → bytes_eq (take (length front) text) front ≡ true →
    text ≡ front ++ drop (length front) text
begins text front same = sym (take-append-drop (length front) text)
    ∙ ap (λ x. x ++ drop (length front) text) ((bytes_decides _ front).0 same)

pub begins_not : (text front rest : List ℕ) → bytes_eq (take (length front) text) front ≡ false → text ≢ front ++ rest
begins_not text front rest differs whole =
    both_ways _ differs ((bytes_decides _ front).1 (ap (take (length front)) whole ∙ take-append_seam front rest))

pub strips : (text front : List ℕ) (r : Option (Bor (List ℕ))) →
    MatchOption r (bytes_eq (take (length front) text) front ≡ false)
    (λ x. (bytes_eq (take (length front) text) front ≡ true) × (x.now ≡ drop (length front) text)
    × (length x.now + length front ≡ length text)) →
    MatchOption r ((rest : List ℕ) → text ≢ front ++ rest) (λ x. text ≡ front ++ x.now)
strips text front None differs = λ rest. begins_not text front rest differs
strips text front (Some x) h = begins text front h.0 ∙ ap (λ rest. front ++ rest) (sym h.1)

pub empty_if : (xs : List ℕ) → length xs ≡ 0 → xs ≡ []
empty_if [] h = refl
empty_if (x ∷ xs) h = absurd (omega arith)
