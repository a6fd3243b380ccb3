-- The first natural line of a text.
use Rattle.std.proofs.Common.{◌≡◌, ℕ, ◌<◌, true, false, cond, ◌&&◌, nat_eq, List, [], ◌∷◌, ◌++◌, length, take}
use Rattle.std.proofs.Common.{drop, refl, sym, ap, ◌∙◌, arith, append_assoc, append-nil, subst, take-append-drop}
use Rattle.std.proofs.Common.{length-append, Bool, ◌||◌}
use Rattle.std.specs.Char.{char_set_contains}
use Rattle.std.specs.Str.{IsUtf8, IsCharBoundary, NoCharPasses, NonePass, chars}
use Rattle.std.specs.Str.Pattern.{HasPassingCharAt}
use Rattle.std.proofs.lemmas.Bool.Decides.{nat_tests}
use Rattle.std.proofs.lemmas.Bool.{cond-true, cond-false, and_left, or_parts}
use Rattle.std.proofs.lemmas.Str.{IsUtf8-take, IsUtf8-drop, chars_from_encodes, chars-append, chars_past_char}
use Rattle.std.proofs.lemmas.Str.{length-encode, len_utf8_bounds}
use lib.Utf8.{encode}
use Rattle.gob_props.specs.Properties.{is_line_end, natural_from, natural_lines}
use Rattle.gob_props.specs.Steps.{behind_line_end}

pub pair_no : (c d : ℕ) → is_line_end c ≡ false → (nat_eq c 13 && nat_eq d 10) ≡ false
pair_no c d h = and_left (nat_eq c 13) (nat_eq d 10) ((or_parts (nat_eq c 10) (nat_eq c 13) h).1)

pub natural_step : (c d : ℕ) (cs begun : List ℕ) → is_line_end c ≡ false →
    natural_from begun (c ∷ d ∷ cs) ≡ natural_from (begun ++ c ∷ []) (d ∷ cs)
unfolding natural_from
natural_step c d cs begun no' = cond-false _ _ _ (pair_no c d no') ∙ cond-false _ _ _ no'

-- a line that ends
pub natural_cut : (front : List ℕ) (c : ℕ) (rest begun : List ℕ) → NonePass is_line_end front → is_line_end c ≡ true →
    natural_from begun (front ++ c ∷ rest) ≡ (begun ++ front) ∷ natural_from [] (behind_line_end (c ∷ rest))
unfolding natural_from
natural_cut [] c [] begun none here = cond-true _ _ _ here ∙ ap (λ x. x ∷ [] ∷ []) (sym (append-nil begun))
natural_cut [] c (d ∷ rest) begun none here =
    elim (nat_eq c 13 && nat_eq d 10) as
    (λ v. cond v (begun ∷ natural_from [] rest)
    (cond (is_line_end c) (begun ∷ natural_from [] (d ∷ rest)) (natural_from (begun ++ c ∷ []) (d ∷ rest))) ≡
    (begun ++ []) ∷ natural_from [] (cond v rest (d ∷ rest))) [
      | true ↦ ap (λ x. x ∷ natural_from [] rest) (sym (append-nil begun))
      | false ↦ cond-true _ _ _ here ∙ ap (λ x. x ∷ natural_from [] (d ∷ rest)) (sym (append-nil begun))
    ]
natural_cut (f ∷ []) c rest begun none here =
    natural_step f c rest begun none.0
    ∙ natural_cut [] c rest (begun ++ f ∷ []) tt here
    ∙ ap (λ x. x ∷ natural_from [] (behind_line_end (c ∷ rest))) (append-nil (begun ++ f ∷ []))
natural_cut (f ∷ g ∷ front) c rest begun none here =
    natural_step f g (front ++ c ∷ rest) begun none.0
    ∙ natural_cut (g ∷ front) c rest (begun ++ f ∷ []) none.1 here
    ∙ ap (λ x. x ∷ natural_from [] (behind_line_end (c ∷ rest))) (append_assoc begun (f ∷ []) (g ∷ front))

pub natural_whole : (text begun : List ℕ) → NonePass is_line_end text → natural_from begun text ≡ (begun ++ text) ∷ []
unfolding natural_from
natural_whole [] begun none = ap (λ x. x ∷ []) (sym (append-nil begun))
natural_whole (c ∷ []) begun none = cond-false _ _ _ none.0
natural_whole (c ∷ d ∷ cs) begun none =
    natural_step c d cs begun none.0
    ∙ natural_whole (d ∷ cs) (begun ++ c ∷ []) none.1
    ∙ ap (λ x. x ∷ []) (append_assoc begun (c ∷ []) (d ∷ cs))

-- ---- by the bytes of the text

-- the two line ends
pub are_line_ends : (c : ℕ) → char_set_contains (10 ∷ 13 ∷ []) c ≡ is_line_end c
are_line_ends c = last _ _ ∙ ap (λ b. b || nat_eq 13 c) (turned 10 c) ∙ ap (λ b. nat_eq c 10 || b) (turned 13 c)
  where
    last : (p q : Bool) → (p || (q || false)) ≡ (p || q)
    last true q = refl
    last false true = refl
    last false false = refl

    turned : (a b : ℕ) → nat_eq a b ≡ nat_eq b a
    turned a b = grind (arith, nat_tests)

-- the text is cut at its first line end
pub cut_at : (text line rest after : List ℕ) (i j : ℕ) → IsUtf8 text → IsCharBoundary text i →
    NoCharPasses is_line_end (take i text) → HasPassingCharAt is_line_end text i j →
    line ≡ take i text → rest ≡ drop i text → chars after ≡ behind_line_end (chars rest) →
    natural_lines (chars text) ≡ chars line ∷ natural_lines (chars after)
cut_at text line rest after i j utf8 boundary none ends is-line is-rest is-after =
    let c = ends.0 in
    let front = IsUtf8-take text i utf8 boundary in
    let same = chars_from_encodes none.0 (take i text) front none.1 in
    let clear = subst (NonePass is_line_end) same none.2 in
    let back : chars (drop i text) ≡ c ∷ chars (drop j text) =
    chars_past_char (drop i text) (drop j text) c (IsUtf8-drop text i utf8 boundary) (ends.2).split in
    let whole : chars text ≡ chars (take i text) ++ c ∷ chars (drop j text) =
    ap chars (sym (take-append-drop i text)) ∙ chars-append (take i text) (drop i text) front
    ∙ ap (λ l. chars (take i text) ++ l) back in
    let later : behind_line_end (c ∷ chars (drop j text)) ≡ chars after =
    sym (is-after ∙ ap behind_line_end (ap chars is-rest ∙ back)) in
    ap natural_lines whole ∙ natural_cut (chars (take i text)) c (chars (drop j text)) [] clear ends.1
    ∙ ap (λ l. chars l ∷ natural_lines (behind_line_end (c ∷ chars (drop j text)))) (sym is-line)
    ∙ ap (λ l. chars line ∷ natural_lines l) later

pub no_cut : (text : List ℕ) → IsUtf8 text → NoCharPasses is_line_end text →
    natural_lines (chars text) ≡ chars text ∷ []
no_cut text utf8 none =
    let same = chars_from_encodes none.0 text utf8 none.1 in
    natural_whole (chars text) [] (subst (NonePass is_line_end) same none.2)

-- something stands where a line end was found
pub some_left : (text : List ℕ) (i j : ℕ) → HasPassingCharAt is_line_end text i j → 0 < length (drop i text)
some_left text i j ends =
    let width = len_utf8_bounds ends.0 in
    omega (arith, ap length (ends.2).split, length-append (encode ends.0) (drop j text), length-encode ends.0, width.0)
