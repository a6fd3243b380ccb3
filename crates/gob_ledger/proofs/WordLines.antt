-- Texts of lines, each of words that are parted by one space: how they are taken apart.
use Rattle.std.proofs.Common.{◌≡◌, ℕ, ◌<◌, Bool, true, false, cond, nat_lt, nat_eq, List, [], ◌∷◌, ◌++◌, refl, sym, ap}
use Rattle.std.proofs.Common.{◌∙◌, Some, None, append_assoc, append-nil, arith}
use Rattle.std.specs.declared.option.Option.{Option}
use Rattle.std.specs.List.{AllByRecursion, flat_map, list_all}
use Rattle.std.proofs.lemmas.Bool.{and_parts, ltb-true, ne_eqb, eqb-true}
use Rattle.gob_bytes.specs.Words.{words}

-- a line: its first word, and the others
abbrev pub WordLine : Type 0
WordLine = List ℕ × List (List ℕ)

abbrev pub line_bytes : WordLine → List ℕ
line_bytes l = words l.0 l.1

abbrev pub lines_text : List WordLine → List ℕ
lines_text ls = flat_map line_bytes ls

-- one byte more in front of lines
abbrev pub with_byte : ℕ → List WordLine → Option (List WordLine)
with_byte b [] = cond (nat_eq b 10) (Some (([], []) ∷ [])) None
with_byte b (l ∷ ls) =
    cond (nat_eq b 10) (Some (([], []) ∷ l ∷ ls))
    (cond (nat_eq b 32) (Some (([], l.0 ∷ l.1) ∷ ls)) (Some ((b ∷ l.0, l.1) ∷ ls)))

abbrev pub with_byte_if : ℕ → Option (List WordLine) → Option (List WordLine)
with_byte_if b None = None
with_byte_if b (Some ls) = with_byte b ls

-- the lines of a text that ends with a line's end
unfoldable pub word_lines : List ℕ → Option (List WordLine)
word_lines [] = Some []
word_lines (b ∷ bs) = with_byte_if b (word_lines bs)

-- bytes that part no words
abbrev pub IsWord : List ℕ → Type 0
IsWord w = list_all (nat_lt 32) w ≡ true

abbrev pub AreWords : WordLine → Type 0
AreWords l = IsWord l.0 × AllByRecursion IsWord l.1

ends_line : (bs : List ℕ) (ls : List WordLine) → word_lines bs ≡ Some ls → word_lines (10 ∷ bs) ≡ Some (([], []) ∷ ls)
unfolding word_lines
ends_line bs [] e = ap (with_byte_if 10) e
ends_line bs (l ∷ ls) e = ap (with_byte_if 10) e

parts_words : (bs : List ℕ) (l : WordLine) (ls : List WordLine) → word_lines bs ≡ Some (l ∷ ls)
    → word_lines (32 ∷ bs) ≡ Some (([], l.0 ∷ l.1) ∷ ls)
unfolding word_lines
parts_words bs l ls e = ap (with_byte_if 32) e

goes_on : (b : ℕ) (bs : List ℕ) (l : WordLine) (ls : List WordLine) → 32 < b → word_lines bs ≡ Some (l ∷ ls)
    → word_lines (b ∷ bs) ≡ Some ((b ∷ l.0, l.1) ∷ ls)
unfolding word_lines
goes_on b bs l ls above e =
    let more : Option (List WordLine) = Some ((b ∷ l.0, l.1) ∷ ls) in
    let apart : Option (List WordLine) = Some (([], l.0 ∷ l.1) ∷ ls) in
    ap (with_byte_if b) e
    ∙ ap (λ v. cond v (Some (([], []) ∷ l ∷ ls)) (cond (nat_eq b 32) apart more)) (ne_eqb b 10 (λ s. omega arith))
    ∙ ap (λ v. cond v apart more) (ne_eqb b 32 (λ s. omega arith))

word_goes_on : (w bs : List ℕ) (l : WordLine) (ls : List WordLine) → IsWord w → word_lines bs ≡ Some (l ∷ ls)
    → word_lines (w ++ bs) ≡ Some ((w ++ l.0, l.1) ∷ ls)
word_goes_on [] bs l ls word e = e
word_goes_on (b ∷ w) bs l ls word e =
    let p = and_parts (nat_lt 32 b) (list_all (nat_lt 32) w) word in
    goes_on b (w ++ bs) (w ++ l.0, l.1) ls (ltb-true 32 b p.0) (word_goes_on w bs l ls p.1 e)

word_ends : (w bs : List ℕ) (l : List (List ℕ)) (ls : List WordLine) → IsWord w → word_lines bs ≡ Some (([], l) ∷ ls)
    → word_lines (w ++ bs) ≡ Some ((w, l) ∷ ls)
word_ends w bs l ls word e =
    word_goes_on w bs ([], l) ls word e ∙ ap (λ x. Some ((x, l) ∷ ls)) (append-nil w)

line_read : (w : List ℕ) (ws : List (List ℕ)) (bs : List ℕ) (ls : List WordLine) → IsWord w → AllByRecursion IsWord ws
    → word_lines bs ≡ Some ls → word_lines (words w ws ++ bs) ≡ Some ((w, ws) ∷ ls)
line_read w [] bs ls word others e =
    ap word_lines (append_assoc w (10 ∷ []) bs) ∙ word_ends w (10 ∷ bs) [] ls word (ends_line bs ls e)
line_read w (v ∷ vs) bs ls word others e =
    let later = line_read v vs bs ls others.0 others.1 e in
    ap word_lines (append_assoc w (32 ∷ words v vs) bs)
    ∙ word_ends w (32 ∷ words v vs ++ bs) (v ∷ vs) ls word (parts_words (words v vs ++ bs) (v, vs) ls later)

none_read : word_lines [] ≡ Some []
unfolding word_lines
none_read = refl

-- lines of words are read back
pub lines_read : (ls : List WordLine) → AllByRecursion AreWords ls → word_lines (lines_text ls) ≡ Some ls
lines_read [] good = none_read
lines_read (l ∷ ls) good = line_read l.0 l.1 (lines_text ls) ls good.0.0 good.0.1 (lines_read ls good.1)

-- ---- the lines of a text are all of it

byte_back : (b : ℕ) (ls ms : List WordLine) → with_byte b ls ≡ Some ms → lines_text ms ≡ b ∷ lines_text ls
byte_back b [] ms e = cases (nat_eq b 10) refl e
  where
    cases : (v : Bool) → nat_eq b 10 ≡ v → cond v (Some (([], []) ∷ [])) None ≡ Some ms → lines_text ms ≡ b ∷ []
    cases true is e =
        let n : b ≡ 10 = eqb-true b 10 is in
        let m : ms ≡ ([], []) ∷ [] = cc in ap lines_text m ∙ ap (λ x. x ∷ []) (sym n)
    cases false is e = absurd (let no : None ≡ Some ms = e in cc)
byte_back b (l ∷ ls) ms e = cases (nat_eq b 10) refl (nat_eq b 32) refl e
  where
    cases : (v : Bool) → nat_eq b 10 ≡ v → (w : Bool) → nat_eq b 32 ≡ w
        → cond v (Some (([], []) ∷ l ∷ ls)) (cond w (Some (([], l.0 ∷ l.1) ∷ ls)) (Some ((b ∷ l.0, l.1) ∷ ls)))
        ≡ Some ms
        → lines_text ms ≡ b ∷ lines_text (l ∷ ls)
    cases true is w or e =
        let n : b ≡ 10 = eqb-true b 10 is in
        let m : ms ≡ ([], []) ∷ l ∷ ls = cc in ap lines_text m ∙ ap (λ x. x ∷ lines_text (l ∷ ls)) (sym n)
    cases false is true or e =
        let n : b ≡ 32 = eqb-true b 32 or in
        let m : ms ≡ ([], l.0 ∷ l.1) ∷ ls = cc in ap lines_text m ∙ ap (λ x. x ∷ lines_text (l ∷ ls)) (sym n)
    cases false is false or e =
        let m : ms ≡ (b ∷ l.0, l.1) ∷ ls = cc in ap lines_text m ∙ longer l.1
      where
        longer : (ws : List (List ℕ)) → words (b ∷ l.0) ws ++ lines_text ls ≡ b ∷ (words l.0 ws ++ lines_text ls)
        longer [] = refl
        longer (w ∷ ws) = refl

pub lines_fill : (bs : List ℕ) (ls : List WordLine) → word_lines bs ≡ Some ls → bs ≡ lines_text ls
unfolding word_lines
lines_fill [] ls e = let m : ls ≡ [] = cc in sym (ap lines_text m)
lines_fill (b ∷ bs) ls e = cases (word_lines bs) refl e (lines_fill bs)
  where
    cases : (o : Option (List WordLine)) → word_lines bs ≡ o → with_byte_if b o ≡ Some ls
        → ((ms : List WordLine) → word_lines bs ≡ Some ms → bs ≡ lines_text ms) → b ∷ bs ≡ lines_text ls
    cases None is e later = absurd (let no : None ≡ Some ls = e in cc)
    cases (Some ms) is e later = ap (λ x. b ∷ x) (later ms is) ∙ sym (byte_back b ms ls e)
