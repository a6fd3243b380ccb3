-- The pieces of a text, by where a separator is first found in it.
use Rattle.std.proofs.Common.{◌≡◌, ◌≢◌, ℕ, zero, suc, ◌+◌, ◌-◌, ◌<◌, ◌≤◌, Bool, true, false, cond, nat_eq, List}
use Rattle.std.proofs.Common.{[], ◌∷◌, ◌++◌, length, map, set, take, drop, None, subst, refl, ap, sym, ◌∙◌, arith}
use Rattle.std.specs.List.{starts_with}
use Rattle.std.specs.Str.{IsUtf8, IsCharBoundary}
use Rattle.std.specs.Str.Pattern.{LacksTextAt, FindsText, SplitsAroundMatch}
use Rattle.std.proofs.lemmas.Str.{IsUtf8-drop}
use Rattle.std.proofs.lemmas.Str.Pattern.{starts_text}
use Rattle.std.proofs.lemmas.List.{append_assoc, length-take, set-set, take-append-drop, take-append-le}
use Rattle.gob_bytes.proofs.Paths.{front_more}
use Rattle.gob_plan.specs.declared.rows.Value.{Value}
use Rattle.gob_plan.specs.declared.rows.Value.TheVariants as value
use Rattle.gob_plan.specs.declared.rows.Row.{Row}
use Rattle.gob_meaning.specs.Steps.{piece_byte, pieces_after, pieces_of}
use Rattle.gob_steps.specs.Places.{row_with, rows_of_pieces}

begins_not : (s n : List ℕ) → LacksTextAt n s 0 → starts_with nat_eq s n ≡ false
begins_not s n lacks = sym (starts_text false n s lacks)

-- what is left of a separator that began before
pub skipped : (separator front back : List ℕ) → pieces_after separator (length front) (front ++ back)
    ≡ pieces_after separator 0 back
skipped separator [] back = refl
skipped separator (b ∷ front) back = skipped separator front back

lacks_later : (n : List ℕ) (b : ℕ) (bs : List ℕ) (i : ℕ) → LacksTextAt n (b ∷ bs) (suc i) → LacksTextAt n bs i
lacks_later n b bs i lacks = lacks

-- a text without the separator is one piece
pub one_piece : (separator text : List ℕ) → ((i : ℕ) → i ≤ length text → LacksTextAt separator text i)
    → pieces_of separator text ≡ text ∷ []
one_piece separator [] lacks = refl
one_piece separator (b ∷ bs) lacks =
    let not_here = begins_not (b ∷ bs) separator (lacks 0 (omega arith)) in
    (λ j. piece_byte (not_here j) b (pieces_after separator (cond (not_here j) (length separator - 1) 0) bs))
    ∙ ap (piece_byte false b) (one_piece separator bs
    (λ i within. lacks_later separator b bs i (lacks (suc i) (omega arith))))

-- a text with the separator where none begins before: the piece up to it, and those behind it
pub next_piece : (separator front back : List ℕ) → separator ≢ []
    → ((i : ℕ) → i < length front → LacksTextAt separator (front ++ (separator ++ back)) i)
    → pieces_of separator (front ++ (separator ++ back)) ≡ front ∷ pieces_of separator back
next_piece [] front back some lacks = absurd (some refl)
next_piece (x ∷ xs) [] back some lacks =
    let here : starts_with nat_eq (x ∷ (xs ++ back)) (x ∷ xs) ≡ true = front_more (x ∷ xs) back in
    let less : suc (length xs) - 1 ≡ length xs = omega arith in
    (λ j. piece_byte (here j) x (pieces_after (x ∷ xs) (cond (here j) (suc (length xs) - 1) 0) (xs ++ back)))
    ∙ ap (λ n. [] ∷ pieces_after (x ∷ xs) n (xs ++ back)) less
    ∙ ap (λ pieces. [] ∷ pieces) (skipped (x ∷ xs) xs back)
next_piece (x ∷ xs) (f ∷ front) back some lacks =
    let text = front ++ ((x ∷ xs) ++ back) in
    let not_here = begins_not (f ∷ text) (x ∷ xs) (lacks 0 (omega arith)) in
    (λ j. piece_byte (not_here j) f (pieces_after (x ∷ xs) (cond (not_here j) (suc (length xs) - 1) 0) text))
    ∙ ap (piece_byte false f) (next_piece (x ∷ xs) front back some
    (λ i within. lacks_later (x ∷ xs) f text i (lacks (suc i) (omega arith))))

-- what a look-up of the separator tells of the pieces
pub pieces_split : (separator rest piece after : List ℕ) → separator ≢ []
    → SplitsAroundMatch (FindsText separator) rest piece after
    → pieces_of separator rest ≡ piece ∷ pieces_of separator after
pieces_split separator rest piece after some split =
    let i = split.0 in
    let has = split.2.1 in
    let found : drop i rest ≡ separator ++ after = has.split ∙ ap (λ back. separator ++ back) (sym split.4) in
    let text : piece ++ (separator ++ after) ≡ rest =
    (λ j. split.3 j ++ sym found j) ∙ take-append-drop i rest in
    let lacks : (k : ℕ) → k < length piece → LacksTextAt separator (piece ++ (separator ++ after)) k =
    λ k below. subst (λ s. LacksTextAt separator s k) (sym text) (split.2.0 k (omega (arith, split.6))) in
    ap (pieces_of separator) (sym text) ∙ next_piece separator piece after some lacks

-- what stands behind the separator is text
pub after_utf8 : (separator rest piece after : List ℕ) → IsUtf8 rest
    → SplitsAroundMatch (FindsText separator) rest piece after → IsUtf8 after
after_utf8 separator rest piece after text split =
    let has = split.2.1 in
    let cut : IsCharBoundary rest split.1 = subst (IsCharBoundary rest) (sym has.ends) has.after in
    subst IsUtf8 (sym split.4) (IsUtf8-drop rest split.1 text cut)

-- ---- rows of pieces

-- one piece more
pub pieces_on : (f : List ℕ → Row) (separator rest piece after : List ℕ) (rows rows' whole : List Row) (made : Row)
    → separator ≢ [] → SplitsAroundMatch (FindsText separator) rest piece after
    → rows' ≡ rows ++ made ∷ [] → made ≡ f piece
    → rows ++ map f (pieces_of separator rest) ≡ whole → rows' ++ map f (pieces_of separator after) ≡ whole
pieces_on f separator rest piece after rows rows' whole made some split pushed is so_far =
    ap (λ rs. rs ++ map f (pieces_of separator after)) (pushed ∙ ap (λ r. rows ++ r ∷ []) is)
    ∙ append_assoc rows (f piece ∷ []) (map f (pieces_of separator after))
    ∙ sym (ap (λ ps. rows ++ map f ps) (pieces_split separator rest piece after some split)) ∙ so_far

-- the last piece
pub pieces_end : (f : List ℕ → Row) (separator rest : List ℕ) (rows rows' whole : List Row) (made : Row)
    → FindsText separator rest None → rows' ≡ rows ++ made ∷ [] → made ≡ f rest
    → rows ++ map f (pieces_of separator rest) ≡ whole → rows' ≡ whole
pieces_end f separator rest rows rows' whole made none pushed is so_far =
    pushed ∙ ap (λ r. rows ++ r ∷ []) is
    ∙ sym (ap (λ ps. rows ++ map f ps) (one_piece separator rest none)) ∙ so_far

-- rows that stand in front stay there
pub front_stays : (n : ℕ) (rows rows' more old : List Row) → length old ≡ n → take n rows ≡ old
    → rows' ≡ rows ++ more → take n rows' ≡ old
front_stays n rows rows' more old long front pushed =
    let cut : length (take n rows) ≡ n = ap length front ∙ long in
    let within : n ≤ length rows = omega (arith, cut, length-take n rows) in
    ap (take n) pushed ∙ take-append-le n rows more within ∙ front

-- the text was moved out of the row before
pub bare_rows : (separator : List ℕ) (place : ℕ) (row bare : Row) (v : Value) (t : List ℕ)
    → bare.values ≡ set row.values place value.Null → v ≡ value.Text t
    → map (row_with place bare) (pieces_of separator t) ≡ rows_of_pieces separator place row v
bare_rows separator place row bare v t is text =
    same (pieces_of separator t) ∙ ap (rows_of_pieces separator place row) (sym text)
  where
    same : (pieces : List (List ℕ)) → map (row_with place bare) pieces ≡ map (row_with place row) pieces
    same [] = refl
    same (p ∷ ps) = λ i. record {
      values = (ap (λ vs. set vs place (value.Text p)) is
          ∙ set-set row.values place value.Null (value.Text p)) i;
    } ∷ same ps i
