-- A text's first piece, by where its first separator stands.
use Rattle.std.proofs.Common.{◌≡◌, ℕ, zero, suc, ◌+◌, ◌<◌, ◌≤◌, Bool, true, false, nat_eq, List, [], ◌∷◌, ◌++◌}
use Rattle.std.proofs.Common.{length, take, drop, get_or, Option, Some, None, Bor, refl, sym, ap, ◌∙◌, arith, add-one}
use Rattle.std.proofs.lemmas.Bool.{and_from, not_from_false, false_from_ne_true, eqb-true, eq-eqb, true≢false}
use Rattle.std.specs.Option.{is_some}
use Rattle.memchr.specs.Find.{Nowhere, NoneBefore, Passes, is_byte}
use Rattle.gob_meaning.specs.Steps.{piece_byte}
use Rattle.gob_jobs.specs.Words.{pieces}
use Rattle.gob_jobs.proofs.Lines.{IsFree, HasFirst, pieces_free, pieces_at, pieces_first}
use Rattle.gob_job.specs.Cuts.{pieces_left}

-- no byte before this place separates
free_before : (p : ℕ → Bool) (text : List ℕ) (k : ℕ) → Nowhere (Passes p text) 0 k → k ≤ length text
    → IsFree p (take k text)
free_before p text zero none inside = refl
free_before p [] (suc k) none inside = absurd (omega arith)
free_before p (b ∷ text) (suc k) none inside =
    and_from _ _ (not_from_false (p b) (false_from_ne_true _ (none 0 (omega arith) (omega arith))))
    (free_before p text k (λ j low high. none (suc j) (omega arith) (omega arith)) (omega arith))

free_all : (p : ℕ → Bool) (text : List ℕ) → Nowhere (Passes p text) 0 (length text) → IsFree p text
free_all p [] none = refl
free_all p (b ∷ text) none =
    and_from _ _ (not_from_false (p b) (false_from_ne_true _ (none 0 (omega arith) (omega arith))))
    (free_all p text (λ j low high. none (suc j) (omega arith) (omega arith)))

cut_at : (text : List ℕ) (k : ℕ) → k < length text → text ≡ take k text ++ get_or text k 0 ∷ drop (suc k) text
cut_at [] k inside = absurd (omega arith)
cut_at (b ∷ text) zero inside = refl
cut_at (b ∷ text) (suc k) inside = ap (λ x. b ∷ x) (cut_at text k (omega arith))

-- the first separator ends the first piece
pub first_piece : (p : ℕ → Bool) (text : List ℕ) (k : ℕ) → NoneBefore (Passes p text) 0 (length text) k
    → Passes p text k
    → pieces p text ≡ take k text ∷ pieces p (drop (k + 1) text)
first_piece p text k place here =
    let free = free_before p text k place.before (omega (arith, place.high)) in
    ap (pieces p) (cut_at text k place.high)
    ∙ rw add-one (pieces_at p (take k text) (get_or text k 0) (drop (suc k) text) free here)

-- without one the text is its only piece
pub only_piece : (p : ℕ → Bool) (text : List ℕ) → Nowhere (Passes p text) 0 (length text) → pieces p text ≡ text ∷ []
only_piece p text none = pieces_free p text (free_all p text none)

same_bytes : (c b : ℕ) → nat_eq c b ≡ nat_eq b c
same_bytes c b = elim (nat_eq c b) as (λ v. nat_eq c b ≡ v → v ≡ nat_eq b c) [
  | true ↦ λ e. sym (eq-eqb b c (sym (eqb-true c b e)))
  | false ↦ λ e. elim (nat_eq b c) as (λ v. nat_eq b c ≡ v → false ≡ v) [
    | true ↦ λ f. absurd (true≢false (sym (eq-eqb c b (sym (eqb-true b c f))) ∙ e))
    | false ↦ λ f. refl
  ] refl
] refl

-- a byte separates whichever side it is compared on
pub byte_pieces : (c : ℕ) (text : List ℕ) → pieces (nat_eq c) text ≡ pieces (is_byte c) text
unfolding pieces
byte_pieces c [] = refl
byte_pieces c (b ∷ bs) = ap (λ v. piece_byte v b (pieces (nat_eq c) bs)) (same_bytes c b)
    ∙ ap (piece_byte (nat_eq b c) b) (byte_pieces c bs)

-- ---- the two parts of a cut

pub byte_piece : (c : ℕ) (text : List ℕ) (k : ℕ) (x y : List ℕ) → NoneBefore (Passes (is_byte c) text) 0 (length text) k
    → Passes (is_byte c) text k
    → x ≡ take k text → y ≡ drop (k + 1) text → pieces (nat_eq c) text ≡ x ∷ pieces (nat_eq c) y
byte_piece c text k x y place here front back =
    byte_pieces c text
    ∙ (first_piece (is_byte c) text k place here
    ∙ (ap (λ t. t ∷ pieces (is_byte c) (drop (k + 1) text)) (sym front)
    ∙ ap (λ t. x ∷ t) (sym (byte_pieces c (drop (k + 1) text)) ∙ ap (pieces (nat_eq c)) (sym back))))

pub byte_only : (c : ℕ) (text : List ℕ) → Nowhere (Passes (is_byte c) text) 0 (length text)
    → pieces (nat_eq c) text ≡ text ∷ []
byte_only c text none = byte_pieces c text ∙ only_piece (is_byte c) text none

pub passing_piece : (p : ℕ → Bool) (text : List ℕ) (k : ℕ) (x y : List ℕ) → NoneBefore (Passes p text) 0 (length text) k
    → Passes p text k
    → x ≡ take k text → y ≡ drop (k + 1) text → pieces p text ≡ x ∷ pieces p y
passing_piece p text k x y place here front back =
    first_piece p text k place here
    ∙ (ap (λ t. t ∷ pieces p (drop (k + 1) text)) (sym front) ∙ ap (λ t. x ∷ pieces p t) (sym back))

-- ---- more than two pieces

left_first : (p : ℕ → Bool) (o : Option (Bor (List ℕ))) → is_some o ≡ true → HasFirst (pieces_left p o)
left_first p None some = absurd (true≢false (sym some))
left_first p (Some rest) some = pieces_first p rest.now

-- a cut, a second cut, and something behind it
pub past_two : (p : ℕ → Bool) (text a b : List ℕ) (rest more : Option (Bor (List ℕ))) (behind : Bor (List ℕ))
    → pieces p text ≡ a ∷ pieces_left p rest → rest ≡ Some behind → pieces p behind.now ≡ b ∷ pieces_left p more
    → is_some more ≡ true → (x : List ℕ) × (xs : List (List ℕ)) × (pieces p text ≡ a ∷ b ∷ x ∷ xs)
past_two p text a b rest more behind cut is again some =
    let f = left_first p more some in
    (f.0, f.1, cut ∙ (ap (λ o. a ∷ pieces_left p o) is ∙ (ap (λ ps. a ∷ ps) again ∙ ap (λ ps. a ∷ b ∷ ps) f.2)))
