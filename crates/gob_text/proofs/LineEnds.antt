-- The first and the last place of a line feed are where the first and the last line end.
use Rattle.std.proofs.Common.{◌≡◌, ◌≢◌, ℕ, zero, suc, ◌+◌, ◌<◌, ◌≤◌, nat_eq, List, [], ◌∷◌, ◌++◌, length, get_or, map}
use Rattle.std.proofs.Common.{Option, Some, None, refl, ap, ◌∙◌, arith, length-append}
use Rattle.std.specs.List.{slice_get, last_or}
use Rattle.std.proofs.lemmas.Bool.{cond-true, cond-false, eq-eqb, ne_eqb, eqb-true, cond_both}
use Rattle.memchr.specs.Find.{Nowhere, NoneBefore, NoneAfter, is_byte, Passes}
use Rattle.gob_bytes.specs.Lines.{lines_from, end_of, first_end, last_end}

-- no line feed from place i on
abbrev NoFeedFrom : ℕ → List ℕ → Type 0
NoFeedFrom i bs = (j : ℕ) → i ≤ j → j < length bs → get_or bs j 0 ≢ 10

no_feed-tail : (i b : ℕ) (bs : List ℕ) → NoFeedFrom (suc i) (b ∷ bs) → NoFeedFrom i bs
no_feed-tail i b bs none j low high = none (suc j) (omega arith) (omega arith)

no_lines : (bs : List ℕ) (start : ℕ) (begun : List ℕ) → NoFeedFrom 0 bs → lines_from start begun bs ≡ []
unfolding lines_from
no_lines [] start begun none = refl
no_lines (b ∷ bs) start begun none =
    cond-false _ _ _ (ne_eqb b 10 (none 0 (omega arith) (omega arith)))
    ∙ no_lines bs start (begun ++ b ∷ []) (no_feed-tail 0 b bs (λ j low high. none j (omega arith) high))

first_from : (bs : List ℕ) (k start : ℕ) (begun : List ℕ) → k < length bs → get_or bs k 0 ≡ 10 →
    ((j : ℕ) → j < k → get_or bs j 0 ≢ 10) → slice_get (map end_of (lines_from start begun bs)) 0 ≡
    Some (start + length begun + k + 1)
unfolding lines_from
first_from [] k start begun inside feed before = absurd (omega arith)
first_from (b ∷ bs) zero start begun inside feed before =
    ap (λ ls. slice_get (map end_of ls) 0) (cond-true _ _ _ (eq-eqb b 10 feed)) ∙ ap Some (omega arith)
first_from (b ∷ bs) (suc k) start begun inside feed before =
    let l = length-append begun (b ∷ []) in
    ap (λ ls. slice_get (map end_of ls) 0) (cond-false _ _ _ (ne_eqb b 10 (before 0 (omega arith))))
    ∙ first_from bs k start (begun ++ b ∷ []) (omega arith) feed (λ j below. before (suc j) (omega arith))
    ∙ ap Some (omega arith)

last_from : (bs : List ℕ) (k start : ℕ) (begun : List ℕ) (o : Option ℕ) → k < length bs → get_or bs k 0 ≡ 10 →
    NoFeedFrom (suc k) bs → last_or o (map end_of (lines_from start begun bs)) ≡ Some (start + length begun + k + 1)
unfolding lines_from
last_from [] k start begun o inside feed after = absurd (omega arith)
last_from (b ∷ bs) zero start begun o inside feed after =
    ap (λ ls. last_or o (map end_of ls)) (cond-true _ _ _ (eq-eqb b 10 feed))
    ∙ ap (λ ls. last_or (Some (start + length begun + 1)) (map end_of ls))
    (no_lines bs (start + length begun + 1) [] (no_feed-tail 0 b bs after))
    ∙ ap Some (omega arith)
last_from (b ∷ bs) (suc k) start begun o inside feed after =
    let l = length-append begun (b ∷ []) in
    let later = no_feed-tail (suc k) b bs after in
    cond_both (nat_eq b 10) (record { start = start; body = begun } ∷ lines_from (start + length begun + 1) [] bs)
    (lines_from start (begun ++ b ∷ []) bs)
    (λ ls. last_or o (map end_of ls) ≡ Some (start + length begun + suc k + 1))
    (λ _. last_from bs k (start + length begun + 1) [] (Some (start + length begun + 1)) (omega arith) feed later
    ∙ ap Some (omega arith))
    (λ _. last_from bs k start (begun ++ b ∷ []) o (omega arith) feed later ∙ ap Some (omega arith))

pub first_end-none : (bs : List ℕ) → Nowhere (Passes (is_byte 10) bs) 0 (length bs) → first_end bs ≡ None
first_end-none bs none = ap (λ ls. slice_get (map end_of ls) 0)
    (no_lines bs 0 [] (λ j low high feed. none j low high (eq-eqb _ 10 feed)))

pub first_end-some : (bs : List ℕ) (k : ℕ) → NoneBefore (Passes (is_byte 10) bs) 0 (length bs) k →
    Passes (is_byte 10) bs k → first_end bs ≡ Some (k + 1)
first_end-some bs k place passes =
    first_from bs k 0 [] place.high (eqb-true _ 10 passes)
    (λ j below feed. place.before j (omega arith) below (eq-eqb _ 10 feed)) ∙ ap Some (omega arith)

pub last_end-none : (bs : List ℕ) → Nowhere (Passes (is_byte 10) bs) 0 (length bs) → last_end bs ≡ None
last_end-none bs none = ap (λ ls. last_or None (map end_of ls))
    (no_lines bs 0 [] (λ j low high feed. none j low high (eq-eqb _ 10 feed)))

pub last_end-some : (bs : List ℕ) (k : ℕ) → NoneAfter (Passes (is_byte 10) bs) 0 (length bs) k →
    Passes (is_byte 10) bs k → last_end bs ≡ Some (k + 1)
last_end-some bs k place passes =
    last_from bs k 0 [] None place.high (eqb-true _ 10 passes)
    (λ j low high feed. place.after j (omega arith) high (eq-eqb _ 10 feed)) ∙ ap Some (omega arith)
