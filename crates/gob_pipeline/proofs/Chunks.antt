-- Bytes that go on from others: up to a line feed, or without one.
use Rattle.std.proofs.Common.{◌≡◌, ℕ, ◌-◌, Bool, true, false, cond, not, ◌&&◌, ◌||◌, nat_eq}
use Rattle.std.proofs.Common.{List, [], ◌∷◌, ◌++◌, length, map, refl, sym, ap, ◌∙◌, arith}
use Rattle.std.proofs.Common.{append_assoc, append-nil}
use Rattle.std.proofs.lemmas.Bool.{cond-false}
use Rattle.gob_bytes.specs.Lines.{Line, lines_from, rest_from, start_from, rest, has_no_feed}
use Rattle.gob_bytes.proofs.Cuts.{lines_fill}
use Rattle.gob_plan.specs.declared.plan.Plan.{Plan}
use Rattle.gob_meaning.specs.Fold.{folded_line, unit_fold}
use Rattle.gob_meaning.proofs.Joins.{fold_joins}
use Rattle.gob_pipeline.specs.Machine.{is_nil}

no_head : (v w : Bool) → (not v && w) ≡ true → v ≡ false
no_head true w h = sym h
no_head false w h = refl

no_tail : (v w : Bool) → (not v && w) ≡ true → w ≡ true
no_tail true w h = absurd (not-both h)
  where
    not-both : false ≡ true → ⊥
    not-both e = cc
no_tail false w h = h

-- bytes without a line feed end no line
pub no_lines : (start : ℕ) (begun x : List ℕ) → has_no_feed x ≡ true → lines_from start begun x ≡ []
unfolding lines_from
no_lines start begun [] h = refl
no_lines start begun (b ∷ x) h =
    cond-false _ _ _ (no_head (nat_eq b 10) (has_no_feed x) h)
    ∙ no_lines start (begun ++ b ∷ []) x (no_tail (nat_eq b 10) (has_no_feed x) h)

-- and are left over behind what was
pub rest_grows : (begun x : List ℕ) → has_no_feed x ≡ true → rest_from begun x ≡ begun ++ x
unfolding rest_from
rest_grows begun [] h = sym (append-nil begun)
rest_grows begun (b ∷ x) h =
    cond-false _ _ _ (no_head (nat_eq b 10) (has_no_feed x) h)
    ∙ rest_grows (begun ++ b ∷ []) x (no_tail (nat_eq b 10) (has_no_feed x) h)
    ∙ append_assoc begun (b ∷ []) x

-- with a line feed behind them they end one line
pub one_line : (start : ℕ) (begun x : List ℕ) → has_no_feed x ≡ true →
    lines_from start begun (x ++ 10 ∷ []) ≡ record { start = start; body = begun ++ x } ∷ []
unfolding lines_from
one_line start begun [] h = ap (λ (body : List ℕ). let l : Line = record { start = start; body = body } in
    l ∷ []) (sym (append-nil begun))
one_line start begun (b ∷ x) h =
    cond-false _ _ _ (no_head (nat_eq b 10) (has_no_feed x) h)
    ∙ one_line start (begun ++ b ∷ []) x (no_tail (nat_eq b 10) (has_no_feed x) h)
    ∙ ap (λ (body : List ℕ). let l : Line = record { start = start; body = body } in
    l ∷ []) (append_assoc begun (b ∷ []) x)

-- nothing is left over behind a line feed
pub rest_ends : (begun x : List ℕ) → rest_from begun (x ++ 10 ∷ []) ≡ []
unfolding rest_from
rest_ends begun [] = refl
rest_ends begun (b ∷ x) =
    elim (nat_eq b 10) as
    (λ v. cond v (rest_from [] (x ++ 10 ∷ [])) (rest_from (begun ++ b ∷ []) (x ++ 10 ∷ [])) ≡ []) [
      | true ↦ rest_ends [] x
      | false ↦ rest_ends (begun ++ b ∷ []) x
    ]

pub nil-append : (a b : List ℕ) → not (is_nil (a ++ b)) ≡ (not (is_nil a) || not (is_nil b))
nil-append [] b = refl
nil-append (x ∷ a) b = refl

-- where what is left over begins
pub rest_starts : (fed : List ℕ) → start_from 0 [] fed ≡ length fed - length (rest fed)
rest_starts fed = let whole = (lines_fill fed).start in omega arith

-- one line more is folded behind the others
pub fold_one : (plan : Plan) (lo : ℕ) (fed x : List ℕ) → has_no_feed x ≡ true →
    unit_fold plan lo (fed ++ (x ++ 10 ∷ []))
    ≡ unit_fold plan lo fed ++ folded_line plan lo (record { start = start_from 0 [] fed; body = rest fed ++ x }) ∷ []
fold_one plan lo fed x h = (fold_joins plan lo fed (x ++ 10 ∷ [])).lines
    ∙ ap (λ ls. unit_fold plan lo fed ++ map (folded_line plan lo) ls) (one_line (start_from 0 [] fed) (rest fed) x h)

pub fold_none : (plan : Plan) (lo : ℕ) (fed x : List ℕ) → has_no_feed x ≡ true →
    unit_fold plan lo (fed ++ x) ≡ unit_fold plan lo fed
fold_none plan lo fed x h = (fold_joins plan lo fed x).lines
    ∙ ap (λ ls. unit_fold plan lo fed ++ map (folded_line plan lo) ls) (no_lines (start_from 0 [] fed) (rest fed) x h)
    ∙ append-nil (unit_fold plan lo fed)
