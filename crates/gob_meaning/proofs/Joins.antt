-- What a text in two pieces makes.
use Rattle.std.proofs.Common.{◌≡◌, ℕ, ◌+◌, ◌-◌, true, false, cond, List, [], ◌∷◌, ◌++◌, length, nat_eq, map, filter}
use Rattle.std.proofs.Common.{flat_map, count_by, sum_by, Some, None, Option, refl, sym, ap, ◌∙◌, arith, add_assoc}
use Rattle.std.proofs.lemmas.List.{map-append}
use Rattle.std.proofs.lemmas.List.Elements.{filter-append}
use Rattle.std.proofs.lemmas.List.Sums.{sum_by-append, sum_by-cons}
use Rattle.std.proofs.lemmas.Grind.{flat_map-append}
use Rattle.std.proofs.Math.Nat.{sub-zero}
use Rattle.std.specs.List.{range_with_len}
use Rattle.gob_bytes.specs.Lines.{Line, lines, lines_from, start_from, rest}
use Rattle.gob_bytes.proofs.Cuts.{lines_join, lines_fill}
use Rattle.gob_plan.specs.declared.plan.Plan.{Plan}
use Rattle.gob_plan.specs.declared.units.Cause.{Cause}
use Rattle.gob_meaning.specs.Items.{line_made, Target}
use Rattle.gob_meaning.specs.Fold.{Folded, folded_line, Delivery, unit_fold, deliveries_of, line_deliveries}
use Rattle.gob_meaning.specs.Fold.{same_target, sent_to, saturate_u64, items_in, is_record, is_bad, rows_in}
use Rattle.gob_meaning.specs.Fold.{unrouted_in, is_written, is_error, in_branch, branch_counts, counts_of, line_stop}
use Rattle.gob_meaning.specs.Fold.{stops_or, stop_from, before_stop_from, stop_of, before_stop}
use Rattle.gob_meaning.specs.Sums.{both_branches, branch_sums, sum_of}
use Rattle.gob_meaning.specs.Laws.{FoldJoins, PartsJoin, bad_line_count}
use Rattle.gob_meaning.proofs.PlainLines.{rest_whole}

-- ---- lines

-- a line so many bytes further on
abbrev moved : ℕ → Line → Line
moved k l = record l { start = k + l.start }

lines_moved : (k start : ℕ) (begun bs : List ℕ) → lines_from (k + start) begun bs
    ≡ map (moved k) (lines_from start begun bs)
unfolding lines_from
lines_moved k start begun [] = refl
lines_moved k start begun (b ∷ bs) =
    elim (nat_eq b 10) as (λ v. cond v (record { start = k + start; body = begun } ∷ lines_from
    (k + start + length begun + 1) [] bs) (lines_from (k + start) (begun ++ b ∷ []) bs)
    ≡ map (moved k) (cond v (record { start = start; body = begun } ∷ lines_from (start + length begun + 1) [] bs)
    (lines_from start (begun ++ b ∷ []) bs))) [
      | true ↦ ap (λ (ls : List Line). record { start = k + start; body = begun } ∷ ls)
          (ap (λ s. lines_from s [] bs) (further k start (length begun))
          ∙ lines_moved k (start + length begun + 1) [] bs)
      | false ↦ lines_moved k start (begun ++ b ∷ []) bs
    ]
  where
    further : (k s n : ℕ) → k + s + n + 1 ≡ k + (s + n + 1)
    further k s n = omega arith

folded_moved : (plan : Plan) (lo k : ℕ) (l : Line) → folded_line plan lo (moved k l) ≡ folded_line plan (lo + k) l
unfolding line_made
folded_moved plan lo k l = rw (add_assoc lo k l.start) refl

folds_moved : (plan : Plan) (lo k : ℕ) (ls : List Line) → map (folded_line plan lo) (map (moved k) ls)
    ≡ map (folded_line plan (lo + k)) ls
folds_moved plan lo k [] = refl
folds_moved plan lo k (l ∷ ls) = rw (folded_moved plan lo k l, folds_moved plan lo k ls) refl

pub fold_joins : (plan : Plan) (lo : ℕ) (x y : List ℕ) → FoldJoins plan lo x y
unfolding unit_fold
fold_joins plan lo x y =
    let joined : unit_fold plan lo (x ++ y) ≡ unit_fold plan lo x ++ map (folded_line plan lo)
    (lines_from (start_from 0 [] x) (rest x) y) =
    (ap (map (folded_line plan lo)) (lines_join x y).lines
    ∙ map-append (folded_line plan lo) (lines x) (lines_from (start_from 0 [] x) (rest x) y)) in
    record {
      lines = joined;
      whole = λ ends.
          let empty = rest_whole [] x ends in
          let place : start_from 0 [] x ≡ length x + 0 =
          (let fill = (lines_fill x).start in let short = ap length empty in omega arith) in
          joined ∙ ap (λ fs. unit_fold plan lo x ++ fs)
          (ap (λ s. map (folded_line plan lo) (lines_from s (rest x) y)) place
          ∙ ap (λ r. map (folded_line plan lo) (lines_from (length x + 0) r y)) empty
          ∙ ap (map (folded_line plan lo)) (lines_moved (length x) 0 [] y)
          ∙ folds_moved plan lo (length x) (lines y));
    }

-- ---- counts

capped_sum : (a b : ℕ) → saturate_u64 (a + b) ≡ saturate_u64 (saturate_u64 a + saturate_u64 b)
capped_sum a b = omega arith

-- a sum over two parts
summed : (f : Folded → ℕ) (x y : List Folded) → saturate_u64 (sum_by f (x ++ y))
    ≡ saturate_u64 (saturate_u64 (sum_by f x) + saturate_u64 (sum_by f y))
summed f x y = ap saturate_u64 (sum_by-append f x y) ∙ capped_sum (sum_by f x) (sum_by f y)

branch_joins : (x y : List Folded) (b : ℕ) → branch_counts (x ++ y) b
    ≡ both_branches (branch_counts x b) (branch_counts y b)
branch_joins x y b =
    let items = ap (filter (λ i. nat_eq i.branch b)) (flat_map-append (λ (f : Folded). items_in f.made) x y)
    ∙ filter-append (λ i. nat_eq i.branch b) (flat_map (λ (f : Folded). items_in f.made) x)
    (flat_map (λ (f : Folded). items_in f.made) y) in
    rw (
      items,
      sum_by-append (λ i. cond (is_written i.end) 1 0) (in_branch b x) (in_branch b y),
      sum_by-append (λ i. cond (is_error i.end) 1 0) (in_branch b x) (in_branch b y),
      sum_by-append (λ i. i.optional) (in_branch b x) (in_branch b y),
      capped_sum (count_by (λ i. is_written i.end) (in_branch b x)) (count_by (λ i. is_written i.end) (in_branch b y)),
      capped_sum (count_by (λ i. is_error i.end) (in_branch b x)) (count_by (λ i. is_error i.end) (in_branch b y)),
      capped_sum (sum_by (λ i. i.optional) (in_branch b x)) (sum_by (λ i. i.optional) (in_branch b y)),
    ) refl

branches_join : (x y : List Folded) (bs : List ℕ) → map (branch_counts (x ++ y)) bs
    ≡ branch_sums (map (branch_counts x) bs) (map (branch_counts y) bs)
branches_join x y [] = refl
branches_join x y (b ∷ bs) = rw (branch_joins x y b, branches_join x y bs) refl

counts_join : (plan : Plan) (x y : List Folded) → counts_of plan (x ++ y) ≡ sum_of (counts_of plan x) (counts_of plan y)
unfolding counts_of sum_of
counts_join plan x y =
    rw (
      summed (λ f. cond (is_record f.made) 1 0) x y,
      summed (λ f. cond (is_bad f.made) 1 0) x y,
      summed
          (λ f. rows_in f.made) x y,
      summed (λ f. unrouted_in f.made) x y,
      branches_join x y
          (range_with_len 0 (length plan.branches)),
    ) refl

-- ---- the stop

-- how many more bad lines may pass after one
fewer : (left : ℕ) (f : Folded) (fs : List Folded) → left - cond (is_bad f.made) 1 0 - bad_line_count fs
    ≡ left - bad_line_count (f ∷ fs)
fewer left f fs = let one = sum_by-cons (λ (g : Folded). cond (is_bad g.made) 1 0) f fs in omega arith

stops_join : (left : ℕ) (x y : List Folded) → stop_from left (x ++ y)
    ≡ stops_or (stop_from left x) (λ c. Some c) (stop_from (left - bad_line_count x) y)
stops_join left [] y = ap (λ n. stop_from n y) (sym (sub-zero left))
stops_join left (f ∷ x) y =
    let later = stops_join (left - cond (is_bad f.made) 1 0) x y
    ∙ ap (λ n. stops_or (stop_from (left - cond (is_bad f.made) 1 0) x) (λ c. Some c) (stop_from n y))
    (fewer left f x) in
    elim (line_stop left f.at f.made) as (λ v. stops_or v (λ c. Some c)
    (stop_from (left - cond (is_bad f.made) 1 0) (x ++ y))
    ≡ stops_or (stops_or v (λ c. Some c) (stop_from (left - cond (is_bad f.made) 1 0) x)) (λ c. Some c)
    (stop_from (left - bad_line_count (f ∷ x)) y)) [
      | None ↦ later
      | Some c ↦ refl
    ]

before_join : (left : ℕ) (x y : List Folded) → before_stop_from left (x ++ y)
    ≡ stops_or (stop_from left x) (λ c. before_stop_from left x) (x ++ before_stop_from (left - bad_line_count x) y)
before_join left [] y = ap (λ n. before_stop_from n y) (sym (sub-zero left))
before_join left (f ∷ x) y =
    let less = left - cond (is_bad f.made) 1 0 in
    let later = before_join less x y ∙ ap (λ n. stops_or (stop_from less x) (λ c. before_stop_from less x)
    (x ++ before_stop_from n y)) (fewer left f x) in
    elim (line_stop left f.at f.made) as (λ v. stops_or v (λ c. []) (f ∷ before_stop_from less (x ++ y))
    ≡ stops_or (stops_or v (λ c. Some c) (stop_from less x)) (λ c. stops_or v (λ d. []) (f ∷ before_stop_from less x))
    (f ∷ x ++ before_stop_from (left - bad_line_count (f ∷ x)) y)) [
      | None ↦ ap (λ fs. f ∷ fs) later ∙ put_in (stop_from less x) f (before_stop_from less x)
          (x ++ before_stop_from (left - bad_line_count (f ∷ x)) y)
      | Some c ↦ refl
    ]
  where
    put_in : (o : Option Cause) (f : Folded) (p q : List Folded) → f ∷ stops_or o (λ c. p) q
        ≡ stops_or o (λ c. f ∷ p) (f ∷ q)
    put_in None f p q = refl
    put_in (Some c) f p q = refl

all_before : (left : ℕ) (x : List Folded) → stop_from left x ≡ None → before_stop_from left x ≡ x
all_before left [] = λ none. refl
all_before left (f ∷ x) =
    let less = left - cond (is_bad f.made) 1 0 in
    elim (line_stop left f.at f.made) as (λ v. stops_or v (λ c. Some c) (stop_from less x) ≡ None
    → stops_or v (λ c. []) (f ∷ before_stop_from less x) ≡ f ∷ x) [
      | None ↦ λ none. ap (λ fs. f ∷ fs) (all_before less x none)
      | Some c ↦ λ some. cc
    ]

pub parts_join : (plan : Plan) (x y : List Folded) → PartsJoin plan x y
unfolding stop_of before_stop sent_to
parts_join plan x y = record {
  deliveries = flat_map-append (λ (f : Folded). line_deliveries f.made) x y;
  sent = λ t. ap (sent_to t) (flat_map-append (λ (f : Folded). line_deliveries f.made) x y)
      ∙ flat_map-append (λ (p : Delivery). cond (same_target t p.target) p.bytes []) (deliveries_of x)
      (deliveries_of y);
  counts = counts_join plan x y;
  stop = stops_join plan.skip_errors x y;
  before = before_join plan.skip_errors x y;
  all = all_before plan.skip_errors x;
}

pub sent-append : (t : Target) (x y : List Delivery) → sent_to t (x ++ y) ≡ sent_to t x ++ sent_to t y
unfolding sent_to
sent-append t x y = flat_map-append (λ (p : Delivery). cond (same_target t p.target) p.bytes []) x y
