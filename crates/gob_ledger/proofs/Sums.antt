-- Totals stay the sums over the done ranges.
use Rattle.std.proofs.Common.{◌≡◌, ℕ, zero, suc, ◌+◌, ◌-◌, ◌^◌, ◌<◌, ◌≤◌, true, false, cond, nat_lt, List, [], ◌∷◌}
use Rattle.std.proofs.Common.{◌++◌, map, length, refl, sym, ap, subst, ◌∙◌, Some, None, unwrap_or, arith}
use Rattle.std.specs.declared.option.Option.{Option}
use Rattle.std.specs.declared.cmp.Ordering.{Ordering}
use Rattle.std.specs.declared.cmp.Ordering.TheVariants.{Less, Equal, Greater}
use Rattle.std.specs.Option.{option_and_then}
use Rattle.std.specs.List.{Contains, flat_map, slice_get, range_with_len, zip, list_any}
use Rattle.std.specs.Str.{bytes_eq}
use Rattle.gob_bytes.specs.Tables.{Table, at_name, with_name, names_of, name_cmp, IsInByteOrder}
use Rattle.gob_bytes.proofs.Tables.{level_names, greater_less, less_apart, two_names, none_below, at_head, at_tail}
use Rattle.gob_bytes.proofs.Tables.{at_from_member, rising_tail, rising-with_name}
use Rattle.gob_device.specs.Supply.{Held}
use Rattle.gob_plan.specs.declared.plan.Plan.{Plan}
use Rattle.gob_plan.specs.declared.units.BranchCounts.{BranchCounts}
use Rattle.gob_plan.specs.declared.units.Counts.{Counts}
use Rattle.gob_meaning.specs.Fold.{Folded, saturate_u64, counts_of, branch_counts}
use Rattle.gob_ledger.specs.Marks.{Marks, Span, Done}
use Rattle.gob_meaning.specs.Sums.{both_branches, branch_sums, sum_of}
use Rattle.gob_ledger.specs.State.{State, no_branch_counts, no_counts, TiledState}
use Rattle.gob_ledger.specs.Units.{span_of}
use Rattle.gob_ledger.specs.Next.{Judged, no_marks, insert_done, with_owed, with_done, change_part, add_unit}
use Rattle.gob_ledger.specs.Next.{finish_unit, fold_units, counts_in, plus, with_pipeline, pipeline_index}
use Rattle.gob_ledger.specs.Next.{state_with_commit_or, allowed_units, next_state}
use Rattle.gob_ledger.specs.Totals.{span_counts, plan_at, counts_where, done_counts, part_counts, sum_counts}
use Rattle.gob_ledger.specs.Totals.{counted_in, branch_at}
use Rattle.gob_ledger.specs.Laws.{CountsAre, NextTotals}
use Rattle.gob_ledger.proofs.Members.{first_in, later_in, in_flat_map, in_map}
use Rattle.gob_ledger.proofs.Changes.{marks_or, adds-pipelines, finishes-pipelines, with-parts, pipeline_there}
use Rattle.gob_ledger.proofs.Changes.{pipeline_stays}
use Rattle.gob_ledger.proofs.Grown.{map_alike, flat_map_alike}
use Rattle.gob_ledger.proofs.Properly.{with-totals}
use Rattle.gob_jobs.specs.Plans.{plan_of}

-- the end of a u64
abbrev pub most : ℕ
most = 2 ^ 64 - 1

-- one of the counts, which sums add
pub record Adds (g : Counts → ℕ) : Type 0 where
  pub none : g (no_counts 0) ≡ 0
  pub joins : (a b : Counts) → saturate_u64 (g (sum_of a b)) ≡ saturate_u64 (g a + g b)
  pub stays : (a b : Counts) → g a ≤ most → g b ≤ most → g (sum_of a b) ≤ most
  pub small : (plan : Plan) (fold : List Folded) → g (counts_of plan fold) ≤ most

twice : (n : ℕ) → saturate_u64 (saturate_u64 n) ≡ saturate_u64 n
twice n = omega arith

below : (n : ℕ) → saturate_u64 n ≤ most
below n = omega arith

pub records_add : Adds (λ c. c.records)
unfolding sum_of counts_of
records_add = record {
  none = refl;
  joins = λ a b. twice (a.records + b.records);
  stays = λ a b x y.
      below (a.records + b.records);
  small = λ plan fold. below _;
}

pub bad_add : Adds (λ c. c.bad)
unfolding sum_of counts_of
bad_add = record {
  none = refl;
  joins = λ a b. twice (a.bad + b.bad);
  stays = λ a b x y. below (a.bad + b.bad);
  small =
      λ plan fold. below _;
}

pub rows_add : Adds (λ c. c.rows)
unfolding sum_of counts_of
rows_add = record {
  none = refl;
  joins = λ a b. twice (a.rows + b.rows);
  stays = λ a b x y.
      below (a.rows + b.rows);
  small = λ plan fold. below _;
}

pub unrouted_add : Adds (λ c. c.unrouted)
unfolding sum_of counts_of
unrouted_add = record {
  none = refl;
  joins = λ a b. twice (a.unrouted + b.unrouted);
  stays = λ a b x y.
      below (a.unrouted + b.unrouted);
  small = λ plan fold. below _;
}

-- one of a branch's counts
record OfBranch (h : BranchCounts → ℕ) : Type 0 where
  none : h no_branch_counts ≡ 0
  joins : (a b : BranchCounts) → h (both_branches a b) ≡ saturate_u64 (h a + h b)
  small : (fold : List Folded) (k : ℕ) → h (branch_counts fold k) ≤ most

abbrev pub branch_or : List BranchCounts → ℕ → BranchCounts
branch_or bs i = unwrap_or (slice_get bs i) no_branch_counts

from_none : (n m : ℕ) → n ≡ 0 → saturate_u64 m ≡ saturate_u64 (n + m)
from_none n m e = omega arith

to_none : (n m : ℕ) → m ≡ 0 → saturate_u64 n ≡ saturate_u64 (n + m)
to_none n m e = omega arith

sums_join : (h : BranchCounts → ℕ) → OfBranch h → (xs ys : List BranchCounts) (i : ℕ)
    → saturate_u64 (h (branch_or (branch_sums xs ys) i)) ≡ saturate_u64 (h (branch_or xs i) + h (branch_or ys i))
sums_join h o [] ys i = from_none (h no_branch_counts) (h (branch_or ys i)) o.none
sums_join h o (x ∷ xs) [] i = to_none (h (branch_or (x ∷ xs) i)) (h no_branch_counts) o.none
sums_join h o (x ∷ xs) (y ∷ ys) zero = ap saturate_u64 (o.joins x y) ∙ twice (h x + h y)
sums_join h o (x ∷ xs) (y ∷ ys) (suc i) = sums_join h o xs ys i

sums_stay : (h : BranchCounts → ℕ) → OfBranch h → (xs ys : List BranchCounts) (i : ℕ) → h (branch_or xs i) ≤ most
    → h (branch_or ys i) ≤ most → h (branch_or (branch_sums xs ys) i) ≤ most
sums_stay h o [] ys i a b = b
sums_stay h o (x ∷ xs) [] i a b = a
sums_stay h o (x ∷ xs) (y ∷ ys) zero a b = subst (λ n. n ≤ most) (sym (o.joins x y)) (below (h x + h y))
sums_stay h o (x ∷ xs) (y ∷ ys) (suc i) a b = sums_stay h o xs ys i a b

map_small : (h : BranchCounts → ℕ) → OfBranch h → (fold : List Folded) (ks : List ℕ) (i : ℕ)
    → h (branch_or (map (branch_counts fold) ks) i) ≤ most
map_small h o fold [] i = let e = o.none in omega (arith, e)
map_small h o fold (k ∷ ks) zero = o.small fold k
map_small h o fold (k ∷ ks) (suc i) = map_small h o fold ks i

branches_add : (h : BranchCounts → ℕ) → OfBranch h → (i : ℕ) → Adds (λ c. h (branch_at c i))
unfolding sum_of counts_of
branches_add h o i = record {
  none = o.none;
  joins = λ a b. sums_join h o a.branches b.branches i;
  stays = λ a b x y. sums_stay h o a.branches b.branches i x y;
  small = λ plan fold. map_small h o fold (range_with_len 0 (length plan.branches)) i;
}

pub written_add : (i : ℕ) → Adds (λ c. (branch_at c i).written)
written_add i = branches_add (λ b. b.written) (record { none = refl; joins = λ a b. refl; small = λ fold k. below _ }) i

pub errors_add : (i : ℕ) → Adds (λ c. (branch_at c i).errors)
errors_add i = branches_add (λ b. b.errors) (record { none = refl; joins = λ a b. refl; small = λ fold k. below _ }) i

pub optional_add : (i : ℕ) → Adds (λ c. (branch_at c i).optional)
optional_add i = branches_add (λ b. b.optional) (record { none = refl; joins = λ a b. refl; small = λ fold k. below _ })
    i

-- ---- sums over lists

abbrev pub total : (Counts → ℕ) → List Counts → ℕ
total g [] = 0
total g (c ∷ cs) = g c + total g cs

total-append : (g : Counts → ℕ) (xs ys : List Counts) → total g (xs ++ ys) ≡ total g xs + total g ys
total-append g [] ys = omega arith
total-append g (x ∷ xs) ys = omega (arith, total-append g xs ys)

-- every count is within its limit
abbrev pub AllSmall : (Counts → ℕ) → List Counts → Type 0
AllSmall g cs = (c : Counts) → Contains cs c → g c ≤ most

capped_more : (n m : ℕ) → saturate_u64 (n + saturate_u64 m) ≡ saturate_u64 (n + m)
capped_more n m = omega arith

capped_of : (n : ℕ) → n ≤ most → saturate_u64 n ≡ n
capped_of n le = omega arith

sum_small : (g : Counts → ℕ) → Adds g → (cs : List Counts) → AllSmall g cs → g (sum_counts cs) ≤ most
sum_small g a [] small = let e = a.none in omega (arith, e)
sum_small g a (c ∷ cs) small = a.stays c (sum_counts cs) (small c (first_in c cs c refl))
    (sum_small g a cs (λ x h. small x (later_in c cs x h)))

sum_is : (g : Counts → ℕ) → Adds g → (cs : List Counts) → AllSmall g cs → g (sum_counts cs) ≡ saturate_u64 (total g cs)
sum_is g a [] small = let e = a.none in omega (arith, e)
sum_is g a (c ∷ cs) small =
    sym (capped_of (g (sum_counts (c ∷ cs))) (sum_small g a (c ∷ cs) small))
    ∙ (a.joins c (sum_counts cs)
    ∙ (ap (λ n. saturate_u64 (g c + n)) (sum_is g a cs (λ x h. small x (later_in c cs x h)))
    ∙ capped_more (g c) (total g cs)))

-- ---- sums over a state

abbrev pub ranges_total : (Counts → ℕ) → List (List ℕ) → Held → List ℕ → List Done → ℕ
ranges_total g pipes archive part ds = total g (map (done_counts pipes archive part) ds)

abbrev pub table_total : (Counts → ℕ) → List (List ℕ) → Held → Table Marks → ℕ
table_total g pipes archive t = total g (flat_map (part_counts pipes archive) t)

insert_total : (g : Counts → ℕ) (pipes : List (List ℕ)) (archive : Held) (part : List ℕ) (d : Done) (es : List Done)
    → ranges_total g pipes archive part (insert_done d es) ≡ g (done_counts pipes archive part d) + ranges_total g pipes
    archive part es
insert_total g pipes archive part d [] = refl
insert_total g pipes archive part d (e ∷ es) = elim (nat_lt d.span.lo e.span.lo) as
    (λ b. ranges_total g pipes archive part (cond b (d ∷ e ∷ es) (e ∷ insert_done d es)) ≡ g
    (done_counts pipes archive part d) + ranges_total g pipes archive part (e ∷ es)) [
      | true ↦ refl
      | false ↦ omega (arith, insert_total g pipes archive part d es)
    ]

-- the total of a partition, which has none at first
abbrev at_total : (Counts → ℕ) → List (List ℕ) → Held → List ℕ → Option Marks → ℕ
at_total g pipes archive part o = ranges_total g pipes archive part (unwrap_or o no_marks).finished

table_changed : (g : Counts → ℕ) (pipes : List (List ℕ)) (archive : Held) (t : Table Marks) (part : List ℕ) (m : Marks)
    → IsInByteOrder (names_of t)
    → table_total g pipes archive (with_name t part m) + at_total g pipes archive part (at_name t part) ≡ table_total g
    pipes archive t + ranges_total g pipes archive part m.finished
table_changed g pipes archive [] part m rising = omega (
  arith,
  total-append g (map (done_counts pipes archive part) m.finished) [],
)
table_changed g pipes archive (e ∷ es) part m rising = cases (name_cmp part e.0) refl
    (table_changed g pipes archive es part m (rising_tail e.0 (names_of es) rising))
  where
    joined : total g (flat_map (part_counts pipes archive) (e ∷ es)) ≡ ranges_total g pipes archive e.0 e.1.finished +
        table_total g pipes archive es
    joined = total-append g (map (done_counts pipes archive e.0) e.1.finished) (flat_map (part_counts pipes archive) es)

    cases : (o : Ordering) → name_cmp part e.0 ≡ o
        → table_total g pipes archive (with_name es part m) + at_total g pipes archive part (at_name es part) ≡
        table_total g pipes archive es + ranges_total g pipes archive part m.finished
        → table_total g pipes archive (with_name (e ∷ es) part m) + at_total g pipes archive part
        (at_name (e ∷ es) part) ≡ table_total g pipes archive (e ∷ es) + ranges_total g pipes archive part
        m.finished
    cases Less is later =
        let gone : at_name (e ∷ es) part ≡ None = none_below (e ∷ es) part (is, rising) in
        let none : at_total g pipes archive part (at_name (e ∷ es) part) ≡ 0 =
        ap (at_total g pipes archive part) gone in
        let first : total g (flat_map (part_counts pipes archive) ((part, m) ∷ e ∷ es)) ≡ ranges_total g pipes archive
        part m.finished + table_total g pipes archive (e ∷ es) =
        total-append g (map (done_counts pipes archive part) m.finished) (flat_map (part_counts pipes archive) (e ∷ es))
        in
        let placed : with_name (e ∷ es) part m ≡ (part, m) ∷ e ∷ es = rw is in
        let all : table_total g pipes archive (with_name (e ∷ es) part m) ≡ table_total g pipes archive
        ((part, m) ∷ e ∷ es) = ap (table_total g pipes archive) placed in
        omega (arith, none, first, all)
    cases Equal is later =
        let same : part ≡ e.0 = level_names part e.0 is in
        let here : at_name (e ∷ es) part ≡ Some e.1 = ap (at_name (e ∷ es)) same ∙ at_head e es in
        let old : at_total g pipes archive part (at_name (e ∷ es) part) ≡ ranges_total g pipes archive e.0 e.1.finished
        = ap (at_total g pipes archive part) here ∙ ap (λ n. ranges_total g pipes archive n e.1.finished) same in
        let first : total g (flat_map (part_counts pipes archive) ((part, m) ∷ es)) ≡ ranges_total g pipes archive part
        m.finished + table_total g pipes archive es =
        total-append g (map (done_counts pipes archive part) m.finished) (flat_map (part_counts pipes archive) es) in
        let placed : with_name (e ∷ es) part m ≡ (part, m) ∷ es = rw is in
        let all : table_total g pipes archive (with_name (e ∷ es) part m) ≡ table_total g pipes archive ((part, m) ∷ es)
        = ap (table_total g pipes archive) placed in
        omega (arith, old, first, all, joined)
    cases Greater is later =
        let apart = two_names part e.0 (λ same. less_apart e.0 part (greater_less part e.0 is) (sym same)) in
        let old : at_total g pipes archive part (at_name (e ∷ es) part) ≡ at_total g pipes archive part
        (at_name es part) = ap (at_total g pipes archive part) (at_tail e es part apart) in
        let first : total g (flat_map (part_counts pipes archive) (e ∷ with_name es part m)) ≡ ranges_total g pipes
        archive e.0 e.1.finished + table_total g pipes archive (with_name es part m) =
        total-append g (map (done_counts pipes archive e.0) e.1.finished)
        (flat_map (part_counts pipes archive) (with_name es part m)) in
        let placed : with_name (e ∷ es) part m ≡ e ∷ with_name es part m = rw is in
        let all : table_total g pipes archive (with_name (e ∷ es) part m) ≡ table_total g pipes archive
        (e ∷ with_name es part m) = ap (table_total g pipes archive) placed in
        omega (arith, old, first, all, joined, later)

-- ---- a run

owing_total : (g : Counts → ℕ) (pipes : List (List ℕ)) (archive : Held) (s : State) (j : Judged)
    → IsInByteOrder (names_of s.parts) → table_total g pipes archive (add_unit s j).parts ≡ table_total g pipes archive
    s.parts
owing_total g pipes archive s j rising = elim j.0.fresh as (λ b.
    table_total g pipes archive (cond b (change_part (with_owed (span_of j.0)) j.0.part s) s).parts ≡ table_total g
    pipes archive s.parts) [
      | true ↦ (let e = table_changed g pipes archive s.parts j.0.part (with_owed (span_of j.0) (marks_or s j.0.part))
          rising in omega (arith, e))
      | false ↦ refl
    ]

add_rising : (s : State) (j : Judged) → IsInByteOrder (names_of s.parts) → IsInByteOrder (names_of (add_unit s j).parts)
add_rising s j r = elim j.0.fresh as (λ b. IsInByteOrder (names_of
    (cond b (change_part (with_owed (span_of j.0)) j.0.part s) s).parts)) [
      | true ↦ rising-with_name s.parts j.0.part (with_owed (span_of j.0) (marks_or s j.0.part)) r
      | false ↦ r
    ]

add_totals : (s : State) (j : Judged) → (add_unit s j).totals ≡ s.totals
add_totals s j = elim j.0.fresh as (λ b. (cond b (change_part (with_owed (span_of j.0)) j.0.part s) s).totals ≡
    s.totals) [ true ↦ refl | false ↦ refl ]

record Kept (g : Counts → ℕ) (pipes : List (List ℕ)) (archive : Held) (s t : State) : Type 0 where
  rising : IsInByteOrder (names_of t.parts)
  table : table_total g pipes archive t.parts ≡ table_total g pipes archive s.parts
  totals : t.totals ≡ s.totals

adds_keep : (g : Counts → ℕ) (pipes : List (List ℕ)) (archive : Held) (js : List Judged) (s : State)
    → IsInByteOrder (names_of s.parts) → Kept g pipes archive s (fold_units add_unit s js)
adds_keep g pipes archive [] s rising = record { rising = rising; table = refl; totals = refl }
adds_keep g pipes archive (j ∷ js) s rising =
    let rest = adds_keep g pipes archive js (add_unit s j) (add_rising s j rising) in
    record {
      rising = rest.rising;
      table = rest.table ∙ owing_total g pipes archive s j rising;
      totals = rest.totals
          ∙ add_totals s j;
    }

-- the totals are what the ranges made, and within their limit
record IsTotal (g : Counts → ℕ) (pipes : List (List ℕ)) (archive : Held) (s : State) : Type 0 where
  is : g s.totals ≡ saturate_u64 (table_total g pipes archive s.parts)

finish_total : (g : Counts → ℕ) → Adds g → (pipes : List (List ℕ)) (archive : Held) (p : ℕ) (plan : Plan) (s : State)
    (j : Judged) → IsInByteOrder (names_of s.parts) → plan_at pipes p ≡ Some plan
    → counts_in j.1 ≡ Some (span_counts plan archive j.0.part (span_of j.0)) → IsTotal g pipes archive s
    → IsTotal g pipes archive (finish_unit p s j)
finish_total g a pipes archive p plan s j rising at counted t =
    let c = span_counts plan archive j.0.part (span_of j.0) in
    let m = marks_or s j.0.part in
    let e : table_total g pipes archive (finish_unit p s j).parts + ranges_total g pipes archive j.0.part m.finished ≡
    table_total g pipes archive s.parts + ranges_total g pipes archive j.0.part
    (with_done p (span_of j.0) m).finished =
    table_changed g pipes archive s.parts j.0.part (with_done p (span_of j.0) m) rising in
    let i : ranges_total g pipes archive j.0.part (with_done p (span_of j.0) m).finished ≡ g
    (done_counts pipes archive j.0.part (record { span = span_of j.0; pipeline = p })) + ranges_total g pipes
    archive j.0.part m.finished =
    insert_total g pipes archive j.0.part (record { span = span_of j.0; pipeline = p }) m.finished in
    let d : g (done_counts pipes archive j.0.part (record { span = span_of j.0; pipeline = p })) ≡ g c =
    ap (λ o. g (counts_where o archive j.0.part (span_of j.0))) at in
    let new : table_total g pipes archive (finish_unit p s j).parts ≡ table_total g pipes archive s.parts + g c =
    omega (arith, e, i, d) in
    let is : g (finish_unit p s j).totals ≡ g (sum_of s.totals c) = ap (λ o. g (plus s.totals o)) counted in
    let small : g s.totals ≤ most = subst (λ n. n ≤ most) (sym t.is) (below (table_total g pipes archive s.parts)) in
    let joined = a.joins s.totals c in
    let stays = a.stays s.totals c small (a.small plan _) in
    record {
      is = is ∙ (sym (capped_of (g (sum_of s.totals c)) stays)
          ∙ (joined ∙ (ap (λ n. saturate_u64 (n + g c)) t.is ∙ (capped_less (table_total g pipes archive s.parts) (g c)
          ∙ ap saturate_u64 (sym new)))));
    }
  where
    capped_less : (n k : ℕ) → saturate_u64 (saturate_u64 n + k) ≡ saturate_u64 (n + k)
    capped_less n k = omega arith

finishes_total : (g : Counts → ℕ) → Adds g → (pipes : List (List ℕ)) (archive : Held) (p : ℕ) (plan : Plan)
    (js : List Judged) (s : State) → IsInByteOrder (names_of s.parts) → plan_at pipes p ≡ Some plan
    → CountsAre archive plan js → IsTotal g pipes archive s → IsTotal g pipes archive (fold_units (finish_unit p) s js)
finishes_total g a pipes archive p plan [] s rising at counted t = t
finishes_total g a pipes archive p plan (j ∷ js) s rising at counted t =
    finishes_total g a pipes archive p plan js (finish_unit p s j)
    (rising-with_name s.parts j.0.part (with_done p (span_of j.0) (marks_or s j.0.part)) rising) at
    (λ k h. counted k (later_in j js k h))
    (finish_total g a pipes archive p plan s j rising at (counted j (first_in j js j refl)) t)

where_small : (g : Counts → ℕ) → Adds g → (o : Option Plan) (archive : Held) (part : List ℕ) (s : Span)
    → g (counts_where o archive part s) ≤ most
where_small g a None archive part s = let e = a.none in omega (arith, e)
where_small g a (Some plan) archive part s = a.small plan _

all_small : (g : Counts → ℕ) → Adds g → (pipes : List (List ℕ)) (archive : Held) (t : Table Marks)
    → AllSmall g (flat_map (part_counts pipes archive) t)
all_small g a pipes archive t c h =
    let x = in_flat_map (part_counts pipes archive) t c h in
    let y = in_map (done_counts pipes archive x.0.0) x.0.1.finished c x.2 in
    subst (λ n. g n ≤ most) y.2 (where_small g a (plan_at pipes y.0.pipeline) archive x.0.0 y.0.span)

counted_is : (g : Counts → ℕ) → Adds g → (s : State) (archive : Held)
    → g (counted_in s archive) ≡ saturate_u64 (table_total g s.pipelines archive s.parts)
unfolding counted_in
counted_is g a s archive = sum_is g a (flat_map (part_counts s.pipelines archive) s.parts)
    (all_small g a s.pipelines archive s.parts)

-- a pipeline that is new changes nothing of what ranges made by others made
same_plan : (p : List ℕ) (s : State) (k : ℕ) → k < length s.pipelines
    → plan_at (with_pipeline p s).pipelines k ≡ plan_at s.pipelines k
same_plan p s k below = ap (λ o. option_and_then plan_of o) (pipeline_stays p s k below)

same_table : (p : List ℕ) (s : State) (archive : Held) → TiledState s → IsInByteOrder (names_of s.parts)
    → flat_map (part_counts (with_pipeline p s).pipelines archive) s.parts ≡ flat_map (part_counts s.pipelines archive)
    s.parts
same_table p s archive tiled rising =
    flat_map_alike (part_counts (with_pipeline p s).pipelines archive) (part_counts s.pipelines archive) s.parts
    (λ e h. map_alike (done_counts (with_pipeline p s).pipelines archive e.0) (done_counts s.pipelines archive e.0)
    e.1.finished
    (λ d k. ap (λ o. counts_where o archive e.0 d.span) (same_plan p s d.pipeline
    (tiled.indexed e.0 e.1 d (at_from_member s.parts e.0 e.1 rising h) k))))

committed_total : (g : Counts → ℕ) → Adds g → (s : State) (pipeline : List ℕ) (plan : Plan) (archive : Held)
    (all done : List Judged) → TiledState s → IsInByteOrder (names_of s.parts) → plan_of pipeline ≡ Some plan
    → CountsAre archive plan done
    → g s.totals ≡ g (counted_in s archive) → g (state_with_commit_or s pipeline all done).totals ≡ g
    (counted_in (state_with_commit_or s pipeline all done) archive)
committed_total g a s pipeline plan archive all [] tiled rising is counted same = same
committed_total g a s pipeline plan archive all (d ∷ ds) tiled rising is counted same =
    let start = with_pipeline pipeline s in
    let pipes = start.pipelines in
    let p = pipeline_index pipeline s in
    let risen : IsInByteOrder (names_of start.parts) = subst (λ t. IsInByteOrder (names_of t))
    (sym (with-parts pipeline s)) rising in
    let kept = adds_keep g pipes archive all start risen in
    let at : plan_at pipes p ≡ Some plan = ap (λ o. option_and_then plan_of o) (pipeline_there pipeline s) ∙ is in
    let old : table_total g pipes archive start.parts ≡ table_total g s.pipelines archive s.parts =
    ap (table_total g pipes archive) (with-parts pipeline s)
    ∙ ap (total g) (same_table pipeline s archive tiled rising) in
    let first : IsTotal g pipes archive (fold_units add_unit start all) = record {
      is =
          ap g (kept.totals ∙ with-totals pipeline s) ∙ (same
          ∙ (counted_is g a s archive ∙ ap saturate_u64 (sym (kept.table ∙ old))));
    } in
    let last = finishes_total g a pipes archive p plan (d ∷ ds) (fold_units add_unit start all) kept.rising at counted
    first in
    let end = fold_units (finish_unit p) (fold_units add_unit start all) (d ∷ ds) in
    let its : end.pipelines ≡ pipes = finishes-pipelines p (d ∷ ds) (fold_units add_unit start all)
    ∙ adds-pipelines all start in
    last.is ∙ sym (counted_is g a (state_with_commit_or s pipeline all (d ∷ ds)) archive
    ∙ ap (λ ps. saturate_u64 (table_total g ps archive end.parts)) its)

same_branch : (x y : BranchCounts) → x.written ≡ y.written → x.errors ≡ y.errors → x.optional ≡ y.optional → x ≡ y
same_branch x y a b c = λ i. record { written = a i; errors = b i; optional = c i }

pub totals_stay : NextTotals
unfolding next_state
totals_stay s pipeline plan units verdicts policy archive tiled rising is counted same =
    let all = zip units verdicts in
    let done = allowed_units policy all in
    let t = state_with_commit_or s pipeline all done in
    let one : (g : Counts → ℕ) → Adds g → g s.totals ≡ g (counted_in s archive)
    → g t.totals ≡ g (counted_in t archive) = λ g a e. committed_total g a s pipeline plan archive all done tiled
    rising is counted e in
    record {
      records = one (λ c. c.records) records_add same.records;
      bad = one (λ c. c.bad) bad_add same.bad;
      rows = one (λ c. c.rows) rows_add same.rows;
      unrouted = one (λ c. c.unrouted) unrouted_add same.unrouted;
      branches = λ i. same_branch (branch_at t.totals i) (branch_at (counted_in t archive) i)
          (one (λ c. (branch_at c i).written) (written_add i) (ap (λ (b : BranchCounts). b.written) (same.branches i)))
          (one (λ c. (branch_at c i).errors) (errors_add i) (ap (λ (b : BranchCounts). b.errors) (same.branches i)))
          (one (λ c. (branch_at c i).optional) (optional_add i)
          (ap (λ (b : BranchCounts). b.optional) (same.branches i)));
    }
