-- How a state's file and a change's file are read, part by part: what was written reads back.
use Rattle.std.proofs.Common.{◌≡◌, inl, inr, ℕ, zero, suc, ◌+◌, ◌<◌, ◌≤◌, Bool, true, false, cond, nat_lt, nat_le}
use Rattle.std.proofs.Common.{nat_eq, ◌&&◌, List, [], ◌∷◌, ◌++◌, map, length, take, drop, refl, sym, ap, ◌∙◌, Some}
use Rattle.std.proofs.Common.{None, option_map, append_assoc, append-nil, All, codes, arith}
use Rattle.std.specs.declared.option.Option.{Option}
use Rattle.std.specs.List.{AllByRecursion, enumerate_from, flat_map}
use Rattle.std.specs.Fmt.{decimal}
use Rattle.std.specs.Str.{bytes_eq}
use Rattle.std.proofs.lemmas.Bool.{cond-true, le-leb, lt-ltb, eq-eqb}
use Rattle.std.proofs.lemmas.List.Elements.{recursion_from_All}
use Rattle.std.proofs.lemmas.List.{length-map}
use Rattle.std.proofs.Math.Seq.{drop-append_seam}
use Rattle.gob_bytes.specs.Escapes.{escape_of}
use Rattle.gob_bytes.specs.Tables.{Table}
use Rattle.gob_plan.specs.declared.units.BranchCounts.{BranchCounts}
use Rattle.gob_plan.specs.declared.units.Counts.{Counts}
use Rattle.gob_ledger.specs.Marks.{Marks, Done, Span, InOrder}
use Rattle.gob_ledger.specs.State.{State}
use Rattle.gob_ledger.specs.Next.{no_marks}
use Rattle.gob_ledger.specs.Spelling.{Small, SmallBranch, SmallCounts, Version, version_1, version_2, version_number}
use Rattle.gob_ledger.specs.Spelling.{line_count}
use Rattle.gob_jobs.specs.Pipelines.{IsSetting, setting_line, Setting}
use Rattle.gob_ledger.proofs.WordLines.{WordLine, IsWord, AreWords, lines_text}
use Rattle.gob_ledger.proofs.ReadingWords.{number_line, numbers_after, numbers_line_read, bytes_read}
use Rattle.gob_ledger.proofs.ReadingWords.{escaped_read, numbers_read, numbers_back}
use Rattle.gob_ledger.proofs.Members.{map_in}
use Rattle.gob_ledger.proofs.Ranges.{order_members}
use Rattle.gob_ledger.proofs.StateLines.{from_members, setting_words, settings_in, settings_back, HasLines}
use Rattle.gob_ledger.proofs.StateLines.{pipeline_lines, lines_of, pipelines_lines, branch_words, totals_lines, Range}
use Rattle.gob_ledger.proofs.StateLines.{range_words, put_range, mixed, mixed_each, rises_from, part_lines, RangeFits}
use Rattle.gob_ledger.proofs.StateLines.{PartFits, mixed_fits, end_line, contents_lines, ContentsFit, version_small}

-- what the first lines read as, and the lines behind them
abbrev pub Read : Type 0 → Type 0
Read X = Option (X × List WordLine)

abbrev pub and_then : {X : Type 0} {Y : Type 0} → Read X → (X → List WordLine → Option Y) → Option Y
and_then None f = None
and_then (Some p) f = f p.0 p.1

-- ---- one number

abbrev pub only_number : Option (List ℕ) → List WordLine → Read ℕ
only_number None ls = None
only_number (Some []) ls = None
only_number (Some (n ∷ [])) ls = Some (n, ls)
only_number (Some (n ∷ m ∷ ns)) ls = None

-- a line of this word and one number
abbrev pub number_after : List ℕ → List WordLine → Read ℕ
number_after word [] = None
number_after word (l ∷ ls) = only_number (numbers_after word l) ls

pub number_line_read : (word : List ℕ) (n : ℕ) (ls : List WordLine) → Small n
    → number_after word (number_line word (n ∷ []) ∷ ls) ≡ Some (n, ls)
number_line_read word n ls small = ap (λ o. only_number o ls) (numbers_line_read word (n ∷ []) (small, tt))

-- ---- pipelines

abbrev pub text_of : Option (List Setting) → List WordLine → Read (List ℕ)
text_of None rest = None
text_of (Some ss) rest = Some (flat_map setting_line ss, rest)

-- the text of so many settings, each a line
abbrev pub text_of_lines : ℕ → List WordLine → Read (List ℕ)
text_of_lines n ls = cond (nat_le n (length ls)) (text_of (settings_in (take n ls)) (drop n ls)) None

abbrev pub pipeline_read : List WordLine → Read (List ℕ)
pipeline_read ls = and_then (number_after (codes "pipeline") ls) text_of_lines

abbrev pub with_pipeline_read : List ℕ → Read (List (List ℕ)) → Read (List (List ℕ))
with_pipeline_read p None = None
with_pipeline_read p (Some r) = Some (p ∷ r.0, r.1)

-- so many pipelines
abbrev pub pipelines_from : ℕ → List WordLine → Read (List (List ℕ))
pipelines_from zero ls = Some ([], ls)
pipelines_from (suc k) ls = and_then (pipeline_read ls) (λ p rest. with_pipeline_read p (pipelines_from k rest))

-- their number stands in front, or is known
abbrev pub pipelines_read : Option ℕ → List WordLine → Read (List (List ℕ))
pipelines_read None ls = and_then (number_after (codes "pipelines") ls) pipelines_from
pipelines_read (Some k) ls = pipelines_from k ls

take_front : (xs ys : List WordLine) → take (length xs) (xs ++ ys) ≡ xs
take_front [] ys = refl
take_front (x ∷ xs) ys = ap (λ (zs : List WordLine). x ∷ zs) (take_front xs ys)

front_within : (xs ys : List WordLine) → length xs ≤ length (xs ++ ys)
front_within [] ys = omega arith
front_within (x ∷ xs) ys = let r = front_within xs ys in omega (arith, r)

text_read : (ss : List Setting) (ys : List WordLine) → All (λ (s : Setting). IsSetting s.0 s.1) ss
    → text_of_lines (length ss) (map setting_words ss ++ ys) ≡ Some (flat_map setting_line ss, ys)
text_read ss ys all =
    let xs : List WordLine = map setting_words ss in
    let n : length xs ≡ length ss = length-map ss setting_words in
    ap (λ k. text_of_lines k (xs ++ ys)) (sym n)
    ∙ cond-true (nat_le (length xs) (length (xs ++ ys))) _ None
    (le-leb (length xs) (length (xs ++ ys)) (front_within xs ys))
    ∙ (λ i. text_of (settings_in (take_front xs ys i)) (drop-append_seam xs ys i))
    ∙ ap (λ o. text_of o ys) (settings_back ss all)

pipeline_back : (p : List ℕ) (ls : List WordLine) → HasLines p → pipeline_read (pipeline_lines p ++ ls) ≡ Some (p, ls)
pipeline_back p ls h =
    ap (λ r. and_then r text_of_lines)
    (number_line_read (codes "pipeline") (line_count p) (lines_of p ++ ls) h.small)
    ∙ (λ i. text_of_lines (sym h.count i) (h.lines i ++ ls))
    ∙ text_read h.settings ls h.each
    ∙ ap (λ x. Some (x, ls)) (sym h.text)

pipelines_back : (ps : List (List ℕ)) (ls : List WordLine) → AllByRecursion HasLines ps
    → pipelines_from (length ps) (flat_map pipeline_lines ps ++ ls) ≡ Some (ps, ls)
pipelines_back [] ls h = refl
pipelines_back (p ∷ ps) ls h =
    ap (pipelines_from (suc (length ps))) (append_assoc (pipeline_lines p) (flat_map pipeline_lines ps) ls)
    ∙ ap (λ r. and_then r (λ q rest. with_pipeline_read q (pipelines_from (length ps) rest)))
    (pipeline_back p (flat_map pipeline_lines ps ++ ls) h.0)
    ∙ ap (with_pipeline_read p) (pipelines_back ps ls h.1)

-- the number of pipelines is the one that is known
abbrev pub AsMany : Option ℕ → List (List ℕ) → Type 0
AsMany None ps = Unit {0}
AsMany (Some k) ps = length ps ≡ k

pipelines_lines_read : (how : Option ℕ) (ps : List (List ℕ)) (ls : List WordLine) → AsMany how ps → Small (length ps)
    → AllByRecursion HasLines ps
    → pipelines_read how (pipelines_lines how ps ++ ls) ≡ Some (ps, ls)
pipelines_lines_read None ps ls many few h =
    ap (λ r. and_then r pipelines_from)
    (number_line_read (codes "pipelines") (length ps) (flat_map pipeline_lines ps ++ ls) few)
    ∙ pipelines_back ps ls h
pipelines_lines_read (Some k) ps ls many few h =
    ap (λ n. pipelines_from n (flat_map pipeline_lines ps ++ ls)) (sym many) ∙ pipelines_back ps ls h

-- ---- totals

-- the counts of the branch with this index
abbrev pub branch_of : ℕ → Option (List ℕ) → Option BranchCounts
branch_of i None = None
branch_of i (Some []) = None
branch_of i (Some (a ∷ [])) = None
branch_of i (Some (a ∷ b ∷ [])) = None
branch_of i (Some (a ∷ b ∷ c ∷ [])) = None
branch_of i (Some (a ∷ b ∷ c ∷ d ∷ [])) =
    cond (nat_eq a i) (Some (record { written = b; errors = c; optional = d })) None
branch_of i (Some (a ∷ b ∷ c ∷ d ∷ e ∷ ns)) = None

abbrev pub with_branch : Option BranchCounts → List BranchCounts × List WordLine → List WordLine
    → List BranchCounts × List WordLine
with_branch None later here = ([], here)
with_branch (Some c) later here = (c ∷ later.0, later.1)

-- as many lines of branches as there are, from this index on
abbrev pub branches_from : ℕ → List WordLine → List BranchCounts × List WordLine
branches_from i [] = ([], [])
branches_from i (l ∷ ls) =
    with_branch (branch_of i (numbers_after (codes "branch") l)) (branches_from (i + 1) ls) (l ∷ ls)

abbrev pub totals_of : Option (List ℕ) → List BranchCounts × List WordLine → Read Counts
totals_of None r = None
totals_of (Some []) r = None
totals_of (Some (a ∷ [])) r = None
totals_of (Some (a ∷ b ∷ [])) r = None
totals_of (Some (a ∷ b ∷ c ∷ [])) r = None
totals_of (Some (a ∷ b ∷ c ∷ d ∷ [])) r =
    Some (record { records = a; bad = b; rows = c; unrouted = d; branches = r.0 }, r.1)
totals_of (Some (a ∷ b ∷ c ∷ d ∷ e ∷ ns)) r = None

abbrev pub totals_read : List WordLine → Read Counts
totals_read [] = None
totals_read (l ∷ ls) = totals_of (numbers_after (codes "totals") l) (branches_from 0 ls)

-- no line of a branch stands here
abbrev pub NoBranch : List WordLine → Type 0
NoBranch [] = Unit {0}
NoBranch (l ∷ ls) = bytes_eq l.0 (codes "branch") ≡ false

branches_end : (i : ℕ) (ls : List WordLine) → NoBranch ls → branches_from i ls ≡ ([], ls)
branches_end i [] free = refl
branches_end i (l ∷ ls) free =
    ap (λ b. with_branch (branch_of i (cond b (numbers_read l.1) None)) (branches_from (i + 1) ls) (l ∷ ls)) free

branches_back : (i : ℕ) (bs : List BranchCounts) (ls : List WordLine) → i + length bs ≤ 8
    → AllByRecursion SmallBranch bs → NoBranch ls
    → branches_from i (map branch_words (enumerate_from i bs) ++ ls) ≡ (bs, ls)
branches_back i [] ls few small free = branches_end i ls free
branches_back i (b ∷ bs) ls few small free =
    let numbers : List ℕ = i ∷ b.written ∷ b.errors ∷ b.optional ∷ [] in
    let rest : List WordLine = map branch_words (enumerate_from (i + 1) bs) ++ ls in
    let here : List WordLine = branch_words (i, b) ∷ rest in
    let smalls : AllByRecursion Small numbers =
    (omega (arith, few), (small.0.written, (small.0.errors, (small.0.optional, tt)))) in
    ap (λ o. with_branch (branch_of i o) (branches_from (i + 1) rest) here)
    (numbers_line_read (codes "branch") numbers smalls)
    ∙ ap (λ t. with_branch (cond t (Some b) None) (branches_from (i + 1) rest) here) (eq-eqb i i refl)
    ∙ ap (λ r. with_branch (Some b) r here) (branches_back (i + 1) bs ls (omega (arith, few)) small.1 free)

totals_lines_read : (c : Counts) (ls : List WordLine) → SmallCounts c → length c.branches ≤ 8 → NoBranch ls
    → totals_read (totals_lines c ++ ls) ≡ Some (c, ls)
totals_lines_read c ls small few free =
    let numbers : List ℕ = c.records ∷ c.bad ∷ c.rows ∷ c.unrouted ∷ [] in
    let rest : List WordLine = map branch_words (enumerate_from 0 c.branches) ++ ls in
    ap (λ o. totals_of o (branches_from 0 rest))
    (numbers_line_read (codes "totals") numbers (small.records, (small.bad, (small.rows, (small.unrouted, tt)))))
    ∙ ap (totals_of (Some numbers))
    (branches_back 0 c.branches ls (omega (arith, few)) (recursion_from_All SmallBranch c.branches small.branches) free)

-- ---- partitions

-- a done range, with the index of its pipeline where the version tells it
abbrev pub done_of : Version → Option (List ℕ) → Option Done
done_of v None = None
done_of v (Some []) = None
done_of v (Some (a ∷ [])) = None
done_of version_1 (Some (a ∷ b ∷ [])) = Some (record { span = record { lo = a; hi = b }; pipeline = 0 })
done_of version_2 (Some (a ∷ b ∷ [])) = None
done_of version_1 (Some (a ∷ b ∷ c ∷ [])) = None
done_of version_2 (Some (a ∷ b ∷ c ∷ [])) = Some (record { span = record { lo = a; hi = b }; pipeline = c })
done_of v (Some (a ∷ b ∷ c ∷ d ∷ ns)) = None

abbrev pub open_of : Option (List ℕ) → Option Span
open_of None = None
open_of (Some []) = None
open_of (Some (a ∷ [])) = None
open_of (Some (a ∷ b ∷ [])) = Some (record { lo = a; hi = b })
open_of (Some (a ∷ b ∷ c ∷ ns)) = None

abbrev pub range_or : Option Done → Option Span → Option Range
range_or None None = None
range_or None (Some s) = Some (inr s)
range_or (Some d) o = Some (inl d)

-- a line of a range
abbrev pub range_read : Version → WordLine → Option Range
range_read v l = range_or (done_of v (numbers_after (codes "done") l)) (open_of (numbers_after (codes "open") l))

abbrev pub named_with : Option (List ℕ) → Option (List ℕ) → Option (List ℕ × ℕ)
named_with None o = None
named_with (Some name) None = None
named_with (Some name) (Some []) = None
named_with (Some name) (Some (n ∷ [])) = Some (name, n)
named_with (Some name) (Some (n ∷ m ∷ ns)) = None

abbrev pub name_and_next : List (List ℕ) → Option (List ℕ × ℕ)
name_and_next [] = None
name_and_next (w ∷ ws) = named_with (bytes_read w) (numbers_read ws)

-- a line of a partition: its name and where it goes on
abbrev pub part_read : WordLine → Option (List ℕ × ℕ)
part_read l = cond (bytes_eq l.0 (codes "partition")) (name_and_next l.1) None

abbrev pub with_range : Range → Marks → Marks
with_range (inl d) m = record m { finished = d ∷ m.finished }
with_range (inr s) m = record m { owed = s ∷ m.owed }

-- the ranges, each with its kind
abbrev pub gathered : List Range → Marks
gathered [] = no_marks
gathered (r ∷ rs) = with_range r (gathered rs)

-- the ranges that stand before any partition's line, and the partitions behind them
abbrev pub Parts : Type 0
Parts = List Range × Table Marks

-- a partition with the ranges behind its line, whose offsets rise
abbrev pub with_part : Option (List ℕ × ℕ) → Parts → Option Parts
with_part None a = None
with_part (Some p) a = cond (rises_from 0 a.0) (Some ([], (p.0, record (gathered a.0) { next = p.1 }) ∷ a.1)) None

abbrev pub with_line : Option Range → Option (List ℕ × ℕ) → Option Parts → Option Parts
with_line r p None = None
with_line None p (Some a) = with_part p a
with_line (Some r) p (Some a) = Some (r ∷ a.0, a.1)

abbrev pub no_more : List WordLine → Option Parts
no_more [] = Some ([], [])
no_more (l ∷ ls) = None

abbrev pub is_end : WordLine → Bool
is_end l = bytes_eq l.0 (codes "end") && nat_eq (length l.1) 0

-- up to the last line
abbrev pub parts_from : Version → List WordLine → Option Parts
parts_from v [] = None
parts_from v (l ∷ ls) = cond (is_end l) (no_more ls) (with_line (range_read v l) (part_read l) (parts_from v ls))

abbrev pub only_parts : List Range → Table Marks → Option (Table Marks)
only_parts [] parts = Some parts
only_parts (r ∷ rs) parts = None

abbrev pub whole_parts : Option Parts → Option (Table Marks)
whole_parts None = None
whole_parts (Some a) = only_parts a.0 a.1

abbrev pub parts_read : Version → List WordLine → Option (Table Marks)
parts_read v ls = whole_parts (parts_from v ls)

range_line_read : (v : Version) (r : Range) → RangeFits v r → range_read v (range_words v r) ≡ Some r
range_line_read version_1 (inl d) f =
    ap (λ o. range_or (done_of version_1 o) None)
    (numbers_line_read (codes "done") (d.span.lo ∷ d.span.hi ∷ []) (f.span.lo, (f.span.hi, tt)))
    ∙ (λ i. Some (inl (record d { pipeline = sym f.index i })))
range_line_read version_2 (inl d) f =
    ap (λ o. range_or (done_of version_2 o) None)
    (numbers_line_read (codes "done") (d.span.lo ∷ d.span.hi ∷ d.pipeline ∷ []) (f.span.lo, (f.span.hi, (f.index, tt))))
range_line_read v (inr s) f =
    ap (λ o. range_or None (open_of o)) (numbers_line_read (codes "open") (s.lo ∷ s.hi ∷ []) (f.lo, (f.hi, tt)))

ranges_back : (v : Version) (rs : List Range) (ls : List WordLine) (a : Parts) → AllByRecursion (RangeFits v) rs
    → parts_from v ls ≡ Some a → parts_from v (map (range_words v) rs ++ ls) ≡ Some (rs ++ a.0, a.1)
ranges_back v [] ls a fit e = e
ranges_back v (r ∷ rs) ls a fit e = by_kind r fit.0 (ranges_back v rs ls a fit.1 e)
  where
    by_kind : (q : Range) → RangeFits v q → parts_from v (map (range_words v) rs ++ ls) ≡ Some (rs ++ a.0, a.1)
        → parts_from v (range_words v q ∷ (map (range_words v) rs ++ ls)) ≡ Some (q ∷ (rs ++ a.0), a.1)
    by_kind (inl d) f later =
        ap (λ o. with_line o None (parts_from v (map (range_words v) rs ++ ls))) (range_line_read v (inl d) f)
        ∙ ap (with_line (Some (inl d)) None) later
    by_kind (inr s) f later =
        ap (λ o. with_line o None (parts_from v (map (range_words v) rs ++ ls))) (range_line_read v (inr s) f)
        ∙ ap (with_line (Some (inr s)) None) later

-- each done range lies above this offset
abbrev DoneAbove : ℕ → Range → Type 0
DoneAbove lo (inl d) = lo < d.span.lo
DoneAbove lo (inr s) = Unit {0}

mixed_above : (lo from : ℕ) (ds : List Done) (os : List Span) → lo < from → InOrder from (map (λ (d : Done). d.span) ds)
    → AllByRecursion (DoneAbove lo) (mixed ds os)
mixed_above lo from ds os above order = mixed_each (DoneAbove lo) ds os
    (from_members (λ (d : Done). lo < d.span.lo) ds (λ d h.
    let r = order_members from (map (λ (x : Done). x.span) ds) d.span order
    (map_in (λ (x : Done). x.span) ds d h) in
    let low : from ≤ d.span.lo = r.0 in omega (arith, low, above)))
    (from_members (λ (s : Span). Unit {0}) os (λ s h. tt))

gathered_put : (d : Done) (rs : List Range) → AllByRecursion (DoneAbove d.span.lo) rs
    → gathered (put_range (inl d) rs) ≡ with_range (inl d) (gathered rs)
gathered_put d [] above = refl
gathered_put d (inl e ∷ rs) above =
    ap (λ b. gathered (cond b (inl d ∷ inl e ∷ rs) (inl e ∷ put_range (inl d) rs))) (lt-ltb d.span.lo e.span.lo above.0)
gathered_put d (inr s ∷ rs) above = elim (nat_lt d.span.lo s.lo) as
    (λ b. gathered (cond b (inl d ∷ inr s ∷ rs) (inr s ∷ put_range (inl d) rs)) ≡ with_range (inl d)
    (gathered (inr s ∷ rs))) [
      | true ↦ refl
      | false ↦ ap (with_range (inr s)) (gathered_put d rs above.1)
    ]

-- mixed ranges are parted again
pub gathered_mixed : (from : ℕ) (ds : List Done) (os : List Span) → InOrder from (map (λ (d : Done). d.span) ds)
    → gathered (mixed ds os) ≡ record { next = 0; finished = ds; owed = os }
gathered_mixed from [] os order = each os
  where
    each : (os : List Span) → gathered (map inr os) ≡ record { next = 0; finished = []; owed = os }
    each [] = refl
    each (o ∷ os) = ap (with_range (inr o)) (each os)
gathered_mixed from (d ∷ ds) os order =
    gathered_put d (mixed ds os) (mixed_above d.span.lo d.span.hi ds os order.1 order.2)
    ∙ ap (with_range (inl d)) (gathered_mixed d.span.hi ds os order.2)

part_line_read : (v : Version) (e : List ℕ × Marks) → PartFits v e
    → name_and_next (escape_of e.0 ∷ decimal e.1.next ∷ []) ≡ Some (e.0, e.1.next)
part_line_read v e fit =
    ap (λ o. named_with o (numbers_read (decimal e.1.next ∷ []))) (escaped_read e.0 fit.bytes)
    ∙ ap (named_with (Some e.0)) (numbers_back (e.1.next ∷ []) (fit.next, tt))

part_back : (v : Version) (e : List ℕ × Marks) (ls : List WordLine) (es : Table Marks) → PartFits v e
    → parts_from v ls ≡ Some ([], es) → parts_from v (part_lines v e ++ ls) ≡ Some ([], e ∷ es)
part_back v e ls es fit is =
    let rs : List Range = mixed e.1.finished e.1.owed in
    let fits = mixed_fits v e.1.finished e.1.owed fit.finished fit.owed in
    let later = ranges_back v rs ls ([], es) fits is ∙ ap (λ z. Some (z, es)) (append-nil rs) in
    ap (λ o. with_line None o (parts_from v (map (range_words v) rs ++ ls))) (part_line_read v e fit)
    ∙ ap (with_line None (Some (e.0, e.1.next))) later
    ∙ cond-true (rises_from 0 rs) (Some ([], (e.0, record (gathered rs) { next = e.1.next }) ∷ es)) None fit.rise
    ∙ ap (λ (m : Marks). Some ([], (e.0, record m { next = e.1.next }) ∷ es))
    (gathered_mixed 0 e.1.finished e.1.owed fit.order)

parts_back : (v : Version) (es : Table Marks) → AllByRecursion (PartFits v) es
    → parts_from v (flat_map (part_lines v) es ++ end_line ∷ []) ≡ Some ([], es)
parts_back v [] fit = refl
parts_back v (e ∷ es) fit =
    ap (parts_from v) (append_assoc (part_lines v e) (flat_map (part_lines v) es) (end_line ∷ []))
    ∙ part_back v e (flat_map (part_lines v) es ++ end_line ∷ []) es fit.0 (parts_back v es fit.1)

parts_lines_read : (v : Version) (es : Table Marks) → AllByRecursion (PartFits v) es
    → parts_read v (flat_map (part_lines v) es ++ end_line ∷ []) ≡ Some es
parts_lines_read v es fit = ap whole_parts (parts_back v es fit)

no_branch_in_parts : (v : Version) (es : Table Marks) → NoBranch (flat_map (part_lines v) es ++ end_line ∷ [])
no_branch_in_parts v [] = refl
no_branch_in_parts v (e ∷ es) = refl

-- ---- the whole file

abbrev pub state_with : ℕ → List (List ℕ) → Counts → Table Marks → State
state_with run ps totals parts = record { run = run; pipelines = ps; totals = totals; parts = parts }

-- what stands behind the run's number
abbrev pub body_read : Version → Option ℕ → ℕ → List WordLine → Option State
body_read v how run ls =
    and_then (pipelines_read how ls)
    (λ ps rest. and_then (totals_read rest)
    (λ totals more. option_map (state_with run ps totals) (parts_read v more)))

abbrev pub versioned : Version → Option ℕ → ℕ → List WordLine → Option State
versioned v how n ls =
    cond (nat_eq n (version_number v)) (and_then (number_after (codes "run") ls) (body_read v how)) None

-- the lines of a file of this kind and version, whose pipelines are so many or are counted
abbrev pub contents_read : List ℕ → Version → Option ℕ → List WordLine → Option State
contents_read kind v how ls = and_then (number_after kind ls) (versioned v how)

body_back : (v : Version) (how : Option ℕ) (c : State) → AsMany how c.pipelines → ContentsFit v c
    → body_read v how c.run
    (pipelines_lines how c.pipelines ++ (totals_lines c.totals ++ (flat_map (part_lines v) c.parts ++ end_line ∷ [])))
    ≡ Some c
body_back v how c many fit =
    let parts : List WordLine = flat_map (part_lines v) c.parts ++ end_line ∷ [] in
    ap (λ r. and_then r
    (λ ps rest. and_then (totals_read rest)
    (λ totals more. option_map (state_with c.run ps totals) (parts_read v more))))
    (pipelines_lines_read how c.pipelines (totals_lines c.totals ++ parts) many fit.few fit.pipelines)
    ∙ ap (λ r. and_then r (λ totals more. option_map (state_with c.run c.pipelines totals) (parts_read v more)))
    (totals_lines_read c.totals parts fit.totals fit.branches (no_branch_in_parts v c.parts))
    ∙ ap (option_map (state_with c.run c.pipelines c.totals)) (parts_lines_read v c.parts fit.parts)

-- lines that were written are read
pub contents_back : (kind : List ℕ) (v : Version) (how : Option ℕ) (c : State) → AsMany how c.pipelines
    → ContentsFit v c
    → contents_read kind v how (contents_lines kind v how c) ≡ Some c
contents_back kind v how c many fit =
    let body : List WordLine =
    pipelines_lines how
    c.pipelines ++ (totals_lines c.totals ++ (flat_map (part_lines v) c.parts ++ end_line ∷ [])) in
    let run : List WordLine = number_line (codes "run") (c.run ∷ []) ∷ body in
    ap (λ r. and_then r (versioned v how)) (number_line_read kind (version_number v) run (version_small v))
    ∙ ap (λ b. cond b (and_then (number_after (codes "run") run) (body_read v how)) None)
    (eq-eqb (version_number v) (version_number v) refl)
    ∙ ap (λ r. and_then r (body_read v how)) (number_line_read (codes "run") c.run body fit.run)
    ∙ body_back v how c many fit
