-- What is read of a state's file or a change's was written so, line by line.
use Rattle.std.proofs.Common.{◌≡◌, inl, inr, ℕ, zero, suc, ◌+◌, ◌<◌, ◌≤◌, true, cond, nat_lt, nat_le, nat_eq, List, []}
use Rattle.std.proofs.Common.{◌∷◌, ◌++◌, map, length, take, drop, refl, sym, ap, subst, ◌∙◌, Some, None, option_map}
use Rattle.std.proofs.Common.{append_assoc, codes, arith}
use Rattle.std.specs.declared.option.Option.{Option}
use Rattle.std.specs.List.{AllByRecursion, enumerate_from, flat_map}
use Rattle.std.specs.Fmt.{decimal}
use Rattle.std.specs.Str.{bytes_eq}
use Rattle.std.proofs.lemmas.Bool.{and_parts, cond_both, cond-true, eqb-true, le-ltb, leb-true, lt-ltb}
use Rattle.std.proofs.lemmas.List.Elements.{All-from_recursion}
use Rattle.std.proofs.lemmas.List.{length-map}
use Rattle.gob_bytes.proofs.Tables.{same_name}
use Rattle.gob_bytes.specs.Escapes.{escape_of}
use Rattle.gob_bytes.specs.Tables.{Table}
use Rattle.gob_plan.specs.declared.units.BranchCounts.{BranchCounts}
use Rattle.gob_plan.specs.declared.units.Counts.{Counts}
use Rattle.gob_ledger.specs.Marks.{Marks, Done, Span}
use Rattle.gob_ledger.specs.State.{State}
use Rattle.gob_ledger.specs.Spelling.{IsKeptPipeline, Small, SmallBranch, SmallCounts, Version, version_1, version_2}
use Rattle.gob_ledger.specs.Spelling.{version_number, line_count}
use Rattle.gob_jobs.specs.Pipelines.{IsSetting, setting_line, Setting}
use Rattle.gob_ledger.proofs.ReadingWords.{number_line, numbers_after, numbers_line_is, bytes_read, escaped_is}
use Rattle.gob_ledger.proofs.ReadingWords.{numbers_read, numbers_are}
use Rattle.gob_ledger.proofs.StateLines.{setting_words, settings_in, settings_are, no_words, settings_counted}
use Rattle.gob_ledger.proofs.StateLines.{lines_of_settings, pipeline_lines, lines_of, pipelines_lines, branch_words}
use Rattle.gob_ledger.proofs.StateLines.{totals_lines, Range, lo_of, range_words, put_range, mixed, rises_from}
use Rattle.gob_ledger.proofs.StateLines.{part_lines, end_line, contents_lines}
use Rattle.gob_ledger.proofs.Reading.{Read, and_then, only_number, number_after, text_of, text_of_lines, pipeline_read}
use Rattle.gob_ledger.proofs.Reading.{with_pipeline_read, pipelines_from, pipelines_read, branch_of, with_branch}
use Rattle.gob_ledger.proofs.Reading.{branches_from, totals_of, totals_read, done_of, open_of, range_or, range_read}
use Rattle.gob_ledger.proofs.Reading.{named_with, name_and_next, part_read, with_range, gathered, Parts, with_part}
use Rattle.gob_ledger.proofs.Reading.{with_line, no_more, is_end, parts_from, whole_parts, parts_read, state_with}
use Rattle.gob_ledger.proofs.Reading.{body_read, versioned, contents_read}
use Rattle.gob_ledger.proofs.WordLines.{WordLine}

-- what was read first, where the whole was read
taken : {X Y : Type 0} (r : Read X) (f : X → List WordLine → Option Y) (y : Y) → and_then r f ≡ Some y
    → (p : X × List WordLine) × (r ≡ Some p) × (f p.0 p.1 ≡ Some y)
taken None f y e = absurd (let never : None ≡ Some y = e in cc)
taken (Some p) f y e = (p, refl, e)

-- ---- one number

only_is : (o : Option (List ℕ)) (ls : List WordLine) (n : ℕ) (rest : List WordLine) → only_number o ls ≡ Some (n, rest)
    → (o ≡ Some (n ∷ [])) × (ls ≡ rest)
only_is None ls n rest e = absurd (let never : None ≡ Some (n, rest) = e in cc)
only_is (Some []) ls n rest e = absurd (let never : None ≡ Some (n, rest) = e in cc)
only_is (Some (m ∷ [])) ls n rest e =
    let pair : (m, ls) ≡ (n, rest) = cc in
    (ap (λ (p : ℕ × List WordLine). Some (p.0 ∷ [])) pair, ap (λ (p : ℕ × List WordLine). p.1) pair)
only_is (Some (m ∷ k ∷ ns)) ls n rest e = absurd (let never : None ≡ Some (n, rest) = e in cc)

number_is : (word : List ℕ) (ls : List WordLine) (n : ℕ) (rest : List WordLine) → number_after word ls ≡ Some (n, rest)
    → (ls ≡ number_line word (n ∷ []) ∷ rest) × Small n
number_is word [] n rest e = absurd (let never : None ≡ Some (n, rest) = e in cc)
number_is word (l ∷ ls) n rest e =
    let r = only_is (numbers_after word l) ls n rest e in
    let line = numbers_line_is word l (n ∷ []) r.0 in
    ((λ i. line.0 i ∷ r.1 i), line.1.0)

-- ---- pipelines

take_and_drop : (n : ℕ) (ls : List WordLine) → take n ls ++ drop n ls ≡ ls
take_and_drop zero ls = refl
take_and_drop (suc n) [] = refl
take_and_drop (suc n) (l ∷ ls) = ap (λ (xs : List WordLine). l ∷ xs) (take_and_drop n ls)

length_taken : (n : ℕ) (ls : List WordLine) → n ≤ length ls → length (take n ls) ≡ n
length_taken zero ls within = refl
length_taken (suc n) [] within = absurd (omega (arith, within))
length_taken (suc n) (l ∷ ls) within = ap suc (length_taken n ls (omega (arith, within)))

-- so many lines are a pipeline's
record IsPipelineOf (n : ℕ) (ls : List WordLine) (p : List ℕ) (rest : List WordLine) : Type 0 where
  whole : ls ≡ lines_of p ++ rest
  count : line_count p ≡ n
  pipeline : IsKeptPipeline p

settings_text_is : (n : ℕ) (ls : List WordLine) (p : List ℕ) (rest : List WordLine) (o : Option (List Setting))
    → Small n → n ≤ length ls
    → settings_in (take n ls) ≡ o → text_of o (drop n ls) ≡ Some (p, rest) → IsPipelineOf n ls p rest
settings_text_is n ls p rest None small within read e = absurd (let never : None ≡ Some (p, rest) = e in cc)
settings_text_is n ls p rest (Some ss) small within read e =
    let pair : (flat_map setting_line ss, drop n ls) ≡ (p, rest) = cc in
    let text : flat_map setting_line ss ≡ p = ap (λ (x : List ℕ × List WordLine). x.0) pair in
    let behind : drop n ls ≡ rest = ap (λ (x : List ℕ × List WordLine). x.1) pair in
    let r = settings_are (take n ls) ss read in
    let number : length ss ≡ n = sym (length-map ss setting_words) ∙ sym (ap length r.0) ∙ length_taken n ls within in
    let all = All-from_recursion (λ (s : Setting). IsSetting s.0 s.1) ss r.1 in
    let lines : map setting_words ss ≡ lines_of p = sym (ap lines_of (sym text) ∙ lines_of_settings ss all) in
    record {
      whole = sym (take_and_drop n ls) ∙ (λ i. (r.0 ∙ lines) i ++ behind i);
      count = ap line_count (sym text) ∙ settings_counted ss all ∙ number;
      pipeline = (ss, all, sym text, subst Small (sym number) small);
    }

lines_text_is : (n : ℕ) (ls : List WordLine) (p : List ℕ) (rest : List WordLine) → Small n
    → text_of_lines n ls ≡ Some (p, rest) → IsPipelineOf n ls p rest
lines_text_is n ls p rest small = cond_both (nat_le n (length ls)) (text_of (settings_in (take n ls)) (drop n ls)) None
    (λ o. o ≡ Some (p, rest) → IsPipelineOf n ls p rest)
    (λ t e. settings_text_is n ls p rest (settings_in (take n ls)) small (leb-true n (length ls) t) refl e)
    (λ _ e. absurd (let never : None ≡ Some (p, rest) = e in cc))

pipeline_is : (ls : List WordLine) (p : List ℕ) (rest : List WordLine) → pipeline_read ls ≡ Some (p, rest)
    → (ls ≡ pipeline_lines p ++ rest) × IsKeptPipeline p
pipeline_is ls p rest e =
    let r = taken (number_after (codes "pipeline") ls) text_of_lines (p, rest) e in
    let number = number_is (codes "pipeline") ls r.0.0 r.0.1 r.1 in
    let text = lines_text_is r.0.0 r.0.1 p rest number.1 r.2 in
    (number.0 ∙ (λ i. number_line (codes "pipeline") (sym text.count i ∷ []) ∷ text.whole i), text.pipeline)

-- what is read of several pipelines
record ArePipelines (k : ℕ) (ls : List WordLine) (ps : List (List ℕ)) (rest : List WordLine) : Type 0 where
  whole : ls ≡ flat_map pipeline_lines ps ++ rest
  count : length ps ≡ k
  each : AllByRecursion IsKeptPipeline ps

pipelines_are : (k : ℕ) (ls : List WordLine) (ps : List (List ℕ)) (rest : List WordLine)
    → pipelines_from k ls ≡ Some (ps, rest) → ArePipelines k ls ps rest
pipelines_are zero ls ps rest e =
    let pair : ([], ls) ≡ (ps, rest) = cc in
    subst (λ (x : List (List ℕ) × List WordLine). ArePipelines zero ls x.0 x.1) pair
    (record { whole = refl; count = refl; each = tt })
pipelines_are (suc k) ls ps rest e = cases (pipeline_read ls) refl e (pipelines_are k)
  where
    cases : (o : Read (List ℕ)) → pipeline_read ls ≡ o
        → and_then o (λ p more. with_pipeline_read p (pipelines_from k more)) ≡ Some (ps, rest)
        → ((ls : List WordLine) (ps : List (List ℕ)) (rest : List WordLine) → pipelines_from k ls ≡ Some (ps, rest)
        → ArePipelines k ls ps rest)
        → ArePipelines (suc k) ls ps rest
    cases None is e later = absurd (let never : None ≡ Some (ps, rest) = e in cc)
    cases (Some p) is e later = behind (pipelines_from k p.1) refl e
      where
        behind : (o : Read (List (List ℕ))) → pipelines_from k p.1 ≡ o → with_pipeline_read p.0 o ≡ Some (ps, rest)
            → ArePipelines (suc k) ls ps rest
        behind None or e = absurd (let never : None ≡ Some (ps, rest) = e in cc)
        behind (Some q) or e =
            let pair : (p.0 ∷ q.0, q.1) ≡ (ps, rest) = cc in
            let one = pipeline_is ls p.0 p.1 is in
            let many = later p.1 q.0 q.1 or in
            subst (λ (x : List (List ℕ) × List WordLine). ArePipelines (suc k) ls x.0 x.1) pair (record {
              whole = one.0 ∙ ap (λ x. pipeline_lines p.0 ++ x) many.whole
                  ∙ sym (append_assoc (pipeline_lines p.0) (flat_map pipeline_lines q.0) q.1);
              count = ap suc many.count;
              each = (one.1, many.each);
            })

-- the number of pipelines, where it is known
abbrev pub CountIs : Option ℕ → List (List ℕ) → Type 0
CountIs None ps = Small (length ps)
CountIs (Some k) ps = length ps ≡ k

-- what is read of a file's pipelines
record PipelinesAre (how : Option ℕ) (ls : List WordLine) (ps : List (List ℕ)) (rest : List WordLine) : Type 0 where
  whole : ls ≡ pipelines_lines how ps ++ rest
  count : CountIs how ps
  each : AllByRecursion IsKeptPipeline ps

pipelines_read_is : (how : Option ℕ) (ls : List WordLine) (ps : List (List ℕ)) (rest : List WordLine)
    → pipelines_read how ls ≡ Some (ps, rest) → PipelinesAre how ls ps rest
pipelines_read_is None ls ps rest e =
    let r = taken (number_after (codes "pipelines") ls) pipelines_from (ps, rest) e in
    let number = number_is (codes "pipelines") ls r.0.0 r.0.1 r.1 in
    let many = pipelines_are r.0.0 r.0.1 ps rest r.2 in
    record {
      whole = number.0 ∙ (λ i. number_line (codes "pipelines") (sym many.count i ∷ []) ∷ many.whole i);
      count = subst Small (sym many.count) number.1;
      each = many.each;
    }
pipelines_read_is (Some k) ls ps rest e =
    let many = pipelines_are k ls ps rest e in record { whole = many.whole; count = many.count; each = many.each }

-- ---- totals

-- a branch's line
record IsBranch (i : ℕ) (l : WordLine) (c : BranchCounts) : Type 0 where
  line : l ≡ branch_words (i, c)
  small : SmallBranch c

branch_is : (i : ℕ) (l : WordLine) (o : Option (List ℕ)) (c : BranchCounts) → numbers_after (codes "branch") l ≡ o
    → branch_of i o ≡ Some c → IsBranch i l c
branch_is i l None c read e = absurd (let never : None ≡ Some c = e in cc)
branch_is i l (Some []) c read e = absurd (let never : None ≡ Some c = e in cc)
branch_is i l (Some (a ∷ [])) c read e = absurd (let never : None ≡ Some c = e in cc)
branch_is i l (Some (a ∷ b ∷ [])) c read e = absurd (let never : None ≡ Some c = e in cc)
branch_is i l (Some (a ∷ b ∷ d ∷ [])) c read e = absurd (let never : None ≡ Some c = e in cc)
branch_is i l (Some (a ∷ b ∷ d ∷ f ∷ [])) c read e =
    cond_both (nat_eq a i) (Some (record { written = b; errors = d; optional = f })) None
    (λ o. o ≡ Some c → IsBranch i l c)
    (λ t k.
    let same : record { written = b; errors = d; optional = f } ≡ c = cc in
    let n = numbers_line_is (codes "branch") l (a ∷ b ∷ d ∷ f ∷ []) read in
    let index : a ≡ i = eqb-true a i t in
    subst (IsBranch i l) same (record {
      line = n.0 ∙ ap (λ k. branch_words (k, record { written = b; errors = d; optional = f })) index;
      small = record { written = n.1.1.0; errors = n.1.1.1.0; optional = n.1.1.1.1.0 };
    }))
    (λ _ k. absurd (let never : None ≡ Some c = k in cc)) e
branch_is i l (Some (a ∷ b ∷ d ∷ f ∷ g ∷ ns)) c read e = absurd (let never : None ≡ Some c = e in cc)

-- what is read of lines of branches
record AreBranches (i : ℕ) (ls : List WordLine) (bs : List BranchCounts) (rest : List WordLine) : Type 0 where
  whole : ls ≡ map branch_words (enumerate_from i bs) ++ rest
  small : AllByRecursion SmallBranch bs

branches_are : (i : ℕ) (ls : List WordLine) → AreBranches i ls (branches_from i ls).0 (branches_from i ls).1
branches_are i [] = record { whole = refl; small = tt }
branches_are i (l ∷ ls) =
    cases (branch_of i (numbers_after (codes "branch") l)) (branch_is i l (numbers_after (codes "branch") l))
    (branches_are (i + 1) ls)
  where
    cases : (o : Option BranchCounts)
        → ((c : BranchCounts) → numbers_after (codes "branch") l ≡ numbers_after (codes "branch") l → o ≡ Some c
        → IsBranch i l c)
        → AreBranches (i + 1) ls (branches_from (i + 1) ls).0 (branches_from (i + 1) ls).1
        → AreBranches i (l ∷ ls) (with_branch o (branches_from (i + 1) ls) (l ∷ ls)).0
        (with_branch o (branches_from (i + 1) ls) (l ∷ ls)).1
    cases None one later = record { whole = refl; small = tt }
    cases (Some c) one later =
        let b = one c refl refl in
        record { whole = (λ j. b.line j ∷ later.whole j); small = (b.small, later.small) }

-- what is read of a file's totals
record TotalsAre (ls : List WordLine) (c : Counts) (rest : List WordLine) : Type 0 where
  whole : ls ≡ totals_lines c ++ rest
  small : SmallCounts c

totals_of_is : (l : WordLine) (ls : List WordLine) (o : Option (List ℕ)) (c : Counts) (rest : List WordLine)
    → numbers_after (codes "totals") l ≡ o
    → totals_of o (branches_from 0 ls) ≡ Some (c, rest) → TotalsAre (l ∷ ls) c rest
totals_of_is l ls None c rest read e = absurd (let never : None ≡ Some (c, rest) = e in cc)
totals_of_is l ls (Some []) c rest read e = absurd (let never : None ≡ Some (c, rest) = e in cc)
totals_of_is l ls (Some (a ∷ [])) c rest read e = absurd (let never : None ≡ Some (c, rest) = e in cc)
totals_of_is l ls (Some (a ∷ b ∷ [])) c rest read e = absurd (let never : None ≡ Some (c, rest) = e in cc)
totals_of_is l ls (Some (a ∷ b ∷ d ∷ [])) c rest read e = absurd (let never : None ≡ Some (c, rest) = e in cc)
totals_of_is l ls (Some (a ∷ b ∷ d ∷ f ∷ [])) c rest read e =
    let r = branches_from 0 ls in
    let own : Counts = record { records = a; bad = b; rows = d; unrouted = f; branches = r.0 } in
    let pair : (own, r.1) ≡ (c, rest) = cc in
    let n = numbers_line_is (codes "totals") l (a ∷ b ∷ d ∷ f ∷ []) read in
    let many = branches_are 0 ls in
    subst (λ (x : Counts × List WordLine). TotalsAre (l ∷ ls) x.0 x.1) pair (record {
      whole = (λ j. n.0 j ∷ many.whole j);
      small = record {
        records = n.1.0;
        bad = n.1.1.0;
        rows = n.1.1.1.0;
        unrouted = n.1.1.1.1.0;
        branches = All-from_recursion SmallBranch r.0 many.small;
      };
    })
totals_of_is l ls (Some (a ∷ b ∷ d ∷ f ∷ g ∷ ns)) c rest read e = absurd (let never : None ≡ Some (c, rest) = e in cc)

totals_are : (ls : List WordLine) (c : Counts) (rest : List WordLine) → totals_read ls ≡ Some (c, rest)
    → TotalsAre ls c rest
totals_are [] c rest e = absurd (let never : None ≡ Some (c, rest) = e in cc)
totals_are (l ∷ ls) c rest e = totals_of_is l ls (numbers_after (codes "totals") l) c rest refl e

-- ---- ranges

done_is_read : (v : Version) (l : WordLine) (o : Option (List ℕ)) (d : Done) → numbers_after (codes "done") l ≡ o
    → done_of v o ≡ Some d → l ≡ range_words v (inl d)
done_is_read v l None d read e = absurd (let never : None ≡ Some d = e in cc)
done_is_read v l (Some []) d read e = absurd (let never : None ≡ Some d = e in cc)
done_is_read v l (Some (a ∷ [])) d read e = absurd (let never : None ≡ Some d = e in cc)
done_is_read version_1 l (Some (a ∷ b ∷ [])) d read e =
    let same : record { span = record { lo = a; hi = b }; pipeline = 0 } ≡ d = cc in
    (numbers_line_is (codes "done") l (a ∷ b ∷ []) read).0 ∙ ap (λ (x : Done). range_words version_1 (inl x)) same
done_is_read version_2 l (Some (a ∷ b ∷ [])) d read e = absurd (let never : None ≡ Some d = e in cc)
done_is_read version_1 l (Some (a ∷ b ∷ c ∷ [])) d read e = absurd (let never : None ≡ Some d = e in cc)
done_is_read version_2 l (Some (a ∷ b ∷ c ∷ [])) d read e =
    let same : record { span = record { lo = a; hi = b }; pipeline = c } ≡ d = cc in
    (numbers_line_is (codes "done") l (a ∷ b ∷ c ∷ []) read).0 ∙ ap (λ (x : Done). range_words version_2 (inl x)) same
done_is_read v l (Some (a ∷ b ∷ c ∷ f ∷ ns)) d read e = absurd (let never : None ≡ Some d = e in cc)

open_is_read : (v : Version) (l : WordLine) (o : Option (List ℕ)) (s : Span) → numbers_after (codes "open") l ≡ o
    → open_of o ≡ Some s → l ≡ range_words v (inr s)
open_is_read v l None s read e = absurd (let never : None ≡ Some s = e in cc)
open_is_read v l (Some []) s read e = absurd (let never : None ≡ Some s = e in cc)
open_is_read v l (Some (a ∷ [])) s read e = absurd (let never : None ≡ Some s = e in cc)
open_is_read v l (Some (a ∷ b ∷ [])) s read e =
    let same : record { lo = a; hi = b } ≡ s = cc in
    (numbers_line_is (codes "open") l (a ∷ b ∷ []) read).0 ∙ ap (λ (x : Span). range_words v (inr x)) same
open_is_read v l (Some (a ∷ b ∷ c ∷ ns)) s read e = absurd (let never : None ≡ Some s = e in cc)

range_is : (v : Version) (l : WordLine) (r : Range) → range_read v l ≡ Some r → l ≡ range_words v r
range_is v l r e =
    cases (done_of v (numbers_after (codes "done") l)) refl (open_of (numbers_after (codes "open") l)) refl e
  where
    cases : (o : Option Done) → done_of v (numbers_after (codes "done") l) ≡ o → (q : Option Span)
        → open_of (numbers_after (codes "open") l) ≡ q
        → range_or o q ≡ Some r → l ≡ range_words v r
    cases None d None s e = absurd (let never : None ≡ Some r = e in cc)
    cases None d (Some x) s e = let same : inr x ≡ r =
        cc in open_is_read v l (numbers_after (codes "open") l) x refl s ∙ ap (range_words v) same
    cases (Some x) d q s e = let same : inl x ≡ r =
        cc in done_is_read v l (numbers_after (codes "done") l) x refl d ∙ ap (range_words v) same

-- an owed range below the done ones stays first
first_owed : (s : Span) (ds : List Done) (os : List Span) → AllByRecursion (λ (d : Done). s.lo < d.span.lo) ds
    → mixed ds (s ∷ os) ≡ inr s ∷ mixed ds os
first_owed s [] os above = refl
first_owed s (d ∷ ds) os above =
    ap (put_range (inl d)) (first_owed s ds os above.1)
    ∙ ap (λ b. cond b (inl d ∷ inr s ∷ mixed ds os) (inr s ∷ put_range (inl d) (mixed ds os)))
    (le-ltb d.span.lo s.lo (let a : s.lo < d.span.lo = above.0 in omega (arith, a)))

rest_above : (low : ℕ) (rs : List Range) → rises_from low rs ≡ true
    → AllByRecursion (λ (d : Done). low ≤ d.span.lo) (gathered rs).finished
rest_above low [] rise = tt
rest_above low (r ∷ rs) rise =
    by_kind r (and_parts (nat_le low (lo_of r)) (rises_from (lo_of r + 1) rs) rise) (λ q. rest_above (lo_of q + 1) rs)
  where
    weaker : (from : ℕ) (ds : List Done) → low ≤ from → AllByRecursion (λ (d : Done). from ≤ d.span.lo) ds
        → AllByRecursion (λ (d : Done). low ≤ d.span.lo) ds
    weaker from [] le all = tt
    weaker from (d ∷ ds) le all = (let a : from ≤ d.span.lo = all.0 in omega (arith, le, a), weaker from ds le all.1)

    by_kind : (q : Range) → (nat_le low (lo_of q) ≡ true) × (rises_from (lo_of q + 1) rs ≡ true)
        → ((q : Range) → rises_from (lo_of q + 1) rs ≡ true
        → AllByRecursion (λ (d : Done). lo_of q + 1 ≤ d.span.lo) (gathered rs).finished)
        → AllByRecursion (λ (d : Done). low ≤ d.span.lo) (with_range q (gathered rs)).finished
    by_kind (inl d) p later =
        let here = leb-true low d.span.lo p.0 in
        (here, weaker (d.span.lo + 1) (gathered rs).finished (omega (arith, here)) (later (inl d) p.1))
    by_kind (inr s) p later =
        let here = leb-true low s.lo p.0 in
        weaker (s.lo + 1) (gathered rs).finished (omega (arith, here)) (later (inr s) p.1)

first_done : (d : Done) (rs : List Range) → rises_from (d.span.lo + 1) rs ≡ true → put_range (inl d) rs ≡ inl d ∷ rs
first_done d [] rise = refl
first_done d (q ∷ qs) rise =
    let p = and_parts (nat_le (d.span.lo + 1) (lo_of q)) (rises_from (lo_of q + 1) qs) rise in
    let above : d.span.lo + 1 ≤ lo_of q = leb-true (d.span.lo + 1) (lo_of q) p.0 in
    cond-true (nat_lt d.span.lo (lo_of q)) (inl d ∷ q ∷ qs) (q ∷ put_range (inl d) qs)
    (lt-ltb d.span.lo (lo_of q) (omega (arith, above)))

-- ranges that rise are mixed again as they stood
mixed_again : (low : ℕ) (rs : List Range) → rises_from low rs ≡ true
    → mixed (gathered rs).finished (gathered rs).owed ≡ rs
mixed_again low [] rise = refl
mixed_again low (inl d ∷ rs) rise =
    let p = and_parts (nat_le low d.span.lo) (rises_from (d.span.lo + 1) rs) rise in
    ap (put_range (inl d)) (mixed_again (d.span.lo + 1) rs p.1) ∙ first_done d rs p.1
mixed_again low (inr s ∷ rs) rise =
    let p = and_parts (nat_le low s.lo) (rises_from (s.lo + 1) rs) rise in
    first_owed s (gathered rs).finished (gathered rs).owed (stays (gathered rs).finished (rest_above (s.lo + 1) rs p.1))
    ∙ ap (λ (qs : List Range). inr s ∷ qs) (mixed_again (s.lo + 1) rs p.1)
  where
    stays : (ds : List Done) → AllByRecursion (λ (d : Done). s.lo + 1 ≤ d.span.lo) ds
        → AllByRecursion (λ (d : Done). s.lo < d.span.lo) ds
    stays [] all = tt
    stays (d ∷ ds) all = (let a : s.lo + 1 ≤ d.span.lo = all.0 in omega (arith, a), stays ds all.1)

-- ---- partitions

named_is : (w : List ℕ) (ws : List (List ℕ)) (o : Option (List ℕ)) (q : Option (List ℕ)) (name : List ℕ) (next : ℕ)
    → bytes_read w ≡ o → numbers_read ws ≡ q
    → named_with o q ≡ Some (name, next) → w ∷ ws ≡ escape_of name ∷ decimal next ∷ []
named_is w ws None q name next a b e = absurd (let never : None ≡ Some (name, next) = e in cc)
named_is w ws (Some x) None name next a b e = absurd (let never : None ≡ Some (name, next) = e in cc)
named_is w ws (Some x) (Some []) name next a b e = absurd (let never : None ≡ Some (name, next) = e in cc)
named_is w ws (Some x) (Some (n ∷ [])) name next a b e =
    let pair : (x, n) ≡ (name, next) = cc in
    let first = (escaped_is w x a).0 in
    let others = (numbers_are ws (n ∷ []) b).0 in
    (λ i. first i ∷ others i) ∙ ap (λ (p : List ℕ × ℕ). escape_of p.0 ∷ decimal p.1 ∷ []) pair
named_is w ws (Some x) (Some (n ∷ m ∷ ns)) name next a b e = absurd (let never : None ≡ Some (name, next) = e in cc)

name_and_next_is : (ws : List (List ℕ)) (name : List ℕ) (next : ℕ) → name_and_next ws ≡ Some (name, next)
    → ws ≡ escape_of name ∷ decimal next ∷ []
name_and_next_is [] name next e = absurd (let never : None ≡ Some (name, next) = e in cc)
name_and_next_is (w ∷ ws) name next e = named_is w ws (bytes_read w) (numbers_read ws) name next refl refl e

part_is : (l : WordLine) (name : List ℕ) (next : ℕ) → part_read l ≡ Some (name, next)
    → l ≡ (codes "partition", escape_of name ∷ decimal next ∷ [])
part_is l name next = cond_both (bytes_eq l.0 (codes "partition")) (name_and_next l.1) None
    (λ o. o ≡ Some (name, next) → l ≡ (codes "partition", escape_of name ∷ decimal next ∷ []))
    (λ t e. λ i. (same_name l.0 (codes "partition") t i, name_and_next_is l.1 name next e i))
    (λ _ e. absurd (let never : None ≡ Some (name, next) = e in cc))

-- the lines of ranges, and of partitions behind them
abbrev lines_from_parts : Version → Parts → List WordLine
lines_from_parts v a = map (range_words v) a.0 ++ (flat_map (part_lines v) a.1 ++ end_line ∷ [])

end_is : (l : WordLine) → is_end l ≡ true → l ≡ end_line
end_is l e =
    let p = and_parts (bytes_eq l.0 (codes "end")) (nat_eq (length l.1) 0) e in
    λ i. (same_name l.0 (codes "end") p.0 i, no_words l.1 p.1 i)

no_more_is : (v : Version) (l : WordLine) (ls : List WordLine) (a : Parts) → l ≡ end_line → no_more ls ≡ Some a
    → l ∷ ls ≡ lines_from_parts v a
no_more_is v l [] a is e =
    let none : ([], []) ≡ a = cc in
    ap (λ (x : WordLine). x ∷ []) is ∙ ap (lines_from_parts v) none
no_more_is v l (m ∷ ls) a is e = absurd (let never : None ≡ Some a = e in cc)

with_part_is : (v : Version) (l : WordLine) (ls : List WordLine) (o : Option (List ℕ × ℕ)) (b a : Parts)
    → part_read l ≡ o → ls ≡ lines_from_parts v b
    → with_part o b ≡ Some a → l ∷ ls ≡ lines_from_parts v a
with_part_is v l ls None b a read behind e = absurd (let never : None ≡ Some a = e in cc)
with_part_is v l ls (Some p) b a read behind e =
    cond_both (rises_from 0 b.0) (Some ([], (p.0, record (gathered b.0) { next = p.1 }) ∷ b.1)) None
    (λ o. o ≡ Some a → l ∷ ls ≡ lines_from_parts v a)
    (λ rise k.
    let whole : ([], (p.0, record (gathered b.0) { next = p.1 }) ∷ b.1) ≡ a = cc in
    let line = part_is l p.0 p.1 read in
    let again = mixed_again 0 b.0 rise in
    let tail : List WordLine = flat_map (part_lines v) b.1 ++ end_line ∷ [] in
    (λ i. line i ∷ behind i)
    ∙ ap (λ rs. (codes "partition", escape_of p.0 ∷ decimal p.1 ∷ []) ∷ (map (range_words v) rs ++ tail)) (sym again)
    ∙ sym (append_assoc (part_lines v (p.0, record (gathered b.0) { next = p.1 })) (flat_map (part_lines v) b.1)
    (end_line ∷ []))
    ∙ ap (lines_from_parts v) whole)
    (λ _ k. absurd (let never : None ≡ Some a = k in cc)) e

with_line_is : (v : Version) (l : WordLine) (ls : List WordLine) (r : Option Range) (p : Option (List ℕ × ℕ))
    (o : Option Parts) (a : Parts)
    → range_read v l ≡ r → part_read l ≡ p → ((b : Parts) → o ≡ Some b → ls ≡ lines_from_parts v b)
    → with_line r p o ≡ Some a → l ∷ ls ≡ lines_from_parts v a
with_line_is v l ls r p None a range part behind e = absurd (let never : None ≡ Some a = e in cc)
with_line_is v l ls None p (Some b) a range part behind e = with_part_is v l ls p b a part (behind b refl) e
with_line_is v l ls (Some q) p (Some b) a range part behind e =
    let whole : (q ∷ b.0, b.1) ≡ a = cc in
    (λ i. range_is v l q range i ∷ behind b refl i) ∙ ap (lines_from_parts v) whole

parts_are : (v : Version) (ls : List WordLine) (a : Parts) → parts_from v ls ≡ Some a → ls ≡ lines_from_parts v a
parts_are v [] a e = absurd (let never : None ≡ Some a = e in cc)
parts_are v (l ∷ ls) a e =
    let later : (b : Parts) → parts_from v ls ≡ Some b → ls ≡ lines_from_parts v b = parts_are v ls in
    cond_both (is_end l) (no_more ls) (with_line (range_read v l) (part_read l) (parts_from v ls))
    (λ o. o ≡ Some a → l ∷ ls ≡ lines_from_parts v a)
    (λ t f. no_more_is v l ls a (end_is l t) f)
    (λ _ f. with_line_is v l ls (range_read v l) (part_read l) (parts_from v ls) a refl refl later f)
    e

whole_is : (v : Version) (ls : List WordLine) (o : Option Parts) (es : Table Marks) → parts_from v ls ≡ o
    → whole_parts o ≡ Some es
    → ls ≡ flat_map (part_lines v) es ++ end_line ∷ []
whole_is v ls None es read e = absurd (let never : None ≡ Some es = e in cc)
whole_is v ls (Some ([], parts)) es read e =
    let same : parts ≡ es = cc in
    parts_are v ls ([], parts) read ∙ ap (λ (z : Table Marks). flat_map (part_lines v) z ++ end_line ∷ []) same
whole_is v ls (Some (r ∷ rs, parts)) es read e = absurd (let never : None ≡ Some es = e in cc)

-- ---- the whole file

-- what is read of a file
pub record ContentsAre (kind : List ℕ) (v : Version) (how : Option ℕ) (ls : List WordLine) (c : State) : Type 0 where
  pub whole : ls ≡ contents_lines kind v how c
  pub run : Small c.run
  pub pipelines : AllByRecursion IsKeptPipeline c.pipelines
  pub count : CountIs how c.pipelines
  pub totals : SmallCounts c.totals

some_state : (run : ℕ) (ps : List (List ℕ)) (t : Counts) (o : Option (Table Marks)) (c : State)
    → option_map (state_with run ps t) o ≡ Some c
    → (es : Table Marks) × (o ≡ Some es) × (state_with run ps t es ≡ c)
some_state run ps t None c e = absurd (let never : None ≡ Some c = e in cc)
some_state run ps t (Some es) c e = (es, refl, cc)

-- what is read behind the run's number
record BodyIs (v : Version) (how : Option ℕ) (run : ℕ) (ls : List WordLine) (c : State) : Type 0 where
  whole : ls ≡ pipelines_lines how
      c.pipelines ++ (totals_lines c.totals ++ (flat_map (part_lines v) c.parts ++ end_line ∷ []))
  number : c.run ≡ run
  pipelines : AllByRecursion IsKeptPipeline c.pipelines
  count : CountIs how c.pipelines
  totals : SmallCounts c.totals

body_is : (v : Version) (how : Option ℕ) (run : ℕ) (ls : List WordLine) (c : State) → body_read v how run ls ≡ Some c
    → BodyIs v how run ls c
body_is v how run ls c e =
    let a = taken (pipelines_read how ls)
    (λ ps rest. and_then (totals_read rest)
    (λ totals more. option_map (state_with run ps totals) (parts_read v more))) c e in
    let b = taken (totals_read a.0.1)
    (λ totals more. option_map (state_with run a.0.0 totals) (parts_read v more)) c a.2 in
    let d = some_state run a.0.0 b.0.0 (parts_read v b.0.1) c b.2 in
    let pipelines = pipelines_read_is how ls a.0.0 a.0.1 a.1 in
    let totals = totals_are a.0.1 b.0.0 b.0.1 b.1 in
    let parts = whole_is v b.0.1 (parts_from v b.0.1) d.0 refl d.1 in
    subst (BodyIs v how run ls) d.2 (record {
      whole = pipelines.whole
          ∙ ap (λ x. pipelines_lines how a.0.0 ++ x) (totals.whole ∙ ap (λ x. totals_lines b.0.0 ++ x) parts);
      number = refl;
      pipelines = pipelines.each;
      count = pipelines.count;
      totals = totals.small;
    })

versioned_is : (v : Version) (how : Option ℕ) (n : ℕ) (ls : List WordLine) (c : State) → versioned v how n ls ≡ Some c
    → (n ≡ version_number v) × (and_then (number_after (codes "run") ls) (body_read v how) ≡ Some c)
versioned_is v how n ls c =
    cond_both (nat_eq n (version_number v)) (and_then (number_after (codes "run") ls) (body_read v how)) None
    (λ o. o ≡ Some c → (n ≡ version_number v) × (and_then (number_after (codes "run") ls) (body_read v how) ≡ Some c))
    (λ t e. (eqb-true n (version_number v) t, e))
    (λ _ e. absurd (let never : None ≡ Some c = e in cc))

-- lines that are read were written so
pub contents_are : (kind : List ℕ) (v : Version) (how : Option ℕ) (ls : List WordLine) (c : State)
    → contents_read kind v how ls ≡ Some c → ContentsAre kind v how ls c
contents_are kind v how ls c e =
    let a = taken (number_after kind ls) (versioned v how) c e in
    let first = number_is kind ls a.0.0 a.0.1 a.1 in
    let b = versioned_is v how a.0.0 a.0.1 c a.2 in
    let d = taken (number_after (codes "run") a.0.1) (body_read v how) c b.1 in
    let run = number_is (codes "run") a.0.1 d.0.0 d.0.1 d.1 in
    let body = body_is v how d.0.0 d.0.1 c d.2 in
    record {
      whole = first.0
          ∙ (λ i. number_line kind
          (b.0 i ∷ []) ∷ (run.0 ∙ (λ j. number_line (codes "run") (sym body.number j ∷ []) ∷ body.whole j)) i);
      run = subst Small (sym body.number) run.1;
      pipelines = body.pipelines;
      count = body.count;
      totals = body.totals;
    }
