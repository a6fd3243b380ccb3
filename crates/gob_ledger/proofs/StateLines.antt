-- What a state's file or a change's file holds, as lines of words.
use Rattle.std.proofs.Common.{◌≡◌, ◌≢◌, ◌⊎◌, inl, inr, ⊎_elim, ℕ, suc, ◌+◌, ◌<◌, ◌≤◌, Bool, true, false, cond, ◌&&◌}
use Rattle.std.proofs.Common.{nat_lt, nat_le, nat_eq, List, [], ◌∷◌, ◌++◌, map, length, All, refl, sym, ap, subst, ◌∙◌}
use Rattle.std.proofs.Common.{Some, None, unwrap_or, append_assoc, codes, arith}
use Rattle.std.specs.declared.option.Option.{Option}
use Rattle.std.specs.List.{AllByRecursion, Contains, count_by, enumerate_from, flat_map, list_all}
use Rattle.std.specs.Fmt.{decimal}
use Rattle.std.proofs.lemmas.Bool.{and_parts, and_from, cases_order, cond_both, eqb-true, le-leb, ltb-true, ltb-false}
use Rattle.std.proofs.lemmas.Bool.{ne_eqb}
use Rattle.std.proofs.lemmas.List.Concat.{flat_map-append}
use Rattle.std.proofs.lemmas.List.Elements.{All-head, All-tail, recursion_from_All}
use Rattle.std.proofs.lemmas.List.Sums.{sum_by-cons}
use Rattle.gob_bytes.specs.Escapes.{escape_of, AreBytes}
use Rattle.gob_bytes.specs.Tables.{Table}
use Rattle.gob_bytes.specs.Words.{words, numbered_line}
use Rattle.gob_plan.specs.declared.units.BranchCounts.{BranchCounts}
use Rattle.gob_plan.specs.declared.units.Counts.{Counts}
use Rattle.gob_ledger.specs.Marks.{Marks, Done, Span, done_spans, InOrder}
use Rattle.gob_ledger.specs.State.{State}
use Rattle.gob_ledger.specs.Spelling.{Small, SmallBranch, SmallCounts, Version, version_1, version_2, version_number}
use Rattle.gob_ledger.specs.Spelling.{branch_line, Placed, put_line, put_lines, made_by, done_line, open_line}
use Rattle.gob_ledger.specs.Spelling.{range_lines, part_text, parts_text, line_count, pipeline_part, totals_text}
use Rattle.gob_ledger.specs.Spelling.{file_text, IsKeptPipeline}
use Rattle.gob_jobs.specs.Pipelines.{IsSetting, setting_line, Setting}
use Rattle.gob_jobs.proofs.Lines.{setting_word}
use Rattle.gob_ledger.proofs.WordLines.{WordLine, IsWord, AreWords, line_bytes, lines_text, word_lines, lines_read}
use Rattle.gob_ledger.proofs.Members.{first_in, later_in, map_in}
use Rattle.gob_ledger.proofs.Ranges.{order_from, order_members}
use Rattle.gob_ledger.proofs.ReadingWords.{setting_is_word, setting_read, setting_word_read}
use Rattle.gob_ledger.proofs.ReadingWords.{setting_word_is, escaped_is_word, decimal_is_word, number_line}
use Rattle.gob_ledger.proofs.ReadingWords.{number_line_words}

pub from_members : {X : Type 0} (P : X → Type 0) (xs : List X) → ((x : X) → Contains xs x → P x) → AllByRecursion P xs
from_members P [] each = tt
from_members P (x ∷ xs) each = (each x (first_in x xs x refl), from_members P xs (λ y h. each y (later_in x xs y h)))

pub each_append : {X : Type 0} (P : X → Type 0) (xs ys : List X) → AllByRecursion P xs → AllByRecursion P ys
    → AllByRecursion P (xs ++ ys)
each_append P [] ys p q = q
each_append P (x ∷ xs) ys p q = (p.0, each_append P xs ys p.1 q)

pub lines_append : (xs ys : List WordLine) → lines_text (xs ++ ys) ≡ lines_text xs ++ lines_text ys
lines_append xs ys = flat_map-append line_bytes xs ys

-- ---- pipelines

abbrev pub setting_words : Setting → WordLine
setting_words s = (setting_word s, [])

-- the lines of a text, none where it has none
abbrev pub lines_of : List ℕ → List WordLine
lines_of text = unwrap_or (word_lines text) []

abbrev pub pipeline_lines : List ℕ → List WordLine
pipeline_lines p = number_line (codes "pipeline") (line_count p ∷ []) ∷ lines_of p

-- with the number of pipelines in front, or without where it is known
abbrev pub pipelines_lines : Option ℕ → List (List ℕ) → List WordLine
pipelines_lines None ps = number_line (codes "pipelines") (length ps ∷ []) ∷ flat_map pipeline_lines ps
pipelines_lines (Some k) ps = flat_map pipeline_lines ps

settings_text : (ss : List Setting) → lines_text (map setting_words ss) ≡ flat_map setting_line ss
settings_text [] = refl
settings_text (s ∷ ss) = ap (λ x. setting_line s ++ x) (settings_text ss)

settings_good : (ss : List Setting) → All (λ (s : Setting). IsSetting s.0 s.1) ss
    → AllByRecursion AreWords (map setting_words ss)
settings_good [] all = tt
settings_good (s ∷ ss) all = (
  (setting_is_word s (All-head (λ (x : Setting). IsSetting x.0 x.1) s ss all), tt),
  settings_good ss
      (All-tail (λ (x : Setting). IsSetting x.0 x.1) s ss all),
)

-- settings that were written are lines of one word
pub setting_lines_read : (ss : List Setting) → All (λ (s : Setting). IsSetting s.0 s.1) ss
    → word_lines (flat_map setting_line ss) ≡ Some (map setting_words ss)
setting_lines_read ss all =
    ap word_lines (sym (settings_text ss)) ∙ lines_read (map setting_words ss) (settings_good ss all)

no_feed : (w x : List ℕ) → IsWord w → count_by (λ b. nat_eq b 10) (w ++ x) ≡ count_by (λ b. nat_eq b 10) x
no_feed [] x word = refl
no_feed (b ∷ w) x word =
    let p = and_parts (nat_lt 32 b) (list_all (nat_lt 32) w) word in
    let above : 32 < b = ltb-true 32 b p.0 in
    sum_by-cons (λ c. cond (nat_eq c 10) 1 0) b (w ++ x)
    ∙ ap (λ v. cond v 1 0 + count_by (λ c. nat_eq c 10) (w ++ x)) (ne_eqb b 10 (λ s. omega (arith, above, s)))
    ∙ omega (arith, no_feed w x p.1)

one_feed : (w x : List ℕ) → IsWord w
    → count_by (λ b. nat_eq b 10) ((w ++ 10 ∷ []) ++ x) ≡ suc (count_by (λ b. nat_eq b 10) x)
one_feed w x word =
    ap (λ t. count_by (λ b. nat_eq b 10) t) (append_assoc w (10 ∷ []) x)
    ∙ no_feed w (10 ∷ x) word ∙ sum_by-cons (λ c. cond (nat_eq c 10) 1 0) 10 x ∙ omega arith

feeds_of : (ss : List Setting) → All (λ (s : Setting). IsSetting s.0 s.1) ss
    → line_count (lines_text (map setting_words ss)) ≡ length ss
feeds_of [] all = refl
feeds_of (s ∷ ss) all =
    one_feed (setting_word s) (lines_text (map setting_words ss))
    (setting_is_word s (All-head (λ (x : Setting). IsSetting x.0 x.1) s ss all))
    ∙ ap suc (feeds_of ss (All-tail (λ (x : Setting). IsSetting x.0 x.1) s ss all))

pub settings_counted : (ss : List Setting) → All (λ (s : Setting). IsSetting s.0 s.1) ss
    → line_count (flat_map setting_line ss) ≡ length ss
settings_counted ss all = ap line_count (sym (settings_text ss)) ∙ feeds_of ss all

pub lines_of_settings : (ss : List Setting) → All (λ (s : Setting). IsSetting s.0 s.1) ss
    → lines_of (flat_map setting_line ss) ≡ map setting_words ss
lines_of_settings ss all = ap (λ o. unwrap_or o []) (setting_lines_read ss all)

abbrev one_setting : Option Setting → Option (List Setting) → Option (List Setting)
one_setting None o = None
one_setting (Some s) None = None
one_setting (Some s) (Some ss) = Some (s ∷ ss)

abbrev setting_alone : WordLine → Option Setting
setting_alone l = cond (nat_eq (length l.1) 0) (setting_read l.0) None

-- each line as a setting
abbrev pub settings_in : List WordLine → Option (List Setting)
settings_in [] = Some []
settings_in (l ∷ ls) = one_setting (setting_alone l) (settings_in ls)

-- settings that were written are read
pub settings_back : (ss : List Setting) → All (λ (s : Setting). IsSetting s.0 s.1) ss
    → settings_in (map setting_words ss) ≡ Some ss
settings_back [] all = refl
settings_back (s ∷ ss) all =
    ap (λ o. one_setting o (settings_in (map setting_words ss)))
    (setting_word_read s (All-head (λ (x : Setting). IsSetting x.0 x.1) s ss all))
    ∙ ap (one_setting (Some s)) (settings_back ss (All-tail (λ (x : Setting). IsSetting x.0 x.1) s ss all))

pub no_words : (ws : List (List ℕ)) → nat_eq (length ws) 0 ≡ true → ws ≡ []
no_words [] e = refl
no_words (w ∷ ws) e = let none : length (w ∷ ws) ≡ 0 = eqb-true (length (w ∷ ws)) 0 e in absurd (omega (arith, none))

alone_is : (l : WordLine) (s : Setting) → setting_alone l ≡ Some s → (l ≡ setting_words s) × IsSetting s.0 s.1
alone_is l s = cond_both (nat_eq (length l.1) 0) (setting_read l.0) None
    (λ o. o ≡ Some s → (l ≡ setting_words s) × IsSetting s.0 s.1)
    (λ alone e.
    let r = setting_word_is l.0 s e in
    let others = no_words l.1 alone in ((λ i. (r.0 i, others i)), r.1))
    (λ _ e. absurd (let never : None ≡ Some s = e in cc))

-- settings that are read were written so
pub settings_are : (ls : List WordLine) (ss : List Setting) → settings_in ls ≡ Some ss
    → (ls ≡ map setting_words ss) × AllByRecursion (λ (s : Setting). IsSetting s.0 s.1) ss
settings_are [] ss e =
    let none : [] ≡ ss = cc in
    subst (λ (z : List Setting). ([] ≡ map setting_words z) × AllByRecursion (λ (s : Setting). IsSetting s.0 s.1) z)
    none (refl, tt)
settings_are (l ∷ ls) ss e = cases (setting_alone l) refl (settings_in ls) refl e (settings_are ls)
  where
    cases : (o : Option Setting) → setting_alone l ≡ o → (p : Option (List Setting)) → settings_in ls ≡ p
        → one_setting o p ≡ Some ss
        → ((ts : List Setting) → settings_in ls ≡ Some ts
        → (ls ≡ map setting_words ts) × AllByRecursion (λ (s : Setting). IsSetting s.0 s.1) ts)
        → (l ∷ ls ≡ map setting_words ss) × AllByRecursion (λ (s : Setting). IsSetting s.0 s.1) ss
    cases None is p or e later = absurd (let never : None ≡ Some ss = e in cc)
    cases (Some s) is None or e later = absurd (let never : None ≡ Some ss = e in cc)
    cases (Some s) is (Some ts) or e later =
        let whole : s ∷ ts ≡ ss = cc in
        let here = alone_is l s is in
        let rest = later ts or in
        subst
        (λ (z : List Setting). (l ∷ ls ≡ map setting_words z) × AllByRecursion (λ (s : Setting). IsSetting s.0 s.1) z)
        whole ((λ i. here.0 i ∷ rest.0 i), (here.1, rest.1))

-- the text of a pipeline, by its lines
pub record HasLines (p : List ℕ) : Type 0 where
  pub settings : List Setting
  pub each : All (λ (s : Setting). IsSetting s.0 s.1) settings
  pub text : p ≡ flat_map setting_line settings
  pub lines : lines_of p ≡ map setting_words settings
  pub whole : lines_text (lines_of p) ≡ p
  pub good : AllByRecursion AreWords (lines_of p)
  pub count : length settings ≡ line_count p
  pub small : Small (line_count p)

pub pipeline_has_lines : (p : List ℕ) → IsKeptPipeline p → HasLines p
pipeline_has_lines p (ss, all, is, small) =
    let lines : lines_of p ≡ map setting_words ss = ap lines_of is ∙ lines_of_settings ss all in
    let count : length ss ≡ line_count p = sym (ap line_count is ∙ settings_counted ss all) in
    record {
      settings = ss;
      each = all;
      text = is;
      lines = lines;
      whole = ap lines_text lines ∙ settings_text ss ∙ sym is;
      good = subst (AllByRecursion AreWords) (sym lines) (settings_good ss all);
      count = count;
      small = subst Small count small;
    }

pipeline_text : (p : List ℕ) → HasLines p → lines_text (pipeline_lines p) ≡ pipeline_part p
pipeline_text p h = ap (λ x. numbered_line (codes "pipeline") (line_count p ∷ []) ++ x) h.whole

many_text : (ps : List (List ℕ)) → AllByRecursion HasLines ps
    → lines_text (flat_map pipeline_lines ps) ≡ flat_map pipeline_part ps
many_text [] h = refl
many_text (p ∷ ps) h =
    lines_append (pipeline_lines p) (flat_map pipeline_lines ps) ∙ (λ i. pipeline_text p h.0 i ++ many_text ps h.1 i)

many_good : (ps : List (List ℕ)) → AllByRecursion HasLines ps → AllByRecursion AreWords (flat_map pipeline_lines ps)
many_good [] h = tt
many_good (p ∷ ps) h = each_append AreWords (pipeline_lines p) (flat_map pipeline_lines ps)
    (number_line_words (codes "pipeline") (line_count p ∷ []) refl (h.0.small, tt), h.0.good) (many_good ps h.1)

-- the text of pipelines
abbrev pub counted_text : Option ℕ → List (List ℕ) → List ℕ
counted_text None ps = numbered_line (codes "pipelines") (length ps ∷ []) ++ flat_map pipeline_part ps
counted_text (Some k) ps = flat_map pipeline_part ps

pub pipelines_text_is : (how : Option ℕ) (ps : List (List ℕ)) → AllByRecursion HasLines ps
    → lines_text (pipelines_lines how ps) ≡ counted_text how ps
pipelines_text_is None ps h = ap (λ x. numbered_line (codes "pipelines") (length ps ∷ []) ++ x) (many_text ps h)
pipelines_text_is (Some k) ps h = many_text ps h

pub pipelines_good : (how : Option ℕ) (ps : List (List ℕ)) → Small (length ps) → AllByRecursion HasLines ps
    → AllByRecursion AreWords (pipelines_lines how ps)
pipelines_good None ps few h = (number_line_words (codes "pipelines") (length ps ∷ []) refl (few, tt), many_good ps h)
pipelines_good (Some k) ps few h = many_good ps h

-- ---- totals

abbrev pub branch_words : ℕ × BranchCounts → WordLine
branch_words p = number_line (codes "branch") (p.0 ∷ p.1.written ∷ p.1.errors ∷ p.1.optional ∷ [])

abbrev pub totals_lines : Counts → List WordLine
totals_lines c =
    number_line (codes "totals") (c.records ∷ c.bad ∷ c.rows ∷ c.unrouted ∷ [])
    ∷ map branch_words (enumerate_from 0 c.branches)

branches_text : (ps : List (ℕ × BranchCounts)) → lines_text (map branch_words ps) ≡ flat_map branch_line ps
branches_text [] = refl
branches_text (p ∷ ps) = ap (λ x. branch_line p ++ x) (branches_text ps)

pub totals_text_is : (c : Counts) → lines_text (totals_lines c) ≡ totals_text c
totals_text_is c =
    ap (λ x. numbered_line (codes "totals") (c.records ∷ c.bad ∷ c.rows ∷ c.unrouted ∷ []) ++ x)
    (branches_text (enumerate_from 0 c.branches))

branches_good : (i : ℕ) (bs : List BranchCounts) → i + length bs ≤ 8 → AllByRecursion SmallBranch bs
    → AllByRecursion AreWords (map branch_words (enumerate_from i bs))
branches_good i [] few small = tt
branches_good i (b ∷ bs) few small = (
  number_line_words (codes "branch") (i ∷ b.written ∷ b.errors ∷ b.optional ∷ []) refl
      (omega (arith, few), (small.0.written, (small.0.errors, (small.0.optional, tt)))),
  branches_good (i + 1) bs (omega (arith, few)) small.1,
)

pub totals_good : (c : Counts) → SmallCounts c → length c.branches ≤ 8 → AllByRecursion AreWords (totals_lines c)
totals_good c small few = (
  number_line_words (codes "totals") (c.records ∷ c.bad ∷ c.rows ∷ c.unrouted ∷ []) refl
      (small.records, (small.bad, (small.rows, (small.unrouted, tt)))),
  branches_good 0 c.branches (omega (arith, few)) (recursion_from_All SmallBranch c.branches small.branches),
)

-- ---- partitions

-- a done range or one that is owed
abbrev pub Range : Type 0
Range = Done ⊎ Span

abbrev pub lo_of : Range → ℕ
lo_of (inl d) = d.span.lo
lo_of (inr s) = s.lo

abbrev pub range_words : Version → Range → WordLine
range_words v (inl d) = number_line (codes "done") (d.span.lo ∷ d.span.hi ∷ made_by v d)
range_words v (inr s) = number_line (codes "open") (s.lo ∷ s.hi ∷ [])

abbrev pub put_range : Range → List Range → List Range
put_range r [] = r ∷ []
put_range r (q ∷ qs) = cond (nat_lt (lo_of r) (lo_of q)) (r ∷ q ∷ qs) (q ∷ put_range r qs)

-- the ranges by their offsets
abbrev pub mixed : List Done → List Span → List Range
mixed [] os = map inr os
mixed (d ∷ ds) os = put_range (inl d) (mixed ds os)

abbrev pub part_lines : Version → List ℕ × Marks → List WordLine
part_lines v e =
    (codes "partition", escape_of e.0 ∷ decimal e.1.next ∷ []) ∷ map (range_words v) (mixed e.1.finished e.1.owed)

put_each : (P : Range → Type 0) (r : Range) (rs : List Range) → P r → AllByRecursion P rs
    → AllByRecursion P (put_range r rs)
put_each P r [] one all = (one, tt)
put_each P r (q ∷ qs) one all =
    elim (nat_lt (lo_of r) (lo_of q)) as (λ b. AllByRecursion P (cond b (r ∷ q ∷ qs) (q ∷ put_range r qs))) [
      | true ↦ (one, all)
      | false ↦ (all.0, put_each P r qs one all.1)
    ]

pub mixed_each : (P : Range → Type 0) (ds : List Done) (os : List Span) → AllByRecursion (λ d. P (inl d)) ds
    → AllByRecursion (λ s. P (inr s)) os → AllByRecursion P (mixed ds os)
mixed_each P [] os done owed = each os owed
  where
    each : (os : List Span) → AllByRecursion (λ s. P (inr s)) os → AllByRecursion P (map inr os)
    each [] owed = tt
    each (o ∷ os) owed = (owed.0, each os owed.1)
mixed_each P (d ∷ ds) os done owed = put_each P (inl d) (mixed ds os) done.0 (mixed_each P ds os done.1 owed)

-- ranges whose offsets rise, the first not below low
abbrev pub rises_from : ℕ → List Range → Bool
rises_from low [] = true
rises_from low (r ∷ rs) = nat_le low (lo_of r) && rises_from (lo_of r + 1) rs

put_rises : (low : ℕ) (d : Done) (rs : List Range) → low ≤ d.span.lo → AllByRecursion (λ r. lo_of r ≢ d.span.lo) rs
    → rises_from low rs ≡ true → rises_from low (put_range (inl d) rs) ≡ true
put_rises low d [] above apart rise = and_from (nat_le low d.span.lo) true (le-leb low d.span.lo above) refl
put_rises low d (q ∷ qs) above apart rise =
    cases (nat_lt d.span.lo (lo_of q)) refl (λ less. put_rises (lo_of q + 1) d qs less apart.1 p.1)
  where
    p : (nat_le low (lo_of q) ≡ true) × (rises_from (lo_of q + 1) qs ≡ true)
    p = and_parts (nat_le low (lo_of q)) (rises_from (lo_of q + 1) qs) rise

    cases : (b : Bool) → nat_lt d.span.lo (lo_of q) ≡ b
        → (lo_of q + 1 ≤ d.span.lo → rises_from (lo_of q + 1) (put_range (inl d) qs) ≡ true)
        → rises_from low (cond b (inl d ∷ q ∷ qs) (q ∷ put_range (inl d) qs)) ≡ true
    cases true is later =
        let before : d.span.lo < lo_of q = ltb-true d.span.lo (lo_of q) is in
        and_from (nat_le low d.span.lo) (rises_from (d.span.lo + 1) (q ∷ qs)) (le-leb low d.span.lo above)
        (and_from (nat_le (d.span.lo + 1) (lo_of q)) (rises_from (lo_of q + 1) qs)
        (le-leb (d.span.lo + 1) (lo_of q) (omega (arith, before))) p.1)
    cases false is later =
        let least : lo_of q ≤ d.span.lo = ltb-false d.span.lo (lo_of q) is in
        let other : lo_of q ≢ d.span.lo = apart.0 in
        let before : lo_of q + 1 ≤ d.span.lo =
        ⊎_elim (λ e. absurd (other e))
        (λ c. ⊎_elim (λ l. omega (arith, l)) (λ g. absurd (omega (arith, g, least))) c)
        (cases_order (lo_of q) d.span.lo) in
        and_from (nat_le low (lo_of q)) (rises_from (lo_of q + 1) (put_range (inl d) qs)) p.0 (later before)

open_rises : (low : ℕ) (os : List Span) → InOrder low os → rises_from low (map inr os) ≡ true
open_rises low [] order = refl
open_rises low (o ∷ os) order =
    and_from (nat_le low o.lo) (rises_from (o.lo + 1) (map inr os)) (le-leb low o.lo order.0)
    (open_rises (o.lo + 1) os
    (order_from (o.lo + 1) o.hi os (let some : o.lo < o.hi = order.1 in omega (arith, some)) order.2))

-- done ranges in order and owed ones in order, of which no two begin at one offset, rise when they are mixed
pub mixed_rises : (from : ℕ) (ds : List Done) (os : List Span) → InOrder from (map (λ (d : Done). d.span) ds)
    → InOrder 0 os
    → ((d : Done) (o : Span) → Contains ds d → Contains os o → d.span.lo ≡ o.lo → ⊥) → rises_from 0 (mixed ds os) ≡ true
mixed_rises from [] os done owed apart = open_rises 0 os owed
mixed_rises from (d ∷ ds) os done owed apart =
    put_rises 0 d (mixed ds os) (omega arith)
    (mixed_each (λ r. lo_of r ≢ d.span.lo) ds os
    (from_members (λ (e : Done). e.span.lo ≢ d.span.lo) ds (λ e h same.
    let r = order_members d.span.hi (map (λ (x : Done). x.span) ds) e.span done.2
    (map_in (λ (x : Done). x.span) ds e h) in
    let low : d.span.hi ≤ e.span.lo = r.0 in
    let some : d.span.lo < d.span.hi = done.1 in omega (arith, low, some, same)))
    (from_members (λ (o : Span). o.lo ≢ d.span.lo) os (λ o h same. apart d o (first_in d ds d refl) h (sym same))))
    (mixed_rises d.span.hi ds os done.2 owed (λ e o h k. apart e o (later_in d ds e h) k))

abbrev placed_is : Version → List Range → List Placed
placed_is v rs = map (λ r. (lo_of r, line_bytes (range_words v r))) rs

put_placed : (v : Version) (r : Range) (rs : List Range)
    → put_line (lo_of r, line_bytes (range_words v r)) (placed_is v rs) ≡ placed_is v (put_range r rs)
put_placed v r [] = refl
put_placed v r (q ∷ qs) = cases (nat_lt (lo_of r) (lo_of q)) (put_placed v r qs)
  where
    cases : (b : Bool)
        → put_line (lo_of r, line_bytes (range_words v r)) (placed_is v qs) ≡ placed_is v (put_range r qs)
        → cond b ((lo_of r, line_bytes (range_words v r)) ∷ (lo_of q, line_bytes (range_words v q)) ∷ placed_is v qs)
        ((lo_of q, line_bytes (range_words v q)) ∷ put_line (lo_of r, line_bytes (range_words v r)) (placed_is v qs))
        ≡ placed_is v (cond b (r ∷ q ∷ qs) (q ∷ put_range r qs))
    cases true later = refl
    cases false later = ap (λ (ls : List Placed). (lo_of q, line_bytes (range_words v q)) ∷ ls) later

open_placed : (v : Version) (os : List Span) → map open_line os ≡ placed_is v (map inr os)
open_placed v [] = refl
open_placed v (o ∷ os) = ap (λ (ls : List Placed). open_line o ∷ ls) (open_placed v os)

mixed_placed : (v : Version) (ds : List Done) (os : List Span)
    → put_lines (map (done_line v) ds) (map open_line os) ≡ placed_is v (mixed ds os)
mixed_placed v [] os = open_placed v os
mixed_placed v (d ∷ ds) os = ap (put_line (done_line v d)) (mixed_placed v ds os) ∙ put_placed v (inl d) (mixed ds os)

placed_text : (v : Version) (rs : List Range)
    → flat_map (λ (l : Placed). l.1) (placed_is v rs) ≡ lines_text (map (range_words v) rs)
placed_text v [] = refl
placed_text v (r ∷ rs) = ap (λ x. line_bytes (range_words v r) ++ x) (placed_text v rs)

part_text_is : (v : Version) (e : List ℕ × Marks) → lines_text (part_lines v e) ≡ part_text v e
part_text_is v e = ap (λ x. words (codes "partition") (escape_of e.0 ∷ decimal e.1.next ∷ []) ++ x)
    (sym (placed_text v (mixed e.1.finished e.1.owed))
    ∙ sym (ap (λ ls. flat_map (λ (l : Placed). l.1) ls) (mixed_placed v e.1.finished e.1.owed)))

pub parts_text_is : (v : Version) (es : Table Marks) → lines_text (flat_map (part_lines v) es) ≡ parts_text v es
parts_text_is v [] = refl
parts_text_is v (e ∷ es) =
    lines_append (part_lines v e) (flat_map (part_lines v) es) ∙ (λ i. part_text_is v e i ++ parts_text_is v es i)

-- the index of a range's pipeline, as the version can tell it
abbrev pub IndexFits : Version → ℕ → Type 0
IndexFits version_1 i = i ≡ 0
IndexFits version_2 i = Small i

pub record SpanFits (s : Span) : Type 0 where
  pub lo : Small s.lo
  pub hi : Small s.hi

pub record DoneFits (v : Version) (d : Done) : Type 0 where
  pub span : SpanFits d.span
  pub index : IndexFits v d.pipeline

-- a partition that a file can tell
pub record PartFits (v : Version) (e : List ℕ × Marks) : Type 0 where
  pub bytes : AreBytes e.0
  pub next : Small e.1.next
  pub order : InOrder 0 (done_spans e.1)
  pub rise : rises_from 0 (mixed e.1.finished e.1.owed) ≡ true
  pub finished : AllByRecursion (DoneFits v) e.1.finished
  pub owed : AllByRecursion SpanFits e.1.owed

abbrev pub RangeFits : Version → Range → Type 0
RangeFits v (inl d) = DoneFits v d
RangeFits v (inr s) = SpanFits s

pub mixed_fits : (v : Version) (ds : List Done) (os : List Span) → AllByRecursion (DoneFits v) ds
    → AllByRecursion SpanFits os → AllByRecursion (RangeFits v) (mixed ds os)
mixed_fits v ds os done owed = mixed_each (RangeFits v) ds os done owed

range_good : (v : Version) (r : Range) → RangeFits v r → AreWords (range_words v r)
range_good version_1 (inl d) f =
    number_line_words (codes "done") (d.span.lo ∷ d.span.hi ∷ []) refl (f.span.lo, (f.span.hi, tt))
range_good version_2 (inl d) f =
    number_line_words (codes "done") (d.span.lo ∷ d.span.hi ∷ d.pipeline ∷ []) refl
    (f.span.lo, (f.span.hi, (f.index, tt)))
range_good v (inr s) f = number_line_words (codes "open") (s.lo ∷ s.hi ∷ []) refl (f.lo, (f.hi, tt))

ranges_good : (v : Version) (rs : List Range) → AllByRecursion (RangeFits v) rs
    → AllByRecursion AreWords (map (range_words v) rs)
ranges_good v [] all = tt
ranges_good v (r ∷ rs) all = (range_good v r all.0, ranges_good v rs all.1)

pub parts_good : (v : Version) (es : Table Marks) → AllByRecursion (PartFits v) es
    → AllByRecursion AreWords (flat_map (part_lines v) es)
parts_good v [] all = tt
parts_good v (e ∷ es) all = each_append AreWords (part_lines v e) (flat_map (part_lines v) es) (
  (refl, (escaped_is_word e.0, (decimal_is_word e.1.next all.0.next, tt))),
  ranges_good v (mixed e.1.finished e.1.owed) (mixed_fits v e.1.finished e.1.owed all.0.finished all.0.owed),
)
    (parts_good v es all.1)

-- ---- the whole file

abbrev pub end_line : WordLine
end_line = (codes "end", [])

abbrev pub contents_lines : List ℕ → Version → Option ℕ → State → List WordLine
contents_lines kind v how c = number_line kind (version_number v ∷ []) ∷ number_line (codes "run") (c.run ∷ [])
    ∷ (pipelines_lines how c.pipelines ++ (totals_lines c.totals ++ (flat_map (part_lines v) c.parts ++ end_line ∷ [])))

-- what a file can tell
pub record ContentsFit (v : Version) (c : State) : Type 0 where
  pub run : Small c.run
  pub pipelines : AllByRecursion HasLines c.pipelines
  pub few : Small (length c.pipelines)
  pub totals : SmallCounts c.totals
  pub branches : length c.totals.branches ≤ 8
  pub parts : AllByRecursion (PartFits v) c.parts

inner_text : (v : Version) (how : Option ℕ) (c : State) → AllByRecursion HasLines c.pipelines
    → lines_text
    (pipelines_lines how c.pipelines ++ (totals_lines c.totals ++ (flat_map (part_lines v) c.parts ++ end_line ∷ [])))
    ≡ counted_text how c.pipelines ++ (totals_text c.totals ++ (parts_text v c.parts ++ (codes "end" ++ 10 ∷ [])))
inner_text v how c have =
    let last = lines_append (flat_map (part_lines v) c.parts) (end_line ∷ []) in
    let parts = last ∙ ap (λ x. x ++ (codes "end" ++ 10 ∷ [])) (parts_text_is v c.parts) in
    let rest = lines_append (totals_lines c.totals) (flat_map (part_lines v) c.parts ++ end_line ∷ []) in
    let totals = rest ∙ (λ i. totals_text_is c.totals i ++ parts i) in
    lines_append (pipelines_lines how c.pipelines)
    (totals_lines c.totals ++ (flat_map (part_lines v) c.parts ++ end_line ∷ []))
    ∙ (λ i. pipelines_text_is how c.pipelines have i ++ totals i)

regrouped : (a b p t q e n : List ℕ)
    → a ++ (b ++ (p ++ (t ++ (q ++ (e ++ n))))) ≡ (((a ++ b) ++ ((p ++ t) ++ q)) ++ e) ++ n
regrouped a b p t q e n = simp append_assoc

-- the text of the lines is the file's
pub contents_text : (kind : List ℕ) (v : Version) (how : Option ℕ) (c : State) → AllByRecursion HasLines c.pipelines
    → lines_text (contents_lines kind v how c)
    ≡ file_text kind v c.run (counted_text how c.pipelines ++ totals_text c.totals ++ parts_text v c.parts)
contents_text kind v how c have =
    let first : List ℕ = numbered_line kind (version_number v ∷ []) in
    let run : List ℕ = numbered_line (codes "run") (c.run ∷ []) in
    ap (λ x. first ++ (run ++ x)) (inner_text v how c have)
    ∙ regrouped first run (counted_text how c.pipelines) (totals_text c.totals) (parts_text v c.parts) (codes "end")
    (10 ∷ [])

pub version_small : (v : Version) → Small (version_number v)
version_small version_1 = omega arith
version_small version_2 = omega arith

pub contents_good : (kind : List ℕ) (v : Version) (how : Option ℕ) (c : State) → IsWord kind → ContentsFit v c
    → AllByRecursion AreWords (contents_lines kind v how c)
contents_good kind v how c word fit = (
  number_line_words kind (version_number v ∷ []) word (version_small v, tt),
  (
    number_line_words (codes "run") (c.run ∷ []) refl (fit.run, tt),
    each_append AreWords (pipelines_lines how c.pipelines) (totals_lines c.totals ++ (parts ++ end_line ∷ []))
        (pipelines_good how c.pipelines fit.few fit.pipelines)
        (each_append AreWords (totals_lines c.totals) (parts ++ end_line ∷ [])
        (totals_good c.totals fit.totals fit.branches)
        (each_append AreWords parts (end_line ∷ []) (parts_good v c.parts fit.parts) ((refl, tt), tt))),
  ),
)
  where
    parts : List WordLine
    parts = flat_map (part_lines v) c.parts
