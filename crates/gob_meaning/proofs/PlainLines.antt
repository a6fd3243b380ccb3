-- What the plain plan makes of whole lines.
use Rattle.std.proofs.Common.{◌≡◌, ◌≢◌, ◌⊎◌, inl, inr, ℕ, zero, suc, ◌+◌, ◌*◌, Bool, true, false, cond, ◌&&◌, ◌||◌}
use Rattle.std.proofs.Common.{List, [], ◌∷◌, ◌++◌, length, nat_eq, map, flat_map, count_by, sum_by, None, refl, sym, ap}
use Rattle.std.proofs.Common.{◌∙◌, arith, append_assoc, append-nil, length-append, IsUtf8}
use Rattle.std.specs.List.{list_any}
use Rattle.std.specs.Str.{is_utf8, bytes_eq}
use Rattle.std.proofs.lemmas.Bool.{cond-true, cond-false, cond_both, eqb-true, true≢false, and_left, ne_eqb}
use Rattle.std.proofs.lemmas.Str.{IsUtf8-from_is_utf8, is_utf8-from_IsUtf8, IsUtf8-take, IsUtf8-drop}
use Rattle.std.proofs.lemmas.Str.{IsCharBoundary-after_ascii}
use Rattle.std.proofs.lemmas.List.Sums.{sum_by-cons}
use Rattle.std.proofs.Math.Nat.{suc-mul}
use Rattle.std.proofs.Math.Seq.{take-append_seam, drop-append-add, get_or-append_seam}
use Rattle.gob_bytes.specs.Lines.{Line, raw_of, without_cr, lines, lines_from, rest, rest_from, ends_in_lf}
use Rattle.gob_bytes.proofs.Cuts.{lines_fill}
use Rattle.gob_plan.specs.declared.units.Unit.{Unit as WorkUnit}
use Rattle.gob_plan.specs.Columns.{is_columns}
use Rattle.gob_meaning.specs.Plans.{is_fitting}
use Rattle.gob_meaning.specs.Formats.{line_rows, record_of}
use Rattle.gob_meaning.specs.Policies.{ruling}
use Rattle.gob_meaning.specs.Fork.{picks, place_of}
use Rattle.gob_meaning.specs.Items.{Target, out, err, bad, written, RowMade, LineMade, made, made_in_branch, line_made}
use Rattle.gob_meaning.specs.Fold.{Folded, folded_line, unit_fold, deliveries_of, sent_to, counts_of, stop_of}
use Rattle.gob_meaning.specs.Fold.{before_stop, stop_from, before_stop_from, saturate_u64, same_target, is_record}
use Rattle.gob_meaning.specs.Fold.{is_bad, rows_in, unrouted_in, is_written, is_error, in_branch}
use Rattle.gob_meaning.specs.Results.{verdict_of, warnings_of}
use Rattle.gob_meaning.specs.Job.{plain_plan}
use Rattle.gob_meaning.specs.Laws.{has_crlf, IsPlainText, MakesItself, IsGoodAlone, all_written}

-- neither of two that are not one or the other
pub or_parts : (s t : Bool) → (s || t) ≡ false → (s ≡ false) × (t ≡ false)
or_parts true t none = (none, absurd (true≢false none))
or_parts false t none = (refl, none)

or_none : (s t : Bool) → s ≡ false → t ≡ false → (s || t) ≡ false
or_none true t first second = first
or_none false t first second = second

not_both : (s : Bool) → (s && true) ≡ false → s ≡ false
not_both true none = none
not_both false none = refl

-- ---- one line

-- a line of UTF-8 without a line feed within and a carriage return before its end
record IsPlainLine (l : Line) : Type 0 where
  text : is_utf8 l.body ≡ true
  bare : without_cr l.body ≡ l.body
  single : list_any (λ b. nat_eq b 10) l.body ≡ false

-- its one item
abbrev itself : List ℕ → LineMade
itself raw = made (record {
  items = record { branch = 0; place = []; optional = 0; end = written raw } ∷ [];
  rows =
      1;
  unrouted = 0;
})

plain_line : (offset : ℕ) (l : Line) → IsPlainLine l → line_made plain_plan offset l ≡ itself (raw_of l)
unfolding line_made line_rows record_of made_in_branch ruling picks place_of
plain_line offset l plain = rw (plain.bare, plain.text, plain.single) refl

-- ---- lines

AllPlain : List Line → Type 0
AllPlain [] = Unit {0}
AllPlain (l ∷ ls) = IsPlainLine l × AllPlain ls

-- what has no carriage return before a line feed has none in an ending
has_crlf-drop : (x y : List ℕ) → has_crlf (x ++ y) ≡ false → has_crlf y ≡ false
has_crlf-drop [] y none = none
has_crlf-drop (a ∷ []) [] none = refl
has_crlf-drop (a ∷ []) (b ∷ bs) none = (or_parts (nat_eq a 13 && nat_eq b 10) (has_crlf (b ∷ bs)) none).1
has_crlf-drop (a ∷ b ∷ x) y none = has_crlf-drop (b ∷ x) y
    (or_parts (nat_eq a 13 && nat_eq b 10) (has_crlf (b ∷ x ++ y)) none).1

-- and a line before its line feed doesn't end in one
without_cr-bare : (x bs : List ℕ) → has_crlf (x ++ 10 ∷ bs) ≡ false → without_cr x ≡ x
without_cr-bare [] bs none = refl
without_cr-bare (a ∷ []) bs none = cond-false (nat_eq a 13) [] (a ∷ [])
    (not_both (nat_eq a 13) (or_parts (nat_eq a 13 && true) (has_crlf (10 ∷ bs)) none).0)
without_cr-bare (a ∷ b ∷ x) bs none = ap (λ y. a ∷ y)
    (without_cr-bare (b ∷ x) bs (or_parts (nat_eq a 13 && nat_eq b 10) (has_crlf (b ∷ x ++ 10 ∷ bs)) none).1)

list_any-push : (p : ℕ → Bool) (x : List ℕ) (b : ℕ) → list_any p x ≡ false → p b ≡ false → list_any p (x ++ b ∷ [])
    ≡ false
list_any-push p [] b none last = or_none (p b) false last refl
list_any-push p (a ∷ x) b none last =
    let parts = or_parts (p a) (list_any p x) none in
    or_none (p a) (list_any p (x ++ b ∷ [])) parts.0 (list_any-push p x b parts.1 last)

-- UTF-8 on both sides of a line feed
before_lf : (x bs : List ℕ) → IsUtf8 (x ++ 10 ∷ bs) → IsUtf8 x
before_lf x bs text =
    rw take-append_seam at (IsUtf8-take (x ++ 10 ∷ bs) (length x) text (
      simp length-append (omega arith),
      λ _ high.
          absurd (let at_seam = get_or-append_seam x 10 bs 0 in omega arith),
    ))

after_lf : (x bs : List ℕ) → IsUtf8 (x ++ 10 ∷ bs) → IsUtf8 bs
after_lf x bs text =
    let boundary = IsCharBoundary-after_ascii (x ++ 10 ∷ bs) (length x) text (simp length-append (omega arith))
    (let at_seam = get_or-append_seam x 10 bs 0 in omega arith) in
    rw drop-append-add at (IsUtf8-drop (x ++ 10 ∷ bs) (length x + 1) text boundary)

plain_from : (start : ℕ) (begun bs : List ℕ) → list_any (λ b. nat_eq b 10) begun ≡ false → has_crlf (begun ++ bs)
    ≡ false → IsUtf8 (begun ++ bs) → AllPlain (lines_from start begun bs)
unfolding AllPlain lines_from
plain_from start begun [] single bare text = tt
plain_from start begun (b ∷ bs) single bare text =
    cond_both (nat_eq b 10) (record { start = start; body = begun } ∷ lines_from (start + length begun + 1) [] bs)
    (lines_from start (begun ++ b ∷ []) bs) AllPlain
    (λ feed.
    let at_lf = rw (eqb-true b 10 feed) at text in
    let bare_lf = rw (eqb-true b 10 feed) at bare in (
      record {
        text = is_utf8-from_IsUtf8 begun (before_lf begun bs at_lf);
        bare =
            without_cr-bare begun bs bare_lf;
        single = single;
      },
      plain_from (start + length begun + 1) [] bs refl
          (has_crlf-drop (begun ++ 10 ∷ []) bs (rw (append_assoc begun (10 ∷ []) bs) bare_lf))
          (after_lf begun bs at_lf),
    ))
    (λ other. plain_from start (begun ++ b ∷ []) bs (list_any-push (λ c. nat_eq c 10) begun b single other)
    (rw (append_assoc begun (b ∷ []) bs) bare) (rw (append_assoc begun (b ∷ []) bs) text))

-- nothing stands after the last line feed of a text that ends in one
pub rest_whole : (begun bs : List ℕ) → ends_in_lf bs ≡ true → rest_from begun bs ≡ []
unfolding rest_from
rest_whole begun [] ends = absurd (true≢false (sym ends))
rest_whole begun (b ∷ []) ends = cond-true (nat_eq b 10) [] (begun ++ b ∷ []) ends
rest_whole begun (b ∷ c ∷ bs) ends =
    cond_both (nat_eq b 10) (rest_from [] (c ∷ bs)) (rest_from (begun ++ b ∷ []) (c ∷ bs)) (λ r. r ≡ [])
    (λ _. rest_whole [] (c ∷ bs) ends) (λ _. rest_whole (begun ++ b ∷ []) (c ∷ bs) ends)

-- ---- what the lines make

-- the line as it is, at its offset
abbrev as_is : ℕ → Line → Folded
as_is lo l = record { at = lo + l.start; made = itself (raw_of l) }

folds_as_is : (lo : ℕ) (ls : List Line) → AllPlain ls → map (folded_line plain_plan lo) ls ≡ map (as_is lo) ls
unfolding AllPlain
folds_as_is lo [] plain = refl
folds_as_is lo (l ∷ ls) plain = rw (plain_line (lo + l.start) l plain.0, folds_as_is lo ls plain.1) refl

sent_as_is : (lo : ℕ) (ls : List Line) → sent_to (out 0 []) (deliveries_of (map (as_is lo) ls)) ≡ flat_map raw_of ls
unfolding sent_to
sent_as_is lo [] = refl
sent_as_is lo (l ∷ ls) = ap (λ bytes. raw_of l ++ bytes) (sent_as_is lo ls)

not_same : (t : Target) → t ≢ out 0 [] → same_target t (out 0 []) ≡ false
not_same (out zero []) other = absurd (other refl)
not_same (out zero (p ∷ place)) other = refl
not_same (out (suc b) place) other = and_left (nat_eq (suc b) 0) (bytes_eq place [])
    (ne_eqb (suc b) 0 (λ e. absurd (omega arith)))
not_same (err b place) other = refl
not_same bad other = refl

sent_nowhere_else : (lo : ℕ) (t : Target) → t ≢ out 0 [] → (ls : List Line)
    → sent_to t (deliveries_of (map (as_is lo) ls)) ≡ []
unfolding sent_to
sent_nowhere_else lo t other [] = refl
sent_nowhere_else lo t other (l ∷ ls) = rw (not_same t other) (sent_nowhere_else lo t other ls)

stops_nowhere : (lo : ℕ) (ls : List Line) → stop_from 0 (map (as_is lo) ls) ≡ None
stops_nowhere lo [] = refl
stops_nowhere lo (l ∷ ls) = stops_nowhere lo ls

goes_whole : (lo : ℕ) (ls : List Line) → before_stop_from 0 (map (as_is lo) ls) ≡ map (as_is lo) ls
goes_whole lo [] = refl
goes_whole lo (l ∷ ls) = ap (λ fs. as_is lo l ∷ fs) (goes_whole lo ls)

-- each line adds the same to a sum
sum_as_is : (lo n : ℕ) (f : Folded → ℕ) → ((l : Line) → f (as_is lo l) ≡ n) → (ls : List Line)
    → sum_by f (map (as_is lo) ls) ≡ length ls * n
sum_as_is lo n f same [] = omega arith
sum_as_is lo n f same (l ∷ ls) =
    let here = same l in
    let later = sum_as_is lo n f same ls in
    let first = sum_by-cons f (as_is lo l) (map (as_is lo) ls) in
    omega (arith, suc-mul (length ls) n)

-- the one branch has an item of each line
abbrev item_as_is : Line → RowMade
item_as_is l = record { branch = 0; place = []; optional = 0; end = written (raw_of l) }

items_as_is : (lo : ℕ) (ls : List Line) → in_branch 0 (map (as_is lo) ls) ≡ map item_as_is ls
items_as_is lo [] = refl
items_as_is lo (l ∷ ls) = ap (λ is. item_as_is l ∷ is) (items_as_is lo ls)

sum_items : (n : ℕ) (f : RowMade → ℕ) → ((l : Line) → f (item_as_is l) ≡ n) → (ls : List Line)
    → sum_by f (map item_as_is ls) ≡ length ls * n
sum_items n f same [] = omega arith
sum_items n f same (l ∷ ls) =
    let here = same l in
    let later = sum_items n f same ls in
    let first = sum_by-cons f (item_as_is l) (map item_as_is ls) in
    omega (arith, suc-mul (length ls) n)

count_as_is : (lo : ℕ) (p : Folded → Bool) → ((l : Line) → p (as_is lo l) ≡ true) → (ls : List Line)
    → count_by p (map (as_is lo) ls) ≡ length ls
count_as_is lo p all ls = let summed = sum_as_is lo 1 (λ f. cond (p f) 1 0)
    (λ l. cond-true (p (as_is lo l)) 1 0 (all l)) ls in omega arith

count_none : (lo : ℕ) (p : Folded → Bool) → ((l : Line) → p (as_is lo l) ≡ false) → (ls : List Line)
    → count_by p (map (as_is lo) ls) ≡ 0
count_none lo p none ls = let summed = sum_as_is lo 0 (λ f. cond (p f) 1 0)
    (λ l. cond-false (p (as_is lo l)) 1 0 (none l)) ls in omega arith

count_items : (p : RowMade → Bool) → ((l : Line) → p (item_as_is l) ≡ true) → (ls : List Line)
    → count_by p (map item_as_is ls) ≡ length ls
count_items p all ls = let summed = sum_items 1 (λ i. cond (p i) 1 0)
    (λ l. cond-true (p (item_as_is l)) 1 0 (all l)) ls in omega arith

count_no_items : (p : RowMade → Bool) → ((l : Line) → p (item_as_is l) ≡ false) → (ls : List Line)
    → count_by p (map item_as_is ls) ≡ 0
count_no_items p none ls = let summed = sum_items 0 (λ i. cond (p i) 1 0)
    (λ l. cond-false (p (item_as_is l)) 1 0 (none l)) ls in omega arith

counts_as_is : (lo : ℕ) (ls : List Line) → counts_of plain_plan (map (as_is lo) ls)
    ≡ all_written (saturate_u64 (length ls))
unfolding counts_of
counts_as_is lo ls =
    let records : count_by (λ f. is_record f.made) (map (as_is lo) ls) ≡ length ls =
    count_as_is lo (λ f. is_record f.made) (λ l. refl) ls in
    let bads : count_by (λ f. is_bad f.made) (map (as_is lo) ls) ≡ 0 =
    count_none lo (λ f. is_bad f.made) (λ l. refl) ls in
    let rows : sum_by (λ f. rows_in f.made) (map (as_is lo) ls)
    ≡ length ls = (let summed = sum_as_is lo 1 (λ f. rows_in f.made) (λ l. refl) ls in omega arith) in
    let unrouted : sum_by (λ f. unrouted_in f.made) (map (as_is lo) ls)
    ≡ 0 = (let summed = sum_as_is lo 0 (λ f. unrouted_in f.made) (λ l. refl) ls in omega arith) in
    let writes : count_by (λ i. is_written i.end) (map item_as_is ls) ≡ length ls =
    count_items (λ i. is_written i.end) (λ l. refl) ls in
    let errors : count_by (λ i. is_error i.end) (map item_as_is ls) ≡ 0 =
    count_no_items (λ i. is_error i.end) (λ l. refl) ls in
    let optional : sum_by (λ i. i.optional) (map item_as_is ls)
    ≡ 0 = (let summed = sum_items 0 (λ i. i.optional) (λ l. refl) ls in omega arith) in
    rw (records, bads, rows, unrouted, items_as_is lo ls, writes, errors, optional) refl

-- ---- whole texts

folds_plain : (lo : ℕ) (bytes : List ℕ) → IsPlainText bytes → unit_fold plain_plan lo bytes
    ≡ map (as_is lo) (lines bytes)
unfolding unit_fold
folds_plain lo bytes plain = folds_as_is lo (lines bytes)
    (plain_from 0 [] bytes refl plain.bare (IsUtf8-from_is_utf8 bytes plain.text))

nothing_left : (bytes : List ℕ) → (bytes ≡ []) ⊎ (ends_in_lf bytes ≡ true) → rest bytes ≡ []
unfolding rest_from
nothing_left bytes (inl empty) = rw empty refl
nothing_left bytes (inr ends) = rest_whole [] bytes ends

all_lines : (bytes : List ℕ) → IsPlainText bytes → flat_map raw_of (lines bytes) ≡ bytes
all_lines bytes plain = sym (append-nil (flat_map raw_of (lines bytes)))
    ∙ ap (λ left. flat_map raw_of (lines bytes) ++ left) (sym (nothing_left bytes plain.whole))
    ∙ (lines_fill bytes).whole

pub plain_lines : (lo : ℕ) (bytes : List ℕ) → IsPlainText bytes → MakesItself lo bytes
unfolding stop_of before_stop
plain_lines lo bytes plain =
    let folds = folds_plain lo bytes plain in
    record {
      sent = rw folds (sent_as_is lo (lines bytes) ∙ all_lines bytes plain);
      alone = λ t other. rw folds (sent_nowhere_else lo t other (lines bytes));
      goes_on = rw folds (stops_nowhere lo (lines bytes));
      all = rw folds (goes_whole lo (lines bytes));
      counts = rw folds (counts_as_is lo (lines bytes));
    }

pub plain_unit : (unit : WorkUnit) (bytes : List ℕ) → IsPlainText bytes → IsGoodAlone unit bytes
unfolding verdict_of warnings_of
plain_unit unit bytes plain listed ends =
    let made_of = plain_lines unit.lo bytes plain in
    rw (listed, made_of.goes_on, ends, made_of.counts) refl

-- its one branch takes whole lines and has no more to fit
pub plain_fits : is_fitting plain_plan ≡ true
unfolding is_columns is_fitting
plain_fits = refl
