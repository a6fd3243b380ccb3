-- How natural lines make logical ones.
use Rattle.std.proofs.Common.{◌≡◌, ℕ, ◌+◌, ◌-◌, ◌%◌, ◌<◌, ◌≤◌, Bool, true, false, cond, not, ◌&&◌, nat_eq, List, []}
use Rattle.std.proofs.Common.{◌∷◌, ◌++◌, reverse, length, length-append, take, refl, sym, ap, ◌∙◌, arith, Option, Some}
use Rattle.std.proofs.Common.{None}
use Rattle.std.proofs.Math.Seq.{take-length}
use Rattle.std.proofs.lemmas.List.{take-append-le, reverse-append}
use Rattle.std.specs.List.{prefix_len, suffix_len}
use Rattle.std.specs.Option.{is_some, option_to_list}
use Rattle.std.proofs.lemmas.Bool.Decides.{nat_tests}
use Rattle.std.proofs.lemmas.Bool.{cond-true, cond-false, true≢false}
use Rattle.gob_props.specs.Properties.{is_backslash, is_white_space, without_white_space, goes_on, part_of}
use Rattle.gob_props.specs.Properties.{is_passed_over, Logical}
use Rattle.gob_props.specs.Properties.{with_line, logical_from}
use Rattle.gob_props.specs.Steps.{later_lines}

-- ---- the backslashes at the end of a line

odd_more : (n : ℕ) → nat_eq ((1 + n) % 2) 1 ≡ not (nat_eq (n % 2) 1)
odd_more n = grind (arith, nat_tests)

-- one more character
pub goes_on_more : (cs : List ℕ) (c : ℕ) → goes_on (cs ++ c ∷ []) ≡ (is_backslash c && not (goes_on cs))
unfolding goes_on
goes_on_more cs c =
    ap (λ l. nat_eq (prefix_len is_backslash l % 2) 1) (reverse-append cs (c ∷ []))
    ∙ elim (is_backslash c) as
    (λ b. nat_eq (cond b (1 + suffix_len is_backslash cs) 0 % 2) 1 ≡
    (b && not (nat_eq (suffix_len is_backslash cs % 2) 1))) [
      | true ↦ odd_more (suffix_len is_backslash cs)
      | false ↦ refl
    ]

pub goes_on_none : goes_on [] ≡ false
unfolding goes_on
goes_on_none = refl

after_other : (rs : List ℕ) (c : ℕ) → is_backslash c ≡ false →
    prefix_len is_backslash (rs ++ c ∷ []) ≡ prefix_len is_backslash rs
after_other [] c other = cond-false _ _ _ other
after_other (r ∷ rs) c other = ap (λ n. cond (is_backslash r) (1 + n) 0) (after_other rs c other)

blank_other : (c : ℕ) → is_white_space c ≡ true → is_backslash c ≡ false
blank_other c blank = grind (arith, nat_tests)

-- white space in front changes nothing
pub goes_on_trimmed : (cs : List ℕ) → goes_on (without_white_space cs) ≡ goes_on cs
unfolding goes_on
goes_on_trimmed [] = refl
goes_on_trimmed (c ∷ cs) = either (is_white_space c) refl (goes_on_trimmed cs)
  where
    either : (b : Bool) → is_white_space c ≡ b → goes_on (without_white_space cs) ≡ goes_on cs →
        goes_on (cond b (without_white_space cs) (c ∷ cs)) ≡ goes_on (c ∷ cs)
    either true blank more =
        more ∙ ap (λ n. nat_eq (n % 2) 1)
        (sym (ap (prefix_len is_backslash) (reverse-append (c ∷ []) cs)
        ∙ after_other (reverse cs) c (blank_other c blank)))
    either false blank more = refl

-- a list whose last item was taken off
front_is : (text new : List ℕ) (c : ℕ) → text ≡ new ++ c ∷ [] → new ≡ take (length text - 1) text
front_is text new c is =
    let count : length text - 1 ≡ length new = omega (arith, ap length is, length-append new (c ∷ [])) in
    let within : length new ≤ length new = omega arith in
    sym (take-length new) ∙ sym (take-append-le (length new) new (c ∷ []) within) ∙ ap (take (length new)) (sym is)
    ∙ ap (λ n. take n text) (sym count)

without_item : (old new text : List ℕ) (c : ℕ) → old ++ text ≡ new ++ c ∷ [] → 0 < length text →
    new ≡ old ++ take (length text - 1) text
without_item [] new text c same some = front_is text new c same
without_item (o ∷ old) [] text c same some =
    let none : old ++ text ≡ [] = cc in absurd (omega (arith, ap length none, length-append old text))
without_item (o ∷ old) (n ∷ new) text c same some =
    let rest : old ++ text ≡ new ++ c ∷ [] = cc in
    let first : n ≡ o = cc in
    let later = without_item old new text c rest some in
    λ i. first i ∷ later i

pub without_last : (old new text : List ℕ) (last : Option ℕ) → old ++ text ≡ new ++ option_to_list last →
    0 < length text → is_some last ≡ true → new ≡ old ++ take (length text - 1) text
without_last old new text None same some there = cc
without_last old new text (Some c) same some there = without_item old new text c same some

pub part_whole : (line : List ℕ) → goes_on line ≡ false → part_of line ≡ without_white_space line
part_whole line whole = cond-false _ _ _ whole

pub part_front : (line : List ℕ) → goes_on line ≡ true → part_of line ≡ take (length (without_white_space line) - 1)
    (without_white_space line)
part_front line more = cond-true _ _ _ more

pub goes_on_some : (text : List ℕ) → goes_on text ≡ true → 0 < length text
goes_on_some [] more = let none = goes_on_none in cc
goes_on_some (c ∷ cs) more = omega arith

-- ---- logical lines

-- a line that goes on, and the next natural line
pub later_step : (begun : Logical) (n : ℕ) (line : List ℕ) (lines : List (List ℕ)) →
    later_lines true begun n (line ∷ lines) ≡ later_lines (goes_on line) (with_line begun line) (n + 1) lines
unfolding logical_from
later_step begun n line lines =
    elim (goes_on line) as
    (λ v. cond v (logical_from (Some (with_line begun line)) (n + 1) lines)
    (with_line begun line ∷ logical_from None (n + 1) lines) ≡
    later_lines v (with_line begun line) (n + 1) lines) [ true ↦ refl | false ↦ refl ]

-- a natural line that is not passed over
pub logical_start : (n : ℕ) (line : List ℕ) (lines : List (List ℕ)) → is_passed_over line ≡ false →
    logical_from None n (line ∷ lines) ≡ later_lines (goes_on line) (with_line (record { number = n; text = [] }) line)
    (n + 1) lines
unfolding logical_from
logical_start n line lines no' =
    cond-false _ _ _ no' ∙ elim (goes_on line) as
    (λ v. cond v (logical_from (Some (with_line (record { number = n; text = [] }) line)) (n + 1) lines)
    (with_line (record { number = n; text = [] }) line ∷ logical_from None (n + 1) lines) ≡
    later_lines v (with_line (record { number = n; text = [] }) line)
    (n + 1) lines) [ true ↦ refl | false ↦ refl ]

-- a line that is passed over
pub logical_passed : (n : ℕ) (line : List ℕ) (lines : List (List ℕ)) → is_passed_over line ≡ true →
    logical_from None n (line ∷ lines) ≡ logical_from None (n + 1) lines
unfolding logical_from
logical_passed n line lines yes' = cond-true _ _ _ yes'

-- one more natural line was joined
pub joined_more : (n count : ℕ) (text part text' : List ℕ) (more' : Bool) (next : List ℕ) (lines all : List (List ℕ)) →
    all ≡ next ∷ lines → text' ≡ text ++ part → part ≡ part_of next → more' ≡ goes_on next →
    later_lines true (record { number = n; text = text }) (n + count) all ≡
    later_lines more' (record { number = n; text = text' }) (n + (count + 1)) lines
joined_more n count text part text' more' next lines all whole joined part-is more-is =
    let place : n + count + 1 ≡ n + (count + 1) = omega arith in
    let text-is : text ++ part_of next ≡ text' = ap (λ p. text ++ p) (sym part-is) ∙ sym joined in
    ap (later_lines true (record { number = n; text = text }) (n + count)) whole
    ∙ later_step (record { number = n; text = text }) (n + count) next lines
    ∙ ap (λ k. later_lines (goes_on next) (with_line (record { number = n; text = text }) next) k lines) place
    ∙ ap (λ t. later_lines (goes_on next) (record { number = n; text = t }) (n + (count + 1)) lines) text-is
    ∙ ap (λ m. later_lines m (record { number = n; text = text' }) (n + (count + 1)) lines) (sym more-is)

-- the lines end within a logical line
pub later_none : (begun : Logical) (n : ℕ) → later_lines true begun n [] ≡ begun ∷ logical_from None n []
unfolding logical_from
later_none begun n = refl

-- a line goes on no more
pub later_done : (more : Bool) (begun : Logical) (n : ℕ) (lines : List (List ℕ)) → more ≡ false →
    later_lines more begun n lines ≡ begun ∷ logical_from None n lines
later_done true begun n lines e = absurd (true≢false e)
later_done false begun n lines e = refl
