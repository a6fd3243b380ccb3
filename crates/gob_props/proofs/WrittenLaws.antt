-- Entries that are written out are read back.
use Rattle.std.proofs.Common.{◌≡◌, ℕ, suc, ◌+◌, ◌<◌, ◌≤◌, Bool, true, false, cond, not, ◌&&◌, ◌||◌, nat_eq, List, []}
use Rattle.std.proofs.Common.{◌∷◌, ◌++◌}
use Rattle.std.proofs.Common.{map, length, take, drop, refl, sym, ap, ◌∙◌, subst, arith, append_assoc, append-nil, Some}
use Rattle.std.proofs.Common.{None}
use Rattle.std.proofs.Common.{option_map, Ok, encode_utf8_all}
use Rattle.std.specs.Option.{option_and_then}
use Rattle.std.specs.Str.{NonePass}
use lib.Utf8.{scalar, scalars}
use Rattle.std.proofs.Common.{length-append}
use Rattle.std.proofs.lemmas.Bool.Decides.{nat_tests}
use Rattle.std.proofs.Common.{◌⊎◌, inl, inr, ⊎_elim}
use Rattle.std.proofs.Math.Seq.{take-length}
use Rattle.std.proofs.lemmas.Bool.{cond-true, cond-false, eqb-true, or_parts, and_from, and_parts}
use Rattle.std.proofs.lemmas.List.{take-append-le, drop_at}
use Rattle.std.proofs.lemmas.Str.{chars-encodes, is_utf8-from_IsUtf8}
use Rattle.gob_props.specs.Properties.{is_line_end, natural_from, natural_lines, is_white_space, is_backslash}
use Rattle.gob_props.specs.Properties.{without_white_space}
use Rattle.gob_props.specs.Properties.{is_comment}
use Rattle.gob_props.specs.Properties.{is_passed_over, goes_on, part_of, with_line, logical_from, is_key_end}
use Rattle.gob_props.specs.Properties.{is_separator, key_length, without_mark, key_part, value_part, Character}
use Rattle.gob_props.specs.Properties.{meaning_of}
use Rattle.gob_props.specs.Properties.{first_character, without_escapes, paired_up, key_value_of, put_first}
use Rattle.gob_props.specs.Properties.{all_entries}
use Rattle.gob_props.specs.Properties.{with_all, read_text, properties_of}
use Rattle.gob_props.specs.Laws.{Written, needs_backslash, spelled_character, spelled_text, line_of, written_text}
use Rattle.gob_props.specs.Laws.{are_scalars}
use Rattle.gob_props.specs.Laws.{in_bytes}
use Rattle.gob_props.specs.Laws.{EntriesReadBack}
use Rattle.gob_props.proofs.NaturalLemmas.{natural_cut}
use Rattle.gob_props.proofs.NaturalLaws.{after_feed}
use Rattle.gob_props.proofs.LogicalLemmas.{goes_on_more, goes_on_none, part_whole, logical_start, logical_passed}
use Rattle.gob_props.proofs.LogicalLemmas.{later_done}
use Rattle.gob_props.proofs.EscapeLemmas.{unescaped_step, unescaped_end}

-- ---- how one character is spelled

-- behind a backslash, by a letter that means it
record Escaped (c letter : ℕ) : Type 0 where
  pub spelling : spelled_character c ≡ 92 ∷ letter ∷ []
  pub no_unit : nat_eq letter 117 ≡ false
  pub meaning : meaning_of letter ≡ c
  pub no_end : is_line_end letter ≡ false
  pub scalar_letter : scalar c ≡ true → scalar letter ≡ true

-- as itself
record Raw (c : ℕ) : Type 0 where
  pub spelling : spelled_character c ≡ c ∷ []
  pub no_separator : is_separator c ≡ false
  pub no_backslash : is_backslash c ≡ false
  pub no_comment : (nat_eq c 35 || nat_eq c 33) ≡ false
  pub no_end : is_line_end c ≡ false

data Spelling (c : ℕ) : Type 0 where
  by_letter : (letter : ℕ) → Escaped c letter → Spelling c
  as_itself : Raw c → Spelling c

either_true : (a b : Bool) → (a || b) ≡ true → (a ≡ true) ⊎ (b ≡ true)
either_true true b is = inl refl
either_true false b is = inr is

none_true : (a b : Bool) → a ≡ false → b ≡ false → (a || b) ≡ false
none_true a b x y = ap (λ v. v || b) x ∙ y

at_number : (P : ℕ → Type 0) (c n : ℕ) → P n → nat_eq c n ≡ true → P c
at_number P c n there is = subst P (sym (eqb-true c n is)) there

-- what needs a backslash means itself behind one
self_meant : (c : ℕ) → needs_backslash c ≡ true → Escaped c c
self_meant c needs =
    let P : ℕ → Type 0 = λ n. Escaped n n in
    let at = at_number P c in
    ⊎_elim
    (λ (a : (is_separator c || is_backslash c || nat_eq c 35) ≡ true). ⊎_elim
    (λ (b : (is_separator c || is_backslash c) ≡ true). ⊎_elim
    (λ (d : is_separator c ≡ true). ⊎_elim
    (λ (m : is_key_end c ≡ true).
    ⊎_elim (at 61 (record { spelling = refl; no_unit = refl; meaning = refl; no_end = refl; scalar_letter = λ s. s }))
    (at 58 (record { spelling = refl; no_unit = refl; meaning = refl; no_end = refl; scalar_letter = λ s. s }))
    (either_true (nat_eq c 61) (nat_eq c 58) m))
    (λ (w : is_white_space c ≡ true). ⊎_elim
    (λ (x : (nat_eq c 32 || nat_eq c 9) ≡ true).
    ⊎_elim (at 32 (record { spelling = refl; no_unit = refl; meaning = refl; no_end = refl; scalar_letter = λ s. s }))
    (at 9 (record { spelling = refl; no_unit = refl; meaning = refl; no_end = refl; scalar_letter = λ s. s }))
    (either_true (nat_eq c 32) (nat_eq c 9) x))
    (at 12 (record { spelling = refl; no_unit = refl; meaning = refl; no_end = refl; scalar_letter = λ s. s }))
    (either_true (nat_eq c 32 || nat_eq c 9) (nat_eq c 12) w))
    (either_true (is_key_end c) (is_white_space c) d))
    (at 92 (record { spelling = refl; no_unit = refl; meaning = refl; no_end = refl; scalar_letter = λ s. s }))
    (either_true (is_separator c) (is_backslash c) b))
    (at 35 (record { spelling = refl; no_unit = refl; meaning = refl; no_end = refl; scalar_letter = λ s. s }))
    (either_true (is_separator c || is_backslash c) (nat_eq c 35) a))
    (at 33 (record { spelling = refl; no_unit = refl; meaning = refl; no_end = refl; scalar_letter = λ s. s }))
    (either_true (is_separator c || is_backslash c || nat_eq c 35) (nat_eq c 33) needs)

spelling_of : (c : ℕ) → Spelling c
spelling_of c = feed (nat_eq c 10) refl
  where
    itself : nat_eq c 10 ≡ false → nat_eq c 13 ≡ false → (b : Bool) → needs_backslash c ≡ b → Spelling c
    itself nf nr true needs = by_letter c (self_meant c needs)
    itself nf nr false needs =
        let a = or_parts (is_separator c || is_backslash c || nat_eq c 35) (nat_eq c 33) needs in
        let b = or_parts (is_separator c || is_backslash c) (nat_eq c 35) a.0 in
        let d = or_parts (is_separator c) (is_backslash c) b.0 in
        as_itself (record {
          spelling = rw (nf, nr, needs);
          no_separator = d.0;
          no_backslash = d.1;
          no_comment = none_true (nat_eq c 35) (nat_eq c 33) b.1 a.1;
          no_end = none_true (nat_eq c 10) (nat_eq c 13) nf nr;
        })

    return : nat_eq c 10 ≡ false → (b : Bool) → nat_eq c 13 ≡ b → Spelling c
    return nf true e = by_letter 114 (at_number (λ n. Escaped n 114) c 13 (record {
      spelling = refl;
      no_unit = refl;
      meaning = refl;
      no_end = refl;
      scalar_letter = λ s. refl;
    }) e)
    return nf false e = itself nf e (needs_backslash c) refl

    feed : (b : Bool) → nat_eq c 10 ≡ b → Spelling c
    feed true e = by_letter 110 (at_number (λ n. Escaped n 110) c 10 (record {
      spelling = refl;
      no_unit = refl;
      meaning = refl;
      no_end = refl;
      scalar_letter = λ s. refl;
    }) e)
    feed false e = return e (nat_eq c 13) refl

escaped_first : (c letter : ℕ) (cs : List ℕ) → Escaped c letter → spelled_text (c ∷ cs) ≡ 92 ∷ letter ∷ spelled_text cs
escaped_first c letter cs e = ap (λ t. t ++ spelled_text cs) e.spelling

raw_first : (c : ℕ) (cs : List ℕ) → Raw c → spelled_text (c ∷ cs) ≡ c ∷ spelled_text cs
raw_first c cs r = ap (λ t. t ++ spelled_text cs) r.spelling

-- ---- a spelled text, before what follows it

-- it has no line end
clear : (cs rest : List ℕ) → NonePass is_line_end rest → NonePass is_line_end (spelled_text cs ++ rest)
clear [] rest none = none
clear (c ∷ cs) rest none = step (spelling_of c) (clear cs rest none)
  where
    step : Spelling c → NonePass is_line_end (spelled_text cs ++ rest) → NonePass is_line_end
        (spelled_text (c ∷ cs) ++ rest)
    step (by_letter letter e) more =
        subst (λ t. NonePass is_line_end (t ++ rest)) (sym (escaped_first c letter cs e)) (refl, (e.no_end, more))
    step (as_itself r) more =
        subst (λ t. NonePass is_line_end (t ++ rest)) (sym (raw_first c cs r)) (r.no_end, more)

-- its characters are characters
scalars_spelled : (cs rest : List ℕ) → scalars cs ≡ true → scalars rest ≡ true → scalars (spelled_text cs ++ rest)
    ≡ true
scalars_spelled [] rest all more = more
scalars_spelled (c ∷ cs) rest all more =
    step (spelling_of c) (and_parts _ _ all).0 (scalars_spelled cs rest (and_parts _ _ all).1 more)
  where
    step : Spelling c → scalar c ≡ true → scalars (spelled_text cs ++ rest) ≡ true
        → scalars (spelled_text (c ∷ cs) ++ rest) ≡ true
    step (by_letter letter e) one more =
        ap (λ t. scalars (t ++ rest)) (escaped_first c letter cs e) ∙ and_from _ _ (e.scalar_letter one) more
    step (as_itself r) one more = ap (λ t. scalars (t ++ rest)) (raw_first c cs r) ∙ and_from _ _ one more

-- its key ends at the mark behind it
key_ends : (cs rest : List ℕ) → key_length false (spelled_text cs ++ 61 ∷ rest) ≡ length (spelled_text cs)
key_ends [] rest = refl
key_ends (c ∷ cs) rest = step (spelling_of c) (key_ends cs rest)
  where
    step : Spelling c → key_length false (spelled_text cs ++ 61 ∷ rest) ≡ length (spelled_text cs) →
        key_length false (spelled_text (c ∷ cs) ++ 61 ∷ rest) ≡ length (spelled_text (c ∷ cs))
    step (by_letter letter e) more =
        ap (λ t. key_length false (t ++ 61 ∷ rest)) (escaped_first c letter cs e)
        ∙ ap (λ n. 1 + (1 + n)) more ∙ two (length (spelled_text cs)) ∙ sym (ap length (escaped_first c letter cs e))
      where
        two : (n : ℕ) → 1 + (1 + n) ≡ suc (suc n)
        two n = omega arith
    step (as_itself r) more =
        ap (λ t. key_length false (t ++ 61 ∷ rest)) (raw_first c cs r)
        ∙ ap (λ b. cond b 0 (1 + key_length (is_backslash c) (spelled_text cs ++ 61 ∷ rest))) r.no_separator
        ∙ ap (λ b. 1 + key_length b (spelled_text cs ++ 61 ∷ rest)) r.no_backslash
        ∙ ap (λ n. 1 + n) more ∙ one (length (spelled_text cs)) ∙ sym (ap length (raw_first c cs r))
      where
        one : (n : ℕ) → 1 + n ≡ suc n
        one n = omega arith

-- it has no white space in front
trim_front : (cs rest : List ℕ) → without_white_space rest ≡ rest → without_white_space (spelled_text cs ++ rest)
    ≡ spelled_text cs ++ rest
trim_front [] rest plain = plain
trim_front (c ∷ cs) rest plain = step (spelling_of c)
  where
    step : Spelling c → without_white_space (spelled_text (c ∷ cs) ++ rest) ≡ spelled_text (c ∷ cs) ++ rest
    step (by_letter letter e) =
        ap (λ t. without_white_space (t ++ rest)) (escaped_first c letter cs e)
        ∙ sym (ap (λ t. t ++ rest) (escaped_first c letter cs e))
    step (as_itself r) =
        ap (λ t. without_white_space (t ++ rest)) (raw_first c cs r)
        ∙ cond-false _ _ _ ((or_parts (is_key_end c) (is_white_space c) r.no_separator).1)
        ∙ sym (ap (λ t. t ++ rest) (raw_first c cs r))

-- it is no comment
no_comment : (cs rest : List ℕ) → is_comment (spelled_text cs ++ 61 ∷ rest) ≡ false
no_comment [] rest = refl
no_comment (c ∷ cs) rest = step (spelling_of c)
  where
    step : Spelling c → is_comment (spelled_text (c ∷ cs) ++ 61 ∷ rest) ≡ false
    step (by_letter letter e) = ap (λ t. is_comment (t ++ 61 ∷ rest)) (escaped_first c letter cs e)
    step (as_itself r) = ap (λ t. is_comment (t ++ 61 ∷ rest)) (raw_first c cs r) ∙ r.no_comment

-- whether the backslashes so far end with an odd one
abbrev odd : Bool → List ℕ → Bool
odd b [] = b
odd b (c ∷ cs) = odd (is_backslash c && not b) cs

goes_odd : (fs cs : List ℕ) → goes_on (fs ++ cs) ≡ odd (goes_on fs) cs
goes_odd fs [] = ap goes_on (append-nil fs)
goes_odd fs (c ∷ cs) =
    ap goes_on (sym (append_assoc fs (c ∷ []) cs)) ∙ goes_odd (fs ++ c ∷ []) cs
    ∙ ap (λ b. odd b cs) (goes_on_more fs c)

never_odd : (cs rest : List ℕ) → odd false (spelled_text cs ++ rest) ≡ odd false rest
never_odd [] rest = refl
never_odd (c ∷ cs) rest = step (spelling_of c) (never_odd cs rest)
  where
    and_none : (b : Bool) → (b && false) ≡ false
    and_none true = refl
    and_none false = refl

    step : Spelling c → odd false (spelled_text cs ++ rest) ≡ odd false rest →
        odd false (spelled_text (c ∷ cs) ++ rest) ≡ odd false rest
    step (by_letter letter e) more =
        ap (λ t. odd false (t ++ rest)) (escaped_first c letter cs e)
        ∙ ap (λ b. odd b (spelled_text cs ++ rest)) (and_none (is_backslash letter)) ∙ more
    step (as_itself r) more =
        ap (λ t. odd false (t ++ rest)) (raw_first c cs r)
        ∙ ap (λ b. odd (b && true) (spelled_text cs ++ rest)) r.no_backslash ∙ more

-- its escapes mean the text
meant : (cs : List ℕ) → without_escapes (spelled_text cs) ≡ Some cs
unfolding first_character
meant [] = unescaped_end
meant (c ∷ cs) = step (spelling_of c) (meant cs)
  where
    read : (first : ℕ) (rest : List ℕ) → spelled_text (c ∷ cs) ≡ first ∷ rest →
        first_character first rest ≡ Some (record { value = c; after = spelled_text cs })
        → without_escapes (spelled_text cs) ≡ Some cs →
        without_escapes (spelled_text (c ∷ cs)) ≡ Some (c ∷ cs)
    read first rest is one more =
        ap without_escapes is ∙ unescaped_step first rest
        ∙ ap (option_and_then (λ (x : Character). option_map (λ l. x.value ∷ l) (without_escapes x.after))) one
        ∙ ap (option_map (λ l. c ∷ l)) more

    step : Spelling c → without_escapes (spelled_text cs) ≡ Some cs → without_escapes (spelled_text (c ∷ cs)) ≡ Some
        (c ∷ cs)
    step (by_letter letter e) more =
        read 92 (letter ∷ spelled_text cs) (escaped_first c letter cs e)
        (cond-false _ _ _ e.no_unit ∙ ap (λ v. Some (record { value = v; after = spelled_text cs })) e.meaning) more
    step (as_itself r) more = read c (spelled_text cs) (raw_first c cs r) (cond-false _ _ _ r.no_backslash) more

-- ---- a line of an entry

line_clear : (e : Written) → NonePass is_line_end (line_of e)
line_clear e =
    clear e.0 (61 ∷ spelled_text e.1) (
      refl,
      subst (NonePass is_line_end) (append-nil (spelled_text e.1))
          (clear e.1 [] tt),
    )

line_trimmed : (e : Written) → without_white_space (line_of e) ≡ line_of e
line_trimmed e = trim_front e.0 (61 ∷ spelled_text e.1) refl

line_begins : (e : Written) → is_passed_over (line_of e) ≡ false
line_begins e = ap is_comment (line_trimmed e) ∙ no_comment e.0 (spelled_text e.1)

line_whole : (e : Written) → goes_on (line_of e) ≡ false
line_whole e =
    goes_odd [] (line_of e) ∙ ap (λ b. odd b (line_of e)) goes_on_none ∙ never_odd e.0 (61 ∷ spelled_text e.1)
    ∙ ap (odd false) (sym (append-nil (spelled_text e.1))) ∙ never_odd e.1 []

line_part : (e : Written) → part_of (line_of e) ≡ line_of e
line_part e = part_whole (line_of e) (line_whole e) ∙ line_trimmed e

key_is : (e : Written) → take (key_length false (line_of e)) (line_of e) ≡ spelled_text e.0
key_is e =
    let within : length (spelled_text e.0) ≤ length (spelled_text e.0) = omega arith in
    ap (λ n. take n (line_of e)) (key_ends e.0 (spelled_text e.1))
    ∙ take-append-le (length (spelled_text e.0)) (spelled_text e.0) (61 ∷ spelled_text e.1) within ∙ take-length
    (spelled_text e.0)

value_is : (e : Written) →
    without_white_space (without_mark (without_white_space (drop (key_length false (line_of e)) (line_of e))))
    ≡ spelled_text e.1
value_is e =
    ap (λ n. without_white_space (without_mark (without_white_space (drop n (line_of e)))))
    (key_ends e.0 (spelled_text e.1))
    ∙ ap (λ t. without_white_space (without_mark (without_white_space t)))
    (drop_at (spelled_text e.0) (61 ∷ spelled_text e.1) (length (spelled_text e.0)) refl)
    ∙ ap without_white_space (sym (append-nil (spelled_text e.1))) ∙ trim_front e.1 [] refl ∙ append-nil
    (spelled_text e.1)

entry_is : (e : Written) → key_value_of (line_of e) ≡ Some (in_bytes e)
unfolding key_value_of key_part value_part
entry_is e =
    ap (λ k. paired_up (without_escapes k) (without_escapes (value_part (line_of e)))) (key_is e)
    ∙ ap (λ v. paired_up (without_escapes (spelled_text e.0)) (without_escapes v)) (value_is e)
    ∙ ap (λ k. paired_up k (without_escapes (spelled_text e.1))) (meant e.0) ∙ ap (paired_up (Some e.0)) (meant e.1)

-- ---- all of them

positive : (n : ℕ) → 0 < n → nat_eq n 0 ≡ false
positive n some = grind (arith, nat_tests)

entries_from : (es : List Written) (n : ℕ) →
    all_entries (logical_from None n (map line_of es ++ [] ∷ [])) ≡ Ok (map in_bytes es)
unfolding all_entries logical_from
entries_from [] n = ap all_entries (logical_passed n [] [] refl)
entries_from (e ∷ es) n =
    ap all_entries (logical_start n (line_of e) (map line_of es ++ [] ∷ []) (line_begins e)
    ∙ later_done (goes_on (line_of e)) (with_line (record { number = n; text = [] }) (line_of e)) (n + 1)
    (map line_of es ++ [] ∷ []) (line_whole e))
    ∙ ap (λ t. all_entries (record { number = n; text = t } ∷ logical_from None (n + 1) (map line_of es ++ [] ∷ [])))
    (line_part e)
    ∙ cond-false _ _ _ (some_line (spelled_text e.0) (spelled_text e.1))
    ∙ ap (λ o. put_first n o (all_entries (logical_from None (n + 1) (map line_of es ++ [] ∷ [])))) (entry_is e)
    ∙ ap (put_first n (Some (in_bytes e))) (entries_from es (n + 1))
  where
    some_line : (s r : List ℕ) → nat_eq (length (s ++ 61 ∷ r)) 0 ≡ false
    some_line s r = positive (length (s ++ 61 ∷ r)) (omega (arith, length-append s (61 ∷ r)))

natural_written : (es : List Written) → natural_lines (written_text es) ≡ map line_of es ++ [] ∷ []
unfolding natural_from
natural_written [] = refl
natural_written (e ∷ es) =
    ap natural_lines (append_assoc (line_of e) (10 ∷ []) (written_text es))
    ∙ natural_cut (line_of e) 10 (written_text es) [] (line_clear e) refl
    ∙ ap (λ t. line_of e ∷ natural_from [] t) (after_feed (written_text es))
    ∙ ap (λ ls. line_of e ∷ ls) (natural_written es)

scalars_written : (es : List Written) → are_scalars es ≡ true → scalars (written_text es) ≡ true
scalars_written [] all = refl
scalars_written (e ∷ es) all =
    let first = (and_parts _ _ all).0 in
    ap scalars (append_assoc (line_of e) (10 ∷ []) (written_text es)
    ∙ append_assoc (spelled_text e.0) (61 ∷ spelled_text e.1) (10 ∷ written_text es))
    ∙ scalars_spelled e.0 (61 ∷ (spelled_text e.1 ++ 10 ∷ written_text es)) (and_parts _ _ first).0
    (scalars_spelled e.1 (10 ∷ written_text es) (and_parts _ _ first).1
    (scalars_written es (and_parts _ _ all).1))

pub read_back : EntriesReadBack
unfolding properties_of
read_back es all =
    let text = written_text es in
    let sc = scalars_written es all in
    cond-true _ _ _ (is_utf8-from_IsUtf8 (encode_utf8_all text) (text, (sc, refl)))
    ∙ ap read_text (chars-encodes text sc)
    ∙ ap (λ ls. with_all [] (all_entries (logical_from None 1 ls))) (natural_written es)
    ∙ ap (with_all []) (entries_from es 1)
