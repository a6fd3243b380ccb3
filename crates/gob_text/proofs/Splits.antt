-- A text splits into a word and what follows it in one way.
use Rattle.std.proofs.Common.{◌≡◌, ◌≢◌, ℕ, zero, suc, ◌+◌, ◌<◌, ◌≤◌, ◌^◌, true, false, not, List, [], ◌∷◌, ◌++◌, length}
use Rattle.std.proofs.Common.{get_or, take, drop, Some, None, refl, sym, ap, ◌∙◌, subst, arith, length-append, add-one}
use Rattle.std.proofs.Common.{nat_eq, IsUtf8, MatchOption, String, string_bytes, decimal, ◌/◌, ◌%◌, cond, Result, Ok}
use Rattle.std.proofs.Common.{Err, IfOk, is_ok, Global, Vec}
use Rattle.std.specs.String.{string_vec}
use Rattle.std.specs.Result.{result_ok}
use Rattle.std.proofs.lemmas.Str.{IsUtf8-string_bytes}
use Rattle.std.specs.Str.{all_ascii_digits}
use Rattle.std.specs.Str.Parse.{digits_value}
use Rattle.std.proofs.lemmas.Bool.{and_parts, and_from, both_ways, not-true, true≢false, cond_both, eqb-true, eq-eqb}
use Rattle.std.proofs.lemmas.Bool.{not_from_false, false_from_ne_true}
use Rattle.memchr.specs.Find.{Nowhere, NoneBefore, Passes, is_byte, is_byte2}
use Rattle.std.proofs.lemmas.Bool.Decides.{nat_tests}
use Rattle.std.proofs.lemmas.List.Folds.{list_all-append}
use Rattle.std.proofs.lemmas.List.{append_cancel_left}
use Rattle.std.proofs.lemmas.Fmt.{digits_decimal, decimal_injective}
use Rattle.std.proofs.lemmas.Str.Parse.{IsNumeralModel, numerals_by_value, tells_all_ascii_digits}
use Rattle.std.specs.Fmt.{digit_glyph}
use Rattle.percent_encoding.specs.Percent.{percent_encode_byte}
use Rattle.gob_bytes.specs.Escapes.{AreBytes, escape_of, is_plain}
use Rattle.gob_bytes.specs.Numbers.{number_read}
use Rattle.gob_bytes.proofs.Forms.{one_form, escapes_apart, bytes_from_utf8, own}
use Rattle.gob_text.specs.Words.{is_break, EndsWord, HasNoBreak, IsWord, IsLine, IsName, GoesOnAtAll, Takes, TakesText}

break_not : (b : ℕ) → is_break b ≡ true → not (is_break b) ≡ true → ⊥
break_not b h k = both_ways _ (not-true _ k) h

-- ---- one split

words_apart : (xs ys us vs : List ℕ) → HasNoBreak xs → HasNoBreak us → EndsWord ys → EndsWord vs → xs ++ ys ≡ us ++ vs →
    (xs ≡ us) × (ys ≡ vs)
words_apart [] ys [] vs h k ends ends' same = (refl, same)
words_apart [] ys (u ∷ us) vs h k ends ends' same =
    let breaks : is_break u ≡ true = subst EndsWord same ends in
    absurd (break_not u breaks (and_parts _ _ k).0)
words_apart (x ∷ xs) ys [] vs h k ends ends' same =
    let breaks : is_break x ≡ true = subst EndsWord (sym same) ends' in
    absurd (break_not x breaks (and_parts _ _ h).0)
words_apart (x ∷ xs) ys (u ∷ us) vs h k ends ends' same =
    let rest : xs ++ ys ≡ us ++ vs = cc in
    let parts = words_apart xs ys us vs (and_parts _ _ h).1 (and_parts _ _ k).1 ends ends' rest in
    let first : x ≡ u = cc in
    let others = parts.0 in
    (cc, parts.1)

lines_apart : (xs ys us vs : List ℕ) → IsLine xs → IsLine us → (xs ++ 10 ∷ []) ++ ys ≡ (us ++ 10 ∷ []) ++ vs →
    (xs ≡ us) × (ys ≡ vs)
lines_apart [] ys [] vs h k same = (refl, cc)
lines_apart [] ys (u ∷ us) vs h k same =
    let feed : 10 ≡ u = cc in
    absurd (both_ways _ (not-true _ (and_parts _ _ k).0) (eq-eqb u 10 (sym feed)))
lines_apart (x ∷ xs) ys [] vs h k same =
    let feed : x ≡ 10 = cc in
    absurd (both_ways _ (not-true _ (and_parts _ _ h).0) (eq-eqb x 10 feed))
lines_apart (x ∷ xs) ys (u ∷ us) vs h k same =
    let rest : (xs ++ 10 ∷ []) ++ ys ≡ (us ++ 10 ∷ []) ++ vs = cc in
    let parts = lines_apart xs ys us vs (and_parts _ _ h).1 (and_parts _ _ k).1 rest in
    let first : x ≡ u = cc in
    let others = parts.0 in
    (cc, parts.1)

-- ---- where a word or a line ends

pub no_break-before : (text : List ℕ) (k : ℕ) → Nowhere (Passes (is_byte2 32 10) text) 0 k → k ≤ length text →
    HasNoBreak (take k text)
no_break-before text zero none inside = refl
no_break-before [] (suc k) none inside = absurd (omega arith)
no_break-before (b ∷ text) (suc k) none inside =
    and_from _ _ (not_from_false (is_break b) (false_from_ne_true _ (none 0 (omega arith) (omega arith))))
    (no_break-before text k (λ j low high. none (suc j) (omega arith) (omega arith)) (omega arith))

pub ends_at-break : (text : List ℕ) (k : ℕ) → Passes (is_byte2 32 10) text k → k < length text → EndsWord (drop k text)
ends_at-break [] k here inside = absurd (omega arith)
ends_at-break (b ∷ text) zero here inside = here
ends_at-break (b ∷ text) (suc k) here inside = ends_at-break text k here (omega arith)

line_before : (text : List ℕ) (k : ℕ) → Nowhere (Passes (is_byte 10) text) 0 k → k ≤ length text → IsLine (take k text)
line_before text zero none inside = refl
line_before [] (suc k) none inside = absurd (omega arith)
line_before (b ∷ text) (suc k) none inside =
    and_from _ _ (not_from_false (nat_eq b 10) (false_from_ne_true _ (none 0 (omega arith) (omega arith))))
    (line_before text k (λ j low high. none (suc j) (omega arith) (omega arith)) (omega arith))

cut_at : (text : List ℕ) (k : ℕ) → k < length text → get_or text k 0 ≡ 10 →
    text ≡ (take k text ++ 10 ∷ []) ++ drop (suc k) text
cut_at [] k inside here = absurd (omega arith)
cut_at (b ∷ text) zero inside here = ap (λ c. c ∷ text) here
cut_at (b ∷ text) (suc k) inside here = ap (λ x. b ∷ x) (cut_at text k (omega arith) here)

pub line_split : (text : List ℕ) (k : ℕ) → NoneBefore (Passes (is_byte 10) text) 0 (length text) k →
    Passes (is_byte 10) text k → IsLine (take k text) × (text ≡ (take k text ++ 10 ∷ []) ++ drop (k + 1) text)
line_split text k place here = (
  line_before text k place.before (omega (arith, place.high)),
  rw add-one (cut_at text k place.high (eqb-true _ 10 here)),
)

feed_at : (line after : List ℕ) → get_or ((line ++ 10 ∷ []) ++ after) (length line) 0 ≡ 10
feed_at [] after = refl
feed_at (b ∷ line) after = feed_at line after

pub no_line : (text line after : List ℕ) → Nowhere (Passes (is_byte 10) text) 0 (length text) →
    text ≢ (line ++ 10 ∷ []) ++ after
no_line text line after none same =
    let size : length text ≡ length line + 1 + length after = ap length same ∙ length-append (line ++ 10 ∷ []) after
    ∙ ap (λ n. n + length after) (length-append line (10 ∷ [])) in
    none (length line) (omega arith) (omega arith)
    (eq-eqb _ 10 (ap (λ t. get_or t (length line) 0) same ∙ feed_at line after))

-- ---- what a word may be

digit_not_break : (b : ℕ) → 48 ≤ b → not (is_break b) ≡ true
digit_not_break b h = grind (arith, nat_tests)

no_break-digits : (bs : List ℕ) → all_ascii_digits bs ≡ true → HasNoBreak bs
no_break-digits [] h = refl
no_break-digits (b ∷ bs) h =
    let parts = and_parts _ (all_ascii_digits bs) h in
    and_from _ _ (digit_not_break b (grind (arith, nat_tests))) (no_break-digits bs parts.1)

no_break-decimal : (n : ℕ) → n < 2 ^ 64 → HasNoBreak (decimal n)
no_break-decimal n small = no_break-digits (decimal n) (digits_decimal own n small)

plain_not_break : (b : ℕ) → is_plain b ≡ true → not (is_break b) ≡ true
plain_not_break b h = grind (arith, nat_tests)

glyph_not_break : (d : ℕ) → not (is_break (digit_glyph true d)) ≡ true
glyph_not_break d = digit_not_break (digit_glyph true d) (grind (arith, nat_tests))

no_break-byte : (b : ℕ) → HasNoBreak (percent_encode_byte b)
unfolding percent_encode_byte
no_break-byte b = and_from _ _ (glyph_not_break (b / 16 % 16)) (and_from _ _ (glyph_not_break (b % 16)) refl)

no_break-escape_of : (name : List ℕ) → HasNoBreak (escape_of name)
unfolding escape_of
no_break-escape_of [] = refl
no_break-escape_of (b ∷ name) =
    list_all-append (λ c. not (is_break c)) (cond (is_plain b) (b ∷ []) (percent_encode_byte b)) (escape_of name)
    ∙ and_from _ _
    (cond_both (is_plain b) (b ∷ []) (percent_encode_byte b) HasNoBreak
    (λ plain. and_from _ _ (plain_not_break b plain) refl) (λ _. no_break-byte b)) (no_break-escape_of name)

-- ---- what is taken

-- where nothing that fits is spelled as the word, nothing is taken
takes_none : {X : Type 0} (spelling : X → List ℕ) (Fits : X → Type 0) (text word rest : List ℕ) →
    ((x : X) → Fits x → HasNoBreak (spelling x)) → text ≡ word ++ rest → HasNoBreak word → EndsWord rest →
    ((x : X) → Fits x → spelling x ≢ word) → Takes spelling Fits EndsWord text text None
takes_none spelling Fits text word rest unbroken whole h ends never = record {
  spelled = tt;
  read = λ x after fits goes same. absurd
      (never x fits
      (sym (words_apart word rest (spelling x) after h (unbroken x fits) ends goes (sym whole ∙ same)).0));
  unchanged = refl;
}

-- where the word is the spelling of something that fits, that is taken
takes_some : {X : Type 0} (spelling : X → List ℕ) (Fits : X → Type 0) (text word rest : List ℕ) (x : X) →
    ((y : X) → Fits y → HasNoBreak (spelling y)) → ((y : X) → Fits y → spelling y ≡ word → x ≡ y) →
    text ≡ word ++ rest → HasNoBreak word → EndsWord rest → Fits x → spelling x ≡ word →
    Takes spelling Fits EndsWord text rest (Some x)
takes_some spelling Fits text word rest x unbroken apart whole h ends fits spells = record {
  spelled = (fits, ends, whole ∙ ap (λ w. w ++ rest) (sym spells));
  read = λ y after fits' goes same.
      let parts = words_apart word rest (spelling y) after h (unbroken y fits') ends goes (sym whole ∙ same) in
      (ap Some (apart y fits' (sym parts.0)), parts.1);
  unchanged = tt;
}

pub takes_word : (text word rest : List ℕ) → text ≡ word ++ rest → HasNoBreak word → EndsWord rest → 0 < length word →
    Takes (λ w. w) IsWord EndsWord text rest (Some word)
takes_word text word rest whole h ends some =
    takes_some (λ w. w) IsWord text word rest word (λ y fits. fits.1) (λ y fits same. sym same) whole h ends
    (some, h) refl

pub takes_no_word : (text word rest : List ℕ) → text ≡ word ++ rest → HasNoBreak word → EndsWord rest →
    length word ≡ 0 → Takes (λ w. w) IsWord EndsWord text text None
takes_no_word text word rest whole h ends empty =
    takes_none (λ w. w) IsWord text word rest (λ y fits. fits.1) whole h ends
    (λ y fits same. absurd (omega (arith, fits.0, ap length same)))

pub takes_number : (text word rest : List ℕ) (n : ℕ) → text ≡ word ++ rest → HasNoBreak word → EndsWord rest →
    number_read word ≡ Some n → Takes decimal (λ m. m < 2 ^ 64) EndsWord text rest (Some n)
takes_number text word rest n whole h ends reads =
    let form = (one_form word n).0 reads in
    takes_some decimal (λ m. m < 2 ^ 64) text word rest n no_break-decimal
    (λ m fits same. decimal_injective n m form.1 fits (sym form.0 ∙ sym same)) whole h ends form.1 (sym form.0)

pub takes_no_number : (text word rest : List ℕ) → text ≡ word ++ rest → HasNoBreak word → EndsWord rest →
    number_read word ≡ None → Takes decimal (λ m. m < 2 ^ 64) EndsWord text text None
takes_no_number text word rest whole h ends reads =
    takes_none decimal (λ m. m < 2 ^ 64) text word rest no_break-decimal whole h ends
    (λ m fits same. let some = (one_form word m).1 (sym same, fits) in cc)

pub takes_name : (text word rest name : List ℕ) → text ≡ word ++ rest → HasNoBreak word → EndsWord rest → IsName name →
    escape_of name ≡ word → Takes escape_of IsName EndsWord text rest (Some name)
takes_name text word rest name whole h ends fits spells =
    takes_some escape_of IsName text word rest name (λ y _. no_break-escape_of y)
    (λ y fits' same. escapes_apart name y (bytes_from_utf8 name fits.1) (bytes_from_utf8 y fits'.1)
    (spells ∙ sym same)) whole h ends fits spells

pub takes_no_name : (text word rest : List ℕ) → text ≡ word ++ rest → HasNoBreak word → EndsWord rest →
    ((name : List ℕ) → IsName name → escape_of name ≢ word) → Takes escape_of IsName EndsWord text text None
takes_no_name text word rest whole h ends never =
    takes_none escape_of IsName text word rest (λ y _. no_break-escape_of y) whole h ends never

pub takes_line : (text line rest : List ℕ) → IsLine line → text ≡ (line ++ 10 ∷ []) ++ rest →
    Takes (λ l. l ++ 10 ∷ []) IsLine GoesOnAtAll text rest (Some line)
takes_line text line rest h whole = record {
  spelled = (h, tt, whole);
  read = λ l after fits goes same.
      let parts = lines_apart line rest l after h fits (sym whole ∙ same) in
      (ap Some parts.0, parts.1);
  unchanged = tt;
}

pub takes_no_line : (text : List ℕ) → ((line after : List ℕ) → IsLine line → text ≢ (line ++ 10 ∷ []) ++ after) →
    Takes (λ l. l ++ 10 ∷ []) IsLine GoesOnAtAll text text None
takes_no_line text never =
    record { spelled = tt; read = λ l after fits goes same. absurd (never l after fits same); unchanged = refl }

pub takes_text : (text old rest : List ℕ) → old ≡ text ++ rest → TakesText text old rest true
takes_text text old rest whole = record {
  spelled = λ _. whole;
  read = λ after same. (refl, append_cancel_left text rest after (sym whole ∙ same));
  unchanged = λ e. absurd (true≢false e);
}

pub takes_no_text : (text old : List ℕ) → ((rest : List ℕ) → old ≢ text ++ rest) → TakesText text old old false
takes_no_text text old never = record {
  spelled = λ e. absurd (true≢false (sym e));
  read = λ after same. absurd (never after same);
  unchanged = λ _. refl;
}

-- ---- names

escaped_some : (name word : List ℕ) → escape_of name ≡ word → 0 < length word → 0 < length name
unfolding escape_of
escaped_some [] word same some = absurd (omega (arith, ap length same))
escaped_some (b ∷ name) word same some = omega arith

pub name_some : (word : List ℕ) → length word ≡ 0 → (name : List ℕ) → IsName name → escape_of name ≢ word
unfolding escape_of percent_encode_byte
name_some word empty [] fits same = absurd (omega (arith, fits.0))
name_some word empty (b ∷ name) fits same =
    let some = cond_both (is_plain b) (b ∷ []) (percent_encode_byte b) (λ x. 0 < length (x ++ escape_of name))
    (λ _. omega arith) (λ _. omega arith) in
    absurd (omega (arith, ap length same, some))

pub name_from : {E : Type 0} (word : List ℕ) (v : Vec ℕ Global) (r : Result (String Global) E) → 0 < length word →
    AreBytes v.items → escape_of v.items ≡ word → IfOk r (λ t. string_vec t ≡ v) → (IsUtf8 v.items → is_ok r ≡ true) →
    MatchOption (result_ok r) ((name : List ℕ) → IsName name → escape_of name ≢ word)
    (λ t. IsName (string_bytes t) × (escape_of (string_bytes t) ≡ word))
name_from word v (Ok t) some small spells same text =
    let spells' = ap escape_of (ap (λ (w : Vec ℕ Global). w.items) same) ∙ spells in
    ((escaped_some (string_bytes t) word spells' some, IsUtf8-string_bytes t), spells')
name_from word v (Err e) some small spells same text =
    λ name fits same'. true≢false
    (sym (text
    (subst IsUtf8
    (escapes_apart name v.items (bytes_from_utf8 name fits.1) small (same' ∙ sym spells)) fits.1)))

pub no_name : (word : List ℕ) → ((bytes : List ℕ) → AreBytes bytes → escape_of bytes ≢ word) → (name : List ℕ) →
    IsName name → escape_of name ≢ word
no_name word never name fits = never name (bytes_from_utf8 name fits.1)
