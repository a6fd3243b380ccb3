-- The words of a state's lines: numbers, escaped names and settings, as they are read.
use Rattle.std.proofs.Common.{◌≡◌, ℕ, ◌+◌, ◌/◌, ◌%◌, ◌<◌, ◌≤◌, Bool, true, false, cond, nat_lt, nat_le, nat_eq, ◌&&◌}
use Rattle.std.proofs.Common.{◌||◌, ⊎_elim, List, [], ◌∷◌, ◌++◌, map, refl, sym, ap, subst, ◌∙◌, Some, None, arith}
use Rattle.std.specs.declared.option.Option.{Option}
use Rattle.std.specs.List.{AllByRecursion, list_all}
use Rattle.std.specs.Fmt.{decimal, digit_glyph}
use Rattle.std.specs.Str.{all_ascii_digits, bytes_eq}
use Rattle.std.specs.Str.Parse.{digits_value}
use Rattle.std.proofs.lemmas.Bool.{and_parts, and_from, cond_both, cond-true, ltb-true, lt-ltb, leb-true, ne_eqb}
use Rattle.std.proofs.lemmas.Bool.{eqb-true, or_cases}
use Rattle.std.proofs.lemmas.Fmt.{digits_decimal}
use Rattle.std.proofs.lemmas.Str.Parse.{IsNumeralModel, numerals_by_value, tells_all_ascii_digits}
use Rattle.std.proofs.lemmas.List.Elements.{All-head, All-tail, All-from_recursion}
use Rattle.percent_encoding.specs.Percent.{percent_encode_byte, percent_decode}
use Rattle.gob_bytes.specs.Escapes.{is_letter, is_digit, is_plain, escape_of, AreBytes}
use Rattle.gob_bytes.specs.Numbers.{number_read}
use Rattle.gob_bytes.proofs.Forms.{one_form, unescaped, own}
use Rattle.gob_bytes.proofs.Tables.{name_itself, same_name}
use Rattle.gob_ledger.specs.Spelling.{Small}
use Rattle.gob_jobs.specs.Pipelines.{is_key, IsSetting, Setting}
use Rattle.gob_jobs.proofs.Lines.{setting_word}
use Rattle.gob_ledger.proofs.WordLines.{WordLine, IsWord, AreWords}

-- ---- bytes of words

word_append : (x y : List ℕ) → IsWord x → IsWord y → IsWord (x ++ y)
word_append [] y p q = q
word_append (b ∷ x) y p q =
    let h = and_parts (nat_lt 32 b) (list_all (nat_lt 32) x) p in
    and_from (nat_lt 32 b) (list_all (nat_lt 32) (x ++ y)) h.0 (word_append x y h.1 q)

word_one : (b : ℕ) → 32 < b → IsWord (b ∷ [])
word_one b above = and_from (nat_lt 32 b) true (lt-ltb 32 b above) refl

word_more : (b : ℕ) (w : List ℕ) → 32 < b → IsWord w → IsWord (b ∷ w)
word_more b w above word = and_from (nat_lt 32 b) (list_all (nat_lt 32) w) (lt-ltb 32 b above) word

in_range_above : (lo hi b : ℕ) → (nat_le lo b && nat_le b hi) ≡ true → (lo ≤ b) × (b ≤ hi)
in_range_above lo hi b e = let p = and_parts (nat_le lo b) (nat_le b hi) e in (leb-true lo b p.0, leb-true b hi p.1)

-- ---- numbers

digits_are_word : (ds : List ℕ) → all_ascii_digits ds ≡ true → IsWord ds
digits_are_word [] e = refl
digits_are_word (d ∷ ds) e =
    let p = and_parts _ (all_ascii_digits ds) e in
    let low : 48 ≤ d = (in_range_above 48 57 d p.0).0 in
    word_more d ds (omega (arith, low)) (digits_are_word ds p.1)

pub decimal_is_word : (n : ℕ) → Small n → IsWord (decimal n)
decimal_is_word n small = digits_are_word (decimal n) (digits_decimal own n small)

-- a line's first word, then numbers
abbrev pub number_line : List ℕ → List ℕ → WordLine
number_line word ns = (word, map decimal ns)

pub number_line_words : (word : List ℕ) (ns : List ℕ) → IsWord word → AllByRecursion Small ns
    → AreWords (number_line word ns)
number_line_words word ns first small = (first, each ns small)
  where
    each : (ns : List ℕ) → AllByRecursion Small ns → AllByRecursion IsWord (map decimal ns)
    each [] small = tt
    each (n ∷ ns) small = (decimal_is_word n small.0, each ns small.1)

abbrev pub one_more_number : Option ℕ → Option (List ℕ) → Option (List ℕ)
one_more_number None o = None
one_more_number (Some n) None = None
one_more_number (Some n) (Some ns) = Some (n ∷ ns)

-- each word as a number
abbrev pub numbers_read : List (List ℕ) → Option (List ℕ)
numbers_read [] = Some []
numbers_read (w ∷ ws) = one_more_number (number_read w) (numbers_read ws)

-- the numbers behind this word
abbrev pub numbers_after : List ℕ → WordLine → Option (List ℕ)
numbers_after word l = cond (bytes_eq l.0 word) (numbers_read l.1) None

pub numbers_back : (ns : List ℕ) → AllByRecursion Small ns → numbers_read (map decimal ns) ≡ Some ns
numbers_back [] small = refl
numbers_back (n ∷ ns) small =
    ap (λ o. one_more_number o (numbers_read (map decimal ns))) ((one_form (decimal n) n).1 (refl, small.0))
    ∙ ap (one_more_number (Some n)) (numbers_back ns small.1)

-- numbers that were written are read
pub numbers_line_read : (word ns : List ℕ) → AllByRecursion Small ns
    → numbers_after word (number_line word ns) ≡ Some ns
numbers_line_read word ns small = cond-true (bytes_eq word word) _ None (name_itself word) ∙ numbers_back ns small

pub numbers_are : (ws : List (List ℕ)) (ns : List ℕ) → numbers_read ws ≡ Some ns
    → (ws ≡ map decimal ns) × AllByRecursion Small ns
numbers_are [] ns e = let n : ns ≡ [] =
    cc in subst (λ z. ([] ≡ map decimal z) × AllByRecursion Small z) (sym n) (refl, tt)
numbers_are (w ∷ ws) ns e = cases (number_read w) refl (numbers_read ws) refl e (numbers_are ws)
  where
    cases : (o : Option ℕ) → number_read w ≡ o → (p : Option (List ℕ)) → numbers_read ws ≡ p
        → one_more_number o p ≡ Some ns
        → ((ms : List ℕ) → numbers_read ws ≡ Some ms → (ws ≡ map decimal ms) × AllByRecursion Small ms)
        → (w ∷ ws ≡ map decimal ns) × AllByRecursion Small ns
    cases None is p or e later = absurd (let never : None ≡ Some ns = e in cc)
    cases (Some n) is None or e later = absurd (let never : None ≡ Some ns = e in cc)
    cases (Some n) is (Some ms) or e later =
        let same : n ∷ ms ≡ ns = cc in
        let one = (one_form w n).0 is in
        let r = later ms or in
        subst (λ z. (w ∷ ws ≡ map decimal z) × AllByRecursion Small z) same ((λ i. one.0 i ∷ r.0 i), (one.1, r.1))

-- numbers that are read were written so
pub numbers_line_is : (word : List ℕ) (l : WordLine) (ns : List ℕ) → numbers_after word l ≡ Some ns
    → (l ≡ number_line word ns) × AllByRecursion Small ns
numbers_line_is word l ns =
    cond_both (bytes_eq l.0 word) (numbers_read l.1) None
    (λ o. o ≡ Some ns → (l ≡ number_line word ns) × AllByRecursion Small ns)
    (λ t e. let r = numbers_are l.1 ns e in ((λ i. (same_name l.0 word t i, r.0 i)), r.1))
    (λ t e. absurd (let never : None ≡ Some ns = e in cc))

-- ---- escaped bytes

glyph_above : (d : ℕ) → 32 < digit_glyph true d
glyph_above d = cond_both (nat_lt d 10) (48 + d) (55 + d) (λ g. 32 < g) (λ _. omega arith) (λ _. omega arith)

encoded_is_word : (b : ℕ) → IsWord (percent_encode_byte b)
unfolding percent_encode_byte
encoded_is_word b =
    let high : ℕ = digit_glyph true (b / 16 % 16) in
    let low : ℕ = digit_glyph true (b % 16) in
    word_more 37 (high ∷ low ∷ []) (omega arith)
    (word_more high (low ∷ []) (glyph_above (b / 16 % 16)) (word_one low (glyph_above (b % 16))))

letter_above : (b : ℕ) → is_letter b ≡ true → 61 < b
letter_above b e = ⊎_elim
    (λ u. let r : 65 ≤ b = (in_range_above 65 90 b u).0 in omega (arith, r))
    (λ l. let r : 97 ≤ b = (in_range_above 97 122 b l).0 in omega (arith, r))
    (or_cases (nat_le 65 b && nat_le b 90) (nat_le 97 b && nat_le b 122) e)

digit_between : (b : ℕ) → is_digit b ≡ true → (48 ≤ b) × (b ≤ 57)
digit_between b e = in_range_above 48 57 b e

exactly_above : (b n : ℕ) → 32 < n → nat_eq b n ≡ true → 32 < b
exactly_above b n above e = let same : b ≡ n = eqb-true b n e in omega (arith, above, same)

plain_above : (b : ℕ) → is_plain b ≡ true → 32 < b
plain_above b e = ⊎_elim
    (λ f. ⊎_elim
    (λ g. ⊎_elim
    (λ h. ⊎_elim
    (λ l. let r = letter_above b l in omega (arith, r))
    (λ d. let r : 48 ≤ b = (digit_between b d).0 in omega (arith, r))
    (or_cases (is_letter b) (is_digit b) h))
    (exactly_above b 46 (omega arith))
    (or_cases (is_letter b || is_digit b) (nat_eq b 46) g))
    (exactly_above b 95 (omega arith))
    (or_cases (is_letter b || is_digit b || nat_eq b 46) (nat_eq b 95) f))
    (exactly_above b 45 (omega arith))
    (or_cases (is_letter b || is_digit b || nat_eq b 46 || nat_eq b 95) (nat_eq b 45) e)

pub escaped_is_word : (name : List ℕ) → IsWord (escape_of name)
unfolding escape_of
escaped_is_word [] = refl
escaped_is_word (b ∷ bs) = word_append (cond (is_plain b) (b ∷ []) (percent_encode_byte b)) (escape_of bs)
    (cond_both (is_plain b) (b ∷ []) (percent_encode_byte b) IsWord (λ p. word_one b (plain_above b p))
    (λ _. encoded_is_word b))
    (escaped_is_word bs)

-- a word as the bytes that are escaped to it
abbrev pub bytes_read : List ℕ → Option (List ℕ)
bytes_read w = cond
    (bytes_eq (escape_of (percent_decode w)) w && list_all (λ b. nat_lt b 256) (percent_decode w))
    (Some (percent_decode w)) None

are_small : (bs : List ℕ) → AreBytes bs → list_all (λ b. nat_lt b 256) bs ≡ true
are_small [] small = refl
are_small (b ∷ bs) small = and_from (nat_lt b 256) _ (lt-ltb b 256 (All-head (λ x. x < 256) b bs small))
    (are_small bs (All-tail (λ x. x < 256) b bs small))

small_are : (bs : List ℕ) → list_all (λ b. nat_lt b 256) bs ≡ true → AreBytes bs
small_are bs e = All-from_recursion (λ b. b < 256) bs (each bs e)
  where
    each : (bs : List ℕ) → list_all (λ b. nat_lt b 256) bs ≡ true → AllByRecursion (λ b. b < 256) bs
    each [] e = tt
    each (b ∷ bs) e = let p =
        and_parts (nat_lt b 256) (list_all (λ x. nat_lt x 256) bs) e in (ltb-true b 256 p.0, each bs p.1)

-- bytes that were escaped are read
pub escaped_read : (name : List ℕ) → AreBytes name → bytes_read (escape_of name) ≡ Some name
escaped_read name small =
    let back : percent_decode (escape_of name) ≡ name = unescaped name small in
    ap (λ x. cond (bytes_eq (escape_of x) (escape_of name) && list_all (λ b. nat_lt b 256) x) (Some x) None) back
    ∙ cond-true (bytes_eq (escape_of name) (escape_of name) && list_all (λ b. nat_lt b 256) name) (Some name) None
    (and_from _ _ (name_itself (escape_of name)) (are_small name small))

-- bytes that are read were escaped so
pub escaped_is : (w name : List ℕ) → bytes_read w ≡ Some name → (w ≡ escape_of name) × AreBytes name
escaped_is w name =
    cond_both (bytes_eq (escape_of (percent_decode w)) w && list_all (λ b. nat_lt b 256) (percent_decode w))
    (Some (percent_decode w)) None (λ o. o ≡ Some name → (w ≡ escape_of name) × AreBytes name)
    (λ t e.
    let p = and_parts (bytes_eq (escape_of (percent_decode w)) w) _ t in
    let n : percent_decode w ≡ name = cc in (
      sym (same_name (escape_of (percent_decode w)) w p.0)
          ∙ ap escape_of n,
      subst AreBytes n (small_are (percent_decode w) p.1),
    ))
    (λ t e. absurd (let never : None ≡ Some name = e in cc))

-- ---- settings

key_is : (k : List ℕ) → is_key k ≡ true → list_all (λ c. is_letter c || is_digit c || nat_eq c 46) k ≡ true
key_is [] e = refl
key_is (b ∷ bs) e = e

key_byte : (b : ℕ) → (is_letter b || is_digit b || nat_eq b 46) ≡ true → (32 < b) × (b ≡ 61 → ⊥)
key_byte b e = ⊎_elim
    (λ g. ⊎_elim
    (λ l. let r = letter_above b l in (omega (arith, r), λ s. omega (arith, r, s)))
    (λ d. let r = digit_between b d in (omega (arith, r.0), λ s. omega (arith, r.1, s)))
    (or_cases (is_letter b) (is_digit b) g))
    (λ p. let same : b ≡ 46 = eqb-true b 46 p in (omega (arith, same), λ s. omega (arith, same, s)))
    (or_cases (is_letter b || is_digit b) (nat_eq b 46) e)

key_is_word : (k : List ℕ) → list_all (λ c. is_letter c || is_digit c || nat_eq c 46) k ≡ true → IsWord k
key_is_word [] e = refl
key_is_word (b ∷ bs) e =
    let p = and_parts (is_letter b || is_digit b || nat_eq b 46)
    (list_all (λ c. is_letter c || is_digit c || nat_eq c 46) bs) e in
    word_more b bs (key_byte b p.0).0 (key_is_word bs p.1)

pub setting_is_word : (s : Setting) → IsSetting s.0 s.1 → IsWord (setting_word s)
setting_is_word s is = word_append s.0 (61 ∷ escape_of s.1) (key_is_word s.0 (key_is s.0 is.keyed))
    (word_more 61 (escape_of s.1) (omega arith) (escaped_is_word s.1))

abbrev pub with_key_byte : ℕ → Option (List ℕ × List ℕ) → Option (List ℕ × List ℕ)
with_key_byte b None = None
with_key_byte b (Some p) = Some (b ∷ p.0, p.1)

-- what stands before the first '=', and behind it
abbrev pub split_at_equals : List ℕ → Option (List ℕ × List ℕ)
split_at_equals [] = None
split_at_equals (b ∷ bs) = cond (nat_eq b 61) (Some ([], bs)) (with_key_byte b (split_at_equals bs))

abbrev pub with_value : List ℕ → Option (List ℕ) → Option Setting
with_value key None = None
with_value key (Some value) = Some (key, value)

abbrev pub setting_of : Option (List ℕ × List ℕ) → Option Setting
setting_of None = None
setting_of (Some p) = cond (is_key p.0) (with_value p.0 (bytes_read p.1)) None

abbrev pub setting_read : List ℕ → Option Setting
setting_read w = setting_of (split_at_equals w)

split_back : (k v : List ℕ) → list_all (λ c. is_letter c || is_digit c || nat_eq c 46) k ≡ true
    → split_at_equals (k ++ 61 ∷ v) ≡ Some (k, v)
split_back [] v e = refl
split_back (b ∷ bs) v e =
    let p = and_parts (is_letter b || is_digit b || nat_eq b 46)
    (list_all (λ c. is_letter c || is_digit c || nat_eq c 46) bs) e in
    ap (λ t. cond t (Some ([], bs ++ 61 ∷ v)) (with_key_byte b (split_at_equals (bs ++ 61 ∷ v))))
    (ne_eqb b 61 (key_byte b p.0).1)
    ∙ ap (with_key_byte b) (split_back bs v p.1)

-- a setting that was written is read
pub setting_word_read : (s : Setting) → IsSetting s.0 s.1 → setting_read (setting_word s) ≡ Some s
setting_word_read s is =
    ap setting_of (split_back s.0 (escape_of s.1) (key_is s.0 is.keyed))
    ∙ cond-true (is_key s.0) _ None is.keyed
    ∙ ap (with_value s.0) (escaped_read s.1 is.bytes)

split_is : (w : List ℕ) (p : List ℕ × List ℕ) → split_at_equals w ≡ Some p → w ≡ p.0 ++ 61 ∷ p.1
split_is [] p e = absurd (let never : None ≡ Some p = e in cc)
split_is (b ∷ bs) p e = cases (nat_eq b 61) refl (split_at_equals bs) refl e (split_is bs)
  where
    cases : (t : Bool) → nat_eq b 61 ≡ t → (o : Option (List ℕ × List ℕ)) → split_at_equals bs ≡ o
        → cond t (Some ([], bs)) (with_key_byte b o) ≡ Some p
        → ((q : List ℕ × List ℕ) → split_at_equals bs ≡ Some q → bs ≡ q.0 ++ 61 ∷ q.1) → b ∷ bs ≡ p.0 ++ 61 ∷ p.1
    cases true is o or e later =
        let n : b ≡ 61 = eqb-true b 61 is in
        let q : p ≡ ([], bs) = cc in
        ap (λ x. x ∷ bs) n ∙ sym (ap (λ (z : List ℕ × List ℕ). z.0 ++ 61 ∷ z.1) q)
    cases false is None or e later = absurd (let never : None ≡ Some p = e in cc)
    cases false is (Some q) or e later =
        let r : p ≡ (b ∷ q.0, q.1) = cc in
        ap (λ x. b ∷ x) (later q or) ∙ sym (ap (λ (z : List ℕ × List ℕ). z.0 ++ 61 ∷ z.1) r)

-- a setting that is read was written so
pub setting_word_is : (w : List ℕ) (s : Setting) → setting_read w ≡ Some s → (w ≡ setting_word s) × IsSetting s.0 s.1
setting_word_is w s e = first (split_at_equals w) refl e
  where
    second : (p : List ℕ × List ℕ) → w ≡ p.0 ++ 61 ∷ p.1 → is_key p.0 ≡ true → (o : Option (List ℕ))
        → bytes_read p.1 ≡ o
        → with_value p.0 o ≡ Some s → (w ≡ setting_word s) × IsSetting s.0 s.1
    second p is keyed None or e = absurd (let never : None ≡ Some s = e in cc)
    second p is keyed (Some value) or e =
        let same : (p.0, value) ≡ s = cc in
        let r = escaped_is p.1 value or in
        subst (λ (z : Setting). (w ≡ setting_word z) × IsSetting z.0 z.1) same
        (is ∙ ap (λ x. p.0 ++ 61 ∷ x) r.0, record { keyed = keyed; bytes = r.1 })

    first : (o : Option (List ℕ × List ℕ)) → split_at_equals w ≡ o → setting_of o ≡ Some s
        → (w ≡ setting_word s) × IsSetting s.0 s.1
    first None is e = absurd (let never : None ≡ Some s = e in cc)
    first (Some p) is e = cond_both (is_key p.0) (with_value p.0 (bytes_read p.1)) None
        (λ o. o ≡ Some s → (w ≡ setting_word s) × IsSetting s.0 s.1)
        (λ keyed f. second p (split_is w p is) keyed (bytes_read p.1) refl f)
        (λ _ f. absurd (let never : None ≡ Some s = f in cc)) e
