-- Lines that set a key: how they are told, and the texts that they make.
use Rattle.std.proofs.Common.{◌≡◌, ◌≢◌, ⊎_elim, ℕ, suc, ◌+◌, ◌<◌, ◌^◌, ◌/◌, ◌%◌, true}
use Rattle.std.proofs.Common.{cond, not, ◌&&◌, ◌||◌, nat_eq, nat_le, nat_lt, List, [], ◌∷◌, ◌++◌, length, map, drop}
use Rattle.std.proofs.Common.{get_or, MatchOption, refl, sym, ap, subst, ◌∙◌, Some, None, IfSome, IsUtf8, append_assoc}
use Rattle.std.proofs.Common.{append-nil, length-append, arith, codes}
use Rattle.std.specs.declared.option.Option.{Option}
use Rattle.std.specs.Option.{option_map}
use Rattle.std.specs.List.{AllByRecursion, flat_map, list_all}
use Rattle.std.specs.Option.{is_some}
use Rattle.std.proofs.Math.Seq.{drop-cons}
use Rattle.std.specs.Fmt.{digit_glyph}
use Rattle.std.proofs.lemmas.Bool.{and_parts, and_from, or_cases, cond_both, leb-true, ltb-true, ne_eqb, eqb-true}
use Rattle.std.proofs.lemmas.Bool.{not_from_false, true≢false}
use Rattle.std.proofs.lemmas.List.Concat.{flat_map-append}
use Rattle.std.proofs.lemmas.List.Elements.{All-from_recursion, recursion_from_All}
use Rattle.std.proofs.lemmas.Str.{IsUtf8-from_ascii}
use Rattle.std.proofs.lemmas.Str.Ascii.{IsAscii-from_all}
use Rattle.percent_encoding.specs.Percent.{percent_encode_byte}
use Rattle.gob_bytes.specs.Escapes.{escape_of, is_letter, is_digit, is_plain, AreBytes}
use Rattle.gob_bytes.specs.Words.{numbered_line}
use Rattle.gob_jobs.specs.Pipelines.{Setting, is_key, IsSetting, setting_line}
use Rattle.gob_ledger.specs.Spelling.{IsKeptPipeline, line_count, pipeline_part}
use Rattle.gob_ledger.proofs.ReadingWords.{setting_is_word}
use Rattle.gob_ledger.proofs.StateLines.{settings_counted}
use Rattle.gob_ledger.proofs.WordLines.{IsWord}
use Rattle.gob_text.specs.Words.{GoesOnAtAll, IsLine}
use Rattle.gob_state.specs.Reads.{ReadsSpelling}
use Rattle.gob_state.specs.Settings.{is_key_byte, IsSettingLine, whole_line, AreSettingLines, IsSettingsText}
use Rattle.gob_state.specs.Settings.{ArePipelines}
use Rattle.gob_state.proofs.Steps.{Pairing}
use Rattle.gob_state.proofs.Along.{Along, OneMore, one_more, one_missing, all_read}

-- ---- what a setting's line is

pub word_is_line : (w : List ℕ) → IsWord w → IsLine w
word_is_line [] word = refl
word_is_line (b ∷ w) word =
    let p = and_parts (nat_lt 32 b) (list_all (nat_lt 32) w) word in
    let above : 32 < b = ltb-true 32 b p.0 in
    and_from (not (nat_eq b 10)) (list_all (λ c. not (nat_eq c 10)) w)
    (not_from_false (nat_eq b 10) (ne_eqb b 10 (λ e. omega arith))) (word_is_line w p.1)

pub setting_is_line : (line : List ℕ) → IsSettingLine line → IsLine line
setting_is_line line (s, is, spelled) = subst IsLine (sym spelled) (word_is_line (s.0 ++ 61 ∷ escape_of s.1)
    (setting_is_word s is))

-- bytes that are ASCII
abbrev Low : List ℕ → Type 0
Low bs = AllByRecursion (λ b. b < 128) bs

low_append : (xs ys : List ℕ) → Low xs → Low ys → Low (xs ++ ys)
low_append [] ys p q = q
low_append (x ∷ xs) ys p q = (p.0, low_append xs ys p.1 q)

range_low : (lo hi b : ℕ) → hi < 128 → (nat_le lo b && nat_le b hi) ≡ true → b < 128
range_low lo hi b small e = let h = leb-true b hi (and_parts (nat_le lo b) (nat_le b hi) e).1 in omega arith

digit_low : (b : ℕ) → is_digit b ≡ true → b < 128
digit_low b e = range_low 48 57 b (omega arith) e

letter_low : (b : ℕ) → is_letter b ≡ true → b < 128
letter_low b e = ⊎_elim (range_low 65 90 b (omega arith)) (range_low 97 122 b (omega arith))
    (or_cases (nat_le 65 b && nat_le b 90) (nat_le 97 b && nat_le b 122) e)

exact_low : (b n : ℕ) → n < 128 → nat_eq b n ≡ true → b < 128
exact_low b n below e = let same : b ≡ n = eqb-true b n e in omega arith

plain_low : (b : ℕ) → is_plain b ≡ true → b < 128
plain_low b e = ⊎_elim
    (λ f. ⊎_elim
    (λ g. ⊎_elim
    (λ h. ⊎_elim (letter_low b) (digit_low b) (or_cases (is_letter b) (is_digit b) h))
    (exact_low b 46 (omega arith))
    (or_cases (is_letter b || is_digit b) (nat_eq b 46) g))
    (exact_low b 95 (omega arith))
    (or_cases (is_letter b || is_digit b || nat_eq b 46) (nat_eq b 95) f))
    (exact_low b 45 (omega arith))
    (or_cases (is_letter b || is_digit b || nat_eq b 46 || nat_eq b 95) (nat_eq b 45) e)

glyph_low : (d : ℕ) → d < 16 → digit_glyph true d < 128
glyph_low d below = cond_both (nat_lt d 10) (48 + d) (55 + d) (λ g. g < 128) (λ _. omega arith) (λ _. omega arith)

encoded_low : (b : ℕ) → Low (percent_encode_byte b)
unfolding percent_encode_byte
encoded_low b = (omega arith, (glyph_low (b / 16 % 16) (omega arith), (glyph_low (b % 16) (omega arith), tt)))

escaped_low : (bs : List ℕ) → Low (escape_of bs)
unfolding escape_of
escaped_low [] = tt
escaped_low (b ∷ bs) = low_append (cond (is_plain b) (b ∷ []) (percent_encode_byte b)) (escape_of bs)
    (cond_both (is_plain b) (b ∷ []) (percent_encode_byte b) Low (λ p. (plain_low b p, tt)) (λ _. encoded_low b))
    (escaped_low bs)

-- a byte of a key
pub key_byte_is : (b : ℕ) → is_key_byte b ≡ true → (b < 128) × (b ≢ 61)
key_byte_is b e = ⊎_elim
    (λ g. ⊎_elim
    (λ l. (letter_low b l, λ s. letter_not b l s))
    (λ d. let r = leb-true b 57 (and_parts (nat_le 48 b) (nat_le b 57) d).1 in (omega arith, λ s. omega arith))
    (or_cases (is_letter b) (is_digit b) g))
    (λ p. let same : b ≡ 46 = eqb-true b 46 p in (omega arith, λ s. omega arith))
    (or_cases (is_letter b || is_digit b) (nat_eq b 46) e)
  where
    letter_not : (b : ℕ) → is_letter b ≡ true → b ≢ 61
    letter_not b l s = ⊎_elim
        (λ u. let r = leb-true 65 b (and_parts (nat_le 65 b) (nat_le b 90) u).0 in omega arith)
        (λ w. let r = leb-true 97 b (and_parts (nat_le 97 b) (nat_le b 122) w).0 in omega arith)
        (or_cases (nat_le 65 b && nat_le b 90) (nat_le 97 b && nat_le b 122) l)

pub key_bytes : (k : List ℕ) → is_key k ≡ true → list_all is_key_byte k ≡ true
key_bytes [] e = refl
key_bytes (b ∷ bs) e = e

key_low : (k : List ℕ) → list_all is_key_byte k ≡ true → Low k
key_low [] e = tt
key_low (b ∷ bs) e = let p = and_parts (is_key_byte b) (list_all is_key_byte bs) e in
    ((key_byte_is b p.0).0, key_low bs p.1)

pub setting_is_text : (line : List ℕ) → IsSettingLine line → IsUtf8 line
setting_is_text line (s, is, spelled) =
    IsUtf8-from_ascii line (IsAscii-from_all line (All-from_recursion (λ b. b < 128) line (subst Low (sym spelled)
    (low_append s.0 (61 ∷ escape_of s.1) (key_low s.0 (key_bytes s.0 is.keyed)) (omega arith, escaped_low s.1)))))

-- ---- how it is told

-- a text is parted at its first '=' in one way
parted_once : (xs us ys vs : List ℕ) → ((i : ℕ) → i < length xs → get_or xs i 0 ≢ 61) → list_all is_key_byte us ≡ true
    → xs ++ 61 ∷ ys ≡ us ++ 61 ∷ vs → (xs ≡ us) × (ys ≡ vs)
parted_once [] [] ys vs free key e = (refl, cc)
parted_once [] (u ∷ us) ys vs free key e =
    let n : 61 ≡ u = cc in
    absurd ((key_byte_is u (and_parts (is_key_byte u) (list_all is_key_byte us) key).0).1 (sym n))
parted_once (x ∷ xs) [] ys vs free key e = let n : x ≡ 61 = cc in absurd (free 0 (omega arith) n)
parted_once (x ∷ xs) (u ∷ us) ys vs free key e =
    let first : x ≡ u = cc in
    let later : xs ++ 61 ∷ ys ≡ us ++ 61 ∷ vs = cc in
    let r = parted_once xs us ys vs (λ i below. free (suc i) (omega arith))
    (and_parts (is_key_byte u) (list_all is_key_byte us) key).1 later in
    ((λ i. first i ∷ r.0 i), r.1)

has_equals : (us vs : List ℕ) → (line : List ℕ) → line ≡ us ++ 61 ∷ vs → ((i : ℕ) → i < length line
    → get_or line i 0 ≢ 61) → ⊥
has_equals us vs line e free =
    let size : length line ≡ length us + length (61 ∷ vs) = ap length e ∙ length-append us (61 ∷ vs) in
    free (length us) (omega arith) (ap (λ t. get_or t (length us) 0) e ∙ there us)
  where
    there : (us : List ℕ) → get_or (us ++ 61 ∷ vs) (length us) 0 ≡ 61
    there [] = refl
    there (u ∷ us) = there us

-- a line without '=' sets no key
pub no_equals : (line : List ℕ) → ((i : ℕ) → i < length line → get_or line i 0 ≢ 61) → IsSettingLine line → ⊥
no_equals line free (s, is, spelled) = has_equals s.0 (escape_of s.1) line spelled free

-- what a setting's line has before its first '=' and behind
pub setting_parts : (line key value : List ℕ) → line ≡ key ++ 61 ∷ value
    → ((i : ℕ) → i < length key → get_or key i 0 ≢ 61) → IsSettingLine line
    → (is_key key ≡ true) × (bytes : List ℕ) × AreBytes bytes × (escape_of bytes ≡ value)
setting_parts line key value parts free (s, is, spelled) =
    let r = parted_once key s.0 value (escape_of s.1) free (key_bytes s.0 is.keyed) (sym parts ∙ spelled) in
    (ap is_key r.0 ∙ is.keyed, s.1, is.bytes, sym r.1)

-- ---- texts of settings

pub each_first : {X : Type 0} (P : X → Type 0) (xs : List X) (z : X) (zs : List X) → AllByRecursion P (xs ++ z ∷ zs)
    → P z
each_first P [] z zs all = all.0
each_first P (x ∷ xs) z zs all = each_first P xs z zs all.1

pub each_push : {X : Type 0} (P : X → Type 0) (xs : List X) (x : X) → AllByRecursion P xs → P x → AllByRecursion P
    (xs ++ x ∷ [])
each_push P [] x all p = (p, tt)
each_push P (y ∷ ys) x all p = (all.0, each_push P ys x all.1 p)

pub longer : {X : Type 0} (xs : List X) (x : X) → length (xs ++ x ∷ []) ≡ length xs + 1
longer xs x = length-append xs (x ∷ [])

pub text_push : (lines : List (List ℕ)) (line : List ℕ)
    → flat_map whole_line (lines ++ line ∷ []) ≡ (flat_map whole_line lines ++ line) ++ 10 ∷ []
text_push lines line = flat_map-append whole_line lines (line ∷ [])
    ∙ ap (λ t. flat_map whole_line lines ++ t) (append-nil (line ++ 10 ∷ []))
    ∙ sym (append_assoc (flat_map whole_line lines) line (10 ∷ []))

-- some of the lines of a text of settings
pub record SomeLines (n : ℕ) (old rest text : List ℕ) (i : ℕ) : Type 0 where
  pub lines : List (List ℕ)
  pub along : Along whole_line (AllByRecursion IsSettingLine) (AreSettingLines n) GoesOnAtAll old rest lines
  pub count : length lines ≡ i
  pub whole : text ≡ flat_map whole_line lines

pub one_more_line : (n i : ℕ) (rest : List ℕ) (xs : List (List ℕ)) → length xs ≡ i → i < n
    → OneMore whole_line IsSettingLine GoesOnAtAll (AreSettingLines n) GoesOnAtAll rest xs
one_more_line n i rest xs count below = record {
  more = λ after w g e. let all : length xs ≡ n = w.1 in omega arith;
  fits = λ z zs w. each_first IsSettingLine xs z zs w.0;
  goes = λ z zs after w g. tt;
}

pub next_setting : (n i : ℕ) (old rest new text line whole : List ℕ) → SomeLines n old rest text i → i < n
    → ReadsSpelling whole_line IsSettingLine GoesOnAtAll rest new (Some line) → whole ≡ (text ++ line) ++ 10 ∷ []
    → SomeLines n old new whole (i + 1)
next_setting n i old rest new text line whole some below r is = record {
  lines = some.lines ++ line ∷ [];
  along = one_more old rest new some.lines line some.along (one_more_line n i rest some.lines some.count below) r
      (each_push IsSettingLine some.lines line some.along.good r.spelled.0);
  count = longer some.lines line ∙ ap (λ k. k + 1) some.count;
  whole = is ∙ ap (λ t. (t ++ line) ++ 10 ∷ []) some.whole ∙ sym (text_push some.lines line);
}

-- lines read as a text
as_text : (n : ℕ) (old new : List ℕ) (o : Option (List (List ℕ)))
    → ReadsSpelling (λ ls. flat_map whole_line ls) (AreSettingLines n) GoesOnAtAll old new o
    → ReadsSpelling (λ p. p) (IsSettingsText n) GoesOnAtAll old new (option_map (flat_map whole_line) o)
as_text n old new o r = record {
  spelled = cases o r.spelled;
  read = λ p after f g e.
      let one = r.read f.0 after f.1 g (e ∙ ap (λ t. t ++ after) f.2) in
      (ap (option_map (flat_map whole_line)) one.0 ∙ ap Some (sym f.2), one.1);
}
  where
    cases : (o : Option (List (List ℕ)))
        → IfSome o (λ ls. AreSettingLines n ls × (old ≡ flat_map whole_line ls ++ new))
        → IfSome (option_map (flat_map whole_line) o) (λ p. IsSettingsText n p × (old ≡ p ++ new))
    cases None h = tt
    cases (Some ls) h = ((ls, h.0, refl), h.1)

pub setting_missing : (n i : ℕ) (old rest mid new text : List ℕ) (o : Option (List ℕ)) → SomeLines n old rest text i
    → i < n
    → ReadsSpelling whole_line IsSettingLine GoesOnAtAll rest mid o → o ≡ None
    → ReadsSpelling (λ p. p) (IsSettingsText n) GoesOnAtAll old new None
setting_missing n i old rest mid new text o some below r none = as_text n old new None
    (one_missing old rest mid new some.lines o None some.along
    (one_more_line n i rest some.lines some.count below) r none
    refl)

pub settings_read : (n : ℕ) (old rest text : List ℕ) → SomeLines n old rest text n
    → ReadsSpelling (λ p. p) (IsSettingsText n) GoesOnAtAll old rest (Some text)
settings_read n old rest text some =
    subst (λ t. ReadsSpelling (λ p. p) (IsSettingsText n) GoesOnAtAll old rest (Some t)) (sym some.whole)
    (as_text n old rest (Some some.lines) (all_read old rest some.lines some.along (some.along.good, some.count)
    (λ z zs after w g e. let long = length-append some.lines (z ∷ zs) in
    let all : length (some.lines ++ z ∷ zs) ≡ n = w.1 in let here = some.count in omega arith)))

-- ---- pipelines

lines_of_settings : (ss : List Setting) → flat_map whole_line (map (λ s. s.0 ++ 61 ∷ escape_of s.1) ss)
    ≡ flat_map setting_line ss
lines_of_settings [] = refl
lines_of_settings (s ∷ ss) = ap (λ t. setting_line s ++ t) (lines_of_settings ss)

settings_are_lines : (ss : List Setting) → AllByRecursion (λ s. IsSetting s.0 s.1) ss
    → AllByRecursion IsSettingLine (map (λ s. s.0 ++ 61 ∷ escape_of s.1) ss)
settings_are_lines [] all = tt
settings_are_lines (s ∷ ss) all = ((s, all.0, refl), settings_are_lines ss all.1)

length_lines : (ss : List Setting) → length (map (λ (s : Setting). s.0 ++ 61 ∷ escape_of s.1) ss) ≡ length ss
length_lines [] = refl
length_lines (s ∷ ss) = ap suc (length_lines ss)

settings_back : (lines : List (List ℕ)) → AllByRecursion IsSettingLine lines
    → (ss : List Setting) × AllByRecursion (λ s. IsSetting s.0 s.1) ss × (length ss ≡ length lines)
    × (flat_map whole_line lines ≡ flat_map setting_line ss)
settings_back [] all = ([], tt, refl, refl)
settings_back (line ∷ lines) all =
    let later = settings_back lines all.1 in
    let s = all.0.0 in
    let one : line ++ 10 ∷ [] ≡ setting_line s =
    ap (λ t. t ++ 10 ∷ []) all.0.2 in
    (s ∷ later.0, (all.0.1, later.1), ap suc later.2, (λ i. one i ++ later.3 i))

-- so many lines are a pipeline of so many lines
pub kept_from_lines : (n : ℕ) (p : List ℕ) → n < 2 ^ 64 → IsSettingsText n p → IsKeptPipeline p × (line_count p ≡ n)
kept_from_lines n p small (lines, are, is) =
    let b = settings_back lines are.0 in
    let all = All-from_recursion (λ (s : Setting). IsSetting s.0 s.1) b.0 b.1 in
    let count : length b.0 ≡ n = b.2 ∙ are.1 in (
      (b.0, all, is ∙ b.3, subst (λ k. k < 2 ^ 64) (sym count) small),
      ap line_count (is ∙ b.3) ∙ settings_counted b.0 all ∙ count,
    )

pub lines_from_kept : (p : List ℕ) → IsKeptPipeline p → (line_count p < 2 ^ 64) × IsSettingsText (line_count p) p
lines_from_kept p (ss, all, is, small) =
    let count : line_count p ≡ length ss = ap line_count is ∙ settings_counted ss all in (
      subst (λ k. k < 2 ^ 64) (sym count) small,
      (
        map (λ s. s.0 ++ 61 ∷ escape_of s.1) ss,
        (
          settings_are_lines ss (recursion_from_All (λ (s : Setting). IsSetting s.0 s.1) ss all),
          length_lines ss
              ∙ sym count,
        ),
        is ∙ sym (lines_of_settings ss),
      ),
    )

-- a pipeline is its number of lines and then the lines
abbrev pub pipeline_pairing : Pairing (λ n. numbered_line (codes "pipeline") (n ∷ [])) (λ n. n < 2 ^ 64) GoesOnAtAll
    (λ n p. p)
    (λ n p. IsSettingsText n p) pipeline_part IsKeptPipeline GoesOnAtAll
pipeline_pairing = record {
  to = λ n p. p;
  first = line_count;
  second = λ p. p;
  whole = λ p. refl;
  spells = λ n p small is. ap (λ k. numbered_line (codes "pipeline") (k ∷ []) ++ p) (kept_from_lines n p small is).1;
  fits = λ n p small is. (kept_from_lines n p small is).0;
  parts = lines_from_kept;
  goes = λ n p after small is g. tt;
}

pub one_more_pipeline : (n i : ℕ) (rest : List ℕ) (xs : List (List ℕ)) → length xs ≡ i → i < n
    → OneMore pipeline_part IsKeptPipeline GoesOnAtAll (ArePipelines n) GoesOnAtAll rest xs
one_more_pipeline n i rest xs count below = record {
  more = λ after w g e. let all : length xs ≡ n = w.1 in omega arith;
  fits = λ z zs w. each_first IsKeptPipeline xs z zs w.0;
  goes = λ z zs after w g. tt;
}

-- some of so many pipelines
pub record SomePipelines (n : ℕ) (old rest : List ℕ) (ps : List (List ℕ)) (i : ℕ) : Type 0 where
  pub along : Along pipeline_part (AllByRecursion IsKeptPipeline) (ArePipelines n) GoesOnAtAll old rest ps
  pub count : length ps ≡ i

pub next_pipeline : (n i : ℕ) (old rest new : List ℕ) (ps : List (List ℕ)) (p : List ℕ) → SomePipelines n old rest ps i
    → i < n → ReadsSpelling pipeline_part IsKeptPipeline GoesOnAtAll rest new (Some p)
    → SomePipelines n old new (ps ++ p ∷ []) (i + 1)
next_pipeline n i old rest new ps p some below r = record {
  along = one_more old rest new ps p some.along (one_more_pipeline n i rest ps some.count below) r
      (each_push IsKeptPipeline ps p some.along.good r.spelled.0);
  count = longer ps p ∙ ap (λ k. k + 1) some.count;
}

pub pipeline_missing : (n i : ℕ) (old rest mid new : List ℕ) (ps : List (List ℕ)) (o : Option (List ℕ))
    → SomePipelines n old rest ps i → i < n → ReadsSpelling pipeline_part IsKeptPipeline GoesOnAtAll rest mid o → o
    ≡ None
    → ReadsSpelling (λ qs. flat_map pipeline_part qs) (ArePipelines n) GoesOnAtAll old new None
pipeline_missing n i old rest mid new ps o some below r none =
    one_missing old rest mid new ps o None some.along (one_more_pipeline n i rest ps some.count below) r none refl

pub pipelines_read : (n : ℕ) (old rest : List ℕ) (ps : List (List ℕ)) → SomePipelines n old rest ps n
    → ReadsSpelling (λ qs. flat_map pipeline_part qs) (ArePipelines n) GoesOnAtAll old rest (Some ps)
pipelines_read n old rest ps some = all_read old rest ps some.along (some.along.good, some.count)
    (λ z zs after w g e. let long = length-append ps (z ∷ zs) in
    let all : length (ps ++ z ∷ zs) ≡ n = w.1 in let here = some.count in omega arith)

-- ---- places

pub at_drop_or : {X : Type 0} (xs : List X) (i : ℕ) (d : X) → i < length xs → drop i xs ≡ get_or xs i d ∷ drop
    (i + 1) xs
at_drop_or xs i d below = drop-cons xs i d below ∙ (λ j. get_or xs i d ∷ drop (next j) xs)
  where
    next : suc i ≡ i + 1
    next = omega arith

pub at_drop : {X : Type 0} (xs : List X) (i : ℕ) (x : X) → i < length xs → x ≡ get_or xs i x
    → drop i xs ≡ x ∷ drop (i + 1) xs
at_drop xs i x below is = at_drop_or xs i x below ∙ (λ j. sym is j ∷ drop (i + 1) xs)

-- ---- escaped values

-- whether a text is an escaped value
pub told : {V : Type 0} (items : V → List ℕ) (text : List ℕ) (o : Option V)
    → MatchOption o ((bytes : List ℕ) → AreBytes bytes → escape_of bytes ≢ text) (λ v. AreBytes (items v)
    × (escape_of (items v) ≡ text))
    → (is_some o ≡ true → (bytes : List ℕ) × AreBytes bytes × (escape_of bytes ≡ text))
    × ((bytes : List ℕ) × AreBytes bytes × (escape_of bytes ≡ text) → is_some o ≡ true)
told items text None h = (λ e. absurd (true≢false (sym e)), λ v. absurd (h v.0 v.1 v.2))
told items text (Some v) h = (λ e. (items v, h.0, h.1), λ w. refl)

-- a key and an escaped value are a setting's line
pub setting_made : (line key value : List ℕ) → line ≡ key ++ 61 ∷ value → is_key key ≡ true
    → (bytes : List ℕ) × AreBytes bytes × (escape_of bytes ≡ value) → IsSettingLine line
setting_made line key value parts keyed (bytes, are, is) =
    ((key, bytes), record { keyed = keyed; bytes = are }, parts ∙ ap (λ v. key ++ 61 ∷ v) (sym is))
