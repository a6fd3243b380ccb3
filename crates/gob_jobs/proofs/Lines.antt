-- A pipeline text reads as its settings, and no other text does.
use Rattle.std.proofs.Common.{◌≡◌, ◌↔◌, ℕ, ◌<◌, Bool, true, false, cond, not, ◌&&◌, ◌||◌, nat_eq, List, [], ◌∷◌, ◌++◌}
use Rattle.std.proofs.Common.{All, Option, Some, None, refl, sym, ap, subst, ◌∙◌, append_assoc, arith}
use Rattle.std.specs.List.{AllByRecursion, flat_map, list_all, join_with_byte}
use Rattle.std.specs.Str.{bytes_eq}
use Rattle.std.proofs.lemmas.Bool.{true≢false, cond_both, cond-true, cond-false, and_parts, and_from, not-true}
use Rattle.std.proofs.lemmas.Bool.{eqb-true, eq-eqb, agree_below_at, leb-true}
use Rattle.std.proofs.lemmas.Bool.Decides.{nat_tests}
use Rattle.std.proofs.lemmas.List.Folds.{list_all-append}
use Rattle.std.proofs.lemmas.List.Elements.{All-nil, All-cons, All-head, All-tail, All-append, All-weaker}
use Rattle.std.proofs.lemmas.List.Elements.{All-from_recursion, recursion_from_All}
use Rattle.percent_encoding.specs.Percent.{percent_encode_byte, percent_decode}
use Rattle.percent_encoding.proofs.PercentLemmas.{IsByte, IsEscapeByte, All-percent_encode_byte, All-percent_decode}
use Rattle.gob_bytes.specs.Escapes.{is_letter, is_digit, is_plain, escape_of, AreBytes}
use Rattle.gob_bytes.proofs.Forms as forms
use Rattle.gob_bytes.proofs.Tables.{same_name, name_itself}
use Rattle.gob_meaning.specs.Steps.{piece_byte}
use Rattle.gob_jobs.specs.Words.{both, only_if, is_empty, pieces}
use Rattle.gob_jobs.specs.Pipelines.{Setting, is_key, IsSetting, setting_line, pipeline_text, unescaped_value}
use Rattle.gob_jobs.specs.Pipelines.{setting_of_pieces, settings_of_lines, settings_in}
use Rattle.gob_jobs.specs.Laws.{SettingsAreRead}
use Rattle.gob_jobs.proofs.Results.{some_both, only_some}

-- ---- pieces

-- no byte of the text separates
abbrev pub IsFree : (ℕ → Bool) → List ℕ → Type 0
IsFree p text = list_all (λ b. not (p b)) text ≡ true

pub pieces_free : (p : ℕ → Bool) (text : List ℕ) → IsFree p text → pieces p text ≡ text ∷ []
unfolding pieces
pieces_free p [] free = refl
pieces_free p (b ∷ bs) free =
    let parts = and_parts (not (p b)) (list_all (λ c. not (p c)) bs) free in
    ap (λ v. piece_byte v b (pieces p bs)) (not-true (p b) parts.0) ∙ ap (piece_byte false b) (pieces_free p bs parts.1)

pub pieces_at : (p : ℕ → Bool) (text : List ℕ) (c : ℕ) (after : List ℕ) → IsFree p text → p c ≡ true
    → pieces p (text ++ c ∷ after) ≡ text ∷ pieces p after
unfolding pieces
pieces_at p [] c after free is = ap (λ v. piece_byte v c (pieces p after)) is
pieces_at p (b ∷ bs) c after free is =
    let parts = and_parts (not (p b)) (list_all (λ c. not (p c)) bs) free in
    ap (λ v. piece_byte v b (pieces p (bs ++ c ∷ after))) (not-true (p b) parts.0)
    ∙ ap (piece_byte false b) (pieces_at p bs c after parts.1 is)

-- a first piece and others
abbrev pub HasFirst : List (List ℕ) → Type 0
HasFirst ps = (x : List ℕ) × (xs : List (List ℕ)) × (ps ≡ x ∷ xs)

byte_first : (v : Bool) (b : ℕ) (ps : List (List ℕ)) → HasFirst (piece_byte v b ps)
byte_first true b ps = ([], ps, refl)
byte_first false b [] = (b ∷ [], [], refl)
byte_first false b (p ∷ ps) = (b ∷ p, ps, refl)

pub pieces_first : (p : ℕ → Bool) (text : List ℕ) → HasFirst (pieces p text)
unfolding pieces
pieces_first p [] = ([], [], refl)
pieces_first p (b ∷ bs) = byte_first (p b) b (pieces p bs)

byte_joined : (c b : ℕ) (v : Bool) (ps : List (List ℕ)) (bs : List ℕ) → nat_eq c b ≡ v → HasFirst ps
    → join_with_byte c ps ≡ bs → join_with_byte c (piece_byte v b ps) ≡ b ∷ bs
byte_joined c b true [] bs is first joined = let no : [] ≡ first.0 ∷ first.1 = first.2 in cc
byte_joined c b true (p ∷ ps) bs is first joined = let e : c ≡ b = eqb-true c b is in ap (λ x. c ∷ x) joined
    ∙ ap (λ d. d ∷ bs) e
byte_joined c b false [] bs is first joined = let no : [] ≡ first.0 ∷ first.1 = first.2 in cc
byte_joined c b false (p ∷ []) bs is first joined = ap (λ x. b ∷ x) joined
byte_joined c b false (p ∷ q ∷ ps) bs is first joined = ap (λ x. b ∷ x) joined

pub pieces_joined : (c : ℕ) (text : List ℕ) → join_with_byte c (pieces (nat_eq c) text) ≡ text
unfolding pieces
pieces_joined c [] = refl
pieces_joined c (b ∷ bs) = byte_joined c b (nat_eq c b) (pieces (nat_eq c) bs) bs refl (pieces_first (nat_eq c) bs)
    (pieces_joined c bs)

-- ---- bytes of keys and of escaped values

other_byte : (f : ℕ → Bool) (c b : ℕ) → f c ≡ false → f b ≡ true → not (nat_eq c b) ≡ true
other_byte f c b out is = elim (nat_eq c b) as (λ v. nat_eq c b ≡ v → not v ≡ true) [
  | true ↦ λ e. absurd (true≢false (sym is ∙ (ap f (sym (eqb-true c b e)) ∙ out)))
  | false ↦ λ e. refl
] refl

all_other : (f : ℕ → Bool) (c : ℕ) (text : List ℕ) → f c ≡ false → list_all f text ≡ true → IsFree (nat_eq c) text
all_other f c [] out all = refl
all_other f c (b ∷ bs) out all =
    let p = and_parts (f b) (list_all f bs) all in and_from _ _ (other_byte f c b out p.0) (all_other f c bs out p.1)

-- a byte of a key
abbrev is_key_byte : ℕ → Bool
is_key_byte c = is_letter c || is_digit c || nat_eq c 46

key_bytes : (key : List ℕ) → is_key key ≡ true → list_all is_key_byte key ≡ true
key_bytes [] is = absurd (true≢false (sym is))
key_bytes (b ∷ bs) is = is

-- a byte of an escaped value
abbrev is_escaped_byte : ℕ → Bool
is_escaped_byte c = is_plain c || nat_eq c 37

encoded_byte : (b : ℕ) → b < 256 → list_all is_escaped_byte (percent_encode_byte b) ≡ true
unfolding percent_encode_byte
encoded_byte b small = agree_below_at (λ c. list_all is_escaped_byte (percent_encode_byte c)) (λ c. true) 256 b refl
    small

plain_byte : (b : ℕ) → is_plain b ≡ true → list_all is_escaped_byte (b ∷ []) ≡ true
plain_byte b is = rw is

escaped_bytes : (value : List ℕ) → AreBytes value → list_all is_escaped_byte (escape_of value) ≡ true
unfolding escape_of
escaped_bytes [] small = refl
escaped_bytes (b ∷ bs) small =
    let one = cond_both (is_plain b) (b ∷ []) (percent_encode_byte b) (λ x. list_all is_escaped_byte x ≡ true)
    (plain_byte b) (λ _. encoded_byte b (All-head IsByte b bs small)) in
    list_all-append is_escaped_byte (cond (is_plain b) (b ∷ []) (percent_encode_byte b)) (escape_of bs)
    ∙ and_from _ _ one (escaped_bytes bs (All-tail IsByte b bs small))

plain_small : (b : ℕ) → is_plain b ≡ true → b < 256
plain_small b is = grind (arith, nat_tests)

escape_small : (b : ℕ) → IsEscapeByte b → b < 256
escape_small b is = omega arith

all_small : (value : List ℕ) → AreBytes (escape_of value)
unfolding escape_of
all_small [] = All-nil IsByte
all_small (b ∷ bs) =
    All-append IsByte (cond (is_plain b) (b ∷ []) (percent_encode_byte b)) (escape_of bs)
    (cond_both (is_plain b) (b ∷ []) (percent_encode_byte b) AreBytes
    (λ plain. All-cons IsByte b [] (plain_small b plain) (All-nil IsByte))
    (λ _. All-weaker IsEscapeByte IsByte escape_small (percent_encode_byte b) (All-percent_encode_byte b)))
    (all_small bs)

-- ---- a line

-- a line without its end
abbrev pub setting_word : Setting → List ℕ
setting_word s = s.0 ++ 61 ∷ escape_of s.1

body_free : (s : Setting) → IsSetting s.0 s.1 → IsFree (nat_eq 10) (setting_word s)
body_free s is =
    let key : IsFree (nat_eq 10) s.0 = all_other is_key_byte 10 s.0 refl (key_bytes s.0 is.keyed) in
    let value : IsFree (nat_eq 10) (61 ∷ escape_of s.1) = all_other is_escaped_byte 10 (escape_of s.1) refl
    (escaped_bytes s.1 is.bytes) in
    list_all-append (λ b. not (nat_eq 10 b)) s.0 (61 ∷ escape_of s.1) ∙ and_from _ _ key value

unescaped_again : (value : List ℕ) → AreBytes value → unescaped_value (escape_of value) ≡ Some value
unescaped_again value small =
    let e = forms.unescaped value small in
    ap (λ v. cond (bytes_eq (escape_of v) (escape_of value)) (Some v) None) e
    ∙ ap (λ v. cond v (Some value) None) (name_itself (escape_of value))

body_read : (s : Setting) → IsSetting s.0 s.1 → setting_of_pieces (pieces (nat_eq 61) (setting_word s)) ≡ Some s
body_read s is =
    let key : IsFree (nat_eq 61) s.0 = all_other is_key_byte 61 s.0 refl (key_bytes s.0 is.keyed) in
    let value : IsFree (nat_eq 61) (escape_of s.1) = all_other is_escaped_byte 61 (escape_of s.1) refl
    (escaped_bytes s.1 is.bytes) in
    let two : pieces (nat_eq 61) (setting_word s) ≡ s.0 ∷ escape_of s.1 ∷ [] =
    pieces_at (nat_eq 61) s.0 61 (escape_of s.1) key refl ∙ ap (λ ps. s.0 ∷ ps)
    (pieces_free (nat_eq 61) (escape_of s.1) value) in
    ap setting_of_pieces two
    ∙ (ap (λ o. both (λ k v. (k, v)) o (unescaped_value (escape_of s.1))) (cond-true _ (Some s.0) None is.keyed)
    ∙ ap (λ o. both (λ k v. (k, v)) (Some s.0) o) (unescaped_again s.1 is.bytes))

setting_from : (ps : List (List ℕ)) (s : Setting) → setting_of_pieces ps ≡ Some s → IsSetting s.0 s.1
    × (ps ≡ s.0 ∷ escape_of s.1 ∷ [])
setting_from [] s is = cc
setting_from (k ∷ []) s is = cc
setting_from (k ∷ v ∷ []) s is =
    let p = some_both (λ k v. (k, v)) (only_if is_key k) (unescaped_value v) s is in
    let q = only_some is_key k p.0 p.2 in
    let r = from_escaped v p.1 p.3 in
    let key : k ≡ s.0 = q.1 ∙ ap (λ (t : Setting). t.0) p.4 in
    let value : p.1 ≡ s.1 = ap (λ (t : Setting). t.1) p.4 in (
      record { keyed = ap is_key (sym key) ∙ q.0; bytes = subst AreBytes value r.0 },
      ap (λ x. x ∷ v ∷ []) key ∙ ap (λ x. s.0 ∷ x ∷ []) (sym r.1 ∙ ap escape_of value),
    )
  where
    from_escaped : (text value : List ℕ) → unescaped_value text ≡ Some value → AreBytes value × (escape_of value ≡ text)
    from_escaped text value =
        cond_both (bytes_eq (escape_of (percent_decode text)) text) (Some (percent_decode text)) None
        (λ o. o ≡ Some value → AreBytes value × (escape_of value ≡ text))
        (λ same there.
        let e : percent_decode text ≡ value = cc in
        let f : escape_of (percent_decode text) ≡ text = same_name (escape_of (percent_decode text)) text same in
        let small : AreBytes text = subst AreBytes f (all_small (percent_decode text)) in
        (subst AreBytes e (All-percent_decode text small), ap escape_of (sym e) ∙ f))
        (λ _ no. cc)
setting_from (k ∷ v ∷ w ∷ ws) s is = cc

-- ---- lines

more_lines : (line : List ℕ) (rest : List (List ℕ)) → HasFirst rest
    → settings_of_lines (line ∷ rest) ≡ both (λ s ss. s ∷ ss) (setting_of_pieces (pieces (nat_eq 61) line))
    (settings_of_lines rest)
more_lines line [] first = let no : [] ≡ first.0 ∷ first.1 = first.2 in cc
more_lines line (x ∷ xs) first = refl

line_and_more : (s : Setting) (rest : List ℕ) → setting_line s ++ rest ≡ setting_word s ++ 10 ∷ rest
line_and_more s rest = append_assoc (setting_word s) (10 ∷ []) rest

read_back : (settings : List Setting) → AllByRecursion (λ s. IsSetting s.0 s.1) settings
    → settings_of_lines (pieces (nat_eq 10) (pipeline_text settings)) ≡ Some settings
unfolding pieces
read_back [] all = refl
read_back (s ∷ ss) all =
    let cut : pieces (nat_eq 10) (pipeline_text (s ∷ ss)) ≡ setting_word s ∷ pieces (nat_eq 10) (pipeline_text ss) =
    ap (pieces (nat_eq 10)) (line_and_more s (pipeline_text ss))
    ∙ pieces_at (nat_eq 10) (setting_word s) 10 (pipeline_text ss) (body_free s all.0) refl in
    ap settings_of_lines cut
    ∙ (more_lines (setting_word s) (pieces (nat_eq 10) (pipeline_text ss)) (pieces_first (nat_eq 10) (pipeline_text ss))
    ∙ (ap (λ o. both (λ t ts. t ∷ ts) o (settings_of_lines (pieces (nat_eq 10) (pipeline_text ss)))) (body_read s all.0)
    ∙ ap (λ o. both (λ t ts. t ∷ ts) (Some s) o) (read_back ss all.1)))

last_line : (line : List ℕ) (settings : List Setting) → settings_of_lines (line ∷ []) ≡ Some settings → (line ≡ [])
    × (settings ≡ [])
last_line [] settings is = (refl, cc)
last_line (b ∷ bs) settings is = cc

read_from : (ls : List (List ℕ)) (settings : List Setting) → settings_of_lines ls ≡ Some settings
    → AllByRecursion (λ s. IsSetting s.0 s.1) settings × (join_with_byte 10 ls ≡ pipeline_text settings)
read_from [] settings is = cc
read_from (line ∷ []) settings is =
    let p = last_line line settings is in
    (subst (AllByRecursion (λ s. IsSetting s.0 s.1)) (sym p.1) tt, p.0 ∙ ap pipeline_text (sym p.1))
read_from (line ∷ next ∷ ls) settings is =
    let p = some_both (λ s ss. s ∷ ss) (setting_of_pieces (pieces (nat_eq 61) line)) (settings_of_lines (next ∷ ls))
    settings is in
    let one = setting_from (pieces (nat_eq 61) line) p.0 p.2 in
    let more = read_from (next ∷ ls) p.1 p.3 in
    let body : line ≡ setting_word p.0 = sym (pieces_joined 61 line) ∙ ap (join_with_byte 61) one.1 in (
      subst (AllByRecursion (λ s. IsSetting s.0 s.1)) p.4 (one.0, more.0),
      ap (λ x. x ++ 10 ∷ join_with_byte 10 (next ∷ ls)) body
          ∙ (ap (λ x. setting_word p.0 ++ 10 ∷ x) more.1 ∙ (sym (line_and_more p.0 (pipeline_text p.1))
          ∙ ap pipeline_text p.4)),
    )

pub settings_read : SettingsAreRead
unfolding settings_in
settings_read text settings = (
  λ is.
      let p = read_from (pieces (nat_eq 10) text) settings is in
      (All-from_recursion (λ s. IsSetting s.0 s.1) settings p.0, sym (pieces_joined 10 text) ∙ p.1),
  λ is. ap settings_in is.1 ∙ read_back settings (recursion_from_All (λ s. IsSetting s.0 s.1) settings is.0),
)
