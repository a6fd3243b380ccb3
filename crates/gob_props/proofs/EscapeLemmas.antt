-- How escapes are read.
use Rattle.std.proofs.Common.{◌≡◌, ℕ, zero, suc, ◌+◌, ◌-◌, ◌*◌, ◌<◌, ◌≤◌, Bool, false, nat_eq, List, [], ◌∷◌, ◌++◌}
use Rattle.std.proofs.Common.{length, get_or, take, drop, refl, sym, ap, subst, ◌∙◌, arith, Option, Some, None, IfSome}
use Rattle.std.proofs.Common.{option_map, option_and_then, append_assoc, append-nil, encode_utf8, encode_utf8_all}
use Rattle.std.proofs.Common.{length-drop}
use Rattle.std.specs.List.{list_all}
use Rattle.std.specs.Char.{digit_value, is_digit}
use Rattle.std.proofs.lemmas.Bool.{cond_both, cond-true, cond-false, and_left, and_right, and_from, lt-ltb, le-ltb}
use Rattle.std.proofs.lemmas.List.{get_or_read}
use Rattle.gob_props.specs.Properties.{is_backslash, Character, code_unit, escaped_unit, paired_character}
use Rattle.gob_props.specs.Properties.{coded_character, escape, is_high}
use Rattle.gob_props.specs.Properties.{is_low, first_character, read_characters, without_escapes, paired_up}
use Rattle.std.proofs.Math.Seq.{take-length}

-- ---- code units

abbrev hex : ℕ → Bool
hex c = is_digit c 16

pub code_unit-short : (text : List ℕ) → length text < 4 → code_unit text ≡ None
unfolding code_unit
code_unit-short [] short = refl
code_unit-short (a ∷ []) short = refl
code_unit-short (a ∷ b ∷ []) short = refl
code_unit-short (a ∷ b ∷ c ∷ []) short = refl
code_unit-short (a ∷ b ∷ c ∷ d ∷ text) short = absurd (omega arith)

all_fail : (xs : List ℕ) (i : ℕ) → i < length xs → hex (get_or xs i 0) ≡ false → list_all hex xs ≡ false
all_fail [] i inside fails = absurd (omega arith)
all_fail (x ∷ xs) zero inside fails = and_left (hex x) (list_all hex xs) fails
all_fail (x ∷ xs) (suc i) inside fails = and_right (hex x) (list_all hex xs) (all_fail xs i (omega arith) fails)

pub code_unit-bad : (text : List ℕ) (i : ℕ) → 4 ≤ length text → i < 4 → (digit_value (get_or text i 0) < 16 → ⊥) →
    code_unit text ≡ None
unfolding code_unit
code_unit-bad [] i long below bad = absurd (omega arith)
code_unit-bad (a ∷ []) i long below bad = absurd (omega arith)
code_unit-bad (a ∷ b ∷ []) i long below bad = absurd (omega arith)
code_unit-bad (a ∷ b ∷ c ∷ []) i long below bad = absurd (omega arith)
code_unit-bad (a ∷ b ∷ c ∷ d ∷ text) i long below bad =
    cond-false _ _ _
    (all_fail (a ∷ b ∷ c ∷ d ∷ []) i below
    (le-ltb (digit_value (get_or (a ∷ b ∷ c ∷ d ∷ []) i 0)) 16 (four a b c d text i below bad)))
  where
    four : (a b c d : ℕ) (text : List ℕ) (i : ℕ) → i < 4 → (digit_value (get_or (a ∷ b ∷ c ∷ d ∷ text) i 0) < 16 → ⊥) →
        16 ≤ digit_value (get_or (a ∷ b ∷ c ∷ d ∷ []) i 0)
    four a b c d text zero below bad = omega arith
    four a b c d text (suc zero) below bad = omega arith
    four a b c d text (suc (suc zero)) below bad = omega arith
    four a b c d text (suc (suc (suc zero))) below bad = omega arith
    four a b c d text (suc (suc (suc (suc i)))) below bad = absurd (omega arith)

pub code_unit-good : (text : List ℕ) → 4 ≤ length text → digit_value (get_or text 0 0) < 16 →
    digit_value (get_or text 1 0) < 16 → digit_value (get_or text 2 0) < 16 → digit_value (get_or text 3 0) < 16 →
    code_unit text ≡
    Some ((digit_value (get_or text 0 0) * 16 + digit_value (get_or text 1 0)) * 256 +
    (digit_value (get_or text 2 0) * 16 + digit_value (get_or text 3 0)))
unfolding code_unit
code_unit-good [] long ha hb hc hd = absurd (omega arith)
code_unit-good (a ∷ []) long ha hb hc hd = absurd (omega arith)
code_unit-good (a ∷ b ∷ []) long ha hb hc hd = absurd (omega arith)
code_unit-good (a ∷ b ∷ c ∷ []) long ha hb hc hd = absurd (omega arith)
code_unit-good (a ∷ b ∷ c ∷ d ∷ text) long ha hb hc hd =
    cond-true _ _ _
    (and_from _ _ (lt-ltb _ 16 ha)
    (and_from _ _ (lt-ltb _ 16 hb) (and_from _ _ (lt-ltb _ 16 hc) (and_from _ _ (lt-ltb _ 16 hd) refl))))
    ∙ ap Some (omega arith)

-- what the code read at a place is no digit
pub digit_bad : (text : List ℕ) (i item : ℕ) → 4 ≤ length text → i < 4 → item ≡ get_or text i item →
    (digit_value item < 16 → ⊥) → None ≡ code_unit text
digit_bad text i item long below read bad =
    let at : item ≡ get_or text i 0 = get_or_read text i item (omega arith) read 0 in
    sym (code_unit-bad text i long below (λ small. bad (subst (λ x. digit_value x < 16) (sym at) small)))

-- the code read four digits
pub code_unit-read : (text : List ℕ) (a b c d : ℕ) → 4 ≤ length text → a ≡ get_or text 0 a → b ≡ get_or text 1 b →
    c ≡ get_or text 2 c → d ≡ get_or text 3 d → digit_value a < 16 → digit_value b < 16 → digit_value c < 16 →
    digit_value d < 16 → code_unit text ≡ Some
    ((digit_value a * 16 + digit_value b) * 256 + (digit_value c * 16 + digit_value d))
code_unit-read text a b c d long ra rb rc rd ha hb hc hd =
    let ea : a ≡ get_or text 0 0 = get_or_read text 0 a (omega arith) ra 0 in
    let eb : b ≡ get_or text 1 0 = get_or_read text 1 b (omega arith) rb 0 in
    let ec : c ≡ get_or text 2 0 = get_or_read text 2 c (omega arith) rc 0 in
    let ed : d ≡ get_or text 3 0 = get_or_read text 3 d (omega arith) rd 0 in
    let va = ap digit_value ea in
    let vb = ap digit_value eb in
    let vc = ap digit_value ec in
    let vd = ap digit_value ed in
    code_unit-good text long (omega arith) (omega arith) (omega arith) (omega arith) ∙ ap Some (omega arith)

-- ---- characters

paired_shorter : (high : ℕ) (after : List ℕ) (low : Option ℕ) →
    IfSome (paired_character high after low) (λ x. length x.after ≤ length after)
paired_shorter high after None = tt
paired_shorter high after (Some low) = cond_both (is_low low) _ _
    (λ (o : Option Character). IfSome o (λ x. length x.after ≤ length after)) (λ _. omega (arith, length-drop 6 after))
    (λ _. tt)

coded_shorter : (after : List ℕ) (unit : Option ℕ) → IfSome (coded_character after unit)
    (λ x. length x.after ≤ length after)
coded_shorter after None = tt
coded_shorter after (Some unit) =
    cond_both (is_high unit) _ _ (λ (o : Option Character). IfSome o (λ x. length x.after ≤ length after))
    (λ _. paired_shorter unit after (escaped_unit after))
    (λ _. cond_both (is_low unit) None (Some (record { value = unit; after = after }))
    (λ (o : Option Character). IfSome o (λ x. length x.after ≤ length after)) (λ _. tt) (λ _. omega arith))

if_some_weaker : (o : Option Character) (m n : ℕ) → m ≤ n → IfSome o (λ x. length x.after ≤ m) →
    IfSome o (λ x. length x.after ≤ n)
if_some_weaker None m n less h = tt
if_some_weaker (Some x) m n less h = omega (arith, h)

escape_shorter : (cs : List ℕ) → IfSome (escape cs) (λ x. length x.after ≤ length cs)
escape_shorter [] = tt
escape_shorter (c ∷ cs) =
    cond_both (nat_eq c 117) _ _ (λ (o : Option Character). IfSome o (λ x. length x.after ≤ suc (length cs)))
    (λ _. if_some_weaker (coded_character (drop 4 cs) (code_unit cs)) (length (drop 4 cs)) (suc (length cs))
    (omega (arith, length-drop 4 cs)) (coded_shorter (drop 4 cs) (code_unit cs)))
    (λ _. omega arith)

first_shorter : (c : ℕ) (cs : List ℕ) → IfSome (first_character c cs) (λ x. length x.after ≤ length cs)
unfolding first_character
first_shorter c cs = cond_both (is_backslash c) _ _
    (λ (o : Option Character). IfSome o (λ x. length x.after ≤ length cs)) (λ _. escape_shorter cs) (λ _. omega arith)

and_then_same : (o : Option Character) (most : ℕ) (f g : Character → Option (List ℕ)) →
    IfSome o (λ x. length x.after ≤ most) → ((x : Character) → length x.after ≤ most → f x ≡ g x) →
    option_and_then f o ≡ option_and_then g o
and_then_same None most f g h same = refl
and_then_same (Some x) most f g h same = same x h

-- more steps than characters change nothing
read_enough : (n m : ℕ) (cs : List ℕ) → length cs ≤ n → length cs ≤ m → read_characters n cs ≡ read_characters m cs
unfolding read_characters
read_enough n m [] h k = refl
read_enough zero m (c ∷ cs) h k = absurd (omega arith)
read_enough (suc n) zero (c ∷ cs) h k = absurd (omega arith)
read_enough (suc n) (suc m) (c ∷ cs) h k =
    and_then_same (first_character c cs) (length cs) _ _ (first_shorter c cs)
    (λ x short. ap (option_map (λ later. x.value ∷ later)) (read_enough n m x.after (omega arith) (omega arith)))

pub unescaped_step : (c : ℕ) (cs : List ℕ) →
    without_escapes (c ∷ cs) ≡ option_and_then (λ (x : Character). option_map (λ later. x.value ∷ later)
    (without_escapes x.after))
    (first_character c cs)
unfolding read_characters
unescaped_step c cs =
    and_then_same (first_character c cs) (length cs) _ _ (first_shorter c cs)
    (λ x short. ap (option_map (λ later. x.value ∷ later))
    (read_enough (length cs) (length x.after) x.after short (omega arith)))

pub unescaped_end : without_escapes [] ≡ Some []
unfolding read_characters
unescaped_end = refl

-- one more character was written
pub written_more : (out : List ℕ) (c : ℕ) (o : Option (List ℕ)) →
    option_map (λ cs. out ++ encode_utf8_all cs) (option_map (λ later. c ∷ later) o) ≡
    option_map (λ cs. (out ++ encode_utf8 c) ++ encode_utf8_all cs) o
written_more out c None = refl
written_more out c (Some cs) = ap Some (sym (append_assoc out (encode_utf8 c) (encode_utf8_all cs)))

-- ---- a step of the reader

-- a text is its first character and what the code has as the others
pub first_and_rest : (left : List ℕ) (first : ℕ) → 1 ≤ length left → first ≡ get_or left 0 first →
    left ≡ first ∷ take (length left - 1) (drop 1 left)
first_and_rest [] first some read = absurd (omega arith)
first_and_rest (x ∷ xs) first some read =
    let same : suc (length xs) - 1 ≡ length xs = omega arith in
    ap (λ y. y ∷ xs) (sym read) ∙ ap (λ ys. first ∷ ys) (sym (take-length xs) ∙ ap (λ n. take n xs) (sym same))

goes_to : (out left : List ℕ) (first : ℕ) (rest : List ℕ) (o : Option Character) → left ≡ first ∷ rest →
    o ≡ first_character first rest → option_map (λ cs. out ++ encode_utf8_all cs) (without_escapes left) ≡
    option_map (λ cs. out ++ encode_utf8_all cs)
    (option_and_then (λ (x : Character). option_map (λ later. x.value ∷ later) (without_escapes x.after)) o)
goes_to out left first rest o whole read =
    ap (λ t. option_map (λ cs. out ++ encode_utf8_all cs) (without_escapes t)) whole
    ∙ ap (option_map (λ cs. out ++ encode_utf8_all cs))
    (unescaped_step first rest
    ∙ ap (option_and_then (λ (x : Character). option_map (λ later. x.value ∷ later) (without_escapes x.after)))
    (sym read))

pub step_some : (out out' left : List ℕ) (first c : ℕ) (rest after : List ℕ) (all : Option (List ℕ)) →
    left ≡ first ∷ rest → Some (record { value = c; after = after }) ≡ first_character first rest →
    out' ≡ out ++ encode_utf8 c → option_map (λ cs. out ++ encode_utf8_all cs) (without_escapes left) ≡ all →
    option_map (λ cs. out' ++ encode_utf8_all cs) (without_escapes after) ≡ all
step_some out out' left first c rest after all whole read wrote so_far =
    ap (λ o. option_map (λ cs. o ++ encode_utf8_all cs) (without_escapes after)) wrote
    ∙ sym (written_more out c (without_escapes after))
    ∙ sym (goes_to out left first rest (Some (record { value = c; after = after })) whole read)
    ∙ so_far

pub step_none : (out left : List ℕ) (first : ℕ) (rest : List ℕ) (all : Option (List ℕ)) → left ≡ first ∷ rest →
    None ≡ first_character first rest → option_map (λ cs. out ++ encode_utf8_all cs) (without_escapes left) ≡ all
    → None ≡ all
step_none out left first rest all whole read so_far = sym (goes_to out left first rest None whole read) ∙ so_far

pub step_end : (out left : List ℕ) (all : Option (List ℕ)) → length left < 1 →
    option_map (λ cs. out ++ encode_utf8_all cs) (without_escapes left) ≡ all → Some out ≡ all
step_end out [] all none so_far = ap Some (sym (append-nil out))
    ∙ sym (ap (option_map (λ cs. out ++ encode_utf8_all cs)) unescaped_end) ∙ so_far
step_end out (c ∷ left) all none so_far = absurd (omega arith)

-- ---- entries

pub entry_no_key : (key value : Option (List ℕ)) → None ≡ option_map encode_utf8_all key → None ≡ paired_up key value
entry_no_key None value h = refl
entry_no_key (Some k) value h = absurd (cc)

pub entry_no_value : (key value : Option (List ℕ)) → None ≡ option_map encode_utf8_all value →
    None ≡ paired_up key value
entry_no_value None value h = refl
entry_no_value (Some k) None h = refl
entry_no_value (Some k) (Some v) h = absurd (cc)

pub entry_both : (k v : List ℕ) (key value : Option (List ℕ)) → Some k ≡ option_map encode_utf8_all key →
    Some v ≡ option_map encode_utf8_all value → Some (k, v) ≡ paired_up key value
entry_both k v None value h j = absurd (cc)
entry_both k v (Some x) None h j = absurd (cc)
entry_both k v (Some x) (Some y) h j =
    let first : k ≡ encode_utf8_all x = cc in
    let second : v ≡ encode_utf8_all y = cc in
    ap (λ a. Some (a, v)) first ∙ ap (λ b. Some (encode_utf8_all x, b)) second
