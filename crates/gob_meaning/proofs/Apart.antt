-- The names of different files differ.
use Rattle.std.proofs.Common.{◌≡◌, ◌⊎◌, inl, inr, ℕ, zero, suc, ◌+◌, ◌/◌, ◌%◌, ◌^◌, ◌<◌, true, false, nat_eq, nat_le}
use Rattle.std.proofs.Common.{get_or, List, [], ◌∷◌, ◌++◌, length, codes, Some, None, Option, refl, sym, ap, ◌∙◌, arith}
use Rattle.std.proofs.Common.{append_assoc}
use Rattle.std.specs.List.{list_any, slice_get}
use Rattle.std.specs.Option.{option_map, unwrap_or}
use Rattle.std.specs.Fmt.{decimal, digit_glyph}
use Rattle.std.specs.Char.{is_ascii_digit}
use Rattle.std.specs.Str.{all_ascii_digits}
use Rattle.std.proofs.lemmas.Bool.{cond_both, and_parts, eqb-false, ne_eqb, true≢false, leb-true, agree_below_at}
use Rattle.std.proofs.lemmas.List.Folds.{list_any-append}
use Rattle.std.proofs.lemmas.Fmt.{digits_decimal}
use Rattle.percent_encoding.specs.Percent.{percent_encode_byte}
use Rattle.gob_bytes.specs.Digits.{padded_digits, offset}
use Rattle.gob_bytes.specs.Escapes.{is_plain, escape_of}
use Rattle.gob_bytes.proofs.Forms.{one_form, escapes_apart, offsets_one_form, own}
use Rattle.gob_plan.specs.declared.plan.Format.{Format}
use Rattle.gob_plan.specs.declared.plan.Format.TheVariants as format
use Rattle.gob_plan.specs.declared.plan.BranchSpec.{BranchSpec}
use Rattle.gob_plan.specs.declared.plan.Plan.{Plan}
use Rattle.gob_meaning.specs.Items.{out, err, bad}
use Rattle.gob_meaning.specs.Names.{extension, branch_extension, range_name, target_name}
use Rattle.gob_meaning.specs.Laws.{is_folder, IsPlaced, IsRange, NamesTellApart}
use Rattle.gob_meaning.proofs.PlainLines.{or_parts}

-- ---- texts without a byte

abbrev Lacks : ℕ → List ℕ → Type 0
Lacks c bs = list_any (λ b. nat_eq b c) bs ≡ false

lacks_both : (c : ℕ) (x y : List ℕ) → Lacks c x → Lacks c y → Lacks c (x ++ y)
lacks_both c x y here there = rw (list_any-append (λ b. nat_eq b c) x y, here) there

lacks-cons : (c b : ℕ) (bs : List ℕ) → nat_eq b c ≡ false → Lacks c bs → Lacks c (b ∷ bs)
lacks-cons c b bs here there = rw here there

-- the first such byte parts a text in one way
parted : (c : ℕ) (u v x y : List ℕ) → Lacks c u → Lacks c v → u ++ c ∷ x ≡ v ++ c ∷ y → (u ≡ v) × (x ≡ y)
parted c [] [] x y lacks lacks' same = (refl, cc)
parted c [] (b ∷ v) x y lacks lacks' same = absurd (eqb-false b c (or_parts (nat_eq b c) _ lacks').0 (cc))
parted c (a ∷ u) [] x y lacks lacks' same = absurd (eqb-false a c (or_parts (nat_eq a c) _ lacks).0 (cc))
parted c (a ∷ u) (b ∷ v) x y lacks lacks' same =
    let later = parted c u v x y (or_parts (nat_eq a c) _ lacks).1 (or_parts (nat_eq b c) _ lacks').1 (cc) in
    let head : a ≡ b = cc in (cc (head, later.0), later.1)

-- and so does a length
parted_at : (u v x y : List ℕ) → length u ≡ length v → u ++ x ≡ v ++ y → (u ≡ v) × (x ≡ y)
parted_at [] [] x y long same = (refl, same)
parted_at [] (b ∷ v) x y long same = absurd (omega arith)
parted_at (a ∷ u) [] x y long same = absurd (omega arith)
parted_at (a ∷ u) (b ∷ v) x y long same =
    let later = parted_at u v x y (omega arith) (cc) in
    let head : a ≡ b = cc in (cc (head, later.0), later.1)

-- ---- folders

folder_tail : (b : ℕ) (bs : List ℕ) → is_folder (b ∷ bs) ≡ true → is_folder bs ≡ true
folder_tail b [] folder = refl
folder_tail b (c ∷ bs) folder = folder

-- a folder that isn't empty has a slash
folder_has : (b : ℕ) (bs rest : List ℕ) → is_folder (b ∷ bs) ≡ true → Lacks 47 (b ∷ bs ++ rest) → ⊥
folder_has b [] rest folder lacks = true≢false (sym folder ∙ (or_parts (nat_eq b 47) _ lacks).0)
folder_has b (c ∷ bs) rest folder lacks = folder_has c bs rest folder (or_parts (nat_eq b 47) _ lacks).1

folder_parted : (p q x y : List ℕ) → is_folder p ≡ true → is_folder q ≡ true → Lacks 47 x → Lacks 47 y → p ++ x
    ≡ q ++ y → (p ≡ q) × (x ≡ y)
folder_parted [] [] x y folder folder' lacks lacks' same = (refl, same)
folder_parted [] (b ∷ q) x y folder folder' lacks lacks' same = absurd (folder_has b q y folder' (rw same at lacks))
folder_parted (a ∷ p) [] x y folder folder' lacks lacks' same = absurd (folder_has a p x folder (rw (← same) at lacks'))
folder_parted (a ∷ p) (b ∷ q) x y folder folder' lacks lacks' same =
    let later = folder_parted p q x y (folder_tail a p folder) (folder_tail b q folder') lacks lacks' (cc) in
    let head : a ≡ b = cc in (cc (head, later.0), later.1)

-- ---- the parts of a name

digits_lack : (ds : List ℕ) → all_ascii_digits ds ≡ true → Lacks 47 ds
digits_lack [] all = refl
digits_lack (b ∷ ds) all =
    let parts = and_parts (is_ascii_digit b) (all_ascii_digits ds) all in
    let least = leb-true 48 b (and_parts (nat_le 48 b) (nat_le b 57) parts.0).0 in
    lacks-cons 47 b ds (ne_eqb b 47 (λ e. absurd (omega arith))) (digits_lack ds parts.1)

decimal_lacks : (n : ℕ) → n < 2 ^ 64 → Lacks 47 (decimal n)
decimal_lacks n small = digits_lack (decimal n) (digits_decimal own n small)

decimal_apart : (m n : ℕ) → m < 2 ^ 64 → n < 2 ^ 64 → decimal m ≡ decimal n → m ≡ n
decimal_apart m n small small' same =
    let first = (one_form (decimal m) m).1 (refl, small) in
    let second = (one_form (decimal m) n).1 (same, small') in
    cc

padded_lacks : (c k n : ℕ) → (c < 48) ⊎ (57 < c) → Lacks c (padded_digits k n)
unfolding padded_digits
padded_lacks c zero n apart = refl
padded_lacks c (suc k) n apart = lacks_both c (padded_digits k (n / 10)) ((48 + n % 10) ∷ [])
    (padded_lacks c k (n / 10) apart) (lacks-cons c (48 + n % 10) []
    (ne_eqb (48 + n % 10) c (λ e. absurd (not_digit c (n % 10) (omega arith) apart e))) refl)
  where
    not_digit : (c d : ℕ) → d < 10 → (c < 48) ⊎ (57 < c) → 48 + d ≡ c → ⊥
    not_digit c d small (inl below) e = omega arith
    not_digit c d small (inr above) e = omega arith

-- a hexadecimal digit is neither '/' nor '@'
no_slash_digit : (d : ℕ) → d < 16 → nat_eq (digit_glyph true d) 47 ≡ false
no_slash_digit d small = agree_below_at (λ x. nat_eq (digit_glyph true x) 47) (λ x. false) 16 d refl small

no_at_digit : (d : ℕ) → d < 16 → nat_eq (digit_glyph true d) 64 ≡ false
no_at_digit d small = agree_below_at (λ x. nat_eq (digit_glyph true x) 64) (λ x. false) 16 d refl small

escaped_lacks : (c : ℕ) → is_plain c ≡ false → nat_eq 37 c ≡ false
    → ((d : ℕ) → d < 16 → nat_eq (digit_glyph true d) c ≡ false) → (bs : List ℕ) → Lacks c (escape_of bs)
unfolding escape_of percent_encode_byte
escaped_lacks c odd sign digit [] = refl
escaped_lacks c odd sign digit (b ∷ bs) =
    cond_both (is_plain b) (b ∷ []) (percent_encode_byte b) (λ x. Lacks c (x ++ escape_of bs))
    (λ plain. lacks-cons c b (escape_of bs) (ne_eqb b c (λ e. true≢false (sym plain ∙ ap is_plain e ∙ odd)))
    (escaped_lacks c odd sign digit bs))
    (λ _. lacks-cons c 37 (digit_glyph true (b / 16 % 16) ∷ digit_glyph true (b % 16) ∷ escape_of bs) sign
    (lacks-cons c (digit_glyph true (b / 16 % 16)) (digit_glyph true (b % 16) ∷ escape_of bs)
    (digit (b / 16 % 16) (omega arith)) (lacks-cons c (digit_glyph true (b % 16)) (escape_of bs)
    (digit (b % 16) (omega arith)) (escaped_lacks c odd sign digit bs))))

extension_lacks : (f : Format) → Lacks 47 (extension f)
extension_lacks format.Lines = refl
extension_lacks format.Csv = refl
extension_lacks format.Json = refl

branch_extension_lacks : (plan : Plan) (b : ℕ) → Lacks 47 (branch_extension plan b)
branch_extension_lacks plan b = of (slice_get plan.branches b)
  where
    of : (o : Option BranchSpec) → Lacks 47 (unwrap_or (option_map (λ s. extension s.format) o) [])
    of None = refl
    of (Some s) = extension_lacks s.format

-- the range's name, read from its front
range_parts : (part : List ℕ) (lo hi : ℕ) (ext : List ℕ) → range_name part lo hi ext
    ≡ escape_of part ++ 64 ∷ (offset lo ++ 45 ∷ (offset hi ++ 46 ∷ ext))
range_parts part lo hi ext = simp append_assoc

range_lacks : (part : List ℕ) (lo hi : ℕ) (ext : List ℕ) → Lacks 47 ext → Lacks 47 (range_name part lo hi ext)
unfolding offset
range_lacks part lo hi ext lacks = rw (range_parts part lo hi ext)
    (lacks_both 47 (escape_of part) _ (escaped_lacks 47 refl refl no_slash_digit part)
    (lacks-cons 47 64 (offset lo ++ 45 ∷ (offset hi ++ 46 ∷ ext)) refl
    (lacks_both 47 (offset lo) (45 ∷ (offset hi ++ 46 ∷ ext)) (padded_lacks 47 20 lo (inl (omega arith)))
    (lacks-cons 47 45 (offset hi ++ 46 ∷ ext) refl
    (lacks_both 47 (offset hi) (46 ∷ ext) (padded_lacks 47 20 hi (inl (omega arith)))
    (lacks-cons 47 46 ext refl lacks))))))

range_apart : (part part' : List ℕ) (lo lo' hi hi' : ℕ) (ext ext' : List ℕ) → IsRange part lo hi
    → IsRange part' lo' hi' → range_name part lo hi ext ≡ range_name part' lo' hi' ext' → (part ≡ part') × (lo ≡ lo')
    × (hi ≡ hi')
range_apart part part' lo lo' hi hi' ext ext' range range' same =
    let front = parted 64 (escape_of part) (escape_of part') _ _ (escaped_lacks 64 refl refl no_at_digit part)
    (escaped_lacks 64 refl refl no_at_digit part')
    (sym (range_parts part lo hi ext) ∙ same ∙ range_parts part' lo' hi' ext') in
    let first = parted_at (offset lo) (offset lo') _ _ (offsets_one_form.0 lo ∙ sym (offsets_one_form.0 lo')) front.1 in
    let after : offset hi ++ 46 ∷ ext ≡ offset hi' ++ 46 ∷ ext' = cc (first.1) in
    let second = parted_at (offset hi) (offset hi') _ _
    (offsets_one_form.0 hi ∙ sym (offsets_one_form.0 hi')) after in (
      escapes_apart part part' range.0 range'.0 front.0,
      offsets_one_form.1 lo lo' (omega arith) (omega arith) first.0,
      offsets_one_form.1 hi hi' (omega arith) (omega arith) second.0,
    )

-- ---- whole names

abbrev placed : Plan → List ℕ → ℕ → ℕ → ℕ → List ℕ → List ℕ
placed plan part lo hi b place = decimal b ++ 47 ∷ (place ++ range_name part lo hi (branch_extension plan b))

-- the part of a name behind `out/` and `err/`
placed_apart : (plan plan' : Plan) (part part' : List ℕ) (lo lo' hi hi' b b' : ℕ) (place place' : List ℕ)
    → IsRange part lo hi → IsRange part' lo' hi' → IsPlaced (out b place) → IsPlaced (out b' place')
    → placed plan part lo hi b place ≡ placed plan' part' lo' hi' b' place' → (part ≡ part') × (lo ≡ lo') × (hi ≡ hi')
    × (b ≡ b') × (place ≡ place')
placed_apart plan plan' part part' lo lo' hi hi' b b' place place' range range' fine fine' same =
    let number = parted 47 (decimal b) (decimal b') _ _ (decimal_lacks b fine.0) (decimal_lacks b' fine'.0) same in
    let folder = folder_parted place place' _ _ fine.1 fine'.1
    (range_lacks part lo hi _ (branch_extension_lacks plan b))
    (range_lacks part' lo' hi' _ (branch_extension_lacks plan' b')) number.1 in
    let ranges = range_apart part part' lo lo' hi hi' _ _ range range' folder.1 in
    (ranges.0, ranges.1, ranges.2, decimal_apart b b' fine.0 fine'.0 number.0, folder.0)

-- a decimal number is no word
not_line : (b : ℕ) → b < 2 ^ 64 → decimal b ≡ codes "line" → ⊥
not_line b small same = true≢false (sym (digits_decimal own b small) ∙ ap all_ascii_digits same)

-- behind `err/` a branch's name isn't that of the file of bad lines
placed_not_line : (plan plan' : Plan) (part part' : List ℕ) (lo lo' hi hi' b : ℕ) (place : List ℕ)
    → IsPlaced (err b place)
    → placed plan part lo hi b place ≡ codes "line" ++ 47 ∷ range_name part' lo' hi' (codes "raw") → ⊥
placed_not_line plan plan' part part' lo lo' hi hi' b place fine same =
    not_line b fine.0 (parted 47 (decimal b) (codes "line") _ _ (decimal_lacks b fine.0) refl same).0

-- a front, a number, a folder and the rest
grouped : (front number folder rest : List ℕ) → ((front ++ number) ++ 47 ∷ folder) ++ rest
    ≡ front ++ (number ++ 47 ∷ (folder ++ rest))
grouped front number folder rest = simp append_assoc

out_parts : (plan : Plan) (part : List ℕ) (lo hi b : ℕ) (place : List ℕ) → target_name plan part lo hi (out b place)
    ≡ codes "out/" ++ placed plan part lo hi b place
unfolding target_name
out_parts plan part lo hi b place = grouped (codes "out/") (decimal b) place
    (range_name part lo hi (branch_extension plan b))

err_parts : (plan : Plan) (part : List ℕ) (lo hi b : ℕ) (place : List ℕ) → target_name plan part lo hi (err b place)
    ≡ codes "err/" ++ placed plan part lo hi b place
unfolding target_name
err_parts plan part lo hi b place = grouped (codes "err/") (decimal b) place
    (range_name part lo hi (branch_extension plan b))

bad_parts : (plan : Plan) (part : List ℕ) (lo hi : ℕ) → target_name plan part lo hi bad
    ≡ codes "err/" ++ (codes "line" ++ 47 ∷ range_name part lo hi (codes "raw"))
unfolding target_name
bad_parts plan part lo hi = simp append_assoc

-- what stands behind four bytes
behind : (a b c d : ℕ) (x y : List ℕ) → a ∷ b ∷ c ∷ d ∷ x ≡ a ∷ b ∷ c ∷ d ∷ y → x ≡ y
behind a b c d x y same = cc

-- the first bytes of `out/` and `err/` differ
not_both_folders : (x y : List ℕ) → codes "out/" ++ x ≡ codes "err/" ++ y → ⊥
not_both_folders x y same = let first : ◌≡◌ {A = ℕ} 111 101 = ap (λ l. get_or l 0 0) same in absurd (omega arith)

pub names_apart : NamesTellApart
names_apart plan plan' part part' lo lo' hi hi' (out b place) (out b' place') range range' fine fine' same =
    let all = placed_apart plan plan' part part' lo lo' hi hi' b b' place place' range range' fine fine'
    (behind _ _ _ _ _ _ (sym (out_parts plan part lo hi b place) ∙ same
    ∙ out_parts plan' part' lo' hi' b' place')) in
    (all.0, all.1, all.2, cc (all.3, all.4))
names_apart plan plan' part part' lo lo' hi hi' (err b place) (err b' place') range range' fine fine' same =
    let all = placed_apart plan plan' part part' lo lo' hi hi' b b' place place' range range' fine fine'
    (behind _ _ _ _ _ _ (sym (err_parts plan part lo hi b place) ∙ same
    ∙ err_parts plan' part' lo' hi' b' place')) in
    (all.0, all.1, all.2, cc (all.3, all.4))
names_apart plan plan' part part' lo lo' hi hi' (out b place) (err b' place') range range' fine fine' same =
    absurd (not_both_folders _ _ (sym (out_parts plan part lo hi b place) ∙ same
    ∙ err_parts plan' part' lo' hi' b' place'))
names_apart plan plan' part part' lo lo' hi hi' (err b place) (out b' place') range range' fine fine' same =
    absurd (not_both_folders _ _ (sym (out_parts plan' part' lo' hi' b' place') ∙ sym same
    ∙ err_parts plan part lo hi b place))
names_apart plan plan' part part' lo lo' hi hi' (out b place) bad range range' fine fine' same =
    absurd (not_both_folders _ _ (sym (out_parts plan part lo hi b place) ∙ same ∙ bad_parts plan' part' lo' hi'))
names_apart plan plan' part part' lo lo' hi hi' bad (out b' place') range range' fine fine' same =
    absurd (not_both_folders _ _ (sym (out_parts plan' part' lo' hi' b' place') ∙ sym same ∙ bad_parts plan part lo hi))
names_apart plan plan' part part' lo lo' hi hi' (err b place) bad range range' fine fine' same =
    absurd (placed_not_line plan plan' part part' lo lo' hi hi' b place fine
    (behind _ _ _ _ _ _ (sym (err_parts plan part lo hi b place) ∙ same ∙ bad_parts plan' part' lo' hi')))
names_apart plan plan' part part' lo lo' hi hi' bad (err b' place') range range' fine fine' same =
    absurd (placed_not_line plan' plan part' part lo' lo hi' hi b' place' fine'
    (behind _ _ _ _ _ _ (sym (err_parts plan' part' lo' hi' b' place') ∙ sym same ∙ bad_parts plan part lo hi)))
names_apart plan plan' part part' lo lo' hi hi' bad bad range range' fine fine' same =
    let folder = behind _ _ _ _ _ _ (sym (bad_parts plan part lo hi) ∙ same ∙ bad_parts plan' part' lo' hi') in
    let ranges = range_apart part part' lo lo' hi hi' (codes "raw") (codes "raw") range range'
    (parted 47 (codes "line") (codes "line") _ _ refl refl folder).1 in
    (ranges.0, ranges.1, ranges.2, refl)
