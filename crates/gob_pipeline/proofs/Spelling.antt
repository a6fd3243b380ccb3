-- The bytes of names.
use Rattle.std.proofs.Common.{◌≡◌, ◌≢◌, ℕ, zero, suc, ◌+◌, ◌-◌, ◌/◌, ◌%◌, ◌<◌, ◌≤◌, ◌^◌, Bool, true, false, cond, ◌&&◌}
use Rattle.std.proofs.Common.{◌||◌, nat_eq}
use Rattle.std.proofs.Common.{nat_le, List, [], ◌∷◌, ◌++◌, length, codes, refl, sym, ap, ap₂, ◌∙◌, subst, arith}
use Rattle.std.proofs.Common.{append_assoc}
use Rattle.std.proofs.Common.{append-nil, Option, Some, None}
use Rattle.std.proofs.lemmas.Bool.{cond_both, and_parts, and_from, le-leb, leb-true, agree_below_at}
use Rattle.std.proofs.lemmas.Bool.Decides.{nat_tests}
use Rattle.std.proofs.lemmas.List.Folds.{list_all-append}
use Rattle.std.proofs.lemmas.Str.{IsUtf8-from_ascii}
use Rattle.std.proofs.lemmas.Str.Ascii.{IsAscii-nil, IsAscii-cons}
use Rattle.std.proofs.lemmas.Str.Parse.{IsNumeralModel, numerals_by_value, tells_all_ascii_digits}
use Rattle.std.proofs.lemmas.Fmt.{digits_decimal}
use Rattle.std.specs.Fmt.{decimal, digit_glyph}
use Rattle.std.specs.List.{list_all, slice_get}
use Rattle.std.specs.Option.{option_map, unwrap_or}
use Rattle.std.specs.Str.{IsUtf8, IsAscii, all_ascii_digits}
use Rattle.std.specs.Str.Parse.{digits_value}
use Rattle.percent_encoding.specs.Percent.{percent_encode_byte}
use Rattle.gob_bytes.specs.Digits.{padded_digits, offset}
use Rattle.gob_bytes.specs.Escapes.{escape_of, is_plain, is_letter, is_digit}
use Rattle.gob_bytes.proofs.Forms.{own}
use Rattle.gob_plan.specs.declared.plan.Format.{Format}
use Rattle.gob_plan.specs.declared.plan.Format.TheVariants as format
use Rattle.gob_plan.specs.declared.plan.BranchSpec.{BranchSpec}
use Rattle.gob_plan.specs.declared.plan.Plan.{Plan}
use Rattle.gob_meaning.specs.Items.{Target, out, err, bad}
use Rattle.gob_meaning.specs.Laws.{is_folder}
use Rattle.gob_meaning.specs.Names.{extension, branch_extension, range_name, target_name}
use Rattle.gob_pipeline.specs.Made.{is_place, is_place_byte}
use Rattle.gob_pipeline.specs.Alphabet.{is_target_byte, is_target_name, front_of_name, end_of_name}

abbrev AreName : List ℕ → Type 0
AreName bytes = list_all is_target_byte bytes ≡ true

pub joined_name : (x y : List ℕ) → AreName x → AreName y → AreName (x ++ y)
joined_name x y a b = list_all-append is_target_byte x y ∙ and_from _ _ a b

or_rest : (a b c d : Bool) → a ≡ true → (a || b || c || d) ≡ true
or_rest a b c d h = ap (λ v. v || b || c || d) h

plain_name : (b : ℕ) → is_plain b ≡ true → is_target_byte b ≡ true
plain_name b h = or_rest (is_plain b) (nat_eq b 47) (nat_eq b 64) (nat_eq b 37) h

-- ---- digits

-- a byte below 128 is a name's byte, or isn't: told by computing
digit_name : (d : ℕ) → d < 10 → is_target_byte (48 + d) ≡ true
digit_name d small = agree_below_at (λ x. is_target_byte (48 + x)) (λ x. true) 10 d refl small

glyph_name : (d : ℕ) → d < 16 → is_target_byte (digit_glyph true d) ≡ true
glyph_name d small = agree_below_at (λ x. is_target_byte (digit_glyph true x)) (λ x. true) 16 d refl small

padded_name : (k n : ℕ) → AreName (padded_digits k n)
unfolding padded_digits
padded_name zero n = refl
padded_name (suc k) n = joined_name (padded_digits k (n / 10)) ((48 + n % 10) ∷ []) (padded_name k (n / 10))
    (and_from _ _ (digit_name (n % 10) (omega arith)) refl)

offset_name : (n : ℕ) → AreName (offset n)
unfolding offset
offset_name n = padded_name 20 n

digits_name : (ds : List ℕ) → all_ascii_digits ds ≡ true → AreName ds
digits_name [] all = refl
digits_name (b ∷ ds) all =
    let parts = and_parts _ (all_ascii_digits ds) all in
    let both = and_parts (nat_le 48 b) (nat_le b 57) parts.0 in
    let low = leb-true 48 b both.0 in
    let high = leb-true b 57 both.1 in
    and_from _ _ (digit_of b low high) (digits_name ds parts.1)
  where
    digit_of : (c : ℕ) → 48 ≤ c → c ≤ 57 → is_target_byte c ≡ true
    digit_of c low high =
        let e : 48 + (c - 48) ≡ c = omega arith in
        subst (λ d. is_target_byte d ≡ true) e (digit_name (c - 48) (omega arith))

decimal_name : (n : ℕ) → n < 2 ^ 64 → AreName (decimal n)
decimal_name n small = digits_name (decimal n) (digits_decimal own n small)

-- ---- names and places

escaped_name : (bs : List ℕ) → AreName (escape_of bs)
unfolding escape_of percent_encode_byte
escaped_name [] = refl
escaped_name (b ∷ bs) =
    cond_both (is_plain b) (b ∷ []) (percent_encode_byte b) (λ x. AreName (x ++ escape_of bs))
    (λ plain. and_from _ _ (plain_name b plain) (escaped_name bs))
    (λ _. and_from _ _ refl (and_from _ _ (glyph_name (b / 16 % 16) (omega arith))
    (and_from _ _ (glyph_name (b % 16) (omega arith)) (escaped_name bs))))

place_byte_name : (b : ℕ) → is_place_byte b ≡ true → is_target_byte b ≡ true
place_byte_name b h = cases (is_plain b) refl h
  where
    cases : (v : Bool) → is_plain b ≡ v → cond v true (nat_eq b 47) ≡ true → is_target_byte b ≡ true
    cases true plain h = plain_name b plain
    cases false other h =
        ap (λ v. v || nat_eq b 64 || nat_eq b 37) (ap₂ (λ a c. a || c) other h)

place_bytes_name : (bs : List ℕ) → list_all is_place_byte bs ≡ true → AreName bs
place_bytes_name [] h = refl
place_bytes_name (b ∷ bs) h =
    let parts = and_parts (is_place_byte b) (list_all is_place_byte bs) h in
    and_from _ _ (place_byte_name b parts.0) (place_bytes_name bs parts.1)

pub folder_name : (kind place : List ℕ) (b : ℕ) → b < 2 ^ 64 → AreName kind → is_place place ≡ true
    → AreName (kind ++ decimal b ++ 47 ∷ place)
folder_name kind place b small named placed =
    joined_name (kind ++ decimal b) (47 ∷ place) (joined_name kind (decimal b) named (decimal_name b small))
    (and_from _ _ refl (place_bytes_name place (and_parts (is_folder place) _ placed).1))

extension_name : (f : Format) → AreName (extension f)
extension_name format.Lines = refl
extension_name format.Csv = refl
extension_name format.Json = refl

branch_end_name : (o : Option BranchSpec) → AreName (unwrap_or (option_map (λ s. extension s.format) o) [])
branch_end_name None = refl
branch_end_name (Some s) = extension_name s.format

end_name : (plan : Plan) (t : Target) → AreName (end_of_name plan t)
end_name plan (out b place) = branch_end_name (slice_get plan.branches b)
end_name plan (err b place) = branch_end_name (slice_get plan.branches b)
end_name plan bad = refl

-- ---- whole names

range_ends : (part : List ℕ) (lo hi : ℕ) (e : List ℕ) → range_name part lo hi [] ++ e ≡ range_name part lo hi e
range_ends part lo hi e = append_assoc (escape_of part ++ 64 ∷ offset lo ++ 45 ∷ offset hi) (46 ∷ []) e

range_bytes_name : (part : List ℕ) (lo hi : ℕ) → AreName (range_name part lo hi [])
range_bytes_name part lo hi =
    joined_name (escape_of part ++ 64 ∷ offset lo ++ 45 ∷ offset hi) (46 ∷ [])
    (joined_name (escape_of part ++ 64 ∷ offset lo) (45 ∷ offset hi)
    (joined_name (escape_of part) (64 ∷ offset lo) (escaped_name part) (and_from _ _ refl (offset_name lo)))
    (and_from _ _ refl (offset_name hi)))
    refl

name_is : (plan : Plan) (part : List ℕ) (lo hi : ℕ) (t : Target)
    → front_of_name t ++ range_name part lo hi (end_of_name plan t) ≡ target_name plan part lo hi t
unfolding target_name
name_is plan part lo hi (out b place) = refl
name_is plan part lo hi (err b place) = refl
name_is plan part lo hi bad = refl

some_name : (xs ys : List ℕ) → AreName xs → xs ≢ [] → is_target_name xs ≡ true
some_name [] ys all some = absurd (some refl)
some_name (x ∷ xs) ys all some = all

push_some : (xs : List ℕ) (y : ℕ) (ys : List ℕ) → xs ++ y ∷ ys ≢ []
push_some [] y ys e = cc
push_some (x ∷ xs) y ys e = cc

-- a name that was put together
pub record Named (plan : Plan) (part : List ℕ) (lo hi : ℕ) (t : Target) (name : List ℕ) : Type 0 where
  pub is : name ≡ target_name plan part lo hi t
  pub bytes : AreName name
  pub spelled : is_target_name name ≡ true

pub named : (plan : Plan) (part : List ℕ) (lo hi : ℕ) (t : Target) (front name : List ℕ) → front ≡ front_of_name t
    → AreName front → name ≡ (front ++ range_name part lo hi []) ++ end_of_name plan t
    → Named plan part lo hi t name
named plan part lo hi t front name front_is front_named is =
    let e = end_of_name plan t in
    let whole = joined_name (front ++ range_name part lo hi []) e
    (joined_name front (range_name part lo hi []) front_named (range_bytes_name part lo hi)) (end_name plan t) in
    let bytes = ap (list_all is_target_byte) is ∙ whole in
    let grouped : name ≡ front ++ range_name part lo hi e =
    is ∙ append_assoc front (range_name part lo hi []) e ∙ ap (λ r. front ++ r) (range_ends part lo hi e) in
    let longer : name ≡ (front ++ (escape_of part ++ 64 ∷ offset lo ++ 45 ∷ offset hi)) ++ 46 ∷ e =
    grouped ∙ sym (append_assoc front (escape_of part ++ 64 ∷ offset lo ++ 45 ∷ offset hi) (46 ∷ e)) in
    record {
      is = grouped ∙ ap (λ f. f ++ range_name part lo hi e) front_is ∙ name_is plan part lo hi t;
      bytes = bytes;
      spelled = some_name name [] bytes (λ empty.
          push_some (front ++ (escape_of part ++ 64 ∷ offset lo ++ 45 ∷ offset hi)) 46 e (sym longer ∙ empty));
    }

-- ---- a name is a text

small_byte : (b : ℕ) → is_target_byte b ≡ true → b < 128
small_byte b h = grind (arith, nat_tests)

name_ascii : (bs : List ℕ) → AreName bs → IsAscii bs
name_ascii [] h = IsAscii-nil
name_ascii (b ∷ bs) h =
    let parts = and_parts (is_target_byte b) (list_all is_target_byte bs) h in
    IsAscii-cons b bs (small_byte b parts.0) (name_ascii bs parts.1)

pub name_text : (bs : List ℕ) → AreName bs → IsUtf8 bs
name_text bs h = IsUtf8-from_ascii bs (name_ascii bs h)
